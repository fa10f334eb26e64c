-- The nodes of basic events and of their expanded events.
use Rattle.std.proofs.Common.{inl, inr, ◌≡◌, ◌<◌, ◌≤◌, ◌+◌, ◌-◌, ℕ, suc, Bool, true, false, List, [], ◌∷◌, Some, None, cond, length, take, drop, get_or, not, ◌&&◌, refl, sym, ap, ◌∙◌, arith}
use Rattle.std.proofs.lemmas.Bool.Decides.{eqb_tells}
use Rattle.std.proofs.lemmas.List.{drop_all, take_rest}
use Rattle.std.specs.List.{list_any}
use Rattle.psa_graph.specs.Truths.{literal_truth}
use Rattle.psa_logic.specs.Products.{literal_number, holds_at, is_positive, rank_of}
use Rattle.psa_logic.proofs.LiteralLemmas.{rank-literal, positive-literal}
use Rattle.psa_model.specs.declared.formula.Formula.TheVariants as variant
use Rattle.psa_model.specs.declared.ids.EventId.{EventId}
use Rattle.psa_model.specs.declared.ids.EventNumber.{EventNumber}
use Rattle.psa_model.specs.Events.{events_of}
use Rattle.psa_model.specs.Parts.{Meets, IsPart, between, literal, some_event, one}
use Rattle.psa_model.specs.Ranks.{ranks_of}
use Rattle.psa_model.specs.Targets.{occurs_by_rank}
use Rattle.psa_prep.specs.declared.builder.Builder.{Builder}
use Rattle.psa_prep.specs.declared.pairs.Pair.{Pair}
use Rattle.psa_prep.specs.declared.pairs.Signs.{Signs}
use Rattle.psa_prep.specs.Lowering.{rank_at}
use Rattle.psa_prep.specs.Nodes.{nodes_of, Placed}
use Rattle.psa_prep.specs.Pairs.{constant_pair}
use Rattle.psa_prep.specs.Sound.{World, formula_truth, AreParts, IsSound, Made, JoinsPairs}
use Rattle.psa_prep.proofs.FormulaLemmas.{over-basic}
use Rattle.psa_prep.proofs.ListLemmas.{drop-next}
use Rattle.psa_prep.proofs.NodeLemmas.{truth-grown}
use Rattle.psa_prep.proofs.PlaceLemmas.{grown-length, grown-then}
use Rattle.psa_prep.proofs.SoundLemmas.{sound-placed, placed-grown, simple-parts, made-constant, made-then, made-as, reads-grown}

-- a rank is one of the list
pub rank-below : (event from rank : ℕ) (ranks : List EventNumber) → rank_at event from ranks ≡ Some rank → rank < from + length ranks
rank-below event from rank [] e = absurd (cc)
rank-below event from rank (x ∷ xs) e = elim (eqb_tells x.0 event) [
  | inl p ↦ let is : Some from ≡ Some rank = rw p.0 at e in let same : from ≡ rank = cc in omega arith
  | inr p ↦ let later = rank-below event (suc from) rank xs (rw p.0 at e) in omega arith
]

-- an event with a rank occurs where the rank does, and one without a rank never
pub rank-occurs : (s : ℕ → Bool) (event from rank : ℕ) (ranks : List EventNumber) → rank_at event from ranks ≡ Some rank → occurs_by_rank s from ranks event ≡ s rank
rank-occurs s event from rank [] e = absurd (cc)
rank-occurs s event from rank (x ∷ xs) e = elim (eqb_tells x.0 event) [
  | inl p ↦ let is : Some from ≡ Some rank = rw p.0 at e in let same : from ≡ rank = cc in rw p.0 (ap s same)
  | inr p ↦ rw p.0 (rank-occurs s event (suc from) rank xs (rw p.0 at e))
]

pub rank-missing : (s : ℕ → Bool) (event from : ℕ) (ranks : List EventNumber) → rank_at event from ranks ≡ None → occurs_by_rank s from ranks event ≡ false
rank-missing s event from [] e = refl
rank-missing s event from (x ∷ xs) e = elim (eqb_tells x.0 event) [
  | inl p ↦ let is : Some from ≡ None = rw p.0 at e in absurd (cc)
  | inr p ↦ rw p.0 (rank-missing s event (suc from) xs (rw p.0 at e))
]

literal-holds : (s : ℕ → Bool) (rank : ℕ) (occurring : Bool) → literal_truth rank occurring s ≡ holds_at s (literal_number rank occurring ∷ [])
literal-holds s rank occurring = sym (whole (literal_number rank occurring) (rank-literal rank occurring) (positive-literal rank occurring))
  where
    end : (b : Bool) → (b && true) ≡ b
    end true = refl
    end false = refl

    whole : (x : ℕ) → rank_of x ≡ rank → is_positive x ≡ occurring → holds_at s (x ∷ []) ≡ literal_truth rank occurring s
    whole x r p = end (cond (is_positive x) (s (rank_of x)) (not (s (rank_of x)))) ∙ (λ i. cond (p i) (s (r i)) (not (s (r i))))

-- a literal and its opposite are parts
pub literal-part : (w : World) (rank : ℕ) (occurring : Bool) → rank < length (ranks_of w.expanded w.target) → IsPart w.expanded w.target (literal_truth rank occurring)
literal-part w rank occurring l = record {
  part = λ s. holds_at s (literal_number rank occurring ∷ []);
  is_part = one _ (literal w.target rank occurring l);
  same = λ s. literal-holds s rank occurring;
}

-- an event with a rank, by the literals that were placed
pub event-literal : (w : World) (signs : Signs) (event rank : ℕ) (before mid now : Builder) (holds fails : ℕ) → IsSound w before → rank_at event 0 (ranks_of w.expanded w.target) ≡ Some rank → Placed signs.yes (literal_truth rank true) before mid holds → Placed signs.no (literal_truth rank false) mid now fails → Made w signs (λ s. occurs_by_rank s 0 (ranks_of w.expanded w.target) event) before now (record { yes = holds; no = fails })
event-literal w signs event rank before mid now holds fails sound at first second =
    let below : rank < length (ranks_of w.expanded w.target) = let l = rank-below event 0 rank (ranks_of w.expanded w.target) at in omega arith in
    let g1 = placed-grown _ _ before mid holds first in
    let g2 = placed-grown _ _ mid now fails second in
    let longer = grown-length (nodes_of mid) (nodes_of now) g2 in
    let there : holds < length (nodes_of mid) = first.there in
    let sound_mid = sound-placed w signs.yes _ before mid holds sound first (λ asked. literal-part w rank true below) in record {
      reads = record {
        there = (omega arith, second.there);
        as_yes = λ asked s. truth-grown (nodes_of mid) (nodes_of now) g2 holds there s ∙ first.reads asked s ∙ sym (rank-occurs s event 0 rank (ranks_of w.expanded w.target) at);
        as_no = λ asked s. second.reads asked s ∙ ap not (sym (rank-occurs s event 0 rank (ranks_of w.expanded w.target) at));
      };
      grown = grown-then (nodes_of before) (nodes_of mid) (nodes_of now) g1 g2;
      sound = sound-placed w signs.no _ mid now fails sound_mid second (λ asked. literal-part w rank false below);
    }

-- one without a rank
pub event-missing : (w : World) (signs : Signs) (event : ℕ) (builder : Builder) → IsSound w builder → rank_at event 0 (ranks_of w.expanded w.target) ≡ None → Made w signs (λ s. occurs_by_rank s 0 (ranks_of w.expanded w.target) event) builder builder (constant_pair false)
event-missing w signs event builder sound missing =
    made-constant w signs _ builder false sound (λ s. rank-missing s event 0 (ranks_of w.expanded w.target) missing)

-- some of the events from a place on
abbrev pub some_of : World → List ℕ → ℕ → (ℕ → Bool) → Bool
some_of w events i s = list_any (occurs_by_rank s 0 (ranks_of w.expanded w.target)) (drop i events)

pub between-take : {A : Type 0} (i : ℕ) (xs : List A) → between 0 i xs ≡ take i xs
between-take i xs = let none : i - 0 ≡ i = omega arith in ap (λ n. take n xs) none

pub between-drop : {A : Type 0} (i : ℕ) (xs : List A) → between i (length xs) xs ≡ drop i xs
between-drop i xs = take_rest xs i

some-parts : (w : World) (houses : List Bool) (id : EventId) (events : List ℕ) (i : ℕ) → Meets w.expanded w.target houses (variant.Basic id) → events ≡ events_of w.expanded id.0 → AreParts w (some_of w events i)
some-parts w houses id events i meets are =
    simple-parts w _ (some_of w events i) (some_event w.target houses id i (length (events_of w.expanded id.0)) meets)
    (λ s. ap (λ es. list_any (occurs_by_rank s 0 (ranks_of w.expanded w.target)) es) (ap (drop i) are ∙ sym (between-drop i (events_of w.expanded id.0))))

-- no event yet
pub some-start : (w : World) (signs : Signs) (events : List ℕ) (i : ℕ) (builder : Builder) → length events ≤ i → IsSound w builder → Made w signs (some_of w events i) builder builder (constant_pair false)
some-start w signs events i builder past sound = made-constant w signs _ builder false sound (λ s. ap (list_any (occurs_by_rank s 0 (ranks_of w.expanded w.target))) (drop_all i events past))

-- one event more
pub some-more : (w : World) (houses : List Bool) (signs : Signs) (id : EventId) (events : List ℕ) (i event : ℕ) (start before mid now : Builder) (pair single result : Pair) → Meets w.expanded w.target houses (variant.Basic id) → events ≡ events_of w.expanded id.0 → i < length events → event ≡ get_or events i event → Made w signs (some_of w events (i + 1)) start before pair → Made w signs (λ s. occurs_by_rank s 0 (ranks_of w.expanded w.target) event) before mid single → JoinsPairs signs false single pair mid now result → Made w signs (some_of w events i) start now result
some-more w houses signs id events i event start before mid now pair single result meets are inside is so_far made joins_them =
    made-then w signs _ start mid now result (grown-then (nodes_of start) (nodes_of before) (nodes_of mid) so_far.grown made.grown)
    (joins_them w (λ s. occurs_by_rank s 0 (ranks_of w.expanded w.target) event) (some_of w events (i + 1)) (some_of w events i) made.sound made.reads
    (reads-grown signs _ (nodes_of before) (nodes_of mid) pair made.grown so_far.reads)
    (λ s. ap (list_any (occurs_by_rank s 0 (ranks_of w.expanded w.target))) (drop-next events i event inside is))
    (some-parts w houses id events i meets are))

-- all events
pub some-end : (w : World) (houses : List Bool) (signs : Signs) (id : EventId) (events : List ℕ) (start now : Builder) (pair : Pair) → events ≡ events_of w.expanded id.0 → Made w signs (some_of w events 0) start now pair → Made w signs (formula_truth w houses (variant.Basic id)) start now pair
some-end w houses signs id events start now pair are made =
    made-as w signs _ _ start now pair
    (λ s. ap (list_any (occurs_by_rank s 0 (ranks_of w.expanded w.target))) are ∙ sym (over-basic w houses id s)) made
