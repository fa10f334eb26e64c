-- What stays true of a graph while a target is prepared.
use Rattle.std.proofs.Common.{◌≡◌, ◌⊎◌, inl, inr, ◌<◌, ◌≤◌, ℕ, suc, Bool, true, false, ◌==◌, List, ◌∷◌, length, reverse, Option, Some, cond, unwrap_or, not, ◌&&◌, ◌||◌, refl, sym, ap, ◌∙◌, subst, arith, true≢false, eqb-true}
use Rattle.std.proofs.lemmas.Bool.Decides.{eqb_tells}
use Rattle.psa_graph.specs.declared.graph.GraphNode.{GraphNode}
use Rattle.indexmap.specs.IndexMap.{get}
use Rattle.psa_graph.specs.Truths.{truth_at, AreChildrenFirst}
use Rattle.psa_model.specs.declared.formula.Formula.{Formula}
use Rattle.psa_model.specs.Parts.{Truth, IsSimplePart, IsPart, one, both, either, opposite}
use Rattle.psa_model.proofs.Levels.{and-left, and-right}
use Rattle.psa_prep.specs.declared.builder.Builder.{Builder}
use Rattle.psa_prep.specs.declared.builder.Known.{Known}
use Rattle.psa_prep.specs.declared.builder.Prepared.{Prepared}
use Rattle.psa_prep.specs.declared.builder.Prepared.TheVariants as prepared
use Rattle.psa_prep.specs.contracts.builder.PreparedPartialEq.TheImpl as the_impl
use Rattle.psa_prep.specs.declared.pairs.Pair.{Pair}
use Rattle.psa_prep.specs.declared.pairs.Signs.{Signs}
use Rattle.psa_prep.specs.Nodes.{nodes_of, joins, known_of, nothing_known, prepared_eq, Remembers, IsBuilt, Placed}
use Rattle.psa_prep.specs.Pairs.{Reads, swapped, swapped_pair, constant_pair}
use Rattle.psa_prep.specs.Places.{Grown}
use Rattle.psa_prep.specs.Sound.{World, state_houses, formula_truth, IsSubject, state_number, AllParts, AreParts, AllRight, IsSound, Made, JoinsPairs}
use Rattle.psa_prep.proofs.NodeLemmas.{truth-grown, built-grown}
use Rattle.psa_prep.proofs.PlaceLemmas.{grown-length, grown-self, grown-same, grown-one, grown-then}

-- what is known after an entry was written
pub entry-known : (now before : Option Known) (known : Known) (b : Bool) → now ≡ cond b (Some known) before → unwrap_or now nothing_known ≡ cond b known (unwrap_or before nothing_known)
entry-known now before known true e = ap (λ o. unwrap_or o nothing_known) e
entry-known now before known false e = ap (λ o. unwrap_or o nothing_known) e

derived-same : (a b : Prepared) → (the_impl.eq-value).it a b ≡ prepared_eq a b
derived-same (prepared.Gate id state) (prepared.Gate other number) = refl
derived-same (prepared.Gate id state) (prepared.Formula other number) = refl
derived-same (prepared.Formula id state) (prepared.Gate other number) = refl
derived-same (prepared.Formula id state) (prepared.Formula other number) = refl

-- the derived comparison of subjects
pub derived-is : (the_impl.eq-value).it ≡ prepared_eq
derived-is = λ i a b. derived-same a b i

-- what the comparison of subjects passes is equal
pub prepared-exact : (a b : Prepared) → prepared_eq a b ≡ true → a ≡ b
prepared-exact (prepared.Gate id state) (prepared.Gate other number) h =
    let p = eqb-true id other (and-left _ _ h) in let q = eqb-true state number (and-right _ _ h) in λ i. prepared.Gate (p i) (q i)
prepared-exact (prepared.Gate id state) (prepared.Formula other number) h = absurd (true≢false (sym h))
prepared-exact (prepared.Formula id state) (prepared.Gate other number) h = absurd (true≢false (sym h))
prepared-exact (prepared.Formula id state) (prepared.Formula other number) h =
    let p = eqb-true id other (and-left _ _ h) in let q = eqb-true state number (and-right _ _ h) in λ i. prepared.Formula (p i) (q i)

-- ---- parts

-- a truth that is the same as a part at each set
pub part-as : (w : World) (f g : Truth) → ((s : ℕ → Bool) → g s ≡ f s) → IsPart w.expanded w.target f → IsPart w.expanded w.target g
part-as w f g same p = record { part = p.part; is_part = p.is_part; same = λ s. same s ∙ p.same s }

-- a simple part and its opposite are parts
pub simple-parts : (w : World) (f h : Truth) → IsSimplePart w.expanded w.target f → ((s : ℕ → Bool) → h s ≡ f s) → AreParts w h
simple-parts w f h simple same = record {
  itself = record { part = f; is_part = one f simple; same = same };
  opposite = record { part = λ s. not (f s); is_part = one _ (opposite w.target f simple); same = λ s. ap not (same s) };
}

-- so are the conjunction and the disjunction of two
pub joined-parts : (w : World) (all : Bool) (f g h : Truth) → IsSimplePart w.expanded w.target f → IsSimplePart w.expanded w.target g → ((s : ℕ → Bool) → h s ≡ joins all (f s) (g s)) → AreParts w h
joined-parts w true f g h first second same = record {
  itself = record { part = λ s. f s && g s; is_part = both f g first second; same = same };
  opposite = record {
    part = λ s. not (f s) || not (g s);
    is_part = either (λ s. not (f s)) (λ s. not (g s)) (opposite w.target f first) (opposite w.target g second);
    same = λ s. ap not (same s) ∙ not-and (f s) (g s);
  };
}
  where
    not-and : (a b : Bool) → not (a && b) ≡ (not a || not b)
    not-and true b = refl
    not-and false b = refl
joined-parts w false f g h first second same = record {
  itself = record { part = λ s. f s || g s; is_part = either f g first second; same = same };
  opposite = record {
    part = λ s. not (f s) && not (g s);
    is_part = both (λ s. not (f s)) (λ s. not (g s)) (opposite w.target f first) (opposite w.target g second);
    same = λ s. ap not (same s) ∙ not-or (f s) (g s);
  };
}
  where
    not-or : (a b : Bool) → not (a || b) ≡ (not a && not b)
    not-or true b = refl
    not-or false b = refl

-- a truth that is the same at each set
pub parts-as : (w : World) (f g : Truth) → ((s : ℕ → Bool) → g s ≡ f s) → AreParts w f → AreParts w g
parts-as w f g same p = record { itself = part-as w f g same p.itself; opposite = part-as w (λ s. not (f s)) (λ s. not (g s)) (λ s. ap not (same s)) p.opposite }

-- the opposite
pub parts-opposite : (w : World) (f : Truth) → AreParts w f → AreParts w (λ s. not (f s))
parts-opposite w f p = record { itself = p.opposite; opposite = part-as w f (λ s. not (not (f s))) (λ s. twice (f s)) p.itself }
  where
    twice : (b : Bool) → not (not b) ≡ b
    twice true = refl
    twice false = refl

-- ---- pairs

-- a pair reads the same when nodes come in
pub reads-grown : (signs : Signs) (f : Truth) (before now : List GraphNode) (pair : Pair) → Grown before now → Reads signs f before pair → Reads signs f now pair
reads-grown signs f before now pair g r =
    let longer = grown-length before now g in
    let holds : pair.yes < length before = r.there.0 in
    let fails : pair.no < length before = r.there.1 in record {
      there = (omega arith, omega arith);
      as_yes = λ asked s. truth-grown before now g pair.yes holds s ∙ r.as_yes asked s;
      as_no = λ asked s. truth-grown before now g pair.no fails s ∙ r.as_no asked s;
    }

-- .. as a truth that is the same at each set
pub reads-as : (signs : Signs) (f g : Truth) (nodes : List GraphNode) (pair : Pair) → ((s : ℕ → Bool) → f s ≡ g s) → Reads signs f nodes pair → Reads signs g nodes pair
reads-as signs f g nodes pair same r = record {
  there = r.there;
  as_yes = λ asked s. r.as_yes asked s ∙ same s;
  as_no = λ asked s. r.as_no asked s ∙ ap not (same s);
}

-- .. for signs that are among those that it reads for
pub reads-fewer : (more fewer : Signs) (f : Truth) (nodes : List GraphNode) (pair : Pair) → (fewer.yes ≡ true → more.yes ≡ true) → (fewer.no ≡ true → more.no ≡ true) → Reads more f nodes pair → Reads fewer f nodes pair
reads-fewer more fewer f nodes pair in_yes in_no r = record {
  there = r.there;
  as_yes = λ asked. r.as_yes (in_yes asked);
  as_no = λ asked. r.as_no (in_no asked);
}

-- .. where it reads for both
pub reads-any : (signs : Signs) (f : Truth) (nodes : List GraphNode) (pair : Pair) → Reads (record { yes = true; no = true }) f nodes pair → Reads signs f nodes pair
reads-any signs f nodes pair r = reads-fewer (record { yes = true; no = true }) signs f nodes pair (λ asked. refl) (λ asked. refl) r

-- the pair of the opposite
pub reads-swapped : (signs : Signs) (f : Truth) (nodes : List GraphNode) (pair : Pair) → Reads (swapped signs) f nodes pair → Reads signs (λ s. not (f s)) nodes (swapped_pair pair)
reads-swapped signs f nodes pair r = record {
  there = (r.there.1, r.there.0);
  as_yes = λ asked s. r.as_no asked s;
  as_no = λ asked s. r.as_yes asked s ∙ sym (twice (f s));
}
  where
    twice : (b : Bool) → not (not b) ≡ b
    twice true = refl
    twice false = refl

-- the pair of a constant
pub reads-constant : (signs : Signs) (f : Truth) (builder : Builder) (value : Bool) → IsBuilt builder → ((s : ℕ → Bool) → f s ≡ value) → Reads signs f (nodes_of builder) (constant_pair value)
reads-constant signs f builder true built is =
    let some : 1 < length (nodes_of builder) = built.some in record {
      there = (omega arith, omega arith);
      as_yes = λ asked s. built.verity s ∙ sym (is s);
      as_no = λ asked s. built.falsity s ∙ sym (ap not (is s));
    }
reads-constant signs f builder false built is =
    let some : 1 < length (nodes_of builder) = built.some in record {
      there = (omega arith, omega arith);
      as_yes = λ asked s. built.falsity s ∙ sym (is s);
      as_no = λ asked s. built.verity s ∙ sym (ap not (is s));
    }

-- ---- soundness

right-grown : (w : World) (before now : Builder) → Grown (nodes_of before) (nodes_of now) → now.memo ≡ before.memo → AllRight w before → AllRight w now
right-grown w before now g memo right subject f is =
    let same : known_of now subject ≡ known_of before subject = known-same now before subject memo in
    subst (λ (known : Known). Reads known.signs (formula_truth w (state_houses w (state_number subject)) f) (nodes_of now) known.pair) (sym same)
    (reads-grown (known_of before subject).signs _ (nodes_of before) (nodes_of now) (known_of before subject).pair g (right subject f is))
  where
    known-same : (now before : Builder) (subject : Prepared) → now.memo ≡ before.memo → known_of now subject ≡ known_of before subject
    known-same now before subject e = ap (λ m. unwrap_or (get prepared_eq m subject) nothing_known) e

pub placed-grown : (asked : Bool) (f : Truth) (before now : Builder) (place : ℕ) → Placed asked f before now place → Grown (nodes_of before) (nodes_of now)
placed-grown asked f before now place p = elim p.adds [
  | inl same ↦ grown-same (nodes_of before) (nodes_of now) same
  | inr new ↦ grown-one (nodes_of before) (nodes_of now) new.0 new.1
]

-- a placed part
pub sound-placed : (w : World) (asked : Bool) (f : Truth) (before now : Builder) (place : ℕ) → IsSound w before → Placed asked f before now place → (asked ≡ true → IsPart w.expanded w.target f) → IsSound w now
sound-placed w asked f before now place sound p part = record {
  built = p.built;
  width = p.width ∙ sound.width;
  parts = λ q l. elim p.adds [
    | inl same ↦ subst (λ (ns : List GraphNode). AllParts w ns) (sym same) sound.parts q l
    | inr new ↦ newer q l new.0 new.1 new.2 new.3 (eqb_tells q (length (nodes_of before)))
  ];
  right = right-grown w before now (placed-grown asked f before now place p) p.memo sound.right;
  fresh = λ subject later. ap (λ m. unwrap_or (get prepared_eq m subject) nothing_known) p.memo ∙ sound.fresh subject later;
}
  where
    g : Grown (nodes_of before) (nodes_of now)
    g = placed-grown asked f before now place p

    newer : (q : ℕ) → q < length (nodes_of now) → (node : GraphNode) → nodes_of now ≡ node ∷ nodes_of before → place ≡ length (nodes_of before) → asked ≡ true → ((q == length (nodes_of before)) ≡ true) × (q ≡ length (nodes_of before)) ⊎ ((q == length (nodes_of before)) ≡ false) × (q ≡ length (nodes_of before) → ⊥) → IsPart w.expanded w.target (truth_at (nodes_of now) q)
    newer q l node is at is_asked (inl here) =
        let same : q ≡ place = here.1 ∙ sym at in
        part-as w f (truth_at (nodes_of now) q) (λ s. ap (λ r. truth_at (nodes_of now) r s) same ∙ p.reads is_asked s) (part is_asked)
    newer q l node is at is_asked (inr older) =
        let size : length (nodes_of now) ≡ suc (length (nodes_of before)) = ap length is in
        let inside : q < length (nodes_of before) = below q (length (nodes_of before)) (length (nodes_of now)) l size older.1 in
        part-as w (truth_at (nodes_of before) q) (truth_at (nodes_of now) q) (λ s. truth-grown (nodes_of before) (nodes_of now) g q inside s) (sound.parts q inside)
      where
        below : (a b c : ℕ) → a < c → c ≡ suc b → (a ≡ b → ⊥) → a < b
        below a b c l e n = omega arith

-- something was remembered
pub sound-remembered : (w : World) (subject : Prepared) (known : Known) (before now : Builder) → IsSound w before → Remembers subject known before now → state_number subject ≤ length w.changes → ((f : Formula) → IsSubject w subject f → Reads known.signs (formula_truth w (state_houses w (state_number subject)) f) (nodes_of before) known.pair) → IsSound w now
sound-remembered w subject known before now sound r within right = record {
  built = built-grown before now (grown-same (nodes_of before) (nodes_of now) same) first sound.built;
  width = r.width ∙ sound.width;
  parts = subst (λ (ns : List GraphNode). AllParts w ns) (sym same) sound.parts;
  right = λ other f is. subst (λ (ns : List GraphNode). Reads (known_of now other).signs (formula_truth w (state_houses w (state_number other)) f) ns (known_of now other).pair) (sym same) (by other f is (prepared_eq subject other) refl (r.entries other));
  fresh = λ other later. fresher other later (prepared_eq subject other) refl (r.entries other);
}
  where
    same : nodes_of now ≡ nodes_of before
    same = ap (λ ns. reverse ns.keys) r.nodes

    first : AreChildrenFirst now.width (nodes_of now)
    first = subst (λ (ns : List GraphNode). AreChildrenFirst now.width ns) (sym same) (subst (λ (width : ℕ). AreChildrenFirst width (nodes_of before)) (sym r.width) sound.built.first)

    by : (other : Prepared) (f : Formula) → IsSubject w other f → (b : Bool) → prepared_eq subject other ≡ b → known_of now other ≡ cond b known (known_of before other) → Reads (known_of now other).signs (formula_truth w (state_houses w (state_number other)) f) (nodes_of before) (known_of now other).pair
    by other f is true e entry =
        subst (λ (k : Known). Reads k.signs (formula_truth w (state_houses w (state_number other)) f) (nodes_of before) k.pair) (sym entry)
        (subst (λ (o : Prepared). IsSubject w o f → Reads known.signs (formula_truth w (state_houses w (state_number o)) f) (nodes_of before) known.pair) (prepared-exact subject other e) (right f) is)
    by other f is false e entry =
        subst (λ (k : Known). Reads k.signs (formula_truth w (state_houses w (state_number other)) f) (nodes_of before) k.pair) (sym entry) (sound.right other f is)

    fresher : (other : Prepared) → length w.changes < state_number other → (b : Bool) → prepared_eq subject other ≡ b → known_of now other ≡ cond b known (known_of before other) → known_of now other ≡ nothing_known
    fresher other later true e entry =
        let number : state_number subject ≡ state_number other = ap state_number (prepared-exact subject other e) in absurd (omega arith)
    fresher other later false e entry = entry ∙ sound.fresh other later

-- ---- what is made

-- a truth that stands already
pub made-there : (w : World) (signs : Signs) (f : Truth) (builder : Builder) (pair : Pair) → IsSound w builder → Reads signs f (nodes_of builder) pair → Made w signs f builder builder pair
made-there w signs f builder pair sound reads = record { reads = reads; grown = grown-self (nodes_of builder); sound = sound }

pub made-constant : (w : World) (signs : Signs) (f : Truth) (builder : Builder) (value : Bool) → IsSound w builder → ((s : ℕ → Bool) → f s ≡ value) → Made w signs f builder builder (constant_pair value)
made-constant w signs f builder value sound is = made-there w signs f builder (constant_pair value) sound (reads-constant signs f builder value sound.built is)

-- after more was made
pub made-then : (w : World) (signs : Signs) (f : Truth) (before now next : Builder) (pair : Pair) → Grown (nodes_of before) (nodes_of now) → Made w signs f now next pair → Made w signs f before next pair
made-then w signs f before now next pair g m = record { reads = m.reads; grown = grown-then (nodes_of before) (nodes_of now) (nodes_of next) g m.grown; sound = m.sound }

pub made-as : (w : World) (signs : Signs) (f g : Truth) (before now : Builder) (pair : Pair) → ((s : ℕ → Bool) → f s ≡ g s) → Made w signs f before now pair → Made w signs g before now pair
made-as w signs f g before now pair same m = record { reads = reads-as signs f g (nodes_of now) pair same m.reads; grown = m.grown; sound = m.sound }

pub made-swapped : (w : World) (signs : Signs) (f : Truth) (before now : Builder) (pair : Pair) → Made w (swapped signs) f before now pair → Made w signs (λ s. not (f s)) before now (swapped_pair pair)
made-swapped w signs f before now pair m = record { reads = reads-swapped signs f (nodes_of now) pair m.reads; grown = m.grown; sound = m.sound }

not-joins : (all a b : Bool) → joins (not all) (not a) (not b) ≡ not (joins all a b)
not-joins true true b = refl
not-joins true false b = refl
not-joins false true b = refl
not-joins false false b = refl

joins-same : (all a b c d : Bool) → a ≡ c → b ≡ d → joins all a b ≡ joins all c d
joins-same all a b c d p q = λ i. joins all (p i) (q i)

-- two placed nodes make a pair
pub pair-joined : (signs : Signs) (all : Bool) (left right : Pair) (before mid now : Builder) (holds fails : ℕ) → Placed signs.yes (λ s. joins all (truth_at (nodes_of before) left.yes s) (truth_at (nodes_of before) right.yes s)) before mid holds → Placed signs.no (λ s. joins (not all) (truth_at (nodes_of mid) left.no s) (truth_at (nodes_of mid) right.no s)) mid now fails → JoinsPairs signs all left right before now (record { yes = holds; no = fails })
pair-joined signs all left right before mid now holds fails first second w f g h sound reads_left reads_right is parts =
    let g1 = placed-grown _ _ before mid holds first in
    let g2 = placed-grown _ _ mid now fails second in
    let longer = grown-length (nodes_of mid) (nodes_of now) g2 in
    let holds_there : holds < length (nodes_of mid) = first.there in
    let left_mid = reads-grown signs f (nodes_of before) (nodes_of mid) left g1 reads_left in
    let right_mid = reads-grown signs g (nodes_of before) (nodes_of mid) right g1 reads_right in
    let is_yes = λ (asked : signs.yes ≡ true) (s : ℕ → Bool). joins-same all _ _ _ _ (reads_left.as_yes asked s) (reads_right.as_yes asked s) ∙ sym (is s) in
    let is_no = λ (asked : signs.no ≡ true) (s : ℕ → Bool). joins-same (not all) _ _ _ _ (left_mid.as_no asked s) (right_mid.as_no asked s) ∙ not-joins all (f s) (g s) ∙ sym (ap not (is s)) in
    let sound_mid = sound-placed w signs.yes _ before mid holds sound first (λ asked. part-as w h _ (is_yes asked) parts.itself) in record {
      reads = record {
        there = (omega arith, second.there);
        as_yes = λ asked s. truth-grown (nodes_of mid) (nodes_of now) g2 holds holds_there s ∙ first.reads asked s ∙ is_yes asked s;
        as_no = λ asked s. second.reads asked s ∙ is_no asked s;
      };
      grown = grown-then (nodes_of before) (nodes_of mid) (nodes_of now) g1 g2;
      sound = sound-placed w signs.no _ mid now fails sound_mid second (λ asked. part-as w (λ s. not (h s)) _ (is_no asked) parts.opposite);
    }
