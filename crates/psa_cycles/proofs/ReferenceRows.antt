-- The rows of the graph, by what was found of each reference.
use Rattle.std.proofs.Common.{◌≡◌, ◌≤◌, ◌<◌, ◌+◌, ◌-◌, ℕ, List, [], ◌∷◌, ◌++◌, length, get_or, take, drop, map, Option, Some, None, refl, sym, ap, ◌∙◌, inl, inr, arith}
use Rattle.std.proofs.lemmas.Bool.{cases_Bool}
use Rattle.std.proofs.lemmas.List.{get_or_default, length-append, length-map, length-drop, map_more, take_more, take_at, drop_at, drop_more, take-append-drop, take-map, drop-map}
use Rattle.std.proofs.lemmas.List.Concat.{flat_map-append}
use Rattle.std.specs.Prelude.{flat_map, filter_map, if◌then◌else◌}
use Rattle.std.specs.Option.{option_and_then, option_map}
use Rattle.std.specs.List.{slice_get}
use Rattle.psa_chains.specs.declared.reference.Reference.{Reference as Step}
use Rattle.psa_model.specs.PathNames.{is_path}
use Rattle.psa_model.specs.declared.draft.DraftReference.{DraftReference}
use Rattle.psa_model.specs.declared.draft.EventKind.TheVariants as asked
use Rattle.psa_names.specs.declared.found.Sense.{Sense}
use Rattle.psa_names.specs.declared.found.Sense.TheVariants.{Definition, OfGroup}
use Rattle.psa_names.specs.Outlines.{event, Reference, Outline, Outlines, element, none, and, joined, Entry, Entries}
use Rattle.psa_names.specs.Meanings.{Meaning, of_group, members_of, meaning_of}
use Rattle.psa_names.specs.Chains.{own_reference, references_in, references_in_all, references_of, chained_place, followed}
use Rattle.psa_names.specs.Found.{defined_by_groups, meaning_of_sense, reference_meanings}
use Rattle.psa_cycles.specs.Levels.{own_level, levels_in, levels_in_all, members_of_paths, elements_of}
use Rattle.psa_cycles.specs.Graphs.{target_of, steps}

-- ---- as many levels as references

length-own : (level : ℕ) (reference : Option Reference) → length (own_level level reference) ≡ length (own_reference reference)
length-own level None = refl
length-own level (Some r) = refl

mutual
  -- each reference in an element has its level
  pub length-levels : (a : ℕ) (one : Outline) → length (levels_in a one) ≡ length (references_in one)
  length-levels a (element reference inside) =
      let own = length-own (a + 1) reference in
      let rest = length-levels-all (a + 1) inside in
      omega (arith, length-append (own_level (a + 1) reference) (levels_in_all (a + 1) inside), length-append (own_reference reference) (references_in_all inside))

  -- each reference in some elements has its level
  pub length-levels-all : (a : ℕ) (all : Outlines) → length (levels_in_all a all) ≡ length (references_in_all all)
  length-levels-all a none = refl
  length-levels-all a (and one others) =
      let own = length-levels a one in
      let rest = length-levels-all a others in
      omega (arith, length-append (levels_in a one) (levels_in_all a others), length-append (references_in one) (references_in_all others))

references-joined : (os : List Outline) → references_in_all (joined os) ≡ flat_map references_in os
references-joined [] = refl
references-joined (o ∷ os) = ap (λ rs. references_in o ++ rs) (references-joined os)

abbrev basic : DraftReference → Reference
basic member = record { kind = event asked.Basic; written = member }

references-members : (members : List DraftReference) → flat_map references_in (members_of_paths members) ≡ filter_map (λ member. if is_path member.name then Some (basic member) else None) members
references-members [] = refl
references-members (member ∷ members) =
    elim (cases_Bool (is_path member.name)) [
      | inl is_so ↦ rw is_so (ap (λ rs. basic member ∷ rs) (references-members members))
      | inr is_not ↦ rw is_not (references-members members)
    ]

-- the references of a definition are those of its elements
pub references-elements : (one : Entry) → references_in_all (joined (elements_of one)) ≡ references_of one
references-elements one =
    references-joined (elements_of one)
    ∙ flat_map-append references_in (members_of_paths (members_of one.body)) one.outlines
    ∙ ap (λ rs. rs ++ flat_map references_in one.outlines) (references-members (members_of one.body))

abbrev pub levels_of : Entry → List ℕ
levels_of one = levels_in_all 0 (joined (elements_of one))

-- each reference of a definition has its level
pub length-levels-of : (one : Entry) → length (levels_of one) ≡ length (references_of one)
length-levels-of one = length-levels-all 0 (joined (elements_of one)) ∙ ap length (references-elements one)

-- ---- what stands for a definition's references in one list for all

same-lengths : {X A B : Type 0} (f : X → List A) (g : X → List B) (xs : List X) → ((x : X) → length (f x) ≡ length (g x)) → length (flat_map f xs) ≡ length (flat_map g xs)
same-lengths f g [] same = refl
same-lengths f g (x ∷ xs) same =
    let here = same x in
    let rest = same-lengths f g xs same in
    omega (arith, length-append (f x) (flat_map f xs), length-append (g x) (flat_map g xs))

-- the piece of one element
piece : {X A : Type 0} (f : X → List A) (xs : List X) (i : ℕ) (x : X) → i < length xs → x ≡ get_or xs i x → take (length (f x)) (drop (length (flat_map f (take i xs))) (flat_map f xs)) ≡ f x
piece f xs i x low is =
    let split : flat_map f xs ≡ flat_map f (take i xs) ++ (f x ++ flat_map f (drop (i + 1) xs)) =
    ap (flat_map f) (sym (take-append-drop i xs) ∙ ap (λ ys. take i xs ++ ys) (drop_more xs i x low ∙ ap (λ y. y ∷ drop (i + 1) xs) (sym is)))
    ∙ flat_map-append f (take i xs) (x ∷ drop (i + 1) xs) in
    ap (λ ys. take (length (f x)) (drop (length (flat_map f (take i xs))) ys)) split
    ∙ ap (take (length (f x))) (drop_at (flat_map f (take i xs)) (f x ++ flat_map f (drop (i + 1) xs)) (length (flat_map f (take i xs))) refl)
    ∙ take_at (f x) (flat_map f (drop (i + 1) xs)) (length (f x)) refl

-- where a sense leads on to is where its meaning does
target-meaning : (entries : Entries) (sense : Sense) → target_of entries sense ≡ option_and_then (chained_place entries) (meaning_of_sense entries sense)
target-meaning entries (Definition place) = refl
target-meaning entries (OfGroup number) = group-leads (slice_get (defined_by_groups entries) number)
  where
    group-leads : (found : Option (List ℕ)) → None ≡ option_and_then (chained_place entries) (option_map of_group found)
    group-leads None = refl
    group-leads (Some name) = refl

same-map : {X Y : Type 0} (f g : X → Y) (xs : List X) → ((x : X) → f x ≡ g x) → map f xs ≡ map g xs
same-map f g [] same = refl
same-map f g (x ∷ xs) same = let here = same x in let rest = same-map f g xs same in cc

map-twice : {X Y Z : Type 0} (g : Y → Z) (f : X → Y) (xs : List X) → map g (map f xs) ≡ map (λ x. g (f x)) xs
map-twice g f [] = refl
map-twice g f (x ∷ xs) = ap (λ ys. g (f x) ∷ ys) (map-twice g f xs)

abbrev meanings : Entries → Entry → List (Option Meaning)
meanings entries one = map (meaning_of entries one) (references_of one)

length-meanings : (entries : Entries) (one : Entry) → length (levels_of one) ≡ length (meanings entries one)
length-meanings entries one = length-levels-of one ∙ sym (length-map (references_of one) (meaning_of entries one))

-- the senses of one definition's references, between the references before it and those behind it
pub own-targets : (entries : Entries) (senses : List Sense) (i : ℕ) (one : Entry) (first last : ℕ) → map (meaning_of_sense entries) senses ≡ reference_meanings entries → i < length entries → one ≡ get_or entries i one → first ≡ length (flat_map levels_of (take i entries)) → last ≡ first + length (levels_of one) → map (target_of entries) (take (last - first) (drop first senses)) ≡ map (followed entries one) (references_of one)
own-targets entries senses i one first last found low is from upto =
    let size : last - first ≡ length (meanings entries one) = omega (arith, length-meanings entries one) in
    let start : first ≡ length (flat_map (meanings entries) (take i entries)) = from ∙ same-lengths levels_of (meanings entries) (take i entries) (length-meanings entries) in
    let slice : map (meaning_of_sense entries) (take (last - first) (drop first senses)) ≡ meanings entries one =
    sym (take-map (meaning_of_sense entries) (last - first) (drop first senses))
    ∙ ap (take (last - first)) (sym (drop-map (meaning_of_sense entries) first senses))
    ∙ ap (λ ms. take (last - first) (drop first ms)) found
    ∙ ap (λ n. take n (drop first (reference_meanings entries))) size
    ∙ ap (λ n. take (length (meanings entries one)) (drop n (reference_meanings entries))) start
    ∙ piece (meanings entries) entries i one low is in
    same-map (target_of entries) (λ s. option_and_then (chained_place entries) (meaning_of_sense entries s)) (take (last - first) (drop first senses)) (target-meaning entries)
    ∙ sym (map-twice (option_and_then (chained_place entries)) (meaning_of_sense entries) (take (last - first) (drop first senses)))
    ∙ ap (map (option_and_then (chained_place entries))) slice
    ∙ map-twice (option_and_then (chained_place entries)) (meaning_of entries one) (references_of one)

-- so many senses stand behind those before
pub senses-enough : (entries : Entries) (senses : List Sense) (i : ℕ) (one : Entry) (first last : ℕ) → map (meaning_of_sense entries) senses ≡ reference_meanings entries → i < length entries → one ≡ get_or entries i one → first ≡ length (flat_map levels_of (take i entries)) → last ≡ first + length (levels_of one) → last ≤ length senses
senses-enough entries senses i one first last found low is from upto =
    let all : length senses ≡ length (flat_map levels_of entries) =
    sym (length-map senses (meaning_of_sense entries)) ∙ ap length found ∙ sym (same-lengths levels_of (meanings entries) entries (length-meanings entries)) in
    let split : flat_map levels_of entries ≡ flat_map levels_of (take i entries) ++ (levels_of one ++ flat_map levels_of (drop (i + 1) entries)) =
    ap (flat_map levels_of) (sym (take-append-drop i entries) ∙ ap (λ ys. take i entries ++ ys) (drop_more entries i one low ∙ ap (λ y. y ∷ drop (i + 1) entries) (sym is)))
    ∙ flat_map-append levels_of (take i entries) (one ∷ drop (i + 1) entries) in
    let size = ap length split in
    omega (arith, length-append (flat_map levels_of (take i entries)) (levels_of one ++ flat_map levels_of (drop (i + 1) entries)), length-append (levels_of one) (flat_map levels_of (drop (i + 1) entries)))

-- ---- steps

-- the steps of some references and then of others
pub steps-append : (ls ms : List ℕ) (ts us : List (Option ℕ)) → length ls ≡ length ts → steps (ls ++ ms) (ts ++ us) ≡ steps ls ts ++ steps ms us
steps-append [] ms [] us same = refl
steps-append [] ms (t ∷ ts) us same = absurd (omega arith)
steps-append (l ∷ ls) ms [] us same = absurd (omega arith)
steps-append (l ∷ ls) ms (None ∷ ts) us same = steps-append ls ms ts us (omega arith)
steps-append (l ∷ ls) ms (Some t ∷ ts) us same = ap (λ rs. record { level = l; target = t } ∷ rs) (steps-append ls ms ts us (omega arith))

-- the steps up to one reference, and that one
pub steps-more : (f : Sense → Option ℕ) (levels : List ℕ) (senses : List Sense) (i : ℕ) (sense : Sense) → length levels ≡ length senses → i < length senses → sense ≡ get_or senses i sense → steps (take (i + 1) levels) (map f (take (i + 1) senses)) ≡ steps (take i levels) (map f (take i senses)) ++ steps (get_or levels i 0 ∷ []) (f sense ∷ [])
steps-more f levels senses i sense same low is =
    let heads : length (take i levels) ≡ length (map f (take i senses)) = lengths in
    ap (λ ls. steps ls (map f (take (i + 1) senses))) (take_more levels i 0 (omega arith))
    ∙ ap (λ ts. steps (take i levels ++ get_or levels i 0 ∷ []) ts) (map_more f senses i sense low ∙ ap (λ s. map f (take i senses) ++ f s ∷ []) (sym is))
    ∙ steps-append (take i levels) (get_or levels i 0 ∷ []) (map f (take i senses)) (f sense ∷ []) heads
  where
    lengths : length (take i levels) ≡ length (map f (take i senses))
    lengths = omega (arith, length-map (take i senses) f, taken levels, taken senses)
      where
        taken : {X : Type 0} (xs : List X) → length (take i xs) + (length xs - i) ≡ length xs
        taken xs = omega (arith, ap length (take-append-drop i xs), length-append (take i xs) (drop i xs), length-drop i xs)

-- a reference is added to the steps before it
pub steps-pushed : (f : Sense → Option ℕ) (levels : List ℕ) (senses : List Sense) (i : ℕ) (sense d : Sense) (row new : List Step) → length levels ≡ length senses → i < length senses → sense ≡ get_or senses i d → row ≡ steps (take i levels) (map f (take i senses)) → new ≡ row ++ steps (get_or levels i 0 ∷ []) (f sense ∷ []) → new ≡ steps (take (i + 1) levels) (map f (take (i + 1) senses))
steps-pushed f levels senses i sense d row new same low is so_far pushed =
    pushed ∙ ap (λ r. r ++ steps (get_or levels i 0 ∷ []) (f sense ∷ [])) so_far
    ∙ sym (steps-more f levels senses i sense same low (is ∙ get_or_default senses i d sense low))
