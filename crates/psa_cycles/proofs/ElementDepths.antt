-- The depths of the graph are the depths of elements in the draft.
use Rattle.std.proofs.Common.{◌≡◌, ◌<◌, ◌+◌, ℕ, zero, suc, max, nat_le, Bool, true, false, List, [], ◌∷◌, ◌++◌, length, get_or, map, Option, Some, None, ◌&&◌, refl, sym, ap, ◌∙◌, inl, inr, arith}
use Rattle.std.proofs.lemmas.Bool.{cases_lt, le-leb, lt-leb}
use Rattle.std.proofs.lemmas.List.{map-append, length-map, get_or-map}
use Rattle.std.proofs.lemmas.Option.{slice_get_within, get_or_from_slice_get}
use Rattle.std.specs.Prelude.{slice_get}
use Rattle.std.specs.List.{list_all}
use Rattle.std.specs.Option.{option_map_or, option_and_then}
use Rattle.psa_chains.specs.declared.reference.Reference.{Reference as Step}
use Rattle.psa_chains.specs.Chains.{row}
use Rattle.psa_chains.specs.Depths.{deepest, AreDepths}
use Rattle.psa_names.specs.Outlines.{Reference, Outline, Outlines, element, none, and, joined, Entry, Entries}
use Rattle.psa_names.specs.Chains.{own_reference, references_in, references_in_all, is_chained, followed, all_pass, passes_on, is_within, is_within_all}
use Rattle.psa_cycles.specs.Levels.{own_level, levels_in, levels_in_all, deepest_in, deepest_in_all, elements_of}
use Rattle.psa_cycles.specs.Graphs.{steps, row_by, graph_by, nesting_by, nested_by}
use Rattle.psa_cycles.proofs.ReferenceRows.{levels_of, references-elements, steps-append}
use Rattle.psa_cycles.proofs.ReferenceRows as rows
use Rattle.psa_cycles.proofs.SameChains.{row-some, followed-stands}

-- ---- the depth of an element, by the depths of definitions

abbrev reached : List ℕ → Option ℕ → ℕ
reached depths None = 0
reached depths (Some place) = get_or depths place 0

abbrev mutual
  height : List ℕ → Entries → Entry → Outline → ℕ
  height depths entries from (element reference inside) =
      suc (max (heights depths entries from inside) (reached depths (option_and_then (followed entries from) reference)))

  heights : List ℕ → Entries → Entry → Outlines → ℕ
  heights depths entries from none = 0
  heights depths entries from (and one others) = max (height depths entries from one) (heights depths entries from others)

deepest-append : (depths : List ℕ) (rs qs : List Step) → deepest depths (rs ++ qs) ≡ max (deepest depths rs) (deepest depths qs)
deepest-append depths [] qs = omega arith
deepest-append depths (r ∷ rs) qs = let rest = deepest-append depths rs qs in omega arith

-- the steps of some elements
abbrev steps_in_all : Entries → Entry → ℕ → Outlines → List Step
steps_in_all entries from a all = steps (levels_in_all a all) (map (followed entries from) (references_in_all all))

abbrev steps_in : Entries → Entry → ℕ → Outline → List Step
steps_in entries from a one = steps (levels_in a one) (map (followed entries from) (references_in one))

abbrev own_steps : Entries → Entry → ℕ → Option Reference → List Step
own_steps entries from level reference = steps (own_level level reference) (map (followed entries from) (own_reference reference))

own-length : (f : Reference → Option ℕ) (level : ℕ) (reference : Option Reference) → length (own_level level reference) ≡ length (map f (own_reference reference))
own-length f level None = refl
own-length f level (Some r) = refl

steps-element : (entries : Entries) (from : Entry) (a : ℕ) (reference : Option Reference) (inside : Outlines) → steps_in entries from a (element reference inside) ≡ own_steps entries from (a + 1) reference ++ steps_in_all entries from (a + 1) inside
steps-element entries from a reference inside =
    ap (steps (levels_in a (element reference inside))) (map-append (followed entries from) (own_reference reference) (references_in_all inside))
    ∙ steps-append (own_level (a + 1) reference) (levels_in_all (a + 1) inside) (map (followed entries from) (own_reference reference)) (map (followed entries from) (references_in_all inside)) (own-length (followed entries from) (a + 1) reference)

steps-and : (entries : Entries) (from : Entry) (a : ℕ) (one : Outline) (others : Outlines) → steps_in_all entries from a (and one others) ≡ steps_in entries from a one ++ steps_in_all entries from a others
steps-and entries from a one others =
    ap (steps (levels_in_all a (and one others))) (map-append (followed entries from) (references_in one) (references_in_all others))
    ∙ steps-append (levels_in a one) (levels_in_all a others) (map (followed entries from) (references_in one)) (map (followed entries from) (references_in_all others))
    (rows.length-levels a one ∙ sym (length-map (references_in one) (followed entries from)))

own-depth : (depths : List ℕ) (entries : Entries) (from : Entry) (level : ℕ) (reference : Option Reference) → max level (deepest depths (own_steps entries from level reference)) ≡ level + reached depths (option_and_then (followed entries from) reference)
own-depth depths entries from level None = omega arith
own-depth depths entries from level (Some r) = by_target (followed entries from r)
  where
    by_target : (found : Option ℕ) → max level (deepest depths (steps (level ∷ []) (found ∷ []))) ≡ level + reached depths found
    by_target None = omega arith
    by_target (Some t) = omega arith

put-together : (a d o s h r t : ℕ) → t ≡ max o s → max (a + 1) o ≡ a + 1 + r → max (a + 1) (max d s) ≡ a + 1 + h → max (max (a + 1) d) t ≡ a + suc (max h r)
put-together a d o s h r t split own rest = omega arith

put-beside : (a d e s u h k t : ℕ) → t ≡ max s u → max d s ≡ a + h → max a (max e u) ≡ a + k → max a (max (max d e) t) ≡ a + max h k
put-beside a d e s u h k t split here rest = omega arith

-- the greatest level of an element, or of a reference and the depth behind it
mutual
  height-is : (depths : List ℕ) (entries : Entries) (from : Entry) (a : ℕ) (one : Outline) → max (deepest_in a one) (deepest depths (steps_in entries from a one)) ≡ a + height depths entries from one
  height-is depths entries from a (element reference inside) =
      let own = own-depth depths entries from (a + 1) reference in
      let rest = heights-are depths entries from (a + 1) inside in
      let split = ap (deepest depths) (steps-element entries from a reference inside) ∙ deepest-append depths (own_steps entries from (a + 1) reference) (steps_in_all entries from (a + 1) inside) in
      put-together a (deepest_in_all (a + 1) inside) (deepest depths (own_steps entries from (a + 1) reference)) (deepest depths (steps_in_all entries from (a + 1) inside)) (heights depths entries from inside) (reached depths (option_and_then (followed entries from) reference)) (deepest depths (steps_in entries from a (element reference inside))) split own rest

  heights-are : (depths : List ℕ) (entries : Entries) (from : Entry) (a : ℕ) (all : Outlines) → max a (max (deepest_in_all a all) (deepest depths (steps_in_all entries from a all))) ≡ a + heights depths entries from all
  heights-are depths entries from a none = omega arith
  heights-are depths entries from a (and one others) =
      let here = height-is depths entries from a one in
      let rest = heights-are depths entries from a others in
      let split = ap (deepest depths) (steps-and entries from a one others) ∙ deepest-append depths (steps_in entries from a one) (steps_in_all entries from a others) in
      put-beside a (deepest_in a one) (deepest_in_all a others) (deepest depths (steps_in entries from a one)) (deepest depths (steps_in_all entries from a others)) (height depths entries from one) (heights depths entries from others) (deepest depths (steps_in_all entries from a (and one others))) split here rest

-- ---- definitions

-- nothing stands in a definition but its elements
abbrev pub HasNoMembers : Entry → Type 0
HasNoMembers one = elements_of one ≡ one.outlines

from-zero : (a b : ℕ) → max 0 a ≡ 0 + b → a ≡ b
from-zero a b h = omega arith

-- the depth of a definition that chains lead through
pub depth-heights : (depths : List ℕ) (entries : Entries) (place : ℕ) (one : Entry) → AreDepths (graph_by entries) (nested_by entries) depths → slice_get entries place ≡ Some one → is_chained one.kind ≡ true → HasNoMembers one → get_or depths place 0 ≡ heights depths entries one (joined one.outlines)
depth-heights depths entries place one are at chained alone =
    let inside : place < length (graph_by entries) = omega (arith, slice_get_within entries place one at, length-map entries (row_by entries)) in
    let nested : get_or (nested_by entries) place 0 ≡ deepest_in_all 0 (joined one.outlines) =
    get_or-map nesting_by entries place one 0 (slice_get_within entries place one at)
    ∙ ap nesting_by (get_or_from_slice_get entries place one one at) ∙ rw chained (ap (λ os. deepest_in_all 0 (joined os)) alone) in
    let own : row (graph_by entries) place ≡ steps_in_all entries one 0 (joined one.outlines) =
    row-some entries place one at ∙ rw chained
    (ap (λ rs. steps (levels_of one) (map (followed entries one) rs)) (sym (references-elements one))
    ∙ ap (λ os. steps_in_all entries one 0 (joined os)) alone) in
    let sum : max (deepest_in_all 0 (joined one.outlines)) (deepest depths (steps_in_all entries one 0 (joined one.outlines))) ≡ heights depths entries one (joined one.outlines) =
    from-zero _ _ (heights-are depths entries one 0 (joined one.outlines)) in
    are.each place inside
    ∙ ap (λ n. max n (deepest depths (row (graph_by entries) place))) nested
    ∙ ap (λ r. max (deepest_in_all 0 (joined one.outlines)) (deepest depths r)) own
    ∙ sum

-- the depth of another definition
pub depth-none : (depths : List ℕ) (entries : Entries) (place : ℕ) (one : Entry) → AreDepths (graph_by entries) (nested_by entries) depths → slice_get entries place ≡ Some one → is_chained one.kind ≡ false → get_or depths place 0 ≡ 0
depth-none depths entries place one are at other =
    let inside : place < length (graph_by entries) = omega (arith, slice_get_within entries place one at, length-map entries (row_by entries)) in
    let nested : get_or (nested_by entries) place 0 ≡ 0 =
    get_or-map nesting_by entries place one 0 (slice_get_within entries place one at)
    ∙ ap nesting_by (get_or_from_slice_get entries place one one at) ∙ rw other refl in
    let own : row (graph_by entries) place ≡ [] = row-some entries place one at ∙ rw other refl in
    are.each place inside
    ∙ ap (λ n. max n (deepest depths (row (graph_by entries) place))) nested
    ∙ ap (λ r. max 0 (deepest depths r)) own

-- ---- what is within so many levels

le-max : (a b n : ℕ) → nat_le (max a b) n ≡ (nat_le a n && nat_le b n)
le-max a b n =
    elim (cases_lt n a) [
      | inl above ↦ rw (lt-leb a n above, lt-leb (max a b) n (omega arith)) refl
      | inr below ↦ elim (cases_lt n b) [
        | inl above ↦ rw (le-leb a n below, lt-leb b n above, lt-leb (max a b) n (omega arith)) refl
        | inr under ↦ rw (le-leb a n below, le-leb b n under, le-leb (max a b) n (omega arith)) refl
      ]
    ]

le-suc : (a n : ℕ) → nat_le (suc a) (suc n) ≡ nat_le a n
le-suc a n =
    elim (cases_lt n a) [
      | inl above ↦ rw (lt-leb a n above, lt-leb (suc a) (suc n) (omega arith)) refl
      | inr below ↦ rw (le-leb a n below, le-leb (suc a) (suc n) (omega arith)) refl
    ]

all-heights : (depths : List ℕ) (entries : Entries) (from : Entry) (test : Outline → Bool) (n : ℕ) → ((one : Outline) → test one ≡ nat_le (height depths entries from one) n) → (all : Outlines) → all_pass test all ≡ nat_le (heights depths entries from all) n
all-heights depths entries from test n same none = sym (le-leb 0 n (omega arith))
all-heights depths entries from test n same (and one others) =
    let here = same one in
    let rest = all-heights depths entries from test n same others in
    rw (here, rest) (sym (le-max (height depths entries from one) (heights depths entries from others) n))

list-heights : (depths : List ℕ) (entries : Entries) (from : Entry) (test : Outline → Bool) (n : ℕ) → ((one : Outline) → test one ≡ nat_le (height depths entries from one) n) → (all : List Outline) → list_all test all ≡ nat_le (heights depths entries from (joined all)) n
list-heights depths entries from test n same [] = sym (le-leb 0 n (omega arith))
list-heights depths entries from test n same (one ∷ others) =
    let here = same one in
    let rest = list-heights depths entries from test n same others in
    rw (here, rest) (sym (le-max (height depths entries from one) (heights depths entries from (joined others)) n))

-- the depth of each definition that chains lead through is that of its elements
abbrev pub HaveHeights : List ℕ → Entries → Type 0
HaveHeights depths entries =
    (place : ℕ) (one : Entry) → slice_get entries place ≡ Some one → is_chained one.kind ≡ true → get_or depths place 0 ≡ heights depths entries one (joined one.outlines)

abbrev passes : ℕ → Entries → Entry → Bool
passes n entries to = list_all (λ one. is_within n entries to one) to.outlines

-- what a reference leads on to, by what holds of elements at fewer levels
module _ (depths : List ℕ) (entries : Entries) (have : HaveHeights depths entries) (n : ℕ)
    (fewer : (to : Entry) (one : Outline) → is_within n entries to one ≡ nat_le (height depths entries to one) n) where
  on-place : (place : ℕ) (to : Entry) → slice_get entries place ≡ Some to → is_chained to.kind ≡ true → passes_on (passes n entries) entries (Some place) ≡ nat_le (get_or depths place 0) n
  on-place place to at chained =
      ap (λ found. option_map_or (passes n entries) found true) at
      ∙ list-heights depths entries to (λ one. is_within n entries to one) n (fewer to) to.outlines
      ∙ ap (λ d. nat_le d n) (sym (have place to at chained))

  on-target : (from : Entry) (r : Reference) (found : Option ℕ) → followed entries from r ≡ found → passes_on (passes n entries) entries found ≡ nat_le (reached depths found) n
  on-target from r None is = sym (le-leb 0 n (omega arith))
  on-target from r (Some place) is = let at = followed-stands entries from r place is in on-place place at.0 at.1 at.2

  on-reference : (from : Entry) (its : Option Reference) → passes_on (passes n entries) entries (option_and_then (followed entries from) its) ≡ nat_le (reached depths (option_and_then (followed entries from) its)) n
  on-reference from None = sym (le-leb 0 n (omega arith))
  on-reference from (Some r) = on-target from r (followed entries from r) refl

-- an element is within so many levels exactly where its depth is at most so great
pub within-height : (depths : List ℕ) (entries : Entries) → HaveHeights depths entries → (n : ℕ) (from : Entry) (one : Outline) → is_within n entries from one ≡ nat_le (height depths entries from one) n
unfolding is_within
within-height depths entries have zero from (element reference inside) = sym (lt-leb (height depths entries from (element reference inside)) 0 (omega arith))
within-height depths entries have (suc n) from (element reference inside) =
    let inner = all-heights depths entries from (λ one. is_within n entries from one) n (within-height depths entries have n from) inside in
    let outer = on-reference depths entries have n (λ to one. within-height depths entries have n to one) from reference in
    rw (inner, outer)
    (sym (le-suc (max (heights depths entries from inside) (reached depths (option_and_then (followed entries from) reference))) n
    ∙ le-max (heights depths entries from inside) (reached depths (option_and_then (followed entries from) reference)) n))

-- a definition is within so many levels exactly where its depth is at most so great
pub within-depth : (depths : List ℕ) (entries : Entries) → HaveHeights depths entries → (n place : ℕ) (one : Entry) → slice_get entries place ≡ Some one → is_chained one.kind ≡ true → is_within_all n entries one ≡ nat_le (get_or depths place 0) n
within-depth depths entries have n place one at chained =
    list-heights depths entries one (is_within n entries one) n (within-height depths entries have n one) one.outlines
    ∙ ap (λ d. nat_le d n) (sym (have place one at chained))
