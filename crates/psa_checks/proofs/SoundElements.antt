-- What stands in a definition: within so many levels, its references stand, and it has its numbers of arguments.
use Rattle.std.proofs.Common.{◌≡◌, ℕ, zero, suc, Bool, true, List, [], ◌∷◌, ◌++◌, Option, map, ◌&&◌, refl, sym, ap, ap₂, ◌∙◌, subst}
use Rattle.std.proofs.lemmas.Bool.{false≢true, and_parts, and_from}
use Rattle.std.specs.Prelude.{if◌then◌else◌, flat_map}
use Rattle.std.specs.List.{list_all}
use Rattle.std.specs.Option.{option_and_then}
use Rattle.psa_model.specs.declared.draft.DefinitionKind.{DefinitionKind}
use Rattle.psa_model.specs.declared.draft.DraftBody.{DraftBody}
use Rattle.psa_model.specs.declared.draft.DraftReference.{DraftReference}
use Rattle.psa_model.specs.Drafts.{Contents, together, body_contents, is_event_tree}
use Rattle.psa_model.specs.Drafts.{element as element_contents}
use Rattle.psa_names.specs.Outlines.{Reference, Outline, element, joined, plain, Entry, Entries, body_outlines}
use Rattle.psa_names.specs.Chains.{own_reference, references_in, references_in_all, path_members, followed, all_pass, passes_on, is_within}
use Rattle.psa_names.proofs.ListPlaces.{all-append}
use Rattle.psa_checks.proofs.Definitions.{stands, IsEntry}

-- each reference in an element stands
abbrev pub all_stand : Entries → Entry → Outline → Bool
all_stand entries from one = list_all (stands entries from) (references_in one)

-- these elements of a definition are within so many levels, their references stand, and each has its numbers of arguments
pub record IsSound (entries : Entries) (levels : ℕ) (from : Entry) (outlines : List Outline)
    (contents : List Contents) : Type 0 where
  pub within : list_all (is_within levels entries from) outlines ≡ true
  pub stand : list_all (all_stand entries from) outlines ≡ true
  pub numbers : list_all (λ one. one.has_numbers) contents ≡ true

-- what stands inside an element
pub record Inside (entries : Entries) (levels : ℕ) (from : Entry) (reference : Option Reference)
    (inside : List Outline) (right : Bool) (contents : List Contents) : Type 0 where
  pub own : list_all (stands entries from) (own_reference reference) ≡ true
  pub on : passes_on (λ to. list_all (λ one. is_within levels entries to one) to.outlines) entries
      (option_and_then (followed entries from) reference) ≡ true
  pub right_number : right ≡ true
  pub fine : IsSound entries levels from inside contents

pass-joined : (test : Outline → Bool) (all : List Outline) → all_pass test (joined all) ≡ list_all test all
pass-joined test [] = refl
pass-joined test (one ∷ others) = ap (λ b. test one && b) (pass-joined test others)

-- references that stand inside elements, by element
pub stand-joined : (test : Reference → Bool) (all : List Outline)
    → list_all test (references_in_all (joined all)) ≡ true
    → list_all (λ one. list_all test (references_in one)) all ≡ true
stand-joined test [] h = refl
stand-joined test (one ∷ others) h =
    let parts = all-append test (references_in one) (references_in_all (joined others)) h in
    and_from (list_all test (references_in one)) _ parts.0 (stand-joined test others parts.1)

-- elements together have their numbers where each has
pub together-numbers : (all : List Contents) → (together all).has_numbers ≡ list_all (λ one. one.has_numbers) all
together-numbers [] = refl
together-numbers (one ∷ others) = ap (λ b. one.has_numbers && b) (together-numbers others)

-- no element is within no levels
pub some-level : (entries : Entries) (from : Entry) (one : Outline) (others : List Outline) (contents : List Contents)
    → IsSound entries zero from (one ∷ others) contents → ⊥
unfolding is_within
some-level entries from one others contents fine = false≢true fine.within

-- what is known of an element, and of what stands inside it
pub inside : (entries : Entries) (levels : ℕ) (from : Entry) (reference : Option Reference) (inner : List Outline)
    (right : Bool) (name : Option DraftReference) (contents : List Contents)
    → IsSound entries (suc levels) from (element reference (joined inner) ∷ [])
    (element_contents right name contents ∷ []) → Inside entries levels from reference inner right contents
unfolding is_within
inside entries levels from reference inner right name contents fine =
    let within = (and_parts (is_within (suc levels) entries from (element reference (joined inner)))
    true fine.within).0 in
    let parts = and_parts (all_pass (λ one. is_within levels entries from one) (joined inner)) _ within in
    let stand = (and_parts (all_stand entries from (element reference (joined inner))) true fine.stand).0 in
    let references = all-append (stands entries from) (own_reference reference) (references_in_all (joined inner))
    stand in
    let numbers = and_parts right (together contents).has_numbers
    (and_parts (right && (together contents).has_numbers) true fine.numbers).0 in
    record {
      own = references.0;
      on = parts.1;
      right_number = numbers.0;
      fine = record {
        within = sym (pass-joined (λ one. is_within levels entries from one) inner) ∙ parts.0;
        stand = stand-joined (stands entries from) inner references.1;
        numbers = sym (together-numbers contents) ∙ numbers.1;
      };
    }

-- of joined lists of elements, each
pub sound-parts : (entries : Entries) (levels : ℕ) (from : Entry) (outlines more_outlines : List Outline)
    (contents more_contents : List Contents) → IsSound entries levels from (outlines ++ more_outlines)
    (contents ++ more_contents) → IsSound entries levels from outlines contents
    × IsSound entries levels from more_outlines more_contents
sound-parts entries levels from outlines more_outlines contents more_contents fine =
    let within = all-append (is_within levels entries from) outlines more_outlines fine.within in
    let stand = all-append (all_stand entries from) outlines more_outlines fine.stand in
    let numbers = all-append (λ (one : Contents). one.has_numbers) contents more_contents fine.numbers in (
      record { within = within.0; stand = stand.0; numbers = numbers.0 },
      record { within = within.1; stand = stand.1; numbers = numbers.1 },
    )

-- each of some elements is fine
pub sound-each : {A : Type 0} (entries : Entries) (levels : ℕ) (from : Entry) (outline : A → Outline)
    (contents : A → Contents) (test : A → Bool)
    → ((x : A) → IsSound entries levels from (outline x ∷ []) (contents x ∷ []) → test x ≡ true) → (all : List A)
    → IsSound entries levels from (map outline all) (map contents all) → list_all test all ≡ true
sound-each entries levels from outline contents test each [] fine = refl
sound-each entries levels from outline contents test each (x ∷ all) fine =
    let parts = sound-parts entries levels from (outline x ∷ []) (map outline all) (contents x ∷ []) (map contents all)
    fine in
    and_from (test x) (list_all test all) (each x parts.0)
    (sound-each entries levels from outline contents test each all parts.1)

-- ---- bodies

-- the outlines of a definition of a kind with a body
abbrev pub outlines_by : DefinitionKind → DraftBody → List Outline
outlines_by its one = if is_event_tree its then plain (body_outlines one) ∷ [] else body_outlines one

stand-flat : (test : Reference → Bool) (all : List Outline) → list_all test (flat_map references_in all) ≡ true
    → list_all (λ one. list_all test (references_in one)) all ≡ true
stand-flat test [] h = refl
stand-flat test (one ∷ others) h =
    let parts = all-append test (references_in one) (flat_map references_in others) h in
    and_from (list_all test (references_in one)) _ parts.0 (stand-flat test others parts.1)

-- the references in a definition's elements stand
pub entry-stand : (entries : Entries) (place : ℕ) (one : Entry) → IsEntry entries place one
    → list_all (all_stand entries one) (outlines_by one.kind one.body) ≡ true
entry-stand entries place one is =
    let references = (all-append (stands entries one) (path_members one) (flat_map references_in one.outlines)
    is.stand).1 in
    subst (λ all. list_all (all_stand entries one) all ≡ true) is.laid
    (stand-flat (stands entries one) one.outlines references)

-- a definition with a body within some levels
pub entry-sound : (entries : Entries) (levels place : ℕ) (one : Entry) (its : DefinitionKind) (its_body : DraftBody)
    → IsEntry entries place one → one.kind ≡ its → one.body ≡ its_body
    → list_all (is_within levels entries one) one.outlines ≡ true
    → IsSound entries levels one (outlines_by its its_body) (body_contents its_body ∷ [])
entry-sound entries levels place one its its_body is kind_is body_is within =
    let same : outlines_by one.kind one.body ≡ outlines_by its its_body = ap₂ outlines_by kind_is body_is in
    record {
      within = subst (λ all. list_all (is_within levels entries one) all ≡ true) (is.laid ∙ same) within;
      stand = subst (λ all. list_all (all_stand entries one) all ≡ true) same (entry-stand entries place one is);
      numbers = and_from _ true (sym (ap (λ b. (body_contents b).has_numbers) body_is) ∙ is.numbers) refl;
    }
