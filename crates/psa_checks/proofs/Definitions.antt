-- What is known of each definition of a draft without a fault of names, and its element in the lists of the model.
use Rattle.std.proofs.Common.{◌≡◌, ◌≤◌, ◌+◌, ◌==◌, ℕ, Bool, true, Some, map, ap, ◌∙◌, arith}
use Rattle.std.proofs.lemmas.Option.{slice_get-map}
use Rattle.std.specs.Prelude.{is_none, take, unwrap_or, option_map}
use Rattle.std.specs.List.{slice_get, list_all}
use Rattle.psa_model.specs.declared.draft.DefinitionKind.{DefinitionKind}
use Rattle.psa_model.specs.declared.limits.TheConstants.{MAX_NESTING}
use Rattle.psa_model.specs.declared.model.TheConstants.{MAX_DEPTH}
use Rattle.psa_model.specs.Drafts.{has_body, body_contents}
use Rattle.psa_names.specs.Outlines.{Reference, Entry, Entries, outlines_of}
use Rattle.psa_names.specs.NameSpaces.{is_in_family, groups}
use Rattle.psa_names.specs.Meanings.{meaning_of}
use Rattle.psa_names.specs.GroupRules.{is_allowed_group}
use Rattle.psa_names.specs.Chains.{is_chained, is_within_all, references_of}
use Rattle.psa_names.specs.NameFaults.{reference_fault}
use Rattle.psa_names.specs.Ids.{is_kind, all_of_kind, id_of}
use Rattle.psa_names.proofs.ListPlaces.{Has, from-kept}
use Rattle.psa_names.proofs.FirstPlaces.{position-first, kept-place, from-enumerated}

-- ---- what is known of a definition

-- a reference stands for something of its kind
abbrev pub stands : Entries → Entry → Reference → Bool
stands entries from reference = is_none (reference_fault entries reference.kind (meaning_of entries from reference))

-- a definition of a draft without a fault of names
pub record IsEntry (entries : Entries) (place : ℕ) (one : Entry) : Type 0 where
  pub laid : one.outlines ≡ outlines_of one.definition
  pub body : has_body one.kind one.body ≡ true
  pub numbers : (body_contents one.body).has_numbers ≡ true
  pub shallow : (body_contents one.body).nesting ≤ MAX_NESTING
  pub stand : list_all (stands entries one) (references_of one) ≡ true
  pub within : is_chained one.kind ≡ true → is_within_all MAX_DEPTH entries one ≡ true
  pub allowed : is_in_family groups one ≡ true → is_allowed_group entries (take place entries) one ≡ true

-- each definition is one of a draft without a fault of names
abbrev pub AreEntries : Entries → Type 0
AreEntries entries = (place : ℕ) (one : Entry) → slice_get entries place ≡ Some one → IsEntry entries place one

-- ---- ids

-- the element of a definition in a list that is made of those of its kind
pub made-at : {A : Type 0} (its : DefinitionKind) (entries : Entries) (make : ℕ × Entry → A) (place : ℕ) (one : Entry)
    → slice_get entries place ≡ Some one → is_kind its one ≡ true
    → slice_get (map make (all_of_kind its entries)) (id_of its entries place) ≡ Some (make (place, one))
made-at its entries make place one there passes =
    let zero_more : place ≡ 0 + place = omega arith in
    let r = kept-place (is_kind its) 0 entries place place one zero_more there passes in
    let found : id_of its entries place ≡ r.0 =
    ap (λ o. unwrap_or o 0) (position-first (λ (o : ℕ × Entry). o.0 == place) (all_of_kind its entries) ∙ r.1) in
    slice_get-map make (all_of_kind its entries) (id_of its entries place)
    ∙ ap (option_map make) (ap (slice_get (all_of_kind its entries)) found ∙ r.2)

-- the definition of an element of such a list
pub from-made : (its : DefinitionKind) (entries : Entries) (one : ℕ × Entry) → Has (all_of_kind its entries) one
    → (slice_get entries one.0 ≡ Some one.1) × (is_kind its one.1 ≡ true)
from-made its entries one here =
    let kept = from-kept (λ (o : ℕ × Entry). is_kind its o.1)
    _ one here in (from-enumerated entries one kept.0, kept.1)
