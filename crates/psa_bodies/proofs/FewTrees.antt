-- A draft has few trees.
use Rattle.std.proofs.Common.{◌≡◌, ◌<◌, ℕ, List, length, None, ap, ◌∙◌, arith}
use Rattle.std.proofs.lemmas.List.{length-map}
use Rattle.std.proofs.lemmas.List.FromFn.{length-enumerate_from}
use Rattle.std.specs.List.{enumerate_from}
use Rattle.psa_model.specs.Drafts.{IsDraft}
use Rattle.psa_model.specs.declared.draft.Draft.{Draft}
use Rattle.psa_model.specs.declared.draft.DefinitionKind.{DefinitionKind}
use Rattle.psa_names.specs.Outlines.{Entry, entries_of}
use Rattle.psa_names.specs.Ids.{is_kind, all_of_kind}
use Rattle.psa_names.specs.NameFaults.{name_fault}
use Rattle.psa_bodies.specs.Trees.{places_of}
use Rattle.psa_bodies.proofs.Numberable.{numberable}
use Rattle.psa_bodies.proofs.NumberingInOrder.{length-filter-le}

-- fewer than a number that a u32 holds
pub few-trees : (draft : Draft) (its : DefinitionKind) (trees : List ℕ) → IsDraft draft → name_fault draft ≡ None → trees ≡ places_of its (entries_of draft) → length trees < 4294967296
few-trees draft its trees is faultless are =
    let few = (numberable draft is faultless).few in
    let a = ap (λ (ts : List ℕ). length ts) are ∙ length-map (all_of_kind its (entries_of draft)) (λ (one : ℕ × Entry). one.0) in
    let b = length-filter-le (λ (one : ℕ × Entry). is_kind its one.1) (enumerate_from 0 (entries_of draft)) in
    let c = length-enumerate_from 0 (entries_of draft) in
    omega (arith, few, a, b, c)
