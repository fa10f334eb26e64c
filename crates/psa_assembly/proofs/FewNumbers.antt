-- The numbers of a draft's definitions are few.
use Rattle.std.proofs.Common.{◌≡◌, ◌<◌, List, length, None, ap, ◌∙◌, arith}
use Rattle.std.proofs.lemmas.List.{length-map}
use Rattle.std.proofs.lemmas.List.FromFn.{length-enumerate_from}
use Rattle.std.specs.List.{enumerate_from}
use Rattle.psa_model.specs.Drafts.{IsDraft}
use Rattle.psa_model.specs.declared.draft.Draft.{Draft}
use Rattle.psa_names.specs.Outlines.{entries_of}
use Rattle.psa_names.specs.NameFaults.{name_fault}
use Rattle.psa_bodies.specs.declared.numbers.Numbered.{Numbered}
use Rattle.psa_bodies.specs.declared.numbers.Numbers.{Numbers}
use Rattle.psa_bodies.specs.Numbering.{AreNumbers, numbered}
use Rattle.psa_bodies.proofs.Numberable.{numberable}

-- fewer than a number that a u32 holds
pub few-numbers : (draft : Draft) (numbers : Numbers) → IsDraft draft → name_fault draft ≡ None → AreNumbers (entries_of draft) numbers → length numbers.definitions < 4294967296
few-numbers draft numbers is faultless are =
    let few = (numberable draft is faultless).few in
    let a = ap (λ (ns : List Numbered). length ns) are.definitions ∙ length-map (enumerate_from 0 (entries_of draft)) (numbered (entries_of draft)) in
    let b = length-enumerate_from 0 (entries_of draft) in
    omega (arith, few, a, b)
