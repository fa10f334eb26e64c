-- A draft of a fault tree with a gate over two basic events. This project's own.
use Rattle.std.specs.Prelude.{ℕ, suc, List, [], ◌∷◌, None, codes, false}
use Rattle.psa_model.specs.declared.draft.DefinitionKind.{DefinitionKind}
use Rattle.psa_model.specs.declared.draft.DefinitionKind.TheVariants as kind
use Rattle.psa_model.specs.declared.draft.Draft.{Draft}
use Rattle.psa_model.specs.declared.draft.DraftBody.{DraftBody}
use Rattle.psa_model.specs.declared.draft.DraftBody.TheVariants as body
use Rattle.psa_model.specs.declared.draft.DraftDefinition.{DraftDefinition}
use Rattle.psa_model.specs.declared.draft.DraftFormula.{DraftFormula}
use Rattle.psa_model.specs.declared.draft.DraftFormula.TheVariants as formula
use Rattle.psa_model.specs.declared.draft.EventKind.TheVariants.{Basic}
use Rattle.psa_model.specs.declared.formula.Connective.TheVariants.{Or}

abbrev pub defined : DefinitionKind → List ℕ → ℕ → List (List ℕ) → DraftBody → DraftDefinition
defined its name tag container its_body = record {
  kind = its;
  name = name;
  place = record { file = 0; line = suc tag };
  tag = tag;
  container = container;
  private = false;
  body = its_body;
}

abbrev pub refers_to : List ℕ → ℕ → DraftFormula
refers_to name tag = formula.Event Basic (record { name = name; place = record { file = 0; line = 3 }; tag = tag })

-- a gate that is one of some events, and the basic events
abbrev pub gate_draft : Draft
gate_draft = record {
  definitions =
      defined kind.FaultTree (codes "F") 1 [] body.Nothing
      ∷ defined kind.Gate (codes "top") 2 (codes "F" ∷ [])
      (body.Formula (formula.Connective Or 0 0 (refers_to (codes "a") 4 ∷ refers_to (codes "b") 5 ∷ [])))
      ∷ defined kind.BasicEvent (codes "a") 6 (codes "F" ∷ []) (body.Value None)
      ∷ defined kind.BasicEvent (codes "b") 7 [] (body.Value None) ∷ [];
}

-- the gate alone, without its fault tree
abbrev pub stray_draft : Draft
stray_draft = record {
  definitions = defined kind.Gate (codes "top") 2 (codes "F" ∷ []) (body.Formula (refers_to (codes "a") 3)) ∷ [];
}
