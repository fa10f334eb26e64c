-- A worked input: a gate that is a basic event without an expression. Its tree, its draft and its model.
use Rattle.std.specs.Prelude.{false, [], ◌∷◌, None, codes}
use Rattle.psa_text.specs.declared.tree.Element.{Element}
use Rattle.psa_model.specs.declared.draft.DefinitionKind.TheVariants as kind
use Rattle.psa_model.specs.declared.draft.Draft.{Draft}
use Rattle.psa_model.specs.declared.draft.DraftBody.TheVariants as body
use Rattle.psa_model.specs.declared.draft.DraftFormula.TheVariants as formula
use Rattle.psa_model.specs.declared.draft.EventKind.TheVariants as event
use Rattle.psa_model.specs.declared.fault.FaultKind.TheVariants.{NoValue}
use Rattle.psa_model.specs.declared.fault.ModelFault.{ModelFault}
use Rattle.psa_model.specs.declared.formula.Formula.TheVariants as resolved
use Rattle.psa_model.specs.declared.ids.Place.{Place}
use Rattle.psa_model.specs.declared.model.Model.{Model}
use Rattle.psa_model.specs.declared.model.Valued.TheVariants as valued
use Rattle.psa_elements.specs.ExampleTrees.{el, named, ref, root_of}

-- all in line 1: a fault tree F with the gate top, which is the basic event a
abbrev pub no_value_tree : Element
no_value_tree =
    root_of (el (codes "define-fault-tree") 1 (named (codes "F"))
    (el (codes "define-gate") 1 (named (codes "top")) (ref (codes "basic-event") 1 (codes "a") ∷ [])
    ∷ ref (codes "define-basic-event") 1 (codes "a") ∷ []) ∷ [])

abbrev pub first_line : Place
first_line = record { file = 0; line = 1 }

abbrev pub no_value_draft : Draft
no_value_draft = record {
  definitions =
      record { kind = kind.FaultTree; name = codes "F"; place = first_line; tag = 1; container = []; private = false; body = body.Nothing }
      ∷ record {
        kind = kind.Gate;
        name = codes "top";
        place = first_line;
        tag = 2;
        container = codes "F" ∷ [];
        private = false;
        body = body.Formula (formula.Event event.Basic (record { name = codes "a"; place = first_line; tag = 3 }));
      }
      ∷ record {
        kind = kind.BasicEvent;
        name = codes "a";
        place = first_line;
        tag = 4;
        container = codes "F" ∷ [];
        private = false;
        body = body.Value None;
      }
      ∷ [];
}

abbrev pub no_value_model : Model
no_value_model = record {
  fault_trees = record { name = codes "F"; place = first_line } ∷ [];
  gates = record { name = codes "top"; place = first_line; tree = record { 0 = 0 }; formula = resolved.Basic (record { 0 = 0 }) } ∷ [];
  basics = record { name = codes "a"; place = first_line; expression = None } ∷ [];
  houses = [];
  parameters = [];
  groups = [];
  initiatings = [];
  event_trees = [];
  functionals = [];
  sequences = [];
  branches = [];
  rules = [];
  formulas = [];
  order = valued.Basic (record { 0 = 0 }) ∷ [];
}

abbrev pub no_value_fault : ModelFault
no_value_fault = record { kind = NoValue; file = 0; line = 1; name = codes "a" }
