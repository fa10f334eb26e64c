-- Worked models, as drafts. This project's own.
use Rattle.std.specs.Prelude.{ℕ, true, false, negsuc, List, [], ◌∷◌, ◌++◌, Some, None, codes}
use Rattle.psa_model.specs.PathNames.{Text}
use Rattle.psa_model.specs.declared.formula.Connective.TheVariants.{And, Or}
use Rattle.psa_model.specs.declared.model.GroupModel.TheVariants.{Mgl}
use Rattle.psa_model.specs.declared.draft.Draft.{Draft}
use Rattle.psa_model.specs.declared.draft.DraftDefinition.{DraftDefinition}
use Rattle.psa_model.specs.declared.draft.DefinitionKind.{DefinitionKind}
use Rattle.psa_model.specs.declared.draft.DefinitionKind.TheVariants as kind
use Rattle.psa_model.specs.declared.draft.DraftBody.{DraftBody}
use Rattle.psa_model.specs.declared.draft.DraftBody.TheVariants as body
use Rattle.psa_model.specs.declared.draft.DraftReference.{DraftReference}
use Rattle.psa_model.specs.declared.draft.EventKind.TheVariants as asked
use Rattle.psa_model.specs.declared.draft.DraftExpression.{DraftExpression}
use Rattle.psa_model.specs.declared.draft.DraftExpression.TheVariants as expression
use Rattle.psa_model.specs.declared.draft.DraftFormula.{DraftFormula}
use Rattle.psa_model.specs.declared.draft.DraftFormula.TheVariants as formula
use Rattle.psa_model.specs.declared.draft.DraftInstruction.{DraftInstruction}
use Rattle.psa_model.specs.declared.draft.DraftInstruction.TheVariants as instruction
use Rattle.psa_model.specs.declared.draft.DraftTest.{DraftTest}
use Rattle.psa_model.specs.declared.draft.DraftTest.TheVariants as test
use Rattle.psa_model.specs.declared.draft.DraftBranch.{DraftBranch}
use Rattle.psa_model.specs.declared.draft.DraftBranchEnd.TheVariants as end
use Rattle.psa_model.specs.declared.draft.DraftForkPath.{DraftForkPath}

-- a reference by its file, line and number
abbrev pub refer : ℕ → ℕ → ℕ → Text → DraftReference
refer file line number name = record { name = name; place = record { file = file; line = line }; tag = number }

-- a definition by its kind, name, file, line, number, container and body
abbrev pub define : DefinitionKind → Text → ℕ → ℕ → ℕ → List Text → DraftBody → DraftDefinition
define its name file line number container says = record {
  kind = its;
  name = name;
  place = record { file = file; line = line };
  tag = number;
  container = container;
  private = false;
  body = says;
}

abbrev pub private_one : DraftDefinition → DraftDefinition
private_one one = record one { private = true }

abbrev pub gate_at : ℕ → ℕ → ℕ → Text → DraftFormula
gate_at file line number name = formula.Event asked.Gate (refer file line number name)

abbrev pub basic_at : ℕ → ℕ → ℕ → Text → DraftFormula
basic_at file line number name = formula.Event asked.Basic (refer file line number name)

abbrev pub all_of : List DraftFormula → DraftBody
all_of arguments = body.Formula (formula.Connective And 0 0 arguments)

abbrev pub any_of : List DraftFormula → DraftBody
any_of arguments = body.Formula (formula.Connective Or 0 0 arguments)

-- ---- a fault tree in which the gate G1 refers to a gate G2 that stands elsewhere

abbrev pub one_gate_file : List DraftDefinition
one_gate_file =
    define kind.FaultTree (codes "F") 0 2 1 [] body.Nothing
    ∷ define kind.Gate (codes "G1") 0 3 2 (codes "F" ∷ []) (any_of (gate_at 0 3 4 (codes "G2") ∷ basic_at 0 3 5 (codes "a") ∷ []))
    ∷ define kind.BasicEvent (codes "a") 0 4 6 (codes "F" ∷ []) (body.Value None) ∷ []

abbrev pub one_gate_draft : Draft
one_gate_draft = record { definitions = one_gate_file }

-- a second file, of a fault tree H with one definition in line 3, behind the first
abbrev pub two_file_draft : DefinitionKind → Text → DraftBody → Draft
two_file_draft its name says = record {
  definitions =
      one_gate_file
      ++ define kind.FaultTree (codes "H") 1 2 1 [] body.Nothing ∷ define its name 1 3 2 (codes "H" ∷ []) says ∷ [];
}

-- in it a gate G2 that refers to this gate, a gate named as the basic event, and a house event named as the gate
abbrev pub gate_draft : Text → Draft
gate_draft target = two_file_draft kind.Gate (codes "G2") (body.Formula (gate_at 1 3 3 target))

abbrev pub repeated_draft : Draft
repeated_draft = two_file_draft kind.Gate (codes "a") (body.Formula (formula.Constant true))

abbrev pub house_draft : Draft
house_draft = two_file_draft kind.HouseEvent (codes "G2") (body.State false)

-- ---- groups

abbrev pub tenths : ℕ → DraftExpression
tenths n = expression.Number (record { negative = false; digits = n; exponent = negsuc 0 })

-- a group of two members without factors
abbrev pub short_group_draft : Draft
short_group_draft = record {
  definitions = define kind.Group (codes "G") 0 2 1 [] (body.Group (record {
    model = Mgl;
    members = refer 0 2 3 (codes "A") ∷ refer 0 2 4 (codes "B") ∷ [];
    distribution = tenths 1;
    factors = [];
  })) ∷ [];
}

-- a gate over three basic events that only a group defines
abbrev pub group_draft : Draft
group_draft = record {
  definitions =
      define kind.FaultTree (codes "F") 0 2 1 [] body.Nothing
      ∷ define kind.Gate (codes "top") 0 3 2 (codes "F" ∷ [])
      (all_of (basic_at 0 3 4 (codes "A") ∷ basic_at 0 3 5 (codes "B") ∷ basic_at 0 3 6 (codes "C") ∷ []))
      ∷ define kind.Group (codes "G") 0 4 7 (codes "F" ∷ []) (body.Group (record {
        model = Mgl;
        members = refer 0 5 9 (codes "A") ∷ refer 0 5 10 (codes "B") ∷ refer 0 5 11 (codes "C") ∷ [];
        distribution = tenths 1;
        factors = record { level = Some 2; expression = tenths 2 } ∷ record { level = Some 3; expression = tenths 5 } ∷ [];
      })) ∷ [];
}

-- ---- two private components, by this path of the first one's gate and this name of the second one's event

abbrev pub component_draft : Text → Text → Draft
component_draft first second = record {
  definitions =
      define kind.FaultTree (codes "F") 0 2 1 [] body.Nothing
      ∷ define kind.Gate (codes "top") 0 3 2 (codes "F" ∷ []) (any_of (gate_at 0 3 4 first ∷ gate_at 0 3 5 (codes "F.Q.g") ∷ []))
      ∷ private_one (define kind.Component (codes "P") 0 4 6 (codes "F" ∷ []) body.Nothing)
      ∷ private_one (define kind.Gate (codes "g") 0 5 7 (codes "F" ∷ codes "P" ∷ [])
      (all_of (basic_at 0 5 9 (codes "x") ∷ basic_at 0 5 10 (codes "s") ∷ [])))
      ∷ private_one (define kind.BasicEvent (codes "x") 0 6 11 (codes "F" ∷ codes "P" ∷ []) (body.Value None))
      ∷ private_one (define kind.Component (codes "Q") 0 8 12 (codes "F" ∷ []) body.Nothing)
      ∷ private_one (define kind.Gate (codes "g") 0 9 13 (codes "F" ∷ codes "Q" ∷ [])
      (all_of (basic_at 0 9 15 (codes "x") ∷ basic_at 0 9 16 (codes "s") ∷ [])))
      ∷ private_one (define kind.BasicEvent second 0 10 17 (codes "F" ∷ codes "Q" ∷ []) (body.Value None))
      ∷ define kind.BasicEvent (codes "s") 0 12 18 (codes "F" ∷ []) (body.Value None) ∷ [];
}

-- ---- two initiating events that share an event tree, with a rule that tests the functional event of this name

abbrev pub to_sequence : ℕ → DraftBranch
to_sequence number = record { instructions = []; end = end.Sequence (refer 0 7 number (codes "S")) }

abbrev pub fork_path : Text → ℕ → DraftBranch → DraftForkPath
fork_path state number behind =
    record { state = state; place = record { file = 0; line = 7 }; tag = number; branch = behind }

abbrev pub initial_state : DraftBranch
initial_state = record {
  instructions = [];
  end = end.Fork (refer 0 7 8 (codes "FA")) (fork_path (codes "up") 9 (to_sequence 10) ∷ fork_path (codes "down") 11 (to_sequence 12) ∷ []);
}

abbrev pub condition_on : Text → DraftTest
condition_on tested =
    test.All (test.Initiating (refer 0 9 16 (codes "I")) ∷ test.Functional (refer 0 9 17 tested) (codes "down") ∷ [])

abbrev pub collect : ℕ → Text → DraftInstruction
collect number name = instruction.Collect (basic_at 0 9 number name)

abbrev pub condition_draft : Text → Draft
condition_draft tested = record {
  definitions =
      define kind.InitiatingEvent (codes "I") 0 2 1 [] (body.Start (Some (refer 0 2 1 (codes "E"))))
      ∷ define kind.InitiatingEvent (codes "J") 0 3 2 [] (body.Start (Some (refer 0 3 2 (codes "E"))))
      ∷ define kind.EventTree (codes "E") 0 4 3 [] (body.Walk initial_state)
      ∷ define kind.FunctionalEvent (codes "FA") 0 5 4 (codes "E" ∷ []) body.Nothing
      ∷ define kind.Sequence (codes "S") 0 6 5 (codes "E" ∷ []) (body.Steps (instruction.Rule (refer 0 6 6 (codes "R")) ∷ []) None)
      ∷ define kind.Rule (codes "R") 0 9 13 []
      (body.Steps (instruction.If (condition_on tested) (collect 19 (codes "a") ∷ []) (collect 21 (codes "b") ∷ []) ∷ []) None)
      ∷ define kind.BasicEvent (codes "a") 0 10 23 [] (body.Value None)
      ∷ define kind.BasicEvent (codes "b") 0 10 24 [] (body.Value None) ∷ [];
}

-- ---- events named x directly in a component, in the fault tree around it, and in no container, and y in the fault tree

abbrev pub nested_draft : Draft
nested_draft = record {
  definitions =
      define kind.FaultTree (codes "F") 0 2 1 [] body.Nothing
      ∷ define kind.Component (codes "P") 0 3 2 (codes "F" ∷ []) body.Nothing
      ∷ private_one (define kind.BasicEvent (codes "x") 0 4 3 (codes "F" ∷ codes "P" ∷ []) (body.Value None))
      ∷ private_one (define kind.BasicEvent (codes "x") 0 5 4 (codes "F" ∷ []) (body.Value None))
      ∷ private_one (define kind.BasicEvent (codes "y") 0 6 5 (codes "F" ∷ []) (body.Value None))
      ∷ define kind.BasicEvent (codes "x") 0 7 7 [] (body.Value None) ∷ [];
}
