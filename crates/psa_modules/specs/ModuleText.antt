-- The text of the modules of a model's targets. The layout is this project's own.
use Rattle.std.specs.Prelude.{◌≡◌, ℕ, List, [], ◌∷◌, ◌++◌, codes, length}
use Rattle.std.specs.List.{flat_map}
use Rattle.psa_logic.specs.Products.{IsListing}
use Rattle.psa_model.specs.declared.model.Model.{Model}
use Rattle.psa_model.specs.declared.targets.Target.{Target}
use Rattle.psa_model.specs.declared.targets.Target.TheVariants.{TopEvent, Sequence}
use Rattle.psa_model.specs.Names.{name_in}
use Rattle.psa_model.specs.Report.{Analysis, IsProductOf, IsSection, count_line, gate_tree_name, head_text, product_line, target_line}
use Rattle.psa_modules.specs.OuterModules.{gate_target, outer_modules}
use Rattle.psa_modules.specs.Quotients.{quotient_of}

-- the line that begins the list of a module
abbrev pub module_line : Model → ℕ → List ℕ
module_line model gate =
    codes "module " ++ gate_tree_name model gate ++ codes " " ++ name_in (λ g. g.name) model.gates gate ++ codes "\n"

-- the line that begins the list of the quotient
abbrev pub whole_line : List ℕ
whole_line = codes "whole\n"

-- the lines of some products of a target, and their count
abbrev pub list_text : Analysis → Target → List (List ℕ) → List ℕ
list_text analysis target products =
    flat_map (product_line analysis target) products ++ count_line (length products)

-- what is asked of the quotient of a top event: the same as of the model
abbrev pub quotient_analysis : Analysis → ℕ → Analysis
quotient_analysis analysis top = record analysis { expanded = quotient_of analysis.expanded top }

-- the text of a top event: its line, the list of each module after its line, and the list of the quotient
abbrev pub top_event_text : Analysis → ℕ → List ℕ → List (List ℕ) → List ℕ
top_event_text analysis top lists whole =
    target_line analysis.expanded.model (gate_target top) ++ lists ++ whole_line
    ++ list_text (quotient_analysis analysis top) (gate_target top) whole

-- The lists of some modules, one after another: each module's line, exactly its products as a target, each once and in
-- report order, and their count.
pub data AreModuleLists (analysis : Analysis) : List ℕ → List ℕ → Type 0 where
  no_module : AreModuleLists analysis [] []
  and_module :
      (modules text : List ℕ) (gate : ℕ) (products : List (List ℕ))
      → AreModuleLists analysis modules text
      → IsListing (IsProductOf analysis (gate_target gate)) products
      → AreModuleLists analysis (modules ++ gate ∷ [])
      (text ++ module_line analysis.expanded.model gate ++ list_text analysis (gate_target gate) products)

-- The section of a top event: its line, the lists of its outer modules in the order of first visit, and the list of its
-- quotient.
pub record IsTopEventSection (analysis : Analysis) (top : ℕ) (text : List ℕ) : Type 0 where
  pub lists : List ℕ
  pub are_lists : AreModuleLists analysis (outer_modules analysis.expanded top) lists
  pub whole : List (List ℕ)
  pub is_whole : IsListing (IsProductOf (quotient_analysis analysis top) (gate_target top)) whole
  pub spelled : text ≡ top_event_text analysis top lists whole

-- the section of a target; a sequence has that of the report
abbrev pub IsModulesSection : Analysis → Target → List ℕ → Type 0
IsModulesSection analysis (TopEvent gate) text = IsTopEventSection analysis gate.0 text
IsModulesSection analysis (Sequence initiating sequence paths) text =
    IsSection analysis (Sequence initiating sequence paths) text

-- the sections of targets, one after another
pub data AreModulesSections (analysis : Analysis) : List Target → List ℕ → Type 0 where
  no_section : AreModulesSections analysis [] []
  and_section :
      (targets : List Target) (text : List ℕ) (target : Target) (section : List ℕ)
      → AreModulesSections analysis targets text
      → IsModulesSection analysis target section
      → AreModulesSections analysis (targets ++ target ∷ []) (text ++ section)

-- the head of a report, and the sections of some targets
pub record IsModulesText (analysis : Analysis) (targets : List Target) (text : List ℕ) : Type 0 where
  pub sections : List ℕ
  pub are_sections : AreModulesSections analysis targets sections
  pub spelled : text ≡ head_text analysis.settings ++ sections
