-- What is made of definitions, from the readings of what stands in them.
use Rattle.std.proofs.Common.{◌≡◌, ℕ, List, [], ◌∷◌, ◌++◌, Option, Some, None, map, refl, ap, sym, ◌∙◌, eqb, if◌then◌else◌}
use Rattle.std.proofs.lemmas.List.{append-nil}
use Rattle.std.specs.Prelude.{filter_map}
use Rattle.std.specs.List.{flat_map}
use Rattle.std.specs.Option.{option_map}
use Rattle.psa_model.specs.Drafts.{is_event_tree}
use Rattle.psa_model.specs.PathNames.{Text, is_path}
use Rattle.psa_model.specs.declared.ids.Place.{Place}
use Rattle.psa_model.specs.declared.ids.TreeId.{TreeId}
use Rattle.psa_model.specs.declared.formula.Formula.{Formula}
use Rattle.psa_model.specs.declared.expression.Expression.{Expression}
use Rattle.psa_model.specs.declared.model.Gate.{Gate}
use Rattle.psa_model.specs.declared.model.BasicEvent.{BasicEvent}
use Rattle.psa_model.specs.declared.model.Parameter.{Parameter}
use Rattle.psa_model.specs.declared.model.Initiating.{Initiating}
use Rattle.psa_model.specs.declared.draft.Draft.{Draft}
use Rattle.psa_model.specs.declared.draft.DraftDefinition.{DraftDefinition}
use Rattle.psa_model.specs.declared.draft.DraftReference.{DraftReference}
use Rattle.psa_model.specs.declared.draft.DraftFormula.{DraftFormula}
use Rattle.psa_model.specs.declared.draft.DraftExpression.{DraftExpression}
use Rattle.psa_model.specs.declared.draft.DefinitionKind.{DefinitionKind}
use Rattle.psa_model.specs.declared.draft.DefinitionKind.TheVariants as kind
use Rattle.psa_model.specs.declared.draft.DraftBody.{DraftBody}
use Rattle.psa_model.specs.declared.draft.DraftBody.TheVariants as body
use Rattle.psa_model.specs.declared.draft.EventKind.TheVariants as asked
use Rattle.psa_names.specs.declared.found.Sense.{Sense}
use Rattle.psa_names.specs.Outlines.{Reference, Entry, Entries, entry_of, entries_of, event, event_tree, plain, formula_outline, expression_outline, value_outlines, link_outlines, body_outlines}
use Rattle.psa_names.specs.Meanings.{members_of, meaning_of}
use Rattle.psa_names.specs.Chains.{references_in, references_of}
use Rattle.psa_names.specs.Ids.{kind_number, is_kind, tree_id, id_of_meaning, referred_id}
use Rattle.psa_names.specs.Resolved.{resolved_formula, resolved_expression}
use Rattle.psa_names.specs.ModelOfDraft.{model_name, formula_in, expression_in, gate_of, basics_of, defined_basics}
use Rattle.psa_bodies.specs.declared.numbers.Numbers.{Numbers}
use Rattle.psa_bodies.specs.Numbering.{AreNumbers}
use Rattle.psa_bodies.specs.Reading.{Reads}
use Rattle.psa_bodies.specs.Made.{IsMade, parameter_of, initiating_of}
use Rattle.psa_bodies.proofs.ReadingInOrder.{reads-as, reads-map, reads-none}

-- ---- references

abbrev pub references_by : DefinitionKind → DraftBody → List Reference
references_by its said =
    filter_map (λ member. if is_path member.name then Some (record { kind = event asked.Basic; written = member }) else None) (members_of said)
    ++ flat_map references_in (if is_event_tree its then plain (body_outlines said) ∷ [] else body_outlines said)

pub references-said : (definition : DraftDefinition) (its : DefinitionKind) (said : DraftBody) → definition.kind ≡ its → definition.body ≡ said → references_by its said ≡ references_of (entry_of definition)
references-said definition its said is says =
    sym (ap (λ k. references_by k definition.body) is ∙ ap (references_by its) says)

-- ---- readings

pub made-by : {A : Type 0} (numbers : Numbers) (draft : Draft) (definition : DraftDefinition) (senses left : List Sense) (references : List Reference) (value other : Entries → Entry → A) (made : A) → AreNumbers (entries_of draft) numbers → Reads numbers senses left references value made → references ≡ references_of (entry_of definition) → value (entries_of draft) (entry_of definition) ≡ other (entries_of draft) (entry_of definition) → IsMade draft definition senses left other made
made-by numbers draft definition senses left references value other made are read same equal = record {
  is = λ rest begins.
      let has = read.is (entries_of draft) (entry_of definition) rest are (begins ∙ ap (λ rs. map (meaning_of (entries_of draft) (entry_of definition)) rs ++ rest) (sym same)) in
      (has.0 ∙ equal, has.1);
}

-- ---- gates

abbrev pub gate_with : Place → Text → ℕ → Formula → Gate
gate_with place name tree formula = record { name = name; place = place; tree = record { 0 = tree }; formula = formula }

formula-said : (entries : Entries) (one : Entry) (f : DraftFormula) → one.body ≡ body.Formula f → resolved_formula entries one f ≡ formula_in entries one
formula-said entries one f says = rw says refl

pub gate-made : (numbers : Numbers) (draft : Draft) (definition : DraftDefinition) (senses left : List Sense) (f : DraftFormula) (name : Text) (tree : ℕ) (made : Formula) → AreNumbers (entries_of draft) numbers → definition.kind ≡ kind.Gate → definition.body ≡ body.Formula f → name ≡ model_name (entry_of definition) → tree ≡ tree_id kind.FaultTree (entries_of draft) definition.container → Reads numbers senses left (references_in (formula_outline f)) (λ entries from. resolved_formula entries from f) made → IsMade draft definition senses left (λ entries from. gate_of entries (0, from)) (gate_with definition.place name tree made)
gate-made numbers draft definition senses left f name tree made are is says named around read =
    made-by numbers draft definition senses left (references_in (formula_outline f)) (λ entries from. gate_with definition.place name tree (resolved_formula entries from f)) (λ entries from. gate_of entries (0, from)) (gate_with definition.place name tree made) are
    (reads-map numbers senses left (references_in (formula_outline f)) (λ entries from. resolved_formula entries from f) made (gate_with definition.place name tree) read)
    (sym (append-nil (references_in (formula_outline f))) ∙ references-said definition kind.Gate (body.Formula f) is says)
    (ap (λ n. gate_with definition.place n tree (resolved_formula (entries_of draft) (entry_of definition) f)) named
    ∙ ap (λ t. gate_with definition.place (model_name (entry_of definition)) t (resolved_formula (entries_of draft) (entry_of definition) f)) around
    ∙ ap (gate_with definition.place (model_name (entry_of definition)) (tree_id kind.FaultTree (entries_of draft) definition.container)) (formula-said (entries_of draft) (entry_of definition) f says))

-- ---- values

pub value-some : (numbers : Numbers) (senses left : List Sense) (value : Option DraftExpression) (e : DraftExpression) (made : Expression) → value ≡ Some e → Reads numbers senses left (references_in (expression_outline e)) (λ entries from. resolved_expression entries from e) made → Reads numbers senses left (flat_map references_in (value_outlines value)) (λ entries from. option_map (resolved_expression entries from) value) (Some made)
value-some numbers senses left value e made is read =
    reads-as numbers senses left (references_in (expression_outline e)) (flat_map references_in (value_outlines value)) (λ entries from. Some (resolved_expression entries from e)) (λ entries from. option_map (resolved_expression entries from) value) (Some made)
    (sym (append-nil (references_in (expression_outline e))) ∙ ap (λ v. flat_map references_in (value_outlines v)) (sym is))
    (λ entries from. ap (option_map (resolved_expression entries from)) (sym is))
    (reads-map numbers senses left (references_in (expression_outline e)) (λ entries from. resolved_expression entries from e) made Some read)

pub value-none : (numbers : Numbers) (senses : List Sense) (value : Option DraftExpression) → value ≡ None → Reads numbers senses senses (flat_map references_in (value_outlines value)) (λ entries from. option_map (resolved_expression entries from) value) None
value-none numbers senses value is =
    reads-as numbers senses senses [] (flat_map references_in (value_outlines value)) (λ entries from. None) (λ entries from. option_map (resolved_expression entries from) value) None
    (ap (λ v. flat_map references_in (value_outlines v)) (sym is))
    (λ entries from. ap (option_map (resolved_expression entries from)) (sym is))
    (reads-none numbers senses (λ entries from. None) None (λ entries from. refl))

abbrev pub basic_with : Place → Text → Option Expression → BasicEvent
basic_with place name expression = record { name = name; place = place; expression = expression }

value-said : (entries : Entries) (one : Entry) (value : Option DraftExpression) → one.body ≡ body.Value value → option_map (resolved_expression entries one) value ≡ expression_in entries one
value-said entries one value says = rw says refl

basics-said : (entries : Entries) (one : Entry) → one.kind ≡ kind.BasicEvent → basic_with one.place (model_name one) (expression_in entries one) ∷ [] ≡ basics_of entries one
basics-said entries one is =
    let basic = ap (λ k. eqb (kind_number k) 2) is in
    sym (ap (λ b. if b then basic_with one.place (model_name one) (expression_in entries one) ∷ [] else (if is_kind kind.Group one then defined_basics entries one else [])) basic)

pub basic-made : (numbers : Numbers) (draft : Draft) (definition : DraftDefinition) (senses left : List Sense) (value : Option DraftExpression) (name : Text) (made : Option Expression) → AreNumbers (entries_of draft) numbers → definition.kind ≡ kind.BasicEvent → definition.body ≡ body.Value value → name ≡ model_name (entry_of definition) → Reads numbers senses left (flat_map references_in (value_outlines value)) (λ entries from. option_map (resolved_expression entries from) value) made → IsMade draft definition senses left (λ entries from. basics_of entries from) (basic_with definition.place name made ∷ [])
basic-made numbers draft definition senses left value name made are is says named read =
    made-by numbers draft definition senses left (flat_map references_in (value_outlines value)) (λ entries from. basic_with definition.place name (option_map (resolved_expression entries from) value) ∷ []) (λ entries from. basics_of entries from) (basic_with definition.place name made ∷ []) are
    (reads-map numbers senses left (flat_map references_in (value_outlines value)) (λ entries from. option_map (resolved_expression entries from) value) made (λ e. basic_with definition.place name e ∷ []) read)
    (references-said definition kind.BasicEvent (body.Value value) is says)
    (ap (λ n. basic_with definition.place n (option_map (resolved_expression (entries_of draft) (entry_of definition)) value) ∷ []) named
    ∙ ap (λ e. basic_with definition.place (model_name (entry_of definition)) e ∷ []) (value-said (entries_of draft) (entry_of definition) value says)
    ∙ basics-said (entries_of draft) (entry_of definition) is)

abbrev pub parameter_with : Place → Text → Expression → Parameter
parameter_with place name expression = record { name = name; place = place; expression = expression }

parameter-said : (entries : Entries) (one : Entry) (e : DraftExpression) → one.body ≡ body.Value (Some e) → parameter_with one.place (model_name one) (resolved_expression entries one e) ≡ parameter_of entries one
parameter-said entries one e says = rw says refl

pub parameter-made : (numbers : Numbers) (draft : Draft) (definition : DraftDefinition) (senses left : List Sense) (e : DraftExpression) (name : Text) (made : Expression) → AreNumbers (entries_of draft) numbers → definition.kind ≡ kind.Parameter → definition.body ≡ body.Value (Some e) → name ≡ model_name (entry_of definition) → Reads numbers senses left (references_in (expression_outline e)) (λ entries from. resolved_expression entries from e) made → IsMade draft definition senses left (λ entries from. parameter_of entries from) (parameter_with definition.place name made)
parameter-made numbers draft definition senses left e name made are is says named read =
    made-by numbers draft definition senses left (references_in (expression_outline e)) (λ entries from. parameter_with definition.place name (resolved_expression entries from e)) (λ entries from. parameter_of entries from) (parameter_with definition.place name made) are
    (reads-map numbers senses left (references_in (expression_outline e)) (λ entries from. resolved_expression entries from e) made (parameter_with definition.place name) read)
    (sym (append-nil (references_in (expression_outline e))) ∙ references-said definition kind.Parameter (body.Value (Some e)) is says)
    (ap (λ n. parameter_with definition.place n (resolved_expression (entries_of draft) (entry_of definition) e)) named ∙ parameter-said (entries_of draft) (entry_of definition) e says)

-- ---- links

abbrev pub link_value : Entries → Entry → Option DraftReference → Option TreeId
link_value entries from link = option_map (λ id. record { 0 = id }) (option_map (referred_id kind.EventTree event_tree entries from) link)

pub link-some : (numbers : Numbers) (senses left : List Sense) (link : Option DraftReference) (name : DraftReference) (id : ℕ) → link ≡ Some name → ((reference : Reference) → Reads numbers senses left (reference ∷ []) (λ entries from. id_of_meaning kind.EventTree entries (meaning_of entries from reference)) id) → Reads numbers senses left (flat_map references_in (link_outlines link)) (λ entries from. link_value entries from link) (Some (record { 0 = id }))
link-some numbers senses left link name id is read =
    let reference : Reference = record { kind = event_tree; written = name } in
    reads-as numbers senses left (reference ∷ []) (flat_map references_in (link_outlines link)) (λ entries from. Some (record { 0 = id_of_meaning kind.EventTree entries (meaning_of entries from reference) })) (λ entries from. link_value entries from link) (Some (record { 0 = id }))
    (ap (λ v. flat_map references_in (link_outlines v)) (sym is))
    (λ entries from. ap (link_value entries from) (sym is))
    (reads-map numbers senses left (reference ∷ []) (λ entries from. id_of_meaning kind.EventTree entries (meaning_of entries from reference)) id (λ n. Some (record { 0 = n })) (read reference))

pub link-none : (numbers : Numbers) (senses : List Sense) (link : Option DraftReference) → link ≡ None → Reads numbers senses senses (flat_map references_in (link_outlines link)) (λ entries from. link_value entries from link) None
link-none numbers senses link is =
    reads-as numbers senses senses [] (flat_map references_in (link_outlines link)) (λ entries from. None) (λ entries from. link_value entries from link) None
    (ap (λ v. flat_map references_in (link_outlines v)) (sym is))
    (λ entries from. ap (link_value entries from) (sym is))
    (reads-none numbers senses (λ entries from. None) None (λ entries from. refl))

abbrev pub initiating_with : Place → Text → Option TreeId → Initiating
initiating_with place name tree = record { name = name; place = place; tree = tree }

initiating-said : (entries : Entries) (one : Entry) (link : Option DraftReference) → one.body ≡ body.Start link → initiating_with one.place one.name (link_value entries one link) ≡ initiating_of entries one
initiating-said entries one link says = rw says refl

pub initiating-made : (numbers : Numbers) (draft : Draft) (definition : DraftDefinition) (senses left : List Sense) (link : Option DraftReference) (name : Text) (made : Option TreeId) → AreNumbers (entries_of draft) numbers → definition.kind ≡ kind.InitiatingEvent → definition.body ≡ body.Start link → name ≡ definition.name → Reads numbers senses left (flat_map references_in (link_outlines link)) (λ entries from. link_value entries from link) made → IsMade draft definition senses left (λ entries from. initiating_of entries from) (initiating_with definition.place name made)
initiating-made numbers draft definition senses left link name made are is says named read =
    made-by numbers draft definition senses left (flat_map references_in (link_outlines link)) (λ entries from. initiating_with definition.place name (link_value entries from link)) (λ entries from. initiating_of entries from) (initiating_with definition.place name made) are
    (reads-map numbers senses left (flat_map references_in (link_outlines link)) (λ entries from. link_value entries from link) made (initiating_with definition.place name) read)
    (references-said definition kind.InitiatingEvent (body.Start link) is says)
    (ap (λ n. initiating_with definition.place n (link_value (entries_of draft) (entry_of definition) link)) named ∙ initiating-said (entries_of draft) (entry_of definition) link says)
