-- A model with other basic events and house events keeps what is promised of a model, where members of groups stay and
-- each expression is one that an event may have.
use Rattle.std.proofs.Common.{◌≡◌, ◌==◌, ◌≤◌, ◌||◌, ℕ, suc, Bool, true, false, List, [], ◌∷◌, Option, Some, None, length, map, sum, not, refl, sym, ap, ◌∙◌, subst, arith}
use Rattle.std.proofs.lemmas.Bool.{eq-eqb}
use Rattle.std.proofs.lemmas.List.Elements.{All-cons, All-head, All-nil, All-tail, All-weaker}
use Rattle.std.proofs.lemmas.List.Folds.{list_any-append}
use Rattle.std.specs.Prelude.{All, IfSome, filter}
use Rattle.std.specs.List.{flat_map, list_all, list_any, range_with_len, slice_get}
use Rattle.psa_model.specs.declared.expression.Expression.{Expression}
use Rattle.psa_model.specs.declared.expression.Expression.TheFolds.{fold-Expression, fold-roll-Expression}
use Rattle.psa_model.specs.declared.expression.Expression.TheOpen.{Expression-F}
use Rattle.psa_model.specs.declared.expression.Expression.TheVariants as expression
use Rattle.psa_model.specs.declared.ids.EventId.{EventId}
use Rattle.psa_model.specs.declared.ids.Place.{Place}
use Rattle.psa_model.specs.declared.limits.TheConstants.{MAX_SIZE}
use Rattle.psa_model.specs.declared.model.BasicEvent.{BasicEvent}
use Rattle.psa_model.specs.declared.model.EventTree.{EventTree}
use Rattle.psa_model.specs.declared.model.Factor.{Factor}
use Rattle.psa_model.specs.declared.model.Group.{Group}
use Rattle.psa_model.specs.declared.model.House.{House}
use Rattle.psa_model.specs.declared.model.Model.{Model}
use Rattle.psa_model.specs.declared.model.NamedBranch.{NamedBranch}
use Rattle.psa_model.specs.declared.model.Parameter.{Parameter}
use Rattle.psa_model.specs.declared.model.RuleDefinition.{RuleDefinition}
use Rattle.psa_model.specs.declared.model.TheConstants.{MAX_DEPTH}
use Rattle.psa_model.specs.Models.{IsGroup, IsModel, IsNested, IsOfSize, IsSequence, IsValue, TreeStands, defined_members, is_at, is_without_value, members_of, model_size, expression_nesting_step}
use Rattle.psa_model.specs.Truth.{IsResolved}
use Rattle.psa_model.specs.Values.{value_within}
use Rattle.psa_model.specs.WalkLevels.{instruction_within, walk_within}
use Rattle.psa_number.specs.Scaled.{Scaled}
use Rattle.psa_model.proofs.ExpressionForms.{out-number}
use Rattle.psa_whatif.specs.Edits.{is_member}
use Rattle.psa_whatif.proofs.ChangedModels.{AreAsMany, changed, instructions-same, value-same, walk-same, within-same}

-- As many as before, each at its place; members of groups as before; and each expression is one of an event.
pub record AreAlike (m : Model) (bs : List BasicEvent) (hs : List House) : Type 0 where
  pub many : AreAsMany m bs hs
  pub places : (place : Place) (id : ℕ) → is_at place (slice_get bs id) ≡ is_at place (slice_get m.basics id)
  pub members : (id : ℕ) → is_member m id ≡ true → slice_get bs id ≡ slice_get m.basics id
  pub values : All (λ (b : BasicEvent). IfSome b.expression (IsValue m)) bs

-- an expression of an event stays one
value-kept : (m : Model) (bs : List BasicEvent) (hs : List House) (value : Expression)
    → IsValue m value → IsValue (changed m bs hs) value
value-kept m bs hs value is = (value-same m bs hs _ value ∙ is.0, is.1)

-- so does one that there may be
some-kept : (m : Model) (bs : List BasicEvent) (hs : List House) (found : Option Expression)
    → IfSome found (IsValue m) → IfSome found (IsValue (changed m bs hs))
some-kept m bs hs None is = tt
some-kept m bs hs (Some value) is = value-kept m bs hs value is

-- a number is an expression of an event
nested-number : (d : Scaled) → fold-Expression ℕ expression_nesting_step (expression.Number d) ≡ 1
nested-number d =
    ap (fold-Expression ℕ expression_nesting_step) (sym (expression.rolls-Number d))
    ∙ fold-roll-Expression ℕ expression_nesting_step (Expression-F.Number d)

within-number : (n : ℕ) (m : Model) (d : Scaled) → value_within (suc n) m (expression.Number d) ≡ true
unfolding value_within
within-number n m d = simp (out-number) refl

pub number-value : (m : Model) (d : Scaled) → IsValue m (expression.Number d)
number-value m d = (within-number 563 m d, (let nested = nested-number d in omega (arith, nested)))

-- the first of two holds, or the second
or-left : (a b : Bool) → a ≡ true → (a || b) ≡ true
or-left true b h = refl
or-left false b h = absurd (cc)

or-right : (a b : Bool) → b ≡ true → (a || b) ≡ true
or-right true b h = refl
or-right false b h = h

-- the members of a group stay without a value
members-kept : (bs olds : List BasicEvent) (ids : List EventId)
    → ((id : ℕ) → list_any (λ member. member == id) (map (λ (one : EventId). one.0) ids) ≡ true
    → slice_get bs id ≡ slice_get olds id)
    → All (λ (id : EventId). is_without_value (slice_get olds id.0) ≡ true) ids
    → All (λ (id : EventId). is_without_value (slice_get bs id.0) ≡ true) ids
members-kept bs olds [] same all = All-nil _
members-kept bs olds (id ∷ ids) same all =
    All-cons (λ (id : EventId). is_without_value (slice_get bs id.0) ≡ true) id ids
    (ap is_without_value (same id.0 (or-left (id.0 == id.0) _ (eq-eqb id.0 id.0 refl)))
    ∙ All-head (λ (id : EventId). is_without_value (slice_get olds id.0) ≡ true) id ids all)
    (members-kept bs olds ids (λ other h. same other (or-right (id.0 == other) _ h))
    (All-tail (λ (id : EventId). is_without_value (slice_get olds id.0) ≡ true) id ids all))

-- a group stays one
group-kept : (m : Model) (bs : List BasicEvent) (hs : List House) (group : Group)
    → ((id : ℕ) → list_any (λ member. member == id) (map (λ (one : EventId). one.0) group.members) ≡ true
    → slice_get bs id ≡ slice_get m.basics id)
    → IsGroup m group → IsGroup (changed m bs hs) group
group-kept m bs hs group same is = record {
  number = is.number;
  members = members-kept bs m.basics group.members same is.members;
  distribution = value-kept m bs hs group.distribution is.distribution;
  factors =
      All-weaker (λ (factor : Factor). IsValue m factor.expression)
      (λ (factor : Factor). IsValue (changed m bs hs) factor.expression)
      (λ factor h. value-kept m bs hs factor.expression h) group.factors is.factors;
  levels = is.levels;
}

-- all groups stay
groups-kept : (m : Model) (bs : List BasicEvent) (hs : List House) (groups : List Group)
    → ((id : ℕ) → list_any (λ member. member == id)
    (flat_map (λ (group : Group). map (λ (one : EventId). one.0) group.members) groups) ≡ true
    → slice_get bs id ≡ slice_get m.basics id)
    → All (IsGroup m) groups → All (IsGroup (changed m bs hs)) groups
groups-kept m bs hs [] same all = All-nil _
groups-kept m bs hs (group ∷ groups) same all =
    All-cons (IsGroup (changed m bs hs)) group groups
    (group-kept m bs hs group (λ id h. same id (list_any-append _ (map (λ (one : EventId). one.0) group.members) _
    ∙ or-left _ _ h)) (All-head (IsGroup m) group groups all))
    (groups-kept m bs hs groups (λ id h. same id (list_any-append _ (map (λ (one : EventId). one.0) group.members) _
    ∙ or-right (list_any (λ member. member == id) (map (λ (one : EventId). one.0) group.members)) _ h))
    (All-tail (IsGroup m) group groups all))

-- what references ask for stays
resolved-kept : (m : Model) (bs : List BasicEvent) (hs : List House) → AreAsMany m bs hs → IsResolved m
    → IsResolved (changed m bs hs)
resolved-kept m bs hs many is = record {
  gates = λ place gate found. within-same m bs hs many MAX_DEPTH gate.formula ∙ is.gates place gate found;
  trees = is.trees;
  formulas = λ place formula found. within-same m bs hs many MAX_DEPTH formula ∙ is.formulas place formula found;
}

-- nesting stays
nested-kept : (m : Model) (bs : List BasicEvent) (hs : List House) → IsNested m → IsNested (changed m bs hs)
nested-kept m bs hs is = record {
  gates = is.gates;
  formulas = is.formulas;
  parameters = is.parameters;
  rules = is.rules;
  sequences = is.sequences;
  event_trees = is.event_trees;
  branches = is.branches;
}

-- the model keeps what is promised of one
pub model-kept : (m : Model) (bs : List BasicEvent) (hs : List House) → AreAlike m bs hs → IsModel m
    → IsModel (changed m bs hs)
model-kept m bs hs alike is = record {
  resolved = resolved-kept m bs hs alike.many is.resolved;
  nested = nested-kept m bs hs is.nested;
  parameters =
      All-weaker (λ (p : Parameter). value_within MAX_DEPTH m p.expression ≡ true)
      (λ (p : Parameter). value_within MAX_DEPTH (changed m bs hs) p.expression ≡ true)
      (λ p h. value-same m bs hs MAX_DEPTH p.expression ∙ h) m.parameters is.parameters;
  basics =
      All-weaker (λ (b : BasicEvent). IfSome b.expression (IsValue m))
      (λ (b : BasicEvent). IfSome b.expression (IsValue (changed m bs hs)))
      (λ b h. some-kept m bs hs b.expression h) bs alike.values;
  groups = groups-kept m bs hs m.groups alike.members is.groups;
  apart = is.apart;
  order = record {
    basics = is.order.basics ∙ ap
        (λ (n : ℕ). filter (λ id. not (list_any (λ m. m == id) (members_of m))) (range_with_len 0 n))
        (sym alike.many.basics);
    groups = is.order.groups;
  };
  rules =
      All-weaker (λ (r : RuleDefinition). list_all (instruction_within MAX_DEPTH m) r.instructions ≡ true)
      (λ (r : RuleDefinition). list_all (instruction_within MAX_DEPTH (changed m bs hs)) r.instructions ≡ true)
      (λ r h. instructions-same m bs hs alike.many MAX_DEPTH r.instructions ∙ h) m.rules is.rules;
  event_trees =
      All-weaker (λ (t : EventTree). walk_within MAX_DEPTH m t.start ≡ true)
      (λ (t : EventTree). walk_within MAX_DEPTH (changed m bs hs) t.start ≡ true)
      (λ t h. walk-same m bs hs alike.many MAX_DEPTH t.start ∙ h) m.event_trees is.event_trees;
  functionals = is.functionals;
  sequences =
      All-weaker (IsSequence m) (IsSequence (changed m bs hs))
      (λ s h. record {
        instructions = instructions-same m bs hs alike.many MAX_DEPTH s.instructions ∙ h.instructions;
        tree = h.tree;
        link = h.link;
      }) m.sequences is.sequences;
  branches =
      All-weaker (λ (b : NamedBranch). (walk_within MAX_DEPTH m b.branch ≡ true) × TreeStands m b.tree)
      (λ (b : NamedBranch). (walk_within MAX_DEPTH (changed m bs hs) b.branch ≡ true) × TreeStands m b.tree)
      (λ b h. (walk-same m bs hs alike.many MAX_DEPTH b.branch ∙ h.0, h.1)) m.branches is.branches;
  initiatings = is.initiatings;
}

-- as many members are defined by their groups
defined-same : (m : Model) (bs : List BasicEvent) (hs : List House) → AreAlike m bs hs
    → defined_members (changed m bs hs) ≡ defined_members m
defined-same m bs hs alike =
    ap (λ (count : Group → ℕ). sum (map count m.groups))
    (λ i group. length (filter (λ id. alike.places group.place id.0 i) group.members))

-- the size stays
pub size-kept : (m : Model) (bs : List BasicEvent) (hs : List House) → AreAlike m bs hs → IsOfSize m
    → IsOfSize (changed m bs hs)
size-kept m bs hs alike few = subst (λ (n : ℕ). n ≤ MAX_SIZE) (sym same) few
  where
    same : model_size (changed m bs hs) ≡ model_size m
    same =
        let defined = defined-same m bs hs alike in
        let basics = alike.many.basics in
        let houses = alike.many.houses in
        cc
