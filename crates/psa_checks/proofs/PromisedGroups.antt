-- The groups, basic events and collected formulas of a model have what is promised of them.
use Rattle.std.proofs.Common.{◌≡◌, inl, inr, ◌≤◌, ◌==◌, ℕ, true, List, [], ◌∷◌, ◌++◌, Option, Some, None, map, length, refl, sym, ap, ◌∙◌, subst, arith}
use Rattle.std.proofs.lemmas.Bool.{and_parts, and_from, leb-true}
use Rattle.std.proofs.lemmas.List.{length-map}
use Rattle.std.specs.Prelude.{IfSome, nat_le, is_none}
use Rattle.std.specs.List.{slice_get, filter, range_with_len, All}
use Rattle.std.specs.Option.{option_map}
use Rattle.psa_model.specs.declared.draft.DefinitionKind.TheVariants as kind
use Rattle.psa_model.specs.declared.draft.DraftBody.{DraftBody}
use Rattle.psa_model.specs.declared.draft.DraftBody.TheVariants as body
use Rattle.psa_model.specs.declared.draft.DraftBranch.{DraftBranch}
use Rattle.psa_model.specs.declared.draft.DraftExpression.{DraftExpression}
use Rattle.psa_model.specs.declared.draft.DraftFactor.{DraftFactor}
use Rattle.psa_model.specs.declared.draft.DraftFormula.{DraftFormula}
use Rattle.psa_model.specs.declared.draft.DraftGroup.{DraftGroup}
use Rattle.psa_model.specs.declared.draft.DraftReference.{DraftReference}
use Rattle.psa_model.specs.declared.expression.Expression.{Expression}
use Rattle.psa_model.specs.declared.formula.Formula.{Formula}
use Rattle.psa_model.specs.declared.ids.EventId.{EventId}
use Rattle.psa_model.specs.declared.limits.TheConstants.{MAX_NESTING, MIN_MEMBERS, MAX_MEMBERS}
use Rattle.psa_model.specs.declared.model.BasicEvent.{BasicEvent}
use Rattle.psa_model.specs.declared.model.Factor.{Factor}
use Rattle.psa_model.specs.declared.model.TheConstants.{MAX_DEPTH}
use Rattle.psa_model.specs.Drafts.{Contents, has_body, expression_contents, some_reference}
use Rattle.psa_model.specs.Models.{IsGroup, IsValue, formula_nesting, is_without_value, levels_of, are_different}
use Rattle.psa_model.specs.Models.{members_of as model_members}
use Rattle.psa_model.specs.Truth.{within}
use Rattle.psa_names.specs.Outlines.{Outline, Entry, Entries, expression_outline}
use Rattle.psa_names.specs.Ids.{basic_id}
use Rattle.psa_names.specs.Meanings.{Meaning, members_of}
use Rattle.psa_names.specs.GroupRules.{has_levels}
use Rattle.psa_names.specs.Resolved.{resolved_formula, resolved_expression}
use Rattle.psa_names.specs.Collected.{collected_in, branch_collected, by_contents}
use Rattle.psa_names.specs.ModelOfDraft.{model_from, member_ids, factor_of, group_of}
use Rattle.psa_names.proofs.ListPlaces.{Has, has-none, has-cases, from-map, from-flat, from-kept, all-at, All-from, all-append}
use Rattle.psa_checks.proofs.KindForms.{basic-body, group-body, body-steps, body-walk}
use Rattle.psa_checks.proofs.Definitions.{AreEntries}
use Rattle.psa_checks.proofs.SoundElements.{all_stand, entry-sound}
use Rattle.psa_checks.proofs.ExpressionLevels.{expression_by, parameters-within, Shallow, value-within}
use Rattle.psa_checks.proofs.WalkLevels.{tree-sound}
use Rattle.psa_names.proofs.ContentsSorted.{from-by}
use Rattle.psa_checks.proofs.BodyNesting.{expression-nested}
use Rattle.psa_checks.proofs.CollectedNesting.{branch-collected-nested}
use Rattle.psa_checks.proofs.CollectedLevels.{resolves_within, branch-resolves}
use Rattle.psa_checks.proofs.FactorLevels.{model-levels}
use Rattle.psa_checks.proofs.BasicEvents.{all_pairs, pair-cases, pair-events}
use Rattle.psa_checks.proofs.AllowedGroups.{group-allowed}
use Rattle.psa_checks.proofs.GroupMembers.{member_list, member-ids, member-is, present-length}
use Rattle.psa_checks.proofs.MembersDiffer.{all_members, all-distinct, member-among, ids-different}
use Rattle.psa_checks.proofs.ModelMembers.{group_by, group-says, model-members}
use Rattle.psa_model.proofs.Levels.{within-more}
use Rattle.psa_names.specs.GroupRules.{body_has_levels, meanings_of_members}
use Rattle.psa_checks.proofs.PromisedDefinitions.{its-body, its-levels, its-nesting, its-numbers, parts-shallow, parts-numbers, body-stands, IsCollected, steps-collect, walk-collect}

-- ---- collected formulas

tree-collect : (entries : Entries) (place : ℕ) (one : Entry) (b : DraftBranch) → AreEntries entries
    → slice_get entries place ≡ Some one → one.kind ≡ kind.EventTree → one.body ≡ body.Walk b → (f : DraftFormula)
    → Has (branch_collected MAX_NESTING b) f → IsCollected entries one f
tree-collect entries place one b are there is body_is f here =
    let whole = entry-sound entries MAX_DEPTH place one kind.EventTree (body.Walk b) (are place one there) is body_is
    (its-levels entries place one kind.EventTree are there is refl) in
    let fine = tree-sound entries 499 one b whole in
    let fewer = all-at (resolves_within 499 entries one) (branch_collected MAX_NESTING b) f
    (branch-resolves MAX_NESTING entries are 499 one b fine) here in (
      within-more 499 (model_from entries) (resolved_formula entries one f) fewer,
      leb-true (formula_nesting (resolved_formula entries one f)) MAX_NESTING
          (all-at (λ g. nat_le (formula_nesting (resolved_formula entries one g)) MAX_NESTING)
          (branch_collected MAX_NESTING b) f (branch-collected-nested MAX_NESTING MAX_NESTING entries one b
          (its-nesting entries place one (body.Walk b) are there body_is)) here),
    )

body-collect : (entries : Entries) (place : ℕ) (one : Entry) (its : DraftBody) → AreEntries entries
    → slice_get entries place ≡ Some one → one.body ≡ its → (f : DraftFormula) → Has (collected_in its) f
    → IsCollected entries one f
body-collect entries place one (body.Steps all link) are there is f here =
    elim (body-steps one.kind all link (subst (λ (b : DraftBody). has_body one.kind b ≡ true) is
    (are place one there).body)) [
      | inl sequence ↦ steps-collect entries place one kind.Sequence all link are there sequence refl refl is f here
      | inr rule ↦ steps-collect entries place one kind.Rule all link are there rule refl refl is f here
    ]
body-collect entries place one (body.Walk b) are there is f here =
    elim (body-walk one.kind b (subst (λ (x : DraftBody). has_body one.kind x ≡ true) is
    (are place one there).body)) [
      | inl tree ↦ tree-collect entries place one b are there tree is f here
      | inr named ↦ walk-collect entries place one b are there is
          (entry-sound entries MAX_DEPTH place one kind.Branch (body.Walk b) (are place one there) named is
          (its-levels entries place one kind.Branch are there named refl)) f here
    ]
body-collect entries place one body.Nothing are there is f here = absurd (has-none f here)
body-collect entries place one (body.Formula x) are there is f here = absurd (has-none f here)
body-collect entries place one (body.Value x) are there is f here = absurd (has-none f here)
body-collect entries place one (body.State x) are there is f here = absurd (has-none f here)
body-collect entries place one (body.Group x) are there is f here = absurd (has-none f here)
body-collect entries place one (body.Start x) are there is f here = absurd (has-none f here)

-- each collected formula of the model
pub formula-parts : (entries : Entries) → AreEntries entries → (g : Formula) → Has (model_from entries).formulas g
    → (within MAX_DEPTH (model_from entries) g ≡ true) × (formula_nesting g ≤ MAX_NESTING)
formula-parts entries are g here =
    let r = from-flat (λ (one : Entry). map (resolved_formula entries one) (collected_in one.body))
    (by_contents entries) g here in
    let at = from-by entries r.0 r.1 in
    let f = from-map (resolved_formula entries r.0) (collected_in r.0.body) g r.2 in
    let c = body-collect entries at.0 r.0 r.0.body are at.1 refl f.0 f.1 in
    subst (λ (x : Formula). (within MAX_DEPTH (model_from entries) x ≡ true) × (formula_nesting x ≤ MAX_NESTING))
    f.2 c

-- ---- values

value-is : (entries : Entries) (one : Entry) (e : DraftExpression) → AreEntries entries
    → Shallow entries MAX_NESTING one (expression_outline e ∷ []) (expression_contents e ∷ [])
    → IsValue (model_from entries) (resolved_expression entries one e)
value-is entries one e are fine = (
  value-within MAX_DEPTH MAX_NESTING entries one (parameters-within entries are) e fine,
  expression-nested MAX_NESTING entries one e fine.nested,
)

basic-value : (entries : Entries) (place : ℕ) (one : Entry) (value : Option DraftExpression) → AreEntries entries
    → slice_get entries place ≡ Some one → one.kind ≡ kind.BasicEvent → one.body ≡ body.Value value
    → IfSome (option_map (resolved_expression entries one) value) (IsValue (model_from entries))
basic-value entries place one None are there is body_is = tt
basic-value entries place one (Some e) are there is body_is =
    let shallow = parts-shallow MAX_NESTING (expression_contents e ∷ [])
    (its-nesting entries place one (body.Value (Some e)) are there body_is) in
    let numbers = parts-numbers (expression_contents e ∷ [])
    (its-numbers entries place one (body.Value (Some e)) are there body_is) in
    value-is entries one e are (record {
      stand = body-stands entries place one kind.BasicEvent (body.Value (Some e))
          are there is body_is;
      numbers = numbers;
      nested = shallow;
    })

-- the expression of each basic event
pub basics-parts : (entries : Entries) → AreEntries entries
    → All (λ (basic : BasicEvent). IfSome basic.expression (IsValue (model_from entries))) (model_from entries).basics
basics-parts entries are = All-from (λ (basic : BasicEvent). IfSome basic.expression (IsValue (model_from entries)))
    (model_from entries).basics (λ basic here.
    (let listed = subst (λ (all : List BasicEvent). Has all basic) (sym (pair-events entries)) here in
    let r = from-map (λ (p : Meaning × BasicEvent). p.1) (all_pairs entries) basic listed in
    subst (λ (x : BasicEvent). IfSome x.expression (IsValue (model_from entries))) r.2 (
    elim (pair-cases entries r.0 r.1) [
      | inl own ↦
          let b = basic-body own.one.body (its-body entries own.place own.one kind.BasicEvent are own.there own.is) in
          let says : r.0.1.expression ≡ option_map (resolved_expression entries own.one) b.0 =
          ap (λ (p : Meaning × BasicEvent). p.1.expression) own.pair_is
          ∙ ap (expression_by entries own.one) b.1 in
          subst (λ (o : Option Expression). IfSome o (IsValue (model_from entries))) (sym says)
          (basic-value entries own.place own.one b.0 are own.there own.is b.1)
      | inr of ↦
          let says : r.0.1.expression ≡ None = ap (λ (p : Meaning × BasicEvent). p.1.expression) of.pair_is in
          subst (λ (o : Option Expression). IfSome o (IsValue (model_from entries))) (sym says) tt
    ])))

-- ---- groups

-- the expressions of a group
group-shallow : (entries : Entries) (place : ℕ) (one : Entry) (group : DraftGroup) → AreEntries entries
    → slice_get entries place ≡ Some one → one.kind ≡ kind.Group → one.body ≡ body.Group group
    → Shallow entries MAX_NESTING one (expression_outline group.distribution ∷ map
    (λ (f : DraftFactor). expression_outline f.expression) group.factors)
    (expression_contents group.distribution ∷ map (λ (f : DraftFactor). expression_contents f.expression)
    group.factors)
group-shallow entries place one group are there is body_is =
    let members = map (λ (m : DraftReference). some_reference (Some m)) group.members in
    let rest = expression_contents group.distribution ∷ map (λ (f : DraftFactor). expression_contents f.expression)
    group.factors in
    let shallow = all-append (λ (c : Contents). nat_le c.nesting MAX_NESTING) members rest
    (parts-shallow MAX_NESTING (members ++ rest)
    (its-nesting entries place one (body.Group group) are there body_is)) in
    let numbers = all-append (λ (c : Contents). c.has_numbers) members rest
    (parts-numbers (members ++ rest) (its-numbers entries place one (body.Group group) are there body_is)) in
    record {
      stand = body-stands entries place one kind.Group (body.Group group) are there is body_is;
      numbers = numbers.1;
      nested = shallow.1;
    }

shallow-first : (entries : Entries) (levels : ℕ) (one : Entry) (o : Outline) (os : List Outline) (c : Contents)
    (cs : List Contents) → Shallow entries levels one (o ∷ os) (c ∷ cs)
    → Shallow entries levels one (o ∷ []) (c ∷ []) × Shallow entries levels one os cs
shallow-first entries levels one o os c cs fine =
    let stand = and_parts (all_stand entries one o) _ fine.stand in
    let numbers = and_parts c.has_numbers _ fine.numbers in
    let nested = and_parts (nat_le c.nesting levels) _ fine.nested in (
      record {
        stand = and_from _ true stand.0 refl;
        numbers = and_from _ true numbers.0 refl;
        nested = and_from _ true nested.0 refl;
      },
      record { stand = stand.1; numbers = numbers.1; nested = nested.1 },
    )

factor-shallow : (entries : Entries) (one : Entry) (factors : List DraftFactor) (factor : DraftFactor)
    → Has factors factor → Shallow entries MAX_NESTING one
    (map (λ (f : DraftFactor). expression_outline f.expression) factors)
    (map (λ (f : DraftFactor). expression_contents f.expression) factors)
    → Shallow entries MAX_NESTING one (expression_outline factor.expression ∷ [])
    (expression_contents factor.expression ∷ [])
factor-shallow entries one [] factor here fine = absurd (has-none factor here)
factor-shallow entries one (f ∷ factors) factor here fine =
    let parts = shallow-first entries MAX_NESTING one (expression_outline f.expression) _
    (expression_contents f.expression) _ fine in
    elim (has-cases f factor factors here) [
      | inl same ↦ subst (λ (x : DraftFactor). Shallow entries MAX_NESTING one (expression_outline x.expression ∷ [])
          (expression_contents x.expression ∷ [])) same parts.0
      | inr later ↦ factor-shallow entries one factors factor later parts.1
    ]

group-is : (entries : Entries) (place : ℕ) (one : Entry) (group : DraftGroup) → AreEntries entries
    → slice_get entries place ≡ Some one → one.kind ≡ kind.Group → one.body ≡ body.Group group
    → IsGroup (model_from entries) (group_by entries one (body.Group group))
group-is entries place one group are there is body_is =
    let allowed = group-allowed entries place one (are place one there) is in
    let least = allowed.least in
    let most = allowed.most in
    let meanings : length (meanings_of_members entries one) ≡ length group.members = length-map _ _
    ∙ ap (λ (b : DraftBody). length (members_of b)) body_is in
    let somes_count = present-length entries (meanings_of_members entries one) allowed.can_be in
    let ids : length (member_ids entries one) ≡ length (member_list entries one) = ap length (member-ids entries one)
    ∙ length-map (member_list entries one) (basic_id entries) in
    let count : length (group_by entries one (body.Group group)).members ≡ length group.members =
    length-map (member_ids entries one) (λ id. record { 0 = id }) ∙ ids ∙ somes_count ∙ meanings in
    let shallow = shallow-first entries MAX_NESTING one (expression_outline group.distribution) _
    (expression_contents group.distribution) _ (group-shallow entries place one group are there is body_is) in
    let levels : has_levels group.model (length group.members) group.factors ≡ true =
    subst (λ (b : DraftBody). body_has_levels b ≡ true) body_is allowed.levels in
    let few : MIN_MEMBERS ≤ length group.members = omega (arith, least, meanings) in
    let many : length group.members ≤ MAX_MEMBERS = omega (arith, most, meanings) in
    record {
      number = (omega (arith, few, count), omega (arith, many, count));
      members = All-from (λ (id : EventId). is_without_value (slice_get (model_from entries).basics id.0) ≡ true)
          (group_by entries one (body.Group group)).members (λ id here.
          (let a = from-map (λ (i : ℕ). record { 0 = i }) (member_ids entries one) id here in
          let listed = subst (λ (all : List ℕ). Has all a.0) (member-ids entries one) a.1 in
          let m = from-map (basic_id entries) (member_list entries one) a.0 listed in
          let p = member-is entries are one allowed.can_be m.0 m.1 in
          let at : slice_get (model_from entries).basics id.0 ≡ Some p.0 =
          ap (λ (e : EventId). slice_get (model_from entries).basics e.0) (sym a.2)
          ∙ ap (slice_get (model_from entries).basics) (sym m.2) ∙ p.1.0 in
          ap is_without_value at ∙ ap (λ (e : Option Expression). is_none e) p.1.1));
      distribution = value-is entries one group.distribution are shallow.0;
      factors = All-from (λ (factor : Factor). IsValue (model_from entries) factor.expression)
          (group_by entries one (body.Group group)).factors (λ factor here.
          (let r = from-flat (λ (level : ℕ). filter (λ (f : Factor). f.level == level)
          (map (factor_of entries one (length group.members)) group.factors)) (range_with_len 1 MAX_MEMBERS)
          factor here in
          let k = from-kept (λ (f : Factor). f.level == r.0)
          (map (factor_of entries one (length group.members)) group.factors) factor r.2 in
          let f = from-map (factor_of entries one (length group.members)) group.factors factor k.0 in
          subst (λ (x : Factor). IsValue (model_from entries) x.expression) f.2
          (value-is entries one f.0.expression are (factor-shallow entries one group.factors f.0 f.1
          shallow.1))));
      levels = model-levels group.model (length group.members) group.factors
          (factor_of entries one (length group.members)) (λ f. refl) levels few many
          ∙ ap (levels_of group.model) (sym count);
    }

-- each group of the model
pub group-parts : (entries : Entries) (place : ℕ) (one : Entry) → AreEntries entries
    → slice_get entries place ≡ Some one → one.kind ≡ kind.Group → IsGroup (model_from entries) (group_of entries one)
group-parts entries place one are there is =
    let b = group-body one.body (its-body entries place one kind.Group are there is) in
    subst (IsGroup (model_from entries)) (sym (group-says entries one (body.Group b.0) b.1))
    (group-is entries place one b.0 are there is b.1)

-- the members of all groups differ
pub members-differ : (entries : Entries) → AreEntries entries
    → are_different (model_members (model_from entries)) ≡ true
members-differ entries are =
    ap are_different (model-members entries) ∙ ids-different entries (all_members entries) (all-distinct entries are)
    (member-among entries are)
