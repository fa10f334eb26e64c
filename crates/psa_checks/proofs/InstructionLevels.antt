-- Instructions of a draft within so many levels are within as many in the model.
use Rattle.std.proofs.Common.{◌≡◌, ◌==◌, ◌+◌, ℕ, zero, suc, true, List, [], ◌∷◌, ◌++◌, Option, Some, None, map, length, ◌&&◌, refl, sym, ap, ap₂, ◌∙◌, subst, arith}
use Rattle.std.proofs.lemmas.Bool.{and_parts, and_from, lt-ltb}
use Rattle.std.proofs.lemmas.List.{length-map}
use Rattle.std.proofs.lemmas.Option.{slice_get_within}
use Rattle.std.specs.Prelude.{nat_le}
use Rattle.std.specs.List.{slice_get, list_all, flat_map}
use Rattle.psa_model.specs.declared.model.RuleDefinition.{RuleDefinition}
use Rattle.psa_model.specs.declared.walks.Instruction.{Instruction}
use Rattle.psa_model.specs.declared.draft.DefinitionKind.TheVariants as kind
use Rattle.psa_model.specs.declared.draft.EventKind.TheVariants as asked
use Rattle.psa_model.specs.declared.draft.DraftBody.{DraftBody}
use Rattle.psa_model.specs.declared.draft.DraftBody.TheVariants as body
use Rattle.psa_model.specs.declared.draft.DraftReference.{DraftReference}
use Rattle.psa_model.specs.declared.draft.DraftFormula.{DraftFormula}
use Rattle.psa_model.specs.declared.draft.DraftInstruction.{DraftInstruction, out-DraftInstruction}
use Rattle.psa_model.specs.declared.draft.DraftInstruction.TheOpen.{DraftInstruction-F}
use Rattle.psa_model.specs.declared.draft.DraftInstruction.TheFolds.{map-DraftInstruction}
use Rattle.psa_model.specs.Drafts.{element as element_contents}
use Rattle.psa_model.specs.Drafts.{Contents, together, has_body, some_reference, instruction_contents, instruction_step, formula_contents}
use Rattle.psa_model.specs.WalkLevels.{instruction_within}
use Rattle.psa_model.proofs.WalkForms.{out-collect, out-set, out-rule, out-block, out-if}
use Rattle.psa_names.specs.Outlines.{Outline, Entry, Entries, event, rule, formula_outline, plain, instruction_outline, link_outlines}
use Rattle.psa_names.specs.Outlines.{instruction_layer as outline_layer}
use Rattle.psa_names.specs.Chains.{is_within}
use Rattle.psa_names.specs.Resolved.{resolved_formula, resolved_test}
use Rattle.psa_names.specs.Ids.{referred_id}
use Rattle.psa_names.specs.Collected.{Collecting, collected_by, collected_layer, collected_in, collected_before, total_size, all_behind, resolved_instruction, resolved_instruction_layer}
use Rattle.psa_names.specs.ModelOfDraft.{model_from, instructions_in, steps_in}
use Rattle.psa_names.proofs.ListPlaces.{all-append, all-joined}
use Rattle.psa_checks.proofs.KindForms.{rule-body}
use Rattle.psa_checks.proofs.Definitions.{AreEntries}
use Rattle.psa_checks.proofs.ReferencesStand.{rule-meant, house-meant, referred-at, leads-on}
use Rattle.psa_checks.proofs.SoundElements.{IsSound, all_stand, some-level, inside, sound-parts, entry-sound, together-numbers}
use Rattle.psa_checks.proofs.FormulaLevels.{formula-within, house_of}
use Rattle.psa_checks.proofs.TestLevels.{test-within}
use Rattle.psa_checks.proofs.CollectedPlaces.{StandFrom, CollectedStand, stand-left, stand-right, flat-own, collected-of, resolved-of, layer-sound, block-parts, if-parts, total, instruction-size}

-- each instruction of these levels, behind so many collected formulas that stand in the model, is within as many there
abbrev pub InstructionsAt : Entries → ℕ → Type 0
InstructionsAt entries levels = (from : Entry) (number : ℕ) (i : DraftInstruction)
    → IsSound entries levels from (instruction_outline i ∷ []) (instruction_contents i ∷ [])
    → StandFrom entries from number (collected_by i)
    → instruction_within levels (model_from entries) ((resolved_instruction entries from i).behind number) ≡ true

-- instructions one after another
pub each-within : (levels : ℕ) (entries : Entries) (from : Entry) → InstructionsAt entries levels
    → (number : ℕ) (all : List DraftInstruction)
    → IsSound entries levels from (map instruction_outline all) (map instruction_contents all)
    → StandFrom entries from number (flat_map (λ fs. fs) (map collected_by all))
    → list_all (λ i. instruction_within levels (model_from entries) i)
    (all_behind number (map (resolved_instruction entries from) all)) ≡ true
each-within levels entries from at number [] fine sits = refl
each-within levels entries from at number (i ∷ all) fine sits =
    let parts = sound-parts entries levels from (instruction_outline i ∷ []) (map instruction_outline all)
    (instruction_contents i ∷ []) (map instruction_contents all) fine in
    let rest = flat_map (λ fs. fs) (map collected_by all) in
    let later = each-within levels entries from at (number + length (collected_by i)) all parts.1
    (stand-right entries from number (collected_by i) rest sits) in
    let size = instruction-size levels entries from i parts.0 in
    and_from _ _
    (at from number i parts.0 (stand-left entries from number (collected_by i) rest sits))
    (subst (λ (n : ℕ). list_all (λ i. instruction_within levels (model_from entries) i)
    (all_behind (number + n) (map (resolved_instruction entries from) all)) ≡ true) (sym size) later)

-- there are as many behind collected formulas
pub length-behind : {A : Type 0} (number : ℕ) (all : List (Collecting A))
    → length (all_behind number all) ≡ length all
length-behind number [] = refl
length-behind number (one ∷ others) = ap suc (length-behind (number + one.size) others)

-- the instructions of a definition
pub steps-sound : (entries : Entries) (levels : ℕ) (from : Entry) (all : List DraftInstruction)
    (link : Option DraftReference) → IsSound entries levels from (map instruction_outline all ++ link_outlines link)
    (together (map instruction_contents all ++ some_reference link ∷ []) ∷ [])
    → IsSound entries levels from (map instruction_outline all) (map instruction_contents all) × IsSound entries levels from
    (link_outlines link) []
steps-sound entries levels from all link fine =
    let within = all-append (is_within levels entries from) (map instruction_outline all) (link_outlines link)
    fine.within in
    let stand = all-append (all_stand entries from) (map instruction_outline all) (link_outlines link) fine.stand in
    let both = sym (together-numbers (map instruction_contents all ++ some_reference link ∷ []))
    ∙ (and_parts _ true fine.numbers).0 in
    let numbers = all-append (λ (one : Contents). one.has_numbers) (map instruction_contents all)
    (some_reference link ∷ []) both in (
      record { within = within.0; stand = stand.0; numbers = numbers.0 },
      record { within = within.1; stand = stand.1; numbers = refl },
    )

-- the instructions of a definition are within the levels
pub steps-within : (levels place : ℕ) (entries : Entries) (one : Entry) (all : List DraftInstruction)
    (link : Option DraftReference) → CollectedStand entries → InstructionsAt entries levels
    → slice_get entries place ≡ Some one → one.body ≡ body.Steps all link
    → IsSound entries levels one (map instruction_outline all) (map instruction_contents all)
    → list_all (λ i. instruction_within levels (model_from entries) i) (instructions_in entries one) ≡ true
steps-within levels place entries one all link sit at there is fine =
    let sits = subst (λ (b : DraftBody). StandFrom entries one (collected_before entries one) (collected_in b)) is
    (sit place one there) in
    let own = subst (λ (fs : List DraftFormula). StandFrom entries one (collected_before entries one) fs)
    (sym (flat-own collected_by all)) sits in
    ap (λ (b : DraftBody). list_all (λ i. instruction_within levels (model_from entries) i)
    (all_behind (collected_before entries one) (map (resolved_instruction entries one) (steps_in b)))) is
    ∙ each-within levels entries one at (collected_before entries one) all fine own

-- ---- one layer

-- the rule that a definition is in the model
abbrev pub rule_of : Entries → Entry → RuleDefinition
rule_of entries one = record { name = one.name; place = one.place; instructions = instructions_in entries one }

layer-within : (levels : ℕ) (entries : Entries) (from : Entry) (number : ℕ) → AreEntries entries → CollectedStand entries
    → InstructionsAt entries levels → (x : DraftInstruction-F DraftInstruction)
    → IsSound entries (suc levels) from (outline_layer
    (map-DraftInstruction DraftInstruction Outline instruction_outline x) ∷ [])
    (instruction_step (map-DraftInstruction DraftInstruction Contents instruction_contents x) ∷ [])
    → StandFrom entries from number (collected_layer
    (map-DraftInstruction DraftInstruction (List DraftFormula) collected_by x))
    → instruction_within (suc levels) (model_from entries)
    ((resolved_instruction_layer entries from
    (map-DraftInstruction DraftInstruction (Collecting Instruction) (resolved_instruction entries from) x)).behind
    number) ≡ true
unfolding instruction_within
layer-within levels entries from number are sit below (DraftInstruction-F.Collect f) fine sits =
    let whole : IsSound entries (suc levels) from (plain (formula_outline f ∷ []) ∷ [])
    (element_contents true None (formula_contents f ∷ []) ∷ []) =
    record { within = fine.within; stand = fine.stand; numbers = fine.numbers } in
    let inner = inside entries levels from None (formula_outline f ∷ []) true None (formula_contents f ∷ []) whole in
    let same : number ≡ number + 0 = omega arith in
    let at : slice_get (model_from entries).formulas number ≡ Some (resolved_formula entries from f) =
    ap (slice_get (model_from entries).formulas) same ∙ sits 0 f refl in
    rw (out-collect (record { 0 = number }), at) (formula-within levels entries are from f inner.fine)
layer-within levels entries from number are sit below (DraftInstruction-F.SetHouse name state) fine sits =
    let inner = inside entries levels from (Some (record { kind = event asked.House; written = name }))
    (plain [] ∷ []) true (Some name) [] fine in
    let m = house-meant entries from name (and_parts _ true inner.own).0 in
    let id = referred_id kind.HouseEvent (event asked.House) entries from name in
    let at = referred-at entries from kind.HouseEvent (event asked.House) name (λ one. house_of one.1) m refl in
    rw (out-set (record { 0 = id }) state) (lt-ltb id _ (slice_get_within (model_from entries).houses id _ at))
layer-within levels entries from number are sit below (DraftInstruction-F.Block all) fine sits =
    rw (out-block (all_behind number (map (resolved_instruction entries from) all)))
    (each-within levels entries from below number all (block-parts entries levels from all fine) sits)
layer-within levels entries from number are sit below (DraftInstruction-F.Rule name) fine sits =
    let inner = inside entries levels from (Some (record { kind = rule; written = name })) [] true (Some name)
    [] fine in
    let m = rule-meant entries from name (and_parts _ true inner.own).0 in
    let id = referred_id kind.Rule rule entries from name in
    let at = referred-at entries from kind.Rule rule name (λ one. rule_of entries one.1) m refl in
    let on = leads-on entries from kind.Rule rule name
    (λ to. list_all (λ one. is_within levels entries to one) to.outlines) m refl inner.on in
    let entry = are m.place m.one m.there in
    let b = rule-body m.one.body (subst (λ k. has_body k m.one.body ≡ true) m.is entry.body) in
    let own = entry-sound entries levels m.place m.one kind.Rule (body.Steps b.0 None) entry m.is b.1 on in
    rw (out-rule (record { 0 = id }), at) (steps-within levels m.place entries m.one b.0 None sit below m.there b.1
    (steps-sound entries levels m.one b.0 None own).0)
layer-within levels entries from number are sit below (DraftInstruction-F.If test first second) fine sits =
    let parts = if-parts entries levels from test first second fine in
    let firsts = flat_map (λ fs. fs) (map collected_by first) in
    let seconds = flat_map (λ fs. fs) (map collected_by second) in
    let one = all_behind number (map (resolved_instruction entries from) first) in
    let other = all_behind (number + total_size (map (resolved_instruction entries from) first))
    (map (resolved_instruction entries from) second) in
    let size = total levels entries from (instruction-size levels entries) first parts.2 in
    let first_within = each-within levels entries from below number first parts.2
    (stand-left entries from number firsts seconds sits) in
    let later = each-within levels entries from below (number + length firsts) second parts.3
    (stand-right entries from number firsts seconds sits) in
    let second_within : list_all (λ i. instruction_within levels (model_from entries) i) other ≡ true =
    subst (λ (n : ℕ). list_all (λ i. instruction_within levels (model_from entries) i)
    (all_behind (number + n) (map (resolved_instruction entries from) second)) ≡ true) (sym size) later in
    let length_first : length one ≡ length (map instruction_contents first) =
    length-behind number (map (resolved_instruction entries from) first)
    ∙ length-map first (resolved_instruction entries from) ∙ sym (length-map first instruction_contents) in
    let length_second : length other ≡ length (map instruction_contents second) =
    length-behind _ (map (resolved_instruction entries from) second)
    ∙ length-map second (resolved_instruction entries from) ∙ sym (length-map second instruction_contents) in
    let numbers : (length one == 1 && nat_le (length other) 1) ≡ true =
    ap₂ (λ (a b : ℕ). a == 1 && nat_le b 1) length_first length_second ∙ parts.0 in
    rw (out-if (resolved_test entries from test) one other)
    (and_from _ _ numbers (and_from _ _ (test-within levels entries are from test parts.1)
    (all-joined _ one other first_within second_within)))

-- an instruction within some levels in a definition is within as many in the model
pub instruction-within : (levels : ℕ) (entries : Entries) → AreEntries entries → CollectedStand entries
    → InstructionsAt entries levels
instruction-within zero entries are sit from number i fine sits = absurd (some-level entries from _ [] _ fine)
instruction-within (suc levels) entries are sit from number i fine sits =
    let own = subst (λ (fs : List DraftFormula). StandFrom entries from number fs) (collected-of i) sits in
    ap (λ (c : Collecting Instruction). instruction_within (suc levels) (model_from entries) (c.behind number))
    (resolved-of entries from i)
    ∙ layer-within levels entries from number are sit (instruction-within levels entries are sit)
    (out-DraftInstruction i) (layer-sound entries (suc levels) from i fine) own
