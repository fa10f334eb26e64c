-- Where collected formulas stand in the model, and how many an instruction collects.
use Rattle.std.proofs.Common.{◌≡◌, ◌==◌, ◌+◌, ℕ, zero, suc, true, List, [], ◌∷◌, ◌++◌, Some, None, map, length, ◌&&◌, refl, sym, ap, ap₂, ◌∙◌, subst, arith}
use Rattle.std.proofs.lemmas.List.{length-append}
use Rattle.std.proofs.lemmas.List.Sums.{sum_by-cons}
use Rattle.std.specs.Prelude.{nat_le}
use Rattle.std.specs.List.{slice_get, flat_map}
use Rattle.psa_model.specs.declared.walks.Instruction.{Instruction}
use Rattle.psa_model.specs.declared.draft.DraftFormula.{DraftFormula}
use Rattle.psa_model.specs.declared.draft.DraftInstruction.{DraftInstruction, out-DraftInstruction}
use Rattle.psa_model.specs.declared.draft.DraftInstruction.TheOpen.{DraftInstruction-F}
use Rattle.psa_model.specs.declared.draft.DraftInstruction.TheFolds.{fold_out-DraftInstruction, map-DraftInstruction}
use Rattle.psa_model.specs.declared.draft.DraftTest.{DraftTest}
use Rattle.psa_model.specs.Drafts.{Contents, instruction_contents, instruction_step, test_contents}
use Rattle.psa_names.specs.Outlines.{Outline, Entry, Entries, test_outline, instruction_outline}
use Rattle.psa_names.specs.Outlines.{instruction_layer as outline_layer}
use Rattle.psa_names.specs.Resolved.{resolved_formula}
use Rattle.psa_names.specs.Collected.{Collecting, collected_by, collected_layer, collected_in, collected_before, total_size, resolved_instruction, resolved_instruction_layer}
use Rattle.psa_names.specs.ModelOfDraft.{model_from}
use Rattle.psa_names.proofs.ListPlaces.{get-left, get-right}
use Rattle.psa_checks.proofs.SoundElements.{IsSound, some-level, inside, sound-parts}

-- these formulas of a definition stand in the model, from a place on
abbrev pub StandFrom : Entries → Entry → ℕ → List DraftFormula → Type 0
StandFrom entries from number all = (k : ℕ) (f : DraftFormula) → slice_get all k ≡ Some f
    → slice_get (model_from entries).formulas (number + k) ≡ Some (resolved_formula entries from f)

-- the formulas that a definition collects stand behind those before it
abbrev pub CollectedStand : Entries → Type 0
CollectedStand entries = (place : ℕ) (one : Entry) → slice_get entries place ≡ Some one
    → StandFrom entries one (collected_before entries one) (collected_in one.body)

-- of two lists joined, the first
pub stand-left : (entries : Entries) (from : Entry) (number : ℕ) (fs gs : List DraftFormula)
    → StandFrom entries from number (fs ++ gs) → StandFrom entries from number fs
stand-left entries from number fs gs sits k f h = sits k f (get-left fs gs k f h)

-- of two lists joined, the second, behind the first
pub stand-right : (entries : Entries) (from : Entry) (number : ℕ) (fs gs : List DraftFormula)
    → StandFrom entries from number (fs ++ gs) → StandFrom entries from (number + length fs) gs
stand-right entries from number fs gs sits k f h =
    let same : (number + length fs) + k ≡ number + (length fs + k) = omega arith in
    ap (slice_get (model_from entries).formulas) same ∙ sits (length fs + k) f (get-right fs gs k ∙ h)

-- lists that are made of elements, joined
pub flat-own : {A B : Type 0} (f : A → List B) (xs : List A) → flat_map (λ all. all) (map f xs) ≡ flat_map f xs
flat-own f [] = refl
flat-own {A} {B} f (x ∷ xs) = ap (λ (rest : List B). f x ++ rest) (flat-own f xs)

-- ---- one layer

-- what an instruction collects, by its layer
pub collected-of : (i : DraftInstruction)
    → collected_by i ≡ collected_layer (map-DraftInstruction DraftInstruction (List DraftFormula) collected_by
    (out-DraftInstruction i))
collected-of i = fold_out-DraftInstruction (List DraftFormula) collected_layer i

-- an instruction in the model, by its layer
pub resolved-of : (entries : Entries) (from : Entry) (i : DraftInstruction)
    → resolved_instruction entries from i ≡ resolved_instruction_layer entries from
    (map-DraftInstruction DraftInstruction (Collecting Instruction) (resolved_instruction entries from)
    (out-DraftInstruction i))
resolved-of entries from i = fold_out-DraftInstruction (Collecting Instruction)
    (resolved_instruction_layer entries from) i

-- an instruction that is fine, by its layer
pub layer-sound : (entries : Entries) (levels : ℕ) (from : Entry) (i : DraftInstruction)
    → IsSound entries levels from (instruction_outline i ∷ []) (instruction_contents i ∷ [])
    → IsSound entries levels from (outline_layer
    (map-DraftInstruction DraftInstruction Outline instruction_outline (out-DraftInstruction i)) ∷ [])
    (instruction_step (map-DraftInstruction DraftInstruction Contents instruction_contents
    (out-DraftInstruction i)) ∷ [])
layer-sound entries levels from i fine =
    let laid = subst (λ (o : Outline). IsSound entries levels from (o ∷ []) (instruction_contents i ∷ []))
    (fold_out-DraftInstruction Outline outline_layer i) fine in
    subst (λ (c : Contents). IsSound entries levels from
    (outline_layer (map-DraftInstruction DraftInstruction Outline instruction_outline
    (out-DraftInstruction i)) ∷ []) (c ∷ [])) (fold_out-DraftInstruction Contents instruction_step i) laid

-- what stands in a block
pub block-parts : (entries : Entries) (levels : ℕ) (from : Entry) (all : List DraftInstruction)
    → IsSound entries (suc levels) from (outline_layer (DraftInstruction-F.Block (map instruction_outline all)) ∷ [])
    (instruction_step (DraftInstruction-F.Block (map instruction_contents all)) ∷ [])
    → IsSound entries levels from (map instruction_outline all) (map instruction_contents all)
block-parts entries levels from all fine =
    (inside entries levels from None (map instruction_outline all) true None (map instruction_contents all) fine).fine

-- what stands in a conditional instruction: its numbers of instructions, the test, and both lists
pub if-parts : (entries : Entries) (levels : ℕ) (from : Entry) (test : DraftTest)
    (first second : List DraftInstruction) → IsSound entries (suc levels) from
    (outline_layer (DraftInstruction-F.If test (map instruction_outline first) (map instruction_outline second)) ∷ [])
    (instruction_step (DraftInstruction-F.If test (map instruction_contents first)
    (map instruction_contents second)) ∷ []) → ((length (map instruction_contents first) == 1 && nat_le (length
    (map instruction_contents second)) 1) ≡ true) × IsSound entries levels from (test_outline test ∷ [])
    (test_contents test ∷ []) × IsSound entries levels from (map instruction_outline first)
    (map instruction_contents first) × IsSound entries levels from (map instruction_outline second)
    (map instruction_contents second)
if-parts entries levels from test first second fine =
    let inner = inside entries levels from None
    (test_outline test ∷ map instruction_outline first ++ map instruction_outline second)
    (length (map instruction_contents first) == 1 && nat_le (length (map instruction_contents second)) 1) None
    (test_contents test ∷ map instruction_contents first ++ map instruction_contents second) fine in
    let head = sound-parts entries levels from (test_outline test ∷ [])
    (map instruction_outline first ++ map instruction_outline second) (test_contents test ∷ [])
    (map instruction_contents first ++ map instruction_contents second) inner.fine in
    let rest = sound-parts entries levels from (map instruction_outline first) (map instruction_outline second)
    (map instruction_contents first) (map instruction_contents second) head.1 in
    (inner.right_number, head.0, rest.0, rest.1)

-- ---- sizes

-- each instruction of these levels has as its size the number of formulas that it collects
abbrev pub SizesAt : Entries → ℕ → Type 0
SizesAt entries levels = (from : Entry) (i : DraftInstruction) → IsSound entries levels from (instruction_outline i ∷ [])
    (instruction_contents i ∷ []) → (resolved_instruction entries from i).size ≡ length (collected_by i)

-- the sizes of instructions together are the number of formulas that they collect
pub total : (levels : ℕ) (entries : Entries) (from : Entry) → SizesAt entries levels → (all : List DraftInstruction)
    → IsSound entries levels from (map instruction_outline all) (map instruction_contents all)
    → total_size (map (resolved_instruction entries from) all) ≡ length (flat_map (λ fs. fs) (map collected_by all))
total levels entries from sizes [] fine = refl
total levels entries from sizes (i ∷ all) fine =
    let parts = sound-parts entries levels from (instruction_outline i ∷ []) (map instruction_outline all)
    (instruction_contents i ∷ []) (map instruction_contents all) fine in
    sum_by-cons (λ (n : ℕ). n) (resolved_instruction entries from i).size
    (map (λ one. one.size) (map (resolved_instruction entries from) all))
    ∙ ap₂ (λ (a b : ℕ). a + b) (sizes from i parts.0) (total levels entries from sizes all parts.1)
    ∙ sym (length-append (collected_by i) (flat_map (λ fs. fs) (map collected_by all)))

size-layer : (levels : ℕ) (entries : Entries) (from : Entry) → SizesAt entries levels
    → (x : DraftInstruction-F DraftInstruction)
    → IsSound entries (suc levels) from (outline_layer
    (map-DraftInstruction DraftInstruction Outline instruction_outline x) ∷ [])
    (instruction_step (map-DraftInstruction DraftInstruction Contents instruction_contents x) ∷ [])
    → (resolved_instruction_layer entries from
    (map-DraftInstruction DraftInstruction (Collecting Instruction) (resolved_instruction entries from) x)).size
    ≡ length (collected_layer (map-DraftInstruction DraftInstruction (List DraftFormula) collected_by x))
size-layer levels entries from sizes (DraftInstruction-F.Collect f) fine = refl
size-layer levels entries from sizes (DraftInstruction-F.SetHouse name state) fine = refl
size-layer levels entries from sizes (DraftInstruction-F.Block all) fine =
    total levels entries from sizes all (block-parts entries levels from all fine)
size-layer levels entries from sizes (DraftInstruction-F.Rule name) fine = refl
size-layer levels entries from sizes (DraftInstruction-F.If test first second) fine =
    let parts = if-parts entries levels from test first second fine in
    ap₂ (λ (a b : ℕ). a + b) (total levels entries from sizes first parts.2)
    (total levels entries from sizes second parts.3)
    ∙ sym (length-append (flat_map (λ fs. fs) (map collected_by first))
    (flat_map (λ fs. fs) (map collected_by second)))

-- an instruction has as its size the number of formulas that it collects
pub instruction-size : (levels : ℕ) (entries : Entries) → SizesAt entries levels
instruction-size zero entries from i fine = absurd (some-level entries from _ [] _ fine)
instruction-size (suc levels) entries from i fine =
    ap (λ (c : Collecting Instruction). c.size) (resolved-of entries from i)
    ∙ size-layer levels entries from (instruction-size levels entries) (out-DraftInstruction i)
    (layer-sound entries (suc levels) from i fine)
    ∙ ap length (sym (collected-of i))
