-- What is collected by branches, by levels.
use Rattle.std.proofs.Common.{◌≡◌, ◌<◌, ◌≤◌, ◌+◌, ◌-◌, ℕ, zero, suc, true, List, [], ◌∷◌, ◌++◌, map, length, get_or, refl, ap, sym, ◌∙◌, subst, arith, sub-one}
use Rattle.std.proofs.lemmas.Bool.{and_parts, false≢true}
use Rattle.std.specs.List.{flat_map}
use Rattle.std.proofs.lemmas.List.{append-nil, append_assoc, map-append, length-append}
use Rattle.std.proofs.lemmas.List.Concat.{flat_map-append}
use Rattle.psa_model.specs.PathNames.{Text}
use Rattle.psa_model.specs.Drafts.{Contents, together, too_deep, instruction_contents, branch_contents, end_contents, path_contents}
use Rattle.psa_model.specs.declared.limits.TheConstants.{MAX_NESTING}
use Rattle.psa_model.specs.declared.walks.Branch.{Branch}
use Rattle.psa_model.specs.declared.walks.BranchEnd.{BranchEnd}
use Rattle.psa_model.specs.declared.walks.BranchEnd.TheVariants as end_made
use Rattle.psa_model.specs.declared.walks.ForkPath.{ForkPath}
use Rattle.psa_model.specs.declared.walks.Instruction.{Instruction}
use Rattle.psa_model.specs.declared.draft.DefinitionKind.TheVariants as kind
use Rattle.psa_model.specs.declared.draft.DraftReference.{DraftReference}
use Rattle.psa_model.specs.declared.draft.DraftFormula.{DraftFormula}
use Rattle.psa_model.specs.declared.draft.DraftInstruction.{DraftInstruction}
use Rattle.psa_model.specs.declared.draft.DraftBranch.{DraftBranch}
use Rattle.psa_model.specs.declared.draft.DraftForkPath.{DraftForkPath}
use Rattle.psa_model.specs.declared.draft.DraftBranchEnd.{DraftBranchEnd, out-DraftBranchEnd}
use Rattle.psa_model.specs.declared.draft.DraftBranchEnd.TheOpen.{DraftBranchEnd-F}
use Rattle.psa_model.specs.declared.draft.DraftBranchEnd.TheVariants as end
use Rattle.psa_names.specs.declared.found.Sense.{Sense}
use Rattle.psa_names.specs.Outlines.{Reference, Entry, Entries, functional_event, sequence, branch, joined, plain, instruction_outline, branch_outlines, end_outline}
use Rattle.psa_names.specs.Meanings.{meaning_of}
use Rattle.psa_names.specs.Chains.{references_in, references_in_all}
use Rattle.psa_names.specs.Resolved.{resolved_formula}
use Rattle.psa_names.specs.Ids.{id_of_meaning}
use Rattle.psa_names.specs.Collected.{Collecting, all_behind, collected_by, branch_collected, end_collected, resolved_instruction, resolved_instructions, resolved_branch, resolved_end}
use Rattle.psa_names.proofs.Forms.{out-fork, out-sequence}
use Rattle.psa_bodies.specs.declared.numbers.Numbers.{Numbers}
use Rattle.psa_bodies.specs.declared.collected.Collected.{Collected}
use Rattle.psa_bodies.specs.Reading.{Reads}
use Rattle.psa_bodies.specs.Collecting.{Collects, listed}
use Rattle.psa_bodies.specs.Branches.{branch_value, end_value, path_value, paths_value, path_formulas, path_references}
use Rattle.psa_bodies.proofs.DraftForms.{out-branch}
use Rattle.psa_bodies.proofs.ReadingInOrder.{reads-map, references-joined, flat_map-map}
use Rattle.psa_bodies.proofs.CollectingInOrder.{fewer, plain_value, mapped, collects-read, collects-map, collects-then, collects-after}
use Rattle.psa_bodies.proofs.CollectedForms.{InstructionsCollect}

-- ---- one level

contents-none : (one : DraftBranch) → branch_contents 0 one ≡ too_deep
unfolding branch_contents
contents-none one = refl

contents-level : (levels : ℕ) (one : DraftBranch) → branch_contents (suc levels) one ≡ together (map instruction_contents one.instructions ++ end_contents (λ b. branch_contents levels b) (out-DraftBranchEnd one.end) ∷ [])
unfolding branch_contents
contents-level levels one = refl

collected-level : (levels : ℕ) (one : DraftBranch) → branch_collected (suc levels) one ≡ flat_map collected_by one.instructions ++ end_collected (λ below. branch_collected levels below) (out-DraftBranchEnd one.end)
unfolding branch_collected
collected-level levels one = refl

outlines-level : (levels : ℕ) (one : DraftBranch) → branch_outlines (suc levels) one ≡ map instruction_outline one.instructions ++ end_outline (λ below. branch_outlines levels below) (out-DraftBranchEnd one.end) ∷ []
unfolding branch_outlines
outlines-level levels one = refl

resolved-level : (levels : ℕ) (entries : Entries) (from : Entry) (number : ℕ) (one : DraftBranch) → resolved_branch (suc levels) entries from number one ≡ record { instructions = resolved_instructions entries from number one.instructions; end = resolved_end entries from (λ behind below. resolved_branch levels entries from behind below) (number + length (flat_map collected_by one.instructions)) (out-DraftBranchEnd one.end) }
unfolding resolved_branch
resolved-level levels entries from number one = refl

-- ---- numbers of arguments, down the levels

together-last : (front : List Contents) (last : Contents) → (together (front ++ last ∷ [])).has_numbers ≡ true → last.has_numbers ≡ true
together-last [] last has = (and_parts last.has_numbers true has).0
together-last (one ∷ others) last has = together-last others last (and_parts one.has_numbers _ has).1

pub some-levels : (levels : ℕ) (one : DraftBranch) → (branch_contents levels one).has_numbers ≡ true → 0 < levels
some-levels zero one has = absurd (false≢true (sym (ap (λ (c : Contents). c.has_numbers) (contents-none one)) ∙ has))
some-levels (suc levels) one has = omega arith

end-has-suc : (levels : ℕ) (one : DraftBranch) → (branch_contents (suc levels) one).has_numbers ≡ true → (end_contents (λ b. branch_contents levels b) (out-DraftBranchEnd one.end)).has_numbers ≡ true
end-has-suc levels one has =
    together-last (map instruction_contents one.instructions) (end_contents (λ b. branch_contents levels b) (out-DraftBranchEnd one.end)) (sym (ap (λ (c : Contents). c.has_numbers) (contents-level levels one)) ∙ has)

pub end-has : (levels : ℕ) (one : DraftBranch) → (branch_contents levels one).has_numbers ≡ true → (end_contents (λ b. branch_contents (levels - 1) b) (out-DraftBranchEnd one.end)).has_numbers ≡ true
end-has zero one has = absurd (false≢true (sym (ap (λ (c : Contents). c.has_numbers) (contents-none one)) ∙ has))
end-has (suc levels) one has = rw (sub-one) (end-has-suc levels one has)

pub fork-has : (levels : ℕ) (one : DraftBranchEnd) (name : DraftReference) (paths items : List DraftForkPath) → one ≡ end.Fork name paths → items ≡ paths → (end_contents (λ b. branch_contents levels b) (out-DraftBranchEnd one)).has_numbers ≡ true → (together (map (path_contents (λ b. branch_contents levels b)) items)).has_numbers ≡ true
fork-has levels one name paths items is same has =
    ap (λ ps. (together (map (path_contents (λ b. branch_contents levels b)) ps)).has_numbers) same
    ∙ (and_parts true _ (sym (ap (λ e. (end_contents (λ b. branch_contents levels b) e).has_numbers) (ap out-DraftBranchEnd is ∙ out-fork name paths)) ∙ has)).1

pub path-has : (levels : ℕ) (paths : List DraftForkPath) (i : ℕ) (path : DraftForkPath) → i < length paths → path ≡ get_or paths i path → (together (map (path_contents (λ b. branch_contents levels b)) paths)).has_numbers ≡ true → (branch_contents levels path.branch).has_numbers ≡ true
path-has levels [] i path inside is has = absurd (omega arith)
path-has levels (first ∷ others) zero path inside is has =
    ap (λ (p : DraftForkPath). (branch_contents levels p.branch).has_numbers) is
    ∙ (and_parts _ true (and_parts true _ (and_parts _ _ has).0).1).0
path-has levels (first ∷ others) (suc i) path inside is has = path-has levels others i path (omega arith) is (and_parts _ _ has).1

-- ---- more levels collect nothing else

paths-same : (l m : ℕ) (paths : List DraftForkPath) → ((b : DraftBranch) → (branch_contents l b).has_numbers ≡ true → branch_collected m b ≡ branch_collected l b) → (together (map (path_contents (λ b. branch_contents l b)) paths)).has_numbers ≡ true → flat_map (λ path. branch_collected m path.branch) paths ≡ flat_map (λ path. branch_collected l path.branch) paths
paths-same l m [] same has = refl
paths-same l m (path ∷ paths) same has =
    let both = and_parts _ _ has in
    let here = (and_parts _ true (and_parts true _ both.0).1).0 in
    ap (λ fs. fs ++ flat_map (λ p. branch_collected m p.branch) paths) (same path.branch here)
    ∙ ap (λ fs. branch_collected l path.branch ++ fs) (paths-same l m paths same both.1)

end-same : (l m : ℕ) (e : DraftBranchEnd-F DraftBranchEnd DraftBranch DraftForkPath) → ((b : DraftBranch) → (branch_contents l b).has_numbers ≡ true → branch_collected m b ≡ branch_collected l b) → (end_contents (λ b. branch_contents l b) e).has_numbers ≡ true → end_collected (λ b. branch_collected m b) e ≡ end_collected (λ b. branch_collected l b) e
end-same l m (DraftBranchEnd-F.Fork name paths) same has = paths-same l m paths same (and_parts true _ has).1
end-same l m (DraftBranchEnd-F.Sequence name) same has = refl
end-same l m (DraftBranchEnd-F.Branch name) same has = refl

pub deep-same : (levels n : ℕ) (one : DraftBranch) → levels ≤ n → (branch_contents levels one).has_numbers ≡ true → branch_collected n one ≡ branch_collected levels one
deep-same zero n one below has = absurd (false≢true (sym (ap (λ (c : Contents). c.has_numbers) (contents-none one)) ∙ has))
deep-same (suc l) zero one below has = absurd (omega (arith, below))
deep-same (suc l) (suc m) one below has =
    collected-level m one
    ∙ ap (λ fs. flat_map collected_by one.instructions ++ fs)
    (end-same l m (out-DraftBranchEnd one.end) (λ b its. deep-same l m b (omega (arith, below)) its) (end-has-suc l one has))
    ∙ sym (collected-level l one)

pub fork-formulas : (levels : ℕ) (one : DraftBranchEnd) (name : DraftReference) (paths items : List DraftForkPath) → one ≡ end.Fork name paths → items ≡ paths → end_collected (λ b. branch_collected levels b) (out-DraftBranchEnd one) ≡ flat_map (path_formulas levels) items
fork-formulas levels one name paths items is same =
    ap (end_collected (λ b. branch_collected levels b)) (ap out-DraftBranchEnd is ∙ out-fork name paths) ∙ ap (flat_map (path_formulas levels)) (sym same)

-- ---- what is made

-- the same by a value whose size is the number of formulas
collects-to : {A : Type 0} (numbers : Numbers) (senses left : List Sense) (before after : Collected) (references others : List Reference) (formulas all : List DraftFormula) (value other : Entries → Entry → Collecting A) (made : A) → references ≡ others → formulas ≡ all → ((entries : Entries) (from : Entry) (number : ℕ) → (value entries from).behind number ≡ (other entries from).behind number) → ((entries : Entries) (from : Entry) → (other entries from).size ≡ length all) → Collects numbers senses left before after references formulas value made → Collects numbers senses left before after others all other made
collects-to numbers senses left before after references others formulas all value other made same equal behind size read = record {
  counted = λ few. read.counted (fewer before.next 4294967296 formulas all equal few) ∙ ap (λ fs. before.next + length fs) equal;
  is = λ entries from rest are few begins.
      let has = read.is entries from rest are (fewer before.next 4294967296 formulas all equal few) (begins ∙ ap (λ rs. map (meaning_of entries from) rs ++ rest) (sym same)) in
      record {
        made_is = has.made_is ∙ behind entries from before.next;
        size = size entries from;
        rest_is = has.rest_is;
        formulas_are = has.formulas_are ∙ ap (λ fs. before.formulas ++ map (resolved_formula entries from) fs) equal;
      };
}

abbrev behind_by : {A B C : Type 0} → (A → B → C) → ℕ → Collecting A → Collecting B → Collecting C
behind_by f many one other = record { size = one.size + other.size; behind = λ number. f (one.behind number) (other.behind (number + many)) }

collects-behind : {A B C : Type 0} (numbers : Numbers) (senses between left : List Sense) (before middle after : Collected) (references others : List Reference) (formulas more : List DraftFormula) (value : Entries → Entry → Collecting A) (other : Entries → Entry → Collecting B) (made : A) (next : B) (f : A → B → C) → Collects numbers senses between before middle references formulas value made → Collects numbers between left middle after others more other next → Collects numbers senses left before after (references ++ others) (formulas ++ more) (λ entries from. behind_by f (length formulas) (value entries from) (other entries from)) (f made next)
collects-behind numbers senses between left before middle after references others formulas more value other made next f first second =
    let both = collects-then numbers senses between left before middle after references others formulas more value other made next f first second in
    record {
      counted = both.counted;
      is = λ entries from rest are few begins.
          let has = both.is entries from rest are few begins in
          let long = length-append formulas more in
          let one = first.is entries from (map (meaning_of entries from) others ++ rest) are (omega (arith, few, long)) (begins ∙ ap (λ ms. ms ++ rest) (map-append (meaning_of entries from) references others) ∙ append_assoc (map (meaning_of entries from) references) (map (meaning_of entries from) others) rest) in
          record {
            made_is = has.made_is ∙ ap (λ m. f ((value entries from).behind before.next) ((other entries from).behind (before.next + m))) one.size;
            size = has.size;
            rest_is = has.rest_is;
            formulas_are = has.formulas_are;
          };
    }

branch-references : (levels : ℕ) (one : DraftBranch) → flat_map references_in (branch_outlines (suc levels) one) ≡ flat_map (λ i. references_in (instruction_outline i)) one.instructions ++ references_in (end_outline (λ b. branch_outlines levels b) (out-DraftBranchEnd one.end))
branch-references levels one =
    ap (flat_map references_in) (outlines-level levels one)
    ∙ flat_map-append references_in (map instruction_outline one.instructions) (end_outline (λ b. branch_outlines levels b) (out-DraftBranchEnd one.end) ∷ [])
    ∙ ap (λ rs. rs ++ (references_in (end_outline (λ b. branch_outlines levels b) (out-DraftBranchEnd one.end)) ++ [])) (flat_map-map references_in instruction_outline one.instructions)
    ∙ ap (λ rs. flat_map (λ i. references_in (instruction_outline i)) one.instructions ++ rs) (append-nil (references_in (end_outline (λ b. branch_outlines levels b) (out-DraftBranchEnd one.end))))

abbrev branch_with : List Instruction → BranchEnd → Branch
branch_with instructions end = record { instructions = instructions; end = end }

abbrev pub EndCollects : ℕ → Numbers → List Sense → List Sense → Collected → Collected → DraftBranchEnd → BranchEnd → Type 0
EndCollects levels numbers senses left before after one made =
    Collects numbers senses left before after (references_in (end_outline (λ b. branch_outlines levels b) (out-DraftBranchEnd one))) (end_collected (λ b. branch_collected levels b) (out-DraftBranchEnd one)) (λ entries from. end_value levels entries from (out-DraftBranchEnd one)) made

abbrev pub BranchCollects : ℕ → Numbers → List Sense → List Sense → Collected → Collected → DraftBranch → Branch → Type 0
BranchCollects levels numbers senses left before after one made =
    Collects numbers senses left before after (flat_map references_in (branch_outlines levels one)) (branch_collected levels one) (λ entries from. branch_value levels entries from one) made

branch-collects-suc : (levels : ℕ) (numbers : Numbers) (senses between left : List Sense) (before middle after : Collected) (one : DraftBranch) (made : List Instruction) (last : BranchEnd) → InstructionsCollect numbers senses between before middle one.instructions made → EndCollects levels numbers between left middle after one.end last → BranchCollects (suc levels) numbers senses left before after one (branch_with made last)
branch-collects-suc levels numbers senses between left before middle after one made last read ended =
    collects-to numbers senses left before after (flat_map (λ i. references_in (instruction_outline i)) one.instructions ++ references_in (end_outline (λ b. branch_outlines levels b) (out-DraftBranchEnd one.end))) (flat_map references_in (branch_outlines (suc levels) one)) (flat_map collected_by one.instructions ++ end_collected (λ b. branch_collected levels b) (out-DraftBranchEnd one.end)) (branch_collected (suc levels) one)
    (λ entries from. behind_by branch_with (length (flat_map collected_by one.instructions)) (listed (map (resolved_instruction entries from) one.instructions)) (end_value levels entries from (out-DraftBranchEnd one.end))) (λ entries from. branch_value (suc levels) entries from one) (branch_with made last)
    (sym (branch-references levels one)) (sym (collected-level levels one))
    (λ entries from number. sym (resolved-level levels entries from number one))
    (λ entries from. refl)
    (collects-behind numbers senses between left before middle after (flat_map (λ i. references_in (instruction_outline i)) one.instructions) (references_in (end_outline (λ b. branch_outlines levels b) (out-DraftBranchEnd one.end))) (flat_map collected_by one.instructions) (end_collected (λ b. branch_collected levels b) (out-DraftBranchEnd one.end)) (λ entries from. listed (map (resolved_instruction entries from) one.instructions)) (λ entries from. end_value levels entries from (out-DraftBranchEnd one.end)) made last branch_with read ended)

pub branch-collects : (levels : ℕ) (numbers : Numbers) (senses between left : List Sense) (before middle after : Collected) (one : DraftBranch) (items : List DraftInstruction) (made : List Instruction) (last : BranchEnd) → 0 < levels → items ≡ one.instructions → InstructionsCollect numbers senses between before middle items made → EndCollects (levels - 1) numbers between left middle after one.end last → BranchCollects levels numbers senses left before after one (branch_with made last)
branch-collects zero numbers senses between left before middle after one items made last some same read ended = absurd (omega (arith, some))
branch-collects (suc l) numbers senses between left before middle after one items made last some same read ended =
    branch-collects-suc l numbers senses between left before middle after one made last
    (subst (λ is. InstructionsCollect numbers senses between before middle is made) same read)
    (let e : suc l - 1 ≡ l = omega arith in subst (λ n. EndCollects n numbers between left middle after one.end last) e ended)

flat_map-same : {X A : Type 0} (f g : X → List A) → ((x : X) → f x ≡ g x) → (xs : List X) → flat_map f xs ≡ flat_map g xs
flat_map-same f g same [] = refl
flat_map-same f g same (x ∷ xs) = ap (λ ys. ys ++ flat_map f xs) (same x) ∙ ap (λ ys. g x ++ ys) (flat_map-same f g same xs)

fork-references : (levels : ℕ) (paths : List DraftForkPath) → references_in_all (joined (map (λ path. plain (branch_outlines levels path.branch)) paths)) ≡ flat_map (path_references levels) paths
fork-references levels paths =
    references-joined (map (λ path. plain (branch_outlines levels path.branch)) paths)
    ∙ flat_map-map references_in (λ path. plain (branch_outlines levels path.branch)) paths
    ∙ flat_map-same (λ path. references_in (plain (branch_outlines levels path.branch))) (path_references levels) (λ path. references-joined (branch_outlines levels path.branch)) paths

pub fork-collects : (levels : ℕ) (numbers : Numbers) (senses between left : List Sense) (before after : Collected) (one : DraftBranchEnd) (name : DraftReference) (paths items : List DraftForkPath) (id : ℕ) (made : List ForkPath) → one ≡ end.Fork name paths → items ≡ paths → ((reference : Reference) → Reads numbers senses between (reference ∷ []) (λ entries from. id_of_meaning kind.FunctionalEvent entries (meaning_of entries from reference)) id) → Collects numbers between left before after (flat_map (path_references levels) items) (flat_map (path_formulas levels) items) (λ entries from. paths_value levels entries from items) made → EndCollects levels numbers senses left before after one (end_made.Fork (record { 0 = id }) made)
fork-collects levels numbers senses between left before after one name paths items id made is same read next =
    let reference : Reference = record { kind = functional_event; written = name } in
    let out = ap out-DraftBranchEnd is ∙ out-fork name paths in
    collects-to numbers senses left before after ((reference ∷ []) ++ flat_map (path_references levels) items) (references_in (end_outline (λ b. branch_outlines levels b) (out-DraftBranchEnd one))) (flat_map (path_formulas levels) items) (end_collected (λ b. branch_collected levels b) (out-DraftBranchEnd one))
    (λ entries from. mapped (end_made.Fork (record { 0 = id_of_meaning kind.FunctionalEvent entries (meaning_of entries from reference) })) (paths_value levels entries from items)) (λ entries from. end_value levels entries from (out-DraftBranchEnd one)) (end_made.Fork (record { 0 = id }) made)
    (sym (ap (λ e. references_in (end_outline (λ b. branch_outlines levels b) e)) out ∙ ap (λ rs. reference ∷ rs) (fork-references levels paths ∙ ap (flat_map (path_references levels)) (sym same))))
    (sym (fork-formulas levels one name paths items is same))
    (λ entries from number. sym (ap (λ e. (end_value levels entries from e).behind number) out ∙ ap (λ ps. end_made.Fork (record { 0 = id_of_meaning kind.FunctionalEvent entries (meaning_of entries from reference) }) (all_behind number (map (path_value levels entries from) ps))) (sym same)))
    (λ entries from. refl)
    (collects-after numbers senses between left before after (reference ∷ []) (flat_map (path_references levels) items) (flat_map (path_formulas levels) items) (λ entries from. id_of_meaning kind.FunctionalEvent entries (meaning_of entries from reference)) (λ entries from. paths_value levels entries from items) id made (λ n. end_made.Fork (record { 0 = n })) (read reference) next)

pub sequence-collects : (levels : ℕ) (numbers : Numbers) (senses left : List Sense) (collected : Collected) (one : DraftBranchEnd) (name : DraftReference) (id : ℕ) → one ≡ end.Sequence name → ((reference : Reference) → Reads numbers senses left (reference ∷ []) (λ entries from. id_of_meaning kind.Sequence entries (meaning_of entries from reference)) id) → EndCollects levels numbers senses left collected collected one (end_made.Sequence (record { 0 = id }))
sequence-collects levels numbers senses left collected one name id is read =
    let reference : Reference = record { kind = sequence; written = name } in
    let out = ap out-DraftBranchEnd is ∙ out-sequence name in
    let made = λ (n : ℕ). end_made.Sequence (record { 0 = n }) in
    collects-to numbers senses left collected collected (reference ∷ []) (references_in (end_outline (λ b. branch_outlines levels b) (out-DraftBranchEnd one))) [] (end_collected (λ b. branch_collected levels b) (out-DraftBranchEnd one))
    (λ entries from. plain_value (made (id_of_meaning kind.Sequence entries (meaning_of entries from reference)))) (λ entries from. end_value levels entries from (out-DraftBranchEnd one)) (made id)
    (sym (ap (λ e. references_in (end_outline (λ b. branch_outlines levels b) e)) out))
    (sym (ap (end_collected (λ b. branch_collected levels b)) out))
    (λ entries from number. sym (ap (λ e. (end_value levels entries from e).behind number) out))
    (λ entries from. refl)
    (collects-read numbers senses left collected (reference ∷ []) (λ entries from. made (id_of_meaning kind.Sequence entries (meaning_of entries from reference))) (made id)
    (reads-map numbers senses left (reference ∷ []) (λ entries from. id_of_meaning kind.Sequence entries (meaning_of entries from reference)) id made (read reference)))

pub named-collects : (levels : ℕ) (numbers : Numbers) (senses left : List Sense) (collected : Collected) (one : DraftBranchEnd) (name : DraftReference) (id : ℕ) → one ≡ end.Branch name → ((reference : Reference) → Reads numbers senses left (reference ∷ []) (λ entries from. id_of_meaning kind.Branch entries (meaning_of entries from reference)) id) → EndCollects levels numbers senses left collected collected one (end_made.Branch (record { 0 = id }))
named-collects levels numbers senses left collected one name id is read =
    let reference : Reference = record { kind = branch; written = name } in
    let out = ap out-DraftBranchEnd is ∙ out-branch name in
    let made = λ (n : ℕ). end_made.Branch (record { 0 = n }) in
    collects-to numbers senses left collected collected (reference ∷ []) (references_in (end_outline (λ b. branch_outlines levels b) (out-DraftBranchEnd one))) [] (end_collected (λ b. branch_collected levels b) (out-DraftBranchEnd one))
    (λ entries from. plain_value (made (id_of_meaning kind.Branch entries (meaning_of entries from reference)))) (λ entries from. end_value levels entries from (out-DraftBranchEnd one)) (made id)
    (sym (ap (λ e. references_in (end_outline (λ b. branch_outlines levels b) e)) out))
    (sym (ap (end_collected (λ b. branch_collected levels b)) out))
    (λ entries from number. sym (ap (λ e. (end_value levels entries from e).behind number) out))
    (λ entries from. refl)
    (collects-read numbers senses left collected (reference ∷ []) (λ entries from. made (id_of_meaning kind.Branch entries (meaning_of entries from reference))) (made id)
    (reads-map numbers senses left (reference ∷ []) (λ entries from. id_of_meaning kind.Branch entries (meaning_of entries from reference)) id made (read reference)))

abbrev path_with : Text → Branch → ForkPath
path_with state its = record { state = state; branch = its }

pub path-collects : (levels : ℕ) (numbers : Numbers) (senses left : List Sense) (before after : Collected) (path : DraftForkPath) (state : Text) (made : Branch) → levels ≤ MAX_NESTING → (branch_contents levels path.branch).has_numbers ≡ true → state ≡ path.state → BranchCollects levels numbers senses left before after path.branch made → Collects numbers senses left before after (path_references levels path) (path_formulas levels path) (λ entries from. path_value levels entries from path) (path_with state made)
path-collects levels numbers senses left before after path state made within has same read =
    collects-to numbers senses left before after (path_references levels path) (path_references levels path) (path_formulas levels path) (path_formulas levels path) (λ entries from. mapped (path_with state) (branch_value levels entries from path.branch)) (λ entries from. path_value levels entries from path) (path_with state made)
    refl refl
    (λ entries from number. ap (λ s. path_with s (resolved_branch levels entries from number path.branch)) same)
    (λ entries from. ap length (deep-same levels MAX_NESTING path.branch within has))
    (collects-map numbers senses left before after (path_references levels path) (path_formulas levels path) (λ entries from. branch_value levels entries from path.branch) made (path_with state) read)
