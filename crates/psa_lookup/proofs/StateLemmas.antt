-- The states of forks, and the first position of each.
use Rattle.std.proofs.Common.{◌≡◌, ◌<◌, ◌+◌, ◌-◌, ◌&&◌, ◌==◌, ℕ, zero, suc, Bool, true, false, cond, List, [], ◌∷◌, ◌++◌, length, take, get_or, Option, Some, Result, Ok, Err, OnOk, map, if◌then◌else◌, refl, sym, ap, ◌∙◌, arith, append_assoc, eqb-true}
use Rattle.std.proofs.lemmas.Bool.{and_parts}
use Rattle.std.specs.Map.{lookup}
use Rattle.std.specs.Option.{option_map}
use Rattle.std.specs.Str.{bytes_eq}
use Rattle.psa_model.specs.PathNames.{Text}
use Rattle.psa_model.specs.Drafts.{Position, path_position}
use Rattle.psa_model.specs.declared.draft.DraftBranch.{DraftBranch}
use Rattle.psa_model.specs.declared.draft.DraftBranchEnd.{out-DraftBranchEnd}
use Rattle.psa_model.specs.declared.draft.DraftBranchEnd.TheOpen.{DraftBranchEnd-F}
use Rattle.psa_model.specs.declared.draft.DraftBranchEnd.TheViews.{out-roll-DraftBranchEnd}
use Rattle.psa_model.specs.declared.draft.DraftBranchEnd.TheVariants as end
use Rattle.psa_model.specs.declared.draft.DraftDefinition.{DraftDefinition}
use Rattle.psa_model.specs.declared.draft.DraftForkPath.{DraftForkPath}
use Rattle.psa_model.specs.declared.draft.DraftReference.{DraftReference}
use Rattle.psa_names.specs.Outlines.{ForkState, Entry, branch_states, end_states, entry_of, states_of}
use Rattle.psa_names.proofs.Forms.{out-fork, out-sequence}
use Rattle.psa_lookup.specs.declared.states.State.{State}
use Rattle.psa_lookup.specs.declared.states.StateKey.{StateKey}
use Rattle.psa_lookup.specs.declared.states.Spot.{Spot}
use Rattle.psa_lookup.specs.Repeats.{same_state, lesser, least_from, states_in}
use Rattle.psa_lookup.specs.States.{fork_state, fork_states, spot_position, is_key_of, first_spot, path_states}
use Rattle.psa_lookup.proofs.BoolLemmas.{eq-turned, text-turned, text-same, and-assoc, one-more-taken, flat-one, map-one}

-- ---- a state is noted

abbrev pub keyed : ForkState → ForkState → Bool
keyed one other =
    one.fork.place.file == other.fork.place.file && (one.fork.tag == other.fork.tag && bytes_eq one.path.state other.path.state)

keyed-turned : (one other : ForkState) → keyed one other ≡ same_state other one
keyed-turned one other =
    sym (and-assoc (one.fork.place.file == other.fork.place.file) (one.fork.tag == other.fork.tag) (bytes_eq one.path.state other.path.state))
    ∙ ap (λ b. (b && one.fork.tag == other.fork.tag) && bytes_eq one.path.state other.path.state) (eq-turned one.fork.place.file other.fork.place.file)
    ∙ ap (λ b. (other.fork.place.file == one.fork.place.file && b) && bytes_eq one.path.state other.path.state) (eq-turned one.fork.tag other.fork.tag)
    ∙ ap (λ b. (other.fork.place.file == one.fork.place.file && other.fork.tag == one.fork.tag) && b) (text-turned one.path.state other.path.state)

abbrev pub looked : List (StateKey × Spot) → ℕ → ℕ → Text → Option Spot
looked entries file tag name = lookup (λ (key : StateKey). file == key.file && (tag == key.tag && bytes_eq name key.name.now)) entries

keyed-lookup : (entries : List (StateKey × Spot)) (one other : ForkState) → keyed one other ≡ true → lookup (is_key_of one) entries ≡ lookup (is_key_of other) entries
keyed-lookup entries one other h =
    let p = and_parts (one.fork.place.file == other.fork.place.file) (one.fork.tag == other.fork.tag && bytes_eq one.path.state other.path.state) h in
    let q = and_parts (one.fork.tag == other.fork.tag) (bytes_eq one.path.state other.path.state) p.1 in
    ap (λ file. looked entries file one.fork.tag one.path.state) (eqb-true one.fork.place.file other.fork.place.file p.0)
    ∙ ap (λ tag. looked entries other.fork.place.file tag one.path.state) (eqb-true one.fork.tag other.fork.tag q.0)
    ∙ ap (λ (name : Text). looked entries other.fork.place.file other.fork.tag name) (text-same one.path.state other.path.state q.1)

pub noted-state : (old new : List (StateKey × Spot)) (noted other : ForkState) (spot first : Spot) (before : Option Spot)
    → before ≡ lookup (is_key_of noted) old
    → spot_position spot ≡ path_position noted.path
    → Some (spot_position first) ≡ lesser (option_map spot_position before) (spot_position spot)
    → lookup (is_key_of other) new ≡ cond (keyed noted other) (Some first) (lookup (is_key_of other) old)
    → first_spot new other ≡ (if same_state other noted then lesser (first_spot old other) (path_position noted.path) else first_spot old other)
noted-state old new noted other spot first before was at least updates =
    ap (option_map spot_position) updates ∙ by (keyed noted other) refl
    ∙ ap (λ b. if b then lesser (first_spot old other) (path_position noted.path) else first_spot old other) (keyed-turned noted other)
  where
    by : (b : Bool) → keyed noted other ≡ b → option_map spot_position (cond (keyed noted other) (Some first) (lookup (is_key_of other) old)) ≡ (if keyed noted other then lesser (first_spot old other) (path_position noted.path) else first_spot old other)
    by true e =
        rw e (least ∙ ap (λ (o : Option Spot). lesser (option_map spot_position o) (spot_position spot)) (was ∙ keyed-lookup old noted other e)
        ∙ ap (lesser (first_spot old other)) at)
    by false e = rw e refl

-- ---- more states

pub least-append : (state : ForkState) (first : Option Position) (xs ys : List ForkState) → least_from state first (xs ++ ys) ≡ least_from state (least_from state first xs) ys
least-append state first [] ys = refl
least-append state first (x ∷ xs) ys = least-append state (if same_state state x then lesser first (path_position x.path) else first) xs ys

pub least-one : (state : ForkState) (first : Option Position) (xs : List ForkState) (x : ForkState) → least_from state first (xs ++ x ∷ []) ≡ (if same_state state x then lesser (least_from state first xs) (path_position x.path) else least_from state first xs)
least-one state first xs x = least-append state first xs (x ∷ [])

pub states-one : (definitions : List DraftDefinition) (one : DraftDefinition) → states_in (map entry_of (definitions ++ one ∷ [])) ≡ states_in (map entry_of definitions) ++ states_of one.body
states-one definitions one =
    ap states_in (map-one entry_of definitions one) ∙ flat-one (λ (e : Entry). e.states) (map entry_of definitions) (entry_of one)

-- ---- the states of a branch

pub branch-zero : (levels : ℕ) (one : DraftBranch) → levels ≡ 0 → branch_states levels one ≡ []
unfolding branch_states
branch-zero zero one h = refl
branch-zero (suc levels) one h = absurd (omega arith)

pub branch-fork : (levels : ℕ) (one : DraftBranch) (fork : DraftReference) (paths : List DraftForkPath) → (levels ≡ 0 → ⊥) → one.end ≡ end.Fork fork paths → branch_states levels one ≡ path_states (levels - 1) fork paths
unfolding branch_states
branch-fork zero one fork paths some is = absurd (some refl)
branch-fork (suc levels) one fork paths some is =
    let less : levels ≡ suc levels - 1 = omega arith in
    ap (λ e. end_states (λ below. branch_states levels below) (out-DraftBranchEnd e)) is
    ∙ ap (end_states (λ below. branch_states levels below)) (out-fork fork paths)
    ∙ ap (λ n. path_states n fork paths) less

pub branch-sequence : (levels : ℕ) (one : DraftBranch) (name : DraftReference) → one.end ≡ end.Sequence name → branch_states levels one ≡ []
unfolding branch_states
branch-sequence zero one name is = refl
branch-sequence (suc levels) one name is =
    ap (λ e. end_states (λ below. branch_states levels below) (out-DraftBranchEnd e)) is
    ∙ ap (end_states (λ below. branch_states levels below)) (out-sequence name)

pub out-branch : (name : DraftReference) → out-DraftBranchEnd (end.Branch name) ≡ DraftBranchEnd-F.Branch name
out-branch name = ap out-DraftBranchEnd (sym (end.rolls-Branch name)) ∙ out-roll-DraftBranchEnd (DraftBranchEnd-F.Branch name)

pub branch-branch : (levels : ℕ) (one : DraftBranch) (name : DraftReference) → one.end ≡ end.Branch name → branch_states levels one ≡ []
unfolding branch_states
branch-branch zero one name is = refl
branch-branch (suc levels) one name is =
    ap (λ e. end_states (λ below. branch_states levels below) (out-DraftBranchEnd e)) is
    ∙ ap (end_states (λ below. branch_states levels below)) (out-branch name)

-- one path more
pub paths-one : (levels : ℕ) (fork : DraftReference) (before more : List State) (items new : List State) (paths : List DraftForkPath) (i : ℕ) (one : State) → i < length paths → one.path.now ≡ get_or paths i one.path.now → one.fork.now ≡ fork
    → fork_states items ≡ fork_states before ++ path_states levels fork (take i paths)
    → more ≡ items ++ one ∷ []
    → fork_states new ≡ fork_states more ++ branch_states levels one.path.now.branch
    → fork_states new ≡ fork_states before ++ path_states levels fork (take (i + 1) paths)
paths-one levels fork before more items new paths i one low is its so_far pushed below =
    let its-states : DraftForkPath → List ForkState = λ path. record { fork = fork; path = path } ∷ branch_states levels path.branch in
    below
    ∙ ap (λ (xs : List ForkState). xs ++ branch_states levels one.path.now.branch) (ap fork_states pushed ∙ map-one fork_state items one ∙ ap (λ (xs : List ForkState). xs ++ fork_state one ∷ []) so_far)
    ∙ append_assoc (fork_states before ++ path_states levels fork (take i paths)) (fork_state one ∷ []) (branch_states levels one.path.now.branch)
    ∙ append_assoc (fork_states before) (path_states levels fork (take i paths)) (fork_state one ∷ branch_states levels one.path.now.branch)
    ∙ ap (λ (xs : List ForkState). fork_states before ++ xs)
    (ap (λ (f : DraftReference). path_states levels fork (take i paths) ++ (record { fork = f; path = one.path.now } ∷ branch_states levels one.path.now.branch)) its
    ∙ sym (flat-one its-states (take i paths) one.path.now) ∙ ap (path_states levels fork) (sym (one-more-taken paths i one.path.now low is)))

-- what follows where a call succeeded
pub on-ok : {T E : Type 0} {P Q : Type 0} (r : Result T E) → (P → Q) → OnOk r P → OnOk r Q
on-ok (Ok x) f h = f h
on-ok (Err e) f h = tt
