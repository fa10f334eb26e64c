-- The nodes of sequences, by their paths and what these collected.
use Rattle.std.proofs.Common.{inl, inr, ◌⊎◌, true≢false, ◌≡◌, ◌<◌, ◌≤◌, ◌+◌, ℕ, Bool, true, false, List, [], ◌∷◌, ◌++◌, Some, length, take, drop, get_or, nat_lt, ◌&&◌, ◌||◌, refl, sym, ap, ◌∙◌, subst, arith, append_assoc}
use Rattle.std.proofs.lemmas.Bool.Decides.{nat_tests, leb_tells}
use Rattle.std.proofs.lemmas.List.{take_all, drop_all, append-nil}
use Rattle.std.proofs.lemmas.List.Folds.{list_any-append, list_all-append}
use Rattle.std.proofs.Math.Seq.{take-append_seam}
use Rattle.std.proofs.lemmas.Option.{slice_get-get_or}
use Rattle.std.specs.List.{slice_get, list_all, list_any}
use Rattle.psa_model.specs.declared.formula.Formula.{Formula}
use Rattle.psa_model.specs.declared.ids.FormulaId.{FormulaId}
use Rattle.psa_model.specs.declared.ids.HouseId.{HouseId}
use Rattle.psa_model.specs.declared.targets.PathStep.{PathStep}
use Rattle.psa_model.specs.declared.targets.PathStep.TheVariants.{Collect, Set}
use Rattle.psa_model.specs.declared.targets.Target.{Target}
use Rattle.psa_model.specs.Parts.{Truth, Meets, on_path, IsSimplePart, all_pairs, some_path, all_true, collected_on, between, truth_over}
use Rattle.psa_model.specs.Standing.{step_stands}
use Rattle.psa_model.specs.Targets.{Collected, collected, collected_formula}
use Rattle.psa_model.specs.Truth.{house_states}
use Rattle.psa_prep.specs.declared.builder.Builder.{Builder}
use Rattle.psa_prep.specs.declared.builder.Known.{Known}
use Rattle.psa_prep.specs.declared.builder.Prepared.{Prepared}
use Rattle.psa_prep.specs.declared.builder.Prepared.TheVariants as prepared
use Rattle.psa_prep.specs.declared.pairs.Pair.{Pair}
use Rattle.psa_prep.specs.declared.paths.Progress.{Progress}
use Rattle.psa_prep.specs.declared.paths.Task.{Task}
use Rattle.psa_prep.specs.declared.states.Changes.{Changes}
use Rattle.psa_prep.specs.Nodes.{nodes_of, known_of}
use Rattle.psa_prep.specs.Pairs.{Reads, constant_pair}
use Rattle.psa_prep.specs.Places.{Grown}
use Rattle.psa_prep.specs.Sound.{IsSubject, state_houses, state_number, formula_truth, AreParts, IsSound, Made, JoinsPairs}
use Rattle.psa_prep.specs.States.{AreStates, IsSet}
use Rattle.psa_prep.specs.Paths.{task_world, yes_signs, IsStarted, ArePaths, IsPath, PathSoFar, Stepped, MadeAt, path_truth, paths_truth}
use Rattle.psa_prep.proofs.EventLemmas.{between-take}
use Rattle.psa_prep.proofs.ListLemmas.{take-next, drop-next, all-at}
use Rattle.psa_prep.proofs.PlaceLemmas.{grown-self, grown-then, grown-length}
use Rattle.psa_prep.proofs.SoundLemmas.{simple-parts, reads-constant, reads-grown, reads-as}
use Rattle.psa_prep.proofs.StateLemmas.{houses-grown, houses-none}

-- ---- house states that come in

-- what was prepared stays right
pub started-grown : (task : Task) (old new : List Changes) (builder : Builder) → Grown old new → AreStates (house_states task.expanded.now.model) new → IsSound (task_world task old) builder → IsStarted task new builder
started-grown task old new builder g states sound = record {
  states = states;
  sound = record {
    built = sound.built;
    width = sound.width;
    parts = sound.parts;
    right = λ subject f is. by subject f is (nat_tell (state_number subject) (length old));
    fresh = λ subject later. let longer = grown-length old new g in sound.fresh subject (omega arith);
  };
}
  where
    nat_tell : (a b : ℕ) → (a ≤ b) ⊎ (b < a)
    nat_tell a b = elim (leb_tells a b) [ inl p ↦ inl p.1 | inr p ↦ inr p.1 ]

    by : (subject : Prepared) (f : Formula) → IsSubject (task_world task new) subject f → (state_number subject ≤ length old) ⊎ (length old < state_number subject) → Reads (known_of builder subject).signs (formula_truth (task_world task new) (state_houses (task_world task new) (state_number subject)) f) (nodes_of builder) (known_of builder subject).pair
    by subject f is (inl there) =
        subst (λ (houses : List Bool). Reads (known_of builder subject).signs (formula_truth (task_world task old) houses f) (nodes_of builder) (known_of builder subject).pair)
        (sym (houses-grown (house_states task.expanded.now.model) old new g (state_number subject) there)) (sound.right subject f (is_as subject is))
      where
        is_as : (subject : Prepared) → IsSubject (task_world task new) subject f → IsSubject (task_world task old) subject f
        is_as (prepared.Gate id state) h = h
        is_as (prepared.Formula id state) h = h
    by subject f is (inr later) =
        let some : 1 < length (nodes_of builder) = sound.built.some in
        subst (λ (known : Known). Reads known.signs (formula_truth (task_world task new) (state_houses (task_world task new) (state_number subject)) f) (nodes_of builder) known.pair) (sym (sound.fresh subject later))
        (record { there = (omega arith, omega arith); as_yes = λ asked s. absurd (true≢false (sym asked)); as_no = λ asked s. absurd (true≢false (sym asked)) })

-- ---- a path

-- no step yet
pub path-start : (task : Task) (path : List PathStep) (changes : List Changes) (builder : Builder) → IsStarted task changes builder → PathSoFar task path 0 changes builder (record { pair = constant_pair true; number = 0 })
path-start task path changes builder started = record {
  so_far = [];
  rest = ap (λ houses. collected task.expanded.now.model houses path) (houses-none (house_states task.expanded.now.model) changes);
  reads = reads-constant yes_signs _ builder true started.sound.built (λ s. refl);
  within = omega arith;
  started = started;
}

-- the step at a place of a path stands
pub step-at : (task : Task) (path : List PathStep) (i : ℕ) (step : PathStep) → IsPath task path → i < length path → step ≡ get_or path i step → step_stands task.expanded.now.model step ≡ true
step-at task path i step is_path inside is = all-at (step_stands task.expanded.now.model) path i step is_path.stand inside is

-- what a step collects is the next of what the path did
pub next-collected : (task : Task) (path : List PathStep) (i : ℕ) (id : FormulaId) (f : Formula) (changes : List Changes) (builder : Builder) (progress : Progress) (soFar : PathSoFar task path i changes builder progress) → i < length path → Collect id ≡ get_or path i (Collect id) → slice_get task.expanded.now.model.formulas id.0 ≡ Some f → (soFar.so_far ++ (record { formula = f; houses = state_houses (task_world task changes) progress.number } ∷ [])) ++ collected task.expanded.now.model (state_houses (task_world task changes) progress.number) (drop (i + 1) path) ≡ collected_on task.expanded.now path
next-collected task path i id f changes builder progress soFar inside is found =
    append_assoc soFar.so_far _ _
    ∙ ap (λ o. soFar.so_far ++ collected_formula o (state_houses (task_world task changes) progress.number) (collected task.expanded.now.model (state_houses (task_world task changes) progress.number) (drop (i + 1) path))) (sym found)
    ∙ ap (λ steps. soFar.so_far ++ collected task.expanded.now.model (state_houses (task_world task changes) progress.number) steps) (sym (drop-next path i (Collect id) inside is))
    ∙ soFar.rest

get-seam : {A : Type 0} (xs : List A) (x : A) (ys : List A) → slice_get ((xs ++ (x ∷ [])) ++ ys) (length xs) ≡ Some x
get-seam [] x ys = refl
get-seam (z ∷ xs) x ys = get-seam xs x ys

-- the target meets what a step collects
pub path-meets : (task : Task) (path : List PathStep) (i : ℕ) (id : FormulaId) (f : Formula) (changes : List Changes) (builder : Builder) (progress : Progress) → IsPath task path → PathSoFar task path i changes builder progress → i < length path → Collect id ≡ get_or path i (Collect id) → slice_get task.expanded.now.model.formulas id.0 ≡ Some f → Meets task.expanded.now task.target.now (state_houses (task_world task changes) progress.number) f
path-meets task path i id f changes builder progress is_path soFar inside is found =
    let here : Collected = record { formula = f; houses = state_houses (task_world task changes) progress.number } in
    let at : slice_get (collected_on task.expanded.now path) (length soFar.so_far) ≡ Some here =
    ap (λ all. slice_get all (length soFar.so_far)) (sym (next-collected task path i id f changes builder progress soFar inside is found))
    ∙ get-seam soFar.so_far here (collected task.expanded.now.model (state_houses (task_world task changes) progress.number) (drop (i + 1) path)) in
    subst (λ (t : Target). Meets task.expanded.now t (state_houses (task_world task changes) progress.number) f) (sym is_path.is)
    (on_path is_path.initiating is_path.sequence is_path.paths is_path.at_place path (length soFar.so_far) here is_path.found at)

and-end : (a b : Bool) → (a && (b && true)) ≡ (a && b)
and-end true true = refl
and-end true false = refl
and-end false b = refl

or-end : (a b : Bool) → (a || (b || false)) ≡ (a || b)
or-end true b = refl
or-end false true = refl
or-end false false = refl

-- what a path collected up to a place is a part
pairs-part : (task : Task) (path : List PathStep) (some more : List Collected) → IsPath task path → some ++ more ≡ collected_on task.expanded.now path → AreParts (task_world task []) (all_true task.expanded.now task.target.now some)
pairs-part task path some more is_path whole =
    simple-parts (task_world task []) (all_true task.expanded.now task.target.now (between 0 (length some) (collected_on task.expanded.now path))) _
    (subst (λ (t : Target). IsSimplePart task.expanded.now t (all_true task.expanded.now t (between 0 (length some) (collected_on task.expanded.now path)))) (sym is_path.is)
    (all_pairs is_path.initiating is_path.sequence is_path.paths is_path.at_place path 0 (length some) is_path.found))
    (λ s. ap (λ ones. all_true task.expanded.now task.target.now ones s)
    (sym (between-take (length some) (collected_on task.expanded.now path) ∙ ap (take (length some)) (sym whole) ∙ take-append_seam some more)))

-- parts are those of the target, whatever house states came in
parts-world : (task : Task) (one other : List Changes) (f : Truth) → AreParts (task_world task one) f → AreParts (task_world task other) f
parts-world task one other f p = record { itself = p.itself; opposite = p.opposite }

-- a formula more was collected
pub path-collect : (task : Task) (path : List PathStep) (i : ℕ) (id : FormulaId) (f : Formula) (changes : List Changes) (before mid now : Builder) (progress : Progress) (single result : Pair) → IsPath task path → PathSoFar task path i changes before progress → i < length path → Collect id ≡ get_or path i (Collect id) → slice_get task.expanded.now.model.formulas id.0 ≡ Some f → Made (task_world task changes) yes_signs (formula_truth (task_world task changes) (state_houses (task_world task changes) progress.number) f) before mid single → JoinsPairs yes_signs true progress.pair single mid now result → Stepped task path (i + 1) changes changes before now (record { pair = result; number = progress.number })
path-collect task path i id f changes before mid now progress single result is_path soFar inside is found made join =
    let here : Collected = record { formula = f; houses = state_houses (task_world task changes) progress.number } in
    let whole = next-collected task path i id f changes before progress soFar inside is found in
    let joined = join (task_world task changes) (all_true task.expanded.now task.target.now soFar.so_far) (formula_truth (task_world task changes) (state_houses (task_world task changes) progress.number) f)
    (all_true task.expanded.now task.target.now (soFar.so_far ++ (here ∷ []))) made.sound
    (reads-grown yes_signs _ (nodes_of before) (nodes_of mid) progress.pair made.grown soFar.reads) made.reads
    (λ s. list_all-append (λ (one : Collected). truth_over task.expanded.now task.target.now one.houses one.formula s) soFar.so_far (here ∷ [])
    ∙ and-end (all_true task.expanded.now task.target.now soFar.so_far s) (formula_truth (task_world task changes) (state_houses (task_world task changes) progress.number) f s))
    (parts-world task [] changes _ (pairs-part task path (soFar.so_far ++ (here ∷ [])) _ is_path whole)) in record {
      prepared = record {
        so_far = soFar.so_far ++ (here ∷ []);
        rest = whole;
        reads = joined.reads;
        within = soFar.within;
        started = record { states = soFar.started.states; sound = joined.sound };
      };
      grown = grown-then (nodes_of before) (nodes_of mid) (nodes_of now) made.grown joined.grown;
      set = grown-self changes;
    }

-- a house event was set
pub path-set : (task : Task) (path : List PathStep) (i : ℕ) (house : HouseId) (state : Bool) (old new : List Changes) (builder : Builder) (progress : Progress) (number : ℕ) → PathSoFar task path i old builder progress → i < length path → Set house state ≡ get_or path i (Set house state) → IsSet (house_states task.expanded.now.model) old new progress.number house.0 state number → Stepped task path (i + 1) old new builder builder (record { pair = progress.pair; number = number })
path-set task path i house state old new builder progress number soFar inside is set = record {
  prepared = record {
    so_far = soFar.so_far;
    rest =
        ap (λ houses. soFar.so_far ++ collected task.expanded.now.model houses (drop (i + 1) path)) set.houses
        ∙ ap (λ steps. soFar.so_far ++ collected task.expanded.now.model (state_houses (task_world task old) progress.number) steps) (sym (drop-next path i (Set house state) inside is))
        ∙ soFar.rest;
    reads = soFar.reads;
    within = set.within;
    started = started-grown task old new builder set.grown set.states soFar.started.sound;
  };
  grown = grown-self (nodes_of builder);
  set = set.grown;
}

pub stepped-then : (task : Task) (path : List PathStep) (i : ℕ) (old mid new : List Changes) (before now next : Builder) (progress : Progress) → Grown old mid → Grown (nodes_of before) (nodes_of now) → Stepped task path i mid new now next progress → Stepped task path i old new before next progress
stepped-then task path i old mid new before now next progress set grown step = record {
  prepared = step.prepared;
  grown = grown-then (nodes_of before) (nodes_of now) (nodes_of next) grown step.grown;
  set = grown-then old mid new set step.set;
}

pub stepped-start : (task : Task) (path : List PathStep) (changes : List Changes) (builder : Builder) (progress : Progress) → progress ≡ record { pair = constant_pair true; number = 0 } → IsStarted task changes builder → Stepped task path 0 changes changes builder builder progress
stepped-start task path changes builder progress is started = record {
  prepared = subst (λ (p : Progress). PathSoFar task path 0 changes builder p) (sym is) (path-start task path changes builder started);
  grown = grown-self (nodes_of builder);
  set = grown-self changes;
}

-- all steps
pub path-end : (task : Task) (path : List PathStep) (i : ℕ) (old new : List Changes) (before now : Builder) (progress : Progress) → length path ≤ i → Stepped task path i old new before now progress → MadeAt task (path_truth task path) old new before now progress.pair
path-end task path i old new before now progress past step = record {
  reads = reads-as yes_signs _ _ (nodes_of now) progress.pair
      (λ s. ap (λ ones. all_true task.expanded.now task.target.now ones s)
      (sym (append-nil step.prepared.so_far)
      ∙ ap (λ steps. step.prepared.so_far ++ collected task.expanded.now.model (state_houses (task_world task new) progress.number) steps) (sym (drop_all i path past))
      ∙ step.prepared.rest)) step.prepared.reads;
  grown = step.grown;
  set = step.set;
  started = step.prepared.started;
}

-- ---- all paths

paths-part : (task : Task) (paths : List (List PathStep)) (i : ℕ) (changes : List Changes) → ArePaths task paths → AreParts (task_world task changes) (paths_truth task (take i paths))
paths-part task paths i changes are =
    simple-parts (task_world task changes) (λ s. list_any (λ path. all_true task.expanded.now task.target.now (collected_on task.expanded.now path) s) (between 0 i paths)) _
    (subst (λ (t : Target). IsSimplePart task.expanded.now t (λ s. list_any (λ path. all_true task.expanded.now t (collected_on task.expanded.now path) s) (between 0 i paths))) (sym are.is)
    (some_path are.initiating are.sequence paths 0 i))
    (λ s. ap (λ ps. paths_truth task ps s) (sym (between-take i paths)))

pub paths-start : (task : Task) (paths : List (List PathStep)) (changes : List Changes) (builder : Builder) → IsStarted task changes builder → MadeAt task (paths_truth task (take 0 paths)) changes changes builder builder (constant_pair false)
paths-start task paths changes builder started = record {
  reads = reads-constant yes_signs _ builder false started.sound.built (λ s. refl);
  grown = grown-self (nodes_of builder);
  set = grown-self changes;
  started = started;
}

pub path-of : (task : Task) (paths : List (List PathStep)) (i : ℕ) (path : List PathStep) → ArePaths task paths → i < length paths → path ≡ get_or paths i path → IsPath task path
path-of task paths i path are inside is = record {
  initiating = are.initiating;
  sequence = are.sequence;
  paths = paths;
  at_place = i;
  is = are.is;
  found = slice_get-get_or paths i path inside ∙ ap Some (sym is);
  stand = all-at (λ p. list_all (step_stands task.expanded.now.model) p) paths i path are.stand inside is;
}

pub paths-more : (task : Task) (paths : List (List PathStep)) (i : ℕ) (path : List PathStep) (old mid new : List Changes) (start before now next : Builder) (pair single result : Pair) → ArePaths task paths → i < length paths → path ≡ get_or paths i path → MadeAt task (paths_truth task (take i paths)) old mid start before pair → MadeAt task (path_truth task path) mid new before now single → JoinsPairs yes_signs false pair single now next result → MadeAt task (paths_truth task (take (i + 1) paths)) old new start next result
paths-more task paths i path old mid new start before now next pair single result are inside is so_far made join =
    let joined = join (task_world task new) (paths_truth task (take i paths)) (path_truth task path) (paths_truth task (take (i + 1) paths)) made.started.sound
    (reads-grown yes_signs _ (nodes_of before) (nodes_of now) pair made.grown so_far.reads) made.reads
    (λ s. ap (λ ps. paths_truth task ps s) (take-next paths i path inside is)
    ∙ list_any-append (λ p. path_truth task p s) (take i paths) (path ∷ [])
    ∙ or-end (paths_truth task (take i paths) s) (path_truth task path s))
    (paths-part task paths (i + 1) new are) in record {
      reads = joined.reads;
      grown = grown-then (nodes_of start) (nodes_of now) (nodes_of next) (grown-then (nodes_of start) (nodes_of before) (nodes_of now) so_far.grown made.grown) joined.grown;
      set = grown-then old mid new so_far.set made.set;
      started = record { states = made.started.states; sound = joined.sound };
    }

pub paths-end : (task : Task) (paths : List (List PathStep)) (i : ℕ) (old new : List Changes) (start now : Builder) (pair : Pair) → length paths ≤ i → MadeAt task (paths_truth task (take i paths)) old new start now pair → MadeAt task (paths_truth task paths) old new start now pair
paths-end task paths i old new start now pair past made = subst (λ (ps : List (List PathStep)). MadeAt task (paths_truth task ps) old new start now pair) (take_all i paths past) made

-- the formula that a step collects stands
pub collect-stands : (task : Task) (path : List PathStep) (i : ℕ) (id : FormulaId) → IsPath task path → i < length path → Collect id ≡ get_or path i (Collect id) → id.0 < length task.expanded.now.model.formulas
collect-stands task path i id is_path inside is = let there : nat_lt id.0 (length task.expanded.now.model.formulas) ≡ true = step-at task path i (Collect id) is_path inside is in grind (arith, nat_tests)

-- the house event that a step sets stands
pub set-stands : (task : Task) (path : List PathStep) (i : ℕ) (house : HouseId) (state : Bool) → IsPath task path → i < length path → Set house state ≡ get_or path i (Set house state) → house.0 < length task.expanded.now.model.houses
set-stands task path i house state is_path inside is = let there : nat_lt house.0 (length task.expanded.now.model.houses) ≡ true = step-at task path i (Set house state) is_path inside is in grind (arith, nat_tests)
