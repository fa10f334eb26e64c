-- The nodes of formulas and of gates, by those of their parts.
use Rattle.std.proofs.Common.{◌≡◌, ◌⊎◌, inl, inr, ◌<◌, ◌≤◌, ◌+◌, ℕ, suc, Bool, true, false, ◌==◌, List, [], ◌∷◌, ◌++◌, Some, cond, length, reverse, not, ◌&&◌, ◌||◌, refl, sym, ap, ◌∙◌, subst, length-append}
use Rattle.std.proofs.lemmas.Bool.Decides.{eqb_tells}
use Rattle.std.specs.List.{slice_get}
use Rattle.psa_graph.specs.declared.graph.GraphNode.{GraphNode}
use Rattle.psa_graph.specs.Truths.{truth_at}
use Rattle.psa_model.specs.declared.formula.Connective.{Connective}
use Rattle.psa_model.specs.declared.formula.Formula.{Formula}
use Rattle.psa_model.specs.declared.formula.Formula.TheVariants as variant
use Rattle.psa_model.specs.declared.ids.GateId.{GateId}
use Rattle.psa_model.specs.declared.ids.HouseId.{HouseId}
use Rattle.psa_model.specs.declared.model.TheConstants.{MAX_DEPTH}
use Rattle.psa_model.specs.declared.model.Gate.{Gate}
use Rattle.psa_model.specs.Parts.{Truth, Meets, argument}
use Rattle.psa_model.specs.Truth.{within, state_of}
use Rattle.psa_model.proofs.Levels.{and-left, and-right, arity-within}
use Rattle.psa_prep.specs.declared.builder.Builder.{Builder}
use Rattle.psa_prep.specs.declared.builder.Known.{Known}
use Rattle.psa_prep.specs.declared.builder.Prepared.{Prepared}
use Rattle.psa_prep.specs.declared.builder.Prepared.TheVariants as prepared
use Rattle.psa_prep.specs.declared.connectives.Operands.{Operands}
use Rattle.psa_prep.specs.declared.lowering.Context.{Context}
use Rattle.psa_prep.specs.declared.pairs.Pair.{Pair}
use Rattle.psa_prep.specs.declared.pairs.Signs.{Signs}
use Rattle.psa_prep.specs.Connectives.{whole, AreOperands, MakesWhole}
use Rattle.psa_prep.specs.Lowering.{IsContext, world_of, houses_of, argument_signs, AllRead, Makes, MakesAll}
use Rattle.psa_prep.specs.Nodes.{nodes_of, known_of, with_more, Remembers}
use Rattle.psa_prep.specs.Pairs.{Reads, without, constant_pair}
use Rattle.psa_prep.specs.Places.{Grown}
use Rattle.psa_prep.specs.Sound.{World, state_houses, formula_truth, IsSubject, state_number, IsSound, Made}
use Rattle.psa_prep.proofs.FormulaLemmas.{over-house, over-constant, over-gate, over-connective}
use Rattle.psa_prep.proofs.ListLemmas.{slice_get-push}
use Rattle.psa_prep.proofs.PlaceLemmas.{grown-self, grown-same, grown-then}
use Rattle.psa_prep.proofs.SoundLemmas.{made-there, made-constant, made-then, made-as, reads-grown, reads-fewer, sound-remembered}

-- a formula by its form
pub makes-as : (context : Context) (f g : Formula) (signs : Signs) (before now : Builder) (pair : Pair) → f ≡ g → Makes context g signs before now pair → Makes context f signs before now pair
makes-as context f g signs before now pair is made = subst (λ h. Makes context h signs before now pair) (sym is) made

pub makes-house : (context : Context) (f : Formula) (id : HouseId) (signs : Signs) (builder : Builder) (value : Bool) → f ≡ variant.House id → IsSound (world_of context) builder → value ≡ state_of (slice_get (houses_of context) id.0) → Makes context f signs builder builder (constant_pair value)
makes-house context f id signs builder value is sound state =
    makes-as context f (variant.House id) signs builder builder (constant_pair value) is
    (made-constant (world_of context) signs _ builder value sound (λ s. over-house (world_of context) (houses_of context) id s ∙ sym state))

pub makes-constant : (context : Context) (f : Formula) (signs : Signs) (builder : Builder) (value : Bool) → f ≡ variant.Constant value → IsSound (world_of context) builder → Makes context f signs builder builder (constant_pair value)
makes-constant context f signs builder value is sound =
    makes-as context f (variant.Constant value) signs builder builder (constant_pair value) is
    (made-constant (world_of context) signs _ builder value sound (λ s. over-constant (world_of context) (houses_of context) value s))

-- what is met is within the same model
pub meets-as : (context : Context) (f g : Formula) → f ≡ g → Meets context.expanded.now context.target.now (houses_of context) f → Meets context.expanded.now context.target.now (houses_of context) g
meets-as context f g is m = subst (λ h. Meets context.expanded.now context.target.now (houses_of context) h) is m

-- ---- what was prepared before

-- what covers a sign has it
covered-by : (a b : Bool) → not (a && not b) ≡ true → a ≡ true → b ≡ true
covered-by true true h e = refl
covered-by true false h e = absurd (cc)
covered-by false b h e = absurd (cc)

-- all that is asked for is known
pub known-made : (w : World) (subject : Prepared) (f : Formula) (signs missing : Signs) (known : Known) (builder : Builder) → IsSound w builder → IsSubject w subject f → known ≡ known_of builder subject → missing ≡ without signs known.signs → (not missing.yes && not missing.no) ≡ true → Made w signs (formula_truth w (state_houses w (state_number subject)) f) builder builder known.pair
known-made w subject f signs missing known builder sound is known_is missing_is none =
    made-there w signs _ builder known.pair sound
    (reads-fewer known.signs signs _ (nodes_of builder) known.pair
    (λ asked. covered-by signs.yes known.signs.yes (sym (ap (λ m. not m.yes) missing_is) ∙ and-left (not missing.yes) (not missing.no) none) asked)
    (λ asked. covered-by signs.no known.signs.no (sym (ap (λ m. not m.no) missing_is) ∙ and-right (not missing.yes) (not missing.no) none) asked)
    (subst (λ (k : Known). Reads k.signs (formula_truth w (state_houses w (state_number subject)) f) (nodes_of builder) k.pair) (sym known_is) (sound.right subject f is)))

with-yes : (P : ℕ → Type 0) (known missing : Bool) (old new : ℕ) → (known || missing) ≡ true → (known ≡ true → P old) → (missing ≡ true → P new) → P (cond missing new old)
with-yes P known true old new e left right = right refl
with-yes P true false old new e left right = left refl
with-yes P false false old new e left right = absurd (cc)

with-there : (P : ℕ → Type 0) (missing : Bool) (old new : ℕ) → P old → P new → P (cond missing new old)
with-there P true old new left right = right
with-there P false old new left right = left

-- what is known with more signs
reads-with : (f : Truth) (nodes : List GraphNode) (known : Known) (missing : Signs) (pair : Pair) → Reads known.signs f nodes known.pair → Reads missing f nodes pair → Reads (with_more known missing pair).signs f nodes (with_more known missing pair).pair
reads-with f nodes known missing pair old new = record {
  there = (
    with-there (λ p. p < length nodes) missing.yes known.pair.yes pair.yes old.there.0 new.there.0,
    with-there (λ p. p < length nodes) missing.no known.pair.no pair.no old.there.1 new.there.1,
  );
  as_yes = λ asked s. with-yes (λ p. truth_at nodes p s ≡ f s) known.signs.yes missing.yes known.pair.yes pair.yes asked (λ h. old.as_yes h s) (λ h. new.as_yes h s);
  as_no = λ asked s. with-yes (λ p. truth_at nodes p s ≡ not (f s)) known.signs.no missing.no known.pair.no pair.no asked (λ h. old.as_no h s) (λ h. new.as_no h s);
}

in-with : (a b : Bool) → a ≡ true → (b || (a && not b)) ≡ true
in-with true true h = refl
in-with true false h = refl
in-with false b h = absurd (cc)

-- what was missing was made and is remembered
pub prepared-made : (w : World) (subject : Prepared) (f : Formula) (signs missing : Signs) (known : Known) (before now next : Builder) (pair : Pair) → IsSound w before → IsSubject w subject f → ((g : Formula) → IsSubject w subject g → g ≡ f) → state_number subject ≤ length w.changes → known ≡ known_of before subject → missing ≡ without signs known.signs → Made w missing (formula_truth w (state_houses w (state_number subject)) f) before now pair → Remembers subject (with_more known missing pair) now next → Made w signs (formula_truth w (state_houses w (state_number subject)) f) before next (with_more known missing pair).pair
prepared-made w subject f signs missing known before now next pair sound is only number known_is missing_is made remembers = record {
  reads = reads-fewer (with_more known missing pair).signs signs truth (nodes_of next) (with_more known missing pair).pair yes_in no_in
      (reads-grown (with_more known missing pair).signs truth (nodes_of now) (nodes_of next) (with_more known missing pair).pair grown_next all);
  grown = grown-then (nodes_of before) (nodes_of now) (nodes_of next) made.grown grown_next;
  sound = sound-remembered w subject (with_more known missing pair) now next made.sound remembers number
      (λ g g_is. subst (λ h. Reads (with_more known missing pair).signs (formula_truth w (state_houses w (state_number subject)) h) (nodes_of now) (with_more known missing pair).pair) (sym (only g g_is)) all);
}
  where
    truth : Truth
    truth = formula_truth w (state_houses w (state_number subject)) f

    grown_next : Grown (nodes_of now) (nodes_of next)
    grown_next = grown-same (nodes_of now) (nodes_of next) (ap (λ ns. reverse ns.keys) remembers.nodes)

    old : Reads known.signs truth (nodes_of now) known.pair
    old = reads-grown known.signs truth (nodes_of before) (nodes_of now) known.pair made.grown
        (subst (λ (k : Known). Reads k.signs (formula_truth w (state_houses w (state_number subject)) f) (nodes_of before) k.pair) (sym known_is) (sound.right subject f is))

    all : Reads (with_more known missing pair).signs truth (nodes_of now) (with_more known missing pair).pair
    all = reads-with truth (nodes_of now) known missing pair old made.reads

    yes_in : signs.yes ≡ true → (known.signs.yes || missing.yes) ≡ true
    yes_in asked = ap (λ m. known.signs.yes || m.yes) missing_is ∙ in-with signs.yes known.signs.yes asked

    no_in : signs.no ≡ true → (known.signs.no || missing.no) ≡ true
    no_in asked = ap (λ m. known.signs.no || m.no) missing_is ∙ in-with signs.no known.signs.no asked

-- a gate that is known
pub gate-known : (context : Context) (id : GateId) (signs missing : Signs) (known : Known) (builder : Builder) → IsSound (world_of context) builder → known ≡ known_of builder (prepared.Gate id.0 context.state) → missing ≡ without signs known.signs → (not missing.yes && not missing.no) ≡ true → Makes context (variant.Gate id) signs builder builder known.pair
gate-known context id signs missing known builder sound known_is missing_is none =
    known-made (world_of context) (prepared.Gate id.0 context.state) (variant.Gate id) signs missing known builder sound refl known_is missing_is none

-- a gate by its formula
pub gate-made : (context : Context) (depth : ℕ) (id : GateId) (gate : Gate) (signs missing : Signs) (known : Known) (before now next : Builder) (pair : Pair) → depth ≤ suc MAX_DEPTH → within depth context.expanded.now.model (variant.Gate id) ≡ true → slice_get context.expanded.now.model.gates id.0 ≡ Some gate → IsContext context → IsSound (world_of context) before → known ≡ known_of before (prepared.Gate id.0 context.state) → missing ≡ without signs known.signs → Makes context gate.formula missing before now pair → Remembers (prepared.Gate id.0 context.state) (with_more known missing pair) now next → Makes context (variant.Gate id) signs before next (with_more known missing pair).pair
gate-made context depth id gate signs missing known before now next pair l deep found is_context sound known_is missing_is made remembers =
    prepared-made (world_of context) (prepared.Gate id.0 context.state) (variant.Gate id) signs missing known before now next pair sound refl (λ g g_is. g_is) is_context.within known_is missing_is
    (made-as (world_of context) missing _ _ before now pair (over-gate (world_of context) (houses_of context) depth id gate l deep found) made) remembers

-- ---- arguments

pub argument-meets : (context : Context) (f : Formula) (operator : Connective) (min max : ℕ) (arguments items : List Formula) → f ≡ variant.Connective operator min max arguments → items ≡ arguments → Meets context.expanded.now context.target.now (houses_of context) f → (place : ℕ) (one : Formula) → slice_get items place ≡ Some one → Meets context.expanded.now context.target.now (houses_of context) one
argument-meets context f operator min max arguments items is same m place one at =
    argument context.target.now (houses_of context) operator min max arguments place one (meets-as context f (variant.Connective operator min max arguments) is m) (ap (λ gs. slice_get gs place) (sym same) ∙ at)

-- the arguments before a place
pub record MadeSome (context : Context) (operator : Connective) (arguments : List Formula) (signs : Signs) (i : ℕ) (before now : Builder) (pairs : List Pair) : Type 0 where
  pub size : length pairs ≡ i
  pub read : AllRead (world_of context) (houses_of context) (λ place. argument_signs operator place signs) arguments now pairs
  pub grown : Grown (nodes_of before) (nodes_of now)
  pub sound : IsSound (world_of context) now

pub some-start : (context : Context) (operator : Connective) (arguments : List Formula) (signs : Signs) (builder : Builder) (pairs : List Pair) → pairs ≡ [] → IsSound (world_of context) builder → MadeSome context operator arguments signs 0 builder builder pairs
some-start context operator arguments signs builder pairs none sound = record {
  size = ap length none;
  read = λ place f pair at there. absurd (nothing place pair (sym (ap (λ (ps : List Pair). slice_get ps place) none) ∙ there));
  grown = grown-self (nodes_of builder);
  sound = sound;
}
  where
    nothing : (place : ℕ) (pair : Pair) → slice_get {X = Pair} [] place ≡ Some pair → ⊥
    nothing place pair e = absurd (cc)

pub some-more : (context : Context) (operator : Connective) (arguments : List Formula) (signs asked : Signs) (i : ℕ) (one : Formula) (start now next : Builder) (pairs after : List Pair) (pair : Pair) → slice_get arguments i ≡ Some one → asked ≡ argument_signs operator i signs → after ≡ pairs ++ (pair ∷ []) → MadeSome context operator arguments signs i start now pairs → Makes context one asked now next pair → MadeSome context operator arguments signs (i + 1) start next after
some-more context operator arguments signs asked i one start now next pairs after pair found asked_is pushed so_far made = record {
  size = ap length pushed ∙ length-append pairs (pair ∷ []) ∙ ap (λ n. n + 1) so_far.size;
  read = λ place f p at there. by place f p at (sym (ap (λ ps. slice_get ps place) pushed) ∙ there) (eqb_tells place (length pairs));
  grown = grown-then (nodes_of start) (nodes_of now) (nodes_of next) so_far.grown made.grown;
  sound = made.sound;
}
  where
    by : (place : ℕ) (f : Formula) (p : Pair) → slice_get arguments place ≡ Some f → slice_get (pairs ++ (pair ∷ [])) place ≡ Some p → ((place == length pairs) ≡ true) × (place ≡ length pairs) ⊎ ((place == length pairs) ≡ false) × (place ≡ length pairs → ⊥) → Reads (argument_signs operator place signs) (formula_truth (world_of context) (houses_of context) f) (nodes_of next) p
    by place f p at there (inl here) =
        let is : Some pair ≡ Some p = sym (slice_get-push pairs pair place ∙ ap (λ b. cond b (Some pair) (slice_get pairs place)) here.0) ∙ there in
        let same : pair ≡ p = cc in
        let place_is : place ≡ i = here.1 ∙ so_far.size in
        let formula_is : Some one ≡ Some f = sym found ∙ ap (slice_get arguments) (sym place_is) ∙ at in
        let one_is : one ≡ f = cc in
        subst (λ (n : ℕ). Reads (argument_signs operator n signs) (formula_truth (world_of context) (houses_of context) f) (nodes_of next) p) (sym place_is)
        (subst (λ (some : Signs). Reads some (formula_truth (world_of context) (houses_of context) f) (nodes_of next) p) asked_is
        (subst (λ (q : Pair). Reads asked (formula_truth (world_of context) (houses_of context) f) (nodes_of next) q) same
        (subst (λ (g : Formula). Reads asked (formula_truth (world_of context) (houses_of context) g) (nodes_of next) pair) one_is made.reads)))
    by place f p at there (inr before) =
        reads-grown (argument_signs operator place signs) _ (nodes_of now) (nodes_of next) p made.grown
        (so_far.read place f p at (sym (slice_get-push pairs pair place ∙ ap (λ b. cond b (Some pair) (slice_get pairs place)) before.0) ∙ there))

pub some-end : (context : Context) (operator : Connective) (arguments : List Formula) (signs : Signs) (i : ℕ) (start now : Builder) (pairs : List Pair) → i ≡ length arguments → MadeSome context operator arguments signs i start now pairs → MakesAll context operator arguments signs start now pairs
some-end context operator arguments signs i start now pairs past made = record { size = made.size ∙ past; read = made.read; grown = made.grown; sound = made.sound }

-- ---- connectives

pub operands-made : (context : Context) (f : Formula) (depth : ℕ) (operands : Operands) (start now : Builder) (signs : Signs) (pairs : List Pair) → f ≡ whole operands → within depth context.expanded.now.model f ≡ true → depth ≤ suc MAX_DEPTH → Meets context.expanded.now context.target.now (houses_of context) f → operands.pairs.now ≡ pairs → MakesAll context operands.operator operands.arguments.now signs start now pairs → AreOperands context operands now (λ i. argument_signs operands.operator i signs)
operands-made context f depth operands start now signs pairs is deep l meets same made =
    let whole_deep = subst (λ (g : Formula). within depth context.expanded.now.model g ≡ true) is deep in record {
      meets = meets-as context f (whole operands) is meets;
      arity = arity-within depth context.expanded.now.model operands.operator operands.min operands.max operands.arguments.now whole_deep;
      is = over-connective (world_of context) (houses_of context) depth operands.operator operands.min operands.max operands.arguments.now l whole_deep;
      size = ap length same ∙ made.size;
      read = λ place g pair at there. made.read place g pair at (ap (λ ps. slice_get ps place) (sym same) ∙ there);
    }

pub connective-made : (context : Context) (f : Formula) (operands : Operands) (start mid now : Builder) (signs : Signs) (pairs : List Pair) (pair : Pair) → f ≡ whole operands → MakesAll context operands.operator operands.arguments.now signs start mid pairs → MakesWhole context operands signs mid now pair → Makes context f signs start now pair
connective-made context f operands start mid now signs pairs pair is all made =
    makes-as context f (whole operands) signs start now pair is (made-then (world_of context) signs _ start mid now pair all.grown made)
