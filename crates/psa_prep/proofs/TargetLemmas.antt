-- The graph of a target.
use Rattle.std.proofs.Common.{◌≡◌, ◌<◌, ◌+◌, ℕ, zero, suc, Bool, true, false, List, [], ◌∷◌, Some, None, length, reverse, drop, get_or, cond, nat_eq, refl, sym, ap, ◌∙◌, subst, arith}
use Rattle.std.proofs.lemmas.Bool.Decides.{nat_tests}
use Rattle.std.proofs.lemmas.List.{drop_more, drop_all, length-reverse}
use Rattle.std.specs.HashMap.{HashMap, get, IsEmpty}
use Rattle.std.specs.Map.{lookup}
use Rattle.std.specs.List.{list_all}
use Rattle.psa_graph.specs.declared.graph.GraphNode.{GraphNode}
use Rattle.psa_graph.specs.declared.graph.GraphNode.TheVariants.{Constant}
use Rattle.psa_graph.specs.declared.graph.Graph.{Graph}
use Rattle.psa_graph.specs.Truths.{truth_at, AreChildrenFirst, IsGraph, graph_truth, place_truth}
use Rattle.psa_model.specs.declared.formula.Formula.TheVariants as variant
use Rattle.psa_model.specs.declared.ids.EventNumber.{EventNumber}
use Rattle.psa_model.specs.declared.ids.GateId.{GateId}
use Rattle.psa_model.specs.declared.ids.InitiatingId.{InitiatingId}
use Rattle.psa_model.specs.declared.ids.SequenceId.{SequenceId}
use Rattle.psa_model.specs.declared.model.Model.{Model}
use Rattle.psa_model.specs.declared.targets.PathStep.{PathStep}
use Rattle.psa_model.specs.declared.targets.Target.{Target}
use Rattle.psa_model.specs.declared.targets.Target.TheVariants.{TopEvent, Sequence}
use Rattle.psa_model.specs.Parts.{IsPart, Meets, top, constant, one}
use Rattle.psa_model.specs.Ranks.{ranks_of}
use Rattle.psa_model.specs.Standing.{target_stands, step_stands}
use Rattle.psa_model.specs.Targets.{truth_by_rank}
use Rattle.psa_model.specs.Truth.{house_states}
use Rattle.psa_model.proofs.Levels.{and-right}
use Rattle.psa_prep.specs.declared.builder.Builder.{Builder}
use Rattle.psa_prep.specs.declared.builder.Known.{Known}
use Rattle.psa_prep.specs.declared.pairs.Pair.{Pair}
use Rattle.psa_prep.specs.declared.pairs.Signs.{Signs}
use Rattle.psa_prep.specs.declared.paths.Task.{Task}
use Rattle.psa_prep.specs.declared.states.Changes.{Changes}
use Rattle.psa_prep.specs.Lowering.{rank_at}
use Rattle.psa_prep.specs.Nodes.{nodes_of, nothing_known, IsBlank}
use Rattle.psa_prep.specs.Pairs.{Reads}
use Rattle.psa_prep.specs.Paths.{task_world, yes_signs, IsStarted, ArePaths, MadeAt, paths_truth}
use Rattle.psa_prep.specs.Preparing.{MadeTarget}
use Rattle.psa_prep.specs.Sound.{state_number, state_houses, formula_truth, Made}
use Rattle.psa_prep.proofs.NodeLemmas.{blank-built}
use Rattle.psa_prep.proofs.StateLemmas.{houses-none, states-none}

constant-part : (task : Task) (f : (ℕ → Bool) → Bool) (b : Bool) → ((s : ℕ → Bool) → f s ≡ b) → IsPart task.expanded.now task.target.now f
constant-part task f b same = record { part = λ s. b; is_part = one _ (constant task.target.now b); same = same }

blank-part : (task : Task) (place : ℕ) → place < length {A = GraphNode} (Constant true ∷ Constant false ∷ []) → IsPart task.expanded.now task.target.now (truth_at (Constant true ∷ Constant false ∷ []) place)
blank-part task zero l = constant-part task _ false (λ s. refl)
blank-part task (suc zero) l = constant-part task _ true (λ s. refl)
blank-part task (suc (suc n)) l = absurd (omega arith)

reads-nothing : (f : (ℕ → Bool) → Bool) (builder : Builder) → 1 < length (nodes_of builder) → Reads nothing_known.signs f (nodes_of builder) nothing_known.pair
reads-nothing f builder some = record {
  there = (omega arith, omega arith);
  as_yes = λ asked s. let bad : false ≡ true = asked in absurd (cc);
  as_no = λ asked s. let bad : false ≡ true = asked in absurd (cc);
}

-- nothing is prepared yet
pub started-blank : (task : Task) (builder : Builder) → IsBlank (length (ranks_of task.expanded.now task.target.now)) builder → IsStarted task [] builder
started-blank task builder blank =
    let built = blank-built _ builder blank in
    let some : 1 < length (nodes_of builder) = built.some in record {
      states = states-none (house_states task.expanded.now.model);
      sound = record {
        built = built;
        width = blank.is_width;
        parts = subst (λ (ns : List GraphNode). (place : ℕ) → place < length ns → IsPart task.expanded.now task.target.now (truth_at ns place)) (sym blank.nodes) (blank-part task);
        right = λ subject f is.
            subst (λ (known : Known). Reads known.signs (formula_truth (task_world task []) (state_houses (task_world task []) (state_number subject)) f) (nodes_of builder) known.pair) (sym (blank.entries subject))
            (reads-nothing (formula_truth (task_world task []) (state_houses (task_world task []) (state_number subject)) f) builder some);
        fresh = λ subject later. blank.entries subject;
      };
    }

-- the paths of a sequence stand
pub paths-stand : (task : Task) (initiating : InitiatingId) (sequence : SequenceId) (paths items : List (List PathStep)) → task.target.now ≡ Sequence initiating sequence paths → items ≡ paths → target_stands task.expanded.now.model task.target.now ≡ true → ArePaths task items
paths-stand task initiating sequence paths items is same stands = record {
  initiating = initiating;
  sequence = sequence;
  is = is ∙ ap (Sequence initiating sequence) (sym same);
  stand = subst (λ (ps : List (List PathStep)). list_all (λ path. list_all (step_stands task.expanded.now.model) path) ps ≡ true) (sym same)
      (and-right _ _ (subst (λ (t : Target). target_stands task.expanded.now.model t ≡ true) is stands));
}

-- the gate of a target is met
pub top-meets : (task : Task) (gate : GateId) (changes : List Changes) → task.target.now ≡ TopEvent gate → Meets task.expanded.now task.target.now (state_houses (task_world task changes) 0) (variant.Gate gate)
top-meets task gate changes is =
    subst (λ (houses : List Bool). Meets task.expanded.now task.target.now houses (variant.Gate gate)) (sym (houses-none (house_states task.expanded.now.model) changes))
    (subst (λ (t : Target). Meets task.expanded.now t (house_states task.expanded.now.model) (variant.Gate gate)) (sym is) (top gate))

-- a top event was made
pub top-made : (task : Task) (gate : GateId) (changes : List Changes) (signs : Signs) (before now : Builder) (pair : Pair) → task.target.now ≡ TopEvent gate → signs ≡ yes_signs → Made (task_world task changes) signs (formula_truth (task_world task changes) (state_houses (task_world task changes) 0) (variant.Gate gate)) before now pair → MadeTarget task now pair.yes
top-made task gate changes signs before now pair is asked made = record {
  there = made.reads.there.0;
  first = made.sound.built.first;
  is_width = made.sound.width;
  reads = λ s.
      made.reads.as_yes (ap (λ a. a.yes) asked) s
      ∙ ap (λ houses. formula_truth (task_world task changes) houses (variant.Gate gate) s) (houses-none (house_states task.expanded.now.model) changes)
      ∙ sym (ap (λ t. truth_by_rank task.expanded.now t (ranks_of task.expanded.now task.target.now) s) is);
  parts = made.sound.parts;
}

-- a sequence was made
pub sequence-made : (task : Task) (paths : List (List PathStep)) (old new : List Changes) (before now : Builder) (pair : Pair) → ArePaths task paths → MadeAt task (paths_truth task paths) old new before now pair → MadeTarget task now pair.yes
sequence-made task paths old new before now pair are made = record {
  there = made.reads.there.0;
  first = made.started.sound.built.first;
  is_width = made.started.sound.width;
  reads = λ s. made.reads.as_yes refl s ∙ sym (ap (λ t. truth_by_rank task.expanded.now t (ranks_of task.expanded.now task.target.now) s) are.is);
  parts = made.started.sound.parts;
}

-- ---- the rank of each event

-- the ranks from a place on
abbrev pub RanksFrom : {S : Type 0} → List EventNumber → ℕ → HashMap ℕ ℕ S → Type 0
RanksFrom ranks left map = (event : ℕ) → get nat_eq map event ≡ rank_at event left (drop left ranks)

pub ranks-start : {S : Type 0} (ranks : List EventNumber) (left : ℕ) (map : HashMap ℕ ℕ S) → left ≡ length ranks → ((event : ℕ) → get nat_eq map event ≡ None) → RanksFrom ranks left map
ranks-start ranks left map is empty event = empty event ∙ sym (ap (rank_at event left) (drop_all left ranks (omega arith)))

pub ranks-more : {S : Type 0} (ranks : List EventNumber) (left : ℕ) (item : EventNumber) (before after : HashMap ℕ ℕ S) → left < length ranks → item ≡ get_or ranks left item → RanksFrom ranks (left + 1) before → ((event : ℕ) → get nat_eq after event ≡ cond (nat_eq item.0 event) (Some left) (get nat_eq before event)) → RanksFrom ranks left after
ranks-more ranks left item before after inside is so_far put event =
    put event
    ∙ ap (λ later. cond (nat_eq item.0 event) (Some left) later) (so_far event ∙ ap (λ n. rank_at event n (drop (left + 1) ranks)) (next left))
    ∙ sym (ap (rank_at event left) (drop_more ranks left item inside ∙ ap (λ o. o ∷ drop (left + 1) ranks) (sym is)))
  where
    next : (n : ℕ) → n + 1 ≡ suc n
    next n = omega arith

-- an empty map has nothing
pub get-empty : {S : Type 0} (map : HashMap ℕ ℕ S) → IsEmpty map → (event : ℕ) → get nat_eq map event ≡ None
get-empty map empty event = ap (λ es. lookup (nat_eq event) es) empty

-- ---- the graph

pub graph-is : (task : Task) (builder : Builder) (graph : Graph) → graph.nodes ≡ builder.nodes.keys → graph.width ≡ builder.width → MadeTarget task builder graph.root → IsGraph graph
graph-is task builder graph nodes width made =
    let size : length (nodes_of builder) ≡ length graph.nodes = length-reverse builder.nodes.keys ∙ sym (ap length nodes) in
    let inside : graph.root < length (nodes_of builder) = made.there in record {
      root = omega arith;
      children = subst (λ (ns : List GraphNode). AreChildrenFirst graph.width (reverse ns)) (sym nodes) (subst (λ (w : ℕ). AreChildrenFirst w (nodes_of builder)) (sym width) made.first);
    }

pub graph-reads : (task : Task) (builder : Builder) (graph : Graph) (ranks : List EventNumber) → graph.nodes ≡ builder.nodes.keys → ranks ≡ ranks_of task.expanded.now task.target.now → MadeTarget task builder graph.root → (s : ℕ → Bool) → graph_truth graph s ≡ truth_by_rank task.expanded.now task.target.now ranks s
graph-reads task builder graph ranks nodes is made s =
    ap (λ ns. truth_at (reverse ns) graph.root s) nodes ∙ made.reads s ∙ sym (ap (λ rs. truth_by_rank task.expanded.now task.target.now rs s) is)

pub graph-parts : (task : Task) (builder : Builder) (graph : Graph) → graph.nodes ≡ builder.nodes.keys → MadeTarget task builder graph.root → (place : ℕ) → place < length graph.nodes → IsPart task.expanded.now task.target.now (place_truth graph place)
graph-parts task builder graph nodes made place l =
    let size : length (nodes_of builder) ≡ length graph.nodes = length-reverse builder.nodes.keys ∙ sym (ap length nodes) in
    subst (λ (ns : List GraphNode). IsPart task.expanded.now task.target.now (truth_at (reverse ns) place)) (sym nodes) (made.parts place (omega arith))
