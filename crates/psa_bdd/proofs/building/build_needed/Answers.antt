use Rattle.std.proofs.Common.{◌≡◌, ◌<◌, ◌+◌, ◌++◌, ◌∷◌, [], Ok, Err, length, length-append, get_or, refl, sym, ap, ◌∙◌, subst, arith}
use Rattle.std.proofs.lemmas.Result.{err_from_is_err_and}
use Rattle.psa_graph.specs.Truths.{place_truth}
use Rattle.psa_nodes.specs.declared.node.NodeId.{NodeId}
use Rattle.psa_nodes.specs.declared.node.NodeError.TheVariants.{Memory}
use Rattle.psa_nodes.specs.declared.node.TheConstants.NodeId.{FALSE}
use Rattle.psa_nodes.proofs.CallerLemmas.{progress-own, call-same, call-done, call-memory, call-then}
use Rattle.psa_graph.specs.Needs.{IsNeeded, HoldsOfSidesAt}
use Rattle.psa_bdd.specs.Building.{IsDiagramOf, IsBuilt}
use Rattle.psa_bdd.proofs.BuildLemmas.{built-none, sides-built, built-more}
use Rattle.psa_bdd.proofs.building.build_needed.Goals as goal

pub loop-place-init : goal.loop-place-init
loop-place-init g c = record {
  size = ap (length {A = NodeId}) c.new-built.ensures;
  built = built-none c.args.graph.now c.args.needed.now c.args.table.now.nodes c.new-built.result c.new-built.ensures;
  call = call-same c.args.table.now FALSE c.check.ensures;
  turns = refl;
}

pub build_place-requires-clause-bounded : goal.build_place-requires-clause-bounded
build_place-requires-clause-bounded g c = c.loop-place.invariant.call.progress.bounded c.requires.bounded

pub build_place-requires-clause-sides : goal.build_place-requires-clause-sides
build_place-requires-clause-sides g c =
    let graph = c.args.graph.now in
    let needed = c.args.needed.now in
    let inv = c.loop-place.invariant in
    λ need.
    subst (λ xs. HoldsOfSidesAt (IsBuilt graph c.loop-place.table.nodes xs) graph c.loop-place.place) (sym c.as_slice.ensures)
    (subst (λ i. HoldsOfSidesAt (IsBuilt graph c.loop-place.table.nodes c.loop-place.built) graph i) inv.size
    (sides-built graph needed c.loop-place.table.nodes c.loop-place.built c.requires.graph c.requires.needed inv.built (subst (IsNeeded needed) (sym inv.size) need)))

pub returns-in_err-id-clause-call : goal.returns-in_err-id-clause-call
returns-in_err-id-clause-call g c =
    let p = err_from_is_err_and c.from_residual.result c.from_residual.ensures.1 in
    rw (p.1, p.2) (call-then FALSE (Err c.in_err-id.field-0.0) c.loop-place.invariant.call c.in_err-id.ensures.call)

pub returns-in_err-push-clause-call : goal.returns-in_err-push-clause-call
returns-in_err-push-clause-call g c =
    let p = err_from_is_err_and c.from_residual-in_err-push.result c.from_residual-in_err-push.ensures.1 in
    let step = c.in_ok-id.ensures.call in
    rw (p.1, p.2) (call-then c.in_ok-id.id (Err Memory) (call-then FALSE (Ok c.in_ok-id.id) c.loop-place.invariant.call step) (call-memory (progress-own c.build_place.new.table step.progress.table) refl))

pub loop-place-preserved : goal.loop-place-preserved
loop-place-preserved g c =
    let graph = c.args.graph.now in
    let needed = c.args.needed.now in
    let inv = c.loop-place.invariant in
    let id = c.in_ok-id.id in
    let step = c.in_ok-id.ensures.call in
    let both = call-then FALSE (Ok id) inv.call step in
    let long : length (c.loop-place.built ++ (id ∷ [])) ≡ length c.loop-place.built + 1 = length-append c.loop-place.built (id ∷ []) in
    record {
      size = ap (length {A = NodeId}) c.in_ok-push.ensures.ok ∙ long ∙ ap (λ n. n + 1) inv.size;
      built = built-more graph needed c.loop-place.table.nodes c.build_place.new.table.nodes c.loop-place.built c.push.new.self id step.progress.nodes inv.built
          (λ need. subst (λ i. IsDiagramOf (place_truth graph i) c.build_place.new.table.nodes id.0) (sym inv.size) (c.in_ok-id.ensures.diagram (subst (IsNeeded needed) inv.size need)))
          c.in_ok-push.ensures.ok;
      call = call-done FALSE both.progress (both.kept (λ e. cc));
      turns = omega (arith, inv.turns, c.in_ok-id.ensures.turns);
    }

pub offset_bounds-as_slice-graph : goal.offset_bounds-as_slice-graph
offset_bounds-as_slice-graph g c =
    let inside : c.args.graph.now.root < length c.as_slice-2.result.now = omega (arith, c.requires.graph.root, c.loop-place-test.false, c.len-place-end.ensures, c.loop-place.invariant.size, ap (length {A = NodeId}) c.as_slice-2.ensures) in
    omega (arith, inside)

pub bounds-as_slice-graph : goal.bounds-as_slice-graph
bounds-as_slice-graph g c = omega (arith, c.requires.graph.root, c.loop-place-test.false, c.len-place-end.ensures, c.loop-place.invariant.size, ap (length {A = NodeId}) c.as_slice-2.ensures)

pub returns-clause-built : goal.returns-clause-built
returns-clause-built g c =
    let graph = c.args.graph.now in
    let inside : graph.root < length c.loop-place.built = omega (arith, c.requires.graph.root, c.loop-place-test.false, c.len-place-end.ensures, c.loop-place.invariant.size) in
    subst (λ xs. IsDiagramOf (place_truth graph graph.root) c.loop-place.table.nodes (get_or xs graph.root FALSE).0) (sym c.as_slice-2.ensures)
    (c.loop-place.invariant.built graph.root inside c.requires.needed.root)

pub returns-clause-call : goal.returns-clause-call
returns-clause-call g c =
    let call = c.loop-place.invariant.call in
    call-done (get_or c.as_slice-2.result.now c.args.graph.now.root FALSE) call.progress (call.kept (λ e. cc))

pub returns-clause-turns : goal.returns-clause-turns
returns-clause-turns g c = c.loop-place.invariant.turns
