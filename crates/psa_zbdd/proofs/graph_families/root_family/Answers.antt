use Rattle.std.proofs.Common.{◌≡◌, ◌<◌, ◌+◌, ◌++◌, ◌∷◌, [], Ok, Err, length, length-append, get_or, refl, sym, ap, ◌∙◌, subst, arith}
use Rattle.std.proofs.lemmas.Result.{err_from_is_err_and}
use Rattle.psa_graph.specs.Truths.{place_truth}
use Rattle.psa_nodes.specs.declared.node.NodeId.{NodeId}
use Rattle.psa_nodes.specs.declared.node.NodeError.TheVariants.{Memory}
use Rattle.psa_nodes.specs.declared.node.TheConstants.NodeId.{EMPTY}
use Rattle.psa_nodes.proofs.CallerLemmas.{progress-own, call-same, call-done, call-memory, call-then}
use Rattle.psa_graph.specs.Needs.{IsNeeded, HoldsOfSidesAt}
use Rattle.psa_zbdd.specs.GraphFamilies.{IsCoverAt, IsCovered}
use Rattle.psa_zbdd.proofs.GraphFamilySteps.{covered-none, sides-covered, covered-more}
use Rattle.psa_zbdd.proofs.graph_families.root_family.Goals as goal

pub loop-place-init : goal.loop-place-init
loop-place-init g c = record {
  size = ap (length {A = NodeId}) c.new-families.ensures;
  covered = covered-none c.args.graph.now c.args.limit c.args.needed.now c.args.table.now.nodes c.new-families.result c.new-families.ensures;
  call = call-same c.args.table.now EMPTY c.check.ensures;
  turns = omega arith;
}

pub place_family-requires-clause-bounded : goal.place_family-requires-clause-bounded
place_family-requires-clause-bounded g c = c.loop-place.invariant.call.progress.bounded c.requires.bounded

pub place_family-requires-clause-sides : goal.place_family-requires-clause-sides
place_family-requires-clause-sides g c =
    let graph = c.args.graph.now in
    let needed = c.args.needed.now in
    let inv = c.loop-place.invariant in
    λ need.
    subst (λ xs. HoldsOfSidesAt (IsCovered graph c.args.limit c.loop-place.table.nodes xs) graph c.loop-place.place) (sym c.as_slice.ensures)
    (subst (λ i. HoldsOfSidesAt (IsCovered graph c.args.limit c.loop-place.table.nodes c.loop-place.families) graph i) inv.size
    (sides-covered graph c.args.limit needed c.loop-place.table.nodes c.loop-place.families c.requires.graph c.requires.needed inv.covered (subst (IsNeeded needed) (sym inv.size) need)))

pub returns-in_err-id-clause-call : goal.returns-in_err-id-clause-call
returns-in_err-id-clause-call g c =
    let p = err_from_is_err_and c.from_residual.result c.from_residual.ensures.1 in
    rw (p.1, p.2) (call-then EMPTY (Err c.in_err-id.field-0.0) c.loop-place.invariant.call c.in_err-id.ensures.call)

pub returns-in_err-push-clause-call : goal.returns-in_err-push-clause-call
returns-in_err-push-clause-call g c =
    let p = err_from_is_err_and c.from_residual-in_err-push.result c.from_residual-in_err-push.ensures.1 in
    let step = c.in_ok-id.ensures.call in
    rw (p.1, p.2) (call-then c.in_ok-id.id (Err Memory) (call-then EMPTY (Ok c.in_ok-id.id) c.loop-place.invariant.call step) (call-memory (progress-own c.place_family.new.table step.progress.table) refl))

pub loop-place-preserved : goal.loop-place-preserved
loop-place-preserved g c =
    let graph = c.args.graph.now in
    let needed = c.args.needed.now in
    let inv = c.loop-place.invariant in
    let id = c.in_ok-id.id in
    let step = c.in_ok-id.ensures.call in
    let both = call-then EMPTY (Ok id) inv.call step in
    let long : length (c.loop-place.families ++ (id ∷ [])) ≡ length c.loop-place.families + 1 = length-append c.loop-place.families (id ∷ []) in
    record {
      size = ap (length {A = NodeId}) c.in_ok-push.ensures.ok ∙ long ∙ ap (λ n. n + 1) inv.size;
      covered = covered-more graph c.args.limit needed c.loop-place.table.nodes c.place_family.new.table.nodes c.loop-place.families c.push.new.self id step.progress.nodes inv.covered
          (λ need. subst (λ i. IsCoverAt graph.width c.args.limit (place_truth graph i) c.place_family.new.table.nodes id.0) (sym inv.size) (c.in_ok-id.ensures.family (subst (IsNeeded needed) inv.size need)))
          c.in_ok-push.ensures.ok;
      call = call-done EMPTY both.progress (both.kept (λ e. cc));
      turns = omega (arith, inv.turns, c.in_ok-id.ensures.six_turns);
    }

pub offset_bounds-as_slice-graph : goal.offset_bounds-as_slice-graph
offset_bounds-as_slice-graph g c =
    let inside : c.args.graph.now.root < length c.as_slice-2.result.now = omega (arith, c.requires.graph.root, c.loop-place-test.false, c.len-place-end.ensures, c.loop-place.invariant.size, ap (length {A = NodeId}) c.as_slice-2.ensures) in
    omega (arith, inside)

pub bounds-as_slice-graph : goal.bounds-as_slice-graph
bounds-as_slice-graph g c = omega (arith, c.requires.graph.root, c.loop-place-test.false, c.len-place-end.ensures, c.loop-place.invariant.size, ap (length {A = NodeId}) c.as_slice-2.ensures)

pub returns-clause-family : goal.returns-clause-family
returns-clause-family g c =
    let graph = c.args.graph.now in
    let inside : graph.root < length c.loop-place.families = omega (arith, c.requires.graph.root, c.loop-place-test.false, c.len-place-end.ensures, c.loop-place.invariant.size) in
    subst (λ xs. IsCoverAt graph.width c.args.limit (place_truth graph graph.root) c.loop-place.table.nodes (get_or xs graph.root EMPTY).0) (sym c.as_slice-2.ensures)
    (c.loop-place.invariant.covered graph.root inside c.requires.needed.root)

pub returns-clause-call : goal.returns-clause-call
returns-clause-call g c =
    let call = c.loop-place.invariant.call in
    call-done (get_or c.as_slice-2.result.now c.args.graph.now.root EMPTY) call.progress (call.kept (λ e. cc))

pub returns-clause-six_turns : goal.returns-clause-six_turns
returns-clause-six_turns g c = c.loop-place.invariant.turns
