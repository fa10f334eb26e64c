use Rattle.std.proofs.Common.{ℕ, ap, sym, ◌∙◌, eqb-true}
use Rattle.psa_nodes.specs.declared.node.NodeId.{NodeId}
use Rattle.psa_nodes.specs.Readings.{truth}
use Rattle.psa_bdd.specs.Combined.{apply}
use Rattle.psa_bdd.proofs.ConnectiveLemmas.{apply-own, is_result, dominant-stands, dominant-left, dominant-right, neutral-left, neutral-right}
use Rattle.psa_bdd.proofs.connective.Connective.trivial.Goals as goal

pub returns-then-eq-clause-found : goal.returns-then-eq-clause-found
returns-then-eq-clause-found c = λ ns fit sl sr.
    let left = c.args.left.0 in
    let e = eqb-true left c.args.right.0 (sym c.if-eq.ensures) in
    is_result c.args.self ns left c.args.right.0 left fit sl
    (λ s. apply-own c.args.self (truth ns left s) ∙ ap (λ (x : ℕ). apply c.args.self (truth ns left s) (truth ns x s)) e)

pub returns-then-eq-2-clause-found : goal.returns-then-eq-2-clause-found
returns-then-eq-2-clause-found c = λ ns fit sl sr.
    let id = c.dominant-dominant.result.0 in
    let d = ap (λ (x : NodeId). x.0) c.dominant-dominant.ensures in
    let e = eqb-true c.args.left.0 id (sym c.if-eq-2.ensures) in
    is_result c.args.self ns c.args.left.0 c.args.right.0 id fit (dominant-stands c.args.self ns id d)
    (λ s. dominant-left ns c.args.left.0 c.args.right.0 s c.args.self id d e)

pub returns-then-eq-3-clause-found : goal.returns-then-eq-3-clause-found
returns-then-eq-3-clause-found c = λ ns fit sl sr.
    let id = c.dominant-dominant.result.0 in
    let d = ap (λ (x : NodeId). x.0) c.dominant-dominant.ensures in
    let e = eqb-true c.args.right.0 id (sym c.if-eq-3.ensures) in
    is_result c.args.self ns c.args.left.0 c.args.right.0 id fit (dominant-stands c.args.self ns id d)
    (λ s. dominant-right ns c.args.left.0 c.args.right.0 s c.args.self id d e)

pub returns-then-eq-4-clause-found : goal.returns-then-eq-4-clause-found
returns-then-eq-4-clause-found c = λ ns fit sl sr.
    let id = c.neutral-neutral.result.0 in
    let e = eqb-true c.args.left.0 id (sym c.if-eq-4.ensures) in
    is_result c.args.self ns c.args.left.0 c.args.right.0 c.args.right.0 fit sr
    (λ s. neutral-left ns c.args.left.0 c.args.right.0 s c.args.self id (ap (λ (x : NodeId). x.0) c.neutral-neutral.ensures) e)

pub returns-then-eq-5-clause-found : goal.returns-then-eq-5-clause-found
returns-then-eq-5-clause-found c = λ ns fit sl sr.
    let id = c.neutral-neutral.result.0 in
    let e = eqb-true c.args.right.0 id (sym c.if-eq-5.ensures) in
    is_result c.args.self ns c.args.left.0 c.args.right.0 c.args.left.0 fit sl
    (λ s. neutral-right ns c.args.left.0 c.args.right.0 s c.args.self id (ap (λ (x : NodeId). x.0) c.neutral-neutral.ensures) e)
