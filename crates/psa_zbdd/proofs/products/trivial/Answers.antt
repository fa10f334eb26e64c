use Rattle.std.proofs.Common.{ℕ, sym, subst, eqb-true}
use Rattle.psa_nodes.specs.declared.node.Operation.TheVariants.{Product}
use Rattle.psa_nodes.specs.declared.node.TheConstants.NodeId.{EMPTY, UNIT}
use Rattle.psa_nodes.specs.Progress.{IsResult}
use Rattle.psa_zbdd.proofs.TerminalProductLemmas.{product-nothing-left, product-nothing-right, product-ones}
use Rattle.psa_zbdd.proofs.products.trivial.Goals as goal

pub returns-then-eq-clause-found : goal.returns-then-eq-clause-found
returns-then-eq-clause-found c = λ limit ns fit sl sr.
    product-nothing-left ns fit c.args.left.0 c.args.right.0 limit (eqb-true c.args.left.0 EMPTY.0 (sym c.if-eq.ensures))

pub returns-then-eq-2-clause-found : goal.returns-then-eq-2-clause-found
returns-then-eq-2-clause-found c = λ limit ns fit sl sr.
    product-nothing-right ns fit c.args.left.0 c.args.right.0 limit (eqb-true c.args.right.0 EMPTY.0 (sym c.if-eq-2.ensures))

pub returns-then-eq-4-clause-found : goal.returns-then-eq-4-clause-found
returns-then-eq-4-clause-found c = λ limit ns fit sl sr.
    subst (λ (l : ℕ). IsResult Product limit ns l c.args.right.0 1) (sym (eqb-true c.args.left.0 UNIT.0 (sym c.if-eq-3.ensures)))
    (subst (λ (r : ℕ). IsResult Product limit ns 1 r 1) (sym (eqb-true c.args.right.0 UNIT.0 (sym c.if-eq-4.ensures))) (product-ones ns fit limit))
