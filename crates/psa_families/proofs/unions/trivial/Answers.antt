use Rattle.std.proofs.Common.{sym, eqb-true}
use Rattle.psa_nodes.specs.declared.node.TheConstants.NodeId.{EMPTY}
use Rattle.psa_families.proofs.UnionSteps.{union-own, union-after, union-before}
use Rattle.psa_families.proofs.unions.trivial.Goals as goal

pub returns-then-eq-clause-found : goal.returns-then-eq-clause-found
returns-then-eq-clause-found c = λ ns fit sl sr.
    union-own ns fit c.args.left.0 c.args.right.0 (eqb-true c.args.left.0 c.args.right.0 (sym c.if-eq.ensures)) sl

pub returns-then-eq-2-clause-found : goal.returns-then-eq-2-clause-found
returns-then-eq-2-clause-found c = λ ns fit sl sr.
    union-after ns fit c.args.left.0 c.args.right.0 (eqb-true c.args.left.0 EMPTY.0 (sym c.if-eq-2.ensures)) sr

pub returns-then-eq-3-clause-found : goal.returns-then-eq-3-clause-found
returns-then-eq-3-clause-found c = λ ns fit sl sr.
    union-before ns fit c.args.left.0 c.args.right.0 (eqb-true c.args.right.0 EMPTY.0 (sym c.if-eq-3.ensures)) sl
