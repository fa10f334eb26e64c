use Rattle.std.proofs.Common.{sym, ◌∙◌, eqb-true, eq-eqb}
use Rattle.std.proofs.lemmas.Bool.{false≢true}
use Rattle.psa_nodes.specs.declared.node.TheConstants.NodeId.{EMPTY, UNIT}
use Rattle.psa_families.proofs.SubsetRemovalLemmas.{without-own, without-nothing, without-none, without-all}
use Rattle.psa_families.proofs.DifferenceLemmas.{without-some}
use Rattle.psa_families.proofs.differences.trivial.Goals as goal

pub returns-then-eq-clause-found : goal.returns-then-eq-clause-found
returns-then-eq-clause-found c = λ ns fit sl sr own.
    without-own ns fit c.args.left.0 c.args.right.0 (eqb-true c.args.left.0 c.args.right.0 (sym c.if-eq.ensures))

pub returns-then-eq-2-clause-found : goal.returns-then-eq-2-clause-found
returns-then-eq-2-clause-found c = λ ns fit sl sr own.
    without-nothing ns fit c.args.left.0 c.args.right.0 (eqb-true c.args.left.0 EMPTY.0 (sym c.if-eq-2.ensures))

pub returns-then-eq-3-clause-found : goal.returns-then-eq-3-clause-found
returns-then-eq-3-clause-found c = λ ns fit sl sr own.
    without-none ns fit c.args.left.0 c.args.right.0 (eqb-true c.args.right.0 EMPTY.0 (sym c.if-eq-3.ensures)) sl

pub returns-then-eq-4-clause-found : goal.returns-then-eq-4-clause-found
returns-then-eq-4-clause-found c = λ ns fit sl sr own.
    without-all ns fit c.args.left.0 c.args.right.0 (eqb-true c.args.right.0 UNIT.0 (sym c.if-eq-4.ensures))

pub returns-then-eq-5-clause-found : goal.returns-then-eq-5-clause-found
returns-then-eq-5-clause-found c = λ ns fit sl sr own.
    without-some ns fit c.args.left.0 c.args.right.0 (eqb-true c.args.left.0 UNIT.0 (sym c.if-eq-5.ensures))
    (λ e. false≢true (c.if-eq-4.ensures ∙ eq-eqb c.args.right.0 UNIT.0 e)) sl sr own
