use Rattle.std.proofs.Common.{length}
use Rattle.psa_products.specs.Products.{product_of}
use Rattle.psa_products.specs.Rules.{AllCallable}
use Rattle.psa_products.specs.Walks.{to_come, IsWalk}
use Rattle.psa_products.proofs.KeptLemmas.{IsSkipped}
use Rattle.psa_products.proofs.lister.next_kept.Given as goal

abbrev pub invariant-loop-walk : goal.invariant-loop-walk
invariant-loop-walk g l = record {
  walk : IsWalk l.walk;
  callable : AllCallable (λ set. g.R.Rule.may l.rule (product_of set)) (to_come l.walk);
  skipped : IsSkipped (λ set. g.R.Rule.says l.rule (product_of set)) (to_come l.fn.walk) (to_come l.walk);
}

abbrev pub decreases-loop-walk : goal.decreases-loop-walk
decreases-loop-walk g l = length (to_come l.walk)
