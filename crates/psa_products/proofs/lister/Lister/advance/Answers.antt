use Rattle.std.proofs.Common.{Some, None, ap, if◌then◌else◌}
use Rattle.psa_products.specs.Products.{Listed, product_of}
use Rattle.psa_products.specs.Walks.{to_come}
use Rattle.psa_products.proofs.KeptLemmas.{next-answered, next-callable, value-some, value-end}
use Rattle.psa_products.proofs.lister.Lister.advance.Goals as goal

pub invariant_of-self-inside : goal.invariant_of-self-inside
invariant_of-self-inside g c =
    (next-answered (λ set. g.R.Rule.says c.self.inside.rule (product_of set)) (to_come c.self.inside.walk) (to_come c.next_kept.new.walk) (if c.next_kept.result then Some c.next_kept.new.walk.product else None) c.next_kept.ensures.next c.self.inside.answered, tt)

pub invariant_of-self : goal.invariant_of-self
invariant_of-self g c = (
  c.next_kept.ensures.walk,
  next-callable (λ set. g.R.Rule.may c.self.inside.rule (product_of set)) (λ set. g.R.Rule.says c.self.inside.rule (product_of set)) (to_come c.self.inside.walk) (to_come c.next_kept.new.walk) (if c.next_kept.result then Some c.next_kept.new.walk.product else None) c.next_kept.ensures.next c.self.invariant.1,
)

pub returns-clause-some : goal.returns-clause-some
returns-clause-some g c =
    value-some (λ set. g.R.Rule.says c.self.inside.rule (product_of set)) _ (to_come c.self.inside.walk) (to_come c.next_kept.new.walk) c.next_kept.result c.next_kept.new.walk.product c.next_kept.ensures.next c.self.inside.answered _ (ap (λ (l : Listed). l.rest) c.self.view_is)

pub returns-clause-none : goal.returns-clause-none
returns-clause-none g c =
    value-end (λ set. g.R.Rule.says c.self.inside.rule (product_of set)) _ (to_come c.self.inside.walk) (to_come c.next_kept.new.walk) c.next_kept.result c.next_kept.new.walk.product c.next_kept.ensures.next c.self.inside.answered _ (ap (λ (l : Listed). l.rest) c.self.view_is)
