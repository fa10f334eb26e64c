use Rattle.std.proofs.Common.{Bool, true, false, sym, subst, ◌∙◌}
use Rattle.arrayvec.specs.ArrayVec.{ArrayVec}
use Rattle.psa_model.specs.declared.product.Literal.{Literal}
use Rattle.psa_model.specs.Literals.{literals_of}
use Rattle.psa_products.specs.Products.{product_of}
use Rattle.psa_products.specs.Rules.{AllCallable}
use Rattle.psa_products.specs.Walks.{to_come}
use Rattle.psa_products.proofs.KeptLemmas.{skipped-more, next-found, next-none, product-back}
use Rattle.psa_products.proofs.lister.next_kept.Goals as goal

pub keeps-requires : goal.keeps-requires
keeps-requires g c =
    let product = c.advance.new.self.product in
    let all = subst (AllCallable (λ set. g.R.Rule.may c.args.rule.now (product_of set))) (c.advance.ensures.some c.loop-walk-test.true) c.loop-walk.invariant.callable in
    subst (λ (p : ArrayVec Literal). g.R.Rule.may c.args.rule.now p) (product-back product ∙ sym c.product.ensures) all.0

pub returns-then-keeps-clause-next : goal.returns-then-keeps-clause-next
returns-then-keeps-clause-next g c =
    let product = c.advance.new.self.product in
    next-found (λ set. g.R.Rule.says c.args.rule.now (product_of set)) (to_come c.args.walk.now) (to_come c.loop-walk.walk) (to_come c.advance.new.self) product
    c.loop-walk.invariant.skipped (c.advance.ensures.some c.loop-walk-test.true)
    (subst (λ (p : ArrayVec Literal). g.R.Rule.says c.args.rule.now p true) (c.product.ensures ∙ sym (product-back product))
    (subst (λ (b : Bool). g.R.Rule.says c.args.rule.now c.product.result.now b) c.if-keeps.true c.keeps.ensures))

pub loop-walk-preserved : goal.loop-walk-preserved
loop-walk-preserved g c =
    let product = c.advance.new.self.product in
    record {
      walk = c.advance.ensures.walk;
      callable = (subst (AllCallable (λ set. g.R.Rule.may c.args.rule.now (product_of set))) (c.advance.ensures.some c.loop-walk-test.true) c.loop-walk.invariant.callable).1;
      skipped = skipped-more (λ set. g.R.Rule.says c.args.rule.now (product_of set)) (to_come c.args.walk.now) (to_come c.loop-walk.walk) (to_come c.advance.new.self) (literals_of product.items)
          c.loop-walk.invariant.skipped (c.advance.ensures.some c.loop-walk-test.true)
          (subst (λ (p : ArrayVec Literal). g.R.Rule.says c.args.rule.now p false) (c.product.ensures ∙ sym (product-back product))
          (subst (λ (b : Bool). g.R.Rule.says c.args.rule.now c.product.result.now b) c.if-keeps.false c.keeps.ensures));
    }

pub returns-clause-next : goal.returns-clause-next
returns-clause-next g c =
    let r = c.advance.ensures.none c.loop-walk-test.false in
    next-none (λ set. g.R.Rule.says c.args.rule.now (product_of set)) (to_come c.args.walk.now) (to_come c.loop-walk.walk) (to_come c.advance.new.self)
    c.loop-walk.invariant.skipped r.0 r.1
