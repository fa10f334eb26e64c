use Rattle.std.proofs.Common.{refl, ap, ◌∙◌, int_le, pos, rules}
use Rattle.arrayvec.specs.ArrayVec.{ArrayVec}
use Rattle.psa_model.specs.declared.product.Literal.{Literal}
use Rattle.psa_model.specs.Literals.{literals_of}
use Rattle.psa_products.specs.Products.{product_of}
use Rattle.psa_listing_tests.specs.Kept.{upper_end}
use Rattle.psa_listing_tests.proofs.listings.expect_listed.Goals as goal

pub expect_products-requires-clause-rule : goal.expect_products-requires-clause-rule
expect_products-requires-clause-rule g c = λ set m.
    let keeps = λ (p : ArrayVec Literal). int_le (pos c.args.question.least) (upper_end c.args.events.0.now c.args.events.1.now (literals_of p.items)) in
    record {
      callable = search rules;
      answer = keeps (product_of set);
      answers = record { shown = record { ref_ptr = (0, 0); now = product_of set }; shows = refl; says = record { met = refl } };
      only = λ other h. h.says.met ∙ ap keeps h.shows;
    }
