use Rattle.std.proofs.Common.{◌≡◌, ◌≤◌, ◌∙◌, ℕ, List, ap, sym, subst, refl, true, rules, filter, length}
use Rattle.arrayvec.specs.ArrayVec.{ArrayVec}
use Rattle.psa_nodes.specs.Readings.{has}
use Rattle.psa_model.specs.declared.ids.EventNumber.{EventNumber}
use Rattle.psa_model.specs.declared.product.Literal.{Literal}
use Rattle.psa_model.specs.Literals.{literals_of}
use Rattle.psa_model.specs.Report.{is_kept_in}
use Rattle.psa_outcome.specs.Loading.{loaded_analysis}
use Rattle.psa_products.specs.Products.{product_of}
use Rattle.psa_sections.specs.Writing.{bound_by, reaches, totals_by}
use Rattle.psa_sections.proofs.SectionLemmas.{kept-reaches, kept-section}
use Rattle.psa_shares.specs.Subjects.{IsSummed}
use Rattle.psa_shares.proofs.EventShareLemmas.{product-places}
use Rattle.psa_shares.proofs.section.sum_kept.Goals as goal

pub sum_ruled-requires-clause-rule : goal.sum_ruled-requires-clause-rule
sum_ruled-requires-clause-rule g c = λ set m.
    let loaded = c.args.subject.now.loaded.now in
    let target = c.args.subject.now.target.now in
    let least = c.least_end-least.result in
    let ranks = c.args.subject.now.ranks.now in
    let is = kept-reaches loaded.settings loaded.expanded loaded.values target ranks least set c.requires.subject.ranks c.least_end-least.ensures in
    record {
      callable = search rules;
      answer = is_kept_in (loaded_analysis loaded) target set;
      answers = record {
        shown = record { ref_ptr = (0, 0); now = product_of set };
        shows = refl;
        says = record { met = sym is };
      };
      only = λ other h.
          h.says.met
          ∙ ap (λ (p : ArrayVec Literal). reaches least (bound_by loaded.values ranks (literals_of p.items))) h.shows
          ∙ is;
    }

pub sum_ruled-requires-clause-places : goal.sum_ruled-requires-clause-places
sum_ruled-requires-clause-places g c = λ set m.
    let loaded = c.args.subject.now.loaded.now in
    let subject = c.requires.subject in
    product-places (loaded_analysis loaded) c.args.subject.now.target.now (length c.args.shares.now)
    (subst (λ (rs : List EventNumber). length rs ≤ length c.args.shares.now) subject.ranks c.requires.room) set
    ((subject.products.1 set).0 m)

pub returns-clause-sums : goal.returns-clause-sums
returns-clause-sums g c = λ products listing.
    let loaded = c.args.subject.now.loaded.now in
    let least = c.least_end-least.result in
    let ranks = c.args.subject.now.ranks.now in
    let target = c.args.subject.now.target.now in
    let analysis = loaded_analysis loaded in
    let r = c.sum_ruled.ensures.sums (is_kept_in analysis target) (λ set m.
    record {
      shown = record { ref_ptr = (0, 0); now = product_of set };
      shows = refl;
      says = record {
        met = sym (kept-reaches loaded.settings loaded.expanded loaded.values target ranks least set c.requires.subject.ranks c.least_end-least.ensures);
      };
    }) in
    subst (λ (kept : List (List ℕ)). IsSummed c.args.subject.now kept c.sum_ruled.result c.sum_ruled.new.shares)
    (kept-section analysis target (λ set. has c.args.subject.now.table.now.nodes c.args.subject.now.root.0 set ≡ true) products r.0 c.requires.subject.products.1 listing r.1)
    r.2
