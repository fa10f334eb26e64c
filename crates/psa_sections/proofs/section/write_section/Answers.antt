use Rattle.std.proofs.Common.{◌≡◌, ◌∙◌, List, true, ap, sym, refl, filter, rules}
use Rattle.arrayvec.specs.ArrayVec.{ArrayVec}
use Rattle.psa_nodes.specs.Readings.{has}
use Rattle.psa_model.specs.declared.ids.EventNumber.{EventNumber}
use Rattle.psa_model.specs.declared.product.Literal.{Literal}
use Rattle.psa_model.specs.Literals.{literals_of}
use Rattle.psa_model.specs.Report.{is_kept_in, section_text}
use Rattle.psa_model.proofs.TargetProducts.{target-listing}
use Rattle.psa_products.specs.Products.{product_of}
use Rattle.psa_report.proofs.WrittenLemmas.{written-as}
use Rattle.psa_sections.specs.ProductNodes.{analysis_by}
use Rattle.psa_sections.specs.Writing.{bound_by, reaches, text_by}
use Rattle.psa_sections.proofs.SectionLemmas.{kept-reaches, kept-section, text-section}
use Rattle.psa_sections.proofs.section.write_section.Goals as goal

pub write_kept-requires-clause-rule : goal.write_kept-requires-clause-rule
write_kept-requires-clause-rule g c = λ set m.
    let least = c.least_end-least.result in
    let values = c.args.values.now in
    let ranks = c.args.ranks.now in
    let analysis = analysis_by c.args.settings.now c.args.expanded.now values in
    let is = kept-reaches c.args.settings.now c.args.expanded.now values c.args.target.now ranks least set c.requires.ranks c.least_end-least.ensures in
    record {
      callable = search rules;
      answer = is_kept_in analysis c.args.target.now set;
      answers = record { shown = record { ref_ptr = (0, 0); now = product_of set }; shows = refl; says = record { met = sym is } };
      only = λ other h.
          h.says.met ∙ ap (λ (p : ArrayVec Literal). reaches least (bound_by values ranks (literals_of p.items))) h.shows ∙ is;
    }

pub returns : goal.returns
returns g c =
    let values = c.args.values.now in
    let ranks = c.args.ranks.now in
    let analysis = analysis_by c.args.settings.now c.args.expanded.now values in
    let target = c.args.target.now in
    let keeps = is_kept_in analysis target in
    let all = target-listing analysis target in
    let r = c.write_kept.ensures keeps (λ set m.
    record {
      shown = record { ref_ptr = (0, 0); now = product_of set };
      shows = refl;
      says = record { met = sym (kept-reaches c.args.settings.now c.args.expanded.now values target ranks c.least_end-least.result set c.requires.ranks c.least_end-least.ensures) };
    }) in
    record {
      text = section_text analysis target (filter keeps all.0);
      is_section = record { products = all.0; listing = all.1; spelled = refl };
      written = written-as _ _ _ _ _ _ c.write_kept.result r.2
          (ap (λ (rs : List EventNumber). text_by c.args.settings.now c.args.expanded.now values target rs r.0) c.requires.ranks
          ∙ text-section c.args.settings.now c.args.expanded.now values target r.0
          ∙ ap (section_text analysis target) (kept-section analysis target (λ set. has c.args.table.now.nodes c.args.root.0 set ≡ true) all.0 r.0 c.requires.products.1 all.1 r.1));
    }
