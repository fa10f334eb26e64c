use Rattle.std.proofs.Common.{[], ◌++◌, codes, if◌then◌else◌}
use Rattle.psa_model.specs.Names.{ranked_text}
use Rattle.psa_report.proofs.LineLemmas.{literal-in-parts}
use Rattle.psa_report.proofs.WrittenLemmas.{left-of, left-stop, left-next, left-last, written-as}
use Rattle.psa_report.proofs.products.put_literal.Goals as goal

pub returns-in_err-put_one : goal.returns-in_err-put_one
returns-in_err-put_one g c =
    left-stop _ _ _ _ _ _ (codes " " ++ (if c.args.literal.occurs then [] else codes "~")) (ranked_text c.args.expanded.now c.args.ranks.now c.args.literal.rank) _ c.put_one.result c.from_residual.result _
    (left-of _ _ _ _ (literal-in-parts c.args.expanded.now c.args.ranks.now c.args.literal))
    (written-as _ _ _ _ _ _ c.put_one.result c.put_one.ensures c.spaced_sign.ensures) c.in_err-put_one.was c.from_residual.ensures.0

pub returns : goal.returns
returns g c =
    left-last _ _ _ _ _ _ (ranked_text c.args.expanded.now c.args.ranks.now c.args.literal.rank) _ c.put_ranked.result
    (left-next _ _ _ _ _ _ (codes " " ++ (if c.args.literal.occurs then [] else codes "~")) (ranked_text c.args.expanded.now c.args.ranks.now c.args.literal.rank) _ c.put_one.result _
    (left-of _ _ _ _ (literal-in-parts c.args.expanded.now c.args.ranks.now c.args.literal))
    (written-as _ _ _ _ _ _ c.put_one.result c.put_one.ensures c.spaced_sign.ensures) c.in_ok-put_one.was)
    c.put_ranked.ensures
