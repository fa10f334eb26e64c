use Rattle.std.proofs.Common.{◌++◌, codes, length, ap, rules}
use Rattle.psa_model.specs.Literals.{literals_of}
use Rattle.psa_model.specs.Report.{literals_text}
use Rattle.psa_report.specs.Lines.{order_text, spaced_bound}
use Rattle.psa_report.proofs.LineLemmas.{product-in-parts}
use Rattle.psa_report.proofs.WrittenLemmas.{left-of, left-stop, left-next, left-last, written-as}
use Rattle.psa_report.proofs.products.write_product.Goals as goal

pub returns-in_err-put_order : goal.returns-in_err-put_order
returns-in_err-put_order g c =
    left-stop _ _ _ _ _ _ (order_text (length c.args.product.now.items)) ((spaced_bound c.args.bound) ++ ((codes " " ++ literals_text c.args.expanded.now c.args.ranks.now (literals_of c.args.product.now.items)) ++ codes "\n")) _ c.put_order.result c.from_residual.result _
    (left-of _ _ _ _ (product-in-parts c.args.expanded.now c.args.ranks.now c.args.bound c.args.product.now.items))
    (written-as _ _ _ _ _ _ c.put_order.result c.put_order.ensures (ap order_text (search rules))) c.in_err-put_order.was c.from_residual.ensures.0

pub returns-in_err-put_bound : goal.returns-in_err-put_bound
returns-in_err-put_bound g c =
    left-stop _ _ _ _ _ _ (spaced_bound c.args.bound) ((codes " " ++ literals_text c.args.expanded.now c.args.ranks.now (literals_of c.args.product.now.items)) ++ codes "\n") _ c.put_bound.result c.from_residual-in_err-put_bound.result _
    (left-next _ _ _ _ _ _ (order_text (length c.args.product.now.items)) ((spaced_bound c.args.bound) ++ ((codes " " ++ literals_text c.args.expanded.now c.args.ranks.now (literals_of c.args.product.now.items)) ++ codes "\n")) _ c.put_order.result _
    (left-of _ _ _ _ (product-in-parts c.args.expanded.now c.args.ranks.now c.args.bound c.args.product.now.items))
    (written-as _ _ _ _ _ _ c.put_order.result c.put_order.ensures (ap order_text (search rules))) c.in_ok-put_order.was)
    c.put_bound.ensures c.in_err-put_bound.was c.from_residual-in_err-put_bound.ensures.0

pub returns-in_err-put_literals : goal.returns-in_err-put_literals
returns-in_err-put_literals g c =
    left-stop _ _ _ _ _ _ (codes " " ++ literals_text c.args.expanded.now c.args.ranks.now (literals_of c.args.product.now.items)) (codes "\n") _ c.put_literals.result c.from_residual-in_err-put_literals.result _
    (left-next _ _ _ _ _ _ (spaced_bound c.args.bound) ((codes " " ++ literals_text c.args.expanded.now c.args.ranks.now (literals_of c.args.product.now.items)) ++ codes "\n") _ c.put_bound.result _
    (left-next _ _ _ _ _ _ (order_text (length c.args.product.now.items)) ((spaced_bound c.args.bound) ++ ((codes " " ++ literals_text c.args.expanded.now c.args.ranks.now (literals_of c.args.product.now.items)) ++ codes "\n")) _ c.put_order.result _
    (left-of _ _ _ _ (product-in-parts c.args.expanded.now c.args.ranks.now c.args.bound c.args.product.now.items))
    (written-as _ _ _ _ _ _ c.put_order.result c.put_order.ensures (ap order_text (search rules))) c.in_ok-put_order.was)
    c.put_bound.ensures c.in_ok-put_bound.was)
    (written-as _ _ _ _ _ (codes " " ++ literals_text c.args.expanded.now c.args.ranks.now (literals_of c.args.product.now.items)) c.put_literals.result c.put_literals.ensures (search rules)) c.in_err-put_literals.was c.from_residual-in_err-put_literals.ensures.0

pub returns : goal.returns
returns g c =
    left-last _ _ _ _ _ _ (codes "\n") _ c.put_one.result
    (left-next _ _ _ _ _ _ (codes " " ++ literals_text c.args.expanded.now c.args.ranks.now (literals_of c.args.product.now.items)) (codes "\n") _ c.put_literals.result _
    (left-next _ _ _ _ _ _ (spaced_bound c.args.bound) ((codes " " ++ literals_text c.args.expanded.now c.args.ranks.now (literals_of c.args.product.now.items)) ++ codes "\n") _ c.put_bound.result _
    (left-next _ _ _ _ _ _ (order_text (length c.args.product.now.items)) ((spaced_bound c.args.bound) ++ ((codes " " ++ literals_text c.args.expanded.now c.args.ranks.now (literals_of c.args.product.now.items)) ++ codes "\n")) _ c.put_order.result _
    (left-of _ _ _ _ (product-in-parts c.args.expanded.now c.args.ranks.now c.args.bound c.args.product.now.items))
    (written-as _ _ _ _ _ _ c.put_order.result c.put_order.ensures (ap order_text (search rules))) c.in_ok-put_order.was)
    c.put_bound.ensures c.in_ok-put_bound.was)
    (written-as _ _ _ _ _ (codes " " ++ literals_text c.args.expanded.now c.args.ranks.now (literals_of c.args.product.now.items)) c.put_literals.result c.put_literals.ensures (search rules)) c.in_ok-put_literals.was)
    c.put_one.ensures
