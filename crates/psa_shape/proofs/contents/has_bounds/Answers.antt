use Rattle.std.proofs.Common.{ℕ, length, sym, ap, ◌∙◌}
use Rattle.psa_elements.specs.ElementTable.{connective}
use Rattle.psa_elements.specs.ShapeFaults as definition
use Rattle.psa_shape.specs.declared.rows.Row.{Row}
use Rattle.psa_shape.specs.TableRows.{row_of}
use Rattle.psa_shape.specs.FoundFaults.{counted}
use Rattle.psa_shape.proofs.ContentLemmas.{length-counted}
use Rattle.psa_shape.proofs.contents.has_bounds.Goals as goal

pub returns-in-Connective : goal.returns-in-Connective
returns-in-Connective c =
    c.is_within_bounds.ensures
    ∙ ap (λ (n : ℕ). definition.has_bounds (connective c.in-Connective.connective) c.args.given.now n)
    (c.count_of.ensures ∙ sym (length-counted c.args.children.now))
    ∙ ap (λ (r : Row). definition.has_bounds (row_of r) c.args.given.now (length (counted c.args.children.now)))
    (sym c.in-Connective.is)
