use Rattle.std.proofs.Common.{ap, ◌∙◌}
use Rattle.std.specs.List.{list_any}
use Rattle.psa_model.specs.PathNames.{Text}
use Rattle.psa_elements.specs.ElementTable.{has_tag}
use Rattle.psa_shape.specs.TableRows.{rows_of}
use Rattle.psa_shape.proofs.ContentLemmas.{is_some-found}
use Rattle.psa_shape.proofs.contents.is_in_part.Goals as goal

pub returns : goal.returns
returns c =
    c.is_some.ensures ∙ is_some-found c.row_among.result c.as_str.result.now
    (rows_of c.args.part.rows) c.row_among.ensures
    ∙ ap (λ (t : Text). list_any (has_tag t) (rows_of c.args.part.rows)) c.as_str.ensures
