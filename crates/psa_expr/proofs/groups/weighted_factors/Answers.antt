use Rattle.std.proofs.Common.{◌+◌, ◌++◌, ◌∷◌, [], ap, ◌∙◌, sym, arith}
use Rattle.std.proofs.lemmas.List.FromFn.{map-range_with_len_more}
use Rattle.std.specs.List.{list_all}
use Rattle.psa_expr.specs.declared.terms.Term.TheVariants.{Weighted}
use Rattle.psa_expr.specs.Small.{is_small}
use Rattle.psa_expr.proofs.Quantities.{weighted-small}
use Rattle.psa_expr.proofs.groups.weighted_factors.Goals as goal

pub loop-smaller-preserved : goal.loop-smaller-preserved
loop-smaller-preserved c =
    c.in_ok-push.ensures.ok
    ∙ ap (λ n. c.loop-smaller.terms ++ (Weighted (n + 1) ∷ [])) c.from.ensures
    ∙ ap (λ ts. ts ++ (Weighted (c.loop-smaller.smaller + 1) ∷ [])) c.loop-smaller.invariant
    ∙ sym (map-range_with_len_more (λ level. Weighted level) 1 c.loop-smaller.smaller (c.loop-smaller.smaller + 1) (omega arith))

pub returns-clause-small : goal.returns-clause-small
returns-clause-small c =
    ap (list_all is_small) c.loop-smaller.invariant ∙ weighted-small c.loop-smaller.smaller (omega arith)
