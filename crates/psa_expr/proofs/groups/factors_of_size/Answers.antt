use Rattle.std.proofs.Common.{◌≡◌, ◌+◌, ◌-◌, ◌++◌, ◌∷◌, [], map, eqb, ap, ◌∙◌, sym, arith}
use Rattle.std.proofs.lemmas.List.FromFn.{map-range_with_len_more}
use Rattle.std.specs.List.{list_all, range_with_len}
use Rattle.psa_expr.specs.declared.terms.Term.TheVariants.{Factor, Distribution}
use Rattle.psa_expr.specs.Small.{is_small}
use Rattle.psa_expr.proofs.Quantities.{mgl-small, next}
use Rattle.psa_expr.proofs.groups.factors_of_size.Goals as goal

pub loop-more-preserved : goal.loop-more-preserved
loop-more-preserved c =
    c.in_ok-push.ensures.ok
    ∙ ap (λ n. c.loop-more.terms ++ (Factor (n + 2) ∷ [])) c.from.ensures
    ∙ ap (λ ts. ts ++ (Factor (c.loop-more.more + 2) ∷ [])) c.loop-more.invariant
    ∙ sym (map-range_with_len_more (λ level. Factor level) 2 c.loop-more.more (c.loop-more.more + 2) (omega arith))

pub returns-clause-small : goal.returns-clause-small
returns-clause-small c =
    let ended : c.loop-more.more ≡ c.args.size - 1 = omega (arith, c.saturating_sub-more-end.ensures) in
    ap (list_all is_small)
    (c.in_ok-push-2.ensures.ok
    ∙ ap (λ ts. ts ++ (Distribution ∷ [])) c.in_ok-push_remainder.ensures
    ∙ ap (λ ts. ts ++ next c.args.size (eqb c.args.size c.args.count) ++ (Distribution ∷ [])) c.loop-more.invariant
    ∙ ap (λ n. map (λ level. Factor level) (range_with_len 2 n) ++ next c.args.size (eqb c.args.size c.args.count) ++ (Distribution ∷ [])) ended)
    ∙ mgl-small c.args.count c.args.size
