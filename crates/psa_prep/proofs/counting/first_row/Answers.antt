use Rattle.std.proofs.Common.{◌≡◌, ◌++◌, ◌∷◌, [], ap, ◌∙◌, sym, arith, false}
use Rattle.psa_prep.specs.Counting.{first_pairs}
use Rattle.psa_prep.specs.Pairs.{constant_pair}
use Rattle.psa_prep.proofs.CountLemmas.{first-more}
use Rattle.psa_prep.proofs.counting.first_row.Goals as goal

pub loop-count-preserved : goal.loop-count-preserved
loop-count-preserved c =
    c.in_ok-push-2.ensures.items ∙ ap (λ x. c.loop-count.row.items ++ (x ∷ [])) c.constant-in-loop-count.ensures
    ∙ ap (λ r. r ++ (constant_pair false ∷ [])) c.loop-count.invariant ∙ sym (first-more c.loop-count._count)

pub returns : goal.returns
returns c = let all : c.loop-count._count ≡ c.args.bound = omega arith in c.loop-count.invariant ∙ ap first_pairs all
