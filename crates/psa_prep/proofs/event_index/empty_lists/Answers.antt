use Rattle.std.proofs.Common.{◌≡◌, ◌++◌, ◌∷◌, [], ap, ◌∙◌, sym, arith}
use Rattle.psa_prep.specs.Index.{empties}
use Rattle.psa_prep.proofs.IndexLemmas.{empties-more}
use Rattle.psa_prep.proofs.event_index.empty_lists.Goals as goal

pub returns : goal.returns
returns c = let all : c.loop-made._made ≡ c.args.number = omega arith in c.loop-made.invariant ∙ ap empties all

pub loop-made-preserved : goal.loop-made-preserved
loop-made-preserved c = c.in_ok-push.ensures.items ∙ ap (λ x. c.loop-made.lists.items ++ (x ∷ [])) c.new.ensures ∙ ap (λ ls. ls ++ ([] ∷ [])) c.loop-made.invariant ∙ sym (empties-more c.loop-made._made)
