use Rattle.std.proofs.Common.{true, false, length, sym, ap, ◌∙◌, subst, not, ◌||◌, ◌&&◌, nat_le, eqb-true}
use Rattle.psa_model.specs.Formulas.{truth_of_connective, has_arity, of_two, is_same, count_true}
use Rattle.psa_model.specs.declared.formula.Connective.{Connective}
use Rattle.psa_prep.specs.declared.pairs.Signs.{Signs}
use Rattle.psa_prep.specs.Connectives.{truths, gathers, MakesOf}
use Rattle.psa_prep.proofs.PlaceLemmas.{if-ok}
use Rattle.psa_prep.proofs.ConnectiveLemmas.{whole-parts, whole-opposite, whole-made, whole-swapped, one-of, same-two, opposite-two}
use Rattle.psa_prep.proofs.connectives.connect.Goals as goal

pub differ-requires-clause-part : goal.differ-requires-clause-part
differ-requires-clause-part c = whole-parts c.args.context.now c.args.operands.now c.args.builder.now _ (of_two (λ a b. not (is_same a b))) c.requires.operands
    (λ s. sym (ap (λ (o : Connective). truth_of_connective o c.args.operands.now.min c.args.operands.now.max (truths c.args.context.now s c.args.operands.now.arguments.now)) c.in-Xor.is))

pub differ-requires-in-Iff-clause-part : goal.differ-requires-in-Iff-clause-part
differ-requires-in-Iff-clause-part c = whole-opposite c.args.context.now c.args.operands.now c.args.builder.now _ (of_two (λ a b. not (is_same a b))) c.requires.operands
    (λ s. opposite-two c.args.context.now s c.args.operands.now.arguments.now (eqb-true (length c.args.operands.now.arguments.now) 2 (sym (ap (λ (o : Connective). has_arity o c.args.operands.now.min c.args.operands.now.max (length c.args.operands.now.arguments.now)) c.in-Iff.is) ∙ c.requires.operands.arity)) ∙ ap not (sym (ap (λ (o : Connective). truth_of_connective o c.args.operands.now.min c.args.operands.now.max (truths c.args.context.now s c.args.operands.now.arguments.now)) c.in-Iff.is)))

pub imply-requires-clause-part : goal.imply-requires-clause-part
imply-requires-clause-part c = whole-parts c.args.context.now c.args.operands.now c.args.builder.now _ (of_two (λ a b. not a || b)) c.requires.operands
    (λ s. sym (ap (λ (o : Connective). truth_of_connective o c.args.operands.now.min c.args.operands.now.max (truths c.args.context.now s c.args.operands.now.arguments.now)) c.in-Imply.is))

pub cardinality-requires-clause-part : goal.cardinality-requires-clause-part
cardinality-requires-clause-part c = whole-parts c.args.context.now c.args.operands.now c.args.builder.now _ (λ values. nat_le c.args.operands.now.min (count_true values) && nat_le (count_true values) c.args.operands.now.max) c.requires.operands
    (λ s. sym (ap (λ (o : Connective). truth_of_connective o c.args.operands.now.min c.args.operands.now.max (truths c.args.context.now s c.args.operands.now.arguments.now)) c.in-Cardinality.is))

pub returns-in-And : goal.returns-in-And
returns-in-And c = if-ok c.gather.result _ _ (λ pair made. whole-made c.args.context.now c.args.operands.now (gathers true) c.args.signs c.args.builder.now c.args.builder.now _ _ pair c.requires.operands
    (λ s. sym (ap (λ (o : Connective). truth_of_connective o c.args.operands.now.min c.args.operands.now.max (truths c.args.context.now s c.args.operands.now.arguments.now)) c.in-And.is)) made) c.gather.ensures

pub returns-in-Or : goal.returns-in-Or
returns-in-Or c = if-ok c.gather-in-Or.result _ _ (λ pair made. whole-made c.args.context.now c.args.operands.now (gathers false) c.args.signs c.args.builder.now c.args.builder.now _ _ pair c.requires.operands
    (λ s. sym (ap (λ (o : Connective). truth_of_connective o c.args.operands.now.min c.args.operands.now.max (truths c.args.context.now s c.args.operands.now.arguments.now)) c.in-Or.is)) made) c.gather-in-Or.ensures

pub returns-in-Not : goal.returns-in-Not
returns-in-Not c = if-ok c.none_of.result _ _ (λ pair made. whole-made c.args.context.now c.args.operands.now (λ values. not (gathers true values)) c.args.signs c.args.builder.now c.args.builder.now _ _ pair c.requires.operands
    (λ s. one-of c.args.context.now s c.args.operands.now.arguments.now (eqb-true (length c.args.operands.now.arguments.now) 1 (sym (ap (λ (o : Connective). has_arity o c.args.operands.now.min c.args.operands.now.max (length c.args.operands.now.arguments.now)) c.in-Not.is) ∙ c.requires.operands.arity)) ∙ sym (ap (λ (o : Connective). truth_of_connective o c.args.operands.now.min c.args.operands.now.max (truths c.args.context.now s c.args.operands.now.arguments.now)) c.in-Not.is)) made) c.none_of.ensures

pub returns-in-Nand : goal.returns-in-Nand
returns-in-Nand c = if-ok c.none_of-in-Nand.result _ _ (λ pair made. whole-made c.args.context.now c.args.operands.now (λ values. not (gathers true values)) c.args.signs c.args.builder.now c.args.builder.now _ _ pair c.requires.operands
    (λ s. sym (ap (λ (o : Connective). truth_of_connective o c.args.operands.now.min c.args.operands.now.max (truths c.args.context.now s c.args.operands.now.arguments.now)) c.in-Nand.is)) made) c.none_of-in-Nand.ensures

pub returns-in-Nor : goal.returns-in-Nor
returns-in-Nor c = if-ok c.none_of-in-Nor.result _ _ (λ pair made. whole-made c.args.context.now c.args.operands.now (λ values. not (gathers false values)) c.args.signs c.args.builder.now c.args.builder.now _ _ pair c.requires.operands
    (λ s. sym (ap (λ (o : Connective). truth_of_connective o c.args.operands.now.min c.args.operands.now.max (truths c.args.context.now s c.args.operands.now.arguments.now)) c.in-Nor.is)) made) c.none_of-in-Nor.ensures

pub returns-in-Xor : goal.returns-in-Xor
returns-in-Xor c = if-ok c.differ.result _ _ (λ pair made. whole-made c.args.context.now c.args.operands.now (of_two (λ a b. not (is_same a b))) c.args.signs c.args.builder.now c.args.builder.now _ _ pair c.requires.operands
    (λ s. sym (ap (λ (o : Connective). truth_of_connective o c.args.operands.now.min c.args.operands.now.max (truths c.args.context.now s c.args.operands.now.arguments.now)) c.in-Xor.is)) made) c.differ.ensures

pub returns-in_ok-pair-in-Iff : goal.returns-in_ok-pair-in-Iff
returns-in_ok-pair-in-Iff c =
    rw c.swapped-in-Iff.ensures
    (whole-swapped c.args.context.now c.args.operands.now (of_two (λ a b. not (is_same a b))) c.args.signs c.args.builder.now c.args.builder.now c.differ-in-Iff.new.builder _ c.in_ok-pair-in-Iff.pair c.requires.operands
    (λ s. same-two c.args.context.now s c.args.operands.now.arguments.now (eqb-true (length c.args.operands.now.arguments.now) 2 (sym (ap (λ (o : Connective). has_arity o c.args.operands.now.min c.args.operands.now.max (length c.args.operands.now.arguments.now)) c.in-Iff.is) ∙ c.requires.operands.arity)) ∙ sym (ap (λ (o : Connective). truth_of_connective o c.args.operands.now.min c.args.operands.now.max (truths c.args.context.now s c.args.operands.now.arguments.now)) c.in-Iff.is))
    (subst (λ (some : Signs). MakesOf c.args.context.now c.args.operands.now (of_two (λ a b. not (is_same a b))) some c.args.builder.now c.differ-in-Iff.new.builder c.in_ok-pair-in-Iff.pair) c.swapped.ensures c.in_ok-pair-in-Iff.ensures))

pub returns-in-Imply : goal.returns-in-Imply
returns-in-Imply c = if-ok c.imply.result _ _ (λ pair made. whole-made c.args.context.now c.args.operands.now (of_two (λ a b. not a || b)) c.args.signs c.args.builder.now c.args.builder.now _ _ pair c.requires.operands
    (λ s. sym (ap (λ (o : Connective). truth_of_connective o c.args.operands.now.min c.args.operands.now.max (truths c.args.context.now s c.args.operands.now.arguments.now)) c.in-Imply.is)) made) c.imply.ensures

pub returns-in-Atleast : goal.returns-in-Atleast
returns-in-Atleast c = if-ok c.at_least.result _ _ (λ pair made. whole-made c.args.context.now c.args.operands.now (λ values. nat_le c.args.operands.now.min (count_true values)) c.args.signs c.args.builder.now c.args.builder.now _ _ pair c.requires.operands
    (λ s. sym (ap (λ (o : Connective). truth_of_connective o c.args.operands.now.min c.args.operands.now.max (truths c.args.context.now s c.args.operands.now.arguments.now)) c.in-Atleast.is)) made) c.at_least.ensures

pub returns-in-Cardinality : goal.returns-in-Cardinality
returns-in-Cardinality c = if-ok c.cardinality.result _ _ (λ pair made. whole-made c.args.context.now c.args.operands.now (λ values. nat_le c.args.operands.now.min (count_true values) && nat_le (count_true values) c.args.operands.now.max) c.args.signs c.args.builder.now c.args.builder.now _ _ pair c.requires.operands
    (λ s. sym (ap (λ (o : Connective). truth_of_connective o c.args.operands.now.min c.args.operands.now.max (truths c.args.context.now s c.args.operands.now.arguments.now)) c.in-Cardinality.is)) made) c.cardinality.ensures
