use Rattle.std.proofs.Common.{◌≡◌, ℕ, List, ◌∷◌, map, refl, sym, ap, ◌∙◌}
use Rattle.psa_nodes.specs.declared.node.Node.{Node}
use Rattle.psa_model.specs.Literals.{literals_of}
use Rattle.psa_products.specs.Walks.{to_come}
use Rattle.psa_products.proofs.StepLemmas.{given, given-walk, literals-nodes}
use Rattle.psa_products.proofs.walk.Walk.advance.Goals as goal

pub returns-clause-walk : goal.returns-clause-walk
returns-clause-walk g c = given-walk c.descend.new.self c.descend.ensures.walk c.descend.ensures.end.0 c.descend.ensures.end.1

pub returns-clause-some : goal.returns-clause-some
returns-clause-some g c = λ is_found.
    let w = c.descend.new.self in
    let walk = c.descend.ensures.walk in
    let spelled : literals_of w.product.items ≡ map (λ (n : Node). n.var) w.taken.items =
    ap literals_of walk.product ∙ literals-nodes w.taken.items in
    sym c.rise.ensures.same ∙ sym c.descend.ensures.same
    ∙ given w walk c.descend.ensures.end.0 c.descend.ensures.end.1 w.taken.items refl
    ∙ ap (λ (set : List ℕ). set ∷ to_come (record w { at = record { 0 = 0 } })) (sym spelled)
