use Rattle.std.proofs.Common.{◌≡◌, Bool, true, false, not, reverse, List, [], ◌∷◌, ◌++◌, IsSome, sym, ap, subst, ◌∙◌, arith, true≢false, refl}
use Rattle.psa_nodes.specs.declared.node.Node.{Node}
use Rattle.psa_nodes.specs.Sizes.{AreSized}
use Rattle.psa_nodes.proofs.PlaceLemmas.{found_at, inserted, inserted-same, inserted-new, popped-same, reverse-push, new-absent}
use Rattle.psa_nodes.proofs.SizeLemmas.{sized-push}
use Rattle.psa_nodes.proofs.table.add.Goals as goal

not-false : (b : Bool) → not b ≡ false → b ≡ true
not-false true e = refl
not-false false e = absurd (true≢false e)

not-true : (b : Bool) → not b ≡ true → b ≡ false
not-true true e = absurd (true≢false (sym e))
not-true false e = refl

pub returns-in_default-clause-err : goal.returns-in_default-clause-err
returns-in_default-clause-err c =
    (ap reverse (rw c.in_default.is at c.insert_full.ensures.err), new-absent c.args.nodes.now.keys c.args.node (rw c.in_default.is at c.insert_full.ensures.absent))

pub returns-then-not-is_new-clause-at : goal.returns-then-not-is_new-clause-at
returns-then-not-is_new-clause-at c =
    let s = c.in-Ok.ensures.stored in
    found_at c.insert_full.new.self.keys c.args.node s.0 c.in-Ok.index s.1 s.2

pub returns-then-not-is_new-clause-added : goal.returns-then-not-is_new-clause-added
returns-then-not-is_new-clause-added c =
    inserted c.args.nodes.now.keys c.insert_full.new.self.keys c.args.node c.in-Ok.ensures.keys

pub returns-then-not-is_new-clause-sized : goal.returns-then-not-is_new-clause-sized
returns-then-not-is_new-clause-sized c = λ sized own.
    subst (λ (ns : List Node). AreSized ns (reverse c.args.sizes.now.items))
    (sym (inserted-same c.args.nodes.now.keys c.insert_full.new.self.keys c.args.node c.in-Ok.ensures.keys (not-false _ (sym c.in-Ok.ensures.added ∙ c.if-not-is_new.true)))) sized

pub returns-in-Ok-push-clause-at : goal.returns-in-Ok-push-clause-at
returns-in-Ok-push-clause-at c =
    let s = c.in-Ok.ensures.stored in
    found_at c.insert_full.new.self.keys c.args.node s.0 c.in-Ok.index s.1 s.2

pub returns-in-Ok-push-clause-added : goal.returns-in-Ok-push-clause-added
returns-in-Ok-push-clause-added c =
    inserted c.args.nodes.now.keys c.insert_full.new.self.keys c.args.node c.in-Ok.ensures.keys

pub returns-in-Ok-push-clause-sized : goal.returns-in-Ok-push-clause-sized
returns-in-Ok-push-clause-sized c = λ sized own.
    let keys = c.args.nodes.now.keys in
    let n = c.args.node in
    let pushed : c.insert_full.new.self.keys ≡ keys ++ n ∷ [] =
    inserted-new keys c.insert_full.new.self.keys n c.in-Ok.ensures.keys (not-true _ (sym c.in-Ok.ensures.added ∙ c.if-not-is_new.false)) in
    sized-push (reverse keys) (reverse c.insert_full.new.self.keys) n c.args.sizes.now.items c.push.new.self.items c.args.of_members
    (ap reverse pushed ∙ reverse-push keys n) c.in-Ok-push.ensures.items own sized

pub returns-in-Err-clause-err : goal.returns-in-Err-clause-err
returns-in-Err-clause-err c =
    let keys = c.args.nodes.now.keys in
    let n = c.args.node in
    let absent = not-true _ (sym c.in-Ok.ensures.added ∙ c.if-not-is_new.false) in
    let pushed : c.insert_full.new.self.keys ≡ keys ++ n ∷ [] = inserted-new keys c.insert_full.new.self.keys n c.in-Ok.ensures.keys absent in
    let within = c.in-Ok.ensures.within in
    let some : IsSome c.pop.result = c.pop.ensures.found.1 (omega (arith, within)) in
    (popped-same keys c.pop.new.self.keys n c.pop.result (sym pushed ∙ c.pop.ensures.keys) some, new-absent keys n absent)

pub returns-in-Err-clause-sized : goal.returns-in-Err-clause-sized
returns-in-Err-clause-sized c = λ sized own.
    let same : c.push.new.self.items ≡ c.args.sizes.now.items = c.in-Err.ensures.items in
    subst (λ (ns : List Node). AreSized ns (reverse c.push.new.self.items)) (sym (returns-in-Err-clause-err c).0)
    (subst (AreSized (reverse c.args.nodes.now.keys)) (sym (ap reverse same)) sized)
