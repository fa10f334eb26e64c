use Rattle.std.proofs.Common.{◌≡◌, ◌<◌, ◌++◌, [], ◌∷◌, ℕ, List, Bool, length, set, not, false, true, nat_eq, refl, sym, ap, ◌∙◌, cond, arith}
use Rattle.std.proofs.lemmas.Bool.{false≢true}
use Rattle.std.proofs.lemmas.List.{length-map}
use Rattle.std.specs.List.{list_any, position_or_len}
use Rattle.psa_model.specs.declared.targets.PathStep.{PathStep}
use Rattle.psa_walk.specs.declared.groups.SequenceGroup.{SequenceGroup}
use Rattle.psa_walk.specs.SequenceGroups.{numbers}
use Rattle.psa_walk.proofs.SequenceGroupLemmas.{new-grouped, known-grouped, numbers-set}
use Rattle.psa_walk.proofs.groups.add.Goals as goal

was-new : (n b : Bool) → n ≡ not b → n ≡ true → b ≡ false
was-new n true e h = absurd (false≢true (sym e ∙ h))
was-new n false e h = refl

was-known : (n b : Bool) → n ≡ not b → n ≡ false → b ≡ true
was-known n true e h = refl
was-known n false e h = absurd (false≢true (sym h ∙ e))

kept : (ks : List ℕ) (k : ℕ) → list_any (nat_eq k) ks ≡ true → cond (list_any (nat_eq k) ks) ks (ks ++ k ∷ []) ≡ ks
kept ks k h = rw h refl

within-groups : (ks : List ℕ) (gs : List SequenceGroup) (i : ℕ) → i < length ks → ks ≡ numbers gs → i < length gs
within-groups ks gs i lt e = let n : length ks ≡ length gs = ap length e ∙ length-map gs (λ g. g.sequence.0) in omega (arith, lt, n)

pub returns-in_ok-push-2-clause-groups : goal.returns-in_ok-push-2-clause-groups
returns-in_ok-push-2-clause-groups c =
    let a = c.args in
    c.in_ok-push-2.ensures.items
    ∙ ap (λ (ps : List (List PathStep)). a.groups.now.items ++ record { sequence = a.sequence; paths = ps } ∷ []) (c.in_ok-push.ensures.ok ∙ ap (λ (l : List (List PathStep)). l ++ a.path ∷ []) c.new-paths.ensures)
    ∙ sym (new-grouped (record { sequence = a.sequence; path = a.path }) a.groups.now.items (ap (λ ks. list_any (nat_eq a.sequence.0) ks) (sym c.requires) ∙ was-new _ _ c.in_ok-place.ensures.added c.if-is_new.true))

pub returns-in_ok-push-3-clause-places : goal.returns-in_ok-push-3-clause-places
returns-in_ok-push-3-clause-places c =
    let a = c.args in
    let known = was-known _ _ c.in_ok-place.ensures.added c.if-is_new.false in
    let same : c.insert_full.new.self.keys ≡ numbers a.groups.now.items = c.in_ok-place.ensures.keys ∙ kept a.places.now.keys a.sequence.0 known ∙ c.requires in
    let lt = within-groups c.insert_full.new.self.keys a.groups.now.items c.in_ok-place.place c.in_ok-place.ensures.within same in
    same ∙ sym (numbers-set a.groups.now.items c.in_ok-place.place c.index_mut.result.now (record { sequence = c.index_mut.result.now.sequence; paths = c.push-else-is_new.new.self }) lt c.index_mut.ensures.value refl)

pub returns-in_ok-push-3-clause-groups : goal.returns-in_ok-push-3-clause-groups
returns-in_ok-push-3-clause-groups c =
    let a = c.args in
    let known = was-known _ _ c.in_ok-place.ensures.added c.if-is_new.false in
    let same : c.insert_full.new.self.keys ≡ numbers a.groups.now.items = c.in_ok-place.ensures.keys ∙ kept a.places.now.keys a.sequence.0 known ∙ c.requires in
    let lt = within-groups c.insert_full.new.self.keys a.groups.now.items c.in_ok-place.place c.in_ok-place.ensures.within same in
    sym (known-grouped (record { sequence = a.sequence; path = a.path }) a.groups.now.items c.in_ok-place.place c.index_mut.result.now
    (ap (λ ks. position_or_len (nat_eq a.sequence.0) ks) (sym c.requires) ∙ sym c.in_ok-place.ensures.index) lt c.index_mut.ensures.value
    ∙ ap (λ (ps : List (List PathStep)). set a.groups.now.items c.in_ok-place.place (record { sequence = c.index_mut.result.now.sequence; paths = ps })) (sym c.in_ok-push-3.ensures.ok))
