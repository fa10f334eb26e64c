use Rattle.std.proofs.Common.{◌≡◌, ℕ, Bool, List, ap, ◌∙◌}
use Rattle.psa_spaces.specs.Addresses.{Address, place_of}
use Rattle.psa_spaces.specs.declared.key.Family.{Family}
use Rattle.psa_spaces.specs.declared.key.Key.{Key}
use Rattle.psa_names.specs.Outlines.{Entry, entry_of}
use Rattle.psa_lookup.specs.Keys.{addresses_with, only_if, whole_address, inside_address, family_kept, has_whole, has_inside, is_contained}
use Rattle.psa_lookup.specs.Noting.{after_noting}
use Rattle.psa_lookup.proofs.NotingLemmas.{two-noted, contained-is}
use Rattle.psa_lookup.proofs.notes.note_definition.Goals as goal

both-noted : (before middle after : List (Key × ℕ)) (place number : ℕ) (one : Entry) (family : Family) (name : List ℕ) (whole inside : Bool)
    → family ≡ family_kept one → name ≡ one.name → whole ≡ has_whole family one.private → inside ≡ has_inside family (is_contained one.container)
    → ((address : Address) → place_of middle address ≡ after_noting before (only_if whole (whole_address family name)) place address)
    → ((address : Address) → place_of after address ≡ after_noting middle (only_if inside (inside_address family number name)) place address)
    → (address : Address) → place_of after address ≡ after_noting before (addresses_with number one) place address
both-noted before middle after place number one family name whole inside f n w i first second address =
    two-noted before middle after (only_if whole (whole_address family name)) (only_if inside (inside_address family number name)) place first second address
    ∙ ap (λ (addresses : List Address). after_noting before addresses place address)
    (let w2 : whole ≡ has_whole (family_kept one) one.private = w ∙ ap (λ (x : Family). has_whole x one.private) f in
    let i2 : inside ≡ has_inside (family_kept one) (is_contained one.container) = i ∙ ap (λ (x : Family). has_inside x (is_contained one.container)) f in
    cc)

pub returns-then-is_one-clause-after : goal.returns-then-is_one-clause-after
returns-then-is_one-clause-after c =
    both-noted c.args.places.now c.note_if.new.places c.note_if-2.new.places c.args.place c.args.number (entry_of c.args.definition.now) _ _ _ _
    c.family_of-family.ensures c.as_bytes-name.ensures c.is_in_whole.ensures
    (c.is_inside.ensures ∙ ap (has_inside c.family_of-family.result) (contained-is _ _ c.is_empty-contained.ensures))
    c.in_ok-in_whole.ensures.after c.in_ok-inside.ensures.after

pub returns-else-is_one-clause-after : goal.returns-else-is_one-clause-after
returns-else-is_one-clause-after c =
    both-noted c.args.places.now c.note_if.new.places c.note_if-2.new.places c.args.place c.args.number (entry_of c.args.definition.now) _ _ _ _
    c.family_of-family.ensures c.as_bytes-name.ensures c.is_in_whole.ensures
    (c.is_inside.ensures ∙ ap (has_inside c.family_of-family.result) (contained-is _ _ c.is_empty-contained.ensures))
    c.in_ok-in_whole.ensures.after c.in_ok-inside.ensures.after
