use Rattle.std.proofs.Common.{cond, Some, ap, ◌∙◌}
use Rattle.psa_spaces.specs.declared.key.Key.{Key}
use Rattle.psa_spaces.specs.Addresses.{address_of, same_address, place_of}
use Rattle.psa_spaces.proofs.PlaceLemmas.{after-old, after-new}
use Rattle.psa_spaces.proofs.places.Places.note.Goals as goal

pub returns-in-Some-clause-before : goal.returns-in-Some-clause-before
returns-in-Some-clause-before c = c.in-Some.ensures.value ∙ ap (λ es. place_of es (address_of c.args.key)) c.self.view_is

pub returns-in-Some-clause-after : goal.returns-in-Some-clause-after
returns-in-Some-clause-after c =
    after-old c.args.self.now (address_of c.args.key) c.args.place c.in-Some.first.now
    (c.in-Some.ensures.value ∙ ap (λ es. place_of es (address_of c.args.key)) c.self.view_is)

pub returns-in_ok-insert-in-None-clause-before : goal.returns-in_ok-insert-in-None-clause-before
returns-in_ok-insert-in-None-clause-before c =
    c.in-None.ensures.value ∙ ap (λ es. place_of es (address_of c.args.key)) c.self.view_is

pub returns-in_ok-insert-in-None-clause-after : goal.returns-in_ok-insert-in-None-clause-after
returns-in_ok-insert-in-None-clause-after c =
    after-new c.args.self.now c.insert.new.self.entries (address_of c.args.key) c.args.place
    (c.in-None.ensures.value ∙ ap (λ es. place_of es (address_of c.args.key)) c.self.view_is)
    (λ address.
    let key : Key = record { scope = address.scope; family = address.family; within = address.within; name = record c.args.key.name { now = address.name } } in
    c.in_ok-insert-in-None.ensures.updates.0 key
    ∙ ap (λ es. cond (same_address (address_of c.args.key) address) (Some c.args.place) (place_of es address)) c.self.view_is)
