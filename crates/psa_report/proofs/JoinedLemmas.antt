-- Texts with separators between them.
use Rattle.std.proofs.Common.{◌≡◌, ◌∙◌, ◌==◌, ◌+◌, ◌<◌, ◌%◌, ◌/◌, ℕ, Bool, true, false, List, [], ◌∷◌, ◌++◌, codes, map, drop, get_or, length, refl, ap, sym, append_assoc, if◌then◌else◌}
use Rattle.std.specs.List.{flat_map, join_by}
use Rattle.std.proofs.lemmas.List.{drop_more}
use Rattle.psa_model.specs.declared.ids.EventId.{EventId}
use Rattle.psa_model.specs.declared.expanded.ExpandedEvent.{ExpandedEvent}
use Rattle.psa_model.specs.declared.expanded.ExpandedEvent.TheVariants.{Shared}
use Rattle.psa_model.specs.declared.ids.GroupId.{GroupId}
use Rattle.psa_model.specs.declared.model.Model.{Model}
use Rattle.psa_model.specs.Events.{members_at}
use Rattle.psa_model.specs.Names.{basic_name, event_text, held_members}
use Rattle.psa_report.specs.Joined.{separated}

-- texts behind a space each
separated-after : {A : Type 0} (f : A → List ℕ) (xs : List A) → separated (codes " ") (map f xs) ≡ flat_map (λ x. codes " " ++ f x) xs
separated-after f [] = refl
separated-after f (x ∷ xs) =
    ap (λ rest. codes " " ++ (f x ++ rest)) (separated-after f xs) ∙ sym (append_assoc (codes " ") (f x) (flat_map (λ y. codes " " ++ f y) xs))

-- texts joined by one space
pub separated-join : {A : Type 0} (f : A → List ℕ) (xs : List A) → separated [] (map f xs) ≡ join_by f (codes " ") xs
separated-join f [] = refl
separated-join f (x ∷ xs) = ap (λ rest. f x ++ rest) (separated-after f xs)

-- a member that is held or not, and those behind it
held-more : (f : EventId → List ℕ) (separator : List ℕ) (left : ℕ) (id : EventId) (ids : List EventId)
    → separated separator (map f (held_members left (id ∷ ids)))
    ≡ (if left % 2 == 1 then separator else []) ++ ((if left % 2 == 1 then f id else []) ++ separated (if left % 2 == 1 then codes " " else separator) (map f (held_members (left / 2) ids)))
held-more f separator left id ids = by_parity (left % 2 == 1)
  where
    some : List ℕ → List EventId → List ℕ
    some before those = separated before (map f those)

    by_parity : (held : Bool)
        → some separator (if held then id ∷ held_members (left / 2) ids else held_members (left / 2) ids)
        ≡ (if held then separator else []) ++ ((if held then f id else []) ++ some (if held then codes " " else separator) (held_members (left / 2) ids))
    by_parity true = append_assoc separator (f id) (some (codes " ") (held_members (left / 2) ids))
    by_parity false = refl

-- the members from a place on
pub members-from : (f : EventId → List ℕ) (separator : List ℕ) (left : ℕ) (ids : List EventId) (i : ℕ) (d : EventId) → i < length ids
    → separated separator (map f (held_members left (drop i ids)))
    ≡ (if left % 2 == 1 then separator else []) ++ ((if left % 2 == 1 then f (get_or ids i d) else []) ++ separated (if left % 2 == 1 then codes " " else separator) (map f (held_members (left / 2) (drop (i + 1) ids))))
members-from f separator left ids i d within =
    ap (λ some. separated separator (map f (held_members left some))) (drop_more ids i d within) ∙ held-more f separator left (get_or ids i d) (drop (i + 1) ids)

-- the text of a subset's event: its members' names between brackets
pub event-in-parts : (model : Model) (event : ExpandedEvent) (group : GroupId) (subset : ℕ) → event ≡ Shared group subset
    → codes "[" ++ (separated [] (map (λ id. basic_name model id.0) (held_members subset (members_at model group.0))) ++ codes "]") ≡ event_text model event
event-in-parts model event group subset is_shared =
    ap (λ (names : List ℕ). codes "[" ++ (names ++ codes "]")) (separated-join (λ id. basic_name model id.0) (held_members subset (members_at model group.0)))
    ∙ ap (event_text model) (sym is_shared)
