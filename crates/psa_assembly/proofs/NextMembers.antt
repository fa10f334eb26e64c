-- The members of the next group.
use Rattle.std.proofs.Common.{◌≡◌, ℕ, List, [], ◌∷◌, ◌++◌, Option, Some, None, map, length, take, drop, refl, ap, sym, ◌∙◌}
use Rattle.std.proofs.lemmas.List.{length-map}
use Rattle.std.specs.Prelude.{filter_map}
use Rattle.std.specs.Option.{option_map}
use Rattle.psa_model.specs.declared.ids.EventId.{EventId}
use Rattle.psa_model.specs.declared.draft.DraftBody.TheVariants as body
use Rattle.psa_model.specs.declared.draft.DraftGroup.{DraftGroup}
use Rattle.psa_names.specs.declared.found.Sense.{Sense}
use Rattle.psa_names.specs.Outlines.{Entry, Entries}
use Rattle.psa_names.specs.Meanings.{Meaning, members_of, meaning_of_event}
use Rattle.psa_names.specs.GroupRules.{meanings_of_members}
use Rattle.psa_names.specs.Found.{meaning_of_sense}
use Rattle.psa_names.specs.Ids.{basic_id}
use Rattle.psa_names.specs.ModelOfDraft.{member_ids}
use Rattle.psa_assembly.specs.Groups.{ids_of}
use Rattle.psa_bodies.proofs.NumberingInOrder.{take-mapped}

filter_map-map : {A B C : Type 0} (g : B → Option C) (f : A → B) (xs : List A) → filter_map g (map f xs) ≡ filter_map (λ x. g (f x)) xs
filter_map-map g f [] = refl
filter_map-map {A} {B} {C} g f (x ∷ xs) = by (g (f x)) refl (filter_map-map g f xs)
  where
    by : (y : Option C) → g (f x) ≡ y → filter_map g (map f xs) ≡ filter_map (λ z. g (f z)) xs → filter_map g (map f (x ∷ xs)) ≡ filter_map (λ z. g (f z)) (x ∷ xs)
    by None is rest = rw is rest
    by (Some y) is rest = rw is (ap (λ ys. y ∷ ys) rest)

-- the basic events that the next senses stand for are the members of the group
pub ids-are : (entries : Entries) (one : Entry) (group : DraftGroup) (senses : List Sense) (others : List (Option Meaning)) (count : ℕ) → one.body ≡ body.Group group → count ≡ length group.members → map (meaning_of_sense entries) senses ≡ meanings_of_members entries one ++ others → ids_of entries (take count senses) ≡ map (λ id. record { 0 = id }) (member_ids entries one)
ids-are entries one group senses others count says counted begins =
    let long : length (meanings_of_members entries one) ≡ count = length-map (members_of one.body) _ ∙ ap (λ b. length (members_of b)) says ∙ sym counted in
    let first = (take-mapped (meaning_of_sense entries) count senses (meanings_of_members entries one) others long begins).0 in
    ap (λ (ids : List ℕ). map {A = ℕ} {B = EventId} (λ id. record { 0 = id }) ids)
    (sym (filter_map-map (option_map (basic_id entries)) (meaning_of_sense entries) (take count senses))
    ∙ ap (filter_map (option_map (basic_id entries))) first
    ∙ filter_map-map (option_map (basic_id entries)) (λ member. meaning_of_event entries one.container member.name) (members_of one.body))

-- the senses behind them
pub others-are : (entries : Entries) (one : Entry) (group : DraftGroup) (senses left : List Sense) (others : List (Option Meaning)) (count : ℕ) → one.body ≡ body.Group group → count ≡ length group.members → map (meaning_of_sense entries) senses ≡ meanings_of_members entries one ++ others → left ≡ drop count senses → map (meaning_of_sense entries) senses ≡ meanings_of_members entries one ++ map (meaning_of_sense entries) left
others-are entries one group senses left others count says counted begins is =
    let long : length (meanings_of_members entries one) ≡ count = length-map (members_of one.body) _ ∙ ap (λ b. length (members_of b)) says ∙ sym counted in
    let rest = (take-mapped (meaning_of_sense entries) count senses (meanings_of_members entries one) others long begins).1 in
    begins ∙ ap (λ ms. meanings_of_members entries one ++ ms) (sym rest ∙ ap (map (meaning_of_sense entries)) (sym is))
