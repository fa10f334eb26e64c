-- Lists joined in an order, each taken out where it is joined.
use Rattle.std.proofs.Common.{◌≡◌, ◌≢◌, ◌<◌, ◌≤◌, ◌+◌, ℕ, List, [], ◌∷◌, ◌++◌, Some, length, take, get_or, refl, sym, ap, ◌∙◌, arith}
use Rattle.std.proofs.lemmas.List.{append-nil, take_more, take_all}
use Rattle.std.proofs.lemmas.List.Concat.{flat_map-append}
use Rattle.std.proofs.lemmas.Option.{slice_get-get_or}
use Rattle.std.specs.List.{flat_map, slice_get}
use Rattle.psa_bodies.specs.Joining.{AreApart}

-- so many lists are joined, and those of the other places are still there
pub record IsJoined {A : Type 0} (lists left : List (List A)) (sequence : List ℕ) (i : ℕ) (made : List A) : Type 0 where
  pub made_is : made ≡ flat_map (λ place. get_or lists place []) (take i sequence)
  pub rest : (j place : ℕ) → i ≤ j → slice_get sequence j ≡ Some place → get_or left place [] ≡ get_or lists place []

pub joined-none : {A : Type 0} (lists : List (List A)) (sequence : List ℕ) (made : List A) → made ≡ [] → IsJoined lists lists sequence 0 made
joined-none lists sequence made is = record { made_is = is; rest = λ j place later there. refl }

pub joined-more : {A : Type 0} (lists left after : List (List A)) (sequence : List ℕ) (i d : ℕ) (made more one : List A) → AreApart sequence → i < length sequence → IsJoined lists left sequence i made → one ≡ get_or left (get_or sequence i d) [] → ((other : ℕ) → other ≢ get_or sequence i d → get_or after other [] ≡ get_or left other []) → more ≡ made ++ one → IsJoined lists after sequence (i + 1) more
joined-more lists left after sequence i d made more one apart inside before is others pushed =
    let here = slice_get-get_or sequence i d inside in
    record {
      made_is =
          pushed ∙ ap (λ xs. xs ++ one) before.made_is
          ∙ ap (λ xs. flat_map (λ place. get_or lists place []) (take i sequence) ++ xs)
          (is ∙ before.rest i (get_or sequence i d) (omega arith) here ∙ sym (append-nil (get_or lists (get_or sequence i d) [])))
          ∙ sym (flat_map-append (λ place. get_or lists place []) (take i sequence) (get_or sequence i d ∷ []))
          ∙ ap (flat_map (λ place. get_or lists place [])) (sym (take_more sequence i d inside));
      rest = λ j place later there.
          others place (λ same. let e = apart.apart i j (get_or sequence i d) here (there ∙ ap Some same) in omega (arith, e, later))
          ∙ before.rest j place (omega (arith, later)) there;
    }

pub joined-all : {A : Type 0} (lists left : List (List A)) (sequence : List ℕ) (i : ℕ) (made : List A) → length sequence ≤ i → IsJoined lists left sequence i made → made ≡ flat_map (λ place. get_or lists place []) sequence
joined-all lists left sequence i made past joined = joined.made_is ∙ ap (flat_map (λ place. get_or lists place [])) (take_all i sequence past)
