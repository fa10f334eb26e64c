use Rattle.std.proofs.Common.{◌≡◌, ◌<◌, ◌+◌, ℕ, List, ◌++◌, ◌∷◌, [], ap, sym, ◌∙◌, take, length, get_or, append_assoc}
use Rattle.std.proofs.lemmas.List.{take_all, take_more, flat_map_more}
use Rattle.std.proofs.lemmas.Result.{IfOk-weaker}
use Rattle.std.specs.List.{flat_map, join_by}
use Rattle.std.specs.String.{string_bytes}
use Rattle.psa_model.specs.PathNames.{Text, dot}
use Rattle.psa_bodies.proofs.JoinedPaths.{path-joined}
use Rattle.psa_bodies.proofs.names.path_of.Goals as goal

-- one more name and the dot behind it
path-more : (names : List Text) (i : ℕ) (part path named longer : Text) → i < length names → part ≡ get_or names i part → path ≡ flat_map (λ (one : Text). one ++ dot ∷ []) (take i names) → named ≡ path ++ part → longer ≡ named ++ dot ∷ [] → longer ≡ flat_map (λ (one : Text). one ++ dot ∷ []) (take (i + 1) names)
path-more names i part path named longer inside is before more dotted =
    dotted ∙ ap (λ (xs : Text). xs ++ dot ∷ []) (more ∙ ap (λ (xs : Text). xs ++ part) before)
    ∙ append_assoc (flat_map (λ (one : Text). one ++ dot ∷ []) (take i names)) part (dot ∷ [])
    ∙ flat_map_more (λ (one : Text). one ++ dot ∷ []) [] (take i names) part
    ∙ ap (flat_map (λ (one : Text). one ++ dot ∷ [])) (ap (λ (x : Text). take i names ++ x ∷ []) is ∙ sym (take_more names i part inside))

pub loop-part-init : goal.loop-part-init
loop-part-init c = c.new-path.ensures.bytes

pub loop-part-preserved : goal.loop-part-preserved
loop-part-preserved c =
    path-more c.args.container.now c.loop-part.part-index c.part-item.result _ _ _ c.loop-part-test.true c.part-item.is c.loop-part.invariant
    (c.in_ok-push_str.ensures.bytes ∙ ap (λ (xs : Text). string_bytes c.loop-part.path ++ xs) c.as_str.ensures) c.in_ok-push_str-2.ensures.bytes

pub returns : goal.returns
returns c =
    IfOk-weaker c.from_str.result (λ made. made ≡ c.as_str-2.result.now) (λ made. made ≡ join_by (λ (part : Text). part) (dot ∷ []) (c.args.container.now ++ c.args.name.now ∷ []))
    (λ made is. is ∙ c.as_str-2.ensures.value ∙ c.in_ok-push_str-3.ensures.bytes
    ∙ ap (λ (xs : Text). xs ++ c.args.name.now) (c.loop-part.invariant ∙ ap (flat_map (λ (part : Text). part ++ dot ∷ [])) (take_all c.loop-part.part-index c.args.container.now c.loop-part-test.false))
    ∙ path-joined (dot ∷ []) c.args.name.now c.args.container.now)
    c.from_str.ensures
