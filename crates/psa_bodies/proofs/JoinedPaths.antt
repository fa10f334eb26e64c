-- A path made part by part.
use Rattle.std.proofs.Common.{◌≡◌, ℕ, List, [], ◌∷◌, ◌++◌, ap, sym, ◌∙◌}
use Rattle.std.proofs.lemmas.List.{append-nil, append_assoc}
use Rattle.std.specs.List.{flat_map, join_by}

followed : (separator name : List ℕ) (parts : List (List ℕ)) → separator ++ (flat_map (λ part. part ++ separator) parts ++ name) ≡ flat_map (λ part. separator ++ part) (parts ++ name ∷ [])
followed separator name [] = sym (append-nil (separator ++ name))
followed separator name (part ∷ parts) =
    ap (λ xs. separator ++ xs) (append_assoc (part ++ separator) (flat_map (λ p. p ++ separator) parts) name ∙ append_assoc part separator (flat_map (λ p. p ++ separator) parts ++ name))
    ∙ sym (append_assoc separator part (separator ++ (flat_map (λ p. p ++ separator) parts ++ name)))
    ∙ ap (λ xs. (separator ++ part) ++ xs) (followed separator name parts)

-- each part with a separator behind it, and then the name
pub path-joined : (separator name : List ℕ) (parts : List (List ℕ)) → flat_map (λ part. part ++ separator) parts ++ name ≡ join_by (λ part. part) separator (parts ++ name ∷ [])
path-joined separator name [] = sym (append-nil name)
path-joined separator name (part ∷ parts) =
    append_assoc (part ++ separator) (flat_map (λ p. p ++ separator) parts) name
    ∙ append_assoc part separator (flat_map (λ p. p ++ separator) parts ++ name)
    ∙ ap (λ xs. part ++ xs) (followed separator name parts)
