-- What a sink in blocks has taken stays the same as it passes its bytes on.
use Rattle.std.proofs.Common.{◌≡◌, ◌∙◌, ℕ, ◌+◌, List, ◌++◌, Option, Some, None, take, drop, ap, sym}
use Rattle.std.proofs.lemmas.List.{append_assoc, take-append-drop, drop-drop}
use Rattle.std.specs.Io.KnownBytes.{Appends, Keeps, append_known}

-- a piece passed on, and what waits behind it, is what waited
pub taken-apart : (xs bytes : List ℕ) (passed n : ℕ) → (xs ++ take n (drop passed bytes)) ++ drop (passed + n) bytes ≡ xs ++ drop passed bytes
taken-apart xs bytes passed n =
    append_assoc xs (take n (drop passed bytes)) (drop (passed + n) bytes)
    ∙ ap (λ ys. xs ++ ys) (ap (λ ys. take n (drop passed bytes) ++ ys) (sym (drop-drop n passed bytes)) ∙ take-append-drop n (drop passed bytes))

-- the next bytes that wait were passed on
pub passed-on : (start old new : Option (List ℕ)) (bytes : List ℕ) (passed n : ℕ)
    → Appends old new (take n (drop passed bytes))
    → Keeps start (append_known old (drop passed bytes)) → Keeps start (append_known new (drop (passed + n) bytes))
passed-on None old new bytes passed n appended kept = tt
passed-on (Some xs) None new bytes passed n appended kept = absurd kept
passed-on (Some xs) (Some ys) None bytes passed n appended kept = absurd appended
passed-on (Some xs) (Some ys) (Some zs) bytes passed n appended kept =
    ap (λ ws. ws ++ drop (passed + n) bytes) appended ∙ taken-apart ys bytes passed n ∙ kept
