-- The parser sees each word as the look that the definition gives it: dashes, long, short or plain.
use Rattle.std.proofs.Common.{◌≡◌, refl, ap, Bool, true, false, [], ◌∷◌, Some, None, cond}
use Rattle.std.specs.Prelude.{◌==◌}
use Rattle.std.specs.Str.{bytes_eq}
use Rattle.std.proofs.lemmas.Bool.{cond_both, eqb-true}
use Rattle.clap.specs.Lexer.{long_of, short_of}
use Rattle.clap.specs.Walk.{attached_value}
use Rattle.psa_words.specs.Reading.{Text, Look, dashes, long, short, plain, look_of, long_look, value_behind}

-- `--`
abbrev pub two_hyphens : Text
two_hyphens = 45 ∷ 45 ∷ []

-- The value attached to a short option is what the definition reads behind its letter.
pub value_behind_is : (rest : Text) → attached_value rest ≡ value_behind rest
value_behind_is [] = refl
value_behind_is (b ∷ bs) = cond_both (b == 61) (Some bs) (Some (b ∷ bs)) (λ v. attached_value (b ∷ bs) ≡ v) (λ e. rw e refl) (λ e. rw e refl)

-- the parser's view of a word that looks so
abbrev pub IsLook : Text → Look → Type 0
IsLook word dashes = bytes_eq word two_hyphens ≡ true
IsLook word (long name value) = (bytes_eq word two_hyphens ≡ false) × (long_of word ≡ Some (name, value))
IsLook word (short byte rest) = (bytes_eq word two_hyphens ≡ false) × (long_of word ≡ None) × (short_of word ≡ Some (byte ∷ rest)) × (word ≡ 45 ∷ (byte ∷ rest))
IsLook word plain = (bytes_eq word two_hyphens ≡ false) × (long_of word ≡ None) × (short_of word ≡ None)

-- The parser sees each word as the look that the definition gives it.
pub looks : (word : Text) → IsLook word (look_of word)
looks [] = (refl, refl, refl)
looks (a ∷ []) = go (a == 45) refl
  where
    go : (is : Bool) → (a == 45) ≡ is → IsLook (a ∷ []) plain
    go true e = (rw e refl, rw e refl, rw e refl)
    go false e = (rw e refl, rw e refl, rw e refl)
looks (a ∷ (b ∷ rest)) =
    cond_both (a == 45) (cond (b == 45) (long_look rest) (short b rest)) plain (IsLook (a ∷ (b ∷ rest)))
    (λ e. cond_both (b == 45) (long_look rest) (short b rest) (IsLook (a ∷ (b ∷ rest)))
    (λ f. second rest e f)
    (λ f. (rw (e, f) refl, rw (e, f) refl, rw (e, f) refl, ap (λ x. x ∷ (b ∷ rest)) (eqb-true a 45 e))))
    (λ e. (rw e refl, rw e refl, rw e refl))
  where
    second : (more : Text) → (a == 45) ≡ true → (b == 45) ≡ true → IsLook (a ∷ (b ∷ more)) (long_look more)
    second [] e f = rw (e, f) refl
    second (c ∷ cs) e f = (rw (e, f) refl, rw (e, f) refl)
