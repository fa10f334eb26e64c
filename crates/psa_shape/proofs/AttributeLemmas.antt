-- The first fault of attributes, one attribute or rule after another.
use Rattle.std.proofs.Common.{◌≡◌, ◌+◌, ◌<◌, ◌++◌, ◌||◌, ◌&&◌, ℕ, Bool, true, false, List, [], ◌∷◌, Some, None, cond, drop, get_or, length, map, not, reverse, take, refl, sym, ap, ap₂, ◌∙◌}
use Rattle.std.specs.List.{list_any, slice_get}
use Rattle.std.specs.Str.{bytes_eq}
use Rattle.std.proofs.lemmas.List.{at_drop_more, reverse-append, take_more}
use Rattle.std.proofs.lemmas.List.Folds.{list_any-append}
use Rattle.std.proofs.lemmas.Option.{same_Some}
use Rattle.psa_text.specs.declared.tree.Attribute.{Attribute}
use Rattle.psa_model.specs.PathNames.{Text}
use Rattle.psa_model.specs.declared.fault.FaultKind.{FaultKind}
use Rattle.psa_model.specs.declared.fault.FaultKind.TheVariants.{BadAttribute}
use Rattle.psa_elements.specs.ElementTable.{AttributeRule}
use Rattle.psa_elements.specs.ShapeFaults.{has_name, unknown_or_repeated}

or_swap : (a b : Bool) → (a || (b || false)) ≡ (b || a)
or_swap true true = refl
or_swap true false = refl
or_swap false true = refl
or_swap false false = refl

list_any-reverse : {X : Type 0} (p : X → Bool) (xs : List X) → list_any p (reverse xs) ≡ list_any p xs
list_any-reverse p [] = refl
list_any-reverse p (x ∷ xs) =
    ap (list_any p) (reverse-append (x ∷ []) xs) ∙ list_any-append p (reverse xs) (x ∷ [])
    ∙ ap (λ b. b || (p x || false)) (list_any-reverse p xs) ∙ or_swap (list_any p xs) (p x)

-- whether an attribute is unknown or stands before
module _ (rules : List AttributeRule) (given : List Attribute) (i : ℕ) (one : Attribute) (inside : i < length given)
    (is : one ≡ get_or given i one) where
  judged : (known repeated : Bool) → list_any (λ rule. bytes_eq rule.name one.name) rules ≡ known
      → list_any (has_name one.name) (take i given) ≡ repeated
      → unknown_or_repeated rules (reverse (take i given)) (drop i given) ≡ cond (known && not repeated) []
      (one.name ∷ []) ++ unknown_or_repeated rules (one ∷ reverse (take i given)) (drop (i + 1) given)
  judged known repeated k r =
      at_drop_more (unknown_or_repeated rules (reverse (take i given))) given i one inside
      ∙ ap (λ (a : Attribute). unknown_or_repeated rules (reverse (take i given)) (a ∷ drop (i + 1) given)) (sym is)
      ∙ ap₂ (λ (a b : Bool). cond (a && not b) [] (one.name ∷ []) ++ unknown_or_repeated rules
      (one ∷ reverse (take i given)) (drop (i + 1) given)) k
      (list_any-reverse (has_name one.name) (take i given) ∙ r)

  module _ (name : Text) (named : name ≡ one.name) where
    known_as : (known : Bool) → list_any (λ rule. bytes_eq rule.name name) rules ≡ known
        → list_any (λ rule. bytes_eq rule.name one.name) rules ≡ known
    known_as known k = ap (λ (t : Text). list_any (λ rule. bytes_eq rule.name t) rules) (sym named) ∙ k

    given_as : (repeated : Bool) → list_any (has_name name) (take i given) ≡ repeated
        → list_any (has_name one.name) (take i given) ≡ repeated
    given_as repeated r = ap (λ (t : Text). list_any (has_name t) (take i given)) (sym named) ∙ r

    -- an attribute that no rule has
    pub unknown-first : list_any (λ rule. bytes_eq rule.name name) rules ≡ false
        → Some name ≡ slice_get (unknown_or_repeated rules (reverse (take i given)) (drop i given)) 0
    unknown-first k = ap Some named ∙ sym (ap (λ (names : List Text). slice_get names 0)
        (judged false (list_any (has_name one.name) (take i given)) (known_as false k) refl))

    -- an attribute that stands before
    pub repeated-first : list_any (λ rule. bytes_eq rule.name name) rules ≡ true
        → list_any (has_name name) (take i given) ≡ true
        → Some name ≡ slice_get (unknown_or_repeated rules (reverse (take i given)) (drop i given)) 0
    repeated-first k r = ap Some named ∙ sym (ap (λ (names : List Text). slice_get names 0)
        (judged true true (known_as true k) (given_as true r)))

    -- an attribute that is neither
    pub known-next : list_any (λ rule. bytes_eq rule.name name) rules ≡ true
        → list_any (has_name name) (take i given) ≡ false
        → unknown_or_repeated rules (reverse (take i given)) (drop i given) ≡ unknown_or_repeated rules
        (reverse (take (i + 1) given)) (drop (i + 1) given)
    known-next k r =
        judged true false (known_as true k) (given_as false r)
        ∙ ap (λ (before : List Attribute). unknown_or_repeated rules before (drop (i + 1) given))
        (sym (ap reverse (take_more given i one inside) ∙ reverse-append (take i given) (get_or given i one ∷ []) ∙ ap
        (λ (a : Attribute). a ∷ reverse (take i given)) (sym is)))

-- where no attribute is unknown or repeated, the first that is missing
pub first-missing : (unknown absent : List Text) (wrong : List (FaultKind × Text)) (name : Text)
    → slice_get unknown 0 ≡ None → slice_get absent 0 ≡ Some name
    → slice_get (map (λ one. (BadAttribute, one)) (unknown ++ absent) ++ wrong) 0 ≡ Some (BadAttribute, name)
first-missing [] [] wrong name none e = absurd (cc)
first-missing [] (one ∷ more) wrong name none e = ap (λ text. Some (BadAttribute, text)) (same_Some one name e)
first-missing (one ∷ more) absent wrong name none e = absurd (cc)

-- where none is missing either, the first wrong value
pub first-wrong : (unknown absent : List Text) (wrong : List (FaultKind × Text)) → slice_get unknown 0 ≡ None
    → slice_get absent 0 ≡ None → slice_get (map (λ one. (BadAttribute, one)) (unknown ++ absent) ++ wrong) 0
    ≡ slice_get wrong 0
first-wrong [] [] wrong none absent_none = refl
first-wrong [] (one ∷ more) wrong none absent_none = absurd (cc)
first-wrong (one ∷ more) absent wrong none absent_none = absurd (cc)
