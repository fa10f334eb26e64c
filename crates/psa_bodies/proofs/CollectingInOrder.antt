-- What is collected one after another.
use Rattle.std.proofs.Common.{◌≡◌, ◌<◌, ◌≤◌, ◌+◌, ℕ, List, [], ◌∷◌, ◌++◌, Option, map, length, take, get_or, refl, ap, sym, ◌∙◌, subst, arith, add-zero}
use Rattle.std.specs.List.{flat_map, sum_by}
use Rattle.std.proofs.lemmas.List.{append_assoc, append-nil, map-append, length-append, take_more, take_all}
use Rattle.std.proofs.lemmas.List.Concat.{flat_map-append}
use Rattle.std.proofs.lemmas.List.Sums.{sum_by-append, sum_by-cons}
use Rattle.psa_model.specs.declared.draft.DraftFormula.{DraftFormula}
use Rattle.psa_names.specs.declared.found.Sense.{Sense}
use Rattle.psa_names.specs.Outlines.{Reference, Entry, Entries}
use Rattle.psa_names.specs.Meanings.{Meaning, meaning_of}
use Rattle.psa_names.specs.Resolved.{resolved_formula}
use Rattle.psa_names.specs.Collected.{Collecting, total_size, all_behind}
use Rattle.psa_bodies.specs.declared.numbers.Numbers.{Numbers}
use Rattle.psa_bodies.specs.declared.collected.Collected.{Collected}
use Rattle.psa_bodies.specs.Reading.{Reads}
use Rattle.psa_bodies.specs.Collecting.{Collects, listed}

-- a value that collects nothing
abbrev pub plain_value : {A : Type 0} → A → Collecting A
plain_value value = record { size = 0; behind = λ number. value }

abbrev pub mapped : {A B : Type 0} → (A → B) → Collecting A → Collecting B
mapped f one = record { size = one.size; behind = λ number. f (one.behind number) }

abbrev pub joined_by : {A B C : Type 0} → (A → B → C) → Collecting A → Collecting B → Collecting C
joined_by f one other = record { size = one.size + other.size; behind = λ number. f (one.behind number) (other.behind (number + one.size)) }

pub fewer : {A : Type 0} (n limit : ℕ) (xs ys : List A) → xs ≡ ys → n + length ys < limit → n + length xs < limit
fewer n limit xs ys same few = subst (λ zs. n + length zs < limit) (sym same) few

-- a reading alone
pub collects-read : {A : Type 0} (numbers : Numbers) (senses left : List Sense) (collected : Collected) (references : List Reference) (value : Entries → Entry → A) (made : A) → Reads numbers senses left references value made → Collects numbers senses left collected collected references [] (λ entries from. plain_value (value entries from)) made
collects-read numbers senses left collected references value made read = record {
  counted = λ few. sym (add-zero collected.next);
  is = λ entries from rest are few begins.
      let has = read.is entries from rest are begins in
      record { made_is = has.0; size = refl; rest_is = has.1; formulas_are = sym (append-nil collected.formulas) };
}

pub collects-as : {A : Type 0} (numbers : Numbers) (senses left : List Sense) (before after : Collected) (references others : List Reference) (formulas all : List DraftFormula) (value other : Entries → Entry → Collecting A) (made : A) → references ≡ others → formulas ≡ all → ((entries : Entries) (from : Entry) (number : ℕ) → (value entries from).behind number ≡ (other entries from).behind number) → ((entries : Entries) (from : Entry) → (value entries from).size ≡ (other entries from).size) → Collects numbers senses left before after references formulas value made → Collects numbers senses left before after others all other made
collects-as numbers senses left before after references others formulas all value other made same equal behind size read = record {
  counted = λ few. read.counted (fewer before.next 4294967296 formulas all equal few) ∙ ap (λ fs. before.next + length fs) equal;
  is = λ entries from rest are few begins.
      let has = read.is entries from rest are (fewer before.next 4294967296 formulas all equal few) (begins ∙ ap (λ rs. map (meaning_of entries from) rs ++ rest) (sym same)) in
      record {
        made_is = has.made_is ∙ behind entries from before.next;
        size = sym (size entries from) ∙ has.size ∙ ap length equal;
        rest_is = has.rest_is;
        formulas_are = has.formulas_are ∙ ap (λ fs. before.formulas ++ map (resolved_formula entries from) fs) equal;
      };
}

pub collects-map : {A B : Type 0} (numbers : Numbers) (senses left : List Sense) (before after : Collected) (references : List Reference) (formulas : List DraftFormula) (value : Entries → Entry → Collecting A) (made : A) (f : A → B) → Collects numbers senses left before after references formulas value made → Collects numbers senses left before after references formulas (λ entries from. mapped f (value entries from)) (f made)
collects-map numbers senses left before after references formulas value made f read = record {
  counted = read.counted;
  is = λ entries from rest are few begins.
      let has = read.is entries from rest are few begins in
      record { made_is = ap f has.made_is; size = has.size; rest_is = has.rest_is; formulas_are = has.formulas_are };
}

split-meanings : (entries : Entries) (from : Entry) (references others : List Reference) (rest : List (Option Meaning)) → map (meaning_of entries from) (references ++ others) ++ rest ≡ map (meaning_of entries from) references ++ (map (meaning_of entries from) others ++ rest)
split-meanings entries from references others rest =
    ap (λ ms. ms ++ rest) (map-append (meaning_of entries from) references others) ∙ append_assoc (map (meaning_of entries from) references) (map (meaning_of entries from) others) rest

pub collects-then : {A B C : Type 0} (numbers : Numbers) (senses between left : List Sense) (before middle after : Collected) (references others : List Reference) (formulas more : List DraftFormula) (value : Entries → Entry → Collecting A) (other : Entries → Entry → Collecting B) (made : A) (next : B) (f : A → B → C) → Collects numbers senses between before middle references formulas value made → Collects numbers between left middle after others more other next → Collects numbers senses left before after (references ++ others) (formulas ++ more) (λ entries from. joined_by f (value entries from) (other entries from)) (f made next)
collects-then numbers senses between left before middle after references others formulas more value other made next f first second = record {
  counted = λ few.
      let c = length-append formulas more in
      let a = first.counted (omega (arith, few, c)) in
      let b = second.counted (omega (arith, few, a, c)) in
      omega (arith, a, b, c);
  is = λ entries from rest are few begins.
      let long = length-append formulas more in
      let count = first.counted (omega (arith, few, long)) in
      let one = first.is entries from (map (meaning_of entries from) others ++ rest) are (omega (arith, few, long)) (begins ∙ split-meanings entries from references others rest) in
      let two = second.is entries from rest are (omega (arith, few, long, count)) one.rest_is in
      let here : middle.next ≡ before.next + (value entries from).size = count ∙ ap (λ m. before.next + m) (sym one.size) in
      record {
        made_is = ap (λ a. f a next) one.made_is ∙ ap (f ((value entries from).behind before.next)) (two.made_is ∙ ap (other entries from).behind here);
        size =
            let a = one.size in
            let b = two.size in
            let c = length-append formulas more in
            omega (arith, a, b, c);
        rest_is = two.rest_is;
        formulas_are =
            two.formulas_are ∙ ap (λ fs. fs ++ map (resolved_formula entries from) more) one.formulas_are
            ∙ append_assoc before.formulas (map (resolved_formula entries from) formulas) (map (resolved_formula entries from) more)
            ∙ ap (λ fs. before.formulas ++ fs) (sym (map-append (resolved_formula entries from) formulas more));
      };
}

pub collects-after : {A B C : Type 0} (numbers : Numbers) (senses between left : List Sense) (before after : Collected) (references others : List Reference) (formulas : List DraftFormula) (value : Entries → Entry → A) (other : Entries → Entry → Collecting B) (made : A) (next : B) (f : A → B → C) → Reads numbers senses between references value made → Collects numbers between left before after others formulas other next → Collects numbers senses left before after (references ++ others) formulas (λ entries from. mapped (f (value entries from)) (other entries from)) (f made next)
collects-after numbers senses between left before after references others formulas value other made next f first second = record {
  counted = second.counted;
  is = λ entries from rest are few begins.
      let one = first.is entries from (map (meaning_of entries from) others ++ rest) are (begins ∙ split-meanings entries from references others rest) in
      let two = second.is entries from rest are few one.1 in
      record {
        made_is = ap (λ a. f a next) one.0 ∙ ap (f (value entries from)) two.made_is;
        size = two.size;
        rest_is = two.rest_is;
        formulas_are = two.formulas_are;
      };
}

-- ---- lists

pub all_behind-append : {A : Type 0} (n : ℕ) (xs ys : List (Collecting A)) → all_behind n (xs ++ ys) ≡ all_behind n xs ++ all_behind (n + total_size xs) ys
all_behind-append n [] ys = ap (λ m. all_behind m ys) (sym (add-zero n))
all_behind-append n (x ∷ xs) ys =
    let total = sum_by-cons (λ (m : ℕ). m) x.size (map (λ one. one.size) xs) in
    let here : (n + x.size) + total_size xs ≡ n + total_size (x ∷ xs) = omega (arith, total) in
    ap (λ zs. x.behind n ∷ zs) (all_behind-append (n + x.size) xs ys ∙ ap (λ m. all_behind (n + x.size) xs ++ all_behind m ys) here)

pub total_size-append : {A : Type 0} (xs ys : List (Collecting A)) → total_size (xs ++ ys) ≡ total_size xs + total_size ys
total_size-append xs ys = ap (sum_by (λ (m : ℕ). m)) (map-append (λ one. one.size) xs ys) ∙ sum_by-append (λ (m : ℕ). m) (map (λ one. one.size) xs) (map (λ one. one.size) ys)

pub collects-none : {X A : Type 0} (numbers : Numbers) (senses : List Sense) (collected : Collected) (value : Entries → Entry → X → Collecting A) (made : List A) → made ≡ [] → Collects numbers senses senses collected collected [] [] (λ entries from. listed (map (value entries from) [])) made
collects-none numbers senses collected value made none = record {
  counted = λ few. sym (add-zero collected.next);
  is = λ entries from rest are few begins. record { made_is = none; size = refl; rest_is = begins; formulas_are = sym (append-nil collected.formulas) };
}

pub collects-more : {X A : Type 0} (numbers : Numbers) (senses between left : List Sense) (before middle after : Collected) (references : X → List Reference) (formulas : X → List DraftFormula) (value : Entries → Entry → X → Collecting A) (xs : List X) (i : ℕ) (x : X) (made more : List A) (a : A) → i < length xs → x ≡ get_or xs i x → Collects numbers senses between before middle (flat_map references (take i xs)) (flat_map formulas (take i xs)) (λ entries from. listed (map (value entries from) (take i xs))) made → Collects numbers between left middle after (references x) (formulas x) (λ entries from. value entries from x) a → more ≡ made ++ a ∷ [] → Collects numbers senses left before after (flat_map references (take (i + 1) xs)) (flat_map formulas (take (i + 1) xs)) (λ entries from. listed (map (value entries from) (take (i + 1) xs))) more
collects-more {X} {A} numbers senses between left before middle after references formulas value xs i x made more a inside is first one pushed =
    let longer : take (i + 1) xs ≡ take i xs ++ x ∷ [] = take_more xs i x inside ∙ ap (λ y. take i xs ++ y ∷ []) (sym is) in
    let both = collects-then numbers senses between left before middle after (flat_map references (take i xs)) (references x) (flat_map formulas (take i xs)) (formulas x) (λ entries from. listed (map (value entries from) (take i xs))) (λ entries from. value entries from x) made a (λ ys y. ys ++ y ∷ []) first one in
    subst (λ ys. Collects numbers senses left before after (flat_map references (take (i + 1) xs)) (flat_map formulas (take (i + 1) xs)) (λ entries from. listed (map (value entries from) (take (i + 1) xs))) ys) (sym pushed)
    (collects-as numbers senses left before after (flat_map references (take i xs) ++ references x) (flat_map references (take (i + 1) xs)) (flat_map formulas (take i xs) ++ formulas x) (flat_map formulas (take (i + 1) xs)) (λ entries from. joined_by (λ ys y. ys ++ y ∷ []) (listed (map (value entries from) (take i xs))) (value entries from x)) (λ entries from. listed (map (value entries from) (take (i + 1) xs))) (made ++ a ∷ [])
    (pieces references longer) (pieces formulas longer)
    (λ entries from number.
    sym (ap (λ ys. all_behind number (map (value entries from) ys)) longer ∙ ap (all_behind number) (map-append (value entries from) (take i xs) (x ∷ [])) ∙ all_behind-append number (map (value entries from) (take i xs)) (value entries from x ∷ [])))
    (λ entries from.
    sym (ap (λ ys. total_size (map (value entries from) ys)) longer ∙ ap total_size (map-append (value entries from) (take i xs) (x ∷ [])) ∙ total_size-append (map (value entries from) (take i xs)) (value entries from x ∷ []) ∙ ap (λ m. total_size (map (value entries from) (take i xs)) + m) (one-size (value entries from x))))
    both)
  where
    one-size : (one : Collecting A) → total_size (one ∷ []) ≡ one.size
    one-size one = sum_by-cons (λ (m : ℕ). m) one.size [] ∙ add-zero one.size

    pieces : {B : Type 0} (f : X → List B) → take (i + 1) xs ≡ take i xs ++ x ∷ [] → flat_map f (take i xs) ++ f x ≡ flat_map f (take (i + 1) xs)
    pieces f longer =
        ap (λ rs. flat_map f (take i xs) ++ rs) (sym (append-nil (f x))) ∙ sym (flat_map-append f (take i xs) (x ∷ [])) ∙ ap (flat_map f) (sym longer)

pub collects-all : {X A : Type 0} (numbers : Numbers) (senses left : List Sense) (before after : Collected) (references : X → List Reference) (formulas : X → List DraftFormula) (value : Entries → Entry → X → Collecting A) (xs : List X) (i : ℕ) (made : List A) → length xs ≤ i → Collects numbers senses left before after (flat_map references (take i xs)) (flat_map formulas (take i xs)) (λ entries from. listed (map (value entries from) (take i xs))) made → Collects numbers senses left before after (flat_map references xs) (flat_map formulas xs) (λ entries from. listed (map (value entries from) xs)) made
collects-all numbers senses left before after references formulas value xs i made past read =
    subst (λ ys. Collects numbers senses left before after (flat_map references ys) (flat_map formulas ys) (λ entries from. listed (map (value entries from) ys)) made) (take_all i xs past) read
