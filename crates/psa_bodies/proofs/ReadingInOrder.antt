-- Readings one after another.
use Rattle.std.proofs.Common.{◌≡◌, ◌<◌, ◌≤◌, ◌+◌, ℕ, List, [], ◌∷◌, ◌++◌, map, length, take, get_or, refl, ap, sym, ◌∙◌, subst}
use Rattle.std.specs.List.{flat_map}
use Rattle.std.proofs.lemmas.List.{append_assoc, append-nil, map-append, take_more, take_all}
use Rattle.std.proofs.lemmas.List.Concat.{flat_map-append}
use Rattle.psa_names.specs.declared.found.Sense.{Sense}
use Rattle.psa_names.specs.Outlines.{Outline, joined, Reference, Entry, Entries}
use Rattle.psa_names.specs.Meanings.{meaning_of}
use Rattle.psa_names.specs.Chains.{references_in, references_in_all}
use Rattle.psa_bodies.specs.declared.numbers.Numbers.{Numbers}
use Rattle.psa_bodies.specs.Reading.{Reads}

-- nothing is read
pub reads-none : {A : Type 0} (numbers : Numbers) (senses : List Sense) (value : Entries → Entry → A) (made : A) → ((entries : Entries) (from : Entry) → made ≡ value entries from) → Reads numbers senses senses [] value made
reads-none numbers senses value made same = record { is = λ entries from rest are begins. (same entries from, begins) }

-- the same read of references and by a value that are equal
pub reads-as : {A : Type 0} (numbers : Numbers) (senses left : List Sense) (references others : List Reference) (value other : Entries → Entry → A) (made : A) → references ≡ others → ((entries : Entries) (from : Entry) → value entries from ≡ other entries from) → Reads numbers senses left references value made → Reads numbers senses left others other made
reads-as numbers senses left references others value other made same equal read = record {
  is = λ entries from rest are begins.
      let has = read.is entries from rest are (begins ∙ ap (λ rs. map (meaning_of entries from) rs ++ rest) (sym same)) in
      (has.0 ∙ equal entries from, has.1);
}

-- a function of what is read
pub reads-map : {A B : Type 0} (numbers : Numbers) (senses left : List Sense) (references : List Reference) (value : Entries → Entry → A) (made : A) (f : A → B) → Reads numbers senses left references value made → Reads numbers senses left references (λ entries from. f (value entries from)) (f made)
reads-map numbers senses left references value made f read = record {
  is = λ entries from rest are begins. let has = read.is entries from rest are begins in (ap f has.0, has.1);
}

-- one reading and then another
pub reads-then : {A B C : Type 0} (numbers : Numbers) (senses between left : List Sense) (references others : List Reference) (value : Entries → Entry → A) (other : Entries → Entry → B) (made : A) (more : B) (f : A → B → C) → Reads numbers senses between references value made → Reads numbers between left others other more → Reads numbers senses left (references ++ others) (λ entries from. f (value entries from) (other entries from)) (f made more)
reads-then numbers senses between left references others value other made more f read next = record {
  is = λ entries from rest are begins.
      let split = ap (λ ms. ms ++ rest) (map-append (meaning_of entries from) references others) ∙ append_assoc (map (meaning_of entries from) references) (map (meaning_of entries from) others) rest in
      let first = read.is entries from (map (meaning_of entries from) others ++ rest) are (begins ∙ split) in
      let second = next.is entries from rest are first.1 in
      (ap (λ a. f a more) first.0 ∙ ap (λ b. f (value entries from) b) second.0, second.1);
}

-- one more of a list
pub reads-more : {X A : Type 0} (numbers : Numbers) (senses between left : List Sense) (references : X → List Reference) (value : Entries → Entry → X → A) (xs : List X) (i : ℕ) (x : X) (made more : List A) (a : A) → i < length xs → x ≡ get_or xs i x → Reads numbers senses between (flat_map references (take i xs)) (λ entries from. map (value entries from) (take i xs)) made → Reads numbers between left (references x) (λ entries from. value entries from x) a → more ≡ made ++ a ∷ [] → Reads numbers senses left (flat_map references (take (i + 1) xs)) (λ entries from. map (value entries from) (take (i + 1) xs)) more
reads-more numbers senses between left references value xs i x made more a inside is before one pushed =
    let longer : take (i + 1) xs ≡ take i xs ++ x ∷ [] = take_more xs i x inside ∙ ap (λ y. take i xs ++ y ∷ []) (sym is) in
    let both = reads-then numbers senses between left (flat_map references (take i xs)) (references x) (λ entries from. map (value entries from) (take i xs)) (λ entries from. value entries from x) made a (λ ys y. ys ++ y ∷ []) before one in
    subst (λ ys. Reads numbers senses left (flat_map references (take (i + 1) xs)) (λ entries from. map (value entries from) (take (i + 1) xs)) ys) (sym pushed)
    (reads-as numbers senses left (flat_map references (take i xs) ++ references x) (flat_map references (take (i + 1) xs)) (λ entries from. map (value entries from) (take i xs) ++ value entries from x ∷ []) (λ entries from. map (value entries from) (take (i + 1) xs)) (made ++ a ∷ [])
    (ap (λ rs. flat_map references (take i xs) ++ rs) (sym (append-nil (references x))) ∙ sym (flat_map-append references (take i xs) (x ∷ [])) ∙ ap (flat_map references) (sym longer))
    (λ entries from. sym (map-append (value entries from) (take i xs) (x ∷ [])) ∙ ap (map (value entries from)) (sym longer))
    both)

-- the whole list
pub reads-all : {X A : Type 0} (numbers : Numbers) (senses left : List Sense) (references : X → List Reference) (value : Entries → Entry → X → A) (xs : List X) (i : ℕ) (made : List A) → length xs ≤ i → Reads numbers senses left (flat_map references (take i xs)) (λ entries from. map (value entries from) (take i xs)) made → Reads numbers senses left (flat_map references xs) (λ entries from. map (value entries from) xs) made
reads-all numbers senses left references value xs i made past read =
    reads-as numbers senses left (flat_map references (take i xs)) (flat_map references xs) (λ entries from. map (value entries from) (take i xs)) (λ entries from. map (value entries from) xs) made
    (ap (flat_map references) (take_all i xs past)) (λ entries from. ap (map (value entries from)) (take_all i xs past)) read

-- the references in elements that stand beside each other
pub references-joined : (outlines : List Outline) → references_in_all (joined outlines) ≡ flat_map references_in outlines
references-joined [] = refl
references-joined (one ∷ others) = ap (λ rs. references_in one ++ rs) (references-joined others)

pub flat_map-map : {X Y A : Type 0} (f : Y → List A) (g : X → Y) (xs : List X) → flat_map f (map g xs) ≡ flat_map (λ x. f (g x)) xs
flat_map-map f g [] = refl
flat_map-map f g (x ∷ xs) = ap (λ ys. f (g x) ++ ys) (flat_map-map f g xs)

-- those in elements made of a list
pub references-inside : {X : Type 0} (outline : X → Outline) (xs : List X) → references_in_all (joined (map outline xs)) ≡ flat_map (λ x. references_in (outline x)) xs
references-inside outline xs = references-joined (map outline xs) ∙ flat_map-map references_in outline xs
