-- The index of events: what is noted for a basic event is its list.
use Rattle.std.proofs.Common.{◌≡◌, ◌≤◌, ◌<◌, ◌+◌, ◌-◌, ◌/◌, ◌%◌, ℕ, suc, zero, Bool, true, false, List, [], ◌∷◌, ◌++◌, Some, length, take, drop, get_or, eqb, cond, nat_lt, ◌&&◌, ◌||◌, refl, ap, sym, ◌∙◌, unwrap_or, arith, length-append, sub-one, add-one}
use Rattle.std.proofs.lemmas.Bool.Decides.{nat_tests}
use Rattle.std.proofs.lemmas.List.{take_all, drop_more, drop_all, append-nil, length-take}
use Rattle.std.specs.List.{slice_get, list_all}
use Rattle.psa_model.specs.declared.expanded.Expanded.{Expanded}
use Rattle.psa_model.specs.declared.expanded.ExpandedEvent.{ExpandedEvent}
use Rattle.psa_model.specs.declared.ids.EventId.{EventId}
use Rattle.psa_model.proofs.Levels.{and-left, and-right, and-both}
use Rattle.psa_model.specs.Events.{places_from, events_of, covers, is_in_subset}
use Rattle.psa_prep.specs.Index.{IsIndex, empties, ends_with, noted, Notes}
use Rattle.psa_prep.proofs.ListLemmas.{take-next, slice_get-push}

-- what the index has for a basic event
pub indexed : (expanded : Expanded) (lists : List (List ℕ)) (event : ℕ) → IsIndex expanded lists → event < length expanded.model.basics → unwrap_or (slice_get lists event) [] ≡ events_of expanded event
indexed expanded lists event index stands = ap (λ o. unwrap_or o []) (index event stands)

last-pushed : (list : List ℕ) (x : ℕ) → get_or (list ++ (x ∷ [])) (length list) 0 ≡ x
last-pushed [] x = refl
last-pushed (y ∷ ys) x = last-pushed ys x

ends-pushed : (list : List ℕ) (x : ℕ) → ends_with (list ++ (x ∷ [])) x ≡ true
ends-pushed list x =
    let size : length (list ++ (x ∷ [])) ≡ length list + 1 = length-append list (x ∷ []) in
    let at_end : length (list ++ (x ∷ [])) - 1 ≡ length list = omega arith in
    let last : get_or (list ++ (x ∷ [])) (length (list ++ (x ∷ [])) - 1) 0 ≡ x = ap (λ i. get_or (list ++ (x ∷ [])) i 0) at_end ∙ last-pushed list x in
    tested (length (list ++ (x ∷ []))) (get_or (list ++ (x ∷ [])) (length (list ++ (x ∷ [])) - 1) 0) x (omega arith) last
  where
    tested : (n a b : ℕ) → 0 < n → a ≡ b → (nat_lt 0 n && eqb a b) ≡ true
    tested n a b l e = grind (arith, nat_tests)

noted-twice-by : (b : Bool) (number : ℕ) (list : List ℕ) → ends_with list number ≡ b → noted number (cond b list (list ++ (number ∷ []))) ≡ cond b list (list ++ (number ∷ []))
noted-twice-by true number list h = rw h refl
noted-twice-by false number list h = rw (ends-pushed list number) refl

-- what is noted twice is noted once
pub noted-twice : (number : ℕ) (list : List ℕ) → noted number (noted number list) ≡ noted number list
noted-twice number list = noted-twice-by (ends_with list number) number list refl

either-noted : (a b : Bool) (number : ℕ) (list : List ℕ) → cond b (noted number (cond a (noted number list) list)) (cond a (noted number list) list) ≡ cond (a || b) (noted number list) list
either-noted true true number list = noted-twice number list
either-noted true false number list = refl
either-noted false true number list = refl
either-noted false false number list = refl

-- what is noted in two steps
pub notes-then : (number : ℕ) (f g h : ℕ → Bool) (before now after : List (List ℕ)) → Notes number f before now → Notes number g now after → ((basic : ℕ) → h basic ≡ (f basic || g basic)) → Notes number h before after
notes-then number f g h before now after first second both = record {
  size = second.size ∙ first.size;
  lists = λ basic list there.
      second.lists basic (cond (f basic) (noted number list) list) (first.lists basic list there)
      ∙ ap Some (either-noted (f basic) (g basic) number list ∙ ap (λ b. cond b (noted number list) list) (sym (both basic)));
}

-- nothing is noted
pub notes-none : (number : ℕ) (f : ℕ → Bool) (lists : List (List ℕ)) → ((basic : ℕ) → f basic ≡ false) → Notes number f lists lists
notes-none number f lists none = record { size = refl; lists = λ basic list there. there ∙ ap Some (ap (λ b. cond b (noted number list) list) (sym (none basic))) }

-- the same test
pub notes-as : (number : ℕ) (f g : ℕ → Bool) (before after : List (List ℕ)) → ((basic : ℕ) → g basic ≡ f basic) → Notes number f before after → Notes number g before after
notes-as number f g before after same notes = record {
  size = notes.size;
  lists = λ basic list there. notes.lists basic list there ∙ ap Some (ap (λ b. cond b (noted number list) list) (sym (same basic)));
}

-- The members of a subset before a place are noted, and the others are in what is left of its bits.
pub record SubsetNoted (number subset : ℕ) (members : List EventId) (i bits : ℕ) (before now : List (List ℕ)) : Type 0 where
  pub hit : ℕ → Bool
  pub notes : Notes number hit before now
  pub rest : (basic : ℕ) → is_in_subset basic subset members ≡ (hit basic || is_in_subset basic bits (drop i members))

pub subset-start : (number subset : ℕ) (members : List EventId) (lists : List (List ℕ)) → SubsetNoted number subset members 0 subset lists lists
subset-start number subset members lists = record { hit = λ basic. false; notes = notes-none number _ lists (λ basic. refl); rest = λ basic. refl }

pub subset-more : (number subset : ℕ) (members : List EventId) (i bits : ℕ) (id : EventId) (before now next : List (List ℕ)) (is_in : Bool) → i < length members → id ≡ get_or members i id → is_in ≡ eqb (bits % 2) 1 → SubsetNoted number subset members i bits before now → Notes number (λ basic. is_in && eqb id.0 basic) now next → SubsetNoted number subset members (i + 1) (bits / 2) before next
subset-more number subset members i bits id before now next is_in inside is bit so_far one = record {
  hit = λ basic. so_far.hit basic || (is_in && eqb id.0 basic);
  notes = notes-then number so_far.hit (λ basic. is_in && eqb id.0 basic) _ before now next so_far.notes one (λ basic. refl);
  rest = λ basic.
      so_far.rest basic
      ∙ ap (λ ms. so_far.hit basic || is_in_subset basic bits ms) (drop_more members i id inside ∙ ap (λ m. m ∷ drop (i + 1) members) (sym is))
      ∙ ap (λ b. so_far.hit basic || ((b && eqb id.0 basic) || is_in_subset basic (bits / 2) (drop (i + 1) members))) (sym bit)
      ∙ regroup (so_far.hit basic) (is_in && eqb id.0 basic) (is_in_subset basic (bits / 2) (drop (i + 1) members));
}
  where
    regroup : (a b c : Bool) → (a || (b || c)) ≡ ((a || b) || c)
    regroup true b c = refl
    regroup false b c = refl

pub subset-end : (number subset : ℕ) (members : List EventId) (i bits : ℕ) (before now : List (List ℕ)) → length members ≤ i → SubsetNoted number subset members i bits before now → Notes number (λ basic. is_in_subset basic subset members) before now
subset-end number subset members i bits before now past so_far =
    notes-as number so_far.hit _ before now
    (λ basic. so_far.rest basic ∙ ap (λ ms. so_far.hit basic || is_in_subset basic bits ms) (drop_all i members past) ∙ none (so_far.hit basic)) so_far.notes
  where
    none : (a : Bool) → (a || false) ≡ a
    none true = refl
    none false = refl

-- ---- all events

ends-cons : (x y : ℕ) (ys : List ℕ) (n : ℕ) → ends_with (x ∷ y ∷ ys) n ≡ ends_with (y ∷ ys) n
ends-cons x y ys n = by (nat_lt 0 (suc (suc (length ys)))) (nat_lt 0 (suc (length ys))) some some-less
  where
    some : nat_lt 0 (suc (suc (length ys))) ≡ true
    some = grind (arith, nat_tests)

    some-less : nat_lt 0 (suc (length ys)) ≡ true
    some-less = grind (arith, nat_tests)

    by : (a b : Bool) → a ≡ true → b ≡ true → (a && eqb (get_or (x ∷ y ∷ ys) (suc (suc (length ys)) - 1) 0) n) ≡ (b && eqb (get_or (y ∷ ys) (suc (length ys) - 1) 0) n)
    by true true h k = rw (sub-one, sub-one) refl
    by true false h k = absurd (cc)
    by false b h k = absurd (cc)

-- a list of smaller numbers does not end with the number
ends-below : (xs : List ℕ) (n : ℕ) → list_all (λ x. nat_lt x n) xs ≡ true → ends_with xs n ≡ false
ends-below [] n h = refl
ends-below (x ∷ []) n h = tested x n (and-left _ _ h)
  where
    tested : (a b : ℕ) → nat_lt a b ≡ true → eqb a b ≡ false
    tested a b l = grind (arith, nat_tests)
ends-below (x ∷ y ∷ ys) n h = ends-cons x y ys n ∙ ends-below (y ∷ ys) n (and-right _ _ h)

places-below-by : (p n : ℕ) (rest : List ℕ) (b : Bool) → p < n → list_all (λ x. nat_lt x n) rest ≡ true → list_all (λ x. nat_lt x n) (cond b (p ∷ rest) rest) ≡ true
places-below-by p n rest true l h = and-both _ _ (less p n l) h
  where
    less : (a b : ℕ) → a < b → nat_lt a b ≡ true
    less a b l = grind (arith, nat_tests)
places-below-by p n rest false l h = h

places-below : {A : Type 0} (test : ℕ → A → Bool) (p : ℕ) (xs : List A) (n : ℕ) → p + length xs ≤ n → list_all (λ x. nat_lt x n) (places_from test p xs) ≡ true
places-below test p [] n l = refl
places-below test p (x ∷ xs) n l = places-below-by p n (places_from test (p + 1) xs) (test p x) (omega arith) (places-below test (p + 1) xs n (omega arith))

cons-by : (b : Bool) (p : ℕ) (rest more : List ℕ) → cond b (p ∷ (rest ++ more)) (rest ++ more) ≡ cond b (p ∷ rest) rest ++ more
cons-by true p rest more = refl
cons-by false p rest more = refl

-- the places of a list and one item more
places-push : {A : Type 0} (test : ℕ → A → Bool) (p k : ℕ) (xs : List A) (x : A) → p + length xs ≡ k → places_from test p (xs ++ (x ∷ [])) ≡ places_from test p xs ++ cond (test k x) (k ∷ []) []
places-push test p k [] x e = let same : p ≡ k = omega arith in ap (λ q. cond (test q x) (q ∷ []) []) same
places-push test p k (y ∷ ys) x e =
    ap (λ rest. cond (test p y) (p ∷ rest) rest) (places-push test (p + 1) k ys x (omega arith))
    ∙ cons-by (test p y) p (places_from test (p + 1) ys) (cond (test k x) (k ∷ []) [])

abbrev hits : Expanded → ℕ → ℕ → ExpandedEvent → Bool
hits expanded basic place one = covers expanded.model basic one

-- the lists for the events before a place
pub record Indexed (expanded : Expanded) (i : ℕ) (so_far : List (List ℕ)) : Type 0 where
  pub size : length so_far ≡ length expanded.model.basics
  pub lists : (basic : ℕ) → basic < length expanded.model.basics → slice_get so_far basic ≡ Some (places_from (λ place one. covers expanded.model basic one) 0 (take i expanded.events))

noted-here : (k : ℕ) (b : Bool) (list : List ℕ) → ends_with list k ≡ false → cond b (noted k list) list ≡ list ++ cond b (k ∷ []) []
noted-here k true list new = rw new refl
noted-here k false list new = sym (append-nil list)

length-empties : (n : ℕ) → length (empties n) ≡ n
length-empties zero = refl
length-empties (suc n) = length-append (empties n) ([] ∷ []) ∙ ap (λ k. k + 1) (length-empties n) ∙ add-one n

get-empty-by : (n place : ℕ) → place < suc n → (b : Bool) → eqb place (length (empties n)) ≡ b → (place < n → slice_get (empties n) place ≡ Some []) → cond b (Some []) (slice_get (empties n) place) ≡ Some []
get-empty-by n place l true e below = refl
get-empty-by n place l false e below = let size : length (empties n) ≡ n = length-empties n in let less : place < n = grind (arith, nat_tests) in below less

get-empty : (n place : ℕ) → place < n → slice_get (empties n) place ≡ Some []
get-empty zero place l = absurd (omega arith)
get-empty (suc n) place l = slice_get-push (empties n) [] place ∙ get-empty-by n place l (eqb place (length (empties n))) refl (get-empty n place)

-- one more empty list
pub empties-more : (n : ℕ) → empties (n + 1) ≡ empties n ++ ([] ∷ [])
empties-more n = rw add-one refl

pub indexed-start : (expanded : Expanded) (lists : List (List ℕ)) → lists ≡ empties (length expanded.model.basics) → Indexed expanded 0 lists
indexed-start expanded lists empty = record {
  size = ap length empty ∙ length-empties (length expanded.model.basics);
  lists = λ basic stands. ap (λ ls. slice_get ls basic) empty ∙ get-empty (length expanded.model.basics) basic stands;
}

pub indexed-more : (expanded : Expanded) (i : ℕ) (event : ExpandedEvent) (before after : List (List ℕ)) → i < length expanded.events → event ≡ get_or expanded.events i event → Indexed expanded i before → Notes i (λ basic. covers expanded.model basic event) before after → Indexed expanded (i + 1) after
indexed-more expanded i event before after inside is so_far notes = record {
  size = notes.size ∙ so_far.size;
  lists = λ basic stands.
      let size : 0 + length (take i expanded.events) ≡ i = omega (arith, length-take i expanded.events) in
      notes.lists basic _ (so_far.lists basic stands)
      ∙ ap Some
      (noted-here i (covers expanded.model basic event) _ (ends-below _ i (places-below (hits expanded basic) 0 (take i expanded.events) i (omega arith)))
      ∙ sym (places-push (hits expanded basic) 0 i (take i expanded.events) event size)
      ∙ ap (places_from (hits expanded basic) 0) (sym (take-next expanded.events i event inside is)));
}

pub indexed-end : (expanded : Expanded) (i : ℕ) (lists : List (List ℕ)) → length expanded.events ≤ i → Indexed expanded i lists → IsIndex expanded lists
indexed-end expanded i lists past so_far basic stands =
    so_far.lists basic stands ∙ ap (λ es. Some (places_from (hits expanded basic) 0 es)) (take_all i expanded.events past)
