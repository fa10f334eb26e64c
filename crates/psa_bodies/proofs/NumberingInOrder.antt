-- Definitions numbered in document order.
use Rattle.std.proofs.Common.{◌≡◌, ◌≤◌, ◌+◌, ℕ, zero, suc, Bool, true, false, List, [], ◌∷◌, ◌++◌, ◌⊎◌, Option, Some, None, map, length, take, drop, get_or, refl, ap, sym, ◌∙◌, subst, inl, inr, arith, eqb, if◌then◌else◌, add-zero, zero-add}
use Rattle.std.proofs.lemmas.Bool.{or_parts, and_parts, cases_Bool, eq-eqb, ne_eqb, eqb-true, false≢true}
use Rattle.std.proofs.lemmas.List.{append_assoc, append-nil, map-append, length-append, length-map, take-map, take_at, drop-map, drop_at}
use Rattle.std.proofs.lemmas.List.Concat.{flat_map-append}
use Rattle.std.proofs.lemmas.List.Sums.{sum_by-append, sum_by-cons}
use Rattle.std.specs.List.{slice_get, enumerate_from, filter, flat_map, list_any, list_all, position, range_with_len, sum_by}
use Rattle.std.specs.Option.{unwrap_or, option_map}
use Rattle.psa_model.specs.PathNames.{Text}
use Rattle.psa_model.specs.Drafts.{has_body, member_count}
use Rattle.psa_model.specs.declared.draft.DefinitionKind.{DefinitionKind}
use Rattle.psa_model.specs.declared.draft.DefinitionKind.TheVariants as kind
use Rattle.psa_model.specs.declared.draft.DraftBody.{DraftBody}
use Rattle.psa_model.specs.declared.draft.DraftBody.TheVariants as body
use Rattle.psa_model.specs.declared.limits.TheConstants.{MAX_SIZE}
use Rattle.psa_names.specs.declared.found.Sense.{Sense}
use Rattle.psa_names.specs.declared.found.Sense.TheVariants.{Definition, OfGroup}
use Rattle.psa_names.specs.Outlines.{Entry, Entries}
use Rattle.psa_names.specs.NameSpaces.{groups, same_family, family_of, is_in_family}
use Rattle.psa_names.specs.Meanings.{definition, of_group, members_of, defined_by_group}
use Rattle.psa_names.specs.GroupRules.{same_meaning, meanings_of_members, can_be_member}
use Rattle.psa_names.specs.Found.{meaning_of_sense, defined_by_groups}
use Rattle.psa_names.specs.Ids.{kind_number, is_kind, basics_at, all_basics, basic_id}
use Rattle.psa_bodies.specs.declared.numbers.Numbered.{Numbered}
use Rattle.psa_bodies.specs.Counts.{Counted, group_senses}
use Rattle.psa_bodies.specs.Numbering.{own_id, numbered}
use Rattle.psa_bodies.proofs.NumberedDefinitions.{position-at, any-append, not-among, not-among-basics, kinds-same, IsOther}
use Rattle.psa_bodies.proofs.GroupEvents.{Allowed, is_group_meaning, group-meanings, apart-in-group, apart-from-other, group_meaning, same-bytes}

-- ---- lists

pub split-places : {A : Type 0} (n i : ℕ) (xs : List A) (d : A) (ys : List A) → n + length xs ≡ i → enumerate_from n (xs ++ d ∷ ys) ≡ enumerate_from n xs ++ (i, d) ∷ enumerate_from (i + 1) ys
split-places n i [] d ys is = let same : n ≡ i = omega (arith, is) in ap (λ m. (m, d) ∷ enumerate_from (m + 1) ys) same
split-places n i (x ∷ xs) d ys is = ap (λ zs. (n, x) ∷ zs) (split-places (n + 1) i xs d ys (omega (arith, is)))

split-list-suc : {A : Type 0} (xs : List A) (i : ℕ) (x : A) → slice_get xs i ≡ Some x → xs ≡ take i xs ++ x ∷ drop (suc i) xs
split-list-suc [] i x there = absurd (let h : None ≡ Some x = there in cc)
split-list-suc (y ∷ ys) zero x there = let h : Some y ≡ Some x = there in let e : y ≡ x = cc in ap (λ z. z ∷ ys) e
split-list-suc (y ∷ ys) (suc i) x there = ap (λ zs. y ∷ zs) (split-list-suc ys i x there)

pub split-list : {A : Type 0} (xs : List A) (i : ℕ) (x : A) → slice_get xs i ≡ Some x → xs ≡ take i xs ++ x ∷ drop (i + 1) xs
split-list xs i x there = let one-more : suc i ≡ i + 1 = omega arith in split-list-suc xs i x there ∙ ap (λ m. take i xs ++ x ∷ drop m xs) one-more

take-next-suc : {A : Type 0} (xs : List A) (i : ℕ) (x : A) → slice_get xs i ≡ Some x → take (suc i) xs ≡ take i xs ++ x ∷ []
take-next-suc [] i x there = absurd (let h : None ≡ Some x = there in cc)
take-next-suc (y ∷ ys) zero x there = let h : Some y ≡ Some x = there in let e : y ≡ x = cc in ap (λ z. z ∷ []) e
take-next-suc (y ∷ ys) (suc i) x there = ap (λ zs. y ∷ zs) (take-next-suc ys i x there)

pub take-next : {A : Type 0} (xs : List A) (i : ℕ) (x : A) → slice_get xs i ≡ Some x → take (i + 1) xs ≡ take i xs ++ x ∷ []
take-next xs i x there = let one-more : i + 1 ≡ suc i = omega arith in ap (λ m. take m xs) one-more ∙ take-next-suc xs i x there

drop-next-suc : {A : Type 0} (xs : List A) (i : ℕ) (x : A) → slice_get xs i ≡ Some x → drop i xs ≡ x ∷ drop (suc i) xs
drop-next-suc [] i x there = absurd (let h : None ≡ Some x = there in cc)
drop-next-suc (y ∷ ys) zero x there = let h : Some y ≡ Some x = there in let e : y ≡ x = cc in ap (λ z. z ∷ ys) e
drop-next-suc (y ∷ ys) (suc i) x there = drop-next-suc ys i x there

pub drop-next : {A : Type 0} (xs : List A) (i : ℕ) (x : A) → slice_get xs i ≡ Some x → drop i xs ≡ x ∷ drop (i + 1) xs
drop-next xs i x there = let one-more : suc i ≡ i + 1 = omega arith in drop-next-suc xs i x there ∙ ap (λ m. x ∷ drop m xs) one-more

pub length-before : {A : Type 0} (xs : List A) (i : ℕ) (x : A) → slice_get xs i ≡ Some x → length (take i xs) ≡ i
length-before [] i x there = absurd (let h : None ≡ Some x = there in cc)
length-before (y ∷ ys) zero x there = refl
length-before (y ∷ ys) (suc i) x there = ap suc (length-before ys i x there)

get-before : {A : Type 0} (xs : List A) (i k : ℕ) (x : A) → slice_get (take i xs) k ≡ Some x → slice_get xs k ≡ Some x
get-before xs zero k x there = absurd (let h : None ≡ Some x = there in cc)
get-before [] (suc i) k x there = there
get-before (y ∷ ys) (suc i) zero x there = there
get-before (y ∷ ys) (suc i) (suc k) x there = get-before ys i k x there

none-past : {A : Type 0} (xs : List A) (i k : ℕ) (x : A) → slice_get (take i xs) k ≡ Some x → k ≡ i → ⊥
none-past xs zero k x there is = let h : None ≡ Some x = there in cc
none-past [] (suc i) k x there is = let h : None ≡ Some x = there in cc
none-past (y ∷ ys) (suc i) zero x there is = omega (arith, is)
none-past (y ∷ ys) (suc i) (suc k) x there is = none-past ys i k x there (omega (arith, is))

none-there : {A : Type 0} (p : A → Bool) (xs : List A) (k : ℕ) (x : A) → list_any p xs ≡ false → slice_get xs k ≡ Some x → p x ≡ false
none-there p [] k x none there = absurd (let h : None ≡ Some x = there in cc)
none-there p (y ∷ ys) zero x none there = let h : Some y ≡ Some x = there in let e : y ≡ x = cc in subst (λ z. p z ≡ false) e (or_parts (p y) _ none).0
none-there p (y ∷ ys) (suc k) x none there = none-there p ys k x (or_parts (p y) _ none).1 there

pub filter-append : {A : Type 0} (p : A → Bool) (xs ys : List A) → filter p (xs ++ ys) ≡ filter p xs ++ filter p ys
filter-append p [] ys = refl
filter-append p (x ∷ xs) ys = elim (cases_Bool (p x)) [ inl is ↦ rw is (ap (λ zs. x ∷ zs) (filter-append p xs ys)) | inr isnt ↦ rw isnt (filter-append p xs ys) ]

pub length-filter-le : {A : Type 0} (p : A → Bool) (xs : List A) → length (filter p xs) ≤ length xs
length-filter-le p [] = omega arith
length-filter-le p (x ∷ xs) =
    let rest = length-filter-le p xs in
    elim (cases_Bool (p x)) [ inl is ↦ rw is (omega (arith, rest)) | inr isnt ↦ rw isnt (omega (arith, rest)) ]

mapped-few : {A B : Type 0} (f : A → B) (p : A → Bool) (xs : List A) → length (map f (filter p xs)) ≤ length xs
mapped-few f p xs = let a = length-map (filter p xs) f in let b = length-filter-le p xs in omega (arith, a, b)

-- ---- kinds and bodies

pub group-or-none : (k : DefinitionKind) (b : DraftBody) → has_body k b ≡ true → (eqb (kind_number k) 5 ≡ true) ⊎ (members_of b ≡ [])
group-or-none k body.Nothing is = inr refl
group-or-none k (body.Formula f) is = inr refl
group-or-none k (body.Value v) is = inr refl
group-or-none k (body.State s) is = inr refl
group-or-none kind.Group (body.Group g) is = inl refl
group-or-none kind.FaultTree (body.Group g) is = absurd (false≢true is)
group-or-none kind.Gate (body.Group g) is = absurd (false≢true is)
group-or-none kind.BasicEvent (body.Group g) is = absurd (false≢true is)
group-or-none kind.HouseEvent (body.Group g) is = absurd (false≢true is)
group-or-none kind.Parameter (body.Group g) is = absurd (false≢true is)
group-or-none kind.InitiatingEvent (body.Group g) is = absurd (false≢true is)
group-or-none kind.EventTree (body.Group g) is = absurd (false≢true is)
group-or-none kind.FunctionalEvent (body.Group g) is = absurd (false≢true is)
group-or-none kind.Sequence (body.Group g) is = absurd (false≢true is)
group-or-none kind.Branch (body.Group g) is = absurd (false≢true is)
group-or-none kind.Rule (body.Group g) is = absurd (false≢true is)
group-or-none kind.Component (body.Group g) is = absurd (false≢true is)
group-or-none k (body.Start t) is = inr refl
group-or-none k (body.Steps i l) is = inr refl
group-or-none k (body.Walk w) is = inr refl

members-counted : (b : DraftBody) → member_count b ≡ length (members_of b)
members-counted body.Nothing = refl
members-counted (body.Formula f) = refl
members-counted (body.Value v) = refl
members-counted (body.State s) = refl
members-counted (body.Group g) = refl
members-counted (body.Start t) = refl
members-counted (body.Steps i l) = refl
members-counted (body.Walk w) = refl

pub group-family : (k : DefinitionKind) (one : Entry) → one.kind ≡ k → eqb (kind_number k) 5 ≡ true → is_in_family groups one ≡ true
group-family kind.Group one same is = ap (λ i. same_family (family_of i) groups) same
group-family kind.FaultTree one same is = absurd (false≢true is)
group-family kind.Gate one same is = absurd (false≢true is)
group-family kind.BasicEvent one same is = absurd (false≢true is)
group-family kind.HouseEvent one same is = absurd (false≢true is)
group-family kind.Parameter one same is = absurd (false≢true is)
group-family kind.InitiatingEvent one same is = absurd (false≢true is)
group-family kind.EventTree one same is = absurd (false≢true is)
group-family kind.FunctionalEvent one same is = absurd (false≢true is)
group-family kind.Sequence one same is = absurd (false≢true is)
group-family kind.Branch one same is = absurd (false≢true is)
group-family kind.Rule one same is = absurd (false≢true is)
group-family kind.Component one same is = absurd (false≢true is)

nothing-defined : (entries : Entries) (one : Entry) → members_of one.body ≡ [] → defined_by_group entries one ≡ []
nothing-defined entries one none = rw none refl

defined-few : (entries : Entries) (one : Entry) → length (defined_by_group entries one) ≤ member_count one.body
defined-few entries one =
    let kept : length (defined_by_group entries one) ≤ length (members_of one.body) = mapped-few _ _ (members_of one.body) in
    let counted = members-counted one.body in
    omega (arith, kept, counted)

length-basics : (entries : Entries) (n : ℕ) (one : Entry) → has_body one.kind one.body ≡ true → length (basics_at entries (n, one)) ≡ (if eqb (kind_number one.kind) 2 then 1 else 0) + length (defined_by_group entries one)
length-basics entries n one has =
    elim (group-or-none one.kind one.body has) [
      | inl group ↦ let k : one.kind ≡ kind.Group = kinds-same one.kind kind.Group group in
          let isnt : eqb (kind_number one.kind) 2 ≡ false = ap (λ i. eqb (kind_number i) 2) k in
          rw (isnt, group) (length-map (defined_by_group entries one) of_group ∙ sym (zero-add (length (defined_by_group entries one))))
      | inr none ↦ let empty = nothing-defined entries one none in
          elim (cases_Bool (eqb (kind_number one.kind) 2)) [
            | inl basic ↦ rw (basic, empty) refl
            | inr other ↦ elim (cases_Bool (eqb (kind_number one.kind) 5)) [ inl group ↦ rw (other, group, empty) refl | inr neither ↦ rw (other, neither, empty) refl ]
          ]
    ]

-- ---- counts

abbrev pub done : Entries → ℕ → List (ℕ × Entry)
done entries i = enumerate_from 0 (take i entries)

abbrev pub count_of : Entries → ℕ → List (ℕ × Entry) → ℕ
count_of entries k all =
    if eqb 2 k then length (flat_map (basics_at entries) all)
    else length (filter (λ (one : ℕ × Entry). eqb (kind_number one.1.kind) k) all)

-- definitions and group members
abbrev pub weight : Entries → ℕ
weight xs = length xs + sum_by (λ one. member_count one.body) xs

weight-append : (xs ys : Entries) → weight (xs ++ ys) ≡ weight xs + weight ys
weight-append xs ys =
    let a = length-append xs ys in
    let b = sum_by-append (λ (one : Entry). member_count one.body) xs ys in
    omega (arith, a, b)

count-one : (entries : Entries) (k n : ℕ) (one : Entry) (all : List (ℕ × Entry)) → has_body one.kind one.body ≡ true → count_of entries k ((n, one) ∷ all) ≡ ((if eqb (kind_number one.kind) k then 1 else 0) + (if eqb 2 k then length (defined_by_group entries one) else 0)) + count_of entries k all
count-one entries k n one all has =
    elim (cases_Bool (eqb 2 k)) [
      | inl is ↦ let same : 2 ≡ k = eqb-true 2 k is in
          let here : length (basics_at entries (n, one)) ≡ (if eqb (kind_number one.kind) k then 1 else 0) + length (defined_by_group entries one) = subst (λ j. length (basics_at entries (n, one)) ≡ (if eqb (kind_number one.kind) j then 1 else 0) + length (defined_by_group entries one)) same (length-basics entries n one has) in
          rw is (length-append (basics_at entries (n, one)) (flat_map (basics_at entries) all) ∙ ap (λ m. m + length (flat_map (basics_at entries) all)) here)
      | inr isnt ↦ rw isnt (elim (cases_Bool (eqb (kind_number one.kind) k)) [ inl its ↦ rw its (omega arith) | inr other ↦ rw other (omega arith) ])
    ]

count-bound : (entries : Entries) (k n : ℕ) (xs : Entries) → ((j : ℕ) (x : Entry) → slice_get xs j ≡ Some x → has_body x.kind x.body ≡ true) → count_of entries k (enumerate_from n xs) ≤ weight xs
count-bound entries k n [] bodies = elim (cases_Bool (eqb 2 k)) [ inl is ↦ rw is (omega arith) | inr isnt ↦ rw isnt (omega arith) ]
count-bound entries k n (x ∷ xs) bodies =
    let rest : count_of entries k (enumerate_from (n + 1) xs) ≤ weight xs = count-bound entries k (n + 1) xs (λ j y there. bodies (suc j) y there) in
    let first = count-one entries k n x (enumerate_from (n + 1) xs) (bodies 0 x refl) in
    let few = defined-few entries x in
    let total = sum_by-cons (λ (one : Entry). member_count one.body) x xs in
    let a : (if eqb (kind_number x.kind) k then 1 else 0) ≤ 1 = at-most (eqb (kind_number x.kind) k) 1 1 (omega arith) in
    let b : (if eqb 2 k then length (defined_by_group entries x) else 0) ≤ member_count x.body = at-most (eqb 2 k) _ _ few in
    omega (arith, rest, first, total, a, b)
  where
    at-most : (b : Bool) (m limit : ℕ) → m ≤ limit → (if b then m else 0) ≤ limit
    at-most true m limit l = l
    at-most false m limit l = omega arith

count-more : (entries : Entries) (k i : ℕ) (one : Entry) → has_body one.kind one.body ≡ true → slice_get entries i ≡ Some one → count_of entries k (done entries (i + 1)) ≡ count_of entries k (done entries i) + ((if eqb (kind_number one.kind) k then 1 else 0) + (if eqb 2 k then length (defined_by_group entries one) else 0))
count-more entries k i one has there =
    ap (count_of entries k) (ap (enumerate_from 0) (take-next entries i one there) ∙ split-places 0 i (take i entries) one [] (zero-add _ ∙ length-before entries i one there))
    ∙ pushed (done entries i)
  where
    last : count_of entries k ((i, one) ∷ []) ≡ (if eqb (kind_number one.kind) k then 1 else 0) + (if eqb 2 k then length (defined_by_group entries one) else 0)
    last = count-one entries k i one [] has ∙ elim (cases_Bool (eqb 2 k)) [ inl is ↦ rw is (omega arith) | inr isnt ↦ rw isnt (omega arith) ]

    pushed : (all : List (ℕ × Entry)) → count_of entries k (all ++ (i, one) ∷ []) ≡ count_of entries k all + ((if eqb (kind_number one.kind) k then 1 else 0) + (if eqb 2 k then length (defined_by_group entries one) else 0))
    pushed all = both all ∙ ap (λ m. count_of entries k all + m) last
      where
        both : (all : List (ℕ × Entry)) → count_of entries k (all ++ (i, one) ∷ []) ≡ count_of entries k all + count_of entries k ((i, one) ∷ [])
        both all = elim (cases_Bool (eqb 2 k)) [
          | inl is ↦ rw is (ap length (flat_map-append (basics_at entries) all ((i, one) ∷ [])) ∙ length-append (flat_map (basics_at entries) all) (flat_map (basics_at entries) ((i, one) ∷ [])))
          | inr isnt ↦ rw isnt (ap length (filter-append (λ (e : ℕ × Entry). eqb (kind_number e.1.kind) k) all ((i, one) ∷ [])) ∙ length-append (filter (λ (e : ℕ × Entry). eqb (kind_number e.1.kind) k) all) (filter (λ (e : ℕ × Entry). eqb (kind_number e.1.kind) k) ((i, one) ∷ [])))
        ]

-- ---- what is asked

pub record IsNumberable (entries : Entries) : Type 0 where
  pub bodies : (k : ℕ) (x : Entry) → slice_get entries k ≡ Some x → has_body x.kind x.body ≡ true
  pub allowed : (k : ℕ) (x : Entry) → slice_get entries k ≡ Some x → is_in_family groups x ≡ true → Allowed entries (take k entries) x
  pub few : weight entries ≤ MAX_SIZE

pub count-few : (entries : Entries) (k i : ℕ) (one : Entry) → IsNumberable entries → slice_get entries i ≡ Some one → (count_of entries k (done entries i) + 1) + member_count one.body ≤ MAX_SIZE
count-few entries k i one can there =
    let bound = count-bound entries k 0 (take i entries) (λ j x at. can.bodies j x (get-before entries i j x at)) in
    let split = ap weight (split-list entries i one there) ∙ weight-append (take i entries) (one ∷ drop (i + 1) entries) in
    let total = sum_by-cons (λ (e : Entry). member_count e.body) one (drop (i + 1) entries) in
    let few = can.few in
    omega (arith, bound, split, total, few)

-- ---- the number of a definition

numbered-places : (entries : Entries) (i : ℕ) (one : Entry) → slice_get entries i ≡ Some one → enumerate_from 0 entries ≡ done entries i ++ (i, one) ∷ enumerate_from (i + 1) (drop (i + 1) entries)
numbered-places entries i one there =
    ap (enumerate_from 0) (split-list entries i one there) ∙ split-places 0 i (take i entries) one (drop (i + 1) entries) (zero-add _ ∙ length-before entries i one there)

before-other : (its : DefinitionKind) (entries : Entries) (i : ℕ) → IsOther its (take i entries) 0 i
before-other its entries i k one is there = absurd (none-past entries i k one there (let e : k ≡ i = omega (arith, is) in e))

pub own-number : (entries : Entries) (i : ℕ) (one : Entry) → slice_get entries i ≡ Some one → count_of entries (kind_number one.kind) (done entries i) ≡ own_id entries (i, one)
own-number entries i one there =
    elim (cases_Bool (eqb (kind_number one.kind) 2)) [
      | inl is ↦ let same : kind_number one.kind ≡ 2 = eqb-true _ 2 is in
          let back : eqb 2 (kind_number one.kind) ≡ true = eq-eqb 2 _ (sym same) in
          rw (back, is) (sym (ap (λ o. unwrap_or o 0)
          (ap (position (λ m. same_meaning (Some m) (Some (definition i)))) (ap (flat_map (basics_at entries)) (numbered-places entries i one there) ∙ flat_map-append (basics_at entries) (done entries i) ((i, one) ∷ enumerate_from (i + 1) (drop (i + 1) entries)) ∙ basic-first is)
          ∙ position-at (λ m. same_meaning (Some m) (Some (definition i))) (flat_map (basics_at entries) (done entries i)) (definition i) (flat_map (basics_at entries) (enumerate_from (i + 1) (drop (i + 1) entries)))
          (not-among-basics entries (take i entries) 0 i (before-other kind.BasicEvent entries i)) (eq-eqb i i refl))))
      | inr isnt ↦ let back : eqb 2 (kind_number one.kind) ≡ false = ne_eqb 2 _ (λ e. false≢true (sym isnt ∙ eq-eqb _ 2 (sym e))) in
          rw (back, isnt) (sym (ap (λ o. unwrap_or o 0)
          (ap (position (λ (e : ℕ × Entry). eqb e.0 i)) (ap (filter (λ (e : ℕ × Entry). is_kind one.kind e.1)) (numbered-places entries i one there) ∙ filter-append (λ (e : ℕ × Entry). is_kind one.kind e.1) (done entries i) ((i, one) ∷ enumerate_from (i + 1) (drop (i + 1) entries)) ∙ kept-first)
          ∙ position-at (λ (e : ℕ × Entry). eqb e.0 i) (filter (λ (e : ℕ × Entry). is_kind one.kind e.1) (done entries i)) (i, one) (filter (λ (e : ℕ × Entry). is_kind one.kind e.1) (enumerate_from (i + 1) (drop (i + 1) entries)))
          (not-among one.kind (take i entries) 0 i (before-other one.kind entries i)) (eq-eqb i i refl))))
    ]
  where
    basic-first : eqb (kind_number one.kind) 2 ≡ true → flat_map (basics_at entries) (done entries i) ++ flat_map (basics_at entries) ((i, one) ∷ enumerate_from (i + 1) (drop (i + 1) entries)) ≡ flat_map (basics_at entries) (done entries i) ++ definition i ∷ flat_map (basics_at entries) (enumerate_from (i + 1) (drop (i + 1) entries))
    basic-first is = rw is refl

    kept-first : filter (λ (e : ℕ × Entry). is_kind one.kind e.1) (done entries i) ++ filter (λ (e : ℕ × Entry). is_kind one.kind e.1) ((i, one) ∷ enumerate_from (i + 1) (drop (i + 1) entries)) ≡ filter (λ (e : ℕ × Entry). is_kind one.kind e.1) (done entries i) ++ (i, one) ∷ filter (λ (e : ℕ × Entry). is_kind one.kind e.1) (enumerate_from (i + 1) (drop (i + 1) entries))
    kept-first = rw (eq-eqb (kind_number one.kind) (kind_number one.kind) refl) refl

-- ---- the numbers of what a group defines

none-defined-before : (entries : Entries) (name : Text) (n : ℕ) (xs : Entries) → ((k : ℕ) (x : Entry) → slice_get xs k ≡ Some x → list_any (λ m. same_meaning (Some m) (group_meaning name)) (map of_group (defined_by_group entries x)) ≡ false) → list_any (λ m. same_meaning (Some m) (group_meaning name)) (flat_map (basics_at entries) (enumerate_from n xs)) ≡ false
none-defined-before entries name n [] apart = refl
none-defined-before entries name n (x ∷ xs) apart =
    any-append (λ m. same_meaning (Some m) (group_meaning name)) (basics_at entries (n, x)) (flat_map (basics_at entries) (enumerate_from (n + 1) xs))
    (elim (cases_Bool (eqb (kind_number x.kind) 2)) [
      | inl basic ↦ rw basic refl
      | inr isnt ↦ rw isnt (elim (cases_Bool (eqb (kind_number x.kind) 5)) [ inl group ↦ rw group (apart 0 x refl) | inr neither ↦ rw neither refl ])
    ])
    (none-defined-before entries name (n + 1) xs (λ k y there. apart (suc k) y there))

group-event-number : (entries : Entries) (i : ℕ) (one : Entry) (ps : List Text) (name : Text) (qs : List Text) → slice_get entries i ≡ Some one → eqb (kind_number one.kind) 5 ≡ true → Allowed entries (take i entries) one → defined_by_group entries one ≡ ps ++ name ∷ qs → length (flat_map (basics_at entries) (done entries i)) + length ps ≡ basic_id entries (of_group name)
group-event-number entries i one ps name qs there group allowed split =
    sym (ap (λ o. unwrap_or o 0)
    (ap (position (λ m. same_meaning (Some m) (group_meaning name))) whole
    ∙ position-at (λ m. same_meaning (Some m) (group_meaning name)) (flat_map (basics_at entries) (done entries i) ++ map of_group ps) (of_group name) (map of_group qs ++ flat_map (basics_at entries) (enumerate_from (i + 1) (drop (i + 1) entries)))
    (any-append (λ m. same_meaning (Some m) (group_meaning name)) (flat_map (basics_at entries) (done entries i)) (map of_group ps)
    (none-defined-before entries name 0 (take i entries) (λ k x at. apart-from-other entries i one x k ps name qs there (get-before entries i k x at) (none-there _ (take i entries) k x allowed.apart at) split))
    (apart-in-group entries i one (take i entries) ps name qs there allowed split))
    (same-bytes name))
    ∙ length-append (flat_map (basics_at entries) (done entries i)) (map of_group ps) ∙ ap (λ m. length (flat_map (basics_at entries) (done entries i)) + m) (length-map ps of_group))
  where
    isnt : eqb (kind_number one.kind) 2 ≡ false
    isnt = ap (λ i. eqb (kind_number i) 2) (kinds-same one.kind kind.Group group)

    here : basics_at entries (i, one) ≡ map of_group ps ++ of_group name ∷ map of_group qs
    here = rw (isnt, group) (ap (map of_group) split ∙ map-append of_group ps (name ∷ qs))

    whole : all_basics entries ≡ (flat_map (basics_at entries) (done entries i) ++ map of_group ps) ++ of_group name ∷ (map of_group qs ++ flat_map (basics_at entries) (enumerate_from (i + 1) (drop (i + 1) entries)))
    whole =
        let rest = flat_map (basics_at entries) (enumerate_from (i + 1) (drop (i + 1) entries)) in
        ap (flat_map (basics_at entries)) (numbered-places entries i one there)
        ∙ flat_map-append (basics_at entries) (done entries i) ((i, one) ∷ enumerate_from (i + 1) (drop (i + 1) entries))
        ∙ ap (λ zs. flat_map (basics_at entries) (done entries i) ++ (zs ++ rest)) here
        ∙ ap (λ zs. flat_map (basics_at entries) (done entries i) ++ zs) (append_assoc (map of_group ps) (of_group name ∷ map of_group qs) rest)
        ∙ sym (append_assoc (flat_map (basics_at entries) (done entries i)) (map of_group ps) (of_group name ∷ (map of_group qs ++ rest)))

group-numbers-from : (entries : Entries) (i c : ℕ) (one : Entry) (ps qs : List Text) → slice_get entries i ≡ Some one → eqb (kind_number one.kind) 5 ≡ true → Allowed entries (take i entries) one → length (flat_map (basics_at entries) (done entries i)) + length ps ≡ c → defined_by_group entries one ≡ ps ++ qs → range_with_len c (length qs) ≡ map (λ name. basic_id entries (of_group name)) qs
group-numbers-from entries i c one ps [] there group allowed is split = refl
group-numbers-from entries i c one ps (name ∷ qs) there group allowed is split =
    let number = sym is ∙ group-event-number entries i one ps name qs there group allowed split in
    let longer = length-append ps (name ∷ []) in
    ap (λ m. m ∷ range_with_len (c + 1) (length qs)) number
    ∙ ap (λ zs. basic_id entries (of_group name) ∷ zs) (group-numbers-from entries i (c + 1) one (ps ++ name ∷ []) qs there group allowed (omega (arith, is, longer)) (split ∙ sym (append_assoc ps (name ∷ []) qs)))

pub group-numbers : (entries : Entries) (i : ℕ) (one : Entry) → IsNumberable entries → slice_get entries i ≡ Some one → range_with_len (length (flat_map (basics_at entries) (done entries i))) (length (defined_by_group entries one)) ≡ map (λ name. basic_id entries (of_group name)) (defined_by_group entries one)
group-numbers entries i one can there =
    elim (group-or-none one.kind one.body (can.bodies i one there)) [
      | inl group ↦ group-numbers-from entries i _ one [] (defined_by_group entries one) there group (can.allowed i one there (group-family one.kind one refl group)) (omega arith) refl
      | inr none ↦ rw (nothing-defined entries one none) refl
    ]

-- ---- the senses of members

group-senses-of : (entries : Entries) (ss : List Sense) → list_all (can_be_member entries) (map (meaning_of_sense entries) ss) ≡ true → group_senses ss ≡ length (filter is_group_meaning (map (meaning_of_sense entries) ss))
group-senses-of entries [] all = refl
group-senses-of entries (Definition place ∷ ss) all = group-senses-of entries ss (and_parts _ _ all).1
group-senses-of entries (OfGroup number ∷ ss) all = by (slice_get (defined_by_groups entries) number) refl (group-senses-of entries ss (and_parts _ _ all).1)
  where
    by : (name : Option Text) → slice_get (defined_by_groups entries) number ≡ name → group_senses ss ≡ length (filter is_group_meaning (map (meaning_of_sense entries) ss)) → group_senses (OfGroup number ∷ ss) ≡ length (filter is_group_meaning (map (meaning_of_sense entries) (OfGroup number ∷ ss)))
    by None is rest = absurd (false≢true (sym (ap (λ o. can_be_member entries (option_map of_group o)) is) ∙ (and_parts _ _ all).0))
    by (Some name) is rest = rw is (ap suc rest)

pub take-mapped : {A B : Type 0} (f : A → B) (n : ℕ) (xs : List A) (front rest : List B) → length front ≡ n → map f xs ≡ front ++ rest → (map f (take n xs) ≡ front) × (map f (drop n xs) ≡ rest)
take-mapped f n xs front rest is both =
    let a = sym (take-map f n xs) ∙ ap (take n) both ∙ take_at front rest n is in
    let b = sym (drop-map f n xs) ∙ ap (drop n) both ∙ drop_at front rest n is in
    (a, b)

pub record MembersRead (entries : Entries) (i : ℕ) (one : Entry) (senses : List Sense) : Type 0 where
  pub count : group_senses (take (member_count one.body) senses) ≡ length (defined_by_group entries one)
  pub rest : map (meaning_of_sense entries) (drop (member_count one.body) senses) ≡ flat_map (meanings_of_members entries) (drop (i + 1) entries)

pub members-read : (entries : Entries) (i : ℕ) (one : Entry) (senses : List Sense) → IsNumberable entries → slice_get entries i ≡ Some one → map (meaning_of_sense entries) senses ≡ flat_map (meanings_of_members entries) (drop i entries) → MembersRead entries i one senses
members-read entries i one senses can there are =
    record {
      count = elim (group-or-none one.kind one.body (can.bodies i one there)) [
        | inl group ↦ group-senses-of entries (take (member_count one.body) senses) (ap (list_all (can_be_member entries)) parts.0 ∙ (can.allowed i one there (group-family one.kind one refl group)).members)
            ∙ ap (λ ms. length (filter is_group_meaning ms)) parts.0
            ∙ ap length (group-meanings entries i one there)
            ∙ length-map (defined_by_group entries one) group_meaning
        | inr none ↦ rw (members-counted one.body, none) refl
      ];
      rest = parts.1;
    }
  where
    parts : (map (meaning_of_sense entries) (take (member_count one.body) senses) ≡ meanings_of_members entries one) × (map (meaning_of_sense entries) (drop (member_count one.body) senses) ≡ flat_map (meanings_of_members entries) (drop (i + 1) entries))
    parts = take-mapped (meaning_of_sense entries) (member_count one.body) senses (meanings_of_members entries one) (flat_map (meanings_of_members entries) (drop (i + 1) entries))
        (length-map (members_of one.body) _ ∙ sym (members-counted one.body))
        (are ∙ ap (flat_map (meanings_of_members entries)) (drop-next entries i one there))

-- ---- the definitions before a place

pub record NumberedFirst (entries : Entries) (i : ℕ) (counts : List ℕ) (definitions : List Numbered) (of_groups : List ℕ) (senses : List Sense) : Type 0 where
  pub kinds : length counts ≡ 13
  pub counted : (k : ℕ) → get_or counts k 0 ≡ count_of entries k (done entries i)
  pub definitions_are : definitions ≡ map (numbered entries) (done entries i)
  pub groups_are : of_groups ≡ map (λ name. basic_id entries (of_group name)) (flat_map (defined_by_group entries) (take i entries))
  pub senses_are : map (meaning_of_sense entries) senses ≡ flat_map (meanings_of_members entries) (drop i entries)

pub numbered-more : (entries : Entries) (i : ℕ) (one : Entry) (counts between after : List ℕ) (definitions more : List Numbered) (of_groups all : List ℕ) (senses left : List Sense) (id : ℕ) → IsNumberable entries → slice_get entries i ≡ Some one → NumberedFirst entries i counts definitions of_groups senses → Counted (kind_number one.kind) 1 counts between → Counted 2 (group_senses (take (member_count one.body) senses)) between after → id ≡ get_or counts (kind_number one.kind) 0 → more ≡ definitions ++ (record { kind = one.kind; id = id }) ∷ [] → all ≡ of_groups ++ range_with_len (get_or between 2 0) (group_senses (take (member_count one.body) senses)) → left ≡ drop (member_count one.body) senses → NumberedFirst entries (i + 1) after more all left
numbered-more entries i one counts between after definitions more of_groups all senses left id can there before first second number defined numbers rest =
    let read = members-read entries i one senses can there before.senses_are in
    let has = can.bodies i one there in
    record {
      kinds = second.kinds ∙ first.kinds ∙ before.kinds;
      counted = λ k.
          let a = first.counts k in
          let b = second.counts k in
          let c = before.counted k in
          let d = count-more entries k i one has there in
          let e : (if eqb 2 k then group_senses (take (member_count one.body) senses) else 0) ≡ (if eqb 2 k then length (defined_by_group entries one) else 0) = ap (λ m. if eqb 2 k then m else 0) read.count in
          omega (arith, a, b, c, d, e);
      definitions_are =
          defined ∙ ap (λ ds. ds ++ record { kind = one.kind; id = id } ∷ []) before.definitions_are
          ∙ ap (λ n. map (numbered entries) (done entries i) ++ record { kind = one.kind; id = n } ∷ []) (number ∙ before.counted (kind_number one.kind) ∙ own-number entries i one there)
          ∙ sym (ap (map (numbered entries)) (ap (enumerate_from 0) (take-next entries i one there) ∙ split-places 0 i (take i entries) one [] (zero-add _ ∙ length-before entries i one there)) ∙ map-append (numbered entries) (done entries i) ((i, one) ∷ []));
      groups_are =
          numbers ∙ ap (λ gs. gs ++ range_with_len (get_or between 2 0) (group_senses (take (member_count one.body) senses))) before.groups_are
          ∙ ap (λ gs. map (λ name. basic_id entries (of_group name)) (flat_map (defined_by_group entries) (take i entries)) ++ gs) (from-between has)
          ∙ sym (ap (map (λ name. basic_id entries (of_group name))) (ap (flat_map (defined_by_group entries)) (take-next entries i one there) ∙ flat_map-append (defined_by_group entries) (take i entries) (one ∷ []) ∙ ap (λ ns. flat_map (defined_by_group entries) (take i entries) ++ ns) (append-nil (defined_by_group entries one)))
          ∙ map-append (λ name. basic_id entries (of_group name)) (flat_map (defined_by_group entries) (take i entries)) (defined_by_group entries one));
      senses_are = ap (map (meaning_of_sense entries)) rest ∙ read.rest;
    }
  where
    from-between : has_body one.kind one.body ≡ true → range_with_len (get_or between 2 0) (group_senses (take (member_count one.body) senses)) ≡ map (λ name. basic_id entries (of_group name)) (defined_by_group entries one)
    from-between has =
        let read = members-read entries i one senses can there before.senses_are in
        elim (group-or-none one.kind one.body has) [
          | inl group ↦
              let isnt : eqb (kind_number one.kind) 2 ≡ false = ap (λ j. eqb (kind_number j) 2) (kinds-same one.kind kind.Group group) in
              let same : get_or between 2 0 ≡ length (flat_map (basics_at entries) (done entries i)) =
              first.counts 2 ∙ ap (λ b. get_or counts 2 0 + (if b then 1 else 0)) isnt ∙ add-zero _ ∙ before.counted 2 in
              ap (λ m. range_with_len m (group_senses (take (member_count one.body) senses))) same
              ∙ ap (range_with_len (length (flat_map (basics_at entries) (done entries i)))) read.count
              ∙ group-numbers entries i one can there
          | inr none ↦
              let empty = nothing-defined entries one none in
              let nothing : group_senses (take (member_count one.body) senses) ≡ 0 = read.count ∙ ap length empty in
              ap (range_with_len (get_or between 2 0)) nothing ∙ ap (map (λ name. basic_id entries (of_group name))) (sym empty)
        ]

pub counted-by-one : (k j : ℕ) (old new : List ℕ) → Counted k 1 old new → get_or new j 0 ≤ get_or old j 0 + 1
counted-by-one k j old new counted =
    let a = counted.counts j in
    elim (cases_Bool (eqb k j)) [ inl is ↦ omega (arith, rw is at a) | inr isnt ↦ omega (arith, rw isnt at a) ]
