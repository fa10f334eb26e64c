-- The members of groups, counted one after another.
use Rattle.std.proofs.Common.{◌≡◌, ◌<◌, ◌≤◌, ◌+◌, ℕ, zero, suc, List, [], ◌∷◌, ◌++◌, Option, Some, None, MatchOption, length, take, drop, get_or, refl, ap, sym, ◌∙◌, subst, arith, eqb}
use Rattle.std.proofs.lemmas.List.{append-nil, append_assoc, length-append, length-take}
use Rattle.std.proofs.lemmas.Bool.{cases_Bool}
use Rattle.std.proofs.Common.{inl, inr}
use Rattle.std.specs.List.{filter, range_with_len}
use Rattle.std.specs.Option.{option_to_list}
use Rattle.psa_names.specs.declared.found.Sense.{Sense}
use Rattle.psa_bodies.specs.Counts.{Counted, is_of_group, group_senses}
use Rattle.psa_bodies.proofs.NumberingInOrder.{filter-append, length-filter-le}

pub counted-none : (k : ℕ) (counts : List ℕ) → Counted k 0 counts counts
counted-none k counts = record {
  kinds = refl;
  counts = λ j. elim (cases_Bool (eqb k j)) [ inl is ↦ rw is (omega arith) | inr isnt ↦ rw isnt (omega arith) ];
}

pub counted-then : (k m n : ℕ) (a b d : List ℕ) → Counted k m a b → Counted k n b d → Counted k (m + n) a d
counted-then k m n a b d first second = record {
  kinds = second.kinds ∙ first.kinds;
  counts = λ j.
      let p = first.counts j in
      let q = second.counts j in
      elim (cases_Bool (eqb k j)) [
        | inl is ↦ rw is (omega (arith, rw is at p, rw is at q))
        | inr isnt ↦ rw isnt (omega (arith, rw isnt at p, rw isnt at q))
      ];
}

pub group_senses-append : (xs ys : List Sense) → group_senses (xs ++ ys) ≡ group_senses xs + group_senses ys
group_senses-append xs ys = ap length (filter-append is_of_group xs ys) ∙ length-append (filter is_of_group xs) (filter is_of_group ys)

range-append : (a m n : ℕ) → range_with_len a (m + n) ≡ range_with_len a m ++ range_with_len (a + m) n
range-append a zero n = let e : zero + n ≡ n = omega arith in let f : a ≡ a + zero = omega arith in ap (range_with_len a) e ∙ ap (λ b. range_with_len b n) f
range-append a (suc m) n =
    let e : suc m + n ≡ suc (m + n) = omega arith in
    let f : (a + 1) + m ≡ a + suc m = omega arith in
    ap (range_with_len a) e ∙ ap (λ zs. a ∷ zs) (range-append (a + 1) m n ∙ ap (λ b. range_with_len (a + 1) m ++ range_with_len b n) f)

abbrev pub IsNext : List Sense → Option Sense → List Sense → Type 0
IsNext senses next left = MatchOption next ((senses ≡ []) × (left ≡ [])) (λ sense. senses ≡ sense ∷ left)

next-suc : (senses : List Sense) (k : ℕ) (next : Option Sense) (left : List Sense) → IsNext (drop k senses) next left → (take (suc k) senses ≡ take k senses ++ option_to_list next) × (left ≡ drop (suc k) senses)
next-suc [] zero None left is = (refl, is.1)
next-suc [] (suc k) None left is = (refl, is.1)
next-suc [] zero (Some s) left is = absurd (let h : [] ≡ s ∷ left = is in cc)
next-suc [] (suc k) (Some s) left is = absurd (let h : [] ≡ s ∷ left = is in cc)
next-suc (x ∷ xs) zero None left is = absurd (let h : x ∷ xs ≡ [] = is.0 in cc)
next-suc (x ∷ xs) zero (Some s) left is =
    let h : x ∷ xs ≡ s ∷ left = is in
    let e : x ≡ s = cc in
    let f : left ≡ xs = cc in
    (ap (λ z. z ∷ []) e, f)
next-suc (x ∷ xs) (suc k) next left is = let rest = next-suc xs k next left is in (ap (λ zs. x ∷ zs) rest.0, rest.1)

pub next-taken : (senses : List Sense) (k : ℕ) (next : Option Sense) (left : List Sense) → IsNext (drop k senses) next left → (take (k + 1) senses ≡ take k senses ++ option_to_list next) × (left ≡ drop (k + 1) senses)
next-taken senses k next left is =
    let more : k + 1 ≡ suc k = omega arith in
    let both = next-suc senses k next left is in
    (ap (λ m. take m senses) more ∙ both.0, both.1 ∙ ap (λ m. drop m senses) (sym more))

pub few-senses : (senses : List Sense) (k : ℕ) → group_senses (take k senses) ≤ k
few-senses senses k = let a = length-filter-le is_of_group (take k senses) in let b = length-take k senses in omega (arith, a, b)

-- what is kept of the first members
pub record FirstMembers (k : ℕ) (senses : List Sense) (of_groups counts : List ℕ) (all now : List ℕ) (left : List Sense) : Type 0 where
  pub numbers : all ≡ of_groups ++ range_with_len (get_or counts 2 0) (group_senses (take k senses))
  pub counted : Counted 2 (group_senses (take k senses)) counts now
  pub rest : left ≡ drop k senses

pub no-members : (senses : List Sense) (of_groups counts : List ℕ) → FirstMembers 0 senses of_groups counts of_groups counts senses
no-members senses of_groups counts = record { numbers = sym (append-nil of_groups); counted = counted-none 2 counts; rest = refl }

pub members-few : (k : ℕ) (senses : List Sense) (of_groups counts all now : List ℕ) (left : List Sense) (count : ℕ) → FirstMembers k senses of_groups counts all now left → k < count → get_or counts 2 0 + count < 4294967296 → get_or now 2 0 + 1 < 4294967296
members-few k senses of_groups counts all now left count first less few =
    let a : get_or now 2 0 ≡ get_or counts 2 0 + group_senses (take k senses) = first.counted.counts 2 in
    let b = few-senses senses k in
    omega (arith, a, b)

pub members-more : (k : ℕ) (senses : List Sense) (of_groups counts all now more after : List ℕ) (left rest : List Sense) (next : Option Sense) → FirstMembers k senses of_groups counts all now left → IsNext left next rest → more ≡ all ++ range_with_len (get_or now 2 0) (group_senses (option_to_list next)) → Counted 2 (group_senses (option_to_list next)) now after → FirstMembers (k + 1) senses of_groups counts more after rest
members-more k senses of_groups counts all now more after left rest next first is numbers counted =
    let here = next-taken senses k next rest (subst (λ l. IsNext l next rest) first.rest is) in
    let total = ap group_senses here.0 ∙ group_senses-append (take k senses) (option_to_list next) in
    let start : get_or now 2 0 ≡ get_or counts 2 0 + group_senses (take k senses) = first.counted.counts 2 in
    record {
      numbers =
          numbers ∙ ap (λ xs. xs ++ range_with_len (get_or now 2 0) (group_senses (option_to_list next))) first.numbers
          ∙ append_assoc of_groups (range_with_len (get_or counts 2 0) (group_senses (take k senses))) (range_with_len (get_or now 2 0) (group_senses (option_to_list next)))
          ∙ ap (λ m. of_groups ++ (range_with_len (get_or counts 2 0) (group_senses (take k senses)) ++ range_with_len m (group_senses (option_to_list next)))) start
          ∙ ap (λ xs. of_groups ++ xs) (sym (range-append (get_or counts 2 0) (group_senses (take k senses)) (group_senses (option_to_list next))))
          ∙ ap (λ m. of_groups ++ range_with_len (get_or counts 2 0) m) (sym total);
      counted = subst (λ m. Counted 2 m counts after) (sym total) (counted-then 2 (group_senses (take k senses)) (group_senses (option_to_list next)) counts now after first.counted counted);
      rest = here.1;
    }
