-- The node at an id, by its place in the index set, which holds the nodes oldest first.
use Rattle.std.proofs.Common.{◌≡◌, ◌⊎◌, ℕ, zero, suc, ◌+◌, Bool, true, false, ◌==◌, List, [], ◌∷◌, ◌++◌, length, reverse, slice_get, find, Option, None, Some, IsSome, if◌then◌else◌, refl, sym, ap, ◌∙◌, inl, inr, arith, ne_eqb, eq-eqb, true≢false}
use Rattle.std.proofs.lemmas.List.{reverse-append, reverse-reverse, length-reverse}
use Rattle.std.proofs.lemmas.Bool.{cases_Bool}
use Rattle.std.proofs.lemmas.Bool.Decides.{eqb_tells}
use Rattle.std.specs.List.{list_any}
use Rattle.std.specs.Option.{option_to_list}
use lib.Dec.{eqb-suc-suc}
use Rattle.indexmap.specs.IndexSet.{insert_key}
use Rattle.psa_nodes.specs.declared.node.Node.{Node}
use Rattle.psa_nodes.specs.Readings.{node_at}
use Rattle.psa_nodes.specs.Nodes.{IsNew}
use Rattle.psa_nodes.proofs.EqualityLemmas.{node_eq, node-exact, node-own}

-- the first item of a list is the last of its reverse
pub reverse-cons : (x : Node) (xs : List Node) → reverse (x ∷ xs) ≡ reverse xs ++ x ∷ []
reverse-cons x xs = reverse-append (x ∷ []) xs

-- and the last item the first
pub reverse-push : (xs : List Node) (x : Node) → reverse (xs ++ x ∷ []) ≡ x ∷ reverse xs
reverse-push xs x = reverse-append xs (x ∷ [])

slice_get-push : (xs : List Node) (x : Node) (i : ℕ) → slice_get (xs ++ x ∷ []) i ≡ (if i == length xs then Some x else slice_get xs i)
slice_get-push [] x zero = refl
slice_get-push [] x (suc i) = rw (ne_eqb (suc i) 0 (λ e. omega arith)) refl
slice_get-push (y ∷ ys) x zero = rw (ne_eqb zero (suc (length ys)) (λ e. omega arith)) refl
slice_get-push (y ∷ ys) x (suc i) = rw (eqb-suc-suc i (length ys)) (slice_get-push ys x i)

slice_get-reverse : (ns : List Node) (i : ℕ) → slice_get (reverse ns) i ≡ node_at ns (i + 2)
slice_get-reverse [] i = refl
slice_get-reverse (n ∷ older) i =
    rw (reverse-cons n older) (slice_get-push (reverse older) n i ∙ (λ j. if test j then Some n else slice_get-reverse older i j))
  where
    test : (i == length (reverse older)) ≡ (i + 2 == length older + 2)
    test = elim (eqb_tells i (length (reverse older))) [
      | inl p ↦ p.0 ∙ sym (eq-eqb (i + 2) (length older + 2) (omega (arith, length-reverse older)))
      | inr p ↦ p.0 ∙ sym (ne_eqb (i + 2) (length older + 2) (λ e. p.1 (omega (arith, length-reverse older))))
    ]

-- the node of the id is at place id - 2
pub node_at-key : (keys : List Node) (i : ℕ) → node_at (reverse keys) (i + 2) ≡ slice_get keys i
node_at-key keys i = sym (slice_get-reverse (reverse keys) i) ∙ ap (λ l. slice_get l i) (reverse-reverse keys)

-- what `find` finds passes
pub find-passes : {X : Type 0} (test : X → Bool) (xs : List X) (x : X) → find test xs ≡ Some x → test x ≡ true
find-passes test [] x e = cc
find-passes test (y ∷ ys) x e =
    elim (cases_Bool (test y)) [
      | inl p ↦ let same : Some y ≡ Some x = rw p at e in let own : y ≡ x = cc in sym (ap test own) ∙ p
      | inr p ↦ find-passes test ys x (rw p at e)
    ]

-- the node that the look-up found is the one that was asked for
pub found_at : (keys : List Node) (n m : Node) (i : ℕ) → slice_get keys i ≡ Some m → node_eq n m ≡ true → node_at (reverse keys) (i + 2) ≡ Some n
found_at keys n m i at same = node_at-key keys i ∙ at ∙ ap Some (sym (node-exact n m same))

new-append : (xs ys : List Node) (n : Node) → IsNew xs n → IsNew ys n → IsNew (xs ++ ys) n
new-append [] ys n h k = k
new-append (x ∷ xs) ys n h k = (h.0, new-append xs ys n h.1 k)

new-reverse : (xs : List Node) (n : Node) → IsNew xs n → IsNew (reverse xs) n
new-reverse [] n h = tt
new-reverse (x ∷ xs) n h = rw (reverse-cons x xs) (new-append (reverse xs) (x ∷ []) n (new-reverse xs n h.1) (h.0, tt))

new-any : (keys : List Node) (n : Node) → list_any (node_eq n) keys ≡ false → IsNew keys n
new-any [] n h = tt
new-any (k ∷ ks) n h =
    elim (cases_Bool (node_eq n k)) [
      | inl p ↦ let bad : true ≡ false = rw p at h in absurd (true≢false bad)
      | inr p ↦ ((λ e. true≢false (sym (node-own n) ∙ ap (node_eq n) (sym e) ∙ p)), new-any ks n (rw p at h))
    ]

-- a node that the look-up does not find is new
pub new-absent : (keys : List Node) (n : Node) → list_any (node_eq n) keys ≡ false → IsNew (reverse keys) n
new-absent keys n h = new-reverse keys n (new-any keys n h)

-- what an insertion adds
pub inserted : (keys now : List Node) (n : Node) → now ≡ insert_key node_eq keys n → (reverse now ≡ reverse keys) ⊎ ((reverse now ≡ n ∷ reverse keys) × IsNew (reverse keys) n)
inserted keys now n e =
    elim (cases_Bool (list_any (node_eq n) keys)) [
      | inl p ↦ let same = rw p at e in inl (ap reverse same)
      | inr p ↦ let pushed = rw p at e in inr (ap reverse pushed ∙ reverse-push keys n, new-absent keys n p)
    ]

-- an id with a node
pub some_node : (ns : List Node) (id : ℕ) → IsSome (node_at ns id) → (m : Node) × (node_at ns id ≡ Some m)
some_node ns id h = by (node_at ns id) refl h
  where
    by : (o : Option Node) → node_at ns id ≡ o → IsSome o → (m : Node) × (node_at ns id ≡ Some m)
    by None e s = absurd (true≢false (sym s))
    by (Some m) e s = (m, e)

-- where a node is in the set already, and where it is not
pub inserted-same : (keys now : List Node) (n : Node) → now ≡ insert_key node_eq keys n → list_any (node_eq n) keys ≡ true → reverse now ≡ reverse keys
inserted-same keys now n e there = let same = rw there at e in ap reverse same

pub inserted-new : (keys now : List Node) (n : Node) → now ≡ insert_key node_eq keys n → list_any (node_eq n) keys ≡ false → now ≡ keys ++ n ∷ []
inserted-new keys now n e absent = rw absent at e

-- the last node is taken away again
pub popped-same : (keys now : List Node) (n : Node) (last : Option Node) → keys ++ n ∷ [] ≡ now ++ option_to_list last → IsSome last → reverse now ≡ reverse keys
popped-same keys now n None e some = absurd (true≢false (sym some))
popped-same keys now n (Some m) e some =
    let turned : n ∷ reverse keys ≡ m ∷ reverse now = sym (reverse-push keys n) ∙ ap reverse e ∙ reverse-push now m in
    cc
