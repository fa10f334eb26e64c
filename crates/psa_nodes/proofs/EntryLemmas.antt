-- The remembered entries: their look-up, a new one, and that they stay right when nodes are added.
use Rattle.std.proofs.Common.{◌≡◌, ◌≢◌, List, [], ◌∷◌, ◌++◌, Option, None, Some, IfSome, IfNone, refl, sym, ap, subst, ◌∙◌, inl, inr, true≢false}
use Rattle.std.proofs.lemmas.Bool.{cases_Bool}
use Rattle.std.specs.Map.{lookup}
use Rattle.psa_logic.specs.Sets.{Has}
use Rattle.psa_nodes.specs.declared.node.Node.{Node}
use Rattle.psa_nodes.specs.declared.node.NodeId.{NodeId}
use Rattle.psa_nodes.specs.declared.node.MemoKey.{MemoKey}
use Rattle.psa_nodes.specs.Readings.{Reading, reading}
use Rattle.psa_nodes.specs.Nodes.{Grown}
use Rattle.psa_nodes.specs.Operations.{operand_kind, result_kind, Computes}
use Rattle.psa_nodes.specs.Table.{IsRight, AllRight, Lacks, AreDifferent}
use Rattle.psa_nodes.proofs.StandsLemmas.{stands-below}
use Rattle.psa_nodes.proofs.GrownLemmas.{stands-kept, reading-kept}
use Rattle.psa_nodes.proofs.EqualityLemmas.{key_eq, key-exact, key-own}

module _ {before now : List Node} (g : Grown before now) where
  -- a right entry stays right
  pub right-kept : (key : MemoKey) (answer : NodeId) → IsRight before key answer → IsRight now key answer
  right-kept key answer r =
      let left = reading-kept g key.left.0 (stands-below (operand_kind key.operation) 0 before key.left.0 r.left_stands) in
      let right = reading-kept g key.right.0 (stands-below (operand_kind key.operation) 0 before key.right.0 r.right_stands) in
      let result = reading-kept g answer.0 (stands-below (result_kind key.operation) 0 before answer.0 r.result_stands) in
      record {
        no_right = r.no_right;
        no_limit = r.no_limit;
        left_stands = stands-kept g (operand_kind key.operation) 0 key.left.0 r.left_stands;
        right_stands = stands-kept g (operand_kind key.operation) 0 key.right.0 r.right_stands;
        result_stands = stands-kept g (result_kind key.operation) 0 answer.0 r.result_stands;
        computes =
            subst (λ (x : Reading). Computes key.operation key.limit (reading now key.left.0) (reading now key.right.0) x) (sym result)
            (subst (λ (x : Reading). Computes key.operation key.limit (reading now key.left.0) x (reading before answer.0)) (sym right)
            (subst (λ (x : Reading). Computes key.operation key.limit x (reading before key.right.0) (reading before answer.0)) (sym left) r.computes));
      }

  -- and so do all
  pub all_right-kept : (es : List (MemoKey × NodeId)) → AllRight before es → AllRight now es
  all_right-kept [] r = tt
  all_right-kept (e ∷ es) r = (right-kept e.0 e.1 r.0, all_right-kept es r.1)

-- one more entry
pub all_right-append : (ns : List Node) (es fs : List (MemoKey × NodeId)) → AllRight ns es → AllRight ns fs → AllRight ns (es ++ fs)
all_right-append ns [] fs r s = s
all_right-append ns (e ∷ es) fs r s = (r.0, all_right-append ns es fs r.1 s)

lacks-push : (es : List (MemoKey × NodeId)) (key own : MemoKey) (answer : NodeId) → Lacks es key → own ≢ key → Lacks (es ++ (own, answer) ∷ []) key
lacks-push [] key own answer l ne = (ne, tt)
lacks-push (e ∷ es) key own answer l ne = (l.0, lacks-push es key own answer l.1 ne)

-- the keys still differ with one more that was not there
pub different-push : (es : List (MemoKey × NodeId)) (key : MemoKey) (answer : NodeId) → AreDifferent es → Lacks es key → AreDifferent (es ++ (key, answer) ∷ [])
different-push [] key answer d l = (tt, tt)
different-push (e ∷ es) key answer d l =
    (lacks-push es e.0 key answer d.0 (λ same. l.0 (sym same)), different-push es key answer d.1 l.1)

-- the look-up of a key
pub lookup-lacks : (es : List (MemoKey × NodeId)) (key : MemoKey) → Lacks es key → lookup (key_eq key) es ≡ None
lookup-lacks [] key l = refl
lookup-lacks (e ∷ es) key l =
    elim (cases_Bool (key_eq key e.0)) [
      | inl p ↦ absurd (l.0 (sym (key-exact key e.0 p)))
      | inr p ↦ rw p (lookup-lacks es key l.1)
    ]

-- a key that is not found is lacked
pub lookup-none : (es : List (MemoKey × NodeId)) (key : MemoKey) → lookup (key_eq key) es ≡ None → Lacks es key
lookup-none [] key e = tt
lookup-none (f ∷ fs) key e =
    elim (cases_Bool (key_eq key f.0)) [
      | inl p ↦ let bad : Some f.1 ≡ None = rw p at e in cc
      | inr p ↦ ((λ same. true≢false (sym (key-own key) ∙ ap (key_eq key) (sym same) ∙ p)), lookup-none fs key (rw p at e))
    ]

-- a key that is found is there with its answer
pub lookup-some : (es : List (MemoKey × NodeId)) (key : MemoKey) (answer : NodeId) → lookup (key_eq key) es ≡ Some answer → Has es (key, answer)
lookup-some [] key answer e = cc
lookup-some (f ∷ fs) key answer e =
    elim (cases_Bool (key_eq key f.0)) [
      | inl p ↦
          let same : Some f.1 ≡ Some answer = rw p at e in
          let value : f.1 ≡ answer = cc in
          let name = key-exact key f.0 p in
          inl (λ i. (sym name i, value i))
      | inr p ↦ inr (lookup-some fs key answer (rw p at e))
    ]

-- an entry that is there is right
pub right-has : (ns : List Node) (es : List (MemoKey × NodeId)) (key : MemoKey) (answer : NodeId) → AllRight ns es → Has es (key, answer) → IsRight ns key answer
right-has ns [] key answer r h = absurd h
right-has ns (e ∷ es) key answer r h =
    elim h [
      | inl p ↦ subst (λ (x : MemoKey × NodeId). IsRight ns x.0 x.1) p r.0
      | inr p ↦ right-has ns es key answer r.1 p
    ]

-- the three clauses of a look-up
pub found-lookup : (es : List (MemoKey × NodeId)) (key : MemoKey) (r : Option NodeId) → r ≡ lookup (key_eq key) es → IfSome r (λ answer. Has es (key, answer))
found-lookup es key None e = tt
found-lookup es key (Some answer) e = lookup-some es key answer (sym e)

-- what is found is right
pub right-lookup : (ns : List Node) (es : List (MemoKey × NodeId)) (key : MemoKey) (r : Option NodeId) → AllRight ns es → r ≡ lookup (key_eq key) es → IfSome r (λ answer. IsRight ns key answer)
right-lookup ns es key None rs e = tt
right-lookup ns es key (Some answer) rs e = right-has ns es key answer rs (lookup-some es key answer (sym e))

-- where nothing is found the key is lacked
pub absent-lookup : (es : List (MemoKey × NodeId)) (key : MemoKey) (r : Option NodeId) → r ≡ lookup (key_eq key) es → IfNone r (Lacks es key)
absent-lookup es key None e = lookup-none es key (sym e)
absent-lookup es key (Some answer) e = tt
