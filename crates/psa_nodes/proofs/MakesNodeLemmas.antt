-- What asking for a node does, case by case.
use Rattle.std.proofs.Common.{◌≡◌, ◌⊎◌, ℕ, ◌+◌, ◌≤◌, true, List, [], ◌∷◌, ◌++◌, length, Option, None, Some, IfSome, Result, Ok, Err, IfOk, IfErr, OnErr, refl, sym, ap, subst, ◌∙◌, inl, inr, arith}
use Rattle.std.proofs.lemmas.Bool.{cases_Bool}
use Rattle.std.proofs.lemmas.Bool.Decides.{eqb_tells}
use Rattle.psa_nodes.specs.declared.node.Kind.{Kind}
use Rattle.psa_nodes.specs.declared.node.Kind.TheVariants.{Bdd, Zbdd}
use Rattle.psa_nodes.specs.declared.node.Node.{Node}
use Rattle.psa_nodes.specs.declared.node.NodeId.{NodeId}
use Rattle.psa_nodes.specs.declared.node.MemoKey.{MemoKey}
use Rattle.psa_nodes.specs.declared.node.NodeError.{NodeError}
use Rattle.psa_nodes.specs.declared.node.NodeError.TheVariants.{Full, Memory}
use Rattle.psa_nodes.specs.Readings.{node_at, truth, has, joined, stands, Reading, reading, branch, node_reading, IsSameReading}
use Rattle.psa_nodes.specs.Nodes.{Fits, AllFit, IsReduced, IsNew, Grown}
use Rattle.psa_nodes.specs.Table.{Table, table_of, IsTable, IsRefused, IsRight, Lacks, MakesNode}
use Rattle.psa_nodes.proofs.StandsLemmas.{stands-node, stands-weaker, stands-below}
use Rattle.psa_nodes.proofs.GrownLemmas.{grown-cons, grown-own, node_reading-kept}
use Rattle.psa_nodes.proofs.NodeAtLemmas.{at}
use Rattle.psa_nodes.proofs.FamilyLemmas.{has-below, has-zero}
use Rattle.psa_nodes.proofs.CanonicalLemmas.{only}
use Rattle.psa_nodes.proofs.EntryLemmas.{all_right-kept, all_right-append, different-push}

-- equal readings agree as diagrams of each kind
pub same-path : (k : Kind) (a b : Reading) → a ≡ b → IsSameReading k a b
same-path Bdd a b e = λ s. ap (λ (r : Reading). r.as_truth s) e
same-path Zbdd a b e = λ set. ap (λ (r : Reading). r.as_family set) e

-- a triple whose children stand and that is reduced
module _ (t : Table) (n : Node) (hi : stands n.kind (n.var + 1) t.nodes n.hi.0 ≡ true) (lo : stands n.kind (n.var + 1) t.nodes n.lo.0 ≡ true) (reduced : IsReduced n.kind n.hi.0 n.lo.0) where
  -- such a triple may be added where it is new
  pub fits : IsNew t.nodes n → Fits t.nodes n
  fits new = record { hi = hi; lo = lo; reduced = reduced; fresh = new }

  grown : (now : Table) → ((now ≡ t) ⊎ ((now ≡ record t { nodes = n ∷ t.nodes }) × Fits t.nodes n)) → Grown t.nodes now.nodes
  grown now a = elim a [
    | inl p ↦ subst (λ (x : Table). Grown t.nodes x.nodes) (sym p) (grown-own t.nodes)
    | inr p ↦ subst (λ (x : Table). Grown t.nodes x.nodes) (sym p.0) (grown-cons n t.nodes)
  ]

  -- the answer with its node
  pub made_ok : (now : Table) (id : NodeId) → IsTable now → node_at now.nodes id.0 ≡ Some n → ((now ≡ t) ⊎ ((now ≡ record t { nodes = n ∷ t.nodes }) × Fits t.nodes n)) → (IsRefused t.nodes t.limit n → ⊥) → MakesNode n t now (Ok id)
  made_ok now id table there added not_refused =
      let there_stands = stands-node now.nodes id.0 n there in
      record {
        passed = λ h. absurd (h reduced);
        node = λ h. there;
        stands_at = there_stands;
        reads = same-path n.kind (reading now.nodes id.0) (node_reading t.nodes n)
            ((at now.nodes table.fit id.0 n there).reads
            ∙ node_reading-kept (grown now added) n (stands-below n.kind (n.var + 1) t.nodes n.hi.0 hi) (stands-below n.kind (n.var + 1) t.nodes n.lo.0 lo));
        only = only n.kind now.nodes table.fit id.0 (stands-weaker n.kind n.var 0 now.nodes id.0 (omega arith) there_stands);
        added = added;
        full = ((λ e. cc), (λ r. absurd (not_refused r)));
        at_full = λ e. cc;
        at_memory = λ e. cc;
      }

  -- the refusal of a full table
  pub made_full : IsRefused t.nodes t.limit n → MakesNode n t (record t { refused = Some n }) (Err Full)
  made_full r = record {
    passed = λ h. absurd (h reduced);
    node = λ h. tt;
    stands_at = tt;
    reads = tt;
    only = tt;
    added = tt;
    full = ((λ e. r), (λ h. refl));
    at_full = λ e. refl;
    at_memory = λ e. cc;
  }

  -- the refusal for want of memory
  pub made_memory : (IsRefused t.nodes t.limit n → ⊥) → IsNew t.nodes n → MakesNode n t t (Err Memory)
  made_memory not_refused new = record {
    passed = λ h. absurd (h reduced);
    node = λ h. tt;
    stands_at = tt;
    reads = tt;
    only = tt;
    added = tt;
    full = ((λ e. cc), (λ r. absurd (not_refused r)));
    at_full = λ e. cc;
    at_memory = λ e. (refl, fits new);
  }

-- the table after a new node, where the limit allows one more
pub table-added : (t : Table) (n : Node) → IsTable t → Fits t.nodes n → (t.limit ≡ Some (length t.nodes) → ⊥) → IsTable (record t { nodes = n ∷ t.nodes })
table-added t n ok fits room = record {
  fit = (fits, ok.fit);
  right = all_right-kept (grown-cons n t.nodes) t.entries ok.right;
  different = ok.different;
  within = within t.limit ok.within room;
  refused = refused t.refused ok.refused;
}
  where
    within : (limit : Option ℕ) → IfSome limit (λ l. length t.nodes ≤ l) → (limit ≡ Some (length t.nodes) → ⊥) → IfSome limit (λ l. length (n ∷ t.nodes) ≤ l)
    within None h r = tt
    within (Some l) h r = elim (eqb_tells l (length t.nodes)) [ inl p ↦ absurd (r (ap Some p.1)) | inr p ↦ omega (arith, p.1, h) ]

    refused : (o : Option Node) → IfSome o (IsRefused t.nodes t.limit) → IfSome o (IsRefused (n ∷ t.nodes) t.limit)
    refused None h = tt
    refused (Some m) h = absurd (room h.full)

-- the table after a refusal
pub table-refused : (t : Table) (n : Node) → IsTable t → IsRefused t.nodes t.limit n → IsTable (record t { refused = Some n })
table-refused t n ok r = record { fit = ok.fit; right = ok.right; different = ok.different; within = ok.within; refused = r }

-- adding to the index set, where the limit allows one more
module _ (before now : List Node) (entries : List (MemoKey × NodeId)) (limit : Option ℕ) (refused : Option Node) (n : Node)
    (ok : IsTable (table_of before entries limit refused)) (room : limit ≡ Some (length before) → ⊥)
    (hi : stands n.kind (n.var + 1) before n.hi.0 ≡ true) (lo : stands n.kind (n.var + 1) before n.lo.0 ≡ true) (reduced : IsReduced n.kind n.hi.0 n.lo.0) where
  -- nothing was added, or the new node
  abbrev pub IsAdding : Type 0
  IsAdding = (now ≡ before) ⊎ ((now ≡ n ∷ before) × IsNew before n)

  table_by : IsAdding → IsTable (table_of now entries limit refused)
  table_by a = elim a [
    | inl p ↦ subst (λ (ns : List Node). IsTable (table_of ns entries limit refused)) (sym p) ok
    | inr p ↦ subst (λ (ns : List Node). IsTable (table_of ns entries limit refused)) (sym p.0)
        (table-added (table_of before entries limit refused) n ok (fits (table_of before entries limit refused) n hi lo reduced p.1) room)
  ]

  -- the table stays well formed
  pub added_table : (answer : Result NodeId NodeError) → IfOk answer (λ _. IsAdding) → OnErr answer ((now ≡ before) × IsNew before n) → IsTable (table_of now entries limit refused)
  added_table (Ok id) a e = table_by a
  added_table (Err d) a e = table_by (inl e.0)

  -- and the node is made as `MakesNode` says
  pub added_makes : (answer : Result NodeId NodeError) → IfOk answer (λ id. node_at now id.0 ≡ Some n) → IfOk answer (λ _. IsAdding) → OnErr answer ((now ≡ before) × IsNew before n) → IfErr answer (λ d. d ≡ Memory)
      → MakesNode n (table_of before entries limit refused) (table_of now entries limit refused) answer
  added_makes (Ok id) there a e m =
      made_ok (table_of before entries limit refused) n hi lo reduced (table_of now entries limit refused) id (table_by a) there
      (elim a [
        | inl p ↦ inl (ap (λ (ns : List Node). table_of ns entries limit refused) p)
        | inr p ↦ inr (ap (λ (ns : List Node). table_of ns entries limit refused) p.0, fits (table_of before entries limit refused) n hi lo reduced p.1)
      ])
      (λ r. room r.full)
  added_makes (Err d) there a e m =
      subst (λ (x : NodeError). MakesNode n (table_of before entries limit refused) (table_of now entries limit refused) (Err x)) (sym m)
      (subst (λ (ns : List Node). MakesNode n (table_of before entries limit refused) (table_of ns entries limit refused) (Err Memory)) (sym e.0)
      (made_memory (table_of before entries limit refused) n hi lo reduced (λ r. room r.full) e.1))

-- a triple that is not reduced reads as its `lo`
abbrev pub IsPassed : Kind → ℕ → ℕ → Type 0
IsPassed Bdd hi lo = hi ≡ lo
IsPassed Zbdd hi lo = hi ≡ 0

not_reduced : (k : Kind) (hi lo : ℕ) → IsPassed k hi lo → IsReduced k hi lo → ⊥
not_reduced Bdd hi lo p r = r p
not_reduced Zbdd hi lo p r = r p

passed-reads : (ns : List Node) → AllFit ns → (k : Kind) (v hi lo : ℕ) → stands k (v + 1) ns lo ≡ true → IsPassed k hi lo → IsSameReading k (reading ns lo) (branch v (reading ns hi) (reading ns lo))
passed-reads ns fit Bdd v hi lo sl p = λ s. elim (cases_Bool (s v)) [ inl e ↦ rw e (ap (λ x. truth ns x s) (sym p)) | inr e ↦ rw e refl ]
passed-reads ns fit Zbdd v hi lo sl p = by
  where
    by : (set : List ℕ) → has ns lo set ≡ joined v (has ns hi) (has ns lo) set
    by [] = refl
    by (y ∷ ys) = elim (eqb_tells y v) [
      | inl e ↦ rw e.0 (has-below ns fit (v + 1) lo sl y ys (omega arith) ∙ sym (ap (λ x. has ns x ys) p ∙ has-zero ns ys))
      | inr e ↦ rw e.0 refl
    ]

-- a triple that is not reduced is answered by its `lo`
pub made_passed : (t : Table) → IsTable t → (n : Node) → stands n.kind (n.var + 1) t.nodes n.lo.0 ≡ true → IsPassed n.kind n.hi.0 n.lo.0 → MakesNode n t t (Ok n.lo)
made_passed t ok n lo p =
    let no = not_reduced n.kind n.hi.0 n.lo.0 p in
    record {
      passed = λ h. refl;
      node = λ h. absurd (no h);
      stands_at = stands-weaker n.kind (n.var + 1) n.var t.nodes n.lo.0 (omega arith) lo;
      reads = passed-reads t.nodes ok.fit n.kind n.var n.hi.0 n.lo.0 lo p;
      only = only n.kind t.nodes ok.fit n.lo.0 (stands-weaker n.kind (n.var + 1) 0 t.nodes n.lo.0 (omega arith) lo);
      added = inl refl;
      full = ((λ e. cc), (λ r. absurd (no r.fits.reduced)));
      at_full = λ e. cc;
      at_memory = λ e. cc;
    }

-- a table with one more entry
pub table-entered : (t : Table) (key : MemoKey) (answer : NodeId) → IsTable t → IsRight t.nodes key answer → Lacks t.entries key → IsTable (record t { entries = t.entries ++ (key, answer) ∷ [] })
table-entered t key answer ok right lacks = record {
  fit = ok.fit;
  right = all_right-append t.nodes t.entries ((key, answer) ∷ []) ok.right (right, tt);
  different = different-push t.entries key answer ok.different lacks;
  within = ok.within;
  refused = ok.refused;
}
