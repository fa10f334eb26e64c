-- How what a call does to the table grows: one step after another, for a wider origin, by a node or an
-- entry more.
use Rattle.std.proofs.Common.{◌≡◌, ◌⊎◌, ℕ, ◌+◌, ◌<◌, ◌≤◌, min, true, IsSome, List, [], ◌∷◌, ◌++◌, length, Some, Result, Ok, Err, refl, sym, ap, ap₂, subst, ◌∙◌, inl, inr, arith, append_assoc, append-nil}
use Rattle.std.proofs.lemmas.Bool.Decides.{eqb_tells}
use Rattle.psa_nodes.specs.declared.node.Kind.{Kind}
use Rattle.psa_nodes.specs.declared.node.Node.{Node}
use Rattle.psa_nodes.specs.declared.node.NodeId.{NodeId}
use Rattle.psa_nodes.specs.declared.node.MemoKey.{MemoKey}
use Rattle.psa_nodes.specs.declared.node.NodeError.{NodeError}
use Rattle.psa_nodes.specs.declared.node.NodeError.TheVariants.{Full, Memory}
use Rattle.psa_nodes.specs.Readings.{next_id, node_at, stands, first_literal, Reading, reading, node_reading}
use Rattle.psa_nodes.specs.Nodes.{Grown, max_variables, IsBounded}
use Rattle.psa_nodes.specs.Operations.{operand_kind}
use Rattle.psa_nodes.specs.Table.{Table, IsTable, IsRight, AllRight, Lacks, MakesNode}
use Rattle.psa_nodes.specs.Progress.{key_level, AllPast, IsFrom, AreNew, Progress, IsCall}
use Rattle.psa_nodes.proofs.StandsLemmas.{stands-below, node_at-below, node_at-some}
use Rattle.psa_nodes.proofs.GrownLemmas.{grown-own, grown-cons, grown-then, level-kept, reading-kept}
use Rattle.psa_nodes.proofs.NodeAtLemmas.{reading-newest}
use Rattle.psa_nodes.proofs.BoundedLemmas.{bounded-cons}

-- a key keeps its level
pub key_level-kept : {before now : List Node} → Grown before now → (key : MemoKey) → key.left.0 < length before + 2 → key.right.0 < length before + 2 → key_level now key ≡ key_level before key
key_level-kept g key left right = ap₂ min (level-kept g key.left.0 left) (level-kept g key.right.0 right)

-- the key of a right entry keeps its level
pub key_level-right : {before now : List Node} → Grown before now → (key : MemoKey) (answer : NodeId) → IsRight before key answer → key_level now key ≡ key_level before key
key_level-right {before} g key answer r =
    key_level-kept g key (stands-below (operand_kind key.operation) 0 before key.left.0 r.left_stands) (stands-below (operand_kind key.operation) 0 before key.right.0 r.right_stands)

past-kept : {before now : List Node} → Grown before now → (low : ℕ) (es : List (MemoKey × NodeId)) → AllRight before es → AllPast before low es → AllPast now low es
past-kept g low [] r p = tt
past-kept g low (e ∷ es) r p = (rw (key_level-right g e.0 e.1 r.0) p.0, past-kept g low es r.1 p.1)

past-append : (ns : List Node) (low : ℕ) (es fs : List (MemoKey × NodeId)) → AllPast ns low es → AllPast ns low fs → AllPast ns low (es ++ fs)
past-append ns low [] fs p q = q
past-append ns low (e ∷ es) fs p q = (p.0, past-append ns low es fs p.1 q)

past-lower : (ns : List Node) (low wide : ℕ) → wide ≤ low → (es : List (MemoKey × NodeId)) → AllPast ns low es → AllPast ns wide es
past-lower ns low wide le [] p = tt
past-lower ns low wide le (e ∷ es) p = (omega (arith, p.0), past-lower ns low wide le es p.1)

right-tail : (ns : List Node) (es fs : List (MemoKey × NodeId)) → AllRight ns (es ++ fs) → AllRight ns fs
right-tail ns [] fs r = r
right-tail ns (e ∷ es) fs r = right-tail ns es fs r.1

-- the entries that a step added are right
added-right : (t : Table) (before : List (MemoKey × NodeId)) (more : List (MemoKey × NodeId)) → IsTable t → t.entries ≡ before ++ more → AllRight t.nodes more
added-right t before more ok e = right-tail t.nodes before more (subst (AllRight t.nodes) e ok.right)

lacks-append : (es more : List (MemoKey × NodeId)) (key : MemoKey) → Lacks es key → Lacks more key → Lacks (es ++ more) key
lacks-append [] more key l m = m
lacks-append (e ∷ es) more key l m = (l.0, lacks-append es more key l.1 m)

lacks-past : (ns : List Node) (low : ℕ) (es : List (MemoKey × NodeId)) (key : MemoKey) → key_level ns key < low → AllPast ns low es → Lacks es key
lacks-past ns low [] key lt p = tt
lacks-past ns low (e ∷ es) key lt p =
    ((λ same. let past : low ≤ key_level ns key = subst (λ (k : MemoKey). low ≤ key_level ns k) same p.0 in omega arith), lacks-past ns low es key lt p.1)

module _ {Origin : Kind → ℕ → Reading → Type 0} {low : ℕ} where
  -- nothing was done
  pub progress-own : (t : Table) → IsTable t → Progress Origin low t t
  progress-own t ok = record {
    table = ok;
    nodes = grown-own t.nodes;
    entries = record { more = []; appended = sym (append-nil t.entries); past = tt };
    same_limit = refl;
    added = λ id n at. inl at;
    bounded = λ h. h;
  }

  -- one step after another
  pub progress-then : {first second third : Table} → Progress Origin low first second → Progress Origin low second third → Progress Origin low first third
  progress-then {first} {second} {third} a b = record {
    table = b.table;
    nodes = grown-then a.nodes b.nodes;
    entries = record {
      more = a.entries.more ++ b.entries.more;
      appended = b.entries.appended ∙ ap (λ es. es ++ b.entries.more) a.entries.appended ∙ append_assoc first.entries a.entries.more b.entries.more;
      past = past-append third.nodes low a.entries.more b.entries.more
          (past-kept b.nodes low a.entries.more (added-right second first.entries a.entries.more a.table a.entries.appended) a.entries.past)
          b.entries.past;
    };
    same_limit = b.same_limit ∙ a.same_limit;
    added = λ id n at. elim (b.added id n at) [
      | inl older ↦ elim (a.added id n older) [
        | inl oldest ↦ inl oldest
        | inr from ↦ inr (subst (IsFrom Origin low n) (sym (reading-kept b.nodes id (node_at-below second.nodes id n older))) from)
      ]
      | inr from ↦ inr from
    ];
    bounded = λ h. b.bounded (a.bounded h);
  }

  -- a key below the steps is lacked still
  pub progress-lacks : {before now : Table} → Progress Origin low before now → (key : MemoKey) → Lacks before.entries key → key_level now.nodes key < low → Lacks now.entries key
  progress-lacks {before} {now} p key lacks lt =
      rw p.entries.appended (lacks-append before.entries p.entries.more key lacks (lacks-past now.nodes low p.entries.more key lt p.entries.past))

  -- a result was remembered
  pub progress-remember : (t : Table) (key : MemoKey) (answer : NodeId) → IsTable (record t { entries = t.entries ++ (key, answer) ∷ [] }) → low ≤ key_level t.nodes key → Progress Origin low t (record t { entries = t.entries ++ (key, answer) ∷ [] })
  progress-remember t key answer ok past = record {
    table = ok;
    nodes = grown-own t.nodes;
    entries = record { more = (key, answer) ∷ []; appended = refl; past = (past, tt) };
    same_limit = refl;
    added = λ id n at. inl at;
    bounded = λ h. h;
  }

  -- a node was added
  pub progress-node : (t : Table) (n : Node) → IsTable (record t { nodes = n ∷ t.nodes }) → IsFrom Origin low n (node_reading t.nodes n) → (IsBounded t.nodes → n.var < max_variables n.kind)
      → Progress Origin low t (record t { nodes = n ∷ t.nodes })
  progress-node t n ok from small = record {
    table = ok;
    nodes = grown-cons n t.nodes;
    entries = record { more = []; appended = sym (append-nil t.entries); past = tt };
    same_limit = refl;
    added = added;
    bounded = λ h. bounded-cons n t.nodes (small h) h;
  }
    where
      added : AreNew Origin low t.nodes (n ∷ t.nodes)
      added id m at =
          elim (eqb_tells id (next_id t.nodes)) [
            | inl p ↦
                let same : Some n ≡ Some m = rw p.0 at at in
                let own : n ≡ m = cc in
                inr (subst (λ (x : Node). IsFrom Origin low x (reading (n ∷ t.nodes) id)) own
                (subst (IsFrom Origin low n) (sym (ap (reading (n ∷ t.nodes)) p.1 ∙ reading-newest n t.nodes)) from))
            | inr p ↦ inl (rw p.0 at at)
          ]

  module _ {A : Type 0} where
    -- an answer without a change
    pub call-same : (t : Table) (answer : A) → IsTable t → IsCall Origin low t t (Ok answer)
    call-same t answer ok = record { progress = progress-own t ok; full = λ e. cc; kept = λ e. refl }

    -- steps and an answer
    pub call-done : {before now : Table} (answer : A) → Progress Origin low before now → now.refused ≡ before.refused → IsCall Origin low before now (Ok answer)
    call-done answer p same = record { progress = p; full = λ e. cc; kept = λ e. same }

    -- want of memory
    pub call-memory : {before now : Table} → Progress Origin low before now → now.refused ≡ before.refused → IsCall Origin low {A = A} before now (Err Memory)
    call-memory p same = record { progress = p; full = λ e. cc; kept = λ e. same }

    -- an error that is passed on
    pub call-error : {B : Type 0} {before now : Table} (e : NodeError) → IsCall Origin low {A = A} before now (Err e) → IsCall Origin low {A = B} before now (Err e)
    call-error {B} e c = record {
      progress = c.progress;
      full = λ p. c.full (let q : e ≡ Full = cc in ap (λ (x : NodeError). let r : Result A NodeError = Err x in r) q);
      kept = λ ne. c.kept (λ p. ne (let q : e ≡ Full = cc in ap (λ (x : NodeError). let r : Result B NodeError = Err x in r) q));
    }

    -- one call after another that was answered
    pub call-then : {B : Type 0} {first second third : Table} (answer : A) (last : Result B NodeError) → IsCall Origin low first second (Ok answer) → IsCall Origin low second third last → IsCall Origin low first third last
    call-then answer last a b = record {
      progress = progress-then a.progress b.progress;
      full = b.full;
      kept = λ ne. b.kept ne ∙ a.kept (λ e. cc);
    }

-- for a lower start and a wider origin
module _ {Origin Wide : Kind → ℕ → Reading → Type 0} {low wide : ℕ} (le : wide ≤ low) (wider : (k : Kind) (v : ℕ) (r : Reading) → low ≤ first_literal k v → Origin k v r → Wide k v r) where
  from-wide : (n : Node) (r : Reading) → IsFrom Origin low n r → IsFrom Wide wide n r
  from-wide n r f = record { past = omega (arith, f.past); origin = wider n.kind n.var r f.past f.origin }

  -- steps of a narrower call are steps of a wider one
  pub progress-wide : {before now : Table} → Progress Origin low before now → Progress Wide wide before now
  progress-wide {before} {now} p = record {
    table = p.table;
    nodes = p.nodes;
    entries = record { more = p.entries.more; appended = p.entries.appended; past = past-lower now.nodes low wide le p.entries.more p.entries.past };
    same_limit = p.same_limit;
    added = λ id n at. elim (p.added id n at) [ inl older ↦ inl older | inr from ↦ inr (from-wide n (reading now.nodes id) from) ];
    bounded = p.bounded;
  }

  -- and so is the whole call
  pub call-wide : {A : Type 0} {before now : Table} (answer : Result A NodeError) → IsCall Origin low before now answer → IsCall Wide wide before now answer
  call-wide {A} {before} {now} answer c = record {
    progress = progress-wide c.progress;
    full = λ e. let f = c.full e in record { triple = f.triple; last = f.last; refusal = f.refusal; from = from-wide f.triple (node_reading now.nodes f.triple) f.from };
    kept = c.kept;
  }

-- asking for a node is such a call
module _ {Origin : Kind → ℕ → Reading → Type 0} {low : ℕ} (n : Node) (before : Table) (ok : IsTable before) (from : IsFrom Origin low n (node_reading before.nodes n)) (small : IsBounded before.nodes → n.var < max_variables n.kind) where
  node_ok : (now : Table) (id : NodeId) → IsTable now → (now ≡ before) ⊎ (now ≡ record before { nodes = n ∷ before.nodes }) → IsCall Origin low before now (Ok id)
  node_ok now id good a =
      elim a [
        | inl p ↦ subst (λ (t : Table). IsCall Origin low before t (Ok id)) (sym p) (call-same before id ok)
        | inr p ↦ subst (λ (t : Table). IsCall Origin low before t (Ok id)) (sym p)
            (call-done id (progress-node before n (subst IsTable p good) from small) refl)
      ]

  -- what `bdd_node` and `zbdd_node` do is such a call
  pub call-node : (now : Table) (answer : Result NodeId NodeError) → IsTable now → MakesNode n before now answer → IsCall Origin low before now answer
  call-node now (Ok id) good m = node_ok now id good (elim m.added [ inl p ↦ inl p | inr p ↦ inr p.0 ])
  call-node now (Err Memory) good m =
      subst (λ (t : Table). IsCall Origin low {A = NodeId} before t (Err Memory)) (sym (m.at_memory refl).0) (call-memory (progress-own before ok) refl)
  call-node now (Err Full) good m =
      let e = m.at_full refl in
      let good' : IsTable (record before { refused = Some n }) = subst IsTable e good in
      subst (λ (t : Table). IsCall Origin low {A = NodeId} before t (Err Full)) (sym e) (record {
        progress = record {
          table = good';
          nodes = grown-own before.nodes;
          entries = record { more = []; appended = sym (append-nil before.entries); past = tt };
          same_limit = refl;
          added = λ id k at. inl at;
          bounded = λ h. h;
        };
        full = λ e. record { triple = n; last = refl; refusal = m.full.0 refl; from = from };
        kept = λ ne. absurd (ne refl);
      })

-- asking for a node adds nodes alone
pub made-grown : (n : Node) (before now : Table) (id : NodeId) → MakesNode n before now (Ok id) → Grown before.nodes now.nodes
made-grown n before now id m =
    elim m.added [
      | inl p ↦ subst (λ (t : Table). Grown before.nodes t.nodes) (sym p) (grown-own before.nodes)
      | inr p ↦ subst (λ (t : Table). Grown before.nodes t.nodes) (sym p.0) (grown-cons n before.nodes)
    ]

-- an id that stands and is no terminal has a node
pub some-inner : (k : Kind) (v : ℕ) (ns : List Node) (id : ℕ) → stands k v ns id ≡ true → 2 ≤ id → IsSome (node_at ns id)
some-inner k v ns id st past = let r = node_at-some ns id past (stands-below k v ns id st) in rw r.1 refl
