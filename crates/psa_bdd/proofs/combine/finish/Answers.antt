use Rattle.std.proofs.Common.{◌≡◌, ◌++◌, ◌∷◌, [], ◌*◌, ◌≤◌, ℕ, true, Ok, Err, Result, refl, sym, subst, arith}
use Rattle.psa_nodes.specs.declared.node.Kind.TheVariants.{Bdd}
use Rattle.psa_nodes.specs.declared.node.Node.{Node}
use Rattle.psa_nodes.specs.declared.node.NodeId.{NodeId}
use Rattle.psa_nodes.specs.declared.node.MemoKey.{MemoKey}
use Rattle.psa_nodes.specs.declared.node.NodeError.{NodeError}
use Rattle.psa_nodes.specs.declared.node.NodeError.TheVariants.{Memory}
use Rattle.std.proofs.lemmas.Result.{err_from_is_err_and}
use Rattle.psa_nodes.specs.Readings.{stands, truth, node_reading, level}
use Rattle.psa_nodes.specs.Table.{Table, IsTable, IsRight, MakesNode}
use Rattle.psa_nodes.specs.Progress.{IsCall, IsResult, key_level}
use Rattle.psa_nodes.proofs.CallerLemmas.{stands-kept, stands-weaker, level-stands, progress-remember, progress-own, call-done, call-memory, call-then, call-node}
use Rattle.psa_bdd.specs.declared.connective.Connective.{Connective}
use Rattle.psa_bdd.specs.Combined.{operation_of, key_of, IsCofactors, IsReady}
use Rattle.psa_bdd.proofs.KeyLemmas.{right-key, key-level}
use Rattle.psa_bdd.proofs.SidesLemmas.{own-origin, made-result}
use Rattle.psa_bdd.proofs.combine.finish.Goals as goal

-- the node, and then the entry
module _ (c : Connective) (old : Table) (ok : IsTable old) (left right : NodeId) (var : ℕ) (hi lo : NodeId) (ready : IsReady c old.nodes left.0 right.0 var hi.0 lo.0) where
  abbrev triple : Node
  triple = record { kind = Bdd; var = var; hi = hi; lo = lo }

  abbrev Called : Table → Result NodeId NodeError → Type 0
  Called now answer = IsCall (IsCofactors c (truth old.nodes left.0) (truth old.nodes right.0)) (2 * var) old now answer

  asked : (now : Table) (answer : Result NodeId NodeError) → IsTable now → MakesNode triple old now answer → Called now answer
  asked now answer good made =
      call-node triple old ok
      (record { past = omega arith; origin = own-origin c old.nodes ok.fit left.0 right.0 var hi.0 lo.0 ready (node_reading old.nodes triple) (λ s. refl) }) (λ b. ready.bounded)
      now answer good made

  module _ (now : Table) (id : NodeId) (good : IsTable now) (made : MakesNode triple old now (Ok id)) where
    left_now : stands Bdd var now.nodes left.0 ≡ true
    left_now = stands-kept (asked now (Ok id) good made).progress.nodes Bdd var left.0 ready.left_stands

    right_now : stands Bdd var now.nodes right.0 ≡ true
    right_now = stands-kept (asked now (Ok id) good made).progress.nodes Bdd var right.0 ready.right_stands

    its_result : IsResult (operation_of c) 0 now.nodes left.0 right.0 id.0
    its_result = made-result c (asked now (Ok id) good made).progress.nodes good.fit left.0 right.0 var hi.0 lo.0 id.0 ready made.stands_at made.reads

    its_right : IsRight now.nodes (key_of c left right) id
    its_right =
        right-key c now.nodes left right id
        (stands-weaker Bdd var 0 now.nodes left.0 (omega arith) left_now) (stands-weaker Bdd var 0 now.nodes right.0 (omega arith) right_now) its_result

    its_level : 2 * var ≤ key_level now.nodes (key_of c left right)
    its_level =
        let l : 2 * var ≤ level now.nodes left.0 = level-stands Bdd var now.nodes left.0 (omega (arith, ready.bounded)) left_now in
        let r : 2 * var ≤ level now.nodes right.0 = level-stands Bdd var now.nodes right.0 (omega (arith, ready.bounded)) right_now in
        rw (key-level c now.nodes left right) (omega arith)

    -- the node stands, and its result is remembered
    entered : (key : MemoKey) → key ≡ key_of c left right → (after : Table) → after ≡ record now { entries = now.entries ++ (key, id) ∷ [] } → IsTable after → Called after (Ok id)
    entered key e after same after_good =
        subst (λ (t : Table). Called t (Ok id)) (sym same)
        (call-then id (Ok id) (asked now (Ok id) good made)
        (call-done id (progress-remember now key id (subst IsTable same after_good) (rw e its_level)) refl))

    -- or memory was wanted for it
    wanted : (after : Table) → after ≡ now → Called after (Err Memory)
    wanted after same =
        subst (λ (t : Table). Called t (Err Memory)) (sym same)
        (call-then id (Err Memory) (asked now (Ok id) good made) (call-memory (progress-own now good) refl))

pub returns-in_err-id-clause-call : goal.returns-in_err-id-clause-call
returns-in_err-id-clause-call c =
    let a = c.args in
    let p = err_from_is_err_and c.from_residual.result c.from_residual.ensures.1 in
    rw (p.1, p.2) (asked a.connective a.table.now c.requires.table a.left a.right a.var a.hi a.lo c.requires.ready
    c.bdd_node.new.self (Err c.in_err-id.field-0.0) c.in_err-id.ensures.table c.in_err-id.ensures.made)

pub remember-requires-clause-right : goal.remember-requires-clause-right
remember-requires-clause-right c =
    let a = c.args in
    rw c.key.ensures (its_right a.connective a.table.now c.requires.table a.left a.right a.var a.hi a.lo c.requires.ready
    c.bdd_node.new.self c.in_ok-id.id c.in_ok-id.ensures.table c.in_ok-id.ensures.made)

pub returns-clause-combined : goal.returns-clause-combined
returns-clause-combined c =
    let a = c.args in
    subst (λ (t : Table). IsResult (operation_of a.connective) 0 t.nodes a.left.0 a.right.0 c.in_ok-id.id.0) (sym c.in_ok-remember.ensures.ok)
    (its_result a.connective a.table.now c.requires.table a.left a.right a.var a.hi a.lo c.requires.ready
    c.bdd_node.new.self c.in_ok-id.id c.in_ok-id.ensures.table c.in_ok-id.ensures.made)

pub returns-clause-call : goal.returns-clause-call
returns-clause-call c =
    let a = c.args in
    entered a.connective a.table.now c.requires.table a.left a.right a.var a.hi a.lo c.requires.ready
    c.bdd_node.new.self c.in_ok-id.id c.in_ok-id.ensures.table c.in_ok-id.ensures.made
    c.key.result c.key.ensures c.remember.new.self c.in_ok-remember.ensures.ok c.remember.ensures.table

pub returns-in_err-remember-clause-call : goal.returns-in_err-remember-clause-call
returns-in_err-remember-clause-call c =
    let a = c.args in
    let p = err_from_is_err_and c.from_residual-in_err-remember.result c.from_residual-in_err-remember.ensures.1 in
    rw (p.1, p.2) (wanted a.connective a.table.now c.requires.table a.left a.right a.var a.hi a.lo c.requires.ready
    c.bdd_node.new.self c.in_ok-id.id c.in_ok-id.ensures.table c.in_ok-id.ensures.made
    c.remember.new.self c.in_err-remember.ensures.err)
