use Rattle.std.proofs.Common.{◌≡◌, ◌++◌, ◌∷◌, [], ◌≤◌, ℕ, Ok, Err, Result, refl, sym, subst, arith}
use Rattle.std.proofs.lemmas.Result.{err_from_is_err_and}
use Rattle.psa_nodes.specs.declared.node.Kind.TheVariants.{Zbdd}
use Rattle.psa_nodes.specs.declared.node.Node.{Node}
use Rattle.psa_nodes.specs.declared.node.NodeId.{NodeId}
use Rattle.psa_nodes.specs.declared.node.MemoKey.{MemoKey}
use Rattle.psa_nodes.specs.declared.node.NodeError.{NodeError}
use Rattle.psa_nodes.specs.declared.node.NodeError.TheVariants.{Memory}
use Rattle.psa_nodes.specs.Readings.{has, joined, node_reading}
use Rattle.psa_nodes.specs.Table.{Table, IsTable, IsRight, MakesNode}
use Rattle.psa_nodes.specs.Progress.{IsCall, IsResult, key_level}
use Rattle.psa_nodes.proofs.CallerLemmas.{key_level-kept, stands-below, progress-remember, progress-own, call-done, call-memory, call-then, call-node}
use Rattle.psa_nodes.specs.Tails.{IsMember, AreTailsOf}
use Rattle.psa_nodes.specs.Making.{IsReady}
use Rattle.psa_nodes.proofs.CallerLemmas.{own-tails}
use Rattle.psa_nodes.proofs.ResultLemmas.{made-right, remembered-result}
use Rattle.psa_nodes.specs.Operations.{operand_kind}
use Rattle.psa_nodes.proofs.making.remember_family.Goals as goal

-- the node, and then the entry
module _ (old : Table) (ok : IsTable old) (key : MemoKey) (var : ℕ) (hi lo : NodeId) (ready : IsReady old.nodes key var hi.0 lo.0) where
  abbrev triple : Node
  triple = record { kind = Zbdd; var = var; hi = hi; lo = lo }

  abbrev Called : Table → Result NodeId NodeError → Type 0
  Called now answer = IsCall (AreTailsOf (IsMember (joined var (has old.nodes hi.0) (has old.nodes lo.0)))) var old now answer

  asked : (now : Table) (answer : Result NodeId NodeError) → IsTable now → MakesNode triple old now answer → Called now answer
  asked now answer good made =
      call-node triple old ok
      (record { past = omega arith; origin = own-tails old.nodes ok.fit var hi.0 lo.0 ready.lo_stands (node_reading old.nodes triple) (λ set. refl) }) (λ b. ready.bounded)
      now answer good made

  module _ (now : Table) (id : NodeId) (good : IsTable now) (made : MakesNode triple old now (Ok id)) where
    its_right : IsRight now.nodes key id
    its_right = made-right (asked now (Ok id) good made).progress.nodes good.fit key var hi.0 lo.0 id ready made.stands_at made.reads

    its_result : IsResult key.operation key.limit now.nodes key.left.0 key.right.0 id.0
    its_result = remembered-result now.nodes key id good.fit its_right

    its_level : var ≤ key_level now.nodes key
    its_level =
        rw (key_level-kept (asked now (Ok id) good made).progress.nodes key
        (stands-below (operand_kind key.operation) 0 old.nodes key.left.0 ready.left_stands) (stands-below (operand_kind key.operation) 0 old.nodes key.right.0 ready.right_stands)) ready.past

    -- the node stands, and its result is remembered
    entered : (after : Table) → after ≡ record now { entries = now.entries ++ (key, id) ∷ [] } → IsTable after → Called after (Ok id)
    entered after same after_good =
        subst (λ (t : Table). Called t (Ok id)) (sym same)
        (call-then id (Ok id) (asked now (Ok id) good made)
        (call-done id (progress-remember now key id (subst IsTable same after_good) its_level) refl))

    -- or memory was wanted for it
    wanted : (after : Table) → after ≡ now → Called after (Err Memory)
    wanted after same =
        subst (λ (t : Table). Called t (Err Memory)) (sym same)
        (call-then id (Err Memory) (asked now (Ok id) good made) (call-memory (progress-own now good) refl))

pub returns-in_err-id-clause-call : goal.returns-in_err-id-clause-call
returns-in_err-id-clause-call c =
    let a = c.args in
    let p = err_from_is_err_and c.from_residual.result c.from_residual.ensures.1 in
    rw (p.1, p.2) (asked a.table.now c.requires.table a.key a.var a.hi a.lo c.requires.ready
    c.zbdd_node.new.self (Err c.in_err-id.field-0.0) c.in_err-id.ensures.table c.in_err-id.ensures.made)

pub remember-requires-clause-right : goal.remember-requires-clause-right
remember-requires-clause-right c =
    let a = c.args in
    its_right a.table.now c.requires.table a.key a.var a.hi a.lo c.requires.ready
    c.zbdd_node.new.self c.in_ok-id.id c.in_ok-id.ensures.table c.in_ok-id.ensures.made

pub returns-clause-made : goal.returns-clause-made
returns-clause-made c =
    let a = c.args in
    subst (λ (t : Table). IsResult a.key.operation a.key.limit t.nodes a.key.left.0 a.key.right.0 c.in_ok-id.id.0) (sym c.in_ok-remember.ensures.ok)
    (its_result a.table.now c.requires.table a.key a.var a.hi a.lo c.requires.ready
    c.zbdd_node.new.self c.in_ok-id.id c.in_ok-id.ensures.table c.in_ok-id.ensures.made)

pub returns-clause-call : goal.returns-clause-call
returns-clause-call c =
    let a = c.args in
    entered a.table.now c.requires.table a.key a.var a.hi a.lo c.requires.ready
    c.zbdd_node.new.self c.in_ok-id.id c.in_ok-id.ensures.table c.in_ok-id.ensures.made
    c.remember.new.self c.in_ok-remember.ensures.ok c.remember.ensures.table

pub returns-in_err-remember-clause-call : goal.returns-in_err-remember-clause-call
returns-in_err-remember-clause-call c =
    let a = c.args in
    let p = err_from_is_err_and c.from_residual-in_err-remember.result c.from_residual-in_err-remember.ensures.1 in
    rw (p.1, p.2) (wanted a.table.now c.requires.table a.key a.var a.hi a.lo c.requires.ready
    c.zbdd_node.new.self c.in_ok-id.id c.in_ok-id.ensures.table c.in_ok-id.ensures.made
    c.remember.new.self c.in_err-remember.ensures.err)
