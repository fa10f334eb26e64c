-- The family of a literal.
use Rattle.std.proofs.Common.{◌≡◌, ℕ, ◌<◌, ◌≤◌, Bool, true, false, List, [], ◌∷◌, length, Result, Ok, Err, IfOk, OnOk, refl, sym, ap, ◌∙◌, inl, inr, arith}
use Rattle.std.proofs.lemmas.Bool.{false≢true}
use Rattle.std.proofs.lemmas.Bool.Decides.{eqb_tells}
use Rattle.psa_logic.specs.Sets.{occurs}
use Rattle.psa_logic.specs.Products.{literal_number}
use Rattle.psa_graph.specs.Truths.{literal_truth}
use Rattle.psa_nodes.specs.declared.node.Kind.TheVariants.{Zbdd}
use Rattle.psa_nodes.specs.declared.node.Node.{Node}
use Rattle.psa_nodes.specs.declared.node.NodeId.{NodeId}
use Rattle.psa_nodes.specs.declared.node.NodeError.{NodeError}
use Rattle.psa_nodes.specs.declared.node.TheConstants.{MAX_LITERAL_NUMBERS}
use Rattle.psa_nodes.specs.declared.node.TheConstants.NodeId.{EMPTY, UNIT}
use Rattle.psa_nodes.specs.Readings.{has, joined}
use Rattle.psa_nodes.specs.Table.{Table, IsTable, MakesNode}
use Rattle.psa_nodes.specs.Progress.{IsCall}
use Rattle.psa_nodes.specs.Tails.{AreTailsOf}
use Rattle.psa_nodes.proofs.CallerLemmas.{stands-weaker, stands-terminal, has-zero, joined-own, call-node, tail-own}
use Rattle.psa_zbdd.specs.GraphFamilies.{IsSignedImplicant, IsCoverAt}
use Rattle.psa_families.proofs.TerminalLemmas.{has-terminal}
use Rattle.psa_families.proofs.TerminalLemmas.{terminal-empty}
use Rattle.psa_zbdd.proofs.CoverLemmas.{cover-none, cover-all, cover-literal, literal-sound}

-- a terminal covers a constant
pub unit-cover : (width limit : ℕ) (f : (ℕ → Bool) → Bool) (ns : List Node) → ((s : ℕ → Bool) → f s ≡ true) → IsCoverAt width limit f ns 1
unit-cover width limit f ns always = record {
  stands_at = stands-terminal Zbdd 0 ns 1 (omega arith);
  cover = cover-all width limit f (has ns 1) (has-terminal ns 1 [] (omega arith)) (λ set m. terminal-empty ns 1 (omega arith) set m) always;
}

pub empty-cover : (width limit : ℕ) (f : (ℕ → Bool) → Bool) (ns : List Node) → ((set : List ℕ) → length set ≤ limit → f (occurs set) ≡ false) → IsCoverAt width limit f ns 0
empty-cover width limit f ns never = record {
  stands_at = stands-terminal Zbdd 0 ns 0 (omega arith);
  cover = cover-none width limit f (has ns 0) (λ set. has-zero ns set) never;
}

-- where no event may occur, none of one that does holds
pub never-occurs : (rank limit : ℕ) → limit ≡ 0 → (set : List ℕ) → length set ≤ limit → literal_truth rank true (occurs set) ≡ false
never-occurs rank limit e [] le = refl
never-occurs rank limit e (x ∷ xs) le = absurd (omega (arith, e, le))

-- the family of one literal
module _ (ns : List Node) (x : ℕ) where
  single-own : joined x (has ns 1) (has ns 0) (x ∷ []) ≡ true
  single-own = joined-own x (has ns 1) (has ns 0) [] ∙ has-terminal ns 1 [] (omega arith)

  single-only : (set : List ℕ) → joined x (has ns 1) (has ns 0) set ≡ true → set ≡ x ∷ []
  single-only [] m = absurd (false≢true (sym (has-zero ns []) ∙ m))
  single-only (y ∷ ys) m = elim (eqb_tells y x) [
    | inl p ↦ ap (λ (z : ℕ). z ∷ ys) p.1 ∙ ap (λ (l : List ℕ). x ∷ l) (terminal-empty ns 1 (omega arith) ys (rw p.0 at m))
    | inr p ↦ absurd (false≢true (sym (has-zero ns (y ∷ ys)) ∙ rw p.0 at m))
  ]

module _ (limit rank : ℕ) (happens : Bool) (some : happens ≡ true → 1 ≤ limit) (before : Table) (ok : IsTable before) (small : literal_number rank happens < MAX_LITERAL_NUMBERS) where
  abbrev literal : ℕ
  literal = literal_number rank happens

  abbrev single : Node
  single = record { kind = Zbdd; var = literal; hi = UNIT; lo = EMPTY }

  -- covers its truth
  pub single-cover : (now : Table) (answer : Result NodeId NodeError) → MakesNode single before now answer → (width : ℕ) → rank < width → IfOk answer (λ id. IsCoverAt width limit (literal_truth rank happens) now.nodes id.0)
  single-cover now (Err e) made width below = tt
  single-cover now (Ok id) made width below = record {
    stands_at = stands-weaker Zbdd literal 0 now.nodes id.0 (omega arith) made.stands_at;
    cover = cover-literal width limit rank happens below some (has now.nodes id.0) (made.reads (literal ∷ []) ∙ single-own before.nodes literal)
        (λ set m. single-only before.nodes literal set (sym (made.reads set) ∙ m));
  }

  -- is its own tail
  pub single-call : (now : Table) (answer : Result NodeId NodeError) → IsTable now → MakesNode single before now answer → (width : ℕ) → rank < width → IsCall (AreTailsOf (IsSignedImplicant width limit (literal_truth rank happens))) 0 before now answer
  single-call now answer good made width below =
      call-node single before ok (record {
        past = omega arith;
        origin = record {
          of_zbdd = refl;
          tails = λ set m. record {
            whole = literal ∷ [];
            member = literal-sound width limit rank happens below some;
            tail = single-only before.nodes literal set m ∙ sym (tail-own literal literal [] (omega arith));
          };
        };
      }) (λ b. small) now answer good made

  -- and remembers nothing
  pub single-entries : (now : Table) (answer : Result NodeId NodeError) → MakesNode single before now answer → OnOk answer (now.entries ≡ before.entries)
  single-entries now (Ok id) made = elim made.added [
    | inl p ↦ ap (λ (t : Table). t.entries) p
    | inr p ↦ ap (λ (t : Table). t.entries) p.0
  ]
  single-entries now (Err e) made = tt
