-- The truth at a place of a graph, by those of the places that its node names.
use Rattle.std.proofs.Common.{◌≡◌, ◌<◌, ℕ, suc, zero, Bool, false, List, [], ◌∷◌, ◌++◌, Some, length, get_or, reverse, cond, eqb, ◌&&◌, ◌||◌, refl, sym, ap, ◌∙◌, subst, inl, inr, arith, ne_eqb, eq-eqb}
use Rattle.std.specs.List.{slice_get}
use Rattle.std.proofs.lemmas.Bool.Decides.{eqb_tells}
use Rattle.std.proofs.lemmas.List.{length-reverse, reverse-reverse, reverse-append}
use Rattle.std.proofs.lemmas.Option.{slice_get-get_or}
use lib.Dec.{eqb-suc-suc}
use Rattle.psa_graph.specs.declared.graph.Graph.{Graph}
use Rattle.psa_graph.specs.declared.graph.GraphNode.{GraphNode}
use Rattle.psa_graph.specs.declared.graph.GraphNode.TheVariants.{Constant, Literal, And, Or}
use Rattle.psa_graph.specs.Truths.{older_at, truth_at, node_truth, place_truth, IsNodeBehind, AreChildrenFirst, IsGraph}

-- an item more at the end
pushed : {A : Type 0} (xs : List A) (x : A) (i : ℕ) → slice_get (xs ++ (x ∷ [])) i ≡ cond (eqb i (length xs)) (Some x) (slice_get xs i)
pushed [] x zero = refl
pushed [] x (suc i) = rw (ne_eqb (suc i) 0 (λ e. omega arith)) refl
pushed (y ∷ ys) x zero = rw (ne_eqb zero (suc (length ys)) (λ e. omega arith)) refl
pushed (y ∷ ys) x (suc i) = rw (eqb-suc-suc i (length ys)) (pushed ys x i)

-- an older place reads the same when a node comes in
pub truth-cons : (n : GraphNode) (older : List GraphNode) (place : ℕ) (s : ℕ → Bool) → place < length older → truth_at (n ∷ older) place s ≡ truth_at older place s
truth-cons n older place s l = rw (ne_eqb place (length older) (λ e. omega arith)) refl

-- and the new place as its node
pub truth-newest : (n : GraphNode) (older : List GraphNode) (s : ℕ → Bool) → truth_at (n ∷ older) (length older) s ≡ node_truth (truth_at older) n s
truth-newest n older s = rw (eq-eqb (length older) (length older) refl) refl

-- a node reads the same over truths that agree at the places that it names
pub node-same : (f g : ℕ → (ℕ → Bool) → Bool) (width bound : ℕ) (n : GraphNode) (s : ℕ → Bool) → IsNodeBehind width bound n → ((p : ℕ) → p < bound → f p s ≡ g p s) → node_truth f n s ≡ node_truth g n s
node-same f g width bound (Constant b) s behind same = refl
node-same f g width bound (Literal rank occurs) s behind same = refl
node-same f g width bound (And left right) s behind same = let a = same left behind.0 in let b = same right behind.1 in λ i. a i && b i
node-same f g width bound (Or left right) s behind same = let a = same left behind.0 in let b = same right behind.1 in λ i. a i || b i

-- the node at a place names earlier places
pub found-behind : (width : ℕ) (ns : List GraphNode) (place : ℕ) (n : GraphNode) → AreChildrenFirst width ns → older_at ns place ≡ Some n → (place < length ns) × IsNodeBehind width place n
found-behind width [] place n first e = absurd (cc)
found-behind width (m ∷ older) place n first e = elim (eqb_tells place (length older)) [
  | inl p ↦
      let is : Some m ≡ Some n = rw p.0 at e in
      let same : m ≡ n = cc in
      (omega (arith, p.1), subst (λ (k : ℕ). IsNodeBehind width k n) (sym p.1) (subst (λ (k : GraphNode). IsNodeBehind width (length older) k) same first.0))
  | inr p ↦
      let there = found-behind width older place n first.1 (rw p.0 at e) in
      let l : place < length older = there.0 in
      (omega arith, there.1)
]

-- and reads as itself over the whole list
pub truth-found : (width : ℕ) (ns : List GraphNode) (place : ℕ) (n : GraphNode) → AreChildrenFirst width ns → older_at ns place ≡ Some n → (s : ℕ → Bool) → truth_at ns place s ≡ node_truth (truth_at ns) n s
truth-found width [] place n first e s = absurd (cc)
truth-found width (m ∷ older) place n first e s = elim (eqb_tells place (length older)) [
  | inl p ↦
      let is : Some m ≡ Some n = rw p.0 at e in
      let same : m ≡ n = cc in
      ap (λ k. truth_at (m ∷ older) k s) p.1 ∙ truth-newest m older s
      ∙ node-same (truth_at older) (truth_at (m ∷ older)) width (length older) m s first.0 (λ q l. sym (truth-cons m older q s l))
      ∙ ap (λ k. node_truth (truth_at (m ∷ older)) k s) same
  | inr p ↦
      let e' = rw p.0 at e in
      let there = found-behind width older place n first.1 e' in
      let inside : place < length older = there.0 in
      truth-cons m older place s inside ∙ truth-found width older place n first.1 e' s
      ∙ node-same (truth_at older) (truth_at (m ∷ older)) width place n s there.1 (λ q l. sym (truth-cons m older q s (omega arith)))
]

-- a list and its reverse have the same item at a place
pub reversed : {A : Type 0} (ns : List A) (place : ℕ) → slice_get (reverse ns) place ≡ older_at ns place
reversed [] place = refl
reversed (n ∷ older) place =
    rw (reverse-append (n ∷ []) older) (pushed (reverse older) n place ∙ rw (length-reverse older) (elim (eqb_tells place (length older)) [
      | inl p ↦ rw p.0 refl
      | inr p ↦ rw p.0 (reversed older place)
    ]))

-- the node of a graph at a place
module _ (graph : Graph) (ok : IsGraph graph) (place : ℕ) (n : GraphNode) (e : slice_get graph.nodes place ≡ Some n) where
  there : older_at (reverse graph.nodes) place ≡ Some n
  there = sym (reversed (reverse graph.nodes) place) ∙ ap (λ ns. slice_get ns place) (reverse-reverse graph.nodes) ∙ e

  -- names earlier places, and a rank below the width
  pub node-behind : IsNodeBehind graph.width place n
  node-behind = (found-behind graph.width (reverse graph.nodes) place n ok.children there).1

  -- and its truth is the node's over those of the places
  pub place-reads : (s : ℕ → Bool) → place_truth graph place s ≡ node_truth (place_truth graph) n s
  place-reads = truth-found graph.width (reverse graph.nodes) place n ok.children there

-- a node that was read at a place
pub node-here : (read : List GraphNode) (graph : Graph) (place : ℕ) (n : GraphNode) → read ≡ graph.nodes → place < length graph.nodes → get_or read place (Constant false) ≡ n → slice_get graph.nodes place ≡ Some n
node-here read graph place n same inside is =
    slice_get-get_or graph.nodes place (Constant false) inside
    ∙ ap (λ (x : GraphNode). Some x) (sym (ap (λ xs. get_or xs place (Constant false)) same) ∙ is)
