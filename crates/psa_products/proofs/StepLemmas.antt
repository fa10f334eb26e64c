-- What each step of a walk keeps.
use Rattle.std.proofs.Common.{◌≡◌, ℕ, zero, suc, ◌+◌, ◌-◌, ◌<◌, ◌≤◌, Bool, true, false, List, [], ◌∷◌, ◌++◌, map, take, length, length-append, Some, refl, sym, ap, subst, ◌∙◌, inl, inr, arith, true≢false}
use Rattle.std.proofs.lemmas.List.{length-map, map-append}
use Rattle.std.proofs.Math.Seq.{take-append_seam}
use Rattle.arrayvec.specs.ArrayVec.{ArrayVec}
use Rattle.psa_logic.proofs.LiteralLemmas.{literal-read}
use Rattle.psa_nodes.specs.declared.node.Kind.TheVariants.{Zbdd}
use Rattle.psa_nodes.specs.declared.node.Node.{Node}
use Rattle.psa_nodes.specs.declared.node.NodeId.{NodeId}
use Rattle.psa_nodes.specs.Readings.{node_at, has, joined, is_empty, stands, Reading}
use Rattle.psa_nodes.specs.Nodes.{AllFit}
use Rattle.psa_nodes.specs.Sizes.{HasMember}
use Rattle.psa_nodes.proofs.CallerLemmas.{at, At, stands-at, stands-weaker, stands-terminal, joined-member, has-one, has-zero}
use Rattle.psa_model.specs.declared.product.Literal.{Literal}
use Rattle.psa_model.specs.Literals.{literals_of}
use Rattle.psa_products.specs.declared.walk.Walk.{Walk}
use Rattle.psa_products.specs.Products.{literal_of}
use Rattle.psa_products.specs.Members.{led, sized, coming}
use Rattle.psa_products.specs.Walks.{to_come, AreTaken, IsWalk, steps_up}
use Rattle.psa_products.proofs.MemberLemmas.{IsBySides, Children, children, sized-empty}
use Rattle.psa_products.proofs.PathLemmas.{coming-take, coming-same, coming-pop, coming-found, taken-push, taken-pop}

-- where the walk has a member to come at the end of its path
abbrev pub HasNext : Walk → Type 0
HasNext w = HasMember (has w.table.now.nodes w.at.0) w.left

-- the literals of the nodes taken
abbrev pub literals : List Node → List Literal
literals nodes = map (λ (n : Node). literal_of n.var) nodes

-- a walk has few literals to come
pub few-left : (w : Walk) → IsWalk w → w.left ≤ 32
few-left w walk = let size = walk.size in let limit = walk.limit in omega (arith, size, limit)

-- a family with a member is no terminal but 1
pub inner : (ns : List Node) (id k : ℕ) → HasMember (has ns id) k → (id ≡ 1 → ⊥) → 2 ≤ id
inner ns zero k m other = absurd (true≢false (sym m.is_member ∙ has-zero ns m.member))
inner ns (suc id) k m other = by id refl
  where
    by : (i : ℕ) → id ≡ i → 2 ≤ suc id
    by zero e = absurd (other (ap suc e))
    by (suc i) e = omega (arith, e)

-- the member of the terminal 1 has no literal
pub ended : (ns : List Node) (k : ℕ) → HasMember (has ns 1) k → k ≡ 0
ended ns k m = by m.member m.is_member m.of_size
  where
    by : (set : List ℕ) → has ns 1 set ≡ true → length set ≡ k → k ≡ 0
    by [] h e = sym e
    by (y ∷ ys) h e = absurd (true≢false (sym h ∙ has-one ns (y ∷ ys)))

-- the children of a node of a family
pub record Inner (ns : List Node) (id : ℕ) (m : Node) : Type 0 where
  pub hi : stands Zbdd 0 ns m.hi.0 ≡ true
  pub lo : stands Zbdd 0 ns m.lo.0 ≡ true
  pub family : has ns id ≡ joined m.var (has ns m.hi.0) (has ns m.lo.0)

pub inner-node : (ns : List Node) → AllFit ns → (id : ℕ) (m : Node) → stands Zbdd 0 ns id ≡ true → node_at ns id ≡ Some m → Inner ns id m
inner-node ns fit id m h there =
    let a = at ns fit id m there in
    let kind = (stands-at Zbdd 0 ns id m h there).0 in
    let hi : stands Zbdd (m.var + 1) ns m.hi.0 ≡ true = rw kind at a.hi in
    let lo : stands Zbdd (m.var + 1) ns m.lo.0 ≡ true = rw kind at a.lo in
    record {
      hi = stands-weaker Zbdd (m.var + 1) 0 ns m.hi.0 (omega arith) hi;
      lo = stands-weaker Zbdd (m.var + 1) 0 ns m.lo.0 (omega arith) lo;
      family = ap (λ (r : Reading). r.as_family) a.reads;
    }

-- all but the last
take-last : {A : Type 0} (xs : List A) (x : A) → take (length (xs ++ x ∷ []) - 1) (xs ++ x ∷ []) ≡ xs
take-last xs x =
    let n : length (xs ++ x ∷ []) - 1 ≡ length xs = omega (arith, length-append xs (x ∷ [])) in
    ap (λ n. take n (xs ++ x ∷ [])) n ∙ take-append_seam xs (x ∷ [])

-- a literal more, and one less
literals-push : (product : List Literal) (nodes more : List Node) (m : Node) (longer : List Literal) → product ≡ literals nodes → more ≡ nodes ++ m ∷ [] → longer ≡ product ++ literal_of m.var ∷ []
    → longer ≡ literals more
literals-push product nodes more m longer same e e' =
    e' ∙ ap (λ (ls : List Literal). ls ++ literal_of m.var ∷ []) same
    ∙ sym (map-append (λ (n : Node). literal_of n.var) nodes (m ∷ []))
    ∙ ap literals (sym e)

literals-pop : (product : List Literal) (nodes less : List Node) (m : Node) (shorter : List Literal) → product ≡ literals nodes → nodes ≡ less ++ m ∷ [] → shorter ≡ take (length product - 1) product
    → shorter ≡ literals less
literals-pop product nodes less m shorter same e e' =
    let spelled : product ≡ literals less ++ literal_of m.var ∷ [] =
    same ∙ ap literals e ∙ map-append (λ (n : Node). literal_of n.var) less (m ∷ []) in
    e'
    ∙ ap (λ (ls : List Literal). take (length ls - 1) ls) spelled
    ∙ take-last (literals less) (literal_of m.var)

-- the literals of the nodes are as many
pub as-many : (product : List Literal) (nodes : List Node) → product ≡ literals nodes → length product ≡ length nodes
as-many product nodes same = ap length same ∙ length-map nodes (λ (n : Node). literal_of n.var)

-- what a step down keeps
pub record IsDown (w now : Walk) : Type 0 where
  pub walk : IsWalk now
  pub member : HasNext now
  pub same : to_come now ≡ to_come w
  pub lower : now.at.0 < w.at.0

led-empty : (x : ℕ) (f : ℕ → List (List ℕ)) (k : ℕ) → (0 < k → f (k - 1) ≡ []) → led x f k ≡ []
led-empty x f zero none = refl
led-empty x f (suc k) none =
    let down : suc k - 1 ≡ k = omega arith in
    ap (λ (sets : List (List ℕ)). map (λ set. x ∷ set) sets) (ap f (sym down) ∙ none (omega arith))

module _ (w : Walk) (walk : IsWalk w) (fit : AllFit w.table.now.nodes) (m : Node) (there : node_at w.table.now.nodes w.at.0 ≡ Some m) where
  sides : Children w.table.now.nodes w.at.0 m
  sides = children w.table.now.nodes fit w.at.0 m there

  parts : Inner w.table.now.nodes w.at.0 m
  parts = inner-node w.table.now.nodes fit w.at.0 m walk.at there

  pub down-hi : (taken : ArrayVec Node) → taken.items ≡ w.taken.items ++ m ∷ [] → (product : ArrayVec Literal) → product.items ≡ w.product.items ++ literal_of m.var ∷ []
      → 0 < w.left → HasMember (has w.table.now.nodes m.hi.0) (w.left - 1)
      → IsDown w (record w { taken = taken; product = product; left = w.left - 1; at = m.hi })
  down-hi taken e product e' some member =
      let ns = w.table.now.nodes in
      let longer : length taken.items ≡ length w.taken.items + 1 = ap length e ∙ length-append w.taken.items (m ∷ []) in
      let size = walk.size in
      record {
        walk = record {
          root = walk.root;
          at = parts.hi;
          taken = subst (λ (items : List Node). AreTaken ns items) (sym e) (taken-push ns w.taken.items m walk.taken parts.lo);
          product = literals-push w.product.items w.taken.items taken.items m product.items walk.product e e';
          size = omega (arith, longer, size, some);
          limit = walk.limit;
        };
        member = member;
        same =
            ap (λ (items : List Node). coming ns w.root.0 w.limit items m.hi.0 (w.left - 1)) e
            ∙ coming-take ns w.root.0 w.limit w.taken.items m w.at.0 w.left sides.sides some;
        lower = sides.hi;
      }

  pub down-lo : HasNext w → (0 < w.left → HasMember (has w.table.now.nodes m.hi.0) (w.left - 1) → ⊥) → IsDown w (record w { at = m.lo })
  down-lo next none =
      let ns = w.table.now.nodes in
      let next' : HasMember (joined m.var (has ns m.hi.0) (has ns m.lo.0)) w.left = subst (λ (f : List ℕ → Bool). HasMember f w.left) parts.family next in
      let empty : led m.var (sized ns m.hi.0) w.left ≡ [] =
      led-empty m.var (sized ns m.hi.0) w.left (λ some. sized-empty ns fit m.hi.0 parts.hi (w.left - 1) (none some)) in
      record {
        walk = record { root = walk.root; at = parts.lo; taken = walk.taken; product = walk.product; size = walk.size; limit = walk.limit };
        member = elim (joined-member m.var (has ns m.hi.0) (has ns m.lo.0) w.left next') [
          | inl p ↦
              let j : p.0 ≡ w.left - 1 = omega (arith, p.1) in
              absurd (none (omega (arith, p.1)) (subst (HasMember (has ns m.hi.0)) j p.2))
          | inr p ↦ p
        ];
        same = sym (coming-same ns w.root.0 w.limit w.taken.items w.at.0 m.lo.0 w.left
            (sides.sides w.left ∙ ap (λ (sets : List (List ℕ)). sets ++ sized ns m.lo.0 w.left) empty));
        lower = sides.lo;
      }

-- what a step up keeps
pub record IsUp (w now : Walk) : Type 0 where
  pub walk : IsWalk now
  pub same : to_come now ≡ to_come w
  pub falls : steps_up now < steps_up w

module _ (w : Walk) (walk : IsWalk w) (none : sized w.table.now.nodes w.at.0 w.left ≡ []) (taken : ArrayVec Node) where
  pub up-pop : (m : Node) → w.taken.items ≡ taken.items ++ m ∷ [] → (product : ArrayVec Literal) → product.items ≡ take (length w.product.items - 1) w.product.items
      → IsUp w (record w { taken = taken; product = product; left = w.left + 1; at = m.lo })
  up-pop m e product e' =
      let ns = w.table.now.nodes in
      let shorter : length w.taken.items ≡ length taken.items + 1 = ap length e ∙ length-append taken.items (m ∷ []) in
      let size = walk.size in
      let r = taken-pop ns taken.items m (subst (λ (items : List Node). AreTaken ns items) e walk.taken) in
      record {
        walk = record {
          root = walk.root;
          at = r.1;
          taken = r.0;
          product = literals-pop w.product.items w.taken.items taken.items m product.items walk.product e e';
          size = omega (arith, shorter, size);
          limit = walk.limit;
        };
        same =
            coming-pop ns w.root.0 w.limit taken.items m w.at.0 w.left none
            ∙ sym (ap (λ (items : List Node). coming ns w.root.0 w.limit items w.at.0 w.left) e);
        falls = omega (arith, shorter, size);
      }

-- a member is given
module _ (w : Walk) (walk : IsWalk w) (one : w.at.0 ≡ 1) (end : w.left ≡ 0) where
  pub given : (taken : List Node) → taken ≡ w.taken.items → to_come w ≡ map (λ (n : Node). n.var) taken ∷ to_come (record w { at = record { 0 = 0 } })
  given taken e =
      let ns = w.table.now.nodes in
      ap (λ i. coming ns w.root.0 w.limit w.taken.items i w.left) one
      ∙ ap (coming ns w.root.0 w.limit w.taken.items 1) end
      ∙ coming-found ns w.root.0 w.limit w.taken.items
      ∙ ap (λ (items : List Node). map (λ (n : Node). n.var) items ∷ coming ns w.root.0 w.limit w.taken.items 0 0) (sym e)
      ∙ ap (λ l. map (λ (n : Node). n.var) taken ∷ coming ns w.root.0 w.limit w.taken.items 0 l) (sym end)

  pub given-walk : IsWalk (record w { at = record { 0 = 0 } })
  given-walk = record {
    root = walk.root;
    at = stands-terminal Zbdd 0 w.table.now.nodes 0 (omega arith);
    taken = walk.taken;
    product = walk.product;
    size = walk.size;
    limit = walk.limit;
  }

-- the literal numbers of the product of nodes
pub literals-nodes : (nodes : List Node) → literals_of (map (λ (n : Node). literal_of n.var) nodes) ≡ map (λ (n : Node). n.var) nodes
literals-nodes [] = refl
literals-nodes (n ∷ nodes) = λ i. literal-read n.var i ∷ literals-nodes nodes i
