-- The families of the places of a graph: how each is made of those of the places that its node names.
use Rattle.std.proofs.Common.{◌≡◌, ◌↔◌, ℕ, ◌+◌, ◌<◌, ◌&&◌, ◌||◌, Bool, true, List, [], ◌∷◌, ◌++◌, length, length-append, get_or, Result, Ok, Err, IfOk, refl, sym, ap, ap₂, subst, ◌∙◌, inl, inr, arith}
use Rattle.std.proofs.lemmas.Bool.Decides.{eqb_tells}
use Rattle.std.proofs.lemmas.List.{get_or_append_left}
use Rattle.std.proofs.Math.Seq.{get_or-append_seam}
use Rattle.psa_graph.specs.declared.graph.Graph.{Graph}
use Rattle.psa_graph.specs.declared.graph.GraphNode.{GraphNode}
use Rattle.psa_graph.specs.declared.graph.GraphNode.TheVariants as nodes
use Rattle.psa_graph.specs.Truths.{place_truth, IsNodeBehind, IsGraph}
use Rattle.psa_nodes.specs.declared.node.Kind.TheVariants.{Zbdd}
use Rattle.psa_nodes.specs.declared.node.Node.{Node}
use Rattle.psa_nodes.specs.declared.node.NodeId.{NodeId}
use Rattle.psa_nodes.specs.declared.node.NodeError.{NodeError}
use Rattle.psa_nodes.specs.declared.node.Operation.TheVariants.{Union, Product, MinimalSets}
use Rattle.psa_nodes.specs.declared.node.TheConstants.NodeId.{EMPTY}
use Rattle.psa_nodes.specs.Families.{IsProductMember}
use Rattle.psa_nodes.specs.Readings.{has, stands, level}
use Rattle.psa_nodes.specs.Nodes.{Grown}
use Rattle.psa_nodes.specs.Table.{Table}
use Rattle.psa_nodes.specs.Progress.{IsCall, IsResult}
use Rattle.psa_nodes.specs.Tails.{either, IsMember, AreTailsOf}
use Rattle.psa_nodes.proofs.CallerLemmas.{stands-below, stands-kept, has-kept, tails-in, call-wide, call-then}
use Rattle.psa_graph.specs.Needs.{HoldsOfSides, HoldsOfSidesAt, IsNeeded, AreNeeds}
use Rattle.psa_graph.proofs.PlaceTruthLemmas.{node-behind}
use Rattle.psa_zbdd.specs.FamilyProducts.{IsProductSource}
use Rattle.psa_zbdd.specs.GraphFamilies.{IsSignedImplicant, IsGraphProduct, IsCover, IsCoverAt, IsCovered, IsReducedAt}
use Rattle.psa_families.proofs.MinimalMemberLemmas.{least-member}
use Rattle.psa_families.proofs.MinimalSetsSteps.{MinimalCalled}
use Rattle.psa_zbdd.proofs.ProductSideSteps.{member-as}
use Rattle.psa_zbdd.proofs.CoverLemmas.{cover-same, both-sound, cover-both, either-sound, cover-either}

-- a call whose new nodes are tails of sets of one source is one for a wider source
pub wider-source : (Source Wide : List ℕ → Type 0) → ((set : List ℕ) → Source set → Wide set) → (low : ℕ) (before now : Table) {A : Type 0} (answer : Result A NodeError) → IsCall (AreTailsOf Source) low before now answer → IsCall (AreTailsOf Wide) 0 before now answer
wider-source Source Wide into low before now answer call =
    call-wide {Origin = AreTailsOf Source} {Wide = AreTailsOf Wide} {low = low} {wide = 0} (omega arith) (λ k v r past t. tails-in Wide Source into k v r t) answer call

-- The minimal sets of a family whose sets are those of a source.
module _ (old mid : Table) (all : NodeId) (Source Wide : List ℕ → Type 0) (into : (set : List ℕ) → Source set → Wide set)
    (first : IsCall (AreTailsOf Wide) 0 old mid (Ok all)) (there : stands Zbdd 0 mid.nodes all.0 ≡ true)
    (of_all : (set : List ℕ) → (has mid.nodes all.0 set ≡ true) ↔ Source set) where
  -- are a reduced family of it
  pub reduced-at : (now : Table) (answer : Result NodeId NodeError) → MinimalCalled all.0 mid now answer → IfOk answer (λ id. IsResult MinimalSets 0 now.nodes all.0 0 id.0) → IfOk answer (λ id. IsReducedAt Source now.nodes id.0)
  reduced-at now (Err e) call r = tt
  reduced-at now (Ok id) call r = record {
    stands_at = r.stands_at;
    reduced = record {
      of_source = λ set m. (of_all set).0 (sym (kept set) ∙ ((r.computes set).0 m).member);
      includes = λ set s.
          let part = least-member (has now.nodes all.0) set (kept set ∙ (of_all set).1 s) in
          (part.0, (r.computes part.0).1 part.2, part.1);
    };
  }
    where
      kept : (set : List ℕ) → has now.nodes all.0 set ≡ has mid.nodes all.0 set
      kept set = has-kept call.progress.nodes all.0 set (stands-below Zbdd 0 mid.nodes all.0 there)

  -- and no node of theirs has another source
  pub reduced-call : (now : Table) (answer : Result NodeId NodeError) → MinimalCalled all.0 mid now answer → IsCall (AreTailsOf Wide) 0 old now answer
  reduced-call now answer call =
      call-then all answer first (wider-source (IsMember (has mid.nodes all.0)) Wide (λ set m. into set ((of_all set).0 m)) (level mid.nodes all.0) mid now answer call)

-- the product of two families, in a table that grew
module _ (before now : Table) (g : Grown before.nodes now.nodes) (left right : ℕ) (sl : stands Zbdd 0 before.nodes left ≡ true) (sr : stands Zbdd 0 before.nodes right ≡ true) where
  left-kept : (set : List ℕ) → has now.nodes left set ≡ has before.nodes left set
  left-kept set = has-kept g left set (stands-below Zbdd 0 before.nodes left sl)

  right-kept : (set : List ℕ) → has now.nodes right set ≡ has before.nodes right set
  right-kept set = has-kept g right set (stands-below Zbdd 0 before.nodes right sr)

  -- has the members that it had
  pub product-before : (limit id : ℕ) → IsResult Product limit now.nodes left right id → (set : List ℕ) → (has now.nodes id set ≡ true) ↔ IsProductMember (has before.nodes left) (has before.nodes right) limit set
  product-before limit id r set = (
    λ m. member-as limit (has now.nodes left) (has now.nodes right) (has before.nodes left) (has before.nodes right) (λ l h. sym (left-kept l) ∙ h) (λ l h. sym (right-kept l) ∙ h) set ((r.computes set).0 m),
    λ p. (r.computes set).1 (member-as limit (has before.nodes left) (has before.nodes right) (has now.nodes left) (has now.nodes right) (λ l h. left-kept l ∙ h) (λ l h. right-kept l ∙ h) set p),
  )

  -- and so has the union
  pub union-before : (id : ℕ) → IsResult Union 0 now.nodes left right id → (set : List ℕ) → (has now.nodes id set ≡ true) ↔ IsMember (either (has before.nodes left) (has before.nodes right)) set
  union-before id r set =
      let e : has now.nodes id set ≡ either (has before.nodes left) (has before.nodes right) set = r.computes set ∙ ap₂ (λ x y. x || y) (left-kept set) (right-kept set) in
      (λ m. sym e ∙ m, λ m. e ∙ m)

-- a cover stays one when the table grows
pub cover-kept : (width limit : ℕ) (f : (ℕ → Bool) → Bool) {before now : List Node} → Grown before now → (id : ℕ) → IsCoverAt width limit f before id → IsCoverAt width limit f now id
cover-kept width limit f {before} {now} g id c = record {
  stands_at = stands-kept g Zbdd 0 id c.stands_at;
  cover = subst (λ (family : List ℕ → Bool). IsCover width limit f family) (λ i set. sym (has-kept g id set (stands-below Zbdd 0 before id c.stands_at)) i) c.cover;
}

-- a signed implicant of a place's truth is a product of the graph
pub place-product : (graph : Graph) (limit place : ℕ) → place < length graph.nodes → (f : (ℕ → Bool) → Bool) → ((s : ℕ → Bool) → place_truth graph place s ≡ f s) → (product : List ℕ) → IsSignedImplicant graph.width limit f product → IsGraphProduct graph limit product
place-product graph limit place inside f is product i = record { place = place; of_graph = inside; signed = i.0; implies = inl (λ s h. is s ∙ i.1 s h) }

-- a family for an equal truth
pub place-same : (width limit : ℕ) (f g : (ℕ → Bool) → Bool) → ((s : ℕ → Bool) → g s ≡ f s) → (ns : List Node) (answer : Result NodeId NodeError) → IfOk answer (λ id. IsCoverAt width limit f ns id.0) → IfOk answer (λ id. IsCoverAt width limit g ns id.0)
place-same width limit f g is ns (Ok id) c = record { stands_at = c.stands_at; cover = cover-same width limit f g (has ns id.0) is c.cover }
place-same width limit f g is ns (Err e) c = tt

-- a node of two places
module _ (graph : Graph) (limit place l r : ℕ) (inside : place < length graph.nodes) (left_inside : l < length graph.nodes) (right_inside : r < length graph.nodes) (before : Table) (left right : NodeId)
    (dl : IsCoverAt graph.width limit (place_truth graph l) before.nodes left.0) (dr : IsCoverAt graph.width limit (place_truth graph r) before.nodes right.0) where
  of-left : (set : List ℕ) → has before.nodes left.0 set ≡ true → IsGraphProduct graph limit set
  of-left set m = place-product graph limit l left_inside (place_truth graph l) (λ s. refl) set (dl.cover.sound set m)

  of-right : (set : List ℕ) → has before.nodes right.0 set ≡ true → IsGraphProduct graph limit set
  of-right set m = place-product graph limit r right_inside (place_truth graph r) (λ s. refl) set (dr.cover.sound set m)

  -- that is a conjunction
  module _ (is : (s : ℕ → Bool) → place_truth graph place s ≡ (place_truth graph l s && place_truth graph r s)) where
    pub both-family : (now : Table) (answer : Result NodeId NodeError) → IfOk answer (λ id. IsReducedAt (IsProductMember (has before.nodes left.0) (has before.nodes right.0) limit) now.nodes id.0) → IfOk answer (λ id. IsCoverAt graph.width limit (place_truth graph place) now.nodes id.0)
    both-family now (Err e) d = tt
    both-family now (Ok id) d = record {
      stands_at = d.stands_at;
      cover = cover-same graph.width limit (λ s. place_truth graph l s && place_truth graph r s) (place_truth graph place) (has now.nodes id.0) is
          (cover-both graph.width limit (place_truth graph l) (place_truth graph r) (has before.nodes left.0) (has before.nodes right.0) dl.cover dr.cover (has now.nodes id.0) d.reduced);
    }

    pub both-call : (now : Table) (answer : Result NodeId NodeError) → IsCall (AreTailsOf (IsProductSource (has before.nodes left.0) (has before.nodes right.0) limit)) 0 before now answer → IsCall (AreTailsOf (IsGraphProduct graph limit)) 0 before now answer
    both-call now answer call =
        wider-source (IsProductSource (has before.nodes left.0) (has before.nodes right.0) limit) (IsGraphProduct graph limit)
        (λ set m. elim m [
          | inl a ↦ of-left set a
          | inr b ↦ elim b [
            | inl c ↦ of-right set c
            | inr p ↦ place-product graph limit place inside (λ s. place_truth graph l s && place_truth graph r s) is set
                (both-sound graph.width limit (place_truth graph l) (place_truth graph r) (has before.nodes left.0) (has before.nodes right.0) dl.cover dr.cover set p)
          ]
        ]) 0 before now answer call

  -- or a disjunction
  module _ (is : (s : ℕ → Bool) → place_truth graph place s ≡ (place_truth graph l s || place_truth graph r s)) where
    pub either-family : (now : Table) (answer : Result NodeId NodeError) → IfOk answer (λ id. IsReducedAt (IsMember (either (has before.nodes left.0) (has before.nodes right.0))) now.nodes id.0) → IfOk answer (λ id. IsCoverAt graph.width limit (place_truth graph place) now.nodes id.0)
    either-family now (Err e) d = tt
    either-family now (Ok id) d = record {
      stands_at = d.stands_at;
      cover = cover-same graph.width limit (λ s. place_truth graph l s || place_truth graph r s) (place_truth graph place) (has now.nodes id.0) is
          (cover-either graph.width limit (place_truth graph l) (place_truth graph r) (has before.nodes left.0) (has before.nodes right.0) dl.cover dr.cover (has now.nodes id.0) d.reduced);
    }

    pub either-call : (now : Table) (answer : Result NodeId NodeError) → IsCall (AreTailsOf (IsMember (either (has before.nodes left.0) (has before.nodes right.0)))) 0 before now answer → IsCall (AreTailsOf (IsGraphProduct graph limit)) 0 before now answer
    either-call now answer call =
        wider-source (IsMember (either (has before.nodes left.0) (has before.nodes right.0))) (IsGraphProduct graph limit)
        (λ set m. place-product graph limit place inside (λ s. place_truth graph l s || place_truth graph r s) is set
        (either-sound graph.width limit (place_truth graph l) (place_truth graph r) (has before.nodes left.0) (has before.nodes right.0) dl.cover dr.cover set m)) 0 before now answer call

-- the families of the needed places before a number
abbrev pub AreCovered : Graph → ℕ → List Bool → List Node → List NodeId → Type 0
AreCovered graph limit needed ns families =
    (place : ℕ) → place < length families → IsNeeded needed place → IsCoverAt graph.width limit (place_truth graph place) ns (get_or families place EMPTY).0

-- none yet
pub covered-none : (graph : Graph) (limit : ℕ) (needed : List Bool) (ns : List Node) (families : List NodeId) → families ≡ [] → AreCovered graph limit needed ns families
covered-none graph limit needed ns families e place inside need = absurd (omega (arith, inside, ap (length {A = NodeId}) e))

-- those that a needed node names are among them
pub sides-covered : (graph : Graph) (limit : ℕ) (needed : List Bool) (ns : List Node) (families : List NodeId) → IsGraph graph → AreNeeds graph needed → AreCovered graph limit needed ns families → IsNeeded needed (length families) → HoldsOfSidesAt (IsCovered graph limit ns families) graph (length families)
sides-covered graph limit needed ns families ok needs are need node e =
    each node (node-behind graph ok (length families) node e) (needs.closed (length families) (omega arith) need node e)
  where
    each : (n : GraphNode) → IsNodeBehind graph.width (length families) n → HoldsOfSides (IsNeeded needed) n → HoldsOfSides (IsCovered graph limit ns families) n
    each (nodes.Constant state) behind both = tt
    each (nodes.Literal rank happens) behind both = tt
    each (nodes.And l r) behind both = (record { within = behind.0; family = are l behind.0 both.0 }, record { within = behind.1; family = are r behind.1 both.1 })
    each (nodes.Or l r) behind both = (record { within = behind.0; family = are l behind.0 both.0 }, record { within = behind.1; family = are r behind.1 both.1 })

-- one more place
pub covered-more : (graph : Graph) (limit : ℕ) (needed : List Bool) (before now : List Node) (families after : List NodeId) (id : NodeId) → Grown before now → AreCovered graph limit needed before families
    → (IsNeeded needed (length families) → IsCoverAt graph.width limit (place_truth graph (length families)) now id.0) → after ≡ families ++ (id ∷ []) → AreCovered graph limit needed now after
covered-more graph limit needed before now families after id g are last e =
    subst (AreCovered graph limit needed now) (sym e) more
  where
    more : AreCovered graph limit needed now (families ++ (id ∷ []))
    more place inside need = elim (eqb_tells place (length families)) [
      | inl p ↦
          subst (λ (x : NodeId). IsCoverAt graph.width limit (place_truth graph place) now x.0) (sym (ap (λ i. get_or (families ++ (id ∷ [])) i EMPTY) p.1 ∙ get_or-append_seam families id [] EMPTY))
          (subst (λ i. IsCoverAt graph.width limit (place_truth graph i) now id.0) (sym p.1) (last (subst (IsNeeded needed) p.1 need)))
      | inr p ↦
          let long : length (families ++ (id ∷ [])) ≡ length families + 1 = length-append families (id ∷ []) in
          let l : place < length families = omega (arith, p.1) in
          subst (λ (x : NodeId). IsCoverAt graph.width limit (place_truth graph place) now x.0) (sym (get_or_append_left families (id ∷ []) EMPTY place l))
          (cover-kept graph.width limit (place_truth graph place) g (get_or families place EMPTY).0 (are place l need))
    ]
