-- From which function of which target a node of the run's table comes. (This project's own; cofactors are Shannon's,
-- cut sets and prime implicants those of Rauzy, Coudert and Madre.)
use Rattle.std.specs.Prelude.{◌≡◌, ◌⊎◌, ◌≤◌, ℕ, Bool, true, false, List, [], ◌∷◌, Some, All, ⊤, length, filter, nat_lt}
use Rattle.std.specs.List.{slice_get, list_all}
use Rattle.psa_logic.specs.Sets.{is_ascending, occurs}
use Rattle.psa_logic.specs.Products.{IsImplicant, positive_product, rank_of, is_consistent, is_positive}
use Rattle.psa_nodes.specs.declared.node.Node.{Node}
use Rattle.psa_nodes.specs.declared.node.Kind.{Kind}
use Rattle.psa_nodes.specs.declared.node.Kind.TheVariants as node
use Rattle.psa_nodes.specs.Cofactors.{IsCofactorConjunction, IsCutOfCofactor, IsPrimeOfCofactors}
use Rattle.psa_nodes.specs.Readings.{Reading, IsSameReading, reading, node_at}
use Rattle.psa_nodes.specs.Table.{Table}
use Rattle.psa_nodes.specs.Tails.{AreTailsOf}
use Rattle.psa_model.specs.declared.expanded.Expanded.{Expanded}
use Rattle.psa_model.specs.declared.settings.Algorithm.{Algorithm}
use Rattle.psa_model.specs.declared.settings.Algorithm.TheVariants.{Bdd, Zbdd}
use Rattle.psa_model.specs.declared.settings.Mode.{Mode}
use Rattle.psa_model.specs.declared.settings.Mode.TheVariants.{CutSets, Primes}
use Rattle.psa_model.specs.declared.targets.Target.{Target}
use Rattle.psa_model.specs.Ranks.{ranks_of}
use Rattle.psa_model.specs.Report.{Analysis, ranked_truth}
use Rattle.psa_model.specs.Parts.{Truth, IsPart}

-- ---- products

-- A product of the target's ranked events with no event both ways and at most `limit` literals of events that occur,
-- which is an implicant of some part of the target, or as positive literals a cut set of it.
pub record IsPartProduct (expanded : Expanded) (target : Target) (limit : ℕ) (product : List ℕ) : Type 0 where
  pub part : Truth
  pub is_part : IsPart expanded target part
  pub ranked : list_all (λ literal. nat_lt (rank_of literal) (length (ranks_of expanded target))) product ≡ true
  pub ascending : is_ascending product ≡ true
  pub consistent : is_consistent product ≡ true
  pub within : length (filter is_positive product) ≤ limit
  pub implies : IsImplicant part product ⊎ ((set : List ℕ) × (product ≡ positive_product set) × (part (occurs set) ≡ true))

-- The products of a target come straight from its graph, with no decision diagram. (Words that ask for prime
-- implicants by `--zbdd` are refused.)
abbrev pub is_by_graph : Algorithm → Mode → Bool
is_by_graph Zbdd CutSets = true
is_by_graph Zbdd Primes = false
is_by_graph Bdd CutSets = false
is_by_graph Bdd Primes = false

-- the products of which the members of a family are tails, by the way that the settings ask for
abbrev pub IsSource : Algorithm → Mode → Analysis → Target → List ℕ → Type 0
IsSource Zbdd CutSets analysis target = IsPartProduct analysis.expanded target analysis.settings.limit_order
IsSource Zbdd Primes analysis target =
    IsPrimeOfCofactors (ranked_truth analysis.expanded target) analysis.settings.limit_order
IsSource Bdd CutSets analysis target =
    IsCutOfCofactor (ranked_truth analysis.expanded target) analysis.settings.limit_order
IsSource Bdd Primes analysis target =
    IsPrimeOfCofactors (ranked_truth analysis.expanded target) analysis.settings.limit_order

-- what a node of a family of a target may come from, by the settings' algorithm and mode
abbrev pub IsSourceOf : Analysis → Target → List ℕ → Type 0
IsSourceOf analysis target = IsSource analysis.settings.algorithm analysis.settings.mode analysis target

-- ---- origins

-- a truth that is a conjunction of cofactors of some part of the target
pub record IsCofactorOfPart (expanded : Expanded) (target : Target) (var : ℕ) (g : Truth) : Type 0 where
  pub part : Truth
  pub is_part : IsPart expanded target part
  pub cofactors : IsCofactorConjunction part var g

-- a decision diagram comes from a part, where products come by way of one
pub record IsDiagramOrigin (analysis : Analysis) (target : Target) (var : ℕ) (g : Truth) : Type 0 where
  pub by_diagram : is_by_graph analysis.settings.algorithm analysis.settings.mode ≡ false
  pub of_part : IsCofactorOfPart analysis.expanded target var g

-- a node of a kind, with a variable and a reading, has its origin in a target
abbrev pub Origin : Analysis → Target → Kind → ℕ → Reading → Type 0
Origin analysis target node.Bdd var r = IsDiagramOrigin analysis target var r.as_truth
Origin analysis target node.Zbdd var r = AreTailsOf (IsSourceOf analysis target) node.Zbdd var r

-- in one of some targets
abbrev pub OriginIn : Analysis → List Target → Kind → ℕ → Reading → Type 0
OriginIn analysis targets kind var r =
    (place : ℕ) × (target : Target) × (slice_get targets place ≡ Some target) × Origin analysis target kind var r

-- each node of the table has its origin in one of the targets
abbrev pub AllFrom : Analysis → List Target → Table → Type 0
AllFrom analysis targets table =
    (id : ℕ) (n : Node) → node_at table.nodes id ≡ Some n → OriginIn analysis targets n.kind n.var (reading table.nodes id)

-- ---- how many readings have their origin in the targets

-- a reading that a node may have: that of no terminal
abbrev pub IsOfNode : Kind → Reading → Type 0
IsOfNode kind r = (IsSameReading kind r (reading [] 0) → ⊥) × (IsSameReading kind r (reading [] 1) → ⊥)

-- what a node of a kind, with a variable, may read as
pub record NodeReading : Type 0 where
  pub kind : Kind
  pub var : ℕ
  pub reads : Reading
  pub of_node : IsOfNode kind reads

-- another kind, or another reading as a diagram of the kind
abbrev pub IsDifferentReading : NodeReading → NodeReading → Type 0
IsDifferentReading one other = one.kind ≡ other.kind → IsSameReading one.kind one.reads other.reads → ⊥

-- each differs from all others
abbrev pub AreDifferentReadings : List NodeReading → Type 0
AreDifferentReadings [] = ⊤
AreDifferentReadings (one ∷ more) = All (IsDifferentReading one) more × AreDifferentReadings more

-- a node comes from one of these targets
abbrev pub HasOrigin : Analysis → List Target → NodeReading → Type 0
HasOrigin analysis targets one = OriginIn analysis targets one.kind one.var one.reads

-- at most so many different readings of nodes have their origin in the targets
abbrev pub AtMost : ℕ → Analysis → List Target → Type 0
AtMost count analysis targets =
    (all : List NodeReading) → All (HasOrigin analysis targets) all → AreDifferentReadings all → length all ≤ count
