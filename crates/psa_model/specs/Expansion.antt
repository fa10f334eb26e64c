-- The expanded events of a model in order, and the expression of each. (Beta factor, multiple Greek letters and the
-- alpha factor, with the quantities of a non-staggered test scheme, are the common cause models of the Open-PSA
-- Model Exchange Format 2.0d; sizes, levels and order are this project's own.)
use Rattle.std.specs.Prelude.{◌==◌, ℕ, zero, suc, ◌+◌, ◌-◌, ◌/◌, ◌%◌, ◌^◌, Bool, true, false, List, [], ◌∷◌, ◌++◌, Option, pos, map, length, sum, if◌then◌else◌}
use Rattle.std.specs.List.{slice_get, flat_map, find, range_with_len}
use Rattle.std.specs.Option.{option_map, option_and_then, unwrap_or}
use Rattle.psa_model.specs.declared.expanded.Expanded.{Expanded}
use Rattle.psa_model.specs.declared.expanded.ExpandedEvent.{ExpandedEvent}
use Rattle.psa_model.specs.declared.expanded.ExpandedEvent.TheVariants.{Basic, Member, Shared}
use Rattle.psa_model.specs.declared.expression.Expression.{Expression}
use Rattle.psa_model.specs.declared.expression.Expression.TheVariants as expression
use Rattle.psa_model.specs.declared.expression.ExpressionOperator.TheVariants.{Add, Sub, Mul, Div}
use Rattle.psa_model.specs.declared.ids.GroupId.{GroupId}
use Rattle.psa_model.specs.declared.model.Group.{Group}
use Rattle.psa_model.specs.declared.model.GroupModel.{GroupModel}
use Rattle.psa_model.specs.declared.model.GroupModel.TheVariants.{Beta, Mgl, Alpha}
use Rattle.psa_model.specs.declared.model.Model.{Model}
use Rattle.psa_model.specs.declared.model.Valued.{Valued}
use Rattle.psa_model.specs.declared.model.Valued.TheVariants as valued

-- ---- subsets

-- the ascending lists of so many of some places, in lexicographic order: those with the first place, then those
-- without it
abbrev pub choices : ℕ → List ℕ → List (List ℕ)
choices zero places = [] ∷ []
choices (suc size) [] = []
choices (suc size) (place ∷ places) =
    map (λ set. place ∷ set) (choices size places) ++ choices (suc size) places

-- a subset as a number: bit i for the member at place i
abbrev pub subset_number : List ℕ → ℕ
subset_number places = sum (map (λ place. 2 ^ place) places)

-- the sizes of the subsets that fail together, of n members
abbrev pub sizes_of : GroupModel → ℕ → List ℕ
sizes_of Beta n = 1 ∷ n ∷ []
sizes_of Mgl n = range_with_len 1 n
sizes_of Alpha n = range_with_len 1 n

-- the subsets of a group by size, those of one size in lexicographic order
abbrev pub subsets_of : Group → List ℕ
subsets_of group =
    flat_map
    (λ size. map subset_number (choices size (range_with_len 0 (length group.members))))
    (sizes_of group.model (length group.members))

-- ---- events

-- the events of a group: with expansion one for each subset, without it one for each member
abbrev pub events_of_group : Bool → GroupId → Group → List ExpandedEvent
events_of_group true id group = map (λ subset. Shared id subset) (subsets_of group)
events_of_group false id group = map (λ place. Member id place) (range_with_len 0 (length group.members))

-- the events of one entry of the order of values: of a basic event, or of a group
abbrev pub events_of_valued : Model → Bool → Valued → List ExpandedEvent
events_of_valued model on (valued.Basic id) = Basic id ∷ []
events_of_valued model on (valued.Group id) =
    unwrap_or (option_map (events_of_group on id) (slice_get model.groups id.0)) []

-- the model with its events, in the order of its basic events and groups
abbrev pub expanded_of : Bool → Model → Expanded
expanded_of on model = record { model = model; events = flat_map (events_of_valued model on) model.order }

-- ---- expressions

-- a whole number, a product, the difference from 1, and a quotient
abbrev pub whole_number : ℕ → Expression
whole_number n = expression.Number (record { negative = false; digits = n; exponent = pos 0 })

-- the product of expressions, as an expression
abbrev pub product_of : List Expression → Expression
product_of factors = expression.Operation Mul factors

-- what an expression leaves of 1, as an expression
abbrev pub one_less : Expression → Expression
one_less part = expression.Operation Sub (whole_number 1 ∷ part ∷ [])

-- one expression divided by another, as an expression
abbrev pub quotient_of_two : Expression → Expression → Expression
quotient_of_two dividend divisor = expression.Operation Div (dividend ∷ divisor ∷ [])

-- binomial coefficients: the number of choices of k among n
unfoldable pub choose : ℕ → ℕ → ℕ
choose n zero = 1
choose zero (suc k) = 0
choose (suc n) (suc k) = choose n k + choose n (suc k)

-- the factor of a level
abbrev pub factor_at : Group → ℕ → Expression
factor_at group level =
    unwrap_or (option_map (λ factor. factor.expression) (find (λ factor. factor.level == level) group.factors)) (whole_number 0)

-- The quantity of each subset of a size among n members, where Q is the group's distribution and C the number of
-- choices of size - 1 among n - 1.
-- Beta factor: (1 - beta) * Q for one member, beta * Q for all.
abbrev pub beta_quantity : Group → ℕ → ℕ → Expression
beta_quantity group n size =
    if size == 1 then product_of (one_less (factor_at group n) ∷ group.distribution ∷ [])
    else product_of (factor_at group n ∷ group.distribution ∷ [])

-- Multiple Greek letters: rho_2 * .. * rho_size * (1 - rho_(size + 1)) * Q / C, without the difference for all.
abbrev pub mgl_quantity : Group → ℕ → ℕ → Expression
mgl_quantity group n size =
    quotient_of_two
    (product_of (map (factor_at group) (range_with_len 2 (size - 1))
    ++ (if size == n then [] else one_less (factor_at group (suc size)) ∷ []) ++ group.distribution ∷ []))
    (whole_number (choose (n - 1) (size - 1)))

-- Alpha factor: size * alpha_size * Q / (C * (1 * alpha_1 + .. + n * alpha_n)).
abbrev pub alpha_quantity : Group → ℕ → ℕ → Expression
alpha_quantity group n size =
    quotient_of_two
    (product_of (whole_number size ∷ factor_at group size ∷ group.distribution ∷ []))
    (product_of (whole_number (choose (n - 1) (size - 1))
    ∷ expression.Operation Add (map (λ level. product_of (whole_number level ∷ factor_at group level ∷ [])) (range_with_len 1 n)) ∷ []))

-- the quantity of a subset of a group by its model: of so many members, of that size
abbrev pub quantity_of : GroupModel → Group → ℕ → ℕ → Expression
quantity_of Beta = beta_quantity
quantity_of Mgl = mgl_quantity
quantity_of Alpha = alpha_quantity

-- how many of n members a subset holds: its bits that are set
abbrev pub size_of : ℕ → ℕ → ℕ
size_of zero subset = 0
size_of (suc n) subset = subset % 2 + size_of n (subset / 2)

-- The expression of an event, or None where it has none: a basic event's own, a member's the distribution of its
-- group, a subset's the quantity of its size.
abbrev pub expression_of : Model → ExpandedEvent → Option Expression
expression_of model (Basic id) = option_and_then (λ basic. basic.expression) (slice_get model.basics id.0)
expression_of model (Member id place) = option_map (λ group. group.distribution) (slice_get model.groups id.0)
expression_of model (Shared id subset) =
    option_map
    (λ group. quantity_of group.model group (length group.members) (size_of (length group.members) subset))
    (slice_get model.groups id.0)
