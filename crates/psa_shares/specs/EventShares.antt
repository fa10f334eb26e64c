-- The shares of a target's events in the rare-event sum, as they are gathered. This project's own.
use Rattle.std.specs.Prelude.{◌≡◌, ◌≤◌, ◌<◌, ◌+◌, ℕ, Bool, true, List, Option, length, min, get_or, if◌then◌else◌}
use Rattle.std.specs.List.{All}
use Rattle.psa_logic.specs.Products.{is_consistent, rank_of}
use Rattle.psa_number.specs.Ends.{Ends}
use Rattle.psa_number.specs.Operations.{IsInUnit, unit_sum_ends}
use Rattle.psa_model.specs.declared.ids.EventNumber.{EventNumber}
use Rattle.psa_model.specs.declared.product.TheConstants.{MAX_COUNT}
use Rattle.psa_model.specs.Quantities.{rare_event_of, zero_ends}
use Rattle.psa_sections.specs.Writing.{bounds_by}
use Rattle.psa_shares.specs.Shares.{holding}

-- the number of the products that hold an event, and the sum of their bounds
pub record EventShare : Type 0 where
  pub count : ℕ
  pub sum : Ends

-- the number is held at 10^18, the sum at 1
pub record IsShare (share : EventShare) : Type 0 where
  pub count : share.count ≤ MAX_COUNT
  pub sum : IsInUnit share.sum

-- the share of no product
abbrev pub no_share : EventShare
no_share = record { count = 0; sum = zero_ends }

-- a share with one product more
abbrev pub share_with : EventShare → Ends → EventShare
share_with share bound = record { count = min (share.count + 1) MAX_COUNT; sum = unit_sum_ends share.sum bound }

-- the same where the product holds the event
abbrev pub share_if : Bool → EventShare → Ends → EventShare
share_if holds share bound = if holds then share_with share bound else share

-- the share of these products
abbrev pub share_of : Option (List Ends) → List EventNumber → List (List ℕ) → EventShare
share_of values ranks products =
    record { count = min (length products) MAX_COUNT; sum = rare_event_of (bounds_by values ranks products) }

-- a product holds each event with one sign, and only events with a place
pub record HasPlaces (count : ℕ) (product : List ℕ) : Type 0 where
  pub consistent : is_consistent product ≡ true
  pub below : All (λ literal. rank_of literal < count) product

-- At the place of each rank stands the share of those products that hold the event with this rank.
pub record AreShares (values : Option (List Ends)) (ranks : List EventNumber) (products : List (List ℕ)) (shares : List EventShare) : Type 0 where
  pub each : (rank : ℕ) (default : EventShare) → rank < length shares
      → get_or shares rank default ≡ share_of values ranks (holding rank products)
