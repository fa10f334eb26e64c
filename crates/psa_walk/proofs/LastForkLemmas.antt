-- A test of a functional event looks back from the last fork.
use Rattle.std.proofs.Common.{◌≡◌, ◌<◌, ◌≤◌, ℕ, zero, suc, Bool, true, false, List, [], ◌∷◌, get_or, length, take, if◌then◌else◌, refl, ap, sym, ◌∙◌, arith}
use Rattle.std.specs.Str.{bytes_eq}
use Rattle.psa_model.specs.Tests.{took}
use Rattle.psa_walk.specs.declared.travelled.Taken.{Taken}
use Rattle.psa_walk.specs.TakenForks.{forks_of}

-- what a fork says of a test, where those before it say so much
abbrev pub with_fork : List ℕ → List ℕ → Taken → Bool → Bool
with_fork name state fork before = if bytes_eq fork.name.now name then bytes_eq fork.state.now state else before

-- the last of some forks answers where it has the name, and those before it where it has not
took-last : (name state : List ℕ) (before : Bool) (forks : List Taken) (n : ℕ) (fork : Taken) → n < length forks → took name state before (forks_of (take (suc n) forks)) ≡ with_fork name state (get_or forks n fork) (took name state before (forks_of (take n forks)))
took-last name state before [] n fork inside = absurd (omega (arith, inside))
took-last name state before (first ∷ forks) zero fork inside = refl
took-last name state before (first ∷ forks) (suc n) fork inside = took-last name state (with_fork name state first before) forks n fork (omega (arith, inside))

-- the same at the place before another
pub looks-back : (name state : List ℕ) (forks : List Taken) (place n : ℕ) (first fork : Taken) → place ≡ suc n → place ≤ length forks → fork ≡ get_or forks n first → took name state false (forks_of (take place forks)) ≡ with_fork name state fork (took name state false (forks_of (take n forks)))
looks-back name state forks place n first fork next inside is =
    ap (λ (p : ℕ). took name state false (forks_of (take p forks))) next
    ∙ took-last name state false forks n first (omega (arith, next, inside))
    ∙ ap (λ (f : Taken). with_fork name state f (took name state false (forks_of (take n forks)))) (sym is)

-- a fork of the name answers
pub named : (name state : List ℕ) (fork : Taken) (before : Bool) → true ≡ bytes_eq fork.name.now name → with_fork name state fork before ≡ bytes_eq fork.state.now state
named name state fork before is = ap (λ b. if b then bytes_eq fork.state.now state else before) (sym is)

-- a fork of another name does not
pub passed : (name state : List ℕ) (fork : Taken) (before : Bool) → false ≡ bytes_eq fork.name.now name → with_fork name state fork before ≡ before
passed name state fork before is = ap (λ b. if b then bytes_eq fork.state.now state else before) (sym is)
