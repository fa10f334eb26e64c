use Rattle.std.proofs.Common.{◌∷◌, ◌++◌, [], ℕ, List, unsigned_abs, ap, ap₂, refl}
use Rattle.std.specs.Int.{w128}
use Rattle.std.proofs.lemmas.Int.{to_z-of_z}
use Rattle.psa_report.proofs.UnitTextLemmas.{unit_text}
use Rattle.psa_report.proofs.units.spaced_units.Goals as goal

pub returns : goal.returns
returns c =
    let low = ap unsigned_abs (to_z-of_z w128 c.args.lo c.ranges.lo) in
    let high = ap unsigned_abs (to_z-of_z w128 c.args.hi c.ranges.hi) in
    rw (
      c.ones.ensures,
      c.tens.ensures,
      c.ones-2.ensures,
      c.tens-2.ensures,
      c.ones-3.ensures,
      c.tens-3.ensures,
      c.ones-4.ensures,
      c.tens-4.ensures,
      c.ones-5.ensures,
      c.tens-5.ensures,
      c.ones-6.ensures,
      c.tens-6.ensures,
      c.ones-7.ensures,
      c.ones-8.ensures,
      c.tens-7.ensures,
      c.ones-9.ensures,
      c.tens-8.ensures,
      c.ones-10.ensures,
      c.tens-9.ensures,
      c.ones-11.ensures,
      c.tens-10.ensures,
      c.ones-12.ensures,
      c.tens-11.ensures,
      c.ones-13.ensures,
      c.tens-12.ensures,
      c.ones-14.ensures,
    )
    (ap₂ (λ (a b : List ℕ). 32 ∷ ((a ++ 32 ∷ []) ++ b))
    (unit_text c.args.lo _ _ _ low c.requires.lo_low c.requires.lo_high refl refl)
    (unit_text c.args.hi _ _ _ high c.requires.hi_low c.requires.hi_high refl refl))
