use Rattle.std.proofs.Common.{◌≡◌, ◌<◌, ◌≤◌, ◌+◌, ◌-◌, ◌*◌, ◌^◌, ℕ, true, Err, sym, eqb-true, arith}
use Rattle.std.proofs.lemmas.Result.{err_from_is_err_and, IfOk-weaker}
use Rattle.psa_nodes.specs.declared.node.Kind.TheVariants.{Zbdd}
use Rattle.psa_nodes.specs.declared.node.Operation.TheVariants.{Union, Product}
use Rattle.psa_nodes.specs.declared.node.TheConstants.{MAX_LITERAL_NUMBERS}
use Rattle.psa_nodes.specs.declared.node.TheConstants.NodeId.{EMPTY}
use Rattle.psa_nodes.specs.Readings.{stands}
use Rattle.psa_nodes.specs.Progress.{IsResult}
use Rattle.psa_nodes.proofs.CallerLemmas.{grown-own, stands-weaker}
use Rattle.psa_nodes.specs.Progress.{pair_level}
use Rattle.psa_zbdd.specs.FamilyProducts.{IsHighSide}
use Rattle.psa_families.proofs.LevelLemmas.{pair-past}
use Rattle.psa_nodes.proofs.CallerLemmas.{remembered-result}
use Rattle.psa_zbdd.proofs.ProductSideSteps.{any-step, second-step, two-steps, three-steps, alone-side, four-steps, whole-side, both_stand, grown_two, now_left_hi, now_left_lo, now_right_hi, any_stands, nothing-high}
use Rattle.psa_zbdd.proofs.ProductSteps.{product_key, past_lo, low_operands, sides_stand, low-exit, high-exit, ready, absent, whole-call}
use Rattle.psa_zbdd.proofs.products.+product.Goals as goal

-- the measures fall
to-product : (var now : ℕ) → var < MAX_LITERAL_NUMBERS → var + 1 ≤ now → 2 * (2 ^ 33 - now) < 2 * (2 ^ 33 - var) - 1
to-product var now lt le = omega arith

to-low : (before var now : ℕ) → var ≡ before → var < MAX_LITERAL_NUMBERS → var + 1 ≤ now → 2 * (2 ^ 33 - now) < 2 * (2 ^ 33 - before)
to-low before var now e lt le = omega arith

to-high : (before var : ℕ) → var ≡ before → var < MAX_LITERAL_NUMBERS → 2 * (2 ^ 33 - var) - 1 < 2 * (2 ^ 33 - before)
to-high before var e lt = omega arith

pub product-returns-in-Some-clause-product : goal.product-returns-in-Some-clause-product
product-returns-in-Some-clause-product g t c = c.in-Some.ensures.found c.args.limit c.args.table.now.nodes c.check.ensures.fit c.requires.left c.requires.right

pub product-returns-in-Some-remembered-clause-product : goal.product-returns-in-Some-remembered-clause-product
product-returns-in-Some-remembered-clause-product g t c =
    let a = c.args in
    remembered-result a.table.now.nodes (product_key a.left a.right a.limit) c.in-Some-remembered.id c.check.ensures.fit c.in-Some-remembered.ensures.right

pub product-product-requires : goal.product-product-requires
product-product-requires g t c κs within =
    let a = c.args in
    let old = a.table.now in
    let s = c.split-sides.result in
    let e = c.split-sides.ensures.sides in
    let operands = low_operands old a.left a.right a.limit s e old (grown-own old.nodes) c.check.ensures.fit in
    let past = past_lo old a.left a.right a.limit s e old (grown-own old.nodes) c.check.ensures.fit in
    let less = to-low (pair_level old.nodes a.left.0 a.right.0) s.var (pair_level old.nodes s.left_lo.0 s.right_lo.0) e.least e.bound past in
    (omega (arith, less), (within, (operands.0, (operands.1, c.requires.bounded))))

pub product-returns-in_err-lo-clause-call : goal.product-returns-in_err-lo-clause-call
product-returns-in_err-lo-clause-call g t c =
    let a = c.args in
    let p = err_from_is_err_and c.from_residual.result c.from_residual.ensures.1 in
    rw (p.1, p.2) (low-exit a.table.now a.left a.right a.limit c.split-sides.result c.split-sides.ensures.sides c.check.ensures.fit
    c.product.new.table (Err c.in_err-lo.field-0.0) c.in_err-lo.ensures.call)

pub product-with_variable-requires : goal.product-with_variable-requires
product-with_variable-requires g t c κs within =
    let a = c.args in
    let old = a.table.now in
    let s = c.split-sides.result in
    let e = c.split-sides.ensures.sides in
    let p = c.in_ok-lo.ensures.call.progress in
    let less = to-high (pair_level old.nodes a.left.0 a.right.0) s.var e.least e.bound in
    (omega (arith, less), (within, (sides_stand old a.left a.right a.limit s e c.product.new.table p.nodes p.table.fit, p.bounded c.requires.bounded)))

pub product-returns-in_err-hi-clause-call : goal.product-returns-in_err-hi-clause-call
product-returns-in_err-hi-clause-call g t c =
    let a = c.args in
    let p = err_from_is_err_and c.from_residual-in_err-hi.result c.from_residual-in_err-hi.ensures.1 in
    rw (p.1, p.2) (high-exit a.table.now a.left a.right a.limit c.split-sides.result c.split-sides.ensures.sides c.check.ensures.fit
    c.product.new.table c.in_ok-lo.lo c.in_ok-lo.ensures.call c.in_ok-lo.ensures.product
    c.with_variable.new.table (Err c.in_err-hi.field-0.0) c.in_err-hi.ensures.call)

pub product-remember_family-requires-clause-ready : goal.product-remember_family-requires-clause-ready
product-remember_family-requires-clause-ready g t c =
    let a = c.args in
    ready a.table.now a.left a.right a.limit c.split-sides.result c.split-sides.ensures.sides c.check.ensures.fit
    c.product.new.table c.in_ok-lo.lo c.in_ok-lo.ensures.call c.in_ok-lo.ensures.product
    c.with_variable.new.table c.in_ok-hi.hi c.in_ok-hi.ensures.call c.in_ok-hi.ensures.side

pub product-remember_family-requires-clause-absent : goal.product-remember_family-requires-clause-absent
product-remember_family-requires-clause-absent g t c =
    let a = c.args in
    absent a.table.now a.left a.right a.limit c.split-sides.result c.split-sides.ensures.sides c.check.ensures.fit
    c.product.new.table c.in_ok-lo.lo c.in_ok-lo.ensures.call c.in_ok-lo.ensures.product
    c.with_variable.new.table c.in_ok-hi.hi c.in_ok-hi.ensures.call c.in_ok-hi.ensures.side c.in_default-remembered.ensures.absent

pub product-returns-clause-call : goal.product-returns-clause-call
product-returns-clause-call g t c =
    let a = c.args in
    whole-call a.table.now a.left a.right a.limit c.split-sides.result c.split-sides.ensures.sides c.check.ensures.fit
    c.product.new.table c.in_ok-lo.lo c.in_ok-lo.ensures.call c.in_ok-lo.ensures.product
    c.with_variable.new.table c.in_ok-hi.hi c.in_ok-hi.ensures.call c.in_ok-hi.ensures.side
    c.remember_family.new.table c.remember_family.result c.remember_family.ensures.call

-- the steps to the side with the variable: what each takes
pub with_variable-returns-in_default-clause-side : goal.with_variable-returns-in_default-clause-side
with_variable-returns-in_default-clause-side g t c =
    let a = c.args in
    let none = c.in_default.ensures.none in
    nothing-high a.table.now.nodes c.check.ensures.fit a.sides a.limit c.requires.sides none.0 none.1

-- where no left member has the variable
pub with_variable-product-requires : goal.with_variable-product-requires
with_variable-product-requires g t c κs within =
    let a = c.args in
    let v = a.sides.var in
    let old = a.table.now in
    let l = c.cleared-clear.ensures.clear.left_lo.clear_stands in
    let r = c.cleared-clear.ensures.clear.right_hi.clear_stands in
    let less = to-product v (pair_level old.nodes c.cleared-clear.result.left_lo.0 c.cleared-clear.result.right_hi.0) c.requires.sides.bound (pair-past old.nodes v c.cleared-clear.result.left_lo.0 c.cleared-clear.result.right_hi.0 c.requires.sides.bound l r) in (
      omega (arith, less),
      (
        within,
        (
          stands-weaker Zbdd (v + 1) 0 old.nodes c.cleared-clear.result.left_lo.0 (omega arith) l,
          (stands-weaker Zbdd (v + 1) 0 old.nodes c.cleared-clear.result.right_hi.0 (omega arith) r, c.requires.bounded),
        ),
      ),
    )

pub with_variable-returns-then-eq-clause-side : goal.with_variable-returns-then-eq-clause-side
with_variable-returns-then-eq-clause-side g t c =
    let a = c.args in
    let p = c.product.ensures.call.progress in
    IfOk-weaker c.product.result (λ id. IsResult Product c.in-Some.rest c.product.new.table.nodes c.cleared-clear.result.left_lo.0 c.cleared-clear.result.right_hi.0 id.0) (λ id. IsHighSide a.table.now.nodes c.product.new.table.nodes a.sides a.limit id.0)
    (λ id r. alone-side a.table.now a.sides a.limit c.in-Some.rest c.in-Some.ensures.rest c.requires.sides.bound c.requires.sides c.cleared-clear.result c.cleared-clear.ensures.clear c.check.ensures.fit c.product.new.table p.nodes p.table.fit (eqb-true c.cleared-clear.result.left_hi.0 EMPTY.0 (sym c.if-eq.ensures)) id.0 r)
    c.product.ensures.product

pub with_variable-returns-then-eq-clause-call : goal.with_variable-returns-then-eq-clause-call
with_variable-returns-then-eq-clause-call g t c =
    let a = c.args in
    second-step a.table.now a.sides a.limit c.in-Some.rest c.in-Some.ensures.rest c.requires.sides.bound c.requires.sides c.cleared-clear.result c.cleared-clear.ensures.clear c.check.ensures.fit a.table.now (grown-own a.table.now.nodes) c.check.ensures.fit c.product.new.table c.product.result c.product.ensures.call

pub with_variable-union-requires-clause-left : goal.with_variable-union-requires-clause-left
with_variable-union-requires-clause-left g t c =
    stands-weaker Zbdd (c.args.sides.var + 1) 0 c.args.table.now.nodes c.cleared-clear.result.right_hi.0 (omega arith) c.cleared-clear.ensures.clear.right_hi.clear_stands

pub with_variable-union-requires-clause-right : goal.with_variable-union-requires-clause-right
with_variable-union-requires-clause-right g t c =
    stands-weaker Zbdd (c.args.sides.var + 1) 0 c.args.table.now.nodes c.cleared-clear.result.right_lo.0 (omega arith) c.cleared-clear.ensures.clear.right_lo.clear_stands

pub with_variable-returns-in_err-any-clause-call : goal.with_variable-returns-in_err-any-clause-call
with_variable-returns-in_err-any-clause-call g t c =
    let a = c.args in
    let p = err_from_is_err_and c.from_residual.result c.from_residual.ensures.1 in
    rw (p.1, p.2) (any-step a.table.now a.sides a.limit c.in-Some.rest c.in-Some.ensures.rest c.requires.sides.bound c.requires.sides c.cleared-clear.result c.cleared-clear.ensures.clear c.check.ensures.fit a.table.now (grown-own a.table.now.nodes) c.check.ensures.fit c.union.new.table (Err c.in_err-any.field-0.0) c.in_err-any.ensures.call)

pub with_variable-product-requires-2 : goal.with_variable-product-requires-2
with_variable-product-requires-2 g t c κs within =
    let a = c.args in
    let v = a.sides.var in
    let one = c.union.new.table in
    let p = c.in_ok-any.ensures.call.progress in
    let l : stands Zbdd (v + 1) one.nodes c.cleared-clear.result.left_hi.0 ≡ true = now_left_hi a.table.now a.sides a.limit c.in-Some.rest c.in-Some.ensures.rest c.requires.sides.bound c.requires.sides c.cleared-clear.result c.cleared-clear.ensures.clear c.check.ensures.fit one p.nodes p.table.fit in
    let r : stands Zbdd (v + 1) one.nodes c.in_ok-any.any.0 ≡ true = any_stands a.table.now a.sides a.limit c.in-Some.rest c.in-Some.ensures.rest c.requires.sides.bound c.requires.sides c.cleared-clear.result c.cleared-clear.ensures.clear c.check.ensures.fit one p.nodes p.table.fit c.in_ok-any.any.0 c.in_ok-any.ensures.union in
    let less = to-product v (pair_level one.nodes c.cleared-clear.result.left_hi.0 c.in_ok-any.any.0) c.requires.sides.bound (pair-past one.nodes v c.cleared-clear.result.left_hi.0 c.in_ok-any.any.0 c.requires.sides.bound l r) in (
      omega (arith, less),
      (
        within,
        (
          stands-weaker Zbdd (v + 1) 0 one.nodes c.cleared-clear.result.left_hi.0 (omega arith) l,
          (stands-weaker Zbdd (v + 1) 0 one.nodes c.in_ok-any.any.0 (omega arith) r, p.bounded c.requires.bounded),
        ),
      ),
    )

pub with_variable-returns-in_err-first-clause-call : goal.with_variable-returns-in_err-first-clause-call
with_variable-returns-in_err-first-clause-call g t c =
    let a = c.args in
    let p = err_from_is_err_and c.from_residual-in_err-first.result c.from_residual-in_err-first.ensures.1 in
    rw (p.1, p.2) (two-steps a.table.now a.sides a.limit c.in-Some.rest c.in-Some.ensures.rest c.requires.sides.bound c.requires.sides c.cleared-clear.result c.cleared-clear.ensures.clear c.check.ensures.fit c.union.new.table c.in_ok-any.any c.in_ok-any.ensures.call c.in_ok-any.ensures.union c.product-2.new.table (Err c.in_err-first.field-0.0) c.in_err-first.ensures.call)

pub with_variable-product-requires-3 : goal.with_variable-product-requires-3
with_variable-product-requires-3 g t c κs within =
    let a = c.args in
    let v = a.sides.var in
    let two = c.product-2.new.table in
    let f = c.in_ok-first.ensures.call.progress.table.fit in
    let grown = grown_two a.table.now a.sides a.limit c.in-Some.rest c.in-Some.ensures.rest c.requires.sides.bound c.requires.sides c.cleared-clear.result c.cleared-clear.ensures.clear c.check.ensures.fit c.union.new.table c.in_ok-any.any c.in_ok-any.ensures.call c.in_ok-any.ensures.union c.product-2.new.table c.in_ok-first.first c.in_ok-first.ensures.call c.in_ok-first.ensures.product in
    let l : stands Zbdd (v + 1) two.nodes c.cleared-clear.result.left_lo.0 ≡ true = now_left_lo a.table.now a.sides a.limit c.in-Some.rest c.in-Some.ensures.rest c.requires.sides.bound c.requires.sides c.cleared-clear.result c.cleared-clear.ensures.clear c.check.ensures.fit two grown f in
    let r : stands Zbdd (v + 1) two.nodes c.cleared-clear.result.right_hi.0 ≡ true = now_right_hi a.table.now a.sides a.limit c.in-Some.rest c.in-Some.ensures.rest c.requires.sides.bound c.requires.sides c.cleared-clear.result c.cleared-clear.ensures.clear c.check.ensures.fit two grown f in
    let less = to-product v (pair_level two.nodes c.cleared-clear.result.left_lo.0 c.cleared-clear.result.right_hi.0) c.requires.sides.bound (pair-past two.nodes v c.cleared-clear.result.left_lo.0 c.cleared-clear.result.right_hi.0 c.requires.sides.bound l r) in (
      omega (arith, less),
      (
        within,
        (
          stands-weaker Zbdd (v + 1) 0 two.nodes c.cleared-clear.result.left_lo.0 (omega arith) l,
          (stands-weaker Zbdd (v + 1) 0 two.nodes c.cleared-clear.result.right_hi.0 (omega arith) r, c.in_ok-first.ensures.call.progress.bounded (c.in_ok-any.ensures.call.progress.bounded c.requires.bounded)),
        ),
      ),
    )

pub with_variable-returns-in_err-second-clause-call : goal.with_variable-returns-in_err-second-clause-call
with_variable-returns-in_err-second-clause-call g t c =
    let a = c.args in
    let p = err_from_is_err_and c.from_residual-in_err-second.result c.from_residual-in_err-second.ensures.1 in
    rw (p.1, p.2) (three-steps a.table.now a.sides a.limit c.in-Some.rest c.in-Some.ensures.rest c.requires.sides.bound c.requires.sides c.cleared-clear.result c.cleared-clear.ensures.clear c.check.ensures.fit c.union.new.table c.in_ok-any.any c.in_ok-any.ensures.call c.in_ok-any.ensures.union c.product-2.new.table c.in_ok-first.first c.in_ok-first.ensures.call c.in_ok-first.ensures.product c.product-3.new.table (Err c.in_err-second.field-0.0) c.in_err-second.ensures.call)

pub with_variable-union-requires-2-clause-left : goal.with_variable-union-requires-2-clause-left
with_variable-union-requires-2-clause-left g t c =
    let a = c.args in
    stands-weaker Zbdd (a.sides.var + 1) 0 c.product-3.new.table.nodes c.in_ok-first.first.0 (omega arith) (both_stand a.table.now a.sides a.limit c.in-Some.rest c.in-Some.ensures.rest c.requires.sides.bound c.requires.sides c.cleared-clear.result c.cleared-clear.ensures.clear c.check.ensures.fit c.union.new.table c.in_ok-any.any c.in_ok-any.ensures.call c.in_ok-any.ensures.union c.product-2.new.table c.in_ok-first.first c.in_ok-first.ensures.call c.in_ok-first.ensures.product c.product-3.new.table c.in_ok-second.second c.in_ok-second.ensures.call c.in_ok-second.ensures.product).0

pub with_variable-returns-clause-side : goal.with_variable-returns-clause-side
with_variable-returns-clause-side g t c =
    let a = c.args in
    IfOk-weaker c.union-2.result (λ id. IsResult Union 0 c.union-2.new.table.nodes c.in_ok-first.first.0 c.in_ok-second.second.0 id.0) (λ id. IsHighSide a.table.now.nodes c.union-2.new.table.nodes a.sides a.limit id.0)
    (λ id r. whole-side a.table.now a.sides a.limit c.in-Some.rest c.in-Some.ensures.rest c.requires.sides.bound c.requires.sides c.cleared-clear.result c.cleared-clear.ensures.clear c.check.ensures.fit c.union.new.table c.in_ok-any.any c.in_ok-any.ensures.call c.in_ok-any.ensures.union c.product-2.new.table c.in_ok-first.first c.in_ok-first.ensures.call c.in_ok-first.ensures.product c.product-3.new.table c.in_ok-second.second c.in_ok-second.ensures.call c.in_ok-second.ensures.product c.union-2.new.table c.union-2.result c.union-2.ensures.call id.0 r)
    c.union-2.ensures.union

pub with_variable-returns-clause-call : goal.with_variable-returns-clause-call
with_variable-returns-clause-call g t c =
    let a = c.args in
    four-steps a.table.now a.sides a.limit c.in-Some.rest c.in-Some.ensures.rest c.requires.sides.bound c.requires.sides c.cleared-clear.result c.cleared-clear.ensures.clear c.check.ensures.fit c.union.new.table c.in_ok-any.any c.in_ok-any.ensures.call c.in_ok-any.ensures.union c.product-2.new.table c.in_ok-first.first c.in_ok-first.ensures.call c.in_ok-first.ensures.product c.product-3.new.table c.in_ok-second.second c.in_ok-second.ensures.call c.in_ok-second.ensures.product c.union-2.new.table c.union-2.result c.union-2.ensures.call

pub with_variable-union-requires-2-clause-bounded : goal.with_variable-union-requires-2-clause-bounded
with_variable-union-requires-2-clause-bounded g t c =
    c.in_ok-second.ensures.call.progress.bounded (c.in_ok-first.ensures.call.progress.bounded (c.in_ok-any.ensures.call.progress.bounded c.requires.bounded))
