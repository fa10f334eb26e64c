use Rattle.std.proofs.Common.{◌+◌, ap₂, ◌∙◌, arith}
use Rattle.psa_expr.proofs.Counting.{choose-none, choose-empty, choose-step, twice, small-power}
use Rattle.psa_expr.proofs.counts.+choices.Goals as goal

pub overflow_add-result : goal.overflow_add-result
overflow_add-result t c =
    let first = c.choices.ensures.small in
    let second = c.choices-else-n-eq0.ensures.small in
    let whole = twice c.args.n (omega arith) in
    let small = small-power c.args.n c.requires in
    omega arith

pub returns-then-k-eq0-clause-exact : goal.returns-then-k-eq0-clause-exact
returns-then-k-eq0-clause-exact t c = choose-none c.args.n c.args.k (omega arith)

pub returns-then-n-eq0-clause-exact : goal.returns-then-n-eq0-clause-exact
returns-then-n-eq0-clause-exact t c = choose-empty c.args.n c.args.k (omega arith) (omega arith)

pub returns-else-n-eq0-clause-exact : goal.returns-else-n-eq0-clause-exact
returns-else-n-eq0-clause-exact t c =
    ap₂ (λ a b. a + b) c.choices.ensures.exact c.choices-else-n-eq0.ensures.exact
    ∙ choose-step c.args.n c.args.k (omega arith) (omega arith)

pub returns-else-n-eq0-clause-small : goal.returns-else-n-eq0-clause-small
returns-else-n-eq0-clause-small t c =
    let first = c.choices.ensures.small in
    let second = c.choices-else-n-eq0.ensures.small in
    let whole = twice c.args.n (omega arith) in
    omega arith
