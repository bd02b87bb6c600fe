use mathlib.Core.Path.{◌∙◌}
use native.Mathlib.Omega.{arith}
use Rattle.judge.proofs.LostRules.{scan-start, scan-hit, scan-next, scan-end}
use Rattle.judge.proofs.losing.losing_rule.Goals as goal

pub loop-r-init : goal.loop-r-init
loop-r-init c = scan-start

pub overflow_mul-r : goal.overflow_mul-r
overflow_mul-r c = let safe = c.requires.0 in omega (arith, safe.few, c.loop-r-test.true)

pub does_lose-requires : goal.does_lose-requires
does_lose-requires c =
    let pre = c.requires in
    let safe = pre.0 in
    (omega (arith, safe.fit, c.loop-r-test.true), safe.states, pre.1)

pub overflow_cast-result : goal.overflow_cast-result
overflow_cast-result c = let safe = c.requires.0 in omega (arith, safe.few, c.loop-r-test.true)

pub returns-then-does_lose : goal.returns-then-does_lose
returns-then-does_lose c =
    λ g h ws l.
    let at-loop = c.loop-r in
    (omega arith) ∙ scan-hit at-loop.invariant c.loop-r-test.true _ c.does_lose.ensures c.if-does_lose.true g h ws l

pub loop-r-preserved : goal.loop-r-preserved
loop-r-preserved c =
    let at-loop = c.loop-r in
    scan-next at-loop.invariant c.loop-r-test.true _ c.does_lose.ensures c.if-does_lose.false

pub returns : goal.returns
returns c = λ g h ws l. scan-end c.loop-r.invariant c.loop-r-test.false g h ws l
