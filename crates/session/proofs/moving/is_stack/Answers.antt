use Prim.Native.Nat.{◌-◌}
use native.Mathlib.Omega.{arith}
use Rattle.session.proofs.Scan.{starts, breaks-bottom, breaks-letter, goes_down, breaks-last, ends}
use Rattle.session.proofs.moving.is_stack.Goals as goal

pub returns-then-a-eq0 : goal.returns-then-a-eq0
returns-then-a-eq0 c = breaks-bottom _ _ _ (c.loop-i.i - 1) c.loop-i.invariant.1 (omega arith) c.if-a-eq0.true

pub returns-then-letters-a : goal.returns-then-letters-a
returns-then-letters-a c = breaks-letter _ _ _ (c.loop-i.i - 1) c.loop-i.invariant.1 c.if-letters-a.true

pub loop-i-preserved : goal.loop-i-preserved
loop-i-preserved c = (omega arith, goes_down _ _ _ (c.loop-i.i - 1) c.loop-i.invariant.1 (omega arith) c.if-a-eq0.false c.if-letters-a.false)

pub returns-then-stack-ne0 : goal.returns-then-stack-ne0
returns-then-stack-ne0 c = breaks-last _ _ _ (c.loop-i.i - 1) c.loop-i.invariant.1 (omega arith) c.if-stack-ne0.true

pub returns : goal.returns
returns c = ends _ _ _ (c.loop-i.i - 1) c.loop-i.invariant.1 (omega arith) c.if-stack-ne0.false
