use mathlib.Core.Path.{sym, ◌∙◌}
use native.Mathlib.Omega.{arith}
use borrow.Author.Tests.{lt-ltb, le-ltb}
use Rattle.game.specs.Position.{form}
use Rattle.game.proofs.Stack.{opens, breaks-bottom, breaks-letter, goes_down, comes, ends, breaks-last}
use Rattle.game.proofs.position.position_form.Goals as goal

pub returns-then-bytes-lt2 : goal.returns-then-bytes-lt2
unfolding form
returns-then-bytes-lt2 c = rw (lt-ltb _ _ c.if-bytes-lt2.true, c.at.ensures)

pub returns-then-bytes : goal.returns-then-bytes
unfolding form
returns-then-bytes c = rw (le-ltb _ _ c.if-bytes-lt2.false, lt-ltb _ _ c.if-bytes.true, c.at-then-bytes.ensures)

pub returns-then-control-bytes : goal.returns-then-control-bytes
unfolding form
returns-then-control-bytes c = rw (le-ltb _ _ c.if-bytes-lt2.false, le-ltb _ _ c.if-bytes.false, le-ltb _ _ c.if-control-bytes.true, c.at-then-control-bytes.ensures)

pub loop-i-init : goal.loop-i-init
loop-i-init c = (omega arith, omega arith, opens _ _ _ c.if-bytes-lt2.false c.if-bytes.false c.if-control-bytes.false)

pub returns-then-a-eq0 : goal.returns-then-a-eq0
returns-then-a-eq0 c = rw c.at-then-a-eq0.ensures (sym (c.loop-i.invariant.2 ∙ breaks-bottom _ c.loop-i.i _ (omega arith) c.if-a-eq0.true))

pub returns-then-letters-a : goal.returns-then-letters-a
returns-then-letters-a c = rw c.at-then-letters-a.ensures (sym (c.loop-i.invariant.2 ∙ breaks-letter _ c.loop-i.i _ (omega arith) c.if-a-eq0.false c.if-letters-a.true))

pub loop-i-preserved : goal.loop-i-preserved
loop-i-preserved c = (omega arith, omega arith, c.loop-i.invariant.2 ∙ goes_down _ c.loop-i.i _ (omega arith) c.if-a-eq0.false c.if-letters-a.false)

pub returns-then-bytes-last-ne0 : goal.returns-then-bytes-last-ne0
returns-then-bytes-last-ne0 c =
    rw c.at-then-bytes-last-ne0.ensures
    (sym
    (c.loop-i.invariant.2
    ∙ comes _ c.loop-i.i _ _ c.loop-i.invariant.1 c.loop-i-test.false
    ∙ breaks-last _ _ _ (omega arith) c.if-bytes-last-ne0.true))

pub returns : goal.returns
returns c =
    sym
    (c.loop-i.invariant.2
    ∙ comes _ c.loop-i.i _ _ c.loop-i.invariant.1 c.loop-i-test.false
    ∙ ends _ _ _ (omega arith) c.if-bytes-last-ne0.false)
