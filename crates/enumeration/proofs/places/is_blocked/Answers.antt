use native.Mathlib.Omega.{arith}
use mathlib.Core.Path.{refl}
use lib.Pow.{pow_pos}
use Rattle.game.specs.ListLaws.{clash}
use Rattle.enumeration.proofs.Parts.{shifted_one, smaller}
use Rattle.enumeration.proofs.Turns.{rest-is}
use Rattle.enumeration.proofs.Blocking.{left-of}
use Rattle.enumeration.proofs.places.is_blocked.Goals as goal

pub returns-then-set-eq0 : goal.returns-then-set-eq0
returns-then-set-eq0 c =
    record {
      blocked = λ e some. absurd (omega (arith, some, c.if-set-eq0.true));
      set_nonzero = λ e. clash refl e;
    }

pub loop-left-init : goal.loop-left-init
loop-left-init c = λ k h. h

pub returns-then-end_at-start_at : goal.returns-then-end_at-start_at
returns-then-end_at-start_at c =
    record {
      blocked = λ e some. record { state = c.highest-q.result; member = c.loop-left.invariant _ (c.highest-q.ensures.member (omega (arith, c.loop-left-test.true))); first = c.start_at.result; last = c.end_at.result; starts = c.start_at.ensures.by_index; ends = c.end_at.ensures.by_index; none = c.if-end_at-start_at.true };
      set_nonzero = λ e. clash refl e;
    }

pub nonzero_rem-left : goal.nonzero_rem-left
nonzero_rem-left c = rw (shifted_one _ c.highest-q.ensures.small) (omega (arith, pow_pos c.highest-q.result))

pub loop-left-smaller : goal.loop-left-smaller
loop-left-smaller c = rw (rest-is _ _ c.highest-q.ensures) (smaller _ _ (omega (arith, c.loop-left-test.true)) c.highest-q.ensures)

pub loop-left-preserved : goal.loop-left-preserved
loop-left-preserved c = left-of _ _ _ c.loop-left.invariant _ (rest-is _ _ c.highest-q.ensures)

pub returns : goal.returns
returns c =
    record {
      blocked = λ e. clash e refl;
      set_nonzero = λ e. omega (arith, c.if-set-eq0.false);
    }
