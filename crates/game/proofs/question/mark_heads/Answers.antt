use mathlib.Core.Path.{refl, ◌∙◌}
use native.Mathlib.Omega.{arith}
use Rattle.game.proofs.Heads.{headed-more, headed-all}
use Rattle.game.proofs.question.mark_heads.Goals as goal

pub loop-i-preserved : goal.loop-i-preserved
loop-i-preserved c = (omega arith, c.mark_head.ensures.long ∙ c.loop-i.invariant.1, λ h. headed-more _ _ _ _ (c.loop-i.invariant.2 h) c.mark_head.ensures)

pub returns : goal.returns
returns c = λ h. headed-all _ _ _ _ c.loop-i.invariant.0 c.loop-i-test.false (c.loop-i.invariant.2 h)
