use mathlib.Core.Path.{sym, ◌∙◌}
use native.Mathlib.Omega.{arith}
use borrow.Author.Count.{below_more}
use Rattle.game.specs.Questions.{same_target}
use Rattle.game.specs.StoredLaws.{targets-hit, targets-none}
use Rattle.game.proofs.question.is_target_stored.Goals as goal

pub returns-then-is_target_at : goal.returns-then-is_target_at
returns-then-is_target_at c = targets-hit (same_target _ _ _) _ _ c.loop-t.t (omega arith) (sym c.is_target_at.ensures ∙ c.if-is_target_at.true)

pub loop-t-preserved : goal.loop-t-preserved
loop-t-preserved c = (omega arith, below_more _ _ c.loop-t.invariant.1 (sym c.is_target_at.ensures ∙ c.if-is_target_at.false))

pub returns : goal.returns
returns c = targets-none (same_target _ _ _) _ _ (λ k h. c.loop-t.invariant.1 k (omega arith))
