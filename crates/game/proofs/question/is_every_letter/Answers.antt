use mathlib.Core.Path.{sym, ap, ◌∙◌}
use native.Mathlib.Omega.{arith}
use borrow.Author.Count.{below_more}
use Rattle.game.specs.Marks.{marked}
use Rattle.game.specs.ListLaws.{at-all_below, not-all_below}
use Rattle.game.proofs.question.is_every_letter.Goals as goal

pub returns-then-not-is_marked : goal.returns-then-not-is_marked
returns-then-not-is_marked c = sym (not-all_below _ _ c.loop-a.a c.loop-a-test.true (ap (marked _) (sym c.head_slot.ensures) ∙ sym c.is_marked.ensures ∙ c.if-not-is_marked.true))

pub loop-a-preserved : goal.loop-a-preserved
loop-a-preserved c = (omega arith, below_more _ _ c.loop-a.invariant.1 (ap (marked _) (sym c.head_slot.ensures) ∙ sym c.is_marked.ensures ∙ c.if-not-is_marked.false))

pub returns : goal.returns
returns c = sym (at-all_below _ _ (λ k h. c.loop-a.invariant.1 k (omega arith)))
