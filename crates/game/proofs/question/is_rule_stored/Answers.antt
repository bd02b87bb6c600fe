use mathlib.Core.Path.{refl, sym, ◌∙◌}
use native.Mathlib.Omega.{arith}
use borrow.Author.Count.{below_more}
use Rattle.game.specs.Questions.{same_rule}
use Rattle.game.proofs.Tests.{six}
use Rattle.game.specs.StoredLaws.{rules-hit, rules-none}
use Rattle.game.proofs.question.is_rule_stored.Goals as goal

pub loop-r-preserved : goal.loop-r-preserved
unfolding same_rule
loop-r-preserved c =
    (omega arith, below_more _ _ c.loop-r.invariant.1 (rw (← six _ _ _ _ _ _) (rw c.at.ensures at (sym c.eq.ensures ∙ c.if-eq.false))))

pub returns : goal.returns
unfolding same_rule
returns c = rules-none (same_rule _ _ _ _ _ _) (λ bytes at n. refl) _ _ (λ k h. c.loop-r.invariant.1 k (omega arith))

pub returns-then-eq : goal.returns-then-eq
unfolding same_rule
returns-then-eq c =
    rules-hit (same_rule _ _ _ _ _ _) (λ bytes at n. refl) _ _ c.loop-r.r (omega arith)
    (rw (← six _ _ _ _ _ _) (rw c.at.ensures at (sym c.eq.ensures ∙ c.if-eq.true)))
