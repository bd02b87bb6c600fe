use mathlib.Core.Path.{sym, ◌∙◌}
use native.Mathlib.Omega.{arith}
use borrow.Author.Count.{below_more}
use Rattle.game.specs.ListLaws.{at-all_below, not-all_below}
use Rattle.game.proofs.question.are_heads_marked.Goals as goal

pub is_every_letter-requires : goal.is_every_letter-requires
is_every_letter-requires c = (c.requires.0, omega (arith, c.loop-p-test.true, c.requires.1), c.requires.2)

pub returns-then-not-is_every_letter : goal.returns-then-not-is_every_letter
returns-then-not-is_every_letter c = sym (not-all_below _ _ c.loop-p.p c.loop-p-test.true (sym c.is_every_letter.ensures ∙ c.if-not-is_every_letter.true))

pub loop-p-preserved : goal.loop-p-preserved
loop-p-preserved c = (omega arith, below_more _ _ c.loop-p.invariant.1 (sym c.is_every_letter.ensures ∙ c.if-not-is_every_letter.false))

pub returns : goal.returns
returns c = sym (at-all_below _ _ (λ k h. c.loop-p.invariant.1 k (omega arith)))
