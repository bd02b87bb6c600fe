use mathlib.Core.Path.{ap}
use borrow.Author.Tests.{eq-eqb, ne_eqb}
use Rattle.game.specs.Questions.{ending}
use Rattle.game.specs.Outcome.{done}
use Rattle.game.specs.Stored.{padded}
use Rattle.game.specs.Parts.{whole}
use Rattle.game.specs.declared.game.Sizes.{Sizes}
use Rattle.game.proofs.Going.{heads-found}
use Rattle.game.proofs.reading.close.Goals as goal

pub returns-then-after-size : goal.returns-then-after-size
unfolding ending
returns-then-after-size c = λ g e. rw (ne_eqb _ _ c.if-after-size.true, c.at.ensures)

pub returns-then-not-is_every_head : goal.returns-then-not-is_every_head
unfolding ending padded
returns-then-not-is_every_head c = λ g e. rw (eq-eqb _ _ c.if-after-size.false, heads-found _ g e.sized _ _ (c.is_every_head.ensures g.rules _ e.ruled (ap (λ (x : Sizes). x.rulecount) e.sized)) (c.if-not-is_every_head.true), c.at-then-not-is_every_head.ensures)

pub returns : goal.returns
unfolding ending padded
returns c = λ g e. rw (eq-eqb _ _ c.if-after-size.false, heads-found _ g e.sized _ _ (c.is_every_head.ensures g.rules _ e.ruled (ap (λ (x : Sizes). x.rulecount) e.sized)) (c.if-not-is_every_head.false)) (ap done (whole g _ _ _ e))
