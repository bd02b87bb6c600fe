use mathlib.Core.Path.{ap, ◌∙◌}
use mathlib.Core.Bool.{not}
use Rattle.game.specs.Sets.{has}
use Rattle.game.specs.Stored.{padded}
use Rattle.game.specs.Questions.{is_new}
use Rattle.game.specs.declared.game.Sizes.{Sizes}
use Rattle.game.proofs.Commands.{new-other}
use Rattle.game.proofs.Filtering.{new-rule, new-target}
use Rattle.game.proofs.question.is_new.Goals as goal

pub returns-then-not-is_marked : goal.returns-then-not-is_marked
unfolding is_new
returns-then-not-is_marked c = λ g e f. rw c.in-Rule.is (new-rule g _ f _ _ _ _ _ _ _ _ c.slot.ensures.0 c.is_marked.ensures (c.if-not-is_marked.true))

pub returns-then-not-is_marked-2 : goal.returns-then-not-is_marked-2
unfolding is_new
returns-then-not-is_marked-2 c = λ g e f. rw c.in-Target.is (new-target g _ f _ _ _ _ _ c.slot-in-Target.ensures.0 c.is_marked-in-Target.ensures (c.if-not-is_marked-2.true))

pub returns-in-Abelard : goal.returns-in-Abelard
unfolding is_new
returns-in-Abelard c = λ g e f. rw c.in-Abelard.is (ap not (c.has_state.ensures ∙ ap (λ (x : Sizes). has x.abelard c.in-Abelard.state) e.sized))

pub returns-in-Final : goal.returns-in-Final
unfolding is_new
returns-in-Final c = λ g e f. rw c.in-Final.is (ap not (c.has_state-in-Final.ensures ∙ ap (λ (x : Sizes). has x.finals c.in-Final.state) e.sized))

pub returns-else-not-is_marked : goal.returns-else-not-is_marked
unfolding is_new padded
returns-else-not-is_marked c = λ g e f. rw c.in-Rule.is (ap not (c.is_rule_stored.ensures g.rules _ e.ruled (ap (λ (x : Sizes). x.rulecount) e.sized)))

pub returns-else-not-is_marked-2 : goal.returns-else-not-is_marked-2
unfolding is_new padded
returns-else-not-is_marked-2 c = λ g e f. rw c.in-Target.is (ap not (c.is_target_stored.ensures g.targets _ e.targeted (ap (λ (x : Sizes). x.targetcount) e.sized)))

pub returns-in_default : goal.returns-in_default
returns-in_default c = λ g e f. new-other g _ c.in_default.in_default-own.keys5
