use borrow.Enum.Refused.{opened}
use Rattle.game.specs.Questions.{in_order}
use Rattle.game.proofs.Commands.{order_other}
use Rattle.game.proofs.question.is_in_order.Goals as goal

pub returns-in-Sizes : goal.returns-in-Sizes
unfolding in_order
returns-in-Sizes c = rw c.in-Sizes.is

pub returns-in_default : goal.returns-in_default
returns-in_default c = order_other _ _ (opened c.in_default.in_default-own.keys2)
