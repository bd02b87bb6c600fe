use borrow.Enum.Refused.{opened}
use Rattle.game.specs.Questions.{has_room}
use Rattle.game.proofs.Commands.{room-other}
use Rattle.game.proofs.question.is_room.Goals as goal

pub returns-in-Rule : goal.returns-in-Rule
unfolding has_room
returns-in-Rule c = rw c.in-Rule.is

pub returns-in-Target : goal.returns-in-Target
unfolding has_room
returns-in-Target c = rw c.in-Target.is

pub returns-in_default : goal.returns-in_default
returns-in_default c = room-other _ _ _ (opened c.in_default.in_default-own.keys3)
