use borrow.Enum.Refused.{opened}
use Rattle.game.specs.Questions.{keeps_bottom}
use Rattle.game.proofs.Commands.{kept-other}
use Rattle.game.proofs.question.is_bottom_kept.Goals as goal

pub returns-in-Rule : goal.returns-in-Rule
unfolding keeps_bottom
returns-in-Rule c = rw c.in-Rule.is c.is_word_kept.ensures

pub returns-in_default : goal.returns-in_default
returns-in_default c = kept-other _ (opened c.in_default.in_default-own.keys2)
