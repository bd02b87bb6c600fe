use mathlib.Core.Path.{refl}
use Rattle.game.specs.Command.{set_of}
use Rattle.game.proofs.command.set_of.Goals as goal

pub returns : goal.returns
unfolding set_of
returns c = refl
