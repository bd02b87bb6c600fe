use mathlib.Core.Path.{refl}
use Rattle.game.specs.Sets.{has}
use Rattle.game.specs.Marks.{marked}
use Rattle.game.proofs.filter.is_marked.Goals as goal

pub returns : goal.returns
unfolding marked has
returns c = refl
