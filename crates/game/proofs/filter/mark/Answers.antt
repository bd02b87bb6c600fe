use Rattle.game.proofs.Filtering.{sets-bit}
use Rattle.game.proofs.filter.mark.Goals as goal

pub returns : goal.returns
returns c = sets-bit _ _ c.requires
