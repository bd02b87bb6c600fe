use Rattle.game.specs.Stored.{padded, rule_bytes, target_words}
use Rattle.game.proofs.game.Game.empty.Goals as goal

pub returns : goal.returns
unfolding padded rule_bytes target_words
returns c = rw c.none.ensures
