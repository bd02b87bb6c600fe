use mathlib.Core.Path.{refl}
use Rattle.table.specs.Table.{first_word}
use Rattle.saturation.proofs.rules.first_of.Goals as goal

pub returns : goal.returns
unfolding first_word
returns c = refl
