use mathlib.Core.Path.{refl}
use Rattle.game.specs.Sets.{has}
use Rattle.family.proofs.MaskTable.{right, raising}
use Rattle.family.proofs.raising.raising_table.Goals as goal

-- The entries of the constant pass the test that compares each with the word of its set, which is computed here (`raising`).
-- Assumes nothing.
pub returns : goal.returns
unfolding has right
returns c = raising _ refl refl
