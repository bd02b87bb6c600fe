use native.Mathlib.Omega.{arith}
use Rattle.game.specs.Marks.{slot_of}
use Rattle.game.proofs.filter.slot_of.Goals as goal

pub returns : goal.returns
unfolding slot_of
returns c = (rw c.head_slot.ensures, omega arith)
