use Prim.Native.Nat.{◌-◌}
use lib.ListN.{length}
use Rattle.game.proofs.Going.{Going}
use Rattle.game.proofs.game.Game.read.Given as goal

-- The walk stands at an offset with the game so far, in parts: what `reading` says of the file is what the walk from here says
-- (`Going`). Each command that passes 3 to 7 moves both on by it; a refusal, the end and FF are what the definition says there.
-- The measure is how many bytes are left: every command has at least one. Assumes nothing.
abbrev pub invariant-loop-at : goal.invariant-loop-at
invariant-loop-at l = Going l.file l.sizes l.rules l.targets l.marks l.at

abbrev pub decreases-loop-at : goal.decreases-loop-at
decreases-loop-at l = length l.file - l.at
