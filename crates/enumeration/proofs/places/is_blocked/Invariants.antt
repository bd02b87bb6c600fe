-- The states of the set, the highest first: those left are states of the set. The first one that has no entry between its places blocks
-- it. What falls is the set left. Assumes nothing.
use mathlib.Core.Path.{◌≡◌}
use mathlib.Core.Bool.{true}
use Prim.Native.Nat.{ℕ}
use Rattle.game.specs.Sets.{has}
use Rattle.enumeration.proofs.places.is_blocked.Given as goal

abbrev pub invariant-loop-left : goal.invariant-loop-left
invariant-loop-left l = (k : ℕ) → has l.left k ≡ true → has l.set k ≡ true

abbrev pub decreases-loop-left : goal.decreases-loop-left
decreases-loop-left l = l.left
