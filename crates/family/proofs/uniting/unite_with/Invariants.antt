use Prim.Native.Nat.{◌-◌}
use mathlib.Core.Path.{◌≡◌}
use lib.ListN.{length}
use Rattle.game.specs.Sets.{union}
use Rattle.family.specs.Masks.{Raising}
use Rattle.family.proofs.Into.{Placed}
use Rattle.family.proofs.uniting.unite_with.Given as goal

-- The places that contain i, from i itself up: those before place p have what the word gives there (`Placed`). What falls is the number
-- of places left. Assumes what the contract requires.
abbrev pub invariant-loop-p : goal.invariant-loop-p
invariant-loop-p l = (length l.out ≡ length l.initial.out) × (union l.i l.p ≡ l.p) × (Raising l.raising → Placed l.n l.i l.word l.a l.at l.initial.out l.out l.p)

abbrev pub decreases-loop-p : goal.decreases-loop-p
decreases-loop-p l = l.n - l.p
