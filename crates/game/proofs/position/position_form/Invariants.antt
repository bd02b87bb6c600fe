use Prim.Native.Nat.{◌≤◌}
use mathlib.Core.Path.{◌≡◌}
use lib.ListN.{drop}
use Rattle.game.specs.Position.{form, stack_form}
use Rattle.game.proofs.position.position_form.Given as goal

-- What question 14 says of the bytes is what it says of the stack from byte i on. Letters before the last are asked one by one,
-- the last after the loop. Assumes nothing.
abbrev pub invariant-loop-i : goal.invariant-loop-i
invariant-loop-i l =
    (1 ≤ l.i) × (l.i ≤ l.last) × (form l.control l.letters l.bytes ≡ stack_form l.letters l.i (drop l.i l.bytes))
