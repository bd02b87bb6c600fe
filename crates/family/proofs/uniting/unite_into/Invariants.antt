use Prim.Native.Nat.{◌≤◌}
use mathlib.Core.Path.{◌≡◌}
use lib.ListN.{length}
use Rattle.family.specs.Masks.{Raising}
use Rattle.family.proofs.Into.{Adding}
use Rattle.family.proofs.uniting.unite_into.Given as goal

-- The words of the second family before place i have given their unions (`Adding`). Assumes what the contract requires.
abbrev pub invariant-loop-i : goal.invariant-loop-i
invariant-loop-i l = (length l.out ≡ length l.initial.out) × (l.i ≤ l.n) × (Raising l.raising → Adding l.n l.a l.at l.b l.bt l.initial.out l.out l.i)
