use Prim.Native.Nat.{◌≤◌}
use mathlib.Core.Path.{◌≡◌}
use lib.ListN.{length}
use Rattle.noting.specs.Reading.{FirstTo}
use Rattle.noting.proofs.readers.find_first.Given as goal

-- The states below q are done (`FirstTo`). Assumes what the contract requires.
abbrev pub invariant-loop-q : goal.invariant-loop-q
invariant-loop-q l = FirstTo l.q l.news l.readers l.initial.active l.active × (l.q ≤ l.states) × (length l.active ≡ length l.initial.active)
