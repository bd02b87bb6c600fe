-- The places of every head before this one are written. Assumes what the contract requires.
use Prim.Native.Nat.{◌+◌, ◌*◌, ◌<◌, ◌≤◌}
use mathlib.Core.Path.{◌≡◌}
use lib.ListN.{length}
use Rattle.enumeration.specs.Places.{PlacedTo}
use Rattle.enumeration.proofs.places.set_letters.Given as goal

abbrev pub invariant-loop-a : goal.invariant-loop-a
invariant-loop-a l = (l.a ≤ l.letters) × (length l.initial.places ≡ 4096 → l.q < 32 → l.letters ≤ 64 → PlacedTo l.work l.count l.initial.places l.letters (l.q * 64) → PlacedTo l.work l.count l.places l.letters (l.q * 64 + l.a))
