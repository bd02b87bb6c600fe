-- The places of the heads of every state before this one are written. Assumes what the contract requires.
use Prim.Native.Nat.{◌*◌, ◌≤◌}
use mathlib.Core.Path.{◌≡◌}
use lib.ListN.{length}
use Rattle.enumeration.specs.Places.{PlacedTo}
use Rattle.enumeration.proofs.places.set_places.Given as goal

abbrev pub invariant-loop-q : goal.invariant-loop-q
invariant-loop-q l = (l.q ≤ l.states) × (length l.initial.places ≡ 4096 → l.states ≤ 32 → l.letters ≤ 64 → PlacedTo l.work l.count l.places l.letters (l.q * 64))
