use Prim.Native.Nat.{◌≤◌}
use mathlib.Core.Path.{◌≡◌}
use lib.ListN.{length}
use Rattle.game.specs.Marks.{Headed}
use Rattle.game.proofs.question.mark_heads.Given as goal

-- The heads of the rules before place i are marked. Assumes what the contract requires.
abbrev pub invariant-loop-i : goal.invariant-loop-i
invariant-loop-i l = (l.i ≤ l.stored) × (length l.heads ≡ length l.initial.heads) × (Headed l.rules 0 l.initial.heads → Headed l.rules l.i l.heads)
