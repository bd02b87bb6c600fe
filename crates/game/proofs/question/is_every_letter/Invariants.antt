use Prim.Native.Nat.{ℕ, ◌≤◌, ◌<◌}
use mathlib.Core.Path.{◌≡◌}
use mathlib.Core.Bool.{true}
use Rattle.game.specs.Marks.{head_marked}
use Rattle.game.proofs.question.is_every_letter.Given as goal

-- Every letter below the one looked at is marked with this control state.
-- Assumes what the contract requires.
abbrev pub invariant-loop-a : goal.invariant-loop-a
invariant-loop-a l = (l.a ≤ l.letters) × ((k : ℕ) → k < l.a → head_marked l.heads l.p k ≡ true)
