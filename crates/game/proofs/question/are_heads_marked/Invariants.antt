use Prim.Native.Nat.{ℕ, ◌≤◌, ◌<◌}
use mathlib.Core.Path.{◌≡◌}
use mathlib.Core.Bool.{true}
use Rattle.game.specs.Marks.{letters_marked}
use Rattle.game.proofs.question.are_heads_marked.Given as goal

-- Every control state below p is marked with every letter.
-- Assumes what the contract requires.
abbrev pub invariant-loop-p : goal.invariant-loop-p
invariant-loop-p l = (l.p ≤ l.control) × ((k : ℕ) → k < l.p → letters_marked l.heads l.letters k ≡ true)
