use Prim.Native.Nat.{ℕ, ◌≤◌, ◌<◌, ◌*◌}
use mathlib.Core.Path.{◌≡◌}
use mathlib.Core.Bool.{false}
use Rattle.game.specs.Questions.{same_target}
use Rattle.game.specs.Stored.{target_at}
use Rattle.game.proofs.question.is_target_stored.Given as goal

-- No transition before place i is the one asked for.
-- Assumes what the contract requires.
abbrev pub invariant-loop-t : goal.invariant-loop-t
invariant-loop-t l =
    (l.t ≤ l.stored) × ((k : ℕ) → k < l.t → same_target l.target.state l.target.letter l.target.set (target_at l.targets (k * 3)) ≡ false)
