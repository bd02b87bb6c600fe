use Prim.Native.Nat.{ℕ, ◌≤◌, ◌<◌, ◌*◌}
use mathlib.Core.Path.{◌≡◌}
use mathlib.Core.Bool.{false}
use Rattle.game.specs.Questions.{same_rule}
use Rattle.game.specs.Stored.{rule_at}
use Rattle.game.proofs.question.is_rule_stored.Given as goal

-- No rule before place i is the one asked for.
-- Assumes what the contract requires.
abbrev pub invariant-loop-r : goal.invariant-loop-r
invariant-loop-r l =
    (l.r ≤ l.stored) × ((k : ℕ) → k < l.r → same_rule l.rule.from l.rule.top l.rule.to l.rule.count l.rule.above l.rule.below (rule_at l.rules (k * 6) 0) ≡ false)
