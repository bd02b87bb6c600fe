use Prim.Native.Nat.{ℕ}
use lib.ListN.{get_or}
use Rattle.std.specs.Prelude.{None, is_none}
use Rattle.judge.proofs.LostRules.{Marked}
use Rattle.judge.proofs.losing.lost_states.Given as goal

-- The states below q without a worth are in the set, and no others (`Marked`).
-- Assumes what the contract requires.
abbrev pub invariant-loop-q : goal.invariant-loop-q
invariant-loop-q l = Marked (λ (k : ℕ). is_none (get_or l.below k None)) l.states l.q l.set
