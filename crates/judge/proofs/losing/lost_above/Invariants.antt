use Prim.Native.Nat.{ℕ}
use Rattle.table.specs.Table.{entries_of}
use Rattle.judge.specs.Machine.{head_lost}
use Rattle.judge.proofs.LostRules.{Marked}
use Rattle.judge.proofs.losing.lost_above.Given as goal

-- The states below q whose heads have no worth are in the set, and no others (`Marked`).
-- Assumes what the contract requires.
abbrev pub invariant-loop-q : goal.invariant-loop-q
invariant-loop-q l = Marked (λ (k : ℕ). head_lost k l.letter l.lost (entries_of l.table)) l.fn.sizes.states l.q l.set
