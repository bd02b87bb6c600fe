use Prim.Native.Nat.{◌*◌, ◌≤◌}
use Rattle.unions.proofs.pairs.sets_at.Given as goal

-- The sets of the words before this one are counted, at most 64 for each. Assumes what the contract requires.
abbrev pub invariant-loop-word : goal.invariant-loop-word
invariant-loop-word l = l.sum ≤ l.word-index * 64
