use Prim.Native.Nat.{◌^◌, ◌<◌}
use Rattle.family.specs.Masks.{Raising}
use Rattle.family.proofs.Unions.{Wording}
use Rattle.family.proofs.uniting.unite_by.Given as goal

-- The sets of `few` that are passed have given their unions (`Wording`). What falls is the word of those left.
-- Assumes what the contract requires.
abbrev pub invariant-loop-rest : goal.invariant-loop-rest
invariant-loop-rest l = (l.rest < 2 ^ 64) × (Raising l.raising → Wording l.many l.few l.unions l.rest)

abbrev pub decreases-loop-rest : goal.decreases-loop-rest
decreases-loop-rest l = l.rest
