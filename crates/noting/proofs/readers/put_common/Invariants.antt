use Rattle.noting.proofs.ActiveRules.{Meeting}
use Rattle.noting.proofs.readers.put_common.Given as goal

-- The words before place w are written (`Meeting`). Assumes what the contract requires.
abbrev pub invariant-loop-w : goal.invariant-loop-w
invariant-loop-w l = Meeting l.initial.active l.some l.readers l.at l.active l.w
