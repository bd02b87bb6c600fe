use Rattle.family.proofs.Areas.{Walked, without}
use Rattle.family.proofs.area.remove_at.Given as goal

-- The words before place i are those without the other family's sets (`Walked`). Assumes what the contract requires.
abbrev pub invariant-loop-i : goal.invariant-loop-i
invariant-loop-i l = Walked l.initial.words l.to l.n (without l.initial.words l.to l.others l.at) l.words l.i
