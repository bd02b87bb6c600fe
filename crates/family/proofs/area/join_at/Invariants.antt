use Rattle.family.proofs.Areas.{Walked, joined}
use Rattle.family.proofs.area.join_at.Given as goal

-- One word is written at once (`joined-one`). In the loop the words before place i are joined (`Walked`). Assumes what the contract requires.
abbrev pub invariant-loop-i : goal.invariant-loop-i
invariant-loop-i l = Walked l.initial.words l.to l.n (joined l.initial.words l.to l.others l.at) l.words l.i
