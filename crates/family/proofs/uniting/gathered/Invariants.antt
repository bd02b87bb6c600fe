use Rattle.family.proofs.Into.{Gathering}
use Rattle.family.proofs.uniting.gathered.Given as goal

-- The numbers within i, from i itself down, each taken from p: the words at these places are joined (`Gathering`). The next such number is
-- found by a mask, and what falls is the number. Assumes what the contract requires.
abbrev pub invariant-loop-s : goal.invariant-loop-s
invariant-loop-s l = Gathering l.i l.p l.a l.at l.sum l.s

abbrev pub decreases-loop-s : goal.decreases-loop-s
decreases-loop-s l = l.s
