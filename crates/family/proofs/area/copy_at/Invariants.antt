use Rattle.family.proofs.Areas.{Walked, copied}
use Rattle.family.proofs.area.copy_at.Given as goal

-- One word is written at once (`copied-one`), and so are two and four (`copied-two`, `copied-four`). In the loop the words before place i are
-- those copied (`Walked`). Assumes what the contract requires.
abbrev pub invariant-loop-i : goal.invariant-loop-i
invariant-loop-i l = Walked l.initial.words l.to l.n (copied l.others l.at) l.words l.i
