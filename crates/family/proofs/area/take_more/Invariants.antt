use Rattle.family.proofs.Areas.{Walked, grown, Missing}
use Rattle.family.proofs.area.take_more.Given as goal

-- One word is written at once (`more-one`). In the loop the words before place t are written (`Walked`), each from the word that was there, and what
-- was not there is gathered in one word (`Missing`). Assumes what the contract requires.
abbrev pub invariant-loop-t : goal.invariant-loop-t
invariant-loop-t l = Walked l.initial.all l.to l.n (grown l.d l.initial.all l.to) l.all l.t × Missing l.d l.initial.all l.to l.any l.t
