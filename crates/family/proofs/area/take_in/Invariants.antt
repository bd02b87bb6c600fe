use Rattle.family.proofs.Areas.{Walked, fresh, grown}
use Rattle.family.proofs.area.take_in.Given as goal

-- One word is written at once (`taken-one`). In the loop the words before place t of both areas are written (`Walked`), each from the words that
-- were there, since no word is written twice. Assumes what the contract requires.
abbrev pub invariant-loop-t : goal.invariant-loop-t
invariant-loop-t l = Walked l.initial.all l.to l.n (grown l.d l.initial.all l.to) l.all l.t × Walked l.initial.new l.to l.n (fresh l.d l.initial.all l.to) l.new l.t
