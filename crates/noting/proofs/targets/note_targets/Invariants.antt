use Rattle.noting.proofs.Starting.{Starting}
use Rattle.noting.proofs.targets.note_targets.Given as goal

-- The transitions before place t are noted (`Starting`). Assumes what the contract requires.
abbrev pub invariant-loop-t : goal.invariant-loop-t
invariant-loop-t l =
    Starting l.targets l.numbers l.letters l.heads l.n l.targetcount l.initial.all l.initial.new l.initial.log l.initial.news l.log l.all l.new l.news l.t
