use Rattle.unions.proofs.Making.{Made}
use Rattle.unions.proofs.lines.make_lines.Given as goal

-- The elements are passed from the highest down (`Made`): the family at hand has the unions over those passed. What falls is the set of
-- elements left. Assumes what the contract requires.
abbrev pub invariant-loop-rest : goal.invariant-loop-rest
invariant-loop-rest l =
    Made l.x l.c l.frame.letters l.frame.heads l.frame.n l.frame.states l.frame.raising.now l.initial.all l.initial.keys l.initial.rests l.initial.hints l.count l.rest l.all l.keys l.rests l.hints l.found.family l.found.count

abbrev pub decreases-loop-rest : goal.decreases-loop-rest
decreases-loop-rest l =
    l.rest
