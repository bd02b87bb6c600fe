use Rattle.unions.proofs.Choosing.{Running}
use Rattle.unions.proofs.ends.add_runs.Given as goal

-- The words before j are done (`Running`). Assumes what the contract requires.
abbrev pub invariant-loop-j : goal.invariant-loop-j
invariant-loop-j l =
    Running l.head l.c l.frame.letters l.frame.heads l.frame.n l.still l.alive l.frame.states l.frame.raising.now l.new l.initial.more l.initial.all l.initial.keys l.initial.rests l.initial.hints l.count l.more l.all l.keys l.rests l.hints l.lines l.j
