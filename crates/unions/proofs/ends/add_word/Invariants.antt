use Rattle.unions.proofs.Summing.{Wording}
use Rattle.unions.proofs.ends.add_word.Given as goal

-- The sets of the word are passed from the lowest up (`Wording`). What falls is the word of those left. Assumes what the contract requires.
abbrev pub invariant-loop-rest : goal.invariant-loop-rest
invariant-loop-rest l =
    Wording l.word l.from l.c l.frame.letters l.frame.heads l.frame.n l.frame.states l.frame.raising.now l.initial.more l.initial.all l.initial.keys l.initial.rests l.initial.hints l.count l.rest l.more l.all l.keys l.rests l.hints l.lines

abbrev pub decreases-loop-rest : goal.decreases-loop-rest
decreases-loop-rest l =
    l.rest
