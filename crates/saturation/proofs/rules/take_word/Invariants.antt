use Rattle.saturation.proofs.RuleLoop.{Going}
use Rattle.saturation.proofs.rules.take_word.Given as goal

-- The rules whose bits are no longer in `rest` are taken (`Going`). What falls is the word of the bits left. Assumes what the contract requires.
abbrev pub invariant-loop-rest : goal.invariant-loop-rest
invariant-loop-rest l =
    Going l.word l.from l.size l.birthdate l.rules l.marks l.more l.initial.kept l.initial.all l.initial.keys l.initial.rests l.initial.ends l.initial.added l.initial.log l.before l.kept l.all l.keys l.rests l.ends l.added l.log l.entries l.rest

abbrev pub decreases-loop-rest : goal.decreases-loop-rest
decreases-loop-rest l =
    l.rest
