use Rattle.saturation.proofs.HeadLoop.{Rowing}
use Rattle.saturation.proofs.heads.take_row.Given as goal

-- The letters passed are taken (`Rowing`): a letter that is not marked has its unions already, and one that does not fit shows that the
-- round does not. What falls is the word of the marks left. Assumes what the contract requires.
abbrev pub invariant-loop-rest : goal.invariant-loop-rest
invariant-loop-rest l =
    Rowing l.rules.sizes.abelard l.p l.word l.rules.frame.letters l.rules.sizes.rulecount l.rules.frame.n l.ends l.rules.firsts.now l.rules.nexts.now l.rules.frame.raising.now l.all l.initial.added l.initial.gains l.initial.log l.count l.size l.birthdate l.added l.gains l.log l.entries l.rest

abbrev pub decreases-loop-rest : goal.decreases-loop-rest
decreases-loop-rest l =
    l.rest
