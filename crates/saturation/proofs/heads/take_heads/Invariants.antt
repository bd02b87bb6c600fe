use Rattle.saturation.proofs.HeadLoop.{Going}
use Rattle.saturation.proofs.heads.take_heads.Given as goal

-- The heads of the states below that at hand are taken (`Going`): a state that does not fit shows that the round does not. Assumes what the contract
-- requires.
abbrev pub invariant-loop-p : goal.invariant-loop-p
invariant-loop-p l =
    Going l.rules.sizes.abelard l.rules.sizes.control l.rules.frame.letters l.rules.sizes.rulecount l.rules.frame.n l.ends l.stirred l.rules.firsts.now l.rules.nexts.now l.rules.frame.raising.now l.all l.initial.added l.initial.gains l.initial.log l.count l.size l.birthdate l.added l.gains l.log l.entries l.p
