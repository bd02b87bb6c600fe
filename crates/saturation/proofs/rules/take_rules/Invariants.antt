use Rattle.saturation.proofs.RuleLoop.{Wording}
use Rattle.saturation.proofs.rules.take_rules.Given as goal

-- The words before w are passed (`Wording`). Assumes what the contract requires.
abbrev pub invariant-loop-w : goal.invariant-loop-w
invariant-loop-w l =
    Wording l.active l.size l.birthdate l.rules l.marks l.more l.initial.kept l.initial.all l.initial.keys l.initial.rests l.initial.ends l.initial.added l.initial.log l.before l.kept l.all l.keys l.rests l.ends l.added l.log l.entries l.w
