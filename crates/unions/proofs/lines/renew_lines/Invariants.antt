use Rattle.unions.proofs.Renewing.{Renewed}
use Rattle.unions.proofs.lines.renew_lines.Given as goal

-- The lines before k are brought up (`Renewed`). Assumes what the contract requires.
abbrev pub invariant-loop-k : goal.invariant-loop-k
invariant-loop-k l =
    Renewed l.frame.letters l.frame.heads l.frame.n l.frame.states l.frame.raising.now l.initial.all l.initial.new l.keys l.rests l.fresh l.count l.all l.new l.k
