use Rattle.noting.proofs.Giving.{Giving}
use Rattle.noting.proofs.offers.offer.Given as goal

-- The words before j are offered (`Giving`); a set that has no room shows that the round has none. Assumes what the contract requires.
abbrev pub invariant-loop-j : goal.invariant-loop-j
invariant-loop-j l =
    Giving l.at l.head l.n l.size l.first l.rule l.d l.all l.initial.log l.initial.added l.count l.log l.added l.entries l.j
