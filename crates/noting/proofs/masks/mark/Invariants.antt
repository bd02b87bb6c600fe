use Rattle.noting.proofs.Marking.{Marks}
use Rattle.noting.proofs.masks.mark.Given as goal

-- The elements before k are marked or have no set. Assumes what the contract requires.
abbrev pub invariant-loop-k : goal.invariant-loop-k
invariant-loop-k l =
    Marks l.n l.letters l.states l.words l.c l.count l.k l.set
