use Rattle.noting.proofs.Marking.{Marking}
use Rattle.noting.proofs.masks.set_masks.Given as goal

-- The letters before c have their elements (`Marking`). Assumes what the contract requires.
abbrev pub invariant-loop-c : goal.invariant-loop-c
invariant-loop-c l =
    Marking l.count l.states l.letters l.n l.all l.new l.initial.fresh l.initial.alive l.fresh l.alive l.c
