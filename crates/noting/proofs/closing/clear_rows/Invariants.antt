use Rattle.noting.proofs.ClosingMasks.{Clearing}
use Rattle.noting.proofs.closing.clear_rows.Given as goal

-- The states from the first further one on are passed (`Clearing`). Assumes what the contract requires.
abbrev pub invariant-loop-q : goal.invariant-loop-q
invariant-loop-q l =
    Clearing l.control l.letters l.n l.initial.new l.initial.news l.q l.new l.news
