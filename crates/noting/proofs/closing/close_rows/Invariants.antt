use Rattle.noting.specs.ClosingRows.{RowsClosed}
use Rattle.noting.proofs.closing.close_rows.Given as goal

-- The control states are passed one after another (`RowsClosed`). Assumes what the contract requires.
abbrev pub invariant-loop-p : goal.invariant-loop-p
invariant-loop-p l =
    RowsClosed l.control l.letters l.p l.numbers l.n l.initial.all l.initial.new l.initial.added l.initial.fresh l.initial.alive l.initial.news l.initial.gains l.all l.new l.added l.fresh l.alive l.news l.gains
