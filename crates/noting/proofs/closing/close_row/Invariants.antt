use Rattle.noting.specs.ClosingRows.{RowClosed}
use Rattle.noting.proofs.closing.close_row.Given as goal

-- The letters of the set are passed from the lowest up (`RowClosed`), and a letter that there is not ends it (`row-stops`). What falls
-- is the set of those left. Assumes what the contract requires.
abbrev pub invariant-loop-rest : goal.invariant-loop-rest
invariant-loop-rest l =
    RowClosed l.base l.letters l.bits l.rest l.mark l.n l.initial.all l.initial.new l.initial.added l.initial.fresh l.initial.alive l.all l.new l.added l.fresh l.alive

abbrev pub decreases-loop-rest : goal.decreases-loop-rest
decreases-loop-rest l = l.rest
