-- Every entry passed over is older than a word says or stands in the memo (`Skipped`). Assumes what the
-- contract requires.
use Rattle.enumeration.specs.Walk.{Skipped}
use Rattle.enumeration.proofs.runs.next_open.Given as goal

abbrev pub invariant-loop-i : goal.invariant-loop-i
invariant-loop-i l = Skipped l.work l.memo l.tag l.rest l.union l.from l.end l.passing l.i
