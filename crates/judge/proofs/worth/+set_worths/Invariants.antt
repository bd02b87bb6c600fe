use lib.ListN.{length}
use Rattle.judge.proofs.worth.+set_worths.Given as goal

-- The measure is the length of the stack.
abbrev pub decreases-set_worths : goal.decreases-set_worths
decreases-set_worths l = length l.rest.now
