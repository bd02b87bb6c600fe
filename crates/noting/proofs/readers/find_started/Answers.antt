use Rattle.noting.proofs.ActiveRules.{started_none, started-some}
use Rattle.noting.proofs.readers.find_started.Goals as goal

-- A word without letters has no rule; otherwise what was summed is met with the rules of the state. Assumes what the contract requires.
pub returns-then-word-eq0 : goal.returns-then-word-eq0
returns-then-word-eq0 c =
    record {
      started = started_none _ _ _ _ c.if-word-eq0.true;
    }

pub returns : goal.returns
returns c =
    record {
      started = started-some _ _ _ _ _ _ c.sum_above.ensures.summed c.put_common.ensures.met;
    }
