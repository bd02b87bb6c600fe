use Rattle.noting.proofs.ActiveRules.{marked-alone, marked-one, marked-two}
use Rattle.noting.proofs.readers.mark_rule.Goals as goal

pub returns-then-written-eq0 : goal.returns-then-written-eq0
returns-then-written-eq0 c =
    record {
      marked = marked-alone _ _ _ _ c.if-written-eq0.true c.put_at.ensures.put;
    }

pub returns-then-written-eq1 : goal.returns-then-written-eq1
returns-then-written-eq1 c =
    record {
      marked = marked-one _ _ _ _ _ _ _ c.from.ensures c.from-2.ensures (λ e. absurd (c.if-written-eq0.false e)) c.put_at-2.ensures.put c.put_at-3.ensures.put c.if-written-eq1.true;
    }

pub returns : goal.returns
returns c =
    record {
      marked = marked-two _ _ _ _ _ _ _ c.from.ensures c.from-2.ensures (λ e. absurd (c.if-written-eq0.false e)) c.put_at-2.ensures.put c.put_at-3.ensures.put _ _ c.from-3.ensures c.put_at-4.ensures.put;
    }
