use Rattle.game.specs.Questions.{add}
use Rattle.game.proofs.Tests.{shifted-one-word}
use Rattle.game.proofs.game.Sizes.with.Goals as goal

pub returns-in-Sizes : goal.returns-in-Sizes
unfolding add
returns-in-Sizes c =
    record {
      parts = λ g e. record { sized = rw (c.in-Sizes.is, e.sized); ruled = rw c.in-Sizes.is e.ruled; targeted = rw c.in-Sizes.is e.targeted };
      filtered = λ g f. rw c.in-Sizes.is (record { long = f.long; rule = f.rule; target = f.target });
    }

pub returns-in-Abelard : goal.returns-in-Abelard
unfolding add
returns-in-Abelard c =
    record {
      parts = λ g e. record { sized = rw (c.in-Abelard.is, shifted-one-word c.in-Abelard.state (rw c.in-Abelard.is at c.requires.0), e.sized); ruled = rw c.in-Abelard.is e.ruled; targeted = rw c.in-Abelard.is e.targeted };
      filtered = λ g f. rw c.in-Abelard.is (record { long = f.long; rule = f.rule; target = f.target });
    }

pub returns-in-Final : goal.returns-in-Final
unfolding add
returns-in-Final c =
    record {
      parts = λ g e. record { sized = rw (c.in-Final.is, shifted-one-word c.in-Final.state (rw c.in-Final.is at c.requires.0), e.sized); ruled = rw c.in-Final.is e.ruled; targeted = rw c.in-Final.is e.targeted };
      filtered = λ g f. rw c.in-Final.is (record { long = f.long; rule = f.rule; target = f.target });
    }

pub returns-in-Rule : goal.returns-in-Rule
returns-in-Rule c =
    record {
      parts = λ g e. rw c.in-Rule.is (c.with_rule.ensures.parts g _ e);
      filtered = λ g f. rw c.in-Rule.is (c.with_rule.ensures.filtered g f);
    }

pub returns-in-Target : goal.returns-in-Target
returns-in-Target c =
    record {
      parts = λ g e. rw c.in-Target.is (c.with_target.ensures.parts g _ e);
      filtered = λ g f. rw c.in-Target.is (c.with_target.ensures.filtered g f);
    }

pub returns-in-End : goal.returns-in-End
unfolding add
returns-in-End c =
    record {
      parts = λ g e. rw c.in-End.is e;
      filtered = λ g f. rw c.in-End.is f;
    }
