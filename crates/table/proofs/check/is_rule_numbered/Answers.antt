use Rattle.table.proofs.Checked.{not-numbered, numbered}
use Rattle.table.proofs.check.is_rule_numbered.Goals as goal

pub returns-then-rulecount-n : goal.returns-then-rulecount-n
returns-then-rulecount-n c = λ g sizes e h. not-numbered g sizes _ _ e h _ _ _ c.if-rulecount-n.true

pub returns : goal.returns
returns c = λ g sizes e h. numbered g sizes _ _ e h _ _ _ c.if-rulecount-n.false _ c.is_rule_of.ensures
