use native.Mathlib.Omega.{arith}
use Rattle.judge.proofs.Steps.{rule-other, rule-lesser}
use Rattle.judge.proofs.verdict.lesser_rule.Goals as goal

pub entry_worth-requires : goal.entry_worth-requires
entry_worth-requires c = let pre = c.requires in (pre.0, pre.1, pre.2)

pub returns-in_default : goal.returns-in_default
returns-in_default c =
    rule-other _ _ _ _ _ _ (rw c.in_default.is at c.entry_worth.ensures.coded) (λ z. omega (arith, z, c.requires.3))

pub returns-then-worth-bound : goal.returns-then-worth-bound
returns-then-worth-bound c = rule-other _ _ _ _ _ _ (rw c.in-Some.is at c.entry_worth.ensures.coded) c.if-worth-bound.true

pub returns : goal.returns
returns c = rule-lesser _ _ _ _ _ _ (rw c.in-Some.is at c.entry_worth.ensures.coded) c.if-worth-bound.false _ c.lesser.ensures
