use native.Mathlib.Omega.{arith}
use Rattle.saturation.proofs.RuleLoop.{going-starts, going-past, going_on, going-full, going-ends}
use Rattle.saturation.proofs.rules.take_word.Goals as goal

pub loop-rest-init : goal.loop-rest-init
loop-rest-init c = going-starts c.requires.3 c.requires.4

pub returns-then-rules-r-clause-by_index : goal.returns-then-rules-r-clause-by_index
returns-then-rules-r-clause-by_index c = going-past c.loop-rest.invariant _ (omega (arith, c.loop-rest-test.true)) c.lowest_set.ensures c.if-rules-r.true

pub returns-in_err-entries-clause-by_index : goal.returns-in_err-entries-clause-by_index
returns-in_err-entries-clause-by_index c =
    λ el g old es i now gr off to. rw c.from_residual.ensures (going-full c.loop-rest.invariant _ (omega (arith, c.loop-rest-test.true)) c.lowest_set.ensures c.take_rule.new.kept (rw c.in_err-entries.was at c.take_rule.ensures.by_index) (omega arith) el g old es i now gr off to)

pub loop-rest-preserved : goal.loop-rest-preserved
loop-rest-preserved c = going_on c.loop-rest.invariant _ (omega (arith, c.loop-rest-test.true)) c.lowest_set.ensures c.take_rule.new.kept (rw c.in_ok-entries.was at c.take_rule.ensures.by_index) (rw c.in_ok-entries.was at c.take_rule.ensures.upper_bound) c.take_rule.ensures.lines_bound c.loop-rest.auto.keys c.take_rule.auto.log

pub returns-clause-by_index : goal.returns-clause-by_index
returns-clause-by_index c = going-ends c.loop-rest.invariant (omega (arith, c.loop-rest-test.false))
