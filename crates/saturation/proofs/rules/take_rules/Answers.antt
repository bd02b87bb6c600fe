use native.Mathlib.Omega.{arith}
use Rattle.saturation.proofs.RuleLoop.{wording-starts, wording-on, wording-full, wording-ends}
use Rattle.saturation.proofs.rules.take_rules.Goals as goal

pub loop-w-init : goal.loop-w-init
loop-w-init c = wording-starts c.requires.3 c.requires.4

pub returns-in_err-entries-clause-by_index : goal.returns-in_err-entries-clause-by_index
returns-in_err-entries-clause-by_index c =
    λ el g old es i now gr off to. rw c.from_residual.ensures (wording-full c.loop-w.invariant c.take_word.new.kept (rw c.in_err-entries.was at c.take_word.ensures.by_index) (omega arith) el g old es i now gr off to)

pub loop-w-preserved : goal.loop-w-preserved
loop-w-preserved c = wording-on c.loop-w.invariant c.take_word.new.kept (rw c.in_ok-entries.was at c.take_word.ensures.by_index) c.loop-w-test.true (rw c.in_ok-entries.was at c.take_word.ensures.upper_bound) c.take_word.ensures.lines_bound c.loop-w.auto.keys c.take_word.auto.log

pub returns-clause-by_index : goal.returns-clause-by_index
returns-clause-by_index c = wording-ends c.loop-w.invariant c.loop-w-test.false c.args.rules.now.some
