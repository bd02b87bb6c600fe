use mathlib.Core.Bool.{not}
use mathlib.Core.Path.{ap}
use native.Mathlib.Omega.{arith}
use mathlib.Core.Path.{refl, ◌∙◌}
use Rattle.game.specs.LowestLaws.{cleared-falls}
use Rattle.noting.specs.HeadNumbers.{few-heads, place-in-row, head_few}
use Rattle.saturation.proofs.HeadLoop.{his, row_other, rowing-starts, rowing-past, rowing-full, rowing-on, rowing-ends}
use Rattle.saturation.proofs.heads.take_row.Goals as goal

pub overflow_cast-p : goal.overflow_cast-p
overflow_cast-p c = omega (arith, c.requires.3)

pub has_state-requires : goal.has_state-requires
has_state-requires c = tt

pub returns-then-not-has_state : goal.returns-then-not-has_state
returns-then-not-has_state c =
    record {
      by_index = (λ el g old es now i rules control stirred k lp ew taking adding spared. row_other k _ c.has_state.ensures (ap not c.if-not-has_state.true) c.requires.1 taking adding spared);
      upper_bound = omega (arith, c.requires.1);
    }

pub loop-rest-init : goal.loop-rest-init
loop-rest-init c = rowing-starts _ _ _ _ _ _ _ _ _ _ _ _ _ _ _ _ _ c.requires.1

pub lowest_set-a-requires : goal.lowest_set-a-requires
lowest_set-a-requires c = omega (arith, c.loop-rest-test.true)

pub shape_of-added-then-rules-a : goal.shape_of-added-then-rules-a
shape_of-added-then-rules-a c = c.loop-rest.invariant.adds

pub shape_of-gains-then-rules-a : goal.shape_of-gains-then-rules-a
shape_of-gains-then-rules-a c = c.loop-rest.invariant.gaining

pub shape_of-log-then-rules-a : goal.shape_of-log-then-rules-a
shape_of-log-then-rules-a c = c.loop-rest.invariant.logs

pub returns-then-rules-a : goal.returns-then-rules-a
returns-then-rules-a c =
    record {
      by_index = (λ el g old es now i rules control stirred k lp ew taking adding spared. rowing-past _ _ _ _ _ _ _ _ _ _ _ _ _ _ _ _ _ c.loop-rest.invariant _ (omega (arith, c.loop-rest-test.true)) c.lowest_set-a.ensures c.if-rules-a.true el g old es now i rules control stirred k lp ew (his k _ c.has_state.ensures (ap not c.if-not-has_state.false)) taking adding spared);
      upper_bound = omega (arith, c.loop-rest.invariant.room);
    }

pub overflow_mul-p : goal.overflow_mul-p
overflow_mul-p c = omega (arith, few-heads c.args.p c.args.rules.now.frame.letters (omega (arith, c.requires.3)) c.args.rules.now.frame.few)

pub overflow_add-p : goal.overflow_add-p
overflow_add-p c = omega (arith, few-heads c.args.p c.args.rules.now.frame.letters (omega (arith, c.requires.3)) c.args.rules.now.frame.few, c.if-rules-a.false, c.args.rules.now.frame.few)

pub take_head-requires : goal.take_head-requires
take_head-requires c = (omega (arith, c.requires.0, c.loop-rest.invariant.logs), c.loop-rest.invariant.room, c.requires.2, c.requires.3, c.lowest_set-a.ensures.small, head_few _ _ _ c.requires.3 c.args.rules.now.frame.few c.if-rules-a.false, place-in-row _ _ _ _ _ _ c.if-rules-a.false c.requires.4 refl, place-in-row _ _ _ _ _ _ c.if-rules-a.false c.requires.5 c.loop-rest.invariant.adds, c.requires.6, omega (arith, c.if-rules-a.false, c.requires.7), c.requires.8, c.loop-rest.invariant.gaining ∙ c.requires.9)

pub returns-in_err-entries-clause-by_index : goal.returns-in_err-entries-clause-by_index
returns-in_err-entries-clause-by_index c =
    λ el g old es now i rules control stirred k lp ew taking adding spared. rw c.from_residual.ensures (rowing-full _ _ _ _ _ _ _ _ _ _ _ _ _ _ _ _ _ c.loop-rest.invariant _ (omega (arith, c.loop-rest-test.true)) c.lowest_set-a.ensures c.if-rules-a.false (rw c.in_err-entries.was at c.take_head.ensures.by_index) (omega arith) el g old es now i rules control stirred k lp ew (his k _ c.has_state.ensures (ap not c.if-not-has_state.false)) taking adding spared)

pub overflow_sub-rest : goal.overflow_sub-rest
overflow_sub-rest c = omega (arith, c.loop-rest-test.true)

pub loop-rest-smaller : goal.loop-rest-smaller
loop-rest-smaller c = cleared-falls _ (omega (arith, c.loop-rest-test.true))

pub loop-rest-preserved : goal.loop-rest-preserved
loop-rest-preserved c = rowing-on _ _ _ _ _ _ _ _ _ _ _ _ _ _ _ _ _ c.loop-rest.invariant _ (omega (arith, c.loop-rest-test.true)) c.lowest_set-a.ensures c.if-rules-a.false (rw c.in_ok-entries.was at c.take_head.ensures.by_index) (rw c.in_ok-entries.was at c.take_head.ensures.upper_bound) c.take_head.auto.added c.take_head.auto.gains c.take_head.auto.log

pub shape_of-added : goal.shape_of-added
shape_of-added c = c.loop-rest.invariant.adds

pub shape_of-gains : goal.shape_of-gains
shape_of-gains c = c.loop-rest.invariant.gaining

pub shape_of-log : goal.shape_of-log
shape_of-log c = c.loop-rest.invariant.logs

pub returns : goal.returns
returns c =
    record {
      by_index = (λ el g old es now i rules control stirred k lp ew taking adding spared. rowing-ends _ _ _ _ _ _ _ _ _ _ _ _ _ _ _ _ _ c.loop-rest.invariant c.loop-rest-test.false el g old es now i rules control stirred k lp ew (his k _ c.has_state.ensures (ap not c.if-not-has_state.false)) taking adding spared);
      upper_bound = omega (arith, c.loop-rest.invariant.room);
    }
