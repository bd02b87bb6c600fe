use native.Mathlib.Omega.{arith}
use mathlib.Core.Path.{refl, ◌∙◌}
use Rattle.noting.specs.HeadNumbers.{row_in, rows_in}
use Rattle.saturation.proofs.HeadLoop.{going-starts, going-full, going_on, going-ends}
use Rattle.saturation.proofs.heads.take_heads.Goals as goal

pub loop-p-init : goal.loop-p-init
loop-p-init c = going-starts _ _ _ _ _ _ _ _ _ _ _ _ _ _ _ _ _ c.requires.1

pub offset_bounds-stirred-p : goal.offset_bounds-stirred-p
offset_bounds-stirred-p c = omega (arith, c.loop-p-test.true, c.args.rules.now.controls)

pub bounds-stirred-p : goal.bounds-stirred-p
bounds-stirred-p c = omega (arith, c.loop-p-test.true, c.args.rules.now.controls, c.requires.6)

pub take_row-requires : goal.take_row-requires
take_row-requires c = (omega (arith, c.requires.0, c.loop-p.invariant.logs), c.loop-p.invariant.room, c.requires.2, omega (arith, c.loop-p-test.true, c.args.rules.now.controls), row_in _ _ _ _ _ _ c.loop-p-test.true c.requires.3 refl, row_in _ _ _ _ _ _ c.loop-p-test.true c.requires.4 c.loop-p.invariant.adds, c.requires.5, rows_in _ _ _ _ c.loop-p-test.true c.args.rules.now.first, c.requires.7, c.loop-p.invariant.gaining ∙ c.requires.8)

pub returns-in_err-entries-clause-by_index : goal.returns-in_err-entries-clause-by_index
returns-in_err-entries-clause-by_index c =
    λ el g old es now i rules k taking adding gained. rw c.from_residual.ensures (going-full _ _ _ _ _ _ _ _ _ _ _ _ _ _ _ _ _ c.loop-p.invariant c.loop-p-test.true (rw c.in_err-entries.was at c.take_row.ensures.by_index) (omega arith) el g old es now i rules k taking adding (record { none = gained }))

pub loop-p-preserved : goal.loop-p-preserved
loop-p-preserved c = going_on _ _ _ _ _ _ _ _ _ _ _ _ _ _ _ _ _ c.loop-p.invariant c.loop-p-test.true (rw c.in_ok-entries.was at c.take_row.ensures.by_index) (rw c.in_ok-entries.was at c.take_row.ensures.upper_bound) c.take_row.auto.added c.take_row.auto.gains c.take_row.auto.log

pub shape_of-added : goal.shape_of-added
shape_of-added c = c.loop-p.invariant.adds

pub shape_of-gains : goal.shape_of-gains
shape_of-gains c = c.loop-p.invariant.gaining

pub shape_of-log : goal.shape_of-log
shape_of-log c = c.loop-p.invariant.logs

pub returns : goal.returns
returns c =
    record {
      by_index = (λ el g old es now i rules k taking adding gained. going-ends _ _ _ _ _ _ _ _ _ _ _ _ _ _ _ _ _ c.loop-p-test.false c.loop-p.invariant el g old es now i rules k taking adding (record { none = gained }));
      upper_bound = omega (arith, c.loop-p.invariant.room);
    }
