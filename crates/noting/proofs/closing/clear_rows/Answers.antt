use native.Mathlib.Omega.{arith}
use Rattle.unions.specs.PoolLaws.{next_row}
use Rattle.noting.proofs.ClosingMasks.{clearing-starts, clearing-on, row_within}
use Rattle.noting.proofs.closing.clear_rows.Goals as goal

pub loop-q-init : goal.loop-q-init
loop-q-init c = clearing-starts _ _ _ _ _

pub overflow_mul-q : goal.overflow_mul-q
overflow_mul-q c = omega (arith, c.loop-q-test.true, c.requires.2, next_row c.loop-q.q c.args.states c.args.letters c.loop-q-test.true)

pub offset_bounds-news-q : goal.offset_bounds-news-q
offset_bounds-news-q c = omega (arith, c.loop-q-test.true, c.requires.0)

pub bounds-news-q : goal.bounds-news-q
bounds-news-q c = omega (arith, c.loop-q-test.true, c.requires.0, c.requires.5, c.loop-q.invariant.cleared.tidings)

pub clear_row-requires : goal.clear_row-requires
clear_row-requires c = (omega (arith, c.requires.2, next_row c.loop-q.q c.args.states c.args.letters c.loop-q-test.true), c.requires.3, omega (arith, row_within c.loop-q.q c.args.states c.args.letters c.args.n c.loop-q-test.true, c.requires.4, c.loop-q.invariant.cleared.long))

pub offset_bounds-news-q-in-loop-q : goal.offset_bounds-news-q-in-loop-q
offset_bounds-news-q-in-loop-q c = omega (arith, c.loop-q-test.true, c.requires.0)

pub bounds-news-q-in-loop-q : goal.bounds-news-q-in-loop-q
bounds-news-q-in-loop-q c = omega (arith, c.loop-q-test.true, c.requires.0, c.requires.5, c.loop-q.invariant.cleared.tidings)

pub loop-q-preserved : goal.loop-q-preserved
loop-q-preserved c = clearing-on _ _ c.loop-q.invariant c.clear_row.ensures

pub shape_of-new : goal.shape_of-new
shape_of-new c = c.loop-q.invariant.cleared.long

pub shape_of-news : goal.shape_of-news
shape_of-news c = c.loop-q.invariant.cleared.tidings

pub returns : goal.returns
returns c = c.loop-q.invariant.cleared
