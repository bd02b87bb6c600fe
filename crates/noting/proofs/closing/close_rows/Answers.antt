use native.Mathlib.Omega.{arith}
use Rattle.unions.specs.PoolLaws.{next_row}
use Rattle.noting.proofs.ClosingMasks.{rows_start, rows_on, rows_end, row_within}
use Rattle.noting.proofs.closing.close_rows.Goals as goal

pub loop-p-init : goal.loop-p-init
loop-p-init c = rows_start _ _ _ _ _ _ _ _ _ _ _

pub offset_bounds-gains-p : goal.offset_bounds-gains-p
offset_bounds-gains-p c = omega (arith, c.loop-p-test.true, c.requires.0)

pub bounds-gains-p : goal.bounds-gains-p
bounds-gains-p c = omega (arith, c.loop-p-test.true, c.requires.0, c.requires.9, c.loop-p.invariant.gainers)

pub offset_bounds-news-p : goal.offset_bounds-news-p
offset_bounds-news-p c = omega (arith, c.loop-p-test.true, c.requires.0)

pub bounds-news-p : goal.bounds-news-p
bounds-news-p c = omega (arith, c.loop-p-test.true, c.requires.0, c.requires.8, c.loop-p.invariant.tidings)

pub overflow_mul-base : goal.overflow_mul-base
overflow_mul-base c = omega (arith, c.requires.2, next_row c.loop-p.p c.args.control c.args.letters c.loop-p-test.true)

pub clear_row-requires : goal.clear_row-requires
clear_row-requires c = (omega (arith, c.requires.2, next_row c.loop-p.p c.args.control c.args.letters c.loop-p-test.true), c.requires.3, omega (arith, row_within c.loop-p.p c.args.control c.args.letters c.args.n c.loop-p-test.true, c.requires.6, c.loop-p.invariant.newer))

pub offset_bounds-numbers-p : goal.offset_bounds-numbers-p
offset_bounds-numbers-p c = omega (arith, c.loop-p-test.true, c.requires.0)

pub bounds-numbers-p : goal.bounds-numbers-p
bounds-numbers-p c = omega (arith, c.loop-p-test.true, c.requires.0, c.requires.4.states)

pub close_row-requires : goal.close_row-requires
close_row-requires c = (omega (arith, c.requires.2, next_row c.loop-p.p c.args.control c.args.letters c.loop-p-test.true), c.requires.3, c.requires.4.small c.loop-p.p (omega (arith, c.loop-p-test.true, c.requires.0)), omega (arith, row_within c.loop-p.p c.args.control c.args.letters c.args.n c.loop-p-test.true, c.requires.5, c.loop-p.invariant.areas), omega (arith, row_within c.loop-p.p c.args.control c.args.letters c.args.n c.loop-p-test.true, c.requires.6, c.loop-p.invariant.newer, c.clear_row.ensures.long), omega (arith, row_within c.loop-p.p c.args.control c.args.letters c.args.n c.loop-p-test.true, c.requires.7, c.loop-p.invariant.adds), omega (arith, c.requires.1, c.requires.4.news, c.loop-p.invariant.masks.news), omega (arith, c.requires.1, c.requires.4.lives, c.loop-p.invariant.masks.lives), c.requires.1)

pub offset_bounds-news-p-in-loop-p : goal.offset_bounds-news-p-in-loop-p
offset_bounds-news-p-in-loop-p c = omega (arith, c.loop-p-test.true, c.requires.0)

pub bounds-news-p-in-loop-p : goal.bounds-news-p-in-loop-p
bounds-news-p-in-loop-p c = omega (arith, c.loop-p-test.true, c.requires.0, c.requires.8, c.loop-p.invariant.tidings)

pub offset_bounds-gains-p-in-loop-p : goal.offset_bounds-gains-p-in-loop-p
offset_bounds-gains-p-in-loop-p c = omega (arith, c.loop-p-test.true, c.requires.0)

pub bounds-gains-p-in-loop-p : goal.bounds-gains-p-in-loop-p
bounds-gains-p-in-loop-p c = omega (arith, c.loop-p-test.true, c.requires.0, c.requires.9, c.loop-p.invariant.gainers)

pub loop-p-preserved : goal.loop-p-preserved
loop-p-preserved c = rows_on c.loop-p.invariant c.loop-p-test.true (omega (arith, c.loop-p-test.true, c.requires.0, c.requires.8, c.loop-p.invariant.tidings)) (omega (arith, c.loop-p-test.true, c.requires.0, c.requires.9, c.loop-p.invariant.gainers)) _ _ _ _ _ _ c.clear_row.ensures c.close_row.ensures

pub shape_of-all : goal.shape_of-all
shape_of-all c = c.loop-p.invariant.areas

pub shape_of-new : goal.shape_of-new
shape_of-new c = c.loop-p.invariant.newer

pub shape_of-added : goal.shape_of-added
shape_of-added c = c.loop-p.invariant.adds

pub shape_of-fresh : goal.shape_of-fresh
shape_of-fresh c = c.loop-p.invariant.masks.news

pub shape_of-alive : goal.shape_of-alive
shape_of-alive c = c.loop-p.invariant.masks.lives

pub shape_of-news : goal.shape_of-news
shape_of-news c = c.loop-p.invariant.tidings

pub shape_of-gains : goal.shape_of-gains
shape_of-gains c = c.loop-p.invariant.gainers

pub returns : goal.returns
returns c = rows_end c.loop-p-test.false c.loop-p.invariant
