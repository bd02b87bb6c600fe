use Prim.Native.Nat.{◌+◌}
use native.Mathlib.Omega.{arith}
use Rattle.game.specs.LowestLaws.{cleared-falls}
use Rattle.unions.specs.PoolLaws.{next_row}
use Rattle.unions.specs.PlaceLaws.{place-small}
use Rattle.noting.proofs.ClosingMasks.{row-starts, row_on, row-stops, row_ends}
use Rattle.noting.proofs.closing.close_row.Goals as goal

pub loop-rest-init : goal.loop-rest-init
loop-rest-init c = row-starts _ _ _ _ _ _ _ _ _ _

pub lowest_set-a-requires : goal.lowest_set-a-requires
lowest_set-a-requires c = omega (arith, c.loop-rest-test.true)

pub shape_of-all-then-letters-a : goal.shape_of-all-then-letters-a
shape_of-all-then-letters-a c = c.loop-rest.invariant.areas

pub shape_of-new-then-letters-a : goal.shape_of-new-then-letters-a
shape_of-new-then-letters-a c = c.loop-rest.invariant.news

pub shape_of-added-then-letters-a : goal.shape_of-added-then-letters-a
shape_of-added-then-letters-a c = c.loop-rest.invariant.adds

pub shape_of-fresh-then-letters-a : goal.shape_of-fresh-then-letters-a
shape_of-fresh-then-letters-a c = c.loop-rest.invariant.masks.news

pub shape_of-alive-then-letters-a : goal.shape_of-alive-then-letters-a
shape_of-alive-then-letters-a c = c.loop-rest.invariant.masks.lives

pub returns-then-letters-a : goal.returns-then-letters-a
returns-then-letters-a c = row-stops c.loop-rest.invariant _ (omega (arith, c.loop-rest-test.true)) c.lowest_set-a.ensures c.if-letters-a.true

pub overflow_add-at : goal.overflow_add-at
overflow_add-at c = omega (arith, c.requires.0, c.if-letters-a.false)

pub overflow_mul-at : goal.overflow_mul-at
overflow_mul-at c = omega (arith, place-small (c.args.base + c.lowest_set-a.result) c.args.n (omega (arith, c.requires.0, c.if-letters-a.false)) c.requires.1)

pub join_at-requires : goal.join_at-requires
join_at-requires c = (omega (arith, next_row (c.args.base + c.lowest_set-a.result) (c.args.base + c.args.letters) c.args.n (omega (arith, c.if-letters-a.false)), c.requires.3, c.loop-rest.invariant.areas), omega (arith, next_row (c.args.base + c.lowest_set-a.result) (c.args.base + c.args.letters) c.args.n (omega (arith, c.if-letters-a.false)), c.requires.5, c.loop-rest.invariant.adds))

pub copy_at-requires : goal.copy_at-requires
copy_at-requires c = (omega (arith, next_row (c.args.base + c.lowest_set-a.result) (c.args.base + c.args.letters) c.args.n (omega (arith, c.if-letters-a.false)), c.requires.4, c.loop-rest.invariant.news), omega (arith, next_row (c.args.base + c.lowest_set-a.result) (c.args.base + c.args.letters) c.args.n (omega (arith, c.if-letters-a.false)), c.requires.5, c.loop-rest.invariant.adds))

pub clear_at-requires : goal.clear_at-requires
clear_at-requires c = omega (arith, next_row (c.args.base + c.lowest_set-a.result) (c.args.base + c.args.letters) c.args.n (omega (arith, c.if-letters-a.false)), c.requires.5, c.loop-rest.invariant.adds)

pub offset_bounds-fresh-a : goal.offset_bounds-fresh-a
offset_bounds-fresh-a c = omega (arith, c.if-letters-a.false, c.requires.0)

pub bounds-fresh-a : goal.bounds-fresh-a
bounds-fresh-a c = omega (arith, c.if-letters-a.false, c.requires.6, c.loop-rest.invariant.masks.news)

pub offset_bounds-fresh-a-in-loop-rest : goal.offset_bounds-fresh-a-in-loop-rest
offset_bounds-fresh-a-in-loop-rest c = omega (arith, c.if-letters-a.false, c.requires.0)

pub bounds-fresh-a-in-loop-rest : goal.bounds-fresh-a-in-loop-rest
bounds-fresh-a-in-loop-rest c = omega (arith, c.if-letters-a.false, c.requires.6, c.loop-rest.invariant.masks.news)

pub offset_bounds-alive-a : goal.offset_bounds-alive-a
offset_bounds-alive-a c = omega (arith, c.if-letters-a.false, c.requires.0)

pub bounds-alive-a : goal.bounds-alive-a
bounds-alive-a c = omega (arith, c.if-letters-a.false, c.requires.7, c.loop-rest.invariant.masks.lives)

pub offset_bounds-alive-a-in-loop-rest : goal.offset_bounds-alive-a-in-loop-rest
offset_bounds-alive-a-in-loop-rest c = omega (arith, c.if-letters-a.false, c.requires.0)

pub bounds-alive-a-in-loop-rest : goal.bounds-alive-a-in-loop-rest
bounds-alive-a-in-loop-rest c = omega (arith, c.if-letters-a.false, c.requires.7, c.loop-rest.invariant.masks.lives)

pub overflow_sub-rest : goal.overflow_sub-rest
overflow_sub-rest c = omega (arith, c.loop-rest-test.true)

pub loop-rest-smaller : goal.loop-rest-smaller
loop-rest-smaller c = cleared-falls _ (omega (arith, c.loop-rest-test.true))

pub loop-rest-preserved : goal.loop-rest-preserved
loop-rest-preserved c = row_on c.loop-rest.invariant _ (omega (arith, c.loop-rest-test.true)) c.lowest_set-a.ensures _ _ _ c.if-letters-a.false (omega (arith, c.if-letters-a.false, c.requires.6, c.loop-rest.invariant.masks.news)) (omega (arith, c.if-letters-a.false, c.requires.7, c.loop-rest.invariant.masks.lives)) c.requires.2 c.join_at.ensures.joined c.copy_at.ensures.copied c.clear_at.ensures.cleared c.join_at.auto.words c.copy_at.auto.words c.clear_at.auto.words

pub shape_of-all : goal.shape_of-all
shape_of-all c = c.loop-rest.invariant.areas

pub shape_of-new : goal.shape_of-new
shape_of-new c = c.loop-rest.invariant.news

pub shape_of-added : goal.shape_of-added
shape_of-added c = c.loop-rest.invariant.adds

pub shape_of-fresh : goal.shape_of-fresh
shape_of-fresh c = c.loop-rest.invariant.masks.news

pub shape_of-alive : goal.shape_of-alive
shape_of-alive c = c.loop-rest.invariant.masks.lives

pub returns : goal.returns
returns c = row_ends c.loop-rest-test.false c.loop-rest.invariant
