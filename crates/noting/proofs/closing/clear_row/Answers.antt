use Prim.Native.Nat.{◌+◌}
use native.Mathlib.Omega.{arith}
use Rattle.game.specs.LowestLaws.{cleared-falls}
use Rattle.unions.specs.PoolLaws.{next_row}
use Rattle.unions.specs.PlaceLaws.{place-small}
use Rattle.noting.proofs.ClosingMasks.{thinning-starts, thinning-on}
use Rattle.noting.proofs.closing.clear_row.Goals as goal

pub loop-rest-init : goal.loop-rest-init
loop-rest-init c = thinning-starts _ _ _ _ _

pub lowest_set-a-requires : goal.lowest_set-a-requires
lowest_set-a-requires c = omega (arith, c.loop-rest-test.true)

pub shape_of-new-then-letters-a : goal.shape_of-new-then-letters-a
shape_of-new-then-letters-a c = c.loop-rest.invariant.thinned.long

pub returns-then-letters-a : goal.returns-then-letters-a
returns-then-letters-a c = c.loop-rest.invariant.thinned

pub overflow_add-base : goal.overflow_add-base
overflow_add-base c = omega (arith, c.requires.0, c.if-letters-a.false)

pub overflow_mul-base : goal.overflow_mul-base
overflow_mul-base c = omega (arith, place-small (c.args.base + c.lowest_set-a.result) c.args.n (omega (arith, c.requires.0, c.if-letters-a.false)) c.requires.1)

pub clear_at-requires : goal.clear_at-requires
clear_at-requires c = omega (arith, next_row (c.args.base + c.lowest_set-a.result) (c.args.base + c.args.letters) c.args.n (omega (arith, c.if-letters-a.false)), c.requires.2, c.loop-rest.invariant.thinned.long)

pub overflow_sub-rest : goal.overflow_sub-rest
overflow_sub-rest c = omega (arith, c.loop-rest-test.true)

pub loop-rest-smaller : goal.loop-rest-smaller
loop-rest-smaller c = cleared-falls _ (omega (arith, c.loop-rest-test.true))

pub loop-rest-preserved : goal.loop-rest-preserved
loop-rest-preserved c = thinning-on _ _ c.loop-rest.invariant (omega (arith, c.loop-rest-test.true)) c.lowest_set-a.ensures c.if-letters-a.false c.clear_at.ensures.cleared c.clear_at.auto.words

pub shape_of-new : goal.shape_of-new
shape_of-new c = c.loop-rest.invariant.thinned.long

pub returns : goal.returns
returns c = c.loop-rest.invariant.thinned
