use native.Mathlib.Omega.{arith}
use Rattle.family.proofs.Unions.{wording-starts, wording-more, wording-ends, lowest-taken}
use Rattle.family.proofs.uniting.unite_by.Goals as goal

pub loop-rest-init : goal.loop-rest-init
loop-rest-init c = (c.ranges.few.fits, λ r. wording-starts _ _ c.ranges.few.fits)

pub overflow_cast-x : goal.overflow_cast-x
overflow_cast-x c = omega (arith, (lowest-taken _ c.loop-rest.invariant.0 c.loop-rest-test.true).1)

pub raised-unions-requires : goal.raised-unions-requires
raised-unions-requires c = (c.requires, (lowest-taken _ c.loop-rest.invariant.0 c.loop-rest-test.true).1)

pub overflow_sub-rest : goal.overflow_sub-rest
overflow_sub-rest c = omega (arith, c.loop-rest-test.true)

pub loop-rest-smaller : goal.loop-rest-smaller
loop-rest-smaller c = (lowest-taken _ c.loop-rest.invariant.0 c.loop-rest-test.true).0.less

pub loop-rest-preserved : goal.loop-rest-preserved
loop-rest-preserved c = let t = (lowest-taken _ c.loop-rest.invariant.0 c.loop-rest-test.true).0 in (omega (arith, t.less, c.loop-rest.invariant.0), λ r. wording-more _ _ _ _ (c.loop-rest.invariant.1 r) _ _ t _ (c.raised-unions.ensures r))

pub returns : goal.returns
returns c = λ r. wording-ends _ _ _ _ (c.loop-rest.invariant.1 r) c.loop-rest-test.false
