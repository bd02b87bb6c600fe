use native.Mathlib.Omega.{arith}
use Rattle.game.specs.LowestLaws.{cleared-falls}
use Rattle.unions.proofs.Members.{uniting-starts, uniting-on, uniting-ends}
use Rattle.unions.proofs.elements.element_set.Goals as goal

pub loop-rest-init : goal.loop-rest-init
loop-rest-init c = uniting-starts _ _

pub lowest_state-s-requires : goal.lowest_state-s-requires
lowest_state-s-requires c = omega (arith, c.loop-rest-test.true)

pub offset_bounds-numbers-s : goal.offset_bounds-numbers-s
offset_bounds-numbers-s c = omega (arith, c.lowest_state-s.ensures.small)

pub bounds-numbers-s : goal.bounds-numbers-s
bounds-numbers-s c = omega (arith, c.lowest_state-s.ensures.small, c.requires.0)

pub overflow_sub-rest : goal.overflow_sub-rest
overflow_sub-rest c = omega (arith, c.loop-rest-test.true)

pub loop-rest-smaller : goal.loop-rest-smaller
loop-rest-smaller c = cleared-falls _ (omega (arith, c.loop-rest-test.true))

pub loop-rest-preserved : goal.loop-rest-preserved
loop-rest-preserved c = uniting-on _ _ _ _ _ (omega (arith, c.loop-rest-test.true)) c.lowest_state-s.ensures c.loop-rest.invariant c.requires.1

pub returns : goal.returns
returns c =
    record {
      upper_bound = c.loop-rest.invariant.small;
      upper_bound_2 = uniting-ends _ _ _ _ c.loop-rest-test.false c.loop-rest.invariant;
    }
