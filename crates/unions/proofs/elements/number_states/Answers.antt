use native.Mathlib.Omega.{arith}
use Rattle.game.specs.LowestLaws.{cleared-falls}
use Rattle.unions.proofs.Naming.{naming-starts, naming-first, naming-later, naming-ends}
use Rattle.unions.proofs.elements.number_states.Goals as goal
use Rattle.unions.proofs.elements.number_states.Goals.{then-count-lt10, else-count-lt10}

pub loop-rest-init : goal.loop-rest-init
loop-rest-init c = naming-starts _

pub lowest_state-s-requires : goal.lowest_state-s-requires
lowest_state-s-requires c = omega (arith, c.loop-rest-test.true)

pub overflow_cast-states : goal.overflow_cast-states
overflow_cast-states c = omega (arith, c.lowest_state-s.ensures.small)

pub bounds-states-count : goal.bounds-states-count
bounds-states-count c = omega (arith, c.if-count-lt10.true, c.loop-rest.invariant.stated)

pub overflow_shl-numbers : goal.overflow_shl-numbers
overflow_shl-numbers c = omega (arith, c.if-count-lt10.true)

pub offset_bounds-numbers-s : goal.offset_bounds-numbers-s
offset_bounds-numbers-s c = omega (arith, c.lowest_state-s.ensures.small)

pub bounds-numbers-s : goal.bounds-numbers-s
bounds-numbers-s c = omega (arith, c.lowest_state-s.ensures.small, c.loop-rest.invariant.sized)

pub overflow_add-count : goal.overflow_add-count
overflow_add-count c = omega (arith, c.loop-rest.invariant.ahead _ c.lowest_state-s.ensures.member, c.lowest_state-s.ensures.small)

pub overflow_sub-rest : goal.overflow_sub-rest
overflow_sub-rest c = omega (arith, c.loop-rest-test.true)

pub loop-rest-smaller : goal.loop-rest-smaller
loop-rest-smaller c = cleared-falls _ (omega (arith, c.loop-rest-test.true))

pub loop-rest-preserved : goal.loop-rest-preserved
loop-rest-preserved c =
    elim c.if-count-lt10.branch [
      | then-count-lt10 w ↦ naming-first _ _ _ (omega (arith, c.loop-rest-test.true)) c.lowest_state-s.ensures _ _ _ c.loop-rest.invariant _ _ w.if-count-lt10.true w.states-is w.numbers-is
      | else-count-lt10 w ↦ naming-later _ _ _ (omega (arith, c.loop-rest-test.true)) c.lowest_state-s.ensures _ _ _ c.loop-rest.invariant _ _ w.if-count-lt10.false w.states-is w.numbers-is
    ]

pub returns : goal.returns
returns c =
    record {
      named = naming-ends _ _ _ _ _ c.loop-rest-test.false c.loop-rest.invariant;
      by_index = c.loop-rest.invariant.few;
    }
