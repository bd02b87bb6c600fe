use native.Mathlib.Omega.{arith}
use mathlib.Core.Path.{refl, ◌∙◌}
use Rattle.noting.proofs.ActiveRules.{second_none, second-skip, second-on, second-all}
use Rattle.noting.proofs.readers.find_second.Goals as goal

pub loop-c-init : goal.loop-c-init
loop-c-init c = (second_none _ _ _ _, omega arith, refl)

pub offset_bounds-fresh-c : goal.offset_bounds-fresh-c
offset_bounds-fresh-c c = omega (arith, c.requires.0, c.loop-c-test.true)

pub bounds-fresh-c : goal.bounds-fresh-c
bounds-fresh-c c = omega (arith, c.requires.0, c.requires.1, c.loop-c-test.true)

pub loop-c-preserved-then-fresh-c-eq0 : goal.loop-c-preserved-then-fresh-c-eq0
loop-c-preserved-then-fresh-c-eq0 c = (second-skip _ _ _ _ _ _ c.loop-c.invariant.0 c.if-fresh-c-eq0.true, omega (arith, c.loop-c-test.true), c.loop-c.invariant.2)

pub overflow_mul-c : goal.overflow_mul-c
overflow_mul-c c = omega (arith, c.requires.0, c.loop-c-test.true)

pub overflow_add-c : goal.overflow_add-c
overflow_add-c c = omega (arith, c.requires.0, c.loop-c-test.true)

pub put_common-requires : goal.put_common-requires
put_common-requires c = (omega (arith, c.requires.0, c.loop-c-test.true), c.requires.2, c.requires.3, c.loop-c.invariant.2 ∙ c.requires.4)

pub loop-c-preserved : goal.loop-c-preserved
loop-c-preserved c = (second-on _ _ _ _ _ _ c.loop-c.invariant.0 _ c.put_common.ensures.met, omega (arith, c.loop-c-test.true), c.put_common.auto.active ∙ c.loop-c.invariant.2)

pub shape_of-active : goal.shape_of-active
shape_of-active c = c.loop-c.invariant.2

pub returns : goal.returns
returns c =
    record {
      second_to = second-all _ _ _ _ _ _ _ c.loop-c.invariant.0 c.loop-c-test.false;
    }
