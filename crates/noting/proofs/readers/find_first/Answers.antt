use native.Mathlib.Omega.{arith}
use mathlib.Core.Path.{refl, ◌∙◌}
use Rattle.noting.proofs.ActiveRules.{first-none, first_on, first-all}
use Rattle.noting.proofs.readers.find_first.Goals as goal

pub loop-q-init : goal.loop-q-init
loop-q-init c = (first-none _ _ _, omega arith, refl)

pub offset_bounds-news-q : goal.offset_bounds-news-q
offset_bounds-news-q c = omega (arith, c.requires.0, c.loop-q-test.true)

pub bounds-news-q : goal.bounds-news-q
bounds-news-q c = omega (arith, c.requires.0, c.requires.1, c.loop-q-test.true)

pub overflow_mul-q : goal.overflow_mul-q
overflow_mul-q c = omega (arith, c.requires.0, c.loop-q-test.true)

pub find_started-requires : goal.find_started-requires
find_started-requires c = (omega (arith, c.requires.0, c.loop-q-test.true), c.requires.2, c.loop-q.invariant.2 ∙ c.requires.3)

pub loop-q-preserved : goal.loop-q-preserved
loop-q-preserved c = (first_on _ _ _ _ _ _ c.loop-q.invariant.0 c.find_started.ensures.started, omega (arith, c.loop-q-test.true), c.find_started.auto.active ∙ c.loop-q.invariant.2)

pub shape_of-active : goal.shape_of-active
shape_of-active c = c.loop-q.invariant.2

pub returns : goal.returns
returns c =
    record {
      first_to = first-all _ _ _ _ _ _ c.loop-q.invariant.0 c.loop-q-test.false;
    }
