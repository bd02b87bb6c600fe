use native.Mathlib.Omega.{arith}
use Rattle.noting.proofs.Marking.{marking-starts, marking-on, marking-ends}
use Rattle.noting.proofs.masks.set_masks.Goals as goal

pub loop-c-init : goal.loop-c-init
loop-c-init c = marking-starts _ _ _ _ _ _ _ _

pub mark-requires : goal.mark-requires
mark-requires c = (c.requires.0, c.requires.1, c.requires.2, c.requires.3, c.requires.4, omega (arith, c.requires.5, c.requires.6), c.requires.7, c.loop-c-test.true)

pub offset_bounds-fresh-c : goal.offset_bounds-fresh-c
offset_bounds-fresh-c c = omega (arith, c.loop-c-test.true, c.requires.7)

pub bounds-fresh-c : goal.bounds-fresh-c
bounds-fresh-c c = omega (arith, c.loop-c-test.true, c.requires.7, c.requires.8, c.loop-c.invariant.news)

pub mark-requires-in-loop-c : goal.mark-requires-in-loop-c
mark-requires-in-loop-c c = (c.requires.0, c.requires.1, c.requires.2, c.requires.3, c.requires.4, c.requires.5, c.requires.7, c.loop-c-test.true)

pub offset_bounds-alive-c : goal.offset_bounds-alive-c
offset_bounds-alive-c c = omega (arith, c.loop-c-test.true, c.requires.7)

pub bounds-alive-c : goal.bounds-alive-c
bounds-alive-c c = omega (arith, c.loop-c-test.true, c.requires.7, c.requires.9, c.loop-c.invariant.lives)

pub loop-c-preserved : goal.loop-c-preserved
loop-c-preserved c = marking-on _ _ _ _ _ _ _ _ _ _ _ c.loop-c.invariant c.loop-c-test.true (omega (arith, c.loop-c-test.true, c.requires.7, c.requires.8, c.loop-c.invariant.news)) (omega (arith, c.loop-c-test.true, c.requires.7, c.requires.9, c.loop-c.invariant.lives)) _ _ c.mark.ensures.marked c.mark-in-loop-c.ensures.marked c.mark-in-loop-c.ensures.upper_bound

pub shape_of-fresh : goal.shape_of-fresh
shape_of-fresh c = c.loop-c.invariant.news

pub shape_of-alive : goal.shape_of-alive
shape_of-alive c = c.loop-c.invariant.lives

pub returns : goal.returns
returns c =
    record {
      by_index = marking-ends _ _ _ _ _ _ _ _ _ _ _ c.loop-c-test.false c.loop-c.invariant;
      by_index_2 = c.loop-c.invariant.few;
    }
