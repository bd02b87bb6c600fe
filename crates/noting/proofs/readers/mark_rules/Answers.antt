use native.Mathlib.Omega.{arith}
use mathlib.Core.Path.{refl, ◌∙◌}
use Rattle.noting.proofs.ActiveRules.{reads_none, reads_on, readable, reads_all}
use Rattle.noting.proofs.readers.mark_rules.Goals as goal

pub loop-r-init : goal.loop-r-init
loop-r-init c = (reads_none _ _, omega arith, refl)

pub mark_rule-requires : goal.mark_rule-requires
mark_rule-requires c = (omega (arith, c.requires.0, c.loop-r-test.true), c.loop-r.invariant.2 ∙ c.requires.2, readable _ _ _ c.requires.1 c.requires.3 c.loop-r-test.true)

pub loop-r-preserved : goal.loop-r-preserved
loop-r-preserved c = (reads_on _ _ _ _ c.loop-r.invariant.0 c.mark_rule.ensures.marked, omega (arith, c.loop-r-test.true), c.mark_rule.auto.readers ∙ c.loop-r.invariant.2)

pub shape_of-readers : goal.shape_of-readers
shape_of-readers c = c.loop-r.invariant.2

pub returns : goal.returns
returns c =
    record {
      reads = reads_all _ _ _ _ c.loop-r.invariant.0 c.loop-r-test.false;
    }
