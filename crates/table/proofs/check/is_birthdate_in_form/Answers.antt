use mathlib.Core.Path.{◌∙◌}
use borrow.Author.Tests.{lt-ltb, le-ltb, eq-eqb, ne_eqb}
use Rattle.table.specs.Table.{birthdate_in_form}
use Rattle.table.proofs.Checked.{within_low}
use Rattle.table.proofs.check.is_birthdate_in_form.Goals as goal

pub returns-then-birthdate-eq0 : goal.returns-then-birthdate-eq0
unfolding birthdate_in_form
returns-then-birthdate-eq0 c = rw (eq-eqb _ _ c.if-birthdate-eq0.true) (c.is_within.ensures ∙ within_low _ _ c.ranges.set.fits)

pub returns-then-control-state : goal.returns-then-control-state
unfolding birthdate_in_form
returns-then-control-state c = rw (ne_eqb _ _ c.if-birthdate-eq0.false, le-ltb _ _ c.if-control-state.true)

pub returns : goal.returns
unfolding birthdate_in_form
returns c = rw (ne_eqb _ _ c.if-birthdate-eq0.false, lt-ltb _ _ c.if-control-state.false)
