use native.Mathlib.Omega.{arith}
use mathlib.Core.Path.{refl, ◌∙◌}
use lib.ListN.{length-set}
use Rattle.family.proofs.Into.{adding-starts, adding-skips, adding-more, adding-ends, one_word}
use Rattle.family.proofs.uniting.unite_into.Goals as goal
use Rattle.family.proofs.uniting.unite_into.Goals.{then-word-ne0, else-word-ne0}

pub bounds-out-0 : goal.bounds-out-0
bounds-out-0 c = omega (arith, c.requires.0)

pub offset_bounds-a-at : goal.offset_bounds-a-at
offset_bounds-a-at c = omega (arith, c.requires, c.if-n-eq1.true)

pub bounds-a-at : goal.bounds-a-at
bounds-a-at c = omega (arith, c.requires, c.if-n-eq1.true)

pub offset_bounds-b-bt : goal.offset_bounds-b-bt
offset_bounds-b-bt c = omega (arith, c.requires, c.if-n-eq1.true)

pub bounds-b-bt : goal.bounds-b-bt
bounds-b-bt c = omega (arith, c.requires, c.if-n-eq1.true)

pub unite_by-requires : goal.unite_by-requires
unite_by-requires c = c.requires.3

pub bounds-out-0-then-n-eq1 : goal.bounds-out-0-then-n-eq1
bounds-out-0-then-n-eq1 c = omega (arith, c.requires.0)

pub shape_of-out-then-n-eq1 : goal.shape_of-out-then-n-eq1
shape_of-out-then-n-eq1 c = simp length-set

pub returns-then-n-eq1 : goal.returns-then-n-eq1
returns-then-n-eq1 c =
    record {
      unites_into = λ r. rw c.if-n-eq1.true (one_word _ _ _ _ _ (omega (arith, c.requires.0)) _ (c.unite_by.ensures r));
    }

pub loop-i-init : goal.loop-i-init
loop-i-init c = (refl, omega arith, λ r. adding-starts _ _ _ _ _ _)

pub overflow_add-word : goal.overflow_add-word
overflow_add-word c = omega (arith, c.requires, c.loop-i-test.true)

pub offset_bounds-b-bt-in-loop-i : goal.offset_bounds-b-bt-in-loop-i
offset_bounds-b-bt-in-loop-i c = omega (arith, c.requires, c.loop-i-test.true)

pub bounds-b-bt-in-loop-i : goal.bounds-b-bt-in-loop-i
bounds-b-bt-in-loop-i c = omega (arith, c.requires, c.loop-i-test.true)

pub unite_with-requires : goal.unite_with-requires
unite_with-requires c = (omega (arith, c.requires.0, c.loop-i.invariant.0), c.requires.1, c.loop-i-test.true, c.requires.3, c.requires.4)

pub loop-i-preserved : goal.loop-i-preserved
loop-i-preserved c =
    elim c.if-word-ne0.branch [
      | then-word-ne0 w ↦ rw w.out-is (w.unite_with.auto.out ∙ c.loop-i.invariant.0, omega (arith, c.loop-i-test.true), λ r. adding-more _ _ _ _ _ _ _ _ (c.loop-i.invariant.2 r) _ (w.unite_with.ensures.row r))
      | else-word-ne0 w ↦ rw w.out-is (c.loop-i.invariant.0, omega (arith, c.loop-i-test.true), λ r. adding-skips _ _ _ _ _ _ _ _ (c.loop-i.invariant.2 r) w.if-word-ne0.false)
    ]

pub shape_of-out : goal.shape_of-out
shape_of-out c = c.loop-i.invariant.0

pub returns : goal.returns
returns c =
    record {
      unites_into = λ r. adding-ends _ _ _ _ _ _ _ _ (c.loop-i.invariant.2 r) c.loop-i.invariant.1 c.loop-i-test.false;
    }
