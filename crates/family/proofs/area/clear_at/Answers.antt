use borrow.Author.Rules.{rules}
use native.Mathlib.Omega.{arith}
use mathlib.Core.Path.{◌∙◌}
use lib.ListN.{length-set}
use Rattle.family.proofs.Areas.{walk-part, none, cleared-all, cleared-one, cleared-two, cleared-four}
use Rattle.family.proofs.area.clear_at.Goals as goal

pub offset_bounds-words-at : goal.offset_bounds-words-at
offset_bounds-words-at c = omega arith

pub bounds-words-at : goal.bounds-words-at
bounds-words-at c = omega arith

pub returns-then-n-eq1 : goal.returns-then-n-eq1
returns-then-n-eq1 c =
    record {
      cleared = cleared-one _ _ _ c.if-n-eq1.true c.requires;
    }

pub offset_bounds-words-at-then-n-eq2 : goal.offset_bounds-words-at-then-n-eq2
offset_bounds-words-at-then-n-eq2 c = omega arith

pub bounds-words-at-then-n-eq2 : goal.bounds-words-at-then-n-eq2
bounds-words-at-then-n-eq2 c = omega (arith, c.if-n-eq2.true, c.requires)

pub overflow_add-words : goal.overflow_add-words
overflow_add-words c = omega arith

pub offset_bounds-words-at-then-n-eq2-2 : goal.offset_bounds-words-at-then-n-eq2-2
offset_bounds-words-at-then-n-eq2-2 c = omega arith

pub bounds-words-at-then-n-eq2-2 : goal.bounds-words-at-then-n-eq2-2
bounds-words-at-then-n-eq2-2 c = rw length-set (omega (arith, c.if-n-eq2.true, c.requires))

pub returns-then-n-eq2 : goal.returns-then-n-eq2
returns-then-n-eq2 c =
    record {
      cleared = cleared-two _ _ _ c.if-n-eq2.true c.requires;
    }

pub offset_bounds-words-at-then-n-eq4 : goal.offset_bounds-words-at-then-n-eq4
offset_bounds-words-at-then-n-eq4 c = omega arith

pub bounds-words-at-then-n-eq4 : goal.bounds-words-at-then-n-eq4
bounds-words-at-then-n-eq4 c = omega (arith, c.if-n-eq4.true, c.requires)

pub overflow_add-words-then-n-eq4 : goal.overflow_add-words-then-n-eq4
overflow_add-words-then-n-eq4 c = omega arith

pub offset_bounds-words-at-then-n-eq4-2 : goal.offset_bounds-words-at-then-n-eq4-2
offset_bounds-words-at-then-n-eq4-2 c = omega arith

pub bounds-words-at-then-n-eq4-2 : goal.bounds-words-at-then-n-eq4-2
bounds-words-at-then-n-eq4-2 c = rw length-set (omega (arith, c.if-n-eq4.true, c.requires))

pub overflow_add-words-then-n-eq4-2 : goal.overflow_add-words-then-n-eq4-2
overflow_add-words-then-n-eq4-2 c = omega arith

pub offset_bounds-words-at-then-n-eq4-3 : goal.offset_bounds-words-at-then-n-eq4-3
offset_bounds-words-at-then-n-eq4-3 c = omega arith

pub bounds-words-at-then-n-eq4-3 : goal.bounds-words-at-then-n-eq4-3
bounds-words-at-then-n-eq4-3 c = rw (length-set, length-set) (omega (arith, c.if-n-eq4.true, c.requires))

pub overflow_add-words-then-n-eq4-3 : goal.overflow_add-words-then-n-eq4-3
overflow_add-words-then-n-eq4-3 c = omega arith

pub offset_bounds-words-at-then-n-eq4-4 : goal.offset_bounds-words-at-then-n-eq4-4
offset_bounds-words-at-then-n-eq4-4 c = omega arith

pub bounds-words-at-then-n-eq4-4 : goal.bounds-words-at-then-n-eq4-4
bounds-words-at-then-n-eq4-4 c = rw (length-set, length-set, length-set) (omega (arith, c.if-n-eq4.true, c.requires))

pub returns-then-n-eq4 : goal.returns-then-n-eq4
returns-then-n-eq4 c =
    record {
      cleared = cleared-four _ _ _ c.if-n-eq4.true c.requires;
    }

pub returns : goal.returns
returns c =
    let part = c.fill.ensures.after (λ y h. h) in
    record {
      cleared = cleared-all _ _ _ _ _ (walk-part _ _ _ _ none _ c.requires (omega arith) (c.fill.ensures.len ∙ search rules) (λ j l. rw part (search rules))) (omega arith);
    }
