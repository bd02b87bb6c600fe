use native.Mathlib.Omega.{arith}
use lib.Arith.{digits_lt}
use Rattle.saturation.proofs.Links.{linked-beyond, linked-at}
use Rattle.unions.specs.PlaceLaws.{row_small}
use Rattle.saturation.proofs.linking.link_rule.Goals as goal

pub returns-then-control-state : goal.returns-then-control-state
returns-then-control-state c =
    record {
      linked_from = λ from. linked-beyond _ _ _ _ _ _ _ c.requires.4 (omega (arith, c.requires.1, c.requires.4, c.requires.6)) from c.unwrap_or.result (rw c.unwrap_or.ensures c.next_rule.ensures.next) (λ l m. omega (arith, l, c.if-control-state.true, c.from-state.ensures));
    }

pub returns-then-letters-letter : goal.returns-then-letters-letter
returns-then-letters-letter c =
    record {
      linked_from = λ from. linked-beyond _ _ _ _ _ _ _ c.requires.4 (omega (arith, c.requires.1, c.requires.4, c.requires.6)) from c.unwrap_or-then-letters-letter.result (rw c.unwrap_or-then-letters-letter.ensures c.next_rule-then-letters-letter.ensures.next) (λ l m. omega (arith, m, c.if-letters-letter.true, c.from-letter.ensures));
    }

pub overflow_mul-head : goal.overflow_mul-head
overflow_mul-head c = omega (arith, row_small c.from-state.result c.args.letters (omega (arith, c.from-state.ensures)) c.requires.2)

pub overflow_add-head : goal.overflow_add-head
overflow_add-head c = omega (arith, row_small c.from-state.result c.args.letters (omega (arith, c.from-state.ensures)) c.requires.2, c.if-letters-letter.false, c.requires.2)

pub offset_bounds-firsts-head : goal.offset_bounds-firsts-head
offset_bounds-firsts-head c = omega (arith, row_small c.from-state.result c.args.letters (omega (arith, c.from-state.ensures)) c.requires.2, c.if-letters-letter.false, c.requires.2)

pub bounds-firsts-head : goal.bounds-firsts-head
bounds-firsts-head c = omega (arith, digits_lt c.if-control-state.false c.if-letters-letter.false, c.requires.5)

pub offset_bounds-firsts-head-2 : goal.offset_bounds-firsts-head-2
offset_bounds-firsts-head-2 c = omega (arith, row_small c.from-state.result c.args.letters (omega (arith, c.from-state.ensures)) c.requires.2, c.if-letters-letter.false, c.requires.2)

pub bounds-firsts-head-2 : goal.bounds-firsts-head-2
bounds-firsts-head-2 c = omega (arith, digits_lt c.if-control-state.false c.if-letters-letter.false, c.requires.5)

pub returns : goal.returns
returns c =
    record {
      linked_from = λ from. linked-at _ _ _ _ _ _ _ c.requires.4 (omega (arith, c.requires.1, c.requires.4, c.requires.6)) from _ _ c.from-state.ensures c.from-letter.ensures c.if-control-state.false c.if-letters-letter.false (omega (arith, digits_lt c.if-control-state.false c.if-letters-letter.false, c.requires.5));
    }
