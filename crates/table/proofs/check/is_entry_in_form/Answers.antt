use Prim.Native.Nat.{zero-le, ◌/◌, ◌^◌}
use mathlib.Core.Path.{refl, sym, ap, ◌∙◌}
use mathlib.Core.Bool.{not}
use lib.Dec.{eqb}
use borrow.Author.Tests.{eq-eqb, ne_eqb}
use Rattle.game.specs.declared.game.Sizes.{Sizes}
use Rattle.table.proofs.Checked.{at_least, under, within-high, by_parts, dated, ruled}
use Rattle.table.proofs.check.is_entry_in_form.Goals as goal

pub returns-then-sizes-state : goal.returns-then-sizes-state
returns-then-sizes-state c = λ g h. by_parts g _ (at_least (ap (λ (x : Sizes). x.states) h.sized) c.state-state.ensures c.if-sizes-state.true) refl refl refl refl refl

pub returns-then-sizes-letter : goal.returns-then-sizes-letter
returns-then-sizes-letter c = λ g h. by_parts g _ (under (ap (λ (x : Sizes). x.states) h.sized) c.state-state.ensures c.if-sizes-state.false) (at_least (ap (λ (x : Sizes). x.letters) h.sized) c.letter-letter.ensures c.if-sizes-letter.true) refl refl refl refl

pub returns-then-set-eq0 : goal.returns-then-set-eq0
returns-then-set-eq0 c = λ g h. by_parts g _ (under (ap (λ (x : Sizes). x.states) h.sized) c.state-state.ensures c.if-sizes-state.false) (under (ap (λ (x : Sizes). x.letters) h.sized) c.letter-letter.ensures c.if-sizes-letter.false) (ap not (eq-eqb _ _ c.if-set-eq0.true)) refl refl refl

pub returns-then-not-is_within : goal.returns-then-not-is_within
returns-then-not-is_within c = λ g h. by_parts g _ (under (ap (λ (x : Sizes). x.states) h.sized) c.state-state.ensures c.if-sizes-state.false) (under (ap (λ (x : Sizes). x.letters) h.sized) c.letter-letter.ensures c.if-sizes-letter.false) (ap not (ne_eqb _ _ c.if-set-eq0.false)) (sym (ap (λ (x : Sizes). eqb (c.args.entry.set / 2 ^ x.states) 0) h.sized) ∙ sym (within-high _ _) ∙ sym c.is_within.ensures ∙ c.if-not-is_within.true) refl refl

pub returns-then-not-is_birthdate_in_form : goal.returns-then-not-is_birthdate_in_form
returns-then-not-is_birthdate_in_form c = λ g h. by_parts g _ (under (ap (λ (x : Sizes). x.states) h.sized) c.state-state.ensures c.if-sizes-state.false) (under (ap (λ (x : Sizes). x.letters) h.sized) c.letter-letter.ensures c.if-sizes-letter.false) (ap not (ne_eqb _ _ c.if-set-eq0.false)) (sym (ap (λ (x : Sizes). eqb (c.args.entry.set / 2 ^ x.states) 0) h.sized) ∙ sym (within-high _ _) ∙ sym c.is_within.ensures ∙ c.if-not-is_within.false) (dated g _ _ h.sized _ _ c.state-state.ensures _ _ c.birthdate.ensures _ _ c.is_birthdate_in_form.ensures (c.if-not-is_birthdate_in_form.true)) refl

pub returns : goal.returns
returns c = λ g h. by_parts g _ (under (ap (λ (x : Sizes). x.states) h.sized) c.state-state.ensures c.if-sizes-state.false) (under (ap (λ (x : Sizes). x.letters) h.sized) c.letter-letter.ensures c.if-sizes-letter.false) (ap not (ne_eqb _ _ c.if-set-eq0.false)) (sym (ap (λ (x : Sizes). eqb (c.args.entry.set / 2 ^ x.states) 0) h.sized) ∙ sym (within-high _ _) ∙ sym c.is_within.ensures ∙ c.if-not-is_within.false) (dated g _ _ h.sized _ _ c.state-state.ensures _ _ c.birthdate.ensures _ _ c.is_birthdate_in_form.ensures (c.if-not-is_birthdate_in_form.false)) (sym (ruled g _ _ c.state-state.ensures _ _ c.letter-letter.ensures _ _ c.birthdate-2.ensures _ _ (c.is_rule_in_form.ensures g h)))
