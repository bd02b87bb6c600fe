use mathlib.Core.Path.{refl, sym, ap, ◌∙◌}
use borrow.Author.Tests.{eq-eqb, ne_eqb}
use Rattle.game.specs.declared.game.Sizes.{Sizes}
use Rattle.game.specs.Sets.{has}
use Rattle.table.proofs.Checked.{at_least, under, rule-by-parts}
use Rattle.table.proofs.check.is_rule_in_form.Goals as goal

pub returns-then-birthdate-eq0 : goal.returns-then-birthdate-eq0
returns-then-birthdate-eq0 c = λ g h. rule-by-parts g _ _ _ _ (eq-eqb _ _ c.if-birthdate-eq0.true) refl refl refl

pub returns-then-sizes-state : goal.returns-then-sizes-state
returns-then-sizes-state c = λ g h. rule-by-parts g _ _ _ _ (ne_eqb _ _ c.if-birthdate-eq0.false) (at_least (ap (λ (x : Sizes). x.control) h.sized) refl c.if-sizes-state.true) refl refl

pub returns-then-has_state : goal.returns-then-has_state
returns-then-has_state c = λ g h. rule-by-parts g _ _ _ _ (ne_eqb _ _ c.if-birthdate-eq0.false) (under (ap (λ (x : Sizes). x.control) h.sized) refl c.if-sizes-state.false) (sym (ap (λ (x : Sizes). has x.abelard c.args.state) h.sized) ∙ sym c.has_state.ensures ∙ c.if-has_state.true) refl

pub returns-then-rule-eq0 : goal.returns-then-rule-eq0
returns-then-rule-eq0 c = λ g h. rule-by-parts g _ _ _ _ (ne_eqb _ _ c.if-birthdate-eq0.false) (under (ap (λ (x : Sizes). x.control) h.sized) refl c.if-sizes-state.false) (sym (ap (λ (x : Sizes). has x.abelard c.args.state) h.sized) ∙ sym c.has_state.ensures ∙ c.if-has_state.false) (eq-eqb _ _ c.if-rule-eq0.true)

pub returns : goal.returns
returns c = λ g h. c.is_rule_numbered.ensures g _ refl h ∙ rule-by-parts g _ _ _ _ (ne_eqb _ _ c.if-birthdate-eq0.false) (under (ap (λ (x : Sizes). x.control) h.sized) refl c.if-sizes-state.false) (sym (ap (λ (x : Sizes). has x.abelard c.args.state) h.sized) ∙ sym c.has_state.ensures ∙ c.if-has_state.false) (ne_eqb _ _ c.if-rule-eq0.false)
