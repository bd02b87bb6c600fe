use mathlib.Core.Path.{◌≡◌, refl, sym, ap, ◌∙◌}
use mathlib.Core.Bool.{Bool, true, false, not, beq}
use Rattle.game.specs.ListLaws.{clash}
use Rattle.walk.specs.TurnLaws.{agrees}
use Rattle.walk.proofs.round.first_rule.Goals as goal

-- what is not different agrees
agree : (x y : Bool) → not (beq x y) ≡ false → agrees x y ≡ true
agree true true h = refl
agree true false h = clash refl h
agree false true h = clash refl h
agree false false h = refl

pub returns-clause-first : goal.returns-clause-first
returns-clause-first c =
    let own = ap (λ (b : Bool). agrees b c.args.later) (sym c.has_state.ensures) ∙ agree _ _ c.if-has_state-later.false in
    let next = c.next_rule.ensures.next in
    record { within = next.within; found = next.found; next = λ same. next; none = λ other. clash own other }
