use mathlib.Core.Path.{sym, ◌∙◌}
use Rattle.game.proofs.Asked.{first-order, first_range, first-bottom, first-new, first-room, none_first}
use Rattle.game.proofs.question.ask_command.Goals as goal

pub returns-then-not-is_in_order : goal.returns-then-not-is_in_order
returns-then-not-is_in_order c = λ g e f. first-order _ g _ e.sized (sym c.is_in_order.ensures ∙ c.if-not-is_in_order.true)

pub returns-then-not-is_in_range : goal.returns-then-not-is_in_range
returns-then-not-is_in_range c = λ g e f. first_range _ g _ e.sized (sym c.is_in_order.ensures ∙ c.if-not-is_in_order.false) (sym c.is_in_range.ensures ∙ c.if-not-is_in_range.true)

pub returns-then-not-is_bottom_kept : goal.returns-then-not-is_bottom_kept
returns-then-not-is_bottom_kept c = λ g e f. first-bottom _ g _ e.sized (sym c.is_in_order.ensures ∙ c.if-not-is_in_order.false) (sym c.is_in_range.ensures ∙ c.if-not-is_in_range.false) (sym c.is_bottom_kept.ensures ∙ c.if-not-is_bottom_kept.true)

pub returns-then-not-is_new : goal.returns-then-not-is_new
returns-then-not-is_new c = λ g e f. first-new _ g _ e.sized (sym c.is_in_order.ensures ∙ c.if-not-is_in_order.false) (sym c.is_in_range.ensures ∙ c.if-not-is_in_range.false) (sym c.is_bottom_kept.ensures ∙ c.if-not-is_bottom_kept.false) (sym (c.is_new.ensures g e f) ∙ c.if-not-is_new.true)

pub returns-then-not-is_room : goal.returns-then-not-is_room
returns-then-not-is_room c = λ g e f. first-room _ g _ e.sized (sym c.is_in_order.ensures ∙ c.if-not-is_in_order.false) (sym c.is_in_range.ensures ∙ c.if-not-is_in_range.false) (sym c.is_bottom_kept.ensures ∙ c.if-not-is_bottom_kept.false) (sym (c.is_new.ensures g e f) ∙ c.if-not-is_new.false) (sym c.is_room.ensures ∙ c.if-not-is_room.true)

pub returns : goal.returns
returns c = λ g e f. none_first _ g _ e.sized (sym c.is_in_order.ensures ∙ c.if-not-is_in_order.false) (sym c.is_in_range.ensures ∙ c.if-not-is_in_range.false) (sym c.is_bottom_kept.ensures ∙ c.if-not-is_bottom_kept.false) (sym (c.is_new.ensures g e f) ∙ c.if-not-is_new.false) (sym c.is_room.ensures ∙ c.if-not-is_room.false)
