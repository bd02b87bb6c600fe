use mathlib.Core.Bool.{not}
use mathlib.Core.Path.{ap, sym, ◌∙◌}
use native.Mathlib.Omega.{arith}
use Rattle.session.proofs.Turn.{out-of-form, tall, no-rule, other-head, plays, playable}
use Rattle.session.proofs.moving.move_in.Goals as goal

pub returns-then-not-is_session : goal.returns-then-not-is_session
returns-then-not-is_session c = λ g h. rw c.at.ensures (out-of-form g _ _ h _ _ _ _ _ c.is_session.ensures (ap not c.if-not-is_session.true))

pub returns-then-sizes-n : goal.returns-then-sizes-n
returns-then-sizes-n c = λ g h. rw c.at-then-sizes-n.ensures (no-rule g _ _ h _ _ _ _ _ c.is_session.ensures (ap not c.if-not-is_session.false) c.if-sizes-n.true)

pub overflow_sub-session : goal.overflow_sub-session
overflow_sub-session c = (tall c.requires.0 _ _ c.requires.1 _ _ _ 0 _ c.is_session.ensures (ap not c.if-not-is_session.false)).0

pub bounds-session-session : goal.bounds-session-session
bounds-session-session c = omega (arith, tall c.requires.0 _ _ c.requires.1 _ _ _ 0 _ c.is_session.ensures (ap not c.if-not-is_session.false))

pub is_rule_of-requires : goal.is_rule_of-requires
is_rule_of-requires c = (playable c.requires.0 _ _ c.requires.1 _ _ _ _ _ c.is_session.ensures (ap not c.if-not-is_session.false) c.if-sizes-n.false).inside

pub returns-then-not-is_rule_of : goal.returns-then-not-is_rule_of
returns-then-not-is_rule_of c = λ g h. rw c.at-then-not-is_rule_of.ensures (other-head g _ _ h _ _ _ _ _ c.is_session.ensures (ap not c.if-not-is_session.false) c.if-sizes-n.false (sym c.is_rule_of.ensures ∙ c.if-not-is_rule_of.true))

pub replace_top-requires : goal.replace_top-requires
replace_top-requires c = playable c.requires.0 _ _ c.requires.1 _ _ _ _ _ c.is_session.ensures (ap not c.if-not-is_session.false) c.if-sizes-n.false

pub returns : goal.returns
returns c = λ g h. c.replace_top.ensures ∙ plays g _ _ h _ _ _ _ _ c.is_session.ensures (ap not c.if-not-is_session.false) c.if-sizes-n.false (sym c.is_rule_of.ensures ∙ c.if-not-is_rule_of.false)
