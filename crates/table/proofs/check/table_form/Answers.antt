use mathlib.Core.Path.{sym, ◌∙◌}
use Rattle.table.proofs.Pass.{opens, refuses-length, few}
use Rattle.table.proofs.check.table_form.Goals as goal

pub returns-then-not-is_length : goal.returns-then-not-is_length
returns-then-not-is_length c = λ g h. rw c.at.ensures (sym (refuses-length g _ (sym c.is_length.ensures ∙ c.if-not-is_length.true)))

pub entries_form-requires : goal.entries_form-requires
entries_form-requires c = (c.requires, few _ (sym c.is_length.ensures ∙ c.if-not-is_length.false))

pub returns : goal.returns
returns c = λ g h. rw c.none.ensures at (c.entries_form.ensures g h) ∙ sym (opens g _ (sym c.is_length.ensures ∙ c.if-not-is_length.false))
