use mathlib.Core.Path.{sym, ◌∙◌}
use Rattle.table.specs.Table.{first_word}
use Rattle.walk.proofs.round.job_of.Goals as goal

pub returns-then-has_state : goal.returns-then-has_state
unfolding first_word
returns-then-has_state c =
    record {
      value = rw (sym c.has_state.ensures ∙ c.if-has_state.true);
      settled_from = c.last_fresh.ensures;
    }

pub returns : goal.returns
unfolding first_word
returns c =
    record {
      value = rw (sym c.has_state.ensures ∙ c.if-has_state.false);
      settled_from = c.last_fresh-2.ensures;
    }
