use mathlib.Core.Path.{◌∙◌}
use Rattle.game.specs.Stored.{rule_at}
use Rattle.judge.proofs.LostRules.{none_written, one_written, two-written}
use Rattle.judge.proofs.losing.is_successor_lost.Goals as goal

pub returns-then-count-eq0 : goal.returns-then-count-eq0
returns-then-count-eq0 c =
    λ ws l to.
    let x = c.args in
    c.has_state.ensures
    ∙ none_written x.sizes x.table.now l (rule_at x.rules.now x.at 0) to c.if-count-eq0.true

pub returns-then-count-eq1 : goal.returns-then-count-eq1
returns-then-count-eq1 c =
    λ ws l to.
    let x = c.args in
    c.is_head_lost.ensures
    ∙ one_written x.sizes x.table.now l (rule_at x.rules.now x.at 0) to c.if-count-eq1.true

pub returns : goal.returns
returns c =
    λ ws l to.
    let x = c.args in
    c.is_head_lost-2.ensures
    ∙ two-written x.sizes x.table.now l (rule_at x.rules.now x.at 0) to c.if-count-eq0.false c.if-count-eq1.false
    (c.lost_above-lower.ensures ws l)
