use Rattle.std.proofs.lemmas.Result.{err_from_is_err_and}
use mathlib.Core.Path.{sym, ap, ◌∙◌}
use native.Mathlib.Omega.{arith}
use Rattle.game.specs.Stored.{held_sizes}
use Rattle.game.specs.Held.{held, safe}
use Rattle.game.specs.Outcome.{done, said}
use Rattle.judge.specs.PositionLaws.{in_bytes}
use Rattle.judge.proofs.Refusals.{no_table, no-position, both-passed, by-game, ready, as-told}
use Rattle.judge.proofs.judging.judge_game.Goals as goal

pub table_form-requires : goal.table_form-requires
table_form-requires c =
    let pre = c.requires in
    let g = pre.0 in
    safe g _ _ (held _ g _ pre.1 pre.2 (c.sizes-sizes.ensures ∙ ap held_sizes pre.1))

pub returns-in_err-map_err : goal.returns-in_err-map_err
returns-in_err-map_err c =
    λ g e r.
    let holds = held _ g _ e r (c.sizes-sizes.ensures ∙ ap held_sizes e) in
    let p = err_from_is_err_and c.from_residual.result c.from_residual.ensures.1 in
    rw (p.1, p.2) (no_table g _ _ _ (ap said (sym (as-told c.map_err.ensures.cases ∙ c.in_err-map_err.was)) ∙ c.table_form.ensures g holds))

pub returns-in_err-map_err-2 : goal.returns-in_err-map_err-2
returns-in_err-map_err-2 c =
    λ g e r.
    let holds = held _ g _ e r (c.sizes-sizes.ensures ∙ ap held_sizes e) in
    let formed = sym (c.table_form.ensures g holds) ∙ ap said (as-told c.map_err.ensures.cases ∙ c.in_ok-map_err.was) in
    let p = err_from_is_err_and c.from_residual-in_err-map_err-2.result c.from_residual-in_err-map_err-2.ensures.1 in
    rw (p.1, p.2)
    (no-position g _ _ formed _ (by-game g _ _ holds.sized _ (ap said (sym (as-told c.map_err-2.ensures.cases ∙ c.in_err-map_err-2.was)) ∙ c.position_form.ensures)))

pub bounds-position-0 : goal.bounds-position-0
bounds-position-0 c =
    let shaped = sym c.position_form.ensures ∙ ap said (as-told c.map_err-2.ensures.cases ∙ c.in_ok-map_err-2.was) in
    omega (arith, (in_bytes _ _ c.args.position.now shaped).many)

pub slice_bounds-verdict_on-start : goal.slice_bounds-verdict_on-start
slice_bounds-verdict_on-start c =
    let shaped = sym c.position_form.ensures ∙ ap said (as-told c.map_err-2.ensures.cases ∙ c.in_ok-map_err-2.was) in
    omega (arith, (in_bytes _ _ c.args.position.now shaped).many)

pub slice_bounds-verdict_on-count : goal.slice_bounds-verdict_on-count
slice_bounds-verdict_on-count c =
    let shaped = sym c.position_form.ensures ∙ ap said (as-told c.map_err-2.ensures.cases ∙ c.in_ok-map_err-2.was) in
    omega (arith, (in_bytes _ _ c.args.position.now shaped).many)

pub verdict_on-requires : goal.verdict_on-requires
verdict_on-requires c =
    let g = c.requires.0 in
    let holds = held _ g _ c.requires.1 c.requires.2 (c.sizes-sizes.ensures ∙ ap held_sizes c.requires.1) in
    let formed = sym (c.table_form.ensures g holds) ∙ ap said (as-told c.map_err.ensures.cases ∙ c.in_ok-map_err.was) in
    let shaped = sym c.position_form.ensures ∙ ap said (as-told c.map_err-2.ensures.cases ∙ c.in_ok-map_err-2.was) in
    ready g _ _ holds _ _ formed (in_bytes _ _ _ shaped) _ c.used_part.ensures

pub returns : goal.returns
returns c =
    λ g e r.
    let holds = held _ g _ e r (c.sizes-sizes.ensures ∙ ap held_sizes e) in
    let formed = sym (c.table_form.ensures g holds) ∙ ap said (as-told c.map_err.ensures.cases ∙ c.in_ok-map_err.was) in
    let shaped = sym (by-game g _ _ holds.sized _ c.position_form.ensures) ∙ ap said (as-told c.map_err-2.ensures.cases ∙ c.in_ok-map_err-2.was) in
    ap done (c.verdict_on.ensures g holds)
    ∙ sym (both-passed g _ _ formed shaped _ c.used_part.ensures)
