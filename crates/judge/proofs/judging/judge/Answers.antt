use Rattle.std.proofs.lemmas.Result.{err_from_is_err_and}
use mathlib.Core.Path.{sym, ◌∙◌}
use Rattle.game.specs.Held.{was_read}
use Rattle.judge.proofs.Refusals.{no-file, file-read, as-told}
use Rattle.judge.proofs.judging.judge.Goals as goal

pub returns-in_err-game : goal.returns-in_err-game
returns-in_err-game c =
    let p = err_from_is_err_and c.from_residual.result c.from_residual.ensures.1 in
    rw (p.1, p.2) (no-file _ _ _ _ c.read.ensures _ (as-told c.map_err.ensures.cases ∙ c.in_err-game.was))

pub judge_game-requires : goal.judge_game-requires
judge_game-requires c = let x = was_read _ _ c.read.ensures _ (as-told c.map_err.ensures.cases ∙ c.in_ok-game.was) in (x.game, x.stores, x.well.ranged)

pub returns : goal.returns
returns c =
    let x = was_read _ _ c.read.ensures _ (as-told c.map_err.ensures.cases ∙ c.in_ok-game.was) in
    c.judge_game.ensures x.game x.stores x.well.ranged ∙ sym (file-read _ _ _ _ x)
