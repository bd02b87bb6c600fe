use Rattle.std.proofs.lemmas.Result.{err_from_is_err_and}
use Rattle.session.proofs.Reading.{unread, holds, made}
use Rattle.session.proofs.moving.after_move.Goals as goal

pub returns-in_err-game : goal.returns-in_err-game
returns-in_err-game c =
    let p = err_from_is_err_and c.from_residual.result c.from_residual.ensures.1 in
    rw (p.1, p.2) (unread _ _ c.read.ensures _ _ _ c.in_err-game.was)

pub move_in-requires : goal.move_in-requires
move_in-requires c = holds _ _ c.read.ensures _ c.in_ok-game.was _ c.sizes.ensures

pub returns : goal.returns
returns c = made _ _ c.read.ensures _ c.in_ok-game.was _ c.sizes.ensures _ _ _ c.move_in.ensures
