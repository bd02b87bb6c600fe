use Prim.Native.Nat.{◌/◌}
use mathlib.Core.Path.{refl, sym, ◌∙◌}
use lib.ListN.{length}
use Rattle.std.proofs.lemmas.Result.{err_from_is_err_and}
use Rattle.game.specs.Held.{was_read}
use Rattle.table.specs.Table.{entry_stride}
use Rattle.solver.proofs.Answers.{short, no-file, unequal, out-of-form, lent, whole-entries}
use Rattle.solver.proofs.RoundsTaken.{leaving-at}
use Rattle.solver.proofs.solving.solve.Goals as goal

pub returns-in_err-game : goal.returns-in_err-game
returns-in_err-game c =
    let p = err_from_is_err_and c.from_residual.result c.from_residual.ensures.1 in
    rw (p.1, p.2) (no-file _ _ _ c.clear.ensures c.clear-2.ensures _ c.read.ensures _ c.in_err-game.was)

pub returns-then-table-work : goal.returns-then-table-work
returns-then-table-work c = let x = was_read _ _ c.read.ensures _ c.in_ok-game.was in rw c.at.ensures (unequal _ _ _ c.clear.ensures c.clear-2.ensures x.game x.reads (rw c.clear-2.auto.area at c.if-table-work.true))

pub returns-then-not-is_length : goal.returns-then-not-is_length
returns-then-not-is_length c = let x = was_read _ _ c.read.ensures _ c.in_ok-game.was in rw c.at-then-not-is_length.ensures (out-of-form _ _ _ c.clear.ensures c.clear-2.ensures x.game x.reads (c.if-table-work.false ∙ c.clear-2.auto.area) (sym c.is_length.ensures ∙ c.if-not-is_length.true))

pub solve_game-requires : goal.solve_game-requires
solve_game-requires c = let x = was_read _ _ c.read.ensures _ c.in_ok-game.was in ((x.game, x.stores, x.well), c.if-table-work.false, short _ (sym c.is_length.ensures ∙ c.if-not-is_length.false))

pub returns : goal.returns
returns c = let x = was_read _ _ c.read.ensures _ c.in_ok-game.was in let b = sym c.is_length.ensures ∙ c.if-not-is_length.false in c.solve_game.ensures x.game (length c.args.table.now / entry_stride) x.stores x.well (whole-entries c.args.file.now (length c.args.table.now) (length c.args.work.now) c.clear.ensures x.game x.reads (c.if-table-work.false ∙ c.clear-2.auto.area) b) ∙ leaving-at _ refl c.clear-2.auto.area ∙ lent _ _ _ c.clear.ensures x.game x.reads (c.if-table-work.false ∙ c.clear-2.auto.area) b
