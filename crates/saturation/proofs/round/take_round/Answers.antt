use native.Mathlib.Omega.{arith}
use mathlib.Core.Logic.{inl, inr, ⊎_elim}
use Rattle.saturation.proofs.RoundTurns.{rows_are, kept_next, adding-next, gains-next, further, within-next, rest-again}
use Rattle.saturation.proofs.round.take_round.Goals as goal

pub returns-in_err-entries-clause-by_index : goal.returns-in_err-entries-clause-by_index
returns-in_err-entries-clause-by_index c =
    λ el g old es i ec se eb reads linked re. rw c.from_residual.ensures (⊎_elim inl (λ k. absurd (omega (arith, k.0, k.0))) ((rw c.in_err-entries.was at c.note_round.ensures.by_index) el g old es i ec se eb reads linked re))

pub returns-clause-by_index : goal.returns-clause-by_index
returns-clause-by_index c =
    λ el g old es i ec se eb reads linked re. ⊎_elim (λ k. absurd (omega (arith, k.0, (rw c.in_ok-entries.was at c.note_round.ensures.upper_bound)))) (λ k. let to = k.1.to in let er = rows_are re ec in let st = k.1.stepped in let closed = c.close_heads.ensures.by_index el g old es _ re.layout re.rows ec se re.ground.owned.lettered (kept_next re to er st) (further re to er st) to.pool.hold k.3 (adding-next re to er st) (gains-next re to er st) (within-next re to er st) re.ground.growth.numbered (rw c.note_round.ensures.unchanged.1 re.ground.growth.dead) in inr (k.0, rest-again re to er st _ _ _ _ closed.0 c.close_heads.ensures.elsewhere.0 closed.1 closed.2 closed.3 k.2)) ((rw c.in_ok-entries.was at c.note_round.ensures.by_index) el g old es i ec se eb reads linked re)
