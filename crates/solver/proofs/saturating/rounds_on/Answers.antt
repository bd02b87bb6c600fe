use native.Mathlib.Omega.{arith}
use mathlib.Core.Path.{refl, sym, ap, ◌∙◌}
use lib.ListN.{length}
use Rattle.rounds.specs.RoundLaws.{round_table}
use Rattle.solver.proofs.RoundsTaken.{leaving-at}
use Rattle.solver.proofs.RestTurns.{rests-start, rests-kept, room-is, noted-last, ends-settled, ends_last, ends-full, rests-next}
use Rattle.solver.proofs.saturating.rounds_on.Goals as goal

pub loop-next-init : goal.loop-next-init
loop-next-init g c = record { most = omega arith; sized = refl; tabled = refl; room = c.requires.3; lined = c.requires.4; logs = refl; gone = λ el g m ec es reads linked zeros re. rests-start m re }

pub returns-then-next-entries : goal.returns-then-next-entries
returns-then-next-entries g c = (λ el g m ec es reads linked zeros re. let w = rests-kept c.lines_kept-kept.ensures (c.loop-next.invariant.gone el g m ec es reads linked zeros re) in let t = (rw c.in-Some.is at c.take_round.ensures.by_index) el g w.old (round_table g c.loop-next.i) c.loop-next.i ec es (omega arith) reads linked w.resting in let size = c.loop-next.invariant.sized ∙ room-is m _ zeros in c.settle.ensures.by_index el g (round_table g c.loop-next.i) m (noted-last w c.loop-next.invariant.room size t c.if-next-entries.true) (c.loop-next.invariant.tabled ∙ zeros) ∙ ends-settled w c.loop-next.invariant.room size t c.if-next-entries.true _ _ _ (c.take_round.auto.log ∙ c.loop-next.invariant.logs))

pub returns-then-i-ge-MAX_ROUNDS : goal.returns-then-i-ge-MAX_ROUNDS
returns-then-i-ge-MAX_ROUNDS g c = (λ el g m ec es reads linked zeros re. let w = rests-kept c.lines_kept-kept.ensures (c.loop-next.invariant.gone el g m ec es reads linked zeros re) in let t = (rw c.in_default.is at c.take_round.ensures.by_index) el g w.old (round_table g c.loop-next.i) c.loop-next.i ec es (omega arith) reads linked w.resting in let size = c.loop-next.invariant.sized ∙ room-is m _ zeros in (rw c.at.ensures at c.give_up.ensures.work_after) ∙ leaving-at _ (ap length c.loop-next.invariant.tabled) (c.take_round.auto.log ∙ c.loop-next.invariant.logs) ∙ sym (ends_last w c.loop-next.invariant.room size t (λ e. omega (arith, e, c.loop-next.invariant.room)) c.if-i-ge-MAX_ROUNDS.true _ _))

pub returns-in_default : goal.returns-in_default
returns-in_default g c = (λ el g m ec es reads linked zeros re. let w = rests-kept c.lines_kept-kept.ensures (c.loop-next.invariant.gone el g m ec es reads linked zeros re) in let t = (rw c.in_default.is at c.take_round.ensures.by_index) el g w.old (round_table g c.loop-next.i) c.loop-next.i ec es (omega arith) reads linked w.resting in let size = c.loop-next.invariant.sized ∙ room-is m _ zeros in (rw c.at-in_default.ensures at c.give_up-in_default.ensures.work_after) ∙ leaving-at _ (ap length c.loop-next.invariant.tabled) (c.take_round.auto.log ∙ c.loop-next.invariant.logs) ∙ sym (ends-full w c.loop-next.invariant.room size t (λ e. omega (arith, e, c.loop-next.invariant.room)) (omega (arith, c.if-i-ge-MAX_ROUNDS.false)) (omega arith) _ _))

pub returns-then-i-ge-MAX_ROUNDS-2 : goal.returns-then-i-ge-MAX_ROUNDS-2
returns-then-i-ge-MAX_ROUNDS-2 g c = (λ el g m ec es reads linked zeros re. let w = rests-kept c.lines_kept-kept.ensures (c.loop-next.invariant.gone el g m ec es reads linked zeros re) in let t = (rw c.in-Some.is at c.take_round.ensures.by_index) el g w.old (round_table g c.loop-next.i) c.loop-next.i ec es (omega arith) reads linked w.resting in let size = c.loop-next.invariant.sized ∙ room-is m _ zeros in (rw c.at-then-i-ge-MAX_ROUNDS-2.ensures at c.give_up-then-i-ge-MAX_ROUNDS-2.ensures.work_after) ∙ leaving-at _ (ap length c.loop-next.invariant.tabled) (c.take_round.auto.log ∙ c.loop-next.invariant.logs) ∙ sym (ends_last w c.loop-next.invariant.room size t c.if-next-entries.false c.if-i-ge-MAX_ROUNDS-2.true _ _))

pub loop-next-preserved : goal.loop-next-preserved
loop-next-preserved g c = record { most = omega (arith, c.if-i-ge-MAX_ROUNDS-2.false); sized = c.loop-next.invariant.sized; tabled = c.loop-next.invariant.tabled; room = rw c.in-Some.is at c.take_round.ensures.upper_bound; lined = omega (arith, c.take_round.ensures.lines_bound, c.loop-next.arrays.keyed); logs = c.take_round.auto.log ∙ c.loop-next.invariant.logs; gone = λ el g m ec es reads linked zeros re. let w = rests-kept c.lines_kept-kept.ensures (c.loop-next.invariant.gone el g m ec es reads linked zeros re) in let t = (rw c.in-Some.is at c.take_round.ensures.by_index) el g w.old (round_table g c.loop-next.i) c.loop-next.i ec es (omega arith) reads linked w.resting in let size = c.loop-next.invariant.sized ∙ room-is m _ zeros in rests-next w c.loop-next.invariant.room size t c.if-next-entries.false (omega (arith, c.if-i-ge-MAX_ROUNDS-2.false)) ((rw c.in-Some.is at c.take_round.ensures.upper_bound)) }
