use Prim.Native.Nat.{ℕ, ◌<◌}
use Rattle.std.specs.Prelude.{Option}
use native.Mathlib.Omega.{arith}
use mathlib.Core.Path.{refl, sym, subst, ◌∙◌}
use mathlib.Core.List.{List}
use Rattle.rounds.specs.RoundLaws.{round_table}
use Rattle.rounds.proofs.RoundLaws.{round-ranged}
use Rattle.rounds.specs.Filled.{Stored, number_of}
use Rattle.rounds.proofs.StoredRows.{long}
use Rattle.walk.specs.RoundPast.{round-past}
use Rattle.solver.proofs.RoundsTaken.{taken-zero, leaving-at, cleared_at, same-number, other-number, turn-settled, turn_last, turn-full, turn-next}
use Rattle.solver.specs.Leaving.{solved_with}
use Rattle.solver.proofs.solving.rounds_from.Goals as goal

pub loop-sizes-init : goal.loop-sizes-init
loop-sizes-init c = (omega arith, refl, refl, c.requires.3, λ g n h good st. taken-zero g n _ _ st)

pub returns-then-eq : goal.returns-then-eq
returns-then-eq c = λ g n h good st. let t = c.loop-sizes.invariant.4 g n h good st in cleared_at (solved_with c.loop-sizes.count c.loop-sizes.i) _ c.clear.ensures (c.copy.auto.to ∙ c.loop-sizes.invariant.2) ∙ turn-settled g n _ _ _ t good _ _ (c.take_wide-next.ensures.filled g (round_table g c.loop-sizes.i) n h good (round-ranged g good c.loop-sizes.i).1 (subst (λ (w : List ℕ). Stored n w c.loop-sizes.count (round_table g c.loop-sizes.i)) (sym c.copy.ensures) t.stored) t.stored (round-past g good n c.loop-sizes.i)) (same-number n _ c.take_wide-next.result (sym c.eq.ensures ∙ c.if-eq.true)) _ _

pub returns-then-i-ge-MAX_ROUNDS : goal.returns-then-i-ge-MAX_ROUNDS
returns-then-i-ge-MAX_ROUNDS c = λ g n h good st. let t = c.loop-sizes.invariant.4 g n h good st in (rw c.at.ensures at c.give_up.ensures.work_after) ∙ leaving-at _ (c.take_wide-next.auto.table ∙ c.loop-sizes.invariant.1) (c.copy.auto.to ∙ c.loop-sizes.invariant.2) ∙ sym (turn_last g n _ _ _ t good _ _ (c.take_wide-next.ensures.filled g (round_table g c.loop-sizes.i) n h good (round-ranged g good c.loop-sizes.i).1 (subst (λ (w : List ℕ). Stored n w c.loop-sizes.count (round_table g c.loop-sizes.i)) (sym c.copy.ensures) t.stored) t.stored (round-past g good n c.loop-sizes.i)) (other-number n _ c.take_wide-next.result (omega (arith, t.stored.counted, t.stored.fits)) (sym c.eq.ensures ∙ c.if-eq.false)) c.if-i-ge-MAX_ROUNDS.true _ _)

pub returns-in_default : goal.returns-in_default
returns-in_default c = λ g n h good st. let t = c.loop-sizes.invariant.4 g n h good st in (rw c.at-in_default.ensures at c.give_up-in_default.ensures.work_after) ∙ leaving-at _ (c.take_wide-next.auto.table ∙ c.loop-sizes.invariant.1) (c.copy.auto.to ∙ c.loop-sizes.invariant.2) ∙ sym (turn-full g n _ _ _ t good _ _ (c.take_wide-next.ensures.filled g (round_table g c.loop-sizes.i) n h good (round-ranged g good c.loop-sizes.i).1 (subst (λ (w : List ℕ). Stored n w c.loop-sizes.count (round_table g c.loop-sizes.i)) (sym c.copy.ensures) t.stored) t.stored (round-past g good n c.loop-sizes.i)) (other-number n _ c.take_wide-next.result (omega (arith, t.stored.counted, t.stored.fits)) (sym c.eq.ensures ∙ c.if-eq.false)) c.if-i-ge-MAX_ROUNDS.false (subst (λ (r : Option ℕ). n < number_of n r) (sym c.in_default.is) (omega arith)) _ _)

pub loop-sizes-preserved : goal.loop-sizes-preserved
loop-sizes-preserved c =
    let within = rw c.in-Some.is at (c.take_wide-next.ensures.within c.loop-sizes.invariant.3) in
    (omega (arith, c.if-i-ge-MAX_ROUNDS.false), (c.take_wide-next.auto.table ∙ c.loop-sizes.invariant.1), (c.copy.auto.to ∙ c.loop-sizes.invariant.2), omega (arith, within, c.take_wide-next.auto.table), λ g n h good st. let t = c.loop-sizes.invariant.4 g n h good st in turn-next g n _ _ _ t good _ _ (rw c.in-Some.is at (c.take_wide-next.ensures.filled g (round_table g c.loop-sizes.i) n h good (round-ranged g good c.loop-sizes.i).1 (subst (λ (w : List ℕ). Stored n w c.loop-sizes.count (round_table g c.loop-sizes.i)) (sym c.copy.ensures) t.stored) t.stored (round-past g good n c.loop-sizes.i))) (rw c.in-Some.is at (other-number n _ c.take_wide-next.result (omega (arith, t.stored.counted, t.stored.fits)) (sym c.eq.ensures ∙ c.if-eq.false))) c.if-i-ge-MAX_ROUNDS.false (omega (arith, within, long n _ _ _ t.stored)))
