use Prim.Native.Nat.{◌*◌, ◌%◌}
use native.Mathlib.Nat.{mod-lt}
use mathlib.Core.Path.{refl, sym, ap, subst}
use mathlib.Core.List.{List}
use native.Mathlib.Omega.{arith}
use Rattle.walk.specs.RoundJobs.{runs_of}
use Rattle.game.specs.ListLaws.{◌∈◌}
use Rattle.table.specs.Table.{Entry}
use Rattle.enumeration.specs.Past.{older}
use Rattle.walk.proofs.Rounding.{starts, becomes, ends, stops}
use Rattle.walk.proofs.FirstRuns.{runs-within}
use Rattle.walk.proofs.RoundTurns.{at-rule, at-able, runs-begin, rules-next, past_next, rules-none, turn-first, turns-none}
use Rattle.walk.proofs.Listing.{listed-none, next-some}
use Rattle.walk.proofs.Nest.{list-turn, run-turn, runs_done, job-turn, head-turn, round_filled}
use Rattle.walk.proofs.round.add_runs.Goals as goal

pub round-init : goal.round-init
round-init c = (refl, λ h. h, starts _ _ _ _ _ _ _ _ _ _ _ _ _, λ g es n h marked. listed-none g es _ _ c.requires)

pub loop-next-init : goal.loop-next-init
loop-next-init c = let first = c.first_rule-next.ensures.first in (c.round.invariant.0, next-some _ _ _ _ _ first.found c.first_rule-next.ensures.within, c.round.invariant.1, becomes _ _ _ _ _ _ _ _ (starts _ _ _ _ _ _ _ _ _ _ _ _ _) _ (λ g es n h. turn-first g es n _ _ _ _ _ h _ _ _ _ refl refl es c.round-test.true _ first) _ (λ g es n h e m. subst (λ (l : List Entry). e ∈ l) (sym (turn-first g es n _ _ _ _ _ h _ _ _ _ refl refl (older _ es) c.round-test.true _ first)) m), c.round.invariant.3)

pub loop-i-init : goal.loop-i-init
loop-i-init c = let here = rw c.in-Some.is at c.loop-next.invariant.1 in let able = at-able _ _ c.args.round.work.now _ _ _ _ _ _ c.args.round.safe c.args.round.entries here.0 c.job_of.ensures.value in let at = at-rule _ _ _ _ _ (c.round.turn % (c.args.round.sizes.control * c.args.round.sizes.letters)) c.in-Some.r _ _ c.args.round.lettered (mod-lt c.round.turn (omega (arith, c.round-test.true))) here.0 (λ l. here.1) c.job_of.ensures.value c.job_of.ensures.settled_from refl in (c.loop-next.invariant.0, c.loop-next.invariant.2, becomes _ _ _ _ _ _ _ _ (starts _ _ _ _ _ _ _ _ _ _ _ _ _) _ (λ g es n h. runs-begin g es n _ _ _ _ _ h _ _ _ _ _ _ _ at _ (rw able.3 at c.runs_start-start.ensures)) _ (λ g es n h e m. m))

pub run_at-found-requires : goal.run_at-found-requires
run_at-found-requires c = let here = rw c.in-Some.is at c.loop-next.invariant.1 in let able = at-able _ _ c.args.round.work.now _ _ _ _ _ _ c.args.round.safe c.args.round.entries here.0 c.job_of.ensures.value in (able.1, omega (arith, c.loop-i-test.true, runs-within _ _ _ _ _ _ _ (rw able.3 at c.runs_end-end.ensures), ap (runs_of c.args.round.rules.now c.in-Some.r) able.3))

pub loop-i-preserved : goal.loop-i-preserved
loop-i-preserved c = let here = rw c.in-Some.is at c.loop-next.invariant.1 in let able = at-able _ _ c.args.round.work.now _ _ _ _ _ _ c.args.round.safe c.args.round.entries here.0 c.job_of.ensures.value in let at = at-rule _ _ _ _ _ (c.round.turn % (c.args.round.sizes.control * c.args.round.sizes.letters)) c.in-Some.r _ _ c.args.round.lettered (mod-lt c.round.turn (omega (arith, c.round-test.true))) here.0 (λ l. here.1) c.job_of.ensures.value c.job_of.ensures.settled_from refl in (refl, λ h. omega (arith, (rw c.in-Some-found.is at c.run_at-found.ensures.within) (c.loop-i.invariant.1 (omega (arith, h)))), run-turn _ _ _ _ _ _ _ _ c.args.round.born _ _ _ _ _ at _ _ (list-turn _ _ _ _ _ _ _ c.args.round.late c.args.round.born _ _ _ _ _ at c.loop-next.invariant.4 c.list_later.ensures) _ c.loop-i.invariant.2 (omega (arith, c.loop-i-test.true, runs-within _ _ _ _ _ _ _ (rw able.3 at c.runs_end-end.ensures))) (rw c.in-Some-found.is at c.run_at-found.ensures.finished))

pub loop-next-preserved : goal.loop-next-preserved
loop-next-preserved c = let here = rw c.in-Some.is at c.loop-next.invariant.1 in let able = at-able _ _ c.args.round.work.now _ _ _ _ _ _ c.args.round.safe c.args.round.entries here.0 c.job_of.ensures.value in let next = c.next_rule-next.ensures.next in let at = at-rule _ _ _ _ _ (c.round.turn % (c.args.round.sizes.control * c.args.round.sizes.letters)) c.in-Some.r _ _ c.args.round.lettered (mod-lt c.round.turn (omega (arith, c.round-test.true))) here.0 (λ l. here.1) c.job_of.ensures.value c.job_of.ensures.settled_from refl in let added = runs_done _ _ _ _ _ _ _ _ c.args.round.born _ _ _ _ _ at _ c.loop-i.invariant.2 _ (rw able.3 at c.runs_end-end.ensures) c.loop-i-test.false in (c.loop-i.invariant.0, next-some _ _ _ _ _ next.found c.next_rule-next.ensures.within, c.loop-i.invariant.1, becomes _ _ _ _ _ _ _ _ (job-turn _ _ _ _ _ _ _ _ c.args.round.born _ _ _ _ _ at (rw c.in-Some.is at c.loop-next.invariant.3) added) _ (λ g es n h. rules-next g es n _ _ _ _ _ h _ es _ _ _ _ next) _ (λ g es n h. past_next g es n _ _ _ _ _ h _ _ _ _ _ next), (list-turn _ _ _ _ _ _ _ c.args.round.late c.args.round.born _ _ _ _ _ at c.loop-next.invariant.4 c.list_later.ensures))

pub round-preserved : goal.round-preserved
round-preserved c = let added = ends _ _ _ _ _ _ _ _ (rw c.in_default.is at c.loop-next.invariant.3) (λ g es n h. rules-none g es n _ _ _ _ _ h _ es _ _ _ (omega arith)) in (c.loop-next.invariant.0, c.loop-next.invariant.2, head-turn _ _ _ _ _ _ _ _ _ c.round.invariant.2 c.round-test.true added, c.loop-next.invariant.4)

pub returns-after-round-clause-filled : goal.returns-after-round-clause-filled
returns-after-round-clause-filled c =
    rw c.round.invariant.0
    (round_filled _ _ _ _ _ _ _ _ (ends _ _ _ _ _ _ _ _ c.round.invariant.2 (λ g es n h. turns-none g es n _ _ _ _ _ h _ _ _ _ refl refl c.round-test.false)))

pub returns-after-round-clause-within : goal.returns-after-round-clause-within
returns-after-round-clause-within c = λ h. rw c.round.invariant.0 (omega (arith, c.round.invariant.1 (omega (arith, h))))

pub returns-in_default-found-clause-filled : goal.returns-in_default-found-clause-filled
returns-in_default-found-clause-filled c =
    let here = rw c.in-Some.is at c.loop-next.invariant.1 in let able = at-able _ _ c.args.round.work.now _ _ _ _ _ _ c.args.round.safe c.args.round.entries here.0 c.job_of.ensures.value in let at = at-rule _ _ _ _ _ (c.round.turn % (c.args.round.sizes.control * c.args.round.sizes.letters)) c.in-Some.r _ _ c.args.round.lettered (mod-lt c.round.turn (omega (arith, c.round-test.true))) here.0 (λ l. here.1) c.job_of.ensures.value c.job_of.ensures.settled_from refl in let run = run-turn _ _ _ _ _ _ _ _ c.args.round.born _ _ _ _ _ at _ _ (list-turn _ _ _ _ _ _ _ c.args.round.late c.args.round.born _ _ _ _ _ at c.loop-next.invariant.4 c.list_later.ensures) _ c.loop-i.invariant.2 (omega (arith, c.loop-i-test.true, runs-within _ _ _ _ _ _ _ (rw able.3 at c.runs_end-end.ensures))) (rw c.in_default-found.is at c.run_at-found.ensures.finished) in let job = job-turn _ _ _ _ _ _ _ _ c.args.round.born _ _ _ _ _ at (rw c.in-Some.is at c.loop-next.invariant.3) (stops _ _ _ _ _ _ _ _ run refl) in let all = head-turn _ _ _ _ _ _ _ _ _ c.round.invariant.2 c.round-test.true (stops _ _ _ _ _ _ _ _ job refl) in
    rw c.in_default-found.is (round_filled _ _ _ _ _ _ _ _ (stops _ _ _ _ _ _ _ _ all refl))

pub returns-in_default-found-clause-within : goal.returns-in_default-found-clause-within
returns-in_default-found-clause-within c = λ h. rw c.in_default-found.is tt
