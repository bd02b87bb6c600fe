-- Each loop has a list of its own: the runs of a job, the jobs of a head, the turns of heads. Its invariant: growing the table by the whole
-- list from where the loop began is growing it by the rest from now (`Turning`), whatever game the areas stand for. Runs that begin
-- with an entry of another head give nothing, so that they are taken from the first entry of the head to its last. A loop that ends
-- has added its list, which is one part of the list around it. Once an entry was beyond the table nothing changes any more, so that
-- each of the three lists is added where the nest is left. With each list goes what older entries give of it, which is held, so that
-- a job without an entry of the last round is passed over. What is listed is right at any time (`Rightly`). What falls is how many rules are left.
-- Assumes what the contract requires.
use Prim.Native.Nat.{◌*◌, ◌-◌, ◌<◌, ◌≤◌}
use mathlib.Core.Path.{◌≡◌}
use mathlib.Core.Bool.{true}
use lib.ListN.{length}
use Rattle.std.specs.Prelude.{Some, unwrap_or, IfSome}
use Rattle.walk.specs.RoundJobs.{runs_of}
use Rattle.game.specs.Game.{of_head}
use Rattle.game.specs.Stored.{rule_at}
use Rattle.walk.proofs.Rounding.{runs_from, rules_from, turn_at, turns_from, job_entries, Rightly, Turning}
use Rattle.walk.proofs.round.add_runs.Given as goal

abbrev pub invariant-loop-i : goal.invariant-loop-i
invariant-loop-i l = (l.found ≡ Some l.count) × (l.round.old * 3 ≤ length l.table → l.count * 3 ≤ length l.table) × Turning l.sizes l.round.rules.now l.round.places.now l.round.fresh.now l.round.work.now l.round.old l.round.birthdate l.round.late (runs_from l.round.birthdate l.task.job l.r (runs_of l.round.rules.now l.r l.round.old) 0) (runs_from l.round.birthdate l.task.job l.r (runs_of l.round.rules.now l.r l.round.old) l.i) (job_entries l.round.birthdate l.p l.a l.r) (job_entries l.round.birthdate l.p l.a l.r) l.initial.table l.initial.count l.initial.memo l.table (Some l.count) l.memo

abbrev pub invariant-loop-next : goal.invariant-loop-next
invariant-loop-next l = (l.found ≡ Some l.count) × IfSome l.next (λ r. (r < l.rulecount) × (of_head l.p l.a (rule_at l.round.rules.now (r * 6) 0) ≡ true)) × (l.round.old * 3 ≤ length l.table → l.count * 3 ≤ length l.table) × Turning l.sizes l.round.rules.now l.round.places.now l.round.fresh.now l.round.work.now l.round.old l.round.birthdate l.round.late (turn_at l.round.birthdate l.letters l.heads l.turn) (rules_from l.round.birthdate l.p l.a (unwrap_or l.next l.rulecount)) (turn_at l.round.birthdate l.letters l.heads l.turn) (rules_from l.round.birthdate l.p l.a (unwrap_or l.next l.rulecount)) l.initial.table l.initial.count l.initial.memo l.table (Some l.count) l.memo × Rightly l.sizes l.round.rules.now l.round.places.now l.round.fresh.now l.round.work.now l.round.old l.round.birthdate l.round.late l.lists l.spans

abbrev pub decreases-loop-next : goal.decreases-loop-next
decreases-loop-next l = l.rulecount - unwrap_or l.next l.rulecount

abbrev pub invariant-round : goal.invariant-round
invariant-round l = (l.found ≡ Some l.count) × (l.round.old * 3 ≤ length l.table → l.count * 3 ≤ length l.table) × Turning l.sizes l.round.rules.now l.round.places.now l.round.fresh.now l.round.work.now l.round.old l.round.birthdate l.round.late (turns_from l.round.birthdate l.letters l.heads 0) (turns_from l.round.birthdate l.letters l.heads l.turn) (turns_from l.round.birthdate l.letters l.heads 0) (turns_from l.round.birthdate l.letters l.heads l.turn) l.initial.table l.initial.count l.initial.memo l.table (Some l.count) l.memo × Rightly l.sizes l.round.rules.now l.round.places.now l.round.fresh.now l.round.work.now l.round.old l.round.birthdate l.round.late l.lists l.spans
