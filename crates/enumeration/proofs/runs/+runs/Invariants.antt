-- Each function is entered with a table and a memo that stand for a growing table, and leaves them grown by the entries of its
-- list. The lists are parts of one another (`rest_runs`, `begin_runs`, `sub_runs`), so what a callee leaves is what is left of
-- the caller's list; the ends that are listed for a rule are those of its runs in another order (`listed-first`). The loop of
-- `rules_from` takes the entries of a head of the old round one after another (`Scanning`). That of `pass_states` is a walk by
-- levels (`Walking`): a level is opened, goes on, or is done, and the table after all levels are done stays the same; that
-- there are at most 32 levels, and that the walk ends, needs no game (`Bounded`, `remaining`). What falls from call to call is
-- the number of rules left. What is passed over for having no entry of the last round is given by older entries alone, and what
-- those give from here on is held (`Past`); that is handed on with each older entry that is taken. Assumes what the contracts
-- require.
use Prim.Native.Nat.{◌+◌, ◌*◌, ◌-◌, ◌^◌, ◌≤◌}
use mathlib.Core.List.{List, map}
use lib.ListN.{length}
use Rattle.game.specs.Game.{PushdownGame}
use Rattle.table.specs.Table.{Entry}
use Rattle.rounds.specs.Rounds.{entry_at}
use Rattle.rounds.specs.Enumeration.{rest_runs}
use Rattle.rounds.specs.Scans.{rules_between}
use Rattle.rounds.specs.Growing.{Growing}
use Rattle.enumeration.specs.Places.{Placing}
use Rattle.enumeration.specs.Jobs.{Late, Whole, Entered}
use Rattle.enumeration.specs.Lists.{Listed, start_of}
use Rattle.enumeration.specs.NextLaws.{begin_of}
use Rattle.enumeration.specs.Past.{older, Past, Aging}
use Rattle.enumeration.specs.TakingLaws.{Scanning}
use Rattle.enumeration.proofs.ListTurns.{Coming}
use Rattle.enumeration.proofs.Depth.{Bounded, remaining}
use Rattle.enumeration.proofs.LevelParts.{earlier}
use Rattle.enumeration.proofs.Walking.{Walking}
use Prim.Native.Nat.{ℕ, ◌<◌}
use Rattle.enumeration.proofs.runs.+runs.Given as goal

abbrev pub decreases-pass_states : goal.decreases-pass_states
decreases-pass_states l = (l.task.now.job.end - l.r) * 4 + 1

abbrev pub decreases-rules_after : goal.decreases-rules_after
decreases-rules_after l = (l.task.now.job.end - l.r) * 4

abbrev pub decreases-rules_by : goal.decreases-rules_by
decreases-rules_by l = (l.task.now.job.end - l.r) * 4 + 2

abbrev pub decreases-rules_from : goal.decreases-rules_from
decreases-rules_from l = (l.task.now.job.end - l.from) * 4 + 3

abbrev pub decreases-runs_with : goal.decreases-runs_with
decreases-runs_with l = (l.task.now.job.end - l.r) * 4 + 2

abbrev pub invariant-pass_states-loop-found : goal.invariant-pass_states-loop-found
invariant-pass_states-loop-found l = (l.count * 3 ≤ length l.table → l.filled * 3 ≤ length l.table) × Bounded l.lefts l.unions l.nexts l.limits l.task.job.count l.depth l.left l.i × ((g : PushdownGame) (old : List Entry) (birthdate n : ℕ) (s : Growing) → Entered g old birthdate n l.task.job l.task.rules.now l.task.work.now l.initial.table l.count l.initial.memo s → Placing g l.task.work.now l.task.job.count l.task.places.now → Aging g old birthdate l.task.job l.task.fresh.now → Listed g old l.lists.sets.now l.lists.spans.now → Whole g l.task.job l.r → l.set < 2 ^ g.states → Past birthdate n l.late (earlier g old birthdate n l.task.job l.task.rules.now l.task.work.now l.r l.set l.reached) s → Walking g old birthdate n l.task.job l.task.rules.now l.task.work.now l.r s l.set l.reached l.lefts l.unions l.nexts l.limits l.depth l.left l.union l.i l.limit l.table l.filled l.memo)

abbrev pub decreases-pass_states-loop-found : goal.decreases-pass_states-loop-found
decreases-pass_states-loop-found l = remaining l.nexts l.task.job.count l.depth l.i

abbrev pub invariant-rules_by-loop-i : goal.invariant-rules_by-loop-i
invariant-rules_by-loop-i l = (l.count * 3 ≤ length l.table → l.filled * 3 ≤ length l.table) × (start_of l.lists.spans.now l.r ≤ l.i) × ((g : PushdownGame) (old : List Entry) (birthdate n : ℕ) (s : Growing) → Entered g old birthdate n l.task.job l.task.rules.now l.task.work.now l.initial.table l.count l.initial.memo s → Placing g l.task.work.now l.task.job.count l.task.places.now → Aging g old birthdate l.task.job l.task.fresh.now → Listed g old l.lists.sets.now l.lists.spans.now → Whole g l.task.job l.r → Coming l.lists.sets.now l.lists.spans.now l.r g old birthdate n l.task.job l.task.rules.now l.task.work.now l.union s l.i l.table l.filled l.memo)

abbrev pub invariant-rules_from-loop-i : goal.invariant-rules_from-loop-i
invariant-rules_from-loop-i l = (l.count * 3 ≤ length l.table → l.filled * 3 ≤ length l.table) × ((g : PushdownGame) (old : List Entry) (birthdate n : ℕ) (s : Growing) → Entered g old birthdate n l.task.job l.task.rules.now l.task.work.now l.initial.table l.count l.initial.memo s → Placing g l.task.work.now l.task.job.count l.task.places.now → Aging g old birthdate l.task.job l.task.fresh.now → Listed g old l.lists.sets.now l.lists.spans.now → Late g l.task.job l.from → Past birthdate n l.late (map (entry_at l.task.job.state l.task.job.letter birthdate l.task.job.field) (rest_runs g (older birthdate old) (rules_between g l.task.job.state l.task.job.letter l.from l.task.job.end) l.union)) s → Scanning g old birthdate n l.task.job l.task.rules.now l.task.work.now (begin_of g old l.task.job.state l.task.job.letter l.task.job.end l.r l.union) s l.i l.table l.filled l.memo)
