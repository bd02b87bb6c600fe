-- Before and after each rule both areas are zero, every list ends before the room begins, and what is listed is right. Assumes what
-- the contract requires.
use Prim.Native.Nat.{ℕ, ◌*◌, ◌-◌, ◌<◌, ◌≤◌}
use mathlib.Core.Path.{◌≡◌}
use mathlib.Core.Bool.{true}
use mathlib.Core.List.{List}
use Rattle.std.specs.Prelude.{unwrap_or, IfSome}
use Rattle.game.specs.Game.{PushdownGame, of_head}
use Rattle.game.specs.Stored.{rule_at}
use Rattle.table.specs.Table.{Entry}
use Rattle.enumeration.specs.Jobs.{Stands}
use Rattle.enumeration.specs.Past.{Aging}
use Rattle.enumeration.specs.Places.{Placing}
use Rattle.enumeration.specs.Lists.{Listed, Zero, Bounded}
use Rattle.walk.proofs.ends.list_rules.Given as goal

abbrev pub invariant-loop-next : goal.invariant-loop-next
invariant-loop-next l = (l.room ≤ 4096) × IfSome l.next (λ r. (r < l.task.job.end) × (of_head l.task.job.state l.task.job.letter (rule_at l.task.rules.now (r * 6) 0) ≡ true)) × Zero l.sets × Zero l.memo × Bounded l.spans l.room × ((g : PushdownGame) (old : List Entry) (birthdate : ℕ) → Stands g old birthdate l.task.job l.task.rules.now l.task.work.now → Placing g l.task.work.now l.task.job.count l.task.places.now → Aging g old birthdate l.task.job l.task.fresh.now → Listed g old l.lists l.spans)

abbrev pub decreases-loop-next : goal.decreases-loop-next
decreases-loop-next l = l.task.job.end - unwrap_or l.next l.task.job.end
