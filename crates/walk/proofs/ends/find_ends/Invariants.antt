-- The rule by itself is a job of one rule as Éloise's are, in the game where every state is hers, and nothing is listed for it; its
-- runs are taken as those of any rule are. Assumes what the contract requires.
use Prim.Native.Nat.{ℕ, ◌≤◌}
use mathlib.Core.List.{List}
use Rattle.game.specs.Game.{PushdownGame}
use Rattle.table.specs.Table.{Entry}
use Rattle.rounds.specs.Growing.{Growing}
use Rattle.enumeration.specs.Jobs.{Whole, Entered}
use Rattle.enumeration.specs.NextLaws.{begin_of}
use Rattle.enumeration.specs.Past.{Aging}
use Rattle.enumeration.specs.Places.{Placing}
use Rattle.enumeration.specs.TakingLaws.{Scanning}
use Rattle.walk.proofs.ends.find_ends.Given as goal

abbrev pub invariant-loop-i : goal.invariant-loop-i
invariant-loop-i l = (l.count ≤ 1024) × ((g : PushdownGame) (old : List Entry) (birthdate n : ℕ) (s : Growing) → Entered g old birthdate n l.alone.0 l.task.rules.now l.task.work.now l.initial.sets l.initial.count l.initial.memo s → Placing g l.task.work.now l.alone.0.count l.task.places.now → Aging g old birthdate l.alone.0 l.task.fresh.now → Whole g l.alone.0 l.r → Scanning g old birthdate n l.alone.0 l.task.rules.now l.task.work.now (begin_of g old l.alone.0.state l.alone.0.letter l.alone.0.end l.r 0) s l.i l.sets l.count l.memo)
