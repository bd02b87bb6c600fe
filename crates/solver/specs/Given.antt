-- What the code holds of a game that was read: its sizes by value, its rules and target transitions as lent flat lists.
use Rattle.std.specs.Prelude.{ℕ, ◌≡◌, List, ◌++◌}
use Rattle.game.specs.Game.{PushdownGame}
use Rattle.game.specs.GoodGame.{Good}
use Rattle.game.specs.Held.{Held}
use Rattle.game.specs.Outcome.{Outcome, done, after}
use Rattle.game.specs.Stored.{target_words}
use Rattle.game.specs.declared.game.Sizes.{Sizes}
use Rattle.table.specs.Table.{Entry}
use Rattle.rounds.specs.Rounds.{round_zero}
use Rattle.rounds.specs.Solving.{Solved, rounds_from, solved_of}
use Rattle.game.specs.Limits.{max_rounds}

pub record Given (g : PushdownGame) (sizes : Sizes) (rules targets : List ℕ) : Type 0 where
  pub held : Held g sizes rules
  pub good : Good g
  pub slack : List ℕ
  pub targeted : targets ≡ target_words g.targets ++ slack

-- what the rounds after round 0 answer
unfoldable pub solving_rounds : PushdownGame → ℕ → Outcome Solved
solving_rounds g n = after (rounds_from g n max_rounds 0 (round_zero g)) (λ (table : List Entry). done (solved_of n table))
