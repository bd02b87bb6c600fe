-- Demand 2, from a solve that was not refused alone: the table is that of the rounds, entry for entry, and up to 256 letters the judge
-- refuses no position in form and says lost exactly where it is not won.
use Rattle.std.specs.Prelude.{ℕ, suc, ◌≤◌, ◌≡◌, ◌⊎◌, ◌↔◌, Bool, true, false, List, ◌∷◌, length}
use Rattle.game.specs.Limits.{max_rounds, max_stack}
use Rattle.game.specs.Game.{Transition, PushdownGame}
use Rattle.game.specs.Outcome.{done}
use Rattle.game.specs.Questions.{reading}
use Rattle.game.specs.Win.{Position, in_form, Won}
use Rattle.game.specs.ListLaws.{◌∈◌}
use Rattle.table.specs.Table.{Entry, table_words}
use Rattle.judge.specs.Verdict.{Verdict, lost, target, eloise, abelard, judging}
use Rattle.rounds.specs.Rounds.{target_entry, settled}
use Rattle.rounds.specs.Solving.{Solved}
use Rattle.table.specs.Pairwise.{Ascending}
use Rattle.rounds.specs.RoundLaws.{round_table, Born}
use Rattle.rounds.specs.SolvingLaws.{Unsettled}

unfoldable pub is_lost : Verdict → Bool
is_lost (lost rule) = true
is_lost target = false
is_lost (eloise rule b) = false
is_lost (abelard b) = false

-- What demand 2 claims of what a file's solve returned, the table lent having so many words.
pub record Judges (file : List ℕ) (lent : ℕ) (s : Solved) : Type 0 where
  pub game : PushdownGame
  pub read : reading file ≡ done game
  -- round 0 is the target's transitions; round i + 1 is round i with what its runs give anew, of birthdate i + 1
  pub zero :
      (e : Entry) → (e ∈ round_table game 0) ↔ ((t : Transition) × t ∈ game.targets × (e ≡ target_entry t))
  pub next :
      (i : ℕ) (e : Entry)
      → (e ∈ round_table game (suc i)) ↔ (e ∈ round_table game i ⊎ ((e.birthdate ≡ suc i) × Born game (round_table game i) e))
  -- the table is the first settled round, in order of keys, then unused entries
  pub round : ℕ
  pub limit : round ≤ max_rounds
  pub first : Unsettled game round
  pub settles : settled game (round_table game round) ≡ true
  pub ascending : Ascending (round_table game round)
  pub entries : s.entries ≡ length (round_table game round)
  pub rounds : s.rounds ≡ round
  pub unused : ℕ
  pub words : s.words ≡ table_words (round_table game round) unused
  pub size : length s.words ≡ lent
  -- up to 256 letters the judge does not refuse, and says lost exactly where the position is not won
  pub verdicts :
      (pos : Position) → in_form game pos ≡ true → length pos.stack ≤ max_stack
      → (v : Verdict) × (judging file s.words (pos.state ∷ pos.stack) ≡ done v) × ((is_lost v ≡ false) ↔ Won game pos)
