-- The past of a round: the entries that are older than the last round, and which heads and rules have no other ones. What older
-- entries alone give was given a round before.
use Rattle.std.specs.Prelude.{ℕ, ◌+◌, ◌*◌, ◌-◌, ◌/◌, ◌%◌, ◌<◌, ◌≤◌, ◌≡◌, ◌⊎◌, true, false, List, get_or, ltb}
use Rattle.game.specs.Sets.{has}
use Rattle.game.specs.Game.{Rule, PushdownGame, filter, of_head}
use Rattle.game.specs.Stored.{rule_at}
use Rattle.game.specs.StoredLaws.{no_rule}
use Rattle.game.specs.ListLaws.{◌∈◌}
use Rattle.table.specs.Table.{Entry}
use Rattle.rounds.specs.Growing.{Growing}
use Rattle.rounds.specs.GrowingLaws.{HeldBy}
use Rattle.enumeration.specs.declared.runs.Job.{Job}

-- the entries that are older than the last round, where the next one has this birthdate
unfoldable pub older : ℕ → List Entry → List Entry
older birthdate old = filter (λ (e : Entry). ltb (e.birthdate + 1) birthdate) old

-- the least first word of an entry of the last round
abbrev pub late_of : ℕ → ℕ
late_of birthdate = 65536 * (birthdate - 1)

-- Unless `late` is 0 it is that word, and what is listed is held.
abbrev pub Past : ℕ → ℕ → ℕ → List Entry → Growing → Type 0
Past birthdate n late es s = 0 < late → (late ≡ late_of birthdate) × HeldBy n es s

-- For each letter a set of states: every entry before number m is older, or its state is noted at its letter.
abbrev pub Marked : List ℕ → List ℕ → ℕ → ℕ → Type 0
Marked work fresh late m =
    (k : ℕ) → k < m → get_or work (k * 3) 0 % 256 < 32
    → (get_or work (k * 3) 0 < late) ⊎ (has (get_or fresh (get_or work (k * 3) 0 / 256 % 256) 0) (get_or work (k * 3) 0 % 256) ≡ true)

-- no entry that a run of a rule has is noted
pub record Settled (fresh : List ℕ) (rule : Rule) : Type 0 where
  pub above : (rule.count ≡ 0 → ⊥) → has (get_or fresh rule.above 0) rule.to ≡ false
  pub below : (rule.count ≡ 0 → ⊥) → (rule.count ≡ 1 → ⊥) → get_or fresh rule.below 0 ≡ 0

-- so of every rule of a head from number `last` on
abbrev pub SettledFrom : List ℕ → List ℕ → ℕ → ℕ → ℕ → ℕ → Type 0
SettledFrom rules fresh end p a last =
    (k : ℕ) → last ≤ k → k < end → of_head p a (rule_at rules (k * 6) 0) ≡ true → Settled fresh (rule_at rules (k * 6) 0)

-- The same of a game: every entry of the old round is older or noted, and of the job's rules from `last` on none is.
pub record Aging (g : PushdownGame) (old : List Entry) (birthdate : ℕ) (job : Job) (fresh : List ℕ) : Type 0 where
  pub marked : (e : Entry) → e ∈ old → (e ∈ older birthdate old) ⊎ (has (get_or fresh e.letter 0) e.state ≡ true)
  pub settled : (k : ℕ) → job.last ≤ k → k < job.end → of_head job.state job.letter (get_or g.rules k no_rule) ≡ true
      → Settled fresh (get_or g.rules k no_rule)
