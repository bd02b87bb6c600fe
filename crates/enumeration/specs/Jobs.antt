-- What the code enumerates: the sub-enumerations of a rule, by the states left of a set and the union of what was passed.
use Rattle.std.specs.Prelude.{ℕ, suc, ◌+◌, ◌*◌, ◌^◌, ◌<◌, ◌≤◌, ◌≡◌, ◌⊎◌, true, false, cond, List, [], map, ◌++◌, length, get_or, eqb}
use Rattle.game.specs.Game.{PushdownGame, of_head}
use Rattle.game.specs.GoodGame.{Ranged}
use Rattle.game.specs.Sets.{union}
use Rattle.game.specs.Stored.{rule_bytes}
use Rattle.game.specs.StoredLaws.{no_rule}
use Rattle.game.specs.ListLaws.{◌∈◌}
use Rattle.game.specs.Win.{is_abelard}
use Rattle.table.specs.Table.{Entry, first_word}
use Rattle.judge.specs.Worth.{entry_of_head}
use Rattle.rounds.specs.Rounds.{members, entry_at}
use Rattle.rounds.specs.Enumeration.{state_runs}
use Rattle.rounds.specs.Growing.{Growing, growing}
use Rattle.rounds.specs.GrowingLaws.{HeldBy}
use Rattle.rounds.specs.Filled.{Stored, Filled}
use Rattle.rounds.specs.InsertLaws.{no_entry}
use Rattle.rounds.specs.Scans.{rules_between}
use Rattle.enumeration.specs.Memo.{line_at}
use Rattle.enumeration.specs.declared.runs.Job.{Job}

-- A job is a rule of Éloise's by itself, or Abelard's head with one run for each rule: where its rules end, and its rule field.
unfoldable pub end_of : PushdownGame → ℕ → ℕ → ℕ
end_of g p r = cond (is_abelard g p) (length g.rules) (suc r)

unfoldable pub field_of : PushdownGame → ℕ → ℕ → ℕ
field_of g p r = cond (is_abelard g p) 0 (suc r)

-- the unions of runs of rule r of which the states `left` are to be passed, `u` in hand, then of the job's later rules
unfoldable pub sub_runs : PushdownGame → List Entry → ℕ → ℕ → ℕ → ℕ → ℕ → ℕ → List ℕ
sub_runs g old p a end r left u =
    state_runs g old (get_or g.rules r no_rule).below (rules_between g p a (suc r) end) (members g.states left) u

-- and their entries
unfoldable pub sub_entries : PushdownGame → List Entry → ℕ → ℕ → ℕ → ℕ → ℕ → ℕ → List Entry
sub_entries g old birthdate p a r left u =
    map (entry_at p a birthdate (field_of g p r)) (sub_runs g old p a (end_of g p r) r left u)

-- a number of its own for each head and rule, never 0
unfoldable pub tag_of : ℕ → ℕ → ℕ → ℕ
tag_of p a r = (p * 64 + a) * 256 + r + 1

-- Every line of the memo whose tag is that of a rule names a sub-enumeration that is held.
abbrev pub Memoed : PushdownGame → List Entry → ℕ → ℕ → List ℕ → Growing → Type 0
Memoed g old birthdate n memo s =
    (k p a r : ℕ) → p < g.control → a < g.letters → r < length g.rules → (line_at memo k).tag ≡ tag_of p a r
    → HeldBy n (sub_entries g old birthdate p a r (line_at memo k).left (line_at memo k).union) s

-- the unions of runs of rule r that begin with entry i of the old round
unfoldable pub begin_runs : PushdownGame → List Entry → ℕ → ℕ → ℕ → ℕ → ℕ → ℕ → List ℕ
begin_runs g old p a end r i u =
    let rule = get_or g.rules r no_rule in
    let e = get_or old i no_entry in
    cond (entry_of_head rule.to rule.above e)
    (cond (eqb rule.count 1) (sub_runs g old p a end r 0 (union u e.set)) (sub_runs g old p a end r e.set u))
    []

-- what indexes need
pub record Able (job : Job) (rules work : ℕ) : Type 0 where
  pub ends : job.end * 6 ≤ rules
  pub few : job.end ≤ 256
  pub entries : job.count * 3 ≤ work

-- of Éloise's job no rule comes before its own
abbrev pub Late : PushdownGame → Job → ℕ → Type 0
Late g job from = is_abelard g job.state ≡ false → job.end ≤ suc from

-- the job is that of rule r, which is one of its head
pub record Whole (g : PushdownGame) (job : Job) (r : ℕ) : Type 0 where
  pub ends : job.end ≡ end_of g job.state r
  pub named : job.field ≡ field_of g job.state r
  pub heads : of_head job.state job.letter (get_or g.rules r no_rule) ≡ true

-- What the code's job stands for.
pub record Stands (g : PushdownGame) (old : List Entry) (birthdate : ℕ) (job : Job) (rules work : List ℕ) : Type 0 where
  pub slack : List ℕ
  pub room : ℕ
  pub written : rules ≡ rule_bytes g.rules ++ slack
  pub ranged : Ranged g
  pub stored : Stored room work job.count old
  pub sets : (e : Entry) → e ∈ old → e.set < 2 ^ g.states
  pub state : job.state < g.control
  pub letter : job.letter < g.letters
  pub born : birthdate < 2 ^ 16
  pub first : job.first ≡ first_word job.state job.letter birthdate
  pub last : job.end ≤ length g.rules
  pub owner :
      ((is_abelard g job.state ≡ true) × (job.end ≡ length g.rules) × (job.field ≡ 0))
      ⊎ ((is_abelard g job.state ≡ false) × (job.field ≡ job.end))

-- What an enumeration enters with: a table and a memo that stand for a growing table.
pub record Entered (g : PushdownGame) (old : List Entry) (birthdate n : ℕ) (job : Job) (rules work words : List ℕ) (count : ℕ) (memo : List ℕ) (s : Growing) : Type 0 where
  pub stands : Stands g old birthdate job rules work
  pub filled : Filled n words count s
  pub memoed : Memoed g old birthdate n memo s

-- What an enumeration of a list leaves: the table grown by its entries, and a memo whose lines are held.
pub record Finished (g : PushdownGame) (old : List Entry) (birthdate n : ℕ) (es : List Entry) (s : Growing) (words : List ℕ) (count : ℕ) (memo : List ℕ) : Type 0 where
  pub filled : Filled n words count (growing n es s)
  pub memoed : Memoed g old birthdate n memo (growing n es s)
