-- The jobs of a round: for each rule of Éloise's head one, and one for Abelard's head from his first rule on; a rule of his by itself,
-- as one of hers; and the runs of a job by the first transition of its first rule.
use Rattle.std.specs.Prelude.{ℕ, ◌+◌, ◌*◌, ◌<◌, ◌≤◌, ◌≡◌, Bool, true, false, cond, List, get_or, eqb}
use Rattle.game.specs.Sets.{has, single}
use Rattle.game.specs.Game.{PushdownGame, of_head}
use Rattle.game.specs.Stored.{rule_at}
use Rattle.game.specs.StoredLaws.{no_rule}
use Rattle.game.specs.declared.game.Sizes.{Sizes}
use Rattle.table.specs.Table.{Entry, key, first_word}
use Rattle.table.specs.Rows.{Placed}
use Rattle.rounds.specs.Scans.{NextRule}
use Rattle.enumeration.specs.Places.{PlacedHead}
use Rattle.enumeration.specs.Memo.{line_at}
use Rattle.enumeration.specs.Jobs.{sub_runs, begin_runs}
use Rattle.enumeration.specs.declared.runs.Job.{Job}

abbrev pub job_with : Sizes → ℕ → ℕ → ℕ → ℕ → ℕ → ℕ → Bool → Job
job_with sizes p a birthdate r old last abelards =
    record {
      state = p;
      letter = a;
      first = first_word p a birthdate;
      field = cond abelards 0 (r + 1);
      end = cond abelards sizes.rulecount (r + 1);
      count = old;
      last = last;
    }

abbrev pub job_of : Sizes → ℕ → ℕ → ℕ → ℕ → ℕ → ℕ → Job
job_of sizes p a birthdate r old last = job_with sizes p a birthdate r old last (has sizes.abelard p)

-- the job of rule r by itself, as one of Éloise's
abbrev pub alone : Job → ℕ → Job
alone job r =
    record {
      state = job.state;
      letter = job.letter;
      first = job.first;
      field = r + 1;
      end = r + 1;
      count = job.count;
      last = r + 1;
    }

-- the game where every state is Éloise's
abbrev pub hers : PushdownGame → PushdownGame
hers g =
    record {
      control = g.control;
      states = g.states;
      letters = g.letters;
      abelard = 0;
      finals = g.finals;
      rules = g.rules;
      targets = g.targets;
    }

-- where a head's rules begin in a turn: at its first rule, or after all rules where the turn is not its own
pub record First (rules : List ℕ) (rulecount : ℕ) (own : Bool) (p a r : ℕ) : Type 0 where
  pub within : r ≤ rulecount
  pub found : r < rulecount → of_head p a (rule_at rules (r * 6) 0) ≡ true
  pub next : own ≡ true → NextRule rules rulecount 0 p a r
  pub none : own ≡ false → r ≡ rulecount

-- how many runs a rule has by their first transition: one, where it writes nothing
unfoldable pub runs_of : List ℕ → ℕ → ℕ → ℕ
runs_of rules r old = cond (eqb (get_or rules (r * 6 + 3) 0) 0) 1 old

-- the unions of run i of rule r with one run for each of the job's later rules
unfoldable pub run_runs : PushdownGame → List Entry → ℕ → ℕ → ℕ → ℕ → ℕ → List ℕ
run_runs g old p a end r i =
    let rule = get_or g.rules r no_rule in
    cond (eqb rule.count 0) (sub_runs g old p a end r 0 (single rule.to)) (begin_runs g old p a end r i 0)

-- a memo that names nothing
abbrev pub Blank : List ℕ → Type 0
Blank memo = (k : ℕ) → (line_at memo k).tag ≡ 0

-- where the runs of a rule that writes letters begin and end in the old round, by the places of the head that it goes to
pub record RunsStart (rules places : List ℕ) (r old start : ℕ) : Type 0 where
  pub first : get_or rules (r * 6 + 3) 0 ≡ 0 → start ≡ 0
  pub within : start ≤ old
  pub placed : (get_or rules (r * 6 + 3) 0 ≡ 0 → ⊥) → (work : List ℕ)
      → PlacedHead work old places (get_or rules (r * 6 + 2) 0) (get_or rules (r * 6 + 4) 0)
      → Placed work old (key (get_or rules (r * 6 + 2) 0) (get_or rules (r * 6 + 4) 0) 0) start

pub record RunsEnd (rules places : List ℕ) (r old end : ℕ) : Type 0 where
  pub one : get_or rules (r * 6 + 3) 0 ≡ 0 → end ≡ 1
  pub within : (get_or rules (r * 6 + 3) 0 ≡ 0 → ⊥) → end ≤ old
  pub placed : (get_or rules (r * 6 + 3) 0 ≡ 0 → ⊥) → (work : List ℕ)
      → PlacedHead work old places (get_or rules (r * 6 + 2) 0) (get_or rules (r * 6 + 4) 0)
      → Placed work old (key (get_or rules (r * 6 + 2) 0) (get_or rules (r * 6 + 4) 0) 4294967296) end
