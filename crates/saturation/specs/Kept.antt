-- A round over the rules of a game and what is kept.
use Rattle.std.specs.Prelude.{ℕ, ◌+◌, ◌*◌, ◌<◌, ◌≤◌, ◌≡◌, ◌⊎◌, List, length}
use Rattle.game.specs.Game.{PushdownGame}
use Rattle.table.specs.Table.{Entry}
use Rattle.rounds.specs.Rounds.{next_round}
use Rattle.unions.specs.Pool.{HeadsGrew}
use Rattle.noting.specs.Signs.{Held}
use Rattle.noting.specs.declared.marks.Marks.{Marks}
use Rattle.saturation.specs.declared.kept.Rules.{Rules}
use Rattle.saturation.specs.declared.kept.Kept.{Kept}
use Rattle.saturation.specs.Ground.{Ground, Areas, RulesTo, RulesTaken}
use Rattle.saturation.specs.Resting.{Resting, RoundNoted, RoundTaken}

-- areas of such lengths have room for the families of all heads, of as many lines, and of the rules
pub record Room (heads n rulecount all more keys rests hints ends added : ℕ) : Type 0 where
  pub area : (heads + keys) * n ≤ all
  pub alike : more ≡ all
  pub some : 10 ≤ keys
  pub most : keys ≤ 2048
  pub same : rests ≡ keys
  pub hinted : 0 < hints
  pub few : hints ≤ 65536
  pub ended : rulecount * n ≤ ends
  pub giving : heads * n ≤ added

-- so what indices need is there
pub areas-held : (rules : Rules) (marks : Marks) {all more keys rests hints ends added : List ℕ}
    → Room rules.frame.heads rules.frame.n rules.sizes.rulecount (length all) (length more) (length keys) (length rests) (length hints) (length ends) (length added)
    → (size : ℕ) (log : List ℕ) → size * 3 ≤ length log → size ≤ 2048
    → Areas rules.frame.letters rules.frame.heads rules.frame.n rules.sizes.rulecount size rules.bytes.now rules.frame.states rules.numbers all more keys rests hints marks.fresh marks.alive ends
    added log rules.frame.raising.now
areas-held rules marks room size log ll ls =
    record {
      fits =
          record {
            long = rules.frame.long;
            rows = rules.frame.rows;
            few = rules.frame.most;
            words = rules.frame.words;
            area = room.area;
            some = room.some;
            most = room.most;
            same = room.same;
            hinted = room.hinted;
            hints = room.few;
          };
      few = rules.frame.few;
      alike = room.alike;
      masked = record { states = rules.wide; small = rules.small; news = marks.freshes; lives = marks.alives; few = marks.few };
      masks = rules.frame.masks;
      ruled = rules.ruled;
      headed = rules.headed;
      owned = rules.owned;
      some = rules.some;
      ended = room.ended;
      giving = room.giving;
      noting = ll;
      most = ls;
    }

-- what a round is taken from (`Ground`)
abbrev pub GroundOf : List ℕ → PushdownGame → List Entry → List Entry → ℕ → Rules → Marks → List ℕ → Type 0
GroundOf el g old es i rules marks more =
    Ground el g rules.frame.n old es i rules.sizes.abelard rules.frame.letters rules.sizes.rulecount rules.bytes.now rules.numbers more marks.fresh marks.alive rules.frame.raising.now

-- the rules below number k are taken (`RulesTo`)
abbrev pub RulesHeld : List ℕ → PushdownGame → List Entry → List Entry → ℕ → ℕ → List Entry → ℕ → Rules → Kept → List ℕ → List ℕ → List ℕ → List ℕ → List ℕ → List ℕ → ℕ → Type 0
RulesHeld el g old es i b now k rules kept all keys rests ends added log entries =
    RulesTo el g rules.frame.n rules.frame.heads rules.frame.states old es i b now k all keys rests ends kept.stirred kept.gains log added kept.lines entries

-- or the round does not fit (`RulesTaken`)
abbrev pub RulesDone : List ℕ → PushdownGame → List Entry → List Entry → ℕ → ℕ → ℕ → List Entry → ℕ → Rules → Kept → List ℕ → List ℕ → List ℕ → List ℕ → List ℕ → List ℕ → ℕ → Type 0
RulesDone el g old es i b size now k rules kept all keys rests ends added log entries =
    RulesTaken el g rules.frame.n rules.frame.heads rules.frame.states old es i b size now k all keys rests ends kept.stirred kept.gains log added kept.lines entries

-- what is kept rests (`Resting`)
abbrev pub Rested : List ℕ → PushdownGame → List Entry → List Entry → ℕ → Rules → Marks → List ℕ → List ℕ → List ℕ → List ℕ → List ℕ → List ℕ → List ℕ → ℕ → ℕ → Type 0
Rested el g old es i rules marks all more keys rests ends added log lines entries =
    Resting el g rules.frame.n rules.frame.heads old es i rules.sizes.abelard rules.frame.letters rules.sizes.rulecount rules.bytes.now rules.frame.states rules.numbers
    rules.frame.raising.now all more keys rests marks.fresh marks.alive ends added log marks.news marks.held lines entries

-- a round is taken (`RoundTaken`)
abbrev pub Taken : List ℕ → PushdownGame → List Entry → ℕ → ℕ → ℕ → Rules → Marks → List ℕ → List ℕ → List ℕ → List ℕ → List ℕ → List ℕ → List ℕ → ℕ → ℕ → Type 0
Taken el g es i b size rules marks all more keys rests ends added log lines entries =
    RoundTaken el g rules.frame.n rules.frame.heads es i b size rules.sizes.abelard rules.frame.letters rules.sizes.rulecount rules.bytes.now rules.frame.states rules.numbers
    rules.frame.raising.now all more keys rests marks.fresh marks.alive ends added log marks.news marks.held lines entries

-- its entries are noted (`RoundNoted`), or do not fit
abbrev pub NotedIn : List ℕ → PushdownGame → List Entry → List Entry → ℕ → ℕ → ℕ → Rules → Marks → Kept → List ℕ → List ℕ → List ℕ → List ℕ → List ℕ → List ℕ → List ℕ → ℕ → Type 0
NotedIn el g old es i b size rules marks kept all more keys rests ends added log entries =
    ((entries ≡ size + 1) × (size < length (next_round g es b)))
    ⊎ ((entries ≤ size)
    × RoundNoted el g rules.frame.n rules.frame.heads rules.frame.states old es i b rules.sizes.rulecount (rules.sizes.control * rules.frame.letters) all keys rests ends kept.stirred kept.gains
    log added kept.lines entries
    × Held g es marks.held × HeadsGrew el g rules.frame.n old es more)
