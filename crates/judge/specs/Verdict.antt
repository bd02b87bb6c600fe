-- The judge's answer: document 01, 'The questions', judging.
use Rattle.std.specs.Prelude.{ℕ, suc, Bool, true, false, cond, List, [], ◌∷◌, eqb}
use Rattle.std.proofs.Math.Option.{Option, none, some}
use Rattle.game.specs.Game.{Rule, PushdownGame, word_of, rules_of}
use Rattle.game.specs.Outcome.{Outcome, done, after}
use Rattle.game.specs.Questions.{reading}
use Rattle.game.specs.Position.{form}
use Rattle.game.specs.Win.{is_abelard}
use Rattle.table.specs.Table.{Entry, entries_of, table_form}
use Rattle.judge.specs.Worth.{Automaton, automaton, is_none, worth_in, worths, step_worth, steps, advice_at}

-- "lost, target (bound 0), Éloise with rule and bound, Abelard with bound"; lost has a rule field, which is 0 but where
-- it names a rule of Abelard's.
pub data Verdict : Type 0 where
  lost : ℕ → Verdict
  target : Verdict
  eloise : ℕ → ℕ → Verdict
  abelard : ℕ → Verdict

-- the worth of a rule's successor, given the worths of what lies below the top: the steps of what the rule writes over them
unfoldable pub successor_worth : Automaton → List (Option ℕ) → Rule → Option ℕ
successor_worth A below r = worth_in (steps A (word_of r.count r.above r.below) below) r.to

-- "the lowest-numbered rule that leads to a lost position", of rules that ascend by number: "its number plus 1", 0 if there is none
unfoldable pub losing_field : Automaton → List (Option ℕ) → List Rule → ℕ
losing_field A below [] = 0
losing_field A below (r ∷ rs) = cond (is_none (successor_worth A below r)) (suc r.number) (losing_field A below rs)

-- the rule field of a lost position: that rule's if the position is Abelard's
unfoldable pub lost_field : PushdownGame → Automaton → ℕ → ℕ → List (Option ℕ) → ℕ
lost_field g A p a below = cond (is_abelard g p) (losing_field A below (rules_of g p a)) 0

-- the same over a table's entries, the stack given as top letter and rest, of any height
abbrev pub lost_field_of : PushdownGame → List Entry → ℕ → ℕ → List ℕ → ℕ
lost_field_of g table p a rest = lost_field g (automaton g table) p a (worths (automaton g table) rest)

-- "unused fields are 0"
unfoldable pub or_zero : Option ℕ → ℕ
or_zero none = 0
or_zero (some n) = n

-- the verdict of a bound above 0, by the owner
unfoldable pub to_move : Bool → Option ℕ → ℕ → Verdict
to_move true rule b = abelard b
to_move false rule b = eloise (or_zero rule) b

-- the verdict of a bound, if there is one; the field is that of a lost position, the rule the advised one
unfoldable pub verdict_of : Bool → ℕ → Option ℕ → Option ℕ → Verdict
verdict_of abelards field rule none = lost field
verdict_of abelards field rule (some b) = cond (eqb b 0) target (to_move abelards rule b)

-- the verdict on a control state and a stack over a table's entries: a function of the worths of the rest below the top
unfoldable pub verdict_over : PushdownGame → Automaton → ℕ → ℕ → List (Option ℕ) → Verdict
verdict_over g A p a rest =
    let b = step_worth A rest p a in
    verdict_of (is_abelard g p) (lost_field g A p a rest) (advice_at A rest p a b) b

unfoldable pub verdict : PushdownGame → List Entry → ℕ → List ℕ → Verdict
verdict g table p [] = lost 0
verdict g table p (a ∷ rest) = verdict_over g (automaton g table) p a (worths (automaton g table) rest)

-- "Position bytes: control state, then stack"
unfoldable pub verdict_of_bytes : PushdownGame → List Entry → List ℕ → Verdict
verdict_of_bytes g table [] = lost 0
verdict_of_bytes g table (p ∷ stack) = verdict g table p stack

-- 13, 14, then the verdict, for a game that was read
unfoldable pub judging_game : PushdownGame → List ℕ → List ℕ → Outcome Verdict
judging_game g words position =
    after (table_form g words) (λ u. after (form g.control g.letters position)
    (λ v. done (verdict_of_bytes g (entries_of words) position)))

-- Judging a position over a table's words, "after 1 to 9" and 19.
unfoldable pub judging : List ℕ → List ℕ → List ℕ → Outcome Verdict
judging file words position = after (reading file) (λ g. judging_game g words position)
