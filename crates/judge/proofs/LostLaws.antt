-- Abelard's side of the contest, over any table: the verdict where there is no bound, and the worth of a rule's successor by the number
-- of letters that the rule writes.
use Rattle.std.specs.Prelude.{ℕ, ◌<◌, ◌≡◌, refl, ◌⊎◌, List, ◌∷◌}
use Rattle.std.proofs.Common.{sym, ◌∙◌, inl, inr}
use Rattle.std.proofs.Math.Option.{Option, none, some}
use borrow.Author.Tests.{ne_eqb}
use Rattle.game.specs.Game.{Rule, PushdownGame, word_of}
use Rattle.table.specs.Table.{Entry}
use Rattle.judge.specs.Worth.{Automaton, automaton, worth_in, step_worth, step, steps, worths, bound}
use Rattle.judge.specs.Tabulate.{tabulate-at}
use Rattle.judge.proofs.Within.{worth-cons}
use Rattle.judge.specs.Verdict.{lost, successor_worth, lost_field_of, verdict_of, verdict_over, verdict}

-- a worth is none or a number
pub none_or : (x : Option ℕ) → (x ≡ none) ⊎ ((b : ℕ) × (x ≡ some b))
none_or none = inl refl
none_or (some b) = inr (b, refl)

-- the verdict where there is no bound, over any table
pub verdict-none : (g : PushdownGame) (table : List Entry) (p a : ℕ) (rest : List ℕ) → p < g.states → bound g table p (a ∷ rest) ≡ none
    → verdict g table p (a ∷ rest) ≡ lost (lost_field_of g table p a rest)
unfolding verdict verdict_over verdict_of
verdict-none g table p a rest l e =
    let A = automaton g table in
    let least : step_worth A (worths A rest) p a ≡ none = sym (worth-cons A a rest p l) ∙ e in
    rw least

module _ (A : Automaton) (below : List (Option ℕ)) (r : Rule) where
  -- no letter written: the worth of the state on what lies below the top
  pub writes-none : r.count ≡ 0 → successor_worth A below r ≡ worth_in below r.to
  unfolding successor_worth word_of steps
  writes-none e = rw e

  -- one letter: that of its head over what lies below
  pub writes_one : r.count ≡ 1 → r.to < A.states → successor_worth A below r ≡ step_worth A below r.to r.above
  unfolding successor_worth word_of steps step
  writes_one e l = rw e (tabulate-at (λ (q : ℕ). step_worth A below q r.above) A.states r.to none l)

  -- two letters: that of the upper one's head over one step of the lower one
  pub writes-two : (r.count ≡ 0 → ⊥) → (r.count ≡ 1 → ⊥) → r.to < A.states
      → successor_worth A below r ≡ step_worth A (step A r.below below) r.to r.above
  unfolding successor_worth word_of steps step
  writes-two n m l =
      rw (ne_eqb r.count 0 n, ne_eqb r.count 1 m)
      (tabulate-at (λ (q : ℕ). step_worth A (step A r.below below) q r.above) A.states r.to none l)
