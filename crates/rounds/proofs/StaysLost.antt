-- Document 02, 'Abelard's side of the contest', from a solve that was not refused alone: the rule field of a lost position of Abelard's
-- names the lowest-numbered rule that leads to a lost position, and "if Abelard plays these and Éloise plays anything, then no position
-- of the play, after any number of moves, is in the target".
use Rattle.std.specs.Prelude.{ℕ, ◌<◌, ◌≡◌, true, false}
use Rattle.std.proofs.Common.{arith, ◌∙◌, ap, inl, inr}
use Rattle.std.proofs.Math.Path.{refl, sym, subst}
use Rattle.std.proofs.Math.Logic.{⊎_elim}
use mathlib.Core.List.{List, [], ◌∷◌, ◌++◌}
use Rattle.std.proofs.Math.Option.{Option, none, some}
use Rattle.game.specs.Game.{Rule, PushdownGame, rules_of}
use Rattle.game.specs.Outcome.{done}
use Rattle.game.specs.Questions.{bottom_last}
use Rattle.game.specs.Win.{Position, in_form, successor, in_target, is_abelard, Forces, Lost}
use Rattle.game.specs.ListLaws.{◌∈◌, test, clash}
use Rattle.game.specs.GoodGame.{Good}
use Rattle.table.specs.Table.{Entry, entries_of}
use Rattle.judge.specs.Worth.{automaton, worths, bound}
use Rattle.judge.proofs.Within.{none-some, exact, worth-within, within-worth}
use Rattle.judge.proofs.Target.{bound-zero}
use Rattle.judge.specs.PositionLaws.{Formed, form-parts, parts-form}
use Rattle.judge.specs.Verdict.{lost, verdict, judging}
use Rattle.judge.proofs.LostLaws.{none_or, verdict-none}
use Rattle.judge.proofs.LostField.{field-eloise, field-abelard}
use Rattle.judge.specs.Play.{Effect, rest, refuse, move, rule_numbered, playing, wanted, Play, after_effect, start}
use Rattle.judge.specs.Contest.{rule_of_field, turn_against, against, one_against, contest}
use Rattle.rounds.specs.Solving.{Solved, solving_words}
use Rattle.rounds.proofs.SolvingLaws.{SolvedAt}
use Rattle.rounds.proofs.Falling.{written}
use Rattle.rounds.proofs.Settled.{form-kept, forced}
use Rattle.rounds.proofs.PlayLaws.{numbered-in, number-finds}
use Rattle.rounds.proofs.PlayTheorem.{refusal-differs, move_same}
use Rattle.rounds.proofs.Solution.{solution, sound, closed, won-bound, entries-back, judged-over}
use Rattle.rounds.specs.StaysLost.{KeepsLost, Heard, EachHeard, StaysLost, ReportsLost, Contests}

-- what one number leaves: the state as it was, or where it moved to
left_by : (X : Position → Type 0) (x : Effect) (s : Play) → X s.position → ((to : Position) → x ≡ move to → X to) → X (after_effect x s).position
unfolding after_effect
left_by X rest s h k = h
left_by X refuse s h k = h
left_by X (move to) s h k = k to refl

module _ (g : PushdownGame) (good : Good g) (n : ℕ) (table : List Entry) (at : SolvedAt g n table) where
  inside : {p : ℕ} → p < g.control → p < g.states
  inside l = omega (arith, good.ranged.control)

  -- a position in form without a bound
  record Unbound (pos : Position) : Type 0 where
    formed : Formed g pos.state pos.stack
    none-there : bound g table pos.state pos.stack ≡ none

  abbrev HasBound : Position → Type 0
  HasBound pos = (b : ℕ) × (bound g table pos.state pos.stack ≡ some b)

  unbound-lost : (pos : Position) → Unbound pos → Lost g pos
  unbound-lost pos u w =
      let b = (won-bound g good n table at pos.state pos.stack u.formed).0 w in
      none-some (sym u.none-there ∙ b.1)

  lost-unbound : (pos : Position) → Formed g pos.state pos.stack → Lost g pos → Unbound pos
  lost-unbound pos f l =
      ⊎_elim (λ (e : bound g table pos.state pos.stack ≡ none). record { formed = f; none-there = e })
      (λ (b : HasBound pos). absurd (l ((won-bound g good n table at pos.state pos.stack f).1 b)))
      (none_or (bound g table pos.state pos.stack))

  unbound-outside : (pos : Position) → Unbound pos → in_target g pos ≡ false
  unbound-outside pos u =
      ⊎_elim
      (λ (t : in_target g pos ≡ true).
      absurd
      (none-some (sym u.none-there ∙ (bound-zero g table (sound g good n table at).holds pos (inside u.formed.state)).1 t)))
      (λ (t : in_target g pos ≡ false). t)
      (test (in_target g pos))

  -- no owner can force it into positions that have bounds: the table is settled
  unforced : (pos : Position) → Unbound pos → Forces g pos.state pos.stack HasBound → ⊥
  unforced pos u h =
      let A = automaton g table in
      let r = forced g good table (sound g good n table at).holds (closed g good n table at) HasBound
      (λ q v f b. (b.0, worth-within A v q b.0 (inside f.state) (exact b.1)))
      pos.state
      pos.stack
      u.formed
      h
      in
      none-some (sym u.none-there ∙ (within-worth A pos.stack pos.state r.0 (inside u.formed.state) r.1).is)

  -- Abelard's turn: some rule of his leads to a position without a bound, and the field names the lowest-numbered one
  losing : (p a : ℕ) (below : List ℕ) → Unbound (record { state = p; stack = a ∷ below }) → is_abelard g p ≡ true
      → (l : KeepsLost g table p a below) × Unbound (successor l.rule below)
  unfolding Forces
  losing p a below u o =
      let f = u.formed in
      ⊎_elim
      (λ x.
      let to : Unbound (successor x.rule below) =
      record {
        formed = form-kept g good p a below f x.rule x.there;
        none-there = x.unbound;
      }
      in (
        record {
          rule = x.rule;
          there = x.there;
          field = x.named;
          loses = unbound-lost (successor x.rule below) to;
          lower =
              λ s i l.
              (won-bound g good n table at s.to (written s ++ below) (form-kept g good p a below f s i)).1 (x.lower s i l);
        },
        to,
      ))
      (λ y.
      absurd (unforced (record { state = p; stack = a ∷ below }) u (inr (o, y.bounded))))
      (field-abelard g good table p a below o)

  -- Éloise's turn: every rule of hers does
  loses-too : (p a : ℕ) (below : List ℕ) → Unbound (record { state = p; stack = a ∷ below }) → is_abelard g p ≡ false
      → (r : Rule) → r ∈ rules_of g p a → Unbound (successor r below)
  unfolding Forces
  loses-too p a below u o r i =
      record {
        formed = form-kept g good p a below u.formed r i;
        none-there =
            ⊎_elim (λ e. e)
            (λ (b : HasBound (successor r below)).
            absurd (unforced (record { state = p; stack = a ∷ below }) u (inl (o, (r, i, b)))))
            (none_or (bound g table r.to (written r ++ below)));
      }

  -- what one number does at a position without a bound
  record Turned (pos : Position) (k : ℕ) : Type 0 where
    heard : Heard g table pos k
    keeps : (to : Position) → against g table pos k ≡ move to → Unbound to

  abelard-turned : (p a : ℕ) (below : List ℕ) (k : ℕ) → Unbound (record { state = p; stack = a ∷ below }) → is_abelard g p ≡ true
      → Turned (record { state = p; stack = a ∷ below }) k
  unfolding turn_against rule_of_field wanted playing
  abelard-turned p a below k u o =
      let l = losing p a below u o in
      let made : against g table (record { state = p; stack = a ∷ below }) k ≡ move (successor l.0.rule below) =
      rw (o, l.0.field, number-finds g good p a l.0.there)
      in
      record {
        heard =
            record {
              top = a;
              below = below;
              is = refl;
              abelards = λ q. (l.0, made);
              eloises = λ q. clash o q;
              others = λ q. clash o q;
            };
        keeps = λ to h. subst Unbound (move_same (sym made ∙ h)) l.1;
      }

  eloise-turned : (p a : ℕ) (below : List ℕ) (k : ℕ) → Unbound (record { state = p; stack = a ∷ below }) → is_abelard g p ≡ false
      → Turned (record { state = p; stack = a ∷ below }) k
  unfolding turn_against wanted playing
  eloise-turned p a below k u o =
      record {
        heard =
            record {
              top = a;
              below = below;
              is = refl;
              abelards = λ q. clash q o;
              eloises = λ q r i e. rw (o, sym e, number-finds g good p a i);
              others = λ q none_has. rw o (unnumbered (rule_numbered k (rules_of g p a)) refl none_has);
            };
        keeps = λ to h. by (rule_numbered k (rules_of g p a)) refl to (rw o at h);
      }
    where
      unnumbered : (x : Option Rule) → rule_numbered k (rules_of g p a) ≡ x → ((r : Rule) → r ∈ rules_of g p a → r.number ≡ k → ⊥)
          → playing below x ≡ refuse
      unnumbered none e h = refl
      unnumbered (some r) e h = let i = numbered-in k (rules_of g p a) e in absurd (h r i.0 i.1)

      by : (x : Option Rule) → rule_numbered k (rules_of g p a) ≡ x → (to : Position) → playing below x ≡ move to → Unbound to
      by none e to h = absurd (refusal-differs h)
      by (some r) e to h = subst Unbound (move_same h) (loses-too p a below u o r (numbered-in k (rules_of g p a) e).0)

  turned : (p : ℕ) (stack : List ℕ) (k : ℕ) → Unbound (record { state = p; stack = stack }) → Turned (record { state = p; stack = stack }) k
  unfolding bottom_last
  turned p [] k u = clash u.formed.bottom refl
  turned p (a ∷ below) k u =
      ⊎_elim (abelard-turned p a below k u) (eloise-turned p a below k u) (test (is_abelard g p))

  -- The whole list: each number is heard, and what is left has no bound.
  contested : (ns : List ℕ) (s : Play) → Unbound s.position → EachHeard g table s ns × Unbound (contest g table s ns).position
  unfolding contest EachHeard one_against
  contested [] s u = (tt, u)
  contested (k ∷ ns) s u =
      let t = turned s.position.state s.position.stack k u in
      let r = contested ns (one_against g table s k) (left_by Unbound (against g table s.position k) s u t.keeps) in
      ((t.heard, r.0), r.1)

  stays : (pos : Position) → in_form g pos ≡ true → Lost g pos → (numbers : List ℕ) → StaysLost g table pos numbers
  stays pos f l numbers =
      let r = contested numbers (start pos) (lost-unbound pos (form-parts g pos f) l) in
      let last = (contest g table (start pos) numbers).position in
      record {
        each = r.0;
        formed = parts-form g last.state last.stack r.1.formed;
        lost = unbound-lost last r.1;
        unbound = r.1.none-there;
        outside = unbound-outside last r.1;
      }

  told : (p a : ℕ) (below : List ℕ) → Unbound (record { state = p; stack = a ∷ below })
      → ReportsLost g table p a below (done (verdict g table p (a ∷ below)))
  told p a below u =
      let answer = verdict-none g table p a below (inside u.formed.state) u.none-there in
      record {
        abelards =
            λ o.
            let l = (losing p a below u o).0 in
            (l, ap done (answer ∙ ap lost l.field));
        eloises = λ o. ap done (answer ∙ ap lost (field-eloise g (automaton g table) p a (worths (automaton g table) below) o));
      }

pub stays-lost : (file : List ℕ) (table work : ℕ) (s : Solved) → solving_words file table work ≡ done s → Contests file s
stays-lost file table work s e =
    let r = solution file table work s e in
    let g = r.game in
    let same : entries_of s.words ≡ r.table =
    ap (λ (x : Solved). entries_of x.words) r.is ∙ entries-back g r.good r.lent r.table r.at
    in
    record {
      game = g;
      read = r.read;
      rules =
          λ p a below f l o.
          let pos : Position = record { state = p; stack = a ∷ below } in
          rw same (losing g r.good r.lent r.table r.at p a below
          (lost-unbound g r.good r.lent r.table r.at pos (form-parts g pos f) l) o).0;
      stays = λ pos f l numbers. rw same (stays g r.good r.lent r.table r.at pos f l numbers);
      reports =
          λ p a below f short l.
          let pos : Position = record { state = p; stack = a ∷ below } in
          let h = form-parts g pos f in
          let answer : judging file s.words (p ∷ a ∷ below) ≡ done (verdict g r.table p (a ∷ below)) =
          ap (λ (x : Solved). judging file x.words (p ∷ a ∷ below)) r.is
          ∙ judged-over g r.good r.lent r.table r.at file r.read r.form p (a ∷ below) h short
          in
          rw (same, answer)
          (told g r.good r.lent r.table r.at p a below
          (lost-unbound g r.good r.lent r.table r.at pos h l));
    }
