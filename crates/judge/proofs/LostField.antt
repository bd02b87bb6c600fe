-- What a lost verdict says over any table that passes 13, solved or from elsewhere: the rule field names the lowest-numbered rule of
-- Abelard's head whose successor has no bound over that table, or it is 0.
use Rattle.std.specs.Prelude.{ℕ, suc, ◌<◌, ◌≡◌, refl, ◌⊎◌, Bool, true, false, cond, List, [], ◌∷◌, eqb}
use Rattle.std.proofs.Common.{arith, ◌∙◌, inr}
use Rattle.std.proofs.Math.Path.{sym, ap, subst}
use Rattle.std.proofs.Math.Logic.{inl, ⊎_elim}
use mathlib.Core.List.Memᴰ
use Rattle.std.proofs.Math.Option.{Option, none, some}
use Rattle.game.specs.Game.{Rule, PushdownGame, word_of, rules_of}
use Rattle.game.specs.Outcome.{done}
use Rattle.game.specs.OutcomeLaws.{done-same, after-done}
use Rattle.game.specs.Questions.{reading}
use Rattle.game.specs.Position.{form}
use Rattle.game.specs.Win.{is_abelard}
use Rattle.game.specs.ListLaws.{test}
use Rattle.game.specs.GoodGame.{Good}
use Rattle.game.specs.Reads.{good}
use Rattle.table.specs.Table.{Entry, entries_of, table_form}
use Rattle.table.specs.Pairwise.{Pairwise, Rising, head-rising}
use Rattle.judge.specs.Worth.{Automaton, automaton, is_none, worth_in, worths, step_worth, advice_at}
use Rattle.judge.proofs.Within.{worth-cons}
use Rattle.judge.proofs.Range.{worths-append}
use Rattle.judge.specs.PositionLaws.{in_bytes}
use Rattle.judge.specs.Verdict.{lost, target, to_move, successor_worth, losing_field, lost_field, lost_field_of, verdict_of, verdict_over, verdict, verdict_of_bytes, judging_game, judging}
use Rattle.judge.proofs.LostLaws.{none_or}
use Rattle.judge.specs.Judged.{judged, field_of}
use Rattle.std.specs.Prelude.{Option as Optional, Ok}
use Rattle.judge.specs.declared.verdict.Verdict.TheVariants.{Lost}
use Rattle.judge.specs.LostField.{bound_after, NamesLowest, NamesNone, Names, SaysLost}

-- the worth of a rule's successor is the bound of the position to which it leads
pub successor-bound : (g : PushdownGame) (table : List Entry) (rest : List ℕ) (r : Rule)
    → successor_worth (automaton g table) (worths (automaton g table) rest) r ≡ bound_after g table rest r
unfolding successor_worth
successor-bound g table rest r =
    let A = automaton g table in
    sym (ap (λ (ws : List (Option ℕ)). worth_in ws r.to) (worths-append A (word_of r.count r.above r.below) rest))

-- one rule more before the others, of a lower number: it has no worth after it, or it has one
module _ (after-rule : Rule → Option ℕ) (r : Rule) (rs : List Rule) where
  first-names : Rising (r ∷ rs) → after-rule r ≡ none → Names after-rule (r ∷ rs) (suc r.number)
  unfolding Pairwise
  first-names p e =
      inl
      (record {
        rule = r;
        there = Memᴰ.head refl;
        named = refl;
        unbound = e;
        lower =
            λ s i l.
            ⊎_elim (λ (same : s ≡ r). absurd (omega (arith, ap (λ (x : Rule). x.number) same))) (λ j. absurd (omega (arith, p.0 s j)))
            (Memᴰ.cases_cons i);
      })

  later-names : (b : ℕ) → after-rule r ≡ some b → {field : ℕ} → Names after-rule rs field → Names after-rule (r ∷ rs) field
  later-names b e n =
      let own : (s : Rule) → s ≡ r → (c : ℕ) × (after-rule s ≡ some c) = λ s same. (b, ap after-rule same ∙ e) in
      ⊎_elim
      (λ (x : NamesLowest after-rule rs _).
      inl
      (record {
        rule = x.rule;
        there = Memᴰ.tail x.there;
        named = x.named;
        unbound = x.unbound;
        lower = λ s i l. ⊎_elim (own s) (λ j. x.lower s j l) (Memᴰ.cases_cons i);
      }))
      (λ (y : NamesNone after-rule rs _).
      inr (record { stays = y.stays; bounded = λ s i. ⊎_elim (own s) (y.bounded s) (Memᴰ.cases_cons i) }))
      n

-- The field of a list of rules that ascend by number names that rule, or none.
pub losing-is : (A : Automaton) (below : List (Option ℕ)) (rs : List Rule) → Rising rs → Names (successor_worth A below) rs (losing_field A below rs)
unfolding losing_field is_none Pairwise
losing-is A below [] p = inr (record { stays = refl; bounded = λ s i. absurd (Memᴰ.not-nil i) })
losing-is A below (r ∷ rs) p =
    ⊎_elim
    (λ (e : successor_worth A below r ≡ none). rw e (first-names (successor_worth A below) r rs p e))
    (λ (w : (b : ℕ) × (successor_worth A below r ≡ some b)).
    rw w.1 (later-names (successor_worth A below) r rs w.0 w.1 (losing-is A below rs p.1)))
    (none_or (successor_worth A below r))

-- The field of a lost position of Éloise's is 0.
pub field-eloise : (g : PushdownGame) (A : Automaton) (p a : ℕ) (below : List (Option ℕ)) → is_abelard g p ≡ false → lost_field g A p a below ≡ 0
unfolding lost_field
field-eloise g A p a below o = rw o

-- what is said of each rule, in other words
names-by : (f h : Rule → Option ℕ) → ((r : Rule) → f r ≡ h r) → (rs : List Rule) (field : ℕ) → Names f rs field → Names h rs field
names-by f h same rs field (inl x) =
    inl
    (record {
      rule = x.rule;
      there = x.there;
      named = x.named;
      unbound = sym (same x.rule) ∙ x.unbound;
      lower = λ s i l. let w = x.lower s i l in (w.0, sym (same s) ∙ w.1);
    })
names-by f h same rs field (inr y) =
    inr (record { stays = y.stays; bounded = λ s i. let w = y.bounded s i in (w.0, sym (same s) ∙ w.1) })

-- That of Abelard's names the lowest-numbered rule of the head whose successor has no bound, or none; at any height.
pub field-abelard : (g : PushdownGame) → Good g → (table : List Entry) (p a : ℕ) (rest : List ℕ) → is_abelard g p ≡ true
    → Names (bound_after g table rest) (rules_of g p a) (lost_field_of g table p a rest)
unfolding lost_field
field-abelard g well table p a rest o =
    let A = automaton g table in
    names-by (successor_worth A (worths A rest)) (bound_after g table rest) (successor-bound g table rest) (rules_of g p a)
    (lost_field_of g table p a rest)
    (rw o (losing-is A (worths A rest) (rules_of g p a) (head-rising g well p a)))

-- a lost verdict is that of no bound
lost-told : (abelards : Bool) (field : ℕ) (rule x : Option ℕ) (n : ℕ) → verdict_of abelards field rule x ≡ lost n → (x ≡ none) × (field ≡ n)
unfolding verdict_of to_move
lost-told abelards field rule none n e = (refl, cc)
lost-told abelards field rule (some b) n e = absurd (moved abelards (test (eqb b 0)) e)
  where
    moved : (o : Bool) → (eqb b 0 ≡ true) ⊎ (eqb b 0 ≡ false) → cond (eqb b 0) target (to_move o rule b) ≡ lost n → ⊥
    moved o (inl t) d = let f : target ≡ lost n = rw t at d in let z : ◌≡◌ {A = ℕ} 0 1 = cc in omega arith
    moved true (inr t) d = let f = rw t at d in let z : ◌≡◌ {A = ℕ} 0 1 = cc in omega arith
    moved false (inr t) d = let f = rw t at d in let z : ◌≡◌ {A = ℕ} 0 1 = cc in omega arith

module _ (file words : List ℕ) (p a : ℕ) (rest : List ℕ) where
  pub judged-lost : (field : ℕ) → judging file words (p ∷ a ∷ rest) ≡ done (lost field) → SaysLost file words p a rest field
  unfolding judging judging_game verdict_of_bytes verdict verdict_over
  judged-lost field e =
      let r = after-done (reading file) (λ g. judging_game g words (p ∷ a ∷ rest)) e in
      let g = r.0 in
      let table = entries_of words in
      let A = automaton g table in
      let t = after-done (table_form g words) _ r.2 in
      let f = after-done (form g.control g.letters (p ∷ a ∷ rest)) _ t.2 in
      let below = worths A rest in
      let x = step_worth A below p a in
      let v = lost-told (is_abelard g p) (lost_field g A p a below) (advice_at A below p a x) x field (done-same f.2) in
      let well = good file g r.1 in
      let there : p < g.states = omega (arith, (in_bytes g.control g.letters (p ∷ a ∷ rest) f.1).state, well.ranged.control) in
      record {
        game = g;
        read = r.1;
        unbound = worth-cons A a rest p there ∙ v.0;
        abelards = λ o. subst (Names (bound_after g table rest) (rules_of g p a)) v.1 (field-abelard g well table p a rest o);
        eloises = λ o. sym v.1 ∙ field-eloise g A p a below o;
      }

  -- of whatever keeps the promise of `judge`
  pub returned-lost : (rule : Optional ℕ) → judged (Ok (Lost rule)) ≡ judging file words (p ∷ a ∷ rest) → SaysLost file words p a rest (field_of rule)
  returned-lost rule e = judged-lost (field_of rule) (sym e)
