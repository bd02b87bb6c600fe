-- The move in a game that was read, by the tests that the code makes.
use Prim.Native.Nat.{ℕ, zero, suc, ◌+◌, ◌*◌, ◌-◌, ◌<◌, ◌≤◌}
use mathlib.Core.Path.{◌≡◌, refl, sym, ap, ◌∙◌}
use mathlib.Core.Logic.{⊎_elim}
use mathlib.Core.Bool.{Bool, true, false, cond, not, ◌&&◌}
use mathlib.Core.List.{List, [], ◌∷◌, ◌++◌, Memᴰ}
use native.Mathlib.Omega.{arith}
use lib.ListN.{length, get_or, take, length-append}
use lib.Dec.{leb, eqb}
use borrow.Author.Tests.{le-leb, lt-leb, leb-true, eqb-true, eqb-false, not-true, not-false}
use Rattle.game.specs.Limits.{max_stack}
use Rattle.game.specs.Game.{Rule, PushdownGame, word_of, of_head, rules_of}
use Rattle.game.specs.Outcome.{done, refused}
use Rattle.game.specs.Stored.{rule_at, padded}
use Rattle.game.specs.StoredLaws.{no_rule, rule-stored}
use Rattle.game.specs.ListLaws.{test, both}
use Rattle.game.specs.Held.{Held, safe}
use Rattle.game.specs.Win.{Position, in_form, successor}
use Rattle.game.specs.declared.game.Sizes.{Sizes}
use Rattle.session.specs.Session.{session, top_first, bottom_first, position, session_in_form, numbered, fitting, replaced, turn, moving, Moved, moved, Playable}
use Rattle.session.specs.SessionLaws.{length-top_first, up-down, bottom_first-append}
use Rattle.session.specs.NumberedLaws.{numbered-past, numbered-at}

word-length : (count upper lower : ℕ) → count ≤ 2 → length (word_of count upper lower) ≡ count
unfolding word_of
word-length count upper lower l =
    ⊎_elim (λ (t : eqb count 0 ≡ true). rw t (sym (eqb-true count 0 t)))
    (λ (t : eqb count 0 ≡ false).
    ⊎_elim (λ (u : eqb count 1 ≡ true). rw (t, u) (sym (eqb-true count 1 u)))
    (λ (u : eqb count 1 ≡ false). rw (t, u) (let x = eqb-false count 0 t in let y = eqb-false count 1 u in two x y)) (test (eqb count 1)))
    (test (eqb count 0))
  where
    two : (count ≡ 0 → ⊥) → (count ≡ 1 → ⊥) → 2 ≡ count
    two x y = omega (arith, x, y)

-- Question 17 and the rule's word over the letters below the top, the rule stored at an offset.
module _ (rules : List ℕ) (at p : ℕ) (stack : List ℕ) (height : ℕ) (n : length stack ≡ 256) (y : Playable rules at height) where
  abbrev after : Position
  after = successor (rule_at rules at 0) (top_first (height - 1) stack)

  new-height : length after.stack ≡ (height - 1) + get_or rules (at + 3) 0
  new-height =
      omega (
        arith,
        length-append (word_of (get_or rules (at + 3) 0) (get_or rules (at + 4) 0) (get_or rules (at + 5) 0)) (top_first (height - 1) stack),
        word-length (get_or rules (at + 3) 0) (get_or rules (at + 4) 0) (get_or rules (at + 5) 0) y.word,
        length-top_first (height - 1) stack,
      )

  pub too-tall : 256 < (height - 1) + get_or rules (at + 3) 0 → moved (session p stack height) (refused 17 0) ≡ moved (session p stack height) (fitting after)
  unfolding fitting
  too-tall l = rw (lt-leb (length after.stack) 256 (omega (arith, new-height)))

  pub replaces : (height - 1) + get_or rules (at + 3) 0 ≤ 256 → (cells : List ℕ)
      → cells ≡ padded max_stack (take (height - 1) stack ++ bottom_first (word_of (get_or rules (at + 3) 0) (get_or rules (at + 4) 0) (get_or rules (at + 5) 0)))
      → ◌≡◌ {A = Moved} (record { answer = done tt; session = session (get_or rules (at + 2) 0) cells ((height - 1) + get_or rules (at + 3) 0) })
      (moved (session p stack height) (fitting after))
  unfolding fitting
  replaces l cells e =
      let word = word_of (get_or rules (at + 3) 0) (get_or rules (at + 4) 0) (get_or rules (at + 5) 0) in
      let laid : take (height - 1) stack ++ bottom_first word ≡ bottom_first after.stack =
      sym
      (bottom_first-append word (top_first (height - 1) stack)
      ∙ ap (λ (xs : List ℕ). xs ++ bottom_first word) (up-down (height - 1) stack (omega (arith, y.high)))) in
      rw (le-leb (length after.stack) 256 (omega (arith, new-height)))
      (λ k. record {
        answer = done tt;
        session = session (get_or rules (at + 2) 0) ((e ∙ ap (padded max_stack) laid) k) (sym new-height k);
      })

at_in : {A : Type 0} (d : A) (xs : List A) (k : ℕ) → k < length xs → Memᴰ (get_or xs k d) xs
at_in d [] k h = absurd (omega arith)
at_in d (x ∷ xs) zero h = Memᴰ.head refl
at_in d (x ∷ xs) (suc k) h = Memᴰ.tail (at_in d xs k (omega arith))

-- The tests of 14 and 16, where `found` is what 14 was answered.
module _ (g : PushdownGame) (sizes : Sizes) (rules : List ℕ) (h : Held g sizes rules) (p : ℕ) (stack : List ℕ) (height n : ℕ) (found : Bool)
    (asked : (k : PushdownGame) → sizes.control ≡ k.control → sizes.letters ≡ k.letters → found ≡ session_in_form k (session p stack height)) where
  abbrev before : Moved → Type 0
  before m = m ≡ moved (session p stack height) (moving g (session p stack height) n)

  answered : found ≡ session_in_form g (session p stack height)
  answered = asked g (ap (λ (x : Sizes). x.control) h.sized) (ap (λ (x : Sizes). x.letters) h.sized)

  pub out-of-form : not found ≡ true → before (moved (session p stack height) (refused 14 0))
  unfolding moving
  out-of-form e = rw (sym answered ∙ not-true found e)

  module _ (yes : not found ≡ false) where
    formed : session_in_form g (session p stack height) ≡ true
    formed = sym answered ∙ not-false found yes

    pub tall : (1 ≤ height) × (height ≤ 256)
    unfolding session_in_form
    tall =
        let parts = (both (leb 1 height && leb height 256) (in_form g (position (session p stack height))) formed).0 in
        let two = both (leb 1 height) (leb height 256) parts in
        (leb-true 1 height two.0, leb-true height 256 two.1)

    abbrev top : ℕ
    top = get_or stack (height - 1) 0

    enters : moving g (session p stack height) n ≡ replaced (top_first (height - 1) stack) (numbered n (rules_of g p top))
    unfolding moving turn top_first
    enters =
        let e : height ≡ suc (height - 1) = omega (arith, tall) in
        rw formed (ap (λ (k : ℕ). turn g p (top_first k stack) n) e)

    count : sizes.rulecount ≡ length g.rules
    count = ap (λ (x : Sizes). x.rulecount) h.sized

    pub no-rule : sizes.rulecount ≤ n → before (moved (session p stack height) (refused 16 0))
    unfolding rules_of replaced
    no-rule l =
        ap (moved (session p stack height))
        (sym
        (enters
        ∙ ap (replaced (top_first (height - 1) stack)) (numbered-past (of_head p top) n g.rules h.ranged.numbers (omega (arith, count)))))

    module _ (l : n < sizes.rulecount) where
      small : n < length g.rules
      small = omega (arith, count, l)

      abbrev rule : Rule
      rule = get_or g.rules n no_rule

      stored-rule : rule_at rules (n * 6) rule.number ≡ rule
      stored-rule = ap (λ (bytes : List ℕ). rule_at bytes (n * 6) rule.number) h.stands ∙ rule-stored n g.rules h.slack no_rule small

      given : (b : Bool) → of_head p top (rule_at rules (n * 6) 0) ≡ b → numbered n (rules_of g p top) ≡ cond b (done rule) (refused 16 0)
      unfolding rules_of of_head
      given b e =
          numbered-at (of_head p top) n g.rules h.ranged.numbers small
          ∙ ap (λ (x : Bool). cond x (done rule) (refused 16 0)) (sym (ap (of_head p top) stored-rule) ∙ e)

      pub other-head : of_head p top (rule_at rules (n * 6) 0) ≡ false → before (moved (session p stack height) (refused 16 0))
      unfolding replaced
      other-head e = ap (moved (session p stack height)) (sym (enters ∙ ap (replaced (top_first (height - 1) stack)) (given false e)))

      pub plays : of_head p top (rule_at rules (n * 6) 0) ≡ true
          → before (moved (session p stack height) (fitting (successor (rule_at rules (n * 6) 0) (top_first (height - 1) stack))))
      unfolding replaced
      plays e =
          ap (moved (session p stack height))
          (ap (λ (r : Rule). fitting (successor r (top_first (height - 1) stack))) stored-rule
          ∙ sym (enters ∙ ap (replaced (top_first (height - 1) stack)) (given true e)))

      pub playable : Playable rules (n * 6) height
      playable =
          let good = h.ranged.rule rule (at_in no_rule g.rules n small) in
          record {
            inside = omega (arith, (safe g sizes rules h).fit, l);
            word = rw (ap (λ (r : Rule). r.count) stored-rule) good.count;
            low = tall.0;
            high = tall.1;
          }
