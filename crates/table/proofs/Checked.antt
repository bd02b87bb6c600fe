-- Question 13 of one entry, by the tests that the code makes.
use Prim.Native.Nat.{ℕ, ◌*◌, ◌-◌, ◌/◌, ◌%◌, ◌^◌, ◌<◌, ◌≤◌}
use mathlib.Core.Path.{◌≡◌, refl, sym, ap, ◌∙◌}
use mathlib.Core.Bool.{Bool, true, false, cond, not, ◌&&◌}
use mathlib.Core.List.{List}
use native.Mathlib.Omega.{arith}
use native.Mathlib.Nat.{div-eq_of_lt}
use lib.ListN.{length, get_or}
use lib.Dec.{ltb, eqb}
use borrow.Author.Tests.{lt-ltb, le-ltb, eq-eqb}
use Rattle.game.specs.Sets.{has, within}
use Rattle.game.specs.Game.{PushdownGame, of_head, rules_of}
use Rattle.game.specs.Stored.{rule_at, sizes_of}
use Rattle.game.specs.StoredLaws.{no_rule, rule-stored}
use Rattle.game.specs.NumberLaws.{none-past, one_at}
use Rattle.game.specs.Held.{Held}
use Rattle.game.specs.declared.game.Sizes.{Sizes}
use Rattle.table.specs.Table.{Entry, is_eloise, is_rule_of, birthdate_in_form, rule_in_form, entry_in_form}

-- a test on numbers that stand for others
pub at_least : {x y u v : ℕ} → x ≡ u → y ≡ v → x ≤ y → ltb v u ≡ false
at_least {x} {y} {u} {v} p q h = le-ltb v u (omega arith)

pub under : {x y u v : ℕ} → x ≡ u → y ≡ v → y < x → ltb v u ≡ true
under {x} {y} {u} {v} p q h = lt-ltb v u (omega arith)

-- no state from `high` up, as the reader's test has it
pub within-high : (high set : ℕ) → within 0 high set ≡ eqb (set / 2 ^ high) 0
unfolding within
within-high high set = rw (eq-eqb (set % 1) 0 (omega arith))

-- no state below `low`
pub within_low : (low set : ℕ) → set < 2 ^ 32 → within low 32 set ≡ eqb (set % 2 ^ low) 0
unfolding within
within_low low set h = rw (div-eq_of_lt h) (second (eqb (set % 2 ^ low) 0))
  where
    second : (b : Bool) → (b && true) ≡ b
    second true = refl
    second false = refl

-- an entry's form by its six parts
pub by_parts : (g : PushdownGame) (e : Entry) {a b c d f k : Bool} → ltb e.state g.states ≡ a → ltb e.letter g.letters ≡ b → not (eqb e.set 0) ≡ c → eqb (e.set / 2 ^ g.states) 0 ≡ d → birthdate_in_form g.control e.state e.set e.birthdate ≡ f → rule_in_form g e.state e.letter e.birthdate e.rule ≡ k → (a && b && c && d && f && k) ≡ entry_in_form g e
unfolding entry_in_form
by_parts g e p q r s t u = rw (p, q, r, s, t, u)

-- the rule field's form by its parts: born in a round, a control state, Abelard's, not 0, named
pub rule-by-parts : (g : PushdownGame) (state letter birthdate rule : ℕ) {a b c d : Bool} → eqb birthdate 0 ≡ a → ltb state g.control ≡ b → has g.abelard state ≡ c → eqb rule 0 ≡ d → cond (not a && (b && not c)) (not d && is_rule_of g state letter (rule - 1)) d ≡ rule_in_form g state letter birthdate rule
unfolding rule_in_form is_eloise
rule-by-parts g state letter birthdate rule p q r s = rw (p, q, r, s)

module _ (g : PushdownGame) (sizes : Sizes) (rules : List ℕ) (rulecount : ℕ) (same : sizes.rulecount ≡ rulecount) (h : Held g sizes rules) (p a n : ℕ) where
  count : rulecount ≡ length g.rules
  count = sym same ∙ ap (λ (x : Sizes). x.rulecount) h.sized

  -- a number that no rule has
  pub not-numbered : rulecount ≤ n → false ≡ is_rule_of g p a n
  unfolding is_rule_of rules_of
  not-numbered l = sym (none-past (of_head p a) 0 n g.rules h.ranged.numbers (omega (arith, count)))

  -- the rule of a number stands at that place
  pub numbered : n < rulecount → (r : Bool) → r ≡ of_head p a (rule_at rules (n * 6) 0) → r ≡ is_rule_of g p a n
  unfolding is_rule_of rules_of of_head
  numbered l r e =
      let m : n < length g.rules = omega (arith, count) in
      e
      ∙ ap (λ (bytes : List ℕ). of_head p a (rule_at bytes (n * 6) (get_or g.rules n no_rule).number)) h.stands
      ∙ ap (of_head p a) (rule-stored n g.rules h.slack no_rule m)
      ∙ sym (one_at (of_head p a) 0 n n g.rules h.ranged.numbers m (omega arith))

-- the birthdate's test on numbers that stand for the entry's
pub dated : (g : PushdownGame) (sizes : Sizes) (set : ℕ) → sizes ≡ sizes_of g → (x state : ℕ) → x ≡ state → (y birthdate : ℕ) → y ≡ birthdate → (found answer : Bool) → found ≡ birthdate_in_form sizes.control x set y → found ≡ answer → birthdate_in_form g.control state set birthdate ≡ answer
dated g sizes set e x state p y birthdate q found answer f a =
    sym (ap (λ (s : Sizes). birthdate_in_form s.control state set birthdate) e)
    ∙ ap (λ (n : ℕ). birthdate_in_form sizes.control n set birthdate) (sym p)
    ∙ ap (λ (n : ℕ). birthdate_in_form sizes.control x set n) (sym q)
    ∙ sym f
    ∙ a

-- and the rule field's
pub ruled : (g : PushdownGame) (x state : ℕ) → x ≡ state → (y letter : ℕ) → y ≡ letter → (z birthdate : ℕ) → z ≡ birthdate → (found : Bool) (rule : ℕ) → found ≡ rule_in_form g x y z rule → found ≡ rule_in_form g state letter birthdate rule
ruled g x state p y letter q z birthdate r found rule f = rw (← p, ← q, ← r) f
