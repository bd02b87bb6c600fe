-- Question 9 by marks: the heads of stored rules marked one after another, and what the marks say at the end.
use Prim.Native.Nat.{ℕ, zero, suc, ◌+◌, ◌*◌, ◌/◌, ◌%◌, ◌<◌, ◌≤◌}
use native.Mathlib.Omega.{arith}
use mathlib.Core.Path.{◌≡◌, refl, sym, ap, ap₂, ◌∙◌}
use mathlib.Core.Logic.{inl, inr, ⊎_elim}
use mathlib.Core.Bool.{Bool, true, false, ◌&&◌}
use mathlib.Core.List.{List, ◌++◌}
use lib.ListN.{length, get_or, replicate}
use lib.Dec.{eqb}
use borrow.Author.Tests.{eqb-true, eq-eqb}
use Rattle.game.specs.Limits.{max_control, max_letters}
use Rattle.game.specs.Sets.{has}
use Rattle.game.specs.SetLaws.{none_has}
use Rattle.game.specs.ListLaws.{test, clash, both, conj, below_suc}
use Rattle.game.specs.Game.{Rule, of_head}
use Rattle.game.specs.Questions.{any, all_below, every_letter, every_head}
use Rattle.game.specs.Stored.{rule_bytes, rule_at}
use Rattle.game.specs.StoredLaws.{rules-hit, rules-none}
use Rattle.game.specs.Marks.{head_slot, marked, Marks, head_marked, letters_marked, HeadMarks, Headed}

-- two heads with one number are one
one-head : (p a q b : ℕ) → a < max_letters → b < max_letters → head_slot p a ≡ head_slot q b → (q ≡ p) × (b ≡ a)
one-head p a q b l m e = (omega arith, omega arith)

-- the bit of a head set
pub marks-head : (before after : List ℕ) (from top slot : ℕ) → top < max_letters → slot ≡ head_slot from top → Marks before slot after → HeadMarks before from top after
marks-head before after from top slot small e m =
    record {
      long = m.long;
      new = λ p a. ap (marked after) (sym e) ∙ m.new;
      old = λ p a h. m.old (head_slot p a) h;
      only = λ p a l h. ⊎_elim inl (λ (s : head_slot p a ≡ slot). inr (one-head p a from top l small (s ∙ e))) (m.only (head_slot p a) h);
    }

-- a rule of no head leaves the bits as they are
pub no-head : (heads : List ℕ) (from top : ℕ) → ((from < max_control) → (top < max_letters) → ⊥) → HeadMarks heads from top heads
no-head heads from top none =
    record { long = refl; new = λ l m. absurd (none l m); old = λ p a h. h; only = λ p a l h. inl h }

-- no bit is set in words of 0
zero_word : (n i : ℕ) → ◌≡◌ {A = ℕ} (get_or (replicate n 0) i 0) 0
zero_word zero i = refl
zero_word (suc n) zero = refl
zero_word (suc n) (suc i) = zero_word n i

zeros : (n s : ℕ) → marked (replicate n 0) s ≡ false
unfolding marked
zeros n s = ap (λ (z : ℕ). has z (s % 64)) (zero_word n (s / 64)) ∙ none_has (s % 64)

pub none-headed : (rules : List ℕ) → Headed rules 0 (replicate 24 0)
none-headed rules =
    record {
      long = refl;
      each = λ k p a l. absurd (omega arith);
      only = λ p a l h. clash h (zeros 24 (head_slot p a));
    }

-- one rule more
pub headed-more : (rules before after : List ℕ) (n : ℕ) → Headed rules n before → HeadMarks before (get_or rules (n * 6) 0) (get_or rules (n * 6 + 1) 0) after → Headed rules (n + 1) after
unfolding of_head
headed-more rules before after n h m =
    let from = get_or rules (n * 6) 0 in
    let top = get_or rules (n * 6 + 1) 0 in
    record {
      long = m.long ∙ h.long;
      each = λ k p a l t lp la.
          ⊎_elim (λ (i : k < n). m.old p a (h.each k p a i t lp la))
          (λ (i : k ≡ n).
          let s = both (eqb from p) (eqb top a) (ap (λ (j : ℕ). of_head p a (rule_at rules (j * 6) 0)) (sym i) ∙ t) in
          let ep = eqb-true from p s.0 in
          let ea = eqb-true top a s.1 in
          ap₂ (head_marked after) (sym ep) (sym ea) ∙ m.new (rw ep lp) (rw ea la))
          (below_suc {i = k} {n = n} (omega arith));
      only = λ p a l t.
          ⊎_elim
          (λ (o : head_marked before p a ≡ true). let r = h.only p a l o in (r.0, omega (arith, r.1), r.2))
          (λ (o : (from ≡ p) × (top ≡ a)). (n, omega arith, conj (eq-eqb from p o.0) (eq-eqb top a o.1)))
          (m.only p a l t);
    }

-- at the end of the rules
pub headed-all : (rules heads : List ℕ) (i n : ℕ) → i ≤ n → n ≤ i → Headed rules i heads → Headed rules n heads
headed-all rules heads i n l m h = let e : n ≡ i = omega arith in rw e h

-- the marks of every rule say which heads have one
head-told : (rules heads : List ℕ) (stored : ℕ) → Headed rules stored heads → (rs : List Rule) (t : List ℕ) → rules ≡ rule_bytes rs ++ t → stored ≡ length rs → (p a : ℕ) → p < max_control → a < max_letters → head_marked heads p a ≡ any (of_head p a) rs
unfolding of_head
head-told rules heads stored h rs t e n p a lp la =
    ⊎_elim
    (λ (m : head_marked heads p a ≡ true).
    let r = h.only p a la m in
    m ∙ rules-hit (of_head p a) (λ bytes at k. refl) rules stored r.0 r.1 r.2 rs t e n)
    (λ (m : head_marked heads p a ≡ false).
    m
    ∙ rules-none (of_head p a) (λ bytes at k. refl) rules stored
    (λ k l.
    ⊎_elim (λ (o : of_head p a (rule_at rules (k * 6) 0) ≡ true). clash (h.each k p a l o lp la) m)
    (λ (o : of_head p a (rule_at rules (k * 6) 0) ≡ false). o)
    (test (of_head p a (rule_at rules (k * 6) 0))))
    rs t e n)
    (test (head_marked heads p a))

-- tests that agree below n
all_below-same : (n : ℕ) (f g : ℕ → Bool) → ((i : ℕ) → i < n → f i ≡ g i) → all_below n f ≡ all_below n g
unfolding all_below
all_below-same zero f g h = refl
all_below-same (suc n) f g h = ap₂ ◌&&◌ (all_below-same n f g (λ i l. h i (omega arith))) (h n (omega arith))

-- question 9 by the marks
pub heads-told : (rules heads : List ℕ) (stored control letters : ℕ) → Headed rules stored heads → control ≤ max_control → letters ≤ max_letters → (rs : List Rule) (t : List ℕ) → rules ≡ rule_bytes rs ++ t → stored ≡ length rs → all_below control (letters_marked heads letters) ≡ every_head control letters rs
unfolding every_head every_letter
heads-told rules heads stored control letters h lc ll rs t e n =
    all_below-same control (letters_marked heads letters) (λ p. every_letter letters p rs)
    (λ p lp.
    all_below-same letters (head_marked heads p) (λ a. any (of_head p a) rs)
    (λ a la. head-told rules heads stored h rs t e n p a (omega arith) (omega arith)))
