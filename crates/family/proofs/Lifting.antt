-- Every set of a word united with set x by the masks of x.
-- The step of state e adds to each set of the word the one with that state more, if x has it: the mask has only sets with the state, so
-- nothing is carried. So the word has unions of its sets with sets inside x only, after the states below e among them those with all of
-- x's states below e. Of these unions the ones that contain x are those with x.
use Prim.Native.Nat.{ℕ, ◌+◌, ◌*◌, ◌-◌, ◌/◌, ◌%◌, ◌^◌, ◌<◌}
use native.Mathlib.Omega.{arith}
use native.Mathlib.Nat.{mod-lt, mod-le, mod-one, mod-eq_of_lt, one-mul, add_comm, add-zero}
use mathlib.Core.Path.{◌≡◌, sym, ap, ◌∙◌}
use mathlib.Core.Logic.{⊎_elim}
use mathlib.Core.Bool.{true, false, ◌&&◌}
use mathlib.Core.List.{List}
use lib.ListN.{get_or}
use lib.Bits.{bit_and, bit_or, or_comm, or_self, or_zero_l, or_zero_r}
use lib.Pow.{pow_pos, mod-pow-add}
use lib.Dec.{eqb}
use borrow.Author.Tests.{eqb-true, eqb-false, eq-eqb}
use Rattle.game.specs.Sets.{has, union}
use Rattle.game.specs.SetLaws.{union-below, union-has, left-union, right-union, has_above}
use Rattle.game.specs.UnionLaws.{union_assoc}
use Rattle.game.specs.ListLaws.{test, both, conj}
use Rattle.family.specs.Family.{Lifts}
use Rattle.family.specs.Masks.{Masks}
use Rattle.game.specs.DigitLaws.{has-and}
use Rattle.family.proofs.Digits.{has-shifted, state-within, digit_set, digit-cleared, union-same, union_more}
use Rattle.family.proofs.Unions.{no-carry}

-- the states of x below e + 1
module _ (x e : ℕ) where
  digits : x % 2 ^ (e + 1) ≡ x / 2 ^ e % 2 * 2 ^ e + x % 2 ^ e
  digits = ap (λ (k : ℕ). x % 2 ^ k) (add_comm e 1) ∙ mod-pow-add x 1 e

  states-same : has x e ≡ false → x % 2 ^ (e + 1) ≡ x % 2 ^ e
  unfolding has
  states-same off =
      let none = eqb-false (x / 2 ^ e % 2) 1 off in
      let digit : x / 2 ^ e % 2 ≡ 0 = omega (arith, none) in
      omega (arith, digits ∙ ap (λ (d : ℕ). d * 2 ^ e + x % 2 ^ e) digit)

  states-more : has x e ≡ true → x % 2 ^ (e + 1) ≡ union (x % 2 ^ e) (2 ^ e)
  unfolding has
  states-more on =
      let digit = eqb-true (x / 2 ^ e % 2) 1 on in
      let small : x % 2 ^ e < 2 ^ e = mod-lt x (pow_pos e) in
      digits
      ∙ ap (λ (d : ℕ). d * 2 ^ e + x % 2 ^ e) digit
      ∙ ap (◌+ x % 2 ^ e) (one-mul (2 ^ e))
      ∙ add_comm (2 ^ e) (x % 2 ^ e)
      ∙ sym (union_more (x % 2 ^ e) e (has_above e (x % 2 ^ e) e small (omega arith)))

-- the word with the sets that have a state of the mask more
abbrev pub stepped : ℕ → ℕ → ℕ → ℕ
stepped e mask word = bit_or word (bit_and (word * 2 ^ (2 ^ e) % 2 ^ 64) mask)

pub record Lifting (word x e more : ℕ) : Type 0 where
  pub from : (s : ℕ) → s < 64 → has more s ≡ true → (y z : ℕ) × (y < 64) × (has word y ≡ true) × (union z x ≡ x) × (s ≡ union y z)
  pub into : (y : ℕ) → y < 64 → has word y ≡ true → has more (union y (x % 2 ^ e)) ≡ true

lifting-starts : (word x : ℕ) → Lifting word x 0 word
lifting-starts word x =
    record {
      from = λ s l h. (s, 0, l, h, or_zero_l x, sym (or_zero_r s));
      into = λ y l h. ap (λ (z : ℕ). has word (union y z)) (mod-one x) ∙ ap (has word) (or_zero_r y) ∙ h;
    }

module _ (word x e more : ℕ) (w : Lifting word x e more) (small : x < 64) (l : e < 6) (mask : ℕ) (sets : (s : ℕ) → s < 64 → has mask s ≡ (has x e && has s e)) where
  abbrev shifted : ℕ
  shifted = more * 2 ^ (2 ^ e) % 2 ^ 64

  abbrev after : ℕ
  after = stepped e mask more

  restored : (s : ℕ) → has s e ≡ true → s ≡ union (s - 2 ^ e) (2 ^ e)
  restored s on =
      let back : s - 2 ^ e + 2 ^ e ≡ s = omega (arith, state-within s e on) in
      sym (union_more (s - 2 ^ e) e (digit-cleared s e on) ∙ back)

  step_from : (s : ℕ) → s < 64 → has after s ≡ true → (y z : ℕ) × (y < 64) × (has word y ≡ true) × (union z x ≡ x) × (s ≡ union y z)
  step_from s m h =
      ⊎_elim (w.from s m)
      (λ u.
      let p = both (has shifted s) (has mask s) (sym (has-and shifted mask s) ∙ u) in
      let q = both (has x e) (has s e) (sym (sets s m) ∙ p.1) in
      let less : s - 2 ^ e < 64 = omega arith in
      let r = w.from (s - 2 ^ e) less (sym (has-shifted more (2 ^ e) s (state-within s e q.1) m) ∙ p.0) in (
        r.0,
        union r.1 (2 ^ e),
        r.2,
        r.3,
        union_assoc r.1 (2 ^ e) x ∙ ap (union r.1) (or_comm (2 ^ e) x ∙ union-same x e q.0) ∙ r.4,
        restored s q.1 ∙ ap (λ (t : ℕ). union t (2 ^ e)) r.5 ∙ union_assoc r.0 r.1 (2 ^ e),
      ))
      (union-has more (bit_and shifted mask) s h)

  kept : (s : ℕ) → has more s ≡ true → has after s ≡ true
  kept s h = left-union more (bit_and shifted mask) s h

  added : (t : ℕ) → t < 64 → has x e ≡ true → has more t ≡ true → has after (union t (2 ^ e)) ≡ true
  added t m on h =
      ⊎_elim (λ (u : has t e ≡ true). ap (has after) (union-same t e u) ∙ kept t h)
      (λ (u : has t e ≡ false).
      let back : t + 2 ^ e - 2 ^ e ≡ t = omega arith in
      let fits = no-carry t e l m u in
      ap (has after) (union_more t e u)
      ∙ right-union more (bit_and shifted mask) (t + 2 ^ e)
      (has-and shifted mask (t + 2 ^ e)
      ∙ conj
      (has-shifted more (2 ^ e) (t + 2 ^ e) (omega arith) fits ∙ ap (has more) back ∙ h)
      (sets (t + 2 ^ e) fits ∙ conj on (digit_set t e u))))
      (test (has t e))

  step-into : (y : ℕ) → y < 64 → has word y ≡ true → has after (union y (x % 2 ^ (e + 1))) ≡ true
  step-into y m h =
      let below : x % 2 ^ e < 64 = omega (arith, mod-le x (2 ^ e)) in
      ⊎_elim
      (λ (on : has x e ≡ true).
      ap (λ (z : ℕ). has after (union y z)) (states-more x e on)
      ∙ ap (has after) (sym (union_assoc y (x % 2 ^ e) (2 ^ e)))
      ∙ added (union y (x % 2 ^ e)) (union-below 6 y (x % 2 ^ e) m below) on (w.into y m h))
      (λ (off : has x e ≡ false).
      ap (λ (z : ℕ). has after (union y z)) (states-same x e off) ∙ kept (union y (x % 2 ^ e)) (w.into y m h))
      (test (has x e))

  lifting-more : Lifting word x (e + 1) after
  lifting-more = record { from = step_from; into = step-into }

lifting-ends : (word x more : ℕ) → Lifting word x 6 more → x < 64 → (over : ℕ) → ((s : ℕ) → s < 64 → has over s ≡ eqb (union s x) s) → Lifts word x (bit_and more over)
lifting-ends word x more w small over sets =
    record {
      from =
          λ s l h.
          let p = both (has more s) (has over s) (sym (has-and more over s) ∙ h) in
          let r = w.from s l p.0 in
          let contains = eqb-true (union s x) s (sym (sets s l) ∙ p.1) in (
            r.0,
            r.2,
            r.3,
            sym contains ∙ ap (λ (t : ℕ). union t x) r.5 ∙ union_assoc r.0 r.1 x ∙ ap (union r.0) r.4,
          );
      into =
          λ y l h.
          has-and more over (union y x)
          ∙ conj
          (ap (λ (z : ℕ). has more (union y z)) (sym (mod-eq_of_lt small)) ∙ w.into y l h)
          (sets (union y x) (union-below 6 y x l small)
          ∙ eq-eqb (union (union y x) x) (union y x) (union_assoc y x x ∙ ap (union y) (or_self x)));
    }

-- the six steps
module _ (table : List ℕ) (word x : ℕ) where
  abbrev mask : ℕ → ℕ
  mask e = get_or table (x * 8 + e) 0

  abbrev first : ℕ
  first = stepped 0 (get_or table (x * 8) 0) word

  pub lifts-by : x < 64 → Masks table x
      → Lifts word x (bit_and (stepped 5 (mask 5) (stepped 4 (mask 4) (stepped 3 (mask 3) (stepped 2 (mask 2) (stepped 1 (mask 1) first))))) (mask 6))
  lifts-by small m =
      let zero =
      lifting-more word x 0 word (lifting-starts word x) small (omega arith) (get_or table (x * 8) 0)
      (λ s l. ap (λ (i : ℕ). has (get_or table i 0) s) (sym (add-zero (x * 8))) ∙ m.step 0 s (omega arith) l)
      in
      let one = lifting-more word x 1 _ zero small (omega arith) (mask 1) (λ s l. m.step 1 s (omega arith) l) in
      let two = lifting-more word x 2 _ one small (omega arith) (mask 2) (λ s l. m.step 2 s (omega arith) l) in
      let three = lifting-more word x 3 _ two small (omega arith) (mask 3) (λ s l. m.step 3 s (omega arith) l) in
      let four = lifting-more word x 4 _ three small (omega arith) (mask 4) (λ s l. m.step 4 s (omega arith) l) in
      let five = lifting-more word x 5 _ four small (omega arith) (mask 5) (λ s l. m.step 5 s (omega arith) l) in
      lifting-ends word x _ five small (mask 6) m.over
