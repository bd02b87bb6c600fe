-- The elements of a set are taken from the highest down.
use Prim.Native.Nat.{ℕ, suc, ◌+◌, ◌*◌, ◌-◌, ◌/◌, ◌%◌, ◌^◌, ◌<◌, ◌≤◌}
use native.Mathlib.Omega.{arith}
use native.Mathlib.Nat.{div-lt_iff_lt-mul, mod-lt, mul-mod_left, mod-eq_of_lt, pow-suc}
use mathlib.Core.Path.{◌≡◌, sym, ap, subst, ◌∙◌}
use mathlib.Core.Logic.{⊎_elim}
use mathlib.Core.Bool.{true, false}
use lib.Pow.{pow_pos, shl-shr, shr-shr, split, mod-mod-pow}
use lib.Count.{count_leading_zeros, leading_top, count_trailing_zeros}
use lib.Dec.{eqb, ltb}
use borrow.Author.Tests.{eq-eqb, ltb-true, ltb-false}
use Rattle.game.specs.Sets.{has}
use Rattle.game.specs.SetLaws.{has-below, has-from, has_above}
use Rattle.game.specs.LowestLaws.{LowestOf, lowest-of}
use Rattle.game.specs.ListLaws.{test, clash}
use Rattle.rounds.specs.MemberLaws.{has-mod}
use Rattle.unions.specs.UnionSteps.{Added}
use Rattle.unions.specs.Finding.{Top}
use Rattle.unions.specs.PlaceLaws.{one_shifted}

-- the digits of a number without its last ones
has-cut : (x b k : ℕ) → b ≤ k → has (x / 2 ^ b * 2 ^ b) k ≡ has x k
unfolding has
has-cut x b k l =
    let e : k ≡ b + (k - b) = omega arith in
    ap (λ (d : ℕ). eqb (d % 2) 1)
    (ap (λ (i : ℕ). x / 2 ^ b * 2 ^ b / 2 ^ i) e
    ∙ sym (shr-shr (x / 2 ^ b * 2 ^ b) b (k - b))
    ∙ ap (λ (d : ℕ). d / 2 ^ (k - b)) (shl-shr (x / 2 ^ b) b)
    ∙ shr-shr x b (k - b)
    ∙ ap (λ (i : ℕ). x / 2 ^ i) (sym e))

cut-none : (x b k : ℕ) → k < b → has (x / 2 ^ b * 2 ^ b) k ≡ false
cut-none x b k l =
    ⊎_elim
    (λ (t : has (x / 2 ^ b * 2 ^ b) k ≡ true). absurd (let h = has-from b (x / 2 ^ b * 2 ^ b) k (mul-mod_left (x / 2 ^ b) (2 ^ b)) t in omega (arith, h)))
    (λ (t : has (x / 2 ^ b * 2 ^ b) k ≡ false). t)
    (test (has (x / 2 ^ b * 2 ^ b) k))

-- states of a set are taken from the highest down: the rest is what is below a digit
pub record Passing (x rest : ℕ) : Type 0 where
  pub digit : ℕ
  pub left : rest ≡ x % 2 ^ digit

pub passing : (x : ℕ) → x < 1024 → Passing x x
passing x l = record { digit = 10; left = sym (mod-eq_of_lt l) }

module _ (x rest : ℕ) (p : Passing x rest) (s : ℕ) (top : Top rest s) where
  abbrev b : ℕ
  b = p.digit

  pub before : s < b
  before = has-below b rest s (subst (λ (r : ℕ). r < 2 ^ b) (sym p.left) (mod-lt x (pow_pos b))) top.member

  pub rest-cut : rest % 2 ^ s ≡ x % 2 ^ s
  rest-cut =
      let e : b ≡ (b - s) + s = omega (arith, before) in
      ap (λ (r : ℕ). r % 2 ^ s) p.left ∙ ap (λ (i : ℕ). x % 2 ^ i % 2 ^ s) e ∙ mod-mod-pow x (b - s) s

  passing-on : Passing x (rest % 2 ^ s)
  passing-on = record { digit = s; left = rest-cut }

  z-is : x - rest ≡ x / 2 ^ b * 2 ^ b
  z-is = omega (arith, split x b, p.left)

  y-is : x - rest % 2 ^ s ≡ x / 2 ^ s * 2 ^ s
  y-is = omega (arith, split x s, rest-cut)

  x-has : (k : ℕ) → k < b → has x k ≡ has rest k
  x-has k l = sym (ap (λ (r : ℕ). has r k) p.left ∙ has-mod x b k l)

  adds-state : (states : ℕ) → x < 2 ^ states → Added states (x - rest) s (x - rest % 2 ^ s)
  adds-state states small =
      record {
        small = omega arith;
        on = y-has s (omega arith) ∙ x-has s before ∙ top.member;
        off = z-none s before;
        above =
            λ k l.
            ⊎_elim
            (λ (t : ltb k b ≡ true).
            let m = ltb-true k b t in
            y-has k (omega arith) ∙ x-has k m ∙ has_above (s + 1) rest k top.under (omega arith) ∙ sym (z-none k m))
            (λ (t : ltb k b ≡ false). y-has k (omega arith) ∙ sym (z-has k (ltb-false k b t)))
            (test (ltb k b));
        low = λ k l. ap (λ (w : ℕ). has w k) y-is ∙ cut-none x s k l;
        none = λ k l. z-none k (omega (arith, before));
      }
    where
      y-has : (k : ℕ) → s ≤ k → has (x - rest % 2 ^ s) k ≡ has x k
      y-has k l = ap (λ (w : ℕ). has w k) y-is ∙ has-cut x s k l

      z-has : (k : ℕ) → b ≤ k → has (x - rest) k ≡ has x k
      z-has k l = ap (λ (w : ℕ). has w k) z-is ∙ has-cut x b k l

      z-none : (k : ℕ) → k < b → has (x - rest) k ≡ false
      z-none k l = ap (λ (w : ℕ). has w k) z-is ∙ cut-none x b k l

pub passing-le : {x rest : ℕ} → Passing x rest → rest ≤ x
passing-le {x} {rest} p = omega (arith, split x p.digit, p.left)

falls_below : (rest s : ℕ) → Top rest s → rest % 2 ^ s < rest
falls_below rest s top =
    ⊎_elim
    (λ (t : ltb rest (2 ^ s) ≡ true). clash top.member (has_above s rest s (ltb-true rest (2 ^ s) t) (omega arith)))
    (λ (t : ltb rest (2 ^ s) ≡ false). omega (arith, ltb-false rest (2 ^ s) t, mod-lt rest (pow_pos s)))
    (test (ltb rest (2 ^ s)))

-- one turn, the power of 2 as the code has it
module _ (x rest s w : ℕ) (e : w ≡ 2 ^ s) (p : Passing x rest) (top : Top rest s) where
  pub turned : Passing x (rest % w)
  turned = subst (λ (v : ℕ). Passing x (rest % v)) (sym e) (passing-on x rest p s top)

  pub turned-less : rest % w < rest
  turned-less = subst (λ (v : ℕ). rest % v < rest) (sym e) (falls_below rest s top)

  pub turned-adds : (states : ℕ) → x < 2 ^ states → Added states (x - rest) s (x - rest % w)
  turned-adds states small = subst (λ (v : ℕ). Added states (x - rest) s (x - rest % v)) (sym e) (adds-state x rest p s top states small)

pub one-positive : (s : ℕ) → s < 10 → 0 < 1 * 2 ^ s % 18446744073709551616
one-positive s l = subst (λ (w : ℕ). 0 < w) (sym (one_shifted s l)) (pow_pos s)

digit : (x j : ℕ) → 2 ^ j ≤ x → x < 2 ^ suc j → has x j ≡ true
unfolding has
digit x j low high =
    let two : x / 2 ^ j < 2 = (div-lt_iff_lt-mul (pow_pos j)).1 (omega (arith, high, pow-suc 2 j)) in
    let more : x / 2 ^ j < 1 → ⊥ = λ i. (omega (arith, (div-lt_iff_lt-mul (pow_pos j)).0 i, low)) in
    eq-eqb (x / 2 ^ j % 2) 1 (omega (arith, two, more))

-- the highest digit of a number, and its lowest
pub top-is : (x : ℕ) → 0 < x → x < 1024 → (count_leading_zeros 64 x ≤ 63) × Top x (63 - count_leading_zeros 64 x)
top-is x some small =
    let t = leading_top 64 x some (omega arith) in
    let same : 63 - count_leading_zeros 64 x ≡ t.0 = omega (arith, t.1) in
    (omega (arith, t.1), rw same (top x t.0 t.2 t.3 small))
  where
    top : (x j : ℕ) → 2 ^ j ≤ x → x < 2 ^ suc j → x < 1024 → Top x j
    top x j low high small =
        let on = digit x j low high in
        let e : suc j ≡ j + 1 = omega arith in
        record { small = has-below 10 x j small on; member = on; under = subst (λ (i : ℕ). x < 2 ^ i) e high }

pub lowest-is : (x : ℕ) → 0 < x → x < 1024 → LowestOf 10 x (count_trailing_zeros 64 x)
lowest-is x some small =
    let l = lowest-of 64 x some (omega arith) in
    record { small = has-below 10 x (count_trailing_zeros 64 x) small l.member; member = l.member; below = l.below }
