-- Laws of sets of elements: who is in the set of states, unions, order, and which sets of states are reached.
use Prim.Native.Nat.{ℕ, zero, suc, ◌+◌, ◌*◌, ◌-◌, ◌/◌, ◌%◌, ◌^◌, ◌<◌, ◌≤◌}
use native.Mathlib.Omega.{arith}
use Rattle.std.proofs.Common.{div-one, suc-mul, mul-le-mul_right, zero-mul, add-mul, mul_assoc, one-mul, add-zero, div-lt_iff_lt-mul, subst, ◌∙◌, ⊎_elim, pow-add, pow_pos, shr-shr, ltb-true, ltb-false, eqb-true}
use Rattle.std.proofs.Math.Nat.{pow-suc}
use Rattle.std.specs.Prelude.{◌≡◌, refl, Bool, true, false, List, [], ◌∷◌, length, get_or, eqb, ltb}
use Rattle.std.proofs.Math.Path.{sym, ap}
use Rattle.std.specs.Int.Bits.{bit_or, bit_and, or_block, or_mod, or_shifted, or_zero_r}
use Rattle.std.proofs.lemmas.Nat.{or_shr}
use Rattle.std.proofs.Math.Arith.{bin_ind}
use Rattle.std.specs.Int.Count.{count_trailing_zeros}
use Rattle.std.proofs.Math.Pow.{pow-lt}
use Rattle.std.proofs.lemmas.Bool.{eqb-false}
use Rattle.game.specs.Sets.{has, single, union}
use Rattle.game.specs.SetLaws.{union-has, left-union, right-union, union-below, none_has, single-has, has-single, member_of}
use Rattle.game.specs.LowestLaws.{lowest-of, cleared, cleared-falls}
use Rattle.game.specs.ListLaws.{test, clash}
use Rattle.unions.specs.Expand.{expand, Elements, Within}
use Rattle.unions.specs.UnionSteps.{Added}

-- the digits of a number and of its half
has-half : (x k : ℕ) → has x (suc k) ≡ has (x / 2) k
unfolding has
has-half x k = let e : 1 + k ≡ suc k = omega arith in sym (ap (λ (w : ℕ). eqb (w % 2) 1) (shr-shr x 1 k) ∙ ap (λ (i : ℕ). eqb (x / 2 ^ i % 2) 1) e)

has_last : (x : ℕ) → has x 0 ≡ eqb (x % 2) 1
unfolding has
has_last x = ap (λ (w : ℕ). eqb (w % 2) 1) (div-one x)

-- two sets with the same members are one
Alike : ℕ → Type 0
Alike a = (b : ℕ) → ((k : ℕ) → has a k ≡ has b k) → a ≡ b

last-same : (a b : ℕ) → has a 0 ≡ has b 0 → a % 2 ≡ b % 2
last-same a b h =
    let e : eqb (a % 2) 1 ≡ eqb (b % 2) 1 = sym (has_last a) ∙ h ∙ has_last b in
    ⊎_elim (λ (t : eqb (a % 2) 1 ≡ true). eqb-true (a % 2) 1 t ∙ sym (eqb-true (b % 2) 1 (sym e ∙ t)))
    (λ (t : eqb (a % 2) 1 ≡ false). omega (arith, eqb-false (a % 2) 1 t, eqb-false (b % 2) 1 (sym e ∙ t)))
    (test (eqb (a % 2) 1))

self-power : (b : ℕ) → b < 2 ^ b
self-power zero = omega arith
self-power (suc b) = omega (arith, self-power b, pow-suc 2 b)

alike-zero : Alike 0
unfolding Alike
alike-zero b h =
    ⊎_elim (λ (t : ltb 0 b ≡ true). let l = ltb-true 0 b t in let m = member_of b b (self-power b) l in clash m.2 (sym (h m.0) ∙ none_has m.0))
    (λ (t : ltb 0 b ≡ false). let l = ltb-false 0 b t in omega (arith, l))
    (test (ltb 0 b))

alike-step : (a : ℕ) → Alike (a / 2) → Alike a
unfolding Alike
alike-step a half b h =
    let halves : a / 2 ≡ b / 2 = half (b / 2) (λ k. sym (has-half a k) ∙ h (suc k) ∙ has-half b k) in
    omega (arith, halves, last-same a b (h 0))

pub alike : (a b : ℕ) → ((k : ℕ) → has a k ≡ has b k) → a ≡ b
unfolding Alike
alike a b h = bin_ind Alike alike-zero alike-step a b h

pub same_test : (a b : Bool) → (a ≡ true → b ≡ true) → (b ≡ true → a ≡ true) → a ≡ b
same_test true b there back = sym (there refl)
same_test false true there back = back refl
same_test false false there back = refl

pub expand-none : (el : List ℕ) → expand el 0 ≡ 0
unfolding expand
expand-none [] = refl
expand-none (s ∷ el) = omega (arith, expand-none el)

-- listed states ascend, and are at least t
abbrev Rising : List ℕ → Type 0
Rising el = (i j : ℕ) → i < j → j < length el → get_or el i 0 < get_or el j 0

tail-rises : (s : ℕ) (el : List ℕ) → Rising (s ∷ el) → Rising el
tail-rises s el r i j l m = r (suc i) (suc j) (omega arith) (omega arith)

head-least : (s : ℕ) (el : List ℕ) → Rising (s ∷ el) → (i : ℕ) → i < length el → suc s ≤ get_or el i 0
head-least s el r i l = r 0 (suc i) (omega arith) (omega arith)

-- a set of states from t on, as a multiple
rows : (t : ℕ) (el : List ℕ) → ((i : ℕ) → i < length el → t ≤ get_or el i 0) → (x : ℕ) → (a : ℕ) × (expand el x ≡ a * 2 ^ t)
unfolding expand
rows t [] least x = (0, sym (zero-mul (2 ^ t)))
rows t (s ∷ el) least x =
    let r = rows t el (λ i l. least (suc i) (omega arith)) (x / 2) in
    let p = power t s (least 0 (omega arith)) in
    (x % 2 * p.0 + r.0, rearranged (x % 2) p.0 r.0 (2 ^ t) (2 ^ s) (expand el (x / 2)) p.1 r.1)
  where
    power : (t s : ℕ) → t ≤ s → (a : ℕ) × (2 ^ s ≡ a * 2 ^ t)
    power t s l = (2 ^ (s - t), subst (λ (i : ℕ). 2 ^ i ≡ 2 ^ (s - t) * 2 ^ t) (omega arith) (pow-add 2 (s - t) t))

    rearranged : (b p r k w e : ℕ) → w ≡ p * k → e ≡ r * k → b * w + e ≡ (b * p + r) * k
    rearranged b p r k w e h i = rw (h, i, add-mul, mul_assoc)

pub or-times : (k a b : ℕ) → bit_or (a * 2 ^ k) (b * 2 ^ k) ≡ bit_or a b * 2 ^ k
or-times k a b =
    ap (λ (w : ℕ). bit_or w (b * 2 ^ k)) (sym (add-zero (a * 2 ^ k)))
    ∙ ap (bit_or (a * 2 ^ k + 0)) (sym (add-zero (b * 2 ^ k)))
    ∙ or_block k a b 0 0 (pow_pos k) (pow_pos k)
    ∙ add-zero (bit_or a b * 2 ^ k)

module _ (s : ℕ) (el : List ℕ) (r : Rising (s ∷ el)) where
  -- the first state in or out, and the others
  expand-step : (x : ℕ) → expand (s ∷ el) x ≡ union (expand el (x / 2)) (x % 2 * 2 ^ s)
  unfolding expand
  expand-step x =
      let a = rows (suc s) el (head-least s el r) (x / 2) in
      let small : x % 2 * 2 ^ s < 2 ^ suc s = omega (arith, digit-small (x % 2) (2 ^ s) (omega arith) (pow_pos s), pow-suc 2 s) in
      sym (ap (λ (w : ℕ). union w (x % 2 * 2 ^ s)) a.1 ∙ or_shifted a.0 (suc s) (x % 2 * 2 ^ s) small ∙ omega (arith, a.1))
    where
      digit-small : (b w : ℕ) → b < 2 → 0 < w → b * w < 2 * w
      digit-small zero w l m = omega arith
      digit-small (suc zero) w l m = omega arith
      digit-small (suc (suc b)) w l m = absurd (omega arith)

  first-in : (x k : ℕ) → has (x % 2 * 2 ^ s) k ≡ true → (k ≡ s) × (has x 0 ≡ true)
  first-in x k h =
      ⊎_elim
      (λ (t : eqb (x % 2) 1 ≡ true).
      let one = eqb-true (x % 2) 1 t in
      (has-single s k (ap (λ (w : ℕ). has w k) (sym (ap (λ (b : ℕ). b * 2 ^ s) one ∙ one-mul (2 ^ s))) ∙ h), has_last x ∙ t))
      (λ (t : eqb (x % 2) 1 ≡ false).
      let none : x % 2 ≡ 0 = omega (arith, eqb-false (x % 2) 1 t) in
      clash h (ap (λ (w : ℕ). has w k) (ap (λ (b : ℕ). b * 2 ^ s) none ∙ zero-mul (2 ^ s)) ∙ none_has k))
      (test (eqb (x % 2) 1))

  in-first : (x : ℕ) → has x 0 ≡ true → has (x % 2 * 2 ^ s) s ≡ true
  in-first x h =
      let one : x % 2 ≡ 1 = eqb-true (x % 2) 1 (sym (has_last x) ∙ h) in
      ap (λ (b : ℕ). has (b * 2 ^ s) s) one ∙ ap (λ (w : ℕ). has w s) (one-mul (2 ^ s)) ∙ single-has s

  union-step : (x y : ℕ) → expand el (union x y / 2) ≡ union (expand el (x / 2)) (expand el (y / 2)) → expand (s ∷ el) (union x y) ≡ union (expand (s ∷ el) x) (expand (s ∷ el) y)
  unfolding expand
  union-step x y later =
      let k = suc s in
      let a = rows k el (head-least s el r) (x / 2) in
      let b = rows k el (head-least s el r) (y / 2) in
      let p = x % 2 * 2 ^ s in
      let q = y % 2 * 2 ^ s in
      let block = or_block k a.0 b.0 p q (digit-below x) (digit-below y) in
      let digits : union x y % 2 ≡ bit_or (x % 2) (y % 2) = or_mod x y 1 in
      let sides : union (x % 2 * 2 ^ s + expand el (x / 2)) (y % 2 * 2 ^ s + expand el (y / 2)) ≡ union (a.0 * 2 ^ k + p) (b.0 * 2 ^ k + q) =
      ap (λ (w : ℕ). union w (y % 2 * 2 ^ s + expand el (y / 2))) (turned p (expand el (x / 2)) (a.0 * 2 ^ k) a.1)
      ∙ ap (union (a.0 * 2 ^ k + p)) (turned q (expand el (y / 2)) (b.0 * 2 ^ k) b.1) in
      let rest : expand el (union x y / 2) ≡ bit_or a.0 b.0 * 2 ^ k =
      later ∙ ap (λ (w : ℕ). union w (expand el (y / 2))) a.1 ∙ ap (union (a.0 * 2 ^ k)) b.1 ∙ or-times k a.0 b.0 in
      let first : bit_or (x % 2) (y % 2) * 2 ^ s ≡ bit_or p q = sym (or-times s (x % 2) (y % 2)) in
      sym (sides ∙ block ∙ sums (bit_or a.0 b.0 * 2 ^ k) (bit_or p q) (union x y % 2 * 2 ^ s) (expand el (union x y / 2)) rest (ap (λ (w : ℕ). w * 2 ^ s) digits ∙ first))
    where
      digit-below : (x : ℕ) → x % 2 * 2 ^ s < 2 ^ suc s
      digit-below x = omega (arith, small (x % 2) (2 ^ s) (omega arith) (pow_pos s), pow-suc 2 s)
        where
          small : (b w : ℕ) → b < 2 → 0 < w → b * w < 2 * w
          small zero w l m = omega arith
          small (suc zero) w l m = omega arith
          small (suc (suc b)) w l m = absurd (omega arith)

      turned : (p e a : ℕ) → e ≡ a → p + e ≡ a + p
      turned p e a h = omega arith

      sums : (hi lo d e : ℕ) → e ≡ hi → d ≡ lo → hi + lo ≡ d + e
      sums hi lo d e h i = omega arith

-- by the list of the elements' states
in-expand : (el : List ℕ) → Rising el → (x s : ℕ) → has (expand el x) s ≡ true → (i : ℕ) × (i < length el) × (get_or el i 0 ≡ s) × (has x i ≡ true)
unfolding expand
in-expand [] r x s h = clash h (none_has s)
in-expand (t ∷ el) r x s h =
    ⊎_elim
    (λ k.
    let q = in-expand el (tail-rises t el r) (x / 2) s k in
    (suc q.0, omega (arith, q.1), q.2, has-half x q.0 ∙ q.3))
    (λ k. let q = first-in t el r x s k in (0, omega arith, sym q.0, q.1))
    (union-has (expand el (x / 2)) (x % 2 * 2 ^ t) s (ap (λ (w : ℕ). has w s) (sym (expand-step t el r x)) ∙ h))

expand-in : (el : List ℕ) → Rising el → (x i : ℕ) → i < length el → has x i ≡ true → has (expand el x) (get_or el i 0) ≡ true
expand-in [] r x i l h = absurd (omega arith)
expand-in (t ∷ el) r x zero l h = ap (λ (w : ℕ). has w t) (expand-step t el r x) ∙ right-union (expand el (x / 2)) (x % 2 * 2 ^ t) t (in-first t el r x h)
expand-in (t ∷ el) r x (suc i) l h =
    ap (λ (w : ℕ). has w (get_or el i 0)) (expand-step t el r x)
    ∙ left-union (expand el (x / 2)) (x % 2 * 2 ^ t) (get_or el i 0) (expand-in el (tail-rises t el r) (x / 2) i (omega arith) (sym (has-half x i) ∙ h))

of-union : (el : List ℕ) → Rising el → (x y : ℕ) → expand el (union x y) ≡ union (expand el x) (expand el y)
unfolding expand
of-union [] r x y = sym (or_zero_r 0)
of-union (t ∷ el) r x y =
    union-step t el r x y (ap (expand el) (half x y) ∙ of-union el (tail-rises t el r) (x / 2) (y / 2))
  where
    half : (x y : ℕ) → union x y / 2 ≡ union (x / 2) (y / 2)
    half x y = or_shr x y 1

of-single : (el : List ℕ) (i : ℕ) → i < length el → expand el (2 ^ i) ≡ 2 ^ get_or el i 0
unfolding expand
of-single [] i l = absurd (omega arith)
of-single (t ∷ el) zero l = omega (arith, expand-none el)
of-single (t ∷ el) (suc i) l =
    let even : 2 ^ suc i % 2 ≡ 0 = omega (arith, pow-suc 2 i) in
    let half : 2 ^ suc i / 2 ≡ 2 ^ i = omega (arith, pow-suc 2 i) in
    ap (λ (d : ℕ). d * 2 ^ t + expand el (2 ^ suc i / 2)) even ∙ zero-times (2 ^ t) (expand el (2 ^ suc i / 2)) ∙ ap (expand el) half ∙ of-single el i (omega arith)
  where
    zero-times : (k e : ℕ) → 0 * k + e ≡ e
    zero-times k e = omega (arith, zero-mul k)

of-less : (el : List ℕ) → Rising el → (x y : ℕ) → x < y → y < 2 ^ length el → expand el x < expand el y
unfolding expand
of-less [] r x y l m = absurd (omega arith)
of-less (t ∷ el) r x y l m =
    ⊎_elim
    (λ (u : ltb (x / 2) (y / 2) ≡ true).
    let a = rows (suc t) el (head-least t el r) (x / 2) in
    let b = rows (suc t) el (head-least t el r) (y / 2) in
    let later = of-less el (tail-rises t el r) (x / 2) (y / 2) (ltb-true (x / 2) (y / 2) u) (omega (arith, pow-suc 2 (length el))) in
    far (x % 2) (y % 2) (2 ^ t) (expand el (x / 2)) (expand el (y / 2)) (omega arith)
    (gap a.0 b.0 (2 ^ suc t) (expand el (x / 2)) (expand el (y / 2)) a.1 b.1 later)
    (pow-suc 2 t) (pow_pos t))
    (λ (u : ltb (x / 2) (y / 2) ≡ false).
    let no_less = ltb-false (x / 2) (y / 2) u in
    let same : x / 2 ≡ y / 2 = omega (arith, no_less) in
    let zero : x % 2 ≡ 0 = omega (arith, no_less) in
    let one : y % 2 ≡ 1 = omega (arith, no_less) in
    rw (same, zero, one) (omega (arith, pow_pos t, zero-mul (2 ^ t), one-mul (2 ^ t))))
    (test (ltb (x / 2) (y / 2)))
  where
    gap : (a b k e f : ℕ) → e ≡ a * k → f ≡ b * k → e < f → e + k ≤ f
    gap a b k e f p q l =
        ⊎_elim (λ (u : ltb a b ≡ true). rw (p, q) (subst (λ (w : ℕ). w ≤ b * k) (suc-mul a k) (mul-le-mul_right k (ltb-true a b u))))
        (λ (u : ltb a b ≡ false). absurd (omega (arith, mul-le-mul_right k (ltb-false a b u))))
        (test (ltb a b))

    far : (d c w e f : ℕ) → d < 2 → {k : ℕ} → e + k ≤ f → k ≡ w * 2 → 0 < w → d * w + e < c * w + f
    far zero c w e f l h q m = omega (arith, zero-mul w)
    far (suc zero) c w e f l h q m = omega (arith, one-mul w)
    far (suc (suc d)) c w e f l h q m = absurd (omega arith)

-- a set whose states are all below a number is below its power
has-shr : (x j k : ℕ) → has (x / 2 ^ j) k ≡ has x (j + k)
unfolding has
has-shr x j k = ap (λ (d : ℕ). eqb (d % 2) 1) (shr-shr x j k)

below_power : (k z : ℕ) → ((s : ℕ) → has z s ≡ true → s < k) → z < 2 ^ k
below_power k z all =
    ⊎_elim (λ (t : ltb z (2 ^ k) ≡ true). ltb-true z (2 ^ k) t)
    (λ (t : ltb z (2 ^ k) ≡ false).
    let big = ltb-false z (2 ^ k) t in
    let more : z / 2 ^ k < 1 → ⊥ = λ i. (omega (arith, (div-lt_iff_lt-mul (pow_pos k)).0 i, big)) in
    let some : 0 < z / 2 ^ k = omega (arith, more) in
    let m = member_of (z / 2 ^ k) (z / 2 ^ k) (self-power (z / 2 ^ k)) some in
    absurd (let l = all (k + m.0) (sym (has-shr z k m.0) ∙ m.2) in omega (arith, l)))
    (test (ltb z (2 ^ k)))

module _ (el : List ℕ) (states : ℕ) (ok : Elements el states) where
  -- a state of the set is that of an element of it, and the other way round
  pub expand-has : (x s : ℕ) → has (expand el x) s ≡ true → (i : ℕ) × (i < length el) × (get_or el i 0 ≡ s) × (has x i ≡ true)
  expand-has x s h = in-expand el ok.rising x s h

  pub has-expand : (x i : ℕ) → i < length el → has x i ≡ true → has (expand el x) (get_or el i 0) ≡ true
  has-expand x i l h = expand-in el ok.rising x i l h

  pub expand-union : (x y : ℕ) → expand el (union x y) ≡ union (expand el x) (expand el y)
  expand-union x y = of-union el ok.rising x y

  pub expand-single : (i : ℕ) → i < length el → expand el (2 ^ i) ≡ single (get_or el i 0)
  expand-single i l = of-single el i l

  pub expand-small : (x : ℕ) → expand el x < 2 ^ states
  expand-small x =
      below_power states (expand el x) (λ s h. let q = expand-has x s h in subst (λ (w : ℕ). w < states) q.2 (ok.small q.0 q.1))

  -- the order of sets is kept, so different sets of elements are different sets of states
  pub expand-less : (x y : ℕ) → x < y → y < 2 ^ length el → expand el x < expand el y
  expand-less x y l m = of-less el ok.rising x y l m

  pub expand-same : (x y : ℕ) → x < 2 ^ length el → y < 2 ^ length el → expand el x ≡ expand el y → x ≡ y
  expand-same x y l m e =
      ⊎_elim (λ (t : ltb x y ≡ true). absurd (omega (arith, e, expand-less x y (ltb-true x y t) m)))
      (λ (t : ltb x y ≡ false).
      ⊎_elim (λ (u : ltb y x ≡ true). absurd (omega (arith, e, expand-less y x (ltb-true y x u) l)))
      (λ (u : ltb y x ≡ false). omega (arith, ltb-false x y t, ltb-false y x u))
      (test (ltb y x)))
      (test (ltb x y))

  place-less : (i j : ℕ) → i < length el → j < length el → get_or el i 0 < get_or el j 0 → i < j
  place-less i j li lj h =
      ⊎_elim (λ (t : ltb i j ≡ true). ltb-true i j t)
      (λ (t : ltb i j ≡ false).
      ⊎_elim (λ (u : ltb j i ≡ true). absurd (omega (arith, h, ok.rising j i (ltb-true j i u) li)))
      (λ (u : ltb j i ≡ false). let e : i ≡ j = omega (arith, ltb-false i j t, ltb-false j i u) in absurd (omega (arith, h, ap (λ (k : ℕ). get_or el k 0) e)))
      (test (ltb j i)))
      (test (ltb i j))

  pub place_same : (i j : ℕ) → i < length el → j < length el → get_or el i 0 ≡ get_or el j 0 → i ≡ j
  place_same i j li lj h =
      ⊎_elim (λ (t : ltb i j ≡ true). absurd (omega (arith, h, ok.rising i j (ltb-true i j t) lj)))
      (λ (t : ltb i j ≡ false).
      ⊎_elim (λ (u : ltb j i ≡ true). absurd (omega (arith, h, ok.rising j i (ltb-true j i u) li)))
      (λ (u : ltb j i ≡ false). omega (arith, ltb-false i j t, ltb-false j i u))
      (test (ltb j i)))
      (test (ltb i j))

  -- an element below all of a set more is a state below all of its states more
  pub expand-added : (z i y : ℕ) → i < length el → Added (length el) z i y → Added states (expand el z) (get_or el i 0) (expand el y)
  expand-added z i y l a =
      record {
        small = expand-small y;
        on = has-expand y i l a.on;
        off = absent z (get_or el i 0) (λ j lj e. ap (has z) (place_same j i lj l e) ∙ a.off);
        above =
            λ k m.
            same_test (has (expand el y) k) (has (expand el z) k)
            (λ h.
            let q = expand-has y k h in
            let up = place-less i q.0 l q.1 (omega (arith, q.2)) in
            subst (λ (w : ℕ). has (expand el z) w ≡ true) q.2 (has-expand z q.0 q.1 (sym (a.above q.0 up) ∙ q.3)))
            (λ h.
            let q = expand-has z k h in
            let up = place-less i q.0 l q.1 (omega (arith, q.2)) in
            subst (λ (w : ℕ). has (expand el y) w ≡ true) q.2 (has-expand y q.0 q.1 (a.above q.0 up ∙ q.3)));
        low = λ k m. absent y k (λ j lj e. a.low j (place-less j i lj l (omega (arith, e))));
        none = λ k m. absent z k (λ j lj e. a.none j (place-less j i lj l (omega (arith, e))));
      }
    where
      absent : (x s : ℕ) → ((j : ℕ) → j < length el → get_or el j 0 ≡ s → has x j ≡ false) → has (expand el x) s ≡ false
      absent x s none =
          ⊎_elim (λ (t : has (expand el x) s ≡ true). let q = expand-has x s t in clash q.3 (none q.0 q.1 q.2))
          (λ (t : has (expand el x) s ≡ false). t)
          (test (has (expand el x) s))

  -- a set whose states are all listed is reached
  pub expand-onto : (z : ℕ) → ((s : ℕ) → has z s ≡ true → (i : ℕ) × (i < length el) × (get_or el i 0 ≡ s)) → Within el z
  expand-onto z all = go z z (omega arith) all
    where
      go : (fuel z : ℕ) → z ≤ fuel → ((s : ℕ) → has z s ≡ true → (i : ℕ) × (i < length el) × (get_or el i 0 ≡ s)) → Within el z
      go zero z l all = (0, pow_pos (length el), omega (arith, expand-none el))
      go (suc fuel) z l all =
          ⊎_elim
          (λ (t : ltb 0 z ≡ true).
          let some = ltb-true 0 z t in
          let low = lowest-of z z some (self-power z) in
          let s = count_trailing_zeros z z in
          let c = cleared s z some low.member low.below in
          let rest = bit_and z (z - 1) in
          let later = go fuel rest (omega (arith, cleared-falls z some)) (λ k h. all k (sym (c.kept k (λ e. clash h (ap (has rest) e ∙ c.gone))) ∙ h)) in
          let q = all s low.member in
          let whole : z ≡ union rest (2 ^ s) =
          alike z (union rest (2 ^ s))
          (λ k.
          same_test (has z k) (has (union rest (2 ^ s)) k)
          (λ h.
          ⊎_elim (λ (u : eqb k s ≡ true). subst (λ (w : ℕ). has (union rest (2 ^ s)) w ≡ true) (sym (eqb-true k s u)) (right-union rest (2 ^ s) s (single-has s)))
          (λ (u : eqb k s ≡ false). left-union rest (2 ^ s) k (c.kept k (eqb-false k s u) ∙ h))
          (test (eqb k s)))
          (λ h.
          ⊎_elim (λ r. sym (c.kept k (λ e. clash r (ap (has rest) e ∙ c.gone))) ∙ r)
          (λ r. subst (λ (w : ℕ). has z w ≡ true) (sym (has-single s k r)) low.member)
          (union-has rest (2 ^ s) k h))) in (
            union later.0 (2 ^ q.0),
            union-below (length el) later.0 (2 ^ q.0) later.1 (pow-lt q.1),
            whole ∙ ap (λ (w : ℕ). union w (2 ^ s)) later.2 ∙ ap (union (expand el later.0)) (sym (expand-single q.0 q.1 ∙ ap (λ (w : ℕ). 2 ^ w) q.2)) ∙ sym (expand-union later.0 (2 ^ q.0)),
          ))
          (λ (t : ltb 0 z ≡ false). let none = ltb-false 0 z t in (0, pow_pos (length el), omega (arith, none, expand-none el)))
          (test (ltb 0 z))
