-- Bits of words: of a shift, of the words of sets that have a state, and of a set with a state more.
use Prim.Native.Nat.{ℕ, ◌+◌, ◌*◌, ◌-◌, ◌/◌, ◌%◌, ◌^◌, ◌<◌, ◌≤◌}
use native.Mathlib.Omega.{arith}
use native.Mathlib.Nat.{one-mul, mod-eq_of_lt, add-mul-div_right}
use mathlib.Core.Path.{◌≡◌, refl, sym, ap, ◌∙◌}
use mathlib.Core.Logic.{⊎_elim}
use mathlib.Core.Bool.{Bool, true, false}
use lib.Bits.{bit_and, and_high, or_add_and}
use lib.Pow.{pow-lt, pow_pos, pow-add, field, shl-shr, shr-shr, mod-mod-pow}
use lib.Dec.{eqb, ltb}
use borrow.Author.Tests.{eqb-true, eqb-false, eq-eqb, ne_eqb, ltb-true, ltb-false}
use Rattle.game.specs.Sets.{has, union}
use Rattle.game.specs.SetLaws.{has_above}
use Rattle.game.specs.ListLaws.{all_below-at, test, clash}
use Rattle.game.specs.Questions.{all_below}

-- a word shifted within 64 bits
pub has-shifted : (w k s : ℕ) → k ≤ s → s < 64 → has (w * 2 ^ k % 2 ^ 64) s ≡ has w (s - k)
unfolding has
has-shifted w k s l m =
    let whole : 64 ≡ (63 - s) + 1 + s = omega arith in
    let sum : s ≡ k + (s - k) = omega arith in
    let n = w * 2 ^ k in
    ap (λ (z : ℕ). eqb (z % 2) 1)
    (ap (λ (z : ℕ). n % 2 ^ z / 2 ^ s) whole ∙ field n ((63 - s) + 1) s)
    ∙ ap (λ (z : ℕ). eqb z 1) (mod-mod-pow (n / 2 ^ s) (63 - s) 1)
    ∙ ap (λ (z : ℕ). eqb (z % 2) 1)
    (ap (λ (z : ℕ). n / 2 ^ z) sum ∙ sym (shr-shr n k (s - k)) ∙ ap (λ (z : ℕ). z / 2 ^ (s - k)) (shl-shr w k))

-- two tests that agree on every number below n
abbrev agree : Bool → Bool → Bool
agree true b = b
agree false true = false
agree false false = true

agreed : (a b : Bool) → agree a b ≡ true → a ≡ b
agreed true b e = sym e
agreed false true e = e
agreed false false e = refl

-- the sets below 64 that have a state, as a word
has-state : (word e : ℕ) → all_below 64 (λ s. agree (has word s) (has s e)) ≡ true → (s : ℕ) → s < 64 → has word s ≡ has s e
has-state word e all s l = agreed (has word s) (has s e) (all_below-at 64 (λ k. agree (has word k) (has k e)) all s l)

pub zero-sets : (s : ℕ) → s < 64 → has 12297829382473034410 s ≡ has s 0
unfolding has all_below
zero-sets = has-state 12297829382473034410 0 refl

pub one-sets : (s : ℕ) → s < 64 → has 14757395258967641292 s ≡ has s 1
unfolding has all_below
one-sets = has-state 14757395258967641292 1 refl

pub two-sets : (s : ℕ) → s < 64 → has 17361641481138401520 s ≡ has s 2
unfolding has all_below
two-sets = has-state 17361641481138401520 2 refl

pub three-sets : (s : ℕ) → s < 64 → has 18374966859414961920 s ≡ has s 3
unfolding has all_below
three-sets = has-state 18374966859414961920 3 refl

pub four-sets : (s : ℕ) → s < 64 → has 18446462603027742720 s ≡ has s 4
unfolding has all_below
four-sets = has-state 18446462603027742720 4 refl

pub five-sets : (s : ℕ) → s < 64 → has 18446744069414584320 s ≡ has s 5
unfolding has all_below
five-sets = has-state 18446744069414584320 5 refl

-- a set with a state is no smaller than the state's own
pub state-within : (s e : ℕ) → has s e ≡ true → 2 ^ e ≤ s
state-within s e h =
    ⊎_elim (λ (t : ltb s (2 ^ e) ≡ true). clash h (has_above e s e (ltb-true s (2 ^ e) t) (omega arith)))
    (λ (t : ltb s (2 ^ e) ≡ false). ltb-false s (2 ^ e) t)
    (test (ltb s (2 ^ e)))

-- one digit shifted within 64 bits
pub digit_shift : (j : ℕ) → j < 64 → 1 * 2 ^ j % 2 ^ 64 ≡ 2 ^ j
digit_shift j l = rw one-mul (mod-eq_of_lt (pow-lt {j = 64} l))

-- a number with a digit more or less
pub digit_set : (j k : ℕ) → has j k ≡ false → has (j + 2 ^ k) k ≡ true
unfolding has
digit_set j k off =
    let none = eqb-false (j / 2 ^ k % 2) 1 off in
    let sum : (j + 2 ^ k) / 2 ^ k ≡ j / 2 ^ k + 1 =
    ap (λ (x : ℕ). (j + x) / 2 ^ k) (sym (one-mul (2 ^ k))) ∙ add-mul-div_right j 1 (pow_pos k)
    in
    eq-eqb ((j + 2 ^ k) / 2 ^ k % 2) 1 (omega (arith, sum, none))

digit-carried : (j k : ℕ) → has j k ≡ true → has (j + 2 ^ k) k ≡ false
unfolding has
digit-carried j k on =
    let one = eqb-true (j / 2 ^ k % 2) 1 on in
    let sum : (j + 2 ^ k) / 2 ^ k ≡ j / 2 ^ k + 1 =
    ap (λ (x : ℕ). (j + x) / 2 ^ k) (sym (one-mul (2 ^ k))) ∙ add-mul-div_right j 1 (pow_pos k)
    in
    ne_eqb ((j + 2 ^ k) / 2 ^ k % 2) 1 (λ e. omega (arith, sum, one, e))

restored : (i k : ℕ) → has i k ≡ true → i ≡ (i - 2 ^ k) + 2 ^ k
restored i k on = omega (arith, state-within i k on)

pub digit-cleared : (i k : ℕ) → has i k ≡ true → has (i - 2 ^ k) k ≡ false
digit-cleared i k on =
    ⊎_elim
    (λ (t : has (i - 2 ^ k) k ≡ true).
    clash on
    (ap (λ (x : ℕ). has x k) (restored i k on) ∙ digit-carried (i - 2 ^ k) k t))
    (λ (t : has (i - 2 ^ k) k ≡ false). t)
    (test (has (i - 2 ^ k) k))

-- a set and a state: the set has it, or gets it
and-single : (z e : ℕ) → bit_and z (2 ^ e) ≡ z / 2 ^ e % 2 * 2 ^ e
and-single z e =
    let one : 2 ^ (1 + e) - 2 ^ e ≡ 2 ^ e = omega (arith, pow-add 2 1 e) in
    ap (bit_and z) (sym one) ∙ and_high z 1 e

pub union-same : (z e : ℕ) → has z e ≡ true → union z (2 ^ e) ≡ z
unfolding has
union-same z e h =
    let digit = eqb-true (z / 2 ^ e % 2) 1 h in
    let both = and-single z e ∙ ap (λ (d : ℕ). d * 2 ^ e) digit ∙ one-mul (2 ^ e) in
    omega (arith, or_add_and z (2 ^ e), both)

pub union_more : (z e : ℕ) → has z e ≡ false → union z (2 ^ e) ≡ z + 2 ^ e
unfolding has
union_more z e h =
    let none = eqb-false (z / 2 ^ e % 2) 1 h in
    let digit : z / 2 ^ e % 2 ≡ 0 = omega (arith, none) in
    let both = and-single z e ∙ ap (λ (d : ℕ). d * 2 ^ e) digit in
    omega (arith, or_add_and z (2 ^ e), both)
