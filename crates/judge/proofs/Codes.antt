-- What the code has for worths, as numbers of the machine.
use Rattle.std.specs.Prelude.{ℕ, zero, suc, ◌≤◌, ◌<◌, ◌≡◌, refl, true, false, List, [], ◌∷◌, length, get_or, ltb, Option as Optional, None, Some}
use Rattle.std.proofs.Common.{sym, ap, ◌∙◌, inl, inr, arith, ltb-true, ltb-false}
use Rattle.std.proofs.Math.Logic.{⊎_elim}
use Rattle.std.proofs.Math.Option.{Option, none, some}
use Rattle.std.proofs.lemmas.List.{length-map}
use Rattle.std.proofs.Math.ListN.{get_or-eq_default}
use Rattle.game.specs.Limits.{max_states}
use Rattle.game.specs.ListLaws.{test}
use Rattle.judge.specs.Worth.{no_worth, coded, worth_in}
use Rattle.judge.specs.Machine.{machine, most_below, number_of, numbers, Own, AllOwn, LowNumber, Tamed, TameOne, Tame, Low, Lows}
use Rattle.judge.proofs.MachineLaws.{machine-at, length-machine}

abbrev there : Optional ℕ → ℕ
there None = 0
there (Some n) = 1

-- none is no number
pub not-some : {x : Optional ℕ} {n : ℕ} → x ≡ None → x ≡ Some n → ⊥
not-some {x} {n} p q = let z : ◌≡◌ {A = ℕ} 0 1 = ap there (sym p ∙ q) in omega (arith, z)

pub same-some : {m n : ℕ} → ◌≡◌ {A = Optional ℕ} (Some m) (Some n) → m ≡ n
same-some e = ap number_of e

pub own-none : Own None
own-none n e = absurd (not-some refl e)

pub own-some : {m : ℕ} → m < no_worth → Own (Some m)
own-some l n e = let s = same-some e in omega (arith, l, s)

pub up-to : (x : Optional ℕ) → Own x → number_of x ≤ no_worth
up-to None o = omega arith
up-to (Some n) o = let l = o n refl in omega (arith, l)

pub low-own : {x : Optional ℕ} → LowNumber x → Own x
low-own l n e = let k = l n e in omega (arith, k)

pub low-none : LowNumber None
low-none n e = absurd (not-some refl e)

pub low-some : {m : ℕ} → m ≤ most_below → LowNumber (Some m)
low-some l n e = let s = same-some e in omega (arith, l, s)

pub number-at : (xs : List (Optional ℕ)) (q : ℕ) → q < length xs → get_or (numbers xs) q 0 ≡ number_of (get_or xs q None)
number-at [] q h = absurd (omega arith)
number-at (x ∷ xs) zero h = refl
number-at (x ∷ xs) (suc q) h = number-at xs q (omega arith)

pub length-numbers : (xs : List (Optional ℕ)) → length (numbers xs) ≡ length xs
length-numbers xs = length-map xs number_of

tame-one : (x : Optional ℕ) → LowNumber x → TameOne (number_of x)
tame-one None l = inl refl
tame-one (Some n) l = inr (l n refl)

-- what is low for the code is tame for the machine
pub tame-numbers : (xs : List (Optional ℕ)) → Tamed xs → Tame (numbers xs)
tame-numbers xs t q h =
    ⊎_elim
    (λ (k : ltb q (length xs) ≡ true). rw (number-at xs q (ltb-true q (length xs) k)) (tame-one (get_or xs q None) (t q)))
    (λ (k : ltb q (length xs) ≡ false). inr (let z : get_or (numbers xs) q 0 ≡ 0 = get_or-eq_default (numbers xs) 0 (omega (arith, length-numbers xs, ltb-false q (length xs) k)) in omega (arith, z)))
    (test (ltb q (length xs)))

-- what stands for low worths is low
pub tamed-by : (xs : List (Optional ℕ)) (ws : List (Option ℕ)) → AllOwn xs → numbers xs ≡ machine ws → length ws ≤ max_states → Lows ws → Tamed xs
unfolding coded
tamed-by xs ws own is l low q n s =
    let e : length xs ≡ max_states = sym (length-numbers xs) ∙ ap length is ∙ length-machine ws l in
    ⊎_elim
    (λ (t : ltb q max_states ≡ true).
    let h = ltb-true q max_states t in
    let code : n ≡ coded (worth_in ws q) = sym (ap number_of s) ∙ sym (number-at xs q (omega (arith, e, h))) ∙ ap (λ (y : List ℕ). get_or y q 0) is ∙ machine-at ws q l h in
    of (worth_in ws q) (low q) code)
    (λ (t : ltb q max_states ≡ false). absurd (not-some (get_or-eq_default xs None (omega (arith, e, ltb-false q max_states t))) s))
    (test (ltb q max_states))
  where
    of : (x : Option ℕ) → Low x → n ≡ coded x → n ≤ most_below
    of none y c = let o = own q n s in absurd (omega (arith, o, c))
    of (some m) y c = omega (arith, y, c)
