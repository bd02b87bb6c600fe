-- The number of a head: state times letters, and the letter.
use Rattle.std.specs.Prelude.{ℕ, ◌+◌, ◌*◌, ◌/◌, ◌%◌, ◌<◌, ◌≤◌, ◌≡◌, true, false, ltb}
use Rattle.std.proofs.Common.{arith, mul-le-mul, mul-le-mul_right, sym, ap, ◌∙◌, ⊎_elim, ltb-true, ltb-false}
use Rattle.std.proofs.Math.Arith.{digits_mod, digits_div}
use Rattle.game.specs.ListLaws.{test}
use Rattle.unions.specs.PoolLaws.{next_row}

-- it tells state and letter
pub same_head : (q a s l letters : ℕ) → a < letters → l < letters → q * letters + a ≡ s * letters + l → (q ≡ s) × (a ≡ l)
same_head q a s l letters la ll e = (
  sym (digits_div q la) ∙ ap (λ (k : ℕ). k / letters) e ∙ digits_div s ll,
  sym (digits_mod q la) ∙ ap (λ (k : ℕ). k % letters) e ∙ digits_mod s ll,
)

-- the numbers of a state's heads are its own
pub same_row : (q c p letters : ℕ) → c < letters → p * letters ≤ q * letters + c → q * letters + c < p * letters + letters → q ≡ p
same_row q c p letters lc from to =
    ⊎_elim (λ (t : ltb q p ≡ true). absurd (omega (arith, lc, from, next_row q p letters (ltb-true q p t))))
    (λ (t : ltb q p ≡ false).
    ⊎_elim (λ (u : ltb p q ≡ true). absurd (omega (arith, to, next_row p q letters (ltb-true p q u))))
    (λ (u : ltb p q ≡ false). let x = ltb-false q p t in let y = ltb-false p q u in omega (arith, x, y))
    (test (ltb p q)))
    (test (ltb q p))

-- heads of control states are few
pub few-heads : (control letters : ℕ) → control ≤ 24 → letters ≤ 64 → control * letters ≤ 1536
few-heads control letters c l = mul-le-mul c l

module _ (p letters a : ℕ) where
  pub head_few : p < 24 → letters ≤ 64 → a < letters → p * letters + a < 2048
  head_few lp ll la = omega (arith, few-heads p letters (omega (arith, lp)) ll, ll, la)

  -- the family of a head is within its state's part of an area
  pub place-in-row : (n m m' : ℕ) → a < letters → (p * letters + letters) * n ≤ m → m' ≡ m → (p * letters + a) * n + n ≤ m'
  place-in-row n m m' la l e = omega (arith, next_row (p * letters + a) (p * letters + letters) n (omega (arith, la)), l, e)

-- a state's heads are among all, and so are their families
pub rows_in : (p control letters m : ℕ) → p < control → control * letters ≤ m → p * letters + letters ≤ m
rows_in p control letters m lp l = omega (arith, next_row p control letters lp, l)

pub row_in : (p control letters n m m' : ℕ) → p < control → control * letters * n ≤ m → m' ≡ m → (p * letters + letters) * n ≤ m'
row_in p control letters n m m' lp l e = let more = mul-le-mul_right n (next_row p control letters lp) in omega (arith, more, l, e)
