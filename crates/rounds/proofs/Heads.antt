-- The first rule of a head from a place on, and the highest state of a set.
use Prim.Native.Nat.{ℕ, suc, ◌+◌, ◌*◌, ◌-◌, ◌/◌, ◌%◌, ◌^◌, ◌<◌, ◌≤◌}
use mathlib.Core.Path.{◌≡◌}
use mathlib.Core.Logic.{⊎_elim}
use mathlib.Core.Bool.{true, false}
use mathlib.Core.List.{List}
use native.Mathlib.Omega.{arith}
use native.Mathlib.Nat.{div-lt_iff_lt-mul, pow-succ'}
use lib.Pow.{pow_pos}
use lib.Count.{count_leading_zeros, leading_top}
use borrow.Author.Tests.{eq-eqb}
use Rattle.game.specs.Sets.{has}
use Rattle.game.specs.Game.{of_head}
use Rattle.game.specs.Stored.{rule_at}
use Rattle.game.specs.ListLaws.{below_suc}
use Rattle.game.specs.SetLaws.{has_above, none_has}
use Rattle.rounds.specs.Scans.{NextRule, Highest}

pub record Skipping (rules : List ℕ) (end from p a r : ℕ) : Type 0 where
  pub after : from ≤ r
  pub within : r ≤ end
  pub skipped : (k : ℕ) → from ≤ k → k < r → of_head p a (rule_at rules (k * 6) 0) ≡ false

pub begins : (rules : List ℕ) (end from p a : ℕ) → from ≤ end → Skipping rules end from p a from
begins rules end from p a h = record { after = omega arith; within = h; skipped = λ k l m. absurd (omega arith) }

pub skips : (rules : List ℕ) (end from p a r : ℕ) → Skipping rules end from p a r → r < end → of_head p a (rule_at rules (r * 6) 0) ≡ false → Skipping rules end from p a (r + 1)
skips rules end from p a r s h n =
    record {
      after = omega (arith, s.after);
      within = omega arith;
      skipped =
          λ k l m.
          ⊎_elim (λ (i : k < r). s.skipped k l i) (λ (i : k ≡ r). rw i n) (below_suc (omega arith));
    }

pub finds : (rules : List ℕ) (end from p a r : ℕ) → Skipping rules end from p a r → r < end → of_head p a (rule_at rules (r * 6) 0) ≡ true → NextRule rules end from p a r
finds rules end from p a r s h y = record { after = s.after; within = s.within; skipped = s.skipped; found = λ l. y }

-- a number between a power of two and the next one has that digit
digit : (set j : ℕ) → 2 ^ j ≤ set → set < 2 ^ suc j → set / 2 ^ j % 2 ≡ 1
digit set j low high =
    let two : 2 ^ suc j ≡ 2 * 2 ^ j = pow-succ' 2 j in
    let less : set / 2 ^ j < 2 = (div-lt_iff_lt-mul (pow_pos j)).1 (rw two at high) in
    let more : set / 2 ^ j < 1 → ⊥ = λ l. (omega (arith, (div-lt_iff_lt-mul (pow_pos j)).0 l)) in
    (omega (arith, less, more))

-- the highest digit of a set, by the zeros above it
pub highest-of : (set : ℕ) → set < 2 ^ 32 → 0 < set → Highest set (31 - count_leading_zeros 32 set)
unfolding has
highest-of set small some =
    let t = leading_top 32 set some small in
    let j = t.0 in
    let same : 31 - count_leading_zeros 32 set ≡ j = omega (arith, t.1) in
    rw same
    (record {
      small = omega (arith, t.1);
      member = λ p. eq-eqb (set / 2 ^ j % 2) 1 (digit set j t.2 t.3);
      above = λ k l m. has_above (suc j) set k t.3 (omega arith);
    })

pub highest-none : Highest 0 0
highest-none = record { small = omega arith; member = λ p. absurd (omega arith); above = λ k l m. none_has k }
