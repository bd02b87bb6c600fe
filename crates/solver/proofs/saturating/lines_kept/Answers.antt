use Prim.Native.Nat.{ℕ, ◌*◌, ◌-◌, ◌≤◌}
use native.Mathlib.Omega.{arith}
use native.Mathlib.Nat.{mul-le-mul}
use mathlib.Core.Path.{refl}
use mathlib.Core.Logic.{inl, inr}
use Rattle.solver.proofs.saturating.lines_kept.Goals as goal

-- All of the lines or none, whatever the tests say. Assumes what the contract requires.
product-few : (a b : ℕ) → a ≤ 2048 → b ≤ 2048 → a * b ≤ 4194304
product-few a b la lb = mul-le-mul la lb

pub returns-then-entries-older : goal.returns-then-entries-older
returns-then-entries-older c = inl refl

pub returns-then-older-oldest : goal.returns-then-older-oldest
returns-then-older-oldest c = inl refl

pub overflow_mul-gained : goal.overflow_mul-gained
overflow_mul-gained c =
    omega (arith, product-few (c.args.entries - c.args.older) (c.args.entries - c.args.older) (omega (arith, c.requires)) (omega (arith, c.requires)))

pub overflow_mul-size : goal.overflow_mul-size
overflow_mul-size c =
    omega (arith, product-few (c.args.size - c.args.entries) (c.args.older - c.args.oldest) (omega (arith, c.requires)) (omega (arith, c.if-entries-older.false, c.requires)))

pub returns-then-gained-size : goal.returns-then-gained-size
returns-then-gained-size c = inl refl

pub returns-then-gained-entries : goal.returns-then-gained-entries
returns-then-gained-entries c = inl refl

pub returns : goal.returns
returns c = inr refl
