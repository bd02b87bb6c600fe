-- What the turns of an enumeration hand on: sets that shrink and are not empty, the job of a rule.
use Prim.Native.Nat.{ℕ, suc, ◌+◌, ◌*◌, ◌%◌, ◌^◌, ◌<◌, ◌≤◌}
use native.Mathlib.Omega.{arith}
use native.Mathlib.Nat.{one-mul, mod-lt, mod-eq_of_lt}
use mathlib.Core.Path.{◌≡◌, ap, ◌∙◌}
use mathlib.Core.Logic.{⊎_elim}
use mathlib.Core.Bool.{Bool, true, false, cond}
use mathlib.Core.List.{List}
use lib.ListN.{length, get_or}
use lib.Pow.{pow-lt, pow_pos}
use lib.Dec.{ltb}
use borrow.Author.Tests.{ltb-true, ltb-false}
use Rattle.judge.proofs.Target.{zero-or-more}
use Rattle.game.specs.Sets.{union}
use Rattle.game.specs.SetLaws.{has_above, member_of, right-union, none_has}
use Rattle.game.specs.ListLaws.{test, clash}
use Rattle.game.specs.Game.{PushdownGame, of_head}
use Rattle.game.specs.StoredLaws.{no_rule}
use Rattle.table.specs.Table.{Entry}
use Rattle.enumeration.specs.Jobs.{Late, Whole, Stands, end_of, field_of}
use Rattle.rounds.specs.Scans.{Highest}
use Rattle.enumeration.specs.declared.runs.Job.{Job}

-- a state as a set, as the code shifts it
pub shifted_one : (s : ℕ) → s < 32 → 1 * 2 ^ s % 4294967296 ≡ 2 ^ s
shifted_one s h = rw one-mul (mod-eq_of_lt (pow-lt {j = 32} h))

-- a set without its highest state is a smaller number
pub smaller : (left q : ℕ) → 0 < left → Highest left q → left % 2 ^ q < left
smaller left q some h =
    ⊎_elim
    (λ (t : ltb left (2 ^ q) ≡ true). clash (h.member some) (has_above q left q (ltb-true left (2 ^ q) t) (omega arith)))
    (λ (t : ltb left (2 ^ q) ≡ false). omega (arith, mod-lt left (pow_pos q), ltb-false left (2 ^ q) t))
    (test (ltb left (2 ^ q)))

-- a union with a set that is not empty is not empty
pub union-some : (n u x : ℕ) → x < 2 ^ n → 0 < x → 0 < union u x
union-some n u x l some =
    let s = member_of n x l some in
    let there = right-union u x s.0 s.2 in
    ⊎_elim (λ (z : union u x ≡ 0). clash (rw z at there) (none_has s.0)) (λ p. p) (zero-or-more (union u x))

module _ (g : PushdownGame) (job : Job) where
  -- the job is that of the next rule
  pub whole : (old : List Entry) (birthdate : ℕ) (rules work : List ℕ) → Stands g old birthdate job rules work → (from r : ℕ)
      → Late g job from → from ≤ r → r < job.end → of_head job.state job.letter (get_or g.rules r no_rule) ≡ true → Whole g job r
  unfolding end_of field_of
  whole old birthdate rules work stands from r late h l heads =
      ⊎_elim
      (λ o. record { ends = rw o.0 o.1; named = rw o.0 o.2; heads = heads })
      (λ o.
      let last : job.end ≡ suc r = omega (arith, late o.0) in
      record { ends = rw o.0 last; named = rw o.0 (o.1 ∙ last); heads = heads })
      stands.owner

  -- and after it no rule of Éloise's job comes
  pub later : (r : ℕ) → Whole g job r → Late g job (r + 1)
  unfolding end_of
  later r w e =
      let last : job.end ≡ suc r = w.ends ∙ ap (λ (abelards : Bool). cond abelards (length g.rules) (suc r)) e in
      omega arith
