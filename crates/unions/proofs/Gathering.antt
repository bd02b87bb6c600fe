-- The states of many sets gathered, and what the elements of a game are gathered from.
use Prim.Native.Nat.{ℕ, ◌+◌, ◌*◌, ◌%◌, ◌^◌, ◌<◌, ◌≤◌}
use native.Mathlib.Omega.{arith}
use native.Mathlib.Nat.{mod-eq_of_lt, one-mul}
use mathlib.Core.Path.{◌≡◌, refl, sym, ap, subst, ◌∙◌}
use mathlib.Core.Logic.{⊎_elim}
use mathlib.Core.Bool.{true, false}
use mathlib.Core.List.{List}
use lib.ListN.{length, get_or}
use lib.Dec.{eqb, ltb}
use lib.Pow.{pow_pos, pow-lt}
use borrow.Author.Tests.{eq-eqb, ne_eqb, ltb-true, ltb-false}
use Rattle.game.specs.Sets.{has, union}
use Rattle.game.specs.SetLaws.{left-union, right-union, union-below, single-has}
use Rattle.game.specs.ListLaws.{test}
use Rattle.game.specs.Game.{Rule, Transition, PushdownGame}
use Rattle.game.specs.StoredLaws.{no_rule, no_transition, rule-stored, target-stored}
use Rattle.game.specs.declared.game.Sizes.{Sizes}
use Rattle.rounds.proofs.InsertLaws.{get_d-in, in-get_d}
use Rattle.unions.specs.ElementsOf.{Gathered, Reached, HeldTargets, target_set, pop_set, pop_set_at}

pub gathered_none : (part : ℕ → ℕ) → Gathered part 0 0
gathered_none part = record { all = λ t s l h. absurd (omega arith); small = λ n each. pow_pos n }

-- one set more
pub gathered-on : (part : ℕ → ℕ) (count set more : ℕ) → Gathered part count set → more ≡ part count → Gathered part (count + 1) (union set more)
gathered-on part count set more g e =
    record {
      all =
          λ t s l h.
          ⊎_elim (λ (u : ltb t count ≡ true). left-union set more s (g.all t s (ltb-true t count u) h))
          (λ (u : ltb t count ≡ false).
          let no_less = ltb-false t count u in
          let same : t ≡ count = omega (arith, l, no_less) in
          right-union set more s (ap (λ (z : ℕ). has z s) e ∙ ap (λ (k : ℕ). has (part k) s) (sym same) ∙ h))
          (test (ltb t count));
      small =
          λ n each.
          union-below n set more (g.small n (λ t l. each t (omega arith))) (subst (λ (z : ℕ). z < 2 ^ n) (sym e) (each count (omega arith)));
    }

pub gathered-ends : (part : ℕ → ℕ) (count t set : ℕ) → t ≤ count → count ≤ t → Gathered part t set → Gathered part count set
gathered-ends part count t set l m g = let same : t ≡ count = omega arith in subst (λ (k : ℕ). Gathered part k set) same g

-- a state as a set, by a shift
shifted_one : (s : ℕ) → s < 32 → 1 * 2 ^ s % 2 ^ 32 ≡ 2 ^ s
shifted_one s h = rw one-mul (mod-eq_of_lt (pow-lt {j = 32} h))

pub pop-first : (to count : ℕ) → count ≡ 0 → 1 * 2 ^ (to % 32) % 2 ^ 32 ≡ pop_set to count
unfolding pop_set
pop-first to count e = rw (eq-eqb count 0 e) (shifted_one (to % 32) (omega arith))

pub pop-none : (to count : ℕ) → (count ≡ 0 → ⊥) → 0 ≡ pop_set to count
unfolding pop_set
pop-none to count apart = rw (ne_eqb count 0 apart) refl

-- the state of a rule that writes no letters
pub pop-some : (to count : ℕ) → count ≡ 0 → to < 32 → pop_set to count ≡ 2 ^ to
unfolding pop_set
pop-some to count e l = rw (eq-eqb count 0 e) (ap (λ (k : ℕ). 2 ^ k) (mod-eq_of_lt l))

pub pop-small : (to count n : ℕ) → to < 32 → to < n → pop_set to count < 2 ^ n
unfolding pop_set
pop-small to count n l m =
    ⊎_elim
    (λ (u : eqb count 0 ≡ true). rw (u, mod-eq_of_lt l) (pow-lt m))
    (λ (u : eqb count 0 ≡ false). rw u (pow_pos n))
    (test (eqb count 0))

module _ (g : PushdownGame) (sizes : Sizes) (rules targets : List ℕ) (h : HeldTargets g sizes rules targets) where
  target-count : sizes.targetcount ≡ length g.targets
  target-count = ap (λ (s : Sizes). s.targetcount) h.held.sized

  rule-count : sizes.rulecount ≡ length g.rules
  rule-count = ap (λ (s : Sizes). s.rulecount) h.held.sized

  set_is : (t : ℕ) → t < length g.targets → target_set targets t ≡ (get_or g.targets t no_transition).set
  set_is t l = rw h.targeted (ap (λ (x : Transition). x.set) (target-stored t g.targets h.slack no_transition l))

  to_is : (r : ℕ) → r < length g.rules → get_or rules (r * 6 + 2) 0 ≡ (get_or g.rules r no_rule).to
  to_is r l = rw h.held.stands (ap (λ (x : Rule). x.to) (rule-stored r g.rules h.held.slack no_rule l))

  written_is : (r : ℕ) → r < length g.rules → get_or rules (r * 6 + 3) 0 ≡ (get_or g.rules r no_rule).count
  written_is r l = rw h.held.stands (ap (λ (x : Rule). x.count) (rule-stored r g.rules h.held.slack no_rule l))

  to-small : (r : ℕ) → r < length g.rules → (get_or g.rules r no_rule).to < g.states
  to-small r l = omega (arith, (h.held.ranged.rule (get_or g.rules r no_rule) (get_d-in no_rule g.rules r l)).to, h.held.ranged.control)

  pub reached : (a b : ℕ) → Gathered (target_set targets) sizes.targetcount a → Gathered (pop_set_at rules) sizes.rulecount b → Reached g (union a b)
  reached a b ga gb =
      record {
        small =
            union-below g.states a b
            (ga.small g.states
            (λ t l.
            let m : t < length g.targets = omega (arith, target-count) in
            subst (λ (z : ℕ). z < 2 ^ g.states) (sym (set_is t m)) (h.held.ranged.target (get_or g.targets t no_transition) (get_d-in no_transition g.targets t m)).small))
            (gb.small g.states
            (λ r l.
            let m : r < length g.rules = omega (arith, rule-count) in
            let low = to-small r m in
            pop-small (get_or rules (r * 6 + 2) 0) (get_or rules (r * 6 + 3) 0) g.states (omega (arith, low, to_is r m, h.held.ranged.states)) (omega (arith, low, to_is r m))));
        targets =
            λ t m s k.
            let q = in-get_d no_transition g.targets m in
            left-union a b s
            (ga.all q.0 s (omega (arith, q.1, target-count)) (ap (λ (z : ℕ). has z s) (set_is q.0 q.1) ∙ ap (λ (x : Transition). has x.set s) (sym q.2) ∙ k));
        pops =
            λ r m none.
            let q = in-get_d no_rule g.rules m in
            let to : get_or rules (q.0 * 6 + 2) 0 ≡ r.to = to_is q.0 q.1 ∙ ap (λ (x : Rule). x.to) (sym q.2) in
            let written : get_or rules (q.0 * 6 + 3) 0 ≡ 0 = written_is q.0 q.1 ∙ ap (λ (x : Rule). x.count) (sym q.2) ∙ none in
            let low : get_or rules (q.0 * 6 + 2) 0 < 32 = omega (arith, to_is q.0 q.1, to-small q.0 q.1, h.held.ranged.states) in
            right-union a b r.to
            (gb.all q.0 r.to (omega (arith, q.1, rule-count))
            (ap (λ (z : ℕ). has z r.to) (pop-some (get_or rules (q.0 * 6 + 2) 0) (get_or rules (q.0 * 6 + 3) 0) written low ∙ ap (λ (k : ℕ). 2 ^ k) to) ∙ single-has r.to));
      }
