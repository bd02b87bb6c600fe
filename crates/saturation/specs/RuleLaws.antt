-- The rules of a game by their numbers, and the ends of a rule's runs as sets of elements.
use Rattle.std.specs.Prelude.{ℕ, zero, suc, ◌+◌, ◌^◌, ◌<◌, ◌≡◌, refl, true, false, List, [], ◌∷◌, length, get_or, eqb}
use Rattle.std.proofs.Common.{arith, sym, ap, subst, ◌∙◌, ⊎_elim, eq-eqb, eqb-true}
use mathlib.Core.List.Memᴰ
use Rattle.std.proofs.Math.Pow.{pow-lt}
use Rattle.game.specs.Sets.{single}
use Rattle.game.specs.Game.{Rule, PushdownGame, of_head, rules_of, word_of}
use Rattle.game.specs.GoodGame.{Numbered, Ranged}
use Rattle.game.specs.StoredLaws.{no_rule}
use Rattle.game.specs.ListLaws.{◌∈◌, test, conj, in-filter, flat_map-in}
use Rattle.table.specs.Table.{Entry}
use Rattle.rounds.specs.Rounds.{sets_of, ends}
use Rattle.rounds.proofs.InsertLaws.{get_d-in, in-get_d}
use Rattle.unions.specs.Expand.{Elements, Within, AllWithin}
use Rattle.unions.specs.ExpandLaws.{expand-single}
use Rattle.unions.specs.UnionSteps.{unions_of}
use Rattle.unions.specs.PoolLaws.{head-within, union-within}
use Rattle.unions.specs.Ending.{Listed, RuleEnds}

number_at : (m k : ℕ) (rs : List Rule) → Numbered m rs → k < length rs → (get_or rs k no_rule).number ≡ m + k
unfolding Numbered
number_at m k [] h l = absurd (omega arith)
number_at m zero (r ∷ rs) h l = omega (arith, h.0)
number_at m (suc k) (r ∷ rs) h l = number_at (suc m) k rs h.1 (omega arith) ∙ omega arith

-- the rule of a number
abbrev pub rule_of : PushdownGame → ℕ → Rule
rule_of g r = get_or g.rules r no_rule

pub rule-number : (g : PushdownGame) → Ranged g → (r : ℕ) → r < length g.rules → (rule_of g r).number ≡ r
rule-number g ranged r l = number_at 0 r g.rules ranged.numbers l ∙ omega arith

pub rule-there : (g : PushdownGame) (r : ℕ) → r < length g.rules → rule_of g r ∈ g.rules
rule-there g r l = get_d-in no_rule g.rules r l

pub rule-same : (g : PushdownGame) → Ranged g → {x : Rule} → x ∈ g.rules → (x.number < length g.rules) × (x ≡ rule_of g x.number)
rule-same g ranged {x} m =
    let f = in-get_d no_rule g.rules m in
    let e : x.number ≡ f.0 = ap (λ (y : Rule). y.number) f.2 ∙ rule-number g ranged f.0 f.1 in
    (subst (λ (k : ℕ). k < length g.rules) (sym e) f.1, f.2 ∙ ap (rule_of g) (sym e))

-- a rule is one of its head
pub rule-of-head : (g : PushdownGame) {x : Rule} → x ∈ g.rules → x ∈ rules_of g x.from x.top
unfolding rules_of of_head
rule-of-head g {x} m = in-filter (of_head x.from x.top) m (conj (eq-eqb x.from x.from refl) (eq-eqb x.top x.top refl))

-- the ends of a rule's runs are sets of elements
pub ends-within : (el : List ℕ) (g : PushdownGame) (es : List Entry) → Elements el g.states → AllWithin el es → (rule : Rule) → (rule.count ≡ 0 → Listed el rule.to)
    → (z : ℕ) → RuleEnds g es rule z → Within el z
unfolding ends word_of
ends-within el g es ok all rule listed z m =
    ⊎_elim
    (λ (t : eqb rule.count 0 ≡ true).
    let s = listed (eqb-true rule.count 0 t) in
    (2 ^ s.0, pow-lt s.1, Memᴰ.eq_of_singleton (rw t at m) ∙ sym (expand-single el g.states ok s.0 s.1 ∙ ap single s.2)))
    (λ (t : eqb rule.count 0 ≡ false).
    ⊎_elim (λ (u : eqb rule.count 1 ≡ true). head-within el es all rule.to rule.above z (rw (t, u) at m))
    (λ (u : eqb rule.count 1 ≡ false).
    let f = flat_map-in (unions_of g es rule.below) (sets_of es rule.to rule.above) (rw (t, u) at m) in
    union-within el g es ok all rule.below f.0 z f.2)
    (test (eqb rule.count 1)))
    (test (eqb rule.count 0))
