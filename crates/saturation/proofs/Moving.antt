-- The rules that a round passes over have no new end.
use Prim.Native.Nat.{ℕ, ◌+◌, ◌*◌, ◌<◌, ◌≤◌}
use native.Mathlib.Omega.{arith}
use mathlib.Core.Path.{◌≡◌, sym, ap, subst, ◌∙◌}
use mathlib.Core.Logic.{⊎_elim}
use mathlib.Core.Bool.{Bool, true, false}
use mathlib.Core.List.Memᴰ
use mathlib.Core.List.{List, []}
use lib.ListN.{get_or}
use lib.Dec.{eqb}
use borrow.Author.Tests.{eqb-true, eqb-false}
use Rattle.game.specs.Sets.{has}
use Rattle.game.specs.SetLaws.{none_has}
use Rattle.game.specs.Game.{Rule, PushdownGame, word_of}
use Rattle.game.specs.GoodGame.{Good, GoodRule}
use Rattle.game.specs.Stored.{rule_at}
use Rattle.game.specs.ListLaws.{◌∈◌, test, flat_map-in, in-flat_map}
use Rattle.table.specs.Table.{Entry}
use Rattle.rounds.specs.Rounds.{sets_of, ends}
use Rattle.rounds.specs.EndsLaws.{sets_of-in}
use Rattle.judge.proofs.Target.{zero-or-more}
use Rattle.rounds.specs.ScanLaws.{rule-at}
use Rattle.family.specs.Family.{holds}
use Rattle.unions.specs.Expand.{AllWithin}
use Rattle.unions.specs.ExpandLaws.{expand-has}
use Rattle.unions.specs.UnionSteps.{unions_of, tables_more}
use Rattle.unions.specs.Pool.{Head, Union, Layout}
use Rattle.unions.specs.PoolLaws.{head-within}
use Rattle.unions.specs.Finding.{Fresh}
use Rattle.unions.specs.Ending.{RuleEnds, RuleBefore}
use Rattle.saturation.specs.Ground.{Owned}
use Rattle.saturation.specs.RuleLaws.{rule_of, rule-same}
use Rattle.noting.specs.Signs.{NoNews, Unmoved, Held, Left}

-- an older table has transitions only after the first round
later : (old : List Entry) (i q a z : ℕ) → (i ≡ 0 → old ≡ []) → Head old q a z → 0 < i
later old i q a z first m = ⊎_elim (λ (e : i ≡ 0). absurd (no-head (subst (λ (es : List Entry). Head es q a z) (first e) m))) (λ l. l) (zero-or-more i)
  where
    no-head : Head [] q a z → ⊥
    no-head m = let r = sets_of-in [] q a m in Memᴰ.not-nil r.1

module _ {el : List ℕ} {g : PushdownGame} {n : ℕ} {old es : List Entry} {i abelard letters rulecount : ℕ} {rules news fresh : List ℕ} {is-first : Bool} {held held' active : List ℕ}
    (owned : Owned g abelard letters rulecount rules) (good : Good g) (touched : Fresh el g old es fresh) (first : i ≡ 0 → old ≡ []) (lay : Layout el g n) (within : AllWithin el es)
    (under : g.control ≤ g.states) (quiet : NoNews g old es news) (none : Held g old held) (after : is-first ≡ false → 0 < i)
    (lefts : (r : ℕ) → r < rulecount → Left rules r news fresh is-first held held' active) where
  -- a rule, and its bytes
  module _ {x : Rule} (there : x ∈ g.rules) where
    sound : GoodRule g.control g.letters x
    sound = good.ranged.rule x there

    bytes : x ≡ rule_at rules (x.number * 6) (rule_of g x.number).number
    bytes = let s = rule-same g good.ranged there in s.1 ∙ sym (rule-at rules owned.slack g.rules owned.stands x.number s.0)

    to_is : get_or rules (x.number * 6 + 2) 0 ≡ x.to
    to_is = sym (ap (λ (y : Rule). y.to) bytes)

    count-is : get_or rules (x.number * 6 + 3) 0 ≡ x.count
    count-is = sym (ap (λ (y : Rule). y.count) bytes)

    above-is : get_or rules (x.number * 6 + 4) 0 ≡ x.above
    above-is = sym (ap (λ (y : Rule). y.above) bytes)

    below-is : get_or rules (x.number * 6 + 5) 0 ≡ x.below
    below-is = sym (ap (λ (y : Rule). y.below) bytes)

    passed : Left rules x.number news fresh is-first held held' active
    passed = lefts x.number (subst (λ (k : ℕ). x.number < k) (sym owned.counted) (rule-same g good.ranged there).0)

    -- its first head, where that is not marked
    was : (z : ℕ) → has (get_or news (get_or rules (x.number * 6 + 2) 0) 0) (get_or rules (x.number * 6 + 4) 0) ≡ false → Head es x.to x.above z → Head old x.to x.above z
    was z off h =
        quiet x.to x.above z (omega (arith, sound.to, under)) sound.above
        (subst (λ (b : ℕ). has (get_or news x.to 0) b ≡ false) above-is (subst (λ (q : ℕ). has (get_or news q 0) (get_or rules (x.number * 6 + 4) 0) ≡ false) to_is off))
        h

    pub held_on : 0 < x.count → holds held' 0 x.number ≡ false → (z : ℕ) → Head es x.to x.above z → ⊥
    held_on some off z h =
        let k = passed.kept off (subst (λ (w : ℕ). 0 < w) (sym count-is) some) in
        none x there some k.0 z (was z k.1 h)

    -- no element has a new transition on its second letter: the unions are those that were there
    unions-were : get_or fresh (get_or rules (x.number * 6 + 5) 0) 0 ≡ 0 → (y z : ℕ) → Head es x.to x.above y → Union g es x.below y z → Union g old x.below y z
    unions-were e y z h u =
        let w = head-within el es within x.to x.above y h in
        tables_more g es old x.below y
        (λ s l on v k.
        let p = expand-has el g.states lay.elements w.0 s (subst (λ (m : ℕ). has m s ≡ true) w.2 on) in
        subst (λ (q : ℕ). Head old q x.below v) p.2
        (touched x.below p.0 v sound.below p.1 (none-on p.0) (subst (λ (q : ℕ). Head es q x.below v) (sym p.2) k)))
        z
        u
      where
        none-on : (k : ℕ) → has (get_or fresh x.below 0) k ≡ false
        none-on k = ap (λ (m : ℕ). has m k) (subst (λ (c : ℕ). get_or fresh c 0 ≡ 0) below-is e) ∙ none_has k

    pub unmoved-on : holds active 0 x.number ≡ false → (z : ℕ) → RuleEnds g es x z → RuleBefore g old i x z
    unfolding ends word_of
    unmoved-on off z m =
        ⊎_elim
        (λ (t : eqb x.count 0 ≡ true). (after (passed.alone off (count-is ∙ eqb-true x.count 0 t)), rw t (rw t at m)))
        (λ (t : eqb x.count 0 ≡ false).
        let no = eqb-false x.count 0 t in
        let some : 0 < x.count = omega (arith, no) in
        let quiet-head = passed.first off (subst (λ (w : ℕ). 0 < w) (sym count-is) some) in
        ⊎_elim
        (λ (u : eqb x.count 1 ≡ true).
        let h = was z quiet-head (rw (t, u) at m) in
        (later old i x.to x.above z first h, rw (t, u) h))
        (λ (u : eqb x.count 1 ≡ false).
        let one = eqb-false x.count 1 u in
        let two : 1 < x.count = omega (arith, no, one) in
        let f = flat_map-in (unions_of g es x.below) (sets_of es x.to x.above) (rw (t, u) at m) in
        let h = was f.0 quiet-head f.1 in
        ⊎_elim
        (λ e. (later old i x.to x.above f.0 first h, rw (t, u) (in-flat_map (unions_of g old x.below) h (unions-were e f.0 z f.1 f.2))))
        (λ e. absurd (held_on some e f.0 f.1))
        (passed.second off (subst (λ (w : ℕ). 1 < w) (sym count-is) two)))
        (test (eqb x.count 1)))
        (test (eqb x.count 0))

  pub moving : Unmoved g old es i active × Held g es held'
  moving = (λ r there off. unmoved-on there off, λ r there some off. held_on there some off)
