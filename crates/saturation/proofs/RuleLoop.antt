-- The loops over the rules that are marked, word by word of the marks and bit by bit: those passed are taken.
use Prim.Native.Nat.{ℕ, suc, ◌+◌, ◌*◌, ◌-◌, ◌/◌, ◌%◌, ◌<◌, ◌≤◌}
use native.Mathlib.Omega.{arith}
use native.Mathlib.Nat.{mul-le-mul_right}
use mathlib.Core.Path.{◌≡◌, refl, subst, sym, ap, ◌∙◌}
use mathlib.Core.Logic.{inl, inr, ⊎_elim}
use mathlib.Core.Bool.{true, false}
use mathlib.Core.List.{List}
use lib.ListN.{length, get_or}
use lib.Bits.{bit_and}
use lib.Dec.{eqb, ltb}
use borrow.Author.Tests.{eqb-true, eqb-false, ltb-true, ltb-false}
use Rattle.game.specs.Sets.{has}
use Rattle.game.specs.SetLaws.{none_has}
use Rattle.game.specs.LowestLaws.{LowestOf, Cleared, cleared}
use Rattle.game.specs.ListLaws.{◌∈◌, test, clash}
use Rattle.game.specs.Game.{Rule, PushdownGame}
use Rattle.table.specs.Table.{Entry}
use Rattle.family.specs.Family.{holds}
use Rattle.unions.specs.Ending.{RuleEnds, RuleBefore}
use Rattle.noting.specs.Signs.{Unmoved}
use Rattle.noting.specs.declared.marks.Marks.{Marks}
use Rattle.saturation.specs.declared.kept.Rules.{Rules}
use Rattle.saturation.specs.declared.kept.Kept.{Kept}
use Rattle.saturation.specs.Kept.{Room, GroundOf, RulesHeld, RulesDone}
use Rattle.saturation.specs.RuleLaws.{rule-same}
use Rattle.saturation.proofs.RuleTurns.{pass, back}

-- the heads' families are within the areas
pub heads-in-room : {heads n rulecount all more keys rests hints ends added : ℕ} → Room heads n rulecount all more keys rests hints ends added → heads * n ≤ all
heads-in-room {heads} {n} {keys = keys} room = omega (arith, room.area, mul-le-mul_right n (above heads keys))
  where
    above : (x y : ℕ) → x ≤ x + y
    above x y = omega arith

pub rows_in : (rows heads n m : ℕ) → rows ≤ heads → heads * n ≤ m → rows * n ≤ m
rows_in rows heads n m l h = omega (arith, h, mul-le-mul_right n l)

-- the rules of a word of marks that are not in `rest` are taken
pub record Going (word from size birthdate : ℕ) (rules : Rules) (marks : Marks) (more : List ℕ) (kept₀ : Kept) (all₀ keys₀ rests₀ ends₀ added₀ log₀ : List ℕ) (entries₀ : ℕ)
    (kept : Kept) (all keys rests ends added log : List ℕ) (entries rest : ℕ) : Type 0 where
  pub room : entries ≤ size
  pub lined : kept.lines ≤ length keys₀
  pub logs : length log ≡ length log₀
  pub place : ℕ
  pub after : from ≤ place
  pub below : place ≤ from + 64
  pub same : (s : ℕ) → place ≤ from + s → has rest s ≡ has word s
  pub none : (s : ℕ) → from + s < place → has rest s ≡ false
  pub gone : (el : List ℕ) (g : PushdownGame) (old es : List Entry) (i : ℕ) (now : List Entry)
      → GroundOf el g old es i rules marks more
      → ((r : Rule) → r ∈ g.rules → (s : ℕ) → s < 64 → r.number ≡ from + s → has word s ≡ false → (z : ℕ) → RuleEnds g es r z → RuleBefore g old i r z)
      → RulesHeld el g old es i birthdate now from rules kept₀ all₀ keys₀ rests₀ ends₀ added₀ log₀ entries₀
      → RulesHeld el g old es i birthdate now place rules kept all keys rests ends added log entries

module _ {word from size birthdate : ℕ} {rules : Rules} {marks : Marks} {more : List ℕ} {kept₀ : Kept} {all₀ keys₀ rests₀ ends₀ added₀ log₀ : List ℕ} {entries₀ : ℕ} where
  pub going-starts : entries₀ ≤ size → kept₀.lines ≤ length keys₀ → Going word from size birthdate rules marks more kept₀ all₀ keys₀ rests₀ ends₀ added₀ log₀ entries₀ kept₀ all₀ keys₀ rests₀ ends₀ added₀ log₀ entries₀ word
  going-starts le ll =
      record {
        room = le;
        lined = ll;
        logs = refl;
        place = from;
        after = omega arith;
        below = omega arith;
        same = λ s l. refl;
        none = λ s l. absurd (omega arith);
        gone = λ el g old es i now gr off to. to;
      }

  module _ {kept : Kept} {all keys rests ends added log : List ℕ} {entries rest : ℕ}
      (w : Going word from size birthdate rules marks more kept₀ all₀ keys₀ rests₀ ends₀ added₀ log₀ entries₀ kept all keys rests ends added log entries rest) where
    -- the rules up to one that none of the bits left comes before
    reached : (k : ℕ) → w.place ≤ k → ((s : ℕ) → s < 64 → from + s < k → has rest s ≡ false) → (el : List ℕ) (g : PushdownGame) (old es : List Entry) (i : ℕ) (now : List Entry)
        → GroundOf el g old es i rules marks more → ((r : Rule) → r ∈ g.rules → r.number < k → r.number < from + 64)
        → ((r : Rule) → r ∈ g.rules → (s : ℕ) → s < 64 → r.number ≡ from + s → has word s ≡ false → (z : ℕ) → RuleEnds g es r z → RuleBefore g old i r z)
        → RulesHeld el g old es i birthdate now from rules kept₀ all₀ keys₀ rests₀ ends₀ added₀ log₀ entries₀
        → RulesHeld el g old es i birthdate now k rules kept all keys rests ends added log entries
    reached k l clear el g old es i now gr low off to =
        pass gr w.place k (w.gone el g old es i now gr off to) l
        (λ r m at lk.
        let s = r.number - from in
        let e : r.number ≡ from + s = (let f = w.after in omega (arith, at, f)) in
        let ls : s < 64 = (let b = low r m lk in let f = w.after in omega (arith, at, f, b)) in
        off r m s ls e (sym (w.same s (omega (arith, at, e))) ∙ clear s ls (omega (arith, e, lk))))

    module _ (s : ℕ) (some : 0 < rest) (lowest : LowestOf 64 rest s) where
      above : w.place ≤ from + s
      above = ⊎_elim (λ (t : ltb (from + s) w.place ≡ true). clash lowest.member (w.none s (ltb-true (from + s) w.place t))) (λ (t : ltb (from + s) w.place ≡ false). ltb-false (from + s) w.place t) (test (ltb (from + s) w.place))

      -- no bit is left for a rule
      pub going-past : rules.sizes.rulecount ≤ from + s → (el : List ℕ) (g : PushdownGame) (old es : List Entry) (i : ℕ) (now : List Entry)
          → GroundOf el g old es i rules marks more
          → ((r : Rule) → r ∈ g.rules → (s : ℕ) → s < 64 → r.number ≡ from + s → has word s ≡ false → (z : ℕ) → RuleEnds g es r z → RuleBefore g old i r z)
          → RulesHeld el g old es i birthdate now from rules kept₀ all₀ keys₀ rests₀ ends₀ added₀ log₀ entries₀
          → RulesDone el g old es i birthdate size now (from + 64) rules kept all keys rests ends added log entries
      going-past past el g old es i now gr off to =
          let here = reached (from + s) above (λ t lt l. lowest.below t (omega (arith, l))) el g old es i now gr (λ r m l. omega (arith, l, lowest.small)) off to in
          inr (
            w.room,
            pass gr (from + s) (from + 64) here (let l = lowest.small in omega (arith, l))
                (λ r m l lk. absurd (omega (arith, l, past, subst (λ (k : ℕ). r.number < k) (sym gr.owned.counted) (rule-same g gr.good.ranged m).0))),
          )

      module _ (kept' : Kept) {all' keys' rests' ends' added' log' : List ℕ} {entries' : ℕ}
          (turn : (el : List ℕ) (g : PushdownGame) (old es : List Entry) (i : ℕ) (now : List Entry)
          → GroundOf el g old es i rules marks more
          → RulesHeld el g old es i birthdate now (from + s) rules kept all keys rests ends added log entries
          → RulesDone el g old es i birthdate size now (suc (from + s)) rules kept' all' keys' rests' ends' added' log' entries') where
        turned : (el : List ℕ) (g : PushdownGame) (old es : List Entry) (i : ℕ) (now : List Entry)
            → GroundOf el g old es i rules marks more
            → ((r : Rule) → r ∈ g.rules → (s : ℕ) → s < 64 → r.number ≡ from + s → has word s ≡ false → (z : ℕ) → RuleEnds g es r z → RuleBefore g old i r z)
            → RulesHeld el g old es i birthdate now from rules kept₀ all₀ keys₀ rests₀ ends₀ added₀ log₀ entries₀
            → RulesDone el g old es i birthdate size now (suc (from + s)) rules kept' all' keys' rests' ends' added' log' entries'
        turned el g old es i now gr off to =
            turn el g old es i now gr (reached (from + s) above (λ t lt l. lowest.below t (omega (arith, l))) el g old es i now gr (λ r m l. omega (arith, l, lowest.small)) off to)

        pub going_on : entries' ≤ size → kept'.lines ≤ length keys → length keys ≡ length keys₀ → length log' ≡ length log
            → Going word from size birthdate rules marks more kept₀ all₀ keys₀ rests₀ ends₀ added₀ log₀ entries₀ kept' all' keys' rests' ends' added' log' entries' (bit_and rest (rest - 1))
        going_on fits ln lk ll =
            record {
              room = fits;
              lined = omega (arith, ln, lk);
              logs = ll ∙ w.logs;
              place = suc (from + s);
              after = omega arith;
              below = omega (arith, lowest.small);
              same = λ t l. gone'.kept t (λ e. omega (arith, l, e)) ∙ w.same t (omega (arith, l, above));
              none =
                  λ t l.
                  ⊎_elim (λ (e : eqb t s ≡ true). ap (has (bit_and rest (rest - 1))) (eqb-true t s e) ∙ gone'.gone)
                  (λ (e : eqb t s ≡ false). gone'.kept t (eqb-false t s e) ∙ lowest.below t (omega (arith, l, eqb-false t s e)))
                  (test (eqb t s));
              gone = λ el g old es i now gr off to. ⊎_elim (λ k. absurd (omega (arith, k.0, fits))) (λ k. k.1) (turned el g old es i now gr off to);
            }
          where
            gone' : Cleared rest s (bit_and rest (rest - 1))
            gone' = cleared s rest some lowest.member lowest.below

        pub going-full : size < entries' → (el : List ℕ) (g : PushdownGame) (old es : List Entry) (i : ℕ) (now : List Entry)
            → GroundOf el g old es i rules marks more
            → ((r : Rule) → r ∈ g.rules → (s : ℕ) → s < 64 → r.number ≡ from + s → has word s ≡ false → (z : ℕ) → RuleEnds g es r z → RuleBefore g old i r z)
            → RulesHeld el g old es i birthdate now from rules kept₀ all₀ keys₀ rests₀ ends₀ added₀ log₀ entries₀
            → RulesDone el g old es i birthdate size now (from + 64) rules kept' all' keys' rests' ends' added' log' entries'
        going-full beyond el g old es i now gr off to = ⊎_elim inl (λ k. absurd (omega (arith, k.0, beyond))) (turned el g old es i now gr off to)

    pub going-ends : rest ≡ 0 → (el : List ℕ) (g : PushdownGame) (old es : List Entry) (i : ℕ) (now : List Entry)
        → GroundOf el g old es i rules marks more
        → ((r : Rule) → r ∈ g.rules → (s : ℕ) → s < 64 → r.number ≡ from + s → has word s ≡ false → (z : ℕ) → RuleEnds g es r z → RuleBefore g old i r z)
        → RulesHeld el g old es i birthdate now from rules kept₀ all₀ keys₀ rests₀ ends₀ added₀ log₀ entries₀
        → RulesDone el g old es i birthdate size now (from + 64) rules kept all keys rests ends added log entries
    going-ends empty el g old es i now gr off to =
        inr (w.room, reached (from + 64) w.below (λ t lt l. ap (λ (k : ℕ). has k t) empty ∙ none_has t) el g old es i now gr (λ r m l. l) off to)

-- the words of marks before w are passed
pub record Wording (active : List ℕ) (size birthdate : ℕ) (rules : Rules) (marks : Marks) (more : List ℕ) (kept₀ : Kept) (all₀ keys₀ rests₀ ends₀ added₀ log₀ : List ℕ) (entries₀ : ℕ)
    (kept : Kept) (all keys rests ends added log : List ℕ) (entries w : ℕ) : Type 0 where
  pub room : entries ≤ size
  pub lined : kept.lines ≤ length keys₀
  pub logs : length log ≡ length log₀
  pub below : w ≤ 4
  pub gone : (el : List ℕ) (g : PushdownGame) (old es : List Entry) (i : ℕ) (now : List Entry)
      → GroundOf el g old es i rules marks more
      → Unmoved g old es i active
      → RulesHeld el g old es i birthdate now 0 rules kept₀ all₀ keys₀ rests₀ ends₀ added₀ log₀ entries₀
      → RulesHeld el g old es i birthdate now (w * 64) rules kept all keys rests ends added log entries

module _ {active : List ℕ} {size birthdate : ℕ} {rules : Rules} {marks : Marks} {more : List ℕ} {kept₀ : Kept} {all₀ keys₀ rests₀ ends₀ added₀ log₀ : List ℕ} {entries₀ : ℕ} where
  pub wording-starts : entries₀ ≤ size → kept₀.lines ≤ length keys₀ → Wording active size birthdate rules marks more kept₀ all₀ keys₀ rests₀ ends₀ added₀ log₀ entries₀ kept₀ all₀ keys₀ rests₀ ends₀ added₀ log₀ entries₀ 0
  wording-starts le ll = record { room = le; lined = ll; logs = refl; below = omega arith; gone = λ el g old es i now gr off to. to }

  module _ {kept : Kept} {all keys rests ends added log : List ℕ} {entries w : ℕ}
      (k : Wording active size birthdate rules marks more kept₀ all₀ keys₀ rests₀ ends₀ added₀ log₀ entries₀ kept all keys rests ends added log entries w) where
    unmoved-word : (g : PushdownGame) (old es : List Entry) (i : ℕ) → Unmoved g old es i active → (r : Rule) → r ∈ g.rules → (s : ℕ) → s < 64 → r.number ≡ w * 64 + s → has (get_or active w 0) s ≡ false
        → (z : ℕ) → RuleEnds g es r z → RuleBefore g old i r z
    unfolding holds
    unmoved-word g old es i off r m s l e h =
        off r m
        (ap (λ (x : ℕ). has (get_or active (0 + x / 64) 0) (x % 64)) e
        ∙ ap (λ (x : ℕ). has (get_or active x 0) ((w * 64 + s) % 64)) (omega (arith, l))
        ∙ ap (has (get_or active w 0)) (omega (arith, l)) ∙ h)

    module _ (kept' : Kept) {all' keys' rests' ends' added' log' : List ℕ} {entries' : ℕ}
        (turn : (el : List ℕ) (g : PushdownGame) (old es : List Entry) (i : ℕ) (now : List Entry)
        → GroundOf el g old es i rules marks more
        → ((r : Rule) → r ∈ g.rules → (s : ℕ) → s < 64 → r.number ≡ w * 64 + s → has (get_or active w 0) s ≡ false → (z : ℕ) → RuleEnds g es r z → RuleBefore g old i r z)
        → RulesHeld el g old es i birthdate now (w * 64) rules kept all keys rests ends added log entries
        → RulesDone el g old es i birthdate size now (w * 64 + 64) rules kept' all' keys' rests' ends' added' log' entries') where
      turned-word : (el : List ℕ) (g : PushdownGame) (old es : List Entry) (i : ℕ) (now : List Entry)
          → GroundOf el g old es i rules marks more
          → Unmoved g old es i active
          → RulesHeld el g old es i birthdate now 0 rules kept₀ all₀ keys₀ rests₀ ends₀ added₀ log₀ entries₀
          → RulesDone el g old es i birthdate size now (w * 64 + 64) rules kept' all' keys' rests' ends' added' log' entries'
      turned-word el g old es i now gr off to = turn el g old es i now gr (unmoved-word g old es i off) (k.gone el g old es i now gr off to)

      pub wording-on : w < 4 → entries' ≤ size → kept'.lines ≤ length keys → length keys ≡ length keys₀ → length log' ≡ length log
          → Wording active size birthdate rules marks more kept₀ all₀ keys₀ rests₀ ends₀ added₀ log₀ entries₀ kept' all' keys' rests' ends' added' log' entries' (w + 1)
      wording-on lw fits ln lk ll =
          record {
            room = fits;
            lined = omega (arith, ln, lk);
            logs = ll ∙ k.logs;
            below = omega arith;
            gone =
                λ el g old es i now gr off to.
                ⊎_elim (λ c. absurd (omega (arith, c.0, fits)))
                (λ c. subst (λ (m : ℕ). RulesHeld el g old es i birthdate now m rules kept' all' keys' rests' ends' added' log' entries') (omega arith) c.1)
                (turned-word el g old es i now gr off to);
          }

      pub wording-full : size < entries' → (el : List ℕ) (g : PushdownGame) (old es : List Entry) (i : ℕ) (now : List Entry)
          → GroundOf el g old es i rules marks more
          → Unmoved g old es i active
          → RulesHeld el g old es i birthdate now 0 rules kept₀ all₀ keys₀ rests₀ ends₀ added₀ log₀ entries₀
          → RulesDone el g old es i birthdate size now rules.sizes.rulecount rules kept' all' keys' rests' ends' added' log' entries'
      wording-full beyond el g old es i now gr off to = ⊎_elim inl (λ c. absurd (omega (arith, c.0, beyond))) (turned-word el g old es i now gr off to)

    pub wording-ends : 4 ≤ w → rules.sizes.rulecount ≤ 256 → (el : List ℕ) (g : PushdownGame) (old es : List Entry) (i : ℕ) (now : List Entry)
        → GroundOf el g old es i rules marks more
        → Unmoved g old es i active
        → RulesHeld el g old es i birthdate now 0 rules kept₀ all₀ keys₀ rests₀ ends₀ added₀ log₀ entries₀
        → RulesDone el g old es i birthdate size now rules.sizes.rulecount rules kept all keys rests ends added log entries
    wording-ends done few el g old es i now gr off to =
        inr (k.room, back gr (w * 64) rules.sizes.rulecount (k.gone el g old es i now gr off to) (let b = k.below in omega (arith, done, few)) (λ r m. subst (λ (c : ℕ). r.number < c) (sym gr.owned.counted) (rule-same g gr.good.ranged m).0))
