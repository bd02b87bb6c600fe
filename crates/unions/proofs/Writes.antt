-- What the ends of runs over the word of a rule have more, by the number of letters that it writes.
use Prim.Native.Nat.{ℕ, ◌+◌, ◌*◌, ◌/◌, ◌%◌, ◌^◌, ◌<◌, ◌≤◌}
use native.Mathlib.Omega.{arith}
use mathlib.Core.Path.{◌≡◌, refl, sym, ap, subst, ◌∙◌}
use mathlib.Core.Logic.{inr, ⊎_elim}
use mathlib.Core.Bool.{Bool, true, false, not, ◌&&◌}
use mathlib.Core.List.Memᴰ
use mathlib.Core.List.{List, []}
use lib.ListN.{length, get_or}
use lib.Bits.{bit_and, bit_xor, xor_lt, and_le_l}
use lib.Dec.{eqb}
use lib.Pow.{pow-lt}
use borrow.Author.Tests.{eqb-true, eq-eqb}
use Rattle.game.specs.Sets.{has, single}
use Rattle.game.specs.ListLaws.{clash, both, conj, either, right_or, test, flat_map-in, in-flat_map}
use Rattle.game.specs.Game.{Rule, PushdownGame, word_of}
use Rattle.game.specs.Stored.{rule_at}
use Rattle.table.specs.Table.{Entry}
use Rattle.judge.proofs.Target.{zero-or-more}
use Rattle.family.specs.Family.{holds, Put, Copied}
use Rattle.game.specs.DigitLaws.{has-less}
use Rattle.rounds.specs.Rounds.{sets_of, ends}
use Rattle.rounds.specs.EndsLaws.{sets_of-in}
use Rattle.unions.specs.Expand.{expand}
use Rattle.unions.specs.ExpandLaws.{expand-single, expand-same}
use Rattle.unions.specs.UnionSteps.{unions_of}
use Rattle.unions.specs.Pool.{Grew, Head, Pool}
use Rattle.unions.specs.JoinLaws.{grew-as}
use Rattle.unions.specs.Ending.{Sum, Picked, Sets, Ends, Before, NoSets, Listed, Growth, RuleEnds, RuleBefore}
use Rattle.unions.specs.EndingLaws.{copied-grew, runs-grew}

-- no transition is in an empty table
no-head : (q a z : ℕ) → Head [] q a z → ⊥
no-head q a z m = let r = sets_of-in [] q a m in Memᴰ.not-nil r.1

module _ (el : List ℕ) (g : PushdownGame) (n heads : ℕ) (states : List ℕ) (old es : List Entry) (i : ℕ) (all keys rests : List ℕ) (count : ℕ) (numbers new fresh alive : List ℕ) (pool : Pool el g n heads states es all keys rests count) (growth : Growth el g n old es i numbers new fresh alive) (q b c : ℕ) (lq : q < g.states) where
  -- an older table has transitions only after the first round
  later : (a z : ℕ) → Head old q a z → 0 < i
  later a z m = ⊎_elim (λ (e : i ≡ 0). absurd (no-head q a z (subst (λ (es : List Entry). Head es q a z) (growth.first e) m))) (λ l. l) (zero-or-more i)

  -- no letters
  pub ends-none : (w m : ℕ) (none more : List ℕ) → w ≡ 0 → Listed el q → m ≡ get_or numbers q 0 → NoSets none → Put none 0 m more
      → Grew el n more 0 (Ends g es q (word_of w b c)) (Before g old i q (word_of w b c))
  unfolding ends word_of
  ends-none w m none more ew listed em empty put =
      rw ew
      (record {
        from =
            λ x l h.
            let e = only x h in (
              subst (λ (v : ℕ). v < 2 ^ length el) (sym e) (pow-lt listed.1),
              Memᴰ.head (ap (expand el) e ∙ place),
            );
        into =
            λ x l p.
            let e : expand el x ≡ expand el (2 ^ listed.0) = Memᴰ.eq_of_singleton p ∙ sym place in
            let same = expand-same el g.states pool.layout.elements x (2 ^ listed.0) l (pow-lt listed.1) e in
            inr (subst (λ (v : ℕ). holds more 0 v ≡ true) (sym (same ∙ sym number)) (put 0 m ∙ right_or (holds none 0 m) refl-place));
      })
    where
      number : m ≡ 2 ^ listed.0
      number = em ∙ ap (λ (v : ℕ). get_or numbers v 0) (sym listed.2) ∙ growth.numbered listed.0 listed.1

      place : expand el (2 ^ listed.0) ≡ single q
      place = expand-single el g.states pool.layout.elements listed.0 listed.1 ∙ ap single listed.2

      refl-place : (eqb (0 + m / 64) (0 + m / 64) && eqb (m % 64) (m % 64)) ≡ true
      refl-place = conj (eq-eqb (0 + m / 64) (0 + m / 64) refl) (eq-eqb (m % 64) (m % 64) refl)

      only : (x : ℕ) → holds more 0 x ≡ true → x ≡ 2 ^ listed.0
      only x h =
          ⊎_elim (λ k. clash k (empty x))
          (λ k.
          let p = both (eqb (0 + x / 64) (0 + m / 64)) (eqb (x % 64) (m % 64)) k in
          let hi = eqb-true (0 + x / 64) (0 + m / 64) p.0 in
          let lo = eqb-true (x % 64) (m % 64) p.1 in
          let e : x ≡ m = omega (arith, hi, lo) in
          e ∙ number)
          (either (holds none 0 x) (eqb (0 + x / 64) (0 + m / 64) && eqb (x % 64) (m % 64)) (sym (put 0 x) ∙ h))

  -- one letter
  pub ends-one : (w letters h : ℕ) (none more : List ℕ) → w ≡ 1 → letters ≡ g.letters → b < g.letters → h ≡ q * letters + b → Copied none 0 n new (h * n) more
      → Grew el n more 0 (Ends g es q (word_of w b c)) (Before g old i q (word_of w b c))
  unfolding ends word_of
  ends-one w letters h none more ew lt lb eh copied =
      rw ew
      (grew-as
      (copied-grew el n none more new (h * n) (Head es q b) (Head old q b) pool.layout.room
      (subst (λ (f : ℕ). Grew el n new (f * n) (Head es q b) (Head old q b)) (sym (eh ∙ ap (λ (l : ℕ). q * l + b) lt)) (growth.grew q b lq lb))
      copied)
      (λ z m. m)
      (λ z m. m)
      (λ z m. (later b z m, m)))

  -- two letters
  pub sets-row : (letters h : ℕ) → letters ≡ g.letters → b < g.letters → h ≡ q * letters + b → Sets el n (h * n) all new
  sets-row letters h lt lb eh y l k =
      let e : h ≡ q * g.letters + b = eh ∙ ap (λ (l : ℕ). q * l + b) lt in
      ⊎_elim (λ m. ((pool.hold q b lq lb).from y l (subst (λ (f : ℕ). holds all (f * n) y ≡ true) e m)).0)
      (λ m. ((growth.grew q b lq lb).from y l (subst (λ (f : ℕ). holds new (f * n) y ≡ true) e m)).0) k

  pub ends-two : (w letters h : ℕ) (none more : List ℕ) → (w ≡ 0 → ⊥) → (w ≡ 1 → ⊥) → w ≤ 2 → letters ≡ g.letters → b < g.letters → c < g.letters → h ≡ q * letters + b → NoSets none
      → Sum el g n es c (Picked n (bit_xor 1023 (bit_and 1023 (get_or fresh c 0))) (get_or alive c 0) all new (h * n)) none more
      → Grew el n more 0 (Ends g es q (word_of w b c)) (Before g old i q (word_of w b c))
  unfolding ends word_of
  ends-two w letters h none more n0 n1 few lt lb lc eh empty sum =
      let two : w ≡ 2 = omega (arith, n0, n1) in
      let e : h ≡ q * g.letters + b = eh ∙ ap (λ (l : ℕ). q * l + b) lt in
      let still = bit_xor 1023 (bit_and 1023 (get_or fresh c 0)) in
      rw two
      (grew-as
      (runs-grew el g n pool.layout old es pool.within q b c still (get_or alive c 0) lq lb all new none more pool.hold growth.grew filled
      (λ k z l on m. growth.touched c k z lc l (off (both (has 1023 k) (not (has (get_or fresh c 0) k)) (sym (has-less 1023 (get_or fresh c 0) k) ∙ on)).1) m)
      (λ k z l none m. growth.dead c k z lc l none m)
      empty
      (subst (λ (f : ℕ). Sum el g n es c (Picked n still (get_or alive c 0) all new (f * n)) none more) e sum))
      (λ z r. in-flat_map (unions_of g es c) r.1 r.2)
      (λ z m. flat_map-in (unions_of g es c) (sets_of es q b) m)
      (λ z r. (later b r.0 r.1, in-flat_map (unions_of g old c) r.1 r.2)))
    where
      off : {t : Bool} → not t ≡ true → t ≡ false
      off {t} h = ⊎_elim (λ (u : t ≡ true). clash h (ap not u)) (λ (u : t ≡ false). u) (test t)

      filled : Head es q b 0 → ⊥
      filled m =
          let r = sets_of-in es q b m in
          let p = (growth.ranged r.0 r.1).set.filled in
          omega (arith, p, r.3)

pub still-small : (f : ℕ) → bit_xor 1023 (bit_and 1023 f) < 1024
still-small f = xor_lt 10 1023 (bit_and 1023 f) (omega arith) (omega (arith, and_le_l 1023 f))

-- the ends of a rule by its bytes
module _ (el : List ℕ) (g : PushdownGame) (n : ℕ) (old es : List Entry) (i r : ℕ) (rules : List ℕ) (rule : Rule) (eq : rule ≡ rule_at rules (r * 6) rule.number) where
  pub to_is : get_or rules (r * 6 + 2) 0 ≡ rule.to
  to_is = sym (ap (λ (x : Rule). x.to) eq)

  pub count-is : get_or rules (r * 6 + 3) 0 ≡ rule.count
  count-is = sym (ap (λ (x : Rule). x.count) eq)

  pub rule-more : (q w b c : ℕ) (more : List ℕ) → q ≡ get_or rules (r * 6 + 2) 0 → w ≡ get_or rules (r * 6 + 3) 0 → b ≡ get_or rules (r * 6 + 4) 0 → c ≡ get_or rules (r * 6 + 5) 0
      → Grew el n more 0 (Ends g es q (word_of w b c)) (Before g old i q (word_of w b c)) → Grew el n more 0 (RuleEnds g es rule) (RuleBefore g old i rule)
  rule-more q w b c more eq' ew eb ec grew =
      rw (sym (eq' ∙ to_is), sym (ew ∙ count-is), sym (eb ∙ sym (ap (λ (x : Rule). x.above) eq)), sym (ec ∙ sym (ap (λ (x : Rule). x.below) eq))) grew
