-- A walk has at most 32 levels, and it ends. The states left at a level are fewer than those at the level before it. What falls from
-- turn to turn is the number of entries not taken yet, counted at each level as more than all that the levels after it could take.
use Prim.Native.Nat.{ℕ, zero, suc, ◌+◌, ◌*◌, ◌-◌, ◌%◌, ◌^◌, ◌<◌, ◌≤◌}
use native.Mathlib.Omega.{arith}
use native.Mathlib.Nat.{mod-lt, mul-le-mul_right}
use mathlib.Core.Path.{◌≡◌, refl, ap, ap₂, subst, ◌∙◌}
use mathlib.Core.Logic.{⊎_elim}
use mathlib.Core.Bool.{true, false}
use mathlib.Core.List.{List}
use lib.ListN.{length, get_or, set, replicate, length-set}
use lib.Seq.{get_or-set_same, get_or-set_other}
use lib.Pow.{pow_pos, pow_mono}
use lib.Dec.{ltb}
use borrow.Author.Tests.{ltb-true, ltb-false}
use Rattle.game.specs.SetLaws.{has_above}
use Rattle.game.specs.ListLaws.{test, clash}
use Rattle.rounds.specs.Scans.{Highest}

pub record Bounded (lefts unions nexts limits : List ℕ) (count depth left i : ℕ) : Type 0 where
  pub lefts-long : length lefts ≡ 32
  pub unions-long : length unions ≡ 32
  pub nexts-long : length nexts ≡ 32
  pub limits-long : length limits ≡ 32
  pub some : 0 < left
  pub fits : left < 2 ^ (32 - depth)
  pub within : i ≤ count
  pub waits : (d : ℕ) → d < depth → (0 < get_or lefts d 0) × (get_or lefts d 0 < 2 ^ (32 - d)) × (get_or nexts d 0 ≤ count)

-- where none waits
pub bounded-start : (count left i : ℕ) → 0 < left → left < 4294967296 → i ≤ count
    → Bounded (replicate 32 0) (replicate 32 0) (replicate 32 0) (replicate 32 0) count 0 left i
bounded-start count left i some small l =
    record {
      lefts-long = refl;
      unions-long = refl;
      nexts-long = refl;
      limits-long = refl;
      some = some;
      fits = small;
      within = l;
      waits = λ d m. absurd (omega arith);
    }

module _ (lefts unions nexts limits : List ℕ) (count depth left i : ℕ) (b : Bounded lefts unions nexts limits count depth left i) where
  pub deep : depth < 32
  deep =
      ⊎_elim (λ (t : ltb depth 32 ≡ true). ltb-true depth 32 t)
      (λ (t : ltb depth 32 ≡ false).
      let none : 32 - depth ≡ 0 = omega (arith, ltb-false depth 32 t) in
      let less : left < 2 ^ 0 = subst (λ (k : ℕ). left < 2 ^ k) none b.fits in
      absurd (omega (arith, b.some, less)))
      (test (ltb depth 32))

  -- another entry
  pub bounded_at : (j : ℕ) → j ≤ count → Bounded lefts unions nexts limits count depth left j
  bounded_at j l =
      record {
        lefts-long = b.lefts-long;
        unions-long = b.unions-long;
        nexts-long = b.nexts-long;
        limits-long = b.limits-long;
        some = b.some;
        fits = b.fits;
        within = l;
        waits = b.waits;
      }

  -- the level before
  pub bounded-before : (d : ℕ) → d < depth → Bounded lefts unions nexts limits count d (get_or lefts d 0) (get_or nexts d 0)
  bounded-before d l =
      let w = b.waits d l in
      record {
        lefts-long = b.lefts-long;
        unions-long = b.unions-long;
        nexts-long = b.nexts-long;
        limits-long = b.limits-long;
        some = w.0;
        fits = w.1;
        within = w.2;
        waits = λ k m. b.waits k (omega arith);
      }

  -- the level after
  module _ (q : ℕ) (high : Highest left q) where
    low : q < 32 - depth
    low =
        ⊎_elim (λ (t : ltb q (32 - depth) ≡ true). ltb-true q (32 - depth) t)
        (λ (t : ltb q (32 - depth) ≡ false).
        clash (high.member b.some) (has_above (32 - depth) left q b.fits (ltb-false q (32 - depth) t)))
        (test (ltb q (32 - depth)))

    less_one : q < 32 - depth → q ≤ 32 - (depth + 1)
    less_one l = omega arith

    rest-fits : left % 2 ^ q < 2 ^ (32 - (depth + 1))
    rest-fits = omega (arith, mod-lt left (pow_pos q), pow_mono (less_one low))

    pub bounded-after : (rest union next limit start : ℕ) → rest ≡ left % 2 ^ q → (rest ≡ 0 → ⊥) → next ≤ count → start ≤ count
        → Bounded (set lefts depth left) (set unions depth union) (set nexts depth next) (set limits depth limit) count (depth + 1) rest start
    bounded-after rest union next limit start e more l m =
        record {
          lefts-long = rw length-set b.lefts-long;
          unions-long = rw length-set b.unions-long;
          nexts-long = rw length-set b.nexts-long;
          limits-long = rw length-set b.limits-long;
          some = omega (arith, more);
          fits = rw e rest-fits;
          within = m;
          waits =
              λ d k.
              ⊎_elim
              (λ (t : ltb d depth ≡ true).
              let less = ltb-true d depth t in
              rw
              (get_or-set_other lefts depth d left 0 (λ x. omega arith), get_or-set_other nexts depth d next 0 (λ x. omega arith))
              (b.waits d less))
              (λ (t : ltb d depth ≡ false).
              let same : d ≡ depth = omega (arith, ltb-false d depth t) in
              rw
              (same, get_or-set_same lefts depth left 0 (omega (arith, deep, b.lefts-long)), get_or-set_same nexts depth next 0 (omega (arith, deep, b.nexts-long)))
              (b.some, b.fits, l))
              (test (ltb d depth));
        }

-- how much an entry counts where k more levels may follow
unfoldable pub scale : ℕ → ℕ → ℕ
scale count zero = 1
scale count (suc k) = (count + 2) * scale count k

scale-some : (count k : ℕ) → 0 < scale count k
unfolding scale
scale-some count zero = omega arith
scale-some count (suc k) = omega (arith, mul-le-mul_right (scale count k) (two count), scale-some count k)
  where
    two : (c : ℕ) → 1 ≤ c + 2
    two c = omega arith

scale-step : (count k : ℕ) → scale count (suc k) ≡ (count + 2) * scale count k
unfolding scale
scale-step count k = refl

scale_at : (count depth : ℕ) → depth < 32 → scale count (32 - depth) ≡ (count + 2) * scale count (32 - suc depth)
scale_at count depth l =
    let one : 32 - depth ≡ suc (32 - suc depth) = omega arith in
    ap (scale count) one ∙ scale-step count (32 - suc depth)

-- what waits, and all that is left
unfoldable pub waiting : List ℕ → ℕ → ℕ → ℕ
waiting nexts count zero = 0
waiting nexts count (suc d) = (count + 1 - get_or nexts d 0) * scale count (32 - d) + waiting nexts count d

unfoldable pub remaining : List ℕ → ℕ → ℕ → ℕ → ℕ
remaining nexts count depth i = waiting nexts count depth + (count + 1 - i) * scale count (32 - depth)

-- a product falls with its first factor
falls : (a b w : ℕ) → a < b → 0 < w → a * w + w ≤ b * w
falls a b w l some = omega (arith, mul-le-mul_right w l)

waiting-same : (nexts : List ℕ) (count d k x : ℕ) → k ≤ d → waiting (set nexts d x) count k ≡ waiting nexts count k
unfolding waiting
waiting-same nexts count d zero x l = refl
waiting-same nexts count d (suc k) x l =
    ap₂ (λ (a : ℕ) (b : ℕ). (count + 1 - a) * scale count (32 - k) + b) (get_or-set_other nexts d k x 0 (λ e. omega arith))
    (waiting-same nexts count d k x (omega arith))

-- the next entry is taken
pub falls-here : (nexts : List ℕ) (count depth i found : ℕ) → i ≤ found → found < count
    → remaining nexts count depth (found + 1) < remaining nexts count depth i
unfolding remaining
falls-here nexts count depth i found l m =
    let w = scale count (32 - depth) in
    omega (arith, falls (count + 1 - (found + 1)) (count + 1 - i) w (omega arith) (scale-some count (32 - depth)), scale-some count (32 - depth))

-- a level is done
pub falls-before : (nexts : List ℕ) (count depth i : ℕ) → 0 < depth → i ≤ count
    → remaining nexts count (depth - 1) (get_or nexts (depth - 1) 0) < remaining nexts count depth i
unfolding remaining waiting
falls-before nexts count zero i some l = absurd (omega arith)
falls-before nexts count (suc d) i some l =
    let same : suc d - 1 ≡ d = omega arith in
    let w = scale count (32 - suc d) in
    rw same
    (omega (arith, falls 0 (count + 1 - i) w (omega arith) (scale-some count (32 - suc d)), scale-some count (32 - suc d)))

-- a level is opened
pub falls-after : (nexts : List ℕ) (count depth i found start : ℕ) → depth < 32 → length nexts ≡ 32 → i ≤ found → found < count
    → remaining (set nexts depth (found + 1)) count (depth + 1) start < remaining nexts count depth i
unfolding remaining waiting
falls-after nexts count depth i found start deep long l m =
    let next : depth + 1 ≡ suc depth = omega arith in
    let w = scale count (32 - depth) in
    let v = scale count (32 - suc depth) in
    let wide : w ≡ (count + 2) * v = scale_at count depth deep in
    let mine = falls (count + 1 - (found + 1)) (count + 1 - i) w (omega arith) (scale-some count (32 - depth)) in
    let theirs = falls (count + 1 - start) (count + 2) v (omega arith) (scale-some count (32 - suc depth)) in
    rw (next, get_or-set_same nexts depth (found + 1) 0 (omega arith), waiting-same nexts count depth depth (found + 1) (omega arith))
    (omega (arith, mine, theirs, wide, scale-some count (32 - suc depth)))
