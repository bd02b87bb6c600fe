-- The sets of a word that are looked at, and of a head's family word by word.
use Prim.Native.Nat.{ℕ, zero, suc, ◌+◌, ◌*◌, ◌/◌, ◌%◌, ◌^◌, ◌<◌, ◌≤◌}
use native.Mathlib.Omega.{arith}
use native.Mathlib.Nat.{mul-zero, div-lt_iff_lt-mul, mod-lt, div-add-mod'}
use mathlib.Core.Path.{◌≡◌, refl, sym, ap, subst, ◌∙◌}
use mathlib.Core.Logic.{◌⊎◌, inl, inr, ⊎_elim, ◌↔◌}
use mathlib.Core.Bool.{true, false, not, ◌||◌}
use mathlib.Core.List.{List}
use lib.ListN.{length, get_or}
use lib.Bits.{bit_and, bit_or, bit_xor}
use lib.Dec.{ltb}
use borrow.Author.Tests.{ltb-true, ltb-false}
use Rattle.game.specs.Sets.{has, union}
use Rattle.game.specs.SetLaws.{none_has, single-has, has-single}
use Rattle.game.specs.ListLaws.{test, clash, not-true, both, conj, either, left_or, right_or}
use Rattle.game.specs.Game.{PushdownGame}
use Rattle.table.specs.Table.{Entry}
use Rattle.family.specs.Family.{holds}
use Rattle.game.specs.DigitLaws.{has-and, has-or, has-less}
use Rattle.family.specs.Masks.{Raising}
use Rattle.unions.specs.ExpandLaws.{same_test}
use Rattle.unions.specs.Pool.{Is, Head, Pool}
use Rattle.unions.specs.Ending.{Sum, OfWord, Choice, Picked, Sets}
use Rattle.unions.specs.PlaceLaws.{holds-word}
use Rattle.unions.proofs.Summing.{sum-none}

module _ (old new u m y s still alive : ℕ) (subset : (has u s ≡ true) ↔ (union y still ≡ still)) (living : (has m s ≡ true) ↔ (union y alive ≡ alive)) where
  abbrev word : ℕ
  word = bit_and (bit_or (bit_xor old (bit_and old u)) new) m

  pub chosen : has word s ≡ true → (union y alive ≡ alive) × ((has new s ≡ true) ⊎ ((has old s ≡ true) × (union y still ≡ still → ⊥)))
  chosen h =
      let p = both (has (bit_or (bit_xor old (bit_and old u)) new) s) (has m s) (sym (has-and (bit_or (bit_xor old (bit_and old u)) new) m s) ∙ h) in (
        living.0 p.1,
        ⊎_elim
            (λ k.
            let q = both (has old s) (not (has u s)) (sym (has-less old u s) ∙ k) in
            inr (q.0, λ e. clash (subset.1 e) (not-true _ q.1)))
            inl
            (either (has (bit_xor old (bit_and old u)) s) (has new s) (sym (has-or (bit_xor old (bit_and old u)) new s) ∙ p.0)),
      )

  pub choose : union y alive ≡ alive → (has new s ≡ true) ⊎ ((has old s ≡ true) × (union y still ≡ still → ⊥)) → has word s ≡ true
  choose l moves =
      has-and (bit_or (bit_xor old (bit_and old u)) new) m s
      ∙ conj
      (has-or (bit_xor old (bit_and old u)) new s
      ∙ ⊎_elim (λ k. right_or (has (bit_xor old (bit_and old u)) s) k)
      (λ k. left_or (has new s) (has-less old u s ∙ conj k.0 (ap not (none k.1))))
      moves)
      (living.1 l)
    where
      none : (union y still ≡ still → ⊥) → has u s ≡ false
      none never = ⊎_elim (λ (t : has u s ≡ true). absurd (never (subset.0 t))) (λ (t : has u s ≡ false). t) (test (has u s))

  -- of a word that is not the first
  pub choice-later : 0 < y → (has word s ≡ true) ↔ Choice old new still alive y s
  choice-later some = (λ h. let c = chosen h in record { some = some; lives = c.0; moves = c.1 }, λ c. choose c.lives c.moves)

  -- of the first, without the empty set
  pub choice-first : y ≡ s → (has (bit_xor word (bit_and word 1)) s ≡ true) ↔ Choice old new still alive y s
  choice-first e = (
    λ h.
        let p = both (has word s) (not (has 1 s)) (sym (has-less word 1 s) ∙ h) in
        let c = chosen p.0 in
        record { some = positive (not-true _ p.1); lives = c.0; moves = c.1 },
    λ c. has-less word 1 s ∙ conj (choose c.lives c.moves) (ap not (no_one c.some)),
  )
    where
      positive : has 1 s ≡ false → 0 < y
      positive none = ⊎_elim (λ (t : ltb 0 y ≡ true). ltb-true 0 y t) (λ (t : ltb 0 y ≡ false). let l = ltb-false 0 y t in let z : s ≡ 0 = omega (arith, l) in clash (ap (has 1) z ∙ single-has 0) none) (test (ltb 0 y))

      no_one : 0 < y → has 1 s ≡ false
      no_one l = ⊎_elim (λ (t : has 1 s ≡ true). absurd (let z = has-single 0 s t in omega (arith, z))) (λ (t : has 1 s ≡ false). t) (test (has 1 s))

pub no-first : (w : ℕ) → has (bit_xor w (bit_and w 1)) 0 ≡ false
no-first w = ⊎_elim (λ (t : has (bit_xor w (bit_and w 1)) 0 ≡ true). clash (single-has 0) (not-true _ (both (has w 0) (not (has 1 0)) (sym (has-less w 1 0) ∙ t)).1)) (λ t. t) (test (has (bit_xor w (bit_and w 1)) 0))

-- a head's family is the same wherever the families of a table are kept
pub head-same : (el : List ℕ) (g : PushdownGame) (n heads : ℕ) (states : List ℕ) (es : List Entry) (all keys rests all' keys' rests' : List ℕ) (count count' head : ℕ)
    → Pool el g n heads states es all keys rests count → Pool el g n heads states es all' keys' rests' count' → head < heads → (y : ℕ) → y / 64 < n
    → holds all' (head * n) y ≡ holds all (head * n) y
head-same el g n heads states es all keys rests all' keys' rests' count count' head p p' l y m =
    let row = at_row head g.states g.letters (subst (λ (h : ℕ). head < h) p.rows l) in
    let one : Is el n all (head * n) (Head es row.0 row.1) = subst (λ (f : ℕ). Is el n all (f * n) (Head es row.0 row.1)) (sym row.4) (p.hold row.0 row.1 row.2 row.3) in
    let two : Is el n all' (head * n) (Head es row.0 row.1) = subst (λ (f : ℕ). Is el n all' (f * n) (Head es row.0 row.1)) (sym row.4) (p'.hold row.0 row.1 row.2 row.3) in
    same_test (holds all' (head * n) y) (holds all (head * n) y) (λ h. let r = two.from y m h in one.into y r.0 r.1) (λ h. let r = one.from y m h in two.into y r.0 r.1)
  where
    at_row : (h s l : ℕ) → h < s * l → (q a : ℕ) × (q < s) × (a < l) × (h ≡ q * l + a)
    at_row h s zero less = absurd (omega (arith, less, mul-zero s))
    at_row h s (suc l) less =
        let some : 0 < suc l = omega arith in
        (h / suc l, h % suc l, (div-lt_iff_lt-mul some).1 less, mod-lt h some, sym (div-add-mod' h (suc l)))

-- sums of two kinds of sets
pub sum_both : (el : List ℕ) (g : PushdownGame) (n : ℕ) (es : List Entry) (c : ℕ) (S T W : ℕ → Type 0) (old mid more : List ℕ) → ((x : ℕ) → x < 2 ^ length el → x / 64 < n)
    → Sum el g n es c S old mid → Sum el g n es c T mid more → ((y : ℕ) → S y → W y) → ((y : ℕ) → T y → W y) → ((y : ℕ) → W y → S y ⊎ T y) → Sum el g n es c W old more
sum_both el g n es c S T W old mid more room a b left right parts =
    record {
      from =
          λ x l h.
          ⊎_elim (λ k. ⊎_elim inl (λ q. inr (q.0, (q.1.0, left q.1.0 q.1.1, q.1.2))) (a.from x l k))
          (λ q. inr (q.0, (q.1.0, right q.1.0 q.1.1, q.1.2)))
          (b.from x l h);
      kept = λ x l h. b.kept x l (a.kept x l h);
      into = λ x y l v u. ⊎_elim (λ k. b.kept x (room x l) (a.into x y l k u)) (λ k. b.into x y l k u) (parts y v);
    }

-- the sets of the words before j
abbrev pub Before : ℕ → ℕ → ℕ → ℕ → List ℕ → List ℕ → ℕ → ℕ → Type 0
Before n still alive j all new at y = (y / 64 < j) × Picked n still alive all new at y

pub record Running (head c letters heads n still alive : ℕ) (states raising new more₀ all₀ keys₀ rests₀ hints₀ : List ℕ) (count₀ : ℕ) (more all keys rests hints : List ℕ) (count j : ℕ) : Type 0 where
  pub room : count ≤ length keys₀
  pub mores : length more ≡ length more₀
  pub areas : length all ≡ length all₀
  pub keyed : length keys ≡ length keys₀
  pub resting : length rests ≡ length rests₀
  pub hinting : length hints ≡ length hints₀
  pub sums : (el : List ℕ) (g : PushdownGame) (es : List Entry) → Raising raising → letters ≡ g.letters → Sets el n (head * n) all₀ new
      → Pool el g n heads states es all₀ keys₀ rests₀ count₀
      → Pool el g n heads states es all keys rests count × Sum el g n es c (Before n still alive j all₀ new (head * n)) more₀ more

module _ (head c letters heads n still alive : ℕ) (states raising new more₀ all₀ keys₀ rests₀ hints₀ : List ℕ) (count₀ : ℕ) where
  pub running-starts : count₀ ≤ length keys₀
      → Running head c letters heads n still alive states raising new more₀ all₀ keys₀ rests₀ hints₀ count₀ more₀ all₀ keys₀ rests₀ hints₀ count₀ 0
  running-starts l =
      record {
        room = l;
        mores = refl;
        areas = refl;
        keyed = refl;
        resting = refl;
        hinting = refl;
        sums = λ el g es ra lt sets pool. (pool, sum-none el g n es c (Before n still alive 0 all₀ new (head * n)) more₀ (λ y b. absurd (omega (arith, b.0))));
      }

  module _ (more all keys rests hints more' all' keys' rests' hints' : List ℕ) (count count' j word : ℕ) (w : Running head c letters heads n still alive states raising new more₀ all₀ keys₀ rests₀ hints₀ count₀ more all keys rests hints count j) (lj : j < n) (lh : head < heads) where
    pub running-on : (Raising raising → (s : ℕ) → s < 64 → (has word s ≡ true) ↔ Choice (get_or all (head * n + j) 0) (get_or new (head * n + j) 0) still alive (j * 64 + s) s)
        → ((el : List ℕ) (g : PushdownGame) (es : List Entry) → Raising raising → letters ≡ g.letters → ((s : ℕ) → s < 64 → has word s ≡ true → j * 64 + s < 2 ^ length el)
        → Pool el g n heads states es all keys rests count
        → Pool el g n heads states es all' keys' rests' count' × Sum el g n es c (OfWord word (j * 64)) more more')
        → count' ≤ length keys → length more' ≡ length more → length all' ≡ length all → length keys' ≡ length keys → length rests' ≡ length rests → length hints' ≡ length hints
        → Running head c letters heads n still alive states raising new more₀ all₀ keys₀ rests₀ hints₀ count₀ more' all' keys' rests' hints' count' (j + 1)
    running-on choice adds lc lm la lk lr lh' =
        record {
          room = omega (arith, lc, w.keyed);
          mores = lm ∙ w.mores;
          areas = la ∙ w.areas;
          keyed = lk ∙ w.keyed;
          resting = lr ∙ w.resting;
          hinting = lh' ∙ w.hinting;
          sums =
              λ el g es ra lt sets pool.
              let now = w.sums el g es ra lt sets pool in
              let same = head-same el g n heads states es all₀ keys₀ rests₀ all keys rests count₀ count head pool now.0 lh in
              let is : (s : ℕ) → s < 64 → has word s ≡ true → Picked n still alive all₀ new (head * n) (j * 64 + s) =
              λ s l h.
              let c = (choice ra s l).0 h in
              record {
                within = omega arith;
                some = c.some;
                lives = c.lives;
                moves =
                    ⊎_elim (λ k. inl (holds-word new (head * n) j s l ∙ k))
                    (λ k. inr (sym (same (j * 64 + s) (omega arith)) ∙ holds-word all (head * n) j s l ∙ k.0, k.1))
                    c.moves;
              }
              in
              let added = adds el g es ra lt
              (λ s l h. let p = is s l h in sets (j * 64 + s) p.within (⊎_elim inr (λ k. inl k.0) p.moves))
              now.0 in (
                added.0,
                sum_both el g n es c (Before n still alive j all₀ new (head * n)) (OfWord word (j * 64)) (Before n still alive (j + 1) all₀ new (head * n)) more₀ more more' pool.layout.room now.1
                    added.1
                    (λ y b. (omega (arith, b.0), b.1))
                    (λ y o. let p = is o.0 o.1 o.2 in (omega (arith, o.3, o.1), subst (Picked n still alive all₀ new (head * n)) (sym o.3) p))
                    (λ y b.
                    ⊎_elim (λ (t : ltb (y / 64) j ≡ true). inl (ltb-true (y / 64) j t, b.1))
                    (λ (t : ltb (y / 64) j ≡ false).
                    let last : y / 64 ≡ j = omega (arith, b.0, ltb-false (y / 64) j t) in
                    let parts : y ≡ j * 64 + y % 64 = omega arith in
                    let small : y % 64 < 64 = mod-lt y (omega arith) in
                    let p = subst (Picked n still alive all₀ new (head * n)) parts b.1 in
                    inr (
                      y % 64,
                      small,
                      (choice ra (y % 64) small).1
                          (record {
                            some = p.some;
                            lives = p.lives;
                            moves =
                                ⊎_elim (λ k. inl (sym (holds-word new (head * n) j (y % 64) small) ∙ k))
                                (λ k. inr (sym (holds-word all (head * n) j (y % 64) small) ∙ same (j * 64 + y % 64) p.within ∙ k.0, k.1))
                                p.moves;
                          }),
                      parts,
                    ))
                    (test (ltb (y / 64) j))),
              );
        }

  -- a word that has no set
  pub running-skips : (more all keys rests hints : List ℕ) (count j : ℕ) → Running head c letters heads n still alive states raising new more₀ all₀ keys₀ rests₀ hints₀ count₀ more all keys rests hints count j
      → j < n → head < heads → bit_or (get_or all (head * n + j) 0) (get_or new (head * n + j) 0) ≡ 0 → length keys ≡ length keys₀
      → Running head c letters heads n still alive states raising new more₀ all₀ keys₀ rests₀ hints₀ count₀ more all keys rests hints count (j + 1)
  running-skips more all keys rests hints count j w lj lh e lk =
      running-on more all keys rests hints more all keys rests hints count count j 0 w lj lh
      (λ ra s l. (λ h. clash h (none_has s), λ q. ⊎_elim (λ k. clash (right_or (has (get_or all (head * n + j) 0) s) k) (none s)) (λ k. clash (left_or (has (get_or new (head * n + j) 0) s) k.0) (none s)) q.moves))
      (λ el g es ra lt small pool. (pool, sum-none el g n es c (OfWord 0 (j * 64)) more (λ y o. clash o.2 (none_has o.0))))
      (omega (arith, w.room, lk)) refl refl refl refl refl
    where
      none : (s : ℕ) → (has (get_or all (head * n + j) 0) s || has (get_or new (head * n + j) 0) s) ≡ false
      none s = sym (has-or (get_or all (head * n + j) 0) (get_or new (head * n + j) 0) s) ∙ ap (λ (v : ℕ). has v s) e ∙ none_has s

  pub running-ends : (more all keys rests hints : List ℕ) (count j : ℕ) → n ≤ j
      → Running head c letters heads n still alive states raising new more₀ all₀ keys₀ rests₀ hints₀ count₀ more all keys rests hints count j
      → (el : List ℕ) (g : PushdownGame) (es : List Entry) → Raising raising → letters ≡ g.letters → Sets el n (head * n) all₀ new
      → Pool el g n heads states es all₀ keys₀ rests₀ count₀
      → Pool el g n heads states es all keys rests count × Sum el g n es c (Picked n still alive all₀ new (head * n)) more₀ more
  running-ends more all keys rests hints count j l w el g es ra lt sets pool =
      let r = w.sums el g es ra lt sets pool in (
        r.0,
        record {
          from = λ x m h. ⊎_elim inl (λ q. inr (q.0, (q.1.0, q.1.1.1, q.1.2))) (r.1.from x m h);
          kept = r.1.kept;
          into = λ x y m p u. r.1.into x y m (omega (arith, p.within), p) u;
        },
      )
