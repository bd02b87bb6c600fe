-- Lines as they are found and made.
use Prim.Native.Nat.{ℕ, suc, ◌+◌, ◌*◌, ◌-◌, ◌/◌, ◌%◌, ◌^◌, ◌<◌, ◌≤◌}
use native.Mathlib.Omega.{arith}
use native.Mathlib.Nat.{div-lt_iff_lt-mul, pow-suc, one-mul}
use mathlib.Core.Path.{◌≡◌, refl, sym, ap, subst, ◌∙◌}
use mathlib.Core.Logic.{⊎_elim}
use mathlib.Core.Bool.{true, false}
use mathlib.Core.List.{List}
use lib.ListN.{length, get_or, set, replicate}
use lib.Pow.{pow_pos, split}
use borrow.Author.Tests.{eqb-true, eqb-false}
use lib.Seq.{get_or-set_same}
use Rattle.game.specs.Sets.{has}
use Rattle.game.specs.SetLaws.{none_has, has-below, single-has, has-single}
use Rattle.game.specs.LowestLaws.{LowestOf, cleared}
use Rattle.game.specs.ListLaws.{test, clash}
use lib.Bits.{bit_and}
use lib.Dec.{eqb}
use Rattle.unions.specs.ExpandLaws.{alike, same_test}
use Rattle.game.specs.Game.{PushdownGame}
use Rattle.table.specs.Table.{Entry}
use Rattle.family.specs.Family.{UnitesInto, Copied}
use Rattle.family.specs.Masks.{Raising}
use Rattle.unions.specs.Pool.{Pool, Names, of-head, of-line, key_for, Fits}
use Rattle.unions.specs.PoolLaws.{pool-more, pool-none, next_row}
use Rattle.unions.specs.Finding.{Finding, Finds, Top, Kept}
use Rattle.unions.specs.PlaceLaws.{no-sets}
use Rattle.unions.proofs.Passes.{Passing, passing-le, before, rest-cut, turned-less, turned-adds}

module _ (letters heads n : ℕ) (states all keys rests hints : List ℕ) (fits : Fits letters heads n states all keys rests hints) where
  -- where families are
  pub within-area : (f k : ℕ) → f < heads + k → k ≤ length keys → f * n + n ≤ length all
  within-area f k l m = omega (arith, fits.area, next_row f (heads + length keys) n (omega arith))

  pub head-within : (h i c : ℕ) → i < 10 → c < letters → h ≡ get_or states i 0 * letters + c → h < heads
  head-within h i c l m e = omega (arith, e, fits.rows i (omega arith))

-- a line made
module _ (letters heads n y s c : ℕ) (states raising all keys rests : List ℕ) (before count : ℕ) where
  pub made : (key h : ℕ) (unions all' : List ℕ) → count < length keys → length rests ≡ length keys → key ≡ key_for y c → h ≡ get_or states s 0 * letters + c
      → (Raising raising → UnitesInto n all (before * n) all (h * n) (replicate 16 0) unions) → Copied all ((heads + count) * n) n unions 0 all'
      → Finding letters heads n y s c states raising all keys rests before count all' (set keys count key) (set rests count before) (heads + count) (count + 1)
  made key h unions all' room same ek eh u copied el g es z ra lt lc ls ly lz added pool named =
      let e : suc count ≡ count + 1 = omega arith in
      let lc' : c < g.letters = omega arith in
      let named' : Names el g.letters heads keys count before z c = subst (λ (l : ℕ). Names el l heads keys count before z c) lt named in
      let place : h ≡ get_or el s 0 * g.letters + c = eh ∙ ap (λ (w : ℕ). w * letters + c) (pool.listed s ls) ∙ ap (λ (l : ℕ). get_or el s 0 * l + c) lt in
      let p = pool-more el g n heads states es all keys rests count pool before z s y c lc' ls ly lz added named' room (omega arith) (replicate 16 0) unions all' (no-sets 16 0)
      (subst (λ (f : ℕ). UnitesInto n all (before * n) all (f * n) (replicate 16 0) unions) place (u ra)) copied in
      rw (ek) (
        subst (Pool el g n heads states es all' (set keys count (key_for y c)) (set rests count before)) e p,
        of-line count (omega arith) refl (get_or-set_same keys count (key_for y c) 0 room),
      )

-- a set without what is below its highest element
alone : (x top w : ℕ) → Top x top → w ≡ 2 ^ top → x - x % w ≡ 2 ^ top
unfolding has
alone x top w t ew =
    let odd = eqb-true (x / 2 ^ top % 2) 1 t.member in
    let two : x / 2 ^ top < 2 = (div-lt_iff_lt-mul (pow_pos top)).1 (omega (arith, t.under, pow-suc 2 top, ap (λ (i : ℕ). 2 ^ i) (next top))) in
    let one : x / 2 ^ top ≡ 1 = omega (arith, odd, two) in
    let parts : x ≡ 1 * 2 ^ top + x % 2 ^ top = sym (split x top) ∙ ap (λ (q : ℕ). q * 2 ^ top + x % 2 ^ top) one in
    let same : x % w ≡ x % 2 ^ top = ap (λ (v : ℕ). x % v) ew in
    omega (arith, parts, same, one-mul (2 ^ top))
  where
    next : (i : ℕ) → i + 1 ≡ suc i
    next i = omega arith

-- Lines are made for the elements from the highest down: the family at hand has the unions over the elements passed, and there is room
-- for a line for each digit that is left.
pub record Made (x c letters heads n : ℕ) (states raising all₀ keys₀ rests₀ hints₀ : List ℕ) (count₀ rest : ℕ) (all keys rests hints : List ℕ) (family count : ℕ) : Type 0 where
  pub digit : ℕ
  pub left : rest ≡ x % 2 ^ digit
  pub room : count + digit ≤ length keys₀
  pub placed : family < heads + count
  pub areas : length all ≡ length all₀
  pub keyed : length keys ≡ length keys₀
  pub resting : length rests ≡ length rests₀
  pub hinting : length hints ≡ length hints₀
  pub finds : (el : List ℕ) (g : PushdownGame) (es : List Entry) → Raising raising → letters ≡ g.letters → x < 2 ^ length el
      → Pool el g n heads states es all₀ keys₀ rests₀ count₀
      → Pool el g n heads states es all keys rests count × Names el letters heads keys count family (x - rest) c

module _ (x c letters heads n : ℕ) (states raising all₀ keys₀ rests₀ hints₀ : List ℕ) (count₀ : ℕ) where
  -- the highest element
  pub made-first : (top w family count : ℕ) → Top x top → w ≡ 2 ^ top → x < 1024 → family ≡ get_or states top 0 * letters + c → family < heads → 10 ≤ length keys₀
      → Kept count₀ (length keys₀) count
      → Made x c letters heads n states raising all₀ keys₀ rests₀ hints₀ count₀ (x % w) all₀ keys₀ rests₀ hints₀ family count
  made-first top w family count t ew small ef inside long kept =
      record {
        digit = top;
        left = ap (λ (v : ℕ). x % v) ew;
        room = omega (arith, kept.1 long, t.small);
        placed = omega arith;
        areas = refl;
        keyed = refl;
        resting = refl;
        hinting = refl;
        finds =
            λ el g es ra lt lx pool.
            let li : top < length el = has-below (length el) x top lx t.member in (
              ⊎_elim (λ (e : count ≡ count₀). subst (Pool el g n heads states es all₀ keys₀ rests₀) (sym e) pool)
                  (λ (e : count ≡ 0). subst (Pool el g n heads states es all₀ keys₀ rests₀) (sym e) (pool-none el g n heads states es all₀ keys₀ rests₀ count₀ pool))
                  kept.0,
              of-head top li (alone x top w t ew) (ef ∙ ap (λ (s : ℕ). s * letters + c) (pool.listed top li)),
            );
      }

  -- one element more
  module _ (rest : ℕ) (all keys rests hints : List ℕ) (family count : ℕ) (m : Made x c letters heads n states raising all₀ keys₀ rests₀ hints₀ count₀ rest all keys rests hints family count) (small : x < 1024) (s w : ℕ) (t : Top rest s) (ew : w ≡ 2 ^ s) where
    abbrev passed : Passing x rest
    passed = record { digit = m.digit; left = m.left }

    pub made-room : count < length keys
    made-room = omega (arith, m.room, m.keyed, before x rest passed s t)

    pub made-less : rest % w < rest
    made-less = turned-less x rest s w ew passed t

    pub made-on : (all' keys' rests' hints' : List ℕ) (family' count' : ℕ)
        → Finding letters heads n (x - rest % w) s c states raising all keys rests family count all' keys' rests' family' count'
        → (family' < heads + count') × (count' ≤ count + 1) → length all' ≡ length all → length keys' ≡ length keys → length rests' ≡ length rests
        → length hints' ≡ length hints → c < letters
        → Made x c letters heads n states raising all₀ keys₀ rests₀ hints₀ count₀ (rest % w) all' keys' rests' hints' family' count'
    made-on all' keys' rests' hints' family' count' find safe la lk lr lh lc =
        record {
          digit = s;
          left = ap (λ (v : ℕ). rest % v) ew ∙ rest-cut x rest passed s t;
          room = omega (arith, m.room, safe.1, before x rest passed s t);
          placed = safe.0;
          areas = la ∙ m.areas;
          keyed = lk ∙ m.keyed;
          resting = lr ∙ m.resting;
          hinting = lh ∙ m.hinting;
          finds =
              λ el g es ra lt lx pool.
              let now = m.finds el g es ra lt lx pool in
              let added = turned-adds x rest s w ew passed t (length el) lx in
              find el g es (x - rest) ra lt lc (has-below (length el) (x - rest % w) s added.small added.on) added.small (omega arith) added now.0 now.1;
        }

  pub made-small : {rest : ℕ} {all keys rests hints : List ℕ} {family count : ℕ} → Made x c letters heads n states raising all₀ keys₀ rests₀ hints₀ count₀ rest all keys rests hints family count → rest ≤ x
  made-small m = passing-le (record { digit = m.digit; left = m.left })

  pub made-last : (rest : ℕ) (all keys rests hints : List ℕ) (family count : ℕ) → rest ≡ 0 → Made x c letters heads n states raising all₀ keys₀ rests₀ hints₀ count₀ rest all keys rests hints family count
      → Finds letters heads n x c states raising all₀ keys₀ rests₀ count₀ all keys rests family count
  made-last rest all keys rests hints family count e m el g es ra lt lx pool =
      let r = m.finds el g es ra lt lx pool in
      let whole : x - rest ≡ x = omega arith in
      (r.0, subst (λ (z : ℕ). Names el letters heads keys count family z c) whole r.1)

-- a set of one element: its lowest is the only one
pub one-element : (el : List ℕ) (g : PushdownGame) (n heads : ℕ) (states : List ℕ) (es : List Entry) (all keys rests : List ℕ) (count x i letters c f : ℕ)
    → Pool el g n heads states es all keys rests count → x < 2 ^ length el → LowestOf 10 x i → 0 < x → bit_and x (x - 1) ≡ 0 → f ≡ get_or states i 0 * letters + c
    → Names el letters heads keys count f x c
one-element el g n heads states es all keys rests count x i letters c f pool lx low some only ef =
    let li = has-below (length el) x i lx low.member in
    let gone = cleared i x some low.member low.below in
    of-head i li
    (alike x (2 ^ i)
    (λ k.
    same_test (has x k) (has (2 ^ i) k)
    (λ h.
    ⊎_elim (λ (t : eqb k i ≡ true). ap (has (2 ^ i)) (eqb-true k i t) ∙ single-has i)
    (λ (t : eqb k i ≡ false). clash h (sym (gone.kept k (eqb-false k i t)) ∙ ap (λ (w : ℕ). has w k) only ∙ none_has k))
    (test (eqb k i)))
    (λ h. ap (has x) (has-single i k h) ∙ low.member)))
    (ef ∙ ap (λ (s : ℕ). s * letters + c) (pool.listed i li))
