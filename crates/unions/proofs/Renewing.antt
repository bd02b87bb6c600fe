-- A line brought up to a table, as the code does it.
use Prim.Native.Nat.{ℕ, suc, ◌+◌, ◌*◌, ◌/◌, ◌%◌, ◌^◌, ◌<◌, ◌≤◌, min}
use native.Mathlib.Omega.{arith}
use native.Mathlib.Nat.{zero-div}
use mathlib.Core.Path.{◌≡◌, refl, sym, ap, subst, ◌∙◌}
use mathlib.Core.Logic.{⊎_elim}
use mathlib.Core.Bool.{true, false}
use mathlib.Core.List.{List}
use lib.ListN.{length, get_or, replicate}
use lib.Bits.{bit_and, and_shr, and_step, and_le_l}
use lib.Arith.{digits_mod}
use lib.Dec.{ltb}
use borrow.Author.Tests.{eqb-true, ltb-true, ltb-false, ne_eqb}
use Rattle.game.specs.Sets.{has}
use Rattle.game.specs.LowestLaws.{LowestOf}
use Rattle.game.specs.ListLaws.{test, clash}
use Rattle.game.specs.Game.{PushdownGame}
use Rattle.table.specs.Table.{Entry}
use Rattle.family.specs.Family.{UnitesInto, TakenIn, Cleared}
use Rattle.family.specs.Masks.{Raising}
use Rattle.unions.specs.Pool.{Line}
use Rattle.unions.specs.PoolLaws.{Passing, element-set, line-skipped, line_taken, names-place, next_row}
use Rattle.unions.specs.Finding.{Renewing, Renewable}
use Rattle.unions.specs.PlaceLaws.{no-sets}

-- where two sets have no common member
pub and-off : (a b i : ℕ) → bit_and a b ≡ 0 → has a i ≡ true → has b i ≡ false
unfolding has
and-off a b i e h =
    let on = eqb-true (a / 2 ^ i % 2) 1 h in
    let both : min (a / 2 ^ i % 2) (b / 2 ^ i % 2) ≡ 0 =
    sym (ap (λ (w : ℕ). w % 2) (and_step (a / 2 ^ i) (b / 2 ^ i)) ∙ digits_mod (bit_and (a / 2 ^ i / 2) (b / 2 ^ i / 2)) (omega arith))
    ∙ ap (λ (w : ℕ). w % 2) (sym (and_shr a b i) ∙ ap (λ (w : ℕ). w / 2 ^ i) e ∙ zero-div (2 ^ i)) in
    ne_eqb (b / 2 ^ i % 2) 1 (λ one. omega (arith, on, both, one))

pub and-some : (a b : ℕ) → (bit_and a b ≡ 0 → ⊥) → 0 < a
and-some a b some = omega (arith, some, and_le_l a b)

module _ (el : List ℕ) (g : PushdownGame) (n heads letters : ℕ) (states : List ℕ) (old es : List Entry) (fresh keys rests : List ℕ) (count k : ℕ) (lk : k < count) (lt : letters ≡ g.letters) (r : Renewing el g n heads states old es fresh keys rests count) where
  abbrev line : Line el g heads keys rests k
  line = r.lines k lk

  module _ (key : ℕ) (ek : key ≡ get_or keys k 0) where
    pub key_set : key % 1024 ≡ line.set
    key_set = let l = element-set el g.states line.set r.layout.elements line.small in let e = ek ∙ line.keyed in omega (arith, e, l)

    pub key-letter : key / 1024 ≡ line.letter
    key-letter = let l = element-set el g.states line.set r.layout.elements line.small in let e = ek ∙ line.keyed in omega (arith, e, l)

    pub letter-fails : letters ≤ key / 1024 → ⊥
    letter-fails h = omega (arith, h, key-letter, line.below, lt)

    pub rest-fails : (rest : ℕ) → rest ≡ get_or rests k 0 → heads + k ≤ rest → ⊥
    rest-fails rest e h = omega (arith, e, h, names-place el g n r.layout heads keys k (get_or rests k 0) line.rest line.letter line.below r.rows line.named)

    module _ (all new : List ℕ) (p : Passing el g n heads keys old es all new k count) where
      pub renewed-none : (new' : List ℕ) → bit_and (key % 1024) (get_or fresh (key / 1024) 0) ≡ 0 → Cleared new ((heads + k) * n) n new'
          → Passing el g n heads keys old es all new' (suc k) count
      renewed-none new' e cleared =
          line-skipped el g n r.layout heads keys old es all new all new' k count r.rows p (λ place x o. refl) cleared.elsewhere rests line lk r.kept
          (λ i z li on m.
          r.touched line.letter i z line.below li
          (and-off line.set (get_or fresh line.letter 0) i
          (ap (λ (w : ℕ). bit_and w (get_or fresh line.letter 0)) (sym key_set) ∙ ap (λ (w : ℕ). bit_and (key % 1024) (get_or fresh w 0)) (sym key-letter) ∙ e)
          on)
          m)
          (λ x l. refl)
          (λ x l. cleared.here ((heads + k) * n) x (omega arith) (omega arith))

      pub renewed : (i head rest : ℕ) (d₁ d₂ all' new' : List ℕ) → LowestOf 10 (key % 1024) i → head ≡ get_or states i 0 * letters + key / 1024 → rest ≡ get_or rests k 0
          → UnitesInto n all (rest * n) new (head * n) (replicate 16 0) d₁ → UnitesInto n all (head * n) new (rest * n) d₁ d₂
          → TakenIn n d₂ ((heads + k) * n) all all' new new' → Passing el g n heads keys old es all' new' (suc k) count
      renewed i head rest d₁ d₂ all' new' low eh er u₁ u₂ t =
          line_taken el g n r.layout heads keys old es all new all' new' k count r.rows p t.elsewhere t.apart rests line lk r.kept (replicate 16 0) d₁ d₂ (no-sets 16 0) r.within
          (subst (λ (f : ℕ). UnitesInto n all (f * n) new (place * n) (replicate 16 0) d₁) er (subst (λ (f : ℕ). UnitesInto n all (rest * n) new (f * n) (replicate 16 0) d₁) same u₁))
          (subst (λ (f : ℕ). UnitesInto n all (place * n) new (f * n) d₁ d₂) er (subst (λ (f : ℕ). UnitesInto n all (f * n) new (rest * n) d₁ d₂) same u₂))
          t
        where
          place : ℕ
          place = get_or el line.element 0 * g.letters + line.letter

          lowest-same : i ≡ line.element
          lowest-same =
              let on : has line.set i ≡ true = ap (λ (w : ℕ). has w i) (sym key_set) ∙ low.member in
              ⊎_elim (λ (u : ltb i line.element ≡ true). clash on (line.added.low i (ltb-true i line.element u)))
              (λ (u : ltb i line.element ≡ false).
              ⊎_elim
              (λ (v : ltb line.element i ≡ true). clash (ap (λ (w : ℕ). has w line.element) key_set ∙ line.added.on) (low.below line.element (ltb-true line.element i v)))
              (λ (v : ltb line.element i ≡ false). let a = ltb-false i line.element u in let b = ltb-false line.element i v in omega (arith, a, b))
              (test (ltb line.element i)))
              (test (ltb i line.element))

          same : head ≡ place
          same =
              eh ∙ ap (λ (w : ℕ). get_or states w 0 * letters + key / 1024) lowest-same
              ∙ ap (λ (w : ℕ). w * letters + key / 1024) (r.listed line.element line.listed)
              ∙ ap (λ (w : ℕ). get_or el line.element 0 * w + key / 1024) lt
              ∙ ap (λ (w : ℕ). get_or el line.element 0 * g.letters + w) key-letter

-- where families are
module _ (letters heads n : ℕ) (states all new keys rests fresh : List ℕ) (fits : Renewable letters heads n states all new keys rests fresh) where
  pub old-area : (f m : ℕ) → f < heads + m → m ≤ length keys → f * n + n ≤ length all
  old-area f m l h = omega (arith, fits.area, next_row f (heads + length keys) n (omega arith))

  pub new-area : (f m : ℕ) → f < heads + m → m ≤ length keys → f * n + n ≤ length new
  new-area f m l h = omega (arith, fits.alike, old-area f m l h)

  pub head-inside : (h i c : ℕ) → i < 10 → c < letters → h ≡ get_or states i 0 * letters + c → h < heads
  head-inside h i c l m e = omega (arith, e, fits.rows i (omega arith))

pub renewable-on : {letters heads n : ℕ} {states all new keys rests fresh all' new' : List ℕ} → Renewable letters heads n states all new keys rests fresh → length all' ≡ length all
    → length new' ≡ length new → Renewable letters heads n states all' new' keys rests fresh
renewable-on f a b =
    record {
      long = f.long;
      rows = f.rows;
      few = f.few;
      words = f.words;
      area = rw a f.area;
      alike = b ∙ f.alike ∙ sym a;
      most = f.most;
      same = f.same;
      masks = f.masks;
    }

-- lines are brought up one after another
pub record Renewed (letters heads n : ℕ) (states raising all₀ new₀ keys rests fresh : List ℕ) (count : ℕ) (all new : List ℕ) (k : ℕ) : Type 0 where
  pub below : k ≤ count
  pub areas : length all ≡ length all₀
  pub news : length new ≡ length new₀
  pub passes : (el : List ℕ) (g : PushdownGame) (old es : List Entry) → Raising raising → letters ≡ g.letters
      → Renewing el g n heads states old es fresh keys rests count → Passing el g n heads keys old es all₀ new₀ 0 count
      → Passing el g n heads keys old es all new k count

pub renewed-on : {letters heads n : ℕ} {states raising all₀ new₀ keys rests fresh : List ℕ} {count : ℕ} {all new : List ℕ} {k : ℕ} {all' new' : List ℕ}
    → Renewed letters heads n states raising all₀ new₀ keys rests fresh count all new k → k < count
    → ((el : List ℕ) (g : PushdownGame) (old es : List Entry) (count : ℕ) → Raising raising → letters ≡ g.letters → k < count
    → Renewing el g n heads states old es fresh keys rests count → Passing el g n heads keys old es all new k count
    → Passing el g n heads keys old es all' new' (suc k) count)
    → length all' ≡ length all → length new' ≡ length new → Renewed letters heads n states raising all₀ new₀ keys rests fresh count all' new' (k + 1)
renewed-on {heads = heads} {n = n} {keys = keys} {count = count} {k = k} {all' = all'} {new' = new'} w l step a b =
    let e : suc k ≡ k + 1 = omega arith in
    record {
      below = omega arith;
      areas = a ∙ w.areas;
      news = b ∙ w.news;
      passes = λ el g old es ra lt r p. subst (λ (j : ℕ). Passing el g n heads keys old es all' new' j count) e (step el g old es count ra lt l r (w.passes el g old es ra lt r p));
    }

pub renewed-last : {letters heads n : ℕ} {states raising all₀ new₀ keys rests fresh : List ℕ} {count : ℕ} {all new : List ℕ} {k : ℕ}
    → Renewed letters heads n states raising all₀ new₀ keys rests fresh count all new k → count ≤ k
    → (el : List ℕ) (g : PushdownGame) (old es : List Entry) → Raising raising → letters ≡ g.letters
    → Renewing el g n heads states old es fresh keys rests count → Passing el g n heads keys old es all₀ new₀ 0 count
    → Passing el g n heads keys old es all new count count
renewed-last {heads = heads} {n = n} {keys = keys} {count = count} {all = all} {new = new} {k = k} w l el g old es ra lt r p =
    let e : k ≡ count = omega (arith, w.below) in
    subst (λ (j : ℕ). Passing el g n heads keys old es all new j count) e (w.passes el g old es ra lt r p)
