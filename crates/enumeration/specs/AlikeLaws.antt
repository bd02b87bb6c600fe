-- A full table grows no more, and two lists with the same entries grow a table to the same words, as far as these are promised: the
-- order in which entries are met is of no matter.
use Rattle.std.specs.Prelude.{ℕ, ◌+◌, ◌*◌, ◌/◌, ◌<◌, ◌≤◌, ◌≡◌, refl, ◌⊎◌, true, false, List, [], ◌∷◌, map, length, leb}
use Rattle.std.proofs.Common.{arith, sym, ap, subst, ◌∙◌, inl, inr, ⊎_elim, leb-true, leb-false}
use mathlib.Core.List.Memᴰ
use Rattle.game.specs.ListLaws.{◌∈◌, test, clash, map-in, in_map}
use Rattle.table.specs.Table.{Entry, key, key_of}
use Rattle.table.specs.Pairwise.{Pairwise, Ascending}
use Rattle.rounds.specs.Rounds.{adding, entry_at}
use Rattle.rounds.specs.AddLaws.{LowFirst, Added}
use Rattle.rounds.proofs.AddLaws.{adding-old, adding-there, adding-ascending, adding-in, same-list}
use Rattle.rounds.specs.Growing.{Growing, grow, growing, partly}
use Rattle.rounds.proofs.Growing.{grown, grow-full, as-full, full-any}
use Rattle.rounds.specs.GrowingLaws.{HeldBy}
use Rattle.rounds.specs.Filled.{Filled}
use Rattle.rounds.proofs.StoredRows.{long_of}

as-part : (s : Growing) → s.full ≡ false → s ≡ partly s.entries
as-part s t i = record { entries = s.entries; full = t i }

pub full-held : (n : ℕ) (es : List Entry) (s : Growing) → s.full ≡ true → HeldBy n es s
full-held n es s t e m = ap (λ (x : Growing). grow n x e) (as-full s t) ∙ grow-full n s.entries e ∙ sym (as-full s t)

-- a number of entries beyond the table says that it is full
pub over-full : (n : ℕ) (words : List ℕ) (count : ℕ) (s : Growing) → Filled n words count s → length words / 3 < count → s.full ≡ true
over-full n words count s f l =
    ⊎_elim (λ t. t.0)
    (λ t. absurd (omega (arith, long_of n words count s f, t.1.counted, t.1.fits)))
    f

-- the same entries, in both of equal keys the lower rule field first, and of each key and rule field one
pub record Alike (es fs : List Entry) : Type 0 where
  pub to : (e : Entry) → e ∈ es → e ∈ fs
  pub back : (e : Entry) → e ∈ fs → e ∈ es
  pub low : LowFirst es
  pub low' : LowFirst fs
  pub one : (x y : Entry) → x ∈ es → y ∈ es → key_of x ≡ key_of y → x.rule ≡ y.rule → x ≡ y

turned : {es fs : List Entry} → Alike es fs → Alike fs es
turned h =
    record {
      to = h.back;
      back = h.to;
      low = h.low';
      low' = h.low;
      one = λ x y i j e r. h.one x y (h.back x i) (h.back y j) e r;
    }

pub low_of : (es : List Entry) → ((x y : Entry) → x ∈ es → y ∈ es → key_of x ≡ key_of y → x ≡ y) → LowFirst es
unfolding Pairwise
low_of [] one = record {}
low_of (e ∷ es) one = (
  λ y m k.
      let same = one e y (Memᴰ.head refl) (Memᴰ.tail m) (sym k) in
      omega (arith, ap (λ (x : Entry). x.rule) same),
  low_of es (λ x y i j k. one x y (Memᴰ.tail i) (Memᴰ.tail j) k),
)

-- entries of one head with one rule field are told apart by their sets
pub one_each : (p a birthdate field : ℕ) (xs : List ℕ) (x y : Entry) → x ∈ map (entry_at p a birthdate field) xs
    → y ∈ map (entry_at p a birthdate field) xs → key_of x ≡ key_of y → x ≡ y
unfolding key
one_each p a birthdate field xs x y i j e =
    let f : ℕ → Entry = entry_at p a birthdate field in
    let r = map-in f xs i in
    let t = map-in f xs j in
    let keys : (p * 256 + a) * 4294967296 + r.0 ≡ (p * 256 + a) * 4294967296 + t.0 = sym (ap key_of r.2) ∙ e ∙ ap key_of t.2 in
    let same : r.0 ≡ t.0 = omega (arith, keys) in
    r.2 ∙ ap f same ∙ sym t.2

-- entries of one head, with one rule field, by their sets
pub alike-sets : (p a birthdate field : ℕ) (xs ys : List ℕ) → ((x : ℕ) → x ∈ xs → x ∈ ys) → ((x : ℕ) → x ∈ ys → x ∈ xs)
    → Alike (map (entry_at p a birthdate field) xs) (map (entry_at p a birthdate field) ys)
alike-sets p a birthdate field xs ys to back =
    let f : ℕ → Entry = entry_at p a birthdate field in
    record {
      to = λ e m. let r = map-in f xs m in subst (λ (y : Entry). y ∈ map f ys) (sym r.2) (in_map f (to r.0 r.1));
      back = λ e m. let r = map-in f ys m in subst (λ (y : Entry). y ∈ map f xs) (sym r.2) (in_map f (back r.0 r.1));
      low = low_of (map f xs) (one_each p a birthdate field xs);
      low' = low_of (map f ys) (one_each p a birthdate field ys);
      one = λ x y i j e r. one_each p a birthdate field xs x y i j e;
    }

adding-within : {es fs : List Entry} → Alike es fs → (table : List Entry) → Ascending table → (x : Entry) → x ∈ adding es table → x ∈ adding fs table
adding-within {es} {fs} h table asc x m =
    ⊎_elim (λ i. adding-old fs table i)
    (λ (a : Added es table x).
    let y = adding-there fs table (h.to x a.listed) in
    ⊎_elim (λ i. absurd (a.new y.0 i y.2))
    (λ (b : Added fs table y.0).
    let less = a.lowest y.0 (h.back y.0 b.listed) y.2 in
    let more = b.lowest x (h.to x a.listed) (sym y.2) in
    let same : y.0.rule ≡ x.rule = omega (arith, less, more) in
    subst (λ (w : Entry). w ∈ adding fs table) (h.one y.0 x (h.back y.0 b.listed) a.listed y.2 same) y.1)
    (adding-in fs table asc h.low' y.1))
    (adding-in es table asc h.low m)

adding-alike : {es fs : List Entry} → Alike es fs → (table : List Entry) → Ascending table → adding es table ≡ adding fs table
adding-alike {es} {fs} h table asc =
    same-list (adding es table) (adding fs table) (adding-ascending es table asc) (adding-ascending fs table asc)
    (adding-within h table asc) (adding-within (turned h) table asc)

module _ (n : ℕ) {es fs : List Entry} (h : Alike es fs) (s : Growing) {words₀ : List ℕ} {count₀ : ℕ} (f : Filled n words₀ count₀ s) where
  grown-alike : (growing n es s ≡ growing n fs s) ⊎ (((growing n es s).full ≡ true) × ((growing n fs s).full ≡ true))
  grown-alike =
      ⊎_elim
      (λ t. inl (full-any n es s t.0 ∙ sym (full-any n fs s t.0)))
      (λ t.
      let table = s.entries in
      let asc = t.1.ascending in
      let same = adding-alike h table asc in
      let r = grown n es table asc t.1.fits in
      let r' = grown n fs table asc t.1.fits in
      let is = as-part s t.0 in
      ⊎_elim
      (λ (b : leb (length (adding es table)) n ≡ true).
      let l = leb-true (length (adding es table)) n b in
      inl
      (ap (growing n es) is ∙ r.fits l ∙ ap partly same
      ∙ sym (ap (growing n fs) is ∙ r'.fits (subst (λ (x : List Entry). length x ≤ n) same l))))
      (λ (b : leb (length (adding es table)) n ≡ false).
      let l = leb-false (length (adding es table)) n b in
      let k = r.stops l in
      let k' = r'.stops (subst (λ (x : List Entry). n < length x) same l) in
      inr
      (ap (λ (x : Growing). x.full) (ap (growing n es) is ∙ k.1), ap (λ (x : Growing). x.full) (ap (growing n fs) is ∙ k'.1)))
      (test (leb (length (adding es table)) n)))
      f

  pub filled-alike : (words : List ℕ) (count : ℕ) → Filled n words count (growing n es s) → Filled n words count (growing n fs s)
  filled-alike words count d =
      ⊎_elim (λ e. subst (λ (x : Growing). Filled n words count x) e d)
      (λ t. ⊎_elim (λ u. inl (t.1, u.1, u.2)) (λ u. clash t.0 u.0) d)
      grown-alike

  pub held-alike : (xs : List Entry) → HeldBy n xs (growing n es s) → HeldBy n xs (growing n fs s)
  held-alike xs d =
      ⊎_elim (λ e. subst (λ (x : Growing). HeldBy n xs x) e d) (λ t. full-held n xs (growing n fs s) t.1) grown-alike
