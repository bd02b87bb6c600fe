-- The entries of a head stand together in the order of keys: before its first and after its last one no entry is one of it, so
-- that entries taken one after another may start and end there.
use Prim.Native.Nat.{ℕ, zero, suc, ◌<◌, ◌≤◌}
use Rattle.std.proofs.Common.{arith, ◌∙◌, ⊎_elim, eqb-true, eq-eqb}
use Rattle.std.specs.Prelude.{◌≡◌, true, false, length, get_or, drop, eqb}
use Rattle.std.proofs.Math.Path.{refl, ap}
use mathlib.Core.List.{List, [], ◌∷◌, ◌++◌, flat_map}
use Rattle.game.specs.ListLaws.{test, both}
use Rattle.table.specs.Table.{Entry, key, key_of}
use Rattle.table.specs.Rows.{Placed}
use Rattle.table.specs.PlaceLaws.{key-sum, key-head}
use Rattle.judge.specs.Worth.{entry_of_head}
use Rattle.rounds.specs.Filled.{Stored}
use Rattle.rounds.specs.InsertLaws.{no_entry}
use Rattle.rounds.proofs.InsertLaws.{get_d-in}
use Rattle.rounds.proofs.StoredRows.{key-is, rows-ascend}

-- the key of an entry of a head
of-head : (q a : ℕ) (e : Entry) → entry_of_head q a e ≡ true → key_of e ≡ key q a e.set
unfolding entry_of_head
of-head q a e h =
    let b = both (eqb e.state q) (eqb e.letter a) h in
    rw (eqb-true e.state q b.0, eqb-true e.letter a b.1)

-- an entry whose key lies between those of a head is one of it
between-keys : (q a : ℕ) (e : Entry) → a < 256 → e.letter < 256 → e.set < 4294967296 → key q a 0 ≤ key_of e → key_of e < key q a 4294967296
    → entry_of_head q a e ≡ true
unfolding entry_of_head
between-keys q a e la le small low high =
    let same = key-head q a la e le small low (omega (arith, high, key-sum q a 4294967296)) in
    rw (eq-eqb e.state q same.0, eq-eqb e.letter a same.1)

module _ (n : ℕ) (words : List ℕ) (count : ℕ) (es : List Entry) (st : Stored n words count es) (q a : ℕ) where
  pub before_head : (start : ℕ) → Placed words count (key q a 0) start → (i : ℕ) → i < start → entry_of_head q a (get_or es i no_entry) ≡ false
  before_head start pl i l =
      let inside : i < length es = omega (arith, pl.within, st.counted) in
      let e = get_or es i no_entry in
      ⊎_elim
      (λ (t : entry_of_head q a e ≡ true).
      absurd
      (omega (
        arith,
        pl.before (rows-ascend n words count es st) i l,
        key-is n words count es st i inside,
        of-head q a e t,
        key-sum q a e.set,
      )))
      (λ (t : entry_of_head q a e ≡ false). t)
      (test (entry_of_head q a e))

  pub after-head : (end : ℕ) → Placed words count (key q a 4294967296) end → (i : ℕ) → end ≤ i → i < length es
      → entry_of_head q a (get_or es i no_entry) ≡ false
  after-head end pl i l inside =
      let e = get_or es i no_entry in
      let small : e.set < 4294967296 = (st.small e (get_d-in no_entry es i inside)).set in
      ⊎_elim
      (λ (t : entry_of_head q a e ≡ true).
      absurd
      (omega (
        arith,
        pl.after (rows-ascend n words count es st) i l (omega (arith, st.counted)),
        key-is n words count es st i inside,
        of-head q a e t,
        key-sum q a e.set,
        key-sum q a 4294967296,
        small,
      )))
      (λ (t : entry_of_head q a e ≡ false). t)
      (test (entry_of_head q a e))

  -- between its first and its last every entry is one of it
  pub within-head : a < 256 → (start end : ℕ) → Placed words count (key q a 0) start → Placed words count (key q a 4294967296) end
      → (i : ℕ) → start ≤ i → i < end → entry_of_head q a (get_or es i no_entry) ≡ true
  within-head small start end ps pe i l m =
      let inside : i < length es = omega (arith, pe.within, st.counted) in
      let e = get_or es i no_entry in
      let fits = st.small e (get_d-in no_entry es i inside) in
      let low = ps.after (rows-ascend n words count es st) i l (omega (arith, pe.within)) in
      let high = pe.before (rows-ascend n words count es st) i m in
      let same = key-is n words count es st i inside in
      between-keys q a e small fits.letter fits.set (omega (arith, low, same)) (omega (arith, high, same))

module _ {A B : Type 0} (f : A → List B) (d : A) where
  -- elements that give nothing are passed over, at the front and at the end
  pub skip-front : (k : ℕ) (xs : List A) → k ≤ length xs → ((i : ℕ) → i < k → f (get_or xs i d) ≡ []) → flat_map f xs ≡ flat_map f (drop k xs)
  unfolding flat_map
  skip-front zero xs l none = refl
  skip-front (suc k) [] l none = absurd (omega arith)
  skip-front (suc k) (x ∷ xs) l none =
      ap (◌++ flat_map f xs) (none 0 (omega arith)) ∙ skip-front k xs (omega arith) (λ i m. none (suc i) (omega arith))

  pub all_none : (xs : List A) → ((i : ℕ) → i < length xs → f (get_or xs i d) ≡ []) → flat_map f xs ≡ []
  unfolding flat_map
  all_none [] none = refl
  all_none (x ∷ xs) none = ap (◌++ flat_map f xs) (none 0 (omega arith)) ∙ all_none xs (λ i m. none (suc i) (omega arith))

  pub skip-end : (k : ℕ) (xs : List A) → ((i : ℕ) → k ≤ i → i < length xs → f (get_or xs i d) ≡ []) → flat_map f (drop k xs) ≡ []
  unfolding flat_map
  skip-end zero xs none = all_none xs (λ i l. none i (omega arith) l)
  skip-end (suc k) [] none = refl
  skip-end (suc k) (x ∷ xs) none = skip-end k xs (λ i l m. none (suc i) (omega arith) (omega arith))
