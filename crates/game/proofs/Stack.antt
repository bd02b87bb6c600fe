-- The scan of a stack's letters, one letter at a time.
use Prim.Native.Nat.{ℕ, suc, ◌+◌, ◌<◌, ◌≤◌}
use mathlib.Core.Path.{◌≡◌, ap, ◌∙◌}
use mathlib.Core.List.{List, [], ◌∷◌}
use native.Mathlib.Omega.{arith}
use native.Mathlib.Numerals.{add-one}
use lib.ListN.{length, drop, get_or, drop_of_length-le}
use lib.Seq.{drop-cons}
use borrow.Author.Tests.{lt-ltb, le-ltb, eq-eqb, ne_eqb}
use Rattle.game.specs.Outcome.{done, refused}
use Rattle.game.specs.Position.{form, stack_form}

-- the length and the state pass: the letters are left
pub opens : (control letters : ℕ) (bytes : List ℕ) → 2 ≤ length bytes → length bytes ≤ 257 → get_or bytes 0 0 < control → form control letters bytes ≡ stack_form letters 1 (drop 1 bytes)
unfolding form
opens control letters bytes low high h =
    rw (le-ltb (length bytes) 2 low, le-ltb 257 (length bytes) high, lt-ltb (get_or bytes 0 0) control h)

-- the two first of what is left, where more than one byte is
two : (i : ℕ) (bytes : List ℕ) → i + 1 < length bytes → drop i bytes ≡ get_or bytes i 0 ∷ get_or bytes (suc i) 0 ∷ drop (suc (suc i)) bytes
two i bytes h = drop-cons bytes i 0 (omega arith) ∙ ap (get_or bytes i 0 ∷◌) (drop-cons bytes (suc i) 0 (omega arith))

module _ (letters i : ℕ) (bytes : List ℕ) (h : i + 1 < length bytes) where
  pub breaks-bottom : get_or bytes i 0 ≡ 0 → stack_form letters i (drop i bytes) ≡ refused 14 i
  unfolding stack_form
  breaks-bottom e = rw (two i bytes h, eq-eqb (get_or bytes i 0) 0 e)

  pub breaks-letter : (get_or bytes i 0 ≡ 0 → ⊥) → letters ≤ get_or bytes i 0 → stack_form letters i (drop i bytes) ≡ refused 14 i
  unfolding stack_form
  breaks-letter n l = rw (two i bytes h, ne_eqb (get_or bytes i 0) 0 n, le-ltb (get_or bytes i 0) letters l)

  pub goes_down : (get_or bytes i 0 ≡ 0 → ⊥) → get_or bytes i 0 < letters → stack_form letters i (drop i bytes) ≡ stack_form letters (i + 1) (drop (i + 1) bytes)
  unfolding stack_form
  goes_down n l =
      rw (two i bytes h, ne_eqb (get_or bytes i 0) 0 n, lt-ltb (get_or bytes i 0) letters l, add-one i, drop-cons bytes (suc i) 0 (omega arith))

-- the last byte
one : (i : ℕ) (bytes : List ℕ) → i + 1 ≡ length bytes → drop i bytes ≡ get_or bytes i 0 ∷ []
one i bytes h =
    drop-cons bytes i 0 (omega arith)
    ∙ ap (get_or bytes i 0 ∷◌) (drop_of_length-le bytes {i = suc i} (omega arith))

module _ (letters i : ℕ) (bytes : List ℕ) (h : i + 1 ≡ length bytes) where
  pub breaks-last : (get_or bytes i 0 ≡ 0 → ⊥) → stack_form letters i (drop i bytes) ≡ refused 14 i
  unfolding stack_form
  breaks-last n = rw (one i bytes h, ne_eqb (get_or bytes i 0) 0 n)

  pub ends : get_or bytes i 0 ≡ 0 → stack_form letters i (drop i bytes) ≡ done tt
  unfolding stack_form
  ends e = rw (one i bytes h, eq-eqb (get_or bytes i 0) 0 e)

-- the scan has come to the last byte
pub comes : (letters i last : ℕ) (bytes : List ℕ) → i ≤ last → last ≤ i → stack_form letters i (drop i bytes) ≡ stack_form letters last (drop last bytes)
comes letters i last bytes h l =
    let e : i ≡ last = omega arith in
    ap (λ (k : ℕ). stack_form letters k (drop k bytes)) e
