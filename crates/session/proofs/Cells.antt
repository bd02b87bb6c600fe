-- Writing the cells of a stack: zeros from a height up, and a rule's word over the lowest cells.
use Prim.Native.Nat.{ℕ, suc, ◌+◌, ◌-◌, ◌<◌, ◌≤◌}
use mathlib.Core.Path.{◌≡◌, sym, ap, ◌∙◌}
use mathlib.Core.List.{List, [], ◌∷◌, ◌++◌, append-nil, append_assoc}
use native.Mathlib.Omega.{arith}
use native.Mathlib.Numerals.{add-one}
use lib.ListN.{length, take, set, replicate, length-append, length-set, replicate-append-replicate}
use lib.Seq.{take_all, take-suc-set, length-take-le, set_at, append_snoc}
use borrow.Author.Tests.{eq-eqb, ne_eqb}
use Rattle.game.specs.Game.{word_of}
use Rattle.game.specs.Stored.{padded}
use Rattle.session.specs.Session.{bottom_first}

-- the cells below i are the lowest ones and zeros over them
abbrev pub Filled : ℕ → List ℕ → ℕ → List ℕ → Type 0
Filled below stack i cells = (length cells ≡ 256) × (take i cells ≡ take below stack ++ replicate (i - below) 0)

pub starts : (below : ℕ) (stack : List ℕ) → length stack ≡ 256 → Filled below stack below stack
starts below stack n =
    let e : below - below ≡ 0 = omega arith in
    (n, rw e (sym (append-nil (take below stack))))

-- one cell more is 0
pub fills : (below i : ℕ) (stack cells : List ℕ) → below ≤ i → i < 256 → Filled below stack i cells → Filled below stack (i + 1) (set cells i 0)
fills below i stack cells l h f =
    let e : i + 1 - below ≡ (i - below) + 1 = omega arith in (
      length-set cells i 0 ∙ f.0,
      ap (λ (n : ℕ). take n (set cells i 0)) (add-one i)
          ∙ take-suc-set cells i 0 (omega (arith, f.0))
          ∙ ap (λ (xs : List ℕ). xs ++ (0 ∷ [])) f.1
          ∙ append_assoc (take below stack) (replicate (i - below) 0) (0 ∷ [])
          ∙ ap (λ (xs : List ℕ). take below stack ++ xs) (replicate-append-replicate (i - below) 1 0 ∙ ap (λ (n : ℕ). replicate n 0) (sym e)),
    )

pub filled : (below i : ℕ) (stack cells : List ℕ) → i ≡ 256 → Filled below stack i cells → cells ≡ take below stack ++ replicate (256 - below) 0
filled below i stack cells e f = sym (take_all i cells (omega (arith, f.0))) ∙ f.1 ∙ ap (λ (n : ℕ). take below stack ++ replicate (n - below) 0) e

-- a stack of cells with zeros after it, over cells of which the length is known
pads : (base w : List ℕ) (below : ℕ) → length base ≡ below → padded 256 (base ++ w) ≡ base ++ (w ++ replicate (256 - below - length w) 0)
unfolding padded
pads base w below e =
    let n : 256 - length (base ++ w) ≡ 256 - below - length w = omega (arith, length-append base w) in
    append_assoc base w (replicate (256 - length (base ++ w)) 0) ∙ ap (λ (k : ℕ). base ++ (w ++ replicate k 0)) n

-- A rule's word laid over cells below which all is as it was, and above which all is 0.
module _ (stack cells : List ℕ) (below count upper lower : ℕ) (n : length stack ≡ 256) (e : cells ≡ take below stack ++ replicate (256 - below) 0) where
  abbrev base : List ℕ
  base = take below stack

  pub lays-none : below ≤ 256 → count ≡ 0 → cells ≡ padded 256 (take below stack ++ bottom_first (word_of count upper lower))
  unfolding word_of bottom_first
  lays-none l z =
      let k : 256 - below ≡ 256 - below - 0 = omega arith in
      e
      ∙ ap (λ (m : ℕ). base ++ replicate m 0) k
      ∙ sym (rw (eq-eqb count 0 z) (pads base [] below (length-take-le below stack (omega arith))))

  pub lays_one : below + 1 ≤ 256 → count ≡ 1 → set cells below upper ≡ padded 256 (take below stack ++ bottom_first (word_of count upper lower))
  unfolding word_of bottom_first
  lays_one l z =
      let b : length base ≡ below = length-take-le below stack (omega arith) in
      let k : 256 - below ≡ suc (256 - below - 1) = omega arith in
      ap (λ (xs : List ℕ). set xs below upper) (e ∙ ap (λ (m : ℕ). base ++ replicate m 0) k)
      ∙ set_at base 0 (replicate (256 - below - 1) 0) upper below b
      ∙ sym (rw (ne_eqb count 0 (λ y. omega arith), eq-eqb count 1 z) (pads base (upper ∷ []) below b))

  pub lays-two : below + 2 ≤ 256 → (count ≡ 0 → ⊥) → (count ≡ 1 → ⊥) → set (set cells below lower) (below + 1) upper ≡ padded 256 (take below stack ++ bottom_first (word_of count upper lower))
  unfolding word_of bottom_first
  lays-two l y z =
      let b : length base ≡ below = length-take-le below stack (omega arith) in
      let k : 256 - below ≡ suc (suc (256 - below - 2)) = omega arith in
      let zeros : List ℕ = replicate (256 - below - 2) 0 in
      ap (λ (xs : List ℕ). set (set xs below lower) (below + 1) upper) (e ∙ ap (λ (m : ℕ). base ++ replicate m 0) k)
      ∙ ap (λ (xs : List ℕ). set xs (below + 1) upper) (set_at base 0 (0 ∷ zeros) lower below b ∙ sym (append_snoc base lower (0 ∷ zeros)))
      ∙ set_at (base ++ (lower ∷ [])) 0 zeros upper (below + 1) (length-append base (lower ∷ []) ∙ ap (λ (m : ℕ). m + 1) b)
      ∙ append_snoc base lower (upper ∷ zeros)
      ∙ sym (rw (ne_eqb count 0 y, ne_eqb count 1 z) (pads base (lower ∷ upper ∷ []) below b))
