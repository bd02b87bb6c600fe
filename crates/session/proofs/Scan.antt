-- Question 14 of a session: its tests, and the scan of its letters from the top down, one letter at a time.
use Prim.Native.Nat.{ℕ, zero, suc, ◌-◌, ◌<◌, ◌≤◌}
use mathlib.Core.Path.{◌≡◌, refl, sym, ap, ◌∙◌}
use mathlib.Core.Bool.{Bool, true, false, not, ◌&&◌}
use mathlib.Core.List.{List, ◌∷◌}
use native.Mathlib.Omega.{arith}
use lib.ListN.{get_or}
use lib.Dec.{ltb, eqb}
use borrow.Author.Tests.{lt-ltb, le-ltb, lt-leb, le-leb, eq-eqb, ne_eqb}
use Rattle.game.specs.Game.{PushdownGame}
use Rattle.game.specs.Questions.{bottom_last}
use Rattle.game.specs.Win.{letters_below, in_form}
use Rattle.session.specs.Session.{session, top_first, session_in_form}

-- letters in range, 0 last and only last
abbrev pub shaped : ℕ → List ℕ → Bool
shaped letters w = letters_below letters w && bottom_last w

and_none : (a b : Bool) → b ≡ false → (a && b) ≡ false
and_none true b e = e
and_none false b e = refl

-- the letter at a height above the bottom, over the others
module _ (letters : ℕ) (cells : List ℕ) where
  breaks-bottom' : (i : ℕ) → 0 < i → get_or cells i 0 ≡ 0 → shaped letters (top_first (suc i) cells) ≡ false
  unfolding top_first bottom_last
  breaks-bottom' zero l e = absurd (omega arith)
  breaks-bottom' (suc i) l e =
      and_none (letters_below letters (top_first (suc (suc i)) cells)) (not (eqb (get_or cells (suc i) 0) 0) && bottom_last (get_or cells i 0 ∷ top_first i cells))
      (rw (eq-eqb (get_or cells (suc i) 0) 0 e))

  breaks-letter' : (i : ℕ) → letters ≤ get_or cells i 0 → shaped letters (top_first (suc i) cells) ≡ false
  unfolding top_first letters_below
  breaks-letter' i h = rw (le-ltb (get_or cells i 0) letters h)

  goes-down' : (i : ℕ) → 0 < i → (get_or cells i 0 ≡ 0 → ⊥) → get_or cells i 0 < letters → shaped letters (top_first (suc i) cells) ≡ shaped letters (top_first i cells)
  unfolding top_first letters_below bottom_last
  goes-down' zero l n h = absurd (omega arith)
  goes-down' (suc i) l n h = rw (ne_eqb (get_or cells (suc i) 0) 0 n, lt-ltb (get_or cells (suc i) 0) letters h)

  -- what the loop keeps: the form of all letters is that of those up to i
  abbrev pub Scanned : ℕ → ℕ → Type 0
  Scanned height i = (i < height) × (shaped letters (top_first height cells) ≡ shaped letters (top_first (suc i) cells))

  pub starts : (height : ℕ) → 1 ≤ height → Scanned height (height - 1)
  starts height l =
      let e : height ≡ suc (height - 1) = omega arith in
      (omega arith, ap (λ (n : ℕ). shaped letters (top_first n cells)) e)

  module _ (height i : ℕ) (s : Scanned height i) where
    pub breaks-bottom : 0 < i → get_or cells i 0 ≡ 0 → false ≡ shaped letters (top_first height cells)
    breaks-bottom l e = sym (s.1 ∙ breaks-bottom' i l e)

    pub breaks-letter : letters ≤ get_or cells i 0 → false ≡ shaped letters (top_first height cells)
    breaks-letter h = sym (s.1 ∙ breaks-letter' i h)

    pub goes_down : 0 < i → (get_or cells i 0 ≡ 0 → ⊥) → get_or cells i 0 < letters → Scanned height (i - 1)
    goes_down l n h =
        let e : i ≡ suc (i - 1) = omega arith in
        (omega (arith, s.0), s.1 ∙ goes-down' i l n h ∙ ap (λ (k : ℕ). shaped letters (top_first k cells)) e)

    at-bottom : i ≤ 0 → shaped letters (top_first height cells) ≡ ((ltb (get_or cells 0 0) letters && true) && eqb (get_or cells 0 0) 0)
    unfolding top_first letters_below bottom_last
    at-bottom l =
        let e : i ≡ 0 = omega arith in
        s.1 ∙ ap (λ (k : ℕ). shaped letters (top_first (suc k) cells)) e

    pub breaks-last : i ≤ 0 → (get_or cells 0 0 ≡ 0 → ⊥) → false ≡ shaped letters (top_first height cells)
    breaks-last l n = sym (at-bottom l ∙ and_none (ltb (get_or cells 0 0) letters && true) _ (ne_eqb (get_or cells 0 0) 0 n))

    pub ends : i ≤ 0 → get_or cells 0 0 ≡ 0 → ltb 0 letters ≡ shaped letters (top_first height cells)
    ends l e = sym (at-bottom l ∙ rw e (both_true (ltb 0 letters)))
      where
        both_true : (a : Bool) → ((a && true) && true) ≡ a
        both_true true = refl
        both_true false = refl

-- question 14 by its tests
module _ (g : PushdownGame) (p : ℕ) (cells : List ℕ) (h : ℕ) where
  pub too-low : h < 1 → false ≡ session_in_form g (session p cells h)
  unfolding session_in_form
  too-low l = rw (lt-leb 1 h l)

  pub too-high : 1 ≤ h → 256 < h → false ≡ session_in_form g (session p cells h)
  unfolding session_in_form
  too-high k l = rw (le-leb 1 h k, lt-leb h 256 l)

  pub no-control : 1 ≤ h → h ≤ 256 → g.control ≤ p → false ≡ session_in_form g (session p cells h)
  unfolding session_in_form in_form
  no-control k l m = rw (le-leb 1 h k, le-leb h 256 l, le-ltb p g.control m)

  pub by-letters : 1 ≤ h → h ≤ 256 → p < g.control → shaped g.letters (top_first h cells) ≡ session_in_form g (session p cells h)
  unfolding session_in_form in_form
  by-letters k l m = rw (le-leb 1 h k, le-leb h 256 l, lt-ltb p g.control m)
