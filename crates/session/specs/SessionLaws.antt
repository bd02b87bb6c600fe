-- Laws of sessions and their positions.
use Rattle.std.specs.Prelude.{ℕ, zero, suc, ◌-◌, ◌≤◌, ◌≡◌, refl, List, [], ◌∷◌, ◌++◌, length, take, replicate}
use Rattle.std.proofs.Common.{sym, ap, append-nil, append_assoc, arith, length-append, take-suc}
use Rattle.std.proofs.lemmas.List.{get_or_at}
use Rattle.game.specs.Limits.{max_stack}
use Rattle.game.specs.Stored.{padded}
use Rattle.game.specs.Win.{Position}
use Rattle.session.specs.Session.{top_first, bottom_first, position, session_of}

pub length-bottom_first : (w : List ℕ) → length (bottom_first w) ≡ length w
unfolding bottom_first
length-bottom_first [] = refl
length-bottom_first (a ∷ w) = omega (arith, length-append (bottom_first w) (a ∷ []), length-bottom_first w)

pub length-top_first : (h : ℕ) (cells : List ℕ) → length (top_first h cells) ≡ h
unfolding top_first
length-top_first zero cells = refl
length-top_first (suc h) cells = ap suc (length-top_first h cells)

-- the letters below a height, from the bottom up, are the lowest cells
pub up-down : (h : ℕ) (cells : List ℕ) → h ≤ length cells → bottom_first (top_first h cells) ≡ take h cells
unfolding bottom_first top_first
up-down zero cells l = refl
up-down (suc h) cells l = rw (up-down h cells (omega arith)) (sym (take-suc cells h 0 l))

-- bottom first, a word over a stack lies above it
pub bottom_first-append : (w v : List ℕ) → bottom_first (w ++ v) ≡ bottom_first v ++ bottom_first w
unfolding bottom_first
bottom_first-append [] v = sym (append-nil (bottom_first v))
bottom_first-append (a ∷ w) v = rw (bottom_first-append w v) (append_assoc (bottom_first v) (bottom_first w) (a ∷ []))

-- the letters below the height of a stack that was laid bottom first are that stack
pub down-up : (w t : List ℕ) → top_first (length w) (bottom_first w ++ t) ≡ w
unfolding bottom_first top_first
down-up [] t = refl
down-up (a ∷ w) t =
    rw (append_assoc (bottom_first w) (a ∷ []) t, get_or_at (bottom_first w) a t 0 (length w) (length-bottom_first w))
    (ap (a ∷◌) (down-up w (a ∷ t)))

-- the session of a position has that position
pub position-of : (pos : Position) → position (session_of pos) ≡ pos
unfolding padded
position-of pos = λ k. record { state = pos.state; stack = down-up pos.stack (replicate (max_stack - length (bottom_first pos.stack)) 0) k }
