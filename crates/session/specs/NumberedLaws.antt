-- Laws of question 16: a rule's number is its place in the file's order.
use Rattle.std.specs.Prelude.{ℕ, zero, suc, ◌+◌, ◌<◌, ◌≤◌, ◌≡◌, refl, Bool, true, false, cond, List, [], ◌∷◌, length, get_or}
use Rattle.std.proofs.Common.{ap, ◌∙◌, ⊎_elim, arith, eq-eqb, ne_eqb, eqb-true}
use mathlib.Core.List.Memᴰ
use Rattle.game.specs.Game.{Rule, filter}
use Rattle.game.specs.Outcome.{done, refused}
use Rattle.game.specs.Questions.{any}
use Rattle.game.specs.StoredLaws.{no_rule}
use Rattle.game.specs.ListLaws.{test, clash, left_or, ◌∈◌}
use Rattle.game.specs.NumberLaws.{number_is, none_below, none-past}
use Rattle.game.specs.GoodGame.{Numbered}
use Rattle.session.specs.Session.{numbered}

-- no rule has the number
no_number : (n : ℕ) (rs : List Rule) → any (number_is n) rs ≡ false → numbered n rs ≡ refused 16 0
unfolding any numbered
no_number n [] e = refl
no_number n (r ∷ rs) e =
    ⊎_elim (λ (t : number_is n r ≡ true). clash (left_or (any (number_is n) rs) t) e) (λ (t : number_is n r ≡ false). rw t (no_number n rs (rw t at e)))
    (test (number_is n r))

-- a number past the last rule's
pub numbered-past : (f : Rule → Bool) (n : ℕ) (rs : List Rule) → Numbered 0 rs → length rs ≤ n → numbered n (filter f rs) ≡ refused 16 0
numbered-past f n rs h l = no_number n (filter f rs) (none-past f 0 n rs h (omega arith))

-- the rule of a number is the one at that place, if it is one of those sought
numbered-from : (f : Rule → Bool) (m n k : ℕ) (rs : List Rule) → Numbered m rs → k < length rs → n ≡ m + k
    → numbered n (filter f rs) ≡ cond (f (get_or rs k no_rule)) (done (get_or rs k no_rule)) (refused 16 0)
unfolding Numbered numbered filter
numbered-from f m n k [] h l e = absurd (omega arith)
numbered-from f m n zero (r ∷ rs) h l e =
    ⊎_elim (λ (p : f r ≡ true). rw (p, eq-eqb r.number n (omega (arith, h.0))))
    (λ (p : f r ≡ false). rw p (no_number n (filter f rs) (none_below f (suc m) n rs h.1 (omega arith))))
    (test (f r))
numbered-from f m n (suc k) (r ∷ rs) h l e =
    let later = numbered-from f (suc m) n k rs h.1 (omega arith) (omega arith) in
    ⊎_elim (λ (p : f r ≡ true). rw (p, ne_eqb r.number n (λ d. omega (arith, h.0))) later) (λ (p : f r ≡ false). rw p later)
    (test (f r))

pub numbered-at : (f : Rule → Bool) (n : ℕ) (rs : List Rule) → Numbered 0 rs → n < length rs
    → numbered n (filter f rs) ≡ cond (f (get_or rs n no_rule)) (done (get_or rs n no_rule)) (refused 16 0)
numbered-at f n rs h l = numbered-from f 0 n n rs h l (omega arith)

-- the rule that a number gives is one of the list and has it
pub numbered-in : (n : ℕ) (rs : List Rule) (r : Rule) → numbered n rs ≡ done r → (r ∈ rs) × (r.number ≡ n)
unfolding numbered
numbered-in n [] r e = absurd (let z : ◌≡◌ {A = ℕ} 0 1 = cc in omega arith)
numbered-in n (x ∷ rs) r e =
    ⊎_elim
    (λ (t : number_is n x ≡ true).
    let s : done x ≡ done r = rw t at e in
    let i : r ≡ x = cc in
    (Memᴰ.head i, ap (λ (y : Rule). y.number) i ∙ eqb-true x.number n t))
    (λ (t : number_is n x ≡ false). let q = numbered-in n rs r (rw t at e) in (Memᴰ.tail q.0, q.1))
    (test (number_is n x))
