-- Growing by a list: what was grown by it is held, and what is held stays held.
use Rattle.std.specs.Prelude.{ℕ, ◌≡◌, refl}
use Rattle.std.proofs.Common.{⊎_elim}
use mathlib.Core.List.Memᴰ
use mathlib.Core.List.{List, [], ◌∷◌, ◌++◌}
use Rattle.table.specs.Table.{Entry}
use Rattle.rounds.specs.Growing.{Growing, grow, growing}
use Rattle.rounds.proofs.Growing.{grow-twice, held_stays}
use Rattle.rounds.specs.GrowingLaws.{HeldBy}

pub growing-append : (n : ℕ) (xs ys : List Entry) (s : Growing) → growing n (xs ++ ys) s ≡ growing n ys (growing n xs s)
unfolding growing
growing-append n [] ys s = refl
growing-append n (x ∷ xs) ys s = growing-append n xs ys (grow n s x)

-- what is held is passed over
pub held-passed : (n : ℕ) (es : List Entry) (s : Growing) → HeldBy n es s → growing n es s ≡ s
unfolding growing
held-passed n [] s h = refl
held-passed n (e ∷ es) s h = rw (h e (Memᴰ.head refl)) (held-passed n es s (λ x m. h x (Memᴰ.tail m)))

-- what is held stays held
one-stays : (n : ℕ) (es : List Entry) (s : Growing) (e : Entry) → grow n s e ≡ s → grow n (growing n es s) e ≡ growing n es s
unfolding growing
one-stays n [] s e h = h
one-stays n (x ∷ xs) s e h = one-stays n xs (grow n s x) e (held_stays n s e x h)

pub all_stay : (n : ℕ) (es fs : List Entry) (s : Growing) → HeldBy n fs s → HeldBy n fs (growing n es s)
all_stay n es fs s h e m = one-stays n es s e (h e m)

-- what was grown by is held
pub grown-held : (n : ℕ) (es : List Entry) (s : Growing) → HeldBy n es (growing n es s)
unfolding growing
grown-held n [] s e m = absurd (Memᴰ.not-nil m)
grown-held n (x ∷ xs) s e m =
    ⊎_elim
    (λ (p : e ≡ x). rw p (one-stays n xs (grow n s x) x (grow-twice n s x)))
    (λ l. grown-held n xs (grow n s x) e l)
    (Memᴰ.cases_cons m)
