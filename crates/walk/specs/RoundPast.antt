-- The past of the rounds themselves: the entries of a round that are older than the last round are those of the round before, and
-- what they give is in the round already.
use Rattle.std.specs.Prelude.{ℕ, zero, suc, ◌+◌, ◌<◌, ◌≡◌, true, false}
use Rattle.std.proofs.Common.{arith, sym, subst, ◌∙◌}
use Rattle.std.proofs.Math.Path.{refl, ap}
use Rattle.std.proofs.Math.Bool.{Bool, cond}
use mathlib.Core.List.Memᴰ
use mathlib.Core.List.{List, [], ◌∷◌}
use Rattle.std.proofs.Math.Dec.{eqb, ltb}
use borrow.Author.Tests.{eq-eqb, lt-ltb, le-ltb}
use Rattle.game.specs.Game.{PushdownGame, filter}
use Rattle.game.specs.GoodGame.{Good}
use Rattle.game.specs.ListLaws.{◌∈◌, in-any}
use Rattle.table.specs.Table.{Entry, key_of}
use Rattle.rounds.specs.Rounds.{add, adding, candidates, is_there, next_round}
use Rattle.rounds.proofs.AddLaws.{add-cases, adding-there}
use Rattle.rounds.proofs.Candidates.{candidates-in, in-candidates}
use Rattle.rounds.specs.Growing.{partly}
use Rattle.rounds.proofs.Growing.{grow-there}
use Rattle.rounds.specs.GrowingLaws.{HeldBy}
use Rattle.rounds.specs.RoundLaws.{round_table}
use Rattle.rounds.proofs.RoundLaws.{round-date, key-of}
use Rattle.enumeration.specs.Past.{older}

module _ (f : Entry → Bool) where
  -- what is kept of a list whose elements all pass, and of a table to which entries were added that do not
  all-kept : (xs : List Entry) → ((e : Entry) → e ∈ xs → f e ≡ true) → filter f xs ≡ xs
  unfolding filter
  all-kept [] h = refl
  all-kept (x ∷ xs) h = rw (h x (Memᴰ.head refl)) (ap (x ∷◌) (all-kept xs (λ e m. h e (Memᴰ.tail m))))

  add-dropped : (e : Entry) → f e ≡ false → (table : List Entry) → filter f (add e table) ≡ filter f table
  unfolding filter add
  add-dropped e t [] = rw t
  add-dropped e t (z ∷ table) =
      add-cases (λ (l : List Entry). filter f l ≡ filter f (z ∷ table)) e z table (λ l. rw t) (λ q. refl)
      (λ l. ap (λ (xs : List Entry). cond (f z) (z ∷ xs) xs) (add-dropped e t table))

  adding-dropped : (es table : List Entry) → ((e : Entry) → e ∈ es → f e ≡ false) → filter f (adding es table) ≡ filter f table
  unfolding adding
  adding-dropped [] table h = refl
  adding-dropped (e ∷ es) table h =
      adding-dropped es (add e table) (λ x m. h x (Memᴰ.tail m)) ∙ add-dropped e (h e (Memᴰ.head refl)) table

module _ (g : PushdownGame) (good : Good g) (j : ℕ) where
  older-is : older (suc j + 1) (round_table g (suc j)) ≡ round_table g j
  unfolding older round_table next_round
  older-is =
      let test : Entry → Bool = λ e. ltb (e.birthdate + 1) (suc j + 1) in
      adding-dropped test (candidates g (round_table g j) (suc j)) (round_table g j)
      (λ e m.
      let date = (candidates-in g (round_table g j) (suc j) m).4.date in
      le-ltb (e.birthdate + 1) (suc j + 1) (omega arith))
      ∙ all-kept test (round_table g j)
      (λ e m. lt-ltb (e.birthdate + 1) (suc j + 1) (omega (arith, round-date g good j m)))

  before-held : (n birthdate : ℕ) → HeldBy n (candidates g (round_table g j) birthdate) (partly (round_table g (suc j)))
  unfolding round_table next_round is_there
  before-held n birthdate e m =
      let c = candidates-in g (round_table g j) birthdate m in
      let x =
      adding-there (candidates g (round_table g j) (suc j)) (round_table g j)
      (in-candidates g (round_table g j) (suc j) c.2 c.3 c.4.gives)
      in
      grow-there n (round_table g (suc j)) e
      (in-any (λ (y : Entry). eqb (key_of y) (key_of e)) x.1
      (eq-eqb (key_of x.0) (key_of e) (x.2 ∙ key-of (sym c.4.state) (sym c.4.letter) refl)))

-- so of every round that has one before it
pub round-past : (g : PushdownGame) → Good g → (n i : ℕ) → 1 < i + 1
    → HeldBy n (candidates g (older (i + 1) (round_table g i)) (i + 1)) (partly (round_table g i))
round-past g good n zero l = absurd (omega arith)
round-past g good n (suc j) l =
    subst (λ (prior : List Entry). HeldBy n (candidates g prior (suc j + 1)) (partly (round_table g (suc j)))) (sym (older-is g good j))
    (before-held g good j n (suc j + 1))
