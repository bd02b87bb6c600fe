-- The turns of a round: every head has two, one among Éloise's and a later one among Abelard's, and what it gives is taken in the one
-- that is its own. What all turns give are the candidates of the round in another order.
use Rattle.std.specs.Prelude.{ℕ, suc, ◌+◌, ◌*◌, ◌-◌, ◌/◌, ◌%◌, ◌<◌, ◌≤◌, ◌≡◌, refl, Bool, cond, not}
use native.Mathlib.Omega.{arith}
use Rattle.std.proofs.Common.{mod-lt, mod-eq_of_lt, mul-le-mul_right, suc-mul, sym, ap, subst, ◌∙◌}
use Rattle.std.proofs.Math.Nat.{div-add-mod}
use Rattle.std.proofs.Math.Logic.{⊎_elim}
use Rattle.std.proofs.Math.Bool.{true, false}
use mathlib.Core.List.Memᴰ
use mathlib.Core.List.{List, [], flat_map}
use Rattle.std.proofs.Math.Dec.{leb}
use Rattle.std.proofs.Math.Arith.{digits_mod, digits_div}
use borrow.Author.Tests.{leb-true, leb-false, le-leb, lt-leb}
use Rattle.game.specs.Game.{PushdownGame}
use Rattle.game.specs.GoodGame.{Good}
use Rattle.game.specs.Win.{is_abelard}
use Rattle.game.specs.ListLaws.{◌∈◌, test, clash, flat_map-in, in-flat_map}
use Rattle.table.specs.Table.{Entry, key_of}
use Rattle.table.specs.Pairwise.{Pairwise, pairwise-flat_map}
use Rattle.rounds.specs.Rounds.{below, head_candidates, candidates}
use Rattle.rounds.specs.EndsLaws.{below_in, in-below, below-pairwise}
use Rattle.rounds.specs.EndsRange.{Proper}
use Rattle.rounds.proofs.Candidates.{candidates-in, head_in, low-head, low_first, apart, parts, gives-proper}
use Rattle.rounds.specs.AddLaws.{LowFirst}
use Rattle.rounds.proofs.RoundLaws.{same-entry}
use Rattle.rounds.specs.ScanLaws.{head_at}
use Rattle.enumeration.specs.AlikeLaws.{Alike}

-- a turn among the later ones is for Abelard's heads, another for Éloise's
abbrev pub agrees : Bool → Bool → Bool
agrees abelards later = cond abelards later (not later)

-- what a turn gives
unfoldable pub turn_gives : PushdownGame → List Entry → ℕ → ℕ → ℕ → ℕ → List Entry
turn_gives g table birthdate letters heads turn =
    cond (agrees (is_abelard g (turn % heads / letters)) (leb heads turn))
    (head_candidates g table birthdate (turn % heads / letters) (turn % heads % letters))
    []

-- a boolean that agrees with two others makes these one
both-agree : (b x y : Bool) → agrees b x ≡ true → agrees b y ≡ true → x ≡ y
both-agree true true true p q = refl
both-agree true false y p q = clash p refl
both-agree true true false p q = clash q refl
both-agree false false false p q = refl
both-agree false true y p q = clash p refl
both-agree false false true p q = clash q refl

-- the head of a turn, by which half it is in
early : (heads turn : ℕ) → leb heads turn ≡ false → turn % heads ≡ turn
early heads turn e = mod-eq_of_lt (leb-false heads turn e)

late : (heads turn : ℕ) → turn < heads * 2 → leb heads turn ≡ true → turn % heads + heads ≡ turn
late heads turn l e =
    let beyond = leb-true heads turn e in
    let sum : 1 * heads + (turn - heads) ≡ turn = omega (arith, beyond) in
    let rest : (1 * heads + (turn - heads)) % heads ≡ turn - heads = digits_mod 1 (omega (arith, beyond)) in
    omega (arith, rw sum at rest, beyond)

-- turns of one half with one head are one
one-turn : (heads t u : ℕ) → t < heads * 2 → u < heads * 2 → leb heads t ≡ leb heads u → t % heads ≡ u % heads → t ≡ u
one-turn heads t u l m half same =
    ⊎_elim
    (λ (e : leb heads t ≡ true). omega (arith, late heads t l e, late heads u m (sym half ∙ e), same))
    (λ (e : leb heads t ≡ false). sym (early heads t e) ∙ same ∙ early heads u (sym half ∙ e))
    (test (leb heads t))

module _ (g : PushdownGame) (good : Good g) (table : List Entry) (birthdate : ℕ) where
  abbrev heads : ℕ
  heads = g.control * g.letters

  abbrev turn_at : ℕ → List Entry
  turn_at turn = turn_gives g table birthdate g.letters heads turn

  -- a turn that gives something is that of a head
  own : (turn : ℕ) → turn < heads * 2 → (e : Entry) → e ∈ turn_at turn
      → (agrees (is_abelard g (turn % heads / g.letters)) (leb heads turn) ≡ true)
      × (turn % heads / g.letters < g.control) × (turn % heads % g.letters < g.letters)
      × e ∈ head_candidates g table birthdate (turn % heads / g.letters) (turn % heads % g.letters)
  unfolding turn_gives
  own turn l e m =
      let some : 0 < heads = omega arith in
      let at = head_at g.control g.letters (turn % heads) good.ranged.bottom (mod-lt turn some) in
      ⊎_elim
      (λ (t : agrees (is_abelard g (turn % heads / g.letters)) (leb heads turn) ≡ true). (t, at.0, at.1, rw t at m))
      (λ (t : agrees (is_abelard g (turn % heads / g.letters)) (leb heads turn) ≡ false). absurd (Memᴰ.not-nil (rw t at m)))
      (test (agrees (is_abelard g (turn % heads / g.letters)) (leb heads turn)))

  pub turns-in : (e : Entry) → e ∈ flat_map turn_at (below (heads * 2)) → e ∈ candidates g table birthdate
  unfolding candidates
  turns-in e m =
      let t = flat_map-in turn_at (below (heads * 2)) m in
      let o = own t.0 (below_in (heads * 2) t.1) e t.2 in
      in-flat_map (λ p. flat_map (head_candidates g table birthdate p) (below g.letters)) (in-below g.control o.1)
      (in-flat_map (head_candidates g table birthdate (t.0 % heads / g.letters)) (in-below g.letters o.2) o.3)

  -- and every head has its turn
  head-below : (p a : ℕ) → p < g.control → a < g.letters → p * g.letters + a < heads
  head-below p a lp la =
      let rows : suc p * g.letters ≤ heads = mul-le-mul_right g.letters lp in
      omega (arith, rows, suc-mul p g.letters)

  turn-of : (p a turn : ℕ) → p < g.control → a < g.letters → turn % heads ≡ p * g.letters + a → agrees (is_abelard g p) (leb heads turn) ≡ true
      → turn_at turn ≡ head_candidates g table birthdate p a
  unfolding turn_gives
  turn-of p a turn lp la e t = rw (e, digits_div p la, digits_mod p la, t)

  pub in_turns : (e : Entry) → e ∈ candidates g table birthdate → e ∈ flat_map turn_at (below (heads * 2))
  unfolding candidates
  in_turns e m =
      let f = flat_map-in (λ p. flat_map (head_candidates g table birthdate p) (below g.letters)) (below g.control) m in
      let h = flat_map-in (head_candidates g table birthdate f.0) (below g.letters) f.2 in
      let p = f.0 in
      let a = h.0 in
      let lp = below_in g.control f.1 in
      let la = below_in g.letters h.1 in
      let head = p * g.letters + a in
      let low = head-below p a lp la in
      ⊎_elim
      (λ (t : is_abelard g p ≡ true).
      let turn = 1 * heads + head in
      let later : leb heads turn ≡ true = le-leb heads turn (omega arith) in
      in-flat_map turn_at {x = turn} (in-below (heads * 2) (omega (arith, low)))
      (subst (λ (l : List Entry). e ∈ l) (sym (turn-of p a turn lp la (digits_mod 1 low) (rw (t, later)))) h.2))
      (λ (t : is_abelard g p ≡ false).
      let first : leb heads head ≡ false = lt-leb heads head low in
      in-flat_map turn_at {x = head} (in-below (heads * 2) (omega (arith, low)))
      (subst (λ (l : List Entry). e ∈ l) (sym (turn-of p a head lp la (mod-eq_of_lt low) (rw (t, first)))) h.2))
      (test (is_abelard g p))

  module _ (proper : (e : Entry) → e ∈ table → Proper g.states e.set) where
    low_turn : (turn : ℕ) → LowFirst (turn_at turn)
    unfolding turn_gives Pairwise
    low_turn turn =
        ⊎_elim
        (λ (t : agrees (is_abelard g (turn % heads / g.letters)) (leb heads turn) ≡ true).
        rw t (low-head g good table proper birthdate (turn % heads / g.letters) (turn % heads % g.letters)))
        (λ (t : agrees (is_abelard g (turn % heads / g.letters)) (leb heads turn) ≡ false). rw t tt)
        (test (agrees (is_abelard g (turn % heads / g.letters)) (leb heads turn)))

    same_head : (t u : ℕ) → t / g.letters ≡ u / g.letters → t % g.letters ≡ u % g.letters → t ≡ u
    same_head t u d m =
        sym (div-add-mod t g.letters) ∙ ap (λ (k : ℕ). g.letters * k + t % g.letters) d
        ∙ ap (λ (k : ℕ). g.letters * (u / g.letters) + k) m
        ∙ div-add-mod u g.letters

    low-turns : LowFirst (flat_map turn_at (below (heads * 2)))
    low-turns =
        pairwise-flat_map (λ (x y : Entry). key_of y ≡ key_of x → x.rule ≤ y.rule) turn_at ◌<◌ (below (heads * 2)) (below-pairwise (heads * 2))
        (λ t i. low_turn t)
        (λ t u i j before c d l m e.
        let lt = below_in (heads * 2) i in
        let lu = below_in (heads * 2) j in
        let x = own t lt c l in
        let y = own u lu d m in
        let q = apart g good table proper birthdate x.1 x.2 y.1 y.2
        (head_in g table birthdate (t % heads / g.letters) (t % heads % g.letters) x.3)
        (head_in g table birthdate (u % heads / g.letters) (u % heads % g.letters) y.3)
        e
        in
        let half = both-agree (is_abelard g (t % heads / g.letters)) (leb heads t) (leb heads u) x.0
        (subst (λ (p : ℕ). agrees (is_abelard g p) (leb heads u) ≡ true) (sym q.0) y.0)
        in
        let same = one-turn heads t u lt lu half (same_head (t % heads) (u % heads) q.0 q.1) in
        absurd (omega (arith, same, before)))

    -- The turns give the candidates of the round.
    pub turns-alike : Alike (flat_map turn_at (below (heads * 2))) (candidates g table birthdate)
    turns-alike =
        record {
          to = turns-in;
          back = in_turns;
          low = low-turns;
          low' = low_first g good table proper birthdate;
          one =
              λ x y i j e r.
              let c = candidates-in g table birthdate (turns-in x i) in
              let d = candidates-in g table birthdate (turns-in y j) in
              let k =
              parts g good table proper {s = x.state} {s' = y.state}
              (subst (λ (n : ℕ). n < g.letters) (sym c.4.letter) c.3)
              (subst (λ (n : ℕ). n < g.letters) (sym d.4.letter) d.3)
              (gives-proper g good table proper c.2 c.3 c.4.gives)
              (gives-proper g good table proper d.2 d.3 d.4.gives)
              e
              in
              same-entry x y k.0 k.1 k.2 (c.4.date ∙ sym d.4.date) r;
        }
