-- What the runs of a table give: the candidates of a round, their range, and that of equal keys the lowest rule comes first.
use Prim.Native.Nat.{ℕ, suc, ◌^◌, ◌<◌, ◌≤◌}
use Rattle.std.proofs.Common.{lt_of_lt_of_le, sym, ◌∙◌, subst, pow_mono, eqb-true}
use native.Mathlib.Omega.{arith}
use Rattle.std.specs.Prelude.{◌≡◌, refl, true, false, eqb}
use Rattle.std.proofs.Math.Path.{ap}
use Rattle.std.proofs.Math.Logic.{⊎_elim}
use mathlib.Core.List.Memᴰ
use mathlib.Core.List.{List, [], ◌∷◌, map, flat_map}
use Rattle.game.specs.Game.{Rule, PushdownGame, of_head, rules_of, word_of}
use Rattle.game.specs.Win.{is_abelard}
use Rattle.table.specs.Table.{Entry, key, key_of}
use Rattle.game.specs.ListLaws.{◌∈◌, test, both, filter-in, map-in, in_map, flat_map-in, in-flat_map}
use Rattle.rounds.specs.Rounds.{below, unions, rule_ends, entry_at, eloise_candidates, abelard_candidates, head_candidates, candidates}
use Rattle.game.specs.GoodGame.{Numbered, Good}
use Rattle.rounds.specs.EndsLaws.{below_in, in-below, below-pairwise}
use Rattle.rounds.specs.EndsRange.{Proper, unions-proper, ends-proper}
use Rattle.table.specs.Pairwise.{pairwise-all, pairwise-flat_map, NumberBefore, numbered-from, head-rising}
use Rattle.rounds.specs.AddLaws.{LowFirst}
use Rattle.rounds.proofs.AddLaws.{key-parts}
use Rattle.rounds.specs.Candidates.{Gives, abelards, eloises}

pub gives_at : {g : PushdownGame} {table : List Entry} {p a x q b y field : ℕ} → q ≡ p → b ≡ a → y ≡ x → Gives g table p a x field
    → Gives g table q b y field
gives_at e h k r = rw (e, h, k) r

-- a rule of a head is one of the game's
pub rule-in : (g : PushdownGame) (p a : ℕ) {r : Rule} → r ∈ rules_of g p a → (r ∈ g.rules) × (r.from ≡ p) × (r.top ≡ a)
unfolding rules_of of_head
rule-in g p a {r} m =
    let f = filter-in (of_head p a) g.rules m in
    let t = both (eqb r.from p) (eqb r.top a) f.1 in
    (f.0, eqb-true r.from p t.0, eqb-true r.top a t.1)

-- a candidate of a head, by its parts
pub record Candidate (g : PushdownGame) (table : List Entry) (birthdate p a : ℕ) (c : Entry) : Type 0 where
  pub state : c.state ≡ p
  pub letter : c.letter ≡ a
  pub date : c.birthdate ≡ birthdate
  pub gives : Gives g table p a c.set c.rule

made : (g : PushdownGame) (table : List Entry) (birthdate p a x field : ℕ) → Gives g table p a x field → {c : Entry}
    → c ≡ entry_at p a birthdate field x → Candidate g table birthdate p a c
made g table birthdate p a x field h e =
    subst (Candidate g table birthdate p a) (sym e) (record { state = refl; letter = refl; date = refl; gives = h })

pub head_in : (g : PushdownGame) (table : List Entry) (birthdate p a : ℕ) {c : Entry} → c ∈ head_candidates g table birthdate p a
    → Candidate g table birthdate p a c
unfolding head_candidates eloise_candidates abelard_candidates
head_in g table birthdate p a {c} m =
    ⊎_elim
    (λ (t : is_abelard g p ≡ true).
    let r = map-in (entry_at p a birthdate 0) (unions (map (rule_ends g table) (rules_of g p a))) (rw t at m) in
    made g table birthdate p a r.0 0 (abelards t r.1 refl) r.2)
    (λ (t : is_abelard g p ≡ false).
    let f = flat_map-in (λ r. map (entry_at p a birthdate (suc r.number)) (rule_ends g table r)) (rules_of g p a) (rw t at m) in
    let r = map-in (entry_at p a birthdate (suc f.0.number)) (rule_ends g table f.0) f.2 in
    made g table birthdate p a r.0 (suc f.0.number) (eloises t f.0 f.1 r.1 refl) r.2)
    (test (is_abelard g p))

in_head : (g : PushdownGame) (table : List Entry) (birthdate p a x field : ℕ) → Gives g table p a x field
    → entry_at p a birthdate field x ∈ head_candidates g table birthdate p a
unfolding head_candidates eloise_candidates abelard_candidates
in_head g table birthdate p a x field (eloises t r i j e) =
    rw (t, e)
    (in-flat_map (λ r. map (entry_at p a birthdate (suc r.number)) (rule_ends g table r)) i
    (in_map (entry_at p a birthdate (suc r.number)) j))
in_head g table birthdate p a x field (abelards t j e) = rw (t, e) (in_map (entry_at p a birthdate 0) j)

pub candidates-in : (g : PushdownGame) (table : List Entry) (birthdate : ℕ) {c : Entry} → c ∈ candidates g table birthdate
    → (p : ℕ) × (a : ℕ) × (p < g.control) × (a < g.letters) × Candidate g table birthdate p a c
unfolding candidates
candidates-in g table birthdate m =
    let f = flat_map-in (λ p. flat_map (head_candidates g table birthdate p) (below g.letters)) (below g.control) m in
    let h = flat_map-in (head_candidates g table birthdate f.0) (below g.letters) f.2 in
    (f.0, h.0, below_in g.control f.1, below_in g.letters h.1, head_in g table birthdate f.0 h.0 h.2)

pub in-candidates : (g : PushdownGame) (table : List Entry) (birthdate : ℕ) {p a x field : ℕ} → p < g.control → a < g.letters
    → Gives g table p a x field → entry_at p a birthdate field x ∈ candidates g table birthdate
unfolding candidates
in-candidates g table birthdate {p} {a} {x} {field} lp la h =
    in-flat_map (λ p. flat_map (head_candidates g table birthdate p) (below g.letters)) (in-below g.control lp)
    (in-flat_map (head_candidates g table birthdate p) (in-below g.letters la) (in_head g table birthdate p a x field h))

pub unique-number : (n : ℕ) (rs : List Rule) → Numbered n rs → {r s : Rule} → r ∈ rs → s ∈ rs → r.number ≡ s.number → r ≡ s
unfolding Numbered
unique-number n [] h i j e = absurd (Memᴰ.not-nil i)
unique-number n (x ∷ rs) h {r} {s} i j e =
    ⊎_elim
    (λ (p : r ≡ x).
    ⊎_elim (λ (q : s ≡ x). p ∙ sym q)
    (λ m. absurd (omega (arith, ap (λ (z : Rule). z.number) p, h.0, numbered-from (suc n) rs h.1 m)))
    (Memᴰ.cases_cons j))
    (λ l.
    ⊎_elim (λ (q : s ≡ x). absurd (omega (arith, ap (λ (z : Rule). z.number) q, h.0, numbered-from (suc n) rs h.1 l)))
    (λ m. unique-number (suc n) rs h.1 l m e)
    (Memᴰ.cases_cons j))
    (Memᴰ.cases_cons i)

abbrev Lower : Entry → Entry → Type 0
Lower x y = key_of y ≡ key_of x → x.rule ≤ y.rule

abbrev rule_of : Entry → ℕ
rule_of e = e.rule

module _ (g : PushdownGame) (good : Good g) (table : List Entry) (proper : (e : Entry) → e ∈ table → Proper g.states e.set) where
  rule-proper : (p a : ℕ) (r : Rule) → r ∈ rules_of g p a → (x : ℕ) → x ∈ rule_ends g table r → Proper g.states x
  unfolding rule_ends
  rule-proper p a r i x m =
      let f = good.ranged.rule r (rule-in g p a i).0 in
      ends-proper g.states table proper (word_of r.count r.above r.below) r.to (omega (arith, f.to, good.ranged.control)) x m

  -- Uses that every head has a rule (question 9): the end for an Abelard head is not empty.
  pub gives-proper : {p a x field : ℕ} → p < g.control → a < g.letters → Gives g table p a x field → Proper g.states x
  gives-proper {p} {a} {x} lp la (eloises t r i j e) = rule-proper p a r i x j
  gives-proper {p} {a} {x} lp la (abelards t j e) =
      let first = good.head p a lp la in
      unions-proper g.states (map (rule_ends g table) (rules_of g p a))
      (λ family i y k.
      let r = map-in (rule_ends g table) (rules_of g p a) i in
      rule-proper p a r.0 r.1 y (subst (λ (l : List ℕ). y ∈ l) r.2 k))
      (rule_ends g table first.0)
      (in_map (rule_ends g table) first.1)
      x
      j

  -- keys of proper sets on letters of the game tell state, letter and set
  pub parts : {s a x s' a' x' : ℕ} → a < g.letters → a' < g.letters → Proper g.states x → Proper g.states x'
      → key s a x ≡ key s' a' x' → (s ≡ s') × (a ≡ a') × (x ≡ x')
  parts {s} {a} {x} {s'} {a'} {x'} la la' px px' e =
      let wide : 2 ^ g.states ≤ 4294967296 = pow_mono {j = 32} good.ranged.states in
      key-parts s a x s' a' x' (omega (arith, good.ranged.letters)) (omega (arith, good.ranged.letters)) (lt_of_lt_of_le px.small wide)
      (lt_of_lt_of_le px'.small wide) e

  of-rule : (birthdate p a : ℕ) (r : Rule) {c : Entry} → c ∈ map (entry_at p a birthdate (suc r.number)) (rule_ends g table r)
      → c.rule ≡ suc r.number
  of-rule birthdate p a r i = ap rule_of (map-in (entry_at p a birthdate (suc r.number)) (rule_ends g table r) i).2

  pub low-head : (birthdate p a : ℕ) → LowFirst (head_candidates g table birthdate p a)
  unfolding head_candidates eloise_candidates abelard_candidates rules_of
  low-head birthdate p a =
      ⊎_elim
      (λ (t : is_abelard g p ≡ true).
      rw t
      (pairwise-all Lower (map (entry_at p a birthdate 0) (unions (map (rule_ends g table) (rules_of g p a))))
      (λ c d i j k.
      let r = map-in (entry_at p a birthdate 0) (unions (map (rule_ends g table) (rules_of g p a))) i in
      let s = map-in (entry_at p a birthdate 0) (unions (map (rule_ends g table) (rules_of g p a))) j in
      omega (arith, ap rule_of r.2, ap rule_of s.2))))
      (λ (t : is_abelard g p ≡ false).
      rw t
      (pairwise-flat_map Lower (λ r. map (entry_at p a birthdate (suc r.number)) (rule_ends g table r)) NumberBefore (rules_of g p a)
      (head-rising g good p a)
      (λ r m.
      pairwise-all Lower (map (entry_at p a birthdate (suc r.number)) (rule_ends g table r))
      (λ c d i j k. omega (arith, of-rule birthdate p a r i, of-rule birthdate p a r j)))
      (λ r s m n before c d i j k. omega (arith, of-rule birthdate p a r i, of-rule birthdate p a s j))))
      (test (is_abelard g p))

  -- keys of two heads differ (through `gives-proper`, so by question 9)
  pub apart : (birthdate : ℕ) {p a q b : ℕ} → p < g.control → a < g.letters → q < g.control → b < g.letters → {c d : Entry}
      → Candidate g table birthdate p a c → Candidate g table birthdate q b d → key_of d ≡ key_of c → (p ≡ q) × (a ≡ b)
  apart birthdate lp la lq lb {c} {d} x y k =
      let r = parts {s = d.state} {s' = c.state} (subst (λ (n : ℕ). n < g.letters) (sym y.letter) lb)
      (subst (λ (n : ℕ). n < g.letters) (sym x.letter) la)
      (gives-proper lq lb y.gives)
      (gives-proper lp la x.gives)
      k
      in
      (sym x.state ∙ sym r.0 ∙ y.state, sym x.letter ∙ sym r.1 ∙ y.letter)

  pub low_first : (birthdate : ℕ) → LowFirst (candidates g table birthdate)
  unfolding candidates
  low_first birthdate =
      pairwise-flat_map Lower (λ p. flat_map (head_candidates g table birthdate p) (below g.letters)) ◌<◌ (below g.control)
      (below-pairwise g.control)
      (λ p i.
      pairwise-flat_map Lower (head_candidates g table birthdate p) ◌<◌ (below g.letters) (below-pairwise g.letters)
      (λ a j. low-head birthdate p a)
      (λ a b j k before c d l m e.
      absurd
      (omega (
        arith,
        (apart birthdate (below_in g.control i) (below_in g.letters j) (below_in g.control i) (below_in g.letters k)
            (head_in g table birthdate p a l)
            (head_in g table birthdate p b m)
            e).1,
      ))))
      (λ p q i j before c d l m e.
      let f = flat_map-in (head_candidates g table birthdate p) (below g.letters) l in
      let h = flat_map-in (head_candidates g table birthdate q) (below g.letters) m in
      absurd
      (omega (
        arith,
        (apart birthdate (below_in g.control i) (below_in g.letters f.1) (below_in g.control j) (below_in g.letters h.1)
            (head_in g table birthdate p f.0 f.2)
            (head_in g table birthdate q h.0 h.2)
            e).0,
      )))
