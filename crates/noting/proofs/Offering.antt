-- The sets of a word are noted as entries of a head, the lowest first.
use Prim.Native.Nat.{ℕ, suc, ◌+◌, ◌*◌, ◌-◌, ◌/◌, ◌%◌, ◌^◌, ◌<◌, ◌≤◌}
use native.Mathlib.Omega.{arith}
use mathlib.Core.Path.{◌≡◌, refl, sym, ap, subst, ◌∙◌}
use mathlib.Core.Logic.{◌⊎◌, inl, inr, ⊎_elim}
use mathlib.Core.Bool.{true, false}
use mathlib.Core.List.Memᴰ
use mathlib.Core.List.{List}
use lib.ListN.{length, set}
use lib.Bits.{bit_and}
use lib.Dec.{eqb}
use borrow.Author.Tests.{eqb-true, eqb-false}
use Rattle.game.specs.Sets.{has}
use Rattle.game.specs.SetLaws.{none_has}
use Rattle.game.specs.LowestLaws.{LowestOf, Cleared, cleared}
use Rattle.game.specs.ListLaws.{◌∈◌, test, clash}
use Rattle.game.specs.Game.{PushdownGame}
use Rattle.game.specs.GoodGame.{Good}
use Rattle.table.specs.Table.{Entry, entry_of, first_word, key_of}
use Rattle.table.specs.Pairwise.{Ascending}
use Rattle.rounds.specs.Rounds.{add, next_round, entry_at}
use Rattle.rounds.specs.AddLaws.{Absent}
use Rattle.rounds.proofs.AddLaws.{add-old, add-in, add-there}
use Rattle.rounds.specs.EndsRange.{Proper}
use Rattle.rounds.proofs.Candidates.{parts, gives-proper}
use Rattle.rounds.specs.RoundLaws.{Born, AllRanged}
use Rattle.rounds.proofs.RoundLaws.{next-ranged}
use Rattle.unions.specs.Expand.{expand, Elements}
use Rattle.unions.specs.ExpandLaws.{expand-same}
use Rattle.unions.specs.Pool.{Head}
use Rattle.unions.specs.Ending.{OfWord, Passed}
use Rattle.noting.specs.Taking.{Taking, head-entry, entry-head, beyond, noted_more}
use Rattle.noting.specs.Offers.{Offer, More, Noting}

-- one entry
module _ (el : List ℕ) (g : PushdownGame) (good : Good g) (es : List Entry) (asc : Ascending es) (ranged : AllRanged g es) (b : ℕ) (log : List ℕ) (count : ℕ) (now : List Entry) (t : Taking el g es b log count now) (p a rule x : ℕ) (lp : p < g.control) (la : a < g.letters) (offer : Offer el g es now p a rule x) where
  abbrev entry : Entry
  entry = entry_at p a b rule (expand el x)

  proper : (e : Entry) → e ∈ es → Proper g.states e.set
  proper e m = (ranged e m).set

  absent-of : (table : List Entry) → AllRanged g table → (Head table p a (expand el x) → ⊥) → Absent (key_of entry) table
  absent-of table r none y i k =
      let here = r y i in
      let q = parts g good es proper {s = y.state} {s' = p} here.letter la here.set (gives-proper g good es proper lp la offer.gives) k in
      none
      (subst (λ (s : ℕ). Head table s a (expand el x)) q.0
      (subst (λ (l : ℕ). Head table y.state l (expand el x)) q.1 (subst (Head table y.state y.letter) q.2 (entry-head table y i))))

  born : Born g es entry
  born = record { state = lp; letter = la; new = absent-of es ranged offer.new; gives = offer.gives; lowest = offer.lowest }

  absent : Absent (key_of entry) now
  absent = absent-of now (λ e i. next-ranged g good es asc ranged b e (t.news e i)) offer.fresh

  pub offer-beyond : (size : ℕ) → size ≤ count → size < length (next_round g es b)
  offer-beyond size l = let m = beyond el g good es asc ranged b log count now t entry born refl absent in omega (arith, l, m, t.logged.counted)

  pub offer-noted : (first : ℕ) → first ≡ first_word p a b → count * 3 + 2 < length log
      → Taking el g es b (set (set (set log (count * 3) first) (count * 3 + 1) x) (count * 3 + 2) rule) (suc count) (add entry now)
  unfolding first_word
  offer-noted first ef room =
      noted_more el g good es asc ranged b log count now t entry born refl absent first x rule room offer.small same
    where
      middle : (v a b : ℕ) → v ≡ a + 256 * b → a < 256 → a ≡ v % 256
      middle v a b e l = omega arith

      same : entry ≡ entry_of first (expand el x) rule
      same =
          let sp : p < 256 = omega (arith, lp, good.ranged.controls) in
          let sa : a < 256 = omega (arith, la, good.ranged.letters) in
          let s : p ≡ first % 256 = omega (arith, ef, sp, sa) in
          let high : first / 256 ≡ a + 256 * b = omega (arith, ef, sp) in
          let l : a ≡ first / 256 % 256 = middle (first / 256) a b high sa in
          let d : b ≡ first / 65536 = omega (arith, ef, sp, sa) in
          λ i. record { state = s i; letter = l i; set = expand el x; birthdate = d i; rule = rule }

  pub offer-heads : (q c z : ℕ) → Head (add entry now) q c z → Head now q c z ⊎ ((q ≡ p) × (c ≡ a) × (z ≡ expand el x))
  offer-heads q c z m =
      let h = head-entry (add entry now) q c z m in
      ⊎_elim
      (λ i.
      inl
      (subst (λ (s : ℕ). Head now s c z) h.2
      (subst (λ (l : ℕ). Head now h.0.state l z) h.3 (subst (Head now h.0.state h.0.letter) h.4 (entry-head now h.0 i)))))
      (λ r.
      inr (sym h.2 ∙ ap (λ (e : Entry). e.state) r.0, sym h.3 ∙ ap (λ (e : Entry). e.letter) r.0, sym h.4 ∙ ap (λ (e : Entry). e.set) r.0))
      (add-in entry now t.ascending h.1)

  pub offer-kept : (q c z : ℕ) → Head now q c z → Head (add entry now) q c z
  offer-kept q c z m =
      let h = head-entry now q c z m in
      subst (λ (s : ℕ). Head (add entry now) s c z) h.2
      (subst (λ (l : ℕ). Head (add entry now) h.0.state l z) h.3
      (subst (Head (add entry now) h.0.state h.0.letter) h.4 (entry-head (add entry now) h.0 (add-old entry now h.1))))

  pub itself-head : Head (add entry now) p a (expand el x)
  itself-head =
      let i = add-there entry now in
      ⊎_elim (λ k. absurd (absent i.0 k i.2)) (λ q. entry-head (add entry now) entry (Memᴰ.cast (sym q.0) i.1))
      (add-in entry now t.ascending i.1)

-- the sets passed are noted
pub record Words (word from size first rule : ℕ) (log₀ : List ℕ) (count₀ : ℕ) (log : List ℕ) (count rest : ℕ) : Type 0 where
  pub left : (s : ℕ) → has rest s ≡ true → has word s ≡ true
  pub room : count ≤ size
  pub same : length log ≡ length log₀
  pub notes : (el : List ℕ) (g : PushdownGame) (es now : List Entry) (b p a : ℕ) → Elements el g.states → Good g → Ascending es → AllRanged g es → Taking el g es b log₀ count₀ now
      → first ≡ first_word p a b → p < g.control → a < g.letters → ((s : ℕ) → s < 64 → has word s ≡ true → Offer el g es now p a rule (from + s))
      → (after : List Entry) × Taking el g es b log count after × More el (Passed word from rest) p a now after

module _ (word from size first rule : ℕ) (log₀ : List ℕ) (count₀ : ℕ) where
  pub words-start : count₀ ≤ size → Words word from size first rule log₀ count₀ log₀ count₀ word
  words-start l =
      record {
        left = λ s h. h;
        room = l;
        same = refl;
        notes =
            λ el g es now b p a ok good asc ranged t ef lp la offers.
            (now, t, record { from = λ q c z h. inl h; kept = λ q c z h. h; into = λ y m. clash m.2 m.3 });
      }

  module _ (log : List ℕ) (count rest s : ℕ) (w : Words word from size first rule log₀ count₀ log count rest) (some : 0 < rest) (low : LowestOf 64 rest s) where
    gone : Cleared rest s (bit_and rest (rest - 1))
    gone = cleared s rest some low.member low.below

    kept : (k : ℕ) → has (bit_and rest (rest - 1)) k ≡ true → has rest k ≡ true
    kept k h = sym (gone.kept k (λ e. clash (ap (has (bit_and rest (rest - 1))) (sym e) ∙ h) gone.gone)) ∙ h

    module _ (el : List ℕ) (g : PushdownGame) (es now : List Entry) (b p a : ℕ) (ok : Elements el g.states) (offers : (k : ℕ) → k < 64 → has word k ≡ true → Offer el g es now p a rule (from + k)) (after : List Entry) (more : More el (Passed word from rest) p a now after) where
      -- the set at hand was not noted since
      still-fresh : Offer el g es after p a rule (from + s)
      still-fresh =
          let o = offers s low.small (w.left s low.member) in
          record {
            small = o.small;
            gives = o.gives;
            lowest = o.lowest;
            new = o.new;
            fresh =
                λ h.
                ⊎_elim (λ k. o.fresh k)
                (λ k.
                let y = k.2 in
                let q = y.1 in
                let same = expand-same el g.states ok (from + s) y.0 o.small (subst (λ (v : ℕ). v < 2 ^ length el) (sym q.4) (offers q.0 q.1 q.2).small) y.2 in
                let digit : q.0 ≡ s = omega (arith, same, q.4) in
                clash low.member (ap (has rest) (sym digit) ∙ q.3))
                (more.from p a (expand el (from + s)) h);
          }

    pub words-full : size ≤ count → (el : List ℕ) (g : PushdownGame) (es now : List Entry) (b p a : ℕ) → Elements el g.states → Good g → Ascending es → AllRanged g es
        → Taking el g es b log₀ count₀ now → first ≡ first_word p a b → p < g.control → a < g.letters
        → ((k : ℕ) → k < 64 → has word k ≡ true → Offer el g es now p a rule (from + k)) → size < length (next_round g es b)
    words-full full el g es now b p a ok good asc ranged t ef lp la offers =
        let r = w.notes el g es now b p a ok good asc ranged t ef lp la offers in
        offer-beyond el g good es asc ranged b log count r.0 r.1 p a rule (from + s) lp la (still-fresh el g es now b p a ok offers r.0 r.2) size full

    pub words-on : (log' : List ℕ) → count < size → size * 3 ≤ length log₀ → log' ≡ set (set (set log (count * 3) first) (count * 3 + 1) (from + s)) (count * 3 + 2) rule → length log' ≡ length log
        → Words word from size first rule log₀ count₀ log' (count + 1) (bit_and rest (rest - 1))
    words-on log' l room e same =
        record {
          left = λ k h. w.left k (kept k h);
          room = omega arith;
          same = same ∙ w.same;
          notes =
              λ el g es now b p a ok good asc ranged t ef lp la offers.
              let r = w.notes el g es now b p a ok good asc ranged t ef lp la offers in
              let o = still-fresh el g es now b p a ok offers r.0 r.2 in
              let m = r.2 in
              let next : suc count ≡ count + 1 = omega arith in
              let take = offer-noted el g good es asc ranged b log count r.0 r.1 p a rule (from + s) lp la o first ef (omega (arith, l, room, w.same)) in (
                add (entry_at p a b rule (expand el (from + s))) r.0,
                subst (λ (n : ℕ). Taking el g es b log' n (add (entry_at p a b rule (expand el (from + s))) r.0)) next
                    (subst (λ (v : List ℕ). Taking el g es b v (suc count) (add (entry_at p a b rule (expand el (from + s))) r.0)) (sym e) take),
                record {
                  from =
                      λ q c z h.
                      ⊎_elim
                      (λ k. ⊎_elim inl (λ f. let y = f.2 in let v = y.1 in inr (f.0, f.1, (y.0, (v.0, v.1, v.2, gone.kept v.0 (λ d. clash low.member (ap (has rest) (sym d) ∙ v.3)) ∙ v.3, v.4), y.2))) (m.from q c z k))
                      (λ f. inr (f.0, f.1, (from + s, (s, low.small, w.left s low.member, gone.gone, refl), f.2)))
                      (offer-heads el g good es asc ranged b log count r.0 r.1 p a rule (from + s) lp la o q c z h);
                  kept = λ q c z h. offer-kept el g good es asc ranged b log count r.0 r.1 p a rule (from + s) lp la o q c z (m.kept q c z h);
                  into =
                      λ y f.
                      ⊎_elim
                      (λ (d : eqb f.0 s ≡ true).
                      let here = f.4 ∙ ap (λ (k : ℕ). from + k) (eqb-true f.0 s d) in
                      subst (λ (v : ℕ). Head (add (entry_at p a b rule (expand el (from + s))) r.0) p a (expand el v)) (sym here) (itself-head el g good es asc ranged b log count r.0 r.1 p a rule (from + s) lp la o))
                      (λ (d : eqb f.0 s ≡ false).
                      offer-kept el g good es asc ranged b log count r.0 r.1 p a rule (from + s) lp la o p a (expand el y)
                      (m.into y (f.0, f.1, f.2, sym (gone.kept f.0 (eqb-false f.0 s d)) ∙ f.3, f.4)))
                      (test (eqb f.0 s));
                },
              );
        }

  pub words-end : (log : List ℕ) (count rest : ℕ) → rest ≡ 0 → Words word from size first rule log₀ count₀ log count rest
      → (el : List ℕ) (g : PushdownGame) (es now : List Entry) (b p a : ℕ) → Elements el g.states → Good g → Ascending es → AllRanged g es → Taking el g es b log₀ count₀ now
      → first ≡ first_word p a b → p < g.control → a < g.letters → ((s : ℕ) → s < 64 → has word s ≡ true → Offer el g es now p a rule (from + s))
      → Noting el g es b size (OfWord word from) p a now log count
  words-end log count rest e w el g es now b p a ok good asc ranged t ef lp la offers =
      let r = w.notes el g es now b p a ok good asc ranged t ef lp la offers in
      inr (
        w.room,
        (
          r.0,
          r.1,
          record {
            from = λ q c z h. ⊎_elim inl (λ f. let y = f.2 in let v = y.1 in inr (f.0, f.1, (y.0, (v.0, v.1, v.2, v.4), y.2))) (r.2.from q c z h);
            kept = r.2.kept;
            into = λ y f. r.2.into y (f.0, f.1, f.2, ap (λ (k : ℕ). has k f.0) e ∙ none_has f.0, f.3);
          },
        ),
      )
