-- A head that was offered something is marked if more entries are noted than before: as many are the same ones.
use Prim.Native.Nat.{ℕ, ◌+◌}
use native.Mathlib.Omega.{arith}
use mathlib.Core.Path.{◌≡◌, sym, subst}
use mathlib.Core.Logic.{inl, inr, ⊎_elim}
use mathlib.Core.Bool.{true, false}
use mathlib.Core.List.Memᴰ
use mathlib.Core.List.{List}
use lib.ListN.{get_or}
use Rattle.game.specs.Sets.{has}
use Rattle.game.specs.ListLaws.{◌∈◌, test}
use Rattle.game.specs.Game.{PushdownGame}
use Rattle.game.specs.GoodGame.{Good}
use Rattle.table.specs.Table.{Entry}
use Rattle.table.specs.Pairwise.{Ascending}
use Rattle.rounds.specs.Rounds.{add, is_there, next_round}
use Rattle.rounds.proofs.AddLaws.{is_there-in, add-in, add-ascending, same_key}
use Rattle.rounds.specs.RoundLaws.{AllRanged}
use Rattle.rounds.proofs.RoundLaws.{next-ascending, key-of}
use Rattle.rounds.proofs.Growing.{absent-longer, not_there}
use Rattle.unions.specs.Pool.{Head}
use Rattle.noting.specs.Taking.{Taking, sub-length, head-entry, entry-head}
use Rattle.noting.specs.Offers.{Given, Spared, Gave}

module _ (el : List ℕ) (g : PushdownGame) (good : Good g) (es : List Entry) (asc : Ascending es) (ranged : AllRanged g es) (b count : ℕ) (log log' : List ℕ) (now after : List Entry)
    (t : Taking el g es b log count now) (t' : Taking el g es b log' count after) (kept : (q c z : ℕ) → Head now q c z → Head after q c z) where
  still : (x : Entry) → x ∈ now → x ∈ after
  still x m =
      let h = head-entry after x.state x.letter x.set (kept x.state x.letter x.set (entry-head now x m)) in
      let same = same_key (next_round g es b) (next-ascending g good es asc ranged b) (t.news x m) (t'.news h.0 h.1) (key-of (sym h.2) (sym h.3) (sym h.4)) in
      Memᴰ.cast same h.1

  -- as many entries: no head has more
  pub same-heads : (q c z : ℕ) → Head after q c z → Head now q c z
  same-heads q c z m =
      let h = head-entry after q c z m in
      let e = h.0 in
      ⊎_elim
      (λ (there : is_there now e ≡ true).
      let x = is_there-in now e there in
      let same = same_key (next_round g es b) (next-ascending g good es asc ranged b) (t.news x.0 x.1) (t'.news e h.1) x.2 in
      let i : e ∈ now = Memᴰ.cast (sym same) x.1 in
      subst (λ (s : ℕ). Head now s c z) h.2
      (subst (λ (l : ℕ). Head now e.state l z) h.3 (subst (Head now e.state e.letter) h.4 (entry-head now e i))))
      (λ (none : is_there now e ≡ false).
      let absent = not_there e now none in
      let l = sub-length (add e now) after (add-ascending e now t.ascending) t'.ascending
      (λ y i. ⊎_elim (λ j. still y j) (λ k. Memᴰ.cast k.0 h.1) (add-in e now t.ascending i)) in
      absurd (omega (arith, l, absent-longer e now absent, t.logged.counted, t'.logged.counted)))
      (test (is_there now e))

module _ {el : List ℕ} {g : PushdownGame} (good : Good g) {n : ℕ} {es : List Entry} (asc : Ascending es) (ranged : AllRanged g es) {b size p a : ℕ} {now : List Entry} {d : List ℕ} {at : ℕ}
    {gains log log' added' : List ℕ} {count count' : ℕ} (t : Taking el g es b log count now) (none : Spared g es now gains)
    (given : Given el g n es b size p a now d at log' added' count') where
  pub gave-full : count' ≡ size + 1 → Gave el g n es b size p a now d at gains log' added' count'
  gave-full e = ⊎_elim inl (λ k. absurd (omega (arith, k.0, e)))
      given

  pub gave-same : count' ≡ count → Gave el g n es b size p a now d at gains log' added' count'
  gave-same e =
      ⊎_elim inl
      (λ k.
      inr (
        k.0,
        (
          k.1,
          record {
            none = λ q c z lq lc off h.
                none.none q c z lq lc off
                (same-heads el g good es asc ranged b count log log' now k.1.after t (subst (λ (m : ℕ). Taking el g es b log' m k.1.after) e k.1.taking) k.1.kept q c z h);
          },
        ),
      ))
      given

  pub gave-marked : {gains' : List ℕ} → ((q c : ℕ) → has (get_or gains' q 0) c ≡ false → (has (get_or gains q 0) c ≡ false) × (q ≡ p → c ≡ a → ⊥)) → Gave el g n es b size p a now d at gains' log' added' count'
  gave-marked marked =
      ⊎_elim inl
      (λ k.
      inr (
        k.0,
        (
          k.1,
          record {
            none = λ q c z lq lc off h.
                let m = marked q c off in
                ⊎_elim (λ w. none.none q c z lq lc m.0 w) (λ w. absurd (m.1 w.0 w.1)) (k.1.only q c z h);
          },
        ),
      ))
      given
