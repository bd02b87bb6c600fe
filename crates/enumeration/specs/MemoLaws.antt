-- Laws of the memo: a line that names a part says that its entries are held, whatever the table grew by since.
use Rattle.std.specs.Prelude.{ℕ, ◌<◌, ◌≡◌, ◌⊎◌, List, length}
use Rattle.std.proofs.Common.{arith, sym, ap, ◌∙◌, ⊎_elim}
use Rattle.game.specs.Game.{PushdownGame}
use Rattle.game.specs.GoodGame.{Ranged}
use Rattle.table.specs.Table.{Entry}
use Rattle.rounds.specs.Growing.{Growing, growing}
use Rattle.rounds.specs.GrowingLaws.{HeldBy}
use Rattle.rounds.proofs.GrowingLaws.{held-passed, all_stay}
use Rattle.enumeration.specs.Memo.{Line, line_at}
use Rattle.enumeration.specs.Jobs.{Memoed, sub_entries, tag_of}
use Rattle.enumeration.specs.JobLaws.{tag-of}

module _ (g : PushdownGame) (old : List Entry) (birthdate n : ℕ) where
  -- what a line names is passed over
  pub memo-hit : (memo : List ℕ) (s : Growing) → Memoed g old birthdate n memo s → (k p a r left u : ℕ)
      → p < g.control → a < g.letters → r < length g.rules → line_at memo k ≡ record { tag = tag_of p a r; left = left; union = u }
      → growing n (sub_entries g old birthdate p a r left u) s ≡ s
  memo-hit memo s m k p a r left u lp la lr e =
      let h = m k p a r lp la lr (ap (λ (l : Line). l.tag) e) in
      held-passed n (sub_entries g old birthdate p a r left u) s
      (rw (ap (λ (l : Line). l.left) e, ap (λ (l : Line). l.union) e) at h)

  -- the table grows
  pub memo-kept : (memo : List ℕ) (s : Growing) (es : List Entry) → Memoed g old birthdate n memo s → Memoed g old birthdate n memo (growing n es s)
  memo-kept memo s es m k p a r lp la lr e = all_stay n es _ s (m k p a r lp la lr e)

  -- a line is written for a part that is held
  pub memo-stored : Ranged g → (memo memo' : List ℕ) (s : Growing) (p a r left u : ℕ)
      → a < g.letters → r < length g.rules → Memoed g old birthdate n memo s
      → HeldBy n (sub_entries g old birthdate p a r left u) s
      → ((k : ℕ) → (line_at memo' k ≡ record { tag = tag_of p a r; left = left; union = u }) ⊎ (line_at memo' k ≡ line_at memo k))
      → Memoed g old birthdate n memo' s
  memo-stored ranged memo memo' s p a r left u la lr m held lines k p' a' r' lp' la' lr' e =
      ⊎_elim
      (λ (new : line_at memo' k ≡ record { tag = tag_of p a r; left = left; union = u }).
      let same = tag-of p a r p' a' r' (omega (arith, ranged.letters)) (omega (arith, ranged.letters)) (omega (arith, ranged.rules)) (omega (arith, ranged.rules))
      (sym (ap (λ (l : Line). l.tag) new) ∙ e)
      in
      rw (ap (λ (l : Line). l.left) new, ap (λ (l : Line). l.union) new, ← same.0, ← same.1, ← same.2) held)
      (λ (kept : line_at memo' k ≡ line_at memo k).
      rw (ap (λ (l : Line). l.left) kept, ap (λ (l : Line). l.union) kept) (m k p' a' r' lp' la' lr' (sym (ap (λ (l : Line). l.tag) kept) ∙ e)))
      (lines k)
