-- Round 0: the target's transitions added one after another.
use Prim.Native.Nat.{ℕ, suc, ◌+◌, ◌-◌, ◌*◌, ◌^◌, ◌<◌, ◌≤◌}
use native.Mathlib.Omega.{arith}
use mathlib.Core.Path.{◌≡◌, refl, ap, ◌∙◌}
use mathlib.Core.Logic.{inr}
use mathlib.Core.List.Memᴰ
use mathlib.Core.List.{List, [], map}
use lib.ListN.{length, get_or, drop, replicate, length-append, drop_of_length-le}
use lib.Seq.{drop-cons}
use lib.Pow.{pow_mono}
use native.Mathlib.Nat.{lt_of_lt_of_le}
use Rattle.game.specs.Game.{Transition, PushdownGame}
use Rattle.game.specs.GoodGame.{GoodTarget}
use Rattle.game.specs.Stored.{target_words, target_at}
use Rattle.game.specs.StoredLaws.{no_transition, target-stored, length-target_words}
use Rattle.game.specs.declared.game.Sizes.{Sizes}
use Rattle.table.specs.Table.{entry_of, first_word, entry_words, table_words, entry_stride}
use Rattle.table.specs.WordLaws.{word-entry}
use Rattle.table.specs.Pairwise.{Pairwise}
use Rattle.rounds.specs.Rounds.{target_entry}
use Rattle.rounds.specs.Growing.{Growing, grow, growing, partly}
use Rattle.rounds.specs.Filled.{Small, Stored, Filled}
use Rattle.rounds.proofs.InsertLaws.{get_d-in}
use Rattle.rounds.proofs.Growing.{full-any}
use Rattle.rounds.proofs.StoredRows.{over-full}
use Rattle.solver.specs.Given.{Given}

-- the transitions before place t are added
pub record Adding (g : PushdownGame) (n t : ℕ) (words : List ℕ) (count : ℕ) : Type 0 where
  pub now : Growing
  pub filled : Filled n words count now
  pub rest : growing n (map target_entry g.targets) (partly []) ≡ growing n (map target_entry (drop t g.targets)) now

-- zeroed words are those of an empty table
empty-words : (n : ℕ) (words : List ℕ) → words ≡ replicate (n * 3) 0 → Stored n words 0 []
unfolding table_words entry_words Pairwise
empty-words n words e =
    let same : n * 3 ≡ entry_stride * (n - 0) = omega arith in
    record {
      counted = refl;
      fits = omega arith;
      stands = e ∙ ap (λ (k : ℕ). replicate k 0) same;
      ascending = tt;
      small = λ x m. absurd (Memᴰ.not-nil m);
    }

pub adding-starts : (g : PushdownGame) (n : ℕ) (words : List ℕ) → words ≡ replicate (n * 3) 0 → Adding g n 0 words 0
adding-starts g n words e = record { now = partly []; filled = inr (refl, empty-words n words e); rest = refl }

module _ (g : PushdownGame) (sizes : Sizes) (rules targets : List ℕ) (given : Given g sizes rules targets) where
  pub counted : sizes.targetcount ≡ length g.targets
  counted = ap (λ (s : Sizes). s.targetcount) given.held.sized

  pub many : length g.targets * 3 ≤ length targets
  many =
      omega (arith, ap length given.targeted ∙ length-append (target_words g.targets) given.slack, length-target_words g.targets)

  module _ (t : ℕ) (l : t < sizes.targetcount) where
    abbrev transition : Transition
    transition = get_or g.targets t no_transition

    inside : t < length g.targets
    inside = omega (arith, counted)

    is : target_at targets (t * 3) ≡ transition
    is = rw given.targeted (target-stored t g.targets given.slack no_transition inside)

    good : GoodTarget g.control g.states g.letters transition
    good = given.good.ranged.target transition (get_d-in no_transition g.targets t inside)

    pub state-small : get_or targets (t * 3) 0 < 32
    state-small = omega (arith, ap (λ (x : Transition). x.state) is, good.state, given.good.ranged.states)

    pub letter-small : get_or targets (t * 3 + 1) 0 < 64
    letter-small = omega (arith, ap (λ (x : Transition). x.letter) is, good.letter, given.good.ranged.letters)

    -- the entry of its words
    entry-is : entry_of (get_or targets (t * 3) 0 + 256 * get_or targets (t * 3 + 1) 0) (get_or targets (t * 3 + 2) 0) 0 ≡ target_entry transition
    unfolding first_word
    entry-is =
        let first : get_or targets (t * 3) 0 + 256 * get_or targets (t * 3 + 1) 0 ≡ first_word (get_or targets (t * 3) 0) (get_or targets (t * 3 + 1) 0) 0 = omega arith in
        ap (λ (w : ℕ). entry_of w (get_or targets (t * 3 + 2) 0) 0) first
        ∙ word-entry (get_or targets (t * 3) 0) (get_or targets (t * 3 + 1) 0) 0 (get_or targets (t * 3 + 2) 0) 0
        (omega (arith, state-small))
        (omega (arith, letter-small))
        ∙ ap target_entry is

    pub entry-small : Small (entry_of (get_or targets (t * 3) 0 + 256 * get_or targets (t * 3 + 1) 0) (get_or targets (t * 3 + 2) 0) 0)
    entry-small =
        rw entry-is
        (record {
          state = omega (arith, good.state, given.good.ranged.states);
          letter = omega (arith, good.letter, given.good.ranged.letters);
          filled = good.filled;
          set = set-small;
        })
      where
        set-small : transition.set < 2 ^ 32
        set-small = lt_of_lt_of_le good.small (pow_mono given.good.ranged.states)

    pub adding-next : (n : ℕ) (words : List ℕ) (count : ℕ) (a : Adding g n t words count) (words' : List ℕ) (count' : ℕ)
        → Filled n words' count'
        (grow n a.now (entry_of (get_or targets (t * 3) 0 + 256 * get_or targets (t * 3 + 1) 0) (get_or targets (t * 3 + 2) 0) 0))
        → Adding g n (t + 1) words' count'
    unfolding growing
    adding-next n words count a words' count' f =
        let next : t + 1 ≡ suc t = omega arith in
        record {
          now = grow n a.now (target_entry transition);
          filled = rw entry-is at f;
          rest =
              rw next
              (a.rest
              ∙ ap (λ (ts : List Transition). growing n (map target_entry ts) a.now) (drop-cons g.targets t no_transition inside));
        }

  -- once the table is full, the transitions left change nothing
  pub adding-stops : (n t : ℕ) (words : List ℕ) (count : ℕ) → Adding g n t words count → count ≡ suc n
      → Filled n words count (growing n (map target_entry g.targets) (partly []))
  adding-stops n t words count a over =
      rw (a.rest ∙ full-any n (map target_entry (drop t g.targets)) a.now (over-full n words count a.now a.filled over)) a.filled

  pub adding-ends : (n t : ℕ) (words : List ℕ) (count : ℕ) → Adding g n t words count → sizes.targetcount ≤ t
      → Filled n words count (growing n (map target_entry g.targets) (partly []))
  unfolding growing
  adding-ends n t words count a l =
      let none : drop t g.targets ≡ [] = drop_of_length-le g.targets {i = t} (omega (arith, counted)) in
      rw (a.rest, none) a.filled
