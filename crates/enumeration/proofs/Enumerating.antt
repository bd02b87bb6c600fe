-- The turns of an enumeration, over what it enters with and leaves: a part that the memo names, a part that is finished and
-- noted, and the entry of a union.
use Prim.Native.Nat.{ℕ, ◌^◌, ◌<◌}
use native.Mathlib.Omega.{arith}
use mathlib.Core.Path.{◌≡◌, ap, ◌∙◌}
use mathlib.Core.Logic.{◌⊎◌}
use mathlib.Core.List.{List, [], ◌∷◌, map}
use lib.ListN.{length}
use Rattle.game.specs.Game.{PushdownGame}
use Rattle.table.specs.Table.{Entry, entry_of}
use Rattle.rounds.specs.Enumeration.{rest_runs}
use Rattle.rounds.specs.Growing.{Growing, grow, growing}
use Rattle.rounds.proofs.GrowingLaws.{grown-held}
use Rattle.rounds.specs.Filled.{Small, Filled}
use Rattle.table.specs.WordLaws.{word-entry}
use Rattle.enumeration.specs.Memo.{line_at}
use Rattle.enumeration.specs.Jobs.{Stands, Entered, Finished, Whole, sub_runs, sub_entries, tag_of}
use Rattle.enumeration.specs.MemoLaws.{memo-hit, memo-kept, memo-stored}
use Rattle.enumeration.specs.TakingLaws.{given}
use Rattle.enumeration.specs.declared.runs.Job.{Job}

module _ (g : PushdownGame) (old : List Entry) (birthdate n : ℕ) (job : Job) (rules work : List ℕ) where
  -- the entry of a union
  abbrev entry : ℕ → Entry
  entry = given g old birthdate n job rules work

  module _ (words : List ℕ) (count : ℕ) (memo : List ℕ) (s : Growing) (h : Entered g old birthdate n job rules work words count memo s) where
    -- a list that changes nothing
    pub unchanged : (es : List Entry) → growing n es s ≡ s → Finished g old birthdate n es s words count memo
    unchanged es e = record { filled = rw e h.filled; memoed = rw e h.memoed }

    -- a part that the memo names
    pub named : (r left u k : ℕ) → Whole g job r → r < length g.rules
        → line_at memo k ≡ record { tag = tag_of job.state job.letter r; left = left; union = u }
        → Finished g old birthdate n (map entry (sub_runs g old job.state job.letter job.end r left u)) s words count memo
    unfolding sub_entries
    named r left u k whole l e =
        unchanged (map entry (sub_runs g old job.state job.letter job.end r left u))
        (rw (whole.ends, whole.named)
        (memo-hit g old birthdate n memo s h.memoed k job.state job.letter r left u h.stands.state h.stands.letter l e))

    -- a part that is finished, and noted
    pub noted : (r left u : ℕ) → Whole g job r → r < length g.rules → (words' : List ℕ) (count' : ℕ) (memo' memo'' : List ℕ)
        → Finished g old birthdate n (map entry (sub_runs g old job.state job.letter job.end r left u)) s words' count' memo'
        → ((k : ℕ) → (line_at memo'' k ≡ record { tag = tag_of job.state job.letter r; left = left; union = u }) ⊎ (line_at memo'' k ≡ line_at memo' k))
        → Finished g old birthdate n (map entry (sub_runs g old job.state job.letter job.end r left u)) s words' count' memo''
    unfolding sub_entries
    noted r left u whole l words' count' memo' memo'' f lines =
        let es = map entry (sub_runs g old job.state job.letter job.end r left u) in
        let same : sub_entries g old birthdate job.state job.letter r left u ≡ es = rw (whole.ends, whole.named) in
        record {
          filled = f.filled;
          memoed =
              memo-stored g old birthdate n h.stands.ranged memo' memo'' (growing n es s) job.state job.letter r left u
              h.stands.letter l f.memoed (rw same (grown-held n es s)) lines;
        }

  -- No rule is left: the union's entry is added.
  module _ (u : ℕ) (some : 0 < u) (small : u < 2 ^ 32) (stands : Stands g old birthdate job rules work) where
    entry-is : entry_of job.first u job.field ≡ entry u
    entry-is =
        ap (λ (w : ℕ). entry_of w u job.field) stands.first
        ∙ word-entry job.state job.letter birthdate u job.field
        (omega (arith, stands.state, stands.ranged.controls))
        (omega (arith, stands.letter, stands.ranged.letters))

    pub entry-small : Small (entry_of job.first u job.field)
    entry-small =
        rw entry-is
        (record {
          state = omega (arith, stands.state, stands.ranged.controls);
          letter = omega (arith, stands.letter, stands.ranged.letters);
          filled = some;
          set = small;
        })

    pub added : (s : Growing) (words : List ℕ) (count : ℕ) (memo : List ℕ)
        → Entered g old birthdate n job rules work words count memo s → (words' : List ℕ) (count' : ℕ)
        → Filled n words' count' (grow n s (entry_of job.first u job.field))
        → Finished g old birthdate n (map entry (rest_runs g old [] u)) s words' count' memo
    unfolding rest_runs growing
    added s words count memo h words' count' f =
        record { filled = rw entry-is at f; memoed = memo-kept g old birthdate n memo s (entry u ∷ []) h.memoed }
