-- A set of which a state has no entry on a letter is passed by no run.
use Prim.Native.Nat.{ℕ, ◌%◌, ◌^◌, ◌<◌, ◌≤◌}
use native.Mathlib.Omega.{arith}
use mathlib.Core.Path.{◌≡◌, refl, sym, ap, ◌∙◌}
use mathlib.Core.Logic.{⊎_elim}
use mathlib.Core.Bool.{Bool, true, false, cond}
use mathlib.Core.List.Memᴰ
use mathlib.Core.List.{List, [], ◌∷◌, flat_map}
use lib.ListN.{length, get_or}
use lib.Dec.{ltb}
use borrow.Author.Tests.{ltb-true, ltb-false}
use Rattle.game.specs.Sets.{has, union}
use Rattle.game.specs.ListLaws.{◌∈◌, test, clash}
use Rattle.game.specs.Game.{Rule, PushdownGame}
use Rattle.table.specs.Table.{Entry, key}
use Rattle.table.specs.Rows.{Placed}
use Rattle.judge.specs.Worth.{entry_of_head}
use Rattle.rounds.specs.Rounds.{sets_of}
use Rattle.rounds.specs.Enumeration.{state_runs, flat_map-same}
use Rattle.rounds.specs.Filled.{Stored}
use Rattle.rounds.specs.InsertLaws.{no_entry}
use Rattle.rounds.specs.MemberLaws.{has-mod, no-mod}
use Rattle.enumeration.specs.JobLaws.{sets-scan}
use Rattle.enumeration.specs.HeadPlaces.{before_head, after-head, all_none}

-- where the places of a head leave no entry between them
module _ (n : ℕ) (words : List ℕ) (count : ℕ) (old : List Entry) (st : Stored n words count old) (q c first last : ℕ) (starts : Placed words count (key q c 0) first) (ends : Placed words count (key q c 4294967296) last) (none : last ≤ first) where
  no-entry : (i : ℕ) → i < length old → entry_of_head q c (get_or old i no_entry) ≡ false
  no-entry i l =
      ⊎_elim (λ (t : ltb i first ≡ true). before_head n words count old st q c first starts i (ltb-true i first t))
      (λ (t : ltb i first ≡ false). after-head n words count old st q c last ends i (omega (arith, none, ltb-false i first t)) l)
      (test (ltb i first))

  no-sets : (f : ℕ → List ℕ) → flat_map f (sets_of old q c) ≡ []
  no-sets f =
      sets-scan f q c old
      ∙ all_none (λ (e : Entry). cond (entry_of_head q c e) (f e.set) []) no_entry old
      (λ i l. ap (λ (b : Bool). cond b (f (get_or old i no_entry).set) []) (no-entry i l))

  -- no run passes states among which the head's is
  pub no-runs : (g : PushdownGame) (rs : List Rule) (ss : List ℕ) → q ∈ ss → (u : ℕ) → state_runs g old c rs ss u ≡ []
  unfolding state_runs
  no-runs g rs [] m u = absurd (Memᴰ.not-nil m)
  no-runs g rs (s ∷ ss) m u =
      ⊎_elim (λ (e : q ≡ s). ap (λ (k : ℕ). flat_map (λ x. state_runs g old c rs ss (union u x)) (sets_of old k c)) (sym e) ∙ no-sets (λ x. state_runs g old c rs ss (union u x)))
      (λ i. flat_map-same (λ x. no-runs g rs ss i (union u x)) (sets_of old s c) ∙ all_none (λ (x : ℕ). []) 0 (sets_of old s c) (λ k l. refl))
      (Memᴰ.cases_cons m)

-- the states left of a set are states of it
pub left-of : (set left q : ℕ) → ((k : ℕ) → has left k ≡ true → has set k ≡ true) → (rest : ℕ) → rest ≡ left % 2 ^ q → (k : ℕ) → has rest k ≡ true → has set k ≡ true
left-of set left q inside rest e k h =
    let h' : has (left % 2 ^ q) k ≡ true = ap (λ (x : ℕ). has x k) (sym e) ∙ h in
    ⊎_elim (λ (t : ltb k q ≡ true). inside k (sym (has-mod left q k (ltb-true k q t)) ∙ h'))
    (λ (t : ltb k q ≡ false). clash h' (no-mod left q k (ltb-false k q t)))
    (test (ltb k q))
