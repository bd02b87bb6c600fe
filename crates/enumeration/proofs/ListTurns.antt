-- The ends that are listed for a rule, taken one after another.
use Prim.Native.Nat.{ℕ, zero, suc, ◌+◌, ◌-◌, ◌^◌, ◌<◌, ◌≤◌}
use native.Mathlib.Omega.{arith}
use mathlib.Core.Path.{◌≡◌, sym, ap, subst, ◌∙◌}
use mathlib.Core.List.{List, map}
use lib.ListN.{length, get_or, drop, length-take, length-drop}
use lib.Seq.{get_or-drop, get_or-take}
use Rattle.game.specs.Sets.{union}
use Rattle.game.specs.Game.{PushdownGame}
use Rattle.table.specs.Table.{Entry}
use Rattle.rounds.specs.Growing.{Growing}
use Rattle.enumeration.specs.Jobs.{Entered, Finished, sub_runs}
use Rattle.enumeration.specs.Lists.{Listed, start_of, stop_of, list_of, listed_runs}
use Rattle.enumeration.specs.declared.runs.Job.{Job}
use Rattle.enumeration.specs.TakingLaws.{given, Taking, take_next, all-taken, none-fits}
use Rattle.enumeration.specs.ListedLaws.{in_list}
use Rattle.enumeration.proofs.Parts.{union-some}

-- a number is a set of states below it
grows : (n : ℕ) → n < 2 ^ n
grows zero = omega arith
grows (suc n) = omega (arith, grows n)

pub union_more : (u x : ℕ) → 0 < x → 0 < union u x
union_more u x some = union-some x u x (grows x) some

module _ (lists spans : List ℕ) (r : ℕ) where
  -- how many there are, and which is at a place
  short : length (list_of lists spans r) ≤ stop_of spans r (length lists) - start_of spans r
  short = omega (arith, length-take (stop_of spans r (length lists) - start_of spans r) (drop (start_of spans r) lists))

  long : (i : ℕ) → start_of spans r ≤ i → i < stop_of spans r (length lists) → i - start_of spans r < length (list_of lists spans r)
  long i a b =
      omega (
        arith,
        length-take (stop_of spans r (length lists) - start_of spans r) (drop (start_of spans r) lists),
        length-drop (start_of spans r) lists,
      )

  at_place : (i : ℕ) → start_of spans r ≤ i → i < stop_of spans r (length lists) → get_or (list_of lists spans r) (i - start_of spans r) 0 ≡ get_or lists i 0
  at_place i a b =
      let sum : start_of spans r + (i - start_of spans r) ≡ i = omega arith in
      get_or-take (stop_of spans r (length lists) - start_of spans r) (drop (start_of spans r) lists) (i - start_of spans r) 0 (omega arith)
      ∙ get_or-drop (start_of spans r) lists (i - start_of spans r) 0
      ∙ ap (λ (k : ℕ). get_or lists k 0) sum

  pub adds : (g : PushdownGame) (old : List Entry) → Listed g old lists spans → r < length g.rules → (i : ℕ) → start_of spans r ≤ i
      → i < stop_of spans r (length lists) → (u : ℕ) → 0 < union u (get_or lists i 0)
  adds g old listed l i a b u =
      union_more u (get_or lists i 0) (listed.inside r (get_or lists i 0) l (omega arith) (in_list lists spans r i a b)).1

  module _ (g : PushdownGame) (old : List Entry) (birthdate n : ℕ) (job : Job) (rules work : List ℕ) (u : ℕ) where
    abbrev of : ℕ → List ℕ
    of z = sub_runs g old job.state job.letter job.end r 0 (union u z)

    -- those from place i on are still to come
    abbrev pub Coming : Growing → ℕ → List ℕ → ℕ → List ℕ → Type 0
    Coming s i words count memo = Taking g old birthdate n job rules work (list_of lists spans r) of s (i - start_of spans r) words count memo

    -- what all of them leave
    abbrev Leaves : Growing → List ℕ → ℕ → List ℕ → Type 0
    Leaves s words count memo =
        Finished g old birthdate n
        (map (given g old birthdate n job rules work) (listed_runs g old job.state job.letter job.end lists spans r u))
        s words count memo

    pub list-starts : (words : List ℕ) (count : ℕ) (memo : List ℕ) (s : Growing) → Entered g old birthdate n job rules work words count memo s
        → (i : ℕ) → i ≡ start_of spans r → Coming s i words count memo
    list-starts words count memo s h i e =
        let none : i - start_of spans r ≡ 0 = omega (arith, e) in
        record { now = s; entered = h; kept = λ es held. held; rest = rw none }

    module _ (s : Growing) (i : ℕ) (words : List ℕ) (count : ℕ) (memo : List ℕ) (c : Coming s i words count memo) where
      pub list-next : start_of spans r ≤ i → i < stop_of spans r (length lists) → (words' : List ℕ) (count' : ℕ) (memo' : List ℕ)
          → Finished g old birthdate n (map (given g old birthdate n job rules work) (of (get_or lists i 0))) c.now words' count' memo'
          → Coming s (i + 1) words' count' memo'
      list-next a b words' count' memo' f =
          let next : i - start_of spans r + 1 ≡ i + 1 - start_of spans r = omega arith in
          subst
          (λ (k : ℕ). Taking g old birthdate n job rules work (list_of lists spans r) of s k words' count' memo')
          next
          (take_next g old birthdate n job rules work (list_of lists spans r) of s (i - start_of spans r) words count memo c 0 (long i a b) words' count' memo'
          (subst (λ (z : ℕ). Finished g old birthdate n (map (given g old birthdate n job rules work) (of z)) c.now words' count' memo') (sym (at_place i a b)) f))

      pub list-ends : stop_of spans r (length lists) ≤ i → Leaves s words count memo
      unfolding listed_runs
      list-ends l =
          all-taken g old birthdate n job rules work (list_of lists spans r) of s (i - start_of spans r) words count memo c (omega (arith, short))

      pub list_over : count ≡ suc n → Leaves s words count memo
      unfolding listed_runs
      list_over over = none-fits g old birthdate n job rules work (list_of lists spans r) of s (i - start_of spans r) words count memo c over
