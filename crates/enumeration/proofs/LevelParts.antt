-- The levels of a walk as the code holds them, in four lists, and what an entry gives at a level: a part of the table's entries, which
-- the memo may have, or older entries.
use Prim.Native.Nat.{ℕ, ◌+◌, ◌*◌, ◌%◌, ◌^◌, ◌<◌, ◌≤◌}
use native.Mathlib.Omega.{arith}
use mathlib.Core.Path.{◌≡◌, sym, ap, subst, ◌∙◌}
use mathlib.Core.Logic.{⊎_elim}
use mathlib.Core.Bool.{Bool, true, false, cond}
use mathlib.Core.List.Memᴰ
use mathlib.Core.List.{List, [], ◌∷◌, map, flat_map}
use lib.ListN.{length, get_or, set}
use lib.Seq.{get_or-set_other}
use lib.Bits.{bit_and}
use Rattle.game.specs.ListLaws.{◌∈◌, test}
use Rattle.game.specs.Sets.{union as unite}
use Rattle.game.specs.Game.{PushdownGame}
use Rattle.game.specs.StoredLaws.{no_rule}
use Rattle.table.specs.Table.{Entry, key}
use Rattle.table.specs.Rows.{Placed}
use Rattle.judge.specs.Worth.{entry_of_head}
use Rattle.rounds.specs.Rounds.{entry_at}
use Rattle.rounds.specs.Enumeration.{map-flat_map}
use Rattle.rounds.specs.Growing.{Growing, growing}
use Rattle.rounds.specs.GrowingLaws.{HeldBy}
use Rattle.enumeration.specs.Past.{older, Past, Aging}
use Rattle.enumeration.specs.PastLaws.{older-at, held-part, past-stays, sub-aged, apart, pass-in}
use Rattle.rounds.specs.InsertLaws.{no_entry}
use Rattle.enumeration.specs.Memo.{Line, line_at}
use Rattle.rounds.specs.Scans.{Highest}
use Rattle.enumeration.specs.Jobs.{Whole, Entered, sub_runs, sub_entries, tag_of}
use Rattle.enumeration.specs.JobLaws.{highest-first, pass_of}
use Rattle.enumeration.specs.declared.runs.Job.{Job}
use Rattle.rounds.proofs.StoredRows.{entry-at}
use Rattle.enumeration.proofs.Turns.{state-of}
use Rattle.enumeration.proofs.Levels.{Level, gives, gives_at}

module _ (g : PushdownGame) (old : List Entry) (birthdate n : ℕ) (job : Job) (rules work : List ℕ) (r : ℕ) where
  abbrev letter : ℕ
  letter = (get_or g.rules r no_rule).below

  -- the entries of what is left to a set of states, and a union
  abbrev pub part : ℕ → ℕ → List Entry
  part left u =
      map (entry_at job.state job.letter birthdate job.field) (sub_runs g old job.state job.letter job.end r left u)

  -- and those that entries older than the last round give
  abbrev pub earlier : ℕ → ℕ → List Entry
  earlier left u =
      map (entry_at job.state job.letter birthdate job.field)
      (sub_runs g (older birthdate old) job.state job.letter job.end r left u)

  -- A level of the walk: its states are of the automaton, and the next entry is not before the first of its highest state.
  pub record Fit (v : Level) : Type 0 where
    pub high : Highest v.left v.highest
    pub some : 0 < v.left
    pub small : v.left < 2 ^ g.states
    pub start : ℕ
    pub placed : Placed work job.count (key v.highest letter 0) start
    pub begun : start ≤ v.next

  -- how a level stands in the four lists
  pub record Row (lefts unions nexts limits : List ℕ) (d : ℕ) (v : Level) : Type 0 where
    pub left : get_or lefts d 0 ≡ v.left
    pub union : get_or unions d 0 ≡ v.union
    pub next : get_or nexts d 0 ≡ v.next
    pub late : get_or limits d 0 ≡ v.late
    pub fit : Fit v

  unfoldable pub Stacked : List ℕ → List ℕ → List ℕ → List ℕ → List Level → Type 0
  Stacked lefts unions nexts limits [] = Unit {0}
  Stacked lefts unions nexts limits (v ∷ vs) = Row lefts unions nexts limits (length vs) v × Stacked lefts unions nexts limits vs

  -- what older entries give at each level is held, unless the way to it has an entry of the last round
  unfoldable pub Pasts : List Level → Growing → Type 0
  Pasts [] s = Unit {0}
  Pasts (v ∷ vs) s = Past birthdate n v.late (earlier v.left v.union) s × Pasts vs s

  pub pasts-stay : (vs : List Level) (es : List Entry) (s : Growing) → Pasts vs s → Pasts vs (growing n es s)
  unfolding Pasts
  pasts-stay [] es s p = p
  pasts-stay (v ∷ vs) es s p =
      (past-stays birthdate n v.late (earlier v.left v.union) es s p.0, pasts-stay vs es s p.1)

  row_kept : (lefts unions nexts limits : List ℕ) (d k a b c e : ℕ) (v : Level) → k < d → Row lefts unions nexts limits k v
      → Row (set lefts d a) (set unions d b) (set nexts d c) (set limits d e) k v
  row_kept lefts unions nexts limits d k a b c e v l row =
      record {
        left = get_or-set_other lefts d k a 0 (λ x. omega arith) ∙ row.left;
        union = get_or-set_other unions d k b 0 (λ x. omega arith) ∙ row.union;
        next = get_or-set_other nexts d k c 0 (λ x. omega arith) ∙ row.next;
        late = get_or-set_other limits d k e 0 (λ x. omega arith) ∙ row.late;
        fit = row.fit;
      }

  pub stacked-kept : (lefts unions nexts limits : List ℕ) (d a b c e : ℕ) (vs : List Level) → length vs ≤ d → Stacked lefts unions nexts limits vs
      → Stacked (set lefts d a) (set unions d b) (set nexts d c) (set limits d e) vs
  unfolding Stacked
  stacked-kept lefts unions nexts limits d a b c e [] l s = s
  stacked-kept lefts unions nexts limits d a b c e (v ∷ vs) l s =
      (row_kept lefts unions nexts limits d (length vs) a b c e v (omega arith) s.0, stacked-kept lefts unions nexts limits d a b c e vs (omega arith) s.1)

  module _ (whole : Whole g job r) (inside : r < length g.rules) where
    pub named : (left u : ℕ) → sub_entries g old birthdate job.state job.letter r left u ≡ part left u
    unfolding sub_entries
    named left u = rw (whole.ends, whole.named)

  module _ (words : List ℕ) (count : ℕ) (memo : List ℕ) (now : Growing) (h : Entered g old birthdate n job rules work words count memo now) where
    -- what a level gives in all
    pub all_of : (v : Level) → Fit v → part v.left v.union ≡ flat_map (gives_at g old birthdate n job r v) old
    unfolding gives
    all_of v f =
        ap (map (entry_at job.state job.letter birthdate job.field))
        (highest-first g old job.state job.letter job.end r v.left v.union v.highest
        (state-of v.left v.highest g.states f.small (f.high.member f.some))
        (f.high.member f.some)
        (λ k l m. f.high.above k l (omega (arith, h.stands.ranged.states))))
        ∙ map-flat_map (entry_at job.state job.letter birthdate job.field)
        (pass_of g old job.state job.letter job.end r v.highest (v.left % 2 ^ v.highest) v.union)
        old

    -- what one entry gives
    pub gives_none : (v : Level) (e : Entry) → entry_of_head v.highest letter e ≡ false → gives_at g old birthdate n job r v e ≡ []
    unfolding gives
    gives_none v e t =
        ap
        (λ (b : Bool).
        map (entry_at job.state job.letter birthdate job.field)
        (cond b (sub_runs g old job.state job.letter job.end r (v.left % 2 ^ v.highest) (unite v.union e.set)) []))
        t

    pub gives_part : (v : Level) (e : Entry) → entry_of_head v.highest letter e ≡ true
        → gives_at g old birthdate n job r v e ≡ part (v.left % 2 ^ v.highest) (unite v.union e.set)
    unfolding gives
    gives_part v e t =
        ap
        (λ (b : Bool).
        map (entry_at job.state job.letter birthdate job.field)
        (cond b (sub_runs g old job.state job.letter job.end r (v.left % 2 ^ v.highest) (unite v.union e.set)) []))
        t

    pub set_at : (k : ℕ) → k < job.count → get_or work (k * 3 + 1) 0 ≡ (get_or old k no_entry).set
    set_at k l = ap (λ (e : Entry). e.set) (entry-at h.stands.room job.count work old h.stands.stored k l)

    -- an entry that the memo has gives what is held
    pub memo-held : Whole g job r → r < length g.rules → (v : Level) (k line : ℕ) → k < job.count
        → line_at memo line ≡ record { tag = tag_of job.state job.letter r; left = v.left % 2 ^ v.highest; union = unite v.union (get_or work (k * 3 + 1) 0) }
        → HeldBy n (gives_at g old birthdate n job r v (get_or old k no_entry)) now
    memo-held whole inside v k line l e =
        let x = get_or old k no_entry in
        let held =
        h.memoed line job.state job.letter r h.stands.state h.stands.letter inside (ap (λ (y : Line). y.tag) e)
        in
        ⊎_elim
        (λ (t : entry_of_head v.highest letter x ≡ true).
        subst (λ (es : List Entry). HeldBy n es now)
        (ap (λ (y : Line). sub_entries g old birthdate job.state job.letter r y.left y.union) e
        ∙ named whole inside (v.left % 2 ^ v.highest) (unite v.union (get_or work (k * 3 + 1) 0))
        ∙ ap (λ (z : ℕ). part (v.left % 2 ^ v.highest) (unite v.union z)) (set_at k l)
        ∙ sym (gives_part v x t))
        held)
        (λ (t : entry_of_head v.highest letter x ≡ false).
        subst (λ (es : List Entry). HeldBy n es now) (sym (gives_none v x t)) (λ y m. absurd (Memᴰ.not-nil m)))
        (test (entry_of_head v.highest letter x))

    -- what an older entry gives by older entries is among what they give at the level
    pub older-in-level : (v : Level) → Fit v → (e : Entry) → e ∈ older birthdate old → entry_of_head v.highest letter e ≡ true → (x : ℕ)
        → x ∈ sub_runs g (older birthdate old) job.state job.letter job.end r (v.left % 2 ^ v.highest) (unite v.union e.set)
        → x ∈ sub_runs g (older birthdate old) job.state job.letter job.end r v.left v.union
    older-in-level v f e m t x i =
        pass-in g (older birthdate old) job.state job.letter job.end r v.left v.union v.highest
        (state-of v.left v.highest g.states f.small (f.high.member f.some))
        (f.high.member f.some)
        (λ k l o. f.high.above k l (omega (arith, h.stands.ranged.states)))
        m t x i

    -- an entry that is older, where nothing after it is of the last round, gives what is held
    pub older-held : (fresh : List ℕ) → Aging g old birthdate job fresh → (v : Level) → Fit v
        → Past birthdate n v.late (earlier v.left v.union) now → (k : ℕ) → k < job.count → get_or work (k * 3) 0 < v.late
        → job.last ≤ r + 1 → bit_and (v.left % 2 ^ v.highest) (get_or fresh letter 0) ≡ 0
        → HeldBy n (gives_at g old birthdate n job r v (get_or old k no_entry)) now
    older-held fresh aging v f past k l less settled none =
        let x = get_or old k no_entry in
        let known = past (omega arith) in
        let m = older-at birthdate old h.stands.room job.count work h.stands.stored v.late known.0 k l less in
        ⊎_elim
        (λ (t : entry_of_head v.highest letter x ≡ true).
        subst (λ (es : List Entry). HeldBy n es now) (sym (gives_part v x t))
        (held-part n (entry_at job.state job.letter birthdate job.field)
        (sub_runs g (older birthdate old) job.state job.letter job.end r v.left v.union)
        (sub_runs g old job.state job.letter job.end r (v.left % 2 ^ v.highest) (unite v.union x.set))
        now
        (λ y i.
        older-in-level v f x m t y
        (sub-aged g old birthdate job fresh aging r (v.left % 2 ^ v.highest) (unite v.union x.set) settled
        (apart (v.left % 2 ^ v.highest) (get_or fresh letter 0) none) y i))
        known.1))
        (λ (t : entry_of_head v.highest letter x ≡ false).
        subst (λ (es : List Entry). HeldBy n es now) (sym (gives_none v x t)) (λ y i. absurd (Memᴰ.not-nil i)))
        (test (entry_of_head v.highest letter x))
