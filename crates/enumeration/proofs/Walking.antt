-- The turns of a walk through the states left of a set, over the words that the code holds: its levels, the table and the memo.
use Prim.Native.Nat.{ℕ, suc, ◌+◌, ◌*◌, ◌/◌, ◌-◌, ◌%◌, ◌^◌, ◌<◌, ◌≤◌}
use native.Mathlib.Omega.{arith}
use mathlib.Core.Path.{◌≡◌, refl, sym, ap, subst, ◌∙◌}
use mathlib.Core.Logic.{◌⊎◌, ⊎_elim}
use mathlib.Core.Bool.{true, false}
use mathlib.Core.List.Memᴰ
use mathlib.Core.List.{List, [], ◌∷◌}
use lib.ListN.{length, get_or, set}
use lib.Seq.{get_or-set_same}
use lib.Bits.{bit_and}
use lib.Dec.{ltb}
use borrow.Author.Tests.{ltb-true, ltb-false}
use Rattle.game.specs.ListLaws.{test, clash}
use Rattle.game.specs.Sets.{union as unite}
use Rattle.game.specs.Game.{PushdownGame}
use Rattle.game.specs.StoredLaws.{no_rule}
use Rattle.table.specs.Table.{Entry, key}
use Rattle.table.specs.Rows.{Placed}
use Rattle.judge.specs.Worth.{entry_of_head}
use Rattle.rounds.specs.Rounds.{entry_at}
use Rattle.rounds.specs.Growing.{Growing, growing}
use Rattle.rounds.specs.GrowingLaws.{HeldBy}
use Rattle.enumeration.specs.Past.{older, Past, Aging}
use Rattle.enumeration.specs.PastLaws.{older-at, past-stays, past_same, past-part}
use Rattle.rounds.specs.InsertLaws.{no_entry}
use Rattle.enumeration.specs.Memo.{line_at}
use Rattle.enumeration.specs.MemoLaws.{memo-stored}
use Rattle.rounds.proofs.StoredRows.{long_of}
use Rattle.enumeration.specs.AlikeLaws.{over-full}
use Rattle.enumeration.specs.Walk.{Skipped}
use Rattle.rounds.specs.Scans.{Highest}
use Rattle.enumeration.specs.Jobs.{Whole, Entered, Finished, sub_runs, tag_of}
use Rattle.enumeration.specs.declared.runs.Job.{Job}
use Rattle.enumeration.specs.HeadPlaces.{before_head, after-head, within-head, skip-front}
use Rattle.enumeration.proofs.Parts.{smaller}
use Rattle.enumeration.proofs.Levels.{Level, gives_at, Standing, skipped, turned, opened, all_held, closed, Kept, after, after-full}
use Rattle.enumeration.proofs.LevelParts.{part, earlier, Fit, Stacked, Pasts, pasts-stay, stacked-kept, named, all_of, gives_none, gives_part, set_at, memo-held, older-in-level, older-held}

-- a set that is not empty has one highest state
highest-one : (left q p : ℕ) → 0 < left → Highest left q → Highest left p → q ≡ p
highest-one left q p some hq hp =
    ⊎_elim (λ (t : ltb q p ≡ true). clash (hp.member some) (hq.above p (ltb-true q p t) hp.small))
    (λ (t : ltb q p ≡ false).
    ⊎_elim (λ (u : ltb p q ≡ true). clash (hq.member some) (hp.above q (ltb-true p q u) hq.small))
    (λ (u : ltb p q ≡ false). omega (arith, ltb-false q p t, ltb-false p q u))
    (test (ltb p q)))
    (test (ltb q p))

module _ (g : PushdownGame) (old : List Entry) (birthdate n : ℕ) (job : Job) (rules work : List ℕ) (r : ℕ) where
  abbrev letter : ℕ
  letter = (get_or g.rules r no_rule).below

  -- A walk: its last level, those that wait, the table as it is now, and what all levels end in, which is the table grown by the
  -- part that the walk is for.
  pub record Walking (s : Growing) (first reached : ℕ) (lefts unions nexts limits : List ℕ) (depth left u i limit : ℕ) (words : List ℕ) (count : ℕ) (memo : List ℕ) : Type 0 where
    pub high : ℕ
    pub waiting : List Level
    pub now : Growing
    pub entered : Entered g old birthdate n job rules work words count memo now
    pub deep : depth ≡ length waiting
    pub stacked : Stacked g old birthdate n job rules work r lefts unions nexts limits waiting
    pub fit : Fit g old birthdate n job rules work r (record { left = left; highest = high; union = u; next = i; late = limit })
    pub past : Past birthdate n limit (earlier g old birthdate n job rules work r left u) now × Pasts g old birthdate n job rules work r waiting now
    pub standing :
        Standing g old birthdate n job r (record { left = left; highest = high; union = u; next = i; late = limit } ∷ waiting) now
        (growing n (part g old birthdate n job rules work r first reached) s)

  pub walk-starts : (words : List ℕ) (count : ℕ) (memo : List ℕ) (s : Growing) → Entered g old birthdate n job rules work words count memo s
      → (first reached q i : ℕ) → Highest first q → 0 < first → first < 2 ^ g.states → Placed work job.count (key q letter 0) i
      → (late : ℕ) → Past birthdate n late (earlier g old birthdate n job rules work r first reached) s
      → (lefts unions nexts limits : List ℕ) → Walking s first reached lefts unions nexts limits 0 first reached i late words count memo
  unfolding Kept after Stacked Pasts
  walk-starts words count memo s h first reached q i high some small placed late past lefts unions nexts limits =
      let v : Level = record { left = first; highest = q; union = reached; next = i; late = late } in
      let f : Fit g old birthdate n job rules work r v = record { high = high; some = some; small = small; start = i; placed = placed; begun = omega arith } in
      let none : (k : ℕ) → k < i → gives_at g old birthdate n job r v (get_or old k no_entry) ≡ [] =
      λ k l. gives_none g old birthdate n job rules work r words count memo s h v (get_or old k no_entry) (before_head h.stands.room work job.count old h.stands.stored q letter i placed k l)
      in
      record {
        high = q;
        waiting = [];
        now = s;
        entered = h;
        deep = refl;
        stacked = record {};
        fit = f;
        past = (past, record {});
        standing =
            record {
              kept =
                  (λ k l. subst (λ (es : List Entry). HeldBy n es s) (sym (none k l)) (λ y m. absurd (Memᴰ.not-nil m)), record {});
              ends =
                  ap (λ (es : List Entry). growing n es s)
                  (all_of g old birthdate n job rules work r words count memo s h v f
                  ∙ skip-front (gives_at g old birthdate n job r v) no_entry i old (omega (arith, placed.within, h.stands.stored.counted)) none);
            };
      }

  -- the table is full: nothing of what is left changes it
  pub walk-over : (s : Growing) (first reached : ℕ) (lefts unions nexts limits : List ℕ) (depth left u i limit : ℕ) (words : List ℕ) (count : ℕ) (memo : List ℕ)
      → Walking s first reached lefts unions nexts limits depth left u i limit words count memo → length words / 3 < count
      → Finished g old birthdate n (part g old birthdate n job rules work r first reached) s words count memo
  walk-over s first reached lefts unions nexts limits depth left u i limit words count memo w over =
      let full = over-full n words count w.now w.entered.filled over in
      let e =
      w.standing.ends
      ∙ after-full g old birthdate n job r (record { left = left; highest = w.high; union = u; next = i; late = limit } ∷ w.waiting) w.now full
      in
      record { filled = rw e w.entered.filled; memoed = rw e w.entered.memoed }

  -- the same for `None`, which stands for one more than the table can hold
  pub walk-none : (s : Growing) (first reached : ℕ) (lefts unions nexts limits : List ℕ) (depth left u i limit : ℕ) (words : List ℕ) (count : ℕ) (memo : List ℕ)
      → Walking s first reached lefts unions nexts limits depth left u i limit words count memo → count ≡ suc n
      → Finished g old birthdate n (part g old birthdate n job rules work r first reached) s words count memo
  walk-none s first reached lefts unions nexts limits depth left u i limit words count memo w over =
      walk-over s first reached lefts unions nexts limits depth left u i limit words count memo w
      (omega (arith, long_of n words count w.now w.entered.filled, over))

  -- One turn: the highest state left is q, and entries are passed over up to place `found`.
  module _ (s : Growing) (first reached : ℕ) (lefts unions nexts limits : List ℕ) (depth left u i limit : ℕ) (words : List ℕ) (count : ℕ) (memo : List ℕ)
      (w : Walking s first reached lefts unions nexts limits depth left u i limit words count memo) (whole : Whole g job r) (inside : r < length g.rules)
      (q : ℕ) (high : Highest left q) (tag : ℕ) (tagged : tag ≡ tag_of job.state job.letter r) (rest : ℕ) (rests : rest ≡ left % 2 ^ q)
      (fresh : List ℕ) (aging : Aging g old birthdate job fresh) (new : ℕ) (news : new ≡ get_or fresh letter 0) (passing : ℕ)
      (over : 0 < passing → (passing ≡ limit) × (job.last ≤ r + 1) × (bit_and rest new ≡ 0))
      (found end : ℕ) (skip : Skipped work memo tag rest u i end passing found) (near : found ≤ job.count) where
    same-high : w.high ≡ q
    same-high = highest-one left w.high q w.fit.some w.fit.high high

    abbrev top : ℕ → Level
    top j = record { left = left; highest = q; union = u; next = j; late = limit }

    fit_at : (j : ℕ) → i ≤ j → Fit g old birthdate n job rules work r (top j)
    fit_at j l =
        let f = subst (λ (x : ℕ). Fit g old birthdate n job rules work r (record { left = left; highest = x; union = u; next = i; late = limit })) same-high w.fit in
        record { high = high; some = f.some; small = f.small; start = f.start; placed = f.placed; begun = omega (arith, f.begun) }

    stands_at : Standing g old birthdate n job r (top found ∷ w.waiting) w.now (growing n (part g old birthdate n job rules work r first reached) s)
    stands_at =
        skipped g old birthdate n job r (top i) w.waiting w.now (growing n (part g old birthdate n job rules work r first reached) s)
        (subst
        (λ (x : ℕ). Standing g old birthdate n job r (record { left = left; highest = x; union = u; next = i; late = limit } ∷ w.waiting) w.now (growing n (part g old birthdate n job rules work r first reached) s))
        same-high w.standing)
        found skip.after
        (λ k a b.
        ⊎_elim
        (λ (less : get_or work (k * 3) 0 < passing).
        let known = over (omega arith) in
        older-held g old birthdate n job rules work r words count memo w.now w.entered fresh aging (top i) (fit_at i (omega arith)) w.past.0 k (omega arith)
        (omega (arith, known.0)) known.1 (rw (← rests, ← news) known.2))
        (λ (line : (j : ℕ) × (line_at memo j ≡ record { tag = tag; left = rest; union = unite u (get_or work (k * 3 + 1) 0) })).
        memo-held g old birthdate n job rules work r words count memo w.now w.entered whole inside (top i) k line.0 (omega arith)
        (rw (← tagged, ← rests) line.1))
        (skip.finished k a b))

    -- No entry is left at the level.
    module _ (ended : Placed work job.count (key q letter 4294967296) end) (past : end ≤ found) where
      none_left : (k : ℕ) → found ≤ k → k < length old → gives_at g old birthdate n job r (top found) (get_or old k no_entry) ≡ []
      none_left k l m =
          gives_none g old birthdate n job rules work r words count memo w.now w.entered (top found) (get_or old k no_entry)
          (after-head w.entered.stands.room work job.count old w.entered.stands.stored q letter end ended k (omega arith) m)

      part_held : HeldBy n (part g old birthdate n job rules work r left u) w.now
      part_held =
          subst (λ (es : List Entry). HeldBy n es w.now) (sym (all_of g old birthdate n job rules work r words count memo w.now w.entered (top found) (fit_at found skip.after)))
          (all_held g old birthdate n job r (top found) w.waiting w.now (growing n (part g old birthdate n job rules work r first reached) s) stands_at none_left)

      rest-stands : Standing g old birthdate n job r w.waiting w.now (growing n (part g old birthdate n job rules work r first reached) s)
      rest-stands = closed g old birthdate n job r (top found) w.waiting w.now (growing n (part g old birthdate n job rules work r first reached) s) stands_at none_left

      -- none waits: the walk is done
      pub walk_ends : depth ≡ 0 → Finished g old birthdate n (part g old birthdate n job rules work r first reached) s words count memo
      unfolding after
      walk_ends none = of w.waiting (sym none ∙ w.deep) rest-stands
        where
          of : (vs : List Level) → 0 ≡ length vs → Standing g old birthdate n job r vs w.now (growing n (part g old birthdate n job rules work r first reached) s)
              → Finished g old birthdate n (part g old birthdate n job rules work r first reached) s words count memo
          of [] e t = record { filled = rw t.ends w.entered.filled; memoed = rw t.ends w.entered.memoed }
          of (v ∷ vs) e t = absurd (omega arith)

      -- one waits: the part is noted, and that one goes on
      pub walk-back : (memo' : List ℕ)
          → ((k : ℕ) → (line_at memo' k ≡ record { tag = tag; left = left; union = u }) ⊎ (line_at memo' k ≡ line_at memo k))
          → 0 < depth
          → Walking s first reached lefts unions nexts limits (depth - 1) (get_or lefts (depth - 1) 0) (get_or unions (depth - 1) 0) (get_or nexts (depth - 1) 0) (get_or limits (depth - 1) 0) words count memo'
      unfolding Stacked Pasts
      walk-back memo' lines some = of w.waiting w.deep w.stacked w.past.1 rest-stands
        where
          noted : Entered g old birthdate n job rules work words count memo' w.now
          noted =
              record {
                stands = w.entered.stands;
                filled = w.entered.filled;
                memoed =
                    memo-stored g old birthdate n w.entered.stands.ranged memo memo' w.now job.state job.letter r left u
                    w.entered.stands.letter inside w.entered.memoed
                    (subst (λ (es : List Entry). HeldBy n es w.now) (sym (named g old birthdate n job rules work r whole inside left u)) part_held)
                    (rw tagged at lines);
              }

          of : (vs : List Level) → depth ≡ length vs → Stacked g old birthdate n job rules work r lefts unions nexts limits vs → Pasts g old birthdate n job rules work r vs w.now
              → Standing g old birthdate n job r vs w.now (growing n (part g old birthdate n job rules work r first reached) s)
              → Walking s first reached lefts unions nexts limits (depth - 1) (get_or lefts (depth - 1) 0) (get_or unions (depth - 1) 0) (get_or nexts (depth - 1) 0) (get_or limits (depth - 1) 0) words count memo'
          of [] e stack past t = absurd (omega arith)
          of (v ∷ vs) e stack past t =
              let d : depth - 1 ≡ length vs = omega arith in
              rw (d, stack.0.left, stack.0.union, stack.0.next, stack.0.late)
              (record {
                high = v.highest;
                waiting = vs;
                now = w.now;
                entered = noted;
                deep = refl;
                stacked = stack.1;
                fit = stack.0.fit;
                past = past;
                standing = t;
              })

    -- the next entry of the level
    module _ (ended : Placed work job.count (key q letter 4294967296) end) (more : found < end) (letters : letter < 256) where
      entry-of : entry_of_head q letter (get_or old found no_entry) ≡ true
      entry-of =
          within-head w.entered.stands.room work job.count old w.entered.stands.stored q letter letters (fit_at found skip.after).start end
          (fit_at found skip.after).placed ended found (fit_at found skip.after).begun more

      inside-old : found < length old
      inside-old = omega (arith, ended.within, w.entered.stands.stored.counted)

      module _ (passed : ℕ) (passes : passed ≡ unite u (get_or work (found * 3 + 1) 0)) where
        -- what it gives
        gives-rest : gives_at g old birthdate n job r (top found) (get_or old found no_entry) ≡ part g old birthdate n job rules work r rest passed
        gives-rest =
            gives_part g old birthdate n job rules work r words count memo w.now w.entered (top found) (get_or old found no_entry) entry-of
            ∙ rw
            (rests, passes, set_at g old birthdate n job rules work r words count memo w.now w.entered found (omega (arith, ended.within)))

        -- what older entries give after it is held, if it is older and the level has its past
        past_after : (still : ℕ) → (0 < still → (still ≡ limit) × (get_or work (found * 3) 0 < limit)) → Past birthdate n still (earlier g old birthdate n job rules work r rest passed) w.now
        past_after still same =
            past-part birthdate n limit still (entry_at job.state job.letter birthdate job.field)
            (sub_runs g (older birthdate old) job.state job.letter job.end r left u)
            (sub_runs g (older birthdate old) job.state job.letter job.end r rest passed) w.now w.past.0
            (λ some.
            let known = same some in
            let m =
            older-at birthdate old w.entered.stands.room job.count work w.entered.stands.stored limit (w.past.0 (omega (arith, known.0))).0 found
            (omega (arith, ended.within)) known.1
            in (
              known.0,
              λ x y.
                  older-in-level g old birthdate n job rules work r words count memo w.now w.entered (top found) (fit_at found skip.after) (get_or old found no_entry) m entry-of x
                  (rw (rests, passes, set_at g old birthdate n job rules work r words count memo w.now w.entered found (omega (arith, ended.within))) at y),
            ))

        pub past-last : rest ≡ 0 → (still : ℕ) → (0 < still → (still ≡ limit) × (get_or work (found * 3) 0 < limit))
            → Past birthdate n still (earlier g old birthdate n job rules work r 0 passed) w.now
        past-last none still same = past_same birthdate n still w.now (ap (λ (x : ℕ). earlier g old birthdate n job rules work r x passed) none) (past_after still same)

        -- no state is left after it: the part is finished, and the level goes on
        pub walk-takes : rest ≡ 0 → (words' : List ℕ) (count' : ℕ) (memo' : List ℕ)
            → Finished g old birthdate n (part g old birthdate n job rules work r 0 passed) w.now words' count' memo'
            → Walking s first reached lefts unions nexts limits depth left u (found + 1) limit words' count' memo'
        walk-takes none words' count' memo' f =
            let same : gives_at g old birthdate n job r (top found) (get_or old found no_entry) ≡ part g old birthdate n job rules work r 0 passed =
            gives-rest ∙ ap (λ (x : ℕ). part g old birthdate n job rules work r x passed) none
            in
            record {
              high = q;
              waiting = w.waiting;
              now = growing n (part g old birthdate n job rules work r 0 passed) w.now;
              entered = record { stands = w.entered.stands; filled = f.filled; memoed = f.memoed };
              deep = w.deep;
              stacked = w.stacked;
              fit = fit_at (found + 1) (omega (arith, skip.after));
              past = (
                past-stays birthdate n limit (earlier g old birthdate n job rules work r left u) (part g old birthdate n job rules work r 0 passed) w.now w.past.0,
                pasts-stay g old birthdate n job rules work r w.waiting (part g old birthdate n job rules work r 0 passed) w.now w.past.1,
              );
              standing =
                  subst
                  (λ (es : List Entry). Standing g old birthdate n job r (top (found + 1) ∷ w.waiting) (growing n es w.now) (growing n (part g old birthdate n job rules work r first reached) s))
                  same
                  (turned g old birthdate n job r (top found) w.waiting w.now (growing n (part g old birthdate n job rules work r first reached) s) stands_at inside-old);
            }

        -- states are left after it: their level is opened, and this one waits
        pub walk-opens : (rest ≡ 0 → ⊥) → depth < 32 → length lefts ≡ 32 → length unions ≡ 32 → length nexts ≡ 32 → length limits ≡ 32
            → (p start : ℕ) → Highest rest p → Placed work job.count (key p letter 0) start
            → (still : ℕ) → (0 < still → (still ≡ limit) × (get_or work (found * 3) 0 < limit))
            → Walking s first reached (set lefts depth left) (set unions depth u) (set nexts depth (found + 1)) (set limits depth limit) (depth + 1) rest passed start still words count memo
        unfolding Stacked Pasts
        walk-opens some less long long' long'' long''' p start above placed still same =
            let v : Level = record { left = rest; highest = p; union = passed; next = start; late = still } in
            let f : Fit g old birthdate n job rules work r v =
            record {
              high = above;
              some = omega (arith, some);
              small = omega (arith, smaller left q w.fit.some high, rests, w.fit.small);
              start = start;
              placed = placed;
              begun = omega arith;
            }
            in
            let none : (k : ℕ) → k < start → gives_at g old birthdate n job r v (get_or old k no_entry) ≡ [] =
            λ k l.
            gives_none g old birthdate n job rules work r words count memo w.now w.entered v (get_or old k no_entry)
            (before_head w.entered.stands.room work job.count old w.entered.stands.stored p letter start placed k l)
            in
            record {
              high = p;
              waiting = top (found + 1) ∷ w.waiting;
              now = w.now;
              entered = w.entered;
              deep = omega (arith, w.deep);
              stacked =
                  subst (λ (d : ℕ). Stacked g old birthdate n job rules work r (set lefts d left) (set unions d u) (set nexts d (found + 1)) (set limits d limit) (top (found + 1) ∷ w.waiting))
                  (sym w.deep) (
                    record {
                      left = get_or-set_same lefts (length w.waiting) left 0 (omega (arith, w.deep));
                      union = get_or-set_same unions (length w.waiting) u 0 (omega (arith, w.deep));
                      next = get_or-set_same nexts (length w.waiting) (found + 1) 0 (omega (arith, w.deep));
                      late = get_or-set_same limits (length w.waiting) limit 0 (omega (arith, w.deep));
                      fit = fit_at (found + 1) (omega (arith, skip.after));
                    },
                    stacked-kept g old birthdate n job rules work r lefts unions nexts limits (length w.waiting) left u (found + 1) limit w.waiting (omega arith) w.stacked,
                  );
              fit = f;
              past = (past_after still same, (w.past.0, w.past.1));
              standing =
                  opened g old birthdate n job r (top found) w.waiting w.now (growing n (part g old birthdate n job rules work r first reached) s) stands_at inside-old v
                  (λ k l. subst (λ (es : List Entry). HeldBy n es w.now) (sym (none k l)) (λ y m. absurd (Memᴰ.not-nil m)))
                  (ap (λ (es : List Entry). growing n es w.now)
                  (sym (skip-front (gives_at g old birthdate n job r v) no_entry start old (omega (arith, placed.within, w.entered.stands.stored.counted)) none)
                  ∙ sym (all_of g old birthdate n job rules work r words count memo w.now w.entered v f)
                  ∙ sym gives-rest));
            }
