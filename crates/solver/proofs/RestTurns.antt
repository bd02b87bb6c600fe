-- The rounds of a game whose sets have few states, in order: at each turn the areas rest at round i, and solving goes on from it.
use Prim.Native.Nat.{ℕ, suc, ◌+◌, ◌*◌, ◌-◌, ◌/◌, ◌<◌, ◌≤◌}
use native.Mathlib.Omega.{arith}
use native.Mathlib.Nat.{mul-le-mul_right}
use mathlib.Core.Path.{◌≡◌, refl, sym, ap, subst, ◌∙◌}
use mathlib.Core.Logic.{◌⊎◌, ⊎_elim}
use mathlib.Core.Bool.{true, false}
use mathlib.Core.List.{List, []}
use lib.ListN.{length, replicate, length-replicate}
use Rattle.game.specs.Limits.{max_rounds}
use Rattle.game.specs.Game.{PushdownGame}
use Rattle.game.specs.GoodGame.{Good}
use Rattle.game.specs.Outcome.{refused}
use Rattle.noting.specs.declared.marks.Marks.{Marks}
use Rattle.saturation.specs.declared.kept.Rules.{Rules}
use Rattle.saturation.specs.declared.kept.Kept.{Kept}
use Rattle.table.specs.Table.{Entry, table_words}
use Rattle.rounds.specs.Rounds.{round_zero, next_round, settled}
use Rattle.rounds.specs.RoundLaws.{round_table}
use Rattle.saturation.specs.RuleLinks.{Linked}
use Rattle.noting.specs.Signs.{Reads}
use Rattle.saturation.specs.Kept.{Room, Rested}
use Rattle.solver.specs.declared.saturating.Arrays.{Arrays}
use Rattle.saturation.specs.Resting.{Resting, RoundTaken}
use Rattle.unions.specs.Ranks.{Noted, Sized}
use Rattle.solver.specs.Leaving.{leaving, called, solved_with}
use Rattle.solver.specs.Given.{solving_rounds}
use Rattle.solver.proofs.RoundOrder.{Order, order-zero, order-next, left-solved, left-last, left-full, next-same, length-settled, length-unsettled}

-- the areas rest at round i
pub record Rests (el : List ℕ) (g : PushdownGame) (m n heads abelard letters rulecount : ℕ) (rules states numbers raising all new keys rests fresh alive ends added log news held : List ℕ) (lines entries i : ℕ) : Type 0 where
  pub old : List Entry
  pub resting : Resting el g n heads old (round_table g i) i abelard letters rulecount rules states numbers raising all new keys rests fresh alive ends added log news held lines entries
  pub order : Order g m i

pub rests-start : {el : List ℕ} {g : PushdownGame} {n heads abelard letters rulecount : ℕ} {rules states numbers raising all new keys rests fresh alive ends added log news held : List ℕ} {lines entries : ℕ} → (m : ℕ)
    → Resting el g n heads [] (round_zero g) 0 abelard letters rulecount rules states numbers raising all new keys rests fresh alive ends added log news held lines entries
    → Rests el g m n heads abelard letters rulecount rules states numbers raising all new keys rests fresh alive ends added log news held lines entries 0
unfolding round_table
rests-start {g = g} m re = record { old = []; resting = re; order = order-zero g m }

-- with all of the lines or none
pub kept-few : {lines kept most : ℕ} → (kept ≡ lines) ⊎ (kept ≡ 0) → lines ≤ most → kept ≤ most
kept-few {lines = lines} {kept = kept} {most = most} k l = ⊎_elim (λ (e : kept ≡ lines). omega (arith, e, l)) (λ (e : kept ≡ 0). omega (arith, e)) k

pub rests-kept : {el : List ℕ} {g : PushdownGame} {m n heads abelard letters rulecount : ℕ} {rules states numbers raising all new keys rests fresh alive ends added log news held : List ℕ} {lines kept entries i : ℕ} → (kept ≡ lines) ⊎ (kept ≡ 0)
    → Rests el g m n heads abelard letters rulecount rules states numbers raising all new keys rests fresh alive ends added log news held lines entries i
    → Rests el g m n heads abelard letters rulecount rules states numbers raising all new keys rests fresh alive ends added log news held kept entries i
rests-kept {el = el} {g = g} {m = m} {n = n} {heads = heads} {abelard = abelard} {letters = letters} {rulecount = rulecount} {rules = rules} {states = states} {numbers = numbers} {raising = raising} {all = all} {new = new} {keys = keys} {rests = rests} {fresh = fresh} {alive = alive} {ends = ends} {added = added} {log = log} {news = news} {held = held} {lines = lines} {kept = kept} {entries = entries} {i = i} k w =
    ⊎_elim
    (λ (e : kept ≡ lines). subst (λ (c : ℕ). Rests el g m n heads abelard letters rulecount rules states numbers raising all new keys rests fresh alive ends added log news held c entries i) (sym e) w)
    (λ (e : kept ≡ 0).
    subst (λ (c : ℕ). Rests el g m n heads abelard letters rulecount rules states numbers raising all new keys rests fresh alive ends added log news held c entries i) (sym e)
    (record { old = w.old; resting = without w.resting; order = w.order }))
    k
  where
    without : {old es : List Entry} → Resting el g n heads old es i abelard letters rulecount rules states numbers raising all new keys rests fresh alive ends added log news held lines entries
        → Resting el g n heads old es i abelard letters rulecount rules states numbers raising all new keys rests fresh alive ends added log news held 0 entries
    without r =
        record {
          ground = r.ground;
          layout = r.layout;
          listed = r.listed;
          rows = r.rows;
          within = r.within;
          passing =
              record {
                hold = r.passing.hold;
                grew = r.passing.grew;
                done = λ j z c l f e s. absurd (omega arith);
                more = λ j z c f e s. absurd (omega arith);
                left = λ j z c l f e s. absurd (omega arith);
              };
          lined = λ j l. absurd (omega arith);
          ended = r.ended;
          idle = r.idle;
          logged = r.logged;
          tidings = r.tidings;
          reading = r.reading;
        }

-- so many entries as a zeroed table has room for
pub room-is : (m : ℕ) (table : List ℕ) → table ≡ replicate (m * 3) 0 → length table / 3 ≡ m
room-is m table e = let l = ap length e ∙ length-replicate (m * 3) 0 in omega (arith, l)

module _ {el : List ℕ} {g : PushdownGame} {m n heads abelard letters rulecount : ℕ} {rules states numbers raising all new keys rests fresh alive ends added log news held : List ℕ} {lines entries i : ℕ}
    (w : Rests el g m n heads abelard letters rulecount rules states numbers raising all new keys rests fresh alive ends added log news held lines entries i)
    {size : ℕ} (fits : entries ≤ size) (sized : size ≡ m) {all' new' keys' rests' fresh' alive' ends' added' log' news' held' : List ℕ} {lines' entries' : ℕ}
    (taken : RoundTaken el g n heads (round_table g i) i (i + 1) size abelard letters rulecount rules states numbers raising all' new' keys' rests' fresh' alive' ends' added' log' news' held' lines' entries') where
  abbrev es : List Entry
  es = round_table g i

  abbrev next : List Entry
  next = next_round g (round_table g i) (suc i)

  good : Good g
  good = w.resting.ground.good

  step : i + 1 ≡ suc i
  step = omega arith

  counted : entries ≡ length es
  counted = w.resting.logged.counted

  turn : RoundTaken el g n heads es i (suc i) size abelard letters rulecount rules states numbers raising all' new' keys' rests' fresh' alive' ends' added' log' news' held' lines' entries'
  turn = rw step at taken

  -- nothing was added: the round is settled, and its entries are those that are noted
  module _ (same : entries' ≡ entries) where
    rest : Resting el g n heads es next (suc i) abelard letters rulecount rules states numbers raising all' new' keys' rests' fresh' alive' ends' added' log' news' held' lines' entries'
    rest = ⊎_elim (λ k. absurd (omega (arith, k.0, same, fits))) (λ k. k.1) turn

    is-settled : settled g es ≡ true
    is-settled = length-settled g m good i (sym rest.logged.counted ∙ same ∙ counted)

    is_same : next ≡ es
    is_same = next-same g m good i is-settled

    pub noted-last : Noted el g n letters heads states all' log' entries' es m
    noted-last =
        let r = subst (λ (t : List Entry). Resting el g n heads es t (suc i) abelard letters rulecount rules states numbers raising all' new' keys' rests' fresh' alive' ends' added' log' news' held' lines' entries') is_same rest in
        record {
          good = good;
          layout = r.layout;
          lettered = r.ground.owned.lettered;
          rows = r.rows;
          listed = r.listed;
          hold = r.passing.hold;
          logged = r.logged;
          ascending = r.ground.ascending;
          ranged = r.ground.growth.ranged;
          fits = omega (arith, counted, fits, sized);
        }

    pub ends-settled : (table work words : ℕ) → words ≡ work
        → called (solved_with entries' i) (table_words es (m - length es)) (replicate words 0) ≡ leaving (solving_rounds g m) table work
    ends-settled table work words e = rw e (left-solved g m i w.order good table work entries' is-settled (table_words es (m - length es)) (same ∙ counted) refl)

  -- something was
  module _ (other : entries' ≡ entries → ⊥) where
    unsettled : settled g es ≡ false
    unsettled =
        length-unsettled g m good i
        (λ e. ⊎_elim (λ k. omega (arith, k.1, e, counted, fits)) (λ k. other (k.1.logged.counted ∙ e ∙ sym counted)) turn)

    pub ends_last : max_rounds ≤ i → (table work : ℕ) → leaving (solving_rounds g m) table work ≡ leaving (refused 12 (i + 1)) table work
    ends_last l table work = rw step (left-last g m i w.order table work l unsettled)

    pub ends-full : i < max_rounds → size < entries' → (table work : ℕ) → leaving (solving_rounds g m) table work ≡ leaving (refused 11 (i + 1)) table work
    ends-full l beyond table work =
        rw step
        (left-full g m i w.order table work l unsettled
        (⊎_elim (λ k. omega (arith, k.1, sized)) (λ k. absurd (omega (arith, k.0, beyond))) turn))

    pub rests-next : i < max_rounds → entries' ≤ size
        → Rests el g m n heads abelard letters rulecount rules states numbers raising all' new' keys' rests' fresh' alive' ends' added' log' news' held' lines' entries' (i + 1)
    unfolding round_table
    rests-next l fit =
        rw step
        (⊎_elim (λ k. absurd (omega (arith, k.0, fit)))
        (λ k.
        record {
          old = es;
          resting = k.1;
          order = order-next g m i w.order l unsettled (omega (arith, k.1.logged.counted, fit, sized));
        })
        turn)

-- The loop's turns: the table is as it was, the log has its length, the lines are within their array, and what is kept rests at round i.
pub record Turning {W L H G E : ℕ} (rules : Rules) (first : ℕ) (table₀ log₀ : List ℕ) (marks₀ : Marks) (kept₀ : Kept) (arrays₀ : Arrays W L H G E)
    (table log : List ℕ) (marks : Marks) (kept : Kept) (arrays : Arrays W L H G E) (size entries i : ℕ) : Type 0 where
  pub most : i ≤ max_rounds
  pub sized : size ≡ length table₀ / 3
  pub tabled : table ≡ table₀
  pub room : entries ≤ size
  pub lined : kept.lines ≤ L
  pub logs : length log ≡ length log₀
  pub gone : (el : List ℕ) (g : PushdownGame) (m : ℕ) → rules.sizes.control ≡ g.control → rules.sizes.states ≡ g.states → Reads rules.bytes.now rules.sizes.rulecount rules.readers.now
      → Linked rules.bytes.now rules.sizes.rulecount rules.frame.letters rules.sizes.control rules.firsts.now rules.nexts.now → table₀ ≡ replicate (m * 3) 0
      → Rested el g [] (round_zero g) 0 rules marks₀ arrays₀.all arrays₀.more arrays₀.keys arrays₀.rests arrays₀.ends arrays₀.added log₀ kept₀.lines first
      → Rests el g m rules.frame.n rules.frame.heads rules.sizes.abelard rules.frame.letters rules.sizes.rulecount rules.bytes.now rules.frame.states rules.numbers
      rules.frame.raising.now arrays.all arrays.more arrays.keys arrays.rests marks.fresh marks.alive arrays.ends arrays.added log marks.news marks.held kept.lines entries i

-- what writing the table needs
pub sized-at : {W L H G E : ℕ} (rules : Rules) (arrays : Arrays W L H G E) → Room rules.frame.heads rules.frame.n rules.sizes.rulecount W W L L H E G → (count size : ℕ) → count ≤ size
    → (log : List ℕ) → size * 3 ≤ length log
    → Sized rules.frame.letters rules.frame.heads rules.frame.n count rules.frame.states arrays.all arrays.more log
sized-at {L = L} rules arrays room count size l log ll =
    let many = mul-le-mul_right rules.frame.n (more rules.frame.heads L) in
    record {
      long = rules.frame.long;
      few = rules.frame.few;
      rows = rules.frame.most;
      words = rules.frame.words;
      area = omega (arith, arrays.area, room.area, many);
      room = omega (arith, arrays.newer, room.area, many);
      ends = omega (arith, ll, l);
    }
  where
    more : (x y : ℕ) → x ≤ x + y
    more x y = omega arith
