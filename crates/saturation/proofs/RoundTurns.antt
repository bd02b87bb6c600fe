-- A round from one rest to the next: lines brought up, rules taken, Abelard's heads taken, heads closed.
use Prim.Native.Nat.{ℕ, suc, ◌+◌, ◌*◌, ◌<◌, ◌≤◌}
use native.Mathlib.Omega.{arith}
use native.Mathlib.Nat.{mul-le-mul_right}
use mathlib.Core.Path.{◌≡◌, sym, ap, subst}
use mathlib.Core.Logic.{inl, inr, ⊎_elim}
use mathlib.Core.Bool.{Bool, false}
use mathlib.Core.List.{List}
use lib.ListN.{get_or}
use lib.Dec.{eqb}
use borrow.Author.Tests.{eqb-false}
use Rattle.game.specs.Game.{Rule, PushdownGame}
use Rattle.game.specs.ListLaws.{◌∈◌}
use Rattle.table.specs.Table.{Entry}
use Rattle.family.specs.Family.{holds, Elsewhere}
use Rattle.rounds.specs.Rounds.{next_round}
use Rattle.rounds.specs.RoundLaws.{AllRanged}
use Rattle.rounds.proofs.RoundLaws.{next-is, next-ascending, next-ranged}
use Rattle.rounds.specs.Candidates.{Gives, eloises, abelards}
use Rattle.rounds.proofs.Candidates.{rule-in}
use Rattle.unions.specs.Expand.{AllWithin}
use Rattle.unions.specs.Pool.{Head, Kept}
use Rattle.unions.specs.PoolLaws.{Passing, next_row}
use Rattle.unions.specs.JoinLaws.{is-as, is-kept}
use Rattle.unions.specs.Finding.{Renewing, Fresh}
use Rattle.unions.specs.Log.{Log}
use Rattle.noting.specs.Taking.{whole, heads-old, head-entry, entry-head}
use Rattle.noting.specs.Signs.{NoNews, NoGains, Unmoved, Held, Reads, Left}
use Rattle.noting.specs.Offers.{Adding}
use Rattle.noting.specs.Closing.{Ready}
use Rattle.noting.specs.Marks.{Dead}
use Rattle.saturation.specs.Steps.{EndsHold, Stepped, AbelardsTo}
use Rattle.saturation.specs.RuleLinks.{Linked}
use Rattle.saturation.specs.HeadSteps.{Ready as Heads}
use Rattle.saturation.specs.Ground.{Ground, RulesTo}
use Rattle.saturation.specs.Resting.{Resting}
use Rattle.saturation.specs.RuleLaws.{rule_of, rule-same}
use Rattle.saturation.proofs.RuleTurns.{bytes, sound, to-of, above_of}
use Rattle.saturation.proofs.Moving.{moving}

-- round i + 1, where it is not round 1
pub not_first : (b i : ℕ) → b ≡ suc i → eqb b 1 ≡ false → 0 < i
not_first b i e f = let ne = eqb-false b 1 f in omega (arith, e, ne)

module _ {el : List ℕ} {g : PushdownGame} {n heads : ℕ} {old es : List Entry} {i abelard letters rulecount : ℕ} {rules states numbers raising all new keys rests fresh alive ends added log news held : List ℕ} {lines count : ℕ}
    (re : Resting el g n heads old es i abelard letters rulecount rules states numbers raising all new keys rests fresh alive ends added log news held lines count) where
  gr : Ground el g n old es i abelard letters rulecount rules numbers new fresh alive raising
  gr = re.ground

  ranged : AllRanged g es
  ranged = re.ground.growth.ranged

  -- the second letter that a rule writes, by its byte
  below_of : (r : ℕ) (l : r < rulecount) → get_or rules (r * 6 + 5) 0 ≡ (rule_of g r).below
  below_of r l = sym (ap (λ (x : Rule). x.below) (bytes gr r l))

  -- how many heads of control states there are
  pub rows_are : {control : ℕ} → control ≡ g.control → control * letters ≡ g.control * g.letters
  rows_are e = rw (e, re.ground.owned.lettered)

  pub renewing : Renewing el g n heads states old es fresh keys rests lines
  renewing =
      record {
        layout = re.layout;
        listed = re.listed;
        rows = re.rows;
        within = re.within;
        kept = re.ground.kept;
        touched = re.ground.growth.touched;
        lines = re.lined;
      }

  -- the rules that are not marked have no new ends, and those whose first head has a transition are marked
  module _ {readers held' active : List ℕ} {is-first : Bool} {size : ℕ} (se : size ≡ g.states) (few : letters ≤ 64) (some : rulecount ≤ 256)
      (after : is-first ≡ false → 0 < i) (reads : Reads rules rulecount readers)
      (lefts : (rs : List ℕ) (k r : ℕ) → Reads rs k readers → r < k → r < 256 → get_or rs (r * 6 + 2) 0 < size → get_or rs (r * 6 + 4) 0 < 64
      → get_or rs (r * 6 + 5) 0 < letters → Left rs r news fresh is-first held held' active) where
    left_over : (r : ℕ) → r < rulecount → Left rules r news fresh is-first held held' active
    left_over r l =
        lefts rules rulecount r reads l (omega (arith, l, some))
        (omega (arith, to-of gr r l, (sound gr r l).to, gr.good.ranged.control, se))
        (omega (arith, above_of gr r l, (sound gr r l).above, gr.owned.lettered, few))
        (omega (arith, below_of r l, (sound gr r l).below, gr.owned.lettered))

    pub found : Unmoved g old es i active × Held g es held'
    found =
        moving gr.owned gr.good gr.growth.touched gr.growth.first re.layout re.within
        (omega (arith, gr.good.ranged.control))
        re.tidings
        re.reading
        after
        left_over

  -- the lines are brought up
  module _ {all₁ new₁ : List ℕ} (p : Passing el g n heads keys old es all₁ new₁ lines lines) where
    pub ground-on : Ground el g n old es i abelard letters rulecount rules numbers new₁ fresh alive raising
    ground-on =
        record {
          owned = re.ground.owned;
          good = re.ground.good;
          raises = re.ground.raises;
          growth =
              record {
                grew = p.grew;
                touched = re.ground.growth.touched;
                dead = re.ground.growth.dead;
                numbered = re.ground.growth.numbered;
                ranged = re.ground.growth.ranged;
                first = re.ground.growth.first;
              };
          kept = re.ground.kept;
          pops = re.ground.pops;
          ripe = re.ground.ripe;
          ascending = re.ground.ascending;
        }

    pub rules-start : (b : ℕ) (stirred gains : List ℕ) → RulesTo el g n heads states old es i b es 0 all₁ keys rests ends stirred gains log added lines count
    rules-start b stirred gains =
        record {
          pool =
              record {
                layout = re.layout;
                listed = re.listed;
                rows = re.rows;
                within = re.within;
                hold = p.hold;
                lines = re.lined;
                done = p.done;
              };
          done = λ r m on l. absurd (omega (arith, l));
          calm = λ r m l. absurd (omega (arith, l));
          left = λ r m on l. re.ended r m on;
          stepped =
              record {
                after = es;
                taking =
                    record {
                      logged = re.logged;
                      ascending = re.ground.ascending;
                      olds = λ e m. m;
                      news = λ e m. (next-is g re.ground.good es re.ground.ascending ranged b e).1 (inl m);
                    };
                adding = re.idle;
                kept = λ q c z m. m;
                given = λ p a z lp la e. absurd (omega (arith, e.1.2));
                gained = λ p a z lp la off m. m;
              };
        }

  -- the rules are taken
  module _ {b : ℕ} {all₂ keys₂ rests₂ ends₂ stirred₂ gains₂ log₂ added₂ : List ℕ} {lines₂ count₂ : ℕ}
      (to : RulesTo el g n heads states old es i b es rulecount all₂ keys₂ rests₂ ends₂ stirred₂ gains₂ log₂ added₂ lines₂ count₂) where
    number-low : (r : Rule) → r ∈ g.rules → r.number < rulecount
    number-low r m = subst (λ (k : ℕ). r.number < k) (sym re.ground.owned.counted) (rule-same g re.ground.good.ranged m).0

    pub ends-hold : EndsHold el g n es ends₂
    ends-hold r m on = to.done r m on (number-low r m)

    -- Abelard's heads can be taken
    pub heads-ready : {control : ℕ} {firsts nexts : List ℕ} → control ≡ g.control → Linked rules rulecount letters control firsts nexts
        → Heads el g n old es i abelard control letters rulecount rules ends₂ stirred₂ firsts nexts raising all₂
    heads-ready ec linked =
        record {
          good = re.ground.good;
          owned = re.ground.owned.owners;
          controls = ec;
          lettered = re.ground.owned.lettered;
          counted = re.ground.owned.counted;
          slack = re.ground.owned.slack;
          stored = re.ground.owned.stands;
          linked = linked;
          masks = re.ground.raises;
          layout = re.layout;
          pops = re.ground.pops;
          ascending = re.ground.ascending;
          ranged = ranged;
          within = re.within;
          hold = to.pool.hold;
          runs = ends-hold;
          calm = λ r m. to.calm r m (number-low r m);
          ripe = re.ground.ripe;
        }

    -- Abelard's heads are taken
    module _ {rows : ℕ} (er : rows ≡ g.control * g.letters) {gains₃ log₃ added₃ : List ℕ} {count₃ : ℕ} (st : Stepped el g n es b to.stepped.after (AbelardsTo g es rows) gains₃ log₃ added₃ count₃) where
      abbrev next : List Entry
      next = next_round g es b

      all-given : (p a z field : ℕ) → p < g.control → a < g.letters → Gives g es p a z field → Head st.after p a z
      all-given p a z field lp la (eloises t r m k e) =
          st.kept p a z (to.stepped.given p a z lp la (t, (r, m, number-low r (rule-in g p a m).0, k)))
      all-given p a z field lp la (abelards t k e) =
          st.given p a z lp la (t, omega (arith, er, la, next_row p g.control g.letters lp), k)

      same : st.after ≡ next
      same = whole el g re.ground.good es re.ground.ascending ranged b log₃ count₃ st.after st.taking all-given

      pub kept_next : Kept es next
      kept_next q a z m = subst (λ (w : List Entry). Head w q a z) same (heads-old el g es b log₃ count₃ st.after st.taking q a z m)

      given-next : (p a z field : ℕ) → p < g.control → a < g.letters → Gives g es p a z field → Head next p a z
      given-next p a z field lp la gives = subst (λ (w : List Entry). Head w p a z) same (all-given p a z field lp la gives)

      pub adding-next : Adding el g n es next added₃
      adding-next = subst (λ (w : List Entry). Adding el g n es w added₃) same st.adding

      pub gains-next : NoGains g es next gains₃
      gains-next = subst (λ (w : List Entry). NoGains g es w gains₃) same st.gained

      -- a further state gets nothing
      pub further : (q a z : ℕ) → g.control ≤ q → Head next q a z → Head es q a z
      further q a z l m =
          let h = head-entry next q a z m in
          ⊎_elim
          (λ o.
          subst (λ (s : ℕ). Head es s a z) h.2
          (subst (λ (c : ℕ). Head es h.0.state c z) h.3 (subst (Head es h.0.state h.0.letter) h.4 (entry-head es h.0 o))))
          (λ o. absurd (omega (arith, l, h.2, o.1.state)))
          ((next-is g re.ground.good es re.ground.ascending ranged b h.0).0 h.1)

      pub within-next : AllWithin el next
      within-next e m =
          let k = st.taking.logged.into e (subst (λ (w : List Entry). e ∈ w) (sym same) m) in
          (get_or log₃ (k.0 * 3 + 1) 0, st.taking.logged.small k.0 k.1, ap (λ (x : Entry). x.set) k.2)

      -- the lines lie beyond the heads
      line_kept : (all₄ : List ℕ) → Elsewhere 0 (heads * n) all₂ all₄ → (k x : ℕ) → holds all₄ ((heads + k) * n) x ≡ holds all₂ ((heads + k) * n) x
      line_kept all₄ aside k x = aside ((heads + k) * n) x (inr (omega (arith, mul-le-mul_right n (more heads k))))
        where
          more : (a c : ℕ) → a ≤ a + c
          more a c = omega arith

      -- the heads are closed, and the elements with transitions marked
      module _ {all₄ new₄ added₄ : List ℕ} (fresh₄ alive₄ news₄ held₄ : List ℕ) (ready : Ready el g n es next all₄ new₄ added₄) (aside : Elsewhere 0 (heads * n) all₂ all₄)
          (touched : Fresh el g es next fresh₄) (dead : Dead el g next alive₄)
          (tidings : NoNews g es next news₄) (reading : Held g es held₄) where
        pub rest-again : Resting el g n heads es next (suc i) abelard letters rulecount rules states numbers raising all₄ new₄ keys₂ rests₂ fresh₄ alive₄ ends₂ added₄ log₃ news₄ held₄ lines₂ count₃
        rest-again =
            record {
              ground =
                  record {
                    owned = re.ground.owned;
                    good = re.ground.good;
                    raises = re.ground.raises;
                    growth =
                        record {
                          grew = ready.grew;
                          touched = touched;
                          dead = dead;
                          numbered = re.ground.growth.numbered;
                          ranged = next-ranged g re.ground.good es re.ground.ascending ranged b;
                          first = λ e. absurd (omega (arith, e));
                        };
                    kept = kept_next;
                    pops = re.ground.pops;
                    ripe = λ p a z field lp la some gives. given-next p a z field lp la gives;
                    ascending = next-ascending g re.ground.good es re.ground.ascending ranged b;
                  };
              layout = re.layout;
              listed = re.listed;
              rows = re.rows;
              within = within-next;
              passing =
                  record {
                    hold = ready.hold;
                    grew = ready.grew;
                    done = λ k z c low l e f. absurd (omega (arith, low, l));
                    more = λ k z c l e f. absurd (omega (arith, l));
                    left = λ k z c low l e f. is-kept re.layout.room (to.pool.done k z c (omega arith) l e f) (λ x m. line_kept all₄ aside k x);
                  };
              lined = to.pool.lines;
              ended = λ r m on. is-as (ends-hold r m on) (λ z h. (omega arith, h)) (λ z h. h.1);
              idle = ready.idle;
              logged = subst (Log el log₃ count₃) same st.taking.logged;
              tidings = tidings;
              reading = reading;
            }
