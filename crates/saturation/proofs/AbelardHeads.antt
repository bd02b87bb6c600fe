-- Abelard's heads: the rules of a head are those of its chain; the unions of their ends are what the runs give it; and where the head is
-- not marked, so that none of its rules has more ends, it has them already.
use Prim.Native.Nat.{ℕ, zero, suc, ◌+◌, ◌*◌, ◌-◌, ◌/◌, ◌^◌, ◌<◌, ◌≤◌}
use native.Mathlib.Omega.{arith}
use mathlib.Core.Path.{◌≡◌, refl, sym, ap, subst, ◌∙◌}
use mathlib.Core.Logic.{inl, inr, ⊎_elim}
use mathlib.Core.Bool.{true, false}
use mathlib.Core.List.Memᴰ
use mathlib.Core.List.{List, [], ◌∷◌, ◌++◌, map, map-map}
use lib.ListN.{length, get_or}
use lib.Seq.{take_all}
use lib.Dec.{eqb, ltb}
use borrow.Author.Tests.{ltb-true, ltb-false, eqb-true}
use Rattle.game.specs.Sets.{has, single, union}
use Rattle.game.specs.SetLaws.{single-below}
use Rattle.game.specs.Game.{Rule, PushdownGame, filter, of_head, rules_of, word_of}
use Rattle.game.specs.GoodGame.{Good, Numbered}
use Rattle.game.specs.Stored.{rule_bytes}
use Rattle.game.specs.StoredLaws.{no_rule}
use Rattle.game.specs.Win.{is_abelard}
use Rattle.game.specs.ListLaws.{◌∈◌, test, map-in, in_map, flat_map-in}
use Rattle.table.specs.Table.{Entry, first_word}
use Rattle.family.specs.Masks.{Raising}
use Rattle.table.specs.Pairwise.{Ascending}
use Rattle.rounds.specs.RoundLaws.{AllRanged}
use Rattle.rounds.specs.Rounds.{members, sets_of, unions, ends, rule_ends}
use Rattle.rounds.specs.Candidates.{abelards}
use Rattle.rounds.proofs.Candidates.{rule-in}
use Rattle.rounds.specs.Scans.{NextRule, rules_between}
use Rattle.rounds.specs.ScanLaws.{next-is, none-next}
use Rattle.unions.specs.Expand.{expand, Elements, Within, AllWithin}
use Rattle.unions.specs.ExpandLaws.{expand-single}
use Rattle.unions.specs.UnionSteps.{unions-more}
use Rattle.unions.specs.Pool.{Is, Head, Layout, HeadsHold}
use Rattle.unions.specs.PoolLaws.{head-within, union-within}
use Rattle.unions.specs.Ending.{Listed, RuleEnds}
use Rattle.noting.specs.Taking.{Taking}
use Rattle.noting.specs.Offers.{Adding, Offered, Taken, Spared, Gave}
use Rattle.saturation.specs.Steps.{Step}
use Rattle.saturation.specs.RuleLinks.{Linked, Chain, ended, linked}
use Rattle.saturation.specs.HeadSteps.{EndsOf, AllOf, AbelardAt, Ready}
use Rattle.saturation.proofs.HeadTurns.{chain-below, no_more}

abbrev rule_of : PushdownGame → ℕ → Rule
rule_of g r = get_or g.rules r no_rule

-- the rule of number k stands at k
numbered-at : (m : ℕ) (rs : List Rule) → Numbered m rs → (k : ℕ) → k < length rs → (get_or rs k no_rule).number ≡ m + k
unfolding Numbered
numbered-at m [] h k l = absurd (omega arith)
numbered-at m (r ∷ rs) h zero l = omega (arith, h.0)
numbered-at m (r ∷ rs) h (suc k) l = let rest = numbered-at (suc m) rs h.1 k (omega arith) in omega (arith, rest)

-- the ends of a rule's runs are sets of elements
ends-within : (el : List ℕ) (g : PushdownGame) (es : List Entry) → Elements el g.states → AllWithin el es → (r : Rule) → (r.count ≡ 0 → Listed el r.to) → (z : ℕ)
    → z ∈ rule_ends g es r → Within el z
unfolding rule_ends word_of ends
ends-within el g es ok within r pops z m =
    ⊎_elim
    (λ (t : eqb r.count 0 ≡ true).
    let i = pops (eqb-true r.count 0 t) in
    let e : z ≡ single r.to = Memᴰ.eq_of_singleton (rw t at m) in
    (2 ^ i.0, single-below i.1, e ∙ ap single (sym i.2) ∙ sym (expand-single el g.states ok i.0 i.1)))
    (λ (t : eqb r.count 0 ≡ false).
    ⊎_elim (λ (u : eqb r.count 1 ≡ true). head-within el es within r.to r.above z (rw (t, u) at m))
    (λ (u : eqb r.count 1 ≡ false).
    let q = flat_map-in (λ set. unions (map (ends g.states es (r.below ∷ [])) (members g.states set))) (sets_of es r.to r.above) (rw (t, u) at m) in
    union-within el g es ok within r.below q.0 z q.2)
    (test (eqb r.count 1)))
    (test (eqb r.count 0))

module _ (g : PushdownGame) (p a : ℕ) (rules slack : List ℕ) (written : rules ≡ rule_bytes g.rules ++ slack) where
  -- the links from the first rule of a head on are the head's rules
  record Chained (nexts : List ℕ) (from r : ℕ) : Type 0 where
    chain : List ℕ
    follows : Chain (length g.rules) nexts r chain
    same : map (rule_of g) chain ≡ rules_between g p a from (length g.rules)

  chained : (letters control : ℕ) (firsts nexts : List ℕ) → Linked rules (length g.rules) letters control firsts nexts → (fuel from r : ℕ) → length g.rules ≤ fuel + from
      → NextRule rules (length g.rules) from p a r → Chained nexts from r
  chained letters control firsts nexts l zero from r enough n =
      let high : length g.rules ≤ r = omega (arith, n.after) in
      record {
        chain = [];
        follows = ended high;
        same = sym (none-next g p a rules slack written (length g.rules) from r (omega arith) n high);
      }
  chained letters control firsts nexts l (suc fuel) from r enough n =
      ⊎_elim
      (λ (t : ltb r (length g.rules) ≡ true).
      let low = ltb-true r (length g.rules) t in
      let s = next-is g p a rules slack written (length g.rules) from r (omega arith) n low in
      let later = chained letters control firsts nexts l fuel (suc r) (get_or nexts r 0) (omega (arith, n.after)) (l.next r p a low (n.found low)) in
      record {
        chain = r ∷ later.chain;
        follows = linked low later.follows;
        same = ap (rule_of g r ∷◌) later.same ∙ sym s.0;
      })
      (λ (t : ltb r (length g.rules) ≡ false).
      let high = ltb-false r (length g.rules) t in
      record {
        chain = [];
        follows = ended high;
        same = sym (none-next g p a rules slack written (length g.rules) from r (omega arith) n high);
      })
      (test (ltb r (length g.rules)))

  all-between : rules_between g p a 0 (length g.rules) ≡ rules_of g p a
  unfolding rules_between rules_of
  all-between = ap (filter (of_head p a)) (take_all (length g.rules - 0) g.rules (omega arith))

-- where there is a union over several families, one of them has a set
some_end : (f : ℕ → List ℕ) (rs : List ℕ) (s z : ℕ) → s ∈ rs → z ∈ unions (map f rs) → (r v : ℕ) × r ∈ rs × v ∈ f r
unfolding unions
some_end f [] s z m i = absurd (Memᴰ.not-nil m)
some_end f (r ∷ rs) s z m i = let q = flat_map-in (λ set. map (union set) (unions (map f rs))) (f r) i in (r, q.0, Memᴰ.head refl, q.1)

module _ (el : List ℕ) (g : PushdownGame) (n : ℕ) (old es : List Entry) (i abelard control letters rulecount : ℕ) (rules runs stirred firsts nexts raising all : List ℕ)
    (k : Ready el g n old es i abelard control letters rulecount rules runs stirred firsts nexts raising all) (p a : ℕ) (lp : p < control) (la : a < letters) (head : ℕ) (eh : head ≡ p * letters + a)
    (on : is_abelard g p ≡ true) where
  state-in : p < g.control
  state-in = omega (arith, lp, k.controls)

  letter-in : a < g.letters
  letter-in = omega (arith, la, k.lettered)

  links : Linked rules (length g.rules) letters control firsts nexts
  links = subst (λ (m : ℕ). Linked rules m letters control firsts nexts) k.counted k.linked

  whole : Chained g p a rules k.slack k.stored nexts 0 (get_or firsts (p * letters + a) 0)
  whole = chained g p a rules k.slack k.stored letters control firsts nexts links (length g.rules) 0 (get_or firsts (p * letters + a) 0) (omega arith) (links.first p a lp la)

  chain : List ℕ
  chain = whole.chain

  follows : Chain rulecount nexts (get_or firsts head 0) chain
  unfolding chain
  follows =
      subst (λ (m : ℕ). Chain m nexts (get_or firsts head 0) whole.chain) (sym k.counted)
      (subst (λ (h : ℕ). Chain (length g.rules) nexts (get_or firsts h 0) whole.chain) (sym eh) whole.follows)

  same : map (rule_of g) chain ≡ rules_of g p a
  unfolding chain
  same = whole.same ∙ all-between g p a rules k.slack k.stored

  low : (s : ℕ) → s ∈ chain → s < length g.rules
  low s m = subst (λ (j : ℕ). s < j) k.counted (chain-below follows s m)

  its : (s : ℕ) → s ∈ chain → (rule_of g s ∈ g.rules) × ((rule_of g s).from ≡ p) × ((rule_of g s).top ≡ a)
  its s m = rule-in g p a (subst (λ (rs : List Rule). rule_of g s ∈ rs) same (in_map (rule_of g) m))

  owned : (s : ℕ) → s ∈ chain → is_abelard g (rule_of g s).from ≡ true
  owned s m = ap (is_abelard g) (its s m).1 ∙ on

  number : (s : ℕ) → s ∈ chain → (rule_of g s).number ≡ s
  number s m = let at = numbered-at 0 g.rules k.good.ranged.numbers s (low s m) in omega (arith, at)

  -- the ends of the rule of a number
  ends_at : List Entry → ℕ → List ℕ
  ends_at table s = rule_ends g table (rule_of g s)

  lists : (table : List Entry) → map (ends_at table) chain ≡ map (rule_ends g table) (rules_of g p a)
  unfolding ends_at
  lists table = sym (map-map (rule_ends g table) (rule_of g) chain) ∙ ap (map (rule_ends g table)) same

  within-at : (s z : ℕ) → s ∈ chain → z ∈ ends_at es s → Within el z
  unfolding ends_at
  within-at s z m j = ends-within el g es k.layout.elements k.within (rule_of g s) (k.pops (rule_of g s) (its s m).0) z j

  families : EndsOf el n runs (ends_at es) chain
  unfolding ends_at rule_ends
  families =
      record {
        is = λ s m. subst (λ (j : ℕ). Is el n runs (j * n) (RuleEnds g es (rule_of g s))) (number s m) (k.runs (rule_of g s) (its s m).0 (owned s m));
        within = within-at;
      }

  -- the head has a rule
  a-rule : (s : ℕ) × (s ∈ chain)
  a-rule =
      let r = k.good.head p a state-in letter-in in
      let s = map-in (rule_of g) chain (subst (λ (rs : List Rule). r.0 ∈ rs) (sym same) r.1) in
      (s.0, s.1)

  pub not_none : rulecount ≤ get_or firsts head 0 → ⊥
  not_none l = Memᴰ.not-nil (subst (λ (xs : List ℕ). a-rule.0 ∈ xs) (no_more follows l) a-rule.1)

  -- where it is not marked, its rules have only such ends as they had
  module _ (off : has (get_or stirred p 0) a ≡ false) where
    clear : (s : ℕ) → s ∈ chain → has (get_or stirred (rule_of g s).from 0) (rule_of g s).top ≡ false
    clear s m = ap (λ (q : ℕ). has (get_or stirred q 0) (rule_of g s).top) (its s m).1 ∙ ap (has (get_or stirred p 0)) (its s m).2 ∙ off

    before : (s : ℕ) → s ∈ chain → (v : ℕ) → v ∈ ends_at es s → (0 < i) × (v ∈ ends_at old s)
    unfolding ends_at rule_ends
    before s m v j = k.calm (rule_of g s) (its s m).0 (owned s m) (clear s m) v j

    -- so its unions are in the table
    pub still-there : (z : ℕ) → z ∈ unions (map (rule_ends g es) (rules_of g p a)) → Head es p a z
    still-there z m =
        let here : z ∈ unions (map (ends_at es) chain) = subst (λ (fs : List (List ℕ)). z ∈ unions fs) (sym (lists es)) m in
        let e = some_end (ends_at es) chain a-rule.0 z a-rule.1 here in
        let was = unions-more (ends_at es) (ends_at old) chain (λ t j v w. (before t j v w).1) z here in
        k.ripe p a z 0 state-in letter-in (before e.0 e.2 e.1 e.3).0
        (abelards on (subst (λ (fs : List (List ℕ)). z ∈ unions fs) (lists old) was) refl)

  -- the sets that are offered
  module _ (sets : List ℕ) (union-of : AllOf el n (ends_at es) chain sets) where
    offered : (now : List Entry) → Offered el g n es now p a 0 sets 0
    offered now =
        record {
          small = λ x l h. (union-of.from x l h).0;
          gives = λ x l h. abelards on (subst (λ (fs : List (List ℕ)). expand el x ∈ unions fs) (lists es) (union-of.from x l h).1) refl;
          lowest = λ x l h new fresh field w. omega arith;
        }

    taken-all : (b : ℕ) (now : List Entry) (log added : List ℕ) (count : ℕ) → (t : Taken el g n es b p a now sets 0 n log added count) → (z : ℕ)
        → z ∈ unions (map (rule_ends g es) (rules_of g p a)) → Head t.after p a z
    taken-all b now log added count t z m =
        let x = union-of.into z (subst (λ (fs : List (List ℕ)). z ∈ unions fs) (sym (lists es)) m) in
        let room = k.layout.room x.0 x.1 in
        subst (Head t.after p a) (sym x.3) (t.into x.0 room room x.2)

  -- what is given to this head, at whatever numbers it is asked for
  given-at : (after : List Entry) → ((z : ℕ) → z ∈ unions (map (rule_ends g es) (rules_of g p a)) → Head after p a z) → (q c z : ℕ) → AbelardAt g es p a q c z → Head after q c z
  given-at after h q c z w =
      let there = subst (λ (v : ℕ). z ∈ unions (map (rule_ends g es) (rules_of g p v))) w.1 (subst (λ (v : ℕ). z ∈ unions (map (rule_ends g es) (rules_of g v c))) w.0 w.3) in
      subst (λ (v : ℕ). Head after v c z) (sym w.0) (subst (λ (v : ℕ). Head after p v z) (sym w.1) (h z there))

  word-is : (b : ℕ) → p + 256 * a + 65536 * b ≡ first_word p a b
  unfolding first_word
  word-is b = refl

  -- a head that was offered the unions
  module _ (b size : ℕ) (now : List Entry) (log₀ added₀ gains₀ : List ℕ) (count₀ : ℕ) (taking : Taking el g es b log₀ count₀ now) (adding : Adding el g n es now added₀)
      (spared : Spared g es now gains₀) (sets log added gains : List ℕ) (count : ℕ) where
    pub step-offer : (Raising raising → (el : List ℕ) (states : ℕ) (f : ℕ → List ℕ) (chain : List ℕ) → Elements el states → ((x : ℕ) → x < 2 ^ length el → x / 64 < n)
        → Chain rulecount nexts (get_or firsts head 0) chain → EndsOf el n runs f chain → AllOf el n f chain sets)
        → ((el : List ℕ) (g : PushdownGame) (es now : List Entry) (b' : ℕ) → Layout el g n → Good g → Ascending es → AllRanged g es → Taking el g es b' log₀ count₀ now
        → p + 256 * a + 65536 * b ≡ first_word p a b' → p < g.control → a < g.letters → head ≡ p * g.letters + a → HeadsHold el g n es all → Adding el g n es now added₀
        → Offered el g n es now p a 0 sets 0 → Spared g es now gains₀ → Gave el g n es b' size p a now sets 0 gains log added count)
        → Step el g n es b size now (AbelardAt g es p a) gains log added count
    step-offer unite give =
        let union-of = unite k.masks el g.states (ends_at es) chain k.layout.elements k.layout.room follows families in
        let numbered : head ≡ p * g.letters + a = eh ∙ ap (λ (l : ℕ). p * l + a) k.lettered in
        ⊎_elim inl
        (λ w.
        let took = w.1.0 in
        inr (
          w.0,
          record {
            after = took.after;
            taking = took.taking;
            adding = took.adding;
            kept = took.kept;
            given = λ q c z lq lc h. given-at took.after (λ v m. taken-all sets union-of b now log added count took v m) q c z h;
            gained = w.1.1.none;
          },
        ))
        (give el g es now b k.layout k.good k.ascending k.ranged taking (word-is b) state-in letter-in numbered k.hold adding (offered sets union-of now) spared)
