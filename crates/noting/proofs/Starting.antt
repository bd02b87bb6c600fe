-- Round 0: the target's transitions are noted one after another. No two of them are equal, so there are as many entries.
use Prim.Native.Nat.{ℕ, suc, ◌+◌, ◌*◌, ◌/◌, ◌%◌, ◌^◌, ◌<◌, ◌≤◌}
use native.Mathlib.Omega.{arith}
use mathlib.Core.Path.{◌≡◌, refl, sym, ap, subst, ◌∙◌}
use mathlib.Core.Logic.{inl, inr, ⊎_elim}
use mathlib.Core.Bool.{true, false, ◌&&◌}
use mathlib.Core.List.Memᴰ
use mathlib.Core.List.{List, [], ◌∷◌, ◌++◌, map}
use lib.ListN.{length, get_or, set}
use lib.Seq.{get_or-set_same, get_or-set_other}
use lib.ListN.{length-set}
use lib.Arith.{digits_lt}
use lib.Dec.{eqb}
use borrow.Author.Tests.{eq-eqb, eqb-true, eqb-false}
use Rattle.game.specs.Sets.{has}
use Rattle.game.specs.ListLaws.{◌∈◌, test, clash, both, either, conj, left_or, right_or, below_suc, map-in}
use Rattle.game.specs.Game.{Transition, PushdownGame}
use Rattle.game.specs.GoodGame.{Good, GoodTarget, Distinct}
use Rattle.game.specs.Stored.{target_words, target_at}
use Rattle.game.specs.StoredLaws.{no_transition, target-stored}
use Rattle.game.specs.declared.game.Sizes.{Sizes}
use Rattle.table.specs.Table.{Entry, key_of, entry_of, first_word}
use Rattle.table.specs.WordLaws.{word-entry}
use Rattle.table.specs.Pairwise.{Ascending, Pairwise}
use Rattle.family.specs.Family.{holds, Put}
use Rattle.rounds.specs.Rounds.{add, adding, target_entry, round_zero}
use Rattle.rounds.specs.AddLaws.{Absent}
use Rattle.rounds.proofs.AddLaws.{add-in, add-ascending}
use Rattle.rounds.proofs.Growing.{absent-longer}
use Rattle.rounds.proofs.Candidates.{parts}
use Rattle.rounds.proofs.InsertLaws.{get_d-in, in-get_d}
use Rattle.rounds.specs.RoundLaws.{round_table}
use Rattle.rounds.proofs.RoundLaws.{zero_is}
use Rattle.unions.specs.Expand.{expand, Within}
use Rattle.unions.specs.ExpandLaws.{expand-same}
use Rattle.unions.specs.ElementsOf.{ElementsOf, HeldTargets}
use Rattle.unions.specs.Pool.{Is, Head, Layout}
use Rattle.unions.specs.PoolLaws.{apart}
use Rattle.unions.specs.JoinLaws.{is-as}
use Rattle.unions.specs.Log.{noted}
use Rattle.noting.specs.Taking.{head-entry, entry-head}
use Rattle.noting.specs.RoundZero.{Bare, Started, Starts}
use Rattle.noting.specs.HeadNumbers.{same_head}

-- entries of different keys, none of them there, are all added
adding-length : (es table : List Entry) → Pairwise (λ (x y : Entry). key_of x ≡ key_of y → ⊥) es → Ascending table
    → ((e : Entry) → e ∈ es → Absent (key_of e) table) → length (adding es table) ≡ length table + length es
unfolding adding Pairwise
adding-length [] table d asc absent = omega arith
adding-length (e ∷ es) table d asc absent =
    let first = absent-longer e table (absent e (Memᴰ.head refl)) in
    let rest = adding-length es (add e table) d.1 (add-ascending e table asc)
    (λ f m y i k.
    ⊎_elim (λ j. absent f (Memᴰ.tail m) y j k) (λ q. d.0 f m (ap key_of (sym q.0) ∙ k)) (add-in e table asc i)) in
    omega (arith, first, rest)

module _ (g : PushdownGame) (good : Good g) where
  -- a key tells the transition
  same_target : (s t : Transition) → s ∈ g.targets → t ∈ g.targets → key_of (target_entry s) ≡ key_of (target_entry t) → s ≡ t
  same_target s t m n k =
      let hs = good.ranged.target s m in
      let ht = good.ranged.target t n in
      let q = parts g good [] (λ y i. absurd (Memᴰ.not-nil i)) {s = s.state} {s' = t.state} hs.letter ht.letter
      (record { filled = hs.filled; small = hs.small })
      (record { filled = ht.filled; small = ht.small })
      k in
      λ i. record { state = q.0 i; letter = q.1 i; set = q.2 i }

  different : (ts : List Transition) → ((t : Transition) → t ∈ ts → t ∈ g.targets) → Distinct ts
      → Pairwise (λ (x y : Entry). key_of x ≡ key_of y → ⊥) (map target_entry ts)
  unfolding Pairwise
  different [] sub d = tt
  different (t ∷ ts) sub d = (
    λ y m k.
        let u = map-in target_entry ts m in
        let i = in-get_d no_transition ts u.1 in
        let same = same_target t u.0 (sub t (Memᴰ.head refl)) (sub u.0 (Memᴰ.tail u.1)) (k ∙ ap key_of u.2) in
        d 0 (suc i.0) (omega arith) (omega (arith, i.1)) (same ∙ i.2),
    different ts (λ u m. sub u (Memᴰ.tail m)) (λ i j l h e. d (suc i) (suc j) (omega arith) (omega arith) e),
  )

  length-map : (ts : List Transition) → length (map target_entry ts) ≡ length ts
  length-map [] = refl
  length-map (t ∷ ts) = ap suc (length-map ts)

  -- as many entries as transitions
  pub zero-length : length (round_zero g) ≡ length g.targets
  unfolding round_zero Pairwise
  zero-length =
      let added = adding-length (map target_entry g.targets) [] (different g.targets (λ t m. m) good.ranged.distinct) tt (λ e m y i k. Memᴰ.not-nil i) in
      omega (arith, added, length-map g.targets)

  pub zero-there : (t : Transition) → t ∈ g.targets → target_entry t ∈ round_zero g
  unfolding round_table
  zero-there t m = (zero_is g good (target_entry t)).1 (t, m, refl)

  pub zero-from : (e : Entry) → e ∈ round_zero g → (t : Transition) × t ∈ g.targets × (e ≡ target_entry t)
  unfolding round_table
  zero-from e m = (zero_is g good e).0 m

-- the sets of a head among the transitions before place t
abbrev pub Sofar : PushdownGame → ℕ → ℕ → ℕ → ℕ → Type 0
Sofar g t q a z = (k : ℕ) × (k < t) × ((get_or g.targets k no_transition).state ≡ q) × ((get_or g.targets k no_transition).letter ≡ a) × ((get_or g.targets k no_transition).set ≡ z)

-- the transitions before place t are noted
pub record Begun (el : List ℕ) (g : PushdownGame) (n t : ℕ) (log all new news : List ℕ) : Type 0 where
  pub hold : (q a : ℕ) → q < g.states → a < g.letters → Is el n all ((q * g.letters + a) * n) (Sofar g t q a)
  pub more : (q a : ℕ) → q < g.states → a < g.letters → Is el n new ((q * g.letters + a) * n) (Sofar g t q a)
  pub small : (k : ℕ) → k < t → get_or log (k * 3 + 1) 0 < 2 ^ length el
  pub notes : (k : ℕ) → k < t → noted el log k ≡ target_entry (get_or g.targets k no_transition)
  pub marks : (k : ℕ) → k < t → has (get_or news (get_or g.targets k no_transition).state 0) (get_or g.targets k no_transition).letter ≡ true

-- a head is marked, and those marked before are
abbrev pub Marking : ℕ → ℕ → List ℕ → List ℕ → Type 0
Marking p a news news' = (q c : ℕ) → has (get_or news' q 0) c ≡ false → (has (get_or news q 0) c ≡ false) × (q ≡ p → c ≡ a → ⊥)

-- nothing is noted yet
pub begun-none : (el : List ℕ) (g : PushdownGame) (n : ℕ) (log all new news : List ℕ) → Layout el g n → Bare g n all → Bare g n new → Begun el g n 0 log all new news
begun-none el g n log all new news lay bare bare' =
    record {
      hold = λ q a lq la. none all ((q * g.letters + a) * n) q a (λ x l. bare q a x lq la l);
      more = λ q a lq la. none new ((q * g.letters + a) * n) q a (λ x l. bare' q a x lq la l);
      small = λ k l. absurd (omega arith);
      notes = λ k l. absurd (omega arith);
      marks = λ k l. absurd (omega arith);
    }
  where
    none : (words : List ℕ) (at q a : ℕ) → ((x : ℕ) → x / 64 < n → holds words at x ≡ false) → Is el n words at (Sofar g 0 q a)
    none words at q a b = record { from = λ x l h. clash h (b x l); into = λ x l k. absurd (omega (arith, k.1)) }

-- the entry of a transition's words
entry-of : (first : ℕ) (t : Transition) → first ≡ t.state + 256 * t.letter → t.state < 256 → t.letter < 256 → entry_of first t.set 0 ≡ target_entry t
unfolding first_word
entry-of first t e ls ll =
    let word : first ≡ first_word t.state t.letter 0 = omega arith in
    ap (λ (w : ℕ). entry_of w t.set 0) word ∙ word-entry t.state t.letter 0 t.set 0 ls ll

-- one transition more
module _ (el : List ℕ) (g : PushdownGame) (n : ℕ) (lay : Layout el g n) (t : ℕ) (lt : t < length g.targets) (head x : ℕ) (small : x < 2 ^ length el) (good : GoodTarget g.control g.states g.letters (get_or g.targets t no_transition)) (eh : head ≡ (get_or g.targets t no_transition).state * g.letters + (get_or g.targets t no_transition).letter) (ex : expand el x ≡ (get_or g.targets t no_transition).set) where
  abbrev transition : Transition
  transition = get_or g.targets t no_transition

  -- its set in the family of a head
  put_is : (old words : List ℕ) (q a : ℕ) → a < g.letters → Put old (head * n) x words → Is el n old ((q * g.letters + a) * n) (Sofar g t q a)
      → Is el n words ((q * g.letters + a) * n) (Sofar g (t + 1) q a)
  put_is old words q a la p is =
      record {
        from =
            λ y l h.
            ⊎_elim
            (λ k. let r = is.from y l k in let s = r.1 in (r.0, (s.0, omega (arith, s.1), s.2, s.3, s.4)))
            (λ k.
            let w = both (eqb (f * n + y / 64) (head * n + x / 64)) (eqb (y % 64) (x % 64)) k in
            let place = eqb-true (f * n + y / 64) (head * n + x / 64) w.0 in
            let here = at_once y l place in
            let h' = same_head q a transition.state transition.letter g.letters la good.letter (here ∙ eh) in
            let both-same : y ≡ x = whole y x (omega (arith, place, ap (λ (i : ℕ). i * n) here)) (eqb-true (y % 64) (x % 64) w.1) in
            (subst (λ (v : ℕ). v < 2 ^ length el) (sym both-same) small, (t, omega arith, sym h'.0, sym h'.1, sym ex ∙ ap (expand el) (sym both-same))))
            (either (holds old (f * n) y) (eqb (f * n + y / 64) (head * n + x / 64) && eqb (y % 64) (x % 64)) (sym (p (f * n) y) ∙ h));
        into =
            λ y l s.
            p (f * n) y
            ∙ ⊎_elim
            (λ (m : s.0 < t). left_or (eqb (f * n + y / 64) (head * n + x / 64) && eqb (y % 64) (x % 64)) (is.into y l (s.0, m, s.2, s.3, s.4)))
            (λ (m : s.0 ≡ t).
            let state : transition.state ≡ q = ap (λ (k : ℕ). (get_or g.targets k no_transition).state) (sym m) ∙ s.2 in
            let letter : transition.letter ≡ a = ap (λ (k : ℕ). (get_or g.targets k no_transition).letter) (sym m) ∙ s.3 in
            let same : x ≡ y = expand-same el g.states lay.elements x y small l (ex ∙ ap (λ (k : ℕ). (get_or g.targets k no_transition).set) (sym m) ∙ s.4) in
            let here : f ≡ head = ap (λ (v : ℕ). v * g.letters + a) (sym state) ∙ ap (λ (v : ℕ). transition.state * g.letters + v) (sym letter) ∙ sym eh in
            right_or (holds old (f * n) y)
            (conj (eq-eqb (f * n + y / 64) (head * n + x / 64) (rw (here, same))) (eq-eqb (y % 64) (x % 64) (rw same))))
            (below_suc (subst (λ (k : ℕ). s.0 < k) plus s.1));
      }
    where
      f : ℕ
      f = q * g.letters + a

      plus : t + 1 ≡ suc t
      plus = omega arith

      whole : (y x : ℕ) → y / 64 ≡ x / 64 → y % 64 ≡ x % 64 → y ≡ x
      whole y x d m = omega (arith, d, m)

      at_once : (y : ℕ) → y / 64 < n → f * n + y / 64 ≡ head * n + x / 64 → f ≡ head
      at_once y l e =
          ⊎_elim (λ (d : eqb f head ≡ true). eqb-true f head d)
          (λ (d : eqb f head ≡ false).
          absurd
          (⊎_elim (λ (b : f * n + y / 64 < head * n). omega (arith, b, e)) (λ (b : head * n + n ≤ f * n + y / 64). omega (arith, b, e, lay.room x small))
          (apart f head n y (eqb-false f head d) l)))
          (test (eqb f head))

  pub begun-on : (first : ℕ) (log log' all all' new new' news news' : List ℕ) → first ≡ transition.state + 256 * transition.letter → g.states ≤ 32 → g.letters ≤ 64 → t * 3 + 2 < length log
      → Put all (head * n) x all' → Put new (head * n) x new' → log' ≡ set (set (set log (t * 3) first) (t * 3 + 1) x) (t * 3 + 2) 0
      → Marking transition.state transition.letter news news' → Begun el g n t log all new news → Begun el g n (t + 1) log' all' new' news'
  begun-on first log log' all all' new new' news news' ef ls ll room pa pn e mark b =
      rw e
      (record {
        hold = λ q a lq la. put_is all all' q a la pa (b.hold q a lq la);
        more = λ q a lq la. put_is new new' q a la pn (b.more q a lq la);
        small =
            λ k l.
            ⊎_elim (λ (m : k < t). subst (λ (w : ℕ). w < 2 ^ length el) (sym (before (k * 3 + 1) (omega arith))) (b.small k m))
            (λ (m : k ≡ t). subst (λ (w : ℕ). w < 2 ^ length el) (sym (ap (λ (i : ℕ). get_or log₃ (i * 3 + 1) 0) m ∙ second)) small)
            (below_suc (subst (λ (i : ℕ). k < i) plus l));
        notes =
            λ k l.
            ⊎_elim (λ (m : k < t). earlier k m ∙ b.notes k m)
            (λ (m : k ≡ t). ap (noted el log₃) m ∙ last ∙ ap (λ (i : ℕ). target_entry (get_or g.targets i no_transition)) (sym m))
            (below_suc (subst (λ (i : ℕ). k < i) plus l));
        marks =
            λ k l.
            ⊎_elim (λ on. on)
            (λ (off : has (get_or news' (get_or g.targets k no_transition).state 0) (get_or g.targets k no_transition).letter ≡ false).
            let was = mark (get_or g.targets k no_transition).state (get_or g.targets k no_transition).letter off in
            ⊎_elim (λ (m : k < t). clash (b.marks k m) was.0)
            (λ (m : k ≡ t).
            absurd (was.1 (ap (λ (i : ℕ). (get_or g.targets i no_transition).state) m) (ap (λ (i : ℕ). (get_or g.targets i no_transition).letter) m)))
            (below_suc (subst (λ (i : ℕ). k < i) plus l)))
            (test (has (get_or news' (get_or g.targets k no_transition).state 0) (get_or g.targets k no_transition).letter));
      })
    where
      plus : t + 1 ≡ suc t
      plus = omega arith

      log₁ : List ℕ
      log₁ = set log (t * 3) first

      log₂ : List ℕ
      log₂ = set log₁ (t * 3 + 1) x

      log₃ : List ℕ
      log₃ = set log₂ (t * 3 + 2) 0

      before : (i : ℕ) → i < t * 3 → get_or log₃ i 0 ≡ get_or log i 0
      before i l =
          get_or-set_other log₂ (t * 3 + 2) i 0 0 (λ q. omega arith)
          ∙ get_or-set_other log₁ (t * 3 + 1) i x 0 (λ q. omega arith)
          ∙ get_or-set_other log (t * 3) i first 0 (λ q. omega arith)

      second : get_or log₃ (t * 3 + 1) 0 ≡ x
      second =
          get_or-set_other log₂ (t * 3 + 2) (t * 3 + 1) 0 0 (λ q. omega arith)
          ∙ get_or-set_same log₁ (t * 3 + 1) x 0 (omega (arith, room, length-set log (t * 3) first))

      zeroth : get_or log₃ (t * 3) 0 ≡ first
      zeroth =
          get_or-set_other log₂ (t * 3 + 2) (t * 3) 0 0 (λ q. omega arith)
          ∙ get_or-set_other log₁ (t * 3 + 1) (t * 3) x 0 (λ q. omega arith)
          ∙ get_or-set_same log (t * 3) first 0 (omega (arith, room))

      third : get_or log₃ (t * 3 + 2) 0 ≡ 0
      third = get_or-set_same log₂ (t * 3 + 2) 0 0 (omega (arith, room, length-set log (t * 3) first, length-set log₁ (t * 3 + 1) x))

      last : noted el log₃ t ≡ target_entry transition
      last = rw (zeroth, second, third, ex) (entry-of first transition ef (omega (arith, good.state, ls)) (omega (arith, good.letter, ll)))

      earlier : (k : ℕ) → k < t → noted el log₃ k ≡ noted el log k
      earlier k l = rw (before (k * 3) (omega arith), before (k * 3 + 1) (omega arith), before (k * 3 + 2) (omega arith))

-- all of them
pub begun_all : (el : List ℕ) (g : PushdownGame) (good : Good g) (n : ℕ) (log all new news : List ℕ) → ((t : Transition) → t ∈ g.targets → Within el t.set)
    → Begun el g n (length g.targets) log all new news → Started el g n log all new news (length g.targets)
begun_all el g good n log all new news within b =
    record {
      logged =
          record {
            counted = sym (zero-length g good);
            small = b.small;
            from = λ k l. Memᴰ.cast (b.notes k l) (zero-there g good (get_or g.targets k no_transition) (get_d-in no_transition g.targets k l));
            into =
                λ e m.
                let t = zero-from g good e m in
                let i = in-get_d no_transition g.targets t.1 in
                (i.0, i.1, t.2 ∙ ap target_entry i.2 ∙ sym (b.notes i.0 i.1));
          };
      hold = λ q a lq la. is-as (b.hold q a lq la) (there q a) (back q a);
      grew = λ q a lq la. let is = is-as (b.more q a lq la) (there q a) (back q a) in record { from = is.from; into = λ x l h. inr (is.into x l h) };
      within = λ e m. let t = zero-from g good e m in subst (λ (v : Entry). Within el v.set) (sym t.2) (within t.0 t.1);
      marked =
          λ q a z lq la off h.
          let s = back q a z h in
          clash
          (subst (λ (v : ℕ). has (get_or news v 0) a ≡ true) s.2
          (subst (λ (v : ℕ). has (get_or news (get_or g.targets s.0 no_transition).state 0) v ≡ true) s.3 (b.marks s.0 s.1)))
          off;
    }
  where
    there : (q a z : ℕ) → Sofar g (length g.targets) q a z → Head (round_zero g) q a z
    there q a z s =
        let t = get_or g.targets s.0 no_transition in
        let m = zero-there g good t (get_d-in no_transition g.targets s.0 s.1) in
        subst (λ (v : ℕ). Head (round_zero g) v a z) s.2
        (subst (λ (v : ℕ). Head (round_zero g) t.state v z) s.3 (subst (Head (round_zero g) t.state t.letter) s.4 (entry-head (round_zero g) (target_entry t) m)))

    back : (q a z : ℕ) → Head (round_zero g) q a z → Sofar g (length g.targets) q a z
    back q a z h =
        let e = head-entry (round_zero g) q a z h in
        let t = zero-from g good e.0 e.1 in
        let i = in-get_d no_transition g.targets t.1 in
        let same : e.0 ≡ target_entry (get_or g.targets i.0 no_transition) = t.2 ∙ ap target_entry i.2 in
        (i.0, i.1, sym (ap (λ (v : Entry). v.state) same) ∙ e.2, sym (ap (λ (v : Entry). v.letter) same) ∙ e.3, sym (ap (λ (v : Entry). v.set) same) ∙ e.4)

-- what is known of a game, its target transitions, its elements and the families
pub record Target (g : PushdownGame) (el : List ℕ) (targets numbers : List ℕ) (letters heads n targetcount : ℕ) (all new : List ℕ) : Type 0 where
  pub slack : List ℕ
  pub stored : targets ≡ target_words g.targets ++ slack
  pub good : Good g
  pub count : ℕ
  pub states : List ℕ
  pub elements : ElementsOf g el count states numbers
  pub layout : Layout el g n
  pub lettered : letters ≡ g.letters
  pub rows : heads ≡ g.states * g.letters
  pub counted : targetcount ≡ length g.targets
  pub bare : Bare g n all
  pub bare-new : Bare g n new

pub target : (g : PushdownGame) (el : List ℕ) (count : ℕ) (states : List ℕ) (sizes : Sizes) (rules targets numbers : List ℕ) (letters heads n targetcount : ℕ) (all new : List ℕ)
    → HeldTargets g sizes rules targets → Good g → ElementsOf g el count states numbers → Layout el g n → letters ≡ g.letters → heads ≡ g.states * g.letters
    → targetcount ≡ length g.targets → Bare g n all → Bare g n new → Target g el targets numbers letters heads n targetcount all new
target g el count states sizes rules targets numbers letters heads n targetcount all new held good elements lay el' eh ec bare bare' =
    record {
      slack = held.slack;
      stored = held.targeted;
      good = good;
      count = count;
      states = states;
      elements = elements;
      layout = lay;
      lettered = el';
      rows = eh;
      counted = ec;
      bare = bare;
      bare-new = bare';
    }

module _ (targets numbers : List ℕ) (letters heads n targetcount : ℕ) (all₀ new₀ log₀ news₀ : List ℕ) where
  -- the transitions before place t are noted, whatever game the words hold
  pub record Starting (log all new news : List ℕ) (t : ℕ) : Type 0 where
    pub below : t ≤ targetcount
    pub areas : length all ≡ length all₀
    pub newer : length new ≡ length new₀
    pub same : length log ≡ length log₀
    pub tidings : length news ≡ length news₀
    pub begun : (g : PushdownGame) (el : List ℕ) → Target g el targets numbers letters heads n targetcount all₀ new₀ → Begun el g n t log all new news

  pub starting-first : Starting log₀ all₀ new₀ news₀ 0
  starting-first =
      record {
        below = omega arith;
        areas = refl;
        newer = refl;
        same = refl;
        tidings = refl;
        begun = λ g el k. begun-none el g n log₀ all₀ new₀ news₀ k.layout k.bare k.bare-new;
      }

  module _ (t : ℕ) (lt : t < targetcount) (g : PushdownGame) (el : List ℕ) (k : Target g el targets numbers letters heads n targetcount all₀ new₀) where
    abbrev at : Transition
    at = get_or g.targets t no_transition

    inside : t < length g.targets
    inside = omega (arith, lt, k.counted)

    is : target_at targets (t * 3) ≡ at
    is = rw k.stored (target-stored t g.targets k.slack no_transition inside)

    good-at : GoodTarget g.control g.states g.letters at
    good-at = k.good.ranged.target at (get_d-in no_transition g.targets t inside)

    state-is : get_or targets (t * 3) 0 ≡ at.state
    state-is = ap (λ (x : Transition). x.state) is

    letter-is : get_or targets (t * 3 + 1) 0 ≡ at.letter
    letter-is = ap (λ (x : Transition). x.letter) is

    head_in : at.state * g.letters + at.letter < heads
    head_in = omega (arith, k.rows, digits_lt good-at.state good-at.letter)

    -- the head is one of the game's
    pub head-is : (head : ℕ)
        → (get_or targets (t * 3) 0 < 32 → get_or targets (t * 3 + 1) 0 < 64 → get_or targets (t * 3) 0 * letters + get_or targets (t * 3 + 1) 0 < heads
        → head ≡ get_or targets (t * 3) 0 * letters + get_or targets (t * 3 + 1) 0)
        → head ≡ at.state * g.letters + at.letter
    head-is head h =
        let same : get_or targets (t * 3) 0 * letters + get_or targets (t * 3 + 1) 0 ≡ at.state * g.letters + at.letter =
        ap (λ (v : ℕ). v * letters + get_or targets (t * 3 + 1) 0) state-is ∙ ap (λ (v : ℕ). at.state * v + get_or targets (t * 3 + 1) 0) k.lettered
        ∙ ap (λ (v : ℕ). at.state * g.letters + v) letter-is in
        h (omega (arith, state-is, good-at.state, k.good.ranged.states)) (omega (arith, letter-is, good-at.letter, k.good.ranged.letters)) (omega (arith, same, head_in)) ∙ same

    pub head-found : (head : ℕ)
        → (get_or targets (t * 3) 0 < 32 → get_or targets (t * 3 + 1) 0 < 64 → get_or targets (t * 3) 0 * letters + get_or targets (t * 3 + 1) 0 < heads
        → head ≡ get_or targets (t * 3) 0 * letters + get_or targets (t * 3 + 1) 0)
        → heads ≤ head → ⊥
    head-found head h l = omega (arith, head-is head h, head_in, l)

    -- the set is one of elements
    module _ (x : ℕ) (h : (g : PushdownGame) (el : List ℕ) (count : ℕ) (states : List ℕ) → ElementsOf g el count states numbers → Within el (get_or targets (t * 3 + 2) 0) → (x < 2 ^ length el) × (expand el x ≡ get_or targets (t * 3 + 2) 0)) where
      set_is : (x < 2 ^ length el) × (expand el x ≡ at.set)
      set_is =
          let same : get_or targets (t * 3 + 2) 0 ≡ at.set = ap (λ (y : Transition). y.set) is in
          let r = h g el k.count k.states k.elements (subst (Within el) (sym same) (k.elements.targets at (get_d-in no_transition g.targets t inside))) in
          (r.0, r.1 ∙ same)

      pub set_found : n ≤ x / 64 → ⊥
      set_found l = omega (arith, l, k.layout.room x set_is.0)

      pub starting-begun : (head : ℕ) → (get_or targets (t * 3) 0 < 32 → get_or targets (t * 3 + 1) 0 < 64 → get_or targets (t * 3) 0 * letters + get_or targets (t * 3 + 1) 0 < heads
          → head ≡ get_or targets (t * 3) 0 * letters + get_or targets (t * 3 + 1) 0)
          → (log log' all all' new new' news news' : List ℕ) → t * 3 + 2 < length log → Put all (head * n) x all' → Put new (head * n) x new'
          → log' ≡ set (set (set log (t * 3) (get_or targets (t * 3) 0 + 256 * get_or targets (t * 3 + 1) 0)) (t * 3 + 1) x) (t * 3 + 2) 0
          → Marking (get_or targets (t * 3) 0) (get_or targets (t * 3 + 1) 0) news news' → Begun el g n t log all new news → Begun el g n (t + 1) log' all' new' news'
      starting-begun head hh log log' all all' new new' news news' room pa pn e mark b =
          begun-on el g n k.layout t inside head x set_is.0 good-at (head-is head hh) set_is.1 (get_or targets (t * 3) 0 + 256 * get_or targets (t * 3 + 1) 0) log log' all all' new new' news news'
          (omega (arith, state-is, letter-is))
          k.good.ranged.states
          k.good.ranged.letters
          room pa pn e (λ q c off. let w = mark q c off in (w.0, λ eq ec. w.1 (eq ∙ sym state-is) (ec ∙ sym letter-is))) b

  pub starting-ends : (log all new news : List ℕ) (t : ℕ) → targetcount ≤ t → Starting log all new news t → (size : ℕ) → targetcount ≤ size → (g : PushdownGame) (el : List ℕ)
      → Target g el targets numbers letters heads n targetcount all₀ new₀ → Starts el g n size log all new news targetcount
  starting-ends log all new news t l s size fits g el k =
      let same : t ≡ length g.targets = omega (arith, l, s.below, k.counted) in
      inr (
        fits,
        subst (Started el g n log all new news) (sym k.counted)
            (begun_all el g k.good n log all new news k.elements.targets (subst (λ (i : ℕ). Begun el g n i log all new news) same (s.begun g el k))),
      )

  pub starting-beyond : (log all new news : List ℕ) (size : ℕ) → size < targetcount → (g : PushdownGame) (el : List ℕ)
      → Target g el targets numbers letters heads n targetcount all₀ new₀ → Starts el g n size log all new news (size + 1)
  starting-beyond log all new news size l g el k = inl (refl, omega (arith, l, k.counted, zero-length g k.good))
