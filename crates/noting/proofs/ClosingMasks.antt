-- Heads are closed and emptied letter by letter and state by state, and for each letter the elements that were given something are marked.
use Prim.Native.Nat.{ℕ, ◌+◌, ◌*◌, ◌-◌, ◌/◌, ◌^◌, ◌<◌, ◌≤◌}
use native.Mathlib.Omega.{arith}
use native.Mathlib.Nat.{mul-le-mul_right, add-mul}
use mathlib.Core.Path.{◌≡◌, refl, sym, ap, subst, ◌∙◌}
use mathlib.Core.Logic.{inl, inr, ⊎_elim}
use mathlib.Core.Bool.{true, false, not}
use mathlib.Core.List.{List}
use lib.ListN.{length, get_or, set, length-set}
use lib.Seq.{get_or-set_same, get_or-set_other}
use lib.Bits.{bit_and, bit_xor}
use lib.Dec.{eqb, ltb}
use borrow.Author.Tests.{eqb-true, eqb-false, ltb-true, ltb-false}
use Rattle.game.specs.Sets.{has, union}
use Rattle.game.specs.SetLaws.{none_has}
use Rattle.game.specs.LowestLaws.{LowestOf, cleared}
use Rattle.game.specs.LowestLaws as lowest
use Rattle.game.specs.ListLaws.{test, clash, not-true, both}
use Rattle.game.specs.Game.{PushdownGame}
use Rattle.table.specs.Table.{Entry}
use Rattle.family.specs.Family.{Elsewhere, Joined, Copied, Cleared}
use Rattle.game.specs.DigitLaws.{has-less}
use Rattle.unions.specs.Expand.{AllWithin}
use Rattle.unions.specs.Pool.{Head, Layout, Kept, HeadsHold, HeadsGrew}
use Rattle.unions.specs.PoolLaws.{next_row, apart}
use Rattle.noting.specs.Signs.{NoNews, NoGains}
use Rattle.unions.specs.Finding.{Fresh}
use Rattle.noting.specs.Marks.{Dead}
use Rattle.noting.specs.Offers.{Adding}
use Rattle.noting.specs.Closing.{Ready}
use Rattle.noting.specs.ClosingRows.{Widened, Thinned, RowClosed, RowsClosed, RowsCleared}
use Rattle.noting.specs.HeadNumbers.{same_head}
use Rattle.noting.proofs.Signing.{join_more, join-in, join-few}
use Rattle.noting.proofs.ClosingHeads.{halfway-as, halfway-thinned, halfway-starts, halfway-on, ready, touched, dead}

pub widened_same : (fresh alive : List ℕ) → Widened fresh alive fresh alive
widened_same fresh alive = record { news = refl; lives = refl; more = λ c k h. h; grown = λ c k h. h; few = λ h. h }

pub widened-on : {fresh₀ alive₀ fresh alive : List ℕ} (a r : ℕ) → Widened fresh₀ alive₀ fresh alive → a < length fresh → a < length alive → a < 64 → r < 1024
    → Widened fresh₀ alive₀ (set fresh a (union (get_or fresh a 0) r)) (set alive a (union (get_or alive a 0) r))
widened-on {fresh₀} {alive₀} {fresh} {alive} a r w lf la l64 small =
    record {
      news = length-set fresh a (union (get_or fresh a 0) r) ∙ w.news;
      lives = length-set alive a (union (get_or alive a 0) r) ∙ w.lives;
      more = λ c k h. join_more fresh a r lf c k (w.more c k h);
      grown = λ c k h. join_more alive a r la c k (w.grown c k h);
      few = λ olds c l. join-few alive a r la small (w.few olds) l64 c l;
    }

pub widened-then : {fresh₀ alive₀ fresh alive fresh' alive' : List ℕ} → Widened fresh₀ alive₀ fresh alive → Widened fresh alive fresh' alive'
    → Widened fresh₀ alive₀ fresh' alive'
widened-then w v =
    record {
      news = v.news ∙ w.news;
      lives = v.lives ∙ w.lives;
      more = λ c k h. v.more c k (w.more c k h);
      grown = λ c k h. v.grown c k (w.grown c k h);
      few = λ olds. v.few (w.few olds);
    }

-- the letters that are left of a set when its lowest is passed
module _ (rest a : ℕ) (some : 0 < rest) (low : LowestOf 64 rest a) where
  gone : lowest.Cleared rest a (bit_and rest (rest - 1))
  gone = cleared a rest some low.member low.below

  pub rest_of : (k : ℕ) → has (bit_and rest (rest - 1)) k ≡ true → has rest k ≡ true
  rest_of k h = sym (gone.kept k (λ e. clash (ap (has (bit_and rest (rest - 1))) (sym e) ∙ h) gone.gone)) ∙ h

-- the families of a state's heads are emptied, but for those of a rest
pub record Thinning (base letters bits n : ℕ) (new₀ : List ℕ) (rest : ℕ) (new : List ℕ) : Type 0 where
  pub left : (k : ℕ) → has rest k ≡ true → has bits k ≡ true
  pub thinned : Thinned base letters bits n new₀ new

pub thinning-starts : (base letters bits n : ℕ) (new : List ℕ) → Thinning base letters bits n new bits new
thinning-starts base letters bits n new =
    record { left = λ k h. h; thinned = record { long = refl; fewer = λ place x h. h; kept = λ h x l ne. refl } }

pub thinning-on : {base letters bits n : ℕ} {new₀ : List ℕ} {rest : ℕ} {new : List ℕ} (a : ℕ) (new' : List ℕ) → Thinning base letters bits n new₀ rest new → 0 < rest → LowestOf 64 rest a
    → a < letters → Cleared new ((base + a) * n) n new' → length new' ≡ length new → Thinning base letters bits n new₀ (bit_and rest (rest - 1)) new'
thinning-on {base} {letters} {bits} {n} {new₀} {rest} {new} a new' w some low la clear long =
    record {
      left = λ k h. w.left k (rest_of rest a some low k h);
      thinned =
          record {
            long = long ∙ w.thinned.long;
            fewer =
                λ place x h.
                w.thinned.fewer place x
                (⊎_elim (λ (t : ltb (place + x / 64) ((base + a) * n) ≡ true). sym (clear.elsewhere place x (inl (ltb-true (place + x / 64) ((base + a) * n) t))) ∙ h)
                (λ (t : ltb (place + x / 64) ((base + a) * n) ≡ false).
                ⊎_elim
                (λ (u : ltb (place + x / 64) ((base + a) * n + n) ≡ true).
                clash h (clear.here place x (ltb-false (place + x / 64) ((base + a) * n) t) (ltb-true (place + x / 64) ((base + a) * n + n) u)))
                (λ (u : ltb (place + x / 64) ((base + a) * n + n) ≡ false). sym (clear.elsewhere place x (inr (ltb-false (place + x / 64) ((base + a) * n + n) u))) ∙ h)
                (test (ltb (place + x / 64) ((base + a) * n + n))))
                (test (ltb (place + x / 64) ((base + a) * n))));
            kept =
                λ h x l ne.
                clear.elsewhere (h * n) x (apart h (base + a) n x (λ e. ne a la (w.left a low.member) e) l) ∙ w.thinned.kept h x l ne;
          };
    }

-- the heads of one state are closed
pub row-starts : (base letters bits mark n : ℕ) (all new added fresh alive : List ℕ) → RowClosed base letters bits bits mark n all new added fresh alive all new added fresh alive
row-starts base letters bits mark n all new added fresh alive =
    record {
      areas = refl;
      news = refl;
      adds = refl;
      aside = λ place x out. refl;
      masks = widened_same fresh alive;
      closes =
          λ el g es after numbers opens p lay kept lc eg eb lp lo em eo h.
          halfway-as el g n lay es after numbers opens (set opens p bits) all new added fresh alive
          (λ q a lq la.
          ap (λ (w : ℕ). has w a)
          (⊎_elim
          (λ (t : eqb q p ≡ true).
          let e = eqb-true q p t in
          ap (λ (s : ℕ). get_or opens s 0) e ∙ eo ∙ sym (get_or-set_same opens p bits 0 lo) ∙ ap (λ (s : ℕ). get_or (set opens p bits) s 0) (sym e))
          (λ (t : eqb q p ≡ false). sym (get_or-set_other opens p q bits 0 (eqb-false q p t)))
          (test (eqb q p))))
          h;
    }

-- what lies beside a row is left alone
beside : (base letters a n : ℕ) (words₀ words words' : List ℕ) → a < letters → Elsewhere (base * n) (letters * n) words₀ words → Elsewhere ((base + a) * n) n words words'
    → Elsewhere (base * n) (letters * n) words₀ words'
beside base letters a n words₀ words words' l old one place x out =
    let from = add-mul base a n in
    let to = add-mul base letters n in
    let row = next_row (base + a) (base + letters) n (omega arith) in
    one place x (⊎_elim (λ k. inl (omega (arith, k, from))) (λ k. inr (omega (arith, k, row, to))) out) ∙ old place x out

module _ {base letters bits rest mark n : ℕ} {all₀ new₀ added₀ fresh₀ alive₀ all new added fresh alive : List ℕ}
    (m : RowClosed base letters bits rest mark n all₀ new₀ added₀ fresh₀ alive₀ all new added fresh alive) (a : ℕ) (some : 0 < rest) (low : LowestOf 64 rest a) where
  pub row_on : (all' new' added' : List ℕ) → a < letters → a < length fresh → a < length alive → mark < 1024 → Joined all ((base + a) * n) n added ((base + a) * n) all'
      → Copied new ((base + a) * n) n added ((base + a) * n) new' → Cleared added ((base + a) * n) n added' → length all' ≡ length all → length new' ≡ length new
      → length added' ≡ length added
      → RowClosed base letters bits (bit_and rest (rest - 1)) mark n all₀ new₀ added₀ fresh₀ alive₀ all' new' added' (set fresh a (union (get_or fresh a 0) mark)) (set alive a (union (get_or alive a 0) mark))
  row_on all' new' added' l lf la small joined copied emptied ea en ed =
      record {
        areas = ea ∙ m.areas;
        news = en ∙ m.news;
        adds = ed ∙ m.adds;
        aside = beside base letters a n all₀ all all' l m.aside joined.elsewhere;
        masks = widened-on a mark m.masks lf la low.small small;
        closes =
            λ el g es after numbers opens p lay kept lc eg eb lp lo em eo h.
            halfway-on el g n lay es after numbers opens p rest a lp lo (omega (arith, l, eg)) some low all new added fresh alive all' new' added'
            (set fresh a (union (get_or fresh a 0) mark)) (set alive a (union (get_or alive a 0) mark)) ((base + a) * n) (ap (λ (w : ℕ). (w + a) * n) eb) lc joined copied emptied
            (join_more fresh a mark lf) (join_more alive a mark la) (λ k i. join-in fresh a mark lf k (ap (λ (w : ℕ). has w k) em ∙ i))
            (λ k i. join-in alive a mark la k (ap (λ (w : ℕ). has w k) em ∙ i)) (m.closes el g es after numbers opens p lay kept lc eg eb lp lo em eo h);
      }

  -- no letter is left
  pub row-stops : letters ≤ a → RowClosed base letters bits 0 mark n all₀ new₀ added₀ fresh₀ alive₀ all new added fresh alive
  row-stops l =
      record {
        areas = m.areas;
        news = m.news;
        adds = m.adds;
        aside = m.aside;
        masks = m.masks;
        closes =
            λ el g es after numbers opens p lay kept lc eg eb lp lo em eo h.
            halfway-as el g n lay es after numbers (set opens p rest) (set opens p 0) all new added fresh alive
            (λ q c lq lcs.
            ⊎_elim
            (λ (t : eqb q p ≡ true).
            let e = eqb-true q p t in
            ap (λ (s : ℕ). has (get_or (set opens p rest) s 0) c) e
            ∙ ap (λ (w : ℕ). has w c) (get_or-set_same opens p rest 0 lo)
            ∙ low.below c (omega (arith, lcs, eg, l))
            ∙ sym (none_has c)
            ∙ ap (λ (w : ℕ). has w c) (sym (get_or-set_same opens p 0 0 lo))
            ∙ ap (λ (s : ℕ). has (get_or (set opens p 0) s 0) c) (sym e))
            (λ (t : eqb q p ≡ false).
            let d = eqb-false q p t in
            ap (λ (w : ℕ). has w c) (get_or-set_other opens p q rest 0 d ∙ sym (get_or-set_other opens p q 0 0 d)))
            (test (eqb q p)))
            (m.closes el g es after numbers opens p lay kept lc eg eb lp lo em eo h);
      }

pub row_ends : {base letters bits rest mark n : ℕ} {all₀ new₀ added₀ fresh₀ alive₀ all new added fresh alive : List ℕ} → rest ≡ 0
    → RowClosed base letters bits rest mark n all₀ new₀ added₀ fresh₀ alive₀ all new added fresh alive
    → RowClosed base letters bits 0 mark n all₀ new₀ added₀ fresh₀ alive₀ all new added fresh alive
row_ends {base} {letters} {bits} {rest} {mark} {n} {all₀} {new₀} {added₀} {fresh₀} {alive₀} {all} {new} {added} {fresh} {alive} e m =
    subst (λ (r : ℕ). RowClosed base letters bits r mark n all₀ new₀ added₀ fresh₀ alive₀ all new added fresh alive) e m

-- state by state
pub rows_start : (control letters : ℕ) (numbers : List ℕ) (n : ℕ) (all new added fresh alive news gains : List ℕ)
    → RowsClosed control letters 0 numbers n all new added fresh alive news gains all new added fresh alive news gains
rows_start control letters numbers n all new added fresh alive news gains =
    record {
      below = omega arith;
      areas = refl;
      newer = refl;
      adds = refl;
      tidings = refl;
      gainers = refl;
      aside = λ place x out. refl;
      masks = widened_same fresh alive;
      passed = λ q l. absurd (omega arith);
      coming = λ q l. refl;
      closes = λ el g es after lay kept lc ec eg quiet h. h;
    }

-- where a row ends
pub row_within : (p control letters n : ℕ) → p < control → (p * letters + letters) * n ≤ control * letters * n
row_within p control letters n l = mul-le-mul_right n (next_row p control letters l)

module _ {control letters p : ℕ} {numbers : List ℕ} {n : ℕ} {all₀ new₀ added₀ fresh₀ alive₀ news₀ gains₀ all new added fresh alive news gains : List ℕ}
    (m : RowsClosed control letters p numbers n all₀ new₀ added₀ fresh₀ alive₀ news₀ gains₀ all new added fresh alive news gains) (l : p < control)
    (ln : p < length news) (lg : p < length gains) where
  -- heads that had news before and got nothing
  abbrev quiet-bits : ℕ
  quiet-bits = bit_xor (get_or news p 0) (bit_and (get_or news p 0) (get_or gains p 0))

  no-gain : (a : ℕ) → has quiet-bits a ≡ true → has (get_or gains p 0) a ≡ false
  no-gain a h = not-true (has (get_or gains p 0) a) (both (has (get_or news p 0) a) (not (has (get_or gains p 0) a)) (sym (has-less (get_or news p 0) (get_or gains p 0) a) ∙ h)).1

  pub rows_on : (new₁ all' new' added' fresh' alive' : List ℕ) → Thinned (p * letters) letters quiet-bits n new new₁
      → RowClosed (p * letters) letters (get_or gains p 0) 0 (get_or numbers p 0) n all new₁ added fresh alive all' new' added' fresh' alive'
      → RowsClosed control letters (p + 1) numbers n all₀ new₀ added₀ fresh₀ alive₀ news₀ gains₀ all' new' added' fresh' alive' (set news p (get_or gains p 0)) (set gains p 0)
  rows_on new₁ all' new' added' fresh' alive' thin row =
      record {
        below = omega (arith, l);
        areas = row.areas ∙ m.areas;
        newer = row.news ∙ thin.long ∙ m.newer;
        adds = row.adds ∙ m.adds;
        tidings = length-set news p (get_or gains p 0) ∙ m.tidings;
        gainers = length-set gains p 0 ∙ m.gainers;
        aside =
            λ place x out.
            row.aside place x
            (⊎_elim (λ k. absurd (omega (arith, k))) (λ k. inr (omega (arith, k, row_within p control letters n l, add-mul (p * letters) letters n))) out)
            ∙ m.aside place x out;
        masks = widened-then m.masks row.masks;
        passed =
            λ q h.
            ⊎_elim
            (λ (t : eqb q p ≡ true).
            let e = eqb-true q p t in (
              ap (λ (s : ℕ). get_or (set news p (get_or gains p 0)) s 0) e
                  ∙ get_or-set_same news p (get_or gains p 0) 0 ln
                  ∙ m.coming p (omega arith)
                  ∙ ap (λ (s : ℕ). get_or gains₀ s 0) (sym e),
              ap (λ (s : ℕ). get_or (set gains p 0) s 0) e ∙ get_or-set_same gains p 0 0 lg,
            ))
            (λ (t : eqb q p ≡ false).
            let d = eqb-false q p t in
            let w = m.passed q (omega (arith, h, d)) in (get_or-set_other news p q (get_or gains p 0) 0 d ∙ w.0, get_or-set_other gains p q 0 0 d ∙ w.1))
            (test (eqb q p));
        coming = λ q h. get_or-set_other gains p q 0 0 (λ e. omega (arith, e, h)) ∙ m.coming q (omega (arith, h));
        closes =
            λ el g es after lay kept lc ec eg quiet h.
            let lp : p < g.control = omega (arith, l, ec) in
            let same : (q a c : ℕ) → a < g.letters → c < letters → q * g.letters + a ≡ p * letters + c → (q ≡ p) × (a ≡ c) = λ q a c la lcs e. same_head q a p c g.letters la (omega (arith, lcs, eg)) (e ∙ ap (λ (w : ℕ). p * w + c) eg) in
            row.closes el g es after numbers gains p lay kept lc eg (ap (λ (w : ℕ). p * w) eg) lp lg refl refl
            (halfway-thinned el g n lay es after numbers gains all new new₁ added fresh alive thin.fewer
            (λ q a lq la.
            ⊎_elim
            (λ (t : eqb q p ≡ true).
            let e = eqb-true q p t in
            ⊎_elim
            (λ (u : has quiet-bits a ≡ true).
            inl
            (λ z i.
            subst (λ (s : ℕ). Head es s a z) (sym e)
            (quiet p a z lp la (ap (λ (w : ℕ). has w a) (sym (m.coming p (omega arith))) ∙ no-gain a u) (subst (λ (s : ℕ). Head after s a z) e i))))
            (λ (u : has quiet-bits a ≡ false).
            inr (λ x b. thin.kept (q * g.letters + a) x b (λ c lcs on w. clash on (ap (has quiet-bits) (sym (same q a c la lcs w).1) ∙ u))))
            (test (has quiet-bits a)))
            (λ (t : eqb q p ≡ false).
            inr (λ x b. thin.kept (q * g.letters + a) x b (λ c lcs on w. eqb-false q p t (same q a c la lcs w).0)))
            (test (eqb q p)))
            (m.closes el g es after lay kept lc ec eg quiet h));
      }

pub rows_end : {control letters p : ℕ} {numbers : List ℕ} {n : ℕ} {all₀ new₀ added₀ fresh₀ alive₀ news₀ gains₀ all new added fresh alive news gains : List ℕ} → control ≤ p
    → RowsClosed control letters p numbers n all₀ new₀ added₀ fresh₀ alive₀ news₀ gains₀ all new added fresh alive news gains
    → RowsClosed control letters control numbers n all₀ new₀ added₀ fresh₀ alive₀ news₀ gains₀ all new added fresh alive news gains
rows_end {control} {letters} {p} {numbers} {n} {all₀} {new₀} {added₀} {fresh₀} {alive₀} {news₀} {gains₀} {all} {new} {added} {fresh} {alive} {news} {gains} l m =
    let e : p ≡ control = omega (arith, l, m.below) in
    subst (λ (b : ℕ). RowsClosed control letters b numbers n all₀ new₀ added₀ fresh₀ alive₀ news₀ gains₀ all new added fresh alive news gains) e m

-- the heads of further states, before state q
pub record Clearing (control letters n : ℕ) (new₀ news₀ : List ℕ) (q : ℕ) (new news : List ℕ) : Type 0 where
  pub beyond : control ≤ q
  pub cleared : RowsCleared control letters n new₀ news₀ new news

pub clearing-starts : (control letters n : ℕ) (new news : List ℕ) → Clearing control letters n new news control new news
clearing-starts control letters n new news =
    record {
      beyond = omega arith;
      cleared = record { long = refl; tidings = refl; fewer = λ place x h. h; kept = λ h x l lh. refl; signs = λ q l. refl };
    }

pub clearing-on : {control letters n : ℕ} {new₀ news₀ : List ℕ} {q : ℕ} {new news : List ℕ} (bits : ℕ) (new' : List ℕ) → Clearing control letters n new₀ news₀ q new news
    → Thinned (q * letters) letters bits n new new' → Clearing control letters n new₀ news₀ (q + 1) new' (set news q 0)
clearing-on {control} {letters} {n} {new₀} {news₀} {q} {new} {news} bits new' m thin =
    record {
      beyond = omega (arith, m.beyond);
      cleared =
          record {
            long = thin.long ∙ m.cleared.long;
            tidings = length-set news q 0 ∙ m.cleared.tidings;
            fewer = λ place x h. m.cleared.fewer place x (thin.fewer place x h);
            kept =
                λ h x l lh.
                thin.kept h x l (λ a la on e. omega (arith, e, lh, mul-le-mul_right letters m.beyond)) ∙ m.cleared.kept h x l lh;
            signs = λ s l. get_or-set_other news q s 0 0 (λ e. omega (arith, e, l, m.beyond)) ∙ m.cleared.signs s l;
          };
    }

-- the heads of the control states are the first of all
pub beyond-more : (rows heads n : ℕ) (all all' : List ℕ) → rows ≤ heads → Elsewhere 0 (rows * n) all all' → Elsewhere 0 (heads * n) all all'
beyond-more rows heads n all all' l e place x out =
    e place x (⊎_elim (λ k. absurd (omega (arith, k))) (λ k. inr (omega (arith, k, mul-le-mul_right n l))) out)

-- every head is closed: what each has, and the elements with new transitions, and with any
module _ {control letters : ℕ} {numbers : List ℕ} {n : ℕ} {all₀ new₀ added₀ fresh₀ alive₀ news₀ gains₀ all new added fresh alive news gains new' news' : List ℕ}
    (m : RowsClosed control letters control numbers n all₀ new₀ added₀ fresh₀ alive₀ news₀ gains₀ all new added fresh alive news gains)
    (r : RowsCleared control letters n new news new' news') (heads states : ℕ) (lcs : control ≤ states) where
  pub all_closed : (el : List ℕ) (g : PushdownGame) (old es after : List Entry) → Layout el g n → heads ≡ g.states * g.letters → control ≡ g.control → states ≡ g.states → letters ≡ g.letters
      → Kept es after → ((q a z : ℕ) → g.control ≤ q → Head after q a z → Head es q a z) → HeadsHold el g n es all₀ → HeadsGrew el g n old es new₀ → Adding el g n es after added₀
      → NoGains g es after gains₀ → AllWithin el after → ((k : ℕ) → k < length el → get_or numbers (get_or el k 0) 0 ≡ 2 ^ k) → Dead el g es alive₀
      → Ready el g n es after all new' added × Fresh el g es after fresh × Dead el g after alive × NoNews g es after news'
  all_closed el g old es after lay eh ec et eg kept further hold grew adding quiet within numbered was =
      let lc : g.control ≤ g.states = omega (arith, lcs, ec, et) in
      let start = halfway-starts el g n lay es after numbers old all₀ new₀ added₀ fresh₀ alive₀ gains₀ kept hold grew lc adding quiet in
      let low : (p a : ℕ) → p < g.control → a < g.letters → p * g.letters + a < control * letters = λ p a lp la.
      subst (λ (w : ℕ). p * g.letters + a < w) (ap (λ (w : ℕ). w * g.letters) (sym ec) ∙ ap (λ (w : ℕ). control * w) (sym eg))
      (omega (arith, la, next_row p g.control g.letters lp)) in
      let half = halfway-thinned el g n lay es after numbers gains all new new' added fresh alive r.fewer
      (λ p a lp la. inr (λ x b. r.kept (p * g.letters + a) x b (low p a lp la))) (m.closes el g es after lay kept lc ec eg quiet start) in
      let shut : (p : ℕ) → p < g.control → get_or gains p 0 ≡ 0 = λ p lp. (m.passed p (omega (arith, lp, ec))).1 in (
        ready el g n lay es after numbers lc further gains all new' added fresh alive shut half,
        touched el g n lay es after numbers lc further gains all new' added fresh alive shut half numbered,
        dead el g n lay es after numbers lc further gains all new' added fresh alive shut half numbered alive₀ m.masks.grown was,
        λ q a z lq la off i.
            ⊎_elim
            (λ (t : ltb q g.control ≡ true).
            let lp = ltb-true q g.control t in
            let lp' : q < control = omega (arith, lp, ec) in
            quiet q a z lp la (ap (λ (w : ℕ). has w a) (sym (r.signs q lp' ∙ (m.passed q lp').0)) ∙ off) i)
            (λ (t : ltb q g.control ≡ false). further q a z (ltb-false q g.control t) i)
            (test (ltb q g.control)),
      )
