-- Worth as a relation: "an accepting run of worth at most n", and that `worth` is the least such n.
use Rattle.std.specs.Prelude.{ℕ, zero, suc, ◌+◌, ◌<◌, ◌≤◌, min, max, ◌≡◌, refl, ◌⊎◌, Bool, true, false, cond, List, [], ◌∷◌, leb}
use Rattle.std.proofs.Common.{zero-le, not-suc-le-zero, le_refl, le_trans, arith, sym, ◌∙◌, ap, subst, inl, inr, ⊎_elim, leb-true, leb-false}
use mathlib.Core.List.Memᴰ
use Rattle.std.proofs.Math.Option.{Option, none, some}
use Rattle.game.specs.Sets.{has}
use Rattle.table.specs.Table.{Entry}
use Rattle.judge.specs.Worth.{Automaton, least, largest, plus, worth_in, largest_below, entry_worth, entry_of_head, least_over, head_worth, step_worth, step, worths, worth}
use Rattle.game.specs.ListLaws.{test, ◌∈◌, below_suc}
use Rattle.judge.specs.Tabulate.{tabulate-at}
use Rattle.judge.specs.Within.{Within}

pub none-some : {m : ℕ} → none ≡ some m → ⊥
none-some e = let z : ◌≡◌ {A = ℕ} 0 1 = cc in omega arith

-- a worth is a number, and at most n
pub record AtMost (x : Option ℕ) (n : ℕ) : Type 0 where
  pub value : ℕ
  pub is : x ≡ some value
  pub most : value ≤ n

pub exact : {x : Option ℕ} {m : ℕ} → x ≡ some m → AtMost x m
exact {m} e = record { value = m; is = e; most = le_refl m }

pub raise : {x : Option ℕ} {m n : ℕ} → AtMost x m → m ≤ n → AtMost x n
raise h k = record { value = h.value; is = h.is; most = le_trans h.most k }

pub most-of : {x : Option ℕ} {m n : ℕ} → x ≡ some m → AtMost x n → m ≤ n
most-of {m} e h = let same : m ≡ h.value = cc h.is in omega (arith, h.most)

least-cases : (x y : Option ℕ) {n : ℕ} → AtMost (least x y) n → AtMost x n ⊎ AtMost y n
unfolding least
least-cases none y h = inr (record { value = h.value; is = h.is; most = h.most })
least-cases (some m) none h = inl (record { value = h.value; is = h.is; most = h.most })
least-cases (some m) (some k) {n} h =
    let same : min m k ≡ h.value = cc h.is in
    ⊎_elim (λ (t : leb m n ≡ true). inl (record { value = m; is = refl; most = leb-true m n t }))
    (λ (t : leb m n ≡ false). inr (record { value = k; is = refl; most = omega (arith, h.most, leb-false m n t) }))
    (test (leb m n))

least-left : (x y : Option ℕ) {n : ℕ} → AtMost x n → AtMost (least x y) n
unfolding least
least-left none y h = absurd (none-some h.is)
least-left (some m) none h = h
least-left (some m) (some k) {n} h =
    let same : m ≡ h.value = cc h.is in
    record { value = min m k; is = refl; most = omega (arith, h.most) }

least-right : (x y : Option ℕ) {n : ℕ} → AtMost y n → AtMost (least x y) n
unfolding least
least-right none y h = h
least-right (some m) none h = absurd (none-some h.is)
least-right (some m) (some k) {n} h =
    let same : k ≡ h.value = cc h.is in
    record { value = min m k; is = refl; most = omega (arith, h.most) }

largest-both : (x y : Option ℕ) {n : ℕ} → AtMost (largest x y) n → AtMost x n × AtMost y n
unfolding largest
largest-both none y h = absurd (none-some h.is)
largest-both (some m) none h = absurd (none-some h.is)
largest-both (some m) (some k) {n} h =
    let same : max m k ≡ h.value = cc h.is in (
      record { value = m; is = refl; most = omega (arith, h.most) },
      record { value = k; is = refl; most = omega (arith, h.most) },
    )

both-largest : (x y : Option ℕ) {n : ℕ} → AtMost x n → AtMost y n → AtMost (largest x y) n
unfolding largest
both-largest x y h k =
    record { value = max h.value k.value; is = rw (h.is, k.is); most = omega (arith, h.most, k.most) }

plus-split : (k : ℕ) (x : Option ℕ) {n : ℕ} → AtMost (plus k x) n → (j : ℕ) × AtMost x j × (k + j ≤ n)
unfolding plus
plus-split k none h = absurd (none-some h.is)
plus-split k (some m) h =
    let same : k + m ≡ h.value = cc h.is in
    (m, exact refl, omega (arith, h.most))

plus-join : (k : ℕ) (x : Option ℕ) {j n : ℕ} → AtMost x j → k + j ≤ n → AtMost (plus k x) n
unfolding plus
plus-join k x h e = record { value = k + h.value; is = rw h.is; most = omega (arith, h.most) }

-- the largest worth of a set's members is at most k exactly if each member's is
members-each : (ws : List (Option ℕ)) (set n : ℕ) {k : ℕ} → AtMost (largest_below ws set n) k
    → (s : ℕ) → s < n → has set s ≡ true → AtMost (worth_in ws s) k
unfolding largest_below
members-each ws set zero h s l t = absurd (not-suc-le-zero l)
members-each ws set (suc n) {k} h s l t =
    let parts = largest-both (largest_below ws set n) (cond (has set n) (worth_in ws n) (some 0)) h in
    ⊎_elim (λ (m : s < n). members-each ws set n parts.0 s m t)
    (λ (e : s ≡ n).
    let u : has set n ≡ true = ap (has set) (sym e) ∙ t in
    rw e (rw u at parts.1))
    (below_suc l)

each-members : (ws : List (Option ℕ)) (set n : ℕ) {k : ℕ}
    → ((s : ℕ) → s < n → has set s ≡ true → AtMost (worth_in ws s) k) → AtMost (largest_below ws set n) k
unfolding largest_below
each-members ws set zero {k} h = record { value = 0; is = refl; most = zero-le }
each-members ws set (suc n) {k} h =
    both-largest (largest_below ws set n) (cond (has set n) (worth_in ws n) (some 0))
    (each-members ws set n (λ s l t. h s (omega arith) t))
    (⊎_elim (λ (t : has set n ≡ true). rw t (h n (omega arith) t)) (λ (t : has set n ≡ false). rw t (record { value = 0; is = refl; most = zero-le }))
    (test (has set n)))

pub within-raise : (A : Automaton) (w : List ℕ) {m n : ℕ} (q : ℕ) → m ≤ n → Within A w m q → Within A w n q
unfolding Within
within-raise A [] q h r = r
within-raise A (a ∷ w) q h r =
    record
    { entry = r.entry; there = r.there; heads = r.heads; left = r.left; fits = le_trans r.fits h; rest = r.rest }

-- the least over a list is at most n exactly if some element's value is
pub least_over-some : (f : Entry → Option ℕ) (es : List Entry) {n : ℕ} → AtMost (least_over f es) n → (e : Entry) × e ∈ es × AtMost (f e) n
unfolding least_over
least_over-some f [] h = absurd (none-some h.is)
least_over-some f (e ∷ es) {n} h =
    ⊎_elim (λ x. (e, Memᴰ.head refl, x)) (λ y. let r = least_over-some f es y in (r.0, Memᴰ.tail r.1, r.2))
    (least-cases (f e) (least_over f es) h)

pub some-least_over : (f : Entry → Option ℕ) {e : Entry} {es : List Entry} {n : ℕ} → e ∈ es → AtMost (f e) n → AtMost (least_over f es) n
unfolding least_over
some-least_over f {n = n} (Memᴰ.head {x = x} {xs = xs} p) h =
    least-left (f x) (least_over f xs) (subst (λ (y : Entry). AtMost (f y) n) p h)
some-least_over f (Memᴰ.tail {x = x} {xs = xs} m) h = least-right (f x) (least_over f xs) (some-least_over f m h)

-- the least over a list is some element's value, and at most each
pub least_over-is : (f : Entry → Option ℕ) (es : List Entry) {m : ℕ} → least_over f es ≡ some m → (e : Entry) × e ∈ es × (f e ≡ some m)
least_over-is f es {m} p =
    let r = least_over-some f es (exact p) in
    let v = r.2 in
    let same : v.value ≡ m = omega (arith, v.most, most-of p (some-least_over f r.1 (exact v.is))) in
    (r.0, r.1, v.is ∙ ap some same)

-- a value that is there only where a test passes
pub tested : (b : Bool) (x : Option ℕ) {n : ℕ} → AtMost (cond b x none) n → (b ≡ true) × AtMost x n
tested true x h = (refl, h)
tested false x h = absurd (none-some h.is)

pub tested-is : (b : Bool) (x : Option ℕ) {m : ℕ} → cond b x none ≡ some m → (b ≡ true) × (x ≡ some m)
tested-is true x h = (refl, h)
tested-is false x h = absurd (none-some h)

pub worth-nil : (A : Automaton) (q : ℕ) → q < A.states → worth A [] q ≡ cond (has A.finals q) (some 0) none
unfolding worths
worth-nil A q h = tabulate-at (λ (s : ℕ). cond (has A.finals s) (some 0) none) A.states q none h

pub worth-cons : (A : Automaton) (a : ℕ) (w : List ℕ) (q : ℕ) → q < A.states
    → worth A (a ∷ w) q ≡ step_worth A (worths A w) q a
unfolding worths step
worth-cons A a w q h = tabulate-at (λ (s : ℕ). step_worth A (worths A w) s a) A.states q none h

-- what a transition's worth over the worths of a rest says
pub entry-within : (A : Automaton) (w : List ℕ) (e : Entry) {n : ℕ}
    → ((s : ℕ) → s < A.states → (m : ℕ) → AtMost (worth A w s) m → Within A w m s) → AtMost (entry_worth A (worths A w) e) n
    → (k : ℕ) × (A.weight e.birthdate + k ≤ n) × ((s : ℕ) → s < A.states → has e.set s ≡ true → Within A w k s)
unfolding entry_worth
entry-within A w e below h =
    let p = plus-split (A.weight e.birthdate) (largest_below (worths A w) e.set A.states) h in
    (p.0, p.2, λ s l t. below s l p.0 (members-each (worths A w) e.set A.states p.1 s l t))

-- what the worths of a rest say of a head over it
pub step-within : (A : Automaton) (a : ℕ) (w : List ℕ) (q : ℕ) {n : ℕ}
    → ((s : ℕ) → s < A.states → (m : ℕ) → AtMost (worth A w s) m → Within A w m s)
    → AtMost (step_worth A (worths A w) q a) n → Within A (a ∷ w) n q
unfolding Within step_worth head_worth
step-within A a w q below h =
    let r = least_over-some (head_worth A (worths A w) q a) A.entries h in
    let t = tested (entry_of_head q a r.0) (entry_worth A (worths A w) r.0) r.2 in
    let p = entry-within A w r.0 below t.1 in
    record { entry = r.0; there = r.1; heads = t.0; left = p.0; fits = p.1; rest = p.2 }

pub within_step : (A : Automaton) (a : ℕ) (w : List ℕ) (q : ℕ) {n : ℕ}
    → ((s : ℕ) → s < A.states → (m : ℕ) → Within A w m s → AtMost (worth A w s) m)
    → Within A (a ∷ w) n q → AtMost (step_worth A (worths A w) q a) n
unfolding Within step_worth head_worth entry_worth
within_step A a w q below r =
    some-least_over (head_worth A (worths A w) q a) r.there
    (rw r.heads (plus-join (A.weight r.entry.birthdate) (largest_below (worths A w) r.entry.set A.states)
    (each-members (worths A w) r.entry.set A.states (λ s l t. below s l r.left (r.rest s l t))) r.fits))

-- The worth of a state is at most n exactly if it has an accepting run of worth at most n.
pub worth-within : (A : Automaton) (w : List ℕ) (q n : ℕ) → q < A.states → AtMost (worth A w q) n → Within A w n q
unfolding Within
worth-within A [] q n l h =
    ⊎_elim (λ (t : has A.finals q ≡ true). t)
    (λ (t : has A.finals q ≡ false). let y : AtMost none n = rw (worth-nil A q l, t) at h in absurd (none-some y.is))
    (test (has A.finals q))
worth-within A (a ∷ w) q n l h =
    step-within A a w q (λ s m k x. worth-within A w s k m x) (rw (worth-cons A a w q l) at h)

pub within-worth : (A : Automaton) (w : List ℕ) (q n : ℕ) → q < A.states → Within A w n q → AtMost (worth A w q) n
unfolding Within
within-worth A [] q n l h = rw (worth-nil A q l, h) (record { value = 0; is = refl; most = zero-le })
within-worth A (a ∷ w) q n l h = rw (worth-cons A a w q l) (within_step A a w q (λ s m k x. within-worth A w s k m x) h)
