-- Demands 2 and 3 and Abelard's side of the contest, of the whole part: from what one call of `solve` promises, and what the judge
-- promises of each call over the words that it left, and from nothing else.
use Rattle.std.specs.Prelude.{ℕ, suc, ◌<◌, ◌≤◌, ◌≡◌, refl, ◌↔◌, Bool, true, false, List, ◌∷◌, length, replicate}
use Rattle.std.proofs.Common.{arith, sym, ap, subst, ◌∙◌}
use Rattle.std.proofs.Math.Option.{some}
use Rattle.game.specs.Limits.{max_stack}
use Rattle.game.specs.Game.{PushdownGame}
use Rattle.game.specs.Outcome.{Outcome, done, refused}
use Rattle.game.specs.OutcomeLaws.{done-same}
use Rattle.game.specs.Questions.{reading}
use Rattle.game.specs.Win.{Position, in_form, is_abelard, Won, Lost as LostPosition}
use Rattle.table.specs.Table.{entries_of, is_rule_of}
use Rattle.judge.specs.Worth.{bound, advised}
use Rattle.judge.specs.Verdict.{Verdict, lost, target, eloise, abelard, judging}
use Rattle.judge.specs.Judged.{judged}
use Rattle.judge.specs.declared.verdict.Verdict.{Verdict as Judged}
use Rattle.judge.specs.declared.verdict.Verdict.TheVariants.{Lost, Target, Eloise, Abelard}
use Rattle.std.specs.Prelude.{None, Some, Result, Ok, Err}
use Rattle.game.specs.declared.refusal.Refusal.{Refusal}
use Rattle.rounds.specs.Solving.{Solved, solving_words}
use Rattle.solver.specs.Leaving.{Call, Report, leaving, solve_call, Answer, solved_with, called}
use Rattle.rounds.specs.Demand2.{is_lost, Judges}
use Rattle.rounds.proofs.Demand2.{demand-two}
use Rattle.rounds.specs.Demand3.{Plays, Reports}
use Rattle.rounds.proofs.Demand3.{demand-three}
use Rattle.rounds.specs.StaysLost.{KeepsLost, ReportsLost, Contests}
use Rattle.rounds.proofs.StaysLost.{stays-lost}

-- what a call that was not refused returned, with the words that it left in the table
abbrev pub solved_as : ℕ → ℕ → List ℕ → Solved
solved_as entries rounds table = record { entries = entries; rounds = rounds; words = table }

-- what a call of the judge returns
abbrev pub Answered : Type 0
Answered = Result Judged Refusal

-- the judge's answer is a refusal, and it is lost
unfoldable pub is_refusal : Answered → Bool
is_refusal (Ok (Lost rule)) = false
is_refusal (Ok Target) = false
is_refusal (Ok (Eloise rule b)) = false
is_refusal (Ok (Abelard b)) = false
is_refusal (Err refusal) = true

unfoldable pub says_lost : Answered → Bool
says_lost (Ok (Lost rule)) = true
says_lost (Ok Target) = false
says_lost (Ok (Eloise rule b)) = false
says_lost (Ok (Abelard b)) = false
says_lost (Err refusal) = false

-- What holds of a call of `solve` that returned entries and rounds, and of a judge over the words that it left: `judge` gives for
-- each position's bytes the answer of a call.
pub record Demands (file table work : List ℕ) (lent lent-work entries rounds : ℕ) (judge : List ℕ → Answered) : Type 0 where
  pub game : PushdownGame
  pub read : reading file ≡ done game
  -- the work area is zero, of the length that it was lent with
  pub cleared : work ≡ replicate lent-work 0
  -- the table is that of the rounds (demand 2), and play under advice over it is what document 01 says (demand 3)
  pub judges : Judges file lent (solved_as entries rounds table)
  pub plays : Plays file (solved_as entries rounds table)
  -- and a contest from a lost position is what document 02 says: no position of it is in the target
  pub contests : Contests file (solved_as entries rounds table)
  -- demand 2: up to 256 letters the judge refuses no position in form, and says lost exactly where it is not won
  pub verdicts :
      (pos : Position) → in_form game pos ≡ true → length pos.stack ≤ max_stack
      → (is_refusal (judge (pos.state ∷ pos.stack)) ≡ false) × ((says_lost (judge (pos.state ∷ pos.stack)) ≡ false) ↔ Won game pos)
  -- demand 3: up to 256 letters bound and advised rule of a position that has a bound are those that the judge returns
  pub targets :
      (p a : ℕ) (rest : List ℕ) → in_form game (record { state = p; stack = a ∷ rest }) ≡ true → suc (length rest) ≤ max_stack
      → bound game (entries_of table) p (a ∷ rest) ≡ some 0 → judge (p ∷ a ∷ rest) ≡ Ok Target
  pub abelards :
      (p a : ℕ) (rest : List ℕ) → in_form game (record { state = p; stack = a ∷ rest }) ≡ true → suc (length rest) ≤ max_stack
      → (b : ℕ) → bound game (entries_of table) p (a ∷ rest) ≡ some b → 0 < b → is_abelard game p ≡ true
      → judge (p ∷ a ∷ rest) ≡ Ok (Abelard b)
  pub eloises :
      (p a : ℕ) (rest : List ℕ) → in_form game (record { state = p; stack = a ∷ rest }) ≡ true → suc (length rest) ≤ max_stack
      → (b : ℕ) → bound game (entries_of table) p (a ∷ rest) ≡ some b → 0 < b → is_abelard game p ≡ false
      → (n : ℕ) × (advised game (entries_of table) p a rest ≡ some n) × (is_rule_of game p a n ≡ true)
      × (judge (p ∷ a ∷ rest) ≡ Ok (Eloise n b))
  -- up to 256 letters the rule of a lost position of Abelard's is that which the judge returns, its number plus 1; Éloise's is 0
  pub lost_abelards :
      (p a : ℕ) (rest : List ℕ) → in_form game (record { state = p; stack = a ∷ rest }) ≡ true → suc (length rest) ≤ max_stack
      → LostPosition game (record { state = p; stack = a ∷ rest }) → is_abelard game p ≡ true
      → (l : KeepsLost game (entries_of table) p a rest) × (judge (p ∷ a ∷ rest) ≡ Ok (Lost (Some l.rule.number)))
  pub lost_eloises :
      (p a : ℕ) (rest : List ℕ) → in_form game (record { state = p; stack = a ∷ rest }) ≡ true → suc (length rest) ≤ max_stack
      → LostPosition game (record { state = p; stack = a ∷ rest }) → is_abelard game p ≡ false → judge (p ∷ a ∷ rest) ≡ Ok (Lost None)

-- what each answer of the judge stands for says which it is
told-some : (x : Answered) (v : Verdict) → judged x ≡ done v → (is_refusal x ≡ false) × (says_lost x ≡ is_lost v)
unfolding is_refusal says_lost is_lost
told-some (Ok (Lost rule)) v e = (refl, ap is_lost (done-same e))
told-some (Ok Target) v e = (refl, ap is_lost (done-same e))
told-some (Ok (Eloise rule b)) v e = (refl, ap is_lost (done-same e))
told-some (Ok (Abelard b)) v e = (refl, ap is_lost (done-same e))
told-some (Err refusal) v e = absurd (let z : ◌≡◌ {A = ℕ} 0 1 = cc in omega arith)

is-lost-by : (x : Answered) (k : ℕ) → judged x ≡ done (lost (suc k)) → x ≡ Ok (Lost (Some k))
is-lost-by (Ok (Lost (Some rule))) k e = cc
is-lost-by (Ok (Lost None)) k e = absurd (let n : ◌≡◌ 0 (suc k) = cc in let z : ◌≡◌ {A = ℕ} 0 1 = cc in omega arith)
is-lost-by (Ok Target) k e = absurd (let z : ◌≡◌ {A = ℕ} 0 1 = cc in omega arith)
is-lost-by (Ok (Eloise rule b)) k e = absurd (let z : ◌≡◌ {A = ℕ} 0 1 = cc in omega arith)
is-lost-by (Ok (Abelard b)) k e = absurd (let z : ◌≡◌ {A = ℕ} 0 1 = cc in omega arith)
is-lost-by (Err refusal) k e = absurd (let z : ◌≡◌ {A = ℕ} 0 1 = cc in omega arith)

is-lost : (x : Answered) → judged x ≡ done (lost 0) → x ≡ Ok (Lost None)
is-lost (Ok (Lost (Some rule))) e = absurd (let n : ◌≡◌ (suc rule) 0 = cc in let z : ◌≡◌ {A = ℕ} 0 1 = cc in omega arith)
is-lost (Ok (Lost None)) e = refl
is-lost (Ok Target) e = absurd (let z : ◌≡◌ {A = ℕ} 0 1 = cc in omega arith)
is-lost (Ok (Eloise rule b)) e = absurd (let z : ◌≡◌ {A = ℕ} 0 1 = cc in omega arith)
is-lost (Ok (Abelard b)) e = absurd (let z : ◌≡◌ {A = ℕ} 0 1 = cc in omega arith)
is-lost (Err refusal) e = absurd (let z : ◌≡◌ {A = ℕ} 0 1 = cc in omega arith)

is-target : (x : Answered) → judged x ≡ done target → x ≡ Ok Target
is-target (Ok (Lost rule)) e = absurd (let z : ◌≡◌ {A = ℕ} 0 1 = cc in omega arith)
is-target (Ok Target) e = refl
is-target (Ok (Eloise rule b)) e = absurd (let z : ◌≡◌ {A = ℕ} 0 1 = cc in omega arith)
is-target (Ok (Abelard b)) e = absurd (let z : ◌≡◌ {A = ℕ} 0 1 = cc in omega arith)
is-target (Err refusal) e = absurd (let z : ◌≡◌ {A = ℕ} 0 1 = cc in omega arith)

is-abelard : (x : Answered) (b : ℕ) → judged x ≡ done (abelard b) → x ≡ Ok (Abelard b)
is-abelard (Ok (Lost rule)) b e = absurd (let z : ◌≡◌ {A = ℕ} 0 1 = cc in omega arith)
is-abelard (Ok Target) b e = absurd (let z : ◌≡◌ {A = ℕ} 0 1 = cc in omega arith)
is-abelard (Ok (Eloise rule c)) b e = absurd (let z : ◌≡◌ {A = ℕ} 0 1 = cc in omega arith)
is-abelard (Ok (Abelard c)) b e = cc
is-abelard (Err refusal) b e = absurd (let z : ◌≡◌ {A = ℕ} 0 1 = cc in omega arith)

is-eloise : (x : Answered) (n b : ℕ) → judged x ≡ done (eloise n b) → x ≡ Ok (Eloise n b)
is-eloise (Ok (Lost rule)) n b e = absurd (let z : ◌≡◌ {A = ℕ} 0 1 = cc in omega arith)
is-eloise (Ok Target) n b e = absurd (let z : ◌≡◌ {A = ℕ} 0 1 = cc in omega arith)
is-eloise (Ok (Eloise m c)) n b e = cc
is-eloise (Ok (Abelard c)) n b e = absurd (let z : ◌≡◌ {A = ℕ} 0 1 = cc in omega arith)
is-eloise (Err refusal) n b e = absurd (let z : ◌≡◌ {A = ℕ} 0 1 = cc in omega arith)

-- a call that returned entries and rounds was not refused, and its words are those of the definition
solved-words : (o : Outcome Solved) (t w entries rounds : ℕ) (table work : List ℕ) → called (solved_with entries rounds) table work ≡ leaving o t w
    → (o ≡ done (solved_as entries rounds table)) × (work ≡ replicate w 0)
unfolding leaving
solved-words (done s) t w entries rounds table work e =
    let same = done-same (ap (λ (c : Call). c.answer) e) in (
      λ i.
          done
          (record {
            entries = sym (ap (λ (r : Report). r.entries) same) i;
            rounds = sym (ap (λ (r : Report). r.rounds) same) i;
            words = sym (ap (λ (c : Call). c.table) e) i;
          }),
      ap (λ (c : Call). c.work) e,
    )
solved-words (refused q k) t w entries rounds table work e =
    let no = ap (λ (c : Call). c.answer) e in
    absurd (let z : ◌≡◌ {A = ℕ} 0 1 = cc in omega arith)

-- what demand 3 says of the judge's answers, of a game
abbrev Reporting : List ℕ → List ℕ → PushdownGame → Type 0
Reporting file table game =
    (p a : ℕ) (rest : List ℕ) → in_form game (record { state = p; stack = a ∷ rest }) ≡ true → suc (length rest) ≤ max_stack → (b : ℕ)
    → bound game (entries_of table) p (a ∷ rest) ≡ some b → Reports game (entries_of table) p a rest b (judging file table (p ∷ a ∷ rest))

-- the same of lost positions
abbrev ReportingLost : List ℕ → List ℕ → PushdownGame → Type 0
ReportingLost file table game =
    (p a : ℕ) (rest : List ℕ) → in_form game (record { state = p; stack = a ∷ rest }) ≡ true → suc (length rest) ≤ max_stack
    → LostPosition game (record { state = p; stack = a ∷ rest })
    → ReportsLost game (entries_of table) p a rest (judging file table (p ∷ a ∷ rest))

-- The hypotheses are what `solve` and `judge` promise, word for word: `answer`, `table` and `work` are what a call of `solve` over a
-- file with areas of t and w words returned and left, and `judge` is what calls of `judge` over that file and that table return.
pub demands : (file : List ℕ) (t w : ℕ) (answer : Answer) (table work : List ℕ) → called answer table work ≡ solve_call file t w
    → (judge : List ℕ → Answered) → ((position : List ℕ) → judged (judge position) ≡ judging file table position)
    → (entries rounds : ℕ) → answer ≡ solved_with entries rounds → Demands file table work t w entries rounds judge
unfolding solve_call
demands file t w answer table work promise judge judges entries rounds e =
    let s = solved-words (solving_words file t w) t w entries rounds table work (rw e at promise) in
    let two = demand-two file t w (solved_as entries rounds table) s.0 in
    let three = demand-three file t w (solved_as entries rounds table) s.0 in
    let reports : Reporting file table two.game = subst (Reporting file table) (done-same (sym three.read ∙ two.read)) three.reports in
    let contest = stays-lost file t w (solved_as entries rounds table) s.0 in
    let losts : ReportingLost file table two.game =
    subst (ReportingLost file table) (done-same (sym contest.read ∙ two.read)) contest.reports
    in
    record {
      game = two.game;
      read = two.read;
      cleared = s.1;
      judges = two;
      plays = three;
      contests = contest;
      verdicts =
          λ pos f short.
          let v = two.verdicts pos f short in
          let x = judge (pos.state ∷ pos.stack) in
          let k = told-some x v.0 (judges (pos.state ∷ pos.stack) ∙ v.1) in
          (k.0, (λ n. v.2.0 (sym k.1 ∙ n), λ won. k.1 ∙ v.2.1 won));
      targets =
          λ p a rest f short h.
          is-target (judge (p ∷ a ∷ rest)) (judges (p ∷ a ∷ rest) ∙ (reports p a rest f short 0 h).targets refl);
      abelards =
          λ p a rest f short b h l o.
          is-abelard (judge (p ∷ a ∷ rest)) b (judges (p ∷ a ∷ rest) ∙ (reports p a rest f short b h).abelards l o);
      eloises =
          λ p a rest f short b h l o.
          let r = (reports p a rest f short b h).eloises l o in
          (r.0, r.1, r.2, is-eloise (judge (p ∷ a ∷ rest)) r.0 b (judges (p ∷ a ∷ rest) ∙ r.3));
      lost_abelards =
          λ p a rest f short l o.
          let r = (losts p a rest f short l).abelards o in
          (r.0, is-lost-by (judge (p ∷ a ∷ rest)) r.0.rule.number (judges (p ∷ a ∷ rest) ∙ r.1));
      lost_eloises =
          λ p a rest f short l o.
          is-lost (judge (p ∷ a ∷ rest)) (judges (p ∷ a ∷ rest) ∙ (losts p a rest f short l).eloises o);
    }
