-- How many bytes the commands of a file that pass can have, FF aside: 01 once, 02 and 03 once for each state, 04 and 05 as many times as 7
-- allows, 3,652 in all. So no file of more than 3,653 bytes is read, and none of more than 3,658 is refused by 19: a longer one is refused
-- by its length, at an FF that is not last, or at a whole command.
use Rattle.std.specs.Prelude.{ℕ, zero, suc, ◌+◌, ◌*◌, ◌<◌, ◌≤◌, ◌≡◌, refl, Bool, true, false, cond, not, List, length, get_or, eqb, ltb}
use Rattle.std.proofs.Common.{inl, ⊎_elim, arith, length-append}
use borrow.Author.Tests.{ltb-true, le-ltb, leb-true, eq-eqb, eqb-true, not-true}
use Rattle.game.specs.Limits.{max_states, max_rules, max_targets}
use Rattle.game.specs.Sets.{has, single, union}
use Rattle.game.specs.SetLaws.{left-union, right-union, single-has}
use Rattle.game.specs.Game.{PushdownGame}
use Rattle.game.specs.Outcome.{Outcome, done, refused}
use Rattle.game.specs.Questions.{in_order, between, in_range, is_new, ask, add, reading}
use Rattle.game.specs.WalkLaws.{of-reading}
use Rattle.game.specs.ListLaws.{of_either, both, clash, below_suc}
use Rattle.game.specs.GoodGame.{SoFar}
use Rattle.game.specs.CommandLaws.{command_size, bytes_in, found-to}
use Rattle.game.specs.UnreadLaws.{tells}
use Rattle.game.specs.Reads.{Passed, asked, opened, so_far, limits}
use Rattle.game.specs.declared.command.Command.{Command}
use Rattle.game.specs.declared.rule.RuleBytes.{RuleBytes}
use Rattle.game.specs.declared.rule.TargetWords.{TargetWords}
use Rattle.game.specs.declared.command.Command.TheVariants.{Sizes, Abelard, Final, Rule, Target, End}

-- the most bytes that commands which pass can have, FF aside: 3,652
abbrev pub max_command_bytes : ℕ
max_command_bytes = 4 + 2 * max_states + 7 * max_rules + 7 * max_targets

-- How many numbers below n pass a test.
unfoldable count_below : ℕ → (ℕ → Bool) → ℕ
count_below zero f = 0
count_below (suc n) f = cond (f n) 1 0 + count_below n f

one-most : (b : Bool) → cond b 1 0 ≤ 1
one-most true = omega arith
one-most false = omega arith

count_most : (n : ℕ) (f : ℕ → Bool) → count_below n f ≤ n
unfolding count_below
count_most zero f = omega arith
count_most (suc n) f = omega (arith, one-most (f n), count_most n f)

one_grows : (a b : Bool) → (a ≡ true → b ≡ true) → cond a 1 0 ≤ cond b 1 0
one_grows true b h = rw (h refl) (omega arith)
one_grows false true h = omega arith
one_grows false false h = omega arith

count-grows : (n : ℕ) (f g : ℕ → Bool) → ((s : ℕ) → f s ≡ true → g s ≡ true) → count_below n f ≤ count_below n g
unfolding count_below
count-grows zero f g h = omega arith
count-grows (suc n) f g h = omega (arith, one_grows (f n) (g n) (h n), count-grows n f g h)

-- one number more passes
count-more : (n p : ℕ) (f g : ℕ → Bool) → p < n → f p ≡ false → g p ≡ true → ((s : ℕ) → f s ≡ true → g s ≡ true)
    → count_below n f + 1 ≤ count_below n g
unfolding count_below
count-more zero p f g l u v h = absurd (omega arith)
count-more (suc n) p f g l u v h =
    ⊎_elim
    (λ (i : p < n). omega (arith, one_grows (f n) (g n) (h n), count-more n p f g i u v h))
    (λ (e : p ≡ n). let a : f n ≡ false = rw (← e) u in let b : g n ≡ true = rw (← e) v in rw (a, b) (omega (arith, count-grows n f g h)))
    (below_suc l)

-- a state is stated by 02, if it is a control state, or else by 03
abbrev is_stated : PushdownGame → ℕ → Bool
is_stated g s = cond (ltb s g.control) (has g.abelard s) (has g.finals s)

abbrev stated_bytes : PushdownGame → ℕ
stated_bytes g = 4 + 2 * count_below max_states (is_stated g) + 7 * length g.rules + 7 * length g.targets

-- the walk stands at an offset with the game so far: before 01 at the file's first byte, and never beyond what was stated
record Stands (g : PushdownGame) (at : ℕ) : Type 0 where
  first : g.states ≡ 0 → at ≡ 0
  stated : at ≤ stated_bytes g

abelard-grows : (b : Bool) (set q s : ℕ) (x : Bool) → cond b (has set s) x ≡ true → cond b (has (union set (single q)) s) x ≡ true
abelard-grows true set q s x h = left-union set (single q) s h
abelard-grows false set q s x h = h

final-grows : (b : Bool) (set q s : ℕ) (x : Bool) → cond b x (has set s) ≡ true → cond b x (has (union set (single q)) s) ≡ true
final-grows true set q s x h = h
final-grows false set q s x h = left-union set (single q) s h

-- a command other than 01 passes 3 only after 01
later : (n : ℕ) → not (eqb n 0) ≡ true → n ≡ 0 → ⊥
later n h e = clash (eq-eqb n 0 e) (not-true _ h)

-- One command more, FF aside: what is stated grows by at least its bytes.
module _ (g : PushdownGame) (at : ℕ) (kept : SoFar g) (stands : Stands g at) where
  few : (g.control ≤ max_states) × (g.states ≤ max_states) × (length g.rules ≤ max_rules) × (length g.targets ≤ max_targets)
  few = limits g kept

  after-sizes : (p s l : ℕ) → Passed g (Sizes p s l) → Stands (add g (Sizes p s l)) (at + 4)
  unfolding in_order in_range add
  after-sizes p s l passed =
      let none = stands.first (eqb-true _ _ passed.order) in
      let some = (opened p s l passed.range).control in
      record { first = λ e. absurd (omega (arith, some, e)); stated = omega (arith, none) }

  after-abelard : (p : ℕ) → Passed g (Abelard p) → Stands (add g (Abelard p)) (at + 2)
  unfolding in_order in_range is_new add
  after-abelard p passed =
      let low = ltb-true p g.control passed.range in
      let more =
      count-more max_states p (is_stated g) (is_stated (add g (Abelard p))) (omega (arith, low, few.0))
      (rw passed.range (not-true _ passed.new))
      (rw passed.range (right-union g.abelard (single p) p (single-has p)))
      (λ s. abelard-grows (ltb s g.control) g.abelard p s (has g.finals s)) in
      record { first = λ e. absurd (later _ passed.order e); stated = omega (arith, more, stands.stated) }

  after-final : (q : ℕ) → Passed g (Final q) → Stands (add g (Final q)) (at + 2)
  unfolding in_order in_range between is_new add
  after-final q passed =
      let range = both _ _ passed.range in
      let high = ltb-true q g.states range.1 in
      let further = le-ltb q g.control (leb-true g.control q range.0) in
      let more =
      count-more max_states q (is_stated g) (is_stated (add g (Final q))) (omega (arith, high, few.1))
      (rw further (not-true _ passed.new))
      (rw further (right-union g.finals (single q) q (single-has q)))
      (λ s. final-grows (ltb s g.control) g.finals q s (has g.abelard s)) in
      record { first = λ e. absurd (later _ passed.order e); stated = omega (arith, more, stands.stated) }

  after-rule : (r : RuleBytes) → Passed g (Rule r) → Stands (add g (Rule r)) (at + 7)
  unfolding in_order add
  after-rule r passed =
      record { first = λ e. absurd (later _ passed.order e); stated = rw (length-append g.rules _) (omega (arith, stands.stated)) }

  after-target : (t : TargetWords) → Passed g (Target t) → Stands (add g (Target t)) (at + 7)
  unfolding in_order add
  after-target t passed =
      record { first = λ e. absurd (later _ passed.order e); stated = rw (length-append g.targets _) (omega (arith, stands.stated)) }

  after : (command : Command) → Passed g command → (command ≡ End → ⊥) → Stands (add g command) (at + bytes_in command)
  unfolding bytes_in
  after (Sizes p s l) passed h = after-sizes p s l passed
  after (Abelard p) passed h = after-abelard p passed
  after (Final q) passed h = after-final q passed
  after (Rule r) passed h = after-rule r passed
  after (Target t) passed h = after-target t passed
  after End passed h = absurd (h refl)

  within-limit : at ≤ max_command_bytes
  within-limit = omega (arith, stands.stated, few.2, few.3, count_most max_states (is_stated g))

-- what an outcome of the walk says of lengths: the file with its FF, and where a command is cut
record Bounded (file : List ℕ) (o : Outcome PushdownGame) : Type 0 where
  read : (g : PushdownGame) → o ≡ done g → length file ≤ max_command_bytes + 1
  cut : (at : ℕ) → o ≡ refused 19 at → at ≤ max_command_bytes

module _ (file : List ℕ) where
  by_place : (n p : ℕ) → p ≤ max_command_bytes → Bounded file (refused n p)
  by_place n p low =
      record {
        read = λ g e. absurd (let z : ◌≡◌ {A = ℕ} 0 1 = cc in omega arith);
        cut = λ at e. let same : p ≡ at = cc in rw (← same) low;
      }

  by_number : (n p : ℕ) → (n ≡ 19 → ⊥) → Bounded file (refused n p)
  by_number n p other =
      record { read = λ g e. absurd (let z : ◌≡◌ {A = ℕ} 0 1 = cc in omega arith); cut = λ at e. absurd (other cc) }

  by-game : (g : PushdownGame) → length file ≤ max_command_bytes + 1 → Bounded file (done g)
  by-game g low = record { read = λ x e. low; cut = λ at e. absurd (let z : ◌≡◌ {A = ℕ} 0 1 = cc in omega arith) }

  bounded : Bounded file (reading file)
  bounded =
      of-reading file (λ at g. SoFar g × Stands g at) (Bounded file)
      (record {
        by_byte = λ at g i inside found. by_place 2 at (within-limit g at i.0 i.1);
        by_end = λ at g i inside found. by_place 19 at (within-limit g at i.0 i.1);
        by-command = λ at next g command i found h. by_place (ask g command) at (within-limit g at i.0 i.1);
        goes_on = λ at next g command i found passed h.
            (so_far g i.0 command passed, rw (found-to file at command next found) (after g at i.0 i.1 command (asked g command passed) h));
        by-rest = λ at g i end h. by_place 8 at (within-limit g at i.0 i.1);
        by-head = λ at g i end last h. by_place 9 at (within-limit g at i.0 i.1);
        reads = λ at g i end last passed h. let low = within-limit g at i.0 i.1 in by-game g (omega (arith, low, last));
        runs-out = λ at g i beyond. by_number 8 (length file) (λ e. omega arith);
      })
      (by_number 1 0 (λ e. omega arith))
      (λ some few. (inl refl, record { first = λ e. refl; stated = omega arith }))

abbrev Short : ℕ → Type 0
Short n = n ≤ 7

size-most : (code : ℕ) → command_size code ≤ 7
unfolding command_size
size-most code =
    of_either Short (eqb code 1) 4 _ (omega arith)
    (of_either Short (eqb code 2) 2 _ (omega arith)
    (of_either Short (eqb code 3) 2 _ (omega arith)
    (of_either Short (eqb code 4) 7 _ (omega arith)
    (of_either Short (eqb code 5) 7 _ (omega arith) (of_either Short (eqb code 255) 1 0 (omega arith) (omega arith))))))

-- No file of more than 3,653 bytes is read,
pub read_length : (file : List ℕ) (g : PushdownGame) → reading file ≡ done g → length file ≤ max_command_bytes + 1
read_length file g e = (bounded file).read g e

-- and none of more than 3,658 is refused by 19.
pub cut-length : (file : List ℕ) (at : ℕ) → reading file ≡ refused 19 at → length file ≤ max_command_bytes + 6
cut-length file at e =
    let beyond = ((tells file).cut at e).beyond in
    omega (arith, beyond, size-most (get_or file at 0), (bounded file).cut at e)
