-- Laws of the move: a played one is the rule's move on the position and keeps its form, a refused one changes nothing, and by which
-- numbers it is refused.
use Rattle.std.specs.Prelude.{ℕ, ◌-◌, ◌≤◌, true, false, ◌&&◌, drop, replicate}
use Rattle.std.proofs.Math.Path.{◌≡◌, refl}
use Rattle.std.proofs.Common.{sym, ap, subst, ◌∙◌, arith, length-append, drop_at, leb-true}
use Rattle.std.proofs.Math.Logic.{⊎_elim}
use mathlib.Core.List.{List, [], ◌∷◌}
use Rattle.std.proofs.Math.ListN.{length}
use Rattle.std.proofs.lemmas.List.{length-replicate}
use Rattle.std.proofs.Math.Dec.{leb}
use Rattle.game.specs.Limits.{max_stack}
use Rattle.game.specs.Game.{Rule, PushdownGame, rules_of}
use Rattle.game.specs.Outcome.{Outcome, done, refused}
use Rattle.game.specs.Numbers.{file_numbers, turn_numbers, move_numbers}
use Rattle.game.specs.OutcomeLaws.{RefusedBy, by-none, by_number, by_front, by-back}
use Rattle.game.specs.Questions.{any, reading}
use Rattle.game.specs.NumberLaws.{number_is}
use Rattle.game.specs.RefusalLaws.{file-numbers}
use Rattle.game.specs.Stored.{padded}
use Rattle.game.specs.ListLaws.{test, of_either, both, ◌∈◌}
use Rattle.game.specs.GoodGame.{Good}
use Rattle.game.specs.Reads.{good}
use Rattle.game.specs.Win.{Position, in_form, successor}
use Rattle.session.specs.declared.playing.Session.{Session}
use Rattle.session.specs.Session.{bottom_first, position, session_of, session_in_form, numbered, fitting, replaced, turn, moving, moving_in, moved, move}
use Rattle.session.specs.SessionLaws.{length-bottom_first, position-of}
use Rattle.session.specs.NumberedLaws.{numbered-in}
use Rattle.game.specs.FormKept.{form-kept}

-- What a played move is, between the sessions before and after it: the rule of that number of the head replaces the top letter of
-- the position, the form is kept, and the cells from the height up are 0.
pub record IsMove (g : PushdownGame) (s : Session) (n : ℕ) (t : Session) : Type 0 where
  pub formed : in_form g (position s) ≡ true
  pub top : ℕ
  pub rest : List ℕ
  pub stands : (position s).stack ≡ top ∷ rest
  pub rule : Rule
  pub heads : rule ∈ rules_of g s.state top
  pub number : rule.number ≡ n
  pub leads : position t ≡ successor rule rest
  pub keeps : in_form g (position t) ≡ true
  pub short : t.height ≤ max_stack
  pub cells : length t.stack ≡ max_stack
  pub zeros : drop t.height t.stack ≡ replicate (max_stack - t.height) 0

-- of 17
fits : (pos to : Position) → fitting pos ≡ done to → (to ≡ pos) × (length pos.stack ≤ max_stack)
unfolding fitting
fits pos to e =
    ⊎_elim
    (λ (t : leb (length pos.stack) max_stack ≡ true).
    let s : done pos ≡ done to = rw t at e in
    ((cc), leb-true (length pos.stack) max_stack t))
    (λ (t : leb (length pos.stack) max_stack ≡ false).
    let s : ◌≡◌ {A = Outcome Position} (refused 17 0) (done to) = rw t at e in
    absurd (let z : ◌≡◌ {A = ℕ} 0 1 = cc in omega arith))
    (test (leb (length pos.stack) max_stack))

-- of 16
gives : (rest : List ℕ) (o : Outcome Rule) (to : Position) → replaced rest o ≡ done to → (r : Rule) × (o ≡ done r) × (fitting (successor r rest) ≡ done to)
unfolding replaced
gives rest (done r) to e = (r, refl, e)
gives rest (refused number place) to e = absurd (let z : ◌≡◌ {A = ℕ} 0 1 = cc in omega arith)

-- the cells from the height of a position's session up
zeros-above : (pos : Position) → drop (length pos.stack) (padded max_stack (bottom_first pos.stack)) ≡ replicate (max_stack - length pos.stack) 0
unfolding padded
zeros-above pos =
    let n = length-bottom_first pos.stack in
    drop_at (bottom_first pos.stack) (replicate (max_stack - length (bottom_first pos.stack)) 0) (length pos.stack) n
    ∙ ap (λ (k : ℕ). replicate (max_stack - k) 0) n

all-cells : (pos : Position) → length pos.stack ≤ max_stack → length (padded max_stack (bottom_first pos.stack)) ≡ max_stack
unfolding padded
all-cells pos short =
    let zeros : List ℕ = replicate (max_stack - length (bottom_first pos.stack)) 0 in
    omega (
      arith,
      length-append (bottom_first pos.stack) zeros,
      length-replicate {A = ℕ} (max_stack - length (bottom_first pos.stack)) 0,
      length-bottom_first pos.stack,
    )

module _ (g : PushdownGame) (good : Good g) (s : Session) (n : ℕ) (to : Position) where
  -- 16 and 17 passed
  turned : (stack : List ℕ) → (position s).stack ≡ stack → in_form g (record { state = s.state; stack = stack }) ≡ true
      → turn g s.state stack n ≡ done to → IsMove g s n (session_of to)
  unfolding turn
  turned [] e f t = absurd (let z : ◌≡◌ {A = ℕ} 0 1 = cc in omega arith)
  turned (a ∷ rest) e f t =
      let x = gives rest (numbered n (rules_of g s.state a)) to t in
      let i = numbered-in n (rules_of g s.state a) x.0 x.1 in
      let w = fits (successor x.0 rest) to x.2 in
      let leads = position-of to ∙ w.0 in
      let short : length to.stack ≤ max_stack = rw w.0 w.1 in
      record {
        formed = rw e f;
        top = a;
        rest = rest;
        stands = e;
        rule = x.0;
        heads = i.0;
        number = i.1;
        leads = leads;
        keeps = rw leads (form-kept g good s.state a rest f x.0 i.0);
        short = short;
        cells = all-cells to short;
        zeros = zeros-above to;
      }

  -- 14, 16 and 17 passed
  passed : moving g s n ≡ done to → IsMove g s n (session_of to)
  unfolding moving session_in_form
  passed e =
      ⊎_elim
      (λ (t : session_in_form g s ≡ true).
      let f = (both (leb 1 s.height && leb s.height max_stack) (in_form g (position s)) t).1 in
      turned (position s).stack refl f (rw t at e))
      (λ (t : session_in_form g s ≡ false).
      let r : ◌≡◌ {A = Outcome Position} (refused 14 0) (done to) = rw t at e in
      absurd (let z : ◌≡◌ {A = ℕ} 0 1 = cc in omega arith))
      (test (session_in_form g s))

-- A played move, with the game that the file describes.
pub record WasPlayed (file : List ℕ) (s : Session) (n : ℕ) : Type 0 where
  pub game : PushdownGame
  pub reads : reading file ≡ done game
  pub is : IsMove game s n (move file s n).session

-- A move that answers done is the rule's move on the position.
pub done-played : (file : List ℕ) (s : Session) (n : ℕ) → (move file s n).answer ≡ done tt → WasPlayed file s n
unfolding move moving_in
done-played file s n e = of (reading file) refl e
  where
    by : (g : PushdownGame) → reading file ≡ done g → (o : Outcome Position) → moving g s n ≡ o → (moved s o).answer ≡ done tt → IsMove g s n (moved s o).session
    by g r (done to) m e = passed g (good file g r) s n to m
    by g r (refused number place) m e = absurd (let z : ◌≡◌ {A = ℕ} 0 1 = cc in omega arith)

    of : (o : Outcome PushdownGame) → reading file ≡ o → (moved s (moving_in o s n)).answer ≡ done tt → WasPlayed file s n
    of (done g) r e =
        record {
          game = g;
          reads = r;
          is = subst (λ (o : Outcome PushdownGame). IsMove g s n (moved s (moving_in o s n)).session) (sym r) (by g r (moving g s n) refl e);
        }
    of (refused number place) r e = absurd (let z : ◌≡◌ {A = ℕ} 0 1 = cc in omega arith)

-- "A refused move leaves the session untouched."
pub refused-same : (file : List ℕ) (s : Session) (n number place : ℕ) → (move file s n).answer ≡ refused number place → (move file s n).session ≡ s
unfolding move
refused-same file s n number place = of (moving_in (reading file) s n)
  where
    of : (o : Outcome Position) → (moved s o).answer ≡ refused number place → (moved s o).session ≡ s
    of (done to) e = absurd (let z : ◌≡◌ {A = ℕ} 0 1 = cc in omega arith)
    of (refused m q) e = refl

numbered-numbers : (n : ℕ) (rules : List Rule) → RefusedBy turn_numbers (numbered n rules)
unfolding numbered any
numbered-numbers n [] = by_number turn_numbers 16 0 refl
numbered-numbers n (r ∷ rs) = of_either (RefusedBy turn_numbers) (number_is n r) (done r) (numbered n rs) (by-none turn_numbers r) (numbered-numbers n rs)

replaced-numbers : (rest : List ℕ) (o : Outcome Rule) → RefusedBy turn_numbers o → RefusedBy turn_numbers (replaced rest o)
unfolding replaced fitting any
replaced-numbers rest (done r) h =
    let to = successor r rest in
    of_either (RefusedBy turn_numbers) (leb (length to.stack) max_stack) (done to) (refused 17 0) (by-none turn_numbers to) (by_number turn_numbers 17 0 refl)
replaced-numbers rest (refused n k) h = by_number turn_numbers n k (h n k refl)

turn-numbers : (g : PushdownGame) (p : ℕ) (stack : List ℕ) (n : ℕ) → RefusedBy turn_numbers (turn g p stack n)
unfolding turn any
turn-numbers g p [] n = by_number turn_numbers 16 0 refl
turn-numbers g p (a ∷ rest) n = replaced-numbers rest (numbered n (rules_of g p a)) (numbered-numbers n (rules_of g p a))

moving-numbers : (o : Outcome PushdownGame) (s : Session) (n : ℕ) → RefusedBy file_numbers o → RefusedBy move_numbers (moving_in o s n)
unfolding moving_in moving any
moving-numbers (done g) s n h =
    by-back file_numbers turn_numbers _
    (of_either (RefusedBy turn_numbers) (session_in_form g s) _ (refused 14 0) (turn-numbers g s.state (position s).stack n)
    (by_number turn_numbers 14 0 refl))
moving-numbers (refused m p) s n h = by_number move_numbers m p (by_front file_numbers turn_numbers (refused m p) h m p refl)

-- A move is refused by 1 to 9, 19, 14, 16 or 17.
pub move-numbers : (file : List ℕ) (s : Session) (n : ℕ) → RefusedBy move_numbers (move file s n).answer
unfolding move
move-numbers file s n = answered (moving_in (reading file) s n) (moving-numbers (reading file) s n (file-numbers file))
  where
    answered : (o : Outcome Position) → RefusedBy move_numbers o → RefusedBy move_numbers (moved s o).answer
    answered (done pos) h = by-none move_numbers tt
    answered (refused m p) h = by_number move_numbers m p (h m p refl)
