-- The walk of `Game::read` as one equation: reading the whole file is the walk from here with the game so far.
use Prim.Native.Nat.{ℕ, zero, suc, ◌+◌, ◌*◌, ◌<◌, ◌≤◌}
use mathlib.Core.Path.{◌≡◌, refl, sym, ap, ◌∙◌}
use mathlib.Core.Logic.{inl, ⊎_elim}
use mathlib.Core.Bool.{Bool}
use mathlib.Core.List.{List, [], ◌∷◌}
use native.Mathlib.Omega.{arith}
use lib.ListN.{length}
use borrow.Author.Tests.{le-ltb, ne_eqb}
use types.Run.{OneOf, miss}
use denote.Enum.Declared.{tag_of}
use Rattle.game.specs.Limits.{max_control, max_states, max_letters, max_rules, max_targets, rule_stride, target_stride}
use Rattle.game.specs.Game.{PushdownGame, empty_game}
use Rattle.game.specs.Outcome.{Outcome, refused, number, unread_as}
use Rattle.game.specs.Command.{command_at}
use Rattle.std.specs.Prelude.{Ok, Err}
use Rattle.game.specs.declared.command.Unread.{Unread}
use Rattle.game.specs.declared.command.Unread.TheVariants.{Cut, Unknown}
use Rattle.game.specs.CommandLaws.{found-further}
use Rattle.game.specs.WalkLaws.{turn, not_end}
use Rattle.game.specs.Questions.{ask, ask_found, Room, add, every_head, ending, taken, met, walk, reading}
use Rattle.game.specs.Stored.{sizes_of}
use Rattle.game.specs.Parts.{Parts, Fit, rules-room, targets-room}
use Rattle.game.specs.Marks.{Filtered}
use Rattle.game.specs.GoodGame.{SoFar, Ranged}
use Rattle.game.specs.Reads.{so_far, limits, room}
use Rattle.game.specs.declared.game.Sizes.{Sizes}
use Rattle.game.specs.declared.command.Command.{Command}
use Rattle.game.specs.declared.command.Command.TheVariants.{End}
use Rattle.game.specs.contracts.command.Command as CommandIs

pub record Going (file : List ℕ) (sizes : Sizes) (rules targets marks : List ℕ) (at : ℕ) : Type 0 where
  pub so : PushdownGame
  pub turns : ℕ
  pub held : Parts so sizes rules targets
  pub marked : Filtered so marks
  pub kept : SoFar so
  pub enough : length file ≤ at + turns
  pub same : reading file ≡ walk turns file at so

pub start : (file : List ℕ) (sizes : Sizes) (rules targets marks : List ℕ) → 1 ≤ length file → length file ≤ 4096 → Parts empty_game sizes rules targets → Filtered empty_game marks → Going file sizes rules targets marks 0
unfolding reading
start file sizes rules targets marks low high e f =
    record {
      so = empty_game;
      turns = length file;
      held = e;
      marked = f;
      kept = inl refl;
      enough = omega arith;
      same = rw (le-ltb (length file) 1 low, le-ltb 4096 (length file) high);
    }

no-command : (size at : ℕ) (g : PushdownGame) (unread : Unread) (rest : ℕ → PushdownGame → Outcome PushdownGame)
    → met size at g (Err unread) rest ≡ refused (number (unread_as unread)) at
unfolding met ask_found
no-command size at g Cut rest = refl
no-command size at g Unknown rest = refl

-- the keys of every command but FF
not-end-key : (command : Command) → OneOf (0 ∷ 1 ∷ 2 ∷ 3 ∷ 4 ∷ []) (tag_of CommandIs.the_type command) → command ≡ End → ⊥
not-end-key command h e = miss (0 ∷ 1 ∷ 2 ∷ 3 ∷ 4 ∷ []) 5 tt (rw e at h)

heads-in-range : (g : PushdownGame) → SoFar g → (g.control ≤ max_control) × (g.letters ≤ max_letters)
heads-in-range g k =
    ⊎_elim (λ (e : g ≡ empty_game). rw e (omega arith, omega arith)) (λ (r : Ranged g). (r.controls, r.letters)) k

module _ (file : List ℕ) (sizes : Sizes) (rules targets marks : List ℕ) (at : ℕ) (going : Going file sizes rules targets marks at) (inside : at < length file) where
  here : (m : ℕ) × (going.turns ≡ suc m) × (walk going.turns file at going.so ≡ met (length file) at going.so (command_at file at) (walk m file))
  here = turn file going.turns at going.so inside going.enough

  -- 2 or 19 is answered no
  pub stops : (unread : Unread) → command_at file at ≡ Err unread → reading file ≡ refused (number (unread_as unread)) at
  stops unread e =
      going.same
      ∙ here.2
      ∙ rw e (no-command (length file) at going.so unread (walk here.0 file))

  bounds : (sizes.control ≤ max_states) × (sizes.states ≤ max_states) × (sizes.rulecount ≤ max_rules) × (sizes.targetcount ≤ max_targets)
  bounds = rw going.held.sized (limits going.so going.kept)

  -- what question 9 needs
  pub few : (sizes.rulecount ≤ max_rules) × (sizes.control ≤ max_control) × (sizes.letters ≤ max_letters)
  few =
      let heads : (sizes.control ≤ max_control) × (sizes.letters ≤ max_letters) = rw going.held.sized (heads-in-range going.so going.kept) in
      (bounds.2, heads.0, heads.1)

  -- the areas are whole
  pub rules-whole : length rules ≡ max_rules * rule_stride
  rules-whole = rules-room going.so sizes rules targets going.held (limits going.so going.kept).2

  pub targets-whole : length targets ≡ max_targets * target_stride
  targets-whole = targets-room going.so sizes rules targets going.held (limits going.so going.kept).3

  pub asks : (sizes.control ≤ max_states) × (sizes.states ≤ max_states) × Fit sizes rules targets marks
  asks = (
    bounds.0,
    bounds.1,
    record {
      few = bounds.2;
      fewer = bounds.3;
      ruled = omega (arith, bounds.2, rules-whole);
      targeted = omega (arith, bounds.3, targets-whole);
      filtered = going.marked.long;
    },
  )

  module _ (command : Command) (next : ℕ) (found : command_at file at ≡ Ok (command, next)) where
    pub further : at < next
    further = found-further file at command next found

    -- one of 3 to 7 is answered no
    pub refuses : (number : ℕ) → number ≡ ask going.so command → (number ≡ 0 → ⊥) → reading file ≡ refused number at
    unfolding met
    refuses number e h = going.same ∙ here.2 ∙ rw (found, ← e, ne_eqb number 0 h)

    module _ (number : ℕ) (e : number ≡ ask going.so command) (passed : number ≡ 0) where
      all-passed : ask going.so command ≡ 0
      all-passed = sym e ∙ passed

      pub fits : Room sizes.rulecount sizes.targetcount command
      fits = rw going.held.sized (room going.so going.kept command all-passed)

      on : reading file ≡ taken (length file) at going.so command (walk here.0 file next (add going.so command))
      unfolding met
      on = going.same ∙ here.2 ∙ rw (found, all-passed)

      -- FF
      pub closes : command ≡ End → reading file ≡ ending (length file) at going.so
      unfolding taken
      closes f = on ∙ rw f

      -- any other command
      pub goes : (sizes' : Sizes) (rules' targets' marks' : List ℕ) → Parts (add going.so command) sizes' rules' targets' → Filtered (add going.so command) marks' → OneOf (0 ∷ 1 ∷ 2 ∷ 3 ∷ 4 ∷ []) (tag_of CommandIs.the_type command) → Going file sizes' rules' targets' marks' next
      goes sizes' rules' targets' marks' g f h =
          record {
            so = add going.so command;
            turns = here.0;
            held = g;
            marked = f;
            kept = so_far going.so going.kept command all-passed;
            enough = omega (arith, further, going.enough, here.1);
            same = on ∙ not_end file at going.so command (walk here.0 file next (add going.so command)) (not-end-key command h);
          }

past : (n : ℕ) (file : List ℕ) (at : ℕ) (g : PushdownGame) → length file ≤ at → walk n file at g ≡ refused 8 (length file)
unfolding walk
past zero file at g h = refl
past (suc n) file at g h = rw (le-ltb at (length file) h)

-- the file's end without FF
pub runs-out : (file : List ℕ) (sizes : Sizes) (rules targets marks : List ℕ) (at : ℕ) → Going file sizes rules targets marks at → length file ≤ at → reading file ≡ refused 8 (length file)
runs-out file sizes rules targets marks at going h = going.same ∙ past going.turns file at going.so h

-- what the scan of the heads found, of the game in parts
pub heads-found : (sizes : Sizes) (g : PushdownGame) → sizes ≡ sizes_of g → (found answer : Bool) → found ≡ every_head sizes.control sizes.letters g.rules → found ≡ answer → every_head g.control g.letters g.rules ≡ answer
heads-found sizes g e found answer p q =
    sym (ap (λ (x : Sizes). every_head x.control x.letters g.rules) e) ∙ sym p ∙ q
