-- Questions 1 to 9 of document 01, with 19 of document 02. "The first 'no' gives the number. The place follows in brackets. For 2 to 7
-- it is the command's offset, and commands are walked in order with all these questions put to each." 19 is "put right after 2, with the
-- command's offset".
use Rattle.std.specs.Prelude.{ℕ, zero, suc, ◌+◌, ◌<◌, Bool, true, false, cond, not, ◌&&◌, ◌||◌, List, [], ◌∷◌, ◌++◌, length, ltb, leb, eqb}
use Rattle.game.specs.Limits.{max_file, max_control, max_states, max_letters, max_rules, max_targets}
use Rattle.game.specs.Sets.{has, single, union, within}
use Rattle.game.specs.Game.{Rule, Transition, PushdownGame, empty_game, word_of, of_head}
use Rattle.game.specs.Outcome.{Outcome, done, refused}
use Rattle.game.specs.Stated.{stated, stated_target}
use Rattle.game.specs.Command.{Found, command_at}
use Rattle.std.specs.Prelude.{Ok, Err}
use Rattle.game.specs.declared.command.Unread.TheVariants.{Cut, Unknown}
use Rattle.game.specs.declared.command.Command.{Command}
use Rattle.game.specs.declared.command.Command.TheVariants.{Sizes, Abelard, Final, Rule as RuleIs, Target, End}

unfoldable pub any : {A : Type 0} → (A → Bool) → List A → Bool
any test [] = false
any test (x ∷ xs) = test x || any test xs

-- the test holds of every number below n
unfoldable pub all_below : ℕ → (ℕ → Bool) → Bool
all_below zero test = true
all_below (suc n) test = all_below n test && test n

-- "whose last letter is 0 and no other is"
unfoldable pub bottom_last : List ℕ → Bool
bottom_last [] = false
bottom_last (a ∷ []) = eqb a 0
bottom_last (a ∷ b ∷ w) = not (eqb a 0) && bottom_last (b ∷ w)

unfoldable pub no_bottom : List ℕ → Bool
no_bottom [] = true
no_bottom (a ∷ w) = not (eqb a 0) && no_bottom w

-- 3. Is 01 the first command, and only there? (Only an accepted 01 sets the number of states, and then it is not 0.)
unfoldable pub in_order : ℕ → Command → Bool
in_order states (Sizes p s l) = eqb states 0
in_order states (Abelard p) = not (eqb states 0)
in_order states (Final q) = not (eqb states 0)
in_order states (RuleIs r) = not (eqb states 0)
in_order states (Target t) = not (eqb states 0)
in_order states End = not (eqb states 0)

-- 1 ≤ P ≤ 24, P < S ≤ 32, 1 ≤ L ≤ 64
unfoldable pub sizes_in_range : ℕ → ℕ → ℕ → Bool
sizes_in_range p s l =
    leb 1 p && leb p max_control && ltb p s && leb s max_states && leb 1 l && leb l max_letters

-- "unused letters 0": of a rule that writes k letters
unfoldable pub unused_zero : ℕ → ℕ → ℕ → Bool
unused_zero k b c = leb 2 k || (eqb c 0 && (leb 1 k || eqb b 0))

-- "rule states below P, letters below L, k ≤ 2, unused letters 0"
unfoldable pub rule_in_range : ℕ → ℕ → ℕ → ℕ → ℕ → ℕ → ℕ → ℕ → Bool
rule_in_range control letters p a q k b c =
    ltb p control && ltb a letters && ltb q control && leb k 2 && ltb b letters && ltb c letters
    && unused_zero k b c

unfoldable pub between : ℕ → ℕ → ℕ → Bool
between low x high = leb low x && ltb x high

-- "05: state below S, letter below L, set not empty, only states P to S−1"
unfoldable pub target_in_range : ℕ → ℕ → ℕ → ℕ → ℕ → ℕ → Bool
target_in_range control states letters q a set =
    ltb q states && ltb a letters && not (eqb set 0) && within control states set

-- 4. Are operands in range?
unfoldable pub in_range : ℕ → ℕ → ℕ → Command → Bool
in_range control states letters (Sizes p s l) = sizes_in_range p s l
in_range control states letters (Abelard p) = ltb p control
in_range control states letters (Final q) = between control q states
in_range control states letters (RuleIs r) = rule_in_range control letters r.from r.top r.to r.count r.above r.below
in_range control states letters (Target t) = target_in_range control states letters t.state t.letter t.set
in_range control states letters End = true

-- "On letter 0 it writes 0 last and only last; on another it writes no 0."
unfoldable pub bottom_kept : ℕ → List ℕ → Bool
bottom_kept a word = cond (eqb a 0) (bottom_last word) (no_bottom word)

-- 5. Does the rule keep the bottom?
unfoldable pub keeps_bottom : Command → Bool
keeps_bottom (Sizes p s l) = true
keeps_bottom (Abelard p) = true
keeps_bottom (Final q) = true
keeps_bottom (RuleIs r) = bottom_kept r.top (word_of r.count r.above r.below)
keeps_bottom (Target t) = true
keeps_bottom End = true

-- the rule that a 04 command states, and the target transition that a 05 command states
unfoldable pub same_rule : ℕ → ℕ → ℕ → ℕ → ℕ → ℕ → Rule → Bool
same_rule p a q k b c r =
    eqb r.from p && eqb r.top a && eqb r.to q && eqb r.count k && eqb r.above b && eqb r.below c

unfoldable pub same_target : ℕ → ℕ → ℕ → Transition → Bool
same_target q a set t = eqb t.state q && eqb t.letter a && eqb t.set set

-- 6. Is the statement new (no equal command before)?
unfoldable pub is_new : PushdownGame → Command → Bool
is_new g (Sizes p s l) = true
is_new g (Abelard p) = not (has g.abelard p)
is_new g (Final q) = not (has g.finals q)
is_new g (RuleIs r) = not (any (same_rule r.from r.top r.to r.count r.above r.below) g.rules)
is_new g (Target t) = not (any (same_target t.state t.letter t.set) g.targets)
is_new g End = true

-- 7. Were fewer than 256 of its kind before (04, 05)?
unfoldable pub has_room : ℕ → ℕ → Command → Bool
has_room rules targets (Sizes p s l) = true
has_room rules targets (Abelard p) = true
has_room rules targets (Final q) = true
has_room rules targets (RuleIs r) = ltb rules max_rules
has_room rules targets (Target t) = ltb targets max_targets
has_room rules targets End = true

-- Questions 3 to 7 put to a command after those that gave the game so far: 0, or the number of the first no.
unfoldable pub ask : PushdownGame → Command → ℕ
ask g command =
    cond (in_order g.states command)
    (cond (in_range g.control g.states g.letters command)
    (cond (keeps_bottom command)
    (cond (is_new g command) (cond (has_room (length g.rules) (length g.targets) command) 0 7) 6)
    5)
    4)
    3

-- what the code needs of a command that passed 3 to 7 before it takes it up
abbrev pub Room : ℕ → ℕ → Command → Type 0
Room rules targets (Sizes p s l) = Unit {0}
Room rules targets (Abelard p) = p < max_states
Room rules targets (Final q) = q < max_states
Room rules targets (RuleIs r) = rules < max_rules
Room rules targets (Target t) = targets < max_targets
Room rules targets End = Unit {0}

-- The game with one command more; "rules count from 0 in file order".
unfoldable pub add : PushdownGame → Command → PushdownGame
add g (Sizes p s l) =
    record
    { control = p; states = s; letters = l; abelard = g.abelard; finals = g.finals; rules = g.rules; targets = g.targets }
add g (Abelard p) =
    record {
      control = g.control;
      states = g.states;
      letters = g.letters;
      abelard = union g.abelard (single p);
      finals = g.finals;
      rules = g.rules;
      targets = g.targets;
    }
add g (Final q) =
    record {
      control = g.control;
      states = g.states;
      letters = g.letters;
      abelard = g.abelard;
      finals = union g.finals (single q);
      rules = g.rules;
      targets = g.targets;
    }
add g (RuleIs r) =
    record {
      control = g.control;
      states = g.states;
      letters = g.letters;
      abelard = g.abelard;
      finals = g.finals;
      rules = g.rules ++ (stated (length g.rules) r ∷ []);
      targets = g.targets;
    }
add g (Target t) =
    record {
      control = g.control;
      states = g.states;
      letters = g.letters;
      abelard = g.abelard;
      finals = g.finals;
      rules = g.rules;
      targets = g.targets ++ (stated_target t ∷ []);
    }
add g End = g

-- control state p has a rule on every letter
unfoldable pub every_letter : ℕ → ℕ → List Rule → Bool
every_letter letters p rules = all_below letters (λ a. any (of_head p a) rules)

-- 9. Has every head a rule?
unfoldable pub every_head : ℕ → ℕ → List Rule → Bool
every_head control letters rules = all_below control (λ p. every_letter letters p rules)

-- At FF. 8. Is FF there, as the last byte? [its offset] 9. Has every head a rule? [offset of FF]
unfoldable pub ending : ℕ → ℕ → PushdownGame → Outcome PushdownGame
ending size at g = cond (eqb (at + 1) size) (cond (every_head g.control g.letters g.rules) (done g) (refused 9 at)) (refused 8 at)

-- Questions 2 and 19 put to what stands at an offset: 0, or the number of the one that is answered no. "2 means an unknown command byte
-- only. 19 when a known command's operands run past the end of the file": never both.
unfoldable pub ask_found : Found → ℕ
ask_found (Ok (command, next)) = 0
ask_found (Err Cut) = 19
ask_found (Err Unknown) = 2

-- a command that passed 2, 19 and 3 to 7: the walk stops at FF, and goes on after any other
unfoldable pub taken : ℕ → ℕ → PushdownGame → Command → Outcome PushdownGame → Outcome PushdownGame
taken size at g (Sizes p s l) rest = rest
taken size at g (Abelard p) rest = rest
taken size at g (Final q) rest = rest
taken size at g (RuleIs r) rest = rest
taken size at g (Target t) rest = rest
taken size at g End rest = ending size at g

-- 2. Is the command known? 19. Has it all its operands? Then 3 to 7. `rest` is the walk after it.
unfoldable pub met : ℕ → ℕ → PushdownGame → Found → (ℕ → PushdownGame → Outcome PushdownGame) → Outcome PushdownGame
met size at g (Err Cut) rest = refused (ask_found (Err Cut)) at
met size at g (Err Unknown) rest = refused (ask_found (Err Unknown)) at
met size at g (Ok (command, next)) rest =
    let number = ask g command in
    let after = rest next (add g command) in
    cond (eqb number 0) (taken size at g command after) (refused number at)

-- The walk from an offset with the game so far, `left` at least the number of bytes from there on.
-- 8, where the file ends without FF: [the file's length]
unfoldable pub walk : ℕ → List ℕ → ℕ → PushdownGame → Outcome PushdownGame
walk zero file at g = refused 8 (length file)
walk (suc left) file at g =
    cond (ltb at (length file)) (met (length file) at g (command_at file at) (walk left file)) (refused 8 (length file))

-- 1. Has the file 1 to 4,096 bytes? [0] Then the walk.
unfoldable pub reading : List ℕ → Outcome PushdownGame
reading file =
    cond (ltb (length file) 1) (refused 1 0)
    (cond (ltb max_file (length file)) (refused 1 0) (walk (length file) file 0 empty_game))
