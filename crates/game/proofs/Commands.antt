-- What a `_` arm of a match on a command answers, by the commands that come to it.
use Prim.Native.Nat.{ℕ}
use mathlib.Core.Path.{◌≡◌, refl}
use mathlib.Core.Bool.{true, not}
use mathlib.Core.List.{[], ◌∷◌}
use lib.Dec.{eqb}
use types.Run.{OneOf, miss}
use denote.Enum.Declared.{tag_of}
use Rattle.game.specs.Game.{PushdownGame}
use Rattle.game.specs.Questions.{in_order, keeps_bottom, is_new, has_room}
use Rattle.game.specs.declared.command.Command.{Command}
use Rattle.game.specs.contracts.command.Command.{the_type}
use Rattle.game.specs.declared.command.Command.TheVariants.{Sizes, Abelard, Final, Rule, Target, End}

pub order_other : (states : ℕ) (command : Command) → OneOf (1 ∷ 2 ∷ 3 ∷ 4 ∷ 5 ∷ []) (tag_of the_type command) → not (eqb states 0) ≡ in_order states command
unfolding in_order
order_other states (Sizes p s l) h = absurd (miss (1 ∷ 2 ∷ 3 ∷ 4 ∷ 5 ∷ []) 0 tt h)
order_other states (Abelard p) h = refl
order_other states (Final q) h = refl
order_other states (Rule r) h = refl
order_other states (Target t) h = refl
order_other states End h = refl

pub kept-other : (command : Command) → OneOf (0 ∷ 1 ∷ 2 ∷ 4 ∷ 5 ∷ []) (tag_of the_type command) → true ≡ keeps_bottom command
unfolding keeps_bottom
kept-other (Sizes p s l) h = refl
kept-other (Abelard p) h = refl
kept-other (Final q) h = refl
kept-other (Rule r) h = absurd (miss (0 ∷ 1 ∷ 2 ∷ 4 ∷ 5 ∷ []) 3 tt h)
kept-other (Target t) h = refl
kept-other End h = refl

pub new-other : (g : PushdownGame) (command : Command) → OneOf (0 ∷ 5 ∷ []) (tag_of the_type command) → true ≡ is_new g command
unfolding is_new
new-other g (Sizes p s l) h = refl
new-other g (Abelard p) h = absurd (miss (0 ∷ 5 ∷ []) 1 tt h)
new-other g (Final q) h = absurd (miss (0 ∷ 5 ∷ []) 2 tt h)
new-other g (Rule r) h = absurd (miss (0 ∷ 5 ∷ []) 3 tt h)
new-other g (Target t) h = absurd (miss (0 ∷ 5 ∷ []) 4 tt h)
new-other g End h = refl

pub room-other : (rules targets : ℕ) (command : Command) → OneOf (0 ∷ 1 ∷ 2 ∷ 5 ∷ []) (tag_of the_type command) → true ≡ has_room rules targets command
unfolding has_room
room-other rules targets (Sizes p s l) h = refl
room-other rules targets (Abelard p) h = refl
room-other rules targets (Final q) h = refl
room-other rules targets (Rule r) h = absurd (miss (0 ∷ 1 ∷ 2 ∷ 5 ∷ []) 3 tt h)
room-other rules targets (Target t) h = absurd (miss (0 ∷ 1 ∷ 2 ∷ 5 ∷ []) 4 tt h)
room-other rules targets End h = refl
