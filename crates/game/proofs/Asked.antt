-- The answer of questions 3 to 7 by the first that is answered no.
use mathlib.Core.Path.{◌≡◌, sym, ap, ◌∙◌}
use mathlib.Core.Bool.{true, false}
use Rattle.game.specs.Game.{PushdownGame}
use Rattle.game.specs.Stored.{sizes_of}
use Rattle.game.specs.Questions.{in_order, in_range, keeps_bottom, is_new, has_room, ask}
use Rattle.game.specs.declared.game.Sizes.{Sizes}
use Rattle.game.specs.declared.command.Command.{Command}

module _ (sizes : Sizes) (g : PushdownGame) (command : Command) (e : sizes ≡ sizes_of g) where
  pub first-order : in_order sizes.states command ≡ false → 3 ≡ ask g command
  unfolding ask
  first-order h0 = rw (sym (ap (λ (x : Sizes). in_order x.states command) e) ∙ h0)

  pub first_range : in_order sizes.states command ≡ true → in_range sizes.control sizes.states sizes.letters command ≡ false → 4 ≡ ask g command
  unfolding ask
  first_range h0 h1 = rw (sym (ap (λ (x : Sizes). in_order x.states command) e) ∙ h0, sym (ap (λ (x : Sizes). in_range x.control x.states x.letters command) e) ∙ h1)

  pub first-bottom : in_order sizes.states command ≡ true → in_range sizes.control sizes.states sizes.letters command ≡ true → keeps_bottom command ≡ false → 5 ≡ ask g command
  unfolding ask
  first-bottom h0 h1 h2 = rw (sym (ap (λ (x : Sizes). in_order x.states command) e) ∙ h0, sym (ap (λ (x : Sizes). in_range x.control x.states x.letters command) e) ∙ h1, h2)

  pub first-new : in_order sizes.states command ≡ true → in_range sizes.control sizes.states sizes.letters command ≡ true → keeps_bottom command ≡ true → is_new g command ≡ false → 6 ≡ ask g command
  unfolding ask
  first-new h0 h1 h2 h3 = rw (sym (ap (λ (x : Sizes). in_order x.states command) e) ∙ h0, sym (ap (λ (x : Sizes). in_range x.control x.states x.letters command) e) ∙ h1, h2, h3)

  pub first-room : in_order sizes.states command ≡ true → in_range sizes.control sizes.states sizes.letters command ≡ true → keeps_bottom command ≡ true → is_new g command ≡ true → has_room sizes.rulecount sizes.targetcount command ≡ false → 7 ≡ ask g command
  unfolding ask
  first-room h0 h1 h2 h3 h4 = rw (sym (ap (λ (x : Sizes). in_order x.states command) e) ∙ h0, sym (ap (λ (x : Sizes). in_range x.control x.states x.letters command) e) ∙ h1, h2, h3, sym (ap (λ (x : Sizes). has_room x.rulecount x.targetcount command) e) ∙ h4)

  pub none_first : in_order sizes.states command ≡ true → in_range sizes.control sizes.states sizes.letters command ≡ true → keeps_bottom command ≡ true → is_new g command ≡ true → has_room sizes.rulecount sizes.targetcount command ≡ true → 0 ≡ ask g command
  unfolding ask
  none_first h0 h1 h2 h3 h4 = rw (sym (ap (λ (x : Sizes). in_order x.states command) e) ∙ h0, sym (ap (λ (x : Sizes). in_range x.control x.states x.letters command) e) ∙ h1, h2, h3, sym (ap (λ (x : Sizes). has_room x.rulecount x.targetcount command) e) ∙ h4)
