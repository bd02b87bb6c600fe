-- Rules and target transitions as the code holds them by value: as 04 and 05 state them, and as they stand in a game's areas.
use Rattle.std.specs.Prelude.{ℕ, ◌+◌, ◌*◌, List, get_or}
use Rattle.game.specs.Limits.{rule_stride}
use Rattle.game.specs.Game.{Rule, Transition}
use Rattle.game.specs.declared.rule.RuleBytes.{RuleBytes}
use Rattle.game.specs.declared.rule.TargetWords.{TargetWords}

-- the rule of a number that a 04 command states
abbrev pub stated : ℕ → RuleBytes → Rule
stated n r = record { number = n; from = r.from; top = r.top; to = r.to; count = r.count; above = r.above; below = r.below }

-- the target transition that a 05 command states
abbrev pub stated_target : TargetWords → Transition
stated_target t = record { state = t.state; letter = t.letter; set = t.set }

-- the rule of a number among stored ones
abbrev pub rule_held : List ℕ → ℕ → RuleBytes
rule_held rules n =
    let at = n * rule_stride in
    record {
      from = get_or rules at 0;
      top = get_or rules (at + 1) 0;
      to = get_or rules (at + 2) 0;
      count = get_or rules (at + 3) 0;
      above = get_or rules (at + 4) 0;
      below = get_or rules (at + 5) 0;
    }
