-- Document 02, 'Abelard's side of the contest', over any table: "if Abelard plays these and Éloise plays anything".
use Rattle.std.specs.Prelude.{ℕ, zero, suc, cond, List, [], ◌∷◌}
use Rattle.std.proofs.Math.Option.{Option, none, some}
use Rattle.game.specs.Game.{PushdownGame}
use Rattle.game.specs.Win.{Position, is_abelard}
use Rattle.table.specs.Table.{Entry}
use Rattle.judge.specs.Verdict.{lost_field_of}
use Rattle.judge.specs.Play.{Effect, refuse, playing, wanted, Play, after_effect}

-- the rule number that the field of a lost position stands for: "its number plus 1", 0 for none
unfoldable pub rule_of_field : ℕ → Option ℕ
rule_of_field zero = none
rule_of_field (suc n) = some n

-- On Abelard's turn the rule of the position's field is played, whatever the number; "above 256 letters the rule is the defined one".
-- On Éloise's turn the number of a rule of the head has that rule played; any other is refused and changes nothing.
unfoldable pub turn_against : PushdownGame → List Entry → ℕ → List ℕ → ℕ → Effect
turn_against g table p [] n = refuse
turn_against g table p (a ∷ below) n =
    playing below (wanted g p a (cond (is_abelard g p) (rule_of_field (lost_field_of g table p a below)) (some n)))

abbrev pub against : PushdownGame → List Entry → Position → ℕ → Effect
against g table pos n = turn_against g table pos.state pos.stack n

unfoldable pub one_against : PushdownGame → List Entry → Play → ℕ → Play
one_against g table s n = after_effect (against g table s.position n) s

-- The position and the moves made after a list of numbers. Whether a position is in the target is not asked: from a
-- lost position of a solved game none is.
unfoldable pub contest : PushdownGame → List Entry → Play → List ℕ → Play
contest g table s [] = s
contest g table s (n ∷ ns) = contest g table (one_against g table s n) ns
