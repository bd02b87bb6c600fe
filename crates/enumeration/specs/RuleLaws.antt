-- A rule of a job, as its bytes say, and where the entries stand of the head that it goes to.
use Rattle.std.specs.Prelude.{ℕ, ◌+◌, ◌*◌, ◌<◌, ◌≡◌, List, length, get_or}
use Rattle.std.proofs.Common.{arith, ap}
use Rattle.game.specs.Game.{Rule, PushdownGame}
use Rattle.game.specs.GoodGame.{GoodRule}
use Rattle.game.specs.Stored.{rule_at}
use Rattle.game.specs.StoredLaws.{no_rule}
use Rattle.table.specs.Table.{Entry}
use Rattle.rounds.specs.Growing.{Growing}
use Rattle.rounds.proofs.InsertLaws.{get_d-in}
use Rattle.rounds.specs.ScanLaws.{rule-at}
use Rattle.enumeration.specs.Jobs.{Entered}
use Rattle.enumeration.specs.Places.{PlacedHead, Placing}
use Rattle.enumeration.specs.declared.runs.Job.{Job}

module _ (g : PushdownGame) (old : List Entry) (birthdate n : ℕ) (job : Job) (rules work words : List ℕ) (count : ℕ) (memo : List ℕ) (s : Growing) (h : Entered g old birthdate n job rules work words count memo s) (r : ℕ) (l : r < job.end) where
  abbrev rule : Rule
  rule = get_or g.rules r no_rule

  pub within : r < length g.rules
  within = omega (arith, h.stands.last)

  rule-is : rule_at rules (r * 6) rule.number ≡ rule
  rule-is = rule-at rules h.stands.slack g.rules h.stands.written r within

  pub to_is : get_or rules (r * 6 + 2) 0 ≡ rule.to
  to_is = ap (λ (x : Rule). x.to) rule-is

  pub count-is : get_or rules (r * 6 + 3) 0 ≡ rule.count
  count-is = ap (λ (x : Rule). x.count) rule-is

  pub above-is : get_or rules (r * 6 + 4) 0 ≡ rule.above
  above-is = ap (λ (x : Rule). x.above) rule-is

  pub below-is : get_or rules (r * 6 + 5) 0 ≡ rule.below
  below-is = ap (λ (x : Rule). x.below) rule-is

  pub to-small : rule.to < 32
  to-small = omega (arith, (h.stands.ranged.rule rule (get_d-in no_rule g.rules r within)).to, h.stands.ranged.controls)

  pub good-rule : GoodRule g.control g.letters rule
  good-rule = h.stands.ranged.rule rule (get_d-in no_rule g.rules r within)

  pub above-placed : (places : List ℕ) → Placing g work job.count places
      → PlacedHead work job.count places (get_or rules (r * 6 + 2) 0) (get_or rules (r * 6 + 4) 0)
  above-placed places placing =
      rw (to_is, above-is) (placing rule.to rule.above (omega (arith, good-rule.to, h.stands.ranged.control)) good-rule.above)
