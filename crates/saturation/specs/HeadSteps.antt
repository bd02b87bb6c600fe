-- Abelard's heads: the unions of one end of each rule, offered to the head.
use Rattle.std.specs.Prelude.{ℕ, ◌*◌, ◌/◌, ◌^◌, ◌<◌, ◌≡◌, true, List, ◌++◌, map, length}
use Rattle.game.specs.Game.{Rule, PushdownGame, rules_of}
use Rattle.game.specs.GoodGame.{Good}
use Rattle.game.specs.Stored.{rule_bytes}
use Rattle.game.specs.Win.{is_abelard}
use Rattle.game.specs.ListLaws.{◌∈◌}
use Rattle.table.specs.Table.{Entry}
use Rattle.table.specs.Pairwise.{Ascending}
use Rattle.family.specs.Family.{holds}
use Rattle.family.specs.Masks.{Raising}
use Rattle.rounds.specs.Rounds.{unions, rule_ends}
use Rattle.rounds.specs.RoundLaws.{AllRanged}
use Rattle.unions.specs.Expand.{expand, Within, AllWithin}
use Rattle.unions.specs.Pool.{Is, Layout, HeadsHold}
use Rattle.unions.specs.Ending.{Listed}
use Rattle.saturation.specs.Steps.{EndsHold, Calm, Ripe}
use Rattle.saturation.specs.RuleLinks.{Linked}

-- the families of the rules of a chain, each rule's at its number
pub record EndsOf (el : List ℕ) (n : ℕ) (ends : List ℕ) (f : ℕ → List ℕ) (chain : List ℕ) : Type 0 where
  pub is : (s : ℕ) → s ∈ chain → Is el n ends (s * n) (λ z. z ∈ f s)
  pub within : (s z : ℕ) → s ∈ chain → z ∈ f s → Within el z

-- the unions of one set of each of them
pub record AllOf (el : List ℕ) (n : ℕ) (f : ℕ → List ℕ) (chain words : List ℕ) : Type 0 where
  pub from : (x : ℕ) → x / 64 < n → holds words 0 x ≡ true → (x < 2 ^ length el) × (expand el x ∈ unions (map f chain))
  pub into : (z : ℕ) → z ∈ unions (map f chain) → (x : ℕ) × (x < 2 ^ length el) × (holds words 0 x ≡ true) × (z ≡ expand el x)

-- what the runs give head (p, a), if it is Abelard's
abbrev pub AbelardAt : PushdownGame → List Entry → ℕ → ℕ → ℕ → ℕ → ℕ → Type 0
AbelardAt g es p a q c z = (q ≡ p) × (c ≡ a) × (is_abelard g q ≡ true) × (z ∈ unions (map (rule_ends g es) (rules_of g q c)))

-- what the runs give the heads of state p on letters below k, if it is Abelard's
abbrev pub AbelardsIn : PushdownGame → List Entry → ℕ → ℕ → ℕ → ℕ → ℕ → Type 0
AbelardsIn g es p k q c z = (q ≡ p) × (c < k) × (is_abelard g q ≡ true) × (z ∈ unions (map (rule_ends g es) (rules_of g q c)))

-- what the code has of a game, its rules one after another, and the families over a table and an older one
pub record Ready (el : List ℕ) (g : PushdownGame) (n : ℕ) (old es : List Entry) (i : ℕ) (abelard control letters rulecount : ℕ) (rules ends stirred firsts nexts raising all : List ℕ) : Type 0 where
  pub good : Good g
  pub owned : abelard ≡ g.abelard
  pub controls : control ≡ g.control
  pub lettered : letters ≡ g.letters
  pub counted : rulecount ≡ length g.rules
  pub slack : List ℕ
  pub stored : rules ≡ rule_bytes g.rules ++ slack
  pub linked : Linked rules rulecount letters control firsts nexts
  pub masks : Raising raising
  pub layout : Layout el g n
  pub pops : (r : Rule) → r ∈ g.rules → r.count ≡ 0 → Listed el r.to
  pub ascending : Ascending es
  pub ranged : AllRanged g es
  pub within : AllWithin el es
  pub hold : HeadsHold el g n es all
  pub runs : EndsHold el g n es ends
  pub calm : (r : Rule) → r ∈ g.rules → Calm g old es i stirred r
  pub ripe : Ripe g old es i
