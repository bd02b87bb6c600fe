-- What a command reader carries, for the walks that hold one: its type at the lifetime of a signature, its laws, and its fields'
-- values. A reader may be copied, so what it owns is had twice. In a local of a body its type names no lifetime; a machine value
-- that a reader has is of that type too, since what it owns does not say the lifetime's name.
-- Assumes nothing.
use mathlib.Core.List.{[], ◌∷◌}
use lib.Dec.{T as Holds}
use seplogic.Ra.Ura.{Ura}
use mir.Syntax.{erased}
use mir.Val.{Val, WT, has_ty}
use base.Logic.{ent, sep}
use base.Fml.{Lft}
use types.Logic.{Logic, sem}
use contract.Lifetimes.{Lfts}
use denote.RattleType.{RattleType}
use denote.Laws.{Is}
use denote.Ref.{NamedLft}
use denote.Signature.{named_lft}
use denote.Struct.Declared.{Declared}
use denote.Struct.Laws as LL
use denote.Struct.Values.{Values}
use Rattle.game.specs.declared.reader.CommandReader.{CommandReader}
use Rattle.game.specs.contracts.reader.CommandReader as T
use Rattle.game.proofs.reader.CommandReader.TheLaws as T'

-- the reader's type, over the one lifetime of a signature
abbrev pub row : Lfts 1 → RattleType
row κs = T.the_row (named_lft 1 0 tt κs)

abbrev pub declared : Lfts 1 → Declared
declared κs = T.the_type (named_lft 1 0 tt κs)

abbrev pub laws : (κs : Lfts 1) → LL.Laws (declared κs)
laws κs = T'.the_laws (named_lft 1 0 tt κs)

-- the file and the offset, as the values of its fields
abbrev pub fields : (κs : Lfts 1) → CommandReader → Values (declared κs).parts
fields κs r = (r.file, (r.next, tt))

-- the type as a local of a body has it
abbrev local : Lft → NamedLft
local κ = record { mir = erased; lft = κ }

module _ {M : Type 1} {𝓤 : Ura M} (𝓛 : Logic 𝓤) (κ : Lft) (r : CommandReader) (u : Val) where
  pub twice : ent 𝓤 (sem 𝓛 ((row (κ, tt)).own_val r (u ∷ []))) (sep 𝓤 (sem 𝓛 ((row (κ, tt)).own_val r (u ∷ []))) (sem 𝓛 ((row (κ, tt)).own_val r (u ∷ []))))
  twice = (LL.copy (declared (κ, tt)) (T'.the_copy (named_lft 1 0 tt (κ, tt))) 𝓛).twice r (u ∷ [])

  pub typed : Is (row (κ, tt)) r (u ∷ []) → Holds (has_ty (T'.mir erased) u) × WT u
  typed is = ((LL.lawful (T.the_type (local κ)) (T'.the_laws (local κ)) 𝓛).typed r _ is).0
