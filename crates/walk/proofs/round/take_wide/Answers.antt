-- The places are those of every head, the entries of the last round are noted for every letter, the memo is 8,192 lines of three zero
-- words, which name nothing, and no rule is listed. Assumes what the contract requires.
use mathlib.Core.Path.{refl}
use Rattle.walk.proofs.Listing.{zero-at}
use Rattle.walk.proofs.RoundTurns.{zeros-blank, letters-few, heads-placed}
use Rattle.walk.proofs.round.take_wide.Goals as goal

pub add_runs-requires : goal.add_runs-requires
add_runs-requires c = zero-at 512

pub returns-clause-filled : goal.returns-clause-filled
returns-clause-filled c =
    λ g es n held good ranged work table past. c.add_runs.ensures.filled g es n held good ranged work table past c.late_of-late.ensures (c.set_fresh.ensures refl) (heads-placed g _ _ held good _ _ _ (c.set_places.ensures refl c.requires.0.states (letters-few g _ _ held good))) (zeros-blank 24576)
