use Rattle.noting.proofs.Giving.{unseen-is}
use Rattle.noting.proofs.offers.unseen.Goals as goal

-- Digit by digit. Assumes nothing.
pub returns : goal.returns
returns c = λ s. unseen-is _ _ _ s
