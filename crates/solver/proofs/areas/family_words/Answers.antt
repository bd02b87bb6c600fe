use native.Mathlib.Omega.{arith}
use Rattle.solver.proofs.areas.family_words.Goals as goal

pub returns : goal.returns
returns c = record { few = omega (arith, c.if-numbering-gt10.false); words = c.words_of.ensures.0; room = c.words_of.ensures.1; below = λ i l. c.are_below.ensures (c.if-not-are_below.false) i (omega (arith, l, c.well_formed.0.1.1.1.0.1.0.1)) }
