use native.Mathlib.Omega.{arith}
use Rattle.enumeration.proofs.places.set_letters.Goals as goal

pub loop-a-preserved : goal.loop-a-preserved
loop-a-preserved c = (omega arith, λ long low few to p b lb l. c.set_head.ensures _ (omega (arith, long)) low (omega arith) few (c.loop-a.invariant.1 long low few to) p b lb (omega arith))

pub returns : goal.returns
returns c = λ long low few to p b lb l. c.loop-a.invariant.1 long low few to p b lb (omega arith)
