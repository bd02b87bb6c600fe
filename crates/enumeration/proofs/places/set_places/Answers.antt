use native.Mathlib.Omega.{arith}
use Rattle.enumeration.proofs.places.set_places.Goals as goal

pub loop-q-preserved : goal.loop-q-preserved
loop-q-preserved c = (omega arith, λ long low few. c.set_letters.ensures (omega (arith, long)) (omega arith) few (c.loop-q.invariant.1 long low few))

pub returns : goal.returns
returns c = λ long low few p b lb l. c.loop-q.invariant.1 long low few p b lb (omega arith)
