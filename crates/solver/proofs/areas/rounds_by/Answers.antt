use native.Mathlib.Omega.{arith}
use mathlib.Core.Path.{refl}
use Rattle.solver.proofs.Beginnings.{bounded, small-heads, numbers_of, few-of, rooms-of, more_rows}
use Rattle.solver.proofs.areas.rounds_by.Goals as goal

pub overflow_mul-heads : goal.overflow_mul-heads
overflow_mul-heads c = omega (arith, small-heads c.args.sizes.states c.args.sizes.letters (bounded c.requires.0.1).states-few (bounded c.requires.0.1).letters-few)

pub returns-in_default : goal.returns-in_default
returns-in_default c = λ g m given zeros are. c.walk_rounds.ensures g m given zeros

pub does_fit-requires : goal.does_fit-requires
does_fit-requires c = (omega (arith, small-heads c.args.sizes.states c.args.sizes.letters (bounded c.requires.0.1).states-few (bounded c.requires.0.1).letters-few), omega arith)

pub rounds_in-requires : goal.rounds_in-requires
rounds_in-requires c = (let na = c.in-Some.ensures in let fit = c.does_fit.ensures c.if-does_fit.true in (c.requires.0, c.requires.1, c.requires.2, refl, numbers_of na c.well_formed.1.1.1.0.1.1.1.0.1.0.1 c.well_formed.1.1.1.0.1.1.1.1.0.1.0.1 c.requires.3 refl, rooms-of 1 256 640 2048 fit.0 fit.1 (omega arith) fit.2 refl refl refl (omega arith) (omega arith) (omega arith) (omega arith) (omega arith), omega (arith, more_rows c.requires.0.1 refl, fit.3), omega arith))

pub returns-then-does_fit : goal.returns-then-does_fit
returns-then-does_fit c = λ g m given zeros are. c.rounds_in.ensures g m given zeros (few-of (c.in-Some.ensures) are)

pub does_fit-requires-2 : goal.does_fit-requires-2
does_fit-requires-2 c = (omega (arith, small-heads c.args.sizes.states c.args.sizes.letters (bounded c.requires.0.1).states-few (bounded c.requires.0.1).letters-few), omega arith)

pub rounds_in-requires-then-does_fit-2 : goal.rounds_in-requires-then-does_fit-2
rounds_in-requires-then-does_fit-2 c = (let na = c.in-Some.ensures in let fit = c.does_fit-2.ensures c.if-does_fit-2.true in (c.requires.0, c.requires.1, c.requires.2, refl, numbers_of na c.well_formed.1.1.1.0.1.1.1.0.1.0.1 c.well_formed.1.1.1.0.1.1.1.1.0.1.0.1 c.requires.3 refl, rooms-of 4 1024 640 6144 fit.0 fit.1 (omega arith) fit.2 refl refl refl (omega arith) (omega arith) (omega arith) (omega arith) (omega arith), omega (arith, more_rows c.requires.0.1 refl, fit.3), omega arith))

pub returns-then-does_fit-2 : goal.returns-then-does_fit-2
returns-then-does_fit-2 c = λ g m given zeros are. c.rounds_in-then-does_fit-2.ensures g m given zeros (few-of (c.in-Some.ensures) are)

pub does_fit-requires-3 : goal.does_fit-requires-3
does_fit-requires-3 c = (omega (arith, small-heads c.args.sizes.states c.args.sizes.letters (bounded c.requires.0.1).states-few (bounded c.requires.0.1).letters-few), omega arith)

pub rounds_in-requires-then-does_fit-3 : goal.rounds_in-requires-then-does_fit-3
rounds_in-requires-then-does_fit-3 c = (let na = c.in-Some.ensures in let fit = c.does_fit-3.ensures c.if-does_fit-3.true in (c.requires.0, c.requires.1, c.requires.2, refl, numbers_of na c.well_formed.1.1.1.0.1.1.1.0.1.0.1 c.well_formed.1.1.1.0.1.1.1.1.0.1.0.1 c.requires.3 refl, rooms-of 16 10240 256 8192 fit.0 fit.1 (omega arith) fit.2 refl refl refl (omega arith) (omega arith) (omega arith) (omega arith) (omega arith), (bounded c.requires.0.1).rows, omega arith))

pub returns-then-does_fit-3 : goal.returns-then-does_fit-3
returns-then-does_fit-3 c = λ g m given zeros are. c.rounds_in-then-does_fit-3.ensures g m given zeros (few-of (c.in-Some.ensures) are)

pub returns : goal.returns
returns c = λ g m given zeros are. c.walk_rounds-2.ensures g m given zeros
