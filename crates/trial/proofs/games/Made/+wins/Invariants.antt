use Rattle.trial.proofs.games.Made.+wins.Given as goal

-- `Made::wins` ends and is safe. It calls itself with a depth that is one less, which is the measure, and only where the depth
-- is not 0.
-- Assumes nothing.
abbrev pub decreases-wins : goal.decreases-wins
decreases-wins l = l.depth

abbrev pub invariant-loop-rule : goal.invariant-loop-rule
invariant-loop-rule l = Unit {0}
