use Rattle.test_gate.proofs.pools.seats_lie_in_a_pool.Given as goal

-- the name stands for this gate
abbrev pub ghosts-pooled : goal.ghosts-pooled
ghosts-pooled g a = record { gate = a.gate.id }
