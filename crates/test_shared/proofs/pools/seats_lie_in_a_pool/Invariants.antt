use Rattle.test_shared.proofs.pools.seats_lie_in_a_pool.Given as goal

-- the name stands for this shared map
abbrev pub ghosts-pooled : goal.ghosts-pooled
ghosts-pooled g a = record { map = a.map }
