use Rattle.test_threads.proofs.containers.seats_lie_in_a_pool.Given as goal

-- the name stands for this runner
abbrev pub ghosts-pooled : goal.ghosts-pooled
ghosts-pooled g a = record { gate = a.runner.id }
