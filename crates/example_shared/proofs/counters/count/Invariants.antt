use Rattle.example_shared.proofs.counters.count.Given as goal

-- the name stands for this shared map
abbrev pub ghosts-count_by : goal.ghosts-count_by
ghosts-count_by g a = record { map = a.map }
