use Rattle.example_shared.proofs.registry.run.Given as goal

-- the name stands for this shared map
abbrev pub ghosts-run_by : goal.ghosts-run_by
ghosts-run_by g a = record { map = a.map }
