use Rattle.bench_words.proofs.running.run.Given as goal

-- the name stands for this map
abbrev pub ghosts-run_by : goal.ghosts-run_by
ghosts-run_by g a = record { map_id = record { table = a.board.shared.table_id; sizes = a.board.shared.key } }
