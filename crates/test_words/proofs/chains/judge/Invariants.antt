use Rattle.test_words.proofs.chains.judge.Given as goal

-- the name stands for this map
abbrev pub ghosts-seen_at : goal.ghosts-seen_at
ghosts-seen_at g a = record { map_id = record { table = a.board.shared.table_id; sizes = a.board.shared.key } }
