use Rattle.test_words.proofs.mixed.write.Given as goal

-- the name stands for this map
abbrev pub ghosts-write_calls : goal.ghosts-write_calls
ghosts-write_calls g a = record { map_id = record { table = a.board.shared.table_id; sizes = a.board.shared.key } }
