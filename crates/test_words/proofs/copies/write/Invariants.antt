use Rattle.test_words.proofs.copies.write.Given as goal

-- the name stands for this map
abbrev pub ghosts-copied : goal.ghosts-copied
ghosts-copied g a = record { map_id = record { table = a.board.shared.table_id; sizes = a.board.shared.key } }
