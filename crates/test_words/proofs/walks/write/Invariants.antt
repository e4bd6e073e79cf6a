use Rattle.test_words.proofs.walks.write.Given as goal

-- the name stands for this map
abbrev pub ghosts-walked : goal.ghosts-walked
ghosts-walked g a = record { map_id = record { table = a.board.shared.table_id; sizes = a.board.shared.key } }
