use Rattle.test_words.proofs.freezes.judge.Given as goal

-- the name stands for this map
abbrev pub ghosts-refused_on : goal.ghosts-refused_on
ghosts-refused_on g a = record { map_id = record { table = a.board.shared.table_id; sizes = a.board.shared.key } }
