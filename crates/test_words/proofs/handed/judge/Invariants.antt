use Rattle.test_words.proofs.handed.judge.Given as goal

-- the name stands for this map
abbrev pub ghosts-wrong_on : goal.ghosts-wrong_on
ghosts-wrong_on g a = record { map_id = record { table = a.board.shared.table_id; sizes = a.board.shared.key } }
