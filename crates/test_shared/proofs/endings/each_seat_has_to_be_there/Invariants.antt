use Rattle.test_shared.proofs.endings.each_seat_has_to_be_there.Given as goal

-- the name stands for this shared map
abbrev pub ghosts-finish_without_one : goal.ghosts-finish_without_one
ghosts-finish_without_one g a = record { map = a.map }
