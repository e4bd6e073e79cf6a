use Rattle.lock_free.proofs.glancing.begin.Given as goal

abbrev pub ghosts-begin_as : goal.ghosts-begin_as
ghosts-begin_as a = record { call = a.call.now }
