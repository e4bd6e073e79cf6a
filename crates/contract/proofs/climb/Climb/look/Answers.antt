use Rattle.contract.proofs.climb.Climb.look.Goals as goal

pub look_at_branch-requires : goal.look_at_branch-requires
look_at_branch-requires c = rw (c.in-Some-Branch.ensures, c.in-Some-Branch.field-0-is) (tt {0})

pub look_at_branch-requires-in-None : goal.look_at_branch-requires-in-None
look_at_branch-requires-in-None c = rw c.in-None.ensures (tt {0})
