use Rattle.std.proofs.Common.{◌+◌}
use Rattle.ctrie_map.proofs.AllNamed.{none_free}
use Rattle.ctrie_map.proofs.names.Names.next_free.Goals as goal

pub returns-in-None-clause-none : goal.returns-in-None-clause-none
returns-in-None-clause-none c =
    rw (← c.self.view_is) (none_free c.self.inside.named.items (c.self.inside.last + 1) c.self.invariant.0 c.first_free.result c.first_free-in-None.result c.in-None.is
    (rw (← c.as_slice.ensures.value) c.first_free.ensures.none) (rw (← c.as_slice-in-None.ensures.value) c.first_free-in-None.ensures.none))
