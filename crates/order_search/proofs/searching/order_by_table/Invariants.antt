-- The way is one, and it is known whether what it has placed is a legal order.
use Rattle.std.proofs.Common.{◌↔◌, IsTrue}
use Rattle.order_search.specs.Vocabulary.{hash_of, IsLegal}
use Rattle.order_search.specs.States.{AreFailures}
use Rattle.order_search.specs.Walks.{IsWayOf}
use Rattle.order_search.proofs.searching.order_by_table.Given as goal

abbrev pub invariant-loop : goal.invariant-loop
invariant-loop l =
    IsWayOf (hash_of l.hash) l.events l.way × (IsTrue l.legal ↔ IsLegal (hash_of l.hash) l.events l.way.ids.items)
    × AreFailures (hash_of l.hash) l.events l.failures
