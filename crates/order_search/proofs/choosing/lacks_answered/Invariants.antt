use Rattle.order_search.proofs.choosing.lacks_answered.Given as goal

abbrev pub invariant-loop-id : goal.invariant-loop-id
invariant-loop-id l = Unit {0}
