-- Which calls a world answers without memory that may be refused.
use Rattle.history.specs.declared.calls.Call.{Call}
use Rattle.history.specs.declared.calls.Call.TheVariants.{Get, Remove, RemoveIf, Clear, Close, Count}

-- the call takes no memory: it looks at a map, or lets go of what is there
abbrev pub TakesNone : Call → Type 0
TakesNone (Get h k) = Unit {0}
TakesNone (Remove h k) = Unit {0}
TakesNone (RemoveIf h k v) = Unit {0}
TakesNone (Clear h) = Unit {0}
TakesNone (Close h) = Unit {0}
TakesNone (Count h) = Unit {0}
TakesNone call = ⊥
