-- A seat of several actors is split.
use Rattle.std.specs.Prelude.{◌-◌}
use Rattle.lock_free.specs.declared.rules.View.{View}
use Rattle.lock_free.specs.FirstViews.{idle_view}

-- what is left of a seat whose last actor gets a seat of its own, and that one
abbrev pub without_last : View → View
without_last v = record v { last = v.last - 1 }

abbrev pub of_last : View → View
of_last v = idle_view v.sizes v.last v.last v.account
