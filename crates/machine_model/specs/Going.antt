-- How many steps of an operation are taken in one go, where it is to be brought to its end.
use Rattle.std.specs.Prelude.{ℕ}

abbrev pub go_limit : ℕ
go_limit = 16384
