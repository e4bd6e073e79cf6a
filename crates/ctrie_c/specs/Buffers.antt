-- What a call writes into the caller's buffer.
use Rattle.std.specs.Prelude.{◌≡◌, List, ◌++◌, length, take, drop}

-- as many of these rows as there is room for stand at the front of the buffer, and what lies behind them is as it was
abbrev pub Fills : {A : Type 0} → List A → List A → List A → Type 0
Fills rows before after = after ≡ take (length before) rows ++ drop (length rows) before
