use Rattle.std.proofs.Common.{◌≡◌, ℕ, ◌≤◌, ◌+◌, drop, length}
use Rattle.lock_free.specs.Rules.{pool_of}
use Rattle.lock_free.specs.Stocks.{put_back}
use Rattle.lock_free.proofs.stock.Stock.give_back.Given as goal

abbrev pub invariant-loop-n : goal.invariant-loop-n
invariant-loop-n l =
    (l.self-inside.sizes ≡ l.initial.self-inside.sizes) × (l.self-inside.limbo ≡ l.initial.self-inside.limbo) × (l.self-inside.made.items ≡ l.initial.self-inside.made.items)
    × (put_back (drop l.n l.self-inside.made.items) l.self-inside.free ≡ put_back l.initial.self-inside.made.items l.initial.self-inside.free)
    × ((class : ℕ) → length (pool_of l.self-inside.free class) ≤ length (pool_of l.initial.self-inside.free class) + l.n)
    × (l.n-end ≡ length l.self-inside.made.items) × (l.n ≤ l.n-end)
