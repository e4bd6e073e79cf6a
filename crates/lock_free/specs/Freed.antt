-- Which of the slots that a seat has retired are free again for sure.
use Rattle.std.specs.Prelude.{◌≡◌, ◌≢◌, ◌+◌, ◌<◌, ◌≤◌, ℕ, Contains, Some}
use Rattle.lock_free.specs.declared.limbo.Chain.{Chain}
use Rattle.lock_free.specs.declared.limbo.Limbo.{Limbo}
use Rattle.lock_free.specs.declared.rules.Retired.{Retired}
use Rattle.lock_free.specs.declared.rules.View.{View}
use Rattle.lock_free.specs.declared.reclaiming.Kind.TheVariants.{Replaced}
use Rattle.lock_free.specs.Limbos.{chains_of, turned}
use Rattle.lock_free.specs.Rules.{pool_of, IsFree}
use Rattle.lock_free.specs.Stocks.{Stocked}

-- room for so many of a class is left where slots of that class are free again that were retired
abbrev pub kept_free : ℕ
kept_free = 48

-- the chain from which slots of replaced nodes of this class go next
abbrev pub next_chain : Limbo → ℕ → Chain
next_chain limbo class = (turned (chains_of limbo Replaced class).aged.first (chains_of limbo Replaced class)).aged

-- the first slot of this chain is free then
abbrev pub FreesFirst : Chain → View → View → Type 0
FreesFirst chain before after = (x : Retired) → Contains before.retired x → chain.first ≡ Some x.name → IsFree after x.class x.name

-- where its epoch is three back
abbrev pub FreesRipe : Chain → ℕ → View → View → Type 0
FreesRipe chain epoch before after = chain.stamp + 3 ≤ epoch → FreesFirst chain before after

-- replaced nodes of all other classes hang as they did, and as many slots of them are free
abbrev pub KeepsOthers : ℕ → Limbo → Stocked → Limbo → Stocked → Type 0
KeepsOthers class limbo stock limbo_then stock_then =
    (limbo_then.seen ≡ limbo.seen) × (stock_then.made ≡ stock.made)
    × ((other : ℕ) → other < 3 → other ≢ class → (chains_of limbo_then Replaced other ≡ chains_of limbo Replaced other) × (pool_of stock_then.pool other ≡ pool_of stock.pool other))
