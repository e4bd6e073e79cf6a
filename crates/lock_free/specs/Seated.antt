-- A seat between two calls, as contracts see it.
use Rattle.std.specs.Prelude.{◌≡◌, ◌≤◌, ◌+◌, ℕ, None}
use Rattle.atomic_table.specs.Seated.{TableId}
use Rattle.lock_free.specs.declared.rules.View.{View}
use Rattle.lock_free.specs.Accounts.{HasWaited}
use Rattle.lock_free.specs.Answers.{silent, talk_at}
use Rattle.lock_free.specs.Loading.{IsSound}
use Rattle.lock_free.specs.SeatWords.{IsIdle}
use Rattle.lock_free.specs.Stocks.{Stocked, IsStock}
use Rattle.lock_free.specs.Telling.{GoesOn}

-- the words at which it is, and what it knows of them
pub record Seated : Type 0 where
  pub table : TableId
  pub view : View

-- it runs nothing, is pinned nowhere, and has reserved nothing
pub record IsResting (v : View) : Type 0 where
  pub idle : IsIdle v
  pub pin : v.pin ≡ None
  pub entered : v.entered ≡ None
  pub opens : v.opens ≡ None

-- its actors are among those of the map
pub record HasActors (v : View) : Type 0 where
  pub low : 1 ≤ v.actor
  pub top : v.actor ≤ v.last
  pub most : v.last ≤ v.sizes.seats

-- what it has in plain memory is what it knows
pub record IsSeated (words : ℕ) (v : View) (number last : ℕ) (stock : Stocked) : Type 0 where
  pub sound : IsSound words v
  pub rests : IsResting v
  pub actors : HasActors v
  pub its : v.actor ≡ number
  pub its_last : v.last ≡ last
  pub owns : IsStock stock v

-- the same seat later: it has all that it had seen, and more
pub record HasGoneOn (before after : Seated) : Type 0 where
  pub table : after.table ≡ before.table
  pub sizes : after.view.sizes ≡ before.view.sizes
  pub actor : after.view.actor ≡ before.view.actor
  pub last : after.view.last ≡ before.view.last
  pub goes_on : GoesOn before.view.account.steps after.view.account.steps

-- the last of its actors has a seat of its own
pub record HasSplit (before left right : Seated) : Type 0 where
  pub table : left.table ≡ before.table
  pub sizes : left.view.sizes ≡ before.view.sizes
  pub actor : left.view.actor ≡ before.view.actor
  pub last : left.view.last + 1 ≡ before.view.last
  pub goes_on : GoesOn before.view.account.steps left.view.account.steps
  -- nothing was told it by this
  pub waited : HasWaited before.view.actor before.view.account left.view.account
  pub other_table : right.table ≡ before.table
  pub other_sizes : right.view.sizes ≡ before.view.sizes
  pub other_actor : right.view.actor ≡ before.view.last
  pub other_last : right.view.last ≡ before.view.last
  pub other_goes_on : GoesOn before.view.account.steps right.view.account.steps
  -- it was told nothing so far
  pub other_silent : talk_at right.view right.view.actor ≡ silent
