-- The end of a map: its seats are brought together.
use Rattle.history.specs.declared.calls.Call.{Call}
use Rattle.std.specs.Prelude.{◌≡◌, ◌<◌, ◌≤◌, ℕ, [], ◌∷◌, Contains, List, None, All}
use Rattle.atomic_table.specs.Table.{Me, Step}
use Rattle.machine_model.specs.Beneath.ctrie_base.specs.declared.hashes.HashKind.TheVariants.{Low}
use Rattle.lock_free.specs.declared.accounts.Account.{Account}
use Rattle.lock_free.specs.declared.rules.Heard.{Heard}
use Rattle.lock_free.specs.declared.rules.View.{View}
use Rattle.lock_free.specs.declared.sizes.Sizes.{Sizes}
use Rattle.lock_free.specs.Accounts.{HasWaited}
use Rattle.lock_free.specs.Answers.{silent, talk_of}
use Rattle.lock_free.specs.Loading.{HasSeen}
use Rattle.lock_free.specs.FirstViews.{idle_view}
use Rattle.lock_free.specs.Rules.{no_slots}
use Rattle.lock_free.specs.Telling.{history_of, GoesOn, IsExplainedSoFar}

-- by a load that is no step the seat gives back whatever slots of the table it has; there are none
abbrev pub has_emptied : Step Call → Me Call View → ℕ → Me Call View → Type 0
has_emptied step before found after = HasSeen before.0 step.word found after.0 × (after.1 ≡ [])

-- ---- a seat that is given up

abbrev pub no_sizes : Sizes
no_sizes = record { seats = 0; hash = Low; small = 0; medium = 0; wide = 0 }

-- nobody's view
abbrev pub no_view : View
no_view = idle_view no_sizes 0 0 (record { steps = []; names = []; owned = []; offered = []; offers = []; parted = [] })

-- the account without its offers, of which only who is in a call knows
abbrev pub unoffered : Account → Account
unoffered account = record account { offered = []; offers = [] }

-- what is left of the seat, by which no access is made: no slot is free for it, none is retired, and it holds no reference
abbrev pub gone : View → View
gone w = record w { sizes = no_sizes; account = unoffered w.account; offer = None; pool = no_slots; drafts = []; retired = []; owed = []; links = [] }

-- what is known of it
abbrev pub seen_by : View → Account → Heard
seen_by w account = record { actor = w.actor; last = w.last; account = account }

-- a seat that has heard of it
abbrev pub hearing : View → View → View
hearing v w = record v { heard = seen_by w (unoffered w.account) ∷ v.heard }

-- It has heard of the seat, whose actor has taken no step since it had seen what it has.
pub record HasHeard (v w : View) : Type 0 where
  pub account : Account
  pub it : Contains v.heard (seen_by w (unoffered account))
  pub waited : HasWaited w.actor w.account account

-- it is what it was, but for whom it has heard of: so of all before, and maybe of more
pub record HasHeardMore (v w : View) : Type 0 where
  pub is : w ≡ record v { heard = w.heard }
  pub all : (h : Heard) → Contains v.heard h → Contains w.heard h

-- ---- all seats

-- There is one history that has all that these seats have seen, and an order that explains it.
pub record IsTold (sizes : Sizes) (views : List View) : Type 0 where
  pub account : Account
  pub explained : IsExplainedSoFar sizes account
  -- in it stands, at the same places, all that each has seen
  pub told : All (λ v. GoesOn (history_of sizes v.account) (history_of sizes account)) views
  -- and what its actor was answered there, in its own order, and what it runs, is what the seat has seen
  pub talks : All (λ v. talk_of v.actor (history_of sizes account) ≡ talk_of v.actor (history_of sizes v.account)) views
  -- the actors after it were told nothing
  pub rested : All (λ v. (a : ℕ) → v.actor < a → a ≤ v.last → talk_of a (history_of sizes account) ≡ silent) views
