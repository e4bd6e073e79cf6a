-- What a seat knows first.
use Rattle.std.specs.Prelude.{ℕ, [], None}
use Rattle.lock_free.specs.declared.accounts.Account.{Account}
use Rattle.lock_free.specs.declared.rules.View.{View}
use Rattle.lock_free.specs.declared.sizes.Sizes.{Sizes}
use Rattle.lock_free.specs.Rules.{first_account, no_slots, none_checked}

-- the view of a seat that has these actors and no slots, and makes no call
abbrev pub idle_view : Sizes → ℕ → ℕ → Account → View
idle_view sizes actor last account = record {
  sizes = sizes;
  actor = actor;
  last = last;
  account = account;
  pin = None;
  asks = None;
  entered = None;
  closing = [];
  epoch = 0;
  passed = none_checked;
  opens = None;
  opening = None;
  offer = None;
  pool = no_slots;
  drafts = [];
  retired = [];
  owed = [];
  links = [];
  plain = [];
  heard = [];
  glance = None;
}

abbrev pub first_view : Sizes → View
first_view sizes = idle_view sizes 1 sizes.seats (first_account sizes)
