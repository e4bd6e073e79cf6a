-- A seat that holds other references itself is a seat still: the rule says of these elsewhere what it says of them.
use Rattle.std.proofs.Common.{ℕ, List}
use Rattle.lock_free.specs.declared.accounts.Account.{Account}
use Rattle.lock_free.specs.declared.rules.View.{View}
use Rattle.lock_free.specs.declared.sizes.Sizes.{Sizes}
use Rattle.lock_free.specs.Loading.{IsSound}
use Rattle.lock_free.specs.Owing.{owing}
use Rattle.lock_free.specs.Rules.{IsSeat, Standing}

pub seat_owing : (sizes : Sizes) (account : Account) (stands : Standing) (words : List ℕ) (v : View) (owed : List ℕ) → IsSeat sizes account stands words v → IsSeat sizes account stands words
    (owing v owed)
seat_owing sizes account stands words v owed h = record {
  same = h.same;
  low = h.low;
  top = h.top;
  most = h.most;
  waited = h.waited;
  counts = h.counts;
  rested = h.rested;
  rests = h.rests;
  pinned = h.pinned;
  pinned_idle = h.pinned_idle;
  retired = h.retired;
  entered = h.entered;
  calls = h.calls;
  opens = h.opens;
  reserves = h.reserves;
  opening = λ handle slot o n. (let y = h.opening handle slot o n in record { low = y.low; fits = y.fits; is = y.is; free = y.free });
  spare = h.spare;
  once = h.once;
  drafts = h.drafts;
  plain = h.plain;
  offering = h.offering;
}

pub owing_sound : (words : ℕ) (v : View) (owed : List ℕ) → IsSound words v → IsSound words (owing v owed)
owing_sound words v owed h = record { size = h.size; range = h.range; bounds = h.bounds; keys = h.keys; counted = h.counted; inside = h.inside; free = h.free }
