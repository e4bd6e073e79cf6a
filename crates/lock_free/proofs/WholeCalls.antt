-- A call in a number of tries begins.
use Rattle.std.proofs.Common.{◌≡◌, ℕ, false, is_some, Option, Ok, refl, ap}
use Rattle.history.specs.declared.calls.Call.{Call}
use Rattle.history.specs.declared.calls.Call.TheVariants.{Get, Put, PutIfAbsent, Replace, ReplaceIf, Remove, RemoveIf, Clear, Snapshot, Freeze, Close, Entries, Count}
use Rattle.machine_model.specs.declared.operations.Operation.{Operation}
use Rattle.machine_model.specs.Calls.{copies, is_close, opens_handle}
use Rattle.machine_model.specs.Lines.{new_try}
use Rattle.machine_model.specs.Operations.{first_line}
use Rattle.lock_free.specs.declared.reading.Way.{Way}
use Rattle.lock_free.specs.declared.rules.View.{View}
use Rattle.lock_free.specs.Attempts.{IsKeyed, IsTried}
use Rattle.lock_free.specs.BegunCalls.{IsReadyFor}
use Rattle.lock_free.specs.Calling.{HasCalled}
use Rattle.lock_free.specs.Holding.{IsOn}
use Rattle.lock_free.specs.Loading.{Runs}
use Rattle.lock_free.specs.Seeking.{IsCalled}
use Rattle.lock_free.specs.WholeCalls.{RestsWith}
use Rattle.lock_free.proofs.CallBegins as call
use Rattle.lock_free.proofs.Comings.{runs_one}

-- it opens no handle, copies nothing and closes nothing
pub keyed_plain : (c : Call) → IsKeyed c → (opens_handle c ≡ false) × (copies c ≡ false) × (is_close c ≡ false)
keyed_plain (Get h k) keyed = (refl, refl, refl)
keyed_plain (Put h k v) keyed = (refl, refl, refl)
keyed_plain (PutIfAbsent h k v) keyed = (refl, refl, refl)
keyed_plain (Replace h k v) keyed = (refl, refl, refl)
keyed_plain (ReplaceIf h k a b) keyed = (refl, refl, refl)
keyed_plain (Remove h k) keyed = (refl, refl, refl)
keyed_plain (RemoveIf h k v) keyed = (refl, refl, refl)
keyed_plain (Clear h) keyed = absurd keyed
keyed_plain (Snapshot h) keyed = absurd keyed
keyed_plain (Freeze h) keyed = absurd keyed
keyed_plain (Close h) keyed = absurd keyed
keyed_plain (Entries h) keyed = absurd keyed
keyed_plain (Count h) keyed = absurd keyed

-- it may be tried
pub keyed_tried : (c : Call) → IsKeyed c → IsTried c
keyed_tried (Get h k) keyed = keyed
keyed_tried (Put h k v) keyed = keyed
keyed_tried (PutIfAbsent h k v) keyed = keyed
keyed_tried (Replace h k v) keyed = keyed
keyed_tried (ReplaceIf h k a b) keyed = keyed
keyed_tried (Remove h k) keyed = keyed
keyed_tried (RemoveIf h k v) keyed = keyed
keyed_tried (Clear h) keyed = absurd keyed
keyed_tried (Snapshot h) keyed = absurd keyed
keyed_tried (Freeze h) keyed = absurd keyed
keyed_tried (Close h) keyed = absurd keyed
keyed_tried (Entries h) keyed = absurd keyed
keyed_tried (Count h) keyed = absurd keyed

-- one that may be tried begins with a new try, and closes nothing
pub tried_plain : (c : Call) → IsTried c → (first_line c ≡ new_try) × (is_close c ≡ false)
tried_plain (Get h k) tried = (refl, refl)
tried_plain (Put h k v) tried = (refl, refl)
tried_plain (PutIfAbsent h k v) tried = (refl, refl)
tried_plain (Replace h k v) tried = (refl, refl)
tried_plain (ReplaceIf h k a b) tried = (refl, refl)
tried_plain (Remove h k) tried = (refl, refl)
tried_plain (RemoveIf h k v) tried = (refl, refl)
tried_plain (Clear h) tried = (refl, refl)
tried_plain (Snapshot h) tried = (refl, refl)
tried_plain (Freeze h) tried = (refl, refl)
tried_plain (Close h) tried = absurd tried
tried_plain (Entries h) tried = absurd tried
tried_plain (Count h) tried = absurd tried

module _ (v : View) (opens : Option ℕ) (rests : RestsWith v opens) (c : Call) where
  pub tried_ready : IsTried c → opens_handle c ≡ is_some opens → IsReadyFor v c
  tried_ready tried number = record { opens = opens; rests = rests; number = number; stays = (tried_plain c tried).1 }

  -- it has begun
  module _ (way : Way) (begun : View) (h : HasCalled v c (Ok way) begun) where
    abbrev first : Operation
    first = call.first v opens rests c way begun h

    runs_first : Runs begun first
    runs_first = call.runs_first v opens rests c way begun h

    pub begun_try : IsTried c → IsOn begun new_try
    begun_try tried = (first, runs_first, (tried_plain c tried).0)

    pub begun_called : IsCalled begun c way.access
    begun_called o r = (ap (λ (z : Operation). z.call) (runs_one begun o first r runs_first), (h.3 o r).0)
