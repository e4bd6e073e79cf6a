-- Why a call is refused fits it.
use Rattle.std.proofs.Common.{◌≡◌, ◌∷◌, [], ℕ, Bool, true, false, ◌&&◌, ◌||◌, Option, None, Some, Result, IfErr, refl, sym, ap, subst, arith}
use Rattle.std.proofs.lemmas.Bool.{true≢false}
use Rattle.std.proofs.lemmas.Option.{same_Some}
use Rattle.history.specs.declared.calls.Access.TheVariants.{Writable, ReadOnly}
use Rattle.history.specs.declared.calls.Call.{Call}
use Rattle.history.specs.declared.calls.Call.TheVariants.{Get, Put, PutIfAbsent, Replace, ReplaceIf, Remove, RemoveIf, Clear, Snapshot, Freeze, Close, Entries, Count}
use Rattle.history.specs.declared.replies.Reply.{Reply}
use Rattle.history.specs.declared.replies.Reply.TheVariants as reply
use Rattle.history.specs.Effects.{map_of, remove_if_in, remove_in, replace_if_in, replace_in, Effect}
use Rattle.history.specs.Worlds.{HandleMap}
use Rattle.std.specs.FinMap as map
use Rattle.machine_model.specs.Beneath.ctrie_base.specs.declared.refusals.Refusal.{Refusal}
use Rattle.machine_model.specs.Beneath.ctrie_base.specs.declared.refusals.Refusal.TheVariants as refuse
use Rattle.machine_model.specs.Calls.{inserts, is_close, needs_read_only, needs_writable}
use Rattle.machine_model.specs.Machine.{first_reason}
use Rattle.lock_free.specs.declared.call_errors.CallError.{CallError}
use Rattle.lock_free.specs.declared.call_errors.CallError.TheVariants as error
use Rattle.lock_free.specs.declared.calling.Denial.{Denial}
use Rattle.lock_free.specs.declared.calling.Denial.TheVariants as denial
use Rattle.lock_free.specs.declared.rules.View.{View}
use Rattle.lock_free.specs.Answering.{HasAnswered}
use Rattle.lock_free.specs.Attempts.{IsTried}
use Rattle.lock_free.specs.BegunCalls.{WasDeniedSo}
use Rattle.lock_free.specs.Calling.{is_denied, IsRefused}
use Rattle.lock_free.specs.KeyReplies.{FitsError}
use Rattle.lock_free.specs.Loading.{IsSound}
use Rattle.lock_free.specs.SeatCalls.{error_of, told_by, IsLackOf}
use Rattle.lock_free.specs.Telling.{SeatsAreExplained}
use Rattle.lock_free.specs.UnderWay.{HasReplied}
use Rattle.lock_free.proofs.KeyKinds.{and_then, changed_so, copied_so, reply_so}
use Rattle.lock_free.proofs.WholeCalls.{tried_plain}

-- ---- as the definition denies it

module _ (a b c d e f g h : Bool) where
  abbrev reason : Option Refusal
  reason = first_reason (
      (a, refuse.NoActor) ∷ (b, refuse.ActorBusy) ∷ (c, refuse.NoHandle) ∷ (d, refuse.ReadOnly) ∷ (e, refuse.NotReadOnly) ∷ (f, refuse.Busy) ∷ (g, refuse.HandlesFull)
      ∷ (h, refuse.Spent) ∷ [])

  pub no_handle_by : reason ≡ Some refuse.NoHandle → c ≡ true
  no_handle_by is = grind (arith, is)

  pub writes_by : reason ≡ Some refuse.ReadOnly → d ≡ true
  writes_by is = grind (arith, is)

  pub reads_by : reason ≡ Some refuse.NotReadOnly → e ≡ true
  reads_by is = grind (arith, is)

  -- or has none to deny it
  pub open_by : reason ≡ None → c ≡ false
  open_by is = grind (arith, is)

  pub unread_by : reason ≡ None → e ≡ false
  unread_by is = grind (arith, is)

both_first : (a b : Bool) → (a && b) ≡ true → a ≡ true
both_first true b e = refl
both_first false b e = e

refused_fits : (v : View) (c : Call) (why : Denial) (x : View) → IsRefused v c why x → FitsError c (error_of why)
refused_fits v c denial.NoHandle x h = tt
refused_fits v c denial.ReadOnly x (is_denied w at (s, is)) = both_first (needs_writable c) _ (writes_by _ _ _ _ _ _ _ _ is)
refused_fits v c denial.NotReadOnly x (is_denied w at (s, is)) = both_first (needs_read_only c) _ (reads_by _ _ _ _ _ _ _ _ is)

pub denied_fits : (v : View) (c : Call) (why : CallError) (x : View) → WasDeniedSo v c why x → FitsError c why
denied_fits v c why x (denial, is, (pin, at, refused, left)) = subst (FitsError c) (sym is) (refused_fits _ c denial at refused)

-- ---- as it is answered

-- the reply isn't that its key is crowded
abbrev HasRoom : Reply → Type 0
HasRoom reply.Crowded = ⊥
HasRoom answer = Unit {0}

effect_has_room : (hash : ℕ → ℕ) (w next : HandleMap) (c : Call) (opens : Option ℕ) (answer : Reply) → IsTried c → inserts c ≡ false → Effect hash w c opens answer next → HasRoom answer
effect_has_room hash w next (Get h k) opens answer tried plain e =
    let x = and_then _ (map_of w h) (answer, next) e in subst HasRoom (ap (λ (p : Reply × HandleMap). p.0) (same_Some _ (answer, next) x.1)) tt
effect_has_room hash w next (Put h k v) opens answer tried plain e = absurd (true≢false plain)
effect_has_room hash w next (PutIfAbsent h k v) opens answer tried plain e = absurd (true≢false plain)
effect_has_room hash w next (Replace h k v) opens answer tried plain e = changed_so HasRoom w next h answer (λ m. replace_in m k v) e (λ m. tt)
effect_has_room hash w next (ReplaceIf h k a b) opens answer tried plain e = changed_so HasRoom w next h answer (λ m. replace_if_in m k a b) e (λ m. tt)
effect_has_room hash w next (Remove h k) opens answer tried plain e = changed_so HasRoom w next h answer (λ m. remove_in m k) e (λ m. tt)
effect_has_room hash w next (RemoveIf h k v) opens answer tried plain e = changed_so HasRoom w next h answer (λ m. remove_if_in m k v) e (λ m. tt)
effect_has_room hash w next (Clear h) opens answer tried plain e = changed_so HasRoom w next h answer (λ m. (reply.Cleared, map.empty)) e (λ m. tt)
effect_has_room hash w next (Snapshot h) opens answer tried plain e = let x = copied_so w next h opens Writable answer e in subst HasRoom (sym x.2) tt
effect_has_room hash w next (Freeze h) opens answer tried plain e = let x = copied_so w next h opens ReadOnly answer e in subst HasRoom (sym x.2) tt
effect_has_room hash w next (Close h) opens answer tried plain e = absurd tried
effect_has_room hash w next (Entries h) opens answer tried plain e = absurd tried
effect_has_room hash w next (Count h) opens answer tried plain e = absurd tried

-- the reply isn't that no slot was had
abbrev IsFound : Reply → Type 0
IsFound reply.NoSlots = ⊥
IsFound answer = Unit {0}

module _ (n : ℕ) (before after : View) (sound : IsSound n after) (explained : SeatsAreExplained) (c : Call) (tried : IsTried c) (opens : Option ℕ) where
  crowded_inserts : HasAnswered before c opens reply.Crowded after → inserts c ≡ true
  crowded_inserts h = by (inserts c) refl
    where
      by : (b : Bool) → inserts c ≡ b → inserts c ≡ true
      by true is = is
      by false is =
          absurd (reply_so n before after sound explained c opens reply.Crowded h HasRoom (λ hash w next a. effect_has_room hash w next c opens a tried is) (λ e. subst IsFound e tt))

  lacks_fit : (c : Call) → IsTried c → (lack : CallError) → IsLackOf c lack → FitsError c lack
  lacks_fit c tried error.Full lacks = by c tried
    where
      by : (c : Call) → IsTried c → (needs_read_only c || is_close c) ≡ false
      by (Close h) tried = absurd tried
      by (Entries h) tried = absurd tried
      by (Count h) tried = absurd tried
      by c tried = refl
  lacks_fit c tried error.WornOut lacks = lacks
  lacks_fit c tried error.Spent lacks = (tried_plain c tried).1
  lacks_fit c tried why lacks = absurd lacks

  pub replied_fits : (told : Result Reply CallError) → HasReplied before c opens told after → IfErr told (FitsError c)
  replied_fits told h = subst (λ t. IfErr t (FitsError c)) (sym h.is) (by h.answer h.its)
    where
      by : (answer : Reply) → HasAnswered before c opens answer after → IfErr (told_by answer h.lack) (FitsError c)
      by reply.Crowded its = crowded_inserts its
      by reply.NoSlots its = lacks_fit c tried h.lack h.lacks
      by (reply.Found value) its = tt
      by (reply.Truth truth) its = tt
      by (reply.Opened handle) its = tt
      by reply.Closed its = tt
      by reply.Cleared its = tt
      by (reply.Pairs pairs) its = tt
      by (reply.Count count) its = tt
