-- What a snapshot and a freeze come to.
use Rattle.std.specs.Prelude.{◌≡◌, ℕ, Option, Some, None, option_and_then, Result, Ok, Err, IfOk, IfErr}
use Rattle.std.specs.FinMap as map
use Rattle.std.proofs.Common.{refl, sym, ap, subst, ◌∙◌}
use Rattle.std.proofs.lemmas.Option.{same_Some}
use Rattle.ctrie_map.specs.Vocabulary.{hash_of, Access, Writable, ReadOnly, Call, Reply, Opened, NoSlots, map_of, naming, HandleMap, HandleState}
use Rattle.history.specs.declared.calls.Call.TheVariants as call
use Rattle.ctrie_map.specs.declared.errors.MapError.{MapError}
use Rattle.ctrie_map.specs.declared.errors.MapError.TheVariants as error
use Rattle.ctrie_map.specs.Changes.{Copies, HasLife, LacksSlots, Refuses}
use Rattle.ctrie_map.specs.Maps.{MapState, HasThen, Stays, handles_of}
use Rattle.ctrie_map.specs.Names.{IsNext}
use Rattle.ctrie_map.specs.Performing.{Answers, IsBegun, Performs, copying_any, effect_among}
use Rattle.ctrie_map.specs.Telling.{opened_in}
use Rattle.ctrie_map.proofs.Changing.{ComesTo, done_so, refused_so, told_of}
use Rattle.ctrie_map.proofs.Opened.{IsOpened, is_opened}

module _ (before : MapState) (h : ℕ) (access : Access) (c : Call)
    (is : (opens : Option ℕ) → effect_among (hash_of before.core.limits.hash) (handles_of before) c opens ≡ copying_any (handles_of before) h opens access) (after : MapState) where
  abbrev pub CopyDone : ℕ → Type 0
  CopyDone copy = HasLife before × Copies before h access copy after × IsNext before.names.last (handles_of before) copy

  abbrev pub CopyRefused : MapError → Type 0
  CopyRefused = Refuses before c ⊥ after

  data Way (answer : Reply) : Type 0 where
    wants : LacksSlots before c → Stays before after → answer ≡ NoSlots → Way answer
    does : (copy : ℕ) → Copies before h access copy after → IsNext before.names.last (handles_of before) copy → answer ≡ Opened copy → Way answer

  -- the handle is open
  by_shown : (number : ℕ) (next : HandleMap) (shown : Option HandleState) → map.get (handles_of before) h ≡ shown →
      IsOpened (handles_of before) (Some number) access (option_and_then (λ s. Some s.pairs) shown) (Opened number) next → HasThen before next number after →
      Copies before h access number after
  by_shown number next None at s has = cc s.at
  by_shown number next (Some shown) at s has =
      let same : shown.pairs ≡ s.m = same_Some shown.pairs s.m s.at in
      let is_number : s.copy ≡ number = cc s.told in (
        shown,
        at,
        ap (map.get (handles_of before)) (sym is_number) ∙ s.new,
        subst (λ w. HasThen before w number after)
            (s.there ∙ ap (λ n. naming (handles_of before) n access s.m) is_number ∙ ap (naming (handles_of before) number access) (sym same)) has,
      )

  opened_so : (answer : Reply) (opens : Option ℕ) (next : HandleMap) → effect_among (hash_of before.core.limits.hash) (handles_of before) c opens ≡ Some (answer, next) →
      IsOpened (handles_of before) opens access (map_of (handles_of before) h) answer next
  opened_so answer opens next effect_is = is_opened (handles_of before) opens access answer next (map_of (handles_of before) h) (sym (is opens) ∙ effect_is)

  way : (answer : Reply) → Answers before c answer after → Way answer
  way NoSlots p = wants p.0 p.1 refl
  way (Opened copy) (number, (next, effect, has)) =
      does copy (by_shown copy next (map.get (handles_of before) h) refl (opened_so (Opened copy) (Some copy) next effect) has) number refl
  way answer p = cc (opened_so answer p.0 p.1 p.2).told

  abbrev Comes : Result ℕ MapError → Type 0
  Comes = ComesTo CopyDone CopyRefused

  by_way : (answer : Reply) → IsBegun before c → Way answer → Comes (opened_in (Ok answer))
  by_way answer begun (wants lacks stays e) = subst (λ a. Comes (opened_in (Ok a))) (sym e) (begun.0, begun.1, lacks, stays)
  by_way answer begun (does copy copies number e) = subst (λ a. Comes (opened_in (Ok a))) (sym e) (begun.1, copies, number)

  by_error : (why : MapError) → Performs (Err why) before c after → Comes (Err why)
  by_error error.WornOut p = p
  by_error error.Full p = absurd (told_of before c error.Full p.0)
  by_error error.Crowded p = absurd (told_of before c error.Crowded p.0)
  by_error why p = p

  comes : (result : Result Reply MapError) → Performs result before c after → Comes (opened_in result)
  comes (Ok answer) p = by_way answer p.0 (way answer p.1)
  comes (Err why) p = by_error why p

  done_by : (result : Result Reply MapError) (told : Result ℕ MapError) → told ≡ opened_in result → Performs result before c after → IfOk told CopyDone
  done_by result told is p = done_so CopyDone CopyRefused (opened_in result) told is (comes result p)

  refused_by : (result : Result Reply MapError) (told : Result ℕ MapError) → told ≡ opened_in result → Performs result before c after → IfErr told CopyRefused
  refused_by result told is p = refused_so CopyDone CopyRefused (opened_in result) told is (comes result p)

  -- what is done, and its number
  copied_by : (told : Result ℕ MapError) → IfOk told CopyDone → IfOk told (λ copy. HasLife before × Copies before h access copy after)
  copied_by (Ok copy) p = (p.0, p.1)
  copied_by (Err why) p = tt

  next_by : (told : Result ℕ MapError) → IfOk told CopyDone → IfOk told (IsNext before.names.last (handles_of before))
  next_by (Ok copy) p = p.2
  next_by (Err why) p = tt

-- ---- the two

module _ (before : MapState) (h : ℕ) (after : MapState) (result : Result Reply MapError) (told : Result ℕ MapError) (e : told ≡ opened_in result) where
  pub snapshot_done : Performs result before (call.Snapshot h) after → IfOk told (λ copy. HasLife before × Copies before h Writable copy after)
  snapshot_done p = copied_by before h Writable (call.Snapshot h) (λ o. refl) after told (done_by before h Writable (call.Snapshot h) (λ o. refl) after result told e p)

  pub snapshot_next : Performs result before (call.Snapshot h) after → IfOk told (IsNext before.names.last (handles_of before))
  snapshot_next p = next_by before h Writable (call.Snapshot h) (λ o. refl) after told (done_by before h Writable (call.Snapshot h) (λ o. refl) after result told e p)

  pub snapshot_refused : Performs result before (call.Snapshot h) after → IfErr told (Refuses before (call.Snapshot h) ⊥ after)
  snapshot_refused p = refused_by before h Writable (call.Snapshot h) (λ o. refl) after result told e p

  pub freeze_done : Performs result before (call.Freeze h) after → IfOk told (λ copy. HasLife before × Copies before h ReadOnly copy after)
  freeze_done p = copied_by before h ReadOnly (call.Freeze h) (λ o. refl) after told (done_by before h ReadOnly (call.Freeze h) (λ o. refl) after result told e p)

  pub freeze_next : Performs result before (call.Freeze h) after → IfOk told (IsNext before.names.last (handles_of before))
  freeze_next p = next_by before h ReadOnly (call.Freeze h) (λ o. refl) after told (done_by before h ReadOnly (call.Freeze h) (λ o. refl) after result told e p)

  pub freeze_refused : Performs result before (call.Freeze h) after → IfErr told (Refuses before (call.Freeze h) ⊥ after)
  freeze_refused p = refused_by before h ReadOnly (call.Freeze h) (λ o. refl) after result told e p
