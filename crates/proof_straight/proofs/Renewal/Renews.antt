-- The law on renewals.
use Rattle.std.proofs.Common.{◌≡◌, ℕ, zero, suc, ◌+◌, ◌*◌, ◌<◌, ◌≤◌, ◌==◌, ◌&&◌, Bool, true, false, not, is_some, nat_le, List, [], ◌∷◌, length, Option, Some, None, refl, sym, ap, ◌∙◌, subst, arith}
use Rattle.std.proofs.lemmas.Bool.{lt-leb}
use Rattle.arrayvec.specs.ArrayVec.{ArrayVec}
use Rattle.proof_straight.specs.Vocabulary.{Refusal, Call, Reply, Indirection, Ref, IsLive, Heap, main_at, node_at, prev_at, generation_at, slot_of, Operation, handle_of, is_close, key_of}
use Rattle.proof_straight.specs.Vocabulary.{needs_read_only, needs_writable, opens_handle, access_of, begin_denial, begun_operation, first_reason, handles_taken, is_access, is_actor, is_running}
use Rattle.proof_straight.specs.Vocabulary.{runs_on, Record, State, handle_limit, key_hash, root_at, Zeroed, Access, ReadOnly, Writable}
use Rattle.proof_straight.specs.Beneath.ctrie_base.specs.declared.refusals.Refusal.TheVariants as refuse
use Rattle.machine_model.specs.declared.finding.KeyLine.TheVariants as key
use Rattle.machine_model.specs.declared.lines.Line.TheVariants as line
use Rattle.proof_straight.specs.Drafts.{first_draft}
use Rattle.proof_straight.specs.Places.{ComesDown, HasEntry, Leads, entry_for}
use Rattle.proof_straight.specs.Renewals.{AreRenewable, RenewsStraight, renewal_slots, renewal_steps, renewed_in, renewed_record, renewed_state, steps_of_renewal, with_renewal}
use Rattle.proof_straight.specs.Running.{ComesTo, GoesAlone, IsKeyed, IsReady, IsRecordOf}
use Rattle.proof_straight.proofs.Steps.Alone.{Alone, IsCalm, on_line, stand}
use Rattle.proof_straight.proofs.Way.Descent.{IsBefore, comes_down, path_along, path_is_along, rooted}
use Rattle.proof_straight.proofs.Steps.Going.{begun_record}
use Rattle.proof_straight.proofs.Steps.Noting.{with_read}
use Rattle.proof_straight.proofs.Renewal.RenewalNoted.{renewal_noted, same_opens}
use Rattle.proof_straight.proofs.Renewal.RenewedCall.{all_renewed, before, decided_now, generation_now, indirection_is, indirections_now, main_now, now_rests, reads_branch, stays_now, swapped_noted}
use Rattle.proof_straight.proofs.Way.Rooted.{alone_at, calm_at, comes_keyed, keyed_open, keyed_opens}
use Rattle.proof_straight.proofs.Way.Seeking.{at_main, looked}
use Rattle.proof_straight.proofs.Renewal.Transplants.{ends_alike}
use Rattle.proof_straight.proofs.Way.Unchanged.{fits_at, no_actor}
use Rattle.proof_straight.proofs.Way.Ways.{leads_stays}

-- a begin that isn't denied isn't either in a state that differs in heap, limbo and steps
still_allowed : (state : State) (heap : Heap) (limbo : List Zeroed) (steps actor : ℕ) (c : Call) → opens_handle c ≡ false → state.steps < state.limits.steps → steps < state.limits.steps →
    begin_denial state actor c None ≡ None → begin_denial (record state { heap = heap; limbo = limbo; steps = steps }) actor c None ≡ None
still_allowed state heap limbo steps actor c opens before after d =
    ap (λ b. denial (b && nat_le handle_limit (handles_taken now)) (nat_le state.limits.steps steps)) opens ∙ ap (λ b. denial false b) (lt-leb state.limits.steps steps after)
    ∙ sym (ap (λ b. denial false b) (lt-leb state.limits.steps state.steps before))
    ∙ sym (ap (λ b. denial (b && nat_le handle_limit (handles_taken state)) (nat_le state.limits.steps state.steps)) opens) ∙ d
  where
    now : State
    now = record state { heap = heap; limbo = limbo; steps = steps }

    access : Option Access
    access = access_of (root_at state (handle_of c))

    denial : Bool → Bool → Option Refusal
    denial full spent = first_reason (
        (not (is_actor state actor), refuse.NoActor) ∷ (is_running state actor, refuse.ActorBusy) ∷ (not (is_some access), refuse.NoHandle)
        ∷ (needs_writable c && is_access ReadOnly access, refuse.ReadOnly) ∷ (needs_read_only c && is_access Writable access, refuse.NotReadOnly)
        ∷ (is_close c && runs_on state (handle_of c), refuse.Busy) ∷ (full, refuse.HandlesFull) ∷ (spent, refuse.Spent) ∷ [])

-- two operations on one line
same_operation : (operation : Operation) (o p : Option ℕ) (g h : ℕ) (path way : List Ref) (m n : Ref) → o ≡ p → g ≡ h → path ≡ way → m ≡ n →
    ◌≡◌ {A = Operation} (record operation { opens = o; private = []; generation = Some g; line = line.Key (key.Main path m) })
    (record operation { opens = p; private = []; generation = Some h; line = line.Key (key.Main way n) })
same_operation operation o p g h path way m n a b c d =
    ap (λ x. record operation { opens = x; private = []; generation = Some g; line = line.Key (key.Main path m) }) a
    ∙ ap (λ x. record operation { opens = p; private = []; generation = Some x; line = line.Key (key.Main path m) }) b
    ∙ ap (λ x. record operation { opens = p; private = []; generation = Some h; line = line.Key (key.Main x m) }) c
    ∙ ap (λ x. record operation { opens = p; private = []; generation = Some h; line = line.Key (key.Main way x) }) d

module _ (state : State) (past : Record) (k : ℕ) (call : Call) (root : Ref) (ready : IsReady state (suc k) call root) (is : IsRecordOf state past) (keyed : IsKeyed call)
    (writes : needs_writable call ≡ true) (depth : ℕ) (indirection : Ref) (bitmap : ℕ) (entries : ArrayVec Ref) (generation : ℕ) (word : Ref)
    (down : ComesDown state call root depth indirection) (entry : HasEntry state.heap (key_hash state (key_of call)) depth indirection bitmap entries)
    (leads : node_at state.heap (entry_for state.heap (key_hash state (key_of call)) depth indirection bitmap) ≡ Indirection generation word)
    (other : (generation_at state.heap root == generation) ≡ false) (renewable : AreRenewable state entries.items) (live : IsLive state.heap (main_at state.heap indirection))
    (free : renewal_slots state root entries.items + 1 ≤ length state.heap.free)
    (apart : (d : ℕ) (r : Ref) → ComesDown state call root d r → d < depth → slot_of r ≡ slot_of indirection → ⊥)
    (lasts : state.steps + (4 * depth + 4 + steps_of_renewal state root entries) + 2 ≤ state.limits.steps) where
  abbrev pub now : State
  now = renewed_state state root indirection bitmap entries

  abbrev pub fresh : Ref
  fresh = (with_renewal state root indirection bitmap entries).newest

  abbrev pub now_past : Record
  now_past = renewed_record past (renewed_in state root entries depth) fresh

  pub now_ready : IsReady now (suc k) call root
  now_ready = record {
    rests = now_rests state past k call root ready is keyed writes depth indirection bitmap entries generation word down entry leads other renewable live free;
    allowed = still_allowed state now.heap now.limbo now.steps (suc k) call (keyed_opens call keyed) (omega (arith, lasts)) (omega (arith, lasts)) ready.allowed;
    word = ready.word;
  }

  pub now_is : IsRecordOf now now_past
  now_is = record { moments = is.moments; unplaced = is.unplaced }

  pub way : (w : Leads now.heap (begun_operation now call None).access (key_hash now (key_of call)) root depth indirection) × (path_along w ≡ path_along down)
  way =
      let indirection_here = indirection_is state past k call root ready is keyed writes depth indirection bitmap entries generation word down entry leads other renewable live free in
      leads_stays state.heap now.heap indirection indirection_here.0 indirection_here.1 indirection_here.2
      (stays_now state past k call root ready is keyed writes depth indirection bitmap entries generation word down entry leads other renewable live free)
      (indirections_now state past k call root ready is keyed writes depth indirection bitmap entries generation word down entry leads other renewable live free)
      (begun_operation state call None).access (key_hash state (key_of call)) root
      (generation_now state past k call root ready is keyed writes depth indirection bitmap entries generation word down entry leads other renewable live free) depth indirection down apart

  pub now_alone : Alone now k
  now_alone = alone_at now k call root now_ready

  pub now_calm : IsCalm now (first_draft now)
  now_calm = calm_at now (suc k) call root now_ready

  pub now_fits : k < length now_past.moments
  now_fits = fits_at now now_past k call root now_ready now_is

  abbrev now_before : IsBefore now now_past k call root now_alone now_calm depth indirection
  now_before = comes_down now now_past k call root now_alone now_calm now_fits (comes_keyed now now_past k call root now_ready keyed) depth indirection way.0

  abbrev was_before : IsBefore state past k call root (alone_at state k call root ready) (calm_at state (suc k) call root ready) depth indirection
  was_before = before state past k call root ready is keyed writes depth indirection bitmap entries generation word down entry leads other renewable live free

  same_path : was_before.path ≡ now_before.path
  same_path =
      path_is_along state past k call root (alone_at state k call root ready) (calm_at state (suc k) call root ready) (fits_at state past k call root ready is)
      (comes_keyed state past k call root ready keyed) depth indirection down
      ∙ sym way.1 ∙ sym (path_is_along now now_past k call root now_alone now_calm now_fits (comes_keyed now now_past k call root now_ready keyed) depth indirection way.0)

  pub main_is : main_at now.heap indirection ≡ fresh
  main_is = main_now state past k call root ready is keyed writes depth indirection bitmap entries generation word down entry leads other renewable live free

  abbrev here : ℕ
  here = 4 * depth + 5 + renewal_steps state root entries.items

  abbrev pub many : ℕ
  many = suc (suc (suc (suc (suc (suc (suc (suc here)))))))

  abbrev operation_here : Operation
  operation_here = on_line (rooted state call root) (with_renewal state root indirection bitmap entries) (line.Key (key.Main was_before.path fresh))

  abbrev pub operation_there : Operation
  operation_there = on_line (rooted now call root) (first_draft now) (line.Key (key.Main now_before.path (main_at now.heap indirection)))

  same_op : operation_here ≡ operation_there
  same_op =
      same_operation (begun_operation state call None) (begun_operation state call None).opens (begun_operation now call None).opens (generation_at state.heap root) (generation_at now.heap root)
      was_before.path now_before.path
      fresh (main_at now.heap indirection) (sym (same_opens state past k call now.heap now.limbo now.steps (keyed_opens call keyed) (keyed_open call keyed)))
      (sym (generation_now state past k call root ready is keyed writes depth indirection bitmap entries generation word down entry leads other renewable live free)) same_path (sym main_is)

  same_number : state.steps + suc many ≡ now.steps + suc (4 * depth + 3)
  same_number = omega arith

  same_read : state.steps + suc (suc (suc (suc (suc (suc (suc here)))))) ≡ now.steps + suc (4 * depth + 1)
  same_read = omega arith

  same_commit : state.steps + suc (suc (suc (suc (suc here)))) ≡ renewed_in state root entries depth
  same_commit = omega arith

  abbrev read_record_here : Record
  read_record_here = with_read (swapped_noted state past k call root ready is keyed writes depth indirection bitmap entries generation word down entry leads other renewable live free) k
      (state.steps + suc (suc (suc (suc (suc (suc (suc here))))))) fresh

  same_record : read_record_here ≡ looked now now_past k call root now_alone now_calm now_fits depth indirection
  same_record =
      let stood = (all_renewed state past k call root ready is keyed writes depth indirection bitmap entries generation word down entry leads other renewable live free).stood in
      renewal_noted state past k call now.heap now.limbo now.steps (keyed_opens call keyed) (keyed_open call keyed) stood.so_far stood.only_reads (state.steps + suc (suc here))
      (state.steps + suc (suc (suc (suc (suc here))))) (state.steps + suc (suc (suc (suc (suc (suc (suc here))))))) fresh fresh
      ∙ ap (λ commit. with_read (begun_record now (renewed_record past commit fresh) k call) k (state.steps + suc (suc (suc (suc (suc (suc (suc here))))))) fresh) same_commit
      ∙ ap (λ step. with_read (begun_record now now_past k call) k step fresh) same_read
      ∙ ap (λ m. with_read (begun_record now now_past k call) k (now.steps + suc (4 * depth + 1)) m) (sym main_is)

  -- this call comes there
  pub here_comes : GoesAlone state past (suc k) call many (stand now k (first_draft now) operation_there (now.steps + suc (4 * depth + 3)))
      (looked now now_past k call root now_alone now_calm now_fits depth indirection)
  here_comes =
      let lands = reads_branch state past k call root ready is keyed writes depth indirection bitmap entries generation word down entry leads other renewable live free (omega (arith, lasts)) in
      subst (λ r. GoesAlone state past (suc k) call many (stand now k (first_draft now) operation_there (now.steps + suc (4 * depth + 3))) r) same_record
      (subst (λ n. GoesAlone state past (suc k) call many (stand now k (first_draft now) operation_there n) read_record_here) same_number
      (subst (λ o. GoesAlone state past (suc k) call many (stand now k (first_draft now) o (state.steps + suc many)) read_record_here) same_op lands))

  -- and so does the other
  pub there_comes : GoesAlone now now_past (suc k) call (4 * depth + 3) (stand now k (first_draft now) operation_there (now.steps + suc (4 * depth + 3)))
      (looked now now_past k call root now_alone now_calm now_fits depth indirection)
  there_comes =
      at_main now now_past k call root now_alone now_calm now_fits depth indirection now_before
      (ap (prev_at now.heap) main_is ∙ decided_now state past k call root ready is keyed writes depth indirection bitmap entries generation word down entry leads other renewable live free)
      (omega (arith, lasts))

  -- so it ends as that one does
  renews : (n : ℕ) (answer : Reply) (after : State) (recorded : Record) → ComesTo now now_past (suc k) call n answer after recorded →
      ComesTo state past (suc k) call (n + steps_of_renewal state root entries) answer after recorded
  renews n answer after recorded h =
      ends_alike state past now now_past (suc k) call many (4 * depth + 3) (stand now k (first_draft now) operation_there (now.steps + suc (4 * depth + 3)))
      (looked now now_past k call root now_alone now_calm now_fits depth indirection) here_comes there_comes n (n + steps_of_renewal state root entries) answer after recorded refl (omega arith) h

pub renews_straight : RenewsStraight
renews_straight state past zero call root depth indirection bitmap entries generation word n answer after recorded ready is keyed writes down entry leads other renewable live apart free lasts h =
    absurd (no_actor ready)
renews_straight state past (suc k) call root depth indirection bitmap entries generation word n answer after recorded ready is keyed writes down entry leads other renewable live apart free lasts h =
    renews state past k call root ready is keyed writes depth indirection bitmap entries generation word down entry leads other renewable live free apart lasts n answer after recorded h
