-- What a call that renews a branch on its way finds behind that.
use Rattle.std.proofs.Common.{◌≡◌, ℕ, zero, suc, ◌+◌, ◌*◌, ◌≤◌, inl, inr, true, not, [], length, get_or, refl, sym, ap, ◌∙◌, arith}
use Rattle.std.proofs.lemmas.List.{take_all}
use Rattle.arrayvec.specs.ArrayVec.{ArrayVec}
use Rattle.proof_straight.specs.Vocabulary.{position_of, Call, flag_of, Branch, Indirection, Ref, entries_from, entries_of, generation_at, main_at, no_ref, node_at, prev_at, key_of, Record}
use Rattle.proof_straight.specs.Vocabulary.{first_record, State, key_hash}
use Rattle.proof_straight.specs.Drafts.{first_draft}
use Rattle.proof_straight.specs.Passing.{IsRenewed, MeetsOld, Passes, PassesRenewal, Visits}
use Rattle.proof_straight.specs.Places.{HasEntry, entry_for}
use Rattle.proof_straight.specs.Renewals.{Renewal, is_of_other, is_old, renewal_of, renewal_slots, renewed_state}
use Rattle.proof_straight.specs.Running.{IsRecordOf}
use Rattle.proof_straight.proofs.Change.Builds.{first_is}
use Rattle.proof_straight.proofs.Change.Recording.{first_is_record}
use Rattle.proof_straight.proofs.Change.Slots.{stored_node}
use Rattle.proof_straight.proofs.Renewal.NewEntries.{Done, IsNew, done_all, renewed_link}
use Rattle.proof_straight.proofs.Renewal.RenewedCall.{branch_now, decided_now, fewer_now, generation_now, later_stays, main_now, own, stays_now}
use Rattle.proof_straight.proofs.Renewal.Renews.{here_comes, many, now_alone, now_calm, now_fits, now_past, now_ready, operation_there, there_comes, way}
use Rattle.proof_straight.proofs.Renewal.Transplants.{follows}
use Rattle.proof_straight.proofs.Runs.ByRuns.{goes_with_record, goes_without_record}
use Rattle.proof_straight.proofs.Steps.Alone.{stand}
use Rattle.proof_straight.proofs.Way.Seeking.{looked}
use Rattle.proof_straight.proofs.Way.Unchanged.{no_actor}

module _ (state : State) (k : ℕ) (call : Call) (root : Ref) (depth : ℕ) (indirection : Ref) (bitmap : ℕ) (entries : ArrayVec Ref)
    (m : MeetsOld state (suc k) call root depth indirection bitmap entries) where
  abbrev past : Record
  past = first_record state.limits

  is : IsRecordOf state past
  is = first_is_record state

  abbrev now : State
  now = renewed_state state root indirection bitmap entries

  abbrev hash : ℕ
  hash = key_hash state (key_of call)

  abbrev position : ℕ
  position = position_of (flag_of hash depth) bitmap

  abbrev done : Renewal
  done = renewal_of state root entries

  passes : Passes state now (suc k) call (4 * depth + 3)
  passes n t least goes =
      let (r, alone) = goes_with_record now (now_past state past k call root m.ready is m.keyed m.writes depth indirection bitmap entries m.generation m.word m.down m.entry m.is m.other
      m.renewable m.live m.free m.apart m.lasts) (suc k) call n t goes in
      elim (follows state past now (now_past state past k call root m.ready is m.keyed m.writes depth indirection bitmap entries m.generation m.word m.down m.entry m.is m.other m.renewable
      m.live m.free m.apart m.lasts) (suc k) call (many state past k call root m.ready is m.keyed m.writes depth indirection bitmap entries m.generation m.word m.down m.entry m.is m.other
      m.renewable m.live m.free m.apart m.lasts) (4 * depth + 3)
      (stand now k (first_draft now) (operation_there state past k call root m.ready is m.keyed m.writes depth indirection bitmap entries m.generation m.word m.down m.entry m.is m.other
      m.renewable m.live m.free m.apart m.lasts) (now.steps + suc (4 * depth + 3)))
      (looked now (now_past state past k call root m.ready is m.keyed m.writes depth indirection bitmap entries m.generation m.word m.down m.entry m.is m.other m.renewable m.live m.free m.apart
      m.lasts) k call root (now_alone state past k call root m.ready is m.keyed m.writes depth indirection bitmap entries m.generation m.word m.down m.entry m.is m.other m.renewable m.live
      m.free m.apart m.lasts) (now_calm state past k call root m.ready is m.keyed m.writes depth indirection bitmap entries m.generation m.word m.down m.entry m.is m.other m.renewable m.live
      m.free m.apart m.lasts) (now_fits state past k call root m.ready is m.keyed m.writes depth indirection bitmap entries m.generation m.word m.down m.entry m.is m.other m.renewable m.live
      m.free m.apart m.lasts) depth indirection)
      (here_comes state past k call root m.ready is m.keyed m.writes depth indirection bitmap entries m.generation m.word m.down m.entry m.is m.other m.renewable m.live m.free m.apart m.lasts)
      (there_comes state past k call root m.ready is m.keyed m.writes depth indirection bitmap entries m.generation m.word m.down m.entry m.is m.other m.renewable m.live m.free m.apart m.lasts)
      n t r alone) [
        | inl less ↦ absurd (omega (arith, less, least))
        | inr (so_many, same, far) ↦ (so_many, omega (arith, same), goes_without_record state past (suc k) call so_many t r far)
      ]

  visits : Visits state now (suc k) call (4 * depth + 3)
  visits = record {
    n = many state past k call root m.ready is m.keyed m.writes depth indirection bitmap entries m.generation m.word m.down m.entry m.is m.other m.renewable m.live m.free m.apart m.lasts;
    long = omega arith;
    there = stand now k (first_draft now) (operation_there state past k call root m.ready is m.keyed m.writes depth indirection bitmap entries m.generation m.word m.down m.entry m.is m.other
        m.renewable m.live m.free m.apart m.lasts) (now.steps + suc (4 * depth + 3));
    goes = goes_without_record state past (suc k) call _ _ _ (here_comes state past k call root m.ready is m.keyed m.writes depth indirection bitmap entries m.generation m.word m.down m.entry
        m.is m.other m.renewable m.live m.free m.apart m.lasts);
    heap = refl;
    roots = refl;
    limits = refl;
  }

  branch_is : node_at now.heap (main_at now.heap indirection) ≡ Branch bitmap (entries_from done.entries)
  branch_is = ap (node_at now.heap) (main_now state past k call root m.ready is m.keyed m.writes depth indirection bitmap entries m.generation m.word m.down m.entry m.is m.other m.renewable
      m.live m.free) ∙ branch_now state past k call root m.ready is m.keyed m.writes depth indirection bitmap entries m.generation m.word m.down m.entry m.is m.other m.renewable m.live m.free

  entry : HasEntry now.heap hash depth indirection bitmap (entries_from done.entries)
  entry = record {
    decided = ap (prev_at now.heap) (main_now state past k call root m.ready is m.keyed m.writes depth indirection bitmap entries m.generation m.word m.down m.entry m.is m.other
        m.renewable m.live m.free) ∙ decided_now state past k call root m.ready is m.keyed m.writes depth indirection bitmap entries m.generation m.word m.down m.entry m.is m.other m.renewable
        m.live m.free;
    branch = branch_is;
    flagged = m.entry.flagged;
  }

  -- ---- the new indirection

  abbrev old : Ref
  old = get_or entries.items position no_ref

  old_is : entry_for state.heap hash depth indirection bitmap ≡ old
  old_is = ap (λ node. get_or (entries_of node) position no_ref) m.entry.branch

  is_renewed : is_old state root old ≡ true
  is_renewed = ap (λ r. is_of_other (generation_at state.heap root) (node_at state.heap r)) (sym old_is) ∙ ap (is_of_other (generation_at state.heap root)) m.is ∙ ap not m.other

  first_enough : renewal_slots state root entries.items ≤ length state.heap.free
  first_enough = omega (arith, m.free)

  all_done : Done state root (record { draft = first_draft state; entries = [] }) done (length entries.items)
  all_done = done_all state root entries.items (record { draft = first_draft state; entries = [] }) (first_is state m.ready.rests.free) first_enough

  abbrev new : Ref
  new = get_or done.entries position no_ref

  is_new : IsNew state done.draft.heap (Indirection (generation_at state.heap root) (main_at state.heap old)) new
  is_new =
      renewed_link state root entries.items (record { draft = first_draft state; entries = [] }) position position (first_is state m.ready.rests.free) first_enough m.within
      (omega arith) is_renewed

  new_is : entry_for now.heap hash depth indirection bitmap ≡ new
  new_is =
      ap (λ node. get_or (entries_of node) position no_ref) branch_is
      ∙ ap (λ l. get_or l position no_ref) (take_all 32 done.entries (omega (arith, all_done.size, m.few)))

  link : node_at now.heap (entry_for now.heap hash depth indirection bitmap)
      ≡ Indirection (generation_at state.heap root) (main_at state.heap (entry_for state.heap hash depth indirection bitmap))
  link =
      let over = own state past k call root m.ready is m.keyed m.writes depth indirection bitmap entries m.generation m.word m.down m.entry m.is m.other m.renewable m.live m.free in
      let stands = later_stays state past k call root m.ready is m.keyed m.writes depth indirection bitmap entries m.generation m.word m.down m.entry m.is m.other m.renewable m.live m.free new
      is_new.slot is_new.stands (λ same. is_new.apart indirection over.over over.stands (sym same)) in
      ap (node_at now.heap) new_is ∙ stored_node now.heap new is_new.slot stands ∙ is_new.node_is
      ∙ ap (λ r. Indirection (generation_at state.heap root) (main_at state.heap r)) (sym old_is)

  pub renewed_here : IsRenewed state now (suc k) call root depth indirection bitmap entries
  renewed_here = record {
    ready = now_ready state past k call root m.ready is m.keyed m.writes depth indirection bitmap entries m.generation m.word m.down m.entry m.is m.other m.renewable m.live m.free m.apart m.lasts;
    passes = passes;
    visits = visits;
    down = (way state past k call root m.ready is m.keyed m.writes depth indirection bitmap entries m.generation m.word m.down m.entry m.is m.other m.renewable m.live m.free m.apart m.lasts).0;
    entry = entry;
    link = link;
    generation = generation_now state past k call root m.ready is m.keyed m.writes depth indirection bitmap entries m.generation m.word m.down m.entry m.is m.other m.renewable m.live m.free;
    stays = stays_now state past k call root m.ready is m.keyed m.writes depth indirection bitmap entries m.generation m.word m.down m.entry m.is m.other m.renewable m.live m.free;
    fewer = fewer_now state past k call root m.ready is m.keyed m.writes depth indirection bitmap entries m.generation m.word m.down m.entry m.is m.other m.renewable m.live m.free;
  }

pub passes_renewal : PassesRenewal
passes_renewal state zero call root depth indirection bitmap entries m = absurd (no_actor m.ready)
passes_renewal state (suc k) call root depth indirection bitmap entries m = renewed_here state k call root depth indirection bitmap entries m
