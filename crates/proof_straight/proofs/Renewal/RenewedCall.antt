-- A call that renews a branch on its way comes to what it comes to in the state in which that branch is renewed.
use Rattle.std.proofs.Common.{◌≡◌, ℕ, suc, ◌+◌, ◌*◌, ◌<◌, ◌≤◌, ◌==◌, inl, inr, true, false, cond, nat_eq, List, [], length, Some, None, refl, sym, ap, ◌∙◌, subst, arith}
use Rattle.std.specs.Option.{option_eq}
use Rattle.std.proofs.lemmas.Bool.{cases_eq}
use Rattle.arrayvec.specs.ArrayVec.{ArrayVec}
use Rattle.proof_straight.specs.Vocabulary.{position_of, Access, Writable, Call, renewed, flag_of, Node, Indirection, Slot, Ref, IsLive, stored, node_at, main_at, main_of, prev_at, entry_at}
use Rattle.proof_straight.specs.Vocabulary.{bitmap_of, generation_at, generation_of, slot_of, Line, with_made as private_with, key_of, needs_writable, going_down, key_after_entry, passes}
use Rattle.proof_straight.specs.Vocabulary.{begun_operation, reading, Record, noted_progress, renew_after_branch, State, key_hash, swapping, limbo_after, main_changed, prev_of, with_main_word}
use Rattle.proof_straight.specs.Vocabulary.{outside, key_after_read, after_prev, at_indirection as at_read, given_by}
use Rattle.proof_straight.specs.Beneath.slot_arena.specs.declared.nodes.Prev.TheVariants as prev
use Rattle.machine_model.specs.declared.actions.Action.TheVariants as act
use Rattle.machine_model.specs.declared.finding.KeyLine.TheVariants as key
use Rattle.machine_model.specs.declared.lines.Line.TheVariants as line
use Rattle.machine_model.specs.declared.lines.Purpose.TheVariants as purpose
use Rattle.machine_model.specs.declared.repairs.RenewLine.TheVariants as renew
use Rattle.proof_straight.specs.Drafts.{Draft, first_draft, with_made}
use Rattle.proof_straight.specs.Places.{ComesDown, HasEntry, entry_for}
use Rattle.proof_straight.specs.Renewals.{AreRenewable, Renewal, renewal_of, renewal_slots, renewal_steps, with_renewal}
use Rattle.proof_straight.specs.Running.{IsKeyed, IsReady, IsRecordOf}
use Rattle.proof_straight.proofs.Steps.Alone.{Alone, IsCalm, on_line}
use Rattle.proof_straight.proofs.Change.Builds.{HasMade, IsOwn, first_is, has_made, leads_own, writable_at}
use Rattle.proof_straight.proofs.Change.Changed.{live_stands}
use Rattle.proof_straight.proofs.Way.Descent.{IsBefore, at_line, comes_down, finds_entry, line_of, rooted, seeks}
use Rattle.proof_straight.proofs.Steps.Going.{Stands, begun_record, makes, read_fits}
use Rattle.proof_straight.proofs.Steps.Noting.{committing, publishing, read_again, with_read}
use Rattle.proof_straight.proofs.Renewal.Renewing.{Renewed, Stood, branch_in, next_in, next_is, next_line, renews_all}
use Rattle.proof_straight.proofs.Way.Rooted.{alone_at, calm_at, comes_keyed}
use Rattle.proof_straight.proofs.Way.Seeking.{again, at_main, looked}
use Rattle.proof_straight.proofs.Change.Slots.{fresh_committed, generation_stays, indirection_stands, made_slot, node_again, others_stay, same_stored, slots_stay_empty}
use Rattle.proof_straight.proofs.Change.Slots.{same_free, standing_indirection, stored_node, takes}
use Rattle.proof_straight.proofs.Change.SwapsIn.{swaps_in}
use Rattle.proof_straight.proofs.Way.Unchanged.{fits_at}
use Rattle.std.proofs.lemmas.List.{append-nil}
use Rattle.machine_model.specs.declared.reading.ReadLine.TheVariants as read
use Rattle.proof_straight.specs.Renewals.{renewed_state}
use Rattle.proof_straight.specs.Running.{IsAtRest}
use Rattle.proof_straight.proofs.Change.Contracted.{fits_longer}
use Rattle.proof_straight.proofs.Steps.Going.{reads}
use Rattle.proof_straight.proofs.Steps.Noting.{noted_read, reading as reading_of}
use Rattle.proof_straight.proofs.Steps.Settled.{settled_once}
use Rattle.proof_straight.proofs.Way.Ways.{leads_indirection}

-- an indirection of another generation isn't passed on a writable handle
not_passed : (access : Access) (a b : ℕ) → access ≡ Writable → (a == b) ≡ false → passes access (option_eq nat_eq (Some a) (Some b)) ≡ false
not_passed access a b w other = ap (λ x. passes x (option_eq nat_eq (Some a) (Some b))) w ∙ other

module _ (state : State) (past : Record) (k : ℕ) (call : Call) (root : Ref) (ready : IsReady state (suc k) call root) (is : IsRecordOf state past) (keyed : IsKeyed call)
    (writes : needs_writable call ≡ true) (depth : ℕ) (indirection : Ref) (bitmap : ℕ) (entries : ArrayVec Ref) (generation : ℕ) (word : Ref)
    (down : ComesDown state call root depth indirection) (entry : HasEntry state.heap (key_hash state (key_of call)) depth indirection bitmap entries)
    (leads : node_at state.heap (entry_for state.heap (key_hash state (key_of call)) depth indirection bitmap) ≡ Indirection generation word)
    (other : (generation_at state.heap root == generation) ≡ false) (renewable : AreRenewable state entries.items) (live : IsLive state.heap (main_at state.heap indirection))
    (free : renewal_slots state root entries.items + 1 ≤ length state.heap.free) where
  abbrev pub alone : Alone state k
  alone = alone_at state k call root ready

  abbrev pub calm : IsCalm state (first_draft state)
  calm = calm_at state (suc k) call root ready

  abbrev pub fits : k < length past.moments
  fits = fits_at state past k call root ready is

  abbrev pub main : Ref
  main = main_at state.heap indirection

  pub writable : (begun_operation state call None).access ≡ Writable
  writable = writable_at state (suc k) call ready.allowed writes

  abbrev pub before : IsBefore state past k call root alone calm depth indirection
  before = comes_down state past k call root alone calm fits (comes_keyed state past k call root ready keyed) depth indirection down

  pub main_parts : (slot : Slot) × (stored state.heap main ≡ Some slot)
  main_parts = live_stands state.heap main live

  pub own : IsOwn state.heap root indirection
  own = leads_own state.heap _ _ root depth indirection writable down

  abbrev next_line_here : List Ref → List Ref → Line
  next_line_here rest done = next_line state past k call root alone before.path main bitmap entries entry.branch main_parts.0 main_parts.1 done rest

  -- the branch's entry is met
  meets : Stood state past k call root alone before.path main bitmap entries entry.branch main_parts.0 main_parts.1 (first_draft state) entries.items [] (4 * depth + 5)
  meets =
      let position = position_of (flag_of (key_hash state (key_of call)) depth) bitmap in
      let l = line.Key (key.Entry before.path main position) in
      let st = at_line state past k call root alone calm l (suc (4 * depth + 3)) in
      let o = line_of state past k call root alone calm l in
      let at_entry =
      finds_entry state past k call root alone calm before.path depth bitmap indirection entries (4 * depth + 3) before.is entry
      (at_main state past k call root alone calm fits depth indirection before entry.decided) in
      let begins_here =
      next_is state past k call root alone before.path main bitmap entries entry.branch main_parts.0 main_parts.1 (first_draft state) [] entries.items [] (first_is state ready.rests.free) refl refl in
      record {
        so_far = looked state past k call root alone calm fits depth indirection;
        within = read_fits state past k call (state.steps + suc (4 * depth + 1)) main fits;
        only_reads = λ step m. read_again (begun_record state past k call) k (state.steps + suc (4 * depth + 1)) step main m;
        stands =
            again state past k call root alone calm fits (next_line_here entries.items []) (next_line_here entries.items []) (suc (suc (4 * depth + 3))) (4 * depth + 5) refl (omega arith)
            (seeks state past k call root alone calm (key.Entry before.path main position) (next_line_here entries.items []) (suc (4 * depth + 3)) at_entry tt refl
            (ap (λ node. key_after_entry st o before.path main position node) leads
            ∙ ap (λ b. cond b (going_down before.path (entry_at state.heap main position))
            (next_in state past k call root alone before.path main bitmap entries entry.branch main_parts.0 main_parts.1 (first_draft state) []))
            (not_passed (begun_operation state call None).access (generation_at state.heap root) generation writable other)
            ∙ begins_here));
      }

  pub all_renewed : Renewed state past k call root alone before.path main bitmap entries entry.branch main_parts.0 main_parts.1 entries.items
      (record { draft = first_draft state; entries = [] }) (4 * depth + 5)
  all_renewed =
      renews_all state past k call root alone before.path main bitmap entries entry.branch main_parts.0 main_parts.1 entries.items [] (record { draft = first_draft state; entries = [] })
      (4 * depth + 5) calm
      (first_is state ready.rests.free) (omega (arith, free)) refl refl renewable meets

  abbrev pub done : Renewal
  done = renewal_of state root entries

  abbrev pub steps_here : ℕ
  steps_here = 4 * depth + 5 + renewal_steps state root entries.items

  abbrev pub new_branch : Node
  new_branch = renewed bitmap done.entries

  abbrev pub draft : Draft
  draft = with_made state done.draft new_branch

  enough : 1 ≤ length done.draft.heap.free
  enough = omega (arith, free, all_renewed.fewer)

  pub made : HasMade state draft done.draft.heap new_branch
  made = has_made state done.draft new_branch all_renewed.is enough

  -- the branch is made
  makes_branch : Stands state past k call all_renewed.stood.so_far state draft (on_line (rooted state call root) draft
      (line.Swap (purpose.Renew before.path) (swapping indirection main draft.newest))) (suc steps_here)
  makes_branch =
      let l = line.Renew (renew.Branch before.path main done.entries) in
      let op = on_line (rooted state call root) done.draft l in
      let drawn = (takes done.draft.heap new_branch all_renewed.is.empty enough).drawn in
      makes state past k call state alone done.draft (rooted state call root) (rooted state call root) l (line.Swap (purpose.Renew before.path) (swapping indirection main draft.newest))
      steps_here new_branch drawn
      all_renewed.stood.stands
      (ap (λ node. act.Make (renewed (bitmap_of node) done.entries)) (branch_in state past k call root alone before.path main bitmap entries entry.branch main_parts.0 main_parts.1 done.draft
      all_renewed.is))
      refl
      (ap (λ n. record op { private = private_with done.draft.private n; line = renew_after_branch before.path main n }) drawn
      ∙ ap (λ r. on_line (rooted state call root) draft (line.Swap (purpose.Renew before.path) (swapping r main draft.newest))) before.is.current)

  at_indirection : stored draft.heap indirection ≡ Some own.over
  at_indirection = made.is.stays indirection own.over own.stands

  apart : slot_of indirection ≡ slot_of draft.newest → ⊥
  apart = made.apart indirection own.over own.stands

  there : main_at draft.heap indirection ≡ main
  there = ap main_of (node_again state.heap draft.heap indirection own.over own.stands at_indirection)

  generation_made : (r : Ref) (slot : Slot) → stored state.heap r ≡ Some slot → generation_at draft.heap r ≡ generation_at state.heap r
  generation_made r slot at = ap generation_of (node_again state.heap draft.heap r slot at (made.is.stays r slot at))

  licensed : generation_at draft.heap indirection ≡ generation_at draft.heap root
  licensed = generation_made indirection own.over own.stands ∙ own.licensed ∙ sym (generation_made root own.top own.root_stands)

  abbrev pub after : Draft
  after = with_renewal state root indirection bitmap entries

  abbrev pub swapped_noted : Record
  swapped_noted =
      noted_progress (noted_progress all_renewed.stood.so_far (state.steps + suc (suc steps_here)) (suc k) (publishing None draft.newest))
      (state.steps + suc (suc (suc (suc (suc steps_here))))) (suc k)
      (committing draft.newest)

  -- and swapped in: the call is before the indirection again
  renews_branch : Stands state past k call swapped_noted state after (on_line (rooted state call root) after (line.Key (key.Read before.path (reading indirection))))
      (suc (suc (suc (suc (suc (suc steps_here))))))
  renews_branch =
      swaps_in state past k call root alone ready.word writable draft indirection main (purpose.Renew before.path) None (line.Key (key.Read before.path (reading indirection))) own.over
      (made_slot done.draft.heap new_branch) at_indirection made.newest apart there licensed (λ d l. refl) (λ d l. ap (λ r. line.Key (key.Read before.path (reading r))) before.is.current)
      (suc steps_here)
      makes_branch

  -- ---- the renewed heap

  abbrev pub fresh : Ref
  fresh = draft.newest

  pub indirection_is : (g : ℕ) × (w : Ref) × (node_at state.heap indirection ≡ Indirection g w)
  indirection_is = leads_indirection state.heap _ _ root depth indirection down

  over_is : own.over.node ≡ Indirection indirection_is.0 indirection_is.1
  over_is = sym (stored_node state.heap indirection own.over own.stands) ∙ indirection_is.2

  now_stands : stored after.heap indirection ≡ Some (main_changed fresh own.over)
  now_stands = indirection_stands draft.heap indirection main fresh own.over (made_slot done.draft.heap new_branch) at_indirection made.newest apart there

  pub main_now : main_at after.heap indirection ≡ fresh
  main_now = ap main_of (stored_node after.heap indirection (main_changed fresh own.over) now_stands) ∙ ap (λ node. main_of (with_main_word fresh node)) over_is

  pub decided_now : prev_at after.heap fresh ≡ prev.None
  unfolding prev_at
  decided_now = ap prev_of (fresh_committed draft.heap indirection main fresh own.over (made_slot done.draft.heap new_branch) at_indirection made.newest apart there)

  pub stays_now : (r : Ref) (slot : Slot) → stored state.heap r ≡ Some slot → (slot_of r ≡ slot_of indirection → ⊥) → stored after.heap r ≡ Some slot
  stays_now r slot at differ =
      others_stay draft.heap indirection main fresh own.over (made_slot done.draft.heap new_branch) at_indirection made.newest apart there r differ (made.apart r slot at) ∙ made.is.stays r slot at

  pub generation_now : generation_at after.heap root ≡ generation_at state.heap root
  generation_now =
      generation_stays draft.heap indirection main fresh own.over (made_slot done.draft.heap new_branch) at_indirection made.newest apart there root ∙ generation_made root own.top own.root_stands

  pub indirections_now : (r : Ref) (g : ℕ) (w : Ref) → node_at state.heap r ≡ Indirection g w → (v : Ref) × (node_at after.heap r ≡ Indirection g v)
  indirections_now r g w at = elim (cases_eq (slot_of r) (slot_of indirection)) [
    | inl same ↦ (
      fresh,
      stored_node after.heap r (main_changed fresh own.over) (same_stored after.heap r indirection same ∙ now_stands)
          ∙ ap (with_main_word fresh) (sym (stored_node state.heap r own.over (same_stored state.heap r indirection same ∙ own.stands)) ∙ at),
    )
    | inr differ ↦
        let (slot, stands) = standing_indirection state.heap r g w at in (w, node_again state.heap after.heap r slot stands (stays_now r slot stands differ) ∙ at)
  ]

  pub branch_now : node_at after.heap fresh ≡ new_branch
  branch_now = stored_node after.heap fresh _ (fresh_committed draft.heap indirection main fresh own.over (made_slot done.draft.heap new_branch) at_indirection made.newest apart there)

  -- what stood once all entries were renewed stands
  pub later_stays : (r : Ref) (slot : Slot) → stored done.draft.heap r ≡ Some slot → (slot_of r ≡ slot_of indirection → ⊥) → stored after.heap r ≡ Some slot
  later_stays r slot at differ =
      let t = takes done.draft.heap new_branch all_renewed.is.empty enough in
      others_stay draft.heap indirection main fresh own.over (made_slot done.draft.heap new_branch) at_indirection made.newest apart there r differ (t.apart r slot at) ∙ t.others r slot at

  pub fewer_now : length state.heap.free ≡ renewal_slots state root entries.items + 1 + length after.heap.free
  fewer_now =
      omega (
        arith,
        all_renewed.fewer,
        (takes done.draft.heap new_branch all_renewed.is.empty enough).fewer,
        ap length (same_free draft.heap indirection main fresh own.over (made_slot done.draft.heap new_branch) at_indirection made.newest apart there),
      )

  -- ---- the main node is read again

  abbrev pub so_long : ℕ
  so_long = suc (suc (suc (suc (suc (suc steps_here)))))

  after_calm : IsCalm state after
  after_calm = settled_once after.heap _ state.epoch _

  swapped_fits : k < length swapped_noted.moments
  swapped_fits =
      fits_longer past all_renewed.stood.so_far k all_renewed.stood.within (state.steps + suc (suc steps_here)) (state.steps + suc (suc (suc (suc (suc steps_here))))) (publishing None fresh)
      (committing fresh)

  pub reads_branch : Stands state past k call (with_read swapped_noted k (state.steps + suc so_long) fresh) state after
      (on_line (rooted state call root) after (line.Key (key.Main before.path fresh))) (suc (suc so_long))
  reads_branch =
      let first = line.Key (key.Read before.path (reading indirection)) in
      let second = line.Key (key.Read before.path (record { indirection = indirection; line = read.Prev fresh })) in
      let to_second =
      reads state past k call state alone after (rooted state call root) first second so_long (reading_of None true) after_calm renews_branch tt refl refl
      (ap (λ m. line.Key (key.Read before.path (record { indirection = indirection; line = read.Prev m }))) main_now) in
      subst (λ r. Stands state past k call r state after (on_line (rooted state call root) after (line.Key (key.Main before.path fresh))) (suc (suc so_long)))
      (noted_read swapped_noted (state.steps + suc so_long) (state.steps + suc (suc so_long)) k fresh swapped_fits)
      (reads state past k call state alone after (rooted state call root) second (line.Key (key.Main before.path fresh)) (suc so_long) (reading_of (Some fresh) false) after_calm to_second tt
      (ap (λ v. reading_of (given_by (at_read indirection (after_prev (begun_operation state call None).access fresh v))) false) decided_now) refl
      (ap (λ v. key_after_read before.path (at_read indirection (after_prev (begun_operation state call None).access fresh v))) decided_now))

  -- ---- the other call

  abbrev pub now : State
  now = renewed_state state root indirection bitmap entries

  pub now_rests : IsAtRest now
  now_rests = record {
    rest = ready.rests.rest;
    actors = ready.rests.actors;
    calm = ap (λ held. limbo_after after.heap held state.epoch after.limbo) (sym (append-nil (outside state))) ∙ after_calm;
    free = slots_stay_empty draft.heap indirection main fresh own.over (made_slot done.draft.heap new_branch) at_indirection made.newest apart there made.is.empty;
  }
