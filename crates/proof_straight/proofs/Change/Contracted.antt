-- A call that takes its key out where a single is left alone, from its begin to its end.
use Rattle.std.proofs.Common.{◌≡◌, ℕ, zero, suc, ◌+◌, ◌*◌, ◌-◌, ◌<◌, ◌≤◌, ◌⊎◌, inl, inr, cond, List, length, Option, Some, None, refl, sym, ap, ◌∙◌, subst, lt-ltb, arith}
use Rattle.std.specs.Prelude.{slice_index_or}
use Rattle.std.proofs.lemmas.Bool.{cases_eq}
use Rattle.std.proofs.lemmas.List.{length-set}
use Rattle.arrayvec.specs.ArrayVec.{ArrayVec}
use Rattle.proof_straight.specs.Vocabulary.{position_of, Writable, Call, Node, Slot, Ref, IsLive, stored, node_at, main_at, main_of, entries_of, generation_at, generation_of, main_changed, no_ref}
use Rattle.proof_straight.specs.Vocabulary.{slot_of, flag_of, Climb, Plain, changed, changed_reply, handle_of, key_of, climbed, begun_operation, after_update, above, current, reading, Record, State}
use Rattle.proof_straight.specs.Vocabulary.{key_hash, word_at, swapping, Removes, when_found, found_so, removing, moment_after, moment_at, noted_end, noted_progress, Progress, Reply}
use Rattle.machine_model.specs.declared.actions.Action.TheVariants as act
use Rattle.machine_model.specs.declared.building.BuildLine.TheVariants as build
use Rattle.machine_model.specs.declared.building.Change.TheVariants as change
use Rattle.machine_model.specs.declared.lines.Line.TheVariants as line
use Rattle.machine_model.specs.declared.lines.Purpose.TheVariants as purpose
use Rattle.machine_model.specs.declared.repairs.ClimbLine.TheVariants as climb
use Rattle.proof_straight.specs.Changes.{changed_main, contracted_node, single_left, with_contraction, with_tomb}
use Rattle.proof_straight.specs.Drafts.{Draft, first_draft, with_made}
use Rattle.proof_straight.specs.Recorded.{entrant_with}
use Rattle.proof_straight.specs.Running.{HasEmptySlots}
use Rattle.proof_straight.proofs.Steps.Alone.{Alone, IsCalm, on_line}
use Rattle.proof_straight.proofs.Change.Builds.{HasMade, IsOwn, builds, first_is, has_made}
use Rattle.proof_straight.proofs.Change.Changed.{IsMain, live_stands}
use Rattle.proof_straight.proofs.Change.Contracting.{IsUnder, climbs, tomb_made, two_slots}
use Rattle.proof_straight.proofs.Way.Descent.{IsPath, depth_is, rooted}
use Rattle.proof_straight.proofs.Steps.Going.{Stands, read_fits}
use Rattle.proof_straight.proofs.Steps.Settled.{settled_once}
use Rattle.proof_straight.proofs.Change.Slots.{generation_stays, indirection_stands, made_slot, node_again, others_stay, prev_stays, same_free, same_stored, slots_stay_empty, takes}
use Rattle.proof_straight.proofs.Change.SwapsIn.{swaps_in}
use Rattle.proof_straight.specs.Drafts.{after_call, swapped_in}
use Rattle.proof_straight.specs.Laws.{ContractsStraight, LastsFor}
use Rattle.proof_straight.specs.Places.{Finds, LeavesSingle, StandsOver, steps_down}
use Rattle.proof_straight.specs.Recorded.{contracted_record}
use Rattle.proof_straight.specs.Running.{ComesTo, IsKeyed, IsReady, IsRecordOf}
use Rattle.proof_straight.proofs.Change.Builds.{leads_own, removes_write, writable_at}
use Rattle.proof_straight.proofs.Change.Contracting.{HasBoth, comes_to_tomb, has_both, leaves_main}
use Rattle.proof_straight.proofs.Steps.Noting.{committing, publishing, with_read}
use Rattle.proof_straight.proofs.Change.Recording.{contracted_noted}
use Rattle.proof_straight.proofs.Way.Rooted.{alone_at, calm_at, comes_keyed, keyed_open}
use Rattle.proof_straight.proofs.Way.Seeking.{again, finds_down, looked}
use Rattle.proof_straight.proofs.Change.SwapsIn.{swapped_ends}
use Rattle.proof_straight.proofs.Way.Unchanged.{fits_at, no_actor}

-- the swap of a tomb, and what it leaves
module _ (state : State) (past : Record) (k : ℕ) (call : Call) (root : Ref) (alone : Alone state k) (word : word_at state (handle_of call) ≡ Plain root)
    (writable : (begun_operation state call None).access ≡ Writable) (first_empty : HasEmptySlots state.heap) (free : 2 ≤ length state.heap.free) (deep : ℕ) (indirection : Ref)
    (position : ℕ) (kind : IsMain (node_at state.heap (main_at state.heap indirection))) (own : IsOwn state.heap root indirection) (main_slot : Slot)
    (main_stands : stored state.heap (main_at state.heap indirection) ≡ Some main_slot) where
  abbrev main : Ref
  main = main_at state.heap indirection

  abbrev single : Ref
  single = single_left state indirection position

  abbrev node : Node
  node = changed_main state call deep indirection (change.Entomb single)

  abbrev draft : Draft
  draft = with_made state (first_draft state) node

  abbrev tombed : Draft
  tombed = with_tomb state call deep indirection position

  made : HasMade state draft state.heap node
  made = has_made state (first_draft state) node (first_is state first_empty) (omega (arith, free))

  at_indirection : stored draft.heap indirection ≡ Some own.over
  at_indirection = made.is.stays indirection own.over own.stands

  apart : slot_of indirection ≡ slot_of draft.newest → ⊥
  apart = made.apart indirection own.over own.stands

  there : main_at draft.heap indirection ≡ main
  there = ap main_of (node_again state.heap draft.heap indirection own.over own.stands at_indirection)

  generation_made : (r : Ref) (slot : Slot) → stored state.heap r ≡ Some slot → generation_at draft.heap r ≡ generation_at state.heap r
  generation_made r slot is = ap generation_of (node_again state.heap draft.heap r slot is (made.is.stays r slot is))

  licensed : generation_at draft.heap indirection ≡ generation_at draft.heap root
  licensed = generation_made indirection own.over own.stands ∙ own.licensed ∙ sym (generation_made root own.top own.root_stands)

  tombed_calm : IsCalm state tombed
  tombed_calm = settled_once tombed.heap _ state.epoch _

  tombed_empty : HasEmptySlots tombed.heap
  tombed_empty = slots_stay_empty draft.heap indirection main draft.newest own.over (made_slot state.heap node) at_indirection made.newest apart there made.is.empty

  tombed_free : 1 ≤ length tombed.heap.free
  tombed_free =
      omega (
        arith,
        free,
        (takes state.heap node first_empty (omega (arith, free))).fewer,
        ap length (same_free draft.heap indirection main draft.newest own.over (made_slot state.heap node) at_indirection made.newest apart there),
      )

  -- what stood in another slot stands
  tombed_stays : (r : Ref) (slot : Slot) → stored state.heap r ≡ Some slot → (slot_of r ≡ slot_of indirection → ⊥) → stored tombed.heap r ≡ Some slot
  tombed_stays r slot is other =
      others_stay draft.heap indirection main draft.newest own.over (made_slot state.heap node) at_indirection made.newest apart there r other (made.apart r slot is) ∙ made.is.stays r slot is

  -- the root stands, be it the indirection or not
  tombed_root : (slot : Slot) × (stored tombed.heap root ≡ Some slot)
  tombed_root = elim (cases_eq (slot_of root) (slot_of indirection)) [
    | inl same ↦ (
      main_changed draft.newest own.over,
      same_stored tombed.heap root indirection same
          ∙ indirection_stands draft.heap indirection main draft.newest own.over (made_slot state.heap node) at_indirection made.newest apart there,
    )
    | inr other ↦ (own.top, tombed_stays root own.top own.root_stands other)
  ]

  tombed_generation : (r : Ref) (slot : Slot) → stored state.heap r ≡ Some slot → generation_at tombed.heap r ≡ generation_at state.heap r
  tombed_generation r slot is =
      generation_stays draft.heap indirection main draft.newest own.over (made_slot state.heap node) at_indirection made.newest apart there r ∙ generation_made r slot is

  -- what is recorded once the tomb is committed, where so many steps led to the line that makes it
  abbrev tombed_record : Record → ℕ → Record
  tombed_record so_far n =
      noted_progress (noted_progress so_far (state.steps + suc (suc n)) (suc k) (publishing (Some (entrant_with state call root)) draft.newest)) (state.steps + suc (suc (suc (suc (suc n))))) (suc k)
      (committing draft.newest)

  -- the tomb is made and swapped in, and the climb begins
  entombs : {so_far : Record} (path upper : List Ref) (depth : ℕ) (over : Ref) (former : Option ℕ) (n : ℕ) → IsPath path deep indirection → above path ≡ upper → IsPath upper depth over →
      1 < length path →
      Stands state past k call so_far state (first_draft state) (on_line (rooted state call root) (first_draft state) (line.Build (build.Main path main (change.Entomb single) former))) n →
      Stands state past k call (tombed_record so_far n) state tombed
      (on_line (rooted state call root) tombed (line.Climb (climb.Read (record { path = path; single = single; former = former }) (reading over)))) (suc (suc (suc (suc (suc (suc n))))))
  entombs path upper depth over former n is up upper_is below before =
      let c : Climb = record { path = path; single = single; former = former } in
      swaps_in state past k call root alone word writable draft indirection main (purpose.Update path former) (Some (entrant_with state call root)) (line.Climb (climb.Read c (reading over)))
      own.over (made_slot state.heap node) at_indirection made.newest apart there licensed (λ d l. refl)
      (λ d l. ap (λ x. after_update (on_line (rooted state call root) d l) path former x) (tomb_made (flag_of (key_hash state (key_of call)) deep) (node_at state.heap main) single kind)
      ∙ ap (λ b. cond b (line.Climb (climb.Read c (reading (current (above path))))) (climbed (on_line (rooted state call root) d l) former)) (lt-ltb 1 (length path) below)
      ∙ ap (λ p. line.Climb (climb.Read c (reading (current p)))) up ∙ ap (λ r. line.Climb (climb.Read c (reading r))) upper_is.current)
      (suc n)
      (builds state past k call root alone (first_draft state) (build.Main path main (change.Entomb single) former) node
      (line.Swap (purpose.Update path former) (swapping indirection main draft.newest)) n
      (first_is state first_empty) (omega (arith, free)) before
      (ap (λ d. act.Make (changed (flag_of (key_hash state (key_of call)) d) (node_at state.heap main) (change.Entomb single))) (depth_is path deep indirection is))
      (ap (λ i. line.Swap (purpose.Update path former) (swapping i main draft.newest)) is.current))

-- from the climb to the end, over a draft in which all of this stands
module _ (state : State) (past : Record) (k : ℕ) (call : Call) (root : Ref) (alone : Alone state k) (word : word_at state (handle_of call) ≡ Plain root)
    (writable : (begun_operation state call None).access ≡ Writable) (draft : Draft) (calm : IsCalm state draft) (empty : HasEmptySlots draft.heap) (enough : 1 ≤ length draft.heap.free)
    (path upper : List Ref) (depth : ℕ) (over indirection main : Ref) (bitmap : ℕ) (entries : ArrayVec Ref) (single : Ref) (former : Option ℕ) (up : above path ≡ upper)
    (upper_is : IsPath upper depth over) (here : current path ≡ indirection) (under : IsUnder draft.heap (key_hash state (key_of call)) depth over indirection main bitmap entries)
    (lasting : (depth ≡ 0) ⊎ ¬ (length entries.items ≡ 1)) (over_slot root_slot : Slot) (at_over : stored draft.heap over ≡ Some over_slot) (at_root : stored draft.heap root ≡ Some root_slot)
    (licensed : generation_at draft.heap over ≡ generation_at draft.heap root) where
  abbrev last_node : Node
  last_node = contracted_node state call depth bitmap entries single

  abbrev last_draft : Draft
  last_draft = with_made state draft last_node

  finishes : {so_far : Record} (c : ℕ) → k < length so_far.moments →
      Stands state past k call so_far state draft (on_line (rooted state call root) draft (line.Climb (climb.Read (record { path = path; single = single; former = former }) (reading over)))) c →
      state.steps + (suc (suc (suc (suc c))) + 5) + 2 ≤ state.limits.steps →
      ComesTo state past (suc k) call (suc (suc (suc (suc c))) + 5) (changed_reply call former)
      (after_call state (swapped_in state last_draft over main) (suc (suc (suc (suc c))) + 5 + 2))
      (noted_end
      (noted_progress (noted_progress (with_read so_far k (state.steps + suc c) main) (state.steps + suc (suc (suc (suc (suc c))))) (suc k) (publishing None last_draft.newest))
      (state.steps + suc (suc (suc (suc (suc (suc (suc (suc c)))))))) (suc k) (committing last_draft.newest))
      (suc k) (entrant_with state call root) (changed_reply call former))
  finishes c within before left =
      let t = takes draft.heap last_node empty enough in
      swapped_ends state past k call root alone word writable last_draft over main (purpose.Climb (record { path = path; single = single; former = former })) None
      (line.End (changed_reply call former))
      over_slot (made_slot draft.heap last_node) (t.others over over_slot at_over) t.here (t.apart over over_slot at_over)
      (ap main_of (node_again draft.heap last_draft.heap over over_slot at_over (t.others over over_slot at_over)) ∙ under.main_is)
      (ap generation_of (node_again draft.heap last_draft.heap over over_slot at_over (t.others over over_slot at_over)) ∙ licensed
      ∙ sym (ap generation_of (node_again draft.heap last_draft.heap root root_slot at_root (t.others root root_slot at_root))))
      (λ d l. refl) (λ d l. refl) (suc (suc (suc (suc c)))) (changed_reply call former) refl
      (climbs state past k call root alone draft calm empty enough path upper depth over indirection main bitmap entries single former up upper_is here under lasting c within before) left

-- ---- numbers and lengths

in_other_numbers : (state : State) (past : Record) (actor : ℕ) (call : Call) (draft : Draft) (answer : Reply) {n m a b : ℕ} {r q : Record} → n ≡ m → a ≡ b → r ≡ q →
    ComesTo state past actor call n answer (after_call state draft a) r → ComesTo state past actor call m answer (after_call state draft b) q
in_other_numbers state past actor call draft answer {n} {m} {a} {b} {r} {q} count after recorded h =
    subst (λ x. ComesTo state past actor call m answer (after_call state draft b) x) recorded
    (subst (λ x. ComesTo state past actor call m answer (after_call state draft x) r) after (subst (λ x. ComesTo state past actor call x answer (after_call state draft a) r) count h))

n_total : (more deep looks : ℕ) → suc (suc (suc (suc (suc (suc (suc (suc (suc (suc (more + steps_down deep looks)))))))))) + 5 ≡ steps_down deep (looks + more) + 15
n_total more deep looks = omega arith

n_after : (more deep looks : ℕ) → suc (suc (suc (suc (suc (suc (suc (suc (suc (suc (more + steps_down deep looks)))))))))) + 5 + 2 ≡ steps_down deep (looks + more) + 17
n_after more deep looks = omega arith

numbers : (state : State) (more deep looks : ℕ) → ◌≡◌ {A = ℕ × ℕ × ℕ} (
  state.steps + suc (suc (suc (suc (suc (more + steps_down deep looks))))),
  state.steps + suc (suc (suc (suc (suc (suc (suc (more + steps_down deep looks))))))),
  state.steps + suc (suc (suc (suc (suc (suc (suc (suc (suc (suc (suc (suc (suc (suc (more + steps_down deep looks)))))))))))))),
)
    (state.steps + (steps_down deep (looks + more) + 5), state.steps + (steps_down deep (looks + more) + 7), state.steps + (steps_down deep (looks + more) + 14))
numbers state more deep looks =
    ap (λ (n : ℕ). (
      state.steps + suc (suc (suc (suc (suc n)))),
      state.steps + suc (suc (suc (suc (suc (suc (suc n)))))),
      state.steps + suc (suc (suc (suc (suc (suc (suc (suc (suc (suc (suc (suc (suc (suc n))))))))))))),
    )) same ∙ plain (steps_down deep (looks + more))
  where
    same : more + steps_down deep looks ≡ steps_down deep (looks + more)
    same = omega arith

    five : (n : ℕ) → suc (suc (suc (suc (suc n)))) ≡ n + 5
    five n = omega arith

    seven : (n : ℕ) → suc (suc (suc (suc (suc (suc (suc n)))))) ≡ n + 7
    seven n = omega arith

    fourteen : (n : ℕ) → suc (suc (suc (suc (suc (suc (suc (suc (suc (suc (suc (suc (suc (suc n))))))))))))) ≡ n + 14
    fourteen n = omega arith

    plain : (n : ℕ) → ◌≡◌ {A = ℕ × ℕ × ℕ} (
      state.steps + suc (suc (suc (suc (suc n)))),
      state.steps + suc (suc (suc (suc (suc (suc (suc n)))))),
      state.steps + suc (suc (suc (suc (suc (suc (suc (suc (suc (suc (suc (suc (suc (suc n))))))))))))),
    )
        (state.steps + (n + 5), state.steps + (n + 7), state.steps + (n + 14))
    plain n =
        ap (λ (a : ℕ). (
          state.steps + a,
          state.steps + suc (suc (suc (suc (suc (suc (suc n)))))),
          state.steps + suc
              (suc (suc (suc (suc (suc (suc (suc (suc (suc (suc (suc (suc (suc n))))))))))))),
        )) (five n)
        ∙ ap (λ (b : ℕ). (state.steps + (n + 5), state.steps + b, state.steps + suc (suc (suc (suc (suc (suc (suc (suc (suc (suc (suc (suc (suc (suc n))))))))))))))) (seven n)
        ∙ ap (λ (c : ℕ). (state.steps + (n + 5), state.steps + (n + 7), state.steps + c)) (fourteen n)

fits_after : (past : Record) (step k : ℕ) (p : Progress) → k < length past.moments → k < length (noted_progress past step (suc k) p).moments
fits_after past step k p fits = omega (arith, fits, length-set past.moments (suc k - 1) (moment_after past step p (moment_at past (suc k))))

pub fits_longer : (past so_far : Record) (k : ℕ) → k < length so_far.moments → (step later : ℕ) (p q : Progress) →
    k < length (noted_progress (noted_progress so_far step (suc k) p) later (suc k) q).moments
fits_longer past so_far k fits step later p q = fits_after (noted_progress so_far step (suc k) p) later k q (fits_after so_far step k p fits)

-- ---- the law

contracts_at : (state : State) (past : Record) (k : ℕ) (call : Call) (root : Ref) (depth deep bitmap : ℕ) (entries : ArrayVec Ref) (over indirection : Ref) (position value looks more : ℕ) →
    deep ≡ suc depth → IsReady state (suc k) call root → IsRecordOf state past → IsKeyed call → StandsOver state call root depth over bitmap entries indirection →
    Finds state call root deep indirection position value looks → when_found call value ≡ Removes → LeavesSingle state.heap indirection position more →
    (depth ≡ 0) ⊎ ¬ (length entries.items ≡ 1) →
    IsLive state.heap (main_at state.heap over) → IsLive state.heap (main_at state.heap indirection) → 2 ≤ length state.heap.free →
    LastsFor state (steps_down deep (looks + more) + 15) →
    ComesTo state past (suc k) call (steps_down deep (looks + more) + 15) (changed_reply call (Some value))
    (after_call state (with_contraction state call depth deep over bitmap entries indirection position) (steps_down deep (looks + more) + 17))
    (contracted_record past state (suc k) call root (state.steps + (steps_down deep (looks + more) + 5)) (with_tomb state call deep indirection position).newest
    (state.steps + (steps_down deep (looks + more) + 7)) (state.steps + (steps_down deep (looks + more) + 14))
    (with_contraction state call depth deep over bitmap entries indirection position).newest (changed_reply call (Some value)))
contracts_at state past k call root depth deep bitmap entries over indirection position value looks more is_deep ready is keyed stands finds removes leaves lasting over_live main_live free lasts =
    let alone = alone_at state k call root ready in
    let calm = calm_at state (suc k) call root ready in
    let fits = fits_at state past k call root ready is in
    let main = main_at state.heap indirection in
    let main_over = main_at state.heap over in
    let writable = writable_at state (suc k) call ready.allowed (removes_write call value removes) in
    let own = leads_own state.heap _ _ root deep indirection writable (finds_down finds) in
    let own_over = leads_own state.heap _ _ root depth over writable stands.down in
    let (main_slot, main_stands) = live_stands state.heap main main_live in
    let (over_slot, over_stands) = live_stands state.heap main_over over_live in
    let both : HasBoth state past k call root alone calm fits depth deep over indirection position value looks =
    subst (λ d. HasBoth state past k call root alone calm fits depth d over indirection position value looks) (sym is_deep)
    (has_both state past k call root alone calm fits (comes_keyed state past k call root ready keyed) depth bitmap entries over indirection position value looks stands
    (subst (λ d. Finds state call root d indirection position value looks) is_deep finds)) in
    let n = more + steps_down deep looks in
    let below : 1 < length both.path = omega (arith, both.is.size, is_deep) in
    let to_tomb =
    comes_to_tomb state past k call root ready fits both.path indirection position value more (steps_down deep looks) below leaves
    (again state past k call root alone calm fits _ (removing state both.path main position value (node_at state.heap main)) (steps_down deep looks) (steps_down deep looks)
    (ap (λ todo. found_so state both.path main position value todo) removes) refl both.stands) in
    let kind = leaves_main state.heap indirection position more leaves in
    let free_slots = ready.rests.free in
    let tombed = with_tomb state call deep indirection position in
    let climbing =
    entombs state past k call root alone ready.word writable free_slots free deep indirection position kind own main_slot main_stands both.path both.upper depth over (Some value) n both.is both.up
    both.upper_is below to_tomb in
    let empty = tombed_empty state past k call root alone ready.word writable free_slots free deep indirection position kind own main_slot main_stands in
    let enough = tombed_free state past k call root alone ready.word writable free_slots free deep indirection position kind own main_slot main_stands in
    let kept = tombed_stays state past k call root alone ready.word writable free_slots free deep indirection position kind own main_slot main_stands in
    let two = two_slots state.heap main_over indirection bitmap stands.generation stands.word entries over_slot over_stands stands.entry.branch
    (sym (ap (node_at state.heap) stands.same) ∙ stands.is) in
    let (root_slot, at_root) = tombed_root state past k call root alone ready.word writable free_slots free deep indirection position kind own main_slot main_stands in
    let generation = tombed_generation state past k call root alone ready.word writable free_slots free deep indirection position kind own main_slot main_stands in
    let under : IsUnder tombed.heap (key_hash state (key_of call)) depth over indirection main_over bitmap entries = record {
      main_is = ap main_of (node_again state.heap tombed.heap over own_over.over own_over.stands (kept over own_over.over own_over.stands stands.apart));
      decided = prev_stays state.heap tombed.heap main_over over_slot over_stands (kept main_over over_slot over_stands two) ∙ stands.entry.decided;
      branch = node_again state.heap tombed.heap main_over over_slot over_stands (kept main_over over_slot over_stands two) ∙ stands.entry.branch;
      flagged = stands.entry.flagged;
      entry = sym (ap (λ x. slice_index_or (entries_of x) (position_of (flag_of (key_hash state (key_of call)) depth) bitmap) no_ref) stands.entry.branch) ∙ stands.same;
    } in
    let looked_at = looked state past k call root alone calm fits deep indirection in
    let recorded = tombed_record state past k call root alone ready.word writable free_slots free deep indirection position kind own main_slot main_stands looked_at n in
    in_other_numbers state past (suc k) call (with_contraction state call depth deep over bitmap entries indirection position) (changed_reply call (Some value)) (n_total more deep looks)
    (n_after more deep looks)
    (contracted_noted state past k call root (state.steps + suc (4 * deep + 1)) (state.steps + suc (suc n)) (state.steps + suc (suc (suc (suc (suc n)))))
    (state.steps + suc (suc (suc (suc (suc (suc (suc n))))))) (state.steps + suc (suc (suc (suc (suc (suc (suc (suc (suc (suc (suc n)))))))))))
    (state.steps + suc (suc (suc (suc (suc (suc (suc (suc (suc (suc (suc (suc (suc (suc n)))))))))))))) main tombed.newest main_over
    (with_contraction state call depth deep over bitmap entries indirection position).newest (changed_reply call (Some value)) fits (keyed_open call keyed)
    ∙ ap (λ (i : ℕ × ℕ × ℕ). contracted_record past state (suc k) call root i.0 tombed.newest i.1 i.2
    (with_contraction state call depth deep over bitmap entries indirection position).newest (changed_reply call (Some value))) (numbers state more deep looks))
    (finishes state past k call root alone ready.word writable tombed
    (tombed_calm state past k call root alone ready.word writable free_slots free deep indirection position kind own main_slot main_stands) empty enough both.path both.upper depth over
    indirection main_over bitmap entries (single_left state indirection position) (Some value) both.up both.upper_is both.is.current under lasting own_over.over root_slot
    (kept over own_over.over own_over.stands stands.apart) at_root
    (generation over own_over.over own_over.stands ∙ own_over.licensed ∙ sym (generation root own.top own.root_stands))
    (suc (suc (suc (suc (suc (suc n)))))) (fits_longer past looked_at k (read_fits state past k call (state.steps + suc (4 * deep + 1)) main fits) (state.steps + suc (suc n))
    (state.steps + suc (suc (suc (suc (suc n)))))
    (publishing (Some (entrant_with state call root)) tombed.newest) (committing tombed.newest)) climbing (omega (arith, lasts)))

pub contracts_straight : ContractsStraight
contracts_straight state past zero call root depth bitmap entries over indirection position value looks more ready is keyed stands finds removes leaves lasting over_live main_live free lasts =
    absurd (no_actor ready)
contracts_straight state past (suc k) call root depth bitmap entries over indirection position value looks more ready is keyed stands finds removes leaves lasting over_live main_live free lasts =
    contracts_at state past k call root depth (depth + 1) bitmap entries over indirection position value looks more (omega arith) ready is keyed stands finds removes leaves lasting over_live main_live
    free lasts
