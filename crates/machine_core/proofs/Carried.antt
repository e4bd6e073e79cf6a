-- A call that is carried out at once comes to what its steps come to.
use Rattle.std.proofs.Common.{arith, ◌≡◌, ℕ, ◌+◌, ◌*◌, ◌≤◌, true, List, [], Some, None, Ok, refl, sym, ap, ◌∙◌, subst}
use Rattle.machine_core.specs.Vocabulary.{Call, Reply, Ref, IsLive, entry_at, main_at, node_at, Writable, times, changed_reply, inserts, key_of, when_found, Removes, outside, FitsKey, Ended}
use Rattle.machine_core.specs.Vocabulary.{first_record, State, key_hash, flag_of, parts_at, with_change, with_pair, with_single, Draft, after_call, first_draft, held_with, Finds, Misses}
use Rattle.machine_core.specs.Vocabulary.{beside_other, no_entry, steps_down, IsOfRun, Comes, starts, walks, CanSwap, IsDraft, KeepsRecords}
use Rattle.slot_arena.proofs.Times.{times-append}
use Rattle.epochs.specs.Memories.{Memory}
use Rattle.machine_model.specs.declared.steps.Step.TheVariants as step
use Rattle.machine_core.specs.Beneath.proof_straight.specs.Places.{HasRoom, Leaves, in_branch}
use Rattle.machine_core.specs.Beneath.proof_straight.specs.Running.{GoesOn, IsKeyed}
use Rattle.machine_core.specs.Beneath.proof_straight.proofs.Change.Changes.{inserts_straight, removes_straight, sets_straight}
use Rattle.machine_core.specs.Beneath.proof_straight.proofs.Change.Parting.{parts_straight}
use Rattle.machine_core.specs.Beneath.proof_straight.proofs.Way.Unchanged.{answers_straight, misses_straight}
use Rattle.machine_core.specs.Beneath.proof_straight.proofs.Change.Recording.{first_is_record}
use Rattle.machine_core.specs.Beneath.proof_straight.proofs.Runs.ByRuns.{comes_without_record}
use Rattle.machine_model.specs.declared.building.Change.TheVariants as change
use Rattle.machine_model.specs.declared.building.Site.TheVariants as site
use Rattle.machine_core.specs.declared.descending.Entry.{Entry}
use Rattle.machine_core.specs.declared.descending.Entry.TheVariants.{Vacant, Own, Other}
use Rattle.machine_core.specs.declared.descending.Place.{Place}
use Rattle.machine_core.specs.declared.parts.Parts.{Parts}
use Rattle.machine_core.specs.Changing.{IsAnswer, IsPut, IsRemoval, looks_at, putting, value_in}
use Rattle.machine_core.specs.Descending.{EndsAt, IsHere}
use Rattle.machine_core.specs.Keeping.{IsCore, IsKept}
use Rattle.machine_core.specs.Pairing.{IsPaired}
use Rattle.machine_core.specs.Seen.{seen}
use Rattle.machine_core.specs.Straight.{CanGo, CarriesFrom, CarriesOut, HasArrived, LeadsTo}
use Rattle.proof_core.proofs.Tries.{can_swap_there, entry_lives}
use Rattle.proof_core.proofs.Bounded.{taken_run}
use Rattle.machine_core.proofs.Ends.{alike}
use Rattle.machine_core.proofs.Kept.{kept_alike}

-- ---- a run leads to what a call comes to

pub goes_run : (state : State) (actor : ℕ) (call : Call) (n : ℕ) (now : State) → IsOfRun state → FitsKey (step.Begin actor call None) → GoesOn state actor call n now → IsOfRun now
goes_run state actor call n now run fits (starts is) = taken_run state now (step.Begin actor call None) _ is fits run
goes_run state actor call n now run fits (walks {n = m} {before} earlier is) = taken_run before now (step.Go actor) _ is tt (goes_run state actor call m before run fits earlier)

pub comes_run : (state : State) (actor : ℕ) (call : Call) (n : ℕ) (answer : Reply) (after : State) → IsOfRun state → FitsKey (step.Begin actor call None) →
    Comes state actor call n answer after → IsOfRun after
comes_run state actor call n answer after run fits h = taken_run h.last after (step.Go actor) _ h.ends tt (goes_run state actor call n h.last run fits h.goes)

-- ---- the parts

-- the heap at rest has come as far as a call that makes its first change
pub drafted_first : (parts : Parts) → IsKept parts → parts.heap.noted ≡ [] → IsDraft (seen parts) (first_draft (seen parts)) parts.heap
drafted_first parts kept settled = record {
  heap = refl;
  limbo = refl;
  held = λ r. omega (arith, ap (λ n. n) (alike parts.heap (seen parts) kept.tied r), times-append r (outside (seen parts)) []);
  epoch = refl;
  settled = settled;
}

pub first_drafted : (parts : Parts) → IsCore parts → IsDraft (seen parts) (first_draft (seen parts)) parts.heap
first_drafted parts core = drafted_first parts core.kept core.settled

-- the parts over this heap, behind a call of so many steps
abbrev pub counted : Parts → Memory → ℕ → Parts
counted before memory n = record before { heap = memory; begun = before.begun + 1; steps = before.steps + n }

-- the heap has come as far as the draft of a call that has nothing of its own any more
pub record ComesAsFar (before : Parts) (memory : Memory) (draft : Draft) : Type 0 where
  pub draft_is : IsDraft (seen before) draft memory
  pub private : draft.private ≡ []
  pub records : KeepsRecords before.heap memory

-- the state over this heap behind a call
state_over : (state : State) (draft : Draft) (memory : Memory) (n : ℕ) → IsDraft state draft memory → memory.cursor ≡ state.cursor →
    record state { heap = memory.heap; limbo = memory.limbo; epoch = memory.epoch; cursor = memory.cursor; begun = state.begun + 1; steps = state.steps + n } ≡ after_call state draft n
state_over state draft memory n is same = rw (is.heap, is.limbo, is.epoch, same) refl

seen_then : (before : Parts) (memory : Memory) (draft : Draft) (n : ℕ) → ComesAsFar before memory draft → seen (counted before memory n) ≡ after_call (seen before) draft n
seen_then before memory draft n to = state_over (seen before) draft memory n to.draft_is to.records.0

-- over such a heap all is kept, however many operations have begun and steps were taken
pub kept_over : (before : Parts) (memory : Memory) (draft : Draft) (begun steps : ℕ) → IsKept before → ComesAsFar before memory draft →
    IsKept (record before { heap = memory; begun = begun; steps = steps })
kept_over before memory draft begun steps kept to =
    kept_alike before (record before { heap = memory; begun = begun; steps = steps }) (record {
      limits = refl;
      table = refl;
      actors = refl;
      handles = refl;
      outside = λ r. omega (
        arith,
        to.draft_is.held r,
        ap (λ (held : List Ref). times r (held_with (seen before) held)) to.private,
        alike before.heap (seen before) kept.tied r,
        times-append r (outside (seen before)) [],
      );
      pins = to.records.1;
    }) kept

-- what the call comes to from the second state it comes to from the start
comes_from : (start now : State) (actor : ℕ) (call : Call) (depth n : ℕ) (answer : Reply) (after : State) → LeadsTo start now actor call depth → 4 * depth + 3 ≤ n →
    Comes now actor call n answer after → CarriesOut start actor call answer after
comes_from start now actor call depth n answer after to long h =
    let (m, longer, goes) = to.passes n h.last long h.goes in (m, record { last = h.last; goes = goes; ends = h.ends ∙ ap (λ id. Ok (Ended id answer, after)) to.begun })

-- a call on one key that runs alone, at the place where its way down has ended
pub record Prepared : Type 0 where
  pub start : State
  pub before : Parts
  pub actor : ℕ
  pub call : Call
  pub root : Ref
  pub place : Place
  pub arrived : HasArrived start before actor call root place

-- it is carried out, in so many steps between its begin and its end, and leaves a core
pub carried : (p : Prepared) (after : Parts) (memory : Memory) (draft : Draft) (n all : ℕ) (reply : Reply) → ComesAsFar p.before memory draft → after ≡ counted p.before memory all → all ≡ n + 2 →
    4 * p.place.depth + 3 ≤ n → Comes (seen p.before) p.actor p.call n reply (after_call (seen p.before) draft (n + 2)) → CarriesFrom p.start p.actor p.call reply after
carried p after memory draft n all reply to is many long comes =
    let (m, so) = comes_from p.start (seen p.before) p.actor p.call p.place.depth n reply (after_call (seen p.before) draft (n + 2)) p.arrived.leads long comes in
    let counts : after ≡ counted p.before memory (n + 2) = is ∙ ap (counted p.before memory) many in (
      (m, subst (Comes p.start p.actor p.call m reply) (sym (ap seen counts ∙ seen_then p.before memory draft (n + 2) to)) so),
      subst IsCore (sym counts) (record {
        run = subst IsOfRun (sym (seen_then p.before memory draft (n + 2) to)) (comes_run p.start p.actor p.call m reply _ p.arrived.leads.run p.arrived.fits so);
        kept = kept_over p.before memory draft (p.before.begun + 1) (p.before.steps + (n + 2)) p.arrived.fit.kept to;
        settled = to.draft_is.settled;
      }),
    )

-- ---- a single that is put where the way down ends

module _ (state : State) (actor : ℕ) (call : Call) (root : Ref) (can : CanGo state actor call root 0) (keyed : IsKeyed call) where
  abbrev EndsOf : Place → Type 0
  EndsOf place = EndsAt state.heap root (key_hash state (key_of call)) (key_of call) place

  -- what is there, under the definition's names
  here_at : (place : Place) → EndsOf place →
      IsHere state.heap (main_at state.heap place.indirection) (flag_of (key_hash state (key_of call)) place.depth) (key_of call) place.position place.entry
  here_at place ends =
      subst (λ flag. IsHere state.heap (main_at state.heap place.indirection) flag (key_of call) place.position place.entry) ends.flag
      (subst (λ main. IsHere state.heap main place.flag (key_of call) place.position place.entry) ends.main ends.here)

  pub can_swap_at : (place : Place) (nodes : ℕ) → EndsOf place → nodes ≤ 32 → CanSwap state.heap place.indirection place.main nodes
  can_swap_at place nodes ends few =
      can_swap_there state.heap root can.trie Writable (key_hash state (key_of call)) place.depth place.indirection place.main ends.here.bitmap ends.here.entries nodes
      can.ready.rests.free (omega (arith, few, can.births)) (ends.leads Writable) ends.main ends.here.branch (omega (arith, few, can.slots))

  -- where the key's own single stands
  finds_own : (place : Place) (value : ℕ) → EndsOf place → place.entry ≡ Own value → Finds state call root place.depth place.indirection place.position value 1
  finds_own place value ends own =
      let here = subst (IsHere state.heap (main_at state.heap place.indirection) (flag_of (key_hash state (key_of call)) place.depth) (key_of call) place.position) own (here_at place ends) in
      subst (λ position. Finds state call root place.depth place.indirection position value 1) (sym here.at)
      (in_branch (ends.leads _) (record { decided = here.decided; branch = here.branch; flagged = here.stands.0 })
      (ap (λ position. node_at state.heap (entry_at state.heap (main_at state.heap place.indirection) position)) (sym here.at) ∙ here.stands.1))

  -- where nothing stands in its place
  misses_vacant : (place : Place) → EndsOf place → place.entry ≡ Vacant → Misses state call root place.depth place.indirection site.Absent 0
  misses_vacant place ends vacant =
      let here = subst (IsHere state.heap (main_at state.heap place.indirection) (flag_of (key_hash state (key_of call)) place.depth) (key_of call) place.position) vacant (here_at place ends) in
      no_entry (ends.leads _) here.decided here.branch here.stands

  has_room : (place : Place) → EndsOf place → HasRoom (node_at state.heap (main_at state.heap place.indirection))
  has_room place ends = subst HasRoom (sym (here_at place ends).branch) tt

  -- the call puts it
  pub puts_straight : (place : Place) (entry : Entry) → EndsOf place → place.entry ≡ entry → IsPut call entry →
      Comes state actor call (steps_down place.depth (looks_at entry) + 7) (changed_reply call (value_in entry))
      (after_call state (with_change state call place.depth place.indirection (with_single state call) (putting entry place.position (with_single state call).newest))
      (steps_down place.depth (looks_at entry) + 7 + 2))
  puts_straight place (Own value) ends is sets =
      let swap = can_swap_at place 2 ends (omega arith) in
      comes_without_record state (first_record state.limits) actor call _ _ _ _
      (sets_straight state (first_record state.limits) actor call root place.depth place.indirection place.position value 1 can.ready
      (first_is_record state) keyed (finds_own place value ends is) sets (subst (IsLive state.heap) ends.main swap.main_live) swap.free (omega (arith, can.steps, ends.deep)))
  puts_straight place Vacant ends is puts =
      let swap = can_swap_at place 2 ends (omega arith) in
      comes_without_record state (first_record state.limits) actor call _ _ _ _
      (inserts_straight state (first_record state.limits) actor call root place.depth place.indirection 0 can.ready
      (first_is_record state) keyed (misses_vacant place ends is) puts (has_room place ends) (subst (IsLive state.heap) ends.main swap.main_live) swap.free (omega (arith, can.steps, ends.deep)))
  puts_straight place Other ends is puts = absurd puts

  -- where the single of another key stands in its place
  misses_other : (place : Place) → EndsOf place → place.entry ≡ Other → Misses state call root place.depth place.indirection (site.Beside place.position) 1
  misses_other place ends other =
      let here = subst (IsHere state.heap (main_at state.heap place.indirection) (flag_of (key_hash state (key_of call)) place.depth) (key_of call) place.position) other (here_at place ends) in
      let (key, value, single, apart) = here.stands.1 in
      subst (λ position. Misses state call root place.depth place.indirection (site.Beside position) 1) (sym here.at)
      (beside_other (ends.leads _) (record { decided = here.decided; branch = here.branch; flagged = here.stands.0 })
      (ap (λ position. node_at state.heap (entry_at state.heap (main_at state.heap place.indirection) position)) (sym here.at) ∙ single) apart)

  -- which is in use
  pub other_lives : (place : Place) → EndsOf place → place.entry ≡ Other → IsLive state.heap (entry_at state.heap place.main place.position)
  other_lives place ends other =
      let here = subst (IsHere state.heap (main_at state.heap place.indirection) (flag_of (key_hash state (key_of call)) place.depth) (key_of call) place.position) other (here_at place ends) in
      subst (λ main. IsLive state.heap (entry_at state.heap main place.position)) (sym ends.main)
      (subst (λ position. IsLive state.heap (entry_at state.heap (main_at state.heap place.indirection) position)) (sym here.at)
      (entry_lives state.heap root can.trie Writable (key_hash state (key_of call)) place.depth place.indirection here.bitmap here.entries (ends.leads Writable) here.branch here.stands.0))

  -- the call puts it beside that one
  pub parts_beside : (place : Place) (levels : ℕ) → EndsOf place → place.entry ≡ Other → inserts call ≡ true →
      parts_at state call place.depth place.indirection place.position ≡ place.depth + 1 + levels → levels ≤ 12 →
      Comes state actor call (steps_down place.depth 1 + 2 * levels + 9) (changed_reply call None)
      (after_call state (with_change state call place.depth place.indirection (with_pair state call root place.depth place.indirection place.position levels)
      (change.Update place.position (with_pair state call root place.depth place.indirection place.position levels).newest)) (steps_down place.depth 1 + 2 * levels + 9 + 2))
  parts_beside place levels ends is puts parts few =
      let swap = can_swap_at place 28 ends (omega arith) in
      comes_without_record state (first_record state.limits) actor call _ _ _ _
      (parts_straight state (first_record state.limits) actor call root place.depth place.indirection place.position 1 levels can.ready
      (first_is_record state) keyed (misses_other place ends is) puts parts (subst (IsLive state.heap) ends.main swap.main_live) (omega (arith, swap.free, few))
      (omega (arith, can.steps, ends.deep, few)))

  -- the call takes it out
  pub removes_at : (place : Place) (value more : ℕ) → EndsOf place → place.entry ≡ Own value → when_found call value ≡ Removes →
      Leaves state.heap place.depth place.indirection place.position more → more ≤ 1 →
      Comes state actor call (steps_down place.depth (1 + more) + 6) (changed_reply call (Some value))
      (after_call state (with_change state call place.depth place.indirection (first_draft state) (change.Remove place.position)) (steps_down place.depth (1 + more) + 6 + 2))
  removes_at place value more ends is removes leaves few =
      let swap = can_swap_at place 1 ends (omega arith) in
      comes_without_record state (first_record state.limits) actor call _ _ _ _
      (removes_straight state (first_record state.limits) actor call root place.depth place.indirection place.position value 1 more can.ready
      (first_is_record state) keyed (finds_own place value ends is) removes leaves (subst (IsLive state.heap) ends.main swap.main_live) swap.free
      (omega (arith, can.steps, ends.deep, few)))

  -- the call leaves it as it is
  pub answers_at : (place : Place) (entry : Entry) (answer : Reply) → EndsOf place → place.entry ≡ entry → IsAnswer call entry answer →
      Comes state actor call (steps_down place.depth (looks_at entry)) answer (after_call state (first_draft state) (steps_down place.depth (looks_at entry) + 2))
  answers_at place (Own value) answer ends is answers =
      comes_without_record state (first_record state.limits) actor call _ _ _ _
      (answers_straight state (first_record state.limits) actor call root place.depth place.indirection place.position value 1 answer
      can.ready (first_is_record state) keyed (finds_own place value ends is) answers (omega (arith, can.steps, ends.deep)))
  answers_at place Vacant answer ends is (never, replies) =
      subst (λ r. Comes state actor call (steps_down place.depth 0) r (after_call state (first_draft state) (steps_down place.depth 0 + 2))) (sym replies)
      (comes_without_record state (first_record state.limits) actor call _ _ _ _
      (misses_straight state (first_record state.limits) actor call root place.depth place.indirection site.Absent 0
      can.ready (first_is_record state) keyed (misses_vacant place ends is) never (omega (arith, can.steps, ends.deep))))
  answers_at place Other answer ends is (never, replies) =
      subst (λ r. Comes state actor call (steps_down place.depth 1) r (after_call state (first_draft state) (steps_down place.depth 1 + 2))) (sym replies)
      (comes_without_record state (first_record state.limits) actor call _ _ _ _
      (misses_straight state (first_record state.limits) actor call root place.depth place.indirection (site.Beside place.position) 1
      can.ready (first_is_record state) keyed (misses_other place ends is) never (omega (arith, can.steps, ends.deep))))

-- a call that put its key's single is carried out
pub put_done : (p : Prepared) (after : Parts) (memory : Memory) (looks : ℕ) → IsPut p.call p.place.entry →
    ComesAsFar p.before memory
    (with_change (seen p.before) p.call p.place.depth p.place.indirection (with_single (seen p.before) p.call) (putting p.place.entry p.place.position (with_single (seen p.before) p.call).newest)) →
    looks ≡ looks_at p.place.entry → after ≡ counted p.before memory (4 * p.place.depth + looks + 13) →
    CarriesFrom p.start p.actor p.call (changed_reply p.call (value_in p.place.entry)) after
put_done p after memory looks puts to many counts =
    let state = seen p.before in
    let draft = with_change state p.call p.place.depth p.place.indirection (with_single state p.call) (putting p.place.entry p.place.position (with_single state p.call).newest) in
    let comes = puts_straight state p.actor p.call p.root p.arrived.fit.can p.arrived.keyed p.place p.place.entry p.arrived.ends refl puts in
    let steps : 4 * p.place.depth + looks + 13 ≡ steps_down p.place.depth (looks_at p.place.entry) + 7 + 2 = omega (arith, many) in
    carried p after memory draft (steps_down p.place.depth (looks_at p.place.entry) + 7) (4 * p.place.depth + looks + 13) (changed_reply p.call (value_in p.place.entry)) to counts steps
    (omega arith) comes

-- a call that put its key's single beside another is carried out
pub part_done : (p : Prepared) (after : Parts) (memory : Memory) (levels : ℕ) → p.place.entry ≡ Other → inserts p.call ≡ true →
    IsPaired (seen p.before) p.call p.root p.place.depth p.place.indirection p.place.position levels memory → KeepsRecords p.before.heap memory →
    after ≡ counted p.before memory (4 * p.place.depth + 2 * levels + 16) → CarriesFrom p.start p.actor p.call (changed_reply p.call None) after
part_done p after memory levels other puts paired records counts =
    let state = seen p.before in
    let pair = with_pair state p.call p.root p.place.depth p.place.indirection p.place.position levels in
    let draft = with_change state p.call p.place.depth p.place.indirection pair (change.Update p.place.position pair.newest) in
    let to : ComesAsFar p.before memory draft = record { draft_is = paired.draft; private = refl; records = records } in
    let comes = parts_beside state p.actor p.call p.root p.arrived.fit.can p.arrived.keyed p.place levels p.arrived.ends other puts paired.parts paired.few in
    let steps : 4 * p.place.depth + 2 * levels + 16 ≡ steps_down p.place.depth 1 + 2 * levels + 9 + 2 = omega arith in
    carried p after memory draft (steps_down p.place.depth 1 + 2 * levels + 9) (4 * p.place.depth + 2 * levels + 16) (changed_reply p.call None) to counts steps (omega arith) comes

-- a call that took its key out is carried out
pub remove_done : (p : Prepared) (after : Parts) (memory : Memory) (more : ℕ) → IsRemoval p.call p.place.entry → more ≤ 1 →
    Leaves (seen p.before).heap p.place.depth p.place.indirection p.place.position more →
    ComesAsFar p.before memory (with_change (seen p.before) p.call p.place.depth p.place.indirection (first_draft (seen p.before)) (change.Remove p.place.position)) →
    after ≡ counted p.before memory (4 * p.place.depth + more + 13) → CarriesFrom p.start p.actor p.call (changed_reply p.call (value_in p.place.entry)) after
remove_done p after memory more removes few leaves to counts = by p.place.entry refl removes
  where
    by : (entry : Entry) → p.place.entry ≡ entry → IsRemoval p.call entry → CarriesFrom p.start p.actor p.call (changed_reply p.call (value_in p.place.entry)) after
    by Vacant same removes = absurd removes
    by Other same removes = absurd removes
    by (Own value) same removes =
        let state = seen p.before in
        let draft = with_change state p.call p.place.depth p.place.indirection (first_draft state) (change.Remove p.place.position) in
        let comes = removes_at state p.actor p.call p.root p.arrived.fit.can p.arrived.keyed p.place value more p.arrived.ends same removes leaves few in
        let steps : 4 * p.place.depth + more + 13 ≡ steps_down p.place.depth (1 + more) + 6 + 2 = omega arith in
        subst (λ e. CarriesFrom p.start p.actor p.call (changed_reply p.call (value_in e)) after) (sym same)
        (carried p after memory draft (steps_down p.place.depth (1 + more) + 6) (4 * p.place.depth + more + 13) (changed_reply p.call (Some value)) to counts steps (omega arith) comes)

-- a call that changed nothing is carried out
pub leave_done : (p : Prepared) (after : Parts) (looks : ℕ) (answer : Reply) → IsAnswer p.call p.place.entry answer → looks ≡ looks_at p.place.entry →
    after ≡ counted p.before p.before.heap (4 * p.place.depth + looks + 6) → CarriesFrom p.start p.actor p.call answer after
leave_done p after looks answer answers many counts =
    let state = seen p.before in
    let to : ComesAsFar p.before p.before.heap (first_draft state) = record { draft_is = drafted_first p.before p.arrived.fit.kept p.arrived.fit.settled; private = refl; records = (refl, refl) } in
    let comes = answers_at state p.actor p.call p.root p.arrived.fit.can p.arrived.keyed p.place p.place.entry answer p.arrived.ends refl answers in
    let steps : 4 * p.place.depth + looks + 6 ≡ steps_down p.place.depth (looks_at p.place.entry) + 2 = omega (arith, many) in
    carried p after p.before.heap (first_draft state) (steps_down p.place.depth (looks_at p.place.entry)) (4 * p.place.depth + looks + 6) answer to counts steps (omega arith) comes
