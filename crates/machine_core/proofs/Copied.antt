-- A copy, a clear or a close that is carried out at once comes to what its steps come to.
use Rattle.std.proofs.Common.{arith, ◌≡◌, ℕ, ◌+◌, ◌<◌, ◌≤◌, ◌==◌, ◌||◌, true, false, is_some, List, [], ◌∷◌, get_or, length, Option, Some, None, if◌then◌else◌}
use Rattle.std.proofs.Common.{refl, sym, ap, ◌∙◌, subst, eq-eqb, ne_eqb}
use Rattle.std.proofs.lemmas.List.Elements.{All-cons, All-nil}
use Rattle.std.specs.Prelude.{unwrap_or}
use Rattle.std.proofs.lemmas.Bool.{cases_eq, false≢true}
use Rattle.std.specs.Prelude.{◌⊎◌}
use Rattle.std.proofs.Common.{inl, inr}
use Rattle.handle_table.specs.Numbers.{Numbers, is_taken_in}
use Rattle.machine_core.specs.Vocabulary.{Writable, Call, Reply, Ref, AreLive, IsLive, birth_limit, Heap, empty_branch, main_at, main_of, prev_at, taken, Node, Branch, times, Descriptor, Root}
use Rattle.machine_core.specs.Vocabulary.{Plain, handle_of, needs_writable, FitsKey, access_of, begin_denial, is_busy, is_number, State, root_at, with_root, with_word, word_at, word_of, least_free}
use Rattle.machine_core.specs.Vocabulary.{first_record, Course, IsSettled, first_course, with_offer, Draft, after_call, Comes, HasEmptySlots, KeepsRecords, KnowsNumbers, given_back, reserved}
use Rattle.machine_core.specs.Vocabulary.{cleared, closed, frozen, snapshotted, IsOfRun, Table}
use Rattle.arrayvec.specs.ArrayVec.{ArrayVec}
use Rattle.slot_arena.specs.declared.nodes.Prev.TheVariants as prev
use Rattle.slot_arena.proofs.Times.{times_le}
use Rattle.epochs.specs.Memories.{Memory}
use Rattle.machine_model.specs.declared.steps.Step.TheVariants as step
use Rattle.machine_model.proofs.Found.{found_within}
use Rattle.machine_core.specs.Beneath.proof_memory.proofs.Safety.Base.{handle_given}
use Rattle.machine_core.specs.Beneath.proof_straight.proofs.Change.Builds.{writable_at}
use Rattle.machine_core.specs.declared.parts.Parts.{Parts}
use Rattle.machine_core.specs.Keeping.{IsCore}
use Rattle.machine_core.specs.Rooting.{HoldsBeside, IsCourse, IsOverDecided, writable}
use Rattle.machine_core.specs.Seen.{actors_seen, seen}
use Rattle.machine_core.specs.Straight.{CarriesBy}
use Rattle.machine_core.proofs.AtRest.{root_lives}
use Rattle.machine_core.proofs.Carried.{first_drafted}
use Rattle.proof_core.proofs.Drafts.{births_more, takes_one}
use Rattle.machine_core.proofs.Held.{few_held}
use Rattle.proof_core.proofs.Given.{sizes}
use Rattle.machine_core.proofs.Rerooted.{course_done, known_at_rest}
use Rattle.proof_core.proofs.Reserved.{given_other, given_own, given_running, given_many, reserved_is, reserved_many, reserved_running}
use Rattle.machine_core.proofs.Rooted.{course_counted, opened_is, some_closed, some_opened}
use Rattle.history.specs.declared.calls.Call.TheVariants as call
use Rattle.history.specs.declared.replies.Reply.TheVariants as reply
use Rattle.machine_core.specs.Beneath.proof_straight.proofs.Roots.Copying.{clears_straight, freezes_straight, snapshots_straight}
use Rattle.machine_core.specs.Beneath.proof_straight.proofs.Roots.Closing.{closes_straight}
use Rattle.machine_core.specs.Beneath.proof_straight.proofs.Change.Recording.{first_is_record}
use Rattle.machine_core.specs.Beneath.proof_straight.proofs.Runs.ByRuns.{comes_without_record}
use Rattle.machine_core.specs.Straight.{IsClear}
use Rattle.machine_core.proofs.AtRest.{ready_at, rests_at}

-- ---- where such a call begins

pub first_coursed : (parts : Parts) → IsCore parts → IsCourse (first_course (seen parts)) parts
first_coursed parts core = record { draft = first_drafted parts core; roots = refl; generations = refl }

some_there : (state : State) (actor : ℕ) (call : Call) → begin_denial state actor call None ≡ None → is_some (access_of (root_at state (handle_of call))) ≡ true
some_there state actor call d = grind arith

-- the handle is a writable one with this root
pub root_found : (state : State) (actor : ℕ) (call : Call) (root : Ref) → begin_denial state actor call None ≡ None → needs_writable call ≡ true → word_at state (handle_of call) ≡ Plain root →
    root_at state (handle_of call) ≡ writable (Plain root)
root_found state actor call root allowed writes word = by (root_at state (handle_of call)) refl
  where
    by : (o : Option Root) → root_at state (handle_of call) ≡ o → root_at state (handle_of call) ≡ writable (Plain root)
    by None e = absurd (false≢true (sym (ap (λ o. is_some (access_of o)) e) ∙ some_there state actor call allowed))
    by (Some found) e =
        let kind : found.access ≡ Writable = sym (ap (λ o. unwrap_or (access_of o) Writable) e) ∙ writable_at state actor call allowed writes in
        let there : found.word ≡ Plain root = sym (ap word_of e) ∙ word in
        e ∙ ap (λ a. Some (record found { access = a })) kind ∙ ap (λ w. Some (record { access = Writable; word = w })) there

-- the root and its main node are in use
pub over_lives : (before : Parts) (actor : ℕ) (call : Call) (root main : Ref) → IsCore before → begin_denial (seen before) actor call None ≡ None →
    word_at (seen before) (handle_of call) ≡ Plain root →
    IsOverDecided before.heap.heap root main → IsLive before.heap.heap root × IsLive before.heap.heap main
over_lives before actor call root main core allowed word over = root_lives (seen before) core.run actor call root main allowed word (sym (ap main_of over.indirection))

-- the root is settled
pub settled_root : (state : State) (heap : Heap) (root main : Ref) → heap ≡ state.heap → (over : IsOverDecided heap root main) → IsLive heap main → IsSettled heap root
settled_root state heap root main same over live =
    let there : main_at heap root ≡ main = ap main_of over.indirection in
    record {
      generation = over.generation;
      main = main;
      indirection = over.indirection;
      decided = subst (λ r. prev_at heap r ≡ prev.None) (sym there) over.decided;
      live = subst (IsLive heap) (sym there) live;
    }

-- what was made is held beside what stands in root words
pub holds_made : (before : Parts) (after : Memory) (made : List Ref) → IsCore before → ((r : Ref) → times r after.outside ≡ times r before.heap.outside + times r made) → length made ≤ 4 →
    HoldsBeside after before.table.roots made 12
holds_made before after made core more few = record {
  held = λ r. omega (arith, more r, core.kept.tied.held r);
  room = λ r. omega (arith, more r, few_held before.heap (seen before) core.run core.kept.tied r, times_le r made, few);
}

-- the offer's references are live
pub offer_lives : (heap : Heap) (a b c : Ref) → IsLive heap a → IsLive heap b → IsLive heap c → AreLive heap (a ∷ b ∷ c ∷ [])
offer_lives heap a b c x y z = All-cons (IsLive heap) a (b ∷ c ∷ []) x (All-cons (IsLive heap) b (c ∷ []) y (All-cons (IsLive heap) c [] z (All-nil (IsLive heap))))

pub offers_live : (heap : Heap) (a b c d : Ref) → IsLive heap a → IsLive heap b → IsLive heap c → IsLive heap d → AreLive heap (a ∷ b ∷ c ∷ d ∷ [])
offers_live heap a b c d x y z w = All-cons (IsLive heap) a (b ∷ c ∷ d ∷ []) x (offer_lives heap b c d y z w)

-- ---- how it ends

-- the parts behind it, but for the heap
pub record IsCopied (before after : Parts) (handles : Numbers) (n : ℕ) : Type 0 where
  pub limits : after.limits ≡ before.limits
  pub actors : after.actors.items ≡ before.actors.items
  pub table : after.table ≡ record before.table { roots = after.table.roots }
  pub handles_are : after.handles ≡ handles
  pub begun : after.begun ≡ before.begun + 1
  pub steps : after.steps ≡ before.steps + n

actors_copied : (before after : Parts) (handles : Numbers) (n : ℕ) → IsCopied before after handles n → (seen after).actors ≡ (seen before).actors
actors_copied before after handles n a = ap (λ t. actors_seen t after.actors.items) a.table ∙ ap (actors_seen before.table) a.actors

-- the course of a call that drew generations, and made this draft of the heap
abbrev course_with : State → ℕ → Draft → Course
course_with state generations draft = record { base = record state { generations = generations }; draft = draft }

-- a copy or a clear is carried out
pub copy_done : (before after : Parts) (actor : ℕ) (call : Call) (handle : ℕ) (root : Ref) (offer : Descriptor) (generations : ℕ) (draft : Draft) (n all : ℕ) (reply : Reply) → IsCore before →
    is_busy (seen before) ≡ false → FitsKey (step.Begin actor call None) → root_at (seen before) handle ≡ writable (Plain root) →
    IsCourse (with_offer (course_with (seen before) generations draft) handle offer) after → IsCopied before after (reserved before.handles offer.opens) all → KeepsRecords before.heap after.heap →
    all ≡ n + 2 →
    Comes (seen before) actor call n reply
    (after_call (with_offer (course_with (seen before) generations draft) handle offer).base (with_offer (course_with (seen before) generations draft) handle offer).draft (n + 2)) →
    CarriesBy before actor call reply after
copy_done before after actor call handle root offer generations draft n all reply core rest fits found is a records many comes =
    let state = seen before in
    let course = with_offer (course_with state generations draft) handle offer in
    let base : record state { roots = course.base.roots; generations = generations } ≡ course.base =
    opened_is (with_word (course_with state generations draft).base handle (Plain offer.successor)) offer offer.opens in
    course_done before after actor call n all reply course.base.roots generations course.draft core rest fits (record {
      limits = a.limits;
      actors = a.actors;
      table = a.table;
      pins = records.1;
      numbers = subst (λ (numbers : Numbers). KnowsNumbers numbers (seen after)) (sym a.handles_are)
          (known_at_rest before.handles (reserved before.handles offer.opens) state (seen after) rest (actors_copied before after (reserved before.handles offer.opens) all a) core.kept.numbers
          (reserved_running before.handles offer.opens) (reserved_many before.handles offer.opens)
          (λ h within known. reserved_is before.handles offer.opens h (omega (arith, within, core.kept.numbers.many.0)) ∙ ap (λ b. is_number h offer.opens || b) known
          ∙ sym (some_opened (record state { generations = generations }) handle (Plain offer.successor) (record { access = Writable; word = Plain root }) offer offer.opens h found
          (omega (arith, within, (sizes state core.run).0)))
          ∙ ap (λ rs. is_some (get_or rs h None)) is.roots));
    }) (subst (λ (s : State). IsCourse (record { base = s; draft = course.draft }) after) (sym base) is) refl records (record { begun = a.begun; steps = a.steps }) many
    (subst (λ (s : State). Comes state actor call n reply (after_call s course.draft (n + 2))) (sym base) comes)

-- ---- what the calls come to

module _ (state : State) (actor handle : ℕ) (run : IsOfRun state) (rest : is_busy state ≡ false) where
  pub freeze_comes : (root : Ref) → begin_denial state actor (call.Freeze handle) None ≡ None → IsClear state handle root → IsSettled state.heap root →
      Comes state actor (call.Freeze handle) 8 (reply.Opened (least_free state)) (after_call (frozen state handle root).base (frozen state handle root).draft 10)
  freeze_comes root allowed clear settled =
      comes_without_record state (first_record state.limits) actor (call.Freeze handle) 8 _ _ _
      (freezes_straight state (first_record state.limits) actor handle root (ready_at state actor (call.Freeze handle) root run rest allowed clear.word) (first_is_record state) settled
      (omega (arith, clear.slots)) (omega (arith, clear.steps)))

  pub snapshot_comes : (root : Ref) → begin_denial state actor (call.Snapshot handle) None ≡ None → IsClear state handle root → IsSettled state.heap root →
      Comes state actor (call.Snapshot handle) 9 (reply.Opened (least_free state)) (after_call (snapshotted state handle root).base (snapshotted state handle root).draft 11)
  snapshot_comes root allowed clear settled =
      comes_without_record state (first_record state.limits) actor (call.Snapshot handle) 9 _ _ _
      (snapshots_straight state (first_record state.limits) actor handle root (ready_at state actor (call.Snapshot handle) root run rest allowed clear.word) (first_is_record state) settled
      (omega (arith, clear.slots)) (omega (arith, clear.steps)))

  pub clear_comes : (root : Ref) → begin_denial state actor (call.Clear handle) None ≡ None → IsClear state handle root → IsSettled state.heap root →
      Comes state actor (call.Clear handle) 9 reply.Cleared (after_call (cleared state handle root).base (cleared state handle root).draft 11)
  clear_comes root allowed clear settled =
      comes_without_record state (first_record state.limits) actor (call.Clear handle) 9 _ _ _
      (clears_straight state (first_record state.limits) actor handle root (ready_at state actor (call.Clear handle) root run rest allowed clear.word) (first_is_record state) settled
      (omega (arith, clear.slots)) (omega (arith, clear.steps)))

  pub close_comes : begin_denial state actor (call.Close handle) None ≡ None → state.steps + 2 ≤ state.limits.steps →
      Comes state actor (call.Close handle) 0 reply.Closed (after_call (closed state handle).base (closed state handle).draft 2)
  close_comes allowed left =
      comes_without_record state (first_record state.limits) actor (call.Close handle) 0 _ _ _
      (closes_straight state (first_record state.limits) actor handle (rests_at state run rest) allowed (first_is_record state) (omega (arith, left)))

-- an offer by its fields
pub offer_same : {a b : ℕ} {root c d e f : Ref} {second second' : Option Ref} {opens opens' : Option ℕ} → a ≡ b → c ≡ d → e ≡ f → second ≡ second' → opens ≡ opens' →
    ◌≡◌ {A = Descriptor} (record { operation = a; attempt = 1; root = root; expected = c; successor = e; second = second; opens = opens })
    (record { operation = b; attempt = 1; root = root; expected = d; successor = f; second = second'; opens = opens' })
offer_same operation expected successor second opens = rw (operation, expected, successor, second, opens) refl

-- the branch without entries
pub empty_node : (entries : ArrayVec Ref) → entries.items ≡ [] → Branch 0 entries ≡ empty_branch
empty_node entries none = ap (λ items. Branch 0 (record { items = items })) none

-- what was made of the parts
pub made_so : (before after : Parts) (generations : ℕ) → after ≡ record before { heap = after.heap; generations = generations } →
    after ≡ record before { heap = after.heap; generations = after.generations }
made_so before after generations is = is ∙ ap (λ n. record before { heap = after.heap; generations = n }) (sym (ap (λ (p : Parts). p.generations) is))

pub made_twice : (before middle after : Parts) → middle ≡ record before { heap = middle.heap; generations = middle.generations } →
    after ≡ record middle { heap = after.heap; generations = after.generations } → after ≡ record before { heap = after.heap; generations = after.generations }
made_twice before middle after first second = second ∙ ap (λ (p : Parts). record p { heap = after.heap; generations = after.generations }) first

-- once a node was made there is room for another
pub room_again : (heap after : Heap) (node : Node) → HasEmptySlots heap → 2 ≤ length heap.free → heap.births + 2 < birth_limit → after ≡ taken heap node →
    (1 ≤ length after.free) × (after.births + 1 < birth_limit)
room_again heap after node empty free births is =
    let takes = takes_one heap after node empty (omega (arith, free)) is in
    (omega (arith, free, takes.fewer, ap (λ (h : Heap). length h.free) is), omega (arith, births, births_more heap after node empty (omega (arith, free)) is))

-- the handle of a call is one of the machine's
pub handle_small : (state : State) (actor : ℕ) (call : Call) → IsOfRun state → begin_denial state actor call None ≡ None → handle_of call < 256
handle_small state actor call run allowed = by (root_at state (handle_of call)) refl (handle_given state actor call None allowed)
  where
    by : (o : Option Root) → root_at state (handle_of call) ≡ o → is_some o ≡ true → handle_of call < 256
    by None e some = absurd (false≢true some)
    by (Some root) e some = omega (arith, found_within state.roots (handle_of call) root e, (sizes state run).0)

-- behind the nodes that it made, the swap of the root, and the count
pub copied_parts : (before made swapped after : Parts) (handles : Numbers) (n : ℕ) → made ≡ record before { heap = made.heap; generations = made.generations } →
    swapped ≡ record made { heap = swapped.heap; table = swapped.table; handles = handles } → swapped.table ≡ record made.table { roots = swapped.table.roots } →
    after ≡ record swapped { begun = swapped.begun + 1; steps = swapped.steps + n } → IsCopied before after handles n
copied_parts before made swapped after handles n makes swaps table counts = record {
  limits = ap (λ (p : Parts). p.limits) counts ∙ ap (λ (p : Parts). p.limits) swaps ∙ ap (λ (p : Parts). p.limits) makes;
  actors = ap (λ (p : Parts). p.actors.items) counts ∙ ap (λ (p : Parts). p.actors.items) swaps ∙ ap (λ (p : Parts). p.actors.items) makes;
  table = tables (ap (λ (p : Parts). p.table) counts) (ap (λ (p : Parts). p.table) makes);
  handles_are = ap (λ (p : Parts). p.handles) counts ∙ ap (λ (p : Parts). p.handles) swaps;
  begun = ap (λ (p : Parts). p.begun) counts ∙ ap (λ (p : Parts). p.begun + 1) swaps ∙ ap (λ (p : Parts). p.begun + 1) makes;
  steps = ap (λ (p : Parts). p.steps) counts ∙ ap (λ (p : Parts). p.steps + n) swaps ∙ ap (λ (p : Parts). p.steps + n) makes;
}
  where
    tables : after.table ≡ swapped.table → made.table ≡ before.table → after.table ≡ record before.table { roots = after.table.roots }
    tables behind earlier =
        behind ∙ table ∙ ap (λ (t : Table). record t { roots = swapped.table.roots }) earlier
        ∙ ap (λ rs. record before.table { roots = rs }) (ap (λ (t : Table). t.roots) (sym behind))

-- the call made what it offers, swapped the root, and was counted
pub copy_after : (before made swapped after : Parts) (actor : ℕ) (call : Call) (handle : ℕ) (root : Ref) (offer own : Descriptor) (generations : ℕ) (draft : Draft) (n all : ℕ) (reply : Reply) →
    IsCore before → is_busy (seen before) ≡ false → FitsKey (step.Begin actor call None) → root_at (seen before) handle ≡ writable (Plain root) → offer ≡ own →
    IsCourse (with_offer (course_with (seen before) generations draft) handle offer) swapped → made ≡ record before { heap = made.heap; generations = made.generations } →
    swapped ≡ record made { heap = swapped.heap; table = swapped.table; handles = reserved made.handles offer.opens } → swapped.table ≡ record made.table { roots = swapped.table.roots } →
    after ≡ record swapped { begun = swapped.begun + 1; steps = swapped.steps + all } → KeepsRecords before.heap made.heap → KeepsRecords made.heap swapped.heap → all ≡ n + 2 →
    Comes (seen before) actor call n reply
    (after_call (with_offer (course_with (seen before) generations draft) handle own).base (with_offer (course_with (seen before) generations draft) handle own).draft (n + 2)) →
    CarriesBy before actor call reply after
copy_after before made swapped after actor call handle root offer own generations draft n all reply core rest fits found same is makes swaps table counts first second many comes =
    copy_done before after actor call handle root own generations draft n all reply core rest fits found
    (course_counted (with_offer (course_with (seen before) generations draft) handle own) swapped after (swapped.begun + 1) (swapped.steps + all) counts
    (subst (λ o. IsCourse (with_offer (course_with (seen before) generations draft) handle o) swapped) same is))
    (copied_parts before made swapped after (reserved before.handles own.opens) all makes
    (swaps ∙ ap (λ (numbers : Numbers). record made { heap = swapped.heap; table = swapped.table; handles = numbers })
    (ap (λ (p : Parts). reserved p.handles offer.opens) makes ∙ ap (λ (o : Descriptor). reserved before.handles o.opens) same)) table counts)
    (ap (λ (p : Parts). p.heap.cursor) counts ∙ second.0 ∙ first.0, ap (λ (p : Parts). p.heap.pins) counts ∙ second.1 ∙ first.1) many comes

-- a close is carried out
pub close_done : (before after : Parts) (actor : ℕ) (call : Call) (handle : ℕ) (draft : Draft) (reply : Reply) → IsCore before → is_busy (seen before) ≡ false → FitsKey (step.Begin actor call None) →
    handle < 256 → IsCourse (record { base = with_root (seen before) handle None; draft = draft }) after → draft.private ≡ [] → IsCopied before after (given_back before.handles (Some handle)) 2 →
    KeepsRecords before.heap after.heap → Comes (seen before) actor call 0 reply (after_call (with_root (seen before) handle None) draft 2) → CarriesBy before actor call reply after
close_done before after actor call handle draft reply core rest fits small is private a records comes =
    let state = seen before in
    let numbers = core.kept.numbers in
    course_done before after actor call 0 2 reply (with_root state handle None).roots state.generations draft core rest fits (record {
      limits = a.limits;
      actors = a.actors;
      table = a.table;
      pins = records.1;
      numbers = subst (λ (n : Numbers). KnowsNumbers n (seen after)) (sym a.handles_are)
          (known_at_rest before.handles (given_back before.handles (Some handle)) state (seen after) rest (actors_copied before after (given_back before.handles (Some handle)) 2 a) numbers
          (given_running before.handles (Some handle)) (given_many before.handles (Some handle))
          (λ h within known. given_is h known ∙ sym (some_closed state.roots handle h (omega (arith, small, (sizes state core.run).0)))
          ∙ ap (λ rs. is_some (get_or rs h None)) is.roots));
    }) is private records (record { begun = a.begun; steps = a.steps }) refl comes
  where
    given_is : (h : ℕ) → is_taken_in before.handles h ≡ is_some (get_or before.table.roots h None) →
        is_taken_in (given_back before.handles (Some handle)) h ≡ (if handle == h then false else is_some (get_or before.table.roots h None))
    given_is h known = by (cases_eq h handle)
      where
        by : ((h ≡ handle) ⊎ (h ≡ handle → ⊥)) → is_taken_in (given_back before.handles (Some handle)) h ≡ (if handle == h then false else is_some (get_or before.table.roots h None))
        by (inl same) =
            ap (is_taken_in (given_back before.handles (Some handle))) same ∙ given_own before.handles handle (omega (arith, small, core.kept.numbers.many.0))
            ∙ ap (λ b. if b then false else is_some (get_or before.table.roots h None)) (sym (eq-eqb handle h (sym same)))
        by (inr apart) =
            given_other before.handles handle h apart ∙ known ∙ ap (λ b. if b then false else is_some (get_or before.table.roots h None)) (sym (ne_eqb handle h (λ same. apart (sym same))))
