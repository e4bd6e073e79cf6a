-- How a change is swapped in: from the SWAP of its main node to the answer.
use Rattle.std.proofs.Common.{None, ◌≡◌, ℕ, suc, ◌+◌, ◌≤◌, Bool, true, false, nat_eq, [], Option, Some, refl, sym, ap, ◌∙◌, subst, eq-eqb, arith}
use Rattle.std.specs.Option.{option_eq}
use Rattle.proof_straight.specs.Vocabulary.{Access, Writable, Call, Slot, Ref, stored, node_at, prev_at, prev_of, main_at, generation_at, slot_of, Line, Purpose, Reply, changer_for, Operation}
use Rattle.proof_straight.specs.Vocabulary.{After, Entrant, Progress, ReadLine, SwapLine, Plain, decided, handle_of, begun_operation, swapped, Commits, after_ask, after_decide}
use Rattle.proof_straight.specs.Vocabulary.{at_indirection as read_at, committed_so, after_prev, is_pending, verdict, verdict_by, State, word_at, after_check, after_deciding, after_publish}
use Rattle.proof_straight.specs.Vocabulary.{swapping, on_line as at_swap_line, Record, noted_end, noted_progress, given_by}
use Rattle.proof_straight.specs.Beneath.slot_arena.specs.declared.nodes.Prev.TheVariants as prev
use Rattle.machine_model.specs.declared.actions.Action.TheVariants as act
use Rattle.machine_model.specs.declared.lines.Line.TheVariants as line
use Rattle.machine_model.specs.declared.reading.ReadLine.TheVariants as read
use Rattle.machine_model.specs.declared.reading.SwapLine.TheVariants as swap
use Rattle.machine_model.specs.Operations.{after_swap}
use Rattle.proof_straight.specs.Recorded.{entrant_with}
use Rattle.proof_straight.proofs.Steps.Noting.{committing, publishing, reading as reading_of}
use Rattle.proof_straight.specs.Drafts.{Draft, after_call, redrafted, swapped_in, with_commit, with_published}
use Rattle.proof_straight.specs.Running.{ComesTo}
use Rattle.proof_straight.proofs.Steps.Alone.{Alone, IsCalm, on_line, stand}
use Rattle.proof_straight.proofs.Way.Descent.{rooted}
use Rattle.proof_straight.proofs.Steps.Going.{Stands, changes, ends_so, looks}
use Rattle.proof_straight.proofs.Steps.Settled.{settled_once}
use Rattle.proof_straight.proofs.Change.Slots.{fresh_committed, fresh_published, generation_published, stored_node}

module _ (state : State) (past : Record) (k : ℕ) (call : Call) (root : Ref) (alone : Alone state k) (word : word_at state (handle_of call) ≡ Plain root)
    (writable : (begun_operation state call None).access ≡ Writable) where
  -- the call stands on this line, with this draft, after so many steps
  abbrev pub Drafted : Record → Draft → Line → ℕ → Type 0
  Drafted so_far draft l c = Stands state past k call so_far state draft (on_line (rooted state call root) draft l) c

  abbrev operation_at : Draft → Line → Operation
  operation_at draft l = on_line (rooted state call root) draft l

  abbrev state_at : Draft → Line → ℕ → State
  state_at draft l c = stand state k draft (operation_at draft l) (state.steps + suc c)

  -- the newest node is swapped in for this purpose, as whose change it is, and the operation comes to this line
  module _ (draft : Draft) (indirection main : Ref) (why : Purpose) (changer : Option Entrant) (then_line : Line) (over new : Slot)
      (at_indirection : stored draft.heap indirection ≡ Some over) (at_fresh : stored draft.heap draft.newest ≡ Some new)
      (apart : slot_of indirection ≡ slot_of draft.newest → ⊥) (there : main_at draft.heap indirection ≡ main)
      (licensed : generation_at draft.heap indirection ≡ generation_at draft.heap root)
      (changes_for : (d : Draft) (l : Line) → changer_for (operation_at d l) why ≡ changer)
      (comes : (d : Draft) (l : Line) → swapped (operation_at d l) new.node why true ≡ then_line) where
    abbrev fresh : Ref
    fresh = draft.newest

    abbrev at_line : SwapLine → Line
    at_line l = line.Swap why (record (swapping indirection main fresh) { line = l })

    abbrev pending : Draft
    pending = with_published state draft indirection main

    abbrev committed : Draft
    committed = with_commit state pending

    pending_prev : prev_at pending.heap fresh ≡ prev.Pending main
    unfolding prev_at
    pending_prev = ap prev_of (fresh_published draft.heap indirection main fresh over new at_indirection at_fresh apart there)

    committed_prev : prev_at committed.heap fresh ≡ prev.None
    unfolding prev_at
    committed_prev = ap prev_of (fresh_committed draft.heap indirection main fresh over new at_indirection at_fresh apart there)

    committed_node : node_at committed.heap fresh ≡ new.node
    committed_node = stored_node committed.heap fresh _ (fresh_committed draft.heap indirection main fresh over new at_indirection at_fresh apart there)

    pending_calm : IsCalm state pending
    pending_calm = settled_once pending.heap _ state.epoch draft.limbo

    committed_calm : IsCalm state committed
    committed_calm = settled_once committed.heap _ state.epoch pending.limbo

    -- the line behind a step of the SWAP, by what comes after it
    abbrev behind : Draft → SwapLine → ℕ → After SwapLine Bool → Line
    behind d l c after =
        after_swap (state_at d (at_line l) c) (operation_at d (at_line l)) why (record (swapping indirection main fresh) { line = l })
        (at_swap_line (record (swapping indirection main fresh) { line = l }) after)

    publishes : {so_far : Record} (c : ℕ) → Drafted so_far draft (at_line swap.Publish) c →
        Drafted (noted_progress so_far (state.steps + suc c) (suc k) (publishing changer fresh)) pending (at_line (swap.Deciding (read.Prev fresh))) (suc c)
    publishes c so_far =
        changes state past k call state alone draft (operation_at draft (at_line swap.Publish)) (operation_at pending (at_line (swap.Deciding (read.Prev fresh)))) c fresh
        (act.Publish indirection main fresh) (publishing changer fresh) tt so_far refl
        (ap (λ e. publishing e fresh) (changes_for draft (at_line swap.Publish)))
        (ap (λ b. operation_at pending (behind draft swap.Publish c (after_publish fresh b))) (eq-eqb (main_at draft.heap indirection) main there))

    -- what a step of the SWAP tells, by what comes after it in its READ
    abbrev gives : After ReadLine Ref → Progress
    gives after = reading_of (given_by (read_at indirection after)) false

    -- the fresh node is pending: the root is asked
    finds_pending : {so_far : Record} (c : ℕ) → Drafted so_far pending (at_line (swap.Deciding (read.Prev fresh))) c → Drafted so_far pending
        (at_line (swap.Deciding (read.AskRoot fresh main))) (suc c)
    finds_pending c so_far =
        looks state past k call state alone pending (rooted state call root) (at_line (swap.Deciding (read.Prev fresh))) (at_line (swap.Deciding (read.AskRoot fresh main))) c pending_calm so_far tt
        (ap (λ v. gives (after_prev (begun_operation state call None).access fresh v)) pending_prev ∙ ap (λ (a : Access). gives (after_prev a fresh (prev.Pending main))) writable) refl
        (ap (λ v. behind pending (swap.Deciding (read.Prev fresh)) c (after_deciding (after_prev (begun_operation state call None).access fresh v))) pending_prev
        ∙ ap (λ (a : Access). behind pending (swap.Deciding (read.Prev fresh)) c (after_deciding (after_prev a fresh (prev.Pending main)))) writable)

    abbrev told : Option ℕ
    told = Some (generation_at pending.heap root)

    asks : {so_far : Record} (c : ℕ) → Drafted so_far pending (at_line (swap.Deciding (read.AskRoot fresh main))) c → Drafted so_far pending
        (at_line (swap.Deciding (read.Decide fresh main told))) (suc c)
    asks c so_far =
        looks state past k call state alone pending (rooted state call root) (at_line (swap.Deciding (read.AskRoot fresh main))) (at_line (swap.Deciding (read.Decide fresh main told))) c
        pending_calm so_far tt
        (ap (λ w. gives (after_ask pending.heap fresh main w)) word) refl
        (ap (λ w. behind pending (swap.Deciding (read.AskRoot fresh main)) c (after_deciding (after_ask pending.heap fresh main w))) word)

    commits : verdict pending.heap indirection fresh main told ≡ Commits
    commits =
        let published_generation = generation_published draft.heap indirection main fresh over new at_indirection at_fresh apart there in
        ap (λ g. verdict_by (option_eq nat_eq told (Some g)) (is_pending (prev_at pending.heap fresh) main)) (published_generation indirection ∙ licensed ∙ sym (published_generation root))
        ∙ ap (λ b. verdict_by b (is_pending (prev_at pending.heap fresh) main)) (eq-eqb (generation_at pending.heap root) (generation_at pending.heap root) refl)
        ∙ ap (λ v. verdict_by true (is_pending v main)) pending_prev ∙ ap (λ b. verdict_by true b) (eq-eqb main main refl)

    decides : {so_far : Record} (c : ℕ) → Drafted so_far pending (at_line (swap.Deciding (read.Decide fresh main told))) c →
        Drafted (noted_progress so_far (state.steps + suc c) (suc k) (committing fresh)) committed (at_line swap.Check) (suc c)
    decides {so_far} c before =
        subst (λ h. Drafted (noted_progress so_far (state.steps + suc c) (suc k) (committing fresh)) (redrafted state pending h [] fresh) (at_line swap.Check) (suc c))
        (ap (decided pending.heap fresh main) commits)
        (changes state past k call state alone pending (operation_at pending (at_line (swap.Deciding (read.Decide fresh main told)))) (operation_at committed (at_line swap.Check)) c fresh
        (act.Decide indirection fresh main told) (committing fresh) tt before refl
        (ap (λ v. record (gives (after_decide fresh v)) { committed = committed_so fresh v }) commits)
        (ap (λ v. operation_at committed (behind pending (swap.Deciding (read.Decide fresh main told)) c (after_deciding (after_decide fresh v)))) commits))

    checks : {so_far : Record} (c : ℕ) → Drafted so_far committed (at_line swap.Check) c → Drafted so_far committed then_line (suc c)
    checks c so_far =
        looks state past k call state alone committed (rooted state call root) (at_line swap.Check) then_line c committed_calm so_far tt refl refl
        (ap (λ v. behind committed swap.Check c (after_check v)) committed_prev
        ∙ ap (λ node. swapped (operation_at committed (at_line swap.Check)) node why true) committed_node ∙ comes committed (at_line swap.Check))

    -- what is recorded by then
    abbrev pub swapped_record : Record → ℕ → Record
    swapped_record so_far c =
        noted_progress (noted_progress so_far (state.steps + suc c) (suc k) (publishing changer fresh)) (state.steps + suc (suc (suc (suc c)))) (suc k) (committing fresh)

    pub swaps_in : {so_far : Record} (c : ℕ) → Drafted so_far draft (line.Swap why (swapping indirection main fresh)) c →
        Drafted (swapped_record so_far c) (swapped_in state draft indirection main) then_line (suc (suc (suc (suc (suc c)))))
    swaps_in c so_far =
        checks (suc (suc (suc (suc c)))) (decides (suc (suc (suc c))) (asks (suc (suc c)) (finds_pending (suc c) (publishes c so_far))))

    -- so it ends, where that line is the answer
    pub swapped_ends : {so_far : Record} (c : ℕ) (answer : Reply) → then_line ≡ line.End answer → Drafted so_far draft (line.Swap why (swapping indirection main fresh)) c →
        state.steps + (c + 5) + 2 ≤ state.limits.steps →
        ComesTo state past (suc k) call (c + 5) answer (after_call state (swapped_in state draft indirection main) (c + 5 + 2))
        (noted_end (swapped_record so_far c) (suc k) (entrant_with state call root) answer)
    swapped_ends {so_far} c answer is_end before lasts =
        ends_so state past k call state alone committed (rooted state call root) (c + 5) answer
        (subst (λ n. Drafted (swapped_record so_far c) committed (line.End answer) n) five_more
        (subst (λ l. Drafted (swapped_record so_far c) committed l (suc (suc (suc (suc (suc c)))))) is_end (swaps_in c before))) refl committed_calm lasts refl
      where
        five_more : suc (suc (suc (suc (suc c)))) ≡ c + 5
        five_more = omega arith
