-- A fresh main node that was refused can be retired by the last step of its SWAP: it is garbage then, and no step has let go of it before.
use Rattle.history.specs.declared.replies.Reply.{Reply}
use Rattle.std.proofs.Common.{◌≡◌, ◌++◌, if◌then◌else◌, inl, inr, ℕ, Bool, true, false, List, [], ◌∷◌, Contains, Some, None, get_or, length, ◌+◌, refl, sym, ap, subst, ◌∙◌}
use Rattle.std.proofs.lemmas.Bool.{cases_eq}
use Rattle.std.proofs.lemmas.Option.{same_Some}
use Rattle.machine_model.specs.Beneath.slot_arena.specs.declared.nodes.Node.{Node}
use Rattle.machine_model.specs.Beneath.slot_arena.specs.declared.nodes.Node.TheVariants.{Indirection, Branch, Single, Tomb, List as Listed}
use Rattle.machine_model.specs.Beneath.slot_arena.specs.declared.nodes.Prev.{Prev}
use Rattle.machine_model.specs.Beneath.slot_arena.specs.declared.nodes.Prev.TheVariants as prev
use Rattle.machine_model.specs.Beneath.slot_arena.specs.declared.refs.Ref.{Ref}
use Rattle.machine_model.specs.Beneath.slot_arena.specs.Heaps.{node_at, prev_at, refs_of_slot, stored}
use Rattle.machine_model.specs.Beneath.slot_arena.specs.Refs.{slot_of}
use Rattle.machine_model.specs.declared.actions.Action.TheVariants as act
use Rattle.machine_model.specs.declared.lines.Line.{Line}
use Rattle.machine_model.specs.declared.lines.Line.TheVariants as line
use Rattle.machine_model.specs.declared.lines.Purpose.{Purpose}
use Rattle.machine_model.specs.declared.lines.Purpose.TheVariants as purpose
use Rattle.machine_model.specs.declared.operations.Operation.{Operation}
use Rattle.machine_model.specs.declared.reading.Swap.{Swap}
use Rattle.machine_model.specs.declared.reading.Read.{Read}
use Rattle.machine_model.specs.declared.repairs.Climb.{Climb}
use Rattle.machine_model.specs.declared.repairs.ClimbLine.TheVariants as climb
use Rattle.machine_model.specs.declared.reading.SwapLine.TheVariants as swap
use Rattle.machine_model.specs.declared.steps.Bounds.{Bounds}
use Rattle.machine_model.specs.declared.steps.Step.{Step}
use Rattle.machine_model.specs.declared.steps.Step.TheVariants as step
use Rattle.machine_model.specs.Acting.{operation_after}
use Rattle.machine_model.specs.Machine.{AreBounds, run}
use Rattle.machine_model.specs.Operations.{action_of, after_swap, line_action, line_after, swapped}
use Rattle.machine_model.specs.Swapping.{after_check, on_line}
use Rattle.machine_model.specs.States.{State, operation_of}
use Rattle.proof_claims.proofs.Unlinked.{garbage}
use Rattle.proof_claims.specs.Dropped.{HasFailed}
use Rattle.proof_commits.specs.Stages.{stage_of, stage_of_actor}
use Rattle.proof_memory.specs.Laws.{IsInUse}
use Rattle.proof_claims.specs.Beneath.proof_reuse.proofs.LeftForGood.{fresh_is_ones, left_for_good}
use Rattle.proof_claims.specs.Beneath.proof_reuse.specs.Beneath.proof_followed.specs.Followed.{IsFollowedByRoots, from_operation, from_root, from_slot}
use Rattle.proof_claims.specs.Beneath.proof_reuse.specs.Beneath.proof_followed.specs.Grace.{IsToBring, made_for_offer}
use Rattle.proof_claims.specs.Beneath.proof_reuse.specs.Laws.{IsFreshIn, IsFreshOf, IsGarbage}
use Rattle.proof_waiting.specs.Beneath.proof_slots.specs.Unswept.{HasNoSweeps}
use Rattle.lock_free.specs.declared.accounts.Account.{Account}
use Rattle.lock_free.specs.declared.rules.Retired.{Retired}
use Rattle.lock_free.specs.declared.sizes.Sizes.{Sizes}
use Rattle.lock_free.specs.Accounts.{bounds_for, gone_on, state_of, HasGrown}
use Rattle.lock_free.specs.Rules.{WasLetGo, WasRefused, by_commit, by_outcome, by_refusal}
use Rattle.lock_free.specs.Steps.{Reads}
use Rattle.lock_free.proofs.Definition.{IsReading, reads_of}
use Rattle.lock_free.proofs.HeldLeads.{alike_slots}
use Rattle.lock_free.proofs.Idle.{empty_has}
use Rattle.lock_free.proofs.Lettings.{private_fewer, reading_takes}
use Rattle.lock_free.proofs.OneStep.Parts.{run_part}
use Rattle.lock_free.proofs.OneStep.Retired.{used_wide}
use Rattle.lock_free.proofs.Retirable.{before_ok, parts, replaced_then, through_is, was_root}
use Rattle.lock_free.proofs.StayDecided.{replaced_never_refused}
use Rattle.lock_free.proofs.SwapChecks.{both_kinds, fresh_main}

-- ---- where an operation goes on after its SWAP

abbrev checking : Ref → Ref → Ref → Swap
checking i m f = record { indirection = i; replaced = m; fresh = f; line = swap.Check }

-- it is to bring nothing, and has no fresh node
abbrev IsPlain : Line → Type 0
IsPlain l = (made_for_offer l ≡ []) × ((r : Ref) → IsFreshIn (stage_of l) r → ⊥)

either_plain : (b : Bool) (c : Climb) (r : Read) (answer : Reply) → IsPlain (if b then line.Climb (climb.Read c r) else line.End answer)
either_plain true c r answer = (refl, λ x never. never)
either_plain false c r answer = (refl, λ x never. never)

swapped_plain : (o : Operation) (node : Node) (why : Purpose) (done : Bool) → IsPlain (swapped o node why done)
swapped_plain o (Tomb single) (purpose.Update path former) true = either_plain _ _ _ _
swapped_plain o (Indirection generation main) (purpose.Update path former) true = (refl, λ r never. never)
swapped_plain o (Branch bitmap entries) (purpose.Update path former) true = (refl, λ r never. never)
swapped_plain o (Single key value) (purpose.Update path former) true = (refl, λ r never. never)
swapped_plain o (Listed singles) (purpose.Update path former) true = (refl, λ r never. never)
swapped_plain o node (purpose.Update path former) false = (refl, λ r never. never)
swapped_plain o node (purpose.Renew path) true = (refl, λ r never. never)
swapped_plain o node (purpose.Renew path) false = (refl, λ r never. never)
swapped_plain o node purpose.Clean done = (refl, λ r never. never)
swapped_plain o (Tomb single) (purpose.Climb c) true = either_plain _ _ _ _
swapped_plain o (Indirection generation main) (purpose.Climb c) true = (refl, λ r never. never)
swapped_plain o (Branch bitmap entries) (purpose.Climb c) true = (refl, λ r never. never)
swapped_plain o (Single key value) (purpose.Climb c) true = (refl, λ r never. never)
swapped_plain o (Listed singles) (purpose.Climb c) true = (refl, λ r never. never)
swapped_plain o node (purpose.Climb c) false = (refl, λ r never. never)

module _ (sizes : Sizes) (account : Account) (bounds : AreBounds (bounds_for sizes account.steps)) (actor : ℕ) (i m f : Ref) (h : HasFailed (state_of sizes account) actor i m f) where
  abbrev state : State
  state = state_of sizes account

  abbrev o : Operation
  o = h.operation

  abbrev after : Account
  after = gone_on actor account

  abbrev later : State
  later = state_of sizes after

  acts : action_of state o ≡ act.ReadPrev f
  acts = ap (line_action state o) h.checks

  reading : IsReading (action_of state o)
  reading = subst IsReading (sym acts) tt

  reads : Reads sizes account actor o
  reads = reads_of sizes account bounds actor o h.runs reading

  plain_by : (q : Prev) → IsPlain (after_swap state o h.why (checking i m f) (on_line (checking i m f) (after_check q)))
  plain_by prev.None = swapped_plain o (node_at state.heap f) h.why true
  plain_by (prev.Pending x) = swapped_plain o (node_at state.heap f) h.why false
  plain_by (prev.Failed x) = swapped_plain o (node_at state.heap f) h.why false

  plain : IsPlain (line_after state o o.line)
  plain = subst (λ l. IsPlain (line_after state o l)) (sym h.checks) (plain_by (prev_at state.heap f))

  -- ---- nobody has it for a fresh node of its own then

  mine : IsFreshOf state actor f
  mine = subst (λ x. IsFreshIn (stage_of_actor x) f) (sym h.runs) (subst (λ l. IsFreshIn (stage_of l) f) (sym h.checks) refl)

  pub left_by_look : (k : ℕ) → IsFreshOf (state_of sizes (gone_on actor account)) k f → ⊥
  left_by_look k has = elim (cases_eq k actor) [
    | inl same ↦ plain.1 f (subst (λ x. IsFreshIn (stage_of_actor x) f) (ap (operation_of later) same ∙ reads.own) has)
    | inr differs ↦ differs (fresh_is_ones (bounds_for sizes account.steps) bounds account.steps k actor f (subst (λ x. IsFreshIn (stage_of_actor x) f) (reads.others k differs) has) mine)
  ]

  -- ---- it is garbage then

  was : IsGarbage state f
  was = garbage (bounds_for sizes account.steps) bounds account.steps actor i m f h

  stored_same : (r : Ref) → stored later.heap r ≡ stored state.heap r
  unfolding stored
  stored_same r = reads.nodes (slot_of r)

  followed_before : {r : Ref} → IsFollowedByRoots later r → IsFollowedByRoots state r
  followed_before (from_root handle root r e is) = from_root handle root r (ap (λ rs. get_or rs handle None) (sym reads.roots) ∙ e) is
  followed_before (from_operation a p r runs never c) = absurd never
  followed_before (from_slot q r k c) = from_slot q r (followed_before k) (subst (λ s. Contains (refs_of_slot s) r) (stored_same q) c)

  private_before : (a : ℕ) (p : Operation) → operation_of later a ≡ Some p → Contains p.private f → ⊥
  private_before a p runs c = elim (cases_eq a actor) [
    | inl same ↦
        (let its = same_Some p (operation_after state o) (sym runs ∙ ap (operation_of later) same ∙ reads.own) in
        was.private_to_none actor o h.runs
        (private_fewer (λ k. true) state o (action_of state o) (reading_takes (λ k. true) state o (action_of state o) reading) f (subst (λ (x : Operation). Contains x.private f) its c)))
    | inr differs ↦ was.private_to_none a p (sym (reads.others a differs) ∙ runs) c
  ]

  unbrought : (a : ℕ) (p : Operation) → operation_of later a ≡ Some p → p.is_marked ≡ false → IsToBring later p f → ⊥
  unbrought a p runs unmarked brings = elim (cases_eq a actor) [
    | inl same ↦
        (let its = same_Some p (operation_after state o) (sym runs ∙ ap (operation_of later) same ∙ reads.own) in
        let none = ap (λ (x : Operation). made_for_offer x.line) its ∙ plain.0 in
        elim brings [
          | inl c ↦ empty_has f (subst (λ ks. Contains ks f) none c)
          | inr (q, c, names, other) ↦ empty_has q (subst (λ ks. Contains ks q) none c)
        ])
    | inr differs ↦
        was.unbrought a p (sym (reads.others a differs) ∙ runs) unmarked
        (elim brings [
          | inl c ↦ inl c
          | inr (q, c, names, other) ↦ inr (q, c, subst (λ s. Contains (refs_of_slot s) f) (stored_same q) names, other)
        ])
  ]

  pub garbage_then : IsGarbage (state_of sizes (gone_on actor account)) f
  garbage_then = record {
    in_use = (alike_slots state later reads.nodes).stays f was.in_use;
    unfollowed = λ followed. was.unfollowed (followed_before followed);
    private_to_none = private_before;
    unbrought = unbrought;
  }

-- ---- no step has let go of it before

module _ (sizes : Sizes) (account : Account) (bounds : AreBounds (bounds_for sizes account.steps)) (quiet : HasNoSweeps account.steps) (actor : ℕ) (i m f : Ref)
    (h : HasFailed (state_of sizes account) actor i m f) where
  abbrev limits : Bounds
  limits = bounds_for sizes account.steps

  pub refused_garbage : IsGarbage (state_of sizes (gone_on actor account)) f
  refused_garbage = garbage_then sizes account bounds actor i m f h

  its_fresh : IsFreshOf (state_of sizes account) actor f
  its_fresh = mine sizes account bounds actor i m f h

  module _ (x : Retired) (grown : HasGrown x.account account) where
    module _ (r : WasRefused sizes x f) where
      -- what had happened before the step that let go of it
      abbrev first : Account
      first = record { steps = r.before; names = []; owned = []; offered = []; offers = []; parted = [] }

      abbrev through : List Step
      through = r.before ++ step.Go r.actor ∷ []

      ok : AreBounds (bounds_for sizes r.before)
      ok = before_ok sizes account bounds x grown r.before r.actor r.goes_on

      through_part : account.steps ≡ through ++ grown.steps
      through_part = through_is sizes account bounds x grown r.before r.actor r.goes_on

      nobodys : (k : ℕ) → IsFreshOf (run limits through) k f → ⊥
      nobodys k has =
          left_by_look sizes first ok r.actor r.link r.over f r.failed k
          (subst (λ (s : State). IsFreshOf s k f) (run_part sizes account.steps through grown.steps through_part bounds) has)

      used_through : IsInUse (run limits through).heap f
      used_through =
          subst (λ (s : State). IsInUse s.heap f) (sym (run_part sizes account.steps through grown.steps through_part bounds))
          (used_wide (length grown.steps) (length account.steps + 1) (run (bounds_for sizes through) through) f (garbage_then sizes first ok r.actor r.link r.over f r.failed).in_use)

      twice : ⊥
      twice = left_for_good limits bounds through grown.steps f used_through nobodys actor (subst (λ l. IsFreshOf (run limits l) actor f) through_part its_fresh)

    pub never_refused : WasLetGo sizes x f → ⊥
    never_refused (by_commit r) =
        replaced_never_refused limits bounds account.steps r.before (step.Go r.actor ∷ grown.steps) (parts sizes account bounds x grown r.before r.actor r.goes_on) r.actor r.link f r.fresh
        (replaced_then sizes account bounds x grown r.before r.actor r.goes_on r.link f r.fresh r.replaced) actor i m h
    never_refused (by_refusal r) = twice r
    never_refused (by_outcome r) =
        both_kinds (node_at (state_of sizes account).heap f) (was_root sizes account bounds quiet x grown f r).1
        (fresh_main sizes account bounds actor h.operation h.runs h.why i m f h.checks)
