-- Who sees that it has replaced a main node finds another one in the indirection, which doesn't stand over that one either.
use Rattle.std.proofs.Common.{◌≡◌, ℕ, List, [], Contains, refl, sym, ap, subst, ◌∙◌, append-nil, arith}
use Rattle.proof_claims.specs.Beneath.slot_arena.specs.declared.nodes.Prev.{Prev}
use Rattle.proof_claims.specs.Beneath.slot_arena.specs.declared.nodes.Prev.TheVariants as prev
use Rattle.proof_claims.specs.Beneath.slot_arena.specs.declared.refs.Ref.{Ref}
use Rattle.proof_claims.specs.Beneath.slot_arena.specs.Heaps.{logical, main_at, prev_at, refs_of_prev}
use Rattle.proof_claims.specs.Beneath.machine_model.specs.declared.steps.Bounds.{Bounds}
use Rattle.proof_claims.specs.Beneath.machine_model.specs.declared.steps.Step.{Step}
use Rattle.proof_claims.specs.Beneath.machine_model.specs.Machine.{AreBounds, run}
use Rattle.proof_claims.specs.Beneath.machine_model.specs.States.{State}
use Rattle.proof_claims.specs.Beneath.machine_model.specs.Times.{IsRun, last_of, states_of}
use Rattle.proof_claims.specs.Beneath.machine_model.proofs.Grown.{prev_grown}
use Rattle.proof_claims.specs.Beneath.machine_model.proofs.Times.{run_ends, run_is}
use Rattle.proof_claims.specs.Beneath.proof_memory.specs.Laws.{IsInUse}
use Rattle.proof_claims.specs.Beneath.proof_commits.specs.Protocol.{Protocol, logical_at}
use Rattle.proof_claims.specs.Beneath.proof_commits.specs.Runs.{HasIndirection}
use Rattle.proof_claims.specs.Beneath.proof_commits.proofs.Course.Finals.{none_final}
use Rattle.proof_claims.specs.Beneath.proof_commits.proofs.Course.Mains.{main_decided, replaced_for_good}
use Rattle.proof_claims.specs.Beneath.proof_commits.proofs.Known.Sounds.{sound_at}
use Rattle.proof_claims.specs.Beneath.proof_commits.proofs.Words.Stood.{Decided}
use Rattle.proof_claims.specs.Beneath.proof_garbage.proofs.Claims.{none_in, one_in}
use Rattle.proof_claims.specs.Beneath.proof_generations.proofs.Falling.KnownRoots.{protocol_of}
use Rattle.proof_claims.specs.Beneath.proof_owned.specs.Laws.{IsReplaced}
use Rattle.proof_claims.specs.Beneath.proof_owned.proofs.MainsInUse.{link_at, logical_is}
use Rattle.proof_claims.specs.Beneath.proof_reuse.specs.Laws.{HasReplaced}
use Rattle.proof_claims.specs.Beneath.proof_reuse.proofs.SwappedOut.{was_replaced}

-- once it was replaced it doesn't count there again
module _ (limits : Bounds) (xs : List Step) (ok : AreBounds limits) (i m : Ref) (r : IsReplaced limits xs i m) (now : HasIndirection (run limits xs) i) where
  abbrev state : State
  state = run limits xs

  abbrev states : ℕ → State
  states = states_of limits xs

  abbrev last : ℕ
  last = last_of limits xs

  abbrev is_run : IsRun limits states last
  is_run = run_is limits xs ok

  abbrev p : Protocol
  p = protocol_of is_run

  decided_then : Decided p.words r.before i m
  decided_then =
      let low = r.order in
      let high = r.within in
      subst (Decided p.words r.before i) (sym (logical_is is_run r.before (omega (arith, low, high)) i r.had) ∙ r.was)
      (main_decided p.words r.before (sound_at p r.before (omega (arith, low, high))).words i (link_at is_run r.before i r.had))

  not_logical : logical_at p.words last i ≡ m → ⊥
  not_logical =
      let low = r.order in
      let high = r.within in
      replaced_for_good p i m r.before r.after last r.order r.within (omega arith) (link_at is_run r.before i r.had)
      (sym (logical_is is_run r.before (omega (arith, low, high)) i r.had) ∙ r.was) (λ e. r.is (logical_is is_run r.after r.within i r.has ∙ e))

  pub counts_no_more : logical (main_at state.heap i) (prev_at state.heap (main_at state.heap i)) ≡ m → ⊥
  counts_no_more e =
      let has : HasIndirection (states last) i = subst (λ (s : State). HasIndirection s i) (sym (run_ends limits xs)) now in
      not_logical (sym (logical_is is_run last (omega arith) i has) ∙ ap (λ (s : State). logical (main_at s.heap i) (prev_at s.heap (main_at s.heap i))) (run_ends limits xs) ∙ e)

  over_is : (q : Ref) (v : Prev) → Contains (refs_of_prev v) m → logical q v ≡ m
  over_is q prev.None c = none_in m c
  over_is q (prev.Pending x) c = one_in (λ y. x ≡ y) x refl m c
  over_is q (prev.Failed x) c = one_in (λ y. x ≡ y) x refl m c

  pub stands_not_below : Contains (refs_of_prev (prev_at state.heap (main_at state.heap i))) m → ⊥
  stands_not_below c = counts_no_more (over_is (main_at state.heap i) (prev_at state.heap (main_at state.heap i)) c)

  pub stands_there_not : IsInUse state.heap m → main_at state.heap i ≡ m → ⊥
  stands_there_not used e =
      let then : IsInUse (states last).heap m = subst (λ (s : State). IsInUse s.heap m) (sym (run_ends limits xs)) used in
      let low = r.order in
      let high = r.within in
      let none : p.words.prev last m ≡ prev.None = none_final p i m r.before last (omega (arith, low, high)) (omega arith) decided_then.stood decided_then.none in
      let none_now : prev_at state.heap m ≡ prev.None =
      ap (λ (s : State). prev_at s.heap m) (sym (run_ends limits xs)) ∙ prev_grown states last m then.0 then.1 ∙ none in
      counts_no_more (ap (λ x. logical x (prev_at state.heap x)) e ∙ ap (logical m) none_now)

module _ (limits : Bounds) (xs : List Step) (ok : AreBounds limits) (actor : ℕ) (i m f : Ref) (h : HasReplaced (run limits xs) actor i m f) (now : HasIndirection (run limits xs) i) where
  pub r : IsReplaced limits xs i m
  r = subst (λ l. IsReplaced limits l i m) (append-nil xs) (was_replaced limits xs [] ok actor i m f h)

  pub stands_not_over : Contains (refs_of_prev (prev_at (run limits xs).heap (main_at (run limits xs).heap i))) m → ⊥
  stands_not_over c = stands_not_below limits xs ok i m r now c

  pub stands_not : IsInUse (run limits xs).heap m → main_at (run limits xs).heap i ≡ m → ⊥
  stands_not used e = stands_there_not limits xs ok i m r now used e
