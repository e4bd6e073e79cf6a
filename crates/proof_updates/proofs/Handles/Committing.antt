-- Whose node a step commits: the same operation in the words of the laws and in those of the layers below.
use Rattle.std.proofs.Common.{◌≡◌, ℕ, List, Option, Some, None, refl, sym, ap, ◌∙◌}
use Rattle.std.proofs.lemmas.Option.{none-some, same_Some}
use Rattle.proof_updates.specs.Vocabulary.{Call, Ref, Operation, Swap, Deciding, Descriptor, Bounds, Step, State, operation_of, Record, CarriesOut, committed_of, committed_by_step, OwnCommit}
use Rattle.proof_updates.specs.Vocabulary.{CommitsNone, begins, goes, assigned_at, gives_up}
use Rattle.proof_updates.specs.Beneath.machine_model.specs.declared.lines.Line.TheVariants as line
use Rattle.proof_updates.specs.Beneath.machine_model.specs.declared.lines.Purpose.TheVariants as purpose
use Rattle.proof_updates.specs.Beneath.machine_model.specs.declared.steps.Step.TheVariants as step
use Rattle.proof_order.proofs.Views.Changes.{complete_commits}
use Rattle.proof_shape.specs.Lines.Commits.{sweeps}
use Rattle.proof_updates.specs.Touching.{CommitsUpdate, CommitsRepair}

module _ (limits : Bounds) (states : ℕ → State) (records : ℕ → Record) (last : ℕ) (t : ℕ) (s : Step) where
  abbrev Own : Type 0
  Own = OwnCommit limits states records last (assigned_at states last) t s

  none_committed : CommitsNone (states t) s → committed_by_step (states t) s ≡ None
  none_committed none = by_step s none
    where
      by_step : (x : Step) → CommitsNone (states t) x → committed_by_step (states t) x ≡ None
      by_step x (begins actor call number) = refl
      by_step x (goes actor operation runs nothing) = ap (committed_of (states t)) runs ∙ nothing
      by_step x sweeps = refl
      by_step x (gives_up actor) = refl

  pub own_committed : (own : Own) → committed_by_step (states t) s ≡ Some own.fresh
  own_committed own = ap (committed_by_step (states t)) own.takes ∙ ap (committed_of (states t)) own.decides ∙ own.commits

  -- the owner's SWAP
  abbrev its_swap : Own → Swap
  its_swap own = record { indirection = own.indirection; replaced = own.replaced; fresh = own.fresh; line = Deciding own.deciding }

  -- an owner's update is one in the words of the laws
  pub commits_own : (own : Own) (path : List Ref) (former : Option ℕ) → own.why ≡ purpose.Update path former → CommitsUpdate (states t) s own.indirection own.owner.call former
  commits_own own path former e = record {
    actor = own.actor;
    operation = own.owner;
    runs = own.runs;
    calls = refl;
    path = path;
    swap = its_swap own;
    swaps = own.swaps ∙ ap (λ why. line.Swap why (its_swap own)) e;
    into = refl;
    commits = own_committed own;
  }

  -- who commits nothing commits no update
  pub no_update : CommitsNone (states t) s → (i : Ref) (call : Call) (former : Option ℕ) → CommitsUpdate (states t) s i call former → ⊥
  no_update none i call former u = none-some u.swap.fresh (sym (none_committed none) ∙ u.commits)

  -- and the other way round
  pub record IsOwn (own : Own) (i : Ref) (call : Call) (former : Option ℕ) : Type 0 where
    pub path : List Ref
    pub purpose_is : own.why ≡ purpose.Update path former
    pub call_is : own.owner.call ≡ call
    pub indirection_is : own.indirection ≡ i

  pub owned : (own : Own) (i : Ref) (call : Call) (former : Option ℕ) → CommitsUpdate (states t) s i call former → IsOwn own i call former
  owned own i call former u = record {
    path = u.path;
    purpose_is = same_purpose;
    call_is = ap (λ (x : Operation). x.call) same_owner ∙ u.calls;
    indirection_is = ap (λ (w : Swap). w.indirection) same_swap ∙ u.into;
  }
    where
      same_fresh : u.swap.fresh ≡ own.fresh
      same_fresh = same_Some _ _ (sym u.commits ∙ own_committed own)

      same_actor : u.actor ≡ own.actor
      same_actor =
          own.alone u.actor u.operation u.swap.indirection u.swap.replaced u.swap.line u.runs (
            purpose.Update u.path former,
            u.swaps ∙ ap (λ f. line.Swap (purpose.Update u.path former) (record { indirection = u.swap.indirection; replaced = u.swap.replaced; fresh = f; line = u.swap.line })) same_fresh,
          )

      same_owner : own.owner ≡ u.operation
      same_owner = same_Some _ _ (sym own.runs ∙ ap (operation_of (states t)) (sym same_actor) ∙ u.runs)

      same_line : line.Swap own.why (its_swap own) ≡ line.Swap (purpose.Update u.path former) u.swap
      same_line = sym own.swaps ∙ ap (λ (x : Operation). x.line) same_owner ∙ u.swaps

      same_purpose : own.why ≡ purpose.Update u.path former
      same_purpose = let e = same_line in cc

      same_swap : its_swap own ≡ u.swap
      same_swap = let e = same_line in cc

  -- ---- repairs

  -- whose node is committed by a repair commits no update
  pub no_owner : (own : Own) (r : CommitsRepair (states t) s) (path : List Ref) (former : Option ℕ) → own.why ≡ purpose.Update path former → ⊥
  no_owner own r path former e = r.repairs path former (sym same_purpose ∙ e)
    where
      same_fresh : r.swap.fresh ≡ own.fresh
      same_fresh = same_Some _ _ (sym r.commits ∙ own_committed own)

      same_actor : r.actor ≡ own.actor
      same_actor =
          own.alone r.actor r.operation r.swap.indirection r.swap.replaced r.swap.line r.runs
          (r.why, r.swaps ∙ ap (λ f. line.Swap r.why (record { indirection = r.swap.indirection; replaced = r.swap.replaced; fresh = f; line = r.swap.line })) same_fresh)

      same_owner : own.owner ≡ r.operation
      same_owner = same_Some _ _ (sym own.runs ∙ ap (operation_of (states t)) (sym same_actor) ∙ r.runs)

      same_line : line.Swap own.why (its_swap own) ≡ line.Swap r.why r.swap
      same_line = sym own.swaps ∙ ap (λ (x : Operation). x.line) same_owner ∙ r.swaps

      same_purpose : own.why ≡ r.why
      same_purpose = let e = same_line in cc

  -- who commits nothing commits no repair, nor does who begins
  pub no_repair : CommitsNone (states t) s → CommitsRepair (states t) s → ⊥
  no_repair none r = none-some r.swap.fresh (sym (none_committed none) ∙ r.commits)

  pub begins_none : (actor : ℕ) (call : Call) (number : Option ℕ) → s ≡ step.Begin actor call number → CommitsRepair (states t) s → ⊥
  begins_none actor call number e r = none-some r.swap.fresh (sym (ap (committed_by_step (states t)) e) ∙ r.commits)

  -- who carries an offer out commits nothing
  pub carries_nothing : (handle : ℕ) (offer : Descriptor) → CarriesOut (states t) s handle offer → Own → ⊥
  carries_nothing handle offer (actor, mover, main, is_step, runs, does, on, carried) own =
      let nothing = complete_commits (states t) mover mover.line offer main does in
      let none : committed_by_step (states t) s ≡ None = ap (committed_by_step (states t)) is_step ∙ ap (committed_of (states t)) runs ∙ nothing in
      none-some own.fresh (sym none ∙ own_committed own)
