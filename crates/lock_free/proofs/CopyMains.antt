-- The main node of which COPY makes a root: another root leads to it, so it isn't private, and the seat may count a reference to it.
use Rattle.std.proofs.Common.{◌≡◌, ◌∷◌, [], inl, inr, ℕ, true, Contains, refl, sym, ap, subst, ◌∙◌}
use Rattle.std.proofs.lemmas.List.Elements.{Contains-append_left, Contains-append_right}
use Rattle.std.proofs.lemmas.Option.{same_Some}
use Rattle.machine_model.specs.Beneath.slot_arena.specs.declared.refs.Ref.{Ref}
use Rattle.machine_model.specs.Beneath.slot_arena.specs.Heaps.{node_at}
use Rattle.machine_model.specs.declared.actions.Action.TheVariants as act
use Rattle.machine_model.specs.declared.copying.CopyLine.{CopyLine}
use Rattle.machine_model.specs.declared.copying.CopyLine.TheVariants as copy
use Rattle.machine_model.specs.declared.lines.Line.{Line}
use Rattle.machine_model.specs.declared.lines.Line.TheVariants as line
use Rattle.machine_model.specs.declared.operations.Operation.{Operation}
use Rattle.machine_model.specs.Copying.{copy_action}
use Rattle.machine_model.specs.Operations.{action_of, line_action}
use Rattle.proof_memory.specs.Laws.{IsInUse}
use Rattle.proof_memory.specs.Wants.{AllHold, copy_wants, is_main_node}
use Rattle.proof_memory.proofs.Claims.Uses.{meets_of}
use Rattle.proof_memory.proofs.Safety.AtEachTime.{safe_along}
use Rattle.proof_memory.proofs.Safety.AtTimes.{line_finds_in}
use Rattle.machine_model.proofs.Along.{limits_along}
use Rattle.proof_memory.specs.Wants.{line_wants}
use Rattle.lock_free.specs.declared.reclaiming.Kind.TheVariants as kinds
use Rattle.lock_free.specs.declared.rules.View.{View}
use Rattle.lock_free.specs.Accounts.{bounds_for}
use Rattle.lock_free.specs.Becoming.{Follows}
use Rattle.lock_free.specs.CopySteps.{IsAtCopy}
use Rattle.lock_free.specs.Counting.{IsInSlot}
use Rattle.lock_free.specs.Live.{line_claims, refs_of_claims}
use Rattle.lock_free.specs.Loading.{now, IsSound}
use Rattle.lock_free.specs.Owing.{names_made}
use Rattle.lock_free.specs.Raising.{IsShared, MayHoldOne}
use Rattle.lock_free.proofs.ApartEntries.{private_second, successor_apart}
use Rattle.lock_free.proofs.HandHolds.{class_stays}
use Rattle.lock_free.proofs.OnLines.{line_is}
use Rattle.lock_free.proofs.OwesPrivate.{line_apart}
use Rattle.lock_free.proofs.MadeOwe.{IsApart}
use Rattle.lock_free.proofs.Pools.{first_there, one_there}
use Rattle.lock_free.proofs.RenewEntries.{main_kind_is}

-- its slot stays
pub in_slot_on : (v w : View) → Follows v w → (k : Ref) (class name : ℕ) → IsInSlot v k class name → IsInSlot w k class name
in_slot_on v w f k class name h =
    let later = f.nodes k h.slot h.used in
    record { slot = later.0; used = later.1; class_is = class_stays h.slot.node later.0.node later.2 ∙ h.class_is; place = f.places k h.slot h.used ∙ h.place }

module _ (n : ℕ) (v : View) (sound : IsSound n v) (root main : Ref) (class name : ℕ) (there : IsInSlot v main class name) where
  module _ (l : CopyLine) (at : IsAtCopy v l) where
    o : Operation
    o = record at.0 { is_marked = at.1.0 }

    -- what its line wants
    finds : AllHold (IsInUse (now v).heap) (now v).heap (copy_wants l)
    unfolding o
    finds =
        let limits = bounds_for v.sizes v.account.steps in
        subst (λ x. AllHold (IsInUse (now v).heap) (now v).heap (line_wants limits.hash o.call o.access x)) at.2
        (line_finds_in (now v) (safe_along limits sound.bounds v.account.steps) limits (limits_along limits v.account.steps) v.actor o at.1.1)

    root_holds : copy_action l ≡ act.MakeRoot main → Contains (refs_of_claims (copy_wants l)) main → is_main_node (node_at (now v).heap main) ≡ true → IsShared v main →
        MayHoldOne v kinds.Main class name
    unfolding o
    root_holds acts hand is_main shared = record {
      one = main;
      hand = (
        (
          o,
          at.1.1,
          inl (Contains-append_left (refs_of_claims (line_claims (now v) o)) o.private main
              (subst (λ (x : Line). Contains (refs_of_claims (line_claims (now v) (record o { line = x }))) main) (sym at.2) hand)),
        ),
        there,
      );
      its_kind = main_kind_is (node_at (now v).heap main) is_main;
      shared = shared;
      names = λ operation runs k c.
          (let same = same_Some o operation (sym at.1.1 ∙ runs) in
          let is_it = ap (λ p. names_made (action_of (now v) p)) (sym same) ∙ ap (λ x. names_made (line_action (now v) o x)) at.2 ∙ ap names_made acts in
          inr (one_there main k (subst (λ ks. Contains ks k) is_it c)));
    }

  pub successor_holds : IsAtCopy v (copy.Successor root main) → MayHoldOne v kinds.Main class name
  successor_holds at =
      root_holds (copy.Successor root main) at refl (Contains-append_right (root ∷ []) (main ∷ []) main (first_there main [])) (meets_of (finds (copy.Successor root main) at).1.0)
      (λ operation runs c.
      successor_apart (bounds_for v.sizes v.account.steps) sound.bounds v.account.steps v.actor operation runs root main
      (line_is v (line.Copy (copy.Successor root main)) at operation (operation.is_marked, runs)) c)

  pub second_holds : (successor : Ref) → IsAtCopy v (copy.Second root main successor) → MayHoldOne v kinds.Main class name
  second_holds successor at =
      root_holds (copy.Second root main successor) at refl (Contains-append_right (root ∷ []) (main ∷ successor ∷ []) main (first_there main (successor ∷ [])))
      (meets_of (finds (copy.Second root main successor) at).1.0)
      (λ operation runs c.
      (let limits = bounds_for v.sizes v.account.steps in
      let on = line_is v (line.Copy (copy.Second root main successor)) at operation (operation.is_marked, runs) in
      subst (IsApart operation.private) on (line_apart limits sound.bounds v.account.steps v.actor operation runs)
      (sym (private_second limits sound.bounds v.account.steps v.actor operation runs root main successor on c))))
