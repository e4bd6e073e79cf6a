-- The fine weight is such a weight: a pending main node weighs 5, a failed one that still stands 1; so READ costs 2.
use Rattle.std.proofs.Common.{◌≡◌, ℕ, suc, ◌+◌, ◌≤◌, ◌==◌, Bool, true, false, Option, refl, sym, ap, ◌∙◌, subst, eqb-true, arith}
use Rattle.proof_obstruction_free.specs.Vocabulary.{Ref, main_at, Action, Descriptor, Offer, action_of, main_word, prev_word}
use Rattle.proof_obstruction_free.specs.Beneath.slot_arena.specs.declared.nodes.Prev.TheVariants as prev
use Rattle.proof_obstruction_free.specs.Beneath.machine_model.specs.declared.actions.Action.TheVariants as act
use Rattle.proof_obstruction_free.specs.Beneath.proof_commits.proofs.Course.Finals.{failed_final}
use Rattle.proof_obstruction_free.specs.Beneath.proof_commits.proofs.Known.Given.{GrownStays, GrownSwaps, Either}
use Rattle.proof_obstruction_free.specs.Alone.{Lone, IsQuiet, IsWeight, word}
use Rattle.proof_obstruction_free.specs.Stepping.{LeavesWords}
use Rattle.proof_obstruction_free.specs.Weighing.{Acts, Sees, Weighing}
use Rattle.proof_obstruction_free.proofs.Weights.Offers.{is_weight}
use Rattle.proof_obstruction_free.proofs.Weights.Flat.{same_weight, aborts}
use Rattle.proof_obstruction_free.proofs.Read.Words.{w, p, stays_none}
use Rattle.proof_obstruction_free.proofs.Weights.FineWeight.{node_weight, stage_weight, weighs_none, failed_most}
use Rattle.proof_obstruction_free.proofs.Weights.NonePending.{IsNoPublish}
use Rattle.proof_obstruction_free.proofs.Weights.FineSteps.{in_range}
pub use Rattle.proof_obstruction_free.proofs.Weights.FinePays.{fine, fine_at_most}
use Rattle.proof_obstruction_free.proofs.Weights.FinePays.{does, lighter, quiet_lighter, pays, publishes, actor_range}
use Rattle.proof_obstruction_free.proofs.Weights.FineOwners.{pending_weight, owner, weighs, failed_owner, failed_weight, weighs_failed}
use Rattle.proof_obstruction_free.specs.Beneath.machine_model.proofs.Basics.{none≢failed}
use Rattle.proof_obstruction_free.proofs.Step.Within.{weight_of_still}

quiet_publishes : (action : Action) → IsQuiet action → IsNoPublish action
quiet_publishes (act.Publish i r f) quiet = quiet
quiet_publishes action quiet = tt

-- two that are apart aren't found to be the same
not_same : (x y : Ref) → (x ≡ y → ⊥) → (x == y) ≡ false
not_same x y apart = by_test (x == y) refl
  where
    by_test : (b : Bool) → (x == y) ≡ b → (x == y) ≡ false
    by_test true e = absurd (apart (eqb-true x y e))
    by_test false e = e

module _ (a : Lone) where
  -- ---- the rules

  pub quiet : IsWeight a (fine a)
  quiet t since more operation runs is =
      let acts : Acts a t (action_of (a.states t) operation) = record { since = since; more = more; operation = operation; runs = runs; is = refl } in
      let flat_part = is_weight a t since more operation runs is in
      let less = quiet_lighter a t (action_of (a.states t) operation) acts (quiet_publishes (action_of (a.states t) operation) is) in
      omega (arith, flat_part, less)

  abort : (t : ℕ) (offer : Descriptor) → Acts a t (act.Abort offer) → word a t ≡ Offer offer → fine a (suc t) + 2 ≤ fine a t
  abort t offer acts there =
      let off = aborts a t offer acts there in
      let less = quiet_lighter a t (act.Abort offer) acts tt in
      omega (arith, off, less)

  commit : (t : ℕ) (i m q : Ref) (told : Option ℕ) → Acts a t (act.Decide i m q told) → Sees a t i m (prev.Pending q) → Sees a (suc t) i m prev.None → fine a (suc t) + 5 ≤ fine a t
  commit t i m q told acts sees now =
      let more = acts.more in
      let within : t ≤ a.last = omega (arith, more) in
      let o = owner a t within m q sees.prev in
      let five = pending_weight a t o.actor o.link q m q o.line o.stage sees.prev in
      let none = ap (stage_weight (w a) (suc t)) o.stage ∙ weighs_none _ (main_word a.states (suc t) o.link == m) now.prev in
      let paid = pays a t (act.Decide i m q told) acts tt o.actor 5 0 (in_range a t o.actor within o.link q m o.line o.stage) (omega (arith, five, none)) in
      let same = same_weight a t (act.Decide i m q told) acts tt in
      omega (arith, paid, same)

  fail : (t : ℕ) (i m q : Ref) (told : Option ℕ) → Acts a t (act.Decide i m q told) → Sees a t i m (prev.Pending q) → Sees a (suc t) i m (prev.Failed q) → fine a (suc t) + 5 ≤ fine a t + 1
  fail t i m q told acts sees now =
      let more = acts.more in
      let within : t ≤ a.last = omega (arith, more) in
      let o = owner a t within m q sees.prev in
      let five = pending_weight a t o.actor o.link q m q o.line o.stage sees.prev in
      let e = ap (stage_weight (w a) (suc t)) o.stage in
      let most = failed_most _ (main_word a.states (suc t) o.link == m) q now.prev in
      let paid = pays a t (act.Decide i m q told) acts tt o.actor 5 1 (in_range a t o.actor within o.link q m o.line o.stage) (omega (arith, five, e, most)) in
      let same = same_weight a t (act.Decide i m q told) acts tt in
      omega (arith, paid, same)

  -- a step that is no swap of a main node and leaves root words adds nothing
  adds_nothing : (t : ℕ) (action : Action) → Acts a t action → IsNoPublish action → LeavesWords action → fine a (suc t) ≤ fine a t
  adds_nothing t action acts none leaves =
      let less = quiet_lighter a t action acts none in
      let same = same_weight a t action acts leaves in
      omega (arith, less, same)

  restore : (t : ℕ) (i m q : Ref) → Acts a t (act.Restore i m q) → Sees a t i m (prev.Failed q) → Sees a (suc t) i q prev.None → fine a (suc t) + 1 ≤ fine a t
  restore t i m q acts sees now =
      let more = acts.more in
      let within : t ≤ a.last = omega (arith, more) in
      let o = failed_owner a t within i m q sees in
      let one = failed_weight a t o.actor i o.below m q o.line o.stage sees.prev sees.main in
      let failed = failed_final (p a) m q t (suc t) (omega arith) more sees.prev in
      let apart : main_word a.states (suc t) i ≡ m → ⊥ = λ same. none≢failed (ap (prev_word a.states (suc t)) (sym same ∙ now.main) ∙ now.prev) failed in
      let none = ap (stage_weight (w a) (suc t)) o.stage ∙ ap (λ v. node_weight v (main_word a.states (suc t) i == m)) failed ∙ ap (node_weight (prev.Failed q)) (not_same _ m apart) in
      let paid = pays a t (act.Restore i m q) acts tt o.actor 1 0 (in_range a t o.actor within i o.below m o.line o.stage) (omega (arith, one, none)) in
      let same = same_weight a t (act.Restore i m q) acts tt in
      omega (arith, paid, same)

  publish : (t : ℕ) (i m fresh : Ref) → Acts a t (act.Publish i m fresh) → fine a (suc t) ≤ fine a t + 5
  publish t i m fresh acts =
      let more = acts.more in
      let most = publishes a t (act.Publish i m fresh) acts a.actor refl (actor_range a t (omega (arith, more)) acts) in
      let same = same_weight a t (act.Publish i m fresh) acts tt in
      omega (arith, most, same)

  published : (t : ℕ) (i m fresh : Ref) → Acts a t (act.Publish i m fresh) → (main_word a.states t i ≡ m → ⊥) → fine a (suc t) ≤ fine a t
  published t i m fresh acts other =
      let found = does a t (act.Publish i m fresh) acts in
      let not : (main_at (a.states t).heap i == m) ≡ false = not_same _ m (λ e. other (sym found.0.main ∙ e)) in
      let stays = subst (λ b. Either b (GrownSwaps a.states t i m fresh) (GrownStays a.states t)) not found.2 in
      let less = lighter a t (act.Publish i m fresh) acts (stays_none a t stays) in
      let same = same_weight a t (act.Publish i m fresh) acts tt in
      omega (arith, less, same)

  pub fine_weighing : Weighing a (fine a) 5 1
  fine_weighing = record {
    quiet = weight_of_still a (fine a) quiet;
    weighs = weighs a;
    weighs_failed = weighs_failed a;
    abort = abort;
    commit = commit;
    fail = fail;
    decided = λ t i m q told acts other. adds_nothing t _ acts tt tt;
    restore = restore;
    restored = λ t i m q acts other. adds_nothing t _ acts tt tt;
    publish = publish;
    published = published;
  }
