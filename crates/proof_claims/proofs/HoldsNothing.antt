-- What was let go of comes to hold nothing later: a main node that was left is committed no more, and what nobody follows nobody makes a step with.
use Rattle.std.proofs.Common.{◌≡◌, ℕ, List, [], ◌∷◌, ◌++◌, Contains, Option, Some, refl, sym, ap, subst, ◌∙◌, append_assoc, arith}
use Rattle.proof_claims.specs.Beneath.slot_arena.specs.declared.refs.Ref.{Ref}
use Rattle.proof_claims.specs.Beneath.slot_arena.specs.Heaps.{next_ref}
use Rattle.proof_claims.specs.Beneath.machine_model.specs.declared.actions.Action.{Action}
use Rattle.proof_claims.specs.Beneath.machine_model.specs.declared.actions.Action.TheVariants as act
use Rattle.proof_claims.specs.Beneath.machine_model.specs.declared.steps.Bounds.{Bounds}
use Rattle.proof_claims.specs.Beneath.machine_model.specs.declared.steps.Outcome.{Outcome}
use Rattle.proof_claims.specs.Beneath.machine_model.specs.declared.steps.Step.{Step}
use Rattle.proof_claims.specs.Beneath.machine_model.specs.Machine.{AreBounds, run}
use Rattle.proof_claims.specs.Beneath.machine_model.specs.Moves.{Moves}
use Rattle.proof_claims.specs.Beneath.machine_model.specs.Reading.{Commits, verdict}
use Rattle.proof_claims.specs.Beneath.machine_model.specs.States.{State}
use Rattle.proof_claims.specs.Beneath.machine_model.specs.Times.{last_of}
use Rattle.proof_claims.specs.Beneath.machine_model.proofs.Grown.{node_standing}
use Rattle.proof_claims.specs.Beneath.machine_model.proofs.Times.{run_is}
use Rattle.proof_claims.specs.Beneath.proof_followed.proofs.InUse.{named_followed}
use Rattle.proof_claims.specs.Beneath.proof_followed.specs.Followed.{IsFollowedByAny, followed_action_wants}
use Rattle.proof_claims.specs.Beneath.proof_garbage.proofs.Fresh.{node_word_of, prev_word_of}
use Rattle.proof_claims.specs.Beneath.proof_garbage.specs.Live.{refs_of_claims}
use Rattle.proof_claims.specs.Beneath.proof_memory.proofs.Heap.Later.{drawn_once}
use Rattle.proof_claims.specs.Beneath.proof_memory.proofs.Safety.AtEachTime.{safe_along}
use Rattle.proof_claims.specs.Beneath.proof_memory.specs.Laws.{IsInUse}
use Rattle.proof_claims.specs.Beneath.proof_memory.specs.Wants.{is_indirection}
use Rattle.proof_claims.specs.Beneath.proof_memory.proofs.Claims.Uses.{meets_of, safe_of}
use Rattle.proof_claims.specs.Beneath.proof_owned.proofs.Linked.{main_no_link, stood_is_main}
use Rattle.proof_claims.specs.Changes.{change_of}
use Rattle.proof_claims.specs.Claims.{Has, held_of}
use Rattle.proof_claims.specs.Dropped.{IsLetGo, WasLetGo}
use Rattle.proof_claims.specs.Held.{Held, Holder, OfHandle, OfNode, held_after}
use Rattle.proof_claims.proofs.Acted as acted
use Rattle.proof_claims.proofs.Alive.{used_between}
use Rattle.proof_claims.proofs.ChangeKinds.{Acting}
use Rattle.proof_claims.proofs.HeldSince.{held_since}
use Rattle.proof_claims.proofs.LeftMains.{IsLeft, failed_left, replaced_left}
use Rattle.proof_claims.proofs.LetGoThen as then
use Rattle.proof_claims.proofs.LiveLinks.{nobody_later}
use Rattle.proof_claims.proofs.NewClaims.{Comes, came, first, frozen, made, moved, published, second, stood}
use Rattle.proof_claims.proofs.PrevMoves.{was_pending}
use Rattle.proof_claims.proofs.Unlinked.{over, used as used_failed}
use Rattle.proof_claims.proofs.WhoLetsGo.{LetsGoSo, lets_go_so, so_failed, so_given_up, so_offered, so_replaced}

-- why it comes to hold nothing
pub data IsOut (limits : Bounds) (ok : AreBounds limits) (xs : List Step) (j : Ref) : Type 0 where
  as_main : (i : Ref) → IsLeft limits ok xs i j → IsOut limits ok xs j
  as_unfollowed : (IsInUse (run limits xs).heap j → IsFollowedByAny (run limits xs) j → ⊥) → IsOut limits ok xs j

-- ---- a step

-- what an action names is followed
pub named_by_action : (limits : Bounds) → AreBounds limits → (xs : List Step) (s : Step) (action : Action) (a : Acting (run limits xs) s action) (r : Ref) →
    Contains (refs_of_claims (followed_action_wants action)) r → IsFollowedByAny (run limits xs) r
named_by_action limits ok xs s action a r c =
    named_followed (run limits xs) (safe_along limits ok xs) (λ id. Unit {0}) a.actor a.operation a.runs tt r (subst (λ x. Contains (refs_of_claims (followed_action_wants x)) r) (sym a.acts) c)

module _ (limits : Bounds) (ok : AreBounds limits) (xs : List Step) (s : Step) (o : Outcome) (m : Moves (run limits xs) s o (run limits (xs ++ s ∷ []))) (j : Ref) where
  abbrev state : State
  state = run limits xs

  abbrev held : Held
  held = held_of limits xs

  abbrev later : Held
  later = held_after (change_of state held s) held

  not_decided : IsOut limits ok xs j → (i p : Ref) (told : Option ℕ) → (a : Acting state s (act.Decide i j p told)) → verdict state.heap i j p told ≡ Commits → ⊥
  not_decided (as_main i left) i' p told a v =
      let used = acted.wanted_used limits ok xs s o _ m refl (act.Decide i' j p told) a j (1, omega arith, refl) in
      left.decided p (prev_word_of limits xs ok j used ∙ was_pending limits ok xs s o _ m refl i' j p told a v)
  not_decided (as_unfollowed nobody) i' p told a v =
      nobody (acted.wanted_used limits ok xs s o _ m refl (act.Decide i' j p told) a j (1, omega arith, refl)) (named_by_action limits ok xs s (act.Decide i' j p told) a j (1, omega arith, refl))

  not_published : IsOut limits ok xs j → (q f : Ref) → (a : Acting state s (act.Publish j q f)) → ⊥
  not_published (as_main i left) q f a =
      let claims = acted.wants limits ok xs s o _ m refl (act.Publish j q f) a in
      let (slot, stands) = safe_of claims.0 in
      let main = stood_is_main (run_is limits xs ok) (last_of limits xs) (omega arith) i j left.stood in
      main_no_link _ main (ap is_indirection (node_word_of limits xs ok j slot stands ∙ sym (node_standing state.heap j slot stands)) ∙ meets_of claims.0)
  not_published (as_unfollowed nobody) q f a =
      nobody (acted.wanted_used limits ok xs s o _ m refl (act.Publish j q f) a j (0, omega arith, refl)) (named_by_action limits ok xs s (act.Publish j q f) a j (0, omega arith, refl))

  -- where it is none that is made now
  pub stays_empty : IsOut limits ok xs j → (next_ref (run limits xs).heap ≡ Some j → ⊥) → ((k : Ref) → Has (held_of limits xs) (OfNode j) k → ⊥) → (k : Ref) →
      Has (held_after (change_of (run limits xs) (held_of limits xs) s) (held_of limits xs)) (OfNode j) k → ⊥
  stays_empty out old none k has = by (OfNode j) refl (came state held (OfNode j) k s has)
    where
      by : (holder : Holder) → holder ≡ OfNode j → Comes state held s (change_of state held s) holder k → ⊥
      by holder is (stood had stays) = none k (subst (λ x. Has held x k) is had)
      by holder is (moved i f p told a v own at_f had names) =
          let holders : OfNode f ≡ OfNode j = sym at_f ∙ is in
          let same : f ≡ j = cc holders in
          not_decided out i p told (subst (λ x. Acting state s (act.Decide i x p told)) same a) (subst (λ x. verdict state.heap i x p told ≡ Commits) same v)
      by holder is (made node action x a makes_it drawn at_x names raised) = let holders : OfNode x ≡ OfNode j = sym at_x ∙ is in let same : x ≡ j = cc holders in old (drawn ∙ ap Some same)
      by holder is (published i q f a hit at_i at_f) =
          let holders : OfNode i ≡ OfNode j = sym at_i ∙ is in let same : i ≡ j = cc holders in not_published out q f (subst (λ x. Acting state s (act.Publish x q f)) same a)
      by holder is (frozen offer main n a out_now none_second opens at_h at_root had) = let wrong : OfHandle n ≡ OfNode j = sym at_h ∙ is in let bad : ⊥ = cc wrong in bad
      by holder is (first offer a plain at_h at_root) = let wrong = sym at_h ∙ is in let bad : ⊥ = cc in bad
      by holder is (second offer n a plain opens at_root at_h) = let wrong : OfHandle n ≡ OfNode j = sym at_h ∙ is in let bad : ⊥ = cc wrong in bad

-- ---- since it was let go of

module _ (limits : Bounds) (ok : AreBounds limits) (before : List Step) (s : Step) (j : Ref) (h : IsLetGo limits before s j) where
  abbrev through : List Step
  through = before ++ s ∷ []

  used_first : IsInUse (run limits before).heap j
  used_first = then.used_then limits ok before s j h

  module _ (since : List Step) where
    abbrev all : List Step
    all = through ++ since

    longer : all ≡ before ++ (s ∷ since)
    longer = append_assoc before (s ∷ []) since

    not_new : next_ref (run limits all).heap ≡ Some j → ⊥
    not_new drawn = drawn_once limits ok before (s ∷ since) j (subst (λ l. next_ref (run limits l).heap ≡ Some j) longer drawn) used_first

    nobody_then : (IsFollowedByAny (run limits through) j → ⊥) → IsOut limits ok all j
    nobody_then nobody = as_unfollowed (λ u followed. nobody_later limits ok through j (used_between limits ok before (s ∷ []) since j used_first u) nobody since u followed)

    out_by : LetsGoSo (run limits before) (held_of limits before) s j → IsOut limits ok all j
    out_by (so_replaced actor i f is_step r own) =
        as_main i (subst (λ l. IsLeft limits ok l i j) (sym longer) (replaced_left limits ok before (s ∷ since) actor r.operation r.why i j f r.runs r.checks))
    out_by (so_failed actor i m is_step r) =
        let (q, was) = over limits ok before actor i m j r in
        as_main i
        (subst (λ l. IsLeft limits ok l i j) (sym longer) (failed_left limits ok before (s ∷ since) actor r.operation r.why i m j r.runs r.checks q (used_failed limits ok before actor i m j r) was).0)
    out_by (so_given_up private up c is) = nobody_then (then.given_up_unfollowed limits ok before s j h private up c)
    out_by (so_offered offer main c a on not_out unmarked d) = nobody_then (then.offered_unfollowed limits ok before s j h offer main c a on not_out unmarked d)

    pub out_since : IsOut limits ok (through ++ since) j
    out_since = out_by (lets_go_so limits ok before s j h.lets)

  pub empty_since : (since : List Step) (k : Ref) → Has (held_of limits ((before ++ s ∷ []) ++ since)) (OfNode j) k → ⊥
  empty_since =
      held_since limits through (λ held. (k : Ref) → Has held (OfNode j) k → ⊥) (λ since t o m none. stays_empty limits ok (through ++ since) t o m j (out_since since) (not_new since) none)
      (then.none_left limits ok before s j h)

-- ---- the law

pub holds_nothing : (limits : Bounds) → AreBounds limits → (steps : List Step) (j k : Ref) → WasLetGo limits steps j → Has (held_of limits steps) (OfNode j) k → ⊥
holds_nothing limits ok steps j k w has = empty_since limits ok w.before w.s j w.by w.since k (subst (λ l. Has (held_of limits l) (OfNode j) k) w.goes_on has)
