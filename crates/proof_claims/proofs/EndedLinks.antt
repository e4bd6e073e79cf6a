-- An indirection's claim on a main node that its SWAP lets go of ends by that step, and none is added: nobody swaps that node in there again.
use Rattle.std.proofs.Common.{◌≡◌, Bool, true, false, List, [], ◌∷◌, ◌++◌, Some, cond, refl, sym, ap, subst, ◌∙◌, append_assoc, arith, eq-eqb, ◌==◌, ◌&&◌}
use Rattle.std.proofs.lemmas.Bool.{true≢false}
use Rattle.proof_claims.specs.Beneath.slot_arena.specs.declared.refs.Ref.{Ref}
use Rattle.proof_claims.specs.Beneath.slot_arena.specs.Heaps.{next_ref, node_at}
use Rattle.proof_claims.specs.Beneath.machine_model.specs.declared.actions.Action.TheVariants as act
use Rattle.proof_claims.specs.Beneath.machine_model.specs.declared.steps.Bounds.{Bounds}
use Rattle.proof_claims.specs.Beneath.machine_model.specs.declared.steps.Outcome.{Outcome}
use Rattle.proof_claims.specs.Beneath.machine_model.specs.declared.steps.Step.{Step}
use Rattle.proof_claims.specs.Beneath.machine_model.specs.Machine.{AreBounds, run}
use Rattle.proof_claims.specs.Beneath.machine_model.specs.Moves.{Moves}
use Rattle.proof_claims.specs.Beneath.machine_model.specs.States.{State}
use Rattle.proof_claims.specs.Beneath.machine_model.proofs.Grown.{node_standing}
use Rattle.proof_claims.specs.Beneath.proof_fresh.proofs.Publishing.{publishing}
use Rattle.proof_claims.specs.Beneath.proof_garbage.proofs.Fresh.{fresh, node_word_of, sound}
use Rattle.proof_claims.specs.Beneath.proof_garbage.proofs.Restoring.{last, w}
use Rattle.proof_claims.specs.Beneath.proof_commits.proofs.Words.Stood.{Stood}
use Rattle.proof_claims.specs.Beneath.proof_memory.proofs.Claims.Uses.{safe_of}
use Rattle.proof_claims.specs.Beneath.proof_memory.proofs.Heap.Later.{drawn_once}
use Rattle.proof_claims.specs.Beneath.proof_memory.specs.Laws.{IsInUse}
use Rattle.proof_claims.specs.Beneath.proof_memory.specs.Wants.{is_indirection}
use Rattle.proof_claims.specs.Changes.{change_of, fate_left}
use Rattle.proof_claims.specs.Claims.{Has, held_of}
use Rattle.proof_claims.specs.Dropped.{IsLetGo}
use Rattle.proof_claims.specs.Held.{Change, Claim, Ends, Given, Held, Holder, OfHandle, OfNode, Stays, held_after, is_by_nodes}
use Rattle.proof_claims.proofs.Acted as acted
use Rattle.proof_claims.proofs.HeldSince.{held_since}
use Rattle.proof_claims.proofs.InSwap.{plain_f}
use Rattle.proof_claims.proofs.LeftMains.{IsLeft}
use Rattle.proof_claims.proofs.LetGoThen as then
use Rattle.proof_claims.proofs.Lists.{found_in}
use Rattle.proof_claims.proofs.NewClaims.{Comes, came, first, frozen, made, moved, published, second, stood}
use Rattle.proof_claims.proofs.PendingOwner.{pending_owner}
use Rattle.proof_claims.proofs.PrevMoves.{was_pending}

-- the step that lets go of the main node ends the indirection's claim on it
pub left_ends : (i j : Ref) (left : Change) → ((c : Claim) → left.fate c ≡ fate_left i j c) → {change : Change} → change ≡ left → change.fate (record { by = OfNode i; on = j }) ≡ Stays (OfNode i) → ⊥
left_ends i j left fate {change} is stays =
    by (is_by_nodes (j ∷ []) (OfNode i)) (is_by_nodes (i ∷ []) (OfNode i) && (j == j)) (ap (λ b. b && (j == j)) (found_in (i ∷ []) i (0, omega arith, refl)) ∙ eq-eqb j j refl)
    (sym (ap (λ (c : Change). c.fate (record { by = OfNode i; on = j })) is ∙ fate (record { by = OfNode i; on = j })) ∙ stays)
  where
    by : (a b : Bool) → b ≡ true → cond a Given (cond b Ends (Stays (OfNode i))) ≡ Stays (OfNode i) → ⊥
    by true b its e = cc e
    by false true its e = cc e
    by false false its e = true≢false (sym its)

-- ---- a step

module _ (limits : Bounds) (ok : AreBounds limits) (xs : List Step) (s : Step) (o : Outcome) (m : Moves (run limits xs) s o (run limits (xs ++ s ∷ []))) (i j : Ref) (left : IsLeft limits ok xs i j)
    (old : next_ref (run limits xs).heap ≡ Some i → ⊥) (none : Has (held_of limits xs) (OfNode i) j → ⊥) where
  abbrev state : State
  state = run limits xs

  abbrev held : Held
  held = held_of limits xs

  stood_there : Stood (w limits xs ok) (last limits xs ok) i j
  stood_there = record { at = left.stood.at; past = left.stood.past; link = left.stood.link; is = left.stood.is }

  link : IsInUse state.heap i → is_indirection (node_at state.heap i) ≡ true
  link (slot, stands) =
      ap is_indirection (node_standing state.heap i slot stands ∙ sym (node_word_of limits xs ok i slot stands)) ∙ (sound limits xs ok).words.link i j stood_there

  pub link_free_next : Has (held_after (change_of (run limits xs) (held_of limits xs) s) (held_of limits xs)) (OfNode i) j → ⊥
  link_free_next has = by (OfNode i) refl (came state held (OfNode i) j s has)
    where
      by : (holder : Holder) → holder ≡ OfNode i → Comes state held s (change_of state held s) holder j → ⊥
      by holder is (stood had stays) = none (subst (λ z. Has held z j) is had)
      by holder is (moved b f p told a v own at_f had names) =
          let holders : OfNode f ≡ OfNode i = sym at_f ∙ is in
          let same : f ≡ i = cc holders in
          let claims = acted.wants limits ok xs s o _ m refl (act.Decide b f p told) a in
          let owner = pending_owner limits ok xs a.actor a.operation b f p told a.runs a.acts (safe_of claims.1.0) (was_pending limits ok xs s o _ m refl b f p told a v) in
          true≢false (sym (link (subst (IsInUse state.heap) same (safe_of claims.1.0))) ∙ ap (λ z. is_indirection (node_at state.heap z)) (sym same)
          ∙ plain_f limits ok xs owner.k owner.operation owner.runs owner.why _ owner.swaps)
      by holder is (made node action x a makes_it drawn at_x names raised) = let holders : OfNode x ≡ OfNode i = sym at_x ∙ is in let same : x ≡ i = cc holders in old (drawn ∙ ap Some same)
      by holder is (published b q f a hit at_b at_f) =
          let (why, on) = publishing state a.operation b q f a.acts in
          (fresh limits xs ok a.actor a.operation b q f why a.runs on).apart i (subst (λ z. Stood (w limits xs ok) (last limits xs ok) i z) at_f stood_there)
      by holder is (frozen offer main n a out none_second opens at_h at_root had) = let wrong : OfHandle n ≡ OfNode i = sym at_h ∙ is in let bad : ⊥ = cc wrong in bad
      by holder is (first offer a plain at_h at_root) = let wrong = sym at_h ∙ is in let bad : ⊥ = cc in bad
      by holder is (second offer n a plain opens at_root at_h) = let wrong : OfHandle n ≡ OfNode i = sym at_h ∙ is in let bad : ⊥ = cc wrong in bad

-- ---- since then

module _ (limits : Bounds) (ok : AreBounds limits) (before : List Step) (s : Step) (j : Ref) (h : IsLetGo limits before s j) (i : Ref) (left : (since : List Step) →
    IsLeft limits ok ((before ++ s ∷ []) ++ since) i j)
    (used : IsInUse (run limits before).heap i)
    (ends : (change_of (run limits before) (held_of limits before) s).fate (record { by = OfNode i; on = j }) ≡ Stays (OfNode i) → ⊥) where
  abbrev through : List Step
  through = before ++ s ∷ []

  not_new : (since : List Step) → next_ref (run limits (through ++ since)).heap ≡ Some i → ⊥
  not_new since drawn = drawn_once limits ok before (s ∷ since) i (subst (λ l. next_ref (run limits l).heap ≡ Some i) (append_assoc before (s ∷ []) since) drawn) used

  pub link_free_since : (since : List Step) → Has (held_of limits ((before ++ s ∷ []) ++ since)) (OfNode i) j → ⊥
  link_free_since =
      held_since limits through (λ held. Has held (OfNode i) j → ⊥) (λ since t o m free. link_free_next limits ok (through ++ since) t o m i j (left since) (not_new since) free)
      (λ has. ends (then.staying limits ok before s j h (OfNode i) j has).1)
