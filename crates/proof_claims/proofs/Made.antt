-- Who holds a claim and what it is on was made, a main node has claims on what it names, and handles on what is private to none.
use Rattle.std.proofs.Common.{◌≡◌, ℕ, suc, ◌≤◌, false, List, [], ◌∷◌, ◌++◌, Contains, Some, arith, refl, sym, ap, subst, ◌∙◌}
use Rattle.std.proofs.lemmas.Bool.{true≢false}
use Rattle.std.proofs.lemmas.Option.{same_Some}
use Rattle.proof_claims.specs.Beneath.slot_arena.specs.declared.refs.Ref.{Ref}
use Rattle.proof_claims.specs.Beneath.slot_arena.specs.Heaps.{node_at, refs_of_node, refs_of_option}
use Rattle.proof_claims.specs.Beneath.slot_arena.specs.Refs.{birth_of}
use Rattle.proof_claims.specs.Beneath.machine_model.specs.declared.actions.Action.TheVariants as act
use Rattle.proof_claims.specs.Beneath.machine_model.specs.declared.operations.Operation.{Operation}
use Rattle.proof_claims.specs.Beneath.machine_model.specs.declared.roots.Descriptor.{Descriptor}
use Rattle.proof_claims.specs.Beneath.machine_model.specs.declared.steps.Bounds.{Bounds}
use Rattle.proof_claims.specs.Beneath.machine_model.specs.declared.steps.Outcome.{Outcome}
use Rattle.proof_claims.specs.Beneath.machine_model.specs.declared.steps.Step.{Step}
use Rattle.proof_claims.specs.Beneath.machine_model.specs.declared.steps.Step.TheVariants as step
use Rattle.proof_claims.specs.Beneath.machine_model.specs.Acting.{operation_after, private_after}
use Rattle.proof_claims.specs.Beneath.machine_model.specs.Machine.{AreBounds, run}
use Rattle.proof_claims.specs.Beneath.machine_model.specs.Moves.{Moves}
use Rattle.proof_claims.specs.Beneath.machine_model.specs.Grown.{standing}
use Rattle.proof_claims.specs.Beneath.machine_model.specs.States.{State, operation_of}
use Rattle.proof_claims.specs.Beneath.machine_model.proofs.Actors.{IsOf, mark_only, marks_in}
use Rattle.proof_claims.specs.Beneath.machine_model.proofs.Fates.{Comes as CameFrom, began, comes, gave, rested, went}
use Rattle.proof_claims.specs.Beneath.proof_garbage.proofs.Claims.{none_in}
use Rattle.proof_claims.specs.Beneath.proof_garbage.proofs.Public.{IsPublic, public_then}
use Rattle.proof_claims.specs.Beneath.proof_garbage.specs.Live.{refs_of_claims}
use Rattle.proof_claims.specs.Beneath.proof_memory.proofs.Claims.Uses.{meets_of, safe_of}
use Rattle.proof_claims.specs.Beneath.proof_memory.proofs.Safety.AtEachTime.{safe_along}
use Rattle.proof_claims.specs.Beneath.proof_memory.specs.Laws.{IsInUse}
use Rattle.proof_claims.specs.Beneath.proof_memory.specs.Wants.{action_wants, is_indirection}
use Rattle.proof_claims.specs.Changes.{change_of}
use Rattle.proof_claims.specs.Claims.{Has, held_of}
use Rattle.proof_claims.specs.Held.{Held, Holder, OfHandle, OfNode, held_after}
use Rattle.proof_claims.proofs.Acted as acted
use Rattle.proof_claims.proofs.Acted.{births_more, made_later, made_new, made_node, names_used, used_made, wanted_not, wanted_used}
use Rattle.proof_claims.proofs.ChangeKinds.{Acting}
use Rattle.proof_claims.proofs.NewClaims.{Comes, came, first, frozen, made, moved, published, second, stood}

abbrev pub IsMade : State → Ref → Type 0
IsMade state r = birth_of r ≤ state.heap.births

abbrev pub HolderIsMade : State → Holder → Type 0
HolderIsMade state (OfHandle n) = Unit {0}
HolderIsMade state (OfNode j) = IsMade state j

pub record AreMade (state : State) (held : Held) : Type 0 where
  pub holders : (by : Holder) (on : Ref) → Has held by on → HolderIsMade state by
  pub made : (by : Holder) (on : Ref) → Has held by on → IsMade state on
  pub names : (j k : Ref) → Has held (OfNode j) k → IsInUse state.heap j → is_indirection (node_at state.heap j) ≡ false → Contains (refs_of_node (node_at state.heap j)) k
  pub public : (n : ℕ) (r : Ref) → Has held (OfHandle n) r → IsPublic r state

-- one of the roots that an offer brings
pub second_wanted : (offer : Descriptor) (r : Ref) → offer.second ≡ Some r → Contains (refs_of_claims (action_wants (act.Offer offer))) r
second_wanted offer r e = subst (λ rs. Contains (offer.root ∷ offer.expected ∷ offer.successor ∷ (rs ++ [])) r) (ap refs_of_option (sym e)) (3, omega arith, refl)

module _ (limits : Bounds) (ok : AreBounds limits) (xs : List Step) (s : Step) (o : Outcome) (after : State) (m : Moves (run limits xs) s o after)
    (is_after : run limits (xs ++ s ∷ []) ≡ after) (h : AreMade (run limits xs) (held_of limits xs)) where
  abbrev state : State
  state = run limits xs

  abbrev held : Held
  held = held_of limits xs

  abbrev later : Held
  later = held_after (change_of state held s) held

  grown : (r : Ref) → IsMade state r → IsMade after r
  grown r made_then = made_later limits ok xs s o after m is_after r made_then

  of_use : (r : Ref) → IsInUse state.heap r → IsMade after r
  of_use r used = grown r (used_made limits ok xs s o after m is_after r used)

  holder_grown : (by : Holder) → HolderIsMade state by → HolderIsMade after by
  holder_grown (OfHandle n) made_then = tt
  holder_grown (OfNode j) made_then = grown j made_then

  -- a node that stands after the step was made
  stands_made : (r : Ref) → IsInUse after.heap r → IsMade after r
  stands_made r used =
      subst (λ (z : State). IsMade z r) is_after
      ((safe_along limits ok (xs ++ s ∷ [])).births r used.0 (ap (λ (z : State). standing z.heap r) is_after ∙ used.1))

  holder_made : (by : Holder) (on : Ref) → Comes state held s (change_of state held s) by on → HolderIsMade after by
  holder_made by on (stood has same) = holder_grown by (h.holders by on has)
  holder_made by on (moved i f p told a commits own is had names) =
      subst (HolderIsMade after) (sym is) (of_use f (wanted_used limits ok xs s o after m is_after (act.Decide i f p told) a f (1, omega arith, refl)))
  holder_made by on (frozen offer main n a out none opens is at had) = subst (HolderIsMade after) (sym is) tt
  holder_made by on (made node action x a makes_it drawn is names raised) =
      subst (HolderIsMade after) (sym is) (stands_made x (_, acted.made_stands limits ok xs s o after m is_after node action a makes_it x drawn))
  holder_made by on (published i q f a hit is at) =
      subst (HolderIsMade after) (sym is) (of_use i (wanted_used limits ok xs s o after m is_after (act.Publish i q f) a i (0, omega arith, refl)))
  holder_made by on (first offer a stands is at) = subst (HolderIsMade after) (sym is) tt
  holder_made by on (second offer n a stands opens at is) = subst (HolderIsMade after) (sym is) tt

  held_made : (by : Holder) (on : Ref) → Comes state held s (change_of state held s) by on → IsMade after on
  held_made by on (stood has same) = grown on (h.made by on has)
  held_made by on (moved i f p told a commits own is had names) = grown on (h.made (OfNode p) on had)
  held_made by on (frozen offer main n a out none opens is at had) = subst (IsMade after) (sym at) (grown offer.root (h.made _ offer.root had))
  held_made by on (made node action x a makes_it drawn is names raised) = of_use on (names_used limits ok xs s o after m is_after node action a makes_it x drawn on names)
  held_made by on (published i q f a hit is at) =
      subst (IsMade after) (sym at) (of_use f (wanted_used limits ok xs s o after m is_after (act.Publish i q f) a f (2, omega arith, refl)))
  held_made by on (first offer a stands is at) =
      subst (IsMade after) (sym at) (of_use offer.successor (wanted_used limits ok xs s o after m is_after (act.Offer offer) a offer.successor (2, omega arith, refl)))
  held_made by on (second offer n a stands opens at is) = of_use on (wanted_used limits ok xs s o after m is_after (act.Offer offer) a on (second_wanted offer on at))

  -- ---- what main nodes name

  abbrev Named : Ref → Ref → Type 0
  Named j k = IsInUse after.heap j → is_indirection (node_at after.heap j) ≡ false → Contains (refs_of_node (node_at after.heap j)) k

  -- where its node is as before
  named_still : (j k : Ref) → IsMade state j → (IsInUse state.heap j → is_indirection (node_at state.heap j) ≡ false → Contains (refs_of_node (node_at state.heap j)) k) → Named j k
  named_still j k made_then names used no_link =
      let was = acted.still limits ok xs s o after m is_after j made_then used in
      let plain = sym was.link ∙ no_link in
      subst (λ n. Contains (refs_of_node n) k) (sym (was.node plain)) (names was.used plain)

  named : (by : Holder) (j k : Ref) → by ≡ OfNode j → Comes state held s (change_of state held s) by k → Named j k
  named by j k same (stood has stays) =
      let had = subst (λ x. Has held x k) same has in
      named_still j k (h.holders (OfNode j) k had) (h.names j k had)
  named by j k same (moved i f p told a commits own is had names) =
      let at_f : f ≡ j = cc (sym is ∙ same) in
      subst (λ x. Named x k) at_f
      (named_still f k (used_made limits ok xs s o after m is_after f (wanted_used limits ok xs s o after m is_after (act.Decide i f p told) a f (1, omega arith, refl))) (λ used plain. names))
  named by j k same (frozen offer main n a out none opens is at had) = let bad : ⊥ = cc (sym is ∙ same) in absurd bad
  named by j k same (made node action x a makes_it drawn is names raised) = λ used no_link.
      let at_x : x ≡ j = cc (sym is ∙ same) in
      subst (λ z. Contains (refs_of_node (node_at after.heap z)) k) at_x
      (subst (λ n. Contains (refs_of_node n) k) (sym (made_node limits ok xs s o after m is_after node action a makes_it x drawn)) names)
  named by j k same (published i q f a hit is at) = λ used no_link.
      let at_i : i ≡ j = cc (sym is ∙ same) in
      let claims = acted.wants limits ok xs s o after m is_after (act.Publish i q f) a in
      let was = acted.still limits ok xs s o after m is_after i (used_made limits ok xs s o after m is_after i (safe_of claims.0)) (subst (IsInUse after.heap) (sym at_i) used) in
      absurd (true≢false (sym (was.link ∙ meets_of claims.0) ∙ ap (λ z. is_indirection (node_at after.heap z)) at_i ∙ no_link))
  named by j k same (first offer a stands is at) = let bad : ⊥ = cc (sym is ∙ same) in absurd bad
  named by j k same (second offer n a stands opens at is) = let bad : ⊥ = cc (sym is ∙ same) in absurd bad

  -- ---- what handles hold

  -- what is offered is nobody's own any more
  module _ (offer : Descriptor) (a : Acting state s (act.Offer offer)) (r : Ref) (c : Contains (refs_of_claims (action_wants (act.Offer offer))) r) where
    not_own : (k : ℕ) (found : Operation) → CameFrom state s k found → Contains found.private r → ⊥
    not_own k found (began call number is denial it) own = let bad : ⊥ = cc (sym is ∙ a.is_step) in absurd bad
    not_own k found (rested was at_k it other) own =
        wanted_not limits ok xs s o after m is_after (act.Offer offer) a (suc k) was at_k (λ same. other (subst (λ n. IsOf n s) (sym same) (subst (IsOf a.actor) (sym a.is_step) refl))) r c
        (subst (λ (x : Operation). Contains x.private r) (it ∙ mark_only (marks_in state s) was) own)
    not_own k found (went was is at_k g it) own =
        let step_is : step.Go (suc k) ≡ step.Go a.actor = sym is ∙ a.is_step in
        let place : suc k ≡ a.actor = cc step_is in
        let one : was ≡ a.operation = same_Some was a.operation (sym at_k ∙ ap (operation_of state) place ∙ a.runs) in
        let own_then : Contains (operation_after state was).private r = subst (λ (x : Operation). Contains x.private r) (it ∙ mark_only (marks_in state s) (operation_after state was)) own in
        none_in r (subst (λ x. Contains (private_after state a.operation.private x) r) a.acts (subst (λ (x : Operation). Contains (operation_after state x).private r) one own_then))
    not_own k found (gave was answer is at_k may it) own = let bad : ⊥ = cc (sym is ∙ a.is_step) in absurd bad

    offered_public : IsPublic r after
    offered_public = record {
      made = of_use r (wanted_used limits ok xs s o after m is_after (act.Offer offer) a r c);
      apart = λ k found at_k own. not_own k found (comes state s o after m k found at_k) own;
    }

  public_now : (by : Holder) (n : ℕ) (r : Ref) → by ≡ OfHandle n → Comes state held s (change_of state held s) by r → IsPublic r after
  public_now by n r same (stood has stays) = public_then limits ok xs r (h.public n r (subst (λ x. Has held x r) same has)) s o after m
  public_now by n r same (moved i f p told a commits own is had names) = let bad : ⊥ = cc (sym is ∙ same) in absurd bad
  public_now by n r same (frozen offer main k a out none opens is at had) =
      subst (λ x. IsPublic x after) (sym at) (public_then limits ok xs offer.root (h.public _ offer.root had) s o after m)
  public_now by n r same (made node action x a makes_it drawn is names raised) = let bad : ⊥ = cc (sym is ∙ same) in absurd bad
  public_now by n r same (published i q f a hit is at) = let bad : ⊥ = cc (sym is ∙ same) in absurd bad
  public_now by n r same (first offer a stands is at) = subst (λ x. IsPublic x after) (sym at) (offered_public offer a offer.successor (2, omega arith, refl))
  public_now by n r same (second offer k a stands opens at is) = offered_public offer a r (second_wanted offer r at)

  pub made_after : AreMade after later
  made_after = record {
    holders = λ by on has. holder_made by on (came state held by on s has);
    made = λ by on has. held_made by on (came state held by on s has);
    names = λ j k has. named (OfNode j) j k refl (came state held (OfNode j) k s has);
    public = λ n r has. public_now (OfHandle n) n r refl (came state held (OfHandle n) r s has);
  }
