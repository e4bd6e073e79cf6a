-- What was given up, or was made for an offer that was taken back, nobody has a claim on any more: those on it ended by that step, and none is added since nobody follows it.
use Rattle.std.proofs.Common.{◌≡◌, false, List, [], ◌∷◌, ◌++◌, Contains, refl, sym, subst, arith}
use Rattle.proof_claims.specs.Beneath.slot_arena.specs.declared.nodes.Node.{Node}
use Rattle.proof_claims.specs.Beneath.slot_arena.specs.declared.refs.Ref.{Ref}
use Rattle.proof_claims.specs.Beneath.slot_arena.specs.Heaps.{refs_of_node, refs_of_option}
use Rattle.proof_claims.specs.Beneath.machine_model.specs.declared.actions.Action.{Action}
use Rattle.proof_claims.specs.Beneath.machine_model.specs.declared.actions.Action.TheVariants as act
use Rattle.proof_claims.specs.Beneath.machine_model.specs.declared.copying.CopyLine.TheVariants as copy
use Rattle.proof_claims.specs.Beneath.machine_model.specs.declared.lines.Line.TheVariants as line
use Rattle.proof_claims.specs.Beneath.machine_model.specs.declared.roots.Complete.{Complete}
use Rattle.proof_claims.specs.Beneath.machine_model.specs.declared.roots.Descriptor.{Descriptor}
use Rattle.proof_claims.specs.Beneath.machine_model.specs.declared.steps.Bounds.{Bounds}
use Rattle.proof_claims.specs.Beneath.machine_model.specs.declared.steps.Outcome.{Outcome}
use Rattle.proof_claims.specs.Beneath.machine_model.specs.declared.steps.Step.{Step}
use Rattle.proof_claims.specs.Beneath.machine_model.specs.Calls.{handle_of}
use Rattle.proof_claims.specs.Beneath.machine_model.specs.Keys.{KeysFit}
use Rattle.proof_claims.specs.Beneath.machine_model.specs.Machine.{AreBounds, run}
use Rattle.proof_claims.specs.Beneath.machine_model.specs.Moves.{Moves}
use Rattle.proof_claims.specs.Beneath.machine_model.specs.States.{State, word_at}
use Rattle.proof_claims.specs.Beneath.machine_model.specs.Swapping.{is_carried_out}
use Rattle.proof_claims.specs.Beneath.machine_model.proofs.Fates.{place_of_actor}
use Rattle.proof_claims.specs.Beneath.proof_followed.specs.Followed.{IsFollowedByAny}
use Rattle.proof_claims.specs.Beneath.proof_garbage.specs.Live.{refs_of_claims}
use Rattle.proof_claims.specs.Beneath.proof_memory.specs.Laws.{IsInUse}
use Rattle.proof_claims.specs.Beneath.proof_memory.specs.Wants.{action_wants}
use Rattle.proof_claims.specs.Changes.{change_of, finds, given_up}
use Rattle.proof_claims.specs.Claims.{Has, held_of}
use Rattle.proof_claims.specs.Dropped.{IsLetGo}
use Rattle.proof_claims.specs.Held.{Change, Held, Holder, OfHandle, OfNode, Stays, held_after}
use Rattle.proof_claims.proofs.Acted as acted
use Rattle.proof_claims.proofs.Acted.{named_wanted}
use Rattle.proof_claims.proofs.Alive.{used_between}
use Rattle.proof_claims.proofs.ChangeKinds.{Acting, GivesUp, MakesNode, a_node, a_root}
use Rattle.proof_claims.proofs.ClaimsDiffer.{claims_fit}
use Rattle.proof_claims.proofs.HeldSince.{held_since}
use Rattle.proof_claims.proofs.HoldsNothing.{named_by_action}
use Rattle.proof_claims.proofs.LetGoThen as then
use Rattle.proof_claims.proofs.LiveLinks.{nobody_later}
use Rattle.proof_claims.proofs.Made.{second_wanted}
use Rattle.proof_claims.proofs.NewClaims.{Comes, came, first, frozen, made, moved, published, second, stood}
use Rattle.proof_claims.proofs.OnPrivates.{on_privates}
use Rattle.proof_claims.proofs.OnRoots.{none_on_roots}
use Rattle.proof_claims.proofs.RootClaims.{ends_not, sees_undone}
use Rattle.proof_claims.proofs.RootsInCourse.{given_none}

-- ---- the step that lets go of it

module _ (limits : Bounds) (ok : AreBounds limits) (xs : List Step) (s : Step) (j : Ref) (h : IsLetGo limits xs s j) (keys : KeysFit xs) where
  abbrev state : State
  state = run limits xs

  abbrev held : Held
  held = held_of limits xs

  abbrev change : Change
  change = change_of state held s

  staying : (by : Holder) → Has (held_of limits (xs ++ s ∷ [])) by j → Has held by j × (change.fate (record { by = by; on = j }) ≡ Stays by)
  staying by has = then.staying limits ok xs s j h by j has

  by_change : (c : Change) → change ≡ c → (by : Holder) → change.fate (record { by = by; on = j }) ≡ Stays by → c.fate (record { by = by; on = j }) ≡ Stays by
  by_change c is by e = subst (λ (z : Change). z.fate (record { by = by; on = j }) ≡ Stays by) is e

  pub given_up_none : (private : List Ref) → GivesUp (run limits xs) s private → Contains private j → change_of (run limits xs) (held_of limits xs) s ≡ given_up private → (by : Holder) →
      Has (held_of limits (xs ++ s ∷ [])) by j → ⊥
  given_up_none private up c is (OfHandle n) has =
      let it = then.owner state s private up in
      ((claims_fit limits ok xs keys).made.public n j (staying (OfHandle n) has).0).apart it.k it.operation it.runs (subst (λ ps. Contains ps j) (sym it.its) c)
  given_up_none private up c is (OfNode y) has =
      let it = then.owner state s private up in
      let (had, stays) = staying (OfNode y) has in
      given_none private y (subst (λ ps. Contains ps y) it.its (on_privates limits ok xs keys it.k it.operation it.runs y j (subst (λ ps. Contains ps j) (sym it.its) c) had)) j (OfNode y)
      (by_change (given_up private) is (OfNode y) stays)

  pub offered_none : (offer : Descriptor) (main : Ref) (c : Complete) (a : Acting (run limits xs) s (act.Complete offer main)) → a.operation.line ≡ line.Copy (copy.Complete c) →
      is_carried_out (word_at (run limits xs) (handle_of a.operation.call)) offer main ≡ false → a.operation.is_marked ≡ false → Contains (offer.successor ∷ refs_of_option offer.second) j →
      (by : Holder) → Has (held_of limits (xs ++ s ∷ [])) by j → ⊥
  offered_none offer main c a on not_out unmarked d (OfHandle n) has =
      ends_not (offer.successor ∷ refs_of_option offer.second) n j (OfHandle n) d
      (by_change (finds (handle_of a.operation.call) offer false)
      (sees_undone limits ok xs s (then.taken limits ok xs s j h).outcome (then.taken limits ok xs s j h).moves offer main a c on not_out unmarked) (OfHandle n) (staying (OfHandle n) has).1)
  offered_none offer main c a on not_out unmarked d (OfNode y) has =
      let (k, place, at_k) = place_of_actor state a.actor a.operation a.runs in
      let (x, its) = then.its_root limits ok xs s j h offer main c a on not_out unmarked d in
      none_on_roots limits ok xs keys k a.operation at_k unmarked x j its y (staying (OfNode y) has).0

-- ---- a step after it

module _ (limits : Bounds) (ok : AreBounds limits) (xs : List Step) (s : Step) (o : Outcome) (m : Moves (run limits xs) s o (run limits (xs ++ s ∷ []))) (j : Ref)
    (nobody : IsInUse (run limits xs).heap j → IsFollowedByAny (run limits xs) j → ⊥) (none : (by : Holder) → Has (held_of limits xs) by j → ⊥) where
  unmade : (node : Node) (action : Action) (a : Acting (run limits xs) s action) → MakesNode (run limits xs) node action → Contains (refs_of_node node) j → IsFollowedByAny (run limits xs) j
  unmade node action a a_node c = named_by_action limits ok xs s (act.Make node) a j (named_wanted node j c)
  unmade node action a (a_root main is) c = named_by_action limits ok xs s (act.MakeRoot main) a j (subst (λ n. Contains (refs_of_node n) j) is c)

  pub unclaimed_next : (by : Holder) → Has (held_after (change_of (run limits xs) (held_of limits xs) s) (held_of limits xs)) by j → ⊥
  unclaimed_next by has = from by (came (run limits xs) (held_of limits xs) by j s has)
    where
      wanted : (action : Action) (a : Acting (run limits xs) s action) → Contains (refs_of_claims (action_wants action)) j → IsInUse (run limits xs).heap j
      wanted action a c = acted.wanted_used limits ok xs s o _ m refl action a j c

      from : (by : Holder) → Comes (run limits xs) (held_of limits xs) s (change_of (run limits xs) (held_of limits xs) s) by j → ⊥
      from by (stood had stays) = none by had
      from by (moved i f p seen a v own at_f had names) = none (OfNode p) had
      from by (frozen offer main n a out_now none_second opens at_h at_root had) =
          none (OfHandle (handle_of a.operation.call)) (subst (Has (held_of limits xs) (OfHandle (handle_of a.operation.call))) (sym at_root) had)
      from by (made node action x a makes_it drawn at_x names raised) =
          nobody (acted.names_used limits ok xs s o _ m refl node action a makes_it x drawn j names) (unmade node action a makes_it names)
      from by (published i q f a hit at_i at_f) =
          nobody (wanted (act.Publish i q f) a (2, omega arith, sym at_f)) (named_by_action limits ok xs s (act.Publish i q f) a j (2, omega arith, sym at_f))
      from by (first offer a stands at_h at_root) =
          nobody (wanted (act.Offer offer) a (2, omega arith, sym at_root)) (named_by_action limits ok xs s (act.Offer offer) a j (2, omega arith, sym at_root))
      from by (second offer n a stands opens at_root at_h) =
          nobody (wanted (act.Offer offer) a (second_wanted offer j at_root)) (named_by_action limits ok xs s (act.Offer offer) a j (second_wanted offer j at_root))

-- ---- since then

module _ (limits : Bounds) (ok : AreBounds limits) (before : List Step) (s : Step) (j : Ref) (h : IsLetGo limits before s j) (nobody : IsFollowedByAny (run limits (before ++ s ∷ [])) j → ⊥)
    (none : (by : Holder) → Has (held_of limits (before ++ s ∷ [])) by j → ⊥) where
  abbrev through : List Step
  through = before ++ s ∷ []

  nobody_then : (since : List Step) → IsInUse (run limits (through ++ since)).heap j → IsFollowedByAny (run limits (through ++ since)) j → ⊥
  nobody_then since u followed = nobody_later limits ok through j (used_between limits ok before (s ∷ []) since j (then.used_then limits ok before s j h) u) nobody since u followed

  pub free_since : (since : List Step) (by : Holder) → Has (held_of limits ((before ++ s ∷ []) ++ since)) by j → ⊥
  free_since =
      held_since limits through (λ held. (by : Holder) → Has held by j → ⊥) (λ since t o m free. unclaimed_next limits ok (through ++ since) t o m j (nobody_then since) free) none
