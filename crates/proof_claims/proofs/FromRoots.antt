-- Where each reference is held in its place, what roots lead to is held by a handle or by a node to which roots lead.
use Rattle.std.proofs.Common.{◌≡◌, ◌⊎◌, inl, inr, ℕ, true, List, Contains, Some, refl, sym, ap, subst, ◌∙◌, arith}
use Rattle.std.proofs.lemmas.Bool.{true≢false}
use Rattle.std.proofs.lemmas.List.Elements.{Contains-append_cases, Contains-append_left, Contains-append_right}
use Rattle.proof_claims.specs.Beneath.slot_arena.specs.declared.nodes.Node.{Node}
use Rattle.proof_claims.specs.Beneath.slot_arena.specs.declared.nodes.Node.TheVariants.{Indirection, Branch, Single, Tomb, List as Listed}
use Rattle.proof_claims.specs.Beneath.slot_arena.specs.declared.nodes.Prev.{Prev}
use Rattle.proof_claims.specs.Beneath.slot_arena.specs.declared.nodes.Prev.TheVariants as prev
use Rattle.proof_claims.specs.Beneath.slot_arena.specs.declared.refs.Ref.{Ref}
use Rattle.proof_claims.specs.Beneath.slot_arena.specs.Heaps.{main_at, main_of, node_at, prev_at, refs_of_node, refs_of_prev, refs_of_slot, stored}
use Rattle.proof_claims.specs.Beneath.machine_model.specs.declared.lines.Line.TheVariants as line
use Rattle.proof_claims.specs.Beneath.machine_model.specs.declared.lines.Purpose.{Purpose}
use Rattle.proof_claims.specs.Beneath.machine_model.specs.declared.operations.Operation.{Operation}
use Rattle.proof_claims.specs.Beneath.machine_model.specs.declared.steps.Bounds.{Bounds}
use Rattle.proof_claims.specs.Beneath.machine_model.specs.declared.steps.Step.{Step}
use Rattle.proof_claims.specs.Beneath.machine_model.specs.Grown.{node_under}
use Rattle.proof_claims.specs.Beneath.machine_model.specs.Machine.{AreBounds, run}
use Rattle.proof_claims.specs.Beneath.machine_model.specs.States.{State, operation_of, root_of}
use Rattle.proof_claims.specs.Beneath.machine_model.specs.Swapping.{swapping}
use Rattle.proof_claims.specs.Beneath.machine_model.specs.Times.{IsRun, last_of, states_of}
use Rattle.proof_claims.specs.Beneath.machine_model.proofs.Grown.{node_grown, node_standing, prev_grown, prev_standing, standing_parts}
use Rattle.proof_claims.specs.Beneath.machine_model.proofs.Times.{run_ends, run_is}
use Rattle.proof_claims.specs.Beneath.proof_memory.specs.Laws.{IsInUse}
use Rattle.proof_claims.specs.Beneath.proof_memory.specs.Wants.{AMain, ASingle, AnEntry, AnIndirection, AllHold, is_indirection, meets, node_wants, prev_wants}
use Rattle.proof_claims.specs.Beneath.proof_memory.proofs.Claims.Uses.{all_of, first_hold, last_hold, meets_of, safe_of}
use Rattle.proof_claims.specs.Beneath.proof_memory.proofs.Safety.AtEachTime.{safe_along}
use Rattle.proof_claims.specs.Beneath.proof_memory.proofs.Safety.Standing.{in_any_slot}
use Rattle.proof_claims.specs.Beneath.proof_memory.proofs.Safety.States.{IsSafe}
use Rattle.proof_claims.specs.Beneath.proof_commits.specs.Protocol.{Protocol}
use Rattle.proof_claims.specs.Beneath.proof_commits.proofs.Known.Sounds.{sound_at}
use Rattle.proof_claims.specs.Beneath.proof_commits.proofs.Words.Stood.{IsOver}
use Rattle.proof_claims.specs.Beneath.proof_generations.proofs.Falling.KnownRoots.{protocol_of}
use Rattle.proof_claims.specs.Beneath.proof_garbage.proofs.Claims.{none_in, one_in}
use Rattle.proof_claims.specs.Beneath.proof_garbage.proofs.Fresh.{below_decided}
use Rattle.proof_claims.specs.Beneath.proof_garbage.proofs.GivenUp.{claim, slot_names_not}
use Rattle.proof_claims.specs.Beneath.proof_followed.specs.Followed.{IsFollowedByRoots, from_root, from_operation, from_slot}
use Rattle.proof_claims.specs.Beneath.proof_followed.proofs.InUse.{followed_used, root_followed}
use Rattle.proof_claims.specs.Beneath.proof_owned.proofs.Linked.{main_no_link, stood_is_main}
use Rattle.proof_claims.specs.Held.{Held, OfHandle, OfNode}
use Rattle.proof_claims.specs.Claims.{Has}
use Rattle.proof_claims.specs.Clauses.{EachIsHeld, TakesOver, fresh, over}
use Rattle.proof_claims.specs.Laws.{IsHeldFromRoots}

module _ (limits : Bounds) (steps : List Step) (ok : AreBounds limits) where
  abbrev state : State
  state = run limits steps

  safe : IsSafe state
  safe = safe_along limits ok steps

  abbrev states : ℕ → State
  states = states_of limits steps

  abbrev last : ℕ
  last = last_of limits steps

  abbrev is_run : IsRun limits states last
  is_run = run_is limits steps ok

  abbrev p : Protocol
  p = protocol_of is_run

  -- ---- slots

  over_of : (v : Prev) (r : Ref) → Contains (refs_of_prev v) r → IsOver v r
  over_of prev.None r c = none_in r c
  over_of (prev.Pending q) r c = one_in (λ x. q ≡ x) q refl r c
  over_of (prev.Failed q) r c = one_in (λ x. q ≡ x) q refl r c

  slot_cases : (q r : Ref) → IsInUse state.heap q → Contains (refs_of_slot (stored state.heap q)) r →
      Contains (refs_of_node (node_at state.heap q)) r ⊎ Contains (refs_of_prev (prev_at state.heap q)) r
  slot_cases q r (slot, e) c =
      let here = subst (λ o. Contains (refs_of_slot o) r) (standing_parts state.heap q slot e).0 c in
      elim (Contains-append_cases (refs_of_node slot.node) (refs_of_prev slot.prev) r here) [
        | inl a ↦ inl (subst (λ n. Contains (refs_of_node n) r) (sym (node_standing state.heap q slot e)) a)
        | inr b ↦ inr (subst (λ v. Contains (refs_of_prev v) r) (sym (prev_standing state.heap q slot e)) b)
      ]

  prev_in_slot : (q r : Ref) → IsInUse state.heap q → Contains (refs_of_prev (prev_at state.heap q)) r → Contains (refs_of_slot (stored state.heap q)) r
  prev_in_slot q r (slot, e) c =
      subst (λ o. Contains (refs_of_slot o) r) (sym (standing_parts state.heap q slot e).0)
      (Contains-append_right (refs_of_node slot.node) (refs_of_prev slot.prev) r (subst (λ v. Contains (refs_of_prev v) r) (prev_standing state.heap q slot e) c))

  pub node_claims : (q : Ref) → IsInUse state.heap q → AllHold (IsInUse state.heap) state.heap (node_wants (node_at state.heap q))
  node_claims q (slot, e) =
      subst (λ n. AllHold (IsInUse state.heap) state.heap (node_wants n)) (sym (node_standing state.heap q slot e))
      (first_hold (IsInUse state.heap) state.heap (node_wants slot.node) (prev_wants slot.prev) (safe.nodes q slot e).0)

  pub named_in_slot : (q r : Ref) → IsInUse state.heap q → Contains (refs_of_node (node_at state.heap q)) r → Contains (refs_of_slot (stored state.heap q)) r
  named_in_slot q r (slot, e) c =
      subst (λ o. Contains (refs_of_slot o) r) (sym (standing_parts state.heap q slot e).0)
      (Contains-append_left (refs_of_node slot.node) (refs_of_prev slot.prev) r (subst (λ n. Contains (refs_of_node n) r) (node_standing state.heap q slot e) c))

  -- what a node in use names or stands over is in use
  pub prev_used : (q r : Ref) → IsInUse state.heap q → Contains (refs_of_prev (prev_at state.heap q)) r → IsInUse state.heap r
  prev_used q r u c = in_any_slot state safe q r (prev_in_slot q r u c)

  pub stood_main : (q r : Ref) → IsInUse state.heap q → Contains (refs_of_prev (prev_at state.heap q)) r → meets AMain (node_at state.heap r) ≡ true
  stood_main q r (slot, e) c =
      by_prev slot.prev (last_hold (IsInUse state.heap) state.heap (node_wants slot.node) (prev_wants slot.prev) (safe.nodes q slot e).0)
      (subst (λ v. Contains (refs_of_prev v) r) (prev_standing state.heap q slot e) c)
    where
      by_prev : (v : Prev) → AllHold (IsInUse state.heap) state.heap (prev_wants v) → Contains (refs_of_prev v) r → meets AMain (node_at state.heap r) ≡ true
      by_prev prev.None h c = none_in r c
      by_prev (prev.Pending x) h c = one_in (λ y. meets AMain (node_at state.heap y) ≡ true) x (meets_of h.0) r c
      by_prev (prev.Failed x) h c = one_in (λ y. meets AMain (node_at state.heap y) ≡ true) x (meets_of h.0) r c

  pub main_in_use : (q : Ref) → IsInUse state.heap q → is_indirection (node_at state.heap q) ≡ true → IsInUse state.heap (main_at state.heap q)
  main_in_use q u link = by_node (node_at state.heap q) link (node_claims q u)
    where
      by_node : (n : Node) → is_indirection n ≡ true → AllHold (IsInUse state.heap) state.heap (node_wants n) → IsInUse state.heap (main_of n)
      by_node (Indirection generation main) e h = safe_of h.0
      by_node (Branch bitmap entries) e h = absurd (true≢false (sym e))
      by_node (Single key value) e h = absurd (true≢false (sym e))
      by_node (Tomb single) e h = absurd (true≢false (sym e))
      by_node (Listed singles) e h = absurd (true≢false (sym e))

  -- ---- who stands over another node

  used : (r : Ref) → IsFollowedByRoots state r → IsInUse state.heap r
  used r k = followed_used state safe (λ id. ⊥) k

  pub is_decided : (q r : Ref) → IsInUse state.heap q → IsInUse state.heap r → Contains (refs_of_prev (prev_at state.heap q)) r → prev_at state.heap r ≡ prev.None
  is_decided q r u below c = below_decided limits steps ok q r u (over_of (prev_at state.heap q) r c) below

  pub is_main : (q r : Ref) → IsInUse state.heap q → Contains (refs_of_prev (prev_at state.heap q)) r → meets AMain (node_at state.heap q) ≡ true
  is_main q r u c =
      let then : IsInUse (states last).heap q = subst (λ (s : State). IsInUse s.heap q) (sym (run_ends limits steps)) u in
      let prev_is : p.words.prev last q ≡ prev_at state.heap q = sym (prev_grown states last q then.0 then.1) ∙ ap (λ (s : State). prev_at s.heap q) (run_ends limits steps) in
      let over = subst (λ v. IsOver v r) (sym prev_is) (over_of (prev_at state.heap q) r c) in
      let below = (sound_at p last (omega arith)).words.over q r over in
      let node_is : node_at state.heap q ≡ node_under states last q = ap (λ (s : State). node_at s.heap q) (sym (run_ends limits steps)) ∙ node_grown states last q then.0 then.1 in
      ap (meets AMain) node_is ∙ stood_is_main is_run last (omega arith) below.link q below.stood

  entry_is_no_main : (node : Node) → meets AnEntry node ≡ true → meets AMain node ≡ true → ⊥
  entry_is_no_main (Indirection generation main) e m = true≢false (sym m)
  entry_is_no_main (Branch bitmap entries) e m = true≢false (sym e)
  entry_is_no_main (Single key value) e m = true≢false (sym m)
  entry_is_no_main (Tomb single) e m = true≢false (sym e)
  entry_is_no_main (Listed singles) e m = true≢false (sym e)

  single_is_no_main : (node : Node) → meets ASingle node ≡ true → meets AMain node ≡ true → ⊥
  single_is_no_main (Indirection generation main) e m = true≢false (sym m)
  single_is_no_main (Branch bitmap entries) e m = true≢false (sym e)
  single_is_no_main (Single key value) e m = true≢false (sym m)
  single_is_no_main (Tomb single) e m = true≢false (sym e)
  single_is_no_main (Listed singles) e m = true≢false (sym e)

  -- a main node stands in an indirection
  pub named_by_link : (n : Node) (q : Ref) → AllHold (IsInUse state.heap) state.heap (node_wants n) → Contains (refs_of_node n) q → meets AMain (node_at state.heap q) ≡ true →
      (is_indirection n ≡ true) × (main_of n ≡ q)
  named_by_link (Indirection generation main) q h c is = (refl, one_in (λ x. main ≡ x) main refl q c)
  named_by_link (Branch bitmap entries) q h (k, within, at_k) is =
      absurd (entry_is_no_main (node_at state.heap q) (subst (λ x. meets AnEntry (node_at state.heap x) ≡ true) at_k (all_of h.0 k q within).1) is)
  named_by_link (Single key value) q h c is = none_in q c
  named_by_link (Tomb single) q h c is =
      absurd (single_is_no_main (node_at state.heap q) (subst (λ x. meets ASingle (node_at state.heap x) ≡ true) (one_in (λ x. single ≡ x) single refl q c) (meets_of h.0)) is)
  named_by_link (Listed singles) q h (k, within, at_k) is =
      absurd (single_is_no_main (node_at state.heap q) (subst (λ x. meets ASingle (node_at state.heap x) ≡ true) at_k (all_of h.0 k q within).1) is)

  -- what is to be swapped in yet no root leads to
  fresh_is_unknown : (actor : ℕ) (operation : Operation) (why : Purpose) (i a f : Ref) → operation_of state actor ≡ Some operation → operation.line ≡ line.Swap why (swapping i a f) →
      IsFollowedByRoots state f → ⊥
  fresh_is_unknown actor operation why i a f runs on (from_root handle root r e is) =
      let link = subst (λ x. meets AnIndirection (node_at state.heap x) ≡ true) is (meets_of (root_followed state safe (λ id. ⊥) handle root e)) in
      main_no_link (node_at state.heap f) (claim limits steps ok actor operation runs i a f why on).1 link
  fresh_is_unknown actor operation why i a f runs on (from_operation n o r e never c) = never
  fresh_is_unknown actor operation why i a f runs on (from_slot q r k c) = slot_names_not limits steps ok actor operation runs i a f why on q c

  -- what a main node stands over takes nothing over
  pub takes_nothing : (held : Held) (q r k : Ref) → IsInUse state.heap q → IsInUse state.heap r → Contains (refs_of_prev (prev_at state.heap q)) r → TakesOver state held r k → ⊥
  takes_nothing held q r k u below c (fresh actor operation why i a runs on own names) =
      slot_names_not limits steps ok actor operation runs i a r why on q (prev_in_slot q r u c)
  takes_nothing held q r k u below c (over x is names all) = none_in x (subst (λ v. Contains (refs_of_prev v) x) (is_decided q r u below c) is)

  -- ---- what roots lead to

  module _ (held : Held) (Gone : Ref → Type 0) (h : EachIsHeld state held Gone) (gone : (j : Ref) → Gone j → IsFollowedByRoots state j → ⊥) where
    by_node : (j k : Ref) → IsFollowedByRoots state j → Has held (OfNode j) k → IsHeldFromRoots state held k
    by_node j k f has = (record { by = OfNode j; on = k }, has, refl, f)

    taken : (j k : Ref) → IsFollowedByRoots state j → TakesOver state held j k → IsHeldFromRoots state held k
    taken j k f (fresh actor operation why i a runs on own names) = absurd (fresh_is_unknown actor operation why i a j runs on f)
    taken j k f (over x is names all) =
        let below = from_slot j x f (prev_in_slot j x (used j f) is) in
        elim (h.nodes x k (used x below) names) [
          | inl has ↦ by_node x k below has
          | inr other ↦ elim other [ inl is_gone ↦ absurd (gone x is_gone below) | inr takes ↦ absurd (takes_nothing held j x k (used j f) (used x below) is takes) ]
        ]

    named : (j k : Ref) → IsFollowedByRoots state j → Contains (refs_of_node (node_at state.heap j)) k → IsHeldFromRoots state held k
    named j k f c = elim (h.nodes j k (used j f) c) [
      | inl has ↦ by_node j k f has
      | inr other ↦ elim other [ inl is_gone ↦ absurd (gone j is_gone f) | inr takes ↦ taken j k f takes ]
    ]

    over_at_link : (x q r : Ref) → IsFollowedByRoots state x → Contains (refs_of_node (node_at state.heap x)) q → IsInUse state.heap q → Contains (refs_of_prev (prev_at state.heap q)) r →
        IsHeldFromRoots state held r
    over_at_link x q r f names u c =
        let (link, stands) = named_by_link (node_at state.heap x) q (node_claims x (used x f)) names (is_main q r u c) in
        elim (h.before x r (used x f, link) (subst (λ m. Contains (refs_of_prev (prev_at state.heap m)) r) (sym stands) c)) [
          | inl has ↦ by_node x r f has
          | inr is_gone ↦ absurd (gone x is_gone f)
        ]

    stood_over : (q r : Ref) → IsFollowedByRoots state q → Contains (refs_of_prev (prev_at state.heap q)) r → IsHeldFromRoots state held r
    stood_over q r (from_root handle root x e is) c =
        let link = subst (λ y. meets AnIndirection (node_at state.heap y) ≡ true) is (meets_of (root_followed state safe (λ id. ⊥) handle root e)) in
        absurd (main_no_link (node_at state.heap q) (is_main q r (used q (from_root handle root x e is)) c) link)
    stood_over q r (from_operation n o x e never d) c = absurd never
    stood_over q r (from_slot x y k names) c =
        let here = used q (from_slot x y k names) in
        elim (slot_cases x q (used x k) names) [
          | inl in_node ↦ over_at_link x q r k in_node here c
          | inr in_prev ↦ none_in r (subst (λ v. Contains (refs_of_prev v) r) (is_decided x q (used x k) here in_prev) c)
        ]

    pub held_from_roots : (k : Ref) → IsFollowedByRoots state k → IsHeldFromRoots state held k
    held_from_roots k (from_root handle root r e is) =
        subst (IsHeldFromRoots state held) is (record { by = OfHandle handle; on = root_of root.word }, h.roots handle root e, refl, (root, e))
    held_from_roots k (from_operation n o r e never c) = absurd never
    held_from_roots k (from_slot q r f names) = elim (slot_cases q k (used q f) names) [
      | inl in_node ↦ named q k f in_node
      | inr in_prev ↦ stood_over q k f in_prev
    ]
