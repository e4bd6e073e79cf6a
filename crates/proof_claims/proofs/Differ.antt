-- No claim stands twice after a step.
use Rattle.std.proofs.Common.{◌≡◌, ◌⊎◌, inl, inr, ℕ, suc, ◌&&◌, Bool, true, false, List, [], ◌∷◌, ◌++◌, Contains, Option, Some, None, cond, flat_map, arith, refl, sym, ap, subst, ◌∙◌}
use Rattle.std.proofs.lemmas.Bool.{true≢false}
use Rattle.std.proofs.lemmas.Option.{none-some, same_Some}
use Rattle.proof_claims.specs.Beneath.slot_arena.specs.declared.nodes.Node.{Node}
use Rattle.proof_claims.specs.Beneath.slot_arena.specs.declared.nodes.Prev.TheVariants as prev
use Rattle.proof_claims.specs.Beneath.slot_arena.specs.declared.refs.Ref.{Ref}
use Rattle.proof_claims.specs.Beneath.slot_arena.specs.Heaps.{generation_at, next_ref, node_at, prev_at, refs_of_node}
use Rattle.proof_claims.specs.Beneath.machine_model.specs.declared.actions.Action.{Action}
use Rattle.proof_claims.specs.Beneath.machine_model.specs.declared.actions.Action.TheVariants as act
use Rattle.proof_claims.specs.Beneath.machine_model.specs.declared.copying.CopyLine.TheVariants as copy
use Rattle.proof_claims.specs.Beneath.machine_model.specs.declared.lines.Line.TheVariants as line
use Rattle.proof_claims.specs.Beneath.machine_model.specs.declared.operations.Operation.{Operation}
use Rattle.proof_claims.specs.Beneath.machine_model.specs.declared.roots.Descriptor.{Descriptor}
use Rattle.proof_claims.specs.Beneath.machine_model.specs.declared.roots.Root.{Root}
use Rattle.proof_claims.specs.Beneath.machine_model.specs.declared.steps.Bounds.{Bounds}
use Rattle.proof_claims.specs.Beneath.machine_model.specs.declared.steps.Outcome.{Outcome}
use Rattle.proof_claims.specs.Beneath.machine_model.specs.declared.steps.Step.{Step}
use Rattle.proof_claims.specs.Beneath.machine_model.specs.Calls.{handle_of}
use Rattle.proof_claims.specs.Beneath.machine_model.specs.Keys.{KeysFit}
use Rattle.proof_claims.specs.Beneath.machine_model.specs.Machine.{AreBounds, run}
use Rattle.proof_claims.specs.Beneath.machine_model.specs.Moves.{Moves}
use Rattle.proof_claims.specs.Beneath.machine_model.specs.Reading.{Commits, verdict}
use Rattle.proof_claims.specs.Beneath.machine_model.specs.States.{Runs, State, operation_of, root_at, root_of, word_at}
use Rattle.proof_claims.specs.Beneath.machine_model.specs.Swapping.{is_carried_out, swapping}
use Rattle.proof_claims.specs.Beneath.machine_model.specs.Times.{last_of}
use Rattle.proof_claims.specs.Beneath.machine_model.proofs.Fates.{place_of_actor}
use Rattle.proof_claims.specs.Beneath.machine_model.proofs.Times.{run_ends, run_is}
use Rattle.proof_claims.specs.Beneath.proof_fresh.proofs.Publishing.{publishing}
use Rattle.proof_claims.specs.Beneath.proof_generations.proofs.Lines.Copy.{LineFits}
use Rattle.proof_claims.specs.Beneath.proof_generations.proofs.Offers.Marks.{is_done}
use Rattle.proof_claims.specs.Beneath.proof_generations.proofs.Roots.Along.{ordered_along}
use Rattle.proof_claims.specs.Beneath.proof_generations.proofs.Roots.Kept.{fresh_in, fresh_of}
use Rattle.proof_claims.specs.Beneath.proof_generations.proofs.Roots.Own.{IsToOffer, its_fresh}
use Rattle.proof_claims.specs.Beneath.proof_generations.proofs.Offers.Standing.{offer_line, own_numbers, own_offer}
use Rattle.proof_claims.specs.Beneath.proof_generations.proofs.Roots.OfLists.{has_handles_along}
use Rattle.proof_claims.specs.Beneath.proof_generations.proofs.Roots.Open.{no_close_at}
use Rattle.proof_claims.specs.Beneath.proof_memory.proofs.Claims.Uses.{meets_of, safe_of}
use Rattle.proof_claims.specs.Beneath.proof_memory.specs.Laws.{is_end}
use Rattle.proof_claims.specs.Changes.{change_of, claim_of_node, decides, fate_taken_over, freezes, goal_of, makes, no_change, offers, over_at, publishes, second_claims}
use Rattle.proof_claims.specs.Claims.{Has, held_of}
use Rattle.proof_claims.specs.Different.{AreDifferent}
use Rattle.proof_claims.specs.Held.{Change, Claim, Ends, Fate, Given, Held, Holder, OfHandle, OfNode, Stays, claims_after, held_after, is_by_handle, is_by_nodes, is_in, is_owned, kept_by}
use Rattle.proof_claims.proofs.Acted as acted
use Rattle.proof_claims.proofs.ChangeKinds.{Acting, Kind, MakesNode, changes_none, closes, commits, freezes_it, gives, kind, looks, makes_one, offers_it, sees, swaps_in}
use Rattle.proof_claims.proofs.Differing.{different_append, different_flat, from_flat, in_cons, nothing_in}
use Rattle.proof_claims.proofs.FreshClaims.{SwapsFit, stands_over}
use Rattle.proof_claims.proofs.InSwap.{main_plain}
use Rattle.proof_claims.proofs.Made.{AreMade}
use Rattle.proof_claims.proofs.Marked.{swapped_at}
use Rattle.proof_claims.proofs.OldRoot.{no_fresh}
use Rattle.proof_claims.proofs.NamesOnce.{names_once, one_alone}
use Rattle.proof_claims.proofs.NewClaims.{IsPlain, Unmoving, by_its_handle, by_one, checks_plain, finds_plain, given_up_plain, kept_is, no_change_plain, root_go_plain, same_unmoving}
use Rattle.proof_claims.proofs.OverStep.{carried_word, opens_not}
use Rattle.proof_claims.proofs.PendingOwner.{pending_owner}
use Rattle.proof_claims.proofs.PrevMoves.{was_pending}
use Rattle.proof_claims.proofs.RootClaims.{HandlesHold, HoldsRoot, its_offer, its_root, left_over, to_open}

-- ---- kept claims

kept_different : (f : Fate) (r : Ref) → AreDifferent (kept_by f r)
kept_different (Stays by) r = one_alone (record { by = by; on = r })
kept_different Given r = tt
kept_different Ends r = tt

one_claim : (c d : Claim) → c.by ≡ d.by → c.on ≡ d.on → c ≡ d
one_claim c d by on = ap (λ b. record { by = b; on = c.on }) by ∙ ap (λ r. record { by = d.by; on = r }) on

module _ (change : Change) (claims : List Claim) (differ : AreDifferent claims) where
  abbrev kept : Claim → List Claim
  kept c = kept_by (change.fate c) c.on

  -- where different ones stay different, and what is added is none of them
  pub differ_after : ((c d : Claim) (h : Holder) → Contains claims c → Contains claims d → c.on ≡ d.on → change.fate c ≡ Stays h → change.fate d ≡ Stays h → c.by ≡ d.by) → AreDifferent change.added →
      ((c : Claim) (h : Holder) → Contains claims c → change.fate c ≡ Stays h → Contains change.added (record { by = h; on = c.on }) → ⊥) → AreDifferent (claims_after change claims)
  differ_after one added apart =
      different_append (flat_map kept claims) change.added
      (different_flat kept (λ c. kept_different (change.fate c) c.on) claims differ (λ c d z in_c in_d p q.
      let (stays_c, on_c) = kept_is (change.fate c) c.on z.by z.on p in
      let (stays_d, on_d) = kept_is (change.fate d) d.on z.by z.on q in
      one_claim c d (one c d z.by in_c in_d (on_c ∙ sym on_d) stays_c stays_d) (on_c ∙ sym on_d))) added
      (λ z p q.
      let (c, stands, part) = from_flat kept claims z p in
      let (stays, on) = kept_is (change.fate c) c.on z.by z.on part in
      apart c z.by stands stays (subst (λ r. Contains change.added (record { by = z.by; on = r })) (sym on) q))

  unmoving_one : Unmoving change.fate → (c d : Claim) (h : Holder) → Contains claims c → Contains claims d → c.on ≡ d.on → change.fate c ≡ Stays h → change.fate d ≡ Stays h → c.by ≡ d.by
  unmoving_one fixed c d h in_c in_d on stays_c stays_d = sym (fixed c h stays_c) ∙ fixed d h stays_d

  pub differ_plain : IsPlain change → AreDifferent (claims_after change claims)
  differ_plain p =
      differ_after (unmoving_one p.unmoving) (subst (λ l. AreDifferent l) (sym p.nothing) tt)
      (λ c h stands stays added. nothing_in _ (subst (λ l. Contains l (record { by = h; on = c.on })) p.nothing added))

  -- what is added has no claim like it before
  pub differ_added : Unmoving change.fate → AreDifferent change.added → ((c : Claim) → Contains claims c → Contains change.added c → ⊥) → AreDifferent (claims_after change claims)
  differ_added fixed added apart =
      differ_after (unmoving_one fixed) added (λ c h stands stays new. apart c stands (subst (λ b. Contains change.added (record { by = b; on = c.on })) (fixed c h stays) new))

-- ---- a step

module _ (limits : Bounds) (ok : AreBounds limits) (xs : List Step) (s : Step) (fit : KeysFit (xs ++ s ∷ [])) (o : Outcome) (m : Moves (run limits xs) s o (run limits (xs ++ s ∷ [])))
    (h : AreMade (run limits xs) (held_of limits xs)) (fits : SwapsFit (run limits xs) (held_of limits xs)) (hold : HandlesHold (run limits xs) (held_of limits xs))
    (differ : AreDifferent (held_of limits xs).claims) where
  abbrev state : State
  state = run limits xs

  abbrev after : State
  after = run limits (xs ++ s ∷ [])

  abbrev held : Held
  held = held_of limits xs

  abbrev Differ : Change → Type 0
  Differ change = AreDifferent (claims_after change held.claims)

  -- ---- a node that is made

  module _ (node : Node) (action : Action) (x : Ref) (a : Acting state s action) (makes_it : MakesNode state node action) (drawn : next_ref state.heap ≡ Some x) where
    abbrev over : List Ref
    over = over_at state held (goal_of a.operation.line)

    its_names : AreDifferent (refs_of_node node)
    its_names =
        subst (λ n. AreDifferent (refs_of_node n)) (acted.made_node limits ok xs s o after m refl node action a makes_it x drawn)
        (names_once limits ok (xs ++ s ∷ []) fit x (_, acted.made_stands limits ok xs s o after m refl node action a makes_it x drawn))

    claim_is : (k : Ref) (b : Bool) (c : Claim) → Contains (cond b [] (record { by = OfNode x; on = k } ∷ [])) c → (c.by ≡ OfNode x) × (c.on ≡ k)
    claim_is k true c e = nothing_in c e
    claim_is k false c e = elim (in_cons (record { by = OfNode x; on = k }) [] c e) [
      | inl same ↦ (ap (λ (z : Claim). z.by) (sym same), ap (λ (z : Claim). z.on) (sym same))
      | inr empty ↦ nothing_in c empty
    ]

    abbrev its_claim : Ref → Claim
    its_claim k = record { by = OfNode x; on = k }

    alone : (k : Ref) → AreDifferent (claim_of_node over x k)
    alone k = by (is_in over k)
      where
        by : (b : Bool) → AreDifferent (cond b [] (its_claim k ∷ []))
        by true = tt
        by false = one_alone (its_claim k)

    makes_differ : Differ (makes state held a.operation (refs_of_node node) (Some x))
    makes_differ =
        differ_added (makes state held a.operation (refs_of_node node) (Some x)) held.claims differ same_unmoving
        (different_flat (claim_of_node over x) alone (refs_of_node node) its_names
        (λ k q c in_k in_q p e. sym (claim_is k (is_in over k) c p).1 ∙ (claim_is q (is_in over q) c e).1))
        (λ c stands added.
        let (k, in_k, part) = from_flat (claim_of_node over x) (refs_of_node node) c added in
        acted.made_new limits ok xs s o after m refl node action a makes_it x drawn (h.holders (OfNode x) c.on (subst (λ b. Has held b c.on) (claim_is k (is_in over k) c part).0 stands)))

  -- ---- a node that is swapped in

  swaps_differ : (i q f : Ref) (a : Acting state s (act.Publish i q f)) → Differ (publishes true a.operation.private i f)
  swaps_differ i q f a =
      differ_added (publishes true a.operation.private i f) held.claims differ same_unmoving (one_alone (record { by = OfNode i; on = f }))
      (λ c stands added. elim (in_cons (record { by = OfNode i; on = f }) [] c added) [
        | inl same ↦
            let (why, on) = publishing state a.operation i q f a.acts in
            let (k, place, at_k) = place_of_actor state a.actor a.operation a.runs in
            (fits k a.operation why (swapping i q f) at_k on).unclaimed refl (OfNode i) (subst (λ z. Contains held.claims z) (sym same) stands)
        | inr empty ↦ nothing_in c empty
      ])

  -- ---- a commit

  module _ (i f p : Ref) (told : Option ℕ) (a : Acting state s (act.Decide i f p told)) (commits_it : verdict state.heap i f p told ≡ Commits) (own : is_owned held i p ≡ true) where
    abbrev names : List Ref
    names = refs_of_node (node_at state.heap f)

    pends : prev_at state.heap f ≡ prev.Pending p
    pends = was_pending limits ok xs s o after m refl i f p told a commits_it

    -- nothing is held by both
    not_both : (r : Ref) → Has held (OfNode p) r → Has held (OfNode f) r → ⊥
    not_both r by_p by_f =
        let claims = acted.wants limits ok xs s o after m refl (act.Decide i f p told) a in
        let owner = pending_owner limits ok xs a.actor a.operation i f p told a.runs a.acts (safe_of claims.1.0) pends in
        let named = h.names p r by_p (safe_of claims.1.1.0) (main_plain (node_at state.heap p) (meets_of claims.1.1.0)) in
        (fits owner.k owner.operation owner.why _ owner.runs owner.swaps).apart
        (stands_over (λ none. let wrong : prev.None ≡ prev.Pending p = sym none ∙ pends in let bad : ⊥ = cc wrong in bad)) r by_f own
        named

    -- a claim goes over from the replaced one, or stays where it is
    goes_where : (c : Claim) (to : Holder) (b d : Bool) → is_by_nodes (p ∷ []) c.by ≡ b → cond (b && d) (Stays (OfNode f)) (Stays c.by) ≡ Stays to →
        ((c.by ≡ OfNode p) × (to ≡ OfNode f)) ⊎ (to ≡ c.by)
    goes_where c to true true is_by e = let same : OfNode f ≡ to = cc e in inl (by_one p c.by is_by, sym same)
    goes_where c to true false is_by e = let same : c.by ≡ to = cc e in inr (sym same)
    goes_where c to false d is_by e = let same : c.by ≡ to = cc e in inr (sym same)

    commits_differ : Differ (decides true Commits names f p)
    commits_differ = differ_after (decides true Commits names f p) held.claims differ one tt (λ c to stands stays added. nothing_in _ added)
      where
        one : (c d : Claim) (to : Holder) → Contains held.claims c → Contains held.claims d → c.on ≡ d.on → fate_taken_over p names f c ≡ Stays to → fate_taken_over p names f d ≡ Stays to →
            c.by ≡ d.by
        one c d to in_c in_d on stays_c stays_d = by (goes_where c to _ _ refl stays_c) (goes_where d to _ _ refl stays_d)
          where
            by : ((c.by ≡ OfNode p) × (to ≡ OfNode f)) ⊎ (to ≡ c.by) → ((d.by ≡ OfNode p) × (to ≡ OfNode f)) ⊎ (to ≡ d.by) → c.by ≡ d.by
            by (inl x) (inl y) = x.0 ∙ sym y.0
            by (inr x) (inr y) = sym x ∙ y
            by (inl x) (inr y) =
                absurd (not_both c.on (subst (λ z. Has held z c.on) x.0 in_c) (subst (λ z. Has held z c.on) (sym y ∙ x.1) (subst (λ r. Has held d.by r) (sym on) in_d)))
            by (inr x) (inl y) =
                absurd (not_both c.on (subst (λ z. Has held z c.on) y.0 (subst (λ r. Has held d.by r) (sym on) in_d)) (subst (λ z. Has held z c.on) (sym x ∙ y.1) in_c))

  -- ---- handles

  -- who completes its offer runs on an open handle
  completer_open : (k : ℕ) (operation : Operation) → Runs state k operation → is_end operation.line ≡ false → (root : Root) × (root_at state (handle_of operation.call) ≡ Some root)
  completer_open k operation runs going =
      let no_close = no_close_at (run_is limits xs ok) (last_of limits xs) (omega arith) k operation (subst (λ (z : State). Runs z k operation) (sym (run_ends limits xs)) runs) going in
      let (root, found, access) = (has_handles_along limits xs).1.on_open k operation runs no_close in
      (root, found)

  own_going : (l : _) (offer : Descriptor) → own_offer l ≡ Some offer → is_end l ≡ false
  own_going (line.Copy (copy.Complete c)) offer e = refl
  own_going l offer e = absurd (none-some offer e)

  module _ (offer : Descriptor) (main : Ref) (n : ℕ) (a : Acting state s (act.Complete offer main)) (out : is_carried_out (word_at state (handle_of a.operation.call)) offer main ≡ true)
      (none : offer.second ≡ None) (opens : offer.opens ≡ Some n) where
    abbrev at : ℕ
    at = handle_of a.operation.call

    not_open : (root : Root) → root_at state n ≡ Some root → ⊥
    not_open root e = opens_not limits ok xs s offer main n root a out opens e

    on_none : (k : ℕ) (operation : Operation) (other : Descriptor) → Runs state k operation → own_offer operation.line ≡ Some other → handle_of operation.call ≡ n → ⊥
    on_none k operation other runs own on_h =
        let (root, found) = completer_open k operation runs (own_going operation.line other own) in not_open root (ap (root_at state) (sym on_h) ∙ found)

    not_held : (r : Ref) → HoldsRoot state n r → ⊥
    not_held r (its_root root found is) = not_open root found
    not_held r (its_offer k operation other runs own unmarked on_h is) = on_none k operation other runs own on_h
    not_held r (left_over k operation other runs own marked on_h is free) = on_none k operation other runs own on_h
    not_held r (to_open k operation other runs own unmarked other_opens second') =
        let owner = (has_handles_along limits xs).0.offers at offer (carried_word limits ok xs s offer main a out) in
        let its = own_numbers owner.owner offer ((has_handles_along limits xs).0.own owner.k owner.owner owner.runs) owner.completes in
        let theirs = own_numbers operation other ((has_handles_along limits xs).0.own k operation runs) own in
        let place = (has_handles_along limits xs).1.reserved k owner.k n operation owner.owner runs owner.runs unmarked owner.unmarked (sym theirs.number ∙ other_opens) (sym its.number ∙ opens) in
        let one : operation ≡ owner.owner = same_Some operation owner.owner (sym runs ∙ ap (λ j. operation_of state (suc j)) place ∙ owner.runs) in
        let same : other ≡ offer = same_Some other offer (sym own ∙ ap (λ (x : Operation). own_offer x.line) one ∙ owner.completes) in
        none-some r (sym none ∙ ap (λ (d : Descriptor). d.second) (sym same) ∙ second')

    goes_over : (c : Claim) (to : Holder) (b d : Bool) → is_by_handle at c.by ≡ b → cond (b && d) (Stays (OfHandle n)) (Stays c.by) ≡ Stays to →
        ((c.by ≡ OfHandle at) × (to ≡ OfHandle n)) ⊎ (to ≡ c.by)
    goes_over c to true true is_by e = let same : OfHandle n ≡ to = cc e in inl (by_its_handle at c.by is_by, sym same)
    goes_over c to true false is_by e = let same : c.by ≡ to = cc e in inr (sym same)
    goes_over c to false d is_by e = let same : c.by ≡ to = cc e in inr (sym same)

    freezes_differ : Differ (freezes at offer None (Some n) no_change)
    freezes_differ = differ_after (freezes at offer None (Some n) no_change) held.claims differ one tt (λ c to stands stays added. nothing_in _ added)
      where
        unheld : (c : Claim) → Contains held.claims c → c.by ≡ OfHandle n → ⊥
        unheld c stands is = not_held c.on (hold n c.on (subst (λ z. Has held z c.on) is stands))

        one : (c d : Claim) (to : Holder) → Contains held.claims c → Contains held.claims d → c.on ≡ d.on → (freezes at offer None (Some n) no_change).fate c ≡ Stays to →
            (freezes at offer None (Some n) no_change).fate d ≡ Stays to → c.by ≡ d.by
        one c d to in_c in_d on stays_c stays_d = by (goes_over c to _ _ refl stays_c) (goes_over d to _ _ refl stays_d)
          where
            by : ((c.by ≡ OfHandle at) × (to ≡ OfHandle n)) ⊎ (to ≡ c.by) → ((d.by ≡ OfHandle at) × (to ≡ OfHandle n)) ⊎ (to ≡ d.by) → c.by ≡ d.by
            by (inl x) (inl y) = x.0 ∙ sym y.0
            by (inr x) (inr y) = sym x ∙ y
            by (inl x) (inr y) = absurd (unheld d in_d (sym y ∙ x.1))
            by (inr x) (inl y) = absurd (unheld c in_c (sym x ∙ y.1))

  -- ---- an offer that comes to stand

  module _ (offer : Descriptor) (a : Acting state s (act.Offer offer)) (k : ℕ) (runs : Runs state k a.operation) where
    on : a.operation.line ≡ line.Copy (copy.Offer offer)
    on = offer_line state a.operation a.operation.line offer a.acts

    unmarked : a.operation.is_marked ≡ false
    unmarked = by a.operation.is_marked refl
      where
        by : (b : Bool) → a.operation.is_marked ≡ b → a.operation.is_marked ≡ false
        by false e = e
        by true e = absurd (true≢false (sym ((has_handles_along limits xs).1.done k a.operation runs e) ∙ ap is_done on))

    -- no handle has a claim on what is offered
    unheld_root : (x : Bool) (q : Ref) → fresh_of x offer ≡ Some q → (n : ℕ) → HoldsRoot state n q → ⊥
    unheld_root x q is n holds = by holds
      where
        its_fresh_root : fresh_in x a.operation.line ≡ Some q
        its_fresh_root = ap (fresh_in x) on ∙ is

        mine : IsToOffer state k x q
        mine = record { operation = a.operation; runs = runs; unmarked = unmarked; its = its_fresh_root }

        other_not : (y : Bool) (j : ℕ) (operation : Operation) (other : Descriptor) → Runs state j operation → own_offer operation.line ≡ Some other → operation.is_marked ≡ false →
            fresh_of y other ≡ Some q → ⊥
        other_not y j operation other runs_j own free is_q =
            let theirs : IsToOffer state j y q = record { operation = operation; runs = runs_j; unmarked = free; its = its_fresh operation.line other y q own is_q } in
            let place = ((ordered_along limits ok xs).roots.fresh_apart k j x y q q mine theirs refl).0 in
            let one : operation ≡ a.operation = same_Some operation a.operation (sym runs_j ∙ ap (λ i. operation_of state (suc i)) (sym place) ∙ runs) in
            none-some other (sym (ap own_offer on) ∙ ap (λ (z : Operation). own_offer z.line) (sym one) ∙ own)

        by : HoldsRoot state n q → ⊥
        by (its_root root found same) =
            ((ordered_along limits ok xs).roots.fresh k a.operation x q runs unmarked its_fresh_root).alone n root found (ap (generation_at state.heap) same)
        by (its_offer j operation other runs_j own free on_h same) = other_not true j operation other runs_j own free (ap Some same)
        by (to_open j operation other runs_j own free opens second') = other_not false j operation other runs_j own free second'
        by (left_over j operation other runs_j own marked on_h same free) =
            no_fresh (run_is limits xs ok) other
            (swapped_at (run_is limits xs ok) (last_of limits xs) (omega arith) j operation other
            (subst (λ (z : State). Runs z j operation) (sym (run_ends limits xs)) runs_j) marked own) k a.operation x q
            (subst (λ (z : State). Runs z k a.operation) (sym (run_ends limits xs)) runs) unmarked its_fresh_root (sym same)

    abbrev its_handle : ℕ
    its_handle = handle_of a.operation.call

    -- the handle that is to be opened is another one
    opens_another : (n : ℕ) → offer.opens ≡ Some n → its_handle ≡ n → ⊥
    opens_another n opens same =
        let (root, found) = completer_open k a.operation runs (ap is_end on) in
        let number : offer.opens ≡ a.operation.opens = (subst (λ l. LineFits a.operation.call a.operation.id a.operation.opens a.operation.attempt l) on
        ((has_handles_along limits xs).0.own k a.operation runs)).number in
        none-some root (sym ((has_handles_along limits xs).1.unopened k n a.operation runs unmarked (sym number ∙ opens)) ∙ ap (root_at state) (sym same) ∙ found)

    abbrev first_claim : Claim
    first_claim = record { by = OfHandle its_handle; on = offer.successor }

    second_differ : (opens : Option ℕ) (second' : Option Ref) → offer.opens ≡ opens → AreDifferent (first_claim ∷ second_claims opens second')
    second_differ (Some n) (Some t) e = (
      λ c. elim (in_cons (record { by = OfHandle n; on = t }) [] first_claim c) [
        | inl same ↦ let handles : OfHandle n ≡ OfHandle its_handle = ap (λ (z : Claim). z.by) same in opens_another n e (cc handles)
        | inr empty ↦ nothing_in _ empty
      ],
      one_alone (record { by = OfHandle n; on = t }),
    )
    second_differ None second' e = one_alone first_claim
    second_differ (Some n) None e = one_alone first_claim

    second_unheld : (opens : Option ℕ) (second' : Option Ref) → offer.second ≡ second' → (c : Claim) → Contains held.claims c → Contains (second_claims opens second') c → ⊥
    second_unheld (Some n) (Some t) e c stands added = elim (in_cons (record { by = OfHandle n; on = t }) [] c added) [
      | inl same ↦ unheld_root false t e n (hold n t (subst (λ z. Contains held.claims z) (sym same) stands))
      | inr empty ↦ nothing_in _ empty
    ]
    second_unheld None second' e c stands added = nothing_in _ added
    second_unheld (Some n) None e c stands added = nothing_in _ added

    offers_differ : Differ (offers true a.operation.private its_handle offer)
    offers_differ =
        differ_added (offers true a.operation.private its_handle offer) held.claims differ same_unmoving (second_differ offer.opens offer.second refl)
        (λ c stands added. elim (in_cons first_claim (second_claims offer.opens offer.second) c added) [
          | inl same ↦ unheld_root true offer.successor refl its_handle (hold its_handle offer.successor (subst (λ z. Contains held.claims z) (sym same) stands))
          | inr more ↦ second_unheld offer.opens offer.second refl c stands more
        ])

  -- ---- each step

  by_kind : (change : Change) → Kind state held s change → Differ change
  by_kind change changes_none = differ_plain change held.claims differ no_change_plain
  by_kind change (gives private up) = differ_plain change held.claims differ (given_up_plain private)
  by_kind change (looks why w main a at_line is) = differ_plain change held.claims differ (checks_plain (is_owned held w.indirection w.replaced) (prev_at state.heap w.fresh) w)
  by_kind change (closes actor number handle is) = differ_plain change held.claims differ (root_go_plain handle (root_of (word_at state handle)))
  by_kind change (sees offer main c done a at_line is) = differ_plain change held.claims differ (finds_plain (handle_of a.operation.call) offer done)
  by_kind change (makes_one node action x a makes_it drawn) = makes_differ node action x a makes_it drawn
  by_kind change (swaps_in i q f a hit) = swaps_differ i q f a
  by_kind change (commits i f p told a v own) = commits_differ i f p told a v own
  by_kind change (freezes_it offer main n a out none opens) = freezes_differ offer main n a out none opens
  by_kind change (offers_it offer a stands) =
      let (k, place, at_k) = place_of_actor state a.actor a.operation a.runs in
      offers_differ offer a k at_k

  pub differ_then : AreDifferent (held_after (change_of state held s) held).claims
  differ_then = by_kind (change_of state held s) (kind state held s)
