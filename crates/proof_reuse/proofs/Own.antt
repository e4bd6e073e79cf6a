-- An indirection's own main node that was replaced there, or has failed there, is garbage.
use Rattle.std.proofs.Common.{◌≡◌, ℕ, zero, suc, ◌-◌, ◌⊎◌, Bool, true, false, List, [], ◌∷◌, Contains, get_or, Option, Some, None, inl, inr, refl, sym, ap, ◌∙◌, subst, arith}
use Rattle.std.proofs.lemmas.Bool.{cases_eq, false≢true}
use Rattle.std.proofs.lemmas.Option.{none-some}
use Rattle.std.proofs.lemmas.List.Elements.{Contains-append_cases}
use Rattle.proof_reuse.specs.Beneath.slot_arena.specs.declared.refs.Ref.{Ref}
use Rattle.proof_reuse.specs.Beneath.slot_arena.specs.declared.nodes.Node.{Node}
use Rattle.proof_reuse.specs.Beneath.slot_arena.specs.declared.nodes.Node.TheVariants.{Indirection, Branch, Single, Tomb, List as Listed}
use Rattle.proof_reuse.specs.Beneath.slot_arena.specs.declared.nodes.Prev.TheVariants as prev
use Rattle.proof_reuse.specs.Beneath.slot_arena.specs.Heaps.{main_of, node_of, prev_of, stored, refs_of_node, refs_of_option, refs_of_prev, refs_of_slot}
use Rattle.proof_reuse.specs.Beneath.machine_model.specs.declared.copying.CopyLine.TheVariants as copy
use Rattle.proof_reuse.specs.Beneath.machine_model.specs.declared.lines.Line.{Line}
use Rattle.proof_reuse.specs.Beneath.machine_model.specs.declared.lines.Line.TheVariants as line
use Rattle.proof_reuse.specs.Beneath.machine_model.specs.declared.operations.Operation.{Operation}
use Rattle.proof_reuse.specs.Beneath.machine_model.specs.declared.roots.Descriptor.{Descriptor}
use Rattle.proof_reuse.specs.Beneath.machine_model.specs.declared.steps.Bounds.{Bounds}
use Rattle.proof_reuse.specs.Beneath.machine_model.specs.declared.steps.Step.{Step}
use Rattle.proof_reuse.specs.Beneath.machine_model.specs.Grown.{grown, main_word, node_under, prev_word, standing}
use Rattle.proof_reuse.specs.Beneath.machine_model.specs.Machine.{AreBounds, run}
use Rattle.proof_reuse.specs.Beneath.machine_model.specs.States.{State}
use Rattle.proof_reuse.specs.Beneath.machine_model.specs.Times.{IsRun, states_of, last_of}
use Rattle.proof_reuse.specs.Beneath.machine_model.proofs.Grown.{grown_in_use, prev_grown, standing_parts}
use Rattle.proof_reuse.specs.Beneath.machine_model.proofs.Times.{run_is, run_ends}
use Rattle.proof_reuse.specs.Beneath.proof_memory.specs.Laws.{IsInUse}
use Rattle.proof_reuse.specs.Beneath.proof_memory.specs.Wants.{AllHold, is_indirection, line_wants}
use Rattle.proof_reuse.specs.Beneath.proof_memory.proofs.Claims.Uses.{safe_of}
use Rattle.proof_reuse.specs.Beneath.proof_memory.proofs.Safety.AtTimes.{line_at, node_found}
use Rattle.proof_reuse.specs.Beneath.proof_commits.specs.Protocol.{Protocol}
use Rattle.proof_reuse.specs.Beneath.proof_commits.specs.Stages.{stage_of, stage_of_actor}
use Rattle.proof_reuse.specs.Beneath.proof_commits.proofs.Known.Owners.{Staged}
use Rattle.proof_reuse.specs.Beneath.proof_commits.proofs.Known.Sounds.{sound_at}
use Rattle.proof_reuse.specs.Beneath.proof_commits.proofs.Words.Stood.{Private, stands_now}
use Rattle.proof_reuse.specs.Beneath.proof_contents.specs.Runs.{counting_main}
use Rattle.proof_reuse.specs.Beneath.proof_generations.proofs.Falling.Counted.{fresh_used}
use Rattle.proof_reuse.specs.Beneath.proof_generations.proofs.Falling.FreshRoots.{fresh_stands}
use Rattle.proof_reuse.specs.Beneath.proof_generations.proofs.Falling.KnownRoots.{protocol_of}
use Rattle.proof_reuse.specs.Beneath.proof_generations.proofs.Roots.Kept.{fresh_in}
use Rattle.proof_reuse.specs.Beneath.proof_order.proofs.Openings.Branches.{IsCleared, empty_at}
use Rattle.proof_reuse.specs.Beneath.proof_order.proofs.Openings.Copy.{copied}
use Rattle.proof_reuse.specs.Beneath.proof_shape.proofs.Commits.Was.{main_linked}
use Rattle.proof_reuse.specs.Beneath.proof_garbage.proofs.Claims.{none_in, one_in}
use Rattle.proof_reuse.specs.Beneath.proof_garbage.proofs.Public.{IsPublic}
use Rattle.proof_fresh.specs.Grace.{IsPrivateToNone}
use Rattle.proof_followed.specs.Followed.{IsFollowedByRoots}
use Rattle.proof_followed.specs.Followed as followed
use Rattle.proof_followed.specs.Grace.{NobodyBrings, made_for_offer, expected_by}
use Rattle.proof_followed.proofs.Links.{links_plain}
use Rattle.proof_owned.specs.Owned.{IsOwn, IsLinked, from_root, from_slot}
use Rattle.proof_owned.specs.Laws.{IsReplaced, IsFailed}
use Rattle.proof_owned.proofs.FreshRoots as roots
use Rattle.proof_owned.proofs.Linked.{main_no_link, stood_is_main}
use Rattle.proof_owned.proofs.MainsInUse.{link_at}
use Rattle.proof_owned.proofs.OfLists.{failed_own_is_unlinked, gone, out_of_word, replaced_own_is_unlinked, was}
use Rattle.proof_owned.proofs.Theirs.{IsTheirs, theirs}
use Rattle.proof_reuse.specs.Laws.{IsGarbage}
use Rattle.proof_reuse.proofs.Committed.{committed_over, has_failed, public_then_on}

-- ---- what roots follow they lead to

followed_linked : (state : State) {r : Ref} → IsFollowedByRoots state r → IsLinked state r
followed_linked state (followed.from_root handle root r e is) = subst (IsLinked state) is (from_root handle root e)
followed_linked state (followed.from_operation actor operation r e never c) = absurd never
followed_linked state (followed.from_slot q r k c) = from_slot q r (followed_linked state k) c

-- ---- what a copy makes for its offer

-- it is a root, or the branch of a clear
abbrev IsMade : Line → Ref → Type 0
IsMade l q = ((x : Bool) × (fresh_in x l ≡ Some q)) ⊎ IsCleared l q

second_made : (second : Option Ref) (q : Ref) → Contains (refs_of_option second) q → second ≡ Some q
second_made None q c = none_in q c
second_made (Some r) q c = ap Some (one_in (λ x. r ≡ x) r refl q c)

offer_made : (offer : Descriptor) (q : Ref) → Contains (offer.successor ∷ refs_of_option offer.second) q → (Some offer.successor ≡ Some q) ⊎ (offer.second ≡ Some q)
offer_made offer q c = elim (Contains-append_cases (offer.successor ∷ []) (refs_of_option offer.second) q c) [
  | inl first ↦ inl (ap Some (one_in (λ x. offer.successor ≡ x) offer.successor refl q first))
  | inr second ↦ inr (second_made offer.second q second)
]

made_is : (l : Line) (q : Ref) → Contains (made_for_offer l) q → IsMade l q
made_is (line.Copy (copy.Cleared root main branch)) q c = inr (one_in (λ x. branch ≡ x) branch refl q c)
made_is (line.Copy (copy.Second root main successor)) q c = inl (true, ap Some (one_in (λ x. successor ≡ x) successor refl q c))
made_is (line.Copy (copy.Offer offer)) q c = elim (offer_made offer q c) [ inl a ↦ inl (true, a) | inr b ↦ inl (false, b) ]
made_is (line.Copy (copy.Complete d)) q c = elim (offer_made d.offer q c) [ inl a ↦ inl (true, a) | inr b ↦ inl (false, b) ]
made_is l q c = none_in q c

-- what it expects is what it has copied
expects : (x : Bool) (l : Line) (q : Ref) → fresh_in x l ≡ Some q → expected_by l ≡ Some (copied l).1
expects x (line.Copy (copy.Second root main successor)) q e = refl
expects x (line.Copy (copy.Offer offer)) q e = refl
expects x (line.Copy (copy.Complete c)) q e = refl
expects x l q e = absurd (none-some q e)

module _ (limits : Bounds) (steps : List Step) (ok : AreBounds limits) (i m : Ref) (own : IsOwn (states_of limits steps) (last_of limits steps) i m) where
  abbrev states : ℕ → State
  states = states_of limits steps

  abbrev last : ℕ
  last = last_of limits steps

  abbrev is_run : IsRun limits (states_of limits steps) (last_of limits steps)
  is_run = run_is limits steps ok

  abbrev p : Protocol
  p = protocol_of is_run

  abbrev its : IsTheirs is_run i m
  its = theirs is_run i m own

  -- ---- it is private to nobody

  private_to_none : IsPublic m (states_of limits steps (last_of limits steps)) → IsPrivateToNone (run limits steps) m
  private_to_none public zero operation e c = none-some operation e
  private_to_none public (suc k) operation e c = public.apart k operation (ap (λ (s : State). get_or s.actors k None) (run_ends limits steps) ∙ e) c

  -- ---- nobody is to bring it to a root

  module _ (out : main_word (states_of limits steps) (last_of limits steps) i ≡ m → ⊥) (k : ℕ) (operation : Operation)
      (runs : get_or (states last).actors k None ≡ Some operation) (unmarked : operation.is_marked ≡ false) where
    -- a branch that is made for a clear is in use, and stands nowhere
    branch_private : (b : Ref) → IsCleared operation.line b → IsInUse (states last).heap b × Private p.words last b
    branch_private b is = by_line operation.line refl is
      where
        staged : (l : Line) → operation.line ≡ l → Staged p.words last (suc k) (stage_of l)
        staged l e = subst (Staged p.words last (suc k)) (ap stage_of_actor runs ∙ ap stage_of e) ((sound_at p last (omega arith)).staged (suc k))

        claims : (l : Line) → operation.line ≡ l → AllHold (IsInUse (states last).heap) (states last).heap (line_wants limits.hash operation.call operation.access l)
        claims l e =
            subst (λ x. AllHold (IsInUse (states last).heap) (states last).heap (line_wants limits.hash operation.call operation.access x)) e
            (line_at is_run last (omega arith) (suc k) operation runs)

        by_line : (l : Line) → operation.line ≡ l → IsCleared l b → IsInUse (states last).heap b × Private p.words last b
        by_line (line.Copy (copy.Cleared root main branch)) e same =
            (subst (IsInUse (states last).heap) same (safe_of (claims _ e).1.1.0), subst (Private p.words last) same (staged (line.Copy (copy.Cleared root main branch)) e))
        by_line (line.Copy (copy.Read root x)) e same = absurd same
        by_line (line.Copy (copy.Successor root main)) e same = absurd same
        by_line (line.Copy (copy.Second root main successor)) e same = absurd same
        by_line (line.Copy (copy.Empty root main)) e same = absurd same
        by_line (line.Copy (copy.Offer offer)) e same = absurd same
        by_line (line.Copy (copy.Complete c)) e same = absurd same
        by_line (line.Root l) e same = absurd same
        by_line (line.Key l) e same = absurd same
        by_line (line.Build l) e same = absurd same
        by_line (line.Swap why s) e same = absurd same
        by_line (line.Renew l) e same = absurd same
        by_line (line.Clean l) e same = absurd same
        by_line (line.Climb l) e same = absurd same
        by_line (line.Walk l) e same = absurd same
        by_line (line.End answer) e same = absurd same
        by_line line.Impossible e same = absurd same

    -- it isn't made for an offer
    not_made : IsMade operation.line m → ⊥
    not_made (inl (x, e)) = main_no_link (node_under states last m) (stood_is_main is_run last (omega arith) i m its.stood) (fresh_stands is_run last (omega arith) k operation x m runs e)
    not_made (inr is) = (branch_private m is).1.apart i its.stood

    -- nor does it stand in the word of a root that is, but as the expected one
    not_over : (x : Bool) (q : Ref) → fresh_in x operation.line ≡ Some q → main_word states last q ≡ m → (expected_by operation.line ≡ Some m → ⊥) → ⊥
    not_over x q e word other =
        elim (roots.expected_at is_run last (omega arith) k operation x q m runs unmarked e (stands_now (fresh_stands is_run last (omega arith) k operation x q runs e) word)) [
          | inl same ↦ other (expects x operation.line q e ∙ ap Some (sym same))
          | inr cleared ↦ elim (cases_eq q i) [
            | inl at_i ↦ out (ap (main_word states last) (sym at_i) ∙ word)
            | inr apart ↦ its.not_elsewhere cleared.brought.at cleared.brought.before q apart cleared.brought.actor cleared.brought.stood cleared.brought.how
          ]
        ]

    -- what stands in the slot of what is made
    slot_names : (q : Ref) → IsInUse (states last).heap q → Contains (refs_of_slot (stored (run limits steps).heap q)) m →
        Contains (refs_of_node (node_under states last q)) m ⊎ Contains (refs_of_prev (prev_word states last q)) m
    slot_names q (slot, stands) names =
        let there = grown_in_use states last q slot stands in
        let now = (standing_parts (states last).heap q slot stands).0 in
        let in_slot : Contains (refs_of_slot (Some slot)) m = subst (λ o. Contains (refs_of_slot o) m) (ap (λ (s : State). stored s.heap q) (sym (run_ends limits steps)) ∙ now) names in
        elim (Contains-append_cases (refs_of_node slot.node) (refs_of_prev slot.prev) m in_slot) [
          | inl a ↦ inl (subst (λ o. Contains (refs_of_node (node_of o)) m) (sym there) a)
          | inr b ↦ inr (subst (λ o. Contains (refs_of_prev (prev_of o)) m) (sym there) b)
        ]

    root_names_not : (x : Bool) (q : Ref) → fresh_in x operation.line ≡ Some q → Contains (refs_of_slot (stored (run limits steps).heap q)) m → (expected_by operation.line ≡ Some m → ⊥) → ⊥
    root_names_not x q e names other = by_names (node_under states last q) refl link (slot_names q used names)
      where
        used : IsInUse (states last).heap q
        used = fresh_used is_run last (omega arith) k operation x q runs e

        link : is_indirection (node_under states last q) ≡ true
        link = fresh_stands is_run last (omega arith) k operation x q runs e

        there : grown states last q ≡ Some used.0
        there = grown_in_use states last q used.0 used.1

        plain : prev_word states last q ≡ prev.None
        plain =
            ap prev_of there
            ∙ links_plain limits ok steps q used.0 (ap (λ (s : State). standing s.heap q) (sym (run_ends limits steps)) ∙ used.1) (ap (λ o. is_indirection (node_of o)) (sym there) ∙ link)

        by_names : (n : Node) → node_under states last q ≡ n → is_indirection n ≡ true → Contains (refs_of_node (node_under states last q)) m ⊎ Contains (refs_of_prev (prev_word states last q)) m → ⊥
        by_names n is l (inr in_prev) = none_in m (subst (λ v. Contains (refs_of_prev v) m) plain in_prev)
        by_names (Indirection g w) is l (inl in_node) =
            not_over x q e (ap main_of is ∙ one_in (λ y. w ≡ y) w refl m (subst (λ n. Contains (refs_of_node n) m) is in_node)) other
        by_names (Branch b es) is l (inl in_node) = false≢true l
        by_names (Single a v) is l (inl in_node) = false≢true l
        by_names (Tomb s) is l (inl in_node) = false≢true l
        by_names (Listed ss) is l (inl in_node) = false≢true l

    branch_names_not : (q : Ref) → IsCleared operation.line q → Contains (refs_of_slot (stored (run limits steps).heap q)) m → ⊥
    branch_names_not q is names =
        let (used, private) = branch_private q is in
        elim (slot_names q used names) [
          | inl in_node ↦ none_in m (subst (λ n. Contains (refs_of_node n) m) (empty_at is_run last (omega arith) k operation q runs is) in_node)
          | inr in_prev ↦ none_in m (subst (λ v. Contains (refs_of_prev v) m) private.none in_prev)
        ]

  unbrought : (main_word (states_of limits steps) (last_of limits steps) i ≡ m → ⊥) → NobodyBrings (run limits steps) m
  unbrought out zero operation e unmarked brings = none-some operation e
  unbrought out (suc k) operation e unmarked (inl c) =
      not_made out k operation (ap (λ (s : State). get_or s.actors k None) (run_ends limits steps) ∙ e) unmarked (made_is operation.line m c)
  unbrought out (suc k) operation e unmarked (inr (q, c, names, other)) =
      let runs = ap (λ (s : State). get_or s.actors k None) (run_ends limits steps) ∙ e in
      elim (made_is operation.line q c) [
        | inl root ↦ root_names_not out k operation runs unmarked root.0 q root.1 names other
        | inr is ↦ branch_names_not out k operation runs unmarked q is names
      ]

  garbage : (main_word (states_of limits steps) (last_of limits steps) i ≡ m → ⊥) → ¬ IsLinked (states_of limits steps (last_of limits steps)) m →
      IsPublic m (states_of limits steps (last_of limits steps)) → IsInUse (run limits steps).heap m → IsGarbage (run limits steps) m
  garbage out unlinked public used = record {
    in_use = used;
    unfollowed = λ f. unlinked (subst (λ (s : State). IsLinked s m) (sym (run_ends limits steps)) (followed_linked (run limits steps) f));
    private_to_none = private_to_none public;
    unbrought = unbrought out;
  }

  -- ---- where it was replaced

  module _ (r : IsReplaced limits steps i m) where
    linked_then : p.words.link r.before i ≡ true
    linked_then = let order = r.order in let within = r.within in link_at is_run r.before i r.had

    out_replaced : main_word states last i ≡ m → ⊥
    out_replaced = out_of_word is_run i m its r.before r.after r.order r.within linked_then (was limits steps ok i m own r) (gone limits steps ok i m own r)

    counts : counting_main states last r.before i ≡ m
    counts = main_linked is_run r.before i linked_then ∙ was limits steps ok i m own r

    counts_no_more : counting_main states last r.after i ≡ m → ⊥
    counts_no_more e = gone limits steps ok i m own r (sym (main_linked is_run r.after i (link_at is_run r.after i r.has)) ∙ e)

    public_replaced : IsPublic m (states_of limits steps (last_of limits steps))
    public_replaced =
        public_then_on is_run i m
        (committed_over is_run i m (r.after - r.before) r.before r.after (let order = r.order in omega (arith, order)) r.within counts counts_no_more)

    pub replaced_garbage : IsInUse (run limits steps).heap m → IsGarbage (run limits steps) m
    replaced_garbage = garbage out_replaced (replaced_own_is_unlinked limits steps ok i m own r) public_replaced

  -- ---- where it has failed

  module _ (f : IsFailed limits steps i m) where
    out_failed : main_word states last i ≡ m → ⊥
    out_failed e = f.is (ap main_of (node_found states last i f.has.0) ∙ e)

    has_prev : prev_word states f.at m ≡ prev.Failed f.over
    has_prev = sym (prev_grown states f.at m f.used.0 f.used.1) ∙ f.failed

    public_failed : IsPublic m (states_of limits steps (last_of limits steps))
    public_failed = public_then_on is_run i m (has_failed is_run i m f.at f.within f.over has_prev)

    pub failed_garbage : IsInUse (run limits steps).heap m → IsGarbage (run limits steps) m
    failed_garbage = garbage out_failed (failed_own_is_unlinked limits steps ok i m own f) public_failed
