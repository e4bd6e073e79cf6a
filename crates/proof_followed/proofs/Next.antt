-- What a line follows gives what the line after it follows, once the step is taken.
use Rattle.std.proofs.Common.{◌≡◌, ℕ, false, List, ◌++◌, Some, None, refl, sym, ap, ◌∙◌, subst, get_or-set_same, arith}
use Rattle.std.proofs.lemmas.Option.{none-some}
use Rattle.proof_followed.specs.Beneath.history.specs.declared.calls.Access.TheVariants.{ReadOnly}
use Rattle.proof_followed.specs.Beneath.slot_arena.specs.declared.refs.Ref.{Ref}
use Rattle.proof_followed.specs.Beneath.slot_arena.specs.declared.nodes.Node.{Node}
use Rattle.proof_followed.specs.Beneath.slot_arena.specs.Heaps.{Heap, node_at, next_ref}
use Rattle.proof_followed.specs.Beneath.machine_model.specs.declared.actions.Action.{Action}
use Rattle.proof_followed.specs.Beneath.machine_model.specs.declared.building.BuildLine.{BuildLine}
use Rattle.proof_followed.specs.Beneath.machine_model.specs.declared.building.BuildLine.TheVariants as build
use Rattle.proof_followed.specs.Beneath.machine_model.specs.declared.copying.CopyLine.{CopyLine}
use Rattle.proof_followed.specs.Beneath.machine_model.specs.declared.copying.CopyLine.TheVariants as copy
use Rattle.proof_followed.specs.Beneath.machine_model.specs.declared.finding.KeyLine.{KeyLine}
use Rattle.proof_followed.specs.Beneath.machine_model.specs.declared.finding.KeyLine.TheVariants as key
use Rattle.proof_followed.specs.Beneath.machine_model.specs.declared.lines.Line.{Line}
use Rattle.proof_followed.specs.Beneath.machine_model.specs.declared.lines.Line.TheVariants as line
use Rattle.proof_followed.specs.Beneath.machine_model.specs.declared.lines.Purpose.{Purpose}
use Rattle.proof_followed.specs.Beneath.machine_model.specs.declared.operations.Operation.{Operation}
use Rattle.proof_followed.specs.Beneath.machine_model.specs.declared.reading.After.{After}
use Rattle.proof_followed.specs.Beneath.machine_model.specs.declared.reading.After.TheVariants.{Goes, Gives}
use Rattle.proof_followed.specs.Beneath.machine_model.specs.declared.reading.ReadLine.{ReadLine}
use Rattle.proof_followed.specs.Beneath.machine_model.specs.declared.reading.ReadLine.TheVariants as read
use Rattle.proof_followed.specs.Beneath.machine_model.specs.declared.reading.SwapLine.{SwapLine}
use Rattle.proof_followed.specs.Beneath.machine_model.specs.declared.reading.SwapLine.TheVariants as swap
use Rattle.proof_followed.specs.Beneath.machine_model.specs.declared.repairs.CleanLine.{CleanLine}
use Rattle.proof_followed.specs.Beneath.machine_model.specs.declared.repairs.CleanLine.TheVariants as clean
use Rattle.proof_followed.specs.Beneath.machine_model.specs.declared.repairs.Climb.{Climb}
use Rattle.proof_followed.specs.Beneath.machine_model.specs.declared.repairs.ClimbLine.{ClimbLine}
use Rattle.proof_followed.specs.Beneath.machine_model.specs.declared.repairs.ClimbLine.TheVariants as climb
use Rattle.proof_followed.specs.Beneath.machine_model.specs.declared.repairs.RenewLine.{RenewLine}
use Rattle.proof_followed.specs.Beneath.machine_model.specs.declared.repairs.RenewLine.TheVariants as renew
use Rattle.proof_followed.specs.Beneath.machine_model.specs.declared.roots.CompleteLine.{CompleteLine}
use Rattle.proof_followed.specs.Beneath.machine_model.specs.declared.roots.CompleteLine.TheVariants as complete
use Rattle.proof_followed.specs.Beneath.machine_model.specs.declared.roots.Descriptor.{Descriptor}
use Rattle.proof_followed.specs.Beneath.machine_model.specs.declared.roots.Root.{Root}
use Rattle.proof_followed.specs.Beneath.machine_model.specs.declared.roots.RootLine.{RootLine}
use Rattle.proof_followed.specs.Beneath.machine_model.specs.declared.roots.RootWord.{RootWord}
use Rattle.proof_followed.specs.Beneath.machine_model.specs.declared.roots.RootWord.TheVariants.{Plain, Offer}
use Rattle.proof_followed.specs.Beneath.machine_model.specs.declared.walking.WalkLine.{WalkLine}
use Rattle.proof_followed.specs.Beneath.machine_model.specs.declared.walking.WalkLine.TheVariants as walk
use Rattle.proof_followed.specs.Beneath.machine_model.specs.Calls.{handle_of, needs_writable}
use Rattle.proof_followed.specs.Beneath.machine_model.specs.Climbing.{climb_after_root}
use Rattle.proof_followed.specs.Beneath.machine_model.specs.Copying.{after_offer, copy_after_complete}
use Rattle.proof_followed.specs.Beneath.machine_model.specs.Operations.{after_root, line_action, line_after, read_of}
use Rattle.proof_followed.specs.Beneath.machine_model.specs.Reading.{after_ask, read_action}
use Rattle.proof_followed.specs.Beneath.machine_model.specs.Reads.{Embeds, with_read, line_behind}
use Rattle.proof_followed.specs.Beneath.machine_model.specs.States.{State, root_at, root_of, rewritten, word_at, word_of, with_word}
use Rattle.proof_followed.specs.Beneath.machine_model.specs.Swapping.{is_carried_out, is_plain, root_after}
use Rattle.proof_followed.specs.Beneath.machine_model.specs.Words.{SameContents, SameWord}
use Rattle.proof_followed.specs.Beneath.machine_model.proofs.Embedding.{each_embeds}
use Rattle.proof_followed.specs.Beneath.machine_model.proofs.Found.{found_within}
use Rattle.proof_followed.specs.Beneath.machine_model.proofs.LooksAfter.{line_same}
use Rattle.proof_followed.specs.Beneath.proof_memory.specs.Making.{made_node}
use Rattle.proof_followed.specs.Beneath.proof_memory.specs.Wants.{AnIndirection, Claim, Is, Holds, AllHold, climb_carries, line_wants, word_wants}
use Rattle.proof_followed.specs.Beneath.proof_memory.proofs.Claims.Nodes.{Heaped}
use Rattle.proof_followed.specs.Beneath.proof_memory.proofs.Claims.Uses.{Carries, all_carried, carried}
use Rattle.proof_followed.specs.Beneath.proof_memory.proofs.Lines.Next.{line_next}
use Rattle.proof_followed.specs.Beneath.proof_memory.proofs.Lines.Others.{root_line_next, copy_offer_next, copy_complete_next}
use Rattle.proof_followed.specs.Beneath.proof_memory.proofs.Lines.Repair.{climb_root_next}
use Rattle.proof_followed.specs.Beneath.proof_memory.proofs.Lines.Shared.{none_each}
use Rattle.proof_followed.specs.Followed.{asked, followed_wants, met_root_wants}
use Rattle.proof_followed.proofs.Asked.{followed_of}
use Rattle.proof_followed.proofs.Meeting.{after_met_root_wants, root_met}

module _ (state : State) (operation : Operation) (S : Ref → Type 0) (H : Heaped S state.heap) (T : Ref → Type 0) (after : Heap) (carries : Carries S state.heap T after)
    (fits : operation.access ≡ ReadOnly → needs_writable operation.call ≡ false) (its : Root) (is_open : root_at state (handle_of operation.call) ≡ Some its)
    (standing : Holds S state.heap (Is (root_of its.word) AnIndirection)) where
  abbrev Claims : Line → Type 0
  Claims l = AllHold S state.heap (line_wants state.limits.hash operation.call operation.access l)

  abbrev pub Follows : Line → Type 0
  Follows l = AllHold T after (followed_wants state.limits.hash operation.call operation.access l)

  carry : (claims : List Claim) → AllHold S state.heap claims → AllHold T after claims
  carry = all_carried S state.heap T after carries

  full : (l : Line) → AllHold T after (line_wants state.limits.hash operation.call operation.access l) → Follows l
  full l h = followed_of T after state.limits.hash operation.call operation.access l h

  carry_full : (l : Line) → Claims l → Follows l
  carry_full l h = full l (carry (line_wants state.limits.hash operation.call operation.access l) h)

  abbrev handle : ℕ
  handle = handle_of operation.call

  abbrev word : RootWord
  word = word_at state handle

  word_is : word ≡ its.word
  word_is = ap word_of is_open

  stands : Holds S state.heap (Is (root_of word) AnIndirection)
  stands = subst (λ w. Holds S state.heap (Is (root_of w) AnIndirection)) (sym word_is) standing

  -- ---- the same state with the offer in the root word left out

  abbrev plainly : State
  plainly = with_word state handle (Plain (root_of its.word))

  plain_word : word_at plainly handle ≡ Plain (root_of its.word)
  plain_word =
      ap word_of (get_or-set_same state.roots handle (rewritten (Plain (root_of its.word)) (root_at state handle)) None (found_within state.roots handle its is_open))
      ∙ ap (λ o. word_of (rewritten (Plain (root_of its.word)) o)) is_open

  plain_holds : AllHold S state.heap (word_wants (word_at plainly handle))
  plain_holds = subst (λ w. AllHold S state.heap (word_wants w)) (sym plain_word) (standing, tt)

  same : SameContents plainly state
  same = record { hash = refl; contents = λ r. refl }

  -- what the action makes is safe
  abbrev pub Fresh : Action → Type 0
  Fresh action = (node : Node) (made : Ref) → made_node state action ≡ Some node → next_ref state.heap ≡ Some made → T made × (node_at after made ≡ node)

  -- where the root word isn't read
  unread : (l : Line) → SameWord plainly state handle (line_action plainly operation l) → Claims l →
      ((node : Node) (made : Ref) → made_node plainly (line_action plainly operation l) ≡ Some node → next_ref state.heap ≡ Some made → T made × (node_at after made ≡ node)) →
      Follows (line_after state operation l)
  unread l words h fresh =
      subst Follows (line_same plainly state same operation l words)
      (full (line_after plainly operation l) (line_next plainly operation S H T after carries fits plain_holds l h fresh))

  -- where it has no offer
  plain_read : (r : Ref) → word ≡ Plain r → (l : Line) → Claims l → Fresh (line_action state operation l) → Follows (line_after state operation l)
  plain_read r e l h fresh =
      full (line_after state operation l)
      (line_next state operation S H T after carries fits (subst (λ w. AllHold S state.heap (word_wants w)) (sym e) (subst (λ w. Holds S state.heap (Is (root_of w) AnIndirection)) e stands, tt)) l h
      fresh)

  -- ---- READ in a program

  module _ (l : Line) (i : Ref) (back : (x : ReadLine) → AllHold T after (line_wants state.limits.hash operation.call operation.access (with_read (asked x) l)) → Follows (with_read x l)) where
    none_made : (x : ReadLine) (node : Node) → made_node plainly (read_action i x) ≡ Some node → ⊥
    none_made x node e = grind arith

    same_word : (x : ReadLine) → asked x ≡ x → ((m p : Ref) → x ≡ read.AskRoot m p → ⊥) → SameWord plainly state handle (read_action i x)
    same_word read.Main e other = refl
    same_word (read.Prev m) e other = refl
    same_word (read.Decide m p told) e other = refl
    same_word (read.Restore m p) e other = refl
    same_word (read.AskRoot m p) e other = absurd (other m p refl)
    same_word (read.Abort m p offer) e other = let wrong : ⊥ = cc e in absurd wrong

    on_read : (x : ReadLine) → Embeds l (record { indirection = i; line = x }) → asked x ≡ x → ((m p : Ref) → x ≡ read.AskRoot m p → ⊥) →
        AllHold S state.heap (line_wants state.limits.hash operation.call operation.access (with_read (asked x) l)) → Follows (line_after state operation l)
    on_read x E e other h =
        let acts : line_action plainly operation l ≡ read_action i x = ap (line_action plainly operation) (sym E.here) ∙ E.embedded.acts plainly operation x in
        unread l (subst (SameWord plainly state handle) (sym acts) (same_word x e other)) (subst Claims (ap (λ y. with_read y l) e ∙ E.here) h)
        (λ node made is n. absurd (none_made x node (ap (made_node plainly) (sym acts) ∙ is)))

    ask_by : (m p : Ref) → Embeds l (record { indirection = i; line = read.AskRoot m p }) → (w : RootWord) → word ≡ w →
        AllHold S state.heap (line_wants state.limits.hash operation.call operation.access (with_read (read.AskRoot m p) l)) → Follows (line_after state operation l)
    ask_by m p E (Plain r) e h =
        let acts : line_action state operation l ≡ read_action i (read.AskRoot m p) = ap (line_action state operation) (sym E.here) ∙ E.embedded.acts state operation (read.AskRoot m p) in
        plain_read r e l (subst Claims E.here h) (λ node made is n. absurd (none-some node (ap (made_node state) (sym acts) ∙ is)))
    ask_by m p E (Offer offer) e h =
        let leads : line_after state operation l ≡ with_read (read.Abort m p offer) l =
        ap (line_after state operation) (sym E.here) ∙ E.leads state operation (read.AskRoot m p)
        ∙ ap (λ w. line_behind operation.call l (after_ask state.heap m p w)) e in
        subst Follows (sym leads) (back (read.Abort m p offer) (carry (line_wants state.limits.hash operation.call operation.access (with_read (read.AskRoot m p) l)) h))

    pub reads : (x : ReadLine) → read_of l ≡ Some (record { indirection = i; line = x }) →
        AllHold S state.heap (line_wants state.limits.hash operation.call operation.access (with_read (asked x) l)) → Follows (line_after state operation l)
    reads (read.AskRoot m p) is h = ask_by m p (each_embeds l (record { indirection = i; line = read.AskRoot m p }) is) word refl h
    reads (read.Abort m p offer) is h =
        let E = each_embeds l (record { indirection = i; line = read.Abort m p offer }) is in
        let leads : line_after state operation l ≡ with_read (read.AskRoot m p) l = ap (line_after state operation) (sym E.here) ∙ E.leads state operation (read.Abort m p offer) in
        subst Follows (sym leads) (back (read.AskRoot m p) (carry (line_wants state.limits.hash operation.call operation.access (with_read (read.AskRoot m p) l)) h))
    reads read.Main is h = on_read read.Main (each_embeds l _ is) refl (λ m p e. let wrong : ⊥ = cc e in wrong) h
    reads (read.Prev m) is h = on_read (read.Prev m) (each_embeds l _ is) refl (λ n p e. let wrong : ⊥ = cc e in wrong) h
    reads (read.Decide m p told) is h = on_read (read.Decide m p told) (each_embeds l _ is) refl (λ n q e. let wrong : ⊥ = cc e in wrong) h
    reads (read.Restore m p) is h = on_read (read.Restore m p) (each_embeds l _ is) refl (λ n q e. let wrong : ⊥ = cc e in wrong) h

  -- ---- ROOT

  from_root : (a : After RootLine Ref) → AllHold S state.heap (after_met_root_wants a) → Follows (after_root operation a)
  from_root (Goes l) h = carry (met_root_wants l) h
  from_root (Gives r) h = carry_full (after_root operation (Gives r)) (root_line_next plainly operation S H plain_holds (Gives r) h)

  climbs_from : (c : Climb) (a : After RootLine Ref) → AllHold S state.heap (climb_carries c) → AllHold S state.heap (after_met_root_wants a) → Follows (climb_after_root state operation c a)
  climbs_from c (Goes l) p h = carry (climb_carries c ++ met_root_wants l) (p.0, (p.1.0, (p.1.1.0, h)))
  climbs_from c (Gives r) p h = carry_full (climb_after_root state operation c (Gives r)) (climb_root_next state operation S H c (Gives r) p h)

  -- ---- all lines

  abbrev Before : Line → Type 0
  Before l = AllHold S state.heap (followed_wants state.limits.hash operation.call operation.access l)

  key_next : (l : KeyLine) → Before (line.Key l) → Fresh (line_action state operation (line.Key l)) → Follows (line_after state operation (line.Key l))
  key_next (key.Read path r) h fresh = reads (line.Key (key.Read path r)) r.indirection (λ x c. c) r.line refl h
  key_next (key.Main path main) h fresh = unread (line.Key (key.Main path main)) tt h fresh
  key_next (key.Entry path main position) h fresh = unread (line.Key (key.Entry path main position)) tt h fresh
  key_next (key.Listed path main position) h fresh = unread (line.Key (key.Listed path main position)) tt h fresh
  key_next (key.Sibling path main position former) h fresh = unread (line.Key (key.Sibling path main position former)) tt h fresh

  build_next : (l : BuildLine) → Before (line.Build l) → Fresh (line_action state operation (line.Build l)) → Follows (line_after state operation (line.Build l))
  build_next (build.Single path main s former) h fresh = unread (line.Build (build.Single path main s former)) refl h fresh
  build_next (build.Pair path main position single depth) h fresh = unread (line.Build (build.Pair path main position single depth)) refl h fresh
  build_next (build.Link path main position below depth) h fresh = unread (line.Build (build.Link path main position below depth)) refl h fresh
  build_next (build.Rung path main position below depth) h fresh = unread (line.Build (build.Rung path main position below depth)) refl h fresh
  build_next (build.Main path main c former) h fresh = unread (line.Build (build.Main path main c former)) refl h fresh

  swap_next : (why : Purpose) (i a f : Ref) (l : SwapLine) → Before (line.Swap why (record { indirection = i; replaced = a; fresh = f; line = l })) →
      Fresh (line_action state operation (line.Swap why (record { indirection = i; replaced = a; fresh = f; line = l }))) →
      Follows (line_after state operation (line.Swap why (record { indirection = i; replaced = a; fresh = f; line = l })))
  swap_next why i a f (swap.Deciding x) h fresh = reads (line.Swap why (record { indirection = i; replaced = a; fresh = f; line = swap.Deciding x })) i (λ y c. c) x refl h
  swap_next why i a f swap.Publish h fresh = unread (line.Swap why (record { indirection = i; replaced = a; fresh = f; line = swap.Publish })) refl h fresh
  swap_next why i a f swap.Check h fresh = unread (line.Swap why (record { indirection = i; replaced = a; fresh = f; line = swap.Check })) refl h fresh

  renew_next : (l : RenewLine) → Before (line.Renew l) → Fresh (line_action state operation (line.Renew l)) → Follows (line_after state operation (line.Renew l))
  renew_next (renew.Read path main done r) h fresh = reads (line.Renew (renew.Read path main done r)) r.indirection (λ x c. c) r.line refl h
  renew_next (renew.Entry path main done) h fresh = unread (line.Renew (renew.Entry path main done)) tt h fresh
  renew_next (renew.Link path main done child) h fresh = unread (line.Renew (renew.Link path main done child)) refl h fresh
  renew_next (renew.Branch path main done) h fresh = unread (line.Renew (renew.Branch path main done)) refl h fresh

  clean_next : (l : CleanLine) → Before (line.Clean l) → Fresh (line_action state operation (line.Clean l)) → Follows (line_after state operation (line.Clean l))
  clean_next (clean.Read path r) h fresh = reads (line.Clean (clean.Read path r)) r.indirection (λ x c. c) r.line refl h
  clean_next (clean.Child path main done r) h fresh = reads (line.Clean (clean.Child path main done r)) r.indirection (λ x c. c) r.line refl h
  clean_next (clean.Main path main) h fresh = unread (line.Clean (clean.Main path main)) tt h fresh
  clean_next (clean.Entry path main done) h fresh = unread (line.Clean (clean.Entry path main done)) tt h fresh
  clean_next (clean.Tomb path main done child) h fresh = unread (line.Clean (clean.Tomb path main done child)) tt h fresh
  clean_next (clean.Contracted path main done) h fresh = unread (line.Clean (clean.Contracted path main done)) refl h fresh

  climb_next : (l : ClimbLine) → Before (line.Climb l) → Fresh (line_action state operation (line.Climb l)) → Follows (line_after state operation (line.Climb l))
  climb_next (climb.Read c r) h fresh = reads (line.Climb (climb.Read c r)) r.indirection (λ x c. c) r.line refl h
  climb_next (climb.Main c main) h fresh = unread (line.Climb (climb.Main c main)) tt h fresh
  climb_next (climb.Contracted c main) h fresh = unread (line.Climb (climb.Contracted c main)) refl h fresh
  climb_next (climb.Root c l) h fresh =
      climbs_from c (root_after state.heap operation.access word l) (h.0, (h.1.0, (h.1.1.0, tt))) (root_met S state.heap H operation.access word l h.1.1.1 stands)

  complete_next : (offer : Descriptor) (l : CompleteLine) → Before (line.Copy (copy.Complete (record { offer = offer; line = l }))) →
      Follows (line_after state operation (line.Copy (copy.Complete (record { offer = offer; line = l }))))
  complete_next offer (complete.Reading x) h = reads (line.Copy (copy.Complete (record { offer = offer; line = complete.Reading x }))) offer.root (λ y c. c) x refl h
  complete_next offer (complete.Swap main) h =
      carry_full (copy_after_complete operation (Gives (is_carried_out word offer main))) (copy_complete_next plainly operation S H plain_holds (Gives (is_carried_out word offer main)) tt)

  copy_next : (l : CopyLine) → Before (line.Copy l) → Fresh (line_action state operation (line.Copy l)) → Follows (line_after state operation (line.Copy l))
  copy_next (copy.Read at r) h fresh = reads (line.Copy (copy.Read at r)) r.indirection (λ x c. c) r.line refl h
  copy_next (copy.Successor r main) h fresh = unread (line.Copy (copy.Successor r main)) refl h fresh
  copy_next (copy.Second r main successor) h fresh = unread (line.Copy (copy.Second r main successor)) refl h fresh
  copy_next (copy.Empty r main) h fresh = unread (line.Copy (copy.Empty r main)) refl h fresh
  copy_next (copy.Cleared r main branch) h fresh = unread (line.Copy (copy.Cleared r main branch)) refl h fresh
  copy_next (copy.Offer offer) h fresh = carry_full (after_offer offer (is_plain word offer.root)) (copy_offer_next plainly operation S H plain_holds offer (is_plain word offer.root) h)
  copy_next (copy.Complete c) h fresh = complete_next c.offer c.line h

  walk_next : (l : WalkLine) → Before (line.Walk l) → Fresh (line_action state operation (line.Walk l)) → Follows (line_after state operation (line.Walk l))
  walk_next walk.Root h fresh = (none_each T after, (carried S state.heap T after carries stands, tt))
  walk_next (walk.Read r todo pairs) h fresh = reads (line.Walk (walk.Read r todo pairs)) r.indirection (λ x c. c) r.line refl h
  walk_next (walk.Main main todo pairs) h fresh = unread (line.Walk (walk.Main main todo pairs)) tt h fresh
  walk_next (walk.Entry todo pairs) h fresh = unread (line.Walk (walk.Entry todo pairs)) tt h fresh

  -- any line
  pub followed_next : (l : Line) → Before l → Fresh (line_action state operation l) → Follows (line_after state operation l)
  followed_next (line.Root l) h fresh = from_root (root_after state.heap operation.access word l) (root_met S state.heap H operation.access word l h stands)
  followed_next (line.Key l) h fresh = key_next l h fresh
  followed_next (line.Build l) h fresh = build_next l h fresh
  followed_next (line.Swap why s) h fresh = swap_next why s.indirection s.replaced s.fresh s.line h fresh
  followed_next (line.Renew l) h fresh = renew_next l h fresh
  followed_next (line.Clean l) h fresh = clean_next l h fresh
  followed_next (line.Climb l) h fresh = climb_next l h fresh
  followed_next (line.Copy l) h fresh = copy_next l h fresh
  followed_next (line.Walk l) h fresh = walk_next l h fresh
  followed_next (line.End answer) h fresh = tt
  followed_next line.Impossible h fresh = tt
