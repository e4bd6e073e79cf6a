-- SWAP, COPY, WALK and the first line of a try: what their lines want gives what the lines after them do, where a step makes no node.
use Rattle.std.proofs.Common.{◌≡◌, ℕ, ◌==◌, ◌||◌, Bool, true, false, nat_lt, List, [], ◌∷◌, ◌++◌, Option, length, refl, lt-ltb, arith}
use Rattle.std.proofs.lemmas.Bool.{false≢true, cond_both}
use Rattle.std.proofs.lemmas.List.Elements.{All-append, All-head, All-tail}
use Rattle.proof_memory.specs.Vocabulary.{Call, Clear, Snapshot, Freeze, Ref, Node, Indirection, Single, Tomb, Prev, node_at, main_at, prev_at, entries_of, Operation, After, Gives, Read, ReadLine}
use Rattle.proof_memory.specs.Vocabulary.{Swap, SwapLine, Complete, Descriptor, RootLine, RootWord, Plain, Offer, Climb, Purpose, Line, handle_of, State, word_at, root_of, after_publish}
use Rattle.proof_memory.specs.Vocabulary.{after_deciding, after_check, on_line, swap_after, copy_after_read, after_given, after_offer, copy_after_complete, walk_next, first_of, rest_of}
use Rattle.proof_memory.specs.Vocabulary.{walk_after_read, walk_after_entry, after_root, after_update, climbed_on, swapped}
use Rattle.proof_memory.specs.Beneath.slot_arena.specs.declared.nodes.Prev.TheVariants as prev
use Rattle.machine_model.specs.declared.reading.After.TheVariants.{Goes}
use Rattle.machine_model.specs.declared.reading.SwapLine.TheVariants as swap
use Rattle.machine_model.specs.declared.lines.Purpose.TheVariants as purpose
use Rattle.machine_model.specs.Swapping.{after_swap}
use Rattle.machine_model.specs.Operations.{from_root}
use Rattle.machine_model.specs.Operations.{after_swap as line_after_swap}
use Rattle.proof_memory.specs.Wants.{Wanted, AnIndirection, AMain, AnEntry, Claim, Is, Each, Holds, each, so, AllHold, node_wants, word_wants, swap_line_wants, swap_wants}
use Rattle.proof_memory.specs.Wants.{purpose_wants, climb_carries, line_wants}
use Rattle.proof_memory.proofs.Claims.Uses.{Meets, safe_of, all_of, fact_of, both_hold, first_hold, last_hold}
use Rattle.proof_memory.proofs.Claims.Nodes.{Heaped, main_entries}
use Rattle.proof_memory.proofs.Claims.Named.{single_claim, climb_claims, third_claim, past_third}
use Rattle.proof_memory.proofs.Lines.Read.{after_read_wants, step_wants, completed_wants, after_root_wants, read_next, offer_begun}
use Rattle.proof_memory.proofs.Lines.Shared.{this, current_is, none_each, pushed_each, pushed_long}
use Rattle.proof_memory.proofs.Lines.Repair.{climbing_wants, higher_wants}

-- what a SWAP wants after its step
abbrev after_swap_wants : Swap → After SwapLine Bool → List Claim
after_swap_wants s (Goes l) = Is s.indirection AnIndirection ∷ Is s.replaced AMain ∷ Is s.fresh AMain ∷ swap_line_wants s.indirection l
after_swap_wants s (Gives done) = []

abbrev swapped_wants : After Swap Bool → List Claim
swapped_wants (Goes s) = swap_wants s
swapped_wants (Gives done) = []

module _ (state : State) (operation : Operation) (S : Ref → Type 0) (H : Heaped S state.heap) (W : AllHold S state.heap (word_wants (word_at state (handle_of operation.call)))) where
  abbrev Wants : Line → Type 0
  Wants l = AllHold S state.heap (line_wants state.limits.hash operation.call operation.access l)

  abbrev At : Ref → Wanted → Type 0
  At r wanted = Holds S state.heap (Is r wanted)

  -- ---- SWAP

  publish_next : (s : Swap) (b : Bool) → At s.indirection AnIndirection → At s.replaced AMain → At s.fresh AMain → AllHold S state.heap (after_swap_wants s (after_publish s.fresh b))
  publish_next s true i r f = (i, (r, (f, (i, (f, tt)))))
  publish_next s false i r f = tt

  deciding_next : (s : Swap) (a : After ReadLine Ref) → At s.indirection AnIndirection → At s.replaced AMain → At s.fresh AMain → AllHold S state.heap (after_read_wants s.indirection a) →
      AllHold S state.heap (after_swap_wants s (after_deciding a))
  deciding_next s (Goes l) i r f h = (i, (r, (f, h)))
  deciding_next s (Gives main) i r f h = (i, (r, (f, tt)))

  check_next : (s : Swap) (p : Prev) → AllHold S state.heap (after_swap_wants s (after_check p))
  check_next s prev.None = tt
  check_next s (prev.Pending p) = tt
  check_next s (prev.Failed p) = tt

  swap_line_next : (s : Swap) (l : SwapLine) → At s.indirection AnIndirection → At s.replaced AMain → At s.fresh AMain → AllHold S state.heap (swap_line_wants s.indirection l) →
      AllHold S state.heap (after_swap_wants s (after_swap state.heap operation.access (word_at state (handle_of operation.call)) s l))
  swap_line_next s swap.Publish i r f h = publish_next s (main_at state.heap s.indirection == s.replaced) i r f
  swap_line_next s (swap.Deciding l) i r f h =
      deciding_next s _ i r f (read_next S state.heap H operation.access (word_at state (handle_of operation.call)) W s.indirection l h)
  swap_line_next s swap.Check i r f h = check_next s (prev_at state.heap s.fresh)

  on_line_next : (s : Swap) (a : After SwapLine Bool) → AllHold S state.heap (after_swap_wants s a) → AllHold S state.heap (swapped_wants (on_line s a))
  on_line_next s (Goes l) h = h
  on_line_next s (Gives done) h = tt

  update_next : (path : List Ref) (former : Option ℕ) (node : Node) → AllHold S state.heap (node_wants node) → Holds S state.heap (Each path AnIndirection) →
      Wants (after_update operation path former node)
  update_next path former (Tomb single) n p = climbing_wants state operation S H (record { path = path; single = single; former = former }) p n.0
  update_next path former node n p = tt

  climbed_next : (c : Climb) (node : Node) → AllHold S state.heap (climb_carries c) → Wants (climbed_on operation c node)
  climbed_next c (Tomb single) p = higher_wants state operation S H c c.single p.0 (single_claim p)
  climbed_next c node p = tt

  swapped_next : (node : Node) (why : Purpose) (done : Bool) → AllHold S state.heap (node_wants node) → AllHold S state.heap (purpose_wants why) → Wants (swapped operation node why done)
  swapped_next node (purpose.Update path former) true n p = update_next path former node n p.0
  swapped_next node (purpose.Update path former) false n p = tt
  swapped_next node (purpose.Renew path) true n p = (p.0, (p.1.0, (current_is S state.heap path p.0 (fact_of p.1.0), tt)))
  swapped_next node (purpose.Renew path) false n p = tt
  swapped_next node purpose.Clean done n p = tt
  swapped_next node (purpose.Climb c) true n p = climbed_next c node p
  swapped_next node (purpose.Climb c) false n p = climb_claims p

  line_swap_next : (why : Purpose) (s : Swap) (a : After Swap Bool) → AllHold S state.heap (swapped_wants a) → AllHold S state.heap (purpose_wants why) → S s.fresh →
      Wants (line_after_swap state operation why s a)
  line_swap_next why s (Goes next) h p f = both_hold S state.heap (swap_wants next) (purpose_wants why) h p
  line_swap_next why s (Gives done) h p f = swapped_next (node_at state.heap s.fresh) why done (H.inside s.fresh f) p

  pub swap_next : (why : Purpose) (s : Swap) → AllHold S state.heap (swap_wants s ++ purpose_wants why) →
      Wants (line_after_swap state operation why s (swap_after state.heap operation.access (word_at state (handle_of operation.call)) s))
  swap_next why s h =
      let its = first_hold S state.heap (swap_wants s) (purpose_wants why) h in
      line_swap_next why s (swap_after state.heap operation.access (word_at state (handle_of operation.call)) s)
      (on_line_next s _ (swap_line_next s s.line its.0 its.1.0 (third_claim its) (past_third its))) (last_hold S state.heap (swap_wants s) (purpose_wants why) h) (safe_of (third_claim its))

  -- ---- the root

  from_root_next : (call : Call) (r : Ref) → At r AnIndirection → AllHold S state.heap (line_wants state.limits.hash operation.call operation.access (from_root call r))
  from_root_next (Clear h) r m = (m, (m, tt))
  from_root_next (Snapshot h) r m = (m, (m, tt))
  from_root_next (Freeze h) r m = (m, (m, tt))
  from_root_next call r m = (pushed_each S state.heap [] r (none_each S state.heap) m, (so (pushed_long [] r), (m, tt)))

  pub root_line_next : (a : After RootLine Ref) → AllHold S state.heap (after_root_wants a) → Wants (after_root operation a)
  root_line_next (Goes l) h = h
  root_line_next (Gives r) h = from_root_next operation.call r h.0

  -- ---- COPY

  given_next : (call : Call) (r main : Ref) → At r AnIndirection → At main AMain → AllHold S state.heap (line_wants state.limits.hash operation.call operation.access (after_given call r main))
  given_next (Clear h) r main m n = (m, (n, tt))
  given_next call r main m n = (m, (n, tt))

  pub copy_read_next : (r : Ref) (a : After Read Ref) → At r AnIndirection → AllHold S state.heap (step_wants a) → Wants (copy_after_read operation r a)
  copy_read_next r (Goes read) m h = (m, h)
  copy_read_next r (Gives main) m h = given_next operation.call r main m h.0

  pub copy_offer_next : (offer : Descriptor) (b : Bool) → AllHold S state.heap (word_wants (Offer offer)) → Wants (after_offer offer b)
  copy_offer_next offer true o = offer_begun S state.heap offer o
  copy_offer_next offer false o = tt

  pub copy_complete_next : (a : After Complete Bool) → AllHold S state.heap (completed_wants a) → Wants (copy_after_complete operation a)
  copy_complete_next (Goes c) h = h
  copy_complete_next (Gives done) h = cond_both (done || operation.is_marked) _ _ Wants (λ e. tt) (λ e. tt)

  -- ---- WALK

  walk_next_wants : (todo : List Ref) (pairs : List (ℕ × ℕ)) → Holds S state.heap (Each todo AnEntry) → Wants (walk_next operation todo pairs)
  walk_next_wants [] pairs h = tt
  walk_next_wants (entry ∷ todo) pairs h = (h, (so (lt-ltb 0 (length (entry ∷ todo)) (omega arith)), tt))

  pub walk_read_next : (todo : List Ref) (pairs : List (ℕ × ℕ)) (a : After Read Ref) → Holds S state.heap (Each todo AnEntry) → AllHold S state.heap (step_wants a) →
      Wants (walk_after_read todo pairs a)
  walk_read_next todo pairs (Goes r) t h = (t, h)
  walk_read_next todo pairs (Gives main) t h = (t, h)

  pub walk_main_next : (main : Ref) (todo : List Ref) (pairs : List (ℕ × ℕ)) → At main AMain → Holds S state.heap (Each todo AnEntry) →
      Wants (walk_next operation (entries_of (node_at state.heap main) ++ todo) pairs)
  walk_main_next main todo pairs m t =
      walk_next_wants (entries_of (node_at state.heap main) ++ todo) pairs
      (each (All-append (Meets S state.heap AnEntry) (entries_of (node_at state.heap main)) todo (main_entries S state.heap H m) (all_of t)))

  entry_next : (entry : Ref) (todo : List Ref) (pairs : List (ℕ × ℕ)) (node : Node) → node_at state.heap entry ≡ node → S entry → Holds S state.heap (Each todo AnEntry) →
      Wants (walk_after_entry operation entry todo pairs node)
  entry_next entry todo pairs (Indirection generation word) e s t = (t, (this S state.heap AnIndirection (Indirection generation word) s e refl, tt))
  entry_next entry todo pairs (Single k v) e s t = walk_next_wants todo (pairs ++ (k, v) ∷ []) t
  entry_next entry todo pairs node e s t = tt

  pub walk_entry_next : (todo : List Ref) (pairs : List (ℕ × ℕ)) → Holds S state.heap (Each todo AnEntry) → nat_lt 0 (length todo) ≡ true →
      Wants (walk_after_entry operation (first_of todo) (rest_of todo) pairs (node_at state.heap (first_of todo)))
  walk_entry_next [] pairs t long = absurd (false≢true long)
  walk_entry_next (entry ∷ todo) pairs t long =
      entry_next entry todo pairs (node_at state.heap entry) refl ((All-head (Meets S state.heap AnEntry) entry todo (all_of t)).0) (each (All-tail (Meets S state.heap AnEntry) entry todo (all_of t)))

  pub root_of_next : (word : RootWord) → AllHold S state.heap (word_wants word) → At (root_of word) AnIndirection
  root_of_next (Plain r) w = w.0
  root_of_next (Offer offer) w = w.0
