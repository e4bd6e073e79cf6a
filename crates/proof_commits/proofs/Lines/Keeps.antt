-- What the line after a step remembers: whatever was so of each indirection and main node that the line remembers, and is so of
-- what a READ gives now, is so of those that the next line remembers. This is of lines alone.
use Rattle.std.proofs.Common.{◌≡◌, ◌-◌, Bool, true, false, ◌==◌, ◌++◌, Option, Some, None, refl, subst}
use Rattle.proof_commits.specs.Vocabulary.{Writable, Ref, Prev, Heap, node_at, entry_at, entries_of, Operation, After, Gives, ReadLine, BuildLine, KeyLine, RenewLine, CleanLine, Climb, ClimbLine}
use Rattle.proof_commits.specs.Vocabulary.{CopyLine, WalkLine, RootLine, RootWord, Descriptor, Purpose, Line, State, current, renew_after_link, renew_after_branch, next_entry, build_if_made}
use Rattle.proof_commits.specs.Vocabulary.{clean_after_contracted, climb_after_contracted, climb_after_root, copy_if_made, first_of, rest_of, after_root, main_at, prev_at, next_ref, Swap, SwapLine}
use Rattle.proof_commits.specs.Vocabulary.{CompleteLine, handle_of, word_at, read_after, at_indirection, after_deciding as swap_deciding, on_line, after_check, after_publish, after_reading}
use Rattle.proof_commits.specs.Vocabulary.{of_offer, after_completing, is_carried_out, is_plain, renew_after_read, key_after_read, clean_after_read, after_child, climb_after_read, copy_after_read}
use Rattle.proof_commits.specs.Vocabulary.{copy_after_complete, walk_after_read, line_after}
use Rattle.proof_commits.specs.Beneath.slot_arena.specs.declared.nodes.Prev.TheVariants as over
use Rattle.proof_commits.specs.Beneath.machine_model.specs.declared.reading.After.TheVariants.{Goes}
use Rattle.proof_commits.specs.Beneath.machine_model.specs.declared.finding.KeyLine.TheVariants as key
use Rattle.proof_commits.specs.Beneath.machine_model.specs.declared.repairs.RenewLine.TheVariants as renew
use Rattle.proof_commits.specs.Beneath.machine_model.specs.declared.repairs.CleanLine.TheVariants as clean
use Rattle.proof_commits.specs.Beneath.machine_model.specs.declared.repairs.ClimbLine.TheVariants as climb
use Rattle.proof_commits.specs.Beneath.machine_model.specs.declared.copying.CopyLine.TheVariants as copy
use Rattle.proof_commits.specs.Beneath.machine_model.specs.declared.walking.WalkLine.TheVariants as walk
use Rattle.proof_commits.specs.Beneath.machine_model.specs.declared.roots.RootLine.TheVariants as root
use Rattle.proof_commits.specs.Beneath.machine_model.specs.declared.lines.Line.TheVariants as line
use Rattle.proof_commits.specs.Beneath.machine_model.specs.declared.reading.SwapLine.TheVariants as swap
use Rattle.proof_commits.specs.Beneath.machine_model.specs.declared.roots.CompleteLine.TheVariants as complete
use Rattle.proof_commits.specs.Beneath.machine_model.specs.Operations.{after_swap}
use Rattle.proof_commits.proofs.Lines.Resting
use Rattle.proof_commits.proofs.Lines.Resting.{AtRest, AfterMade}
use Rattle.proof_commits.specs.Protocol.{Reads}
use Rattle.proof_commits.proofs.Lines.Stages.{ReadRemembers, Remembers, remembers_still}
use Rattle.proof_commits.specs.Stages.{stage_of}
use Rattle.proof_commits.proofs.Lines.Remembers.{OutRemembers, read_remembers}

module _ (state : State) (operation : Operation) (G G' : Ref → Ref → Type 0) (more : (i m : Ref) → G i m → G' i m) where
  abbrev heap : Heap
  heap = state.heap

  abbrev word : RootWord
  word = word_at state (handle_of operation.call)

  abbrev W : Type 0
  W = operation.access ≡ Writable

  -- what a READ of this line gives now
  abbrev pub GivesNow : Line → Type 0
  GivesNow l = (i : Ref) (x : ReadLine) (m : Ref) → stage_of l ≡ Reads i x → read_after heap operation.access word i x ≡ Gives m → G' i m

  -- the line after a step from this one remembers the like
  abbrev pub Keeps : Line → Type 0
  Keeps l = GivesNow l → Remembers G W l → Remembers G' W (line_after state operation l)

  -- at rest
  rest : (l : Line) → AtRest G W l → Remembers G' W l
  rest l r = remembers_still G G' W more l r.1

  -- where a node is made
  made : (after : Option Ref → Line) → AtRest G W (after None) → ((n : Ref) → AfterMade G W n (after (Some n))) → (o : Option Ref) → Remembers G' W (after o)
  made after none some None = rest (after None) none
  made after none some (Some n) = remembers_still G G' W more (after (Some n)) (some n).1

  -- in a READ
  reads_by : (i : Ref) (after : After ReadLine Ref → Line) → ((next : ReadLine) → ReadRemembers W next → Remembers G' W (after (Goes next))) →
      ((m : Ref) → G' i m → Remembers G' W (after (Gives m))) → (out : After ReadLine Ref) → OutRemembers W out → ((m : Ref) → out ≡ Gives m → G' i m) → Remembers G' W (after out)
  reads_by i after goes gives (Goes next) o now = goes next o
  reads_by i after goes gives (Gives m) o now = gives m (now m refl)

  reads : (l : Line) (i : Ref) (x : ReadLine) → stage_of l ≡ Reads i x → GivesNow l → (after : After ReadLine Ref → Line) → ReadRemembers W x →
      ((next : ReadLine) → ReadRemembers W next → Remembers G' W (after (Goes next))) → ((m : Ref) → G' i m → Remembers G' W (after (Gives m))) →
      Remembers G' W (after (read_after heap operation.access word i x))
  reads l i x is now after r goes gives =
      reads_by i after goes gives (read_after heap operation.access word i x) (read_remembers heap operation.access word i x r) (λ m e. now i x m is e)

  -- ---- KEY and BUILD

  key_keeps : (l : KeyLine) → Keeps (line.Key l)
  key_keeps (key.Read path r) now s =
      reads (line.Key (key.Read path r)) r.indirection r.line refl now (λ o. key_after_read path (at_indirection r.indirection o)) s.0 (λ next o. (o, s.1))
      (λ m g. subst (λ i. G' i m) s.1 g)
  key_keeps (key.Main path main) now s = rest _ (Resting.key_main_rest G W state operation path main (node_at heap main) s)
  key_keeps (key.Entry path main position) now s = rest _ (Resting.key_entry_rest G W state operation path main position (node_at heap (entry_at heap main position)) s)
  key_keeps (key.Listed path main position) now s = rest _ (Resting.key_listed_rest G W state operation path main position (node_at heap (entry_at heap main position)) s)
  key_keeps (key.Sibling path main position former) now s =
      rest _ (Resting.key_sibling_rest G W path main position former (entry_at heap main (1 - position)) (node_at heap (entry_at heap main (1 - position))) s)

  build_keeps : (l : BuildLine) → Keeps (line.Build l)
  build_keeps l now s = made (build_if_made state operation l) (tt, tt) (λ n. Resting.build_made G W state operation l n s) (next_ref heap)

  -- ---- SWAP

  publish_keeps : (why : Purpose) (x : Swap) → G x.indirection x.replaced → (b : Bool) → Remembers G' W (after_swap state operation why x (on_line x (after_publish x.fresh b)))
  publish_keeps why x g true = (tt, more x.indirection x.replaced g)
  publish_keeps why x g false = rest _ (Resting.swapped_rest G W operation (node_at heap x.fresh) why false)

  decides_keeps : (why : Purpose) (x : Swap) → G x.indirection x.replaced → (out : After ReadLine Ref) → OutRemembers W out →
      Remembers G' W (after_swap state operation why x (on_line x (swap_deciding out)))
  decides_keeps why x g (Goes next) o = (o, more x.indirection x.replaced g)
  decides_keeps why x g (Gives m) o = (tt, more x.indirection x.replaced g)

  checks_keeps : (why : Purpose) (x : Swap) (v : Prev) → Remembers G' W (after_swap state operation why x (on_line x (after_check v)))
  checks_keeps why x over.None = rest _ (Resting.swapped_rest G W operation (node_at heap x.fresh) why true)
  checks_keeps why x (over.Pending p) = rest _ (Resting.swapped_rest G W operation (node_at heap x.fresh) why false)
  checks_keeps why x (over.Failed p) = rest _ (Resting.swapped_rest G W operation (node_at heap x.fresh) why false)

  swap_keeps : (why : Purpose) (i a f : Ref) (l : SwapLine) → let x : Swap = record { indirection = i; replaced = a; fresh = f; line = l } in Keeps (line.Swap why x)
  swap_keeps why i a f swap.Publish now s = publish_keeps why (record { indirection = i; replaced = a; fresh = f; line = swap.Publish }) s.1 (main_at heap i == a)
  swap_keeps why i a f (swap.Deciding l) now s =
      decides_keeps why (record { indirection = i; replaced = a; fresh = f; line = swap.Deciding l }) s.1 (read_after heap operation.access word i l)
      (read_remembers heap operation.access word i l s.0)
  swap_keeps why i a f swap.Check now s = checks_keeps why (record { indirection = i; replaced = a; fresh = f; line = swap.Check }) (prev_at heap f)

  -- ---- RENEW, CLEAN and CLIMB

  renew_keeps : (l : RenewLine) → Keeps (line.Renew l)
  renew_keeps (renew.Entry path main done) now s =
      rest _ (Resting.renew_entry_rest G W state operation path main done (next_entry state main done) (node_at heap (next_entry state main done)) s)
  renew_keeps (renew.Read path main done r) now s =
      reads (line.Renew (renew.Read path main done r)) r.indirection r.line refl now (λ o. renew_after_read path main done (at_indirection r.indirection o)) s.0
      (λ next o. (o, more (current path) main s.1)) (λ m g. (more (current path) main s.1, (r.indirection, g)))
  renew_keeps (renew.Link path main done child) now s = made (renew_after_link state path main done) (tt, tt) (λ n. Resting.renew_link_made G W state path main done n s.0) (next_ref heap)
  renew_keeps (renew.Branch path main done) now s = made (renew_after_branch path main) (tt, tt) (λ n. ((refl, s), (tt, s))) (next_ref heap)

  clean_keeps : (l : CleanLine) → Keeps (line.Clean l)
  clean_keeps (clean.Read path r) now s =
      reads (line.Clean (clean.Read path r)) r.indirection r.line refl now (λ o. clean_after_read path (at_indirection r.indirection o)) s.0 (λ next o. (o, s.1))
      (λ m g. subst (λ i. G' i m) s.1 g)
  clean_keeps (clean.Main path main) now s = rest _ (Resting.clean_main_rest G W state path main (node_at heap main) s)
  clean_keeps (clean.Entry path main done) now s =
      rest _ (Resting.clean_entry_rest G W state path main done (next_entry state main done) (node_at heap (next_entry state main done)) s)
  clean_keeps (clean.Child path main done r) now s =
      reads (line.Clean (clean.Child path main done r)) r.indirection r.line refl now (λ o. after_child path main done (at_indirection r.indirection o)) s.0
      (λ next o. (o, more (current path) main s.1)) (λ m g. (more (current path) main s.1, (r.indirection, g)))
  clean_keeps (clean.Tomb path main done child) now s = rest _ (Resting.clean_tomb_rest G W state path main done (node_at heap child) s.0)
  clean_keeps (clean.Contracted path main done) now s = made (clean_after_contracted path main) (tt, tt) (λ n. ((refl, s), (tt, s))) (next_ref heap)

  climb_completing_keeps : (c : Climb) (offer : Descriptor) (x : CompleteLine) → Keeps (line.Climb (climb.Root c (root.Completing (record { offer = offer; line = x }))))
  climb_completing_keeps c offer (complete.Reading x) now s =
      reads (line.Climb (climb.Root c (root.Completing (record { offer = offer; line = complete.Reading x })))) offer.root x refl now
      (λ o. climb_after_root state operation c (after_completing (of_offer offer (after_reading o)))) s (λ next o. o) (λ m g. g)
  climb_completing_keeps c offer (complete.Swap main) now s = tt

  climb_keeps : (l : ClimbLine) → Keeps (line.Climb l)
  climb_keeps (climb.Read c r) now s =
      reads (line.Climb (climb.Read c r)) r.indirection r.line refl now (λ o. climb_after_read c (at_indirection r.indirection o)) s.0 (λ next o. (o, s.1))
      (λ m g. subst (λ i. G' i m) s.1 g)
  climb_keeps (climb.Main c main) now s = rest _ (Resting.climb_main_rest G W state operation c main (node_at heap main) s)
  climb_keeps (climb.Contracted c main) now s = made (climb_after_contracted operation c main) (tt, tt) (λ n. ((refl, s), (tt, s))) (next_ref heap)
  climb_keeps (climb.Root c root.Read) now s = rest _ (Resting.climb_word_rest G W state operation c word)
  climb_keeps (climb.Root c (root.Completing x)) now s = climb_completing_keeps c x.offer x.line now s

  -- ---- ROOT, COPY and WALK

  root_completing_keeps : (offer : Descriptor) (x : CompleteLine) → Keeps (line.Root (root.Completing (record { offer = offer; line = x })))
  root_completing_keeps offer (complete.Reading x) now s =
      reads (line.Root (root.Completing (record { offer = offer; line = complete.Reading x }))) offer.root x refl now
      (λ o. after_root operation (after_completing (of_offer offer (after_reading o)))) s (λ next o. o) (λ m g. g)
  root_completing_keeps offer (complete.Swap main) now s = tt

  root_keeps : (l : RootLine) → Keeps (line.Root l)
  root_keeps root.Read now s = rest _ (Resting.root_word_rest G W operation word)
  root_keeps (root.Completing c) now s = root_completing_keeps c.offer c.line now s

  copy_completing_keeps : (offer : Descriptor) (x : CompleteLine) → Keeps (line.Copy (copy.Complete (record { offer = offer; line = x })))
  copy_completing_keeps offer (complete.Reading x) now s =
      reads (line.Copy (copy.Complete (record { offer = offer; line = complete.Reading x }))) offer.root x refl now
      (λ o. copy_after_complete operation (of_offer offer (after_reading o))) s (λ next o. o) (λ m g. g)
  copy_completing_keeps offer (complete.Swap main) now s = rest _ (Resting.copy_done_rest G W operation (is_carried_out word offer main))

  copy_keeps : (l : CopyLine) → Keeps (line.Copy l)
  copy_keeps (copy.Read at r) now s =
      reads (line.Copy (copy.Read at r)) r.indirection r.line refl now (λ o. copy_after_read operation at (at_indirection r.indirection o)) s.0 (λ next o. (o, s.1))
      (λ m g. (Resting.given_rest G' W operation.call at m (subst (λ i. G' i m) s.1 g)).1)
  copy_keeps (copy.Successor at main) now s = made (copy_if_made operation (copy.Successor at main)) (tt, tt) (λ n. Resting.copy_successor_made G W operation at main n s) (next_ref heap)
  copy_keeps (copy.Second at main successor) now s = made (copy_if_made operation (copy.Second at main successor)) (tt, tt) (λ n. (tt, s)) (next_ref heap)
  copy_keeps (copy.Empty at main) now s = made (copy_if_made operation (copy.Empty at main)) (tt, tt) (λ n. (refl, s)) (next_ref heap)
  copy_keeps (copy.Cleared at main branch) now s = made (copy_if_made operation (copy.Cleared at main branch)) (tt, tt) (λ n. (tt, s)) (next_ref heap)
  copy_keeps (copy.Offer offer) now s = rest _ (Resting.offer_rest G W offer (is_plain word offer.root))
  copy_keeps (copy.Complete c) now s = copy_completing_keeps c.offer c.line now s

  walk_keeps : (l : WalkLine) → Keeps (line.Walk l)
  walk_keeps walk.Root now s = tt
  walk_keeps (walk.Read r todo pairs) now s =
      reads (line.Walk (walk.Read r todo pairs)) r.indirection r.line refl now (λ o. walk_after_read todo pairs (at_indirection r.indirection o)) s (λ next o. o) (λ m g. (r.indirection, g))
  walk_keeps (walk.Main main todo pairs) now s = rest _ (Resting.walk_next_rest G W operation (entries_of (node_at heap main) ++ todo) pairs)
  walk_keeps (walk.Entry todo pairs) now s =
      rest _ (Resting.walk_entry_rest G W operation (first_of todo) (rest_of todo) pairs (node_at heap (first_of todo)))

  -- ---- all lines

  pub line_keeps : (l : Line) → Keeps l
  line_keeps (line.Root l) = root_keeps l
  line_keeps (line.Key l) = key_keeps l
  line_keeps (line.Build l) = build_keeps l
  line_keeps (line.Swap why x) = swap_keeps why x.indirection x.replaced x.fresh x.line
  line_keeps (line.Renew l) = renew_keeps l
  line_keeps (line.Clean l) = clean_keeps l
  line_keeps (line.Climb l) = climb_keeps l
  line_keeps (line.Copy l) = copy_keeps l
  line_keeps (line.Walk l) = walk_keeps l
  line_keeps (line.End answer) = λ now s. s
  line_keeps line.Impossible = λ now s. s
