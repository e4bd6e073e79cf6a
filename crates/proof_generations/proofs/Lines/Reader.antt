-- What the line of an operation on a read-only handle knows of generations: whatever it reads, and whatever it is still to read, is closed. Each line hands that on.
use Rattle.std.proofs.Common.{◌≡◌, ℕ, ◌+◌, ◌==◌, ◌&&◌, nat_le, nat_lt, true, false, List, [], ◌∷◌, ◌++◌, length, Some, refl, sym, ap, ◌∙◌, ltb-true}
use Rattle.std.specs.List.{All}
use Rattle.std.proofs.lemmas.Bool.{cond_both, true≢false, false≢true}
use Rattle.std.proofs.lemmas.List.Elements.{All-append, All-get_or, All-head, All-tail, All-nil, All-weaker}
use Rattle.proof_generations.specs.Vocabulary.{Access, Writable, ReadOnly, Call, Clear, Snapshot, Freeze, Ref, Node, Indirection, Branch, Single, Tomb, List as Listed, node_at, entry_at, entries_of}
use Rattle.proof_generations.specs.Vocabulary.{no_ref, has_flag, KeyLine, WhenFound, Answers, Sets, Removes, Line, Operation, After, Gives, Read, RootLine, RootWord, Plain, Offer, WalkLine}
use Rattle.proof_generations.specs.Vocabulary.{handle_of, needs_writable, when_found, inserts, key_of, State, word_at, root_of, flag_in, is_start, read_step, reading, key_after_read, key_after_main}
use Rattle.proof_generations.specs.Vocabulary.{after_tomb, key_after_entry, after_listed, absent, absent_beside, found_so, passes, after_root_word, walk_next, walk_after_read, walk_after_entry}
use Rattle.proof_generations.specs.Vocabulary.{first_of, line_action, line_after, after_root, Reads, stage_of, AllHold, line_wants, action_wants}
use Rattle.proof_generations.specs.Beneath.history.specs.declared.replies.Reply.TheVariants as reply
use Rattle.proof_generations.specs.Beneath.machine_model.specs.declared.finding.KeyLine.TheVariants as key
use Rattle.proof_generations.specs.Beneath.machine_model.specs.declared.lines.Line.TheVariants as line
use Rattle.proof_generations.specs.Beneath.machine_model.specs.declared.reading.After.TheVariants.{Goes}
use Rattle.proof_generations.specs.Beneath.machine_model.specs.declared.roots.RootLine.TheVariants as root
use Rattle.proof_generations.specs.Beneath.machine_model.specs.declared.walking.WalkLine.TheVariants as walk
use Rattle.proof_generations.specs.Beneath.machine_model.specs.Operations.{from_root}
use Rattle.proof_generations.specs.Beneath.proof_memory.proofs.Claims.Uses.{safe_of, meets_of, fact_of}
use Rattle.proof_generations.specs.Beneath.proof_memory.proofs.Claims.Named.{main_claim, past_place}
use Rattle.proof_generations.specs.Beneath.machine_model.proofs.Readers.{reader_inserts, reader_answers}

-- Ends is of entries, Shut of main nodes, Late of READs.
module _ (Ends Shut : Ref → Type 0) (Late : Read → Type 0) where
  abbrev pub ReaderKey : KeyLine → Type 0
  ReaderKey (key.Read path r) = Late r
  ReaderKey (key.Main path main) = Shut main
  ReaderKey (key.Entry path main position) = Shut main
  ReaderKey (key.Listed path main position) = Unit {0}
  ReaderKey (key.Sibling path main position former) = ⊥

  abbrev pub ReaderWalk : WalkLine → Type 0
  ReaderWalk walk.Root = Unit {0}
  ReaderWalk (walk.Read r todo pairs) = Late r × All Ends todo
  ReaderWalk (walk.Main main todo pairs) = Shut main × All Ends todo
  ReaderWalk (walk.Entry todo pairs) = All Ends todo

  -- no offer ever stands there
  abbrev pub ReaderRoot : RootLine → Type 0
  ReaderRoot root.Read = Unit {0}
  ReaderRoot (root.Completing c) = ⊥

  abbrev pub KnowsReader : Line → Type 0
  KnowsReader (line.Root l) = ReaderRoot l
  KnowsReader (line.Key l) = ReaderKey l
  KnowsReader (line.Walk l) = ReaderWalk l
  KnowsReader (line.End answer) = Unit {0}
  KnowsReader line.Impossible = Unit {0}
  KnowsReader l = ⊥

-- ---- what is known stays known

module _ (Ends Shut : Ref → Type 0) (Late : Read → Type 0) (Ends' Shut' : Ref → Type 0) (Late' : Read → Type 0) (ends : (r : Ref) → Ends r → Ends' r) (shut : (m : Ref) → Shut m → Shut' m)
    (late : (r : Read) → Late r → Late' r) where
  key_still : (l : KeyLine) → ReaderKey Ends Shut Late l → ReaderKey Ends' Shut' Late' l
  key_still (key.Read path r) k = late r k
  key_still (key.Main path main) k = shut main k
  key_still (key.Entry path main position) k = shut main k
  key_still (key.Listed path main position) k = k
  key_still (key.Sibling path main position former) k = k

  walk_still : (l : WalkLine) → ReaderWalk Ends Shut Late l → ReaderWalk Ends' Shut' Late' l
  walk_still walk.Root k = k
  walk_still (walk.Read r todo pairs) k = (late r k.0, All-weaker Ends Ends' ends todo k.1)
  walk_still (walk.Main main todo pairs) k = (shut main k.0, All-weaker Ends Ends' ends todo k.1)
  walk_still (walk.Entry todo pairs) k = All-weaker Ends Ends' ends todo k

  root_still : (l : RootLine) → ReaderRoot Ends Shut Late l → ReaderRoot Ends' Shut' Late' l
  root_still root.Read k = k
  root_still (root.Completing c) k = k

  pub reader_still : (l : Line) → KnowsReader Ends Shut Late l → KnowsReader Ends' Shut' Late' l
  reader_still (line.Root l) k = root_still l k
  reader_still (line.Key l) k = key_still l k
  reader_still (line.Walk l) k = walk_still l k
  reader_still (line.End answer) k = tt
  reader_still line.Impossible k = tt
  reader_still (line.Build l) k = absurd k
  reader_still (line.Swap why s) k = absurd k
  reader_still (line.Renew l) k = absurd k
  reader_still (line.Clean l) k = absurd k
  reader_still (line.Climb l) k = absurd k
  reader_still (line.Copy l) k = absurd k

-- ---- a step

-- of the READ in which the line is, Was speaks of the time before the step; all else is of that after it
pub record ReaderStep (state : State) (operation : Operation) (Ends Shut : Ref → Type 0) (Was Late : Read → Type 0) (S : Ref → Type 0) : Type 0 where
  pub read_only : operation.access ≡ ReadOnly
  pub reads : needs_writable operation.call ≡ false
  pub entries_end : (m : Ref) → S m → Shut m → All Ends (entries_of (node_at state.heap m))
  pub late_goes : (r next : Read) → stage_of operation.line ≡ Reads r.indirection r.line → Was r → read_step state operation r ≡ Goes next → Late next
  pub late_gives : (r : Read) (m : Ref) → stage_of operation.line ≡ Reads r.indirection r.line → Was r → read_step state operation r ≡ Gives m → Shut m
  pub begins : (r : Ref) (h : ℕ) (word : Ref) → S r → node_at state.heap r ≡ Indirection h word → Ends r → Late (reading r)
  pub plain : word_at state (handle_of operation.call) ≡ Plain (root_of (word_at state (handle_of operation.call)))
  pub root_late : Late (reading (root_of (word_at state (handle_of operation.call))))

module _ (state : State) (operation : Operation) (Ends Shut : Ref → Type 0) (Was Late : Read → Type 0) (S : Ref → Type 0) (step : ReaderStep state operation Ends Shut Was Late S) where
  abbrev K : Line → Type 0
  K = KnowsReader Ends Shut Late

  inserts_not : inserts operation.call ≡ true → ⊥
  inserts_not e = true≢false (sym e ∙ reader_inserts operation.call step.reads)

  absent_ends : (path : List Ref) (main : Ref) → K (absent operation path main)
  absent_ends path main = cond_both (inserts operation.call) _ _ K (λ e. inserts_not e) (λ e. tt)

  beside_ends : (path : List Ref) (main : Ref) (position : ℕ) → K (absent_beside operation path main position)
  beside_ends path main position = cond_both (inserts operation.call) _ _ K (λ e. inserts_not e) (λ e. tt)

  found_by : (path : List Ref) (main : Ref) (position value : ℕ) (f : WhenFound) → f ≡ Answers (reply.Found (Some value)) → K (found_so state path main position value f)
  found_by path main position value (Answers answer) e = tt
  found_by path main position value Sets e = let wrong : ⊥ = cc e in absurd wrong
  found_by path main position value Removes e = let wrong : ⊥ = cc e in absurd wrong

  found_ends : (path : List Ref) (main : Ref) (position value : ℕ) → K (found_so state path main position value (when_found operation.call value))
  found_ends path main position value = found_by path main position value (when_found operation.call value) (reader_answers operation.call step.reads value)

  tomb_ends : (access : Access) → access ≡ ReadOnly → (path : List Ref) (main : Ref) → K (after_tomb access path main)
  tomb_ends ReadOnly e path main = tt
  tomb_ends Writable e path main = let wrong : ⊥ = cc e in absurd wrong

  main_ends : (path : List Ref) (main : Ref) → Shut main → (n : Node) → K (key_after_main state operation path main n)
  main_ends path main k (Branch bitmap entries) = cond_both (has_flag bitmap (flag_in state operation path)) _ _ K (λ e. k) (λ e. absent_ends path main)
  main_ends path main k (Tomb single) = tomb_ends operation.access step.read_only path main
  main_ends path main k (Listed singles) = tt
  main_ends path main k (Indirection h word) = tt
  main_ends path main k (Single key value) = tt

  entry_ends : (path : List Ref) (main : Ref) (position : ℕ) (n : Node) → ((h : ℕ) (word : Ref) → n ≡ Indirection h word → Late (reading (entry_at state.heap main position))) →
      K (key_after_entry state operation path main position n)
  entry_ends path main position (Indirection h word) late =
      cond_both (passes operation.access (is_start operation h)) _ _ K (λ e. late h word refl) (λ e. absurd (true≢false (sym (ap (λ a. passes a (is_start operation h)) step.read_only) ∙ e)))
  entry_ends path main position (Single key value) late =
      cond_both (key == key_of operation.call) _ _ K (λ e. found_ends path main position value) (λ e. beside_ends path main position)
  entry_ends path main position (Branch bitmap entries) late = tt
  entry_ends path main position (Tomb single) late = tt
  entry_ends path main position (Listed singles) late = tt

  listed_ends : (path : List Ref) (main : Ref) (position : ℕ) (n : Node) → K (after_listed state operation path main position n)
  listed_ends path main position (Single key value) =
      cond_both (key == key_of operation.call) _ _ K (λ e. found_ends path main position value)
      (λ e. cond_both (nat_lt (position + 1) (length (entries_of (node_at state.heap main)))) _ _ K (λ e. tt)
      (λ e. cond_both (inserts operation.call && nat_le 32 (length (entries_of (node_at state.heap main)))) _ _ K (λ e. tt) (λ e. absent_ends path main)))
  listed_ends path main position (Indirection h word) = tt
  listed_ends path main position (Branch bitmap entries) = tt
  listed_ends path main position (Tomb single) = tt
  listed_ends path main position (Listed singles) = tt

  key_ends : (l : KeyLine) → operation.line ≡ line.Key l → ReaderKey Ends Shut Was l → AllHold S state.heap (line_wants state.limits.hash operation.call operation.access (line.Key l)) →
      AllHold S state.heap (action_wants (line_action state operation (line.Key l))) → K (line_after state operation (line.Key l))
  key_ends (key.Read path r) is k w a = by (read_step state operation r) refl
    where
      by : (after : After Read Ref) → read_step state operation r ≡ after → K (key_after_read path after)
      by (Goes next) e = step.late_goes r next (ap stage_of is) k e
      by (Gives m) e = step.late_gives r m (ap stage_of is) k e
  key_ends (key.Main path main) is k w a = main_ends path main k (node_at state.heap main)
  key_ends (key.Entry path main position) is k w a =
      entry_ends path main position (node_at state.heap (entry_at state.heap main position))
      (λ h word e. step.begins (entry_at state.heap main position) h word (safe_of a.0) e
      (All-get_or Ends (entries_of (node_at state.heap main)) position no_ref (ltb-true position (length (entries_of (node_at state.heap main))) (meets_of (past_place w).0))
      (step.entries_end main (safe_of (main_claim w)) k)))
  key_ends (key.Listed path main position) is k w a = listed_ends path main position (node_at state.heap (entry_at state.heap main position))
  key_ends (key.Sibling path main position former) is k w a = absurd k

  -- ---- ROOT

  from_root_ends : (call : Call) → needs_writable call ≡ false → (q : Ref) → Late (reading q) → K (from_root call q)
  from_root_ends (Clear h) n q late = absurd (true≢false n)
  from_root_ends (Snapshot h) n q late = absurd (true≢false n)
  from_root_ends (Freeze h) n q late = absurd (true≢false n)
  from_root_ends call n q late = late

  word_ends : (word : RootWord) → word ≡ Plain (root_of word) → Late (reading (root_of word)) → K (after_root operation (after_root_word word))
  word_ends (Plain q) plain late = from_root_ends operation.call step.reads q late
  word_ends (Offer offer) plain late = let wrong : ⊥ = cc plain in absurd wrong

  -- ---- WALK

  next_ends : (todo : List Ref) (pairs : List (ℕ × ℕ)) → All Ends todo → K (walk_next operation todo pairs)
  next_ends [] pairs k = tt
  next_ends (entry ∷ todo) pairs k = k

  walked_ends : (entry : Ref) (todo : List Ref) (pairs : List (ℕ × ℕ)) → All Ends todo → (n : Node) → ((h : ℕ) (word : Ref) → n ≡ Indirection h word → Late (reading entry)) →
      K (walk_after_entry operation entry todo pairs n)
  walked_ends entry todo pairs k (Indirection h word) late = (late h word refl, k)
  walked_ends entry todo pairs k (Single key value) late = next_ends todo (pairs ++ (key, value) ∷ []) k
  walked_ends entry todo pairs k (Branch bitmap entries) late = tt
  walked_ends entry todo pairs k (Tomb single) late = tt
  walked_ends entry todo pairs k (Listed singles) late = tt

  todo_ends : (todo : List Ref) (pairs : List (ℕ × ℕ)) → All Ends todo → nat_lt 0 (length todo) ≡ true → S (first_of todo) → K (line_after state operation (line.Walk (walk.Entry todo pairs)))
  todo_ends [] pairs k long used = absurd (false≢true long)
  todo_ends (entry ∷ todo) pairs k long used =
      walked_ends entry todo pairs (All-tail Ends entry todo k) (node_at state.heap entry) (λ h word e. step.begins entry h word used e (All-head Ends entry todo k))

  walk_ends : (l : WalkLine) → operation.line ≡ line.Walk l → ReaderWalk Ends Shut Was l → AllHold S state.heap (line_wants state.limits.hash operation.call operation.access (line.Walk l)) →
      AllHold S state.heap (action_wants (line_action state operation (line.Walk l))) → K (line_after state operation (line.Walk l))
  walk_ends walk.Root is k w a = (step.root_late, All-nil Ends)
  walk_ends (walk.Read r todo pairs) is k w a = by (read_step state operation r) refl
    where
      by : (after : After Read Ref) → read_step state operation r ≡ after → K (walk_after_read todo pairs after)
      by (Goes next) e = (step.late_goes r next (ap stage_of is) k.0 e, k.1)
      by (Gives m) e = (step.late_gives r m (ap stage_of is) k.0 e, k.1)
  walk_ends (walk.Main main todo pairs) is k w a =
      next_ends (entries_of (node_at state.heap main) ++ todo) pairs (All-append Ends (entries_of (node_at state.heap main)) todo (step.entries_end main (safe_of w.1.0) k.0) k.1)
  walk_ends (walk.Entry todo pairs) is k w a = todo_ends todo pairs k (fact_of w.1.0) (safe_of a.0)

  pub reader_falls : (l : Line) → operation.line ≡ l → KnowsReader Ends Shut Was l → AllHold S state.heap (line_wants state.limits.hash operation.call operation.access l) →
      AllHold S state.heap (action_wants (line_action state operation l)) → K (line_after state operation l)
  reader_falls (line.Root root.Read) is k w a = word_ends (word_at state (handle_of operation.call)) step.plain step.root_late
  reader_falls (line.Root (root.Completing c)) is k w a = absurd k
  reader_falls (line.Key l) is k w a = key_ends l is k w a
  reader_falls (line.Walk l) is k w a = walk_ends l is k w a
  reader_falls (line.End answer) is k w a = tt
  reader_falls line.Impossible is k w a = tt
  reader_falls (line.Build l) is k w a = absurd k
  reader_falls (line.Swap why s) is k w a = absurd k
  reader_falls (line.Renew l) is k w a = absurd k
  reader_falls (line.Clean l) is k w a = absurd k
  reader_falls (line.Climb l) is k w a = absurd k
  reader_falls (line.Copy l) is k w a = absurd k
