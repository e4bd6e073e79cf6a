-- What a step of an operation's programs asks is what its line takes its references for.
use Rattle.std.proofs.Common.{◌≡◌, ℕ, ◌+◌, ◌<◌, List, length, Option, Some, None, refl, sym, ap, subst, ◌∙◌}
use Rattle.machine_core.specs.Vocabulary.{Access, Writable, ReadOnly, Ref, Node, Indirection, Heap, empty_branch, Action, Line, Operation, Read as Defined, ReadLine, Climb, Descriptor}
use Rattle.machine_core.specs.Vocabulary.{completing_read, line_action, read_of, rooting_read, swapping_read, above, State, action_at, complete_action_at, root_action, birth_limit, completing_at}
use Rattle.machine_core.specs.Vocabulary.{rooting_at, swapping_at, with_read, action_wants, read_wants, ReadAt, SwapAt, CanReadAt, CanReadOn, line_of, CanSwapAt, swap_line_at, at_heap, CanMake}
use Rattle.machine_core.specs.Vocabulary.{CompleteAt, CanCompleteAt, CanRootOn, ReadsItsRoot, ReadsOffered, complete_line_at, Table, ChangeAt, CanChangeAt, CleanAt, ClimbAt, RenewAt, CanCleanAt}
use Rattle.machine_core.specs.Vocabulary.{clean_line_at, CanClimbAt, climb_line_at, climb_of, CanRenewAt, renew_line_at, BelowAt, KeyAt, KeyOp, below_line, key_line_at, CanBelow, CanKeyAt}
use Rattle.machine_core.specs.Vocabulary.{operation_for, Making, CopyAt, WalkAt, CanCopyAt, making_line, copy_line_at, CanWalkAt, walk_line_at, Work, LineHasRoom}
use Rattle.epochs.specs.Memories.{Memory}
use Rattle.machine_model.specs.declared.actions.Action.TheVariants as act
use Rattle.machine_model.specs.declared.lines.Line.TheVariants as line
use Rattle.machine_model.specs.declared.reading.ReadLine.TheVariants as read
use Rattle.machine_core.specs.Beneath.proof_memory.proofs.Claims.Uses.{meets_of, safe_of}
use Rattle.machine_core.specs.Beneath.operate.specs.Beneath.gcas.specs.declared.read.Read.{Read}
use Rattle.machine_core.specs.Beneath.operate.specs.Beneath.gcas.specs.declared.read.ReadAt.TheVariants as at
use Rattle.machine_core.specs.Beneath.operate.specs.Beneath.gcas.specs.declared.swap.SwapAt.TheVariants as swap
use Rattle.machine_core.specs.Beneath.operate.specs.Beneath.gcas.specs.Reads.{line_at}
use Rattle.machine_core.specs.Beneath.rdcss_root.specs.declared.complete.CompleteAt.TheVariants as complete
use Rattle.machine_core.specs.Beneath.rdcss_root.specs.declared.root.ReadRoot.{ReadRoot}
use Rattle.machine_core.specs.Beneath.rdcss_root.specs.declared.root.ReadRoot.TheVariants as rooting
use Rattle.machine_core.specs.Beneath.rdcss_root.specs.Holding.{IsReady}
use Rattle.machine_core.specs.Beneath.rdcss_root.specs.Programs.{root_of}
use Rattle.machine_core.specs.Beneath.operate.specs.Beneath.key_change.specs.declared.change.ChangeAt.TheVariants as change
use Rattle.machine_core.specs.Beneath.operate.specs.Beneath.key_change.specs.Lines.{line_at as change_at}
use Rattle.machine_core.specs.Beneath.operate.specs.Beneath.key_change.proofs.Made.{builds}
use Rattle.machine_core.specs.Beneath.operate.specs.Beneath.contract.specs.declared.clean.CleanAt.TheVariants as clean
use Rattle.machine_core.specs.Beneath.operate.specs.Beneath.contract.specs.declared.climb.ClimbAt.TheVariants as climb
use Rattle.machine_core.specs.Beneath.operate.specs.Beneath.contract.specs.declared.renew.RenewAt.TheVariants as renew
use Rattle.machine_core.specs.Beneath.operate.specs.Beneath.contract.proofs.Made.{climbs}
use Rattle.machine_core.specs.Beneath.operate.specs.declared.key_op.BelowAt.TheVariants as below
use Rattle.machine_core.specs.Beneath.operate.specs.declared.key_op.KeyAt.TheVariants as key
use Rattle.machine_core.specs.Beneath.operate.specs.Steps.{ReadsAt}
use Rattle.machine_core.specs.Beneath.snapshot.specs.declared.copy_op.Making.TheVariants as making
use Rattle.machine_core.specs.Beneath.snapshot.specs.declared.copy_op.CopyAt.TheVariants as copy
use Rattle.machine_core.specs.Beneath.snapshot.specs.declared.walk.WalkAt.TheVariants as walk
use Rattle.machine_core.specs.Beneath.snapshot.specs.Copies.{made_node, ReadsAt as CopyReadsAt}
use Rattle.machine_core.specs.Beneath.proof_operations.specs.Laws.{MakesNode}
use Rattle.proof_core.proofs.Claims.{Lives, node_live, offer_live}
use Rattle.machine_core.specs.Beneath.proof_memory.proofs.Claims.Named.{third_claim}

-- ---- a READ

-- the definition's line of this READ, whatever it was told, or while it takes an offer back
pub data IsLineOf (r : Read) : ReadLine → Type 0 where
  told : (t : Option ℕ) → IsLineOf r (line_of r t)
  met : (main previous : Ref) (offer : Descriptor) → r.at ≡ at.Decide main previous → IsLineOf r (read.Abort main previous offer)

reads_at : (heap : Heap) (indirection : Ref) (access : Access) (t : Option ℕ) (place : ReadAt) → Lives heap (read_wants indirection (line_at access t place)) → CanReadAt heap indirection place
reads_at heap indirection access t at.Main h = tt
reads_at heap indirection access t (at.Prev main) h = tt
reads_at heap indirection ReadOnly t (at.Decide main previous) h = (safe_of h.1.0, meets_of h.1.0, safe_of (third_claim h))
reads_at heap indirection Writable None (at.Decide main previous) h = (safe_of h.1.0, meets_of h.1.0, safe_of (third_claim h))
reads_at heap indirection Writable (Some generation) (at.Decide main previous) h = (safe_of h.1.0, meets_of h.1.0, safe_of (third_claim h))
reads_at heap indirection access t (at.Restore main previous) h = (safe_of h.0, meets_of h.0, safe_of (third_claim h))
reads_at heap indirection access t (at.Given main) h = tt

can_read : (heap : Heap) (r : Read) (here : ReadLine) → IsLineOf r here → Lives heap (read_wants r.indirection here) → CanReadOn heap r
can_read heap r here (told t) h = reads_at heap r.indirection r.access t r.at h
can_read heap r here (met main previous offer is) h = subst (CanReadAt heap r.indirection) (sym is) (safe_of h.1.0, meets_of h.1.0, safe_of (third_claim h))

-- ---- a line

-- what the line's READ and what its step touches is what it is taken for, births don't run out, and there is room for what it adds
pub record Finds (heap : Heap) (private : List Ref) (state : State) (operation : Operation) (l : Line) : Type 0 where
  pub reads : (r : Defined) → read_of l ≡ Some r → Lives heap (read_wants r.indirection r.line)
  pub does : Lives heap (action_wants (line_action state operation l))
  pub births : heap.births + 1 < birth_limit
  pub room : LineHasRoom l
  pub makes : MakesNode (line_action state operation l) → length private < 33

module _ (memory : Memory) (table : Table) (private : List Ref) (state : State) (operation : Operation) (ready : IsReady memory table.roots 8) where
  made : (l : Line) (node : Node) → Finds memory.heap private state operation l → line_action state operation l ≡ act.Make node → CanMake memory.heap private node
  made l node finds is =
      (finds.births, node_live memory.heap node (subst (λ (a : Action). Lives memory.heap (action_wants a)) is finds.does).1, finds.makes (subst MakesNode (sym is) tt))

  module _ (r : Read) (here : ReadLine) (stands : IsLineOf r here) where
    -- the READ is the one of this line
    own_read : (l : Line) → Finds memory.heap private state operation l → read_of l ≡ Some (record { indirection = r.indirection; line = here }) → CanReadOn memory.heap r
    own_read l finds is = can_read memory.heap r here stands (finds.reads (record { indirection = r.indirection; line = here }) is)

    -- ---- COMPLETE, ROOT and SWAP

    can_complete : (offer : Descriptor) (place : CompleteAt) (l : Line) → ReadsOffered place offer r →
        line_action state operation l ≡ complete_action_at offer (completing_at here (complete_line_at place (line_of r None))) →
        read_of l ≡ completing_read offer (completing_at here (complete_line_at place (line_of r None))) →
        Finds memory.heap private state operation l → CanCompleteAt memory table offer place r
    can_complete offer complete.Reading l root acts reads finds =
        (root, own_read l finds (reads ∙ ap (λ i. Some (record { indirection = i; line = here })) (sym root)))
    can_complete offer (complete.Swap main) l root acts reads finds =
        (offer_live memory.heap offer (subst (λ (a : Action). Lives memory.heap (action_wants a)) acts finds.does).1, ready)

    can_root : (root : ReadRoot) (l : Line) → ReadsItsRoot root r → line_action state operation l ≡ root_action (rooting_at here (root_of root r None)) →
        read_of l ≡ rooting_read (rooting_at here (root_of root r None)) → Finds memory.heap private state operation l → CanRootOn memory table root r
    can_root rooting.Read l root acts reads finds = tt
    can_root (rooting.Completing c) l root acts reads finds = can_complete c.offer c.at l root acts reads finds

    can_swap : (replaced fresh : Ref) (place : SwapAt) (l : Line) →
        line_action state operation l ≡ action_at r.indirection replaced fresh (swapping_at here (swap_line_at place (line_of r None))) →
        read_of l ≡ swapping_read r.indirection (swapping_at here (swap_line_at place (line_of r None))) →
        Finds memory.heap private state operation l → CanSwapAt memory.heap r fresh place
    can_swap replaced fresh swap.Publish l acts reads finds =
        let does = subst (λ (a : Action). Lives memory.heap (action_wants a)) acts finds.does in
        (safe_of does.0, meets_of does.0, safe_of (third_claim does))
    can_swap replaced fresh swap.Deciding l acts reads finds = own_read l finds reads
    can_swap replaced fresh swap.Check l acts reads finds = tt

    -- ---- what is made for the swap of a root, and a walk

    can_make : (root : Ref) (generation : ℕ) (m : Making) → Finds memory.heap private state operation (line.Copy (making_line root m)) → CanMake memory.heap private (made_node generation m)
    can_make root generation (making.Successor main) finds = (finds.births, node_live memory.heap (Indirection generation main) finds.does, finds.makes tt)
    can_make root generation (making.Second main successor) finds = (finds.births, node_live memory.heap (Indirection generation main) finds.does, finds.makes tt)
    can_make root generation (making.Empty main) finds = made (line.Copy (making_line root (making.Empty main))) empty_branch finds refl
    can_make root generation (making.Cleared main branch) finds = (finds.births, node_live memory.heap (Indirection generation branch) finds.does, finds.makes tt)

    make_same : (root : Ref) (m : Making) → with_read here (line.Copy (making_line root m)) ≡ line.Copy (making_line root m)
    make_same root (making.Successor main) = refl
    make_same root (making.Second main successor) = refl
    make_same root (making.Empty main) = refl
    make_same root (making.Cleared main branch) = refl

    pub can_walk : (todo : List Ref) (pairs : List (ℕ × ℕ)) (place : WalkAt) → Finds memory.heap private state operation (with_read here (walk_line_at r None todo pairs place)) →
        CanWalkAt memory.heap r place
    can_walk todo pairs walk.Root finds = tt
    can_walk todo pairs walk.Read finds = own_read _ finds refl
    can_walk todo pairs (walk.Main main) finds = tt
    can_walk todo pairs walk.Entry finds = tt

-- ---- a snapshot, a freeze or a clear

module _ (memory : Memory) (table : Table) (w : Work) (state : State) (operation : Operation) (ready : IsReady memory table.roots 8) (here : ReadLine) (stands : IsLineOf w.swap.read here) where
  pub can_copy : (root : Ref) (generation : ℕ) (place : CopyAt) → CopyReadsAt place w.swap.read →
      Finds memory.heap w.private state operation (with_read here (copy_line_at root w.swap.read None place)) → CanCopyAt memory table w generation place
  can_copy root generation (copy.Root l) is finds = can_root memory table w.private state operation ready w.swap.read here stands l _ is refl refl finds
  can_copy root generation copy.Read is finds = own_read memory table w.private state operation ready w.swap.read here stands _ finds refl
  can_copy root generation (copy.Make m) is finds =
      can_make memory table w.private state operation ready w.swap.read here stands root generation m
      (subst (Finds memory.heap w.private state operation) (make_same memory table w.private state operation ready w.swap.read here stands root m) finds)
  can_copy root generation (copy.Offer offer) is finds = offer_live memory.heap offer.descriptor finds.does
  can_copy root generation (copy.Complete c) is finds = can_complete memory table w.private state operation ready w.swap.read here stands c.offer c.at _ is refl refl finds

-- ---- a call on one key

module _ (memory : Memory) (table : Table) (other : State) (beside : Operation) (ready : IsReady memory table.roots 8) (op : KeyOp) (here : ReadLine) (stands : IsLineOf op.work.swap.read here) where
  can_change : (main : Ref) (place : ChangeAt) →
      Finds memory.heap op.work.private (at_heap other memory.heap op.task.hashes) (operation_for op beside) (with_read here (change_at op.path op.work.swap None main place)) →
      CanChangeAt memory.heap op.task op.path op.work main place
  can_change main (change.Sibling position former) finds = tt
  can_change main (change.Build building) finds =
      made memory table op.work.private _ _ ready _ _ finds (builds memory.heap op.task op.work.swap.read.access op.path main building other beside)
  can_change main (change.Swap former) finds =
      can_swap memory table op.work.private _ _ ready op.work.swap.read here stands op.work.swap.replaced op.work.swap.fresh op.work.swap.at _ refl refl finds

  can_renew : (main : Ref) (done : List Ref) (place : RenewAt) →
      Finds memory.heap op.work.private (at_heap other memory.heap op.task.hashes) (operation_for op beside) (with_read here (renew_line_at op.path op.work.swap None main done place)) →
      CanRenewAt memory.heap op.work main done place
  can_renew main done renew.Entry finds = finds.room
  can_renew main done renew.Read finds = own_read memory table op.work.private _ _ ready op.work.swap.read here stands _ finds refl
  can_renew main done (renew.Link child) finds = (made memory table op.work.private _ _ ready _ _ finds refl, finds.room)
  can_renew main done renew.Branch finds = made memory table op.work.private _ _ ready _ _ finds refl
  can_renew main done renew.Swap finds =
      can_swap memory table op.work.private _ _ ready op.work.swap.read here stands op.work.swap.replaced op.work.swap.fresh op.work.swap.at _ refl refl finds

  can_clean : (main : Ref) (done : List Ref) (place : CleanAt) →
      Finds memory.heap op.work.private (at_heap other memory.heap op.task.hashes) (operation_for op beside) (with_read here (clean_line_at (above op.path) op.work.swap None main done place)) →
      CanCleanAt memory.heap (above op.path) op.work main done place
  can_clean main done clean.Read finds = own_read memory table op.work.private _ _ ready op.work.swap.read here stands _ finds refl
  can_clean main done clean.Main finds = tt
  can_clean main done clean.Entry finds = finds.room
  can_clean main done clean.Child finds = own_read memory table op.work.private _ _ ready op.work.swap.read here stands _ finds refl
  can_clean main done (clean.Tomb child) finds = finds.room
  can_clean main done clean.Contracted finds = made memory table op.work.private _ _ ready _ _ finds refl
  can_clean main done clean.Swap finds =
      can_swap memory table op.work.private _ _ ready op.work.swap.read here stands op.work.swap.replaced op.work.swap.fresh op.work.swap.at _ refl refl finds

  can_climb : (c : Climb) (place : ClimbAt) → Finds memory.heap op.work.private (at_heap other memory.heap op.task.hashes) (operation_for op beside)
      (with_read here (climb_line_at op.work.swap None c place)) →
      CanClimbAt memory.heap op.task op.work c place
  can_climb c climb.Read finds = own_read memory table op.work.private _ _ ready op.work.swap.read here stands _ finds refl
  can_climb c (climb.Main main) finds = tt
  can_climb c (climb.Contracted main) finds =
      made memory table op.work.private _ _ ready _ _ finds (ap act.Make (sym (climbs memory.heap op.task op.work.swap.read.access other beside c main)))
  can_climb c climb.Swap finds =
      can_swap memory table op.work.private _ _ ready op.work.swap.read here stands op.work.swap.replaced op.work.swap.fresh op.work.swap.at _ refl refl finds

  can_below : (place : BelowAt) → Finds memory.heap op.work.private (at_heap other memory.heap op.task.hashes) (operation_for op beside) (with_read here (below_line op None place)) →
      CanBelow memory.heap op place
  can_below below.Read finds = own_read memory table op.work.private _ _ ready op.work.swap.read here stands _ finds refl
  can_below (below.Main main) finds = tt
  can_below (below.Entry main position) finds = finds.room
  can_below (below.Listed main position) finds = tt
  can_below below.Change finds = can_change op.change.main op.change.at finds
  can_below below.Renew finds = can_renew op.renew.main op.renew.done.items op.renew.at finds
  can_below below.Clean finds = can_clean op.clean.main op.clean.done.items op.clean.at finds
  can_below below.Climb finds = can_climb (climb_of op.path op.climb) op.climb.at finds
  can_below below.End finds = tt
  can_below below.Impossible finds = tt

  pub can_key : (place : KeyAt) → ReadsAt op.root op.work.swap.read place →
      Finds memory.heap op.work.private (at_heap other memory.heap op.task.hashes) (operation_for op beside) (with_read here (key_line_at op None place)) → CanKeyAt memory table op place
  can_key key.Root reads finds = can_root memory table op.work.private _ _ ready op.work.swap.read here stands op.root _ reads refl refl finds
  can_key key.RootAgain reads finds = can_root memory table op.work.private _ _ ready op.work.swap.read here stands op.root _ reads refl refl finds
  can_key (key.Down place) reads finds = can_below place finds
