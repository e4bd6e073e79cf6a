-- What a READ gives is in use.
use Rattle.std.proofs.Common.{◌≡◌, ◌==◌, Bool, true, false, Option, Some, None, refl, sym, subst, ap, ◌∙◌}
use Rattle.std.proofs.lemmas.Option.{none-some, same_Some}
use Rattle.proof_runs.specs.Vocabulary.{Access, Writable, ReadOnly, Prev, Ref, Heap, main_at, prev_at, Line, Operation, After, Gives, Read, ReadLine, SwapLine, CompleteLine, Descriptor, RootLine}
use Rattle.proof_runs.specs.Vocabulary.{RootWord, Plain, Offer, handle_of, State, word_at, Verdict, Commits, Fails, Overtaken, after_ask, after_decide, after_prev, after_restore, at_indirection}
use Rattle.proof_runs.specs.Vocabulary.{read_action, read_after, verdict, complete_action_at, root_action, action_at, action_of, line_action, read_of, completing_read, rooting_read, swapping_read}
use Rattle.proof_runs.specs.Vocabulary.{given_by, given_in, given_now, IsInUse, AllHold, action_wants}
use Rattle.proof_runs.specs.Beneath.slot_arena.specs.declared.nodes.Prev.TheVariants as prev
use Rattle.proof_runs.specs.Beneath.machine_model.specs.declared.copying.CopyLine.TheVariants as copy
use Rattle.proof_runs.specs.Beneath.machine_model.specs.declared.finding.KeyLine.TheVariants as key
use Rattle.proof_runs.specs.Beneath.machine_model.specs.declared.lines.Line.TheVariants as line
use Rattle.proof_runs.specs.Beneath.machine_model.specs.declared.reading.After.TheVariants.{Goes}
use Rattle.proof_runs.specs.Beneath.machine_model.specs.declared.reading.ReadLine.TheVariants as read
use Rattle.proof_runs.specs.Beneath.machine_model.specs.declared.reading.SwapLine.TheVariants as swap
use Rattle.proof_runs.specs.Beneath.machine_model.specs.declared.repairs.CleanLine.TheVariants as clean
use Rattle.proof_runs.specs.Beneath.machine_model.specs.declared.repairs.ClimbLine.TheVariants as climb
use Rattle.proof_runs.specs.Beneath.machine_model.specs.declared.repairs.RenewLine.TheVariants as renew
use Rattle.proof_runs.specs.Beneath.machine_model.specs.declared.roots.CompleteLine.TheVariants as complete
use Rattle.proof_runs.specs.Beneath.machine_model.specs.declared.roots.RootLine.TheVariants as root
use Rattle.proof_runs.specs.Beneath.machine_model.specs.declared.walking.WalkLine.TheVariants as walk
use Rattle.proof_memory.proofs.Claims.Uses.{safe_of}
use Rattle.proof_runs.specs.Beneath.proof_memory.proofs.Claims.Named.{third_claim}

-- ---- a step of a READ

module _ (state : State) (r : Read) where
  complete_reads : (offer : Descriptor) (x : CompleteLine) → completing_read offer x ≡ Some r → complete_action_at offer x ≡ read_action r.indirection r.line
  complete_reads offer (complete.Reading x) e = ap (λ (q : Read). read_action q.indirection q.line) (same_Some _ r e)
  complete_reads offer (complete.Swap m) e = absurd (none-some r e)

  root_reads : (l : RootLine) → rooting_read l ≡ Some r → root_action l ≡ read_action r.indirection r.line
  root_reads root.Read e = absurd (none-some r e)
  root_reads (root.Completing c) e = complete_reads c.offer c.line e

  swap_reads : (i a f : Ref) (x : SwapLine) → swapping_read i x ≡ Some r → action_at i a f x ≡ read_action r.indirection r.line
  swap_reads i a f (swap.Deciding x) e = ap (λ (q : Read). read_action q.indirection q.line) (same_Some _ r e)
  swap_reads i a f x e = absurd (none-some r e)

  at_read : (q : Read) → ◌≡◌ {A = Option Read} (Some q) (Some r) → read_action q.indirection q.line ≡ read_action r.indirection r.line
  at_read q e = ap (λ (x : Read). read_action x.indirection x.line) (same_Some q r e)

  -- where a line is one of a READ, its step is the READ's
  pub line_reads : (operation : Operation) (l : Line) → read_of l ≡ Some r → line_action state operation l ≡ read_action r.indirection r.line
  line_reads operation (line.Root l) e = root_reads l e
  line_reads operation (line.Key (key.Read path q)) e = at_read q e
  line_reads operation (line.Key l) e = absurd (none-some r e)
  line_reads operation (line.Build l) e = absurd (none-some r e)
  line_reads operation (line.Swap why s) e = swap_reads s.indirection s.replaced s.fresh s.line e
  line_reads operation (line.Renew (renew.Read path m done q)) e = at_read q e
  line_reads operation (line.Renew l) e = absurd (none-some r e)
  line_reads operation (line.Clean (clean.Read path q)) e = at_read q e
  line_reads operation (line.Clean (clean.Child path m done q)) e = at_read q e
  line_reads operation (line.Clean l) e = absurd (none-some r e)
  line_reads operation (line.Climb (climb.Read c q)) e = at_read q e
  line_reads operation (line.Climb (climb.Root c l)) e = root_reads l e
  line_reads operation (line.Climb l) e = absurd (none-some r e)
  line_reads operation (line.Copy (copy.Read at q)) e = at_read q e
  line_reads operation (line.Copy (copy.Complete c)) e = complete_reads c.offer c.line e
  line_reads operation (line.Copy l) e = absurd (none-some r e)
  line_reads operation (line.Walk (walk.Read q todo pairs)) e = at_read q e
  line_reads operation (line.Walk l) e = absurd (none-some r e)
  line_reads operation (line.End answer) e = absurd (none-some r e)
  line_reads operation line.Impossible e = absurd (none-some r e)

-- ---- what it gives

-- what a READ gives by its step
abbrev given_read : After ReadLine Ref → Option Ref
given_read (Goes l) = None
given_read (Gives main) = Some main

given_same : (indirection : Ref) (after : After ReadLine Ref) → given_by (at_indirection indirection after) ≡ given_read after
given_same indirection (Goes l) = refl
given_same indirection (Gives main) = refl

module _ (S : Ref → Type 0) (heap : Heap) (main : Ref) where
  prev_gives : (access : Access) (m : Ref) (p : Prev) → given_read (after_prev access m p) ≡ Some main → S m → S main
  prev_gives access m prev.None e s = subst S (same_Some m main e) s
  prev_gives access m (prev.Failed previous) e s = absurd (none-some main e)
  prev_gives Writable m (prev.Pending previous) e s = absurd (none-some main e)
  prev_gives ReadOnly m (prev.Pending previous) e s = absurd (none-some main e)

  decide_gives : (m : Ref) (v : Verdict) → given_read (after_decide m v) ≡ Some main → S m → S main
  decide_gives m Commits e s = subst S (same_Some m main e) s
  decide_gives m Fails e s = absurd (none-some main e)
  decide_gives m (Overtaken true) e s = absurd (none-some main e)
  decide_gives m (Overtaken false) e s = absurd (none-some main e)

  restore_gives : (p : Ref) (b : Bool) → given_read (after_restore p b) ≡ Some main → S p → S main
  restore_gives p true e s = subst S (same_Some p main e) s
  restore_gives p false e s = absurd (none-some main e)

  ask_gives : (m p : Ref) (word : RootWord) → given_read (after_ask heap m p word) ≡ Some main → ⊥
  ask_gives m p (Plain root) e = none-some main e
  ask_gives m p (Offer offer) e = none-some main e

  pub read_gives : (access : Access) (word : RootWord) (indirection : Ref) (l : ReadLine) →
      given_read (read_after heap access word indirection l) ≡ Some main → AllHold S heap (action_wants (read_action indirection l)) → S main
  read_gives access word indirection read.Main e h = absurd (none-some main e)
  read_gives access word indirection (read.Prev m) e h = prev_gives access m (prev_at heap m) e (safe_of h.0)
  read_gives access word indirection (read.AskRoot m p) e h = absurd (ask_gives m p word e)
  read_gives access word indirection (read.Abort m p offer) e h = absurd (none-some main e)
  read_gives access word indirection (read.Decide m p told) e h = decide_gives m (verdict heap indirection m p told) e (safe_of h.1.0)
  read_gives access word indirection (read.Restore m p) e h = restore_gives p (main_at heap indirection == m) e (safe_of (third_claim h))

-- a main node that an operation's READ gives by its step is in use
pub given_used : (state : State) (operation : Operation) (main : Ref) → given_now state operation ≡ Some main →
    AllHold (IsInUse state.heap) state.heap (action_wants (action_of state operation)) → IsInUse state.heap main
given_used state operation main e wants = by (read_of operation.line) refl e
  where
    by : (o : Option Read) → read_of operation.line ≡ o → given_in state operation o ≡ Some main → IsInUse state.heap main
    by None is e = absurd (none-some main e)
    by (Some r) is e =
        read_gives (IsInUse state.heap) state.heap main operation.access (word_at state (handle_of operation.call)) r.indirection r.line
        (sym (given_same r.indirection (read_after state.heap operation.access (word_at state (handle_of operation.call)) r.indirection r.line)) ∙ e)
        (subst (λ a. AllHold (IsInUse state.heap) state.heap (action_wants a)) (line_reads state r operation operation.line is) wants)
