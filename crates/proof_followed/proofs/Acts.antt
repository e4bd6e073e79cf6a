-- What a line follows gives what its step does.
use Rattle.std.proofs.Common.{◌≡◌, Option, Some, None, refl, sym, ap, ◌∙◌, subst}
use Rattle.proof_followed.specs.Beneath.slot_arena.specs.declared.refs.Ref.{Ref}
use Rattle.proof_followed.specs.Beneath.machine_model.specs.declared.actions.Action.{Action}
use Rattle.proof_followed.specs.Beneath.machine_model.specs.declared.actions.Action.TheVariants as act
use Rattle.proof_followed.specs.Beneath.machine_model.specs.declared.lines.Line.{Line}
use Rattle.proof_followed.specs.Beneath.machine_model.specs.declared.lines.Line.TheVariants as line
use Rattle.proof_followed.specs.Beneath.machine_model.specs.declared.operations.Operation.{Operation}
use Rattle.proof_followed.specs.Beneath.machine_model.specs.declared.reading.Read.{Read}
use Rattle.proof_followed.specs.Beneath.machine_model.specs.declared.reading.ReadLine.{ReadLine}
use Rattle.proof_followed.specs.Beneath.machine_model.specs.declared.reading.ReadLine.TheVariants as read
use Rattle.proof_followed.specs.Beneath.machine_model.specs.declared.repairs.ClimbLine.{ClimbLine}
use Rattle.proof_followed.specs.Beneath.machine_model.specs.declared.repairs.ClimbLine.TheVariants as climb
use Rattle.proof_followed.specs.Beneath.machine_model.specs.declared.roots.CompleteLine.{CompleteLine}
use Rattle.proof_followed.specs.Beneath.machine_model.specs.declared.roots.CompleteLine.TheVariants as complete
use Rattle.proof_followed.specs.Beneath.machine_model.specs.declared.roots.Descriptor.{Descriptor}
use Rattle.proof_followed.specs.Beneath.machine_model.specs.declared.roots.RootLine.{RootLine}
use Rattle.proof_followed.specs.Beneath.machine_model.specs.declared.roots.RootLine.TheVariants as root
use Rattle.proof_followed.specs.Beneath.machine_model.specs.Operations.{line_action, read_of}
use Rattle.proof_followed.specs.Beneath.machine_model.specs.Reading.{read_action}
use Rattle.proof_followed.specs.Beneath.machine_model.specs.Reads.{with_read}
use Rattle.proof_followed.specs.Beneath.machine_model.specs.States.{State}
use Rattle.proof_followed.specs.Beneath.machine_model.specs.Swapping.{complete_action_at, root_action}
use Rattle.proof_followed.specs.Beneath.machine_model.proofs.Embedding.{each_embeds}
use Rattle.proof_followed.specs.Beneath.proof_memory.specs.Wants.{AllHold, action_wants, line_wants, read_wants}
use Rattle.proof_followed.specs.Beneath.proof_memory.proofs.Claims.Nodes.{Heaped}
use Rattle.proof_followed.specs.Beneath.proof_memory.proofs.Claims.Reads.{read_claims}
use Rattle.proof_followed.specs.Beneath.proof_memory.proofs.Lines.Acts.{line_acts}
use Rattle.proof_followed.specs.Beneath.proof_memory.proofs.Lines.Read.{read_acts}
use Rattle.proof_followed.specs.Followed.{asked, asking, met_wants, met_root_wants, followed_wants, followed_action_wants}

module _ (state : State) (operation : Operation) (S : Ref → Type 0) (H : Heaped S state.heap) where
  abbrev Does : Action → Type 0
  Does action = AllHold S state.heap (followed_action_wants action)

  does : (action : Action) → AllHold S state.heap (action_wants action) → Does action
  does (act.Abort offer) h = tt
  does (act.Complete offer main) h = (h.0, (h.1.0, tt))
  does action h = h

  asked_does : (i : Ref) (l : ReadLine) → AllHold S state.heap (read_wants i (asked l)) → Does (read_action i l)
  asked_does i (read.Abort main previous offer) h = tt
  asked_does i read.Main h = does (read_action i read.Main) (read_acts S state.heap i read.Main h)
  asked_does i (read.Prev main) h = does (read_action i (read.Prev main)) (read_acts S state.heap i (read.Prev main) h)
  asked_does i (read.AskRoot main previous) h = tt
  asked_does i (read.Decide main previous told) h = does (read_action i (read.Decide main previous told)) (read_acts S state.heap i (read.Decide main previous told) h)
  asked_does i (read.Restore main previous) h = does (read_action i (read.Restore main previous)) (read_acts S state.heap i (read.Restore main previous) h)

  complete_does : (offer : Descriptor) (l : CompleteLine) → AllHold S state.heap (met_wants offer.root l) → Does (complete_action_at offer l)
  complete_does offer (complete.Reading l) h = asked_does offer.root l h.1
  complete_does offer (complete.Swap main) h = (h.1.0, (h.0, tt))

  root_does : (l : RootLine) → AllHold S state.heap (met_root_wants l) → Does (root_action l)
  root_does root.Read h = tt
  root_does (root.Completing c) h = complete_does c.offer c.line h

  -- by the READ of a line
  by_read : (l : Line) (o : Option Read) → read_of l ≡ o → AllHold S state.heap (line_wants state.limits.hash operation.call operation.access (asking o l)) → Does (line_action state operation l)
  by_read l None e h = does (line_action state operation l) (line_acts state operation S H l h)
  by_read l (Some r) e h =
      let E = each_embeds l r e in
      let acts : line_action state operation l ≡ read_action r.indirection r.line = ap (line_action state operation) (sym E.here) ∙ E.embedded.acts state operation r.line in
      subst Does (sym acts)
      (asked_does r.indirection r.line
      (read_claims S state.heap (record { indirection = r.indirection; line = asked r.line }) state.limits.hash operation.call operation.access (with_read (asked r.line) l)
      (E.embedded.reads (asked r.line)) h))

  climb_does : (l : ClimbLine) → AllHold S state.heap (followed_wants state.limits.hash operation.call operation.access (line.Climb l)) → Does (line_action state operation (line.Climb l))
  climb_does (climb.Root c l) h = root_does l h.1.1.1
  climb_does (climb.Read c r) h = by_read (line.Climb (climb.Read c r)) _ refl h
  climb_does (climb.Main c main) h = by_read (line.Climb (climb.Main c main)) _ refl h
  climb_does (climb.Contracted c main) h = by_read (line.Climb (climb.Contracted c main)) _ refl h

  pub followed_does : (l : Line) → AllHold S state.heap (followed_wants state.limits.hash operation.call operation.access l) → Does (line_action state operation l)
  followed_does (line.Root l) h = root_does l h
  followed_does (line.Climb l) h = climb_does l h
  followed_does (line.Key l) h = by_read (line.Key l) _ refl h
  followed_does (line.Build l) h = by_read (line.Build l) _ refl h
  followed_does (line.Swap why s) h = by_read (line.Swap why s) _ refl h
  followed_does (line.Renew l) h = by_read (line.Renew l) _ refl h
  followed_does (line.Clean l) h = by_read (line.Clean l) _ refl h
  followed_does (line.Copy l) h = by_read (line.Copy l) _ refl h
  followed_does (line.Walk l) h = by_read (line.Walk l) _ refl h
  followed_does (line.End answer) h = tt
  followed_does line.Impossible h = tt
