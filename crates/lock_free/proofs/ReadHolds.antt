-- An operation that is in a READ has at hand what the READ names.
use Rattle.history.specs.declared.calls.Access.{Access}
use Rattle.history.specs.declared.calls.Call.{Call}
use Rattle.std.proofs.Common.{◌≡◌, List, [], ◌∷◌, ◌++◌, Contains, Some, sym, subst, arith}
use Rattle.std.proofs.lemmas.Grind.{flat_map-append}
use Rattle.std.proofs.lemmas.List.Elements.{Contains-append_left, Contains-append_right}
use Rattle.std.proofs.lemmas.Option.{none-some, same_Some}
use Rattle.machine_model.specs.Beneath.slot_arena.specs.declared.refs.Ref.{Ref}
use Rattle.machine_model.specs.declared.reading.Read.{Read}
use Rattle.machine_model.specs.declared.reading.SwapLine.{SwapLine}
use Rattle.machine_model.specs.declared.reading.SwapLine.TheVariants as swap
use Rattle.machine_model.specs.declared.roots.CompleteLine.{CompleteLine}
use Rattle.machine_model.specs.declared.roots.CompleteLine.TheVariants as complete
use Rattle.machine_model.specs.declared.roots.Descriptor.{Descriptor}
use Rattle.machine_model.specs.declared.roots.RootLine.TheVariants as root
use Rattle.machine_model.specs.declared.finding.KeyLine.TheVariants as key
use Rattle.machine_model.specs.declared.repairs.RenewLine.TheVariants as renew
use Rattle.machine_model.specs.declared.repairs.CleanLine.TheVariants as clean
use Rattle.machine_model.specs.declared.repairs.ClimbLine.TheVariants as climb
use Rattle.machine_model.specs.declared.copying.CopyLine.TheVariants as copy
use Rattle.machine_model.specs.declared.walking.WalkLine.TheVariants as walk
use Rattle.machine_model.specs.declared.lines.Line.{Line}
use Rattle.machine_model.specs.declared.lines.Line.TheVariants as line
use Rattle.machine_model.specs.declared.operations.Operation.{Operation}
use Rattle.machine_model.specs.Operations.{read_of, completing_read, swapping_read}
use Rattle.machine_model.specs.States.{State}
use Rattle.proof_memory.specs.Vocabulary.{HashKind}
use Rattle.proof_memory.specs.Wants.{Claim, Is, Each, AnIndirection, AMain, AnEntry, read_wants, offer_wants, complete_wants, swap_line_wants, purpose_wants, path_wants, done_wants, climb_carries}
use Rattle.proof_memory.specs.Wants.{line_wants}
use Rattle.lock_free.specs.Live.{refs_of_claim, refs_of_claims, line_claims, at_hand}

module _ (q : Ref) where
  abbrev Has : List Claim → Type 0
  Has claims = Contains (refs_of_claims claims) q

  after : (a b : List Claim) → Has b → Has (a ++ b)
  after a b h = subst (λ xs. Contains xs q) (sym (flat_map-append refs_of_claim a b)) (Contains-append_right (refs_of_claims a) (refs_of_claims b) q h)

  before : (a b : List Claim) → Has a → Has (a ++ b)
  before a b h = subst (λ xs. Contains xs q) (sym (flat_map-append refs_of_claim a b)) (Contains-append_left (refs_of_claims a) (refs_of_claims b) q h)

  abbrev Its : Read → Type 0
  Its r = Has (read_wants r.indirection r.line)

  same : (p r : Read) → Some p ≡ Some r → Its r → Its p
  same p r e h = subst (λ z. Its z) (sym (same_Some p r e)) h

  completing : (offer : Descriptor) (l : CompleteLine) (r : Read) → completing_read offer l ≡ Some r → Its r → Has (complete_wants offer l)
  completing offer (complete.Reading x) r e h = after (offer_wants offer) (read_wants offer.root x) (same (record { indirection = offer.root; line = x }) r e h)
  completing offer (complete.Swap main) r e h = absurd (none-some r e)

  swapping : (i : Ref) (l : SwapLine) (r : Read) → swapping_read i l ≡ Some r → Its r → Has (swap_line_wants i l)
  swapping i (swap.Deciding x) r e h = same (record { indirection = i; line = x }) r e h
  swapping i swap.Publish r e h = absurd (none-some r e)
  swapping i swap.Check r e h = absurd (none-some r e)

  module _ (kind : HashKind) (call : Call) (access : Access) where
    claims_in : (l : Line) (r : Read) → read_of l ≡ Some r → Its r → Has (line_wants kind call access l)
    claims_in (line.Root root.Read) r e h = absurd (none-some r e)
    claims_in (line.Root (root.Completing c)) r e h = completing c.offer c.line r e h
    claims_in (line.Key (key.Read path p)) r e h = after (path_wants path) (read_wants p.indirection p.line) (same p r e h)
    claims_in (line.Key l) r e h = absurd (grind arith)
    claims_in (line.Build l) r e h = absurd (none-some r e)
    claims_in (line.Swap why s) r e h =
        before (Is s.indirection AnIndirection ∷ Is s.replaced AMain ∷ Is s.fresh AMain ∷ swap_line_wants s.indirection s.line) (purpose_wants why)
        (after (Is s.indirection AnIndirection ∷ Is s.replaced AMain ∷ Is s.fresh AMain ∷ []) (swap_line_wants s.indirection s.line) (swapping s.indirection s.line r e h))
    claims_in (line.Renew (renew.Read path main done p)) r e h = after (done_wants path main done) (read_wants p.indirection p.line) (same p r e h)
    claims_in (line.Renew l) r e h = absurd (grind arith)
    claims_in (line.Clean (clean.Read path p)) r e h = after (path_wants path) (read_wants p.indirection p.line) (same p r e h)
    claims_in (line.Clean (clean.Child path main done p)) r e h = after (done_wants path main done) (read_wants p.indirection p.line) (same p r e h)
    claims_in (line.Clean l) r e h = absurd (grind arith)
    claims_in (line.Climb (climb.Read c p)) r e h = after (climb_carries c) (read_wants p.indirection p.line) (same p r e h)
    claims_in (line.Climb (climb.Root c root.Read)) r e h = absurd (none-some r e)
    claims_in (line.Climb (climb.Root c (root.Completing p))) r e h = after (climb_carries c) (complete_wants p.offer p.line) (completing p.offer p.line r e h)
    claims_in (line.Climb l) r e h = absurd (grind arith)
    claims_in (line.Copy (copy.Read at p)) r e h = after (Is at AnIndirection ∷ []) (read_wants p.indirection p.line) (same p r e h)
    claims_in (line.Copy (copy.Complete c)) r e h = completing c.offer c.line r e h
    claims_in (line.Copy l) r e h = absurd (grind arith)
    claims_in (line.Walk (walk.Read p todo pairs)) r e h = after (Each todo AnEntry ∷ []) (read_wants p.indirection p.line) (same p r e h)
    claims_in (line.Walk l) r e h = absurd (grind arith)
    claims_in (line.End answer) r e h = absurd (none-some r e)
    claims_in line.Impossible r e h = absurd (none-some r e)

pub reading_holds : (state : State) (o : Operation) (r : Read) → read_of o.line ≡ Some r → (q : Ref) → Contains (refs_of_claims (read_wants r.indirection r.line)) q → Contains (at_hand state o) q
reading_holds state o r is q h = Contains-append_left (refs_of_claims (line_claims state o)) o.private q (claims_in q state.limits.hash o.call o.access o.line r is h)
