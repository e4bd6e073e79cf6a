-- What a READ takes its references for is among the claims of the line on which it is.
use Rattle.std.proofs.Common.{◌≡◌, List, ◌++◌, Some, subst, arith}
use Rattle.std.proofs.lemmas.Option.{none-some, same_Some}
use Rattle.proof_memory.specs.Vocabulary.{HashKind, Access, Call, Ref, Heap, Line, Read, ReadLine, SwapLine, CompleteLine, Descriptor, RootLine, completing_read, read_of, rooting_read}
use Rattle.proof_memory.specs.Vocabulary.{swapping_read}
use Rattle.machine_model.specs.declared.copying.CopyLine.TheVariants as copy
use Rattle.machine_model.specs.declared.finding.KeyLine.TheVariants as key
use Rattle.machine_model.specs.declared.lines.Line.TheVariants as line
use Rattle.machine_model.specs.declared.reading.ReadLine.TheVariants as read
use Rattle.machine_model.specs.declared.reading.SwapLine.TheVariants as swap
use Rattle.machine_model.specs.declared.repairs.CleanLine.TheVariants as clean
use Rattle.machine_model.specs.declared.repairs.ClimbLine.TheVariants as climb
use Rattle.machine_model.specs.declared.repairs.RenewLine.TheVariants as renew
use Rattle.machine_model.specs.declared.roots.CompleteLine.TheVariants as complete
use Rattle.machine_model.specs.declared.roots.RootLine.TheVariants as root
use Rattle.machine_model.specs.declared.walking.WalkLine.TheVariants as walk
use Rattle.proof_memory.specs.Wants.{AllHold, AnIndirection, Claim, Holds, Is, climb_carries, complete_wants, copy_wants, done_wants, line_wants}
use Rattle.proof_memory.specs.Wants.{offer_wants, path_wants, purpose_wants, read_wants, root_wants, swap_line_wants, swap_wants, walk_wants}
use Rattle.proof_memory.proofs.Claims.Uses.{first_hold, last_hold}
use Rattle.proof_memory.proofs.Claims.Named.{past_third}

-- what is read is an indirection
pub read_link : (S : Ref → Type 0) (heap : Heap) (i : Ref) (l : ReadLine) → AllHold S heap (read_wants i l) → Holds S heap (Is i AnIndirection)
read_link S heap i read.Main h = h.0
read_link S heap i (read.Prev m) h = h.0
read_link S heap i (read.AskRoot m p) h = h.0
read_link S heap i (read.Abort m p offer) h = h.0
read_link S heap i (read.Decide m p told) h = h.0
read_link S heap i (read.Restore m p) h = h.0

module _ (S : Ref → Type 0) (heap : Heap) (r : Read) where
  -- the claims of the READ are among these
  abbrev pub Reads : List Claim → Type 0
  Reads claims = AllHold S heap claims → AllHold S heap (read_wants r.indirection r.line)

  so : (claims : List Claim) (q : Read) → Some q ≡ Some r → (AllHold S heap claims → AllHold S heap (read_wants q.indirection q.line)) → Reads claims
  so claims q is each h = subst (λ (x : Read). AllHold S heap (read_wants x.indirection x.line)) (same_Some q r is) (each h)

  behind : (first : List Claim) (q : Read) → Some q ≡ Some r → Reads (first ++ read_wants q.indirection q.line)
  behind first q is = so (first ++ read_wants q.indirection q.line) q is (λ h. last_hold S heap first (read_wants q.indirection q.line) h)

  completes : (offer : Descriptor) (l : CompleteLine) → completing_read offer l ≡ Some r → Reads (complete_wants offer l)
  completes offer (complete.Reading l) is =
      so (complete_wants offer (complete.Reading l)) (record { indirection = offer.root; line = l }) is (λ h. last_hold S heap (offer_wants offer) (read_wants offer.root l) h)
  completes offer (complete.Swap main) is = absurd (none-some r is)

  roots : (l : RootLine) → rooting_read l ≡ Some r → Reads (root_wants l)
  roots root.Read is = absurd (none-some r is)
  roots (root.Completing c) is = completes c.offer c.line is

  swaps : (indirection : Ref) (l : SwapLine) → swapping_read indirection l ≡ Some r → Reads (swap_line_wants indirection l)
  swaps indirection swap.Publish is = absurd (none-some r is)
  swaps indirection (swap.Deciding l) is = so (read_wants indirection l) (record { indirection = indirection; line = l }) is (λ h. h)
  swaps indirection swap.Check is = absurd (none-some r is)

  pub read_claims : (kind : HashKind) (call : Call) (access : Access) (l : Line) → read_of l ≡ Some r → Reads (line_wants kind call access l)
  read_claims kind call access (line.Root l) is = roots l is
  read_claims kind call access (line.Key (key.Read path q)) is = behind (path_wants path) q is
  read_claims kind call access (line.Key l) is = absurd (grind arith)
  read_claims kind call access (line.Build l) is = absurd (none-some r is)
  read_claims kind call access (line.Swap why s) is = λ h. swaps s.indirection s.line is (past_third (first_hold S heap (swap_wants s) (purpose_wants why) h))
  read_claims kind call access (line.Renew (renew.Read path main done q)) is = behind (done_wants path main done) q is
  read_claims kind call access (line.Renew l) is = absurd (grind arith)
  read_claims kind call access (line.Clean (clean.Read path q)) is = behind (path_wants path) q is
  read_claims kind call access (line.Clean (clean.Child path main done q)) is = behind (done_wants path main done) q is
  read_claims kind call access (line.Clean l) is = absurd (grind arith)
  read_claims kind call access (line.Climb (climb.Read c q)) is = behind (climb_carries c) q is
  read_claims kind call access (line.Climb (climb.Root c l)) is = λ h. roots l is (last_hold S heap (climb_carries c) (root_wants l) h)
  read_claims kind call access (line.Climb l) is = absurd (grind arith)
  read_claims kind call access (line.Copy (copy.Read at q)) is = so (copy_wants (copy.Read at q)) q is (λ h. h.1)
  read_claims kind call access (line.Copy (copy.Complete c)) is = completes c.offer c.line is
  read_claims kind call access (line.Copy l) is = absurd (grind arith)
  read_claims kind call access (line.Walk (walk.Read q todo pairs)) is = so (walk_wants (walk.Read q todo pairs)) q is (λ h. h.1)
  read_claims kind call access (line.Walk l) is = absurd (grind arith)
  read_claims kind call access (line.End answer) is = absurd (none-some r is)
  read_claims kind call access line.Impossible is = absurd (none-some r is)
