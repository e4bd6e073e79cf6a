-- The lines on which an operation is in a COMPLETE, whichever program that belongs to.
use Rattle.std.proofs.Common.{◌≡◌, ◌++◌, ◌∷◌, [], List, Contains, Some, refl, sym, subst, arith}
use Rattle.std.proofs.lemmas.List.Elements.{Contains-append_right, Contains-get_or}
use Rattle.std.proofs.lemmas.List.Concat.{flat_map-append}
use Rattle.std.proofs.lemmas.Option.{none-some, same_Some}
use Rattle.history.specs.declared.calls.Access.{Access}
use Rattle.history.specs.declared.calls.Call.{Call}
use Rattle.machine_model.specs.Beneath.slot_arena.specs.declared.refs.Ref.{Ref}
use Rattle.machine_model.specs.declared.reading.ReadLine.{ReadLine}
use Rattle.machine_model.specs.declared.roots.Complete.{Complete}
use Rattle.machine_model.specs.declared.roots.CompleteLine.TheVariants as complete
use Rattle.machine_model.specs.declared.roots.Descriptor.{Descriptor}
use Rattle.machine_model.specs.declared.roots.RootLine.TheVariants as root
use Rattle.machine_model.specs.declared.repairs.ClimbLine.TheVariants as climb
use Rattle.machine_model.specs.declared.copying.CopyLine.TheVariants as copy
use Rattle.machine_model.specs.declared.lines.Line.{Line}
use Rattle.machine_model.specs.declared.lines.Line.TheVariants as line
use Rattle.machine_model.specs.declared.operations.Operation.{Operation}
use Rattle.machine_model.specs.Operations.{line_action, read_of, completing_read}
use Rattle.machine_model.specs.States.{State}
use Rattle.machine_model.specs.Swapping.{complete_action}
use Rattle.proof_memory.specs.Vocabulary.{HashKind}
use Rattle.proof_memory.specs.Wants.{Claim, Is, AMain, complete_wants, line_wants, offer_wants, climb_carries}
use Rattle.lock_free.specs.Live.{refs_of_claim, refs_of_claims}
use Rattle.lock_free.specs.OfReads.{complete_given, complete_on, on_given, on_read}
use Rattle.lock_free.specs.Rooting.{completing_of}

-- a line of COMPLETE: what is so of each program that has one is so of it
by_program : (P : Line → Complete → Type 0) → ((c : Complete) → P (line.Root (root.Completing c)) c) → ((d : _) (c : Complete) → P (line.Climb (climb.Root d (root.Completing c))) c) →
    ((c : Complete) → P (line.Copy (copy.Complete c)) c) →
    (l : Line) (c : Complete) → completing_of l ≡ Some c → P l c
by_program P roots climbs copies (line.Root root.Read) c e = absurd (none-some c e)
by_program P roots climbs copies (line.Root (root.Completing d)) c e = subst (λ x. P (line.Root (root.Completing d)) x) (same_Some d c e) (roots d)
by_program P roots climbs copies (line.Climb (climb.Root k root.Read)) c e = absurd (none-some c e)
by_program P roots climbs copies (line.Climb (climb.Root k (root.Completing d))) c e = subst (λ x. P (line.Climb (climb.Root k (root.Completing d))) x) (same_Some d c e) (climbs k d)
by_program P roots climbs copies (line.Climb l) c e = absurd (grind arith)
by_program P roots climbs copies (line.Copy (copy.Complete d)) c e = subst (λ x. P (line.Copy (copy.Complete d)) x) (same_Some d c e) (copies d)
by_program P roots climbs copies (line.Copy l) c e = absurd (grind arith)
by_program P roots climbs copies (line.Key l) c e = absurd (none-some c e)
by_program P roots climbs copies (line.Build l) c e = absurd (none-some c e)
by_program P roots climbs copies (line.Swap why s) c e = absurd (none-some c e)
by_program P roots climbs copies (line.Renew l) c e = absurd (none-some c e)
by_program P roots climbs copies (line.Clean l) c e = absurd (none-some c e)
by_program P roots climbs copies (line.Walk l) c e = absurd (none-some c e)
by_program P roots climbs copies (line.End answer) c e = absurd (none-some c e)
by_program P roots climbs copies line.Impossible c e = absurd (none-some c e)

-- its READ is that of the root
pub completing_reads : (l : Line) (c : Complete) → completing_of l ≡ Some c → read_of l ≡ completing_read c.offer c.line
completing_reads = by_program (λ l c. read_of l ≡ completing_read c.offer c.line) (λ c. refl) (λ d c. refl) (λ c. refl)

-- after the READ
pub completing_given : (call : Call) (m : Ref) (l : Line) (c : Complete) → completing_of l ≡ Some c → completing_of (on_given call l m) ≡ Some (complete_given c m)
completing_given call m = by_program (λ l c. completing_of (on_given call l m) ≡ Some (complete_given c m)) (λ c. refl) (λ d c. refl) (λ c. refl)

-- in its READ
pub completing_reading : (x : ReadLine) (l : Line) (c : Complete) → completing_of l ≡ Some c → completing_of (on_read l x) ≡ Some (complete_on c x)
completing_reading x = by_program (λ l c. completing_of (on_read l x) ≡ Some (complete_on c x)) (λ c. refl) (λ d c. refl) (λ c. refl)

-- what its step does
pub completing_acts : (state : State) (operation : Operation) (l : Line) (c : Complete) → completing_of l ≡ Some c → line_action state operation l ≡ complete_action c
completing_acts state operation = by_program (λ l c. line_action state operation l ≡ complete_action c) (λ c. refl) (λ d c. refl) (λ c. refl)

-- what it has at hand
module _ (kind : HashKind) (call : Call) (access : Access) (q : Ref) where
  abbrev Has : List Claim → Type 0
  Has claims = Contains (refs_of_claims claims) q

  behind : (a b : List Claim) → Has b → Has (a ++ b)
  behind a b h = subst (λ xs. Contains xs q) (sym (flat_map-append refs_of_claim a b)) (Contains-append_right (refs_of_claims a) (refs_of_claims b) q h)

  pub completing_holds : (l : Line) (c : Complete) → completing_of l ≡ Some c → Has (complete_wants c.offer c.line) → Has (line_wants kind call access l)
  completing_holds =
      by_program (λ l c. Has (complete_wants c.offer c.line) → Has (line_wants kind call access l)) (λ c h. h) (λ d c h. behind (climb_carries d) (complete_wants c.offer c.line) h) (λ c h. h)

  pub swap_holds : (offer : Descriptor) → Has (complete_wants offer (complete.Swap q))
  swap_holds offer = behind (offer_wants offer) (Is q AMain ∷ []) (Contains-get_or (q ∷ []) 0 q (omega arith))
