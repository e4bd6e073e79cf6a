-- The lines on which an operation is in a ROOT, whichever program that belongs to.
use Rattle.std.proofs.Common.{◌≡◌, Some, refl, sym, ap, subst, arith}
use Rattle.std.proofs.lemmas.Option.{none-some, same_Some}
use Rattle.history.specs.declared.calls.Call.{Call}
use Rattle.machine_model.specs.Beneath.slot_arena.specs.declared.refs.Ref.{Ref}
use Rattle.machine_model.specs.Beneath.slot_arena.specs.Heaps.{generation_at}
use Rattle.machine_model.specs.declared.roots.CompleteLine.TheVariants as complete
use Rattle.machine_model.specs.declared.roots.Descriptor.{Descriptor}
use Rattle.machine_model.specs.declared.roots.RootLine.{RootLine}
use Rattle.machine_model.specs.declared.roots.RootLine.TheVariants as root
use Rattle.machine_model.specs.declared.roots.RootWord.{RootWord}
use Rattle.machine_model.specs.declared.roots.RootWord.TheVariants.{Plain, Offer}
use Rattle.machine_model.specs.declared.repairs.Climb.{Climb}
use Rattle.machine_model.specs.declared.repairs.ClimbLine.TheVariants as climb
use Rattle.machine_model.specs.declared.lines.Line.{Line}
use Rattle.machine_model.specs.declared.lines.Line.TheVariants as line
use Rattle.machine_model.specs.declared.operations.Operation.{Operation}
use Rattle.machine_model.specs.Acting.{operation_after}
use Rattle.machine_model.specs.Calls.{handle_of}
use Rattle.machine_model.specs.Climbing.{climb_after_root}
use Rattle.machine_model.specs.GivingUp.{given_up}
use Rattle.machine_model.specs.Operations.{after_root, given_root, line_action}
use Rattle.machine_model.specs.States.{State, word_at}
use Rattle.machine_model.specs.Swapping.{after_root_word, completing, root_action}
use Rattle.lock_free.specs.OfReads.{on_given}
use Rattle.lock_free.specs.Rooting.{completing_of, in_root, rooted, rooting_of, rooting_on}

by_program : (P : Line → RootLine → Type 0) → ((x : RootLine) → P (line.Root x) x) → ((c : Climb) (x : RootLine) → P (line.Climb (climb.Root c x)) x) →
    (l : Line) (x : RootLine) → rooting_of l ≡ Some x → P l x
by_program P roots climbs (line.Root y) x e = subst (P (line.Root y)) (same_Some y x e) (roots y)
by_program P roots climbs (line.Climb (climb.Root c y)) x e = subst (P (line.Climb (climb.Root c y))) (same_Some y x e) (climbs c y)
by_program P roots climbs (line.Climb l) x e = absurd (grind arith)
by_program P roots climbs (line.Key l) x e = absurd (none-some x e)
by_program P roots climbs (line.Build l) x e = absurd (none-some x e)
by_program P roots climbs (line.Swap why s) x e = absurd (none-some x e)
by_program P roots climbs (line.Renew l) x e = absurd (none-some x e)
by_program P roots climbs (line.Clean l) x e = absurd (none-some x e)
by_program P roots climbs (line.Copy l) x e = absurd (none-some x e)
by_program P roots climbs (line.Walk l) x e = absurd (none-some x e)
by_program P roots climbs (line.End answer) x e = absurd (none-some x e)
by_program P roots climbs line.Impossible x e = absurd (none-some x e)

-- what its step does
pub rooting_acts : (state : State) (operation : Operation) (l : Line) (x : RootLine) → rooting_of l ≡ Some x → line_action state operation l ≡ root_action x
rooting_acts state operation = by_program (λ l x. line_action state operation l ≡ root_action x) (λ x. refl) (λ c x. refl)

-- it is on the line that it is on
pub rooting_still : (l : Line) (x : RootLine) → rooting_of l ≡ Some x → rooting_on l x ≡ l
rooting_still = by_program (λ l x. rooting_on l x ≡ l) (λ x. refl) (λ c x. refl)

-- on another one
pub rooting_there : (y : RootLine) (l : Line) (x : RootLine) → rooting_of l ≡ Some x → rooting_of (rooting_on l y) ≡ Some y
rooting_there y = by_program (λ l x. rooting_of (rooting_on l y) ≡ Some y) (λ x. refl) (λ c x. refl)

pub rooting_again : (y z : RootLine) (l : Line) (x : RootLine) → rooting_of l ≡ Some x → rooting_on (rooting_on l y) z ≡ rooting_on l z
rooting_again y z = by_program (λ l x. rooting_on (rooting_on l y) z ≡ rooting_on l z) (λ x. refl) (λ c x. refl)

-- and gives up as it would
pub rooting_gives_up : (call : Call) (y : RootLine) (l : Line) (x : RootLine) → rooting_of l ≡ Some x → given_up call (rooting_on l y) ≡ given_up call l
rooting_gives_up call y = by_program (λ l x. given_up call (rooting_on l y) ≡ given_up call l) (λ x. refl) (λ c x. refl)

-- its COMPLETE
pub rooting_completes : (l : Line) (x : RootLine) → rooting_of l ≡ Some x → completing_of l ≡ in_root x
rooting_completes = by_program (λ l x. completing_of l ≡ in_root x) (λ x. refl) (λ c x. refl)

-- that has read the root's main node
pub completing_on : (call : Call) (offer : Descriptor) (m : Ref) (l : Line) (x : RootLine) → rooting_of l ≡ Some x →
    on_given call (rooting_on l (root.Completing (completing offer))) m ≡ rooting_on l (root.Completing (record { offer = offer; line = complete.Swap m }))
completing_on call offer m =
    by_program (λ l x. on_given call (rooting_on l (root.Completing (completing offer))) m ≡ rooting_on l (root.Completing (record { offer = offer; line = complete.Swap m }))) (λ x. refl)
    (λ c x. refl)

-- ---- steps

module _ (state : State) (o : Operation) where
  abbrev word : RootWord
  word = word_at state (handle_of o.call)

  abbrev Leads : (Operation → Line → Operation) → Line → Type 0
  Leads next l = operation_after state (record o { line = l }) ≡ next o l

  -- it has read the root
  reads_root : (w : RootWord) → Operation
  reads_root w = record o { generation = given_root state (after_root_word w) o.generation; line = after_root o (after_root_word w) }

  reads_climb : Climb → (w : RootWord) → Operation
  reads_climb c w = record o { line = climb_after_root state o c (after_root_word w) }

  -- an offer stands there
  pub finds_offer : (offer : Descriptor) → word ≡ Offer offer → (l : Line) → rooting_of l ≡ Some root.Read →
      operation_after state (record o { line = l }) ≡ record o { line = rooting_on l (root.Completing (completing offer)) }
  unfolding reads_root reads_climb
  finds_offer offer is l e = by_program (λ l x. x ≡ root.Read → Leads (λ o l. record o { line = rooting_on l (root.Completing (completing offer)) }) l) roots climbs l root.Read e refl
    where
      roots : (x : RootLine) → x ≡ root.Read → Leads (λ o l. record o { line = rooting_on l (root.Completing (completing offer)) }) (line.Root x)
      roots x f = subst (λ y. Leads (λ o l. record o { line = rooting_on l (root.Completing (completing offer)) }) (line.Root y)) (sym f) (ap reads_root is)

      climbs : (c : Climb) (x : RootLine) → x ≡ root.Read → Leads (λ o l. record o { line = rooting_on l (root.Completing (completing offer)) }) (line.Climb (climb.Root c x))
      climbs c x f = subst (λ y. Leads (λ o l. record o { line = rooting_on l (root.Completing (completing offer)) }) (line.Climb (climb.Root c y))) (sym f) (ap (reads_climb c) is)

  -- or none
  pub finds_root : (r : Ref) → word ≡ Plain r → (l : Line) → rooting_of l ≡ Some root.Read → operation_after state (record o { line = l }) ≡ rooted r (generation_at state.heap r) o l
  unfolding reads_root reads_climb
  finds_root r is l e = by_program (λ l x. x ≡ root.Read → Leads (rooted r (generation_at state.heap r)) l) roots climbs l root.Read e refl
    where
      roots : (x : RootLine) → x ≡ root.Read → Leads (rooted r (generation_at state.heap r)) (line.Root x)
      roots x f = subst (λ y. Leads (rooted r (generation_at state.heap r)) (line.Root y)) (sym f) (ap reads_root is)

      climbs : (c : Climb) (x : RootLine) → x ≡ root.Read → Leads (rooted r (generation_at state.heap r)) (line.Climb (climb.Root c x))
      climbs c x f = subst (λ y. Leads (rooted r (generation_at state.heap r)) (line.Climb (climb.Root c y))) (sym f) (ap (reads_climb c) is)

  -- the offer is settled
  abbrev swapping_root : Descriptor → Ref → RootLine
  swapping_root offer m = root.Completing (record { offer = offer; line = complete.Swap m })

  pub completes_offer : (offer : Descriptor) (m : Ref) (l : Line) → rooting_of l ≡ Some (root.Completing (record { offer = offer; line = complete.Swap m })) →
      operation_after state (record o { line = l }) ≡ record o { line = rooting_on l root.Read }
  completes_offer offer m l e = by_program (λ l x. x ≡ swapping_root offer m → Leads (λ o l. record o { line = rooting_on l root.Read }) l) roots climbs l (swapping_root offer m) e refl
    where
      roots : (x : RootLine) → x ≡ swapping_root offer m → Leads (λ o l. record o { line = rooting_on l root.Read }) (line.Root x)
      roots x f = subst (λ y. Leads (λ o l. record o { line = rooting_on l root.Read }) (line.Root y)) (sym f) refl

      climbs : (c : Climb) (x : RootLine) → x ≡ swapping_root offer m → Leads (λ o l. record o { line = rooting_on l root.Read }) (line.Climb (climb.Root c x))
      climbs c x f = subst (λ y. Leads (λ o l. record o { line = rooting_on l root.Read }) (line.Climb (climb.Root c y))) (sym f) refl
