-- Steps of one READ, one after the other.
use Rattle.history.specs.declared.calls.Call.{Call}
use Rattle.std.proofs.Common.{◌≡◌, Some, refl, ap, arith}
use Rattle.std.proofs.lemmas.Option.{none-some, same_Some}
use Rattle.machine_model.specs.Beneath.slot_arena.specs.declared.refs.Ref.{Ref}
use Rattle.machine_model.specs.declared.reading.After.{After}
use Rattle.machine_model.specs.declared.reading.After.TheVariants.{Goes, Gives}
use Rattle.machine_model.specs.declared.reading.Read.{Read}
use Rattle.machine_model.specs.declared.reading.ReadLine.{ReadLine}
use Rattle.machine_model.specs.declared.reading.SwapLine.{SwapLine}
use Rattle.machine_model.specs.declared.reading.SwapLine.TheVariants as swap
use Rattle.machine_model.specs.declared.roots.CompleteLine.{CompleteLine}
use Rattle.machine_model.specs.declared.roots.CompleteLine.TheVariants as complete
use Rattle.machine_model.specs.declared.roots.Descriptor.{Descriptor}
use Rattle.machine_model.specs.declared.roots.RootLine.{RootLine}
use Rattle.machine_model.specs.declared.roots.RootLine.TheVariants as root
use Rattle.machine_model.specs.declared.finding.KeyLine.TheVariants as key
use Rattle.machine_model.specs.declared.repairs.RenewLine.TheVariants as renew
use Rattle.machine_model.specs.declared.repairs.CleanLine.TheVariants as clean
use Rattle.machine_model.specs.declared.repairs.ClimbLine.TheVariants as climb
use Rattle.machine_model.specs.declared.copying.CopyLine.TheVariants as copy
use Rattle.machine_model.specs.declared.walking.WalkLine.TheVariants as walk
use Rattle.machine_model.specs.declared.lines.Line.{Line}
use Rattle.machine_model.specs.declared.lines.Line.TheVariants as line
use Rattle.machine_model.specs.declared.operations.Operation.{Operation}
use Rattle.machine_model.specs.Operations.{read_of, completing_read, swapping_read}
use Rattle.lock_free.specs.OfReads.{at_line, root_on, on_read, on_given, line_by, read_to}

module _ (x : ReadLine) where
  root_again : (l : RootLine) (y : ReadLine) → root_on (root_on l x) y ≡ root_on l y
  root_again root.Read y = refl
  root_again (root.Completing c) y = refl

  -- the line with its READ on one line and then on another
  on_again : (l : Line) (y : ReadLine) → on_read (on_read l x) y ≡ on_read l y
  on_again (line.Root l) y = ap line.Root (root_again l y)
  on_again (line.Key (key.Read path r)) y = refl
  on_again (line.Key l) y = refl
  on_again (line.Build l) y = refl
  on_again (line.Swap why s) y = refl
  on_again (line.Renew (renew.Read path main done r)) y = refl
  on_again (line.Renew l) y = refl
  on_again (line.Clean (clean.Read path r)) y = refl
  on_again (line.Clean (clean.Child path main done r)) y = refl
  on_again (line.Clean l) y = refl
  on_again (line.Climb (climb.Read c r)) y = refl
  on_again (line.Climb (climb.Root c l)) y = ap (λ z. line.Climb (climb.Root c z)) (root_again l y)
  on_again (line.Climb l) y = refl
  on_again (line.Copy (copy.Read at r)) y = refl
  on_again (line.Copy (copy.Complete c)) y = refl
  on_again (line.Copy l) y = refl
  on_again (line.Walk (walk.Read r todo pairs)) y = refl
  on_again (line.Walk l) y = refl
  on_again (line.End answer) y = refl
  on_again line.Impossible y = refl

  -- what is given after it
  given_again : (call : Call) (l : Line) (m : Ref) → on_given call (on_read l x) m ≡ on_given call l m
  given_again call (line.Root root.Read) m = refl
  given_again call (line.Root (root.Completing c)) m = refl
  given_again call (line.Key (key.Read path r)) m = refl
  given_again call (line.Key l) m = refl
  given_again call (line.Build l) m = refl
  given_again call (line.Swap why s) m = refl
  given_again call (line.Renew (renew.Read path main done r)) m = refl
  given_again call (line.Renew l) m = refl
  given_again call (line.Clean (clean.Read path r)) m = refl
  given_again call (line.Clean (clean.Child path main done r)) m = refl
  given_again call (line.Clean l) m = refl
  given_again call (line.Climb (climb.Read c r)) m = refl
  given_again call (line.Climb (climb.Root c root.Read)) m = refl
  given_again call (line.Climb (climb.Root c (root.Completing p))) m = refl
  given_again call (line.Climb l) m = refl
  given_again call (line.Copy (copy.Read at r)) m = refl
  given_again call (line.Copy (copy.Complete c)) m = refl
  given_again call (line.Copy l) m = refl
  given_again call (line.Walk (walk.Read r todo pairs)) m = refl
  given_again call (line.Walk l) m = refl
  given_again call (line.End answer) m = refl
  given_again call line.Impossible m = refl

  by_again : (operation : Operation) (out : After ReadLine Ref) → line_by (read_to (Goes x) operation) out ≡ line_by operation out
  by_again operation (Goes y) = on_again operation.line y
  by_again operation (Gives m) = given_again operation.call operation.line m

  -- two moves of a READ are the second one
  pub read_again : (operation : Operation) (out : After ReadLine Ref) → read_to out (read_to (Goes x) operation) ≡ read_to out operation
  read_again operation out = ap (λ l. record operation { line = l }) (by_again operation out)

-- ---- it is in the same READ

completing_on : (offer : Descriptor) (l : CompleteLine) (r : Read) (y : ReadLine) → completing_read offer l ≡ Some r → completing_read offer (complete.Reading y) ≡ Some (at_line r y)
completing_on offer (complete.Reading x) r y is = ap (λ (q : Read). Some (at_line q y)) (same_Some (record { indirection = offer.root; line = x }) r is)
completing_on offer (complete.Swap main) r y is = absurd (none-some r is)

swapping_on : (i : Ref) (l : SwapLine) (r : Read) (y : ReadLine) → swapping_read i l ≡ Some r → Some (record { indirection = i; line = y }) ≡ Some (at_line r y)
swapping_on i (swap.Deciding x) r y is = ap (λ (q : Read). Some (at_line q y)) (same_Some (record { indirection = i; line = x }) r is)
swapping_on i swap.Publish r y is = absurd (none-some r is)
swapping_on i swap.Check r y is = absurd (none-some r is)

the_same : (q r : Read) (y : ReadLine) → Some q ≡ Some r → Some (at_line q y) ≡ Some (at_line r y)
the_same q r y is = ap (λ (z : Read). Some (at_line z y)) (same_Some q r is)

pub read_on : (l : Line) (r : Read) (y : ReadLine) → read_of l ≡ Some r → read_of (on_read l y) ≡ Some (at_line r y)
read_on (line.Root root.Read) r y is = absurd (none-some r is)
read_on (line.Root (root.Completing c)) r y is = completing_on c.offer c.line r y is
read_on (line.Key (key.Read path q)) r y is = the_same q r y is
read_on (line.Key l) r y is = absurd (grind arith)
read_on (line.Build l) r y is = absurd (none-some r is)
read_on (line.Swap why s) r y is = swapping_on s.indirection s.line r y is
read_on (line.Renew (renew.Read path main done q)) r y is = the_same q r y is
read_on (line.Renew l) r y is = absurd (grind arith)
read_on (line.Clean (clean.Read path q)) r y is = the_same q r y is
read_on (line.Clean (clean.Child path main done q)) r y is = the_same q r y is
read_on (line.Clean l) r y is = absurd (grind arith)
read_on (line.Climb (climb.Read c q)) r y is = the_same q r y is
read_on (line.Climb (climb.Root c root.Read)) r y is = absurd (none-some r is)
read_on (line.Climb (climb.Root c (root.Completing p))) r y is = completing_on p.offer p.line r y is
read_on (line.Climb l) r y is = absurd (grind arith)
read_on (line.Copy (copy.Read at q)) r y is = the_same q r y is
read_on (line.Copy (copy.Complete c)) r y is = completing_on c.offer c.line r y is
read_on (line.Copy l) r y is = absurd (grind arith)
read_on (line.Walk (walk.Read q todo pairs)) r y is = the_same q r y is
read_on (line.Walk l) r y is = absurd (grind arith)
read_on (line.End answer) r y is = absurd (none-some r is)
read_on line.Impossible r y is = absurd (none-some r is)
