-- A step of an operation that is in a READ is the READ's, whichever program it belongs to.
use Rattle.std.proofs.Common.{◌≡◌, ℕ, List, Option, Some, refl, ap, subst, ◌∙◌, arith}
use Rattle.std.proofs.lemmas.Option.{none-some, same_Some}
use Rattle.machine_model.specs.Beneath.slot_arena.specs.declared.refs.Ref.{Ref}
use Rattle.machine_model.specs.declared.actions.Action.{Action}
use Rattle.machine_model.specs.declared.reading.After.{After}
use Rattle.machine_model.specs.declared.reading.After.TheVariants.{Goes, Gives}
use Rattle.machine_model.specs.declared.reading.Read.{Read}
use Rattle.machine_model.specs.declared.reading.ReadLine.{ReadLine}
use Rattle.machine_model.specs.declared.reading.ReadLine.TheVariants as read
use Rattle.machine_model.specs.declared.reading.Swap.{Swap}
use Rattle.machine_model.specs.declared.reading.SwapLine.{SwapLine}
use Rattle.machine_model.specs.declared.reading.SwapLine.TheVariants as swap
use Rattle.machine_model.specs.declared.roots.Descriptor.{Descriptor}
use Rattle.machine_model.specs.declared.roots.CompleteLine.{CompleteLine}
use Rattle.machine_model.specs.declared.roots.CompleteLine.TheVariants as complete
use Rattle.machine_model.specs.declared.roots.RootLine.TheVariants as root
use Rattle.machine_model.specs.declared.finding.KeyLine.TheVariants as key
use Rattle.machine_model.specs.declared.repairs.RenewLine.TheVariants as renew
use Rattle.machine_model.specs.declared.repairs.CleanLine.TheVariants as clean
use Rattle.machine_model.specs.declared.repairs.Climb.{Climb}
use Rattle.machine_model.specs.declared.repairs.ClimbLine.TheVariants as climb
use Rattle.machine_model.specs.declared.copying.CopyLine.TheVariants as copy
use Rattle.machine_model.specs.declared.walking.WalkLine.TheVariants as walk
use Rattle.machine_model.specs.declared.lines.Purpose.{Purpose}
use Rattle.machine_model.specs.declared.lines.Line.{Line}
use Rattle.machine_model.specs.declared.lines.Line.TheVariants as line
use Rattle.machine_model.specs.declared.operations.Operation.{Operation}
use Rattle.machine_model.specs.Calls.{handle_of}
use Rattle.machine_model.specs.States.{State, word_at}
use Rattle.machine_model.specs.Reading.{read_action, read_after, at_indirection}
use Rattle.machine_model.specs.Swapping.{after_deciding, on_line, after_reading, of_offer, after_completing}
use Rattle.machine_model.specs.Operations.{action_of, line_action, line_after, generation_from, given_root, read_of, completing_read, swapping_read, after_root, after_swap}
use Rattle.machine_model.specs.Finding.{key_after_read}
use Rattle.machine_model.specs.Renewing.{renew_after_read}
use Rattle.machine_model.specs.Cleaning.{clean_after_read, after_child}
use Rattle.machine_model.specs.Climbing.{climb_after_read, climb_after_root}
use Rattle.machine_model.specs.Copying.{copy_after_read, copy_after_complete}
use Rattle.machine_model.specs.Walking.{walk_after_read}
use Rattle.machine_model.specs.Acting.{operation_after, private_after, attempt_after, mark_after}
use Rattle.lock_free.specs.OfReads.{line_by, read_to}

module _ (state : State) (operation : Operation) where
  abbrev pub out_of : Read → After ReadLine Ref
  out_of r = read_after state.heap operation.access (word_at state (handle_of operation.call)) r.indirection r.line

  -- what a step on this line does and leads to is a READ's
  pub record IsRead (l : Line) (r : Read) : Type 0 where
    pub acts : line_action state operation l ≡ read_action r.indirection r.line
    pub leads : line_after state operation l ≡ line_by (record operation { line = l }) (out_of r)
    pub generation : generation_from state operation l ≡ operation.generation

  by_same : (l : Line) (q r : Read) → Some q ≡ Some r → IsRead l q → IsRead l r
  by_same l q r e h = subst (λ x. IsRead l x) (same_Some q r e) h

  -- ---- by the program

  key_leads : (path : List Ref) (q : Read) (out : After ReadLine Ref) → key_after_read path (at_indirection q.indirection out) ≡ line_by (record operation { line = line.Key (key.Read path q) }) out
  key_leads path q (Goes x) = refl
  key_leads path q (Gives m) = refl

  renew_leads : (path : List Ref) (main : Ref) (done : List Ref) (q : Read) (out : After ReadLine Ref) →
      renew_after_read path main done (at_indirection q.indirection out) ≡ line_by (record operation { line = line.Renew (renew.Read path main done q) }) out
  renew_leads path main done q (Goes x) = refl
  renew_leads path main done q (Gives m) = refl

  clean_leads : (path : List Ref) (q : Read) (out : After ReadLine Ref) → clean_after_read path (at_indirection q.indirection out) ≡ line_by
      (record operation { line = line.Clean (clean.Read path q) }) out
  clean_leads path q (Goes x) = refl
  clean_leads path q (Gives m) = refl

  child_leads : (path : List Ref) (main : Ref) (done : List Ref) (q : Read) (out : After ReadLine Ref) →
      after_child path main done (at_indirection q.indirection out) ≡ line_by (record operation { line = line.Clean (clean.Child path main done q) }) out
  child_leads path main done q (Goes x) = refl
  child_leads path main done q (Gives m) = refl

  climb_leads : (c : Climb) (q : Read) (out : After ReadLine Ref) → climb_after_read c (at_indirection q.indirection out) ≡ line_by (record operation { line = line.Climb (climb.Read c q) }) out
  climb_leads c q (Goes x) = refl
  climb_leads c q (Gives m) = refl

  copy_leads : (at : Ref) (q : Read) (out : After ReadLine Ref) → copy_after_read operation at (at_indirection q.indirection out) ≡ line_by (record operation { line = line.Copy (copy.Read at q) }) out
  copy_leads at q (Goes x) = refl
  copy_leads at q (Gives m) = refl

  walk_leads : (q : Read) (todo : List Ref) (pairs : List (ℕ × ℕ)) (out : After ReadLine Ref) →
      walk_after_read todo pairs (at_indirection q.indirection out) ≡ line_by (record operation { line = line.Walk (walk.Read q todo pairs) }) out
  walk_leads q todo pairs (Goes x) = refl
  walk_leads q todo pairs (Gives m) = refl

  swap_leads : (why : Purpose) (s : Swap) (out : After ReadLine Ref) → after_swap state operation why s (on_line s (after_deciding out)) ≡ line_by (record operation { line = line.Swap why s }) out
  swap_leads why s (Goes x) = refl
  swap_leads why s (Gives m) = refl

  root_leads : (offer : Descriptor) (l : CompleteLine) (out : After ReadLine Ref) →
      after_root operation (after_completing (of_offer offer (after_reading out))) ≡ line_by (record operation { line = line.Root (root.Completing (record { offer = offer; line = l })) }) out
  root_leads offer l (Goes x) = refl
  root_leads offer l (Gives m) = refl

  root_generation : (offer : Descriptor) (out : After ReadLine Ref) → given_root state (after_completing (of_offer offer (after_reading out))) operation.generation ≡ operation.generation
  root_generation offer (Goes x) = refl
  root_generation offer (Gives m) = refl

  climb_root_leads : (c : Climb) (offer : Descriptor) (l : CompleteLine) (out : After ReadLine Ref) →
      climb_after_root state operation c (after_completing (of_offer offer (after_reading out)))
      ≡ line_by (record operation { line = line.Climb (climb.Root c (root.Completing (record { offer = offer; line = l }))) }) out
  climb_root_leads c offer l (Goes x) = refl
  climb_root_leads c offer l (Gives m) = refl

  complete_leads : (offer : Descriptor) (l : CompleteLine) (out : After ReadLine Ref) →
      copy_after_complete operation (of_offer offer (after_reading out)) ≡ line_by (record operation { line = line.Copy (copy.Complete (record { offer = offer; line = l })) }) out
  complete_leads offer l (Goes x) = refl
  complete_leads offer l (Gives m) = refl

  -- ---- all of them

  completes : (offer : Descriptor) (l : CompleteLine) (r : Read) → completing_read offer l ≡ Some r → IsRead (line.Root (root.Completing (record { offer = offer; line = l }))) r
  completes offer (complete.Reading x) r is =
      by_same _ (record { indirection = offer.root; line = x }) r is
      (record {
        acts = refl;
        leads = root_leads offer (complete.Reading x) (out_of (record { indirection = offer.root; line = x }));
        generation = root_generation offer
            (out_of (record { indirection = offer.root; line = x }));
      })
  completes offer (complete.Swap main) r is = absurd (none-some r is)

  climb_completes : (c : Climb) (offer : Descriptor) (l : CompleteLine) (r : Read) → completing_read offer l ≡ Some r →
      IsRead (line.Climb (climb.Root c (root.Completing (record { offer = offer; line = l })))) r
  climb_completes c offer (complete.Reading x) r is =
      by_same _ (record { indirection = offer.root; line = x }) r is
      (record { acts = refl; leads = climb_root_leads c offer (complete.Reading x) (out_of (record { indirection = offer.root; line = x })); generation = refl })
  climb_completes c offer (complete.Swap main) r is = absurd (none-some r is)

  copy_completes : (offer : Descriptor) (l : CompleteLine) (r : Read) → completing_read offer l ≡ Some r → IsRead (line.Copy (copy.Complete (record { offer = offer; line = l }))) r
  copy_completes offer (complete.Reading x) r is =
      by_same _ (record { indirection = offer.root; line = x }) r is
      (record { acts = refl; leads = complete_leads offer (complete.Reading x) (out_of (record { indirection = offer.root; line = x })); generation = refl })
  copy_completes offer (complete.Swap main) r is = absurd (none-some r is)

  swaps : (why : Purpose) (i a f : Ref) (l : SwapLine) (r : Read) → swapping_read i l ≡ Some r → IsRead (line.Swap why (record { indirection = i; replaced = a; fresh = f; line = l })) r
  swaps why i a f (swap.Deciding x) r is =
      by_same _ (record { indirection = i; line = x }) r is
      (record { acts = refl; leads = swap_leads why (record { indirection = i; replaced = a; fresh = f; line = swap.Deciding x }) (out_of (record { indirection = i; line = x })); generation = refl })
  swaps why i a f swap.Publish r is = absurd (none-some r is)
  swaps why i a f swap.Check r is = absurd (none-some r is)

  pub is_read : (l : Line) (r : Read) → read_of l ≡ Some r → IsRead l r
  is_read (line.Root root.Read) r is = absurd (none-some r is)
  is_read (line.Root (root.Completing c)) r is = completes c.offer c.line r is
  is_read (line.Key (key.Read path q)) r is = by_same _ q r is (record { acts = refl; leads = key_leads path q (out_of q); generation = refl })
  is_read (line.Key l) r is = absurd (grind arith)
  is_read (line.Build l) r is = absurd (none-some r is)
  is_read (line.Swap why s) r is = swaps why s.indirection s.replaced s.fresh s.line r is
  is_read (line.Renew (renew.Read path main done q)) r is = by_same _ q r is (record { acts = refl; leads = renew_leads path main done q (out_of q); generation = refl })
  is_read (line.Renew l) r is = absurd (grind arith)
  is_read (line.Clean (clean.Read path q)) r is = by_same _ q r is (record { acts = refl; leads = clean_leads path q (out_of q); generation = refl })
  is_read (line.Clean (clean.Child path main done q)) r is = by_same _ q r is (record { acts = refl; leads = child_leads path main done q (out_of q); generation = refl })
  is_read (line.Clean l) r is = absurd (grind arith)
  is_read (line.Climb (climb.Read c q)) r is = by_same _ q r is (record { acts = refl; leads = climb_leads c q (out_of q); generation = refl })
  is_read (line.Climb (climb.Root c root.Read)) r is = absurd (none-some r is)
  is_read (line.Climb (climb.Root c (root.Completing p))) r is = climb_completes c p.offer p.line r is
  is_read (line.Climb l) r is = absurd (grind arith)
  is_read (line.Copy (copy.Read at q)) r is = by_same _ q r is (record { acts = refl; leads = copy_leads at q (out_of q); generation = refl })
  is_read (line.Copy (copy.Complete c)) r is = copy_completes c.offer c.line r is
  is_read (line.Copy l) r is = absurd (grind arith)
  is_read (line.Walk (walk.Read q todo pairs)) r is = by_same _ q r is (record { acts = refl; leads = walk_leads q todo pairs (out_of q); generation = refl })
  is_read (line.Walk l) r is = absurd (grind arith)
  is_read (line.End answer) r is = absurd (none-some r is)
  is_read line.Impossible r is = absurd (none-some r is)

  -- ---- what the operation is then

  abbrev with_action : Action → Option ℕ → Line → Operation
  with_action a generation l = record operation {
    private = private_after state operation.private a;
    attempt = attempt_after operation.attempt a;
    is_marked = mark_after operation.is_marked a;
    generation = generation;
    line = l;
  }

  quiet : (i : Ref) (x : ReadLine) (l : Line) → with_action (read_action i x) operation.generation l ≡ record operation { line = l }
  quiet i read.Main l = refl
  quiet i (read.Prev m) l = refl
  quiet i (read.AskRoot m p) l = refl
  quiet i (read.Abort m p offer) l = refl
  quiet i (read.Decide m p told) l = refl
  quiet i (read.Restore m p) l = refl

  module _ (r : Read) (is : read_of operation.line ≡ Some r) where
    abbrev its : IsRead operation.line r
    its = is_read operation.line r is

    pub read_acts : action_of state operation ≡ read_action r.indirection r.line
    read_acts = its.acts

    pub read_leads : operation_after state operation ≡ read_to (out_of r) operation
    read_leads =
        ap (λ a. with_action a (generation_from state operation operation.line) (line_after state operation operation.line)) its.acts
        ∙ ap (λ g. with_action (read_action r.indirection r.line) g (line_after state operation operation.line)) its.generation
        ∙ ap (λ l. with_action (read_action r.indirection r.line) operation.generation l) its.leads
        ∙ quiet r.indirection r.line (line_by operation (out_of r))
