-- The root that a copy is to replace, and the main node that it found there: a line that has a fresh root keeps both.
use Rattle.std.proofs.Common.{◌≡◌, Bool, true, false, cond, ◌||◌, ◌⊎◌, inl, inr, Option, Some, None, refl, sym, ap, ◌∙◌, subst, arith}
use Rattle.std.proofs.lemmas.Bool.{false≢true}
use Rattle.std.proofs.lemmas.Option.{none-some}
use Rattle.proof_order.specs.Vocabulary.{Call, Clear, Snapshot, Ref, next_ref, no_ref, CopyLine, Line, Operation, After, Gives, Complete, Descriptor, CompleteLine, handle_of, opens_handle, State}
use Rattle.proof_order.specs.Vocabulary.{word_at, new_try, complete_after, is_plain, copy_after_complete, copy_after_made, copy_if_made, copied_reply, after_offer, after_successor, line_action}
use Rattle.proof_order.specs.Vocabulary.{line_after, is_clear, is_snapshot, AllHold, line_wants, copy_wants, complete_wants}
use Rattle.proof_order.specs.Beneath.machine_model.specs.declared.actions.Action.TheVariants as act
use Rattle.proof_order.specs.Beneath.machine_model.specs.declared.copying.CopyLine.TheVariants as copy
use Rattle.proof_order.specs.Beneath.machine_model.specs.declared.lines.Line.TheVariants as line
use Rattle.proof_order.specs.Beneath.machine_model.specs.declared.reading.After.TheVariants.{Goes as Continues}
use Rattle.proof_order.specs.Beneath.machine_model.specs.declared.roots.CompleteLine.TheVariants as complete
use Rattle.proof_order.specs.Beneath.proof_memory.proofs.Claims.Uses.{safe_of}
use Rattle.proof_generations.proofs.Lines.Copy.{HasOwn, same_offer_after}
use Rattle.proof_generations.proofs.Roots.Kept.{fresh_in}

-- the root that a line is to replace, and the main node that was found there
abbrev pub copied_from : CopyLine → Ref × Ref
copied_from (copy.Second root main successor) = (root, main)
copied_from (copy.Offer offer) = (offer.root, offer.expected)
copied_from (copy.Complete c) = (c.offer.root, c.offer.expected)
copied_from (copy.Successor root main) = (root, main)
copied_from (copy.Empty root main) = (root, main)
copied_from (copy.Cleared root main branch) = (root, main)
copied_from (copy.Read root r) = (root, no_ref)

abbrev pub copied : Line → Ref × Ref
copied (line.Copy l) = copied_from l
copied l = (no_ref, no_ref)

module _ (state : State) (operation : Operation) where
  -- ---- what a line had it keeps

  second_kept : (root main successor : Ref) (x : Bool) (q : Ref) (o : Option Ref) → fresh_in x (copy_if_made operation (copy.Second root main successor) o) ≡ Some q →
      copied (copy_if_made operation (copy.Second root main successor) o) ≡ (root, main)
  second_kept root main successor x q None e = absurd (none-some q e)
  second_kept root main successor x q (Some made) e = refl

  offer_kept : (o : Descriptor) (x : Bool) (q : Ref) (b : Bool) → fresh_in x (after_offer o b) ≡ Some q → copied (after_offer o b) ≡ (o.root, o.expected)
  offer_kept o x q true e = refl
  offer_kept o x q false e = absurd (none-some q e)

  complete_kept : (c : Complete) (x : Bool) (q : Ref) (a : After Complete Bool) → complete_after state.heap operation.access (word_at state (handle_of operation.call)) c ≡ a →
      fresh_in x (copy_after_complete operation a) ≡ Some q → copied (copy_after_complete operation a) ≡ (c.offer.root, c.offer.expected)
  complete_kept c x q (Continues next) is e = ap (λ (o : Descriptor). (o.root, o.expected)) (same_offer_after state operation c next is)
  complete_kept c x q (Gives done) is e = absurd (ended (done || operation.is_marked) e)
    where
      ended : (b : Bool) → fresh_in x (cond b (line.End (copied_reply operation.call operation.opens)) new_try) ≡ Some q → ⊥
      ended true e = none-some q e
      ended false e = none-some q e

  pub copied_kept : (l : Line) (x y : Bool) (q r : Ref) → fresh_in x l ≡ Some q → fresh_in y (line_after state operation l) ≡ Some r → copied (line_after state operation l) ≡ copied l
  copied_kept (line.Copy (copy.Second root main successor)) x y q r e f = second_kept root main successor y r (next_ref state.heap) f
  copied_kept (line.Copy (copy.Offer o)) x y q r e f = offer_kept o y r (is_plain (word_at state (handle_of operation.call)) o.root) f
  copied_kept (line.Copy (copy.Complete c)) x y q r e f = complete_kept c y r (complete_after state.heap operation.access (word_at state (handle_of operation.call)) c) refl f
  copied_kept l x y q r e f = absurd (none-some q e)

  -- ---- where a fresh root is made

  -- over the main node that was found, or, by a clear, over the branch that it made
  pub data MakesOver (l : Line) (main : Ref) : Type 0 where
    over_found : (root : Ref) → is_clear operation.call ≡ false → (l ≡ line.Copy (copy.Successor root main))
        ⊎ ((successor : Ref) × (l ≡ line.Copy (copy.Second root main successor))) → MakesOver l main
    over_branch : (root found : Ref) → is_clear operation.call ≡ true → l ≡ line.Copy (copy.Cleared root found main) → MakesOver l main

  opens_no_clear : (call : Call) → opens_handle call ≡ true → is_clear call ≡ false
  opens_no_clear (Clear h) e = absurd (false≢true e)
  opens_no_clear call e = refl

  snapshot_no_clear : (call : Call) → is_snapshot call ≡ true → is_clear call ≡ false
  snapshot_no_clear (Clear h) e = absurd (false≢true e)
  snapshot_no_clear call e = refl

  makes_by : (l : CopyLine) (main : Ref) → HasOwn (record operation { line = line.Copy l }) → line_action state operation (line.Copy l) ≡ act.MakeRoot main → MakesOver (line.Copy l) main
  makes_by (copy.Successor root found) main own e = over_found root (opens_no_clear operation.call own) (inl (let same : found ≡ main = cc e in ap (λ x. line.Copy (copy.Successor root x)) same))
  makes_by (copy.Second root found successor) main own e =
      over_found root (snapshot_no_clear operation.call own) (inr (successor, let same : found ≡ main = cc e in ap (λ x. line.Copy (copy.Second root x successor)) same))
  makes_by (copy.Cleared root found branch) main own e = over_branch root found own (let same : branch ≡ main = cc e in ap (λ x. line.Copy (copy.Cleared root found x)) same)
  makes_by (copy.Read root r) main own e = absurd (grind arith)
  makes_by (copy.Empty root found) main own e = let wrong : ⊥ = cc e in absurd wrong
  makes_by (copy.Offer o) main own e = let wrong : ⊥ = cc e in absurd wrong
  makes_by (copy.Complete c) main own e = absurd (grind arith)

  -- COPY alone makes roots
  root_maker : (l : Line) (main : Ref) → line_action state operation l ≡ act.MakeRoot main → (c : CopyLine) × (l ≡ line.Copy c)
  root_maker (line.Copy l) main e = (l, refl)
  root_maker (line.Root l) main e = absurd (grind arith)
  root_maker (line.Key l) main e = absurd (grind arith)
  root_maker (line.Build l) main e = absurd (grind arith)
  root_maker (line.Swap why s) main e = absurd (grind arith)
  root_maker (line.Renew l) main e = absurd (grind arith)
  root_maker (line.Clean l) main e = absurd (grind arith)
  root_maker (line.Climb l) main e = absurd (grind arith)
  root_maker (line.Walk l) main e = absurd (grind arith)
  root_maker (line.End answer) main e = let wrong : ⊥ = cc e in absurd wrong
  root_maker line.Impossible main e = let wrong : ⊥ = cc e in absurd wrong

  pub makes_over : (l : Line) (main : Ref) → HasOwn (record operation { line = l }) → line_action state operation l ≡ act.MakeRoot main → MakesOver l main
  makes_over l main own e =
      let (c, is) = root_maker l main e in
      subst (λ x. MakesOver x main) (sym is) (makes_by c main (subst (λ x. HasOwn (record operation { line = x })) is own) (ap (line_action state operation) (sym is) ∙ e))

  -- it goes on with both
  successor_copied : (call : Call) (root found made : Ref) → copied (after_successor operation call root found made) ≡ (root, found)
  successor_copied (Snapshot h) root found made = refl
  successor_copied call root found made = refl

  made_copied : (l : CopyLine) (main made : Ref) → line_action state operation (line.Copy l) ≡ act.MakeRoot main → copied (copy_after_made operation l made) ≡ copied_from l
  made_copied (copy.Successor root found) main made e = successor_copied operation.call root found made
  made_copied (copy.Second root found successor) main made e = refl
  made_copied (copy.Cleared root found branch) main made e = refl
  made_copied (copy.Read root r) main made e = absurd (grind arith)
  made_copied (copy.Empty root found) main made e = let wrong : ⊥ = cc e in absurd wrong
  made_copied (copy.Offer o) main made e = let wrong : ⊥ = cc e in absurd wrong
  made_copied (copy.Complete c) main made e = absurd (grind arith)

  makes_copied : (l : CopyLine) (main made : Ref) → line_action state operation (line.Copy l) ≡ act.MakeRoot main → next_ref state.heap ≡ Some made →
      copied (line_after state operation (line.Copy l)) ≡ copied_from l
  makes_copied (copy.Successor root found) main made e n = ap (λ o. copied (copy_if_made operation (copy.Successor root found) o)) n ∙ made_copied (copy.Successor root found) main made e
  makes_copied (copy.Second root found successor) main made e n = ap (λ o. copied (copy_if_made operation (copy.Second root found successor) o)) n
  makes_copied (copy.Cleared root found branch) main made e n = ap (λ o. copied (copy_if_made operation (copy.Cleared root found branch) o)) n
  makes_copied (copy.Read root r) main made e n = absurd (grind arith)
  makes_copied (copy.Empty root found) main made e n = let wrong : ⊥ = cc e in absurd wrong
  makes_copied (copy.Offer o) main made e n = let wrong : ⊥ = cc e in absurd wrong
  makes_copied (copy.Complete c) main made e n = absurd (grind arith)

  pub copied_made : (l : Line) (main made : Ref) → line_action state operation l ≡ act.MakeRoot main → next_ref state.heap ≡ Some made → copied (line_after state operation l) ≡ copied l
  copied_made l main made e n =
      let (c, is) = root_maker l main e in
      ap (λ x. copied (line_after state operation x)) is ∙ makes_copied c main made (ap (line_action state operation) (sym is) ∙ e) n ∙ ap copied (sym is)

-- ---- what lines take the old root for

-- the root that is to be replaced is safe
copied_safe : (S : Ref → Type 0) (state : State) (l : CopyLine) → AllHold S state.heap (copy_wants l) → S (copied_from l).0
copied_safe S state (copy.Read root r) h = safe_of h.0
copied_safe S state (copy.Successor root found) h = safe_of h.0
copied_safe S state (copy.Second root found successor) h = safe_of h.0
copied_safe S state (copy.Empty root found) h = safe_of h.0
copied_safe S state (copy.Cleared root found branch) h = safe_of h.0
copied_safe S state (copy.Offer offer) h = safe_of h.0
copied_safe S state (copy.Complete c) h = by c.line h
  where
    by : (l : CompleteLine) → AllHold S state.heap (complete_wants c.offer l) → S c.offer.root
    by (complete.Reading l) h = safe_of h.0
    by (complete.Swap main) h = safe_of h.0

pub line_safe : (S : Ref → Type 0) (state : State) (operation : Operation) (l : Line) →
    AllHold S state.heap (line_wants state.limits.hash operation.call operation.access l) → (c : CopyLine) → l ≡ line.Copy c →
    S (copied l).0
line_safe S state operation (line.Copy l) h c e = copied_safe S state l h
line_safe S state operation l h c e = let wrong : ⊥ = cc e in absurd wrong

-- who has a fresh root, or makes one, copies
pub fresh_copies : (l : Line) (x : Bool) (q : Ref) → fresh_in x l ≡ Some q → (c : CopyLine) × (l ≡ line.Copy c)
fresh_copies (line.Copy l) x q e = (l, refl)
fresh_copies l x q e = absurd (none-some q e)

pub over_copies : (state : State) (operation : Operation) (l : Line) (main : Ref) → MakesOver state operation l main → (c : CopyLine) × (l ≡ line.Copy c)
over_copies state operation l main (over_found root n (inl e)) = (copy.Successor root main, e)
over_copies state operation l main (over_found root n (inr (successor, e))) = (copy.Second root main successor, e)
over_copies state operation l main (over_branch root found n e) = (copy.Cleared root found main, e)
