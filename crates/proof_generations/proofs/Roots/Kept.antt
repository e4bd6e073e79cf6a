-- The generations of roots stay in each step: of those in root words, and of the fresh ones that an operation is to offer.
use Rattle.std.proofs.Common.{◌≡◌, ℕ, ◌+◌, ◌≤◌, ◌||◌, Bool, true, false, cond, [], ◌∷◌, Option, Some, None, refl, sym, ap, ◌∙◌, subst, arith}
use Rattle.std.proofs.lemmas.Bool.{false≢true}
use Rattle.std.proofs.lemmas.Option.{none-some, same_Some}
use Rattle.std.proofs.lemmas.List.Elements.{All-head}
use Rattle.proof_generations.specs.Vocabulary.{Call, Clear, Snapshot, Freeze, Ref, Heap, node_at, generation_at, next_ref, refs_of_option, CopyLine, Line, Operation, After, Gives, Read, Complete}
use Rattle.proof_generations.specs.Vocabulary.{CompleteLine, Descriptor, Root, RootLine, RootWord, Plain, Offer, Outcome, Step, handle_of, State, root_at, root_of, word_at, new_try, read_step}
use Rattle.proof_generations.specs.Vocabulary.{is_plain, complete_after, root_after, copy_after_read, copy_if_made, copy_after_made, after_successor, after_given, after_offer, copy_after_complete}
use Rattle.proof_generations.specs.Vocabulary.{copied_reply, line_action, line_after, after_root, Moves, AnIndirection, AMain, Is, Each, Holds, AllHold, word_wants, line_wants, complete_wants}
use Rattle.proof_generations.specs.Vocabulary.{offer_wants, read_wants}
use Rattle.proof_generations.specs.Beneath.machine_model.specs.declared.actions.Action.TheVariants as act
use Rattle.proof_generations.specs.Beneath.machine_model.specs.declared.copying.CopyLine.TheVariants as copy
use Rattle.proof_generations.specs.Beneath.machine_model.specs.declared.lines.Line.TheVariants as line
use Rattle.proof_generations.specs.Beneath.machine_model.specs.declared.reading.After.TheVariants.{Goes as Continues}
use Rattle.proof_generations.specs.Beneath.machine_model.specs.declared.roots.CompleteLine.TheVariants as complete
use Rattle.proof_generations.specs.Beneath.machine_model.specs.Operations.{from_root}
use Rattle.proof_generations.specs.Beneath.proof_memory.proofs.Claims.Uses.{Meets, safe_of, all_of, from_meets, first_hold}
use Rattle.proof_generations.specs.Beneath.proof_memory.proofs.Claims.Named.{third_claim, past_third}
use Rattle.proof_generations.specs.Beneath.proof_memory.proofs.Safety.Guards.{Safe}
use Rattle.proof_generations.specs.Beneath.proof_memory.proofs.Safety.States.{IsSafe, word_in}
use Rattle.proof_generations.specs.Beneath.proof_memory.proofs.Safety.Steps.{step_carries}
use Rattle.proof_generations.proofs.Lines.Copy.{is_copy, no_copy_after, same_offer_after}
use Rattle.proof_generations.proofs.Counter.Drawn.{generation_kept}
use Rattle.proof_generations.specs.Running.{Runs}

-- ---- in root words

module _ (state : State) (I : IsSafe state) (s : Step) (o : Outcome) (after : State) (m : Moves state s o after) where
  pub safe_kept : (epoch : ℕ) → epoch ≤ state.epoch → state.epoch ≤ epoch + 1 → (r : Ref) → Safe state epoch r → generation_at after.heap r ≡ generation_at state.heap r
  safe_kept epoch low high r h = generation_kept (node_at state.heap r) (node_at after.heap r) (step_carries state I s o after m epoch low high r h).1

  word_root : (word : RootWord) → AllHold (Safe state state.epoch) state.heap (word_wants word) → Safe state state.epoch (root_of word)
  word_root (Plain r) h = safe_of h.0
  word_root (Offer offer) h = safe_of h.0

  -- a step leaves the generation of a handle's root as it is
  pub root_kept : (handle : ℕ) (root : Root) → root_at state handle ≡ Some root → generation_at after.heap (root_of root.word) ≡ generation_at state.heap (root_of root.word)
  root_kept handle root e = safe_kept state.epoch (omega arith) (omega arith) (root_of root.word) (word_root root.word (word_in state I state.epoch handle root e))

-- ---- fresh roots

-- the fresh root that a line is to offer: the successor, or the second one
abbrev pub fresh_of : Bool → Descriptor → Option Ref
fresh_of true offer = Some offer.successor
fresh_of false offer = offer.second

abbrev pub second_made : Bool → Ref → Option Ref
second_made true successor = Some successor
second_made false successor = None

abbrev pub fresh_copy : Bool → CopyLine → Option Ref
fresh_copy x (copy.Second root main successor) = second_made x successor
fresh_copy x (copy.Offer offer) = fresh_of x offer
fresh_copy x (copy.Complete c) = fresh_of x c.offer
fresh_copy x l = None

abbrev pub fresh_in : Bool → Line → Option Ref
fresh_in x (line.Copy l) = fresh_copy x l
fresh_in x l = None

-- each is an indirection
module _ (S : Ref → Type 0) (heap : Heap) where
  offer_link : (offer : Descriptor) → AllHold S heap (offer_wants offer) → (x : Bool) (r : Ref) → fresh_of x offer ≡ Some r → Holds S heap (Is r AnIndirection)
  offer_link offer h true r e = subst (λ q. Holds S heap (Is q AnIndirection)) (same_Some _ _ e) (third_claim h)
  offer_link offer h false r e = by offer.second (past_third h).0 e
    where
      by : (second : Option Ref) → Holds S heap (Each (refs_of_option second) AnIndirection) → second ≡ Some r → Holds S heap (Is r AnIndirection)
      by None h e = absurd (none-some r e)
      by (Some q) h e = subst (λ p. Holds S heap (Is p AnIndirection)) (same_Some _ _ e) (from_meets q (All-head (Meets S heap AnIndirection) q [] (all_of h)))

  complete_link : (offer : Descriptor) (l : CompleteLine) → AllHold S heap (complete_wants offer l) → (x : Bool) (r : Ref) → fresh_of x offer ≡ Some r → Holds S heap (Is r AnIndirection)
  complete_link offer (complete.Reading l) h = offer_link offer (first_hold S heap (offer_wants offer) (read_wants offer.root l) h)
  complete_link offer (complete.Swap main) h = offer_link offer (first_hold S heap (offer_wants offer) (Is main AMain ∷ []) h)

module _ (S : Ref → Type 0) (state : State) (operation : Operation) where
  pub fresh_link : (l : Line) → AllHold S state.heap (line_wants state.limits.hash operation.call operation.access l) → (x : Bool) (r : Ref) → fresh_in x l ≡ Some r →
      Holds S state.heap (Is r AnIndirection)
  fresh_link (line.Copy (copy.Second root main successor)) h true r e = subst (λ q. Holds S state.heap (Is q AnIndirection)) (same_Some _ _ e) (third_claim h)
  fresh_link (line.Copy (copy.Second root main successor)) h false r e = absurd (none-some r e)
  fresh_link (line.Copy (copy.Offer offer)) h x r e = offer_link S state.heap offer h x r e
  fresh_link (line.Copy (copy.Complete c)) h x r e = complete_link S state.heap c.offer c.line h x r e
  fresh_link l h x r e = absurd (none-some r e)

  pub fresh_safe : (l : Line) → AllHold S state.heap (line_wants state.limits.hash operation.call operation.access l) → (x : Bool) (r : Ref) → fresh_in x l ≡ Some r → S r
  fresh_safe l h x r e = safe_of (fresh_link l h x r e)

-- ---- where a line has them from

-- which one a line makes
abbrev pub makes_first : Line → Bool
makes_first (line.Copy (copy.Second root main successor)) = false
makes_first l = true

-- it had it before, or has just made it
pub data FreshFrom (state : State) (operation : Operation) (l : Line) (x : Bool) (r : Ref) : Type 0 where
  had : fresh_in x l ≡ Some r → FreshFrom state operation l x r
  new : (main : Ref) → line_action state operation l ≡ act.MakeRoot main → next_ref state.heap ≡ Some r → x ≡ makes_first l → FreshFrom state operation l x r

no_fresh : (l : Line) (x : Bool) (r : Ref) → is_copy l ≡ false → fresh_in x l ≡ Some r → ⊥
no_fresh (line.Copy l) x r e f = false≢true (sym e)
no_fresh l x r e f = none-some r f

module _ (state : State) (operation : Operation) where
  from_root_none : (call : Call) (q r : Ref) (x : Bool) → fresh_in x (from_root call q) ≡ Some r → ⊥
  from_root_none (Clear h) q r x e = none-some r e
  from_root_none (Snapshot h) q r x e = none-some r e
  from_root_none (Freeze h) q r x e = none-some r e
  from_root_none call q r x e = none-some r e

  given_none : (call : Call) (root main r : Ref) (x : Bool) → fresh_in x (after_given call root main) ≡ Some r → ⊥
  given_none (Clear h) root main r x e = none-some r e
  given_none call root main r x e = none-some r e

  only_first : (root main made r : Ref) (x : Bool) →
      fresh_of x (record { operation = operation.id; attempt = operation.attempt + 1; root = root; expected = main; successor = made; second = None; opens = operation.opens }) ≡ Some r →
      (x ≡ true) × (made ≡ r)
  only_first root main made r true e = (refl, same_Some _ _ e)
  only_first root main made r false e = absurd (none-some r e)

  successor_fresh : (call : Call) (root main made r : Ref) (x : Bool) → fresh_in x (after_successor operation call root main made) ≡ Some r → (x ≡ true) × (made ≡ r)
  successor_fresh (Snapshot h) root main made r true e = (refl, same_Some _ _ e)
  successor_fresh (Snapshot h) root main made r false e = absurd (none-some r e)
  successor_fresh call root main made r x e = only_first root main made r x e

  made_fresh : (l : CopyLine) (made r : Ref) (x : Bool) → next_ref state.heap ≡ Some made → fresh_in x (copy_after_made operation l made) ≡ Some r → FreshFrom state operation (line.Copy l) x r
  made_fresh (copy.Successor root main) made r x n e = let p = successor_fresh operation.call root main made r x e in new main refl (n ∙ ap Some p.1) p.0
  made_fresh (copy.Second root main successor) made r true n e = had e
  made_fresh (copy.Second root main successor) made r false n e = new main refl (n ∙ e) refl
  made_fresh (copy.Empty root main) made r x n e = absurd (none-some r e)
  made_fresh (copy.Cleared root main branch) made r x n e = let p = only_first root main made r x e in new branch refl (n ∙ ap Some p.1) p.0
  made_fresh l made r x n e = absurd (none-some r e)

  if_made_fresh : (l : CopyLine) (made : Option Ref) (r : Ref) (x : Bool) → next_ref state.heap ≡ made → fresh_in x (copy_if_made operation l made) ≡ Some r →
      FreshFrom state operation (line.Copy l) x r
  if_made_fresh l None r x n e = absurd (none-some r e)
  if_made_fresh l (Some made) r x n e = made_fresh l made r x n e

  ended_none : (b : Bool) (r : Ref) (x : Bool) → fresh_in x (cond b (line.End (copied_reply operation.call operation.opens)) new_try) ≡ Some r → ⊥
  ended_none true r x e = none-some r e
  ended_none false r x e = none-some r e

  complete_fresh : (c : Complete) (a : After Complete Bool) → complete_after state.heap operation.access (word_at state (handle_of operation.call)) c ≡ a → (r : Ref) (x : Bool) →
      fresh_in x (copy_after_complete operation a) ≡ Some r → fresh_of x c.offer ≡ Some r
  complete_fresh c (Continues next) is r x e = ap (fresh_of x) (sym (same_offer_after state operation c next is)) ∙ e
  complete_fresh c (Gives done) is r x e = absurd (ended_none (done || operation.is_marked) r x e)

  offer_kept : (offer : Descriptor) (b : Bool) (r : Ref) (x : Bool) → fresh_in x (after_offer offer b) ≡ Some r → fresh_of x offer ≡ Some r
  offer_kept offer true r x e = e
  offer_kept offer false r x e = absurd (none-some r e)

  read_none : (root : Ref) (a : After Read Ref) (r : Ref) (x : Bool) → fresh_in x (copy_after_read operation root a) ≡ Some r → ⊥
  read_none root (Continues next) r x e = none-some r e
  read_none root (Gives main) r x e = given_none operation.call root main r x e

  root_none : (a : After RootLine Ref) (r : Ref) (x : Bool) → fresh_in x (after_root operation a) ≡ Some r → ⊥
  root_none (Continues next) r x e = none-some r e
  root_none (Gives q) r x e = from_root_none operation.call q r x e

  pub fresh_from : (l : Line) (x : Bool) (r : Ref) → fresh_in x (line_after state operation l) ≡ Some r → FreshFrom state operation l x r
  fresh_from (line.Root l) x r e = absurd (root_none (root_after state.heap operation.access (word_at state (handle_of operation.call)) l) r x e)
  fresh_from (line.Copy (copy.Read root q)) x r e = absurd (read_none root (read_step state operation q) r x e)
  fresh_from (line.Copy (copy.Offer offer)) x r e = had (offer_kept offer (is_plain (word_at state (handle_of operation.call)) offer.root) r x e)
  fresh_from (line.Copy (copy.Complete c)) x r e = had (complete_fresh c (complete_after state.heap operation.access (word_at state (handle_of operation.call)) c) refl r x e)
  fresh_from (line.Copy l) x r e = if_made_fresh l (next_ref state.heap) r x refl e
  fresh_from l x r e = absurd (no_fresh (line_after state operation l) x r (no_copy_after state operation l refl refl) e)

-- a fresh root keeps its generation over a step
pub fresh_kept : (state : State) (S : IsSafe state) (s : Step) (o : Outcome) (after : State) → Moves state s o after → (k : ℕ) (was : Operation) (x : Bool) (r : Ref) →
    Runs state k was → fresh_in x was.line ≡ Some r → generation_at after.heap r ≡ generation_at state.heap r
fresh_kept state S s o after m k was x r at_k e =
    safe_kept state S s o after m was.epoch (S.recent k was at_k).0 (S.recent k was at_k).1 r (fresh_safe (Safe state was.epoch) state was was.line (S.lines k was at_k) x r e)
