-- The slots that a snapshot, a freeze or a clear makes, where one actor alone takes steps: it comes to its offer.
use Rattle.std.proofs.Common.{◌≡◌, ℕ, suc, ◌+◌, ◌<◌, ◌≤◌, Option, Some, None, refl, ap, ◌∙◌, arith}
use Rattle.proof_obstruction_free.specs.Vocabulary.{Call, Clear, Snapshot, Ref, next_ref, CopyLine, Descriptor, copy_action, after_given, after_successor, copy_if_made, copy_after_made, line_after}
use Rattle.proof_obstruction_free.specs.Beneath.history.specs.declared.replies.Reply.TheVariants as reply
use Rattle.proof_obstruction_free.specs.Beneath.machine_model.specs.declared.copying.CopyLine.TheVariants as copy
use Rattle.proof_obstruction_free.specs.Beneath.machine_model.specs.declared.lines.Line.TheVariants as line
use Rattle.proof_obstruction_free.specs.Alone.{Lone, Stands, Keeps, IsQuiet, IsWeight, Within, word}
use Rattle.proof_obstruction_free.specs.Stepping.{Stepping, LeavesWords}
use Rattle.proof_obstruction_free.proofs.Step.Within.{weaken, one, ended, keeps_on}
use Rattle.proof_obstruction_free.proofs.Ends.StandsAt.{stands_as}

module _ (a : Lone) (steps : Stepping a) (weight : ℕ → ℕ) (heavy : IsWeight a weight) (root main : Ref) (g : Option ℕ) where
  abbrev Never : ℕ → ℕ → Type 0
  Never = Within a weight (λ u. ⊥)

  -- before step u the operation is about to offer to swap the root, over this main node; since step t main nodes and the root word stayed
  pub record Offers (t u : ℕ) : Type 0 where
    pub offer : Descriptor
    pub stands : Stands a u g (line.Copy (copy.Offer offer))
    pub root_is : offer.root ≡ root
    pub main_is : offer.expected ≡ main
    pub keeps : Keeps a t u
    pub word : word a u ≡ word a t

  later : (t u v : ℕ) → Keeps a t u → word a u ≡ word a t → Offers u v → Offers t v
  later t u v keeps same x = record {
    offer = x.offer;
    stands = x.stands;
    root_is = x.root_is;
    main_is = x.main_is;
    keeps = keeps_on a t u v keeps x.keeps;
    word = x.word ∙ same;
  }

  -- what follows an offer never goes on for long
  abbrev pub Follows : ℕ → ℕ → Type 0
  Follows n t = (u : ℕ) → t ≤ u → Offers t u → Never n u

  follows_on : (n t u : ℕ) → t ≤ u → Keeps a t u → word a u ≡ word a t → Follows n t → Follows n u
  follows_on n t u le keeps same then v after x = then v (omega (arith, le, after)) (later t u v keeps same x)

  offers_now : (u : ℕ) (d : Descriptor) → Stands a u g (line.Copy (copy.Offer d)) → d.root ≡ root → d.expected ≡ main → Offers u u
  offers_now u d s e f = record { offer = d; stands = s; root_is = e; main_is = f; keeps = λ i m has. has; word = refl }

  -- where no slot is free the operation ends
  module _ (n t : ℕ) (l : CopyLine) (s : Stands a t g (line.Copy l)) (quiet : IsQuiet (copy_action l)) (free : LeavesWords (copy_action l))
      (makes : (made : Option Ref) → next_ref (a.states t).heap ≡ made → line_after (a.states t) s.operation (line.Copy l) ≡ copy_if_made s.operation l made) where
    made_by : (made : Option Ref) → next_ref (a.states t).heap ≡ made → 1 ≤ n → t < a.last →
        ((r : Ref) → Stands a (suc t) g (copy_after_made s.operation l r) → Never n (suc t)) → Stands a (suc t) g (copy_if_made s.operation l made) → Never n (suc t)
    made_by None e some h then at = weaken a weight (λ u. ⊥) 1 n (suc t) some (ended a weight steps (λ u. ⊥) (suc t) g reply.NoSlots at)
    made_by (Some r) e some h then at = then r at

    making : 1 ≤ n → (t < a.last → (r : Ref) → Stands a (suc t) g (copy_after_made s.operation l r) → Keeps a t (suc t) → word a (suc t) ≡ word a t → Never n (suc t)) → Never (n + 1) t
    making some then = one a weight heavy (λ u. ⊥) n t g (line.Copy l) s quiet (λ h.
        let keeps = steps.keeps t g (line.Copy l) s h tt quiet in
        let same = steps.words t g (line.Copy l) s h tt free in
        made_by (next_ref (a.states t).heap) refl some h (λ r at. then h r at keeps same)
        (stands_as a (suc t) _ g _ _ s.generation (makes (next_ref (a.states t).heap) refl) (steps.next t g (line.Copy l) s h tt)))

  pub second : (n t : ℕ) (successor : Ref) → Stands a t g (line.Copy (copy.Second root main successor)) → 1 ≤ n → Follows n t → Never (n + 1) t
  second n t successor s some then =
      making n t (copy.Second root main successor) s tt tt (λ made e. ap (copy_if_made s.operation (copy.Second root main successor)) e) some
      (λ h r at keeps same. follows_on n t (suc t) (omega arith) keeps same then (suc t) (omega arith) (offers_now (suc t) _ at refl refl))

  pub cleared : (n t : ℕ) (branch : Ref) → Stands a t g (line.Copy (copy.Cleared root main branch)) → 1 ≤ n → Follows n t → Never (n + 1) t
  cleared n t branch s some then =
      making n t (copy.Cleared root main branch) s tt tt (λ made e. ap (copy_if_made s.operation (copy.Cleared root main branch)) e) some
      (λ h r at keeps same. follows_on n t (suc t) (omega arith) keeps same then (suc t) (omega arith) (offers_now (suc t) _ at refl refl))

  pub empty : (n t : ℕ) → Stands a t g (line.Copy (copy.Empty root main)) → 1 ≤ n → Follows n t → Never (n + 2) t
  empty n t s some then =
      weaken a weight (λ u. ⊥) ((n + 1) + 1) (n + 2) t (omega arith)
      (making (n + 1) t (copy.Empty root main) s tt tt (λ made e. ap (copy_if_made s.operation (copy.Empty root main)) e) (omega arith)
      (λ h r at keeps same. cleared n (suc t) r at some (follows_on n t (suc t) (omega arith) keeps same then)))

  pub successor : (n t : ℕ) → Stands a t g (line.Copy (copy.Successor root main)) → 1 ≤ n → Follows n t → Never (n + 2) t
  successor n t s some then =
      weaken a weight (λ u. ⊥) ((n + 1) + 1) (n + 2) t (omega arith)
      (making (n + 1) t (copy.Successor root main) s tt tt (λ made e. ap (copy_if_made s.operation (copy.Successor root main)) e) (omega arith)
      (λ h r at keeps same. by s.operation.call r at (follows_on n t (suc t) (omega arith) keeps same then)))
    where
      offering_now : (r : Ref) (d : Descriptor) → Stands a (suc t) g (line.Copy (copy.Offer d)) → d.root ≡ root → d.expected ≡ main → Follows n (suc t) → Never (n + 1) (suc t)
      offering_now r d at e f next = weaken a weight (λ u. ⊥) n (n + 1) (suc t) (omega arith) (next (suc t) (omega arith) (offers_now (suc t) d at e f))

      by : (call : Call) (r : Ref) → Stands a (suc t) g (after_successor s.operation call root main r) → Follows n (suc t) → Never (n + 1) (suc t)
      by (Snapshot h) r at next = second n (suc t) r at some next
      by call r at next = offering_now r _ at refl refl next

  -- from where the main node was read
  pub given : (n t : ℕ) (call : Call) → Stands a t g (after_given call root main) → 1 ≤ n → Follows n t → Never (n + 2) t
  given n t (Clear h) s some then = empty n t s some then
  given n t call s some then = successor n t s some then
