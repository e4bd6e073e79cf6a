-- An operation is to carry an offer out: it does, or the offer stands there no more, or is taken back.
use Rattle.std.proofs.Common.{◌≡◌, inl, ℕ, ◌==◌, Bool, true, false, List, [], ◌∷◌, ◌++◌, Option, Some, None, cond, refl, sym, ap, subst, ◌∙◌, ne_eqb, eq-eqb}
use Rattle.std.proofs.lemmas.Bool.{true≢false}
use Rattle.std.proofs.lemmas.Option.{none-some, same_Some}
use Rattle.proof_claims.specs.Beneath.slot_arena.specs.declared.refs.Ref.{Ref}
use Rattle.proof_claims.specs.Beneath.slot_arena.specs.Heaps.{generation_at}
use Rattle.proof_claims.specs.Beneath.machine_model.specs.declared.actions.Action.TheVariants as act
use Rattle.proof_claims.specs.Beneath.machine_model.specs.declared.copying.CopyLine.TheVariants as copy
use Rattle.proof_claims.specs.Beneath.machine_model.specs.declared.lines.Line.{Line}
use Rattle.proof_claims.specs.Beneath.machine_model.specs.declared.lines.Line.TheVariants as line
use Rattle.proof_claims.specs.Beneath.machine_model.specs.declared.operations.Operation.{Operation}
use Rattle.proof_claims.specs.Beneath.machine_model.specs.declared.roots.Descriptor.{Descriptor}
use Rattle.proof_claims.specs.Beneath.machine_model.specs.declared.roots.Root.{Root}
use Rattle.proof_claims.specs.Beneath.machine_model.specs.declared.roots.RootWord.TheVariants.{Offer, Plain}
use Rattle.proof_claims.specs.Beneath.machine_model.specs.declared.steps.Bounds.{Bounds}
use Rattle.proof_claims.specs.Beneath.machine_model.specs.declared.steps.Outcome.{Outcome}
use Rattle.proof_claims.specs.Beneath.machine_model.specs.declared.steps.Step.{Step}
use Rattle.proof_claims.specs.Beneath.machine_model.specs.declared.steps.Step.TheVariants as step
use Rattle.proof_claims.specs.Beneath.machine_model.specs.Acting.{carried_out, gone, if_changed, opened}
use Rattle.proof_claims.specs.Beneath.machine_model.specs.Calls.{handle_of}
use Rattle.proof_claims.specs.Beneath.machine_model.specs.Counting.{settled}
use Rattle.proof_claims.specs.Beneath.machine_model.specs.Machine.{AreBounds, run}
use Rattle.proof_claims.specs.Beneath.machine_model.specs.Moves.{Moves}
use Rattle.proof_claims.specs.Beneath.machine_model.specs.Operations.{action_of}
use Rattle.proof_claims.specs.Beneath.machine_model.specs.Records.{record_of}
use Rattle.proof_claims.specs.Beneath.machine_model.specs.States.{State, operation_of, root_at, root_of, with_word, word_at}
use Rattle.proof_claims.specs.Beneath.machine_model.specs.Swapping.{is_carried_out, stands_in}
use Rattle.proof_claims.specs.Beneath.proof_generations.proofs.Handles.Footings.{ActionCarriesOut}
use Rattle.proof_claims.specs.Beneath.proof_generations.proofs.Roots.Along.{offered_unused, ordered_along}
use Rattle.proof_claims.specs.Held.{Change, Held, OfHandle, OfNode, held_after}
use Rattle.proof_claims.specs.Changes.{carried, completes, freezes, lets_root_go, no_change, outcome_at}
use Rattle.proof_claims.specs.Claims.{Has, held_of}
use Rattle.proof_claims.specs.Clauses.{EachIsHeld}
use Rattle.proof_claims.specs.Dropped.{WasDropped}
use Rattle.proof_claims.proofs.Acts.{changed}
use Rattle.proof_claims.proofs.Acts as acting
use Rattle.proof_claims.proofs.Along.{stays}
use Rattle.proof_claims.proofs.Frame.{same_has}
use Rattle.proof_claims.proofs.Rooting.{rooted}
use Rattle.proof_claims.proofs.Spine.{Each, EachAfter}
use Rattle.proof_claims.proofs.Swapping.{carried_kept, its_root, word_is}

module _ (limits : Bounds) (ok : AreBounds limits) (xs : List Step) (actor : ℕ) (operation : Operation) (o : Outcome) (offer : Descriptor) (main : Ref) (h : Each limits xs)
    (runs : operation_of (run limits xs) actor ≡ Some operation) (m : Moves (run limits xs) (step.Go actor) o (settled (run limits xs) (gone (run limits xs) actor operation)))
    (is_after : run limits (xs ++ step.Go actor ∷ []) ≡ settled (run limits xs) (gone (run limits xs) actor operation)) (acts : action_of (run limits xs) operation ≡ act.Complete offer main) where
  abbrev state : State
  state = run limits xs

  abbrev held : Held
  held = held_of limits xs

  abbrev at : ℕ
  at = handle_of operation.call

  abbrev after : State
  after = settled state (gone state actor operation)

  abbrev put : State
  put = acting.put limits ok xs h actor operation runs o m is_after

  abbrev Kept : Type 0
  Kept = EachAfter limits xs (step.Go actor) after

  heap_opened : (opens : Option ℕ) → (opened (with_word put at (Plain offer.successor)) offer opens).heap ≡ state.heap
  heap_opened None = refl
  heap_opened (Some n) = refl

  heap_by : (b c : Bool) → (if_changed b (cond c (carried_out put at offer) (with_word put at (Plain offer.root))) put).heap ≡ state.heap
  heap_by true true = heap_opened offer.opens
  heap_by true false = refl
  heap_by false c = refl

  pub heap : after.heap ≡ state.heap
  heap = ap (λ (a : State). a.heap) (acting.after_is limits ok xs h actor operation runs o m is_after (act.Complete offer main) acts)
      ∙ heap_by (stands_in (word_at state at) offer) (main == offer.expected)

  pub change_is : (b : Bool) → is_carried_out (word_at state at) offer main ≡ b → (c : Change) → completes b at offer operation ≡ c →
      EachIsHeld after (held_after c held) (λ j. WasDropped limits (xs ++ step.Go actor ∷ []) j) → Kept
  change_is b e c is = changed limits ok xs h actor operation runs o m is_after (act.Complete offer main) acts c (ap (λ x. completes x at offer operation) e ∙ is)

  -- ---- it is carried out

  module _ (out : is_carried_out (word_at state at) offer main ≡ true) where
    root : (root : Root) × (root_at state at ≡ Some root) × (root.word ≡ Offer offer)
    root = its_root limits ok xs h actor operation runs o m is_after offer main acts out no_change heap

    old_held : Has held (OfHandle at) offer.root
    old_held = subst (λ w. Has held (OfHandle at) (root_of w)) root.2 (h.roots at root.0 root.1)

    new_held : Has held (OfHandle at) offer.successor
    new_held = h.successors at root.0 offer root.1 root.2

    differ : offer.successor ≡ offer.root → ⊥
    differ same =
        let unused = offered_unused state (record_of limits xs) (ordered_along limits ok xs) at offer (word_is limits ok xs h actor operation runs o m is_after offer main acts out no_change heap) true
        offer.successor refl in
        unused.alone at root.0 root.1 (ap (λ w. generation_at state.heap (root_of w)) root.2 ∙ ap (generation_at state.heap) (sym same))

    by_kept : (change : Change) → ((g : ℕ) (r : Ref) → (g ≡ at → ⊥) → Has held (OfHandle g) r → Has (held_after change held) (OfHandle g) r) →
        ((j k : Ref) → Has held (OfNode j) k → Has (held_after change held) (OfNode j) k) → Has (held_after change held) (OfHandle at) offer.successor →
        ((n : ℕ) → offer.opens ≡ Some n → offer.second ≡ None → Has (held_after change held) (OfHandle n) offer.root) →
        EachIsHeld after (held_after change held) (λ j. WasDropped limits (xs ++ step.Go actor ∷ []) j)
    by_kept change others nodes successor frozen = carried_kept limits ok xs h actor operation runs o m is_after offer main acts out change heap others nodes successor frozen

    freeze_kept : (n : ℕ) → offer.opens ≡ Some n → EachIsHeld after (held_after (freezes at offer None (Some n) no_change) held) (λ j. WasDropped limits (xs ++ step.Go actor ∷ []) j)
    freeze_kept n opens =
        by_kept (freezes at offer None (Some n) no_change)
        (λ g r away has. stays (freezes at offer None (Some n) no_change) held (OfHandle g) (OfHandle g) r has (rw (ne_eqb g at away) refl))
        (λ j k has. stays (freezes at offer None (Some n) no_change) held (OfNode j) (OfNode j) k has refl)
        (stays (freezes at offer None (Some n) no_change) held (OfHandle at) (OfHandle at) offer.successor new_held (rw (eq-eqb at at refl) (rw (ne_eqb offer.successor offer.root differ) refl)))
        (λ k is none.
        subst (λ x. Has (held_after (freezes at offer None (Some n) no_change) held) (OfHandle x) offer.root) (same_Some n k (sym opens ∙ is))
        (stays (freezes at offer None (Some n) no_change) held (OfHandle at) (OfHandle n) offer.root old_held (rw (eq-eqb at at refl) (rw (eq-eqb offer.root offer.root refl) refl))))

    let_go_kept : ((n : ℕ) → offer.opens ≡ Some n → offer.second ≡ None → ⊥) → EachIsHeld after (held_after (lets_root_go at offer.root) held) (λ j. WasDropped limits (xs ++ step.Go actor ∷ []) j)
    let_go_kept no_freeze =
        by_kept (lets_root_go at offer.root) (λ g r away has. stays (lets_root_go at offer.root) held (OfHandle g) (OfHandle g) r has (rw (ne_eqb g at away) refl))
        (λ j k has. stays (lets_root_go at offer.root) held (OfNode j) (OfNode j) k has refl)
        (stays (lets_root_go at offer.root) held (OfHandle at) (OfHandle at) offer.successor new_held (rw (eq-eqb at at refl) (rw (ne_eqb offer.successor offer.root differ) refl)))
        (λ k is none. absurd (no_freeze k is none))

    same_kept : ((n : ℕ) → offer.opens ≡ Some n → offer.second ≡ None → ⊥) → EachIsHeld after (held_after no_change held) (λ j. WasDropped limits (xs ++ step.Go actor ∷ []) j)
    same_kept no_freeze =
        by_kept no_change (λ g r away has. same_has held (OfHandle g) r has) (λ j k has. same_has held (OfNode j) k has) (same_has held (OfHandle at) offer.successor new_held)
        (λ k is none. absurd (no_freeze k is none))

    -- by whose offer it is, where it isn't a freeze's
    by_line : (second : Option Ref) (opens : Option ℕ) → ((n : ℕ) → opens ≡ Some n → second ≡ None → ⊥) → offer.second ≡ second → offer.opens ≡ opens → (l : Line) → operation.line ≡ l → Kept
    by_line (Some q) opens free is_second is_opens (line.Copy (copy.Complete c)) on =
        change_is true out (lets_root_go at offer.root)
        (ap (λ x. freezes at offer x offer.opens (outcome_at at offer operation.line true)) is_second ∙ ap (λ l. outcome_at at offer l true) on
        ∙ ap (λ x. carried at offer x offer.opens) is_second)
        (let_go_kept (λ n is none. free n (sym is_opens ∙ is) (sym is_second ∙ none)))
    by_line None None free is_second is_opens (line.Copy (copy.Complete c)) on =
        change_is true out (lets_root_go at offer.root)
        (ap (λ x. freezes at offer x offer.opens (outcome_at at offer operation.line true)) is_second
        ∙ ap (λ x. freezes at offer None x (outcome_at at offer operation.line true)) is_opens ∙ ap (λ l. outcome_at at offer l true) on
        ∙ ap (λ x. carried at offer x offer.opens) is_second ∙ ap (λ x. carried at offer None x) is_opens)
        (let_go_kept (λ n is none. free n (sym is_opens ∙ is) (sym is_second ∙ none)))
    by_line None (Some n) free is_second is_opens l on = absurd (free n refl refl)
    by_line (Some q) opens free is_second is_opens l on =
        change_is true out no_change
        (ap (λ x. freezes at offer x offer.opens (outcome_at at offer operation.line true)) is_second ∙ ap (λ x. outcome_at at offer x true) on)
        (same_kept (λ n is none. free n (sym is_opens ∙ is) (sym is_second ∙ none)))
    by_line None None free is_second is_opens l on =
        change_is true out no_change
        (ap (λ x. freezes at offer x offer.opens (outcome_at at offer operation.line true)) is_second
        ∙ ap (λ x. freezes at offer None x (outcome_at at offer operation.line true)) is_opens ∙ ap (λ x. outcome_at at offer x true) on)
        (same_kept (λ n is none. free n (sym is_opens ∙ is) (sym is_second ∙ none)))

    pub by_offer : (second : Option Ref) (opens : Option ℕ) → offer.second ≡ second → offer.opens ≡ opens → Kept
    by_offer None (Some n) is_second is_opens =
        change_is true out (freezes at offer None (Some n) no_change)
        (ap (λ x. freezes at offer x offer.opens (outcome_at at offer operation.line true)) is_second
        ∙ ap (λ x. freezes at offer None x (outcome_at at offer operation.line true)) is_opens) (freeze_kept n is_opens)
    by_offer (Some q) opens is_second is_opens = by_line (Some q) opens (λ n is none. none-some q (sym none)) is_second is_opens operation.line refl
    by_offer None None is_second is_opens = by_line None None (λ n is none. none-some n is) is_second is_opens operation.line refl

  -- ---- it isn't

  module _ (not_out : is_carried_out (word_at state at) offer main ≡ false) where
    pub none_carried : (other : Descriptor) → ActionCarriesOut put at (act.Complete offer main) other → ⊥
    none_carried other c =
        let same : act.Complete other c.main ≡ act.Complete offer main = sym c.is_it in
        let one : other ≡ offer = cc same in
        let old : c.main ≡ main = cc same in
        true≢false (sym c.carried ∙ ap (λ d. is_carried_out (word_at state at) d c.main) one ∙ ap (is_carried_out (word_at state at) offer) old ∙ not_out)

    pub others_keep : outcome_at at offer operation.line operation.is_marked ≡ no_change → Kept
    others_keep is =
        change_is false not_out no_change is
        (rooted limits ok xs h actor operation runs o m is_after (act.Complete offer main) acts (λ i p f e. let bad : ⊥ = cc e in bad) no_change heap none_carried
        (λ g r due has. same_has held (OfHandle g) r has) (λ j k u n has. inl (same_has held (OfNode j) k has)) (λ other e. let bad : ⊥ = cc e in absurd bad)
        (λ other opens second e is_opens is_second. let bad : ⊥ = cc e in absurd bad))
