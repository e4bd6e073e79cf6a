-- A root that is brought is calm: it is over an empty branch, or over the node that the old root has for ever.
use Rattle.std.proofs.Common.{◌≡◌, ℕ, zero, suc, ◌<◌, ◌≤◌, Bool, true, false, Contains, Some, inl, inr, refl, sym, ap, ◌∙◌, subst, arith}
use Rattle.std.proofs.lemmas.Bool.{cases_eq}
use Rattle.proof_shape.specs.Vocabulary.{Ref, Bounds, State, node_under, IsRun, entries_of, empty_branch, Root, RootWord, Plain, Offer, Descriptor, root_at, root_of, node_at, generation_at}
use Rattle.proof_owned.specs.Beneath.proof_memory.specs.Laws.{IsInUse}
use Rattle.proof_owned.specs.Beneath.proof_memory.specs.Wants.{AllHold, word_wants, is_indirection}
use Rattle.proof_owned.specs.Beneath.proof_memory.proofs.Claims.Uses.{safe_of}
use Rattle.proof_owned.specs.Beneath.proof_memory.proofs.Safety.AtEachTime.{safe_at}
use Rattle.proof_owned.specs.Beneath.proof_commits.proofs.Course.Finals.{from_time}
use Rattle.proof_owned.specs.Beneath.proof_contents.specs.Runs.{counting_main}
use Rattle.proof_owned.specs.Beneath.proof_generations.proofs.Falling.FreshRoots.{fresh_stands}
use Rattle.proof_owned.specs.Beneath.proof_generations.proofs.Falling.Nodes.{link_used}
use Rattle.proof_owned.specs.Beneath.proof_generations.proofs.Lines.ReaderKnows.{indirection_is}
use Rattle.proof_owned.specs.Beneath.proof_generations.proofs.Offers.Standing.{StandsBy, completes_it}
use Rattle.proof_owned.specs.Beneath.proof_generations.proofs.Roots.Own.{its_fresh}
use Rattle.proof_owned.specs.Beneath.proof_generations.proofs.Roots.Kept.{fresh_in, fresh_of}
use Rattle.proof_order.specs.Openings.{IsSwap, IsRootOf}
use Rattle.proof_order.proofs.Openings.Copy.{copied}
use Rattle.proof_order.proofs.Openings.FreshMains.{ShowsMain, Shows, show_at}
use Rattle.proof_order.proofs.Openings.NoLateCommit.{no_late_commit}
use Rattle.proof_order.proofs.Openings.SwapState.{offerer, old_stands}
use Rattle.proof_shape.specs.Lines.Knowing.{first_main}
use Rattle.proof_shape.proofs.Commits.Was.{link_in_end}
use Rattle.proof_shape.proofs.Held.Fresh.{Names}
use Rattle.proof_shape.proofs.Opened.Mains.{IsOpen, open_still, closed_keeps}
use Rattle.proof_shape.proofs.Runs.Entries.{no_entry}
use Rattle.proof_owned.proofs.FreshRoots.{fresh_unopened}
use Rattle.proof_owned.proofs.Earlier.{IsLink}
use Rattle.proof_owned.proofs.Reading.{open_opened}
use Rattle.proof_owned.proofs.SinglesCalm.{CameAndWent, Calm, calm}
use Rattle.proof_owned.proofs.SinglesSteps.{AllAt, not_kept}
use Rattle.proof_owned.proofs.Unopened.{root_link}

module _ {limits : Bounds} {states : ℕ → State} {last : ℕ} (run : IsRun limits states last) where
  -- a handle's root is an indirection
  pub root_is_link : (t : ℕ) → t ≤ last → (handle : ℕ) (root : Root) → root_at (states t) handle ≡ Some root → IsLink run (root_of root.word)
  root_is_link t within handle root e =
      let (h, word, is) = indirection_is (node_at (states t).heap (root_of root.word)) (root_link run t within handle root e) in
      let (now, at_end) = link_used run t within (root_of root.word) (by root.word ((safe_at run t within).words handle root e)) h word is in
      (h, now, at_end)
    where
      by : (word : RootWord) → AllHold (IsInUse (states t).heap) (states t).heap (word_wants word) → IsInUse (states t).heap (root_of word)
      by (Plain r) h = safe_of h.0
      by (Offer offer) h = safe_of h.0

  module _ (i s : Ref) (h : CameAndWent run i s) (v : ℕ) (lt : v < last) (all : (u : ℕ) → u ≤ v → AllAt run i s h u) (handle : ℕ) (offer : Descriptor)
      (swap : IsSwap states run.records last v handle offer) (x : Bool) (r : Ref) (f : fresh_of x offer ≡ Some r) where
    abbrev by : StandsBy (states v) handle offer
    by = offerer run v handle offer swap

    has : fresh_in x by.owner.line ≡ Some r
    has = its_fresh by.owner.line offer x r by.completes f

    link : IsLink run r
    link = link_in_end run v r (omega arith) (fresh_stands run v (omega arith) by.k by.owner x r by.runs has)

    unread : (u : ℕ) → u ≤ v → IsOpen run u r → ⊥
    unread u le o =
        fresh_unopened run v (omega arith) by.k by.owner x r by.runs by.unmarked has
        (open_opened run (suc v) v (omega arith) (omega arith) r (ap is_indirection link.2) (open_still run u v le r o))

    untouched : counting_main states last v r ≡ first_main states last r
    untouched =
        from_time (λ u. counting_main states last u r ≡ first_main states last r) zero v refl
        (λ u low below so_far. closed_keeps run u (omega (arith, below, lt)) r (unread u (omega (arith, below))) ∙ so_far) v
        (omega arith) (omega arith)

    shows : Shows run v by.owner r
    shows = show_at run v (omega arith) by.k by.owner x r by.runs by.unmarked has

    copied_is : (copied by.owner.line).1 ≡ offer.expected
    copied_is = let (c, at_line, same) = completes_it by.owner.line offer by.completes in ap (λ l. (copied l).1) at_line ∙ ap (λ (o : Descriptor). o.expected) same

    old : IsRootOf states v handle offer.root (generation_at (states v).heap offer.root)
    old = old_stands run v handle offer swap

    old_link : IsLink run offer.root
    old_link = subst (IsLink run) old.is (root_is_link v (omega arith) handle old.root old.is_open)

    old_calm : Calm run i s h offer.root
    old_calm = subst (Calm run i s h) old.is ((all v (omega arith)).roots handle old.root old.is_open)

    old_keeps : (u : ℕ) → v ≤ u → u ≤ last → counting_main states last u offer.root ≡ offer.expected
    old_keeps u le within = no_late_commit run v handle offer swap u le within

    over_expected : first_main states last r ≡ offer.expected → Calm run i s h r
    over_expected is =
        calm r (λ other n. none (subst (λ q. Names run q s) is n))
        (λ d d_link n. (all v (omega arith)).below offer.root d old_link old_calm d_link (subst (λ q. Names run q d) (is ∙ sym (old_keeps v (omega arith) (omega arith))) n))
      where
        none : Names run offer.expected s → ⊥
        none n = elim (cases_eq offer.root i) [
          | inl here ↦
              not_kept run i s h v (omega (arith, lt)) all v (omega arith) offer.expected (ap (counting_main states last v) (sym here) ∙ old_keeps v (omega arith) (omega arith))
              (λ sooner. ap (counting_main states last (suc h.until)) (sym here) ∙ old_keeps (suc h.until) sooner h.within) n
          | inr other ↦ (all v (omega arith)).none offer.root old_link old_calm other (subst (λ q. Names run q s) (sym (old_keeps v (omega arith) (omega arith))) n)
        ]

    over_empty : node_under states last (first_main states last r) ≡ empty_branch → Calm run i s h r
    over_empty is =
        calm r (λ other n. no_entry s (subst (λ m. Contains (entries_of m) s) is n)) (λ d d_link n. absurd (no_entry d (subst (λ m. Contains (entries_of m) d) is n)))

    by_shown : (b : Bool) → ShowsMain run b (copied by.owner.line).1 (counting_main states last v r) → Calm run i s h r
    by_shown false is = over_expected (sym untouched ∙ is ∙ copied_is)
    by_shown true is = over_empty (ap (node_under states last) (sym untouched) ∙ is)

    pub brought_calm : Calm run i s h r
    brought_calm = by_shown _ shows.main_is
