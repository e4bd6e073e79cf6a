-- At a root swap the expected node is the old root's main node, and it stays so: no READ that asked for the root before the swap's COMPLETE began can still commit another there.
use Rattle.std.proofs.Common.{◌≡◌, ℕ, zero, suc, ◌-◌, ◌<◌, ◌≤◌, ◌==◌, Bool, true, false, cond, ◌⊎◌, inl, inr, Option, Some, None, is_some, refl, sym, ap, ◌∙◌, subst, arith, eqb-true, eq-eqb}
use Rattle.std.proofs.lemmas.Bool.{and_parts, cases_lt}
use Rattle.std.proofs.lemmas.Option.{none-some, same_Some}
use Rattle.proof_order.specs.Vocabulary.{Writable, Ref, generation_at, generation_of, Line, Operation, Complete, Descriptor, Root, Plain, Offer, Bounds, handle_of, State, root_at, root_of, word_of}
use Rattle.proof_order.specs.Vocabulary.{word_at, stands_in, line_action, read_of, node_under, main_before, IsRun, closed_at, moment_at, Moment, is_end, IsMoment, words_of, counting_main, is_made}
use Rattle.proof_order.specs.Beneath.machine_model.specs.declared.actions.Action.TheVariants as act
use Rattle.proof_order.specs.Beneath.machine_model.specs.declared.lines.Line.TheVariants as line
use Rattle.proof_order.specs.Beneath.machine_model.specs.declared.roots.CompleteLine.TheVariants as complete
use Rattle.proof_order.specs.Beneath.proof_memory.proofs.Safety.AtEachTime.{safe_at}
use Rattle.proof_order.specs.Beneath.proof_commits.proofs.Course.Readings.{given_for_good}
use Rattle.proof_order.specs.Beneath.proof_commits.proofs.Known.Given.{Known}
use Rattle.proof_order.specs.Beneath.proof_commits.proofs.Known.Acts.{known_by}
use Rattle.proof_order.specs.Beneath.proof_commits.proofs.Known.Given.{RootsAreOpen}
use Rattle.proof_order.specs.Beneath.proof_commits.proofs.Words.Along.{protocol}
use Rattle.proof_generations.proofs.Handles.Running.{place_of_actor}
use Rattle.proof_generations.proofs.Lines.Offers.{completing_of}
use Rattle.proof_generations.proofs.Roots.Open.{no_close_at, open_root}
use Rattle.proof_generations.proofs.Roots.Own.{gen}
use Rattle.proof_generations.proofs.Roots.Along.{IsOrdered, ordered_at}
use Rattle.proof_order.specs.Beneath.proof_contents.proofs.Values.Runs.{counting_main-made, made_next}
use Rattle.proof_order.specs.Openings.{IsSwap, IsRootOf, NoLateCommit}
use Rattle.proof_order.proofs.Openings.Carried.{Carried, mover, word, IsOffered, offered_root}
use Rattle.proof_order.proofs.Openings.RootOf.{roots_are_one, root_in_use}
use Rattle.proof_order.proofs.Openings.CompleteTimes.{Since, since_at}
use Rattle.proof_order.proofs.Openings.SwapState.{closed_for_ever, old_stands}
use Rattle.proof_order.proofs.Openings.OfferStood.{stood_since, known_later, known_later_than_first}
use Rattle.proof_order.specs.Beneath.machine_model.proofs.Grown.{grown_in_use}
use Rattle.proof_order.specs.Facts.{Runs}

-- who carries an offer out stands on the last line of a COMPLETE of it
completes_so : (state : State) (operation : Operation) (l : Line) (offer : Descriptor) (main : Ref) → line_action state operation l ≡ act.Complete offer main →
    completing_of l ≡ Some (record { offer = offer; line = complete.Swap main })
completes_so state operation (line.Root l) offer main e = grind arith
completes_so state operation (line.Key l) offer main e = grind arith
completes_so state operation (line.Build l) offer main e = grind arith
completes_so state operation (line.Swap why s) offer main e = grind arith
completes_so state operation (line.Renew l) offer main e = grind arith
completes_so state operation (line.Clean l) offer main e = grind arith
completes_so state operation (line.Climb l) offer main e = grind arith
completes_so state operation (line.Copy l) offer main e = grind arith
completes_so state operation (line.Walk l) offer main e = grind arith
completes_so state operation (line.End answer) offer main e = grind arith
completes_so state operation line.Impossible offer main e = grind arith

-- who reads isn't at its end
reads_on : (l : Line) (r : _) → read_of l ≡ Some r → is_end l ≡ false
reads_on (line.End answer) r e = absurd (none-some r e)
reads_on l r e = refl

-- what is made stays made
pub made_later : (states : ℕ → State) (t u : ℕ) (i : Ref) → t ≤ u → is_made states t i ≡ true → is_made states u i ≡ true
made_later states t zero i le e = subst (λ v. is_made states v i ≡ true) (none_earlier t le) e
  where
    none_earlier : (t : ℕ) → t ≤ zero → t ≡ zero
    none_earlier t h = omega arith
made_later states t (suc u) i le e = elim (cases_lt t (suc u)) [
  | inl before ↦ made_next states u i (made_later states t u i (omega arith) e)
  | inr now ↦ let same : t ≡ suc u = omega arith in subst (λ v. is_made states v i ≡ true) same e
]

module _ {limits : Bounds} {states : ℕ → State} {last : ℕ} (run : IsRun limits states last) (t handle : ℕ) (offer : Descriptor) (swap : IsSwap states run.records last t handle offer) where
  abbrev carried : Carried (states t) swap.step handle offer
  carried = mover run t handle offer swap

  abbrev its : Complete
  its = record { offer = offer; line = complete.Swap carried.main }

  -- who takes the step
  taking : (k : ℕ) × (carried.actor ≡ suc k) × Runs (states t) k carried.mover
  taking = place_of_actor (states t) carried.actor carried.mover carried.moves

  abbrev its_moment : Moment
  its_moment = moment_at (run.records t) (suc taking.0)

  -- the COMPLETE that carries it out
  complete_since : Since run t taking.0 its
  complete_since =
      let at_k = taking.2 in
      since_at run t (omega (arith, swap.taken)) taking.0 carried.mover its at_k (completes_so (states t) carried.mover carried.mover.line offer carried.main carried.completes)

  abbrev since : ℕ
  since = complete_since.at

  abbrev g : ℕ
  g = generation_at (states t).heap offer.root

  -- while it stands its root has this generation, and its handle is the one that has it
  stands_then : (u : ℕ) → since ≤ u → u ≤ t → word_at (states u) handle ≡ Offer offer
  stands_then u from before =
      stood_since run handle offer u t before (omega (arith, swap.taken))
      (known_later run handle offer since u from (omega (arith, swap.taken)) complete_since.known) (word run t handle offer swap)

  offered_then : (u : ℕ) → since ≤ u → u ≤ t → IsOffered (states u) handle offer
  offered_then u from before =
      offered_root (states u) (run.records u) (safe_at run u (omega (arith, swap.taken)))
      (ordered_at run u (omega (arith, swap.taken))) handle offer (stands_then u from before)

  root_then : (u : ℕ) → since ≤ u → u ≤ t → generation_at (states u).heap offer.root ≡ g
  root_then u from before =
      let o = offered_then u from before in
      let stands : IsRootOf states u handle offer.root (generation_at (states u).heap offer.root) = record { root = o.root; is_open = o.is_open; is = ap root_of o.word; its = refl } in
      sym (roots_are_one run u handle offer.root _ (omega (arith, swap.taken)) stands).1
      ∙ (roots_are_one run t handle offer.root g (omega (arith, swap.taken)) (old_stands run t handle offer swap)).1

  no_plain : (r : Ref) → Plain r ≡ Offer offer → ⊥
  no_plain r e = cc e

  -- so nobody finds a plain root of this generation then
  not_plain : (u : ℕ) → since ≤ u → u ≤ t → (other : ℕ) (root : Root) (r : Ref) → root_at (states u) other ≡ Some root → root.access ≡ Writable → word_at (states u) other ≡ Plain r →
      generation_at (states u).heap r ≡ g → ⊥
  not_plain u from before other root r is_open writable plain same =
      let o = offered_then u from before in
      let I : IsOrdered (states u) (run.records u) = ordered_at run u (omega (arith, swap.taken)) in
      let gens : gen (states u) root ≡ gen (states u) o.root =
      ap (λ x. generation_at (states u).heap (root_of x)) (sym (ap word_of is_open) ∙ plain) ∙ same ∙ sym (root_then u from before)
      ∙ ap (λ x. generation_at (states u).heap (root_of x)) (sym o.word) in
      let one = I.roots.apart other handle root o.root is_open o.is_open writable o.writable gens in
      no_plain r (sym plain ∙ ap (word_at (states u)) one ∙ stands_then u from before)

  -- told as if the generation had been closed just before the COMPLETE began
  abbrev closing : ℕ → Option ℕ
  closing generation = cond (generation == g) (Some (since - 1)) None

  began : since ≡ suc (since - 1)
  began = omega (arith, known_later_than_first run handle offer since complete_since.known)

  asked_before : RootsAreOpen states last closing
  asked_before u within actor operation is i main previous asks writable r plain c closed = by (generation_at (states u).heap r == g) refl closed
    where
      going : is_end operation.line ≡ false
      going = reads_on operation.line _ asks

      -- no later than the swap, which closes it
      by_swap : generation_at (states u).heap r ≡ g → u ≤ t
      by_swap same =
          open_root run u (omega arith) actor operation is going writable r plain t
          (ap (closed_at (run.records last)) same ∙ closed_for_ever run t handle offer swap last (swap.taken) (omega arith))

      on_handle : (root : Root) × (root_at (states u) (handle_of operation.call) ≡ Some root) × (root.access ≡ operation.access)
      on_handle =
          let (k, place, at_k) = place_of_actor (states u) actor operation is in
          (ordered_at run u (omega arith)).handles.on_open k operation at_k (no_close_at run u (omega arith) k operation at_k going)

      by_order : generation_at (states u).heap r ≡ g → (since ≤ u) ⊎ (u < since) → u ≤ since - 1
      by_order same (inr before) = omega arith
      by_order same (inl from) = absurd (not_plain u from (by_swap same) (handle_of operation.call) on_handle.0 r on_handle.1 (on_handle.2 ∙ writable) plain same)

      order : (since ≤ u) ⊎ (u < since)
      order = grind arith

      by : (b : Bool) → (generation_at (states u).heap r == g) ≡ b → cond b (Some (since - 1)) None ≡ Some c → u ≤ c
      by true same e = omega (arith, by_order (eqb-true _ g same) order, same_Some (since - 1) c e)
      by false apart e = absurd (none-some c e)

  abbrev known_so : Known limits states last
  known_so = known_by run closing asked_before

  -- the READ gave the expected node
  given : carried.main ≡ offer.expected
  given = eqb-true carried.main offer.expected (and_parts (stands_in (word_at (states t) handle) offer) (carried.main == offer.expected) carried.carried).1

  moment : IsMoment (words_of states run.records last closing) offer.root carried.main its_moment.read_at its_moment.moment complete_since.counts.1.0
  moment =
      let m = complete_since.counts.1.2 in
      record { from = m.from; past = m.past; link = m.link; stood = m.stood; none = m.none; is = m.is; first = m.first }

  its_closing : closing (generation_of (node_under states last offer.root)) ≡ Some (since - 1)
  its_closing =
      let same = (roots_are_one run t handle offer.root g (omega (arith, swap.taken)) (old_stands run t handle offer swap)).1 in
      ap (λ b. cond b (Some (since - 1)) None) (eq-eqb (generation_of (node_under states last offer.root)) g same)

  pub stays_expected : (u : ℕ) → t ≤ u → u ≤ last → counting_main states last u offer.root ≡ offer.expected
  stays_expected u after within =
      let counts = complete_since.counts in
      let final : main_before states u offer.root ≡ carried.main =
      given_for_good (protocol limits states last known_so) offer.root carried.main its_moment.read_at its_moment.moment counts.1.0 (since - 1) moment its_closing
      (omega (arith, counts.0, began)) (omega (arith, counts.1.1, swap.taken)) u (omega (arith, moment.past, counts.1.1)) within in
      let used = root_in_use run t handle offer.root g (omega (arith, swap.taken)) (old_stands run t handle offer swap) in
      counting_main-made states last u offer.root (made_later states t u offer.root after (ap is_some (grown_in_use states t offer.root used.0 used.1))) ∙ final ∙ given

pub no_late_commit : {limits : Bounds} {states : ℕ → State} {last : ℕ} (run : IsRun limits states last) → NoLateCommit states run.records last
no_late_commit {limits} {states} {last} run t handle offer swap = stays_expected run t handle offer swap
