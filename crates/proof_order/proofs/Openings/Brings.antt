-- What the offer of a clear, a snapshot or a freeze brings where it is carried out.
use Rattle.std.proofs.Common.{◌≡◌, ℕ, suc, ◌≤◌, Bool, true, false, cond, Option, Some, None, is_some, refl, sym, ap, ◌∙◌, subst, arith}
use Rattle.std.proofs.lemmas.Bool.{false≢true}
use Rattle.proof_order.specs.Vocabulary.{Call, Clear, Snapshot, Freeze, Ref, generation_at, Operation, Descriptor, Bounds, Step, handle_of, opens_handle, State, first_state, operation_of}
use Rattle.proof_order.specs.Vocabulary.{operation_after, number_for, run, IsRun, is_clear, counting_main}
use Rattle.proof_order.specs.Beneath.machine_model.proofs.Actors.{mark_only, marks_in}
use Rattle.proof_order.specs.Beneath.machine_model.proofs.Found.{none_found}
use Rattle.proof_order.specs.Beneath.machine_model.proofs.Times.{at_each_time}
use Rattle.proof_generations.proofs.Handles.Running.{Comes, began, rested, went, comes, place_of_actor, gave}
use Rattle.proof_generations.specs.Running.{Runs}
use Rattle.proof_generations.proofs.Handles.Ids.{one_of_id}
use Rattle.proof_generations.proofs.Lines.Copy.{second_fits}
use Rattle.proof_generations.proofs.Offers.Standing.{StandsBy, completes_it}
use Rattle.proof_generations.proofs.Roots.Own.{its_fresh}
use Rattle.proof_generations.proofs.Roots.Kept.{fresh_of}
use Rattle.proof_order.specs.Openings.{IsSwap, IsRootOf, IsNewRoot, Brings, clears, snapshots, freezes, SwapsBring}
use Rattle.proof_order.proofs.Openings.Carried.{ordered}
use Rattle.proof_order.proofs.Openings.NeverStood.{IsNew, new_at}
use Rattle.proof_order.proofs.Openings.RootOf.{roots_are_one}
use Rattle.proof_order.proofs.Openings.SwapState.{offerer, offers, successor_stands, second_stands}
use Rattle.proof_order.proofs.Openings.Copy.{copied}
use Rattle.proof_order.proofs.Openings.FreshMains.{Shows, ShowsMain, show_at, fresh_stays}
use Rattle.proof_order.specs.Beneath.history.proofs.Places.{option_tested, option_untested}

-- ---- the number that is opened

-- a snapshot and a freeze have a handle to open, no other call has one
abbrev HaveNumbers : State → Type 0
HaveNumbers state = (k : ℕ) (operation : Operation) → Runs state k operation → is_some operation.opens ≡ opens_handle operation.call

numbered : (state : State) (call : Call) (number : Option ℕ) → is_some (cond (opens_handle call) (Some (number_for state number)) None) ≡ opens_handle call
numbered state call number = by (opens_handle call)
  where
    by : (b : Bool) → is_some (cond b (Some (number_for state number)) None) ≡ b
    by true = refl
    by false = refl

numbers_by : (state : State) (s : Step) → HaveNumbers state → (k : ℕ) (found : Operation) → Comes state s k found → is_some found.opens ≡ opens_handle found.call
numbers_by state s all k found (began call number is d it) = ap (λ (x : Operation). is_some x.opens) it ∙ numbered state call number ∙ ap (λ (x : Operation). opens_handle x.call) (sym it)
numbers_by state s all k found (rested was at_k it other_step) =
    let same = it ∙ mark_only (marks_in state s) was in
    ap (λ (x : Operation). is_some x.opens) same ∙ all k was at_k ∙ ap (λ (x : Operation). opens_handle x.call) (sym same)
numbers_by state s all k found (went was is at_k g it) =
    let same = it ∙ mark_only (marks_in state s) (operation_after state was) in
    ap (λ (x : Operation). is_some x.opens) same ∙ all k was at_k ∙ ap (λ (x : Operation). opens_handle x.call) (sym same)
numbers_by state s all k found (gave was answer is at_k may it) = ap (λ (x : Operation). is_some x.opens) it ∙ all k was at_k ∙ ap (λ (x : Operation). opens_handle x.call) (sym it)

numbers_at_first : (limits : Bounds) → HaveNumbers (first_state limits)
unfolding first_state
numbers_at_first limits k operation at_k = absurd (none_found limits.actors k operation at_k)

numbers_at : {limits : Bounds} {states : ℕ → State} {last : ℕ} (run : IsRun limits states last) → (t : ℕ) → t ≤ last → HaveNumbers (states t)
numbers_at {limits} {states} {last} run =
    at_each_time run HaveNumbers (numbers_at_first limits) (λ before s o after m all k found now. numbers_by before s all k found (comes before s o after m k found now))

-- ---- the new roots

module _ {limits : Bounds} {states : ℕ → State} {last : ℕ} (run : IsRun limits states last)
    (t handle : ℕ) (offer : Descriptor) (swap : IsSwap states run.records last t handle offer) where
  abbrev by : StandsBy (states t) handle offer
  by = offerer run t handle offer swap

  copied_is : copied by.owner.line ≡ (offer.root, offer.expected)
  copied_is = let (c, at_line, its) = completes_it by.owner.line offer by.completes in ap copied at_line ∙ ap (λ (o : Descriptor). (o.root, o.expected)) its

  shows : (x : Bool) (q : Ref) → fresh_of x offer ≡ Some q → Shows run t by.owner q
  shows x q e = show_at run t (omega (arith, swap.taken)) by.k by.owner x q by.runs by.unmarked (its_fresh by.owner.line offer x q by.completes e)

  is_new : (x : Bool) (q : Ref) → fresh_of x offer ≡ Some q → IsNew run t by.owner q
  is_new x q e = new_at run t (omega (arith, swap.taken)) by.k by.owner x q by.runs by.unmarked (its_fresh by.owner.line offer x q by.completes e)

  new_root : (x : Bool) (q : Ref) → fresh_of x offer ≡ Some q → (h : ℕ) → IsRootOf states (suc t) h q (generation_at (states t).heap q) → IsNewRoot states last t offer q
  new_root x q e h stands =
      let one = roots_are_one run (suc t) h q (generation_at (states t).heap q) swap.taken stands in
      record {
        newer = omega (arith, (is_new x q e).newer, ap (λ p. generation_at (states t).heap p.0) copied_is);
        is_root = one.0;
        keeps = one.1;
      }

  main_shows : (x : Bool) (q : Ref) → fresh_of x offer ≡ Some q → ShowsMain run (is_clear by.owner.call) offer.expected (counting_main states last (suc t) q)
  main_shows x q e =
      let s = shows x q e in
      let stays = fresh_stays run t swap.taken by.k by.owner x q by.runs by.unmarked (its_fresh by.owner.line offer x q by.completes e) s.link in
      subst (λ m. ShowsMain run (is_clear by.owner.call) offer.expected m) (sym stays)
      (subst (λ p. ShowsMain run (is_clear by.owner.call) p.1 (counting_main states last t q)) copied_is s.main_is)

  -- ---- by the call

  module _ (call : Call) (is : by.owner.call ≡ call) where
    shows_so : (x : Bool) (q : Ref) → fresh_of x offer ≡ Some q → ShowsMain run (is_clear call) offer.expected (counting_main states last (suc t) q)
    shows_so x q e = subst (λ c. ShowsMain run (is_clear c) offer.expected (counting_main states last (suc t) q)) is (main_shows x q e)

    fits : second_fits call offer.second ≡ true
    fits = ap (λ c. second_fits c offer.second) (sym is) ∙ (offers run t handle offer swap).second

    successor_new : IsNewRoot states last t offer offer.successor
    successor_new = new_root true offer.successor refl handle (successor_stands run t handle offer swap)

    number : opens_handle call ≡ true → (n : ℕ) × (offer.opens ≡ Some n)
    number opening =
        let numbers = numbers_at run t (omega (arith, swap.taken)) by.k by.owner by.runs in
        option_tested offer.opens (ap is_some (offers run t handle offer swap).number ∙ numbers ∙ ap opens_handle is ∙ opening)

    second_new : opens_handle call ≡ true → (second : Ref) → offer.second ≡ Some second → IsNewRoot states last t offer second
    second_new opening second e =
        let (n, opens) = number opening in
        new_root false second e n (second_stands run t handle offer swap n second opens e)

    -- the call is of this very handle
    on : handle_of call ≡ handle
    on = ap handle_of (sym is) ∙ by.on_handle

    no_number : opens_handle call ≡ false → offer.opens ≡ None
    no_number closing =
        let numbers = numbers_at run t (omega (arith, swap.taken)) by.k by.owner by.runs in
        option_untested offer.opens (ap is_some (offers run t handle offer swap).number ∙ numbers ∙ ap opens_handle is ∙ closing)

  -- by the call, and the second root
  brings_by : (call : Call) → by.owner.call ≡ call → (second : Option Ref) → offer.second ≡ second → second_fits call second ≡ true → Brings states last t handle offer call
  brings_by (Clear h) is None e f =
      subst (λ x. Brings states last t handle offer (Clear x)) (sym (on (Clear h) is))
      (clears (no_number (Clear h) is refl) (successor_new (Clear h) is) (shows_so (Clear h) is true offer.successor refl))
  brings_by (Snapshot h) is (Some second) e f =
      let (n, opens) = number (Snapshot h) is refl in
      subst (λ x. Brings states last t handle offer (Snapshot x)) (sym (on (Snapshot h) is))
      (snapshots n second opens e (successor_new (Snapshot h) is) (shows_so (Snapshot h) is true offer.successor refl) (second_new (Snapshot h) is refl second e)
      (shows_so (Snapshot h) is false second e))
  brings_by (Freeze h) is None e f =
      let (n, opens) = number (Freeze h) is refl in
      subst (λ x. Brings states last t handle offer (Freeze x)) (sym (on (Freeze h) is))
      (freezes n opens e (successor_new (Freeze h) is) (shows_so (Freeze h) is true offer.successor refl))
  brings_by (Clear h) is (Some second) e f = absurd (false≢true f)
  brings_by (Snapshot h) is None e f = absurd (false≢true f)
  brings_by (Freeze h) is (Some second) e f = absurd (false≢true f)
  brings_by call is second e f = absurd (false≢true f)

  brings_owner : Brings states last t handle offer by.owner.call
  brings_owner = brings_by by.owner.call refl offer.second refl (fits by.owner.call refl)

  -- who offered is the operation that has the offer's id
  pub offered_by : (actor : ℕ) (operation : Operation) → operation_of (states t) actor ≡ Some operation → operation.id ≡ offer.operation → by.owner ≡ operation
  offered_by actor operation is id =
      let (k, place, at_k) = place_of_actor (states t) actor operation is in
      one_of_id (states t) (ordered run t handle offer swap).offers.ids by.k k by.owner operation by.runs at_k (sym (offers run t handle offer swap).its ∙ sym id)

pub swaps_bring : {limits : Bounds} {states : ℕ → State} {last : ℕ} (run : IsRun limits states last) → SwapsBring states run.records last
swaps_bring {limits} {states} {last} run t handle offer swap actor operation is id =
    subst (λ (x : Operation). Brings states last t handle offer x.call) (offered_by run t handle offer swap actor operation is id)
    (brings_owner run t handle offer swap)
