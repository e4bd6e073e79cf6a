-- Roots: the one in a writable handle's word has a generation that is open and its own, that of a read-only handle is closed, and the fresh roots that an operation is to offer have
-- generations that no handle has and that are open.
use Rattle.std.proofs.Common.{◌≡◌, ℕ, suc, Bool, true, false, cond, inl, inr, ◌⊎◌, ◌∷◌, ◌++◌, Option, Some, None, refl, sym, ap, ◌∙◌, subst, arith, []}
use Rattle.std.proofs.lemmas.Bool.{true≢false, false≢true}
use Rattle.std.proofs.lemmas.Option.{none-some, same_Some}
use Rattle.proof_generations.specs.Vocabulary.{Access, Writable, ReadOnly, Call, Clear, Snapshot, Freeze, Close, Entries, Count, Ref, Indirection, generation_at, generation_of, next_ref, Line}
use Rattle.proof_generations.specs.Vocabulary.{Operation, Descriptor, Root, Outcome, Step, handle_of, is_close, needs_writable, State, root_at, root_of, word_of, operation_of, action_of, first_line}
use Rattle.proof_generations.specs.Vocabulary.{opened_root, Begins, Ends, Sweeps, GivesUp, Moves, Record, closed_at, noted, told_in, made_node}
use Rattle.proof_generations.specs.Beneath.machine_model.specs.declared.actions.Action.TheVariants as act
use Rattle.proof_generations.specs.Beneath.machine_model.specs.declared.copying.CopyLine.TheVariants as copy
use Rattle.proof_generations.specs.Beneath.machine_model.specs.declared.lines.Line.TheVariants as line
use Rattle.proof_generations.specs.Beneath.machine_model.specs.declared.steps.Step.TheVariants as step
use Rattle.proof_generations.specs.Beneath.machine_model.specs.Moves.{Goes}
use Rattle.proof_generations.specs.Beneath.machine_model.proofs.Actors.{marks_in, marks_by, marks_of}
use Rattle.proof_generations.specs.Beneath.proof_memory.proofs.Safety.States.{IsSafe}
use Rattle.proof_generations.specs.Beneath.proof_memory.proofs.Safety.Steps.{made_fresh}
use Rattle.proof_generations.proofs.Handles.Running.{comes, one_at}
use Rattle.proof_generations.specs.Running.{Runs}
use Rattle.proof_generations.proofs.Offers.Standing.{own_offer, own_numbers, StandsBy}
use Rattle.proof_generations.proofs.Lines.Copy.{second_fits}
use Rattle.proof_generations.proofs.Offers.Same.{HasOffers}
use Rattle.proof_generations.proofs.Handles.Footings.{ActionCarriesOut, RootFrom, stood, swapped, newly, one_carried}
use Rattle.proof_generations.proofs.Offers.Marks.{carried_stands}
use Rattle.proof_generations.proofs.Handles.Operations.{HasHandles, Ran, ran_or_began}
use Rattle.proof_generations.proofs.Counter.Below.{ClosingsBelow, IsBelow, looked_up_below, closed_below}
use Rattle.proof_generations.proofs.Roots.Kept.{root_kept, fresh_in, fresh_of, fresh_from, FreshFrom, had, new, makes_first, fresh_kept}
use Rattle.proof_generations.proofs.Offers.Swaps.{StepKind, quiet, swaps, step_kind, Kept, closing_of, closed_in, closed_kept, closed_other, closed_last}
use Rattle.proof_generations.specs.Beneath.machine_model.proofs.Basics.{both_kinds}

-- the generation of a root
abbrev pub gen : State → Root → ℕ
gen state root = generation_at state.heap (root_of root.word)

-- the generation is open, and no handle's root has it
pub record IsUnused (state : State) (past : Record) (g : ℕ) : Type 0 where
  pub unclosed : closed_at past g ≡ None
  pub alone : (handle : ℕ) (root : Root) → root_at state handle ≡ Some root → gen state root ≡ g → ⊥

-- an operation that isn't marked is to offer a fresh root
pub record IsToOffer (state : State) (k : ℕ) (x : Bool) (r : Ref) : Type 0 where
  pub operation : Operation
  pub runs : Runs state k operation
  pub unmarked : operation.is_marked ≡ false
  pub its : fresh_in x operation.line ≡ Some r

pub record HasRoots (state : State) (past : Record) : Type 0 where
  pub unclosed : (handle : ℕ) (root : Root) → root_at state handle ≡ Some root → root.access ≡ Writable → closed_at past (gen state root) ≡ None
  pub is_closed : (handle : ℕ) (root : Root) → root_at state handle ≡ Some root → root.access ≡ ReadOnly → (c : ℕ) × (closed_at past (gen state root) ≡ Some c)
  pub apart : (handle other : ℕ) (a b : Root) → root_at state handle ≡ Some a → root_at state other ≡ Some b → a.access ≡ Writable → b.access ≡ Writable → gen state a ≡ gen state b → handle ≡ other
  pub fresh : (k : ℕ) (operation : Operation) (x : Bool) (r : Ref) → Runs state k operation → operation.is_marked ≡ false → fresh_in x operation.line ≡ Some r →
      IsUnused state past (generation_at state.heap r)
  pub fresh_apart : (k j : ℕ) (x y : Bool) (r q : Ref) → IsToOffer state k x r → IsToOffer state j y q → generation_at state.heap r ≡ generation_at state.heap q → (k ≡ j) × (x ≡ y)

pub first_none : (call : Call) (x : Bool) (r : Ref) → fresh_in x (first_line call) ≡ Some r → ⊥
first_none (Entries h) x r e = none-some r e
first_none (Count h) x r e = none-some r e
first_none (Close h) x r e = none-some r e
first_none call x r e = none-some r e

-- who completes an offer has its roots
pub its_fresh : (l : Line) (offer : Descriptor) (x : Bool) (r : Ref) → own_offer l ≡ Some offer → fresh_of x offer ≡ Some r → fresh_in x l ≡ Some r
its_fresh (line.Copy (copy.Complete c)) offer x r e f = ap (fresh_of x) (same_Some _ _ e) ∙ f
its_fresh l offer x r e f = absurd (none-some offer e)

pub to_offer : {state : State} {handle : ℕ} {offer : Descriptor} (b : StandsBy state handle offer) (x : Bool) (r : Ref) → fresh_of x offer ≡ Some r → IsToOffer state b.k x r
to_offer {offer} b x r e = record { operation = b.owner; runs = b.runs; unmarked = b.unmarked; its = its_fresh b.owner.line offer x r b.completes e }

-- the roots that an offer brings keep their generations over a step
pub brought_kept : (state : State) → IsSafe state → (s : Step) (o : Outcome) (after : State) → Moves state s o after → (handle : ℕ) (offer : Descriptor) → StandsBy state handle offer →
    (x : Bool) (r : Ref) → fresh_of x offer ≡ Some r → generation_at after.heap r ≡ generation_at state.heap r
brought_kept state S s o after m handle offer stands x r e =
    fresh_kept state S s o after m stands.k stands.owner x r stands.runs (its_fresh stands.owner.line offer x r stands.completes e)

-- a root that is made has the generation that is drawn
drawn_by : (state : State) (S : IsSafe state) (s : Step) (o : Outcome) (after : State) → Moves state s o after → (k : ℕ) (was : Operation) → s ≡ step.Go (suc k) → Runs state k was → (main r : Ref) →
    action_of state was ≡ act.MakeRoot main → next_ref state.heap ≡ Some r → generation_at after.heap r ≡ state.generations
drawn_by state S s o after (Begins d) k was e at_k main r a n = let wrong : ⊥ = cc e in absurd wrong
drawn_by state S s o after (Goes {actor} {operation} d is action g) k was e at_k main r a n =
    let place : actor ≡ suc k = cc e in
    let one : operation ≡ was = same_Some _ _ (sym is ∙ ap (operation_of state) place ∙ at_k) in
    ap generation_of
    (made_fresh state S actor k operation (at_k ∙ ap Some (sym one)) (Indirection state.generations main) r (ap (λ x. made_node state (action_of state x)) one ∙ ap (made_node state) a) n).1
drawn_by state S s o after (Ends {actor} {operation} {answer} d is action) k was e at_k main r a n =
    let place : actor ≡ suc k = cc e in
    let one : operation ≡ was = same_Some _ _ (sym is ∙ ap (operation_of state) place ∙ at_k) in
    let both : act.End answer ≡ act.MakeRoot main = sym action ∙ ap (action_of state) one ∙ a in
    let wrong : ⊥ = cc both in
    absurd wrong
drawn_by state S s o after (GivesUp d is action) k was e at_k main r a n = let wrong : ⊥ = cc e in absurd wrong
drawn_by state S s o after (Sweeps spent) k was e at_k main r a n = let wrong : ⊥ = cc e in absurd wrong

-- a call that offers needs a writable handle, and is no close
pub writable_call : (call : Call) (second : Option Ref) → second_fits call second ≡ true → (is_close call ≡ false) × (needs_writable call ≡ true)
writable_call (Clear h) second e = (refl, refl)
writable_call (Snapshot h) second e = (refl, refl)
writable_call (Freeze h) second e = (refl, refl)
writable_call call second e = absurd (false≢true e)

module _ (state : State) (S : IsSafe state) (I : HasOffers state) (H : HasHandles state) (B : IsBelow state) (past recorded : Record)
    (C : ClosingsBelow state.generations past.closings) (R : HasRoots state past) (s : Step) (o : Outcome) (after : State) (m : Moves state s o after)
    (notes : recorded ≡ noted past state.steps (told_in state s)) where
  -- ---- fresh roots behind the step

  data FreshHad (k : ℕ) (found : Operation) (x : Bool) (r : Ref) : Type 0 where
    old : (ran : Ran state s k found) → fresh_in x ran.was.line ≡ Some r → FreshHad k found x r
    made : (was : Operation) → Runs state k was → s ≡ step.Go (suc k) → generation_at after.heap r ≡ state.generations → x ≡ makes_first was.line → FreshHad k found x r

  from_line : (k : ℕ) (found : Operation) (x : Bool) (r : Ref) (ran : Ran state s k found) → s ≡ step.Go (suc k) → FreshFrom state ran.was ran.was.line x r → FreshHad k found x r
  from_line k found x r ran is (had e) = old ran e
  from_line k found x r ran is (new main a n side) = made ran.was ran.at_k is (drawn_by state S s o after m k ran.was is ran.at_k main r a n) side

  fresh_had : (k : ℕ) (found : Operation) → Runs after k found → (x : Bool) (r : Ref) → fresh_in x found.line ≡ Some r → FreshHad k found x r
  fresh_had k found at_k x r e = elim (ran_or_began state I H s k found (comes state s o after m k found at_k)) [
    | inl ran ↦ elim ran.line [
      | inl same ↦ old ran (ap (fresh_in x) (sym same) ∙ e)
      | inr (inl goes) ↦ from_line k found x r ran goes.0 (fresh_from state ran.was ran.was.line x r (ap (fresh_in x) (sym goes.1) ∙ e))
      | inr (inr ended) ↦ absurd (none-some r (sym (ap (fresh_in x) ended.1) ∙ e))
    ]
    | inr (call, number, is, d, it) ↦ absurd (first_none call x r (ap (λ (y : Operation). fresh_in x y.line) (sym it) ∙ e))
  ]

  gen_kept : (handle : ℕ) (root now : Root) → root_at state handle ≡ Some root → root_of now.word ≡ root_of root.word → gen after now ≡ gen state root
  gen_kept handle root now e word = ap (generation_at after.heap) word ∙ root_kept state S s o after m handle root e

  -- ---- a swap

  module _ (actor : ℕ) (mover : Operation) (offer : Descriptor) (go : s ≡ step.Go actor) (is : operation_of state actor ≡ Some mover)
      (c : ActionCarriesOut state (handle_of mover.call) (action_of state mover) offer) where
    stands : StandsBy state (handle_of mover.call) offer
    stands = I.offers (handle_of mover.call) offer (carried_stands state I actor mover offer is c)

    new_unused : (x : Bool) (r : Ref) → fresh_of x offer ≡ Some r → IsUnused state past (generation_at state.heap r)
    new_unused x r e = R.fresh stands.k stands.owner x r stands.runs stands.unmarked (its_fresh stands.owner.line offer x r stands.completes e)

    -- a root behind the swap: one that stood elsewhere, a new one, or that of a read-only handle over the old one
    data Behind (handle : ℕ) (now : Root) : Type 0 where
      kept : (root : Root) → root_at state handle ≡ Some root → now.access ≡ root.access → gen after now ≡ gen state root → (handle ≡ handle_of mover.call → ⊥) → Behind handle now
      first : (r : Ref) → fresh_of true offer ≡ Some r → gen after now ≡ generation_at state.heap r → handle ≡ handle_of mover.call → now.access ≡ Writable → Behind handle now
      second : (r : Ref) → fresh_of false offer ≡ Some r → gen after now ≡ generation_at state.heap r → offer.opens ≡ Some handle → now.access ≡ Writable → Behind handle now
      frozen : now.access ≡ ReadOnly → gen after now ≡ generation_at state.heap offer.root → Behind handle now

    is_writable : (access : Access) → (access ≡ ReadOnly → needs_writable stands.owner.call ≡ false) → needs_writable stands.owner.call ≡ true → access ≡ Writable
    is_writable Writable h e = refl
    is_writable ReadOnly h e = absurd (true≢false (sym e ∙ h refl))

    old_root : (root : Root) × (root_at state (handle_of mover.call) ≡ Some root) × (root_of root.word ≡ offer.root) × (root.access ≡ Writable)
    old_root =
        let mine = own_numbers stands.owner offer (I.own stands.k stands.owner stands.runs) stands.completes in
        let kinds = writable_call stands.owner.call offer.second mine.second in
        let (root, found, access) = H.on_open stands.k stands.owner stands.runs kinds.0 in
        let here = ap (root_at state) (sym stands.on_handle) ∙ found in
        (root, here, ap root_of (sym (ap word_of here) ∙ carried_stands state I actor mover offer is c), access ∙ is_writable stands.owner.access (S.fits stands.k stands.owner stands.runs) kinds.1)

    old_gen : gen state old_root.0 ≡ generation_at state.heap offer.root
    old_gen = ap (generation_at state.heap) old_root.2

    behind_opened : (handle : ℕ) (now : Root) → offer.opens ≡ Some handle → (second : Option Ref) → offer.second ≡ second → now ≡ opened_root offer second → Behind handle now
    behind_opened handle now its None e it =
        frozen (ap (λ (x : Root). x.access) it)
        (ap (λ (x : Root). gen after x) it ∙ ap (generation_at after.heap) (sym old_root.2) ∙ root_kept state S s o after m (handle_of mover.call) old_root.0 old_root.1 ∙ old_gen)
    behind_opened handle now its (Some q) e it =
        second q e (ap (λ (x : Root). gen after x) it ∙ brought_kept state S s o after m (handle_of mover.call) offer stands false q e) its (ap (λ (x : Root). x.access) it)

    behind : (handle : ℕ) (now : Root) → RootFrom state (handle_of mover.call) (action_of state mover) handle now → Behind handle now
    behind handle now (stood root e access word free) = kept root e access (gen_kept handle root now e word) (free offer c)
    behind handle now (swapped root other d at_it e it) =
        let same = one_carried state (handle_of mover.call) (action_of state mover) offer other c d in
        let one = same_Some _ _ (sym e ∙ old_root.1) in
        let kept = brought_kept state S s o after m (handle_of mover.call) offer stands true offer.successor refl in
        first offer.successor refl (ap (λ (x : Root). gen after x) it ∙ ap (λ (x : Descriptor). generation_at after.heap x.successor) same ∙ kept) at_it
        (ap (λ (x : Root). x.access) it ∙ ap (λ (x : Root). x.access) one ∙ old_root.3)
    behind handle now (newly other n d its at_it it) =
        let same = one_carried state (handle_of mover.call) (action_of state mover) offer other c d in
        behind_opened handle now (ap (λ (x : Descriptor). x.opens) (sym same) ∙ its ∙ ap Some (sym at_it)) offer.second refl (it ∙ ap (λ (x : Descriptor). opened_root x x.second) same)

    module _ (closings : recorded.closings ≡ past.closings ++ closing_of state offer ∷ []) (roots : (handle : ℕ) (now : Root) → root_at after handle ≡ Some now →
        RootFrom state (handle_of mover.call) (action_of state mover) handle now) where
      still_open : (g : ℕ) → closed_at past g ≡ None → (generation_at state.heap offer.root ≡ g → ⊥) → closed_at recorded g ≡ None
      still_open g none other = ap (λ l. closed_in l g) closings ∙ closed_other past.closings (closing_of state offer) g none other

      unused_swapped : (g : ℕ) → IsUnused state past g → ((x : Bool) (r : Ref) → fresh_of x offer ≡ Some r → generation_at state.heap r ≡ g → ⊥) → IsUnused after recorded g
      unused_swapped g u free = record {
        unclosed = still_open g u.unclosed (λ e. u.alone (handle_of mover.call) old_root.0 old_root.1 (old_gen ∙ e));
        alone = λ handle now e. by handle now (behind handle now (roots handle now e));
      }
        where
          by : (handle : ℕ) (now : Root) → Behind handle now → gen after now ≡ g → ⊥
          by handle now (kept root e access same away) is = u.alone handle root e (sym same ∙ is)
          by handle now (first r e same at_it access) is = free true r e (sym same ∙ is)
          by handle now (second r e same its access) is = free false r e (sym same ∙ is)
          by handle now (frozen access same) is = u.alone (handle_of mover.call) old_root.0 old_root.1 (old_gen ∙ sym same ∙ is)

      not_old : (x : Bool) (r : Ref) → fresh_of x offer ≡ Some r → generation_at state.heap offer.root ≡ generation_at state.heap r → ⊥
      not_old x r e same = (new_unused x r e).alone (handle_of mover.call) old_root.0 old_root.1 (old_gen ∙ same)

      open_by : (handle : ℕ) (now : Root) → Behind handle now → now.access ≡ Writable → closed_at recorded (gen after now) ≡ None
      open_by handle now (kept root e access same away) w =
          ap (closed_at recorded) same ∙
          still_open (gen state root) (R.unclosed handle root e (sym access ∙ w))
          (λ both. away (R.apart handle (handle_of mover.call) root old_root.0 e old_root.1 (sym access ∙ w) old_root.3 (sym both ∙ sym old_gen)))
      open_by handle now (first r e same at_it access) w = ap (closed_at recorded) same ∙ still_open (generation_at state.heap r) (new_unused true r e).unclosed (not_old true r e)
      open_by handle now (second r e same its access) w = ap (closed_at recorded) same ∙ still_open (generation_at state.heap r) (new_unused false r e).unclosed (not_old false r e)
      open_by handle now (frozen access same) w = let wrong : ⊥ = both_kinds now.access w access in absurd wrong

      closed_by : (handle : ℕ) (now : Root) → Behind handle now → now.access ≡ ReadOnly → (d : ℕ) × (closed_at recorded (gen after now) ≡ Some d)
      closed_by handle now (kept root e access same away) w =
          let (d, was) = R.is_closed handle root e (sym access ∙ w) in
          (d, ap (closed_at recorded) same ∙ ap (λ l. closed_in l (gen state root)) closings ∙ closed_kept past.closings (closing_of state offer ∷ []) (gen state root) d was)
      closed_by handle now (first r e same at_it access) w = absurd (both_kinds now.access access w)
      closed_by handle now (second r e same its access) w = absurd (both_kinds now.access access w)
      closed_by handle now (frozen access same) w = (
        state.steps,
        ap (closed_at recorded) same ∙ ap (λ l. closed_in l (generation_at state.heap offer.root)) closings
            ∙ closed_last past.closings (closing_of state offer) (generation_at state.heap offer.root)
            (ap (closed_at past) (sym old_gen) ∙ R.unclosed (handle_of mover.call) old_root.0 old_root.1 old_root.3) refl,
      )

      two_fresh : (x y : Bool) (r q : Ref) → fresh_of x offer ≡ Some r → fresh_of y offer ≡ Some q → generation_at state.heap r ≡ generation_at state.heap q → x ≡ y
      two_fresh x y r q e f same = (R.fresh_apart stands.k stands.k x y r q (to_offer stands x r e) (to_offer stands y q f) same).1

      apart_by : (h j : ℕ) (a b : Root) → Behind h a → Behind j b → a.access ≡ Writable → b.access ≡ Writable → gen after a ≡ gen after b → h ≡ j
      apart_by h j a b (kept p e pa ps away) (kept q f qa qs away') wa wb same = R.apart h j p q e f (sym pa ∙ wa) (sym qa ∙ wb) (sym ps ∙ same ∙ qs)
      apart_by h j a b (kept p e pa ps away) (first q f qs at_it qa) wa wb same = absurd ((new_unused true q f).alone h p e (sym ps ∙ same ∙ qs))
      apart_by h j a b (kept p e pa ps away) (second q f qs its qa) wa wb same = absurd ((new_unused false q f).alone h p e (sym ps ∙ same ∙ qs))
      apart_by h j a b (first r e rs at_it ra) (kept q f qa qs away) wa wb same = absurd ((new_unused true r e).alone j q f (sym qs ∙ sym same ∙ rs))
      apart_by h j a b (first r e rs at_it ra) (first q f qs at_j qa) wa wb same = at_it ∙ sym at_j
      apart_by h j a b (first r e rs at_it ra) (second q f qs its qa) wa wb same = absurd (true≢false (two_fresh true false r q e f (sym rs ∙ same ∙ qs)))
      apart_by h j a b (second r e rs its ra) (kept q f qa qs away) wa wb same = absurd ((new_unused false r e).alone j q f (sym qs ∙ sym same ∙ rs))
      apart_by h j a b (second r e rs its ra) (first q f qs at_j qa) wa wb same = absurd (false≢true (two_fresh false true r q e f (sym rs ∙ same ∙ qs)))
      apart_by h j a b (second r e rs its ra) (second q f qs its' qa) wa wb same = same_Some _ _ (sym its ∙ its')
      apart_by h j a b (frozen ra rs) behind_b wa wb same = absurd (both_kinds a.access wa ra)
      apart_by h j a b behind_a (frozen qa qs) wa wb same = absurd (both_kinds b.access wb qa)

      -- what isn't marked has other fresh roots
      not_its : (k : ℕ) (found : Operation) (ran : Ran state s k found) → found.is_marked ≡ false → (x : Bool) (r : Ref) → fresh_in x ran.was.line ≡ Some r →
          (y : Bool) (q : Ref) → fresh_of y offer ≡ Some q →
          generation_at state.heap q ≡ generation_at state.heap r → ⊥
      not_its k found ran unmarked x r e y q f same =
          let place =
          (R.fresh_apart stands.k k y x q r (to_offer stands y q f) (record { operation = ran.was; runs = ran.at_k; unmarked = ran.unmarked unmarked; its = e }) same).0 in
          let one = one_at state k stands.owner ran.was (subst (λ i. Runs state i stands.owner) place stands.runs) ran.at_k in
          let mine = own_numbers stands.owner offer (I.own stands.k stands.owner stands.runs) stands.completes in
          ran.not_marked unmarked
          (ap (marks_in state) go ∙ ap (marks_by state) is ∙ ap (marks_of state (handle_of mover.call)) c.is_it
          ∙ ap (λ b. cond b (Some offer.operation) None) c.carried ∙ ap Some (mine.its ∙ ap (λ (x : Operation). x.id) one))

  -- ---- a generation that is drawn is used by none

  drawn_unused : IsUnused state past state.generations
  drawn_unused = record {
    unclosed = by (closed_at past state.generations) refl;
    alone = λ handle root e same. omega (arith, looked_up_below state B (root_of root.word), same);
  }
    where
      by : (o : Option ℕ) → closed_at past state.generations ≡ o → o ≡ None
      by None e = refl
      by (Some c) e = absurd (omega (arith, closed_below state.generations past.closings state.generations c C e))

  fresh_apart_after : (k j : ℕ) (x y : Bool) (r q : Ref) → IsToOffer after k x r → IsToOffer after j y q → generation_at after.heap r ≡ generation_at after.heap q → (k ≡ j) × (x ≡ y)
  fresh_apart_after k j x y r q a b same = by (fresh_had k a.operation a.runs x r a.its) (fresh_had j b.operation b.runs y q b.its)
    where
      by : FreshHad k a.operation x r → FreshHad j b.operation y q → (k ≡ j) × (x ≡ y)
      by (old p e) (old t f) =
          R.fresh_apart k j x y r q (record { operation = p.was; runs = p.at_k; unmarked = p.unmarked a.unmarked; its = e })
          (record { operation = t.was; runs = t.at_k; unmarked = t.unmarked b.unmarked; its = f })
          (sym (fresh_kept state S s o after m k p.was x r p.at_k e) ∙ same ∙ fresh_kept state S s o after m j t.was y q t.at_k f)
      by (old p e) (made was at_j is drawn side) = absurd (omega (arith, looked_up_below state B r, fresh_kept state S s o after m k p.was x r p.at_k e, same, drawn))
      by (made was at_k is drawn side) (old t f) = absurd (omega (arith, looked_up_below state B q, fresh_kept state S s o after m j t.was y q t.at_k f, same, drawn))
      by (made was at_k is drawn side) (made was' at_j is' drawn' side') =
          let both : step.Go (suc k) ≡ step.Go (suc j) = sym is ∙ is' in
          let sucs : suc k ≡ suc j = cc both in
          let place : k ≡ j = omega arith in
          let one = one_at state j was was' (subst (λ i. Runs state i was) place at_k) at_j in
          (place, side ∙ ap (λ (z : Operation). makes_first z.line) one ∙ sym side')

  -- ---- a step that carries nothing out

  module _ (closings : recorded.closings ≡ past.closings) (roots : (handle : ℕ) (now : Root) → root_at after handle ≡ Some now → Kept state handle now) where
    unused_kept : (g : ℕ) → IsUnused state past g → IsUnused after recorded g
    unused_kept g u = record {
      unclosed = ap (λ l. closed_in l g) closings ∙ u.unclosed;
      alone = λ handle now e same. let (root, was, access, word) = roots handle now e in u.alone handle root was (sym (gen_kept handle root now was word) ∙ same);
    }

    fresh_quiet : (k : ℕ) (found : Operation) (x : Bool) (r : Ref) → found.is_marked ≡ false → FreshHad k found x r → IsUnused after recorded (generation_at after.heap r)
    fresh_quiet k found x r unmarked (old ran e) =
        subst (IsUnused after recorded) (sym (fresh_kept state S s o after m k ran.was x r ran.at_k e)) (unused_kept _ (R.fresh k ran.was x r ran.at_k (ran.unmarked unmarked) e))
    fresh_quiet k found x r unmarked (made was at_k is drawn side) = subst (IsUnused after recorded) (sym drawn) (unused_kept _ drawn_unused)

    roots_quiet : HasRoots after recorded
    roots_quiet = record {
      unclosed = λ handle now e w.
          let (root, was, access, word) = roots handle now e in
          ap (closed_at recorded) (gen_kept handle root now was word) ∙ ap (λ l. closed_in l (gen state root)) closings ∙ R.unclosed handle root was (sym access ∙ w);
      is_closed = λ handle now e w.
          let (root, was, access, word) = roots handle now e in
          let (d, closed) = R.is_closed handle root was (sym access ∙ w) in
          (d, ap (closed_at recorded) (gen_kept handle root now was word) ∙ ap (λ l. closed_in l (gen state root)) closings ∙ closed);
      apart = λ h j a b e f wa wb same.
          let (p, was_p, pa, pw) = roots h a e in
          let (q, was_q, qa, qw) = roots j b f in
          R.apart h j p q was_p was_q (sym pa ∙ wa) (sym qa ∙ wb) (sym (gen_kept h p a was_p pw) ∙ same ∙ gen_kept j q b was_q qw);
      fresh = λ k found x r at_k unmarked e. fresh_quiet k found x r unmarked (fresh_had k found at_k x r e);
      fresh_apart = fresh_apart_after;
    }

  -- ---- all of it

  fresh_swapped : (actor : ℕ) (mover : Operation) (offer : Descriptor) (go : s ≡ step.Go actor) (is : operation_of state actor ≡ Some mover)
      (c : ActionCarriesOut state (handle_of mover.call) (action_of state mover) offer) →
      (closings : recorded.closings ≡ past.closings ++ closing_of state offer ∷ []) →
      (roots : (handle : ℕ) (now : Root) → root_at after handle ≡ Some now → RootFrom state (handle_of mover.call) (action_of state mover) handle now) →
      (k : ℕ) (found : Operation) (x : Bool) (r : Ref) → found.is_marked ≡ false → FreshHad k found x r → IsUnused after recorded (generation_at after.heap r)
  fresh_swapped actor mover offer go is c closings roots k found x r unmarked (old ran e) =
      subst (IsUnused after recorded) (sym (fresh_kept state S s o after m k ran.was x r ran.at_k e))
      (unused_swapped actor mover offer go is c closings roots _ (R.fresh k ran.was x r ran.at_k (ran.unmarked unmarked) e)
      (not_its actor mover offer go is c closings roots k found ran unmarked x r e))
  fresh_swapped actor mover offer go is c closings roots k found x r unmarked (made was at_k is' drawn side) =
      subst (IsUnused after recorded) (sym drawn) (unused_swapped actor mover offer go is c closings roots _ drawn_unused (λ y q e same. omega (arith, looked_up_below state B q, same)))

  roots_by : StepKind state past s after recorded → HasRoots after recorded
  roots_by (quiet closings roots) = roots_quiet closings roots
  roots_by (swaps actor mover offer go is c closings roots) = record {
    unclosed = λ handle now e. open_by actor mover offer go is c closings roots handle now (behind actor mover offer go is c handle now (roots handle now e));
    is_closed = λ handle now e. closed_by actor mover offer go is c closings roots handle now (behind actor mover offer go is c handle now (roots handle now e));
    apart = λ h j a b e f. apart_by actor mover offer go is c closings roots h j a b (behind actor mover offer go is c h a (roots h a e)) (behind actor mover offer go is c j b (roots j b f));
    fresh = λ k found x r at_k unmarked e. fresh_swapped actor mover offer go is c closings roots k found x r unmarked (fresh_had k found at_k x r e);
    fresh_apart = fresh_apart_after;
  }

  pub roots_after : HasRoots after recorded
  roots_after = roots_by (step_kind state I past recorded s o after m notes)

  -- ---- what becomes of the root of a writable handle

  goes_on_by : StepKind state past s after recorded → (handle : ℕ) (root now : Root) → root_at state handle ≡ Some root → root.access ≡ Writable →
      root_at after handle ≡ Some now → now.access ≡ Writable →
      (gen after now ≡ gen state root) ⊎ (closed_at recorded (gen state root) ≡ Some state.steps)
  goes_on_by (quiet closings roots) handle root now e w f v =
      let (was, at_handle, access, word) = roots handle now f in
      inl (gen_kept handle was now at_handle word ∙ ap (gen state) (same_Some _ _ (sym at_handle ∙ e)))
  goes_on_by (swaps actor mover offer go is c closings roots) handle root now e w f v = by (behind actor mover offer go is c handle now (roots handle now f))
    where
      by : Behind actor mover offer go is c handle now → (gen after now ≡ gen state root) ⊎ (closed_at recorded (gen state root) ≡ Some state.steps)
      by (kept was at_handle access same away) = inl (same ∙ ap (gen state) (same_Some _ _ (sym at_handle ∙ e)))
      by (first r fresh same at_it access) =
          let old = old_root actor mover offer go is c in
          let one = same_Some _ _ (sym e ∙ ap (root_at state) at_it ∙ old.1) in
          let its : gen state root ≡ generation_at state.heap offer.root = ap (gen state) one ∙ old_gen actor mover offer go is c in
          inr (ap (closed_at recorded) its ∙ ap (λ l. closed_in l (generation_at state.heap offer.root)) closings
          ∙ closed_last past.closings (closing_of state offer) (generation_at state.heap offer.root) (ap (closed_at past) (sym its) ∙ R.unclosed handle root e w) refl)
      by (second r fresh same its access) =
          let b = stands actor mover offer go is c in
          let mine = own_numbers b.owner offer (I.own b.k b.owner b.runs) b.completes in
          absurd (none-some root (sym (H.unopened b.k handle b.owner b.runs b.unmarked (sym mine.number ∙ its)) ∙ e))
      by (frozen access same) = absurd (both_kinds now.access v access)

  -- while it is open its generation stays, or the step closes that
  pub root_goes_on : (handle : ℕ) (root now : Root) → root_at state handle ≡ Some root → root.access ≡ Writable → root_at after handle ≡ Some now → now.access ≡ Writable →
      (gen after now ≡ gen state root) ⊎ (closed_at recorded (gen state root) ≡ Some state.steps)
  root_goes_on = goes_on_by (step_kind state I past recorded s o after m notes)
