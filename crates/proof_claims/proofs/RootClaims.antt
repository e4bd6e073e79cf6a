-- Which claims handles have: on the root that stands there, and of an operation that offered on what its offer brings, or once that was carried out on the old root.
use Rattle.std.proofs.Common.{◌≡◌, ◌⊎◌, inl, inr, ℕ, suc, ◌==◌, ◌&&◌, Bool, true, false, List, [], ◌∷◌, ◌++◌, Contains, Option, Some, None, cond, arith, refl, sym, ap, subst, ◌∙◌, eq-eqb}
use Rattle.std.proofs.lemmas.Bool.{true≢false}
use Rattle.std.proofs.lemmas.Option.{none-some, same_Some}
use Rattle.proof_claims.specs.Beneath.slot_arena.specs.declared.refs.Ref.{Ref}
use Rattle.proof_claims.specs.Beneath.slot_arena.specs.Heaps.{refs_of_option}
use Rattle.proof_claims.specs.Beneath.machine_model.specs.declared.actions.Action.TheVariants as act
use Rattle.proof_claims.specs.Beneath.machine_model.specs.declared.copying.CopyLine.TheVariants as copy
use Rattle.proof_claims.specs.Beneath.machine_model.specs.declared.lines.Line.TheVariants as line
use Rattle.proof_claims.specs.Beneath.machine_model.specs.declared.operations.Operation.{Operation}
use Rattle.proof_claims.specs.Beneath.machine_model.specs.declared.roots.Complete.{Complete}
use Rattle.proof_claims.specs.Beneath.machine_model.specs.declared.roots.Descriptor.{Descriptor}
use Rattle.proof_claims.specs.Beneath.machine_model.specs.declared.roots.Root.{Root}
use Rattle.proof_claims.specs.Beneath.machine_model.specs.declared.roots.RootWord.TheVariants.{Offer}
use Rattle.proof_claims.specs.Beneath.machine_model.specs.declared.steps.Bounds.{Bounds}
use Rattle.proof_claims.specs.Beneath.machine_model.specs.declared.steps.Outcome.{Outcome}
use Rattle.proof_claims.specs.Beneath.machine_model.specs.declared.steps.Step.{Step}
use Rattle.proof_claims.specs.Beneath.machine_model.specs.declared.steps.Step.TheVariants as step
use Rattle.proof_claims.specs.Beneath.machine_model.specs.Acting.{mark_after, opened_root, operation_after}
use Rattle.proof_claims.specs.Beneath.machine_model.specs.Calls.{handle_of}
use Rattle.proof_claims.specs.Beneath.machine_model.specs.Copying.{after_offer}
use Rattle.proof_claims.specs.Beneath.machine_model.specs.Machine.{AreBounds, run}
use Rattle.proof_claims.specs.Beneath.machine_model.specs.Moves.{Moves}
use Rattle.proof_claims.specs.Beneath.machine_model.specs.Operations.{action_of, line_after}
use Rattle.proof_claims.specs.Beneath.machine_model.specs.States.{Runs, State, operation_of, root_at, root_of, word_at, word_of}
use Rattle.proof_claims.specs.Beneath.machine_model.specs.Swapping.{is_carried_out, is_plain}
use Rattle.proof_claims.specs.Beneath.machine_model.proofs.Actors.{mark_one, marks_by, marks_in, marks_of}
use Rattle.proof_claims.specs.Beneath.machine_model.proofs.Fates.{Follows, ends, follows, gives_up, place_of_actor, rests, steps}
use Rattle.proof_claims.specs.Beneath.proof_generations.proofs.Offers.Marks.{marked_in}
use Rattle.proof_claims.specs.Beneath.proof_generations.proofs.Offers.Standing.{completes_it, offer_line, own_numbers, own_offer}
use Rattle.proof_claims.specs.Beneath.proof_generations.proofs.Roots.OfLists.{has_handles_along}
use Rattle.proof_claims.specs.Changes.{carried, change_by, change_going, change_of, completes, fate_let_go, fate_taken_back, finds, freezes, lets_root_go, no_change, outcome_at}
use Rattle.proof_claims.specs.Claims.{Has, held_of}
use Rattle.proof_claims.specs.Held.{Change, Ends, Given, Held, Holder, OfHandle, Stays, held_after, is_by_handle}
use Rattle.proof_claims.proofs.ChangeKinds.{Acting}
use Rattle.proof_claims.proofs.Lists.{found_in}
use Rattle.proof_claims.proofs.NewClaims.{Comes, came, first, frozen, made, moved, published, second, stood}
use Rattle.proof_claims.proofs.OverStep.{OfferGoes, RootGoes, carried_opened, carried_root, carried_word, closed, kept, offer_goes, opens_not, root_goes, sees_it, still}
use Rattle.proof_claims.proofs.OverStep as over

-- it isn't a freeze's
abbrev pub NoFreeze : Descriptor → Type 0
NoFreeze offer = (n : ℕ) → offer.opens ≡ Some n → offer.second ≡ None → ⊥

-- why a handle has a claim on the root
pub data HoldsRoot (state : State) (n : ℕ) (r : Ref) : Type 0 where
  its_root : (root : Root) → root_at state n ≡ Some root → root_of root.word ≡ r → HoldsRoot state n r
  its_offer : (k : ℕ) (operation : Operation) (offer : Descriptor) → Runs state k operation → own_offer operation.line ≡ Some offer → operation.is_marked ≡ false → handle_of operation.call ≡ n →
      offer.successor ≡ r → HoldsRoot state n r
  to_open : (k : ℕ) (operation : Operation) (offer : Descriptor) → Runs state k operation → own_offer operation.line ≡ Some offer → operation.is_marked ≡ false → offer.opens ≡ Some n →
      offer.second ≡ Some r → HoldsRoot state n r
  left_over : (k : ℕ) (operation : Operation) (offer : Descriptor) → Runs state k operation → own_offer operation.line ≡ Some offer → operation.is_marked ≡ true → handle_of operation.call ≡ n →
      offer.root ≡ r → NoFreeze offer → HoldsRoot state n r

abbrev pub HandlesHold : State → Held → Type 0
HandlesHold state held = (n : ℕ) (r : Ref) → Has held (OfHandle n) r → HoldsRoot state n r

-- ---- what the changes do to claims of handles

given_not : (n : ℕ) (r q : Ref) (h : Holder) → r ≡ q → fate_let_go (is_by_handle n (OfHandle n) && (r == q)) (record { by = OfHandle n; on = r }) ≡ Stays h → ⊥
given_not n r q h same e =
    let tests : (is_by_handle n (OfHandle n) && (r == q)) ≡ true = ap (λ b. b && (r == q)) (eq-eqb n n refl) ∙ eq-eqb r q same in
    let wrong : Given ≡ Stays h = ap (λ b. fate_let_go b (record { by = OfHandle n; on = r })) (sym tests) ∙ e in
    let bad : ⊥ = cc wrong in bad

pub ends_not : (roots : List Ref) (n : ℕ) (r : Ref) (h : Holder) → Contains roots r → fate_taken_back roots (record { by = OfHandle n; on = r }) ≡ Stays h → ⊥
ends_not roots n r h c e =
    let wrong : Ends ≡ Stays h = ap (λ b. cond b Ends (Stays (OfHandle n))) (sym (found_in roots r c)) ∙ e in
    let bad : ⊥ = cc wrong in bad

module _ (limits : Bounds) (ok : AreBounds limits) (xs : List Step) (s : Step) (o : Outcome) (m : Moves (run limits xs) s o (run limits (xs ++ s ∷ []))) where
  abbrev state : State
  state = run limits xs

  abbrev after : State
  after = run limits (xs ++ s ∷ [])

  abbrev held : Held
  held = held_of limits xs

  abbrev change : Change
  change = change_of state held s

  abbrev later : Held
  later = held_after change held

  -- ---- who is to carry an offer out

  module _ (offer : Descriptor) (main : Ref) (a : Acting state s (act.Complete offer main)) where
    abbrev at : ℕ
    at = handle_of a.operation.call

    abbrev out : Bool
    out = is_carried_out (word_at state at) offer main

    pub by_completing : change ≡ completes out at offer a.operation
    by_completing = ap (change_of state held) a.is_step ∙ ap (change_going state held) a.runs ∙ ap (change_by state held a.operation) a.acts

    -- it offered that itself, and it was carried out
    carried_so : NoFreeze offer → (second' : Option Ref) (opens : Option ℕ) → offer.second ≡ second' → offer.opens ≡ opens → carried at offer second' opens ≡ lets_root_go at offer.root
    carried_so free (Some q) opens is_second is_opens = refl
    carried_so free None None is_second is_opens = refl
    carried_so free None (Some n) is_second is_opens = absurd (free n is_opens is_second)

    pub no_freeze_so : NoFreeze offer → (otherwise : Change) (second' : Option Ref) (opens : Option ℕ) → offer.second ≡ second' → offer.opens ≡ opens →
        freezes at offer second' opens otherwise ≡ otherwise
    no_freeze_so free otherwise (Some q) opens is_second is_opens = refl
    no_freeze_so free otherwise None None is_second is_opens = refl
    no_freeze_so free otherwise None (Some n) is_second is_opens = absurd (free n is_opens is_second)

    pub sees_done : (c : Complete) → a.operation.line ≡ line.Copy (copy.Complete c) → (out ≡ true) ⊎ (a.operation.is_marked ≡ true) → NoFreeze offer → change ≡ lets_root_go at offer.root
    sees_done c on done free = by_completing ∙ by out refl
      where
        by : (b : Bool) → out ≡ b → completes b at offer a.operation ≡ lets_root_go at offer.root
        by true e =
            no_freeze_so free (outcome_at at offer a.operation.line true) offer.second offer.opens refl refl ∙ ap (λ l. outcome_at at offer l true) on
            ∙ carried_so free offer.second offer.opens refl refl
        by false e = elim done [
          | inl is_out ↦ absurd (true≢false (sym is_out ∙ e))
          | inr marked ↦ ap (outcome_at at offer a.operation.line) marked ∙ ap (λ l. outcome_at at offer l true) on ∙ carried_so free offer.second offer.opens refl refl
        ]

    pub sees_undone : (c : Complete) → a.operation.line ≡ line.Copy (copy.Complete c) → out ≡ false → a.operation.is_marked ≡ false → change ≡ finds at offer false
    sees_undone c on not_out unmarked =
        by_completing ∙ ap (λ b. completes b at offer a.operation) not_out ∙ ap (outcome_at at offer a.operation.line) unmarked ∙ ap (λ l. outcome_at at offer l false) on

    pub freezes_so : (n : ℕ) → out ≡ true → offer.second ≡ None → offer.opens ≡ Some n → change ≡ freezes at offer None (Some n) no_change
    freezes_so n is_out none opens =
        by_completing ∙ ap (λ b. completes b at offer a.operation) is_out ∙ ap (λ x. freezes at offer x offer.opens (outcome_at at offer a.operation.line true)) none
        ∙ ap (λ x. freezes at offer None x (outcome_at at offer a.operation.line true)) opens

  -- ---- what stays

  abbrev IsKept : ℕ → Ref → Type 0
  IsKept n r = change.fate (record { by = OfHandle n; on = r }) ≡ Stays (OfHandle n)

  kept_by_change : (c : Change) → change ≡ c → (n : ℕ) (r : Ref) → IsKept n r → c.fate (record { by = OfHandle n; on = r }) ≡ Stays (OfHandle n)
  kept_by_change c is n r e = sym (ap (λ (x : Change). x.fate (record { by = OfHandle n; on = r })) is) ∙ e

  -- the root that stood there
  module _ (n : ℕ) (r : Ref) (root : Root) (open_then : root_at state n ≡ Some root) (is : root_of root.word ≡ r) (stays : IsKept n r) where
    -- an offer is carried out there
    module _ (offer : Descriptor) (main : Ref) (a : Acting state s (act.Complete offer main)) (out_now : is_carried_out (word_at state (handle_of a.operation.call)) offer main ≡ true)
        (here : n ≡ handle_of a.operation.call) where
      its_word : word_at state (handle_of a.operation.call) ≡ Offer offer
      its_word = carried_word limits ok xs s offer main a out_now

      old_root : r ≡ offer.root
      old_root = sym is ∙ ap (λ x. root_of (word_of x)) (sym open_then) ∙ ap (λ x. root_of (word_at state x)) here ∙ ap root_of its_word

      -- no freeze: its own operation isn't done with it
      no_freeze_here : NoFreeze offer → (own : Option Descriptor) → own_offer a.operation.line ≡ own → HoldsRoot after n r
      no_freeze_here free (Some own) e =
          let (c, on, its) = completes_it a.operation.line own e in
          absurd (given_not n r offer.root (OfHandle n) old_root
          (kept_by_change (lets_root_go n offer.root) (sees_done offer main a c on (inl out_now) free ∙ ap (λ x. lets_root_go x offer.root) (sym here)) n r stays))
      no_freeze_here free None e =
          let by_owner = (has_handles_along limits xs).0.offers (handle_of a.operation.call) offer its_word in
          let its = own_numbers by_owner.owner offer ((has_handles_along limits xs).0.own by_owner.k by_owner.owner by_owner.runs) by_owner.completes in
          by by_owner.k by_owner.owner by_owner.runs by_owner.on_handle by_owner.completes
          (marks its.its)
          (offer_goes state s o after m by_owner.k by_owner.owner by_owner.runs offer by_owner.completes)
        where
          marks : {id : ℕ} → offer.operation ≡ id → marks_in state s ≡ Some id
          marks same =
              ap (marks_in state) a.is_step ∙ ap (marks_by state) a.runs
              ∙ ap (marks_of state (handle_of a.operation.call)) a.acts
              ∙ ap (λ b. cond b (Some offer.operation) None) out_now ∙ ap Some same

          by : (k : ℕ) (owner : Operation) → Runs state k owner → handle_of owner.call ≡ handle_of a.operation.call → own_offer owner.line ≡ Some offer → marks_in state s ≡ Some owner.id →
              OfferGoes state s after k owner offer → HoldsRoot after n r
          by k owner runs on_handle own marks_it (still found at_k line_own call keeps flag marked_now) =
              left_over k found offer at_k line_own (marked_now marks_it) (ap handle_of call ∙ on_handle ∙ sym here) (sym old_root) free
          by k owner runs on_handle own marks_it (sees_it other is_step acts) =
              let step_is : step.Go (suc k) ≡ step.Go a.actor = sym is_step ∙ a.is_step in
              let place : suc k ≡ a.actor = cc step_is in
              let one : owner ≡ a.operation = same_Some owner a.operation (sym runs ∙ ap (operation_of state) place ∙ a.runs) in
              absurd (none-some offer (sym e ∙ ap (λ (x : Operation). own_offer x.line) (sym one) ∙ own))

      carried_here : (second' : Option Ref) (opens : Option ℕ) → offer.second ≡ second' → offer.opens ≡ opens → HoldsRoot after n r
      carried_here None (Some x) is_second is_opens =
          absurd (opens_not limits ok xs s offer main n root a out_now (is_opens ∙ ap Some moves_to) open_then)
        where
          moves_to : x ≡ n
          moves_to =
              let kept_then = kept_by_change (freezes n offer None (Some x) no_change)
              (freezes_so offer main a x out_now is_second is_opens ∙ ap (λ y. freezes y offer None (Some x) no_change) (sym here)) n r stays in
              let tests : (is_by_handle n (OfHandle n) && (r == offer.root)) ≡ true = ap (λ b. b && (r == offer.root)) (eq-eqb n n refl) ∙ eq-eqb r offer.root old_root in
              let same : Stays (OfHandle x) ≡ Stays (OfHandle n) = ap (λ b. cond b (Stays (OfHandle x)) (Stays (OfHandle n))) (sym tests) ∙ kept_then in
              cc same
      carried_here (Some q) opens is_second is_opens = no_freeze_here (λ x e none. none-some q (sym none ∙ is_second)) _ refl
      carried_here None None is_second is_opens = no_freeze_here (λ x e none. none-some x (sym is_opens ∙ e)) _ refl

    root_still : HoldsRoot after n r
    root_still = by (root_goes limits ok xs s o after m n root open_then)
      where
        by : RootGoes state s after n root → HoldsRoot after n r
        by (kept now found same) = its_root now found (same ∙ is)
        by (closed actor number closes) =
            absurd (given_not n r (root_of (word_at state n)) (OfHandle n) (sym is ∙ ap (λ x. root_of (word_of x)) (sym open_then))
            (kept_by_change (lets_root_go n (root_of (word_at state n))) (ap (change_of state held) closes) n r stays))
        by (over.carried offer main a out_now here) = carried_here offer main a out_now here offer.second offer.opens refl refl

  -- ---- of an operation that offered

  -- who marks it carries its offer out
  module _ (k : ℕ) (was : Operation) (offer : Descriptor) (runs : Runs state k was) (own : own_offer was.line ≡ Some offer) (marks : marks_in state s ≡ Some was.id) where
    pub record IsCarried : Type 0 where
      pub main : Ref
      pub acts : Acting state s (act.Complete offer main)
      pub out : is_carried_out (word_at state (handle_of acts.operation.call)) offer main ≡ true
      pub handle : handle_of was.call ≡ handle_of acts.operation.call

    pub is_carried : IsCarried
    is_carried =
        let by = marked_in state (has_handles_along limits xs).0 s k was runs marks in
        let same : by.offer ≡ offer = same_Some by.offer offer (sym by.completes ∙ own) in
        record {
          main = by.carries.main;
          acts = record {
            actor = by.actor;
            operation = by.mover;
            is_step = by.is_step;
            runs = by.moves;
            acts = by.carries.is_it ∙ ap (λ d. act.Complete d by.carries.main) same;
          };
          out = ap (λ d. is_carried_out (word_at state (handle_of by.mover.call)) d by.carries.main) (sym same) ∙ by.carries.carried;
          handle = by.on_handle;
        }

  -- it is done with its offer
  abbrev done_acting : (k : ℕ) (was : Operation) (offer : Descriptor) (main : Ref) → Runs state k was → s ≡ step.Go (suc k) → action_of state was ≡ act.Complete offer main →
      Acting state s (act.Complete offer main)
  done_acting k was offer main runs is_step acts = record { actor = suc k; operation = was; is_step = is_step; runs = runs; acts = acts }

  offer_still : (n : ℕ) (r : Ref) (k : ℕ) (was : Operation) (offer : Descriptor) → Runs state k was → own_offer was.line ≡ Some offer → was.is_marked ≡ false → handle_of was.call ≡ n →
      offer.successor ≡ r → IsKept n r → OfferGoes state s after k was offer → HoldsRoot after n r
  offer_still n r k was offer runs own unmarked on_h is stays (still found at_k line_own call keeps flag marked_now) = elim (flag unmarked) [
    | inl free ↦ its_offer k found offer at_k line_own free (ap handle_of call ∙ on_h) is
    | inr marks ↦
        let by = is_carried k was offer runs own marks in
        let (now, found_root, its) = carried_root limits ok xs s o after m offer by.main by.acts by.out in
        its_root now (ap (root_at after) (sym on_h ∙ by.handle) ∙ found_root) (its ∙ is)
  ]
  offer_still n r k was offer runs own unmarked on_h is stays (sees_it main is_step acts) =
      let a = done_acting k was offer main runs is_step acts in
      by a refl on_h (is_carried_out (word_at state (handle_of was.call)) offer main) refl
    where
      by : (a : Acting state s (act.Complete offer main)) → was ≡ a.operation → handle_of was.call ≡ n → (b : Bool) → is_carried_out (word_at state (handle_of was.call)) offer main ≡ b →
          HoldsRoot after n r
      by a one on_h true e =
          let (now, found_root, its) = carried_root limits ok xs s o after m offer main a (ap (λ (x : Operation). is_carried_out (word_at state (handle_of x.call)) offer main) (sym one) ∙ e) in
          its_root now (ap (root_at after) (sym on_h ∙ ap (λ (x : Operation). handle_of x.call) one) ∙ found_root) (its ∙ is)
      by a one on_h false e =
          let (c, on, its) = completes_it was.line offer own in
          absurd (ends_not (offer.successor ∷ refs_of_option offer.second) n r (OfHandle n) (0, omega arith, is)
          (kept_by_change (finds (handle_of a.operation.call) offer false)
          (sees_undone offer main a c (ap (λ (x : Operation). x.line) (sym one) ∙ on) (ap (λ (x : Operation). is_carried_out (word_at state (handle_of x.call)) offer main) (sym one) ∙ e)
          (ap (λ (x : Operation). x.is_marked) (sym one) ∙ unmarked)) n r stays))

  opens_still : (n : ℕ) (r : Ref) (k : ℕ) (was : Operation) (offer : Descriptor) → Runs state k was → own_offer was.line ≡ Some offer → was.is_marked ≡ false → offer.opens ≡ Some n →
      offer.second ≡ Some r → IsKept n r → OfferGoes state s after k was offer → HoldsRoot after n r
  opens_still n r k was offer runs own unmarked opens second' stays (still found at_k line_own call keeps flag marked_now) = elim (flag unmarked) [
    | inl free ↦ to_open k found offer at_k line_own free opens second'
    | inr marks ↦
        let by = is_carried k was offer runs own marks in
        its_root (opened_root offer offer.second) (opened_by by.main by.acts by.out) (ap (λ x. root_of (opened_root offer x).word) second')
  ]
    where
      its_number : was.opens ≡ Some n
      its_number = sym (own_numbers was offer ((has_handles_along limits xs).0.own k was runs) own).number ∙ opens

      opened_by : (main : Ref) (a : Acting state s (act.Complete offer main)) → is_carried_out (word_at state (handle_of a.operation.call)) offer main ≡ true →
          root_at after n ≡ Some (opened_root offer offer.second)
      opened_by main a out_now = carried_opened limits ok xs s o after m offer main a out_now k n was runs its_number opens
  opens_still n r k was offer runs own unmarked opens second' stays (sees_it main is_step acts) =
      by (done_acting k was offer main runs is_step acts) refl (is_carried_out (word_at state (handle_of was.call)) offer main) refl
    where
      its_number : was.opens ≡ Some n
      its_number = sym (own_numbers was offer ((has_handles_along limits xs).0.own k was runs) own).number ∙ opens

      in_second : (q : Option Ref) → q ≡ Some r → Contains (offer.successor ∷ refs_of_option q) r
      in_second q e = subst (λ x. Contains (offer.successor ∷ refs_of_option x) r) (sym e) (1, omega arith, refl)

      by : (a : Acting state s (act.Complete offer main)) → was ≡ a.operation → (b : Bool) → is_carried_out (word_at state (handle_of was.call)) offer main ≡ b → HoldsRoot after n r
      by a one true e =
          its_root (opened_root offer offer.second)
          (carried_opened limits ok xs s o after m offer main a (ap (λ (x : Operation). is_carried_out (word_at state (handle_of x.call)) offer main) (sym one) ∙ e) k n was runs its_number opens)
          (ap (λ x. root_of (opened_root offer x).word) second')
      by a one false e =
          let (c, on, its) = completes_it was.line offer own in
          absurd (ends_not (offer.successor ∷ refs_of_option offer.second) n r (OfHandle n) (in_second offer.second second')
          (kept_by_change (finds (handle_of a.operation.call) offer false)
          (sees_undone offer main a c (ap (λ (x : Operation). x.line) (sym one) ∙ on) (ap (λ (x : Operation). is_carried_out (word_at state (handle_of x.call)) offer main) (sym one) ∙ e)
          (ap (λ (x : Operation). x.is_marked) (sym one) ∙ unmarked)) n r stays))

  left_still : (n : ℕ) (r : Ref) (k : ℕ) (was : Operation) (offer : Descriptor) → Runs state k was → own_offer was.line ≡ Some offer → was.is_marked ≡ true → handle_of was.call ≡ n →
      offer.root ≡ r → NoFreeze offer → IsKept n r → OfferGoes state s after k was offer → HoldsRoot after n r
  left_still n r k was offer runs own marked on_h is free stays (still found at_k line_own call keeps flag marked_now) =
      left_over k found offer at_k line_own (keeps marked) (ap handle_of call ∙ on_h) is free
  left_still n r k was offer runs own marked on_h is free stays (sees_it main is_step acts) =
      let (c, on, its) = completes_it was.line offer own in
      absurd (given_not n r offer.root (OfHandle n) (sym is)
      (kept_by_change (lets_root_go n offer.root)
      (sees_done offer main (done_acting k was offer main runs is_step acts) c on (inr marked) free ∙ ap (λ x. lets_root_go x offer.root) on_h) n r stays))

  holds_still : (n : ℕ) (r : Ref) → HoldsRoot state n r → IsKept n r → HoldsRoot after n r
  holds_still n r (its_root root open_then is) stays = root_still n r root open_then is stays
  holds_still n r (its_offer k was offer runs own unmarked on_h is) stays =
      offer_still n r k was offer runs own unmarked on_h is stays (offer_goes state s o after m k was runs offer own)
  holds_still n r (to_open k was offer runs own unmarked opens second') stays =
      opens_still n r k was offer runs own unmarked opens second' stays (offer_goes state s o after m k was runs offer own)
  holds_still n r (left_over k was offer runs own marked on_h is free) stays =
      left_still n r k was offer runs own marked on_h is free stays (offer_goes state s o after m k was runs offer own)

  -- ---- an offer that comes to stand

  module _ (offer : Descriptor) (a : Acting state s (act.Offer offer)) (stands : is_plain (word_at state (handle_of a.operation.call)) offer.root ≡ true) where
    pub record Offered : Type 0 where
      pub k : ℕ
      pub found : Operation
      pub runs : Runs after k found
      pub own : own_offer found.line ≡ Some offer
      pub unmarked : found.is_marked ≡ false
      pub handle : handle_of found.call ≡ handle_of a.operation.call

    pub offered : Offered
    offered =
        let (k, place, at_k) = place_of_actor state a.actor a.operation a.runs in
        by k place (follows state s o after m k a.operation at_k)
      where
        no_marks : marks_in state s ≡ None
        no_marks = ap (marks_in state) a.is_step ∙ ap (marks_by state) a.runs ∙ ap (marks_of state (handle_of a.operation.call)) a.acts

        next_line : line_after state a.operation a.operation.line ≡ after_offer offer true
        next_line = ap (line_after state a.operation) (offer_line state a.operation a.operation.line offer a.acts) ∙ ap (after_offer offer) stands

        by : (k : ℕ) → a.actor ≡ suc k → Follows state s after k a.operation → Offered
        by k place (steps is goes at_k) = record {
          k = k;
          found = operation_after state a.operation;
          runs = at_k ∙ ap (λ x. Some (mark_one x (operation_after state a.operation))) no_marks;
          own = ap own_offer next_line;
          unmarked = ap (mark_after a.operation.is_marked) a.acts;
          handle = refl;
        }
        by k place (rests other at_k) = absurd (other (a.is_step ∙ ap (λ x. step.Go x) place))
        by k place (ends answer is e) = let wrong : act.End answer ≡ act.Offer offer = sym e ∙ a.acts in let bad : ⊥ = cc wrong in absurd bad
        by k place (gives_up answer is given at_k) = let wrong : step.GiveUp (suc k) ≡ step.Go a.actor = sym is ∙ a.is_step in let bad : ⊥ = cc wrong in absurd bad

  -- ---- all of them

  module _ (h : HandlesHold (run limits xs) (held_of limits xs)) where
    by_came : (by : Holder) (n : ℕ) (r : Ref) → by ≡ OfHandle n → Comes state held s change by r → HoldsRoot after n r
    by_came by n r is (stood had stays) =
        holds_still n r (h n r (subst (λ x. Has held x r) is had)) (subst (λ x. change.fate (record { by = x; on = r }) ≡ Stays x) is stays)
    by_came by n r is (moved i f p told a commits own at_f had names) = let bad : ⊥ = cc (sym at_f ∙ is) in absurd bad
    by_came by n r is (made node action x a makes_it drawn at_x names raised) = let bad : ⊥ = cc (sym at_x ∙ is) in absurd bad
    by_came by n r is (published i q f a hit at_i at_f) = let bad : ⊥ = cc (sym at_i ∙ is) in absurd bad
    by_came by n r is (frozen offer main x a out_now none opens at_h at_root had) =
        let same : x ≡ n = cc (sym at_h ∙ is) in
        let by_owner = (has_handles_along limits xs).0.offers (handle_of a.operation.call) offer (carried_word limits ok xs s offer main a out_now) in
        let its = own_numbers by_owner.owner offer ((has_handles_along limits xs).0.own by_owner.k by_owner.owner by_owner.runs) by_owner.completes in
        its_root (opened_root offer offer.second)
        (ap (root_at after) (sym same) ∙ carried_opened limits ok xs s o after m offer main a out_now by_owner.k x by_owner.owner by_owner.runs (sym its.number ∙ opens) opens)
        (ap (λ q. root_of (opened_root offer q).word) none ∙ sym at_root)
    by_came by n r is (first offer a stands at_h at_root) =
        let same : handle_of a.operation.call ≡ n = cc (sym at_h ∙ is) in
        let it = offered offer a stands in
        its_offer it.k it.found offer it.runs it.own it.unmarked (it.handle ∙ same) (sym at_root)
    by_came by n r is (second offer x a stands opens at_root at_h) =
        let same : x ≡ n = cc (sym at_h ∙ is) in
        let it = offered offer a stands in
        to_open it.k it.found offer it.runs it.own it.unmarked (opens ∙ ap Some same) at_root

    pub handles_after : HandlesHold after later
    handles_after n r has = by_came (OfHandle n) n r refl (came state held (OfHandle n) r s has)
