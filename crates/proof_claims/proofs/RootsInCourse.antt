-- A root that a copy has made, over a step: its copy is to offer it still, or to carry its offer out; or it stands on a handle; or the copy lets go of what it holds.
use Rattle.std.proofs.Common.{◌≡◌, inl, inr, ℕ, suc, Bool, true, false, List, [], ◌∷◌, ◌++◌, Contains, Option, Some, None, cond, refl, sym, ap, subst, ◌∙◌, arith}
use Rattle.std.proofs.lemmas.Option.{none-some, same_Some}
use Rattle.std.proofs.lemmas.List.Elements.{Contains-append_left}
use Rattle.proof_claims.specs.Beneath.history.proofs.Places.{option_tested}
use Rattle.proof_claims.specs.Beneath.history.specs.declared.replies.Reply.{Reply}
use Rattle.proof_claims.specs.Beneath.slot_arena.specs.declared.refs.Ref.{Ref}
use Rattle.proof_claims.specs.Beneath.slot_arena.specs.Heaps.{next_ref, refs_of_option}
use Rattle.proof_claims.specs.Beneath.machine_model.specs.declared.actions.Action.TheVariants as act
use Rattle.proof_claims.specs.Beneath.machine_model.specs.declared.copying.CopyLine.TheVariants as copy
use Rattle.proof_claims.specs.Beneath.machine_model.specs.declared.lines.Line.{Line}
use Rattle.proof_claims.specs.Beneath.machine_model.specs.declared.lines.Line.TheVariants as line
use Rattle.proof_claims.specs.Beneath.machine_model.specs.declared.operations.Operation.{Operation}
use Rattle.proof_claims.specs.Beneath.machine_model.specs.declared.roots.Descriptor.{Descriptor}
use Rattle.proof_claims.specs.Beneath.machine_model.specs.declared.roots.Root.{Root}
use Rattle.proof_claims.specs.Beneath.machine_model.specs.declared.steps.Bounds.{Bounds}
use Rattle.proof_claims.specs.Beneath.machine_model.specs.declared.steps.Outcome.{Outcome}
use Rattle.proof_claims.specs.Beneath.machine_model.specs.declared.steps.Step.{Step}
use Rattle.proof_claims.specs.Beneath.machine_model.specs.declared.steps.Step.TheVariants as step
use Rattle.proof_claims.specs.Beneath.machine_model.specs.Acting.{opened_root, operation_after, private_after, with_made}
use Rattle.proof_claims.specs.Beneath.machine_model.specs.Calls.{handle_of}
use Rattle.proof_claims.specs.Beneath.machine_model.specs.Copying.{copy_if_made}
use Rattle.proof_claims.specs.Beneath.machine_model.specs.Machine.{AreBounds, run}
use Rattle.proof_claims.specs.Beneath.machine_model.specs.Moves.{Moves}
use Rattle.proof_claims.specs.Beneath.machine_model.specs.Operations.{action_of, line_action, line_after}
use Rattle.proof_claims.specs.Beneath.machine_model.specs.States.{Runs, State, root_at, root_of, word_at}
use Rattle.proof_claims.specs.Beneath.machine_model.specs.Swapping.{is_carried_out, is_plain}
use Rattle.proof_claims.specs.Beneath.machine_model.proofs.Actors.{mark_one, mark_only, marks_in}
use Rattle.proof_claims.specs.Beneath.machine_model.proofs.Fates.{Follows, ends, follows, gives_up, rests, steps}
use Rattle.proof_claims.specs.Beneath.proof_generations.proofs.Offers.Standing.{completes_it, own_numbers, own_offer}
use Rattle.proof_claims.specs.Beneath.proof_generations.proofs.Roots.Kept.{fresh_in, fresh_of}
use Rattle.proof_claims.specs.Beneath.proof_generations.proofs.Roots.OfLists.{has_handles_along}
use Rattle.proof_claims.specs.Changes.{change_by, change_giving_up, change_going, change_of, finds, given_up, makes, offers}
use Rattle.proof_claims.specs.Claims.{held_of}
use Rattle.proof_claims.specs.Held.{Change, Ends, Given, Held, Holder, OfNode, Stays, is_in}
use Rattle.proof_claims.proofs.ChangeKinds.{Acting}
use Rattle.proof_claims.proofs.Keeping.{keeping, second_opens}
use Rattle.proof_claims.proofs.Lists.{found_in}
use Rattle.proof_claims.proofs.OverStep.{OfferGoes, carried_opened, carried_root, offer_goes, sees_it, still}
use Rattle.proof_claims.proofs.PrivateClaims.{none_completing}
use Rattle.proof_claims.proofs.RootClaims.{is_carried, offered, sees_undone}

-- its copy has it private and is to offer it, or has offered it and is to carry that out
pub data InCourse (state : State) (y : Ref) : Type 0 where
  unoffered : (k : ℕ) (operation : Operation) (x : Bool) → Runs state k operation → fresh_in x operation.line ≡ Some y → Contains operation.private y → InCourse state y
  in_offer : (k : ℕ) (operation : Operation) (offer : Descriptor) (x : Bool) → Runs state k operation → own_offer operation.line ≡ Some offer → operation.is_marked ≡ false →
      fresh_of x offer ≡ Some y → InCourse state y

-- it stands on a handle
abbrev pub OnHandle : State → Ref → Type 0
OnHandle state y = (handle : ℕ) × (root : Root) × (root_at state handle ≡ Some root) × (root_of root.word ≡ y)

-- no claim of it stays
abbrev pub NoneStays : Change → Ref → Type 0
NoneStays change y = (r : Ref) (to : Holder) → change.fate (record { by = OfNode y; on = r }) ≡ Stays to → ⊥

pub data CourseGoes (after : State) (change : Change) (y : Ref) : Type 0 where
  goes_on : InCourse after y → CourseGoes after change y
  comes_to_stand : OnHandle after y → CourseGoes after change y
  lets_go : NoneStays change y → CourseGoes after change y

-- what is given up
pub given_none : (private : List Ref) (y : Ref) → Contains private y → NoneStays (given_up private) y
given_none private y c r to e = by (is_in private r) (ap (λ b. cond b (cond (is_in private r) Ends Given) (Stays (OfNode y))) (sym (found_in private y c)) ∙ e)
  where
    by : (b : Bool) → cond b Ends Given ≡ Stays to → ⊥
    by true e = cc e
    by false e = cc e

back_none : (handle : ℕ) (offer : Descriptor) (y : Ref) → Contains (offer.successor ∷ refs_of_option offer.second) y → NoneStays (finds handle offer false) y
back_none handle offer y c r to e =
    let wrong : Given ≡ Stays to = ap (λ b. cond b Given (Stays (OfNode y))) (sym (found_in (offer.successor ∷ refs_of_option offer.second) y c)) ∙ e in cc wrong

-- one of an offer's roots
its_one : (offer : Descriptor) (x : Bool) (y : Ref) → fresh_of x offer ≡ Some y → Contains (offer.successor ∷ refs_of_option offer.second) y
its_one offer true y e = (0, omega arith, same_Some offer.successor y e)
its_one offer false y e = subst (λ o. Contains (offer.successor ∷ refs_of_option o) y) (sym e) (1, omega arith, refl)

no_end : (state : State) (operation : Operation) (l : Line) (x : Bool) (y : Ref) (answer : Reply) → fresh_in x l ≡ Some y → line_action state operation l ≡ act.End answer → ⊥
no_end state operation (line.Copy (copy.Second root main successor)) x y answer f e = let bad : ⊥ = cc e in bad
no_end state operation (line.Copy (copy.Offer offer)) x y answer f e = let bad : ⊥ = cc e in bad
no_end state operation (line.Copy (copy.Complete c)) x y answer f e = grind arith
no_end state operation l x y answer f e = none-some y f

module _ (limits : Bounds) (ok : AreBounds limits) (xs : List Step) (s : Step) (o : Outcome) (m : Moves (run limits xs) s o (run limits (xs ++ s ∷ []))) (y : Ref) where
  abbrev state : State
  state = run limits xs

  abbrev after : State
  after = run limits (xs ++ s ∷ [])

  abbrev held : Held
  held = held_of limits xs

  abbrev change : Change
  change = change_of state held s

  abbrev Goes : Type 0
  Goes = CourseGoes after change y

  none_by : (c : Change) → change ≡ c → NoneStays c y → Goes
  none_by c is none = lets_go (subst (λ z. NoneStays z y) (sym is) none)

  -- ---- one that is to be offered

  module _ (k : ℕ) (was : Operation) (runs : Runs state k was) (x : Bool) (its : fresh_in x was.line ≡ Some y) (mine : Contains was.private y) where
    -- by its own step
    module _ (is : s ≡ step.Go (suc k)) (at_k : Runs after k (mark_one (marks_in state s) (operation_after state was))) where
      abbrev found : Operation
      found = mark_one (marks_in state s) (operation_after state was)

      same : found ≡ record (operation_after state was) { is_marked = found.is_marked }
      same = mark_only (marks_in state s) (operation_after state was)

      changes : (action : _) → action_of state was ≡ action → change ≡ change_by state held was action
      changes action acts = ap (change_of state held) is ∙ ap (change_going state held) runs ∙ ap (change_by state held was) acts

      by_second : (root main successor : Ref) → was.line ≡ line.Copy (copy.Second root main successor) → fresh_in x (line.Copy (copy.Second root main successor)) ≡ Some y → Goes
      by_second root main successor on f = by (next_ref state.heap) refl x f
        where
          acts : action_of state was ≡ act.MakeRoot main
          acts = ap (line_action state was) on

          by : (next : Option Ref) → next_ref state.heap ≡ next → (x : Bool) → fresh_in x (line.Copy (copy.Second root main successor)) ≡ Some y → Goes
          by None drawn x f = none_by (given_up was.private) (changes (act.MakeRoot main) acts ∙ ap (makes state held was (main ∷ [])) drawn) (given_none was.private y mine)
          by (Some made) drawn false f = absurd (none-some y f)
          by (Some made) drawn true f =
              goes_on (unoffered k found true at_k
              (ap (λ (q : Operation). fresh_in true q.line) same ∙ ap (λ l. fresh_in true (line_after state was l)) on
              ∙ ap (λ r. fresh_in true (copy_if_made was (copy.Second root main successor) r)) drawn ∙ f)
              (subst (λ ps. Contains ps y)
              (sym (ap (λ (q : Operation). q.private) same ∙ ap (private_after state was.private) acts ∙ ap (with_made was.private) drawn)) (Contains-append_left was.private (made ∷ []) y mine)))

      by_offer : (offer : Descriptor) → was.line ≡ line.Copy (copy.Offer offer) → fresh_of x offer ≡ Some y → Goes
      by_offer offer on f = by (is_plain (word_at state (handle_of was.call)) offer.root) refl
        where
          acts : action_of state was ≡ act.Offer offer
          acts = ap (line_action state was) on

          by : (b : Bool) → is_plain (word_at state (handle_of was.call)) offer.root ≡ b → Goes
          by true plain =
              let a : Acting state s (act.Offer offer) = record { actor = suc k; operation = was; is_step = is; runs = runs; acts = acts } in
              let it = offered limits ok xs s o m offer a plain in
              goes_on (in_offer it.k it.found offer x it.runs it.own it.unmarked f)
          by false plain =
              none_by (given_up was.private) (changes (act.Offer offer) acts ∙ ap (λ b. offers b was.private (handle_of was.call) offer) plain) (given_none was.private y mine)

      own_step : (l : Line) → was.line ≡ l → fresh_in x l ≡ Some y → Goes
      own_step (line.Copy (copy.Second root main successor)) on f = by_second root main successor on f
      own_step (line.Copy (copy.Offer offer)) on f = by_offer offer on f
      own_step (line.Copy (copy.Complete c)) on f =
          let (i, within, at_i) = subst (λ ps. Contains ps y) (none_completing limits ok xs (suc k) was runs c on) mine in absurd (omega (arith, within))
      own_step l on f = absurd (none-some y f)

    by_follows : Follows state s after k was → Goes
    by_follows (rests other at_k) =
        let same = mark_only (marks_in state s) was in
        goes_on (unoffered k (mark_one (marks_in state s) was) x at_k (ap (λ (q : Operation). fresh_in x q.line) same ∙ its)
        (subst (λ ps. Contains ps y) (sym (ap (λ (q : Operation). q.private) same)) mine))
    by_follows (steps is goes at_k) = own_step is at_k was.line refl its
    by_follows (ends answer is e) = absurd (no_end state was was.line x y answer its e)
    by_follows (gives_up answer is given at_k) = none_by (given_up was.private) (ap (change_of state held) is ∙ ap change_giving_up runs) (given_none was.private y mine)

  -- ---- one that was offered

  module _ (k : ℕ) (was : Operation) (offer : Descriptor) (x : Bool) (runs : Runs state k was) (own : own_offer was.line ≡ Some offer) (unmarked : was.is_marked ≡ false)
      (its : fresh_of x offer ≡ Some y) where
    -- it is carried out
    carried : (main : Ref) (a : Acting state s (act.Complete offer main)) → is_carried_out (word_at state (handle_of a.operation.call)) offer main ≡ true → (x : Bool) → fresh_of x offer ≡ Some y →
        OnHandle after y
    carried main a out true f = let (now, found, is) = carried_root limits ok xs s o after m offer main a out in (handle_of a.operation.call, now, found, is ∙ same_Some offer.successor y f)
    carried main a out false f =
        let numbers = own_numbers was offer ((has_handles_along limits xs).0.own k was runs) own in
        let (n, opens) = option_tested was.opens ((keeping limits ok xs k was runs).number ∙ second_opens was.call offer.second y numbers.second f) in (
          n,
          opened_root offer offer.second,
          carried_opened limits ok xs s o after m offer main a out k n was runs opens (numbers.number ∙ opens),
          ap (λ q. root_of (opened_root offer q).word) f,
        )

    offer_by : OfferGoes state s after k was offer → Goes
    offer_by (still found at_k line_own call keeps flag marked_now) = elim (flag unmarked) [
      | inl free ↦ goes_on (in_offer k found offer x at_k line_own free its)
      | inr marks ↦ let by = is_carried limits ok xs s o m k was offer runs own marks in comes_to_stand (carried by.main by.acts by.out x its)
    ]
    offer_by (sees_it main is acts) = by (is_carried_out (word_at state (handle_of was.call)) offer main) refl
      where
        a : Acting state s (act.Complete offer main)
        a = record { actor = suc k; operation = was; is_step = is; runs = runs; acts = acts }

        by : (b : Bool) → is_carried_out (word_at state (handle_of was.call)) offer main ≡ b → Goes
        by true out = comes_to_stand (carried main a out x its)
        by false out =
            let (c, on, same) = completes_it was.line offer own in
            none_by (finds (handle_of was.call) offer false) (sees_undone limits ok xs s o m offer main a c on out unmarked) (back_none (handle_of was.call) offer y (its_one offer x y its))

  pub course_goes : InCourse (run limits xs) y → CourseGoes (run limits (xs ++ s ∷ [])) (change_of (run limits xs) (held_of limits xs) s) y
  course_goes (unoffered k was x runs its mine) = by_follows k was runs x its mine (follows state s o after m k was runs)
  course_goes (in_offer k was offer x runs own unmarked its) = offer_by k was offer x runs own unmarked its (offer_goes state s o after m k was runs offer own)
