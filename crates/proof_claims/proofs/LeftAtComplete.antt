-- What is given to who finds what came of its offer.
use Rattle.std.proofs.Common.{◌≡◌, ◌⊎◌, inl, inr, ◌==◌, ◌&&◌, ◌||◌, ℕ, suc, Bool, true, false, not, List, [], ◌∷◌, Contains, Option, Some, None, cond, count_by, refl, sym, ap, subst, ◌∙◌}
use Rattle.std.proofs.lemmas.Bool.{true≢false}
use Rattle.std.proofs.lemmas.Option.{none-some}
use Rattle.proof_claims.specs.Beneath.slot_arena.specs.declared.refs.Ref.{Ref}
use Rattle.proof_claims.specs.Beneath.slot_arena.specs.Heaps.{generation_at, refs_of_option}
use Rattle.proof_claims.specs.Beneath.machine_model.specs.declared.actions.Action.TheVariants as act
use Rattle.proof_claims.specs.Beneath.machine_model.specs.declared.roots.Descriptor.{Descriptor}
use Rattle.proof_claims.specs.Beneath.machine_model.specs.declared.steps.Bounds.{Bounds}
use Rattle.proof_claims.specs.Beneath.machine_model.specs.declared.steps.Step.{Step}
use Rattle.proof_claims.specs.Beneath.machine_model.specs.declared.steps.Step.TheVariants as step
use Rattle.proof_claims.specs.Beneath.machine_model.specs.Calls.{handle_of}
use Rattle.proof_claims.specs.Beneath.machine_model.specs.Keys.{KeysFit}
use Rattle.proof_claims.specs.Beneath.machine_model.specs.Machine.{AreBounds, run}
use Rattle.proof_claims.specs.Beneath.machine_model.specs.Operations.{line_action}
use Rattle.proof_claims.specs.Beneath.machine_model.specs.States.{State, operation_of, root_of, word_at, word_of}
use Rattle.proof_claims.specs.Beneath.machine_model.specs.Swapping.{is_carried_out}
use Rattle.proof_claims.specs.Beneath.machine_model.proofs.Fates.{place_of_actor}
use Rattle.proof_claims.specs.Beneath.proof_generations.proofs.Offers.Standing.{own_offer}
use Rattle.proof_claims.specs.Beneath.proof_generations.proofs.Roots.Along.{ordered_along}
use Rattle.proof_claims.specs.Beneath.proof_generations.proofs.Roots.Kept.{fresh_in, fresh_of}
use Rattle.proof_claims.specs.Beneath.proof_generations.proofs.Roots.Own.{its_fresh}
use Rattle.proof_claims.specs.Changes.{carried, change_by, change_going, change_of, completes, finds, freezes, lets_root_go, no_change, outcome_at}
use Rattle.proof_claims.specs.Claims.{Has, held_of, how_often}
use Rattle.proof_claims.specs.Different.{AreDifferent}
use Rattle.proof_claims.specs.Held.{Change, Claim, Ends, Given, Held, Holder, OfHandle, Stays, gives, is_by_handle, is_by_nodes, is_by_some_handle, is_in}
use Rattle.proof_claims.specs.Left.{GivenByCarried, GivenByTakenBack, SeesOutcome, given_by_step, is_freeze, names, once}
use Rattle.proof_claims.proofs.ByNodes.{by_these, count_same, count_these}
use Rattle.proof_claims.proofs.ChangeKinds.{Acting}
use Rattle.proof_claims.proofs.ClaimsDiffer.{claims_fit}
use Rattle.proof_claims.proofs.Differing.{in_cons, nothing_in}
use Rattle.proof_claims.proofs.Givings.{counts, given_none, gives_count, is_given}
use Rattle.proof_claims.proofs.LeftAtClose.{root_given}
use Rattle.proof_claims.proofs.LeftRoots.{its_handle, left_hold}
use Rattle.proof_claims.proofs.Lists.{among, found_in}
use Rattle.proof_claims.proofs.NamesOnce.{one_alone}
use Rattle.proof_claims.proofs.OfferedRoots.{RootHolds}
use Rattle.proof_claims.proofs.Outcomes.{each_held}
use Rattle.proof_claims.proofs.OverStep.{carried_word}
use Rattle.proof_claims.proofs.RootClaims.{NoFreeze}
use Rattle.proof_claims.proofs.RootsHold.{roots_hold}
use Rattle.proof_claims.proofs.TakenBack.{its_line, made_by}

stays_given : {h : Holder} → Stays h ≡ Given → ⊥
stays_given e = cc e

module _ (limits : Bounds) (ok : AreBounds limits) (steps : List Step) (keys : KeysFit steps) (actor : ℕ) (offer : Descriptor) (main k : Ref)
    (sees : SeesOutcome (run limits steps) actor offer main) where
  abbrev state : State
  state = run limits steps

  abbrev held : Held
  held = held_of limits steps

  abbrev at : ℕ
  at = handle_of sees.operation.call

  abbrev out : Bool
  out = is_carried_out (word_at state at) offer main

  its : (j : ℕ) × (actor ≡ suc j) × (operation_of state (suc j) ≡ Some sees.operation)
  its = place_of_actor state actor sees.operation sees.runs

  own : own_offer sees.operation.line ≡ Some offer
  own = ap own_offer sees.completes ∙ ap Some (its_line sees.completing offer main (ap (line_action state sees.operation) (sym sees.completes) ∙ sees.acts)).0

  abbrev acting : Acting state (step.Go actor) (act.Complete offer main)
  acting = record { actor = actor; operation = sees.operation; is_step = refl; runs = sees.runs; acts = sees.acts }

  change_is : change_of state held (step.Go actor) ≡ completes out at offer sees.operation
  change_is = ap (change_going state held) sees.runs ∙ ap (change_by state held sees.operation) sees.acts

  -- the old root is held then
  root_held : NoFreeze offer → (out ≡ true) ⊎ (sees.operation.is_marked ≡ true) → Has held (OfHandle at) offer.root
  root_held free (inl is_out) =
      let (root, open_then, writable) = its_handle limits ok steps its.0 sees.operation offer its.2 own in
      subst (Has held (OfHandle at)) (ap (λ x. root_of (word_of x)) (sym open_then) ∙ ap root_of (carried_word limits ok steps (step.Go actor) offer main acting is_out))
      ((each_held limits ok steps).roots at root open_then)
  root_held free (inr marked) = left_hold limits ok steps its.0 sees.operation offer its.2 own marked free

  abbrev Times : Change → ℕ
  Times change = how_often k (gives change held.claims)

  or_true : (a b : Bool) → (a || b) ≡ true → (a ≡ true) ⊎ (b ≡ true)
  or_true true b e = inl refl
  or_true false b e = inr e

  found : (b : Bool) → b ≡ true → outcome_at at offer sees.operation.line b ≡ carried at offer offer.second offer.opens
  found b e = ap (outcome_at at offer sees.operation.line) e ∙ ap (λ l. outcome_at at offer l true) sees.completes

  once_no : (b : Bool) → once b ≡ once (b && true)
  once_no true = refl
  once_no false = refl

  none_of : (b : Bool) → 0 ≡ once (b && false)
  none_of true = refl
  none_of false = refl

  module _ (done : (out || sees.operation.is_marked) ≡ true) where
    by_offer : (second : Option Ref) (opens : Option ℕ) → offer.second ≡ second → offer.opens ≡ opens → (b : Bool) → out ≡ b →
        Times (completes b at offer sees.operation) ≡ once ((offer.root == k) && not (is_freeze opens second))
    by_offer None (Some n) is_second is_opens true is_out =
        ap Times (ap (λ x. freezes at offer x offer.opens (outcome_at at offer sees.operation.line true)) is_second
        ∙ ap (λ x. freezes at offer None x (outcome_at at offer sees.operation.line true)) is_opens)
        ∙ given_none (freezes at offer None (Some n) no_change) k refl held.claims (λ c in_c given on_k. no_gift n c.by (is_by_handle at c.by && (c.on == offer.root)) given)
        ∙ none_of (offer.root == k)
      where
        no_gift : (n : ℕ) (j : Holder) (b : Bool) → cond b (Stays (OfHandle n)) (Stays j) ≡ Given → ⊥
        no_gift n j true e = stays_given e
        no_gift n j false e = stays_given e
    by_offer None (Some n) is_second is_opens false is_out =
        ap Times (found sees.operation.is_marked (ap (λ b. b || sees.operation.is_marked) (sym is_out) ∙ done) ∙ ap (λ x. carried at offer x offer.opens) is_second
        ∙ ap (carried at offer None) is_opens)
        ∙ given_none no_change k refl held.claims (λ c in_c given on_k. stays_given given) ∙ none_of (offer.root == k)
    by_offer None None is_second is_opens b is_out =
        ap Times (whole b is_out) ∙ root_given held (claims_fit limits ok steps keys).differ at offer.root
        (root_held (λ n opens second. none-some n (sym is_opens ∙ opens)) (or_true out sees.operation.is_marked done)) k
        ∙ once_no (offer.root == k)
      where
        whole : (b : Bool) → out ≡ b → completes b at offer sees.operation ≡ lets_root_go at offer.root
        whole true is_out =
            ap (λ x. freezes at offer x offer.opens (outcome_at at offer sees.operation.line true)) is_second
            ∙ ap (λ x. freezes at offer None x (outcome_at at offer sees.operation.line true)) is_opens
            ∙ found true refl ∙ ap (λ x. carried at offer x offer.opens) is_second ∙ ap (carried at offer None) is_opens
        whole false is_out =
            found sees.operation.is_marked (ap (λ b. b || sees.operation.is_marked) (sym is_out) ∙ done) ∙ ap (λ x. carried at offer x offer.opens) is_second ∙ ap (carried at offer None) is_opens
    by_offer (Some q) opens is_second is_opens b is_out =
        ap Times (whole b is_out)
        ∙ root_given held (claims_fit limits ok steps keys).differ at offer.root (root_held (λ n is_n second. none-some q (sym second ∙ is_second)) (or_true out sees.operation.is_marked done)) k
        ∙ once_no (offer.root == k) ∙ ap (λ b. once ((offer.root == k) && not b)) (no_freeze opens)
      where
        no_freeze : (opens : Option ℕ) → false ≡ is_freeze opens (Some q)
        no_freeze None = refl
        no_freeze (Some n) = refl

        whole : (b : Bool) → out ≡ b → completes b at offer sees.operation ≡ lets_root_go at offer.root
        whole true is_out =
            ap (λ x. freezes at offer x offer.opens (outcome_at at offer sees.operation.line true)) is_second
            ∙ found true refl ∙ ap (λ x. carried at offer x offer.opens) is_second
        whole false is_out =
            found sees.operation.is_marked (ap (λ b. b || sees.operation.is_marked) (sym is_out) ∙ done) ∙ ap (λ x. carried at offer x offer.opens) is_second

    pub carried_given : how_often k (given_by_step limits steps (step.Go actor)) ≡ once ((offer.root == k) && not (is_freeze offer.opens offer.second))
    carried_given = ap Times change_is ∙ by_offer offer.second offer.opens refl refl out refl

  -- ---- it was taken back

  neither : (a b : Bool) → (a || b) ≡ false → (a ≡ false) × (b ≡ false)
  neither true b e = absurd (true≢false e)
  neither false b e = (refl, e)

  module _ (undone : (out || sees.operation.is_marked) ≡ false) where
    abbrev brought : List Ref
    brought = offer.successor ∷ refs_of_option offer.second

    unmarked : sees.operation.is_marked ≡ false
    unmarked = (neither out sees.operation.is_marked undone).1

    pub finds_so : change_of state held (step.Go actor) ≡ finds at offer false
    finds_so =
        change_is ∙ ap (λ b. completes b at offer sees.operation) (neither out sees.operation.is_marked undone).0 ∙ ap (outcome_at at offer sees.operation.line) unmarked
        ∙ ap (λ l. outcome_at at offer l false) sees.completes

    its_fresh_root : (x : Bool) (q : Ref) → fresh_of x offer ≡ Some q → fresh_in x sees.operation.line ≡ Some q
    its_fresh_root x q is = its_fresh sees.operation.line offer x q own is

    brought_holds : (q : Ref) → Contains brought q → RootHolds state held q
    brought_holds q c = let (x, is) = made_by offer q c in roots_hold limits ok steps keys its.0 sees.operation its.2 unmarked x q (its_fresh_root x q is)

    pub apart : (second : Option Ref) → offer.second ≡ second → AreDifferent (offer.successor ∷ refs_of_option second)
    apart None is = one_alone offer.successor
    apart (Some q) is = (
      λ c. elim (in_cons q [] offer.successor c) [
        | inl same ↦
            true≢false
            ((ordered_along limits ok steps).roots.fresh_apart its.0 its.0 true false offer.successor q
            (record { operation = sees.operation; runs = its.2; unmarked = unmarked; its = its_fresh_root true offer.successor refl })
            (record { operation = sees.operation; runs = its.2; unmarked = unmarked; its = its_fresh_root false q is }) (ap (generation_at state.heap) (sym same))).1
        | inr none ↦ nothing_in offer.successor none
      ],
      one_alone q,
    )

    given_as : (c : Claim) → counts (finds at offer false) k c ≡ by_these k brought c
    given_as c = by (is_by_nodes brought c.by) (is_by_some_handle c.by && is_in brought c.on)
      where
        by : (b d : Bool) → (is_given (cond b Given (cond d Ends (Stays c.by))) && (c.on == k)) ≡ (b && (c.on == k))
        by true d = refl
        by false true = refl
        by false false = refl

    pub back_given : how_often k (given_by_step limits steps (step.Go actor)) ≡ count_by (λ (x : Ref). names state x k) brought
    back_given =
        ap Times finds_so ∙ gives_count (finds at offer false) k refl held.claims ∙ count_same (counts (finds at offer false) k) (by_these k brought) given_as held.claims
        ∙ count_these k held.claims (claims_fit limits ok steps keys).differ (λ x. names state x k) brought (apart offer.second refl)
        (λ x c e. (brought_holds x c).holds k (among _ k e)) (λ x c e there. true≢false (sym (found_in _ k ((brought_holds x c).names k there)) ∙ e))

pub given_by_carried : GivenByCarried
given_by_carried limits steps actor offer main k ok keys sees done = carried_given limits ok steps keys actor offer main k sees done

pub given_by_taken_back : GivenByTakenBack
given_by_taken_back limits steps actor offer main k ok keys sees undone = back_given limits ok steps keys actor offer main k sees undone
