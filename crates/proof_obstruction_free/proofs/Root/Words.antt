-- The root word of an operation's handle over its own steps: an offer comes to stand there by an own offer alone, and goes where it is settled.
use Rattle.std.proofs.Common.{◌≡◌, ℕ, suc, ◌<◌, ◌≤◌, ◌==◌, ◌⊎◌, true, cond, inl, inr, Option, Some, None, refl, sym, ap, ◌∙◌, subst, eq-eqb, arith}
use Rattle.std.proofs.lemmas.Option.{none-some}
use Rattle.proof_obstruction_free.specs.Vocabulary.{Ref, Action, Line, Operation, Descriptor, RootWord, Plain, Offer, handle_of, State, root_at, word_of, word_at, rewritten, with_operation}
use Rattle.proof_obstruction_free.specs.Vocabulary.{with_word, acted, carried_out, new_root_taken, if_changed, operation_after, action_of, line_action, is_plain, stands_in, Root, settles}
use Rattle.proof_obstruction_free.specs.Beneath.machine_model.specs.declared.actions.Action.TheVariants as act
use Rattle.proof_obstruction_free.specs.Beneath.machine_model.proofs.Found.{found_within}
use Rattle.std.proofs.lemmas.List.{get_or-set_same}
use Rattle.proof_obstruction_free.specs.Beneath.proof_commits.proofs.Course.Finals.{from_time}
use Rattle.proof_obstruction_free.specs.Beneath.proof_generations.proofs.Lines.Copy.{IsOwn, LineFits}
use Rattle.proof_obstruction_free.specs.Beneath.proof_generations.proofs.Handles.Ids.{one_of_id}
use Rattle.proof_obstruction_free.specs.Beneath.proof_generations.proofs.Offers.Standing.{OfferFrom, stood, put, offer_from, own_offer, own_numbers, offer_line, try_itself}
use Rattle.proof_obstruction_free.specs.Beneath.proof_generations.proofs.Handles.Running.{place_of_actor}
use Rattle.proof_obstruction_free.specs.Beneath.proof_generations.proofs.Offers.Same.{has_offers_at}
use Rattle.proof_obstruction_free.specs.Alone.{Lone, Stands, WordStays, IsPlain, word}
use Rattle.proof_obstruction_free.specs.Stepping.{IsNoEnd}
use Rattle.proof_obstruction_free.proofs.Ends.StandsAt.{stands_at, goes_on}
use Rattle.proof_obstruction_free.proofs.Step.Keeps.{after_so}

-- ---- what an action does to the word

-- the action makes no offer
abbrev pub NoOffer : Action → Type 0
NoOffer (act.Offer offer) = ⊥
NoOffer action = Unit {0}

module _ (st : State) (h : ℕ) where
  taken_word : (main : Ref) (o : Option Ref) → word_at (new_root_taken st main o) h ≡ word_at st h
  taken_word main None = refl
  taken_word main (Some made) = refl

  -- a root with no offer stays
  plain_stays : (action : Action) → NoOffer action → (r : Ref) → word_at st h ≡ Plain r → word_at (acted st h action) h ≡ Plain r
  plain_stays (act.Offer d) free r e = absurd free
  plain_stays (act.Abort d) free r e = ap (λ x. word_at (if_changed (stands_in x d) (with_word st h (Plain d.root)) st) h) e ∙ e
  plain_stays (act.Complete d main) free r e =
      ap (λ x. word_at (if_changed (stands_in x d) (cond (main == d.expected) (carried_out st h d) (with_word st h (Plain d.root))) st) h) e ∙ e
  plain_stays (act.MakeRoot main) free r e = taken_word main _ ∙ e
  plain_stays action free r e = e

-- the word of an open handle is written
open_written : (st : State) (h : ℕ) (x : RootWord) (root : Root) → root_at st h ≡ Some root → word_at (with_word st h x) h ≡ x
open_written st h x root e =
    ap word_of (get_or-set_same st.roots h (rewritten x (root_at st h)) None (found_within st.roots h root e)) ∙ ap (λ o. word_of (rewritten x o)) e

-- ---- at an own step

module _ (a : Lone) where
  abbrev handle : ℕ
  handle = handle_of a.own.call

  module _ (t : ℕ) (g : Option ℕ) (l : Line) (s : Stands a t g l) (h : t < a.last) (more : IsNoEnd l) where
    abbrev action : Action
    action = line_action (a.states t) s.operation l

    abbrev st : State
    st = with_operation (a.states t) a.actor (Some (operation_after (a.states t) s.operation))

    word_after : word a (suc t) ≡ word_at (acted st handle action) handle
    word_after =
        ap (λ (x : State). word_at x handle) (after_so a t g l s h more) ∙ ap (λ n. word_at (acted st n (action_of (a.states t) s.operation)) handle) (ap handle_of s.call)
        ∙ ap (λ x. word_at (acted st handle (line_action (a.states t) s.operation x)) handle) s.line

    -- a plain root stays where nothing is offered
    pub plain_on : NoOffer action → WordStays a t (suc t)
    plain_on free r plain = word_after ∙ plain_stays st handle action free r plain

    from : (d : Descriptor) → word a (suc t) ≡ Offer d → OfferFrom st.roots handle action handle d
    from d e = offer_from st handle handle d action (sym word_after ∙ e)

    -- an offer that stands stood before, or is the own one
    pub came_on : (d : Descriptor) → word a (suc t) ≡ Offer d → (word a t ≡ Offer d) ⊎ (action ≡ act.Offer d)
    came_on d e = by (from d e)
      where
        by : OfferFrom st.roots handle action handle d → (word a t ≡ Offer d) ⊎ (action ≡ act.Offer d)
        by (stood was unsettled) = inl was
        by (put is here plain) = inr is

    -- an offer goes where it is settled
    pub settles_on : (d : Descriptor) → settles action ≡ Some d → word a t ≡ Offer d → (r : Ref) × IsPlain a (suc t) r
    settles_on d settled stands = by_word (word a (suc t)) refl
      where
        gone : (e : Descriptor) → OfferFrom st.roots handle action handle e → ⊥
        gone e (stood was unsettled) = unsettled d settled refl (ap (λ x. stands_in x d) stands ∙ try_itself d)
        gone e (put is here plain) = let wrong = sym (ap settles is) ∙ settled in none-some d wrong

        by_word : (x : RootWord) → word a (suc t) ≡ x → (r : Ref) × IsPlain a (suc t) r
        by_word (Plain r) e = (r, e)
        by_word (Offer d') e = absurd (gone d' (from d' e))

    -- an offer comes to stand where its root does
    pub offered_on : (root : Root) → root_at (a.states t) handle ≡ Some root → (d : Descriptor) → action ≡ act.Offer d → IsPlain a t d.root → word a (suc t) ≡ Offer d
    offered_on root is d offers plain =
        let there : is_plain (word_at st handle) d.root ≡ true = ap (λ x. is_plain x d.root) plain ∙ eq-eqb d.root d.root refl in
        word_after ∙ ap (λ x. word_at (acted st handle x) handle) offers ∙ ap (λ b. word_at (if_changed b (with_word st handle (Offer d)) st) handle) there
        ∙ open_written st handle (Offer d) root is

  -- ---- over many steps

  -- an own offer stands only while the operation completes it
  own_completes : (t : ℕ) (g : Option ℕ) (l : Line) → Stands a t g l → own_offer l ≡ None → (d : Descriptor) → word a t ≡ Offer d → d.operation ≡ a.own.id → ⊥
  own_completes t g l s none d stands own =
      let I = has_offers_at a.run t s.until in
      let b = I.offers handle d stands in
      let (k, place, at_k) = place_of_actor (a.states t) a.actor s.operation s.runs in
      let mine = own_numbers b.owner d (I.own b.k b.owner b.runs) b.completes in
      let one = one_of_id (a.states t) I.ids b.k k b.owner s.operation b.runs at_k (sym mine.its ∙ own ∙ sym s.id) in
      none-some d (sym none ∙ ap own_offer (sym s.line) ∙ ap (λ (x : Operation). own_offer x.line) (sym one) ∙ b.completes)

  -- what the operation offers has its id
  offers_own : (t : ℕ) (g : Option ℕ) (l : Line) (s : Stands a t g l) (d : Descriptor) → line_action (a.states t) s.operation l ≡ act.Offer d → d.operation ≡ a.own.id
  offers_own t g l s d e =
      let I = has_offers_at a.run t s.until in
      let (k, place, at_k) = place_of_actor (a.states t) a.actor s.operation s.runs in
      let x = s.operation in
      let fits : IsOwn x.call x.id x.opens (_) d = subst (λ y. LineFits x.call x.id x.opens x.attempt y) (s.line ∙ offer_line (a.states t) x l d e) (I.own k x at_k) in
      fits.its ∙ s.id

  stood_from : (t u : ℕ) → a.start ≤ t → t ≤ u → u ≤ a.last → (d : Descriptor) → (d.operation ≡ a.own.id → ⊥) → word a u ≡ Offer d → word a t ≡ Offer d
  stood_from t u since le until d other = from_time (λ v. word a v ≡ Offer d → word a t ≡ Offer d) t a.last (λ e. e) (λ v from h so_far e. so_far (before v from h e)) u le until
    where
      before : (v : ℕ) → t ≤ v → v < a.last → word a (suc v) ≡ Offer d → word a v ≡ Offer d
      before v from h e =
          let x = stands_at a v (omega (arith, since, from)) (omega (arith, h)) in
          elim (came_on v x.generation x.line x.stands h (goes_on a v x.generation x.line x.stands h) d e) [
            | inl was ↦ was
            | inr own ↦ absurd (other (offers_own v x.generation x.line x.stands d own))
          ]

  -- where the operation completes no offer of its own, an offer that stands has stood
  pub offer_stood : (t u : ℕ) → a.start ≤ t → t ≤ u → (g : Option ℕ) (l : Line) → Stands a u g l → own_offer l ≡ None → (d : Descriptor) → word a u ≡ Offer d → word a t ≡ Offer d
  offer_stood t u since le g l s none d stands = stood_from t u since le s.until d (λ own. own_completes u g l s none d stands own) stands
