-- While an offer stands in a root word, the operation that offered it runs, on that handle and in that try, completes it, and isn't marked.
use Rattle.std.proofs.Common.{◌≡◌, ℕ, zero, suc, ◌==◌, Bool, true, false, cond, inl, inr, ◌⊎◌, List, set, get_or, length, replicate, Option, Some, None, refl, sym, ap, ◌∙◌, subst}
use Rattle.std.proofs.Common.{arith, eqb-true, eq-eqb, ne_eqb}
use Rattle.std.proofs.lemmas.Bool.{cases_eq, cases_lt, true≢false, false≢true, and_parts, and_from, cond_both}
use Rattle.std.proofs.lemmas.List.{get_or_past, get_or-set_same, length-set}
use Rattle.std.proofs.lemmas.Option.{none-some, same_Some}
use Rattle.proof_generations.specs.Vocabulary.{Writable, Call, Ref, ref_to, Action, Line, Operation, After, Gives, ReadLine, Complete, CompleteLine, Descriptor, Root, RootWord, Plain, Offer, Bounds}
use Rattle.proof_generations.specs.Vocabulary.{Outcome, Step, handle_of, is_close, State, first_state, root_at, word_of, word_at, operation_of, rewritten, with_word, handle_limit, read_action}
use Rattle.proof_generations.specs.Vocabulary.{read_after, stands_in, is_try, is_plain, is_carried_out, complete_action, of_offer, after_reading, copy_after_complete, after_offer, action_of}
use Rattle.proof_generations.specs.Vocabulary.{line_action, line_after, acted, carried_out, opened, opened_root, new_root_taken, if_changed, operation_after, mark_after, handle_closed, Begins, Ends}
use Rattle.proof_generations.specs.Vocabulary.{Sweeps, GivesUp, Moves, given_up}
use Rattle.proof_generations.specs.Beneath.machine_model.specs.declared.actions.Action.TheVariants as act
use Rattle.proof_generations.specs.Beneath.machine_model.specs.declared.copying.CopyLine.TheVariants as copy
use Rattle.proof_generations.specs.Beneath.machine_model.specs.declared.lines.Line.TheVariants as line
use Rattle.proof_generations.specs.Beneath.machine_model.specs.declared.reading.After.TheVariants.{Goes as Continues}
use Rattle.proof_generations.specs.Beneath.machine_model.specs.declared.roots.CompleteLine.TheVariants as complete
use Rattle.proof_generations.specs.Beneath.machine_model.specs.declared.steps.Step.TheVariants as step
use Rattle.proof_generations.specs.Beneath.machine_model.specs.Moves.{Goes}
use Rattle.proof_generations.specs.Beneath.machine_model.proofs.Found.{found_elsewhere}
use Rattle.proof_generations.specs.Beneath.machine_model.proofs.Actors.{mark_one, mark_only, marks_in, marks_by, marks_of}
use Rattle.proof_generations.proofs.Handles.Running.{place_of_actor, Follows, rests, steps, ends, follows, gives_up}
use Rattle.proof_generations.specs.Running.{Runs}
use Rattle.proof_generations.specs.Laws.Roots.{settles}
use Rattle.proof_generations.proofs.Handles.Ids.{HasIds, one_of_id}
use Rattle.proof_generations.proofs.Lines.Copy.{IsOwn, HasOwn, AllOwn}
use Rattle.proof_generations.specs.Beneath.machine_model.proofs.Basics.{not_offer}

-- ---- which offers stand after an action

abbrev word_in : List (Option Root) → ℕ → RootWord
word_in roots handle = word_of (get_or roots handle None)

plain_put : (r : Ref) (o : Option Root) (offer : Descriptor) → word_of (rewritten (Plain r) o) ≡ Offer offer → ⊥
plain_put r None offer e = cc e
plain_put r (Some root) offer e = cc e

offer_put : (put : Descriptor) (o : Option Root) (offer : Descriptor) → word_of (rewritten (Offer put) o) ≡ Offer offer → put ≡ offer
offer_put put None offer e = let wrong : ⊥ = cc e in absurd wrong
offer_put put (Some root) offer e = cc e

-- an offer behind a write stood there before, elsewhere, or was written
written : (roots : List (Option Root)) (at handle : ℕ) (put : Option Root) (offer : Descriptor) → word_in (set roots at put) handle ≡ Offer offer →
    ((handle ≡ at → ⊥) × (word_in roots handle ≡ Offer offer)) ⊎ ((handle ≡ at) × (word_of put ≡ Offer offer))
written roots at handle put offer e = elim (cases_eq handle at) [
  | inr other ↦ inl (other, ap word_of (sym (found_elsewhere roots at handle put other)) ∙ e)
  | inl same ↦ inr (same, here (subst (λ h. word_in (set roots at put) h ≡ Offer offer) same e))
]
  where
    here : word_in (set roots at put) at ≡ Offer offer → word_of put ≡ Offer offer
    here f = elim (cases_lt at (length roots)) [
      | inl within ↦ ap word_of (sym (get_or-set_same roots at put None within)) ∙ f
      | inr past ↦ absurd (not_offer _ offer (ap word_of (sym (get_or_past (set roots at put) at None (rw length-set past))) ∙ f))
    ]

-- it stood there, and this action doesn't settle it, or this action puts it there
pub data OfferFrom (roots : List (Option Root)) (at : ℕ) (action : Action) (handle : ℕ) (offer : Descriptor) : Type 0 where
  stood : word_in roots handle ≡ Offer offer → ((other : Descriptor) → settles action ≡ Some other → handle ≡ at → stands_in (word_in roots handle) other ≡ true → ⊥) →
      OfferFrom roots at action handle offer
  put : action ≡ act.Offer offer → handle ≡ at → is_plain (word_in roots at) offer.root ≡ true → OfferFrom roots at action handle offer

module _ (st : State) (at handle : ℕ) (offer : Descriptor) where
  -- by a test whether the settled one stands there
  settled_by : (action : Action) (own : Descriptor) → settles action ≡ Some own → (b : Bool) → stands_in (word_at st at) own ≡ b → (after : State) →
      (word_in after.roots handle ≡ Offer offer → (handle ≡ at → ⊥) × (word_at st handle ≡ Offer offer)) →
      word_in (if_changed b after st).roots handle ≡ Offer offer → OfferFrom st.roots at action handle offer
  settled_by action own is true t after from e = let p = from e in stood p.1 (λ other s here stands. p.0 here)
  settled_by action own is false t after from e =
      stood e (λ other s here stands. true≢false (sym stands ∙ ap (λ h. stands_in (word_at st h) other) here ∙ ap (stands_in (word_at st at)) (same_Some _ _ (sym s ∙ is)) ∙ t))

  plain_written : (r : Ref) → word_in (with_word st at (Plain r)).roots handle ≡ Offer offer → (handle ≡ at → ⊥) × (word_at st handle ≡ Offer offer)
  plain_written r e = elim (written st.roots at handle (rewritten (Plain r) (root_at st at)) offer e) [
    | inl old ↦ old
    | inr new ↦ absurd (plain_put r (root_at st at) offer new.1)
  ]

  second_plain : (d : Descriptor) (second : Option Ref) → word_of (Some (opened_root d second)) ≡ Offer offer → ⊥
  second_plain d None e = cc e
  second_plain d (Some second) e = cc e

  opened_written : (swapped : State) (d : Descriptor) (opens : Option ℕ) → word_in (opened swapped d opens).roots handle ≡ Offer offer → word_in swapped.roots handle ≡ Offer offer
  opened_written swapped d None e = e
  opened_written swapped d (Some n) e = elim (written swapped.roots n handle (Some (opened_root d d.second)) offer e) [
    | inl old ↦ old.1
    | inr new ↦ absurd (second_plain d d.second new.1)
  ]

  completed_written : (own : Descriptor) (b : Bool) → word_in (cond b (carried_out st at own) (with_word st at (Plain own.root))).roots handle ≡ Offer offer →
      (handle ≡ at → ⊥) × (word_at st handle ≡ Offer offer)
  completed_written own true e = plain_written own.successor (opened_written (with_word st at (Plain own.successor)) own own.opens e)
  completed_written own false e = plain_written own.root e

  offered_by : (own : Descriptor) (b : Bool) → is_plain (word_at st at) own.root ≡ b → word_in (if_changed b (with_word st at (Offer own)) st).roots handle ≡ Offer offer →
      OfferFrom st.roots at (act.Offer own) handle offer
  offered_by own true t e = elim (written st.roots at handle (rewritten (Offer own) (root_at st at)) offer e) [
    | inl old ↦ stood old.1 (λ other s here stands. none-some other s)
    | inr new ↦ let same = offer_put own (root_at st at) offer new.1 in put (ap act.Offer same) new.0 (ap (λ (d : Descriptor). is_plain (word_at st at) d.root) (sym same) ∙ t)
  ]
  offered_by own false t e = stood e (λ other s here stands. none-some other s)

  taken_by : (main : Ref) (made : Option Ref) → word_in (new_root_taken st main made).roots handle ≡ Offer offer → OfferFrom st.roots at (act.MakeRoot main) handle offer
  taken_by main None e = stood e (λ other s here stands. none-some other s)
  taken_by main (Some made) e = stood e (λ other s here stands. none-some other s)

  pub offer_from : (action : Action) → word_in (acted st at action).roots handle ≡ Offer offer → OfferFrom st.roots at action handle offer
  offer_from (act.Abort own) e = settled_by (act.Abort own) own refl (stands_in (word_at st at) own) refl (with_word st at (Plain own.root)) (plain_written own.root) e
  offer_from (act.Complete own main) e =
      settled_by (act.Complete own main) own refl (stands_in (word_at st at) own) refl (cond (main == own.expected) (carried_out st at own) (with_word st at (Plain own.root)))
      (completed_written own (main == own.expected)) e
  offer_from (act.Offer own) e = offered_by own (is_plain (word_at st at) own.root) refl e
  offer_from (act.MakeRoot main) e = taken_by main _ e
  offer_from action e = stood e (λ other s here stands. none-some other s)

-- ---- the operation that offers

abbrev pub own_offer : Line → Option Descriptor
own_offer (line.Copy (copy.Complete c)) = Some c.offer
own_offer l = None

-- the operation that offered this on the handle runs, completes it, and isn't marked
pub record StandsBy (state : State) (handle : ℕ) (offer : Descriptor) : Type 0 where
  pub k : ℕ
  pub owner : Operation
  pub runs : Runs state k owner
  pub on_handle : handle_of owner.call ≡ handle
  pub completes : own_offer owner.line ≡ Some offer
  pub unmarked : owner.is_marked ≡ false

-- each offer that stands has one
abbrev pub OffersStand : State → Type 0
OffersStand state = (handle : ℕ) (offer : Descriptor) → word_at state handle ≡ Offer offer → StandsBy state handle offer

-- ---- lines and what they do

pub completes_it : (l : Line) (offer : Descriptor) → own_offer l ≡ Some offer → (c : Complete) × (l ≡ line.Copy (copy.Complete c)) × (c.offer ≡ offer)
completes_it (line.Copy (copy.Complete c)) offer e = (c, refl, same_Some _ _ e)
completes_it l offer e = absurd (none-some offer e)

-- who completes an offer has it as its own
pub own_numbers : (operation : Operation) (offer : Descriptor) → HasOwn operation → own_offer operation.line ≡ Some offer → IsOwn operation.call operation.id operation.opens operation.attempt offer
own_numbers operation offer h e = by operation.line h e
  where
    by : (l : Line) → HasOwn (record operation { line = l }) → own_offer l ≡ Some offer → IsOwn operation.call operation.id operation.opens operation.attempt offer
    by (line.Copy (copy.Complete c)) h e = subst (λ o. IsOwn operation.call operation.id operation.opens operation.attempt o) (same_Some _ _ e) h
    by l h e = absurd (none-some offer e)

-- only an offering line offers
pub offer_line : (state : State) (operation : Operation) (l : Line) (offer : Descriptor) → line_action state operation l ≡ act.Offer offer → l ≡ line.Copy (copy.Offer offer)
offer_line state operation (line.Root l) offer e = let wrong : ⊥ = grind arith in absurd wrong
offer_line state operation (line.Key l) offer e = let wrong : ⊥ = grind arith in absurd wrong
offer_line state operation (line.Build l) offer e = let wrong : ⊥ = grind arith in absurd wrong
offer_line state operation (line.Swap why s) offer e = let wrong : ⊥ = grind arith in absurd wrong
offer_line state operation (line.Renew l) offer e = let wrong : ⊥ = grind arith in absurd wrong
offer_line state operation (line.Clean l) offer e = let wrong : ⊥ = grind arith in absurd wrong
offer_line state operation (line.Climb l) offer e = let wrong : ⊥ = grind arith in absurd wrong
offer_line state operation (line.Copy l) offer e = grind arith
offer_line state operation (line.Walk l) offer e = let wrong : ⊥ = grind arith in absurd wrong
offer_line state operation (line.End answer) offer e = let wrong : ⊥ = cc e in absurd wrong
offer_line state operation line.Impossible offer e = let wrong : ⊥ = cc e in absurd wrong

read_mark : (mark : Bool) (i : Ref) (l : ReadLine) → mark_after mark (read_action i l) ≡ mark
read_mark mark i l = grind arith

-- while its root is read a COMPLETE goes on
reading_kept : (operation : Operation) (offer : Descriptor) (a : After ReadLine Ref) → own_offer (copy_after_complete operation (of_offer offer (after_reading a))) ≡ Some offer
reading_kept operation offer (Continues l) = refl
reading_kept operation offer (Gives main) = refl

complete_no_end : (c : Complete) (answer : _) → complete_action c ≡ act.End answer → ⊥
complete_no_end c answer e = grind arith

-- an operation isn't marked where its id isn't
unmarked_by : (m : Option ℕ) (operation : Operation) → operation.is_marked ≡ false → (m ≡ Some operation.id → ⊥) → (mark_one m operation).is_marked ≡ false
unmarked_by None operation e other = e
unmarked_by (Some id) operation e other =
    ap (λ b. (cond b (record operation { is_marked = true }) operation).is_marked) (ne_eqb operation.id id (λ s. other (ap Some (sym s)))) ∙ e

pub try_itself : (offer : Descriptor) → is_try offer offer ≡ true
try_itself offer = and_from _ _ (eq-eqb offer.operation offer.operation refl) (eq-eqb offer.attempt offer.attempt refl)

-- an action that marks carries an offer out
marks_so : (state : State) (handle : ℕ) (action : Action) (id : ℕ) → marks_of state handle action ≡ Some id →
    (other : Descriptor) × (settles action ≡ Some other) × (stands_in (word_at state handle) other ≡ true) × (other.operation ≡ id)
marks_so state handle (act.Complete other main) id e = by (is_carried_out (word_at state handle) other main) refl e
  where
    by : (b : Bool) → is_carried_out (word_at state handle) other main ≡ b → cond b (Some other.operation) None ≡ Some id →
        (d : Descriptor) × (Some other ≡ Some d) × (stands_in (word_at state handle) d ≡ true) × (d.operation ≡ id)
    by true t e = (other, refl, (and_parts (stands_in (word_at state handle) other) (main == other.expected) t).0, same_Some _ _ e)
    by false t e = absurd (none-some id e)
marks_so state handle action id e = absurd (none-some id e)

-- what stands by its number
pub stands_as : (word : RootWord) (other : Descriptor) → stands_in word other ≡ true → (offer : Descriptor) × (word ≡ Offer offer)
    × (offer.operation ≡ other.operation) × (offer.attempt ≡ other.attempt)
stands_as (Plain root) other e = absurd (false≢true e)
stands_as (Offer offer) other e =
    let p = and_parts (offer.operation == other.operation) (offer.attempt == other.attempt) e in
    (offer, refl, eqb-true offer.operation other.operation p.0, eqb-true offer.attempt other.attempt p.1)

-- ---- a step

module _ (state : State) (ids : HasIds state) (own : AllOwn state) (all : OffersStand state) where
  -- the step settles no offer on this handle
  abbrev NotSettled : Step → ℕ → Type 0
  NotSettled s handle =
      (actor : ℕ) (operation : Operation) (other : Descriptor) → s ≡ step.Go actor → operation_of state actor ≡ Some operation → settles (action_of state operation) ≡ Some other →
      handle ≡ handle_of operation.call → stands_in (word_at state handle) other ≡ true → ⊥

  -- who carries an offer out that stands by this operation settles it
  not_marked_by : (handle : ℕ) (k : ℕ) (owner : Operation) → Runs state k owner → handle_of owner.call ≡ handle → (actor : ℕ) → NotSettled (step.Go actor) handle →
      (o : Option Operation) → operation_of state actor ≡ o → marks_by state o ≡ Some owner.id → ⊥
  not_marked_by handle k owner at_k on actor free None is e = none-some owner.id e
  not_marked_by handle k owner at_k on actor free (Some operation) is e =
      let (other, settled, stands, its) = marks_so state (handle_of operation.call) (action_of state operation) owner.id e in
      let (offer, word, same_id, same_try) = stands_as (word_at state (handle_of operation.call)) other stands in
      let b = all (handle_of operation.call) offer word in
      let one : b.owner ≡ owner = one_of_id state ids b.k k b.owner owner b.runs at_k (sym (own_numbers b.owner offer (own b.k b.owner b.runs) b.completes).its ∙ same_id ∙ its) in
      let here : handle ≡ handle_of operation.call = sym on ∙ ap (λ (x : Operation). handle_of x.call) (sym one) ∙ b.on_handle in
      free actor operation other refl is settled here (ap (λ h. stands_in (word_at state h) other) here ∙ stands)

  not_marked : (s : Step) (handle k : ℕ) (owner : Operation) → Runs state k owner → handle_of owner.call ≡ handle → NotSettled s handle → marks_in state s ≡ Some owner.id → ⊥
  not_marked (step.Begin actor call number) handle k owner at_k on free e = none-some owner.id e
  not_marked (step.Go actor) handle k owner at_k on free e = not_marked_by handle k owner at_k on actor free (operation_of state actor) refl e
  not_marked step.Sweep handle k owner at_k on free e = none-some owner.id e
  not_marked (step.GiveUp actor) handle k owner at_k on free e = none-some owner.id e

  -- its own step reads on, for the same offer
  line_kept : (s : Step) (handle : ℕ) (offer : Descriptor) (b : StandsBy state handle offer) → s ≡ step.Go (suc b.k) → word_at state handle ≡ Offer offer →
      NotSettled s handle → (c : Complete) → b.owner.line ≡ line.Copy (copy.Complete c) → c.offer ≡ offer → (l : CompleteLine) → c.line ≡ l →
      (own_offer (line_after state b.owner (line.Copy (copy.Complete (record c { line = l })))) ≡ Some offer)
      × (mark_after b.owner.is_marked (complete_action (record c { line = l })) ≡ b.owner.is_marked)
  line_kept s handle offer b is word free c at_line its (complete.Reading l) e =
      (reading_kept b.owner c.offer (read_after state.heap b.owner.access (word_at state (handle_of b.owner.call)) c.offer.root l) ∙ ap Some its, read_mark b.owner.is_marked c.offer.root l)
  line_kept s handle offer b is word free c at_line its (complete.Swap main) e =
      absurd (free (suc b.k) b.owner offer is b.runs
      (ap (λ x. settles (line_action state b.owner x)) at_line ∙ ap (λ x. settles (complete_action (record c { line = x }))) e ∙ ap Some its) (sym b.on_handle)
      (ap (λ w. stands_in w offer) word ∙ try_itself offer))

  stays_by : (s : Step) (after : State) (handle : ℕ) (offer : Descriptor) → word_at state handle ≡ Offer offer → NotSettled s handle →
      (b : StandsBy state handle offer) → Follows state s after b.k b.owner →
      StandsBy after handle offer
  stays_by s after handle offer word free b (rests other at_k) =
      record {
        k = b.k;
        owner = mark_one (marks_in state s) b.owner;
        runs = at_k;
        on_handle = rw (mark_only (marks_in state s) b.owner) b.on_handle;
        completes = rw (mark_only (marks_in state s) b.owner) b.completes;
        unmarked = unmarked_by (marks_in state s) b.owner b.unmarked (not_marked s handle b.k b.owner b.runs b.on_handle free);
      }
  stays_by s after handle offer word free b (steps is g at_k) =
      let (c, at_line, its) = completes_it b.owner.line offer b.completes in
      let kept = line_kept s handle offer b is word free c at_line its c.line refl in
      record {
        k = b.k;
        owner = mark_one (marks_in state s) (operation_after state b.owner);
        runs = at_k;
        on_handle = rw (mark_only (marks_in state s) (operation_after state b.owner)) b.on_handle;
        completes = rw (mark_only (marks_in state s) (operation_after state b.owner)) (ap (λ l. own_offer (line_after state b.owner l)) at_line ∙ kept.0);
        unmarked = unmarked_by (marks_in state s) (operation_after state b.owner)
            (ap (λ l. mark_after b.owner.is_marked (line_action state b.owner l)) at_line ∙ kept.1 ∙ b.unmarked) (not_marked s handle b.k b.owner b.runs b.on_handle free);
      }
  stays_by s after handle offer word free b (ends answer is a) =
      let (c, at_line, its) = completes_it b.owner.line offer b.completes in
      absurd (complete_no_end c answer (ap (λ l. line_action state b.owner l) (sym at_line) ∙ a))
  stays_by s after handle offer word free b (gives_up answer is a at_k) =
      let (c, at_line, its) = completes_it b.owner.line offer b.completes in
      absurd (none-some answer (ap (given_up b.owner.call) (sym at_line) ∙ a))

  stays : (s : Step) (o : Outcome) (after : State) → Moves state s o after → (handle : ℕ) (offer : Descriptor) → word_at state handle ≡ Offer offer → NotSettled s handle → StandsBy after handle offer
  stays s o after m handle offer word free = let b = all handle offer word in stays_by s after handle offer word free b (follows state s o after m b.k b.owner b.runs)

  -- an offer that its step puts there
  put_by : (actor : ℕ) (operation : Operation) (after : State) (handle k : ℕ) (offer : Descriptor) → actor ≡ suc k → operation_of state actor ≡ Some operation →
      action_of state operation ≡ act.Offer offer →
      handle ≡ handle_of operation.call → is_plain (word_at state (handle_of operation.call)) offer.root ≡ true → Follows state (step.Go actor) after k operation → StandsBy after handle offer
  put_by actor operation after handle k offer place is a here plain (rests other at_k) = absurd (other (ap (λ x. step.Go x) place))
  put_by actor operation after handle k offer place is a here plain (steps go g at_k) =
      let at_line = offer_line state operation operation.line offer a in
      let unmarks : marks_in state (step.Go actor) ≡ None = ap (λ x. marks_by state x) is ∙ ap (λ x. marks_of state (handle_of operation.call) x) a in
      record {
        k = k;
        owner = mark_one (marks_in state (step.Go actor)) (operation_after state operation);
        runs = at_k;
        on_handle = rw (mark_only (marks_in state (step.Go actor)) (operation_after state operation)) (sym here);
        completes = rw (mark_only (marks_in state (step.Go actor)) (operation_after state operation))
            (ap (λ l. own_offer (line_after state operation l)) at_line ∙ offered_line offer (is_plain (word_at state (handle_of operation.call)) offer.root) plain);
        unmarked = ap (λ m. (mark_one m (operation_after state operation)).is_marked) unmarks ∙ ap (mark_after operation.is_marked) a;
      }
    where
      offered_line : (offer : Descriptor) (b : Bool) → b ≡ true → own_offer (after_offer offer b) ≡ Some offer
      offered_line offer true e = refl
      offered_line offer false e = absurd (false≢true e)
  put_by actor operation after handle k offer place is a here plain (gives_up answer go e at_k) = let wrong : ⊥ = cc go in absurd wrong
  put_by actor operation after handle k offer place is a here plain (ends answer go e) = let wrong : ⊥ = grind arith in absurd wrong

  gone_by : (actor : ℕ) (operation : Operation) (o : Outcome) (after : State) → Moves state (step.Go actor) o after → operation_of state actor ≡ Some operation → (handle : ℕ) (offer : Descriptor) →
      OfferFrom state.roots (handle_of operation.call) (action_of state operation) handle offer → StandsBy after handle offer
  gone_by actor operation o after m is handle offer (stood word free) =
      stays (step.Go actor) o after m handle offer word
      (λ other_actor mover other e at_mover settled here stands.
      let same : mover ≡ operation = same_Some _ _ (sym at_mover ∙ ap (operation_of state) (same_go other_actor e) ∙ is) in
      free other (ap (λ x. settles (action_of state x)) (sym same) ∙ settled) (here ∙ ap (λ (x : Operation). handle_of x.call) same) stands)
    where
      same_go : (other : ℕ) → step.Go actor ≡ step.Go other → other ≡ actor
      same_go other e = cc e
  gone_by actor operation o after m is handle offer (put a here plain) =
      let (k, place, at_k) = place_of_actor state actor operation is in
      put_by actor operation after handle k offer place is a here plain (follows state (step.Go actor) o after m k operation at_k)

  closed_word : (call : Call) (handle : ℕ) (offer : Descriptor) → word_in (handle_closed state call).roots handle ≡ Offer offer → word_at state handle ≡ Offer offer
  closed_word call handle offer =
      cond_both (is_close call) _ _ (λ (s : State). word_in s.roots handle ≡ Offer offer → word_at state handle ≡ Offer offer) (λ c e. taken_away e) (λ c e. e)
    where
      taken_away : word_in (set state.roots (handle_of call) None) handle ≡ Offer offer → word_at state handle ≡ Offer offer
      taken_away e = elim (written state.roots (handle_of call) handle None offer e) [
        | inl old ↦ old.1
        | inr new ↦ let wrong : ⊥ = cc new.1 in absurd wrong
      ]

  pub offers_after : (s : Step) (o : Outcome) (after : State) → Moves state s o after → OffersStand after
  offers_after s o after (Begins {actor} {call} {number} d) handle offer word =
      stays s o after (Begins d) handle offer (closed_word call handle offer word) (λ other operation d' e is settled here stands. let wrong : ⊥ = cc e in wrong)
  offers_after s o after (Goes {actor} {operation} d is a g) handle offer word =
      gone_by actor operation o after (Goes d is a g) is handle offer (offer_from _ (handle_of operation.call) handle offer (action_of state operation) word)
  offers_after s o after (Ends {actor} {operation} d is a) handle offer word =
      stays s o after (Ends d is a) handle offer word
      (λ other_actor mover other e at_mover settled here stands.
      let same : mover ≡ operation = same_Some _ _ (sym at_mover ∙ ap (operation_of state) (same_go other_actor e) ∙ is) in
      none-some other (sym (ap settles a) ∙ ap (λ x. settles (action_of state x)) (sym same) ∙ settled))
    where
      same_go : (other : ℕ) → step.Go actor ≡ step.Go other → other ≡ actor
      same_go other e = cc e
  offers_after s o after (GivesUp d is a) handle offer word = stays s o after (GivesUp d is a) handle offer word (λ other operation d' e is settled here stands. let wrong : ⊥ = cc e in wrong)
  offers_after s o after (Sweeps spent) handle offer word = stays s o after (Sweeps spent) handle offer word (λ other operation d' e is settled here stands. let wrong : ⊥ = cc e in wrong)

-- at first none stands
pub none_offered : (limits : Bounds) → OffersStand (first_state limits)
unfolding first_state
none_offered limits handle offer e = elim (written (replicate handle_limit None) 0 handle (Some (record { access = Writable; word = Plain (ref_to 2 1) })) offer e) [
  | inl old ↦ absurd (none_word handle_limit handle offer old.1)
  | inr new ↦ let wrong : ⊥ = cc new.1 in absurd wrong
]
  where
    none_word : (n handle : ℕ) (offer : Descriptor) → word_in (replicate n None) handle ≡ Offer offer → ⊥
    none_word zero handle offer e = cc e
    none_word (suc n) zero offer e = cc e
    none_word (suc n) (suc handle) offer e = none_word n handle offer e
