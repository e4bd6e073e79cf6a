-- What is left by the step that takes an offer back, or carries it out, or finds it decided.
use Rattle.std.proofs.Common.{◌≡◌, ◌≢◌, ◌<◌, ◌==◌, ℕ, suc, Bool, true, false, List, Option, Some, None, get_or, set, length, length-set, refl, sym, ap, ◌∙◌, inl, inr, arith, if◌then◌else◌}
use Rattle.std.proofs.lemmas.Bool.{cases_eq}
use Rattle.std.proofs.lemmas.List.{get_or-set_same}
use Rattle.std.proofs.lemmas.Option.{same_Some, none-some}
use Rattle.history.specs.declared.calls.Access.TheVariants.{Writable}
use Rattle.machine_model.specs.Beneath.slot_arena.specs.declared.refs.Ref.{Ref}
use Rattle.machine_model.specs.declared.operations.Operation.{Operation}
use Rattle.machine_model.specs.declared.roots.Root.{Root}
use Rattle.machine_model.specs.declared.roots.RootWord.TheVariants.{Plain, Offer}
use Rattle.machine_model.specs.Acting.{gone, operation_after, attempt_after, mark_after, carried_out as carried, opened, opened_root}
use Rattle.machine_model.specs.Calls.{handle_of}
use Rattle.machine_model.specs.Machine.{AreBounds}
use Rattle.machine_model.specs.Moves.{GoesOn}
use Rattle.machine_model.specs.Operations.{action_of}
use Rattle.machine_model.specs.States.{State, operation_of, root_at, word_at, word_of, rewritten, with_word, with_operation}
use Rattle.machine_model.specs.Swapping.{stands_in}
use Rattle.machine_model.proofs.Actors.{mark_one, marks_by}
use Rattle.machine_model.proofs.Found.{found_within, found_elsewhere}
use Rattle.proof_memory.proofs.Holding.Sizes.{sizes_stay}
use Rattle.proof_commits.proofs.Known.StepsAt.{after_mark}
use Rattle.proof_garbage.specs.Beneath.proof_generations.proofs.Handles.Running.{place_of_actor}
use Rattle.proof_garbage.specs.Beneath.proof_generations.proofs.Offers.Standing.{StandsBy, own_numbers, try_itself}
use Rattle.lock_free.specs.declared.accounts.Account.{Account}
use Rattle.lock_free.specs.declared.accounts.Known.{Known}
use Rattle.lock_free.specs.declared.sizes.Sizes.{Sizes}
use Rattle.lock_free.specs.Accounts.{bounds_for, state_of, running, gone_on}
use Rattle.lock_free.specs.Making.{over_of}
use Rattle.lock_free.specs.Roots.{open_with, carried_out, taken_back}
use Rattle.lock_free.specs.Fates.{IsMarkedThen, is_carried_out, is_taken_back}
use Rattle.lock_free.specs.Settling.{Settles}
use Rattle.lock_free.specs.Trying.{Try, try_of}
use Rattle.lock_free.proofs.OneStep.Aheads.{ahead_of}
use Rattle.lock_free.proofs.OneStep.Changing.{whole}
use Rattle.lock_free.proofs.OneStep.Marking.{marked_some, marked_its, other_marked, own_marked, leaves_by, same_try, try_else}
use Rattle.lock_free.proofs.OneStep.Standing.{has}

abbrev marked_so : Try → Try
marked_so t = record t { is_marked = true }

-- what the offers' handle has then
abbrev put_root : State → ℕ → Ref → List (Option Root)
put_root state h r = set state.roots h (open_with Writable (Plain r))

-- ---- one that stands

module _ (sizes : Sizes) (account : Account) (bounds : AreBounds (bounds_for sizes account.steps)) (actor : ℕ) (operation : Operation) (runs : running sizes account actor operation) (k : Known)
    (stood : root_at (state_of sizes account) (handle_of operation.call) ≡ open_with Writable (Offer k.offer)) where
  abbrev state : State
  state = state_of sizes account

  abbrev after : State
  after = state_of sizes (gone_on actor account)

  abbrev h : ℕ
  h = handle_of operation.call

  abbrev put : State
  put = with_operation state actor (Some (operation_after state operation))

  pub stands : stands_in (word_at state h) k.offer ≡ true
  stands = ap (λ r. stands_in (word_of r) k.offer) stood ∙ try_itself k.offer

  size : length state.roots ≡ 256
  size = (sizes_stay (bounds_for sizes account.steps) account.steps).0

  within : h < length state.roots
  within = found_within state.roots h _ stood

  at_h : (r : Ref) → get_or (put_root state h r) h None ≡ open_with Writable (Plain r)
  at_h r = get_or-set_same state.roots h (open_with Writable (Plain r)) None within

  else_h : (r : Ref) (i : ℕ) → i ≢ h → get_or (put_root state h r) i None ≡ root_at state i
  else_h r i differs = found_elsewhere state.roots h i _ differs

  -- who has offered it
  owner : StandsBy state h k.offer
  owner = (has sizes account bounds).0.offers h k.offer (ap word_of stood)

  mine : (owner.owner.id ≡ k.offer.operation) × (owner.owner.attempt ≡ k.offer.attempt) × (owner.owner.opens ≡ k.offer.opens)
  mine =
      let m = own_numbers owner.owner k.offer ((has sizes account bounds).0.own owner.k owner.owner owner.runs) owner.completes in
      (sym m.its, sym m.at_try, sym m.number)

  -- the handle that it is to open is closed
  closed : (i : ℕ) → k.offer.opens ≡ Some i → root_at state i ≡ None
  closed i opens = (has sizes account bounds).1.unopened owner.k i owner.owner owner.runs owner.unmarked (mine.2 ∙ opens)

  not_h : (i : ℕ) → k.offer.opens ≡ Some i → i ≢ h
  not_h i opens same = none-some _ (sym (closed i opens) ∙ ap (root_at state) same ∙ stood)

  module _ (g : GoesOn (action_of state operation)) (makes_none : (i a : Ref) → over_of operation.line ≡ Some (i, a) → ⊥)
      (publishes_none : (i a f : Ref) → ahead_of operation.line ≡ Some (i, a, f) → ⊥)
      (attempt : attempt_after operation.attempt (action_of state operation) ≡ operation.attempt) (mark : mark_after operation.is_marked (action_of state operation) ≡ operation.is_marked) where
    abbrev m : Option ℕ
    m = marks_by state (Some operation)

    abbrev next : Operation
    next = mark_one m (operation_after state operation)

    next_call : (x : Option ℕ) (o : Operation) → (mark_one x o).call ≡ o.call
    next_call None o = refl
    next_call (Some id) o = by (o.id == id)
      where
        by : (b : Bool) → (if b then record o { is_marked = true } else o).call ≡ o.call
        by true = refl
        by false = refl

    next_opens : (x : Option ℕ) (o : Operation) → (mark_one x o).opens ≡ o.opens
    next_opens None o = refl
    next_opens (Some id) o = by (o.id == id)
      where
        by : (b : Bool) → (if b then record o { is_marked = true } else o).opens ≡ o.opens
        by true = refl
        by false = refl

    next_private : (x : Option ℕ) (o : Operation) → (mark_one x o).private ≡ o.private
    next_private None o = refl
    next_private (Some id) o = by (o.id == id)
      where
        by : (b : Bool) → (if b then record o { is_marked = true } else o).private ≡ o.private
        by true = refl
        by false = refl

    next_line : (x : Option ℕ) (o : Operation) → (mark_one x o).line ≡ o.line
    next_line None o = refl
    next_line (Some id) o = by (o.id == id)
      where
        by : (b : Bool) → (if b then record o { is_marked = true } else o).line ≡ o.line
        by true = refl
        by false = refl

    roots_are : (xs : List (Option Root)) → (gone state actor operation).roots ≡ xs → after.roots ≡ xs
    roots_are xs e = ap (λ (s : State). s.roots) (whole sizes account bounds actor operation runs g) ∙ e

    -- ---- it is taken back

    module _ (gone_is : gone state actor operation ≡ with_word put h (Plain k.offer.root)) (no_marks : m ≡ None) where
      back_roots : after.roots ≡ put_root state h k.offer.root
      back_roots = roots_are _ (ap (λ (s : State). s.roots) gone_is ∙ ap (λ r. set state.roots h (rewritten (Plain k.offer.root) r)) stood)

      pub back_settles : Settles sizes account actor taken_back operation k
      back_settles = record {
        leaves = leaves_by sizes account bounds actor operation runs g makes_none publishes_none (ap (λ (s : State). s.heap) gone_is) (ap (λ (s : State). s.generations) gone_is);
        stood = stood;
        settled = ap (λ rs. get_or rs h None) back_roots ∙ at_h k.offer.root;
        opened = λ i low opens. ap (λ rs. get_or rs i None) back_roots ∙ else_h k.offer.root i (not_h i opens) ∙ closed i opens;
        roots = λ i differs unopened. ap (λ rs. get_or rs i None) back_roots ∙ else_h k.offer.root i differs;
        tries = is_taken_back refl (λ a. try_else sizes account bounds actor operation runs g attempt mark a (λ o e id is. absurd (none-some id (sym no_marks ∙ is))));
        next = next;
        own = own_marked sizes account bounds actor operation runs g;
        same_call = next_call m (operation_after state operation);
        same_opens = next_opens m (operation_after state operation);
        keeps = next_private m (operation_after state operation);
        line = next_line m (operation_after state operation);
      }

    -- ---- it is carried out

    module _ (gone_is : gone state actor operation ≡ carried put h k.offer) (its_mark : m ≡ Some k.offer.operation) where
      abbrev swapped : List (Option Root)
      swapped = put_root state h k.offer.successor

      first : set state.roots h (rewritten (Plain k.offer.successor) (root_at state h)) ≡ swapped
      first = ap (λ r. set state.roots h (rewritten (Plain k.offer.successor) r)) stood

      with_opened : Option ℕ → List (Option Root)
      with_opened None = swapped
      with_opened (Some i) = set swapped i (Some (opened_root k.offer k.offer.second))

      opened_is : (o : Option ℕ) → (opened (with_word put h (Plain k.offer.successor)) k.offer o).roots ≡ with_opened o
      unfolding with_opened
      opened_is None = first
      opened_is (Some i) = ap (λ xs. set xs i (Some (opened_root k.offer k.offer.second))) first

      out_roots : after.roots ≡ with_opened k.offer.opens
      out_roots = roots_are _ (ap (λ (s : State). s.roots) gone_is ∙ opened_is k.offer.opens)

      -- what the handle has that is opened, and what others have
      at_opened : (o : Option ℕ) (i : ℕ) → o ≡ Some i → i < 256 → get_or (with_opened o) i None ≡ Some (opened_root k.offer k.offer.second)
      unfolding with_opened
      at_opened None i e low = absurd (none-some i e)
      at_opened (Some j) i e low =
          let same = same_Some j i e in
          ap (λ n. get_or (set swapped n (Some (opened_root k.offer k.offer.second))) i None) same
          ∙ get_or-set_same swapped i (Some (opened_root k.offer k.offer.second)) None
          (let long = length-set state.roots h (open_with Writable (Plain k.offer.successor)) in let count = size in omega (arith, long, count, low))

      else_opened : (o : Option ℕ) (i : ℕ) → (o ≡ Some i → ⊥) → get_or (with_opened o) i None ≡ get_or swapped i None
      unfolding with_opened
      else_opened None i unopened = refl
      else_opened (Some j) i unopened = found_elsewhere swapped j i _ (λ same. unopened (ap Some (sym same)))

      by_id : (a : ℕ) (o : Operation) → operation_of state a ≡ Some o → o.id ≡ k.offer.operation → a ≡ suc owner.k
      by_id a o e same =
          let place = place_of_actor state a o e in
          let ids = (has sizes account bounds).0.ids in
          place.1 ∙ ap suc (ids.distinct place.0 owner.k o owner.owner place.2 owner.runs (same ∙ sym mine.0))

      out_marked : IsMarkedThen k.offer state after
      out_marked = record {
        owner = suc owner.k;
        was = owner.owner;
        ran = owner.runs;
        its_try = record { its = mine.0; now = mine.1 };
        opens = mine.2;
        unmarked = owner.unmarked;
        now = then_is.0;
        runs = then_is.1;
        marked = then_is.2;
        alone = λ a o differs e same. differs (by_id a o e same);
        others = λ a differs.
            try_else sizes account bounds actor operation runs g attempt mark a
            (λ o e id is same. differs (by_id a o e (same ∙ same_Some id k.offer.operation (sym is ∙ its_mark))));
      }
        where
          marked_try : (o : Operation) → o.id ≡ k.offer.operation → try_of (mark_one m o) ≡ record (try_of o) { is_marked = true }
          marked_try o same = ap (λ x. try_of (mark_one x o)) its_mark ∙ ap (λ x. try_of x) (marked_its k.offer.operation o same)

          then_is : (o : Operation) × (operation_of after (suc owner.k) ≡ Some o) × (try_of o ≡ record (try_of owner.owner) { is_marked = true })
          then_is = elim (cases_eq (suc owner.k) actor) [
            | inl own ↦
                (let same : operation ≡ owner.owner = same_Some _ _ (sym runs ∙ ap (operation_of state) (sym own) ∙ owner.runs) in (
                  next,
                  ap (operation_of after) own ∙ own_marked sizes account bounds actor operation runs g,
                  marked_try (operation_after state operation) (ap (λ (o : Operation). o.id) same ∙ mine.0)
                      ∙ ap marked_so (same_try sizes account bounds actor operation runs g attempt mark ∙ ap (λ x. try_of x) same),
                ))
            | inr other ↦ (
              mark_one m owner.owner,
              other_marked sizes account bounds actor operation runs g (suc owner.k) other ∙ ap (after_mark m) owner.runs ∙ marked_some m owner.owner,
              marked_try owner.owner mine.0,
            )
          ]

      pub out_settles : Settles sizes account actor carried_out operation k
      out_settles = record {
        leaves = leaves_by sizes account bounds actor operation runs g makes_none publishes_none (ap (λ (s : State). s.heap) gone_is ∙ opened_heap k.offer.opens)
            (ap (λ (s : State). s.generations) gone_is ∙ opened_generations k.offer.opens);
        stood = stood;
        settled = ap (λ rs. get_or rs h None) out_roots ∙ else_opened k.offer.opens h (λ opens. not_h h opens refl) ∙ at_h k.offer.successor;
        opened = λ i low opens. ap (λ rs. get_or rs i None) out_roots ∙ at_opened k.offer.opens i opens low;
        roots = λ i differs unopened. ap (λ rs. get_or rs i None) out_roots ∙ else_opened k.offer.opens i unopened ∙ else_h k.offer.successor i differs;
        tries = is_carried_out refl out_marked;
        next = next;
        own = own_marked sizes account bounds actor operation runs g;
        same_call = next_call m (operation_after state operation);
        same_opens = next_opens m (operation_after state operation);
        keeps = next_private m (operation_after state operation);
        line = next_line m (operation_after state operation);
      }
        where
          opened_heap : (o : Option ℕ) → (opened (with_word put h (Plain k.offer.successor)) k.offer o).heap ≡ state.heap
          opened_heap None = refl
          opened_heap (Some i) = refl

          opened_generations : (o : Option ℕ) → (opened (with_word put h (Plain k.offer.successor)) k.offer o).generations ≡ state.generations
          opened_generations None = refl
          opened_generations (Some i) = refl
