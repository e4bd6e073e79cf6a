-- What is left by the step that offers, whether its root still stands or not.
use Rattle.std.proofs.Common.{◌≡◌, ◌≢◌, ◌+◌, ℕ, suc, Bool, true, false, Contains, Some, None, get_or, set, refl, sym, ap, subst, ◌∙◌, arith, eq-eqb}
use Rattle.std.specs.Prelude.{option_map}
use Rattle.std.proofs.lemmas.List.{get_or-set_same}
use Rattle.history.specs.declared.calls.Access.TheVariants.{Writable}
use Rattle.machine_model.specs.Beneath.slot_arena.specs.declared.refs.Ref.{Ref}
use Rattle.machine_model.specs.Beneath.slot_arena.specs.Refs.{slot_of}
use Rattle.machine_model.specs.declared.actions.Action.TheVariants as act
use Rattle.machine_model.specs.declared.copying.CopyLine.TheVariants as copy
use Rattle.machine_model.specs.declared.lines.Line.TheVariants as line
use Rattle.machine_model.specs.declared.operations.Operation.{Operation}
use Rattle.machine_model.specs.declared.roots.Descriptor.{Descriptor}
use Rattle.machine_model.specs.declared.roots.RootWord.TheVariants.{Plain, Offer}
use Rattle.machine_model.specs.Acting.{acted, gone, if_changed, operation_after, attempt_after, mark_after}
use Rattle.machine_model.specs.Calls.{handle_of}
use Rattle.machine_model.specs.Machine.{AreBounds}
use Rattle.machine_model.specs.Moves.{GoesOn}
use Rattle.machine_model.specs.Operations.{action_of}
use Rattle.machine_model.specs.States.{State, operation_of, root_at, word_at, word_of, rewritten, with_word, with_operation}
use Rattle.machine_model.specs.Swapping.{is_plain}
use Rattle.machine_model.proofs.Actors.{marks_by, marks_of, mark_one}
use Rattle.machine_model.proofs.Found.{found_within, found_elsewhere}
use Rattle.proof_commits.proofs.Known.StepsAt.{after_mark}
use Rattle.proof_garbage.specs.Beneath.proof_generations.proofs.Handles.Running.{place_of_actor}
use Rattle.proof_garbage.specs.Beneath.proof_generations.proofs.Lines.Copy.{IsOwn, LineFits}
use Rattle.proof_garbage.specs.Beneath.proof_generations.proofs.Offers.Standing.{offer_line}
use Rattle.lock_free.specs.declared.accounts.Account.{Account}
use Rattle.lock_free.specs.declared.accounts.Known.{Known}
use Rattle.lock_free.specs.declared.rules.Retired.{Retired}
use Rattle.lock_free.specs.declared.sizes.Sizes.{Sizes}
use Rattle.lock_free.specs.Accounts.{bounds_for, state_of, running, gone_on, HasGrown, HasStood, WasRoot}
use Rattle.lock_free.specs.Live.{IsLive}
use Rattle.lock_free.specs.Making.{over_of}
use Rattle.lock_free.specs.Offering.{Offers}
use Rattle.lock_free.specs.Roots.{open_with, IsItsTry}
use Rattle.lock_free.specs.Rules.{WasGarbage}
use Rattle.lock_free.specs.Steps.{Dropped, Leads}
use Rattle.lock_free.specs.Trying.{anew, try_of}
use Rattle.lock_free.proofs.OneStep.Aheads.{ahead_of, over_makes, ahead_acts}
use Rattle.lock_free.proofs.OneStep.Changing.{whole, roots_then}
use Rattle.lock_free.proofs.OneStep.Marking.{other_marked, own_marked, leaves_by}
use Rattle.lock_free.proofs.OneStep.Standing.{has, known_once, offering_unmarked}

module _ (sizes : Sizes) (account : Account) (bounds : AreBounds (bounds_for sizes account.steps)) (actor : ℕ) (operation : Operation) (runs : running sizes account actor operation)
    (offer : Descriptor) (is : action_of (state_of sizes account) operation ≡ act.Offer offer) (stood : (k : Known) → Contains account.offers k → HasStood sizes account k.offer) where
  abbrev state : State
  state = state_of sizes account

  abbrev after : State
  after = state_of sizes (gone_on actor account)

  abbrev h : ℕ
  h = handle_of operation.call

  abbrev put : State
  put = with_operation state actor (Some (operation_after state operation))

  abbrev next : Operation
  next = operation_after state operation

  goes : GoesOn (action_of state operation)
  goes = subst GoesOn (sym is) tt

  makes_none : (i a : Ref) → over_of operation.line ≡ Some (i, a) → ⊥
  makes_none i a over = let (node, made) = over_makes state operation operation.line (i, a) over in let both = sym made ∙ is in cc

  publishes_none : (i a f : Ref) → ahead_of operation.line ≡ Some (i, a, f) → ⊥
  publishes_none i a f ahead = let both = sym (ahead_acts state operation operation.line (i, a, f) ahead) ∙ is in cc

  no_marks : marks_by state (Some operation) ≡ None
  no_marks = ap (marks_of state h) is

  gone_by : (b : Bool) → is_plain (word_at state h) offer.root ≡ b → gone state actor operation ≡ if_changed b (with_word put h (Offer offer)) put
  gone_by b e = ap (acted put h) is ∙ ap (λ c. if_changed c (with_word put h (Offer offer)) put) e

  -- ---- the try

  at_line : operation.line ≡ line.Copy (copy.Offer offer)
  at_line = offer_line state operation operation.line offer is

  place : (k : ℕ) × (actor ≡ suc k) × (get_or state.actors k None ≡ Some operation)
  place = place_of_actor state actor operation runs

  mine : IsOwn operation.call operation.id operation.opens (operation.attempt + 1) offer
  mine = subst (λ l. LineFits operation.call operation.id operation.opens operation.attempt l) at_line ((has sizes account bounds).0.own place.0 operation place.2)

  next_attempt : next.attempt ≡ operation.attempt + 1
  next_attempt = ap (attempt_after operation.attempt) is

  next_unmarked : next.is_marked ≡ false
  next_unmarked = ap (mark_after operation.is_marked) is

  unmarked : operation.is_marked ≡ false
  unmarked = offering_unmarked sizes account bounds actor operation runs offer at_line

  fresh : (k : Known) → Contains account.offers k → IsItsTry next k.offer → ⊥
  fresh k c its =
      let tried = (known_once sizes account bounds k.offer (stood k c)).tried place.0 operation place.2 its.its in
      let same = its.now in let more = next_attempt in omega (arith, tried, same, more)

  own_then : operation_of after actor ≡ Some next
  own_then = own_marked sizes account bounds actor operation runs goes ∙ ap (λ m. Some (mark_one m next)) no_marks

  others_then : (a : ℕ) → a ≢ actor → operation_of after a ≡ operation_of state a
  others_then a differs = other_marked sizes account bounds actor operation runs goes a differs ∙ ap (λ m. after_mark m (operation_of state a)) no_marks

  -- ---- its root stands there

  module _ (plain : root_at state h ≡ open_with Writable (Plain offer.root)) (slot : ℕ) where
    plain_so : is_plain (word_at state h) offer.root ≡ true
    plain_so = ap (λ r. is_plain (word_of r) offer.root) plain ∙ eq-eqb offer.root offer.root refl

    gone_is : gone state actor operation ≡ with_word put h (Offer offer)
    gone_is = gone_by true plain_so

    roots_are : after.roots ≡ set state.roots h (open_with Writable (Offer offer))
    roots_are = ap (λ (s : State). s.roots) (whole sizes account bounds actor operation runs goes) ∙ ap (λ (s : State). s.roots) gone_is ∙ ap (λ r. set state.roots h (rewritten (Offer offer) r)) plain

    pub offers : Offers sizes account actor slot operation offer
    offers =
        let leaves = leaves_by sizes account bounds actor operation runs goes makes_none publishes_none (ap (λ (s : State). s.heap) gone_is) (ap (λ (s : State). s.generations) gone_is) in
        record {
          leaves = record {
            bounds = leaves.bounds;
            nodes = leaves.nodes;
            births = leaves.births;
            live = leaves.live;
            reached = λ r h. leaves.reached r (record {
              root = record { steps = h.root.steps; more = h.root.more; goes_on = h.root.goes_on; handle = h.root.handle; access = h.root.access; was = h.root.was };
              actor = h.actor;
              operation = h.operation;
              runs = h.runs;
              began = h.began;
            });
            generations = leaves.generations;
            aheads = leaves.aheads;
            still = leaves.still;
          };
          stood = plain;
          stands = ap (λ rs. get_or rs h None) roots_are ∙ get_or-set_same state.roots h (open_with Writable (Offer offer)) None (found_within state.roots h _ plain);
          roots = λ i differs. ap (λ rs. get_or rs i None) roots_are ∙ found_elsewhere state.roots h i _ differs;
          others = others_then;
          own = own_then;
          opens = mine.number;
          its_try = record { its = sym mine.its; now = next_attempt ∙ sym mine.at_try };
          fresh = fresh;
          never = λ h. (let tried = (known_once sizes account bounds offer h).tried place.0 operation place.2 (sym mine.its) in let at_try = mine.at_try in omega (arith, tried, at_try));
          alone = λ a o differs e same.
              (let p = place_of_actor state a o e in
              let one = (has sizes account bounds).0.ids.distinct p.0 place.0 o operation p.2 place.2 (same ∙ mine.its) in
              differs (p.1 ∙ ap suc one ∙ sym place.1));
          unmarked = unmarked;
          still_unmarked = next_unmarked;
        }

  -- ---- another stands there

  module _ (another : is_plain (word_at state h) offer.root ≡ false) (dropped : Dropped) (kept : (r : Ref) → IsLive after r → dropped (slot_of r) ≡ false)
      (once : (r : Ref) → WasRoot sizes account r → dropped (slot_of r) ≡ false)
      (never : (x : Retired) → WasGarbage sizes x → HasGrown x.account account → dropped x.number ≡ false) where
    pub offer_misses : Leads sizes account (gone_on actor account) actor dropped next
    offer_misses =
        let gone_is = gone_by false another in
        let leaves = leaves_by sizes account bounds actor operation runs goes makes_none publishes_none (ap (λ (s : State). s.heap) gone_is) (ap (λ (s : State). s.generations) gone_is) in
        record {
          bounds = leaves.bounds;
          nodes = leaves.nodes;
          births = leaves.births;
          live = λ r live. (leaves.live r live, kept r live);
          reached = once;
          retired = never;
          roots = roots_then sizes account bounds actor operation runs goes (ap (λ (s : State). s.roots) gone_is);
          generations = leaves.generations;
          others = others_then;
          own = own_then;
          tries = anew actor (record {
            was = operation;
            ran = runs;
            unmarked = unmarked;
            now = next;
            runs = own_then;
            still_unmarked = next_unmarked;
            fresh = fresh;
            others = λ a differs. ap (λ o. option_map try_of o) (others_then a differs);
          });
          aheads = leaves.aheads;
          still = λ i a f x none. leaves.still i a f x;
        }
