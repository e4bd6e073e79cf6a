-- The root's generation is asked for, for a READ's licence.
use Rattle.std.proofs.Common.{◌≡◌, ℕ, Bool, Option, Some, refl, sym, ap, subst, ◌∙◌}
use Rattle.machine_model.specs.Beneath.slot_arena.specs.declared.refs.Ref.{Ref}
use Rattle.machine_model.specs.Beneath.slot_arena.specs.Heaps.{generation_at}
use Rattle.machine_model.specs.declared.reading.After.TheVariants.{Goes}
use Rattle.machine_model.specs.declared.reading.ReadLine.TheVariants as read
use Rattle.machine_model.specs.declared.operations.Operation.{Operation}
use Rattle.machine_model.specs.declared.roots.RootWord.TheVariants.{Offer}
use Rattle.machine_model.specs.Calls.{handle_of}
use Rattle.machine_model.specs.Reading.{after_ask}
use Rattle.machine_model.specs.States.{State, word_at, word_of}
use Rattle.lock_free.specs.declared.accounts.Known.{Known}
use Rattle.lock_free.specs.declared.rules.View.{View}
use Rattle.lock_free.specs.Fates.{HasSettled}
use Rattle.lock_free.specs.HandleWords.{HasOffer}
use Rattle.lock_free.specs.Loading.{now, seen, IsSound, Runs, Saw}
use Rattle.lock_free.specs.OfferWords.{HasAborted, IsAtAbort, outcome_by}
use Rattle.lock_free.specs.OfReads.{read_to}
use Rattle.lock_free.specs.Passing.{HasAsked, HasAskedAgain, HasAskedSome, HasCome, IsAsking, IsReading, Later}
use Rattle.lock_free.specs.Rooting.{IsSettledAt}
use Rattle.lock_free.specs.RootWords.{AsksAt, HasFoundOffer, HasFoundRoot, HasSeenGeneration, HasSeenSettled}
use Rattle.lock_free.proofs.Comings.{came, come_on, reading_then, runs_one, saw_come, stays_there}
use Rattle.lock_free.proofs.Laters.{generation_later, saw_later, went_later}
use Rattle.lock_free.proofs.LinkWords.{generation_is}
use Rattle.lock_free.proofs.OffersLater.{offer_later, met_later}
use Rattle.lock_free.proofs.ReadAgain.{read_on}
use Rattle.lock_free.proofs.ReadSteps.{read_acts}

-- ---- who asks

pub asks_at : (v : View) (handle : ℕ) → IsAsking v handle → AsksAt v handle
asks_at v handle (i, main, replaced, o, (mark, runs), is, on) = record {
  acts = record {
    operation = record o { is_marked = mark };
    runs = runs;
    acts = read_acts (now v) (record o { is_marked = mark }) (record { indirection = i; line = read.AskRoot main replaced }) is;
  };
  on = on;
}

-- each operation that runs is on the handle
asked_handle : (v : View) (handle : ℕ) → IsAsking v handle → (o : Operation) → Runs v o → handle_of o.call ≡ handle
asked_handle v handle (i, main, replaced, p, r, is, on) o runs = ap (λ (z : Operation). handle_of z.call) (runs_one v o p runs r) ∙ on

-- it asks still
pub asking_then : (v w : View) (handle : ℕ) → IsAsking v handle → HasAskedAgain v w → IsAsking w handle
asking_then v w handle (i, main, replaced, o, runs, is, on) again =
    let come = again i main replaced (o, runs, is) in
    let still = read_on o.line (record { indirection = i; line = read.AskRoot main replaced }) (read.AskRoot main replaced) is in
    (i, main, replaced, read_to (Goes (read.AskRoot main replaced)) o, come.comes o runs, still, on)

pub again_both : (u v w : View) → HasAskedAgain u v → HasAskedAgain v w → HasAskedAgain u w
again_both u v w p q i main replaced reading =
    let first = p i main replaced reading in
    come_on u v w (read.AskRoot main replaced) (Goes (read.AskRoot main replaced)) first
    (q i main replaced (reading_then u v i (read.AskRoot main replaced) (read.AskRoot main replaced) reading first))

pub again_none : (v : View) → HasAskedAgain v v
again_none v i main replaced reading = stays_there v i (read.AskRoot main replaced) reading

pub again_seen : (n : ℕ) (v w : View) → IsSound n v → Saw v w → HasAskedAgain v w
again_seen n v w sound s i main replaced reading = saw_come v w i (read.AskRoot main replaced) reading (saw_later n v sound w s) s

-- ---- the offer that stands there

module _ (n : ℕ) (v : View) (sound : IsSound n v) (handle offer : ℕ) (knows : HasOffer v.sizes v.account v.pin handle offer) (w : View) (then : IsSound n w) where
  abbrev its : Known
  its = knows.its

  -- it was settled
  pub settled_now : (carried : Bool) → HasSeenSettled v offer (outcome_by carried) w → IsSettledAt w handle offer carried
  settled_now carried (s, said) =
      (offer_later v w (saw_later n v sound w s) handle offer knows, subst (λ (x : View). HasSettled x.sizes x.account its (outcome_by carried)) (sym s.after_is) (said its knows.here knows.place))

  -- it stands, so it is to be taken back
  module _ (asking : IsAsking v handle) (found : HasFoundOffer v handle offer w) where
    later : Later v w
    later = went_later n v sound n w then found.went

    abbrev state : State
    state = now (seen v found.went.account)

    word_is : (o : Operation) → Runs v o → word_at state (handle_of o.call) ≡ Offer its.offer
    word_is o runs = ap (word_at state) (asked_handle v handle asking o runs) ∙ ap word_of (found.is its knows.here knows.place)

    finds : (i main replaced : Ref) → IsReading v i (read.AskRoot main replaced) → HasCome (Goes (read.Abort main replaced its.offer)) v w
    finds i main replaced reading =
        came v w i (read.AskRoot main replaced) reading later found.went (Goes (read.Abort main replaced its.offer)) (λ o runs. ap (after_ask state.heap main replaced) (word_is o runs))

    pub abort_ready : IsAtAbort w offer
    abort_ready =
        let (i, main, replaced, o, runs, is, on) = asking in
        let come = finds i main replaced (o, runs, is) in
        let q : Operation = read_to (Goes (read.Abort main replaced its.offer)) o in
        let runs_q = come.comes o runs in
        record {
          its = its;
          here = met_later v w later its knows.here;
          place = knows.place;
          acts = record {
            operation = record q { is_marked = runs_q.0 };
            runs = runs_q.1;
            acts = read_acts (now w) (record q { is_marked = runs_q.0 }) (record { indirection = i; line = read.Abort main replaced its.offer })
                (read_on o.line (record { indirection = i; line = read.AskRoot main replaced }) (read.Abort main replaced its.offer) is);
          };
          on = knows.on ∙ sym on;
        }

    -- and then it is asked again
    module _ (z : View) (last : IsSound n z) (stood : Bool) (g : HasAborted w stood z) where
      pub aborted_again : HasAskedAgain v z
      aborted_again i main replaced reading =
          let first = finds i main replaced reading in
          come_on v w z (read.Abort main replaced its.offer) (Goes (read.AskRoot main replaced)) first
          (came w z i (read.Abort main replaced its.offer) (reading_then v w i (read.AskRoot main replaced) (read.Abort main replaced its.offer) reading first) (went_later n w then n z last g.0) g.0
          (Goes (read.AskRoot main replaced)) (λ o runs. refl))

-- ---- the root

module _ (n : ℕ) (v : View) (sound : IsSound n v) (handle name : ℕ) (w : View) (then : IsSound n w) (found : HasFoundRoot v handle name w) where
  later_w : Later v w
  later_w = went_later n v sound n w then found.went

  abbrev state_w : State
  state_w = now (seen v found.went.account)

  -- whose generation it then has, too
  generation_then : generation_at (now w).heap found.root ≡ generation_at state_w.heap found.root
  generation_then =
      let used = found.at.used in
      generation_is (now w) found.root found.at.slot used ∙ sym (generation_is state_w found.root found.at.slot (sym (found.same _) ∙ used))

  module _ (z : View) (generation : ℕ) (seen_it : HasSeenGeneration w name generation z) where
    later_z : Later w z
    later_z = saw_later n w then z seen_it.0

    -- the one that is seen
    pub same_generation : generation_at state_w.heap found.root ≡ generation
    same_generation = sym generation_then ∙ sym (generation_later w z later_z found.root (found.at.slot, found.at.used)) ∙ seen_it.1 found.root found.at found.found

    abbrev told : Option ℕ
    told = Some (generation_at state_w.heap found.root)

    module _ (asking : IsAsking v handle) where
      asked_by_step : (i main replaced : Ref) → IsReading v i (read.AskRoot main replaced) → HasCome (Goes (read.Decide main replaced told)) v w
      asked_by_step i main replaced reading =
          came v w i (read.AskRoot main replaced) reading later_w found.went (Goes (read.Decide main replaced told))
          (λ o runs. ap (after_ask state_w.heap main replaced) (ap (word_at state_w) (asked_handle v handle asking o runs) ∙ ap word_of found.is))

      pub generation_asked : HasAsked v (Some generation) z
      generation_asked i main replaced reading =
          let first = asked_by_step i main replaced reading in
          subst (λ t. HasCome (Goes (read.Decide main replaced t)) v z) (ap Some same_generation)
          (come_on v w z (read.Decide main replaced told) (Goes (read.Decide main replaced told)) first
          (saw_come w z i (read.Decide main replaced told) (reading_then v w i (read.AskRoot main replaced) (read.Decide main replaced told) reading first) later_z seen_it.0))

-- ---- look after look

pub first_look : (n : ℕ) (v : View) (handle : ℕ) → IsSound n v → IsAsking v handle → HasAskedSome n handle v v
first_look n v handle sound asking = record { sound = sound; asking = asking; again = again_none v }

pub one_look : (n handle : ℕ) (u v w : View) → HasAskedSome n handle u v → IsSound n w → HasAskedAgain v w → HasAskedSome n handle u w
one_look n handle u v w h sound again = record { sound = sound; asking = asking_then v w handle h.asking again; again = again_both u v w h.again again }

-- it is told after the last one
pub last_look : (n handle : ℕ) (u v w : View) (told : Option ℕ) → HasAskedSome n handle u v → HasAsked v told w → HasAsked u told w
last_look n handle u v w told h asked i main replaced reading =
    let first = h.again i main replaced reading in
    come_on u v w (read.AskRoot main replaced) (Goes (read.Decide main replaced told)) first
    (asked i main replaced (reading_then u v i (read.AskRoot main replaced) (read.AskRoot main replaced) reading first))

-- the offer that was seen is known
pub offer_now : (v w : View) (handle slot : ℕ) (s : Saw v w) → HasOffer v.sizes s.account v.pin handle slot → HasOffer w.sizes w.account w.pin handle slot
offer_now v w handle slot s h = subst (λ (x : View). HasOffer x.sizes x.account x.pin handle slot) (sym s.after_is) h
