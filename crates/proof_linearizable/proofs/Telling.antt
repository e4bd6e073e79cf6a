-- A history with one operation more, told by its begin and its end: what it says of the others, and what replays of them lead to.
use Rattle.std.specs.Prelude.{◌≡◌, ◌≢◌, ℕ, zero, suc, ◌⊎◌, List, ◌∷◌, ◌++◌, length, Option, Some, slice_get, []}
use Rattle.std.proofs.Common.{refl, sym, ap, subst, arith, ◌∙◌, inl, inr}
use Rattle.std.proofs.Math.Seq.{take-append_seam}
use Rattle.std.proofs.lemmas.List.{take-append-le, append_assoc}
use Rattle.std.proofs.lemmas.Option.{none-some, same_Some, slice_get_within}
use Rattle.proof_linearizable.specs.Beneath.history.specs.declared.calls.Call.{Call}
use Rattle.proof_linearizable.specs.Beneath.history.specs.declared.events.Event.{Event}
use Rattle.proof_linearizable.specs.Beneath.history.specs.declared.events.Event.TheVariants.{Begin, End}
use Rattle.proof_linearizable.specs.Beneath.history.specs.declared.replies.Reply.{Reply}
use Rattle.proof_linearizable.specs.Beneath.history.specs.Worlds.{HandleMap, first_world}
use Rattle.proof_linearizable.specs.Beneath.history.specs.Effects.{Effect}
use Rattle.proof_linearizable.specs.Beneath.history.specs.Histories.{Operation, BeginsAt, HasBegun, HasEnded, MayFollow, IsWellFormed, begun}
use Rattle.proof_linearizable.specs.Beneath.history.specs.Orders.{OrderedAt, Answered, Recalls, RecallsEach, Replays, Explains}
use Rattle.proof_linearizable.specs.Beneath.history.proofs.Begins.{begins_once}
use Rattle.proof_linearizable.specs.Beneath.history.proofs.OneWorld.{one_world}
use Rattle.proof_linearizable.specs.Beneath.proof_order.proofs.History.Books.{id_below}
use Rattle.proof_linearizable.specs.Beneath.proof_order.proofs.History.Growing.{ended_before}
use Rattle.proof_linearizable.specs.Beneath.history.proofs.Places.{at_front, at_seam}

-- ---- replays of a list with one call more

-- what is replayed last
pub record LastOf (hash : ℕ → ℕ) (history : List Event) (ids : List ℕ) (id : ℕ) (world next : HandleMap) : Type 0 where
  pub calls : List Answered
  pub recalls : RecallsEach history ids calls
  pub between : HandleMap
  pub replays : Replays hash calls world between
  pub one : Answered
  pub recalled : Recalls history id one
  pub acts : Effect hash between one.call one.opens one.answer next

pub last_of : (hash : ℕ → ℕ) (history : List Event) (ids : List ℕ) (id : ℕ) (calls : List Answered) (world next : HandleMap) → RecallsEach history (ids ++ id ∷ []) calls →
    Replays hash calls world next → LastOf hash history ids id world next
last_of hash history [] id [] world next r p = absurd r
last_of hash history [] id (one ∷ []) world next r p =
    record { calls = []; recalls = tt; between = world; replays = refl; one = one; recalled = r.0; acts = subst (λ w. Effect hash world one.call one.opens one.answer w) (sym p.2) p.1 }
last_of hash history [] id (one ∷ other ∷ more) world next r p = absurd r.1
last_of hash history (x ∷ ids) id [] world next r p = absurd r
last_of hash history (x ∷ ids) id (one ∷ more) world next r p =
    let rest = last_of hash history ids id more p.0 next r.1 p.2 in record {
      calls = one ∷ rest.calls;
      recalls = (r.0, rest.recalls);
      between = rest.between;
      replays = (p.0, p.1, rest.replays);
      one = rest.one;
      recalled = rest.recalled;
      acts = rest.acts;
    }

-- ---- the longer history

get_behind_seam : {X : Type 0} (xs : List X) (y z : X) → slice_get (xs ++ y ∷ z ∷ []) (suc (length xs)) ≡ Some z
get_behind_seam [] y z = refl
get_behind_seam (x ∷ xs) y z = get_behind_seam xs y z

get_split : {X : Type 0} (xs ys : List X) (i : ℕ) (x : X) → slice_get (xs ++ ys) i ≡ Some x → (slice_get xs i ≡ Some x) ⊎ ((j : ℕ) × (slice_get ys j ≡ Some x))
get_split [] ys i x e = inr (i, e)
get_split (y ∷ xs) ys zero x e = inl e
get_split (y ∷ xs) ys (suc i) x e = get_split xs ys i x e

-- an operation is told behind a history by its begin and its end
module _ (history : List Event) (id actor : ℕ) (call : Call) (opens : Option ℕ) (answer : Reply) (well : IsWellFormed (history ++ Begin id actor call opens ∷ End id answer ∷ [])) where
  abbrev pub longer : List Event
  longer = history ++ Begin id actor call opens ∷ End id answer ∷ []

  abbrev its : Operation
  its = record { actor = actor; call = call; opens = opens }

  pub begins_here : BeginsAt longer (length history) id its
  begins_here = at_seam history (End id answer ∷ []) (Begin id actor call opens)

  pub ends_here : HasEnded longer id answer
  ends_here = (suc (length history), get_behind_seam history (Begin id actor call opens) (End id answer))

  -- its id is the next one
  pub next_id : id ≡ begun history
  next_id = (well (length history) (Begin id actor call opens) begins_here).0 ∙ ap begun (take-append_seam history (Begin id actor call opens ∷ End id answer ∷ []))

  pub well_before : IsWellFormed history
  well_before place event e =
      subst (λ h. MayFollow h event) (take-append-le place history (Begin id actor call opens ∷ End id answer ∷ []) (omega (arith, slice_get_within history place event e)))
      (well place event (at_front history (Begin id actor call opens ∷ End id answer ∷ []) place event e))

  -- who had begun is another one
  pub another : (x : ℕ) → HasBegun history x → x ≢ id
  another x (place, told, at) e = let low = id_below history place x told well_before at in absurd (omega (arith, low, next_id, e))

  -- who ended, ended before or is this one
  pub ended_back : (x : ℕ) (other : Reply) → HasEnded longer x other → HasEnded history x other ⊎ (x ≡ id)
  ended_back x other ended =
      elim (ended_before (history ++ Begin id actor call opens ∷ []) (End id answer) x other
      (subst (λ h. HasEnded h x other) (sym (append_assoc history (Begin id actor call opens ∷ []) (End id answer ∷ []))) ended)) [
        | inl before ↦ elim (ended_before history (Begin id actor call opens) x other before) [
          | inl old ↦ inl old
          | inr bad ↦ cc bad
        ]
        | inr now ↦ let same : id ≡ x = cc now in inr (sym same)
      ]

  -- who has begun, had begun or is this one
  pub begun_back : (x : ℕ) → HasBegun longer x → HasBegun history x ⊎ (x ≡ id)
  begun_back x (place, told, at) = elim (get_split history (Begin id actor call opens ∷ End id answer ∷ []) place (Begin x told.actor told.call told.opens) at) [
    | inl low ↦ inl (place, told, low)
    | inr high ↦ inr (told_behind high.0 (Begin x told.actor told.call told.opens) high.1 x told refl)
  ]
    where
      told_behind : (j : ℕ) (event : Event) → slice_get (Begin id actor call opens ∷ End id answer ∷ []) j ≡ Some event → (x : ℕ) (told : Operation) →
          event ≡ Begin x told.actor told.call told.opens → x ≡ id
      told_behind zero event e x told is = let same : Begin id actor call opens ≡ Begin x told.actor told.call told.opens = same_Some (Begin id actor call opens) event e ∙ is in cc
      told_behind (suc zero) event e x told is = absurd (let same : End id answer ≡ Begin x told.actor told.call told.opens = same_Some (End id answer) event e ∙ is in cc)
      told_behind (suc (suc j)) event e x told is = absurd (none-some event e)

  -- ---- what is recalled of the others

  recalls_on : (x : ℕ) (one : Answered) → HasBegun history x → Recalls history x one → Recalls longer x one
  recalls_on x one begun_x ((place, told, at, same_call, same_opens), answers) = (
    (place, told, at_front history (Begin id actor call opens ∷ End id answer ∷ []) place (Begin x told.actor told.call told.opens) at, same_call, same_opens),
    λ other ended. elim (ended_back x other ended) [ inl old ↦ answers other old | inr bad ↦ absurd (another x begun_x bad) ],
  )

  pub each_on : (ids : List ℕ) (calls : List Answered) → ((i x : ℕ) → OrderedAt ids i x → HasBegun history x) → RecallsEach history ids calls → RecallsEach longer ids calls
  each_on [] [] all r = r
  each_on [] (one ∷ more) all r = r
  each_on (x ∷ ids) [] all r = r
  each_on (x ∷ ids) (one ∷ more) all r = (recalls_on x one (all zero x refl) r.0, each_on ids more (λ i y at. all (suc i) y at) r.1)

  -- its call and reply are these
  pub its_own : (one : Answered) → Recalls longer id one → (one.call ≡ call) × (one.opens ≡ opens) × (one.answer ≡ answer)
  its_own one ((place, told, at, same_call, same_opens), answers) =
      let here : place ≡ length history = begins_once longer place (length history) id told its well at begins_here in
      let event : Begin id actor call opens ≡ Begin id told.actor told.call told.opens =
      same_Some (Begin id actor call opens) (Begin id told.actor told.call told.opens) (sym begins_here ∙ ap (slice_get longer) (sym here) ∙ at) in
      let calls : call ≡ told.call = cc event in
      let opened : opens ≡ told.opens = cc event in
      (sym same_call ∙ sym calls, sym same_opens ∙ sym opened, answers answer ends_here)

  -- Where it stands last in the order, its call leads from the world before it to the one after it.
  pub acts_last : (hash : ℕ → ℕ) (order : List ℕ) (world next : HandleMap) → Explains hash history order world → Explains hash longer (order ++ id ∷ []) next →
      Effect hash world call opens answer next
  acts_last hash order world next old new =
      let l = last_of hash longer order id new.replayed.0 first_world next new.replayed.1 new.replayed.2 in
      let same : l.between ≡ world =
      one_world hash longer order l.calls old.replayed.0 first_world l.between world well l.recalls l.replays
      (each_on order old.replayed.0 (λ i x at. old.candidate.has_begun i x at) old.replayed.1) old.replayed.2 in
      let own = its_own l.one l.recalled in
      subst (λ w. Effect hash w call opens answer next) same
      (subst (λ c. Effect hash l.between c opens answer next) own.0
      (subst (λ h. Effect hash l.between l.one.call h answer next) own.1 (subst (λ a. Effect hash l.between l.one.call l.one.opens a next) own.2 l.acts)))

  -- where the order is the same, so is the world
  pub same_world : (hash : ℕ → ℕ) (order : List ℕ) (world next : HandleMap) → Explains hash history order world → Explains hash longer order next → next ≡ world
  same_world hash order world next old new =
      one_world hash longer order new.replayed.0 old.replayed.0 first_world next world well new.replayed.1 new.replayed.2
      (each_on order old.replayed.0 (λ i x at. old.candidate.has_begun i x at) old.replayed.1) old.replayed.2
