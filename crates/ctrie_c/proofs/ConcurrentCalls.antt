-- What comes of a call of a held seat at a concurrent map.
use Rattle.std.proofs.Common.{◌≡◌, ◌⊎◌, inl, inr, ℕ, List, Option, Some, None, Result, Ok, Err, IfOk, refl, sym, ap, subst, ◌∙◌}
use Rattle.history.specs.declared.calls.Call.{Call}
use Rattle.history.specs.declared.calls.Call.TheVariants.{Get}
use Rattle.history.specs.declared.replies.Reply.{Reply}
use Rattle.history.specs.declared.replies.Reply.TheVariants as reply
use Rattle.concurrent_map.specs.Beneath.lock_free.specs.declared.call_errors.CallError.{CallError}
use Rattle.concurrent_map.specs.Beneath.lock_free.specs.Attempts.{IsTried}
use Rattle.concurrent_map.specs.Beneath.lock_free.specs.KeyReplies.{FitsCall}
use Rattle.concurrent_map.specs.Beneath.lock_free.specs.Naming.{MapId}
use Rattle.concurrent_map.specs.Beneath.lock_free.specs.Seated.{Seated}
use Rattle.concurrent_map.specs.declared.tries.MapTried.{MapTried}
use Rattle.concurrent_map.specs.declared.tries.MapTried.TheVariants as tried
use Rattle.concurrent_map.specs.Calls.{IsToldAtOnce}
use Rattle.concurrent_map.specs.Seats.{SeatState}
use Rattle.concurrent_map.specs.Tries.{HasTried, IsAnswer, IsTriedAt, IsUnderWay, NeverBegan}
use Rattle.ctrie_c.specs.declared.threading.At.{At}
use Rattle.ctrie_c.specs.declared.threading.At.TheVariants as at
use Rattle.ctrie_c.specs.Answers.{no_map}
use Rattle.ctrie_c.specs.Threading.{coded, come, Does, DoesAt, DoesSo, HasMade, IsHeldAt, IsSame, Makes, MakesAt, MakesOrAgain, SettlesAt, Threading, Walks}

abbrev Comes : SeatState → Call → MapTried → Type 0
Comes before call t = HasTried before call t ⊎ NeverBegan before t

has_made : (before : SeatState) (call : Call) (t : MapTried) → Comes before call t → HasMade before call (come t call).1 (come t call).0
has_made before call (tried.Answered seat told) is = (told, refl, is)
has_made before call (tried.Parked seat) (inl under) = (refl, refl, under)
has_made before call (tried.Parked seat) (inr never) = elim never [ ]

is_held : (map : MapId) (before : SeatState) (call : Call) (t : MapTried) → IsTriedAt map t → IsTried call → Comes before call t → IsHeldAt map (come t call).0
is_held map before call (tried.Answered seat told) of tried has = of
is_held map before call (tried.Parked seat) of tried (inl under) = (of, tried, (before, under))
is_held map before call (tried.Parked seat) of tried (inr never) = elim never [ ]

told_fits : (before : SeatState) (call : Call) (t : MapTried) → Comes before call t → IfOk (come t call).1 (FitsCall call)
told_fits before call (tried.Answered seat (Ok answer)) (inl is) = is.fits
told_fits before call (tried.Answered seat (Ok answer)) (inr ran) = (let wrong : ⊥ = cc ran.0 in absurd wrong)
told_fits before call (tried.Answered seat (Err why)) is = tt
told_fits before call (tried.Parked seat) is = tt

-- ---- where the seat rested

pub rested_made : (now : At) (seat : SeatState) (call : Call) (t : MapTried) (r : At × Result Reply ℕ) → now ≡ at.Resting seat → r ≡ come t call → Comes seat call t → MakesAt call r.1 now r.0
rested_made now seat call t r same is has =
    subst (λ (o : At × Result Reply ℕ). MakesAt call o.1 now o.0) (sym is)
    (subst (λ a. MakesAt call (come t call).1 a (come t call).0) (sym same)
    (record { another = λ another. absurd another; makes = λ before e. subst (λ b. HasMade b call (come t call).1 (come t call).0) e (has_made seat call t has) }))

-- ---- and made a get at once

module _ (now later : At) (call : Call) (seat after : SeatState) (handle key : ℕ) (was : now ≡ at.Resting seat) (is : later ≡ at.Resting after) (asks : call ≡ Get handle key) where
  pub glanced_made : (value : Option ℕ) → IsToldAtOnce seat (Get handle key) (Some value) after → MakesAt call (Ok (reply.Found value)) now later
  glanced_made value told =
      subst (λ k. MakesAt k (Ok (reply.Found value)) now later) (sym asks)
      (subst (λ a. MakesAt (Get handle key) (Ok (reply.Found value)) a later) (sym was)
      (subst (λ a. MakesAt (Get handle key) (Ok (reply.Found value)) (at.Resting seat) a) (sym is) (record {
        another = λ another. absurd another;
        makes = λ before e.
            subst (λ b. HasMade b (Get handle key) (Ok (reply.Found value)) (at.Resting after)) e
            (Ok (reply.Found value), refl, inl (record { is = told; fits = tt; why = tt }));
      })))

-- the seat that was held is held again
pub makes_held : (call : Call) (result : Result Reply ℕ) (old new : Option Threading) (seat lent after : Threading) → old ≡ Some seat → lent ≡ seat → new ≡ Some after → IsSame lent after →
    MakesOrAgain call result lent.at after.at → Makes call result old new
makes_held call result old new seat lent after was is now same makes =
    subst (λ o. Makes call result o new) (sym (was ∙ ap Some (sym is))) (subst (λ n. Makes call result (Some lent) n) (sym now) (same, makes))

-- ---- where its call was under way

abbrev GoesOn : Seated → MapTried → Type 0
GoesOn seat t = (before : SeatState) (call : Call) → IsTried call → IsUnderWay before call seat → HasTried before call t

pub parked_made : (now : At) (seat : Seated) (asked call : Call) (t : MapTried) (r : At × Result Reply ℕ) → now ≡ at.Parked seat asked → asked ≡ call → IsTried call → r ≡ come t call → GoesOn seat t →
    MakesAt call r.1 now r.0
parked_made now seat asked call t r same its tried is goes =
    subst (λ (o : At × Result Reply ℕ). MakesAt call o.1 now o.0) (sym is)
    (subst (λ a. MakesAt call (come t call).1 a (come t call).0) (sym same)
    (record { another = λ another. absurd (another its); makes = λ before make. has_made before call t (inl (goes before call tried make.1)) }))

module _ (map : MapId) (now : At) (seat : Seated) (asked call : Call) (t : MapTried) (r : At × Result Reply ℕ) (same : now ≡ at.Parked seat asked) (its : asked ≡ call) (held : IsHeldAt map now)
    (tried : IsTried call) (is : r ≡ come t call) (goes : GoesOn seat t) where
  comes : (before : SeatState) × Comes before call t
  comes =
      let (of, was_tried, (before, under)) = subst (IsHeldAt map) same held in
      (before, inl (goes before call tried (subst (λ c. IsUnderWay before c seat) its under)))

  pub parked_held : IsTriedAt map t → IsHeldAt map r.0
  parked_held of = subst (λ (o : At × Result Reply ℕ). IsHeldAt map o.0) (sym is) (is_held map comes.0 call t of tried comes.1)

  pub parked_fits : IfOk r.1 (FitsCall call)
  parked_fits = subst (λ (o : At × Result Reply ℕ). IfOk o.1 (FitsCall call)) (sym is) (told_fits comes.0 call t comes.1)

-- ---- whichever it is

has_settled : (asked : Call) (after : SeatState) (told : Result Reply CallError) (before : SeatState) (t : MapTried) → t ≡ tried.Answered after told → HasTried before asked t →
    (answer : Result Reply CallError) × IsAnswer before asked answer after
has_settled asked after told before t is has = (told, subst (HasTried before asked) is has)

pub settled_over : (map : MapId) (now : At) (seat : Seated) (asked : Call) (t : MapTried) (after : SeatState) (told : Result Reply CallError) → now ≡ at.Parked seat asked → IsHeldAt map now →
    t ≡ tried.Answered after told → GoesOn seat t → SettlesAt now 0 (at.Resting after)
settled_over map now seat asked t after told same held is goes =
    let (of, was_tried, began) = subst (IsHeldAt map) same held in
    subst (λ a. SettlesAt a 0 (at.Resting after)) (sym same) (refl, λ before under. has_settled asked after told before t is (goes before asked was_tried under))

-- ---- where none is held

pub does_none : {A : Type 0} (IsSo : SeatState → Result A CallError → SeatState → Type 0) (Says : A → ℕ → Type 0) (old new : Option Threading) →
    old ≡ None → new ≡ None → DoesSo IsSo Says no_map old new
does_none {A} IsSo Says old new e f = (Err no_map, subst (λ o. Does IsSo (Err no_map) o new) (sym e) (subst (λ n. Does IsSo (Err no_map) None n) (sym f) refl), refl)

-- ---- a list, as a vector has it

abbrev pub listed : {V E : Type 0} → (V → List (ℕ × ℕ)) → Result V E → Result (List (ℕ × ℕ)) E
listed {V} {E} items (Ok told) = Ok (items told)
listed {V} {E} items (Err why) = Err why

listed_coded : {V : Type 0} (items : V → List (ℕ × ℕ)) (told : Result V CallError) → listed items (coded told) ≡ coded (listed items told)
listed_coded {V} items (Ok told) = refl
listed_coded {V} items (Err why) = refl

module _ {V : Type 0} (items : V → List (ℕ × ℕ)) (call : Call) where
  walks_listed : (before : SeatState) (told : Result V CallError) (after : SeatState) → Walks (λ v. reply.Pairs (items v)) call before told after →
      Walks reply.Pairs call before (listed items told) after
  walks_listed before (Ok told) after (inl is, fits) = (inl is, tt)
  walks_listed before (Ok told) after (inr ran, fits) = (let wrong : ⊥ = cc ran.0 in absurd wrong)
  walks_listed before (Err why) after (inl is, fits) = (inl is, fits)
  walks_listed before (Err why) after (inr ran, fits) = (inr (ap (listed items) ran.0, ran.1), fits)

  at_listed : (result : Result V ℕ) (old new : At) → DoesAt (Walks (λ v. reply.Pairs (items v)) call) result old new → DoesAt (Walks reply.Pairs call) (listed items result) old new
  at_listed result (at.Resting seat) (at.Resting after) (told, e, is) = (listed items told, ap (listed items) e ∙ listed_coded items told, walks_listed seat told after is)
  at_listed result (at.Parked seat asked) now (e, same) = (ap (listed items) e, same)
  at_listed result old new is = elim is [ ]

  pub does_listed : (result : Result V ℕ) (old new : Option Threading) → Does (Walks (λ v. reply.Pairs (items v)) call) result old new → Does (Walks reply.Pairs call) (listed items result) old new
  does_listed result (Some old) (Some new) (same, is) = (same, at_listed result old.at new.at is)
  does_listed result None None e = ap (listed items) e
  does_listed result old new is = elim is [ ]
