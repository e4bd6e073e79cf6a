-- Which operations no legal order has behind these.
use Rattle.std.proofs.Common.{◌≡◌, ◌≢◌, ℕ, ◌<◌, inl, inr, Bool, List, [], ◌∷◌, ◌++◌, length, take, Some, sym, ap, ◌∙◌, subst, arith}
use Rattle.std.proofs.lemmas.Bool.{cases_lt, cases_order}
use Rattle.std.proofs.lemmas.Option.{slice_get_within, same_Some}
use Rattle.std.proofs.lemmas.List.{append-nil, append_assoc}
use Rattle.std.proofs.Math.Seq.{take-append_seam}
use Rattle.order_search.specs.Vocabulary.{Reply, NoSlots, Event, Row, HandleMap, effect, HasBegun, HasEnded, IsWellFormed, IsRowOf, recorded, OrderedAt, IsBefore, Explains, IsLegal, LeadsTo}
use Rattle.order_search.specs.Vocabulary.{IsAmong, Agrees}
use Rattle.history.proofs.Places.{at_front, at_seam, at_within, option_cases}
use Rattle.history.proofs.Leading.{must_stand}
use Rattle.history.proofs.Standing.{ended_of_recorded}
use Rattle.order_search.specs.Searching.{NoneGoesOn}
use Rattle.order_search.specs.Marks.{AreMarked, HasMark, IsBarred}
use Rattle.order_search.proofs.Replayed.{effect_of}
use Rattle.order_search.proofs.Turns.{ends_later}

-- an order that explains a history leads to the world
pub leads_whole : (hash : ℕ → ℕ) (history : List Event) (order : List ℕ) (world : HandleMap) → Explains hash history order world → LeadsTo hash history order world
leads_whole hash history order world explains = record {
  distinct = explains.candidate.distinct;
  has_begun = explains.candidate.has_begun;
  not_refused = explains.candidate.not_refused;
  keeps_time = explains.keeps_time;
  replayed = explains.replayed;
}

-- no operation ends before its own begin
never_before : (history : List Event) (id : ℕ) → IsWellFormed history → ¬ IsBefore history id id
never_before history id well before =
    let later = ends_later history id before.1 before.0 before.3 before.2 well before.5 before.4 in
    omega (arith, later, before.6)

module _ (hash : ℕ → ℕ) (history : List Event) (ids : List ℕ) (id : ℕ) where
  -- an order that begins with these and the operation
  abbrev longer : List ℕ → List ℕ
  longer more = (ids ++ id ∷ []) ++ more

  there : (more : List ℕ) → OrderedAt (longer more) (length ids) id
  there more = at_front (ids ++ id ∷ []) more (length ids) id (at_seam ids [] id)

  earlier : (more : List ℕ) (i x : ℕ) → OrderedAt ids i x → OrderedAt (longer more) i x
  earlier more i x at = at_front (ids ++ id ∷ []) more i x (at_front ids (id ∷ []) i x at)

  front : (more : List ℕ) → take (length ids) (longer more) ≡ ids
  front more = ap (λ xs. take (length ids) xs) (append_assoc ids (id ∷ []) more) ∙ take-append_seam ids (id ∷ more)

  in_front : (more : List ℕ) (i x : ℕ) → i < length ids → OrderedAt (longer more) i x → OrderedAt ids i x
  in_front more i x lt at =
      let own = at_within ids i lt in
      own.1 ∙ ap (λ (y : ℕ). Some y) (same_Some own.0 x (sym (earlier more i own.0 own.1) ∙ at))

  -- one that stands there already
  pub none_twice : IsAmong ids id → NoneGoesOn hash history (ids ++ id ∷ [])
  none_twice among more legal =
      let within = slice_get_within ids among.0 id among.1 in
      let same = legal.1.candidate.distinct among.0 (length ids) id (earlier more among.0 id among.1) (there more) in
      omega (arith, within, same)

  pub none_refused : HasEnded history id NoSlots → NoneGoesOn hash history (ids ++ id ∷ [])
  none_refused refused more legal = legal.1.candidate.not_refused (length ids) id (there more) refused

  pub none_unbegun : ¬ HasBegun history id → NoneGoesOn hash history (ids ++ id ∷ [])
  none_unbegun never more legal = never (legal.1.candidate.has_begun (length ids) id (there more))

  -- one that began after another had ended that doesn't stand there
  pub none_barred : (other : ℕ) → ¬ IsAmong ids other → ¬ HasEnded history other NoSlots → IsBefore history other id → NoneGoesOn hash history (ids ++ id ∷ [])
  none_barred other absent kept before more legal =
      let answer : Reply = before.2 in
      let ended : HasEnded history other answer = (before.0, before.4) in
      let differs : answer ≢ NoSlots = λ same. kept (subst (λ a. HasEnded history other a) same ended) in
      let place = legal.1.candidate.answered other answer ended differs in
      elim (cases_lt place.0 (length ids)) [
        | inl early ↦ absent (place.0, in_front more place.0 other early place.1)
        | inr late ↦ elim (cases_order place.0 (length ids)) [
          | inl here ↦
              let same : other ≡ id = same_Some other id (sym place.1 ∙ subst (λ p. OrderedAt (longer more) p id) (sym here) (there more)) in
              never_before history id legal.1.well_formed (subst (λ x. IsBefore history x id) same before)
          | inr apart ↦ elim apart [
            | inl less ↦ absurd (omega (arith, late, less))
            | inr behind ↦ legal.1.keeps_time (length ids) place.0 other id (there more) place.1 behind before
          ]
        ]
      ]

  -- one whose call has no effect there with the reply that it was told
  pub none_answered : (world : HandleMap) (row : Row) → IsRowOf history id row → LeadsTo hash history ids world
      → ((reply : Reply) (next : HandleMap) → effect hash world row.call row.opens ≡ Some (reply, next) → ¬ Agrees (recorded history row.end) reply)
      → NoneGoesOn hash history (ids ++ id ∷ [])
  none_answered world row is leads never more legal =
      let so_far : LeadsTo hash history (take (length ids) (longer more)) world = subst (λ xs. LeadsTo hash history xs world) (sym (front more)) leads in
      let stands = must_stand hash history (longer more) (length ids) id world legal.0 legal.1.well_formed so_far (leads_whole hash history (longer more) legal.0 legal.1) (there more) in
      let effect_is = effect_of hash history (take (length ids) (longer more)) id world stands.0 row legal.1.well_formed is stands.1 in
      let one = stands.1.answered.0 in
      never one.answer stands.0 effect_is (elim (option_cases (recorded history row.end)) [
        | inl none ↦ subst (λ o. Agrees o one.answer) (sym none) tt
        | inr told ↦
            let ended = ended_of_recorded history id row told.0 is told.1 in
            subst (λ o. Agrees o one.answer) (sym told.1) (stands.1.answered.1.1 told.0 ended)
      ])

-- one with a mark
pub none_marked : (hash : ℕ → ℕ) (history : List Event) (ids : List ℕ) (taken : List Bool) (id : ℕ) → AreMarked history ids taken → HasMark taken id → NoneGoesOn hash history (ids ++ id ∷ [])
none_marked hash history ids taken id marks mark = elim (marks.marked id mark) [
  | inl among ↦ none_twice hash history ids id among
  | inr refused ↦ none_refused hash history ids id refused
]

-- one that another without a mark bars
pub none_in_turn : (hash : ℕ → ℕ) (history : List Event) (ids : List ℕ) (taken : List Bool) (id : ℕ) → AreMarked history ids taken → IsBarred history taken id
    → NoneGoesOn hash history (ids ++ id ∷ [])
none_in_turn hash history ids taken id marks barred =
    let other = marks.unmarked barred.0 barred.1 in
    none_barred hash history ids id barred.0 other.0 other.1 barred.2

-- none that could come next goes on to a legal order
pub none_at_all : (hash : ℕ → ℕ) (history : List Event) (ids : List ℕ) → ¬ IsLegal hash history ids → ((id : ℕ) → NoneGoesOn hash history (ids ++ id ∷ [])) → NoneGoesOn hash history ids
none_at_all hash history ids unfinished each [] legal = unfinished (subst (λ xs. IsLegal hash history xs) (append-nil ids) legal)
none_at_all hash history ids unfinished each (id ∷ more) legal = each id more (subst (λ xs. IsLegal hash history xs) (sym (append_assoc ids (id ∷ []) more)) legal)
