-- A search's way, as operations are placed and taken away.
use Rattle.std.proofs.Common.{◌≡◌, ℕ, ◌<◌, ◌≤◌, ◌+◌, inl, inr, Bool, true, false, List, [], ◌∷◌, ◌++◌, length, take, set, Option, Some, None, refl, sym, ap, ◌∙◌, subst, arith}
use Rattle.std.proofs.Common.{length-set, length-append}
use Rattle.std.proofs.lemmas.Bool.{cases_lt, true≢false}
use Rattle.std.proofs.lemmas.Option.{slice_get_within}
use Rattle.std.proofs.lemmas.List.{take-append-le, append_assoc}
use Rattle.std.proofs.Math.Seq.{take-append_seam}
use Rattle.order_search.specs.Vocabulary.{NoSlots, Event, Table, HandleMap, HasEnded, Records, OrderedAt, IsBefore, IsLegal, LeadsTo, MayStand, IsAmong}
use Rattle.history.proofs.Places.{at_old, at_push, at_cases, at_set_other, at_set_cases}
use Rattle.history.proofs.Leading.{leads_on}
use Rattle.order_search.specs.Searching.{NoneGoesOn}
use Rattle.order_search.specs.Marks.{AreMarked, HasMark, HasNoMark, Chooses}
use Rattle.order_search.specs.Walks.{IsWay, HadBefore}
use Rattle.order_search.proofs.Refuting.{none_marked, none_in_turn, none_unbegun, none_at_all}

-- ---- marks

-- one mark more
marked_on : (history : List Event) (ids : List ℕ) (taken : List Bool) (id : ℕ) → AreMarked history ids taken → HasNoMark taken id → AreMarked history (ids ++ id ∷ []) (set taken id true)
marked_on history ids taken id marks none = record {
  size = length-set taken id true ∙ marks.size;
  marked = λ other mark. elim (at_set_cases taken id other true true mark) [
    | inl here ↦ inl (length ids, at_push ids id (length ids) refl ∙ ap (λ (x : ℕ). Some x) (sym here.0))
    | inr old ↦ elim (marks.marked other old.1) [ inl among ↦ inl (among.0, at_old ids id among.0 other among.1) | inr refused ↦ inr refused ]
  ];
  unmarked = λ other unmarked. elim (at_set_cases taken id other true false unmarked) [
    | inl here ↦ absurd (true≢false here.1)
    | inr old ↦
        let was = marks.unmarked other old.1 in
        (λ among. elim (at_cases ids id among.0 other among.1) [ inl before ↦ was.0 (among.0, before) | inr last ↦ old.0 (sym last.1) ], was.1)
  ];
}

-- one mark less
marked_back : (history : List Event) (ids : List ℕ) (taken : List Bool) (id : ℕ) → AreMarked history (ids ++ id ∷ []) taken → ¬ IsAmong ids id → ¬ HasEnded history id NoSlots
    → AreMarked history ids (set taken id false)
marked_back history ids taken id marks absent kept = record {
  size = length-set taken id false ∙ marks.size;
  marked = λ other mark. elim (at_set_cases taken id other false true mark) [
    | inl here ↦ absurd (true≢false (sym here.1))
    | inr old ↦ elim (marks.marked other old.1) [
      | inl among ↦ elim (at_cases ids id among.0 other among.1) [ inl before ↦ inl (among.0, before) | inr last ↦ absurd (old.0 (sym last.1)) ]
      | inr refused ↦ inr refused
    ]
  ];
  unmarked = λ other unmarked. elim (at_set_cases taken id other false false unmarked) [
    | inl here ↦ (subst (λ x. ¬ IsAmong ids x) (sym here.0) absent, subst (λ x. ¬ HasEnded history x NoSlots) (sym here.0) kept)
    | inr old ↦
        let was = marks.unmarked other old.1 in
        (λ among. was.0 (among.0, at_old ids id among.0 other among.1), was.1)
  ];
}

-- ---- the way

module _ (hash : ℕ → ℕ) (history : List Event) (ids : List ℕ) (befores : List (Option ℕ)) (taken : List Bool) (low next : ℕ) (world : HandleMap) where
  -- what doesn't come next where an operation is chosen
  pub passed_below : (id : ℕ) → IsWay hash history ids befores taken low next world → Chooses (Some id) history taken next → (other : ℕ) → other < id → NoneGoesOn hash history (ids ++ other ∷ [])
  passed_below id way chosen other lt = elim (cases_lt other next) [
    | inl before ↦ way.passed_last other before
    | inr later ↦ none_marked hash history ids taken other way.marks (chosen.2 other later lt)
  ]

  -- and where none is
  pub way_exhausted : (table : Table) → Records history table → IsWay hash history ids befores taken low next world → ¬ IsLegal hash history ids → Chooses None history taken next
      → NoneGoesOn hash history ids
  way_exhausted table known way unfinished none = none_at_all hash history ids unfinished (λ other. elim (cases_lt other next) [
    | inl before ↦ way.passed_last other before
    | inr later ↦ elim (cases_lt other (length taken)) [
      | inl within ↦ elim (none other later within) [
        | inl mark ↦ none_marked hash history ids taken other way.marks mark
        | inr barred ↦ none_in_turn hash history ids taken other way.marks barred
      ]
      | inr outside ↦ none_unbegun hash history ids other (λ begun.
          let below = known.has_row other begun in
          let sizes = known.size in
          let size = way.marks.size in
          omega (arith, below, sizes, size, outside))
    ]
  ])

  -- an operation is passed
  pub way_passed : (id after : ℕ) → IsWay hash history ids befores taken low next world → Chooses (Some id) history taken next → NoneGoesOn hash history (ids ++ id ∷ []) → after ≤ id + 1
      → IsWay hash history ids befores taken low after world
  way_passed id after way chosen none le = record {
    leads = way.leads;
    marks = way.marks;
    in_turn = way.in_turn;
    low_marked = way.low_marked;
    known = way.known;
    had = way.had;
    passed = way.passed;
    passed_last = λ other lt. elim (cases_lt other id) [
      | inl before ↦ passed_below id way chosen other before
      | inr here ↦ let same : id ≡ other = omega (arith, lt, here, le) in subst (λ x. NoneGoesOn hash history (ids ++ x ∷ [])) same none
    ];
    unfinished = way.unfinished;
  }

  -- all are passed where no order goes on
  pub way_known : (after : ℕ) → IsWay hash history ids befores taken low next world → NoneGoesOn hash history ids → IsWay hash history ids befores taken low after world
  way_known after way none = record {
    leads = way.leads;
    marks = way.marks;
    in_turn = way.in_turn;
    low_marked = way.low_marked;
    known = way.known;
    had = way.had;
    passed = way.passed;
    passed_last = λ other lt more legal. none (other ∷ more) (subst (λ xs. IsLegal hash history xs) (append_assoc ids (other ∷ []) more) legal);
    unfinished = way.unfinished;
  }

  front : (id i : ℕ) → i ≤ length ids → take i (ids ++ id ∷ []) ≡ take i ids
  front id i le = take-append-le i ids (id ∷ []) le

  whole : (id : ℕ) → take (length ids) (ids ++ id ∷ []) ≡ ids
  whole id = take-append_seam ids (id ∷ [])

  -- an operation is placed
  pub way_on : (id low_now : ℕ) (before : Option ℕ) (then_world : HandleMap) → IsWay hash history ids befores taken low next world → ¬ IsLegal hash history ids
      → Chooses (Some id) history taken next → MayStand hash history ids id world then_world → HadBefore hash history ids id before
      → ((x : ℕ) → x < low_now → HasMark (set taken id true) x)
      → IsWay hash history (ids ++ id ∷ []) (befores ++ before ∷ []) (set taken id true) low_now 0 then_world
  way_on id low_now before then_world way unfinished chosen stands had low_marked = record {
    leads = leads_on hash history ids id world then_world way.leads stands;
    marks = marked_on history ids taken id way.marks chosen.0;
    in_turn = λ i x at other unmarked. elim (at_set_cases taken id other true false unmarked) [
      | inl here ↦ absurd (true≢false here.1)
      | inr old ↦ elim (at_cases ids id i x at) [
        | inl placed ↦ way.in_turn i x placed other old.1
        | inr last ↦ subst (λ y. ¬ IsBefore history other y) last.1 (chosen.3 other old.1)
      ]
    ];
    low_marked = low_marked;
    known = length-append befores (before ∷ []) ∙ ap (λ n. n + 1) way.known ∙ sym (length-append ids (id ∷ []));
    had = λ i x b at known. elim (at_cases ids id i x at) [
      | inl placed ↦
          let within = slice_get_within ids i x placed in
          let sizes = way.known in
          elim (at_cases befores before i b known) [
            | inl was ↦ subst (λ xs. HadBefore hash history xs x b) (sym (front id i (omega (arith, within)))) (way.had i x b placed was)
            | inr last ↦ absurd (omega (arith, within, last.0, sizes))
          ]
      | inr last ↦ elim (at_cases befores before i b known) [
        | inl was ↦
            let within = slice_get_within befores i b was in
            let sizes = way.known in
            absurd (omega (arith, within, last.0, sizes))
        | inr here ↦
            let all : take i (ids ++ id ∷ []) ≡ ids = ap (λ n. take n (ids ++ id ∷ [])) last.0 ∙ whole id in
            subst (λ xs. HadBefore hash history xs x b) (sym all) (subst (λ y. HadBefore hash history ids y b) last.1 (subst (λ c. HadBefore hash history ids id c) here.1 had))
      ]
    ];
    passed = λ i x other at lt. elim (at_cases ids id i x at) [
      | inl placed ↦
          let within = slice_get_within ids i x placed in
          subst (λ xs. NoneGoesOn hash history (xs ++ other ∷ [])) (sym (front id i (omega (arith, within)))) (way.passed i x other placed lt)
      | inr last ↦
          let all : take i (ids ++ id ∷ []) ≡ ids = ap (λ n. take n (ids ++ id ∷ [])) last.0 ∙ whole id in
          let below : other < id = subst (λ y. other < y) (sym last.1) lt in
          subst (λ xs. NoneGoesOn hash history (xs ++ other ∷ [])) (sym all) (passed_below id way chosen other below)
    ];
    passed_last = λ other lt. absurd (omega (arith, lt));
    unfinished = λ i lt.
        let long = length-append ids (id ∷ []) in
        elim (cases_lt i (length ids)) [
          | inl before ↦ subst (λ xs. ¬ IsLegal hash history xs) (sym (front id i (omega (arith, before)))) (way.unfinished i before)
          | inr here ↦
              let same : i ≡ length ids = omega (arith, lt, here, long) in
              subst (λ xs. ¬ IsLegal hash history xs) (sym (ap (λ n. take n (ids ++ id ∷ [])) same ∙ whole id)) unfinished
        ];
  }

  -- the last operation is taken away
  pub way_back : (id low_now after : ℕ) (before : Option ℕ) (taken_now : List Bool) (world_now : HandleMap)
      → IsWay hash history (ids ++ id ∷ []) (befores ++ before ∷ []) taken low next world → NoneGoesOn hash history (ids ++ id ∷ []) → LeadsTo hash history ids world_now
      → taken_now ≡ set taken id false → low_now ≤ low → low_now ≤ id → after ≤ id + 1
      → IsWay hash history ids befores taken_now low_now after world_now
  way_back id low_now after before taken_now world_now way none leads marks_are low_le id_le le =
      let last : OrderedAt (ids ++ id ∷ []) (length ids) id = at_push ids id (length ids) refl in
      let absent : ¬ IsAmong ids id = λ among.
      let within = slice_get_within ids among.0 id among.1 in
      let same = way.leads.distinct among.0 (length ids) id (at_old ids id among.0 id among.1) last in
      omega (arith, within, same) in
      record {
        leads = leads;
        marks = subst (λ xs. AreMarked history ids xs) (sym marks_are) (marked_back history ids taken id way.marks absent (way.leads.not_refused (length ids) id last));
        in_turn = λ i x at other unmarked.
            elim (at_set_cases taken id other false false (subst (λ xs. HasNoMark xs other) marks_are unmarked)) [
              | inl here ↦
                  let within = slice_get_within ids i x at in
                  subst (λ y. ¬ IsBefore history y x) (sym here.0) (way.leads.keeps_time i (length ids) id x (at_old ids id i x at) last within)
              | inr old ↦ way.in_turn i x (at_old ids id i x at) other old.1
            ];
        low_marked = λ x lt.
            let marked = way.low_marked x (omega (arith, lt, low_le)) in
            subst (λ xs. HasMark xs x) (sym marks_are) (at_set_other taken id x false (λ same. omega (arith, same, lt, id_le)) ∙ marked);
        known =
            let sizes : length befores + 1 ≡ length ids + 1 = sym (length-append befores (before ∷ [])) ∙ way.known ∙ length-append ids (id ∷ []) in
            omega (arith, sizes);
        had = λ i x b at known.
            let within = slice_get_within ids i x at in
            subst (λ xs. HadBefore hash history xs x b) (front id i (omega (arith, within))) (way.had i x b (at_old ids id i x at) (at_old befores before i b known));
        passed = λ i x other at lt.
            let within = slice_get_within ids i x at in
            subst (λ xs. NoneGoesOn hash history (xs ++ other ∷ [])) (front id i (omega (arith, within))) (way.passed i x other (at_old ids id i x at) lt);
        passed_last = λ other lt. elim (cases_lt other id) [
          | inl below ↦ subst (λ xs. NoneGoesOn hash history (xs ++ other ∷ [])) (whole id) (way.passed (length ids) id other last below)
          | inr here ↦ let same : id ≡ other = omega (arith, lt, here, le) in subst (λ x. NoneGoesOn hash history (ids ++ x ∷ [])) same none
        ];
        unfinished = λ i lt.
            let long = length-append ids (id ∷ []) in
            subst (λ xs. ¬ IsLegal hash history xs) (front id i (omega (arith, lt))) (way.unfinished i (omega (arith, lt, long)));
      }
