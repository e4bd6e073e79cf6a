-- What is known of handle numbers behind a begin, and behind the end of an operation.
use Rattle.std.proofs.Common.{◌≡◌, ◌≢◌, ℕ, zero, suc, ◌+◌, ◌-◌, ◌<◌, ◌==◌, ◌||◌, Bool, true, false, cond, is_some, inl, inr, List, set, get_or, length, replicate, Option}
use Rattle.std.proofs.Common.{Some, None, refl, sym, ap, subst, ◌∙◌, arith, eq-eqb, ne_eqb, length-set}
use Rattle.std.specs.List.{count_by, list_any}
use Rattle.std.proofs.lemmas.Bool.{cases_Bool, cases_eq, cases_lt, cond_both, false≢true, true≢false}
use Rattle.std.proofs.lemmas.List.{get_or-replicate, get_or-set_same, get_or-set_other, get_or_past, length-replicate, set-get_or}
use Rattle.std.proofs.lemmas.List.Sums.{count_by-le-length, sum_by-cons}
use Rattle.std.proofs.lemmas.Option.{none-some, same_Some}
use Rattle.proof_core.specs.Vocabulary.{Call, Operation, Root, ended, handle_of, is_close, begin_denial, handle_closed, is_number, is_taken, names, reserved_by, with_begin, begun_operation, State}
use Rattle.proof_core.specs.Vocabulary.{first_state, root_at, Bounds, IsOfRun}
use Rattle.handle_table.specs.Numbers.{Numbers, is_taken_in, no_numbers, running_on, with_running, with_taken}
use Rattle.proof_core.specs.Beneath.machine_model.proofs.Actors.{begin_actors}
use Rattle.proof_core.specs.Beneath.machine_model.proofs.Found.{found_elsewhere, found_here, found_within}
use Rattle.proof_core.specs.Beneath.proof_generations.proofs.Handles.Operations.{HasHandles}
use Rattle.proof_core.specs.Beneath.proof_generations.proofs.Roots.OfLists.{has_handles_along}
use Rattle.proof_core.specs.Beneath.proof_memory.proofs.Safety.Base.{closed_root, handle_given}
use Rattle.proof_operations.proofs.Numbers.{reserved_somewhere, reserves, reserves_so}
use Rattle.proof_core.specs.Numbering.{KnowsNumbers, begun_on, closes, ended_on, given_back, reserved}
use Rattle.proof_core.specs.Standing.{StandsAt}
use Rattle.proof_core.proofs.Given.{begin_stands, sizes}
use Rattle.proof_core.proofs.Numbering.{any_at, count_put, or_swap}

-- ---- numbers

pub given_running : (numbers : Numbers) (left : Option ℕ) → (given_back numbers left).running ≡ numbers.running
given_running numbers None = refl
given_running numbers (Some n) = refl

pub reserved_running : (numbers : Numbers) (opens : Option ℕ) → (reserved numbers opens).running ≡ numbers.running
reserved_running numbers None = refl
reserved_running numbers (Some n) = refl

pub given_many : (numbers : Numbers) (left : Option ℕ) → length (given_back numbers left).taken ≡ length numbers.taken
given_many numbers None = refl
given_many numbers (Some n) = length-set numbers.taken n false

pub reserved_many : (numbers : Numbers) (opens : Option ℕ) → length (reserved numbers opens).taken ≡ length numbers.taken
reserved_many numbers None = refl
reserved_many numbers (Some n) = length-set numbers.taken n true

-- what is reserved is taken, and what is given back isn't
pub reserved_is : (numbers : Numbers) (opens : Option ℕ) (handle : ℕ) → handle < length numbers.taken →
    is_taken_in (reserved numbers opens) handle ≡ (is_number handle opens || is_taken_in numbers handle)
reserved_is numbers None handle within = refl
reserved_is numbers (Some n) handle within = elim (cases_eq handle n) [
  | inl same ↦
      subst (λ m. get_or (set numbers.taken m true) handle false ≡ ((m == handle) || get_or numbers.taken handle false)) same
      (get_or-set_same numbers.taken handle true false within ∙ sym (ap (λ b. b || get_or numbers.taken handle false) (eq-eqb handle handle refl)))
  | inr other ↦
      get_or-set_other numbers.taken n handle true false other ∙ sym (ap (λ b. b || get_or numbers.taken handle false) (ne_eqb n handle (λ e. other (sym e))))
]

pub given_other : (numbers : Numbers) (n handle : ℕ) → handle ≢ n → is_taken_in (given_back numbers (Some n)) handle ≡ is_taken_in numbers handle
given_other numbers n handle other = get_or-set_other numbers.taken n handle false false other

pub given_own : (numbers : Numbers) (n : ℕ) → n < length numbers.taken → is_taken_in (given_back numbers (Some n)) n ≡ false
given_own numbers n within = get_or-set_same numbers.taken n false false within

-- how many run on each handle, once one more does on this one, or one less
now_running : (numbers : Numbers) (handle many other : ℕ) (before after : ℕ → ℕ) → handle < length numbers.running → ((h : ℕ) → running_on numbers h ≡ before h) → after handle ≡ many →
    (other ≢ handle → after other ≡ before other) → running_on (with_running numbers handle many) other ≡ after other
now_running numbers handle many other before after within known here elsewhere = elim (cases_eq other handle) [
  | inl same ↦ subst (λ h. get_or (set numbers.running handle many) h 0 ≡ after h) (sym same) (get_or-set_same numbers.running handle many 0 within ∙ sym here)
  | inr apart ↦ get_or-set_other numbers.running handle other many 0 apart ∙ known other ∙ sym (elsewhere apart)
]

-- ---- at a state of a run

handles_of : (state : State) → IsOfRun state → HasHandles state
handles_of state h = subst HasHandles (sym h.is) (has_handles_along state.limits h.steps).1

-- nobody has reserved an open handle
unreserved : (state : State) → IsOfRun state → (handle : ℕ) (root : Root) → root_at state handle ≡ Some root → list_any (reserves handle) state.actors ≡ false
unreserved state h handle root stands = elim (cases_Bool (list_any (reserves handle) state.actors)) [
  | inl some ↦
      let x = reserved_somewhere handle state.actors some in
      absurd (none-some root (sym ((handles_of state h).unopened x.k handle x.operation x.at x.unmarked x.opens) ∙ stands))
  | inr none ↦ none
]

some_root : (o : Option Root) → is_some o ≡ true → (root : Root) × (o ≡ Some root)
some_root None e = absurd (false≢true e)
some_root (Some root) e = (root, refl)

-- ---- a begin

-- no more run on a handle than there are actors
pub few_run : (numbers : Numbers) (state : State) (handle : ℕ) → IsOfRun state → KnowsNumbers numbers state → running_on numbers handle < 255
few_run numbers state handle h known =
    omega (arith, known.running handle, count_by-le-length (names handle) state.actors, (sizes state h).1, h.actors)

module _ (numbers : Numbers) (state : State) (actor : ℕ) (call : Call) (h : IsOfRun state) (d : begin_denial state actor call None ≡ None) (known : KnowsNumbers numbers state) where
  abbrev operation : Operation
  operation = begun_operation state call None

  abbrev after : State
  after = with_begin state actor call operation

  stands : StandsAt state.actors actor None
  stands = begin_stands state actor call h d

  root : (found : Root) × (root_at state (handle_of call) ≡ Some found)
  root = some_root (root_at state (handle_of call)) (handle_given state actor call None d)

  handle_within : handle_of call < 256
  handle_within = omega (arith, found_within state.roots (handle_of call) root.0 root.1, (sizes state h).0)

  actors_are : after.actors ≡ set state.actors (actor - 1) (Some operation)
  actors_are = begin_actors state actor call operation

  any_after : (handle : ℕ) → list_any (reserves handle) after.actors ≡ (is_number handle operation.opens || list_any (reserves handle) state.actors)
  any_after handle =
      ap (list_any (reserves handle)) actors_are ∙ any_at (reserves handle) refl state.actors (actor - 1) (Some operation) stands.within
      ∙ ap (λ xs. is_number handle operation.opens || list_any (reserves handle) xs)
      (ap (set state.actors (actor - 1)) (sym stands.is) ∙ set-get_or state.actors (actor - 1) None)

  abbrev closed : State
  closed = handle_closed state call

  closed_own : is_close call ≡ true → root_at closed (handle_of call) ≡ None
  closed_own is =
      cond_both (is_close call) _ _ (λ (x : State). root_at x (handle_of call) ≡ None)
      (λ e. get_or-set_same state.roots (handle_of call) None None (found_within state.roots (handle_of call) root.0 root.1)) (λ e. absurd (true≢false (sym is ∙ e)))

  -- what the close of a handle gives back
  closed_by : (b : Bool) → is_close call ≡ b → (handle : ℕ) → handle < 256 →
      is_taken_in (given_back numbers (cond b (Some (handle_of call)) None)) handle ≡ (is_some (root_at closed handle) || list_any (reserves handle) state.actors)
  closed_by false is handle within =
      known.taken handle within
      ∙ ap (λ o. is_some o || list_any (reserves handle) state.actors) (sym (closed_root state call handle (λ e same. true≢false (sym e ∙ is))))
  closed_by true is handle within = elim (cases_eq handle (handle_of call)) [
    | inl same ↦
        subst (λ n. is_taken_in (given_back numbers (Some (handle_of call))) n ≡ (is_some (root_at closed n) || list_any (reserves n) state.actors)) (sym same)
        (given_own numbers (handle_of call) (omega (arith, handle_within, known.many.0))
        ∙ sym (ap (λ o. is_some o || list_any (reserves (handle_of call)) state.actors) (closed_own is) ∙ unreserved state h (handle_of call) root.0 root.1))
    | inr other ↦
        given_other numbers (handle_of call) handle other ∙ known.taken handle within
        ∙ ap (λ o. is_some o || list_any (reserves handle) state.actors) (sym (closed_root state call handle (λ e same. other same)))
  ]

  abbrev run_one : Numbers
  run_one = with_running numbers (handle_of call) (running_on numbers (handle_of call) + 1)

  given_taken : (left : Option ℕ) → (given_back run_one left).taken ≡ (given_back numbers left).taken
  given_taken None = refl
  given_taken (Some n) = refl

  taken_begun : (handle : ℕ) → handle < 256 → is_taken_in (begun_on numbers call operation.opens) handle ≡ is_taken after handle
  taken_begun handle within =
      reserved_is (given_back run_one (closes call)) operation.opens handle (omega (arith, within, known.many.0, given_many run_one (closes call)))
      ∙ ap (λ b. is_number handle operation.opens || b) (ap (λ ts. get_or ts handle false) (given_taken (closes call)) ∙ closed_by (is_close call) refl handle within)
      ∙ or_swap (is_number handle operation.opens) (is_some (root_at closed handle)) (list_any (reserves handle) state.actors)
      ∙ sym (ap (λ b. is_some (root_at closed handle) || b) (any_after handle))

  one_more : (handle : ℕ) → count_by (names handle) after.actors ≡ count_by (names handle) state.actors + cond (handle_of call == handle) 1 0
  one_more handle =
      let put = count_put handle state.actors (actor - 1) (Some operation) stands.within in
      omega (arith, put, ap (count_by (names handle)) actors_are, ap {B = ℕ} (λ o. cond (names handle o) 1 0) stands.is)

  running_begun : (handle : ℕ) → running_on (begun_on numbers call operation.opens) handle ≡ count_by (names handle) after.actors
  running_begun handle =
      ap (λ rs. get_or rs handle 0) (reserved_running (given_back run_one (closes call)) operation.opens ∙ given_running run_one (closes call))
      ∙ now_running numbers (handle_of call) (running_on numbers (handle_of call) + 1) handle (λ x. count_by (names x) state.actors) (λ x. count_by (names x) after.actors)
      (omega (arith, handle_within, known.many.1)) known.running
      (omega (arith, one_more (handle_of call), known.running (handle_of call), ap {B = ℕ} (λ b. cond b 1 0) (eq-eqb (handle_of call) (handle_of call) refl)))
      (λ other. omega (arith, one_more handle, ap {B = ℕ} (λ b. cond b 1 0) (ne_eqb (handle_of call) handle (λ e. other (sym e)))))

  pub known_begun : KnowsNumbers (begun_on numbers call operation.opens) after
  known_begun = record {
    many = (
      reserved_many (given_back run_one (closes call)) operation.opens ∙ given_many run_one (closes call) ∙ known.many.0,
      ap length (reserved_running (given_back run_one (closes call)) operation.opens ∙ given_running run_one (closes call))
          ∙ length-set numbers.running (handle_of call) (running_on numbers (handle_of call) + 1) ∙ known.many.1,
    );
    taken = taken_begun;
    running = running_begun;
  }

-- ---- the end of an operation

module _ (numbers : Numbers) (state : State) (actor : ℕ) (operation : Operation) (h : IsOfRun state) (at : StandsAt state.actors actor (Some operation))
    (known : KnowsNumbers numbers state) where
  abbrev left : List (Option Operation)
  left = set state.actors (actor - 1) None

  any_before : (handle : ℕ) → list_any (reserves handle) state.actors ≡ (reserves handle (Some operation) || list_any (reserves handle) left)
  any_before handle =
      ap (list_any (reserves handle)) (sym (ap (set state.actors (actor - 1)) (sym at.is) ∙ set-get_or state.actors (actor - 1) None))
      ∙ any_at (reserves handle) refl state.actors (actor - 1) (Some operation) at.within

  -- nobody else has reserved what it has, and it isn't open
  alone : (n : ℕ) → reserved_by (Some operation) ≡ Some n → (root_at state n ≡ None) × (list_any (reserves n) left ≡ false)
  alone n is =
      let mine = reserves_so n (Some operation) (ap (is_number n) is ∙ eq-eqb n n refl) in
      let same : operation ≡ mine.operation = same_Some operation mine.operation mine.is in
      let unmarked : operation.is_marked ≡ false = ap (λ (x : Operation). x.is_marked) same ∙ mine.unmarked in
      let opens : operation.opens ≡ Some n = ap (λ (x : Operation). x.opens) same ∙ mine.opens in (
        (handles_of state h).unopened (actor - 1) n operation at.is unmarked opens,
        elim (cases_Bool (list_any (reserves n) left)) [
          | inl some ↦
              let x = reserved_somewhere n left some in
              let apart : x.k ≡ actor - 1 → ⊥ = λ e. none-some x.operation (found_here state.actors (actor - 1) None x.operation (subst (λ k. get_or left k None ≡ Some x.operation) e x.at)) in
              absurd (apart (sym ((handles_of state h).reserved (actor - 1) x.k n operation x.operation at.is (sym (found_elsewhere state.actors (actor - 1) x.k None apart) ∙ x.at) unmarked
              x.unmarked opens x.opens)))
          | inr none ↦ none
        ],
      )

  abbrev run_less : Numbers
  run_less = with_running numbers (handle_of operation.call) (running_on numbers (handle_of operation.call) - 1)

  left_taken : (o : Option ℕ) → (given_back run_less o).taken ≡ (given_back numbers o).taken
  left_taken None = refl
  left_taken (Some n) = refl

  taken_by : (o : Option ℕ) → reserved_by (Some operation) ≡ o → (handle : ℕ) → handle < 256 →
      is_taken_in (given_back numbers o) handle ≡ (is_some (root_at state handle) || list_any (reserves handle) left)
  taken_by None is handle within =
      known.taken handle within ∙ ap (λ b. is_some (root_at state handle) || b) (any_before handle ∙ ap (λ o. is_number handle o || list_any (reserves handle) left) is)
  taken_by (Some n) is handle within = elim (cases_eq handle n) [
    | inl same ↦
        subst (λ m. is_taken_in (given_back numbers (Some n)) m ≡ (is_some (root_at state m) || list_any (reserves m) left)) (sym same)
        (given_own numbers n (omega (arith, within, same, known.many.0))
        ∙ sym (ap (λ o. is_some o || list_any (reserves n) left) (alone n is).0 ∙ (alone n is).1))
    | inr other ↦
        given_other numbers n handle other ∙ known.taken handle within
        ∙ ap (λ b. is_some (root_at state handle) || b) (any_before handle ∙ ap (λ o. is_number handle o || list_any (reserves handle) left) is
        ∙ ap (λ b. b || list_any (reserves handle) left) (ne_eqb n handle (λ e. other (sym e))))
  ]

  one_less : (handle : ℕ) → count_by (names handle) left + cond (handle_of operation.call == handle) 1 0 ≡ count_by (names handle) state.actors
  one_less handle =
      let put = count_put handle state.actors (actor - 1) None at.within in
      omega (arith, put, ap {B = ℕ} (λ o. cond (names handle o) 1 0) at.is)

  own_more : count_by (names (handle_of operation.call)) left + 1 ≡ running_on numbers (handle_of operation.call)
  own_more =
      omega (arith, one_less (handle_of operation.call), known.running (handle_of operation.call), ap {B = ℕ} (λ b. cond b 1 0) (eq-eqb (handle_of operation.call) (handle_of operation.call) refl))

  own_within : handle_of operation.call < length numbers.running
  own_within = elim (cases_lt (handle_of operation.call) (length numbers.running)) [
    | inl less ↦ less
    | inr past ↦ absurd (omega (arith, own_more, get_or_past numbers.running (handle_of operation.call) 0 past))
  ]

  running_left : (handle : ℕ) → running_on (ended_on numbers (handle_of operation.call) (reserved_by (Some operation))) handle ≡ count_by (names handle) left
  running_left handle =
      ap (λ rs. get_or rs handle 0) (given_running run_less (reserved_by (Some operation)))
      ∙ now_running numbers (handle_of operation.call) (running_on numbers (handle_of operation.call) - 1) handle (λ x. count_by (names x) state.actors) (λ x. count_by (names x) left)
      own_within known.running (omega (arith, own_more))
      (λ other. omega (arith, one_less handle, ap {B = ℕ} (λ b. cond b 1 0) (ne_eqb (handle_of operation.call) handle (λ e. other (sym e)))))

  pub known_ended : KnowsNumbers (ended_on numbers (handle_of operation.call) (reserved_by (Some operation))) (ended state actor)
  known_ended = record {
    many = (
      given_many run_less (reserved_by (Some operation)) ∙ known.many.0,
      ap length (given_running run_less (reserved_by (Some operation)))
          ∙ length-set numbers.running (handle_of operation.call) (running_on numbers (handle_of operation.call) - 1) ∙ known.many.1,
    );
    taken = λ handle within. ap (λ ts. get_or ts handle false) (left_taken (reserved_by (Some operation))) ∙ taken_by (reserved_by (Some operation)) refl handle within;
    running = running_left;
  }

-- ---- at first

pub known_first : (limits : Bounds) → KnowsNumbers (with_taken no_numbers 0 true) (first_state limits)
unfolding first_state
known_first limits = record {
  many = (length-set (replicate 256 false) 0 true, length-replicate {A = ℕ} 256 0);
  taken = λ handle within. elim (cases_eq handle 0) [
    | inl zeroth ↦ subst (λ n. get_or (set (replicate 256 false) 0 true) n false ≡ is_taken (first_state limits) n) (sym zeroth) refl
    | inr other ↦
        get_or-set_other (replicate 256 false) 0 handle true false other ∙ get_or-replicate 256 handle false false within
        ∙ sym (ap (λ o. is_some o || list_any (reserves handle) (first_state limits).actors)
        (get_or-set_other (replicate 256 None) 0 handle _ None other ∙ get_or-replicate 256 handle None None within) ∙ none_any limits.actors handle)
  ];
  running = λ handle. none_there 256 handle ∙ sym (none_counted limits.actors handle);
}
  where
    none_any : (n handle : ℕ) → list_any (reserves handle) (replicate n None) ≡ false
    none_any zero handle = refl
    none_any (suc n) handle = none_any n handle

    none_counted : (n handle : ℕ) → count_by (names handle) (replicate n None) ≡ 0
    none_counted zero handle = refl
    none_counted (suc n) handle = omega (arith, sum_by-cons (λ (o : Option Operation). cond (names handle o) 1 0) None (replicate n None), none_counted n handle)

    none_there : (n handle : ℕ) → get_or {A = ℕ} (replicate n 0) handle 0 ≡ 0
    none_there zero handle = refl
    none_there (suc n) zero = refl
    none_there (suc n) (suc handle) = none_there n handle
