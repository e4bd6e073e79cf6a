-- A seat's operation makes a node in a free slot of its own: the rule for all seats, from what stands in words then.
use Rattle.history.specs.declared.calls.Call.{Call}
use Rattle.std.proofs.Common.{◌≡◌, ◌≢◌, ℕ, ◌<◌, ◌≤◌, inl, inr, Bool, true, false, ◌||◌, List, [], ◌∷◌, ◌++◌, Contains, length, set, get_or, slice_index, is_some, Some, None, refl, sym, ap, subst}
use Rattle.std.proofs.Common.{◌∙◌, arith, ◌+◌, ◌⊎◌, length-append}
use Rattle.std.proofs.lemmas.Bool.{cases_eq}
use Rattle.std.proofs.lemmas.Option.{same_Some}
use Rattle.std.proofs.lemmas.List.Elements.{All-cons, All-nil, Contains-append_cases}
use mathlib.Core.Option.{some}
use lib.ListN.{get_elem?}
use Rattle.atomic_table.specs.Table as Table
use Rattle.machine_model.specs.Beneath.slot_arena.specs.declared.nodes.Node.{Node}
use Rattle.machine_model.specs.Beneath.slot_arena.specs.declared.nodes.Node.TheVariants.{Indirection, Branch, Single, Tomb, List as Listed}
use Rattle.machine_model.specs.declared.steps.Step.TheVariants as step
use Rattle.machine_model.specs.declared.operations.Operation.{Operation}
use Rattle.machine_model.specs.Acting.{operation_after}
use Rattle.machine_model.specs.States.{State, operation_of, root_at, handle_limit}
use Rattle.lock_free.specs.declared.accounts.Account.{Account}
use Rattle.lock_free.specs.declared.accounts.Owned.{Owned}
use Rattle.lock_free.specs.declared.rules.View.{View}
use Rattle.lock_free.specs.declared.sizes.Sizes.{Sizes}
use Rattle.lock_free.specs.Accounts.{state_of, HasGrown, HasWaited, IsOfOther, IsOwn}
use Rattle.lock_free.specs.Nodes.{class_of}
use Rattle.lock_free.specs.Making.{owned_with, made_at, Makes, made_by}
use Rattle.lock_free.specs.Cells.{IsCell}
use Rattle.lock_free.specs.Places.{cell_word, pin_word, root_word, IsTaken}
use Rattle.lock_free.specs.Rules.{Standing, IsClosing, SaysClosing, IsFree, IsSpare, IsSeat, IsKept, Once, pool_of}
use Rattle.lock_free.specs.Trying.{as_before}
use Rattle.lock_free.proofs.Assembling.{AllStand, closing_stays, numbers_stay, assembled}
use Rattle.lock_free.proofs.CellsStay.{cells_spent, NoneLoosened}
use Rattle.lock_free.proofs.Framing.{class_small}
use Rattle.lock_free.proofs.Geometry.{IsWordOf}
use Rattle.lock_free.proofs.Made.{stands_too, stands_else, stands_new, place_else, place_last, stands_still}
use Rattle.lock_free.proofs.Pools.{pool_else, parted_same}
use Rattle.lock_free.proofs.Spending as spending
use Rattle.lock_free.proofs.SeatOwing.{seat_owing}
use Rattle.lock_free.proofs.PlainStay.{plain_running}
use Rattle.lock_free.proofs.Seats.{ran_so, numbers_so, Stays, other_kept, own_kept}
use Rattle.lock_free.proofs.Waiting.{waited_more}
use Rattle.machine_model.specs.Beneath.slot_arena.specs.declared.refs.Ref.{Ref}
use Rattle.machine_model.specs.Beneath.slot_arena.specs.Heaps.{stored}
use Rattle.machine_model.specs.Beneath.slot_arena.specs.Refs.{birth_of, ref_to, slot_of}
use Rattle.machine_model.specs.Beneath.slot_arena.proofs.Live.{birth_of_ref, slot_of_ref}
use Rattle.machine_model.specs.Grown.{of_birth, standing}
use Rattle.machine_model.specs.Moves.{GoesOn}
use Rattle.machine_model.specs.Operations.{action_of}
use Rattle.machine_model.proofs.Grown.{node_standing}
use Rattle.proof_claims.specs.Changes.{change_of, over_at, goal_of}
use Rattle.proof_claims.specs.Changes as claiming
use Rattle.proof_claims.specs.Held.{Held, held_after, is_owned, takes, Change}
use Rattle.proof_commits.specs.Runs.{HasIndirection}
use Rattle.proof_memory.specs.Laws.{IsInUse}
use Rattle.lock_free.specs.declared.rules.Retired.{Retired}
use Rattle.lock_free.specs.Claims.{HoldsAll, held_now, owes_after}
use Rattle.lock_free.specs.Counts.{IsCount, references}
use Rattle.lock_free.proofs.CountWords.{slot_taken}
use Rattle.lock_free.proofs.HeldMade.{held_made}
use Rattle.lock_free.proofs.HeldStep.{taken_now}
use Rattle.lock_free.proofs.OneStep.Found.{slot_at, used_made}
use Rattle.lock_free.proofs.OneStep.LinksWide.{standing_by}
use Rattle.lock_free.specs.Holdings.{AreHeld}
use Rattle.std.specs.List.{list_any}
use Rattle.std.proofs.lemmas.Bool.{cases_Bool, true≢false}
use Rattle.std.proofs.lemmas.List.Folds.{list_any-append}
use Rattle.machine_model.specs.Beneath.slot_arena.specs.Heaps.{node_at}
use Rattle.proof_claims.specs.Changes.{owned_at}
use Rattle.proof_memory.specs.Wants.{is_indirection}
use Rattle.proof_waiting.specs.Beneath.proof_slots.proofs.Unswept.Kept.{one_ref}
use Rattle.lock_free.specs.Accounts.{OwnIs}
use Rattle.lock_free.specs.Owning.{MayOwn}
use Rattle.lock_free.proofs.OwnsMade.{added_by, is_pair, owned_exact, owned_first, owned_or}
use Rattle.lock_free.proofs.MadeOwe.{OwesOneMore}
use Rattle.lock_free.proofs.OwesMade.{made_lines}
use Rattle.lock_free.proofs.TakenLater.{left_has, takes_left}
use Rattle.lock_free.specs.OwesAt.{owes_at}
use Rattle.lock_free.proofs.LetGoSince.{let_go_by_none}
use Rattle.lock_free.proofs.PartingStay.{knows_still, names_same}
use Rattle.lock_free.specs.Parting.{KnowsOffers}

module _ (sizes : Sizes) (s : Table.State Call View) (kept : IsKept sizes s) (id : ℕ) (v : View) (at : get_elem? s.views id ≡ some v) (operation : Operation)
    (runs : operation_of (state_of sizes kept.account) v.actor ≡ Some operation) (name : ℕ) (own : Bool) (node : Node) (more : ℕ)
    (makes : Makes sizes kept.account (made_at v.actor name own node kept.account) v.actor operation node more) (rest : List ℕ) (pool : pool_of v.pool (class_of node) ≡ rest ++ name ∷ []) where
  abbrev pub account_then : Account
  account_then = made_at v.actor name own node kept.account

  abbrev pub stands_then : Standing
  stands_then = stands_too (length kept.account.names) kept.stands

  abbrev pub view_then : View
  view_then = made_by v (class_of node) name rest own node kept.account

  abbrev now : State
  now = state_of sizes kept.account

  abbrev after_state : State
  after_state = state_of sizes account_then

  abbrev held : Held
  held = held_now sizes kept.account

  abbrev number : ℕ
  number = length kept.account.names

  -- the node that is made
  abbrev pub made : Ref
  made = ref_to (number + 1) number

  made_number : slot_of made ≡ number
  made_number = slot_of_ref (number + 1) number

  -- What the step is seen to take: what the node names, of what the seat holds itself.
  pub record Takes : Type 0 where
    pub named : List Ref
    pub goes : GoesOn (action_of now operation)
    pub changes : change_of now held (step.Go v.actor) ≡ claiming.makes now held operation named (Some made)
    pub private : (operation_after now operation).private ≡ operation.private ++ made ∷ []
    pub holds : HoldsAll (takes (change_of now held (step.Go v.actor))) v.owed
    -- and what its operation owes then
    pub owed_line : OwesOneMore named made (owes_at operation) (owes_at (operation_after now operation))
    pub owes : view_then.owed ≡ owes_after (change_of now held (step.Go v.actor)) held.claims v.owed
    pub may : MayOwn operation.line node own
    pub meets : (generation : ℕ) (main : Ref) → node ≡ Indirection generation main → IsInUse now.heap main

  seat : IsSeat sizes kept.account kept.stands s.words v
  seat = kept.seats id v at

  pub its_own : IsFree v (class_of node) name
  its_own = spending.its_own sizes s kept id v at (class_of node) (class_small node) name rest pool

  pub its_spare : IsTaken sizes s.words (class_of node) name × IsSpare sizes kept.account kept.stands name
  its_spare = spending.its_spare sizes s kept id v at (class_of node) (class_small node) name rest pool

  same_root : (handle : ℕ) → root_at (state_of sizes account_then) handle ≡ root_at (state_of sizes kept.account) handle
  same_root handle = ap (λ rs. get_or rs handle None) makes.roots

  -- a slot that is another one is spare still
  spare_then : (other : ℕ) → other ≢ name → IsSpare sizes kept.account kept.stands other → IsSpare sizes account_then stands_then other
  spare_then other differs h = (
    λ k slot e p. elim (cases_eq k (length kept.account.names)) [
      | inl new ↦ differs (sym p ∙ ap (λ n. get_or (kept.account.names ++ name ∷ []) n 0) new ∙ place_last kept.account.names name)
      | inr old ↦ h.0 k slot (sym (stands_else (length kept.account.names) kept.stands k old) ∙ e.0, sym (makes.nodes k old) ∙ e.1) (sym (place_else kept.account.names name k old) ∙ p)
    ],
    h.1,
  )

  waits : (actor : ℕ) (before : Account) → actor ≢ v.actor → HasWaited actor before kept.account → HasWaited actor before account_then
  waits actor before differs h =
      subst (λ owned. HasWaited actor before (record kept.account { steps = kept.account.steps ++ step.Go v.actor ∷ []; names = kept.account.names ++ name ∷ []; owned = owned }))
      (owned_is node)
      (waited_more actor before kept.account (step.Go v.actor ∷ []) (name ∷ []) (owned_more node) []
      (All-cons (IsOfOther actor) (step.Go v.actor) [] (λ e. differs (sym e)) (All-nil (IsOfOther actor))) h)
    where
      owned_more : Node → List Owned
      owned_more n = owned_with [] (length kept.account.names) own n

      owned_is : (n : Node) → owned_with [] (length kept.account.names) own n ++ kept.account.owned ≡ owned_with kept.account.owned (length kept.account.names) own n
      owned_is (Indirection generation main) = refl
      owned_is (Branch bitmap entries) = refl
      owned_is (Single key value') = refl
      owned_is (Tomb single) = refl
      owned_is (Listed singles) = refl

  -- what is free for the seat then was free before, and is another slot
  was_free : (b other : ℕ) → IsFree view_then b other → IsFree v b other × (other ≢ name)
  was_free b other f = spending.was_free sizes s kept id v at (class_of node) (class_small node) name rest pool b other f.0 f.1

  once_then : (b : ℕ) → b < 3 → Once (pool_of view_then.pool b)
  once_then = spending.once_then sizes s kept id v at (class_of node) (class_small node) name rest pool

  module _ (words_then : List ℕ) (made_all : AllStand sizes account_then stands_then words_then)
      (pin_same : (a : ℕ) → a ≤ sizes.seats → slice_index words_then (pin_word a) ≡ slice_index s.words (pin_word a))
      (root_same : (handle : ℕ) → handle < handle_limit → slice_index words_then (root_word handle) ≡ slice_index s.words (root_word handle))
      (taken : (b other : ℕ) → b < 3 → IsTaken sizes s.words b other → IsTaken sizes words_then b other)
      (slot_same : (b other : ℕ) → b < 3 → other ≢ name → IsTaken sizes s.words b other → (j : ℕ) → IsWordOf b other j → slice_index words_then j ≡ slice_index s.words j)
      (unopened : (handle : ℕ) → v.opens ≡ Some handle → class_of node ≢ 1) where
    stays : Stays sizes s kept id v at account_then stands_then words_then
    stays = record {
      waits = waits;
      still = λ x h. stands_still (length kept.account.names) kept.stands x.number h.still;
      others = λ a differs. ran_so (state_of sizes kept.account) (state_of sizes account_then) a (makes.others a differs);
      pins = λ a some most apart. pin_same a most;
      named = λ other w e apart handle slot o x. root_same handle x.low;
      numbers = λ other w e apart. numbers_so sizes s kept account_then words_then (as_before makes.tries) makes.roots root_same other w e;
      still_open = λ other w at_w handle inside e. ap is_some (same_root handle) ∙ e;
      taken = taken;
      spare = λ other w b free_name e apart free.
          (let x = (kept.seats other w e).spare b free_name free in
          let differs : free_name ≢ name = λ same. apart (kept.pools other id w v b (class_of node) name e at (subst (λ n. IsFree w b n) same free) its_own) in
          (spare_then free_name differs x.1, slot_same b free_name free.0 differs x.0));
      plain = plain_running sizes kept.account account_then kept.bounds ((step.Go v.actor) ∷ []) refl s.words words_then v.actor operation runs;
      offering = knows_still kept.account.offered kept.account.offers kept.account.parted s.words words_then
          (names_same kept.account.offers s.words words_then root_same);
    }

    pool_still : (handle : ℕ) → v.opens ≡ Some handle → (slot : ℕ) → IsFree v 1 slot → Contains (pool_of view_then.pool 1) slot
    pool_still handle e slot free = subst (λ xs. Contains xs slot) (sym (pool_else v.pool (class_of node) 1 rest (class_small node) free.0 (λ same. unopened handle e (sym same)))) free.1

    own_then : IsSeat sizes account_then stands_then words_then view_then
    own_then =
        seat_owing sizes account_then stands_then words_then (record view_then { owed = v.owed }) view_then.owed
        (own_kept sizes s kept id v at account_then stands_then words_then stays operation (operation_after (state_of sizes kept.account) operation) runs makes.own refl refl
        (numbers_so sizes s kept account_then words_then (as_before makes.tries) makes.roots root_same id v at) made_all.counted
        (pin_same v.actor (omega (arith, seat.top, seat.most))) view_then.pool v.opening (λ handle slot o n. (n, λ x. (root_same handle x.low, pool_still handle o slot x.free))) []
        (λ b other f. (let before = was_free b other f in let x = seat.spare b other before.0 in (taken b other f.0 x.0, spare_then other before.1 x.1))) once_then
        (λ d c. absurd (omega (arith, c.1)))
        (subst (λ xs. KnowsOffers account_then.offered account_then.offers account_then.parted words_then v.actor v.pin v.offer xs) (sym (parted_same v.pool (class_of node) rest))
        (stays.offering v.actor v.pin v.offer v.pool.parted seat.offering)))

    closings_then : (handle who : ℕ) → handle < handle_limit → SaysClosing (slice_index words_then (root_word handle)) who → IsClosing (set s.views id view_then) handle who
    closings_then handle who low_handle says =
        closing_stays sizes s kept id v at view_then refl refl (λ h e. (e, refl)) refl (λ c. c) handle who (kept.closings handle who low_handle (subst (λ n. SaysClosing n who)
        (root_same handle low_handle) says))

    -- ---- references

    its_use : IsInUse after_state.heap made
    its_use = (
      makes.made,
      standing_by after_state.heap made makes.made (ap (λ n. get_or after_state.heap.slots n None) made_number ∙ makes.stands)
          (makes.birth ∙ sym (birth_of_ref (number + 1) number)),
    )

    others_stand : (k : Ref) → slot_of k ≢ slot_of made → standing after_state.heap k ≡ standing now.heap k
    unfolding stored
    others_stand k differs = ap (of_birth (birth_of k)) (makes.nodes (slot_of k) (λ same. differs (same ∙ sym made_number)))

    private_then : (evidence : Takes) → (a : ℕ) (o : Operation) → operation_of after_state a ≡ Some o → (k : Ref) → Contains o.private k →
        ((a ≡ v.actor) × (k ≡ made)) ⊎ ((p : Operation) × (operation_of now a ≡ Some p) × Contains p.private k)
    private_then evidence a o is k c = elim (cases_eq a v.actor) [
      | inl same ↦
          (let its = same_Some o (operation_after now operation) (sym is ∙ ap (operation_of after_state) same ∙ makes.own) in
          elim (Contains-append_cases operation.private (made ∷ []) k (subst (λ ks. Contains ks k) (ap (λ (x : Operation). x.private) its ∙ evidence.private) c)) [
            | inl old ↦ inr (operation, ap (operation_of now) same ∙ runs, old)
            | inr new ↦ inl (same, sym (one_there k new))
          ])
      | inr differs ↦ inr (o, sym (makes.others a differs) ∙ is, c)
    ]
      where
        one_there : (z : Ref) → Contains (made ∷ []) z → made ≡ z
        one_there z (i, within, at_i) = let zero_is : i ≡ 0 = omega arith in subst (λ n. get_or (made ∷ []) n z ≡ z) zero_is at_i

    grown_then : HasGrown kept.account account_then
    grown_then = record { steps = step.Go v.actor ∷ []; goes_on = refl; names = name ∷ []; more_names = refl }

    retired_made : (other : ℕ) (x : View) → get_elem? s.views other ≡ some x → (y : Retired) → Contains x.retired y → y.number < number
    retired_made other x e y c =
        let is = (kept.seats other x e).retired y c in
        let low = is.was.made in
        let grown = ap length is.grown.more_names in
        let all = length-append y.account.names is.grown.names in
        omega (arith, low, grown, all)

    module _ (evidence : Takes) where
      held_is : held_now sizes account_then ≡ held_after (claiming.makes now held operation evidence.named (Some made)) held
      held_is = taken_now sizes kept.account kept.bounds v.actor operation runs evidence.goes account_then refl ∙ ap (λ c. held_after c held) evidence.changes

      owned_is : (i m : Ref) → is_owned (held_now sizes account_then) i m ≡ (is_owned held i m || list_any (is_pair i m) (owned_at operation.line made))
      owned_is i m = ap (λ (h : Held). is_owned h i m) held_is ∙ list_any-append (is_pair i m) held.owned (owned_at operation.line made)

      right : (a b : Bool) → a ≡ false → (a || b) ≡ b
      right a b e = ap (λ c. c || b) e

      left_only : (a b : Bool) → b ≡ false → (a || b) ≡ a
      left_only true b e = refl
      left_only false b e = e

      was_used : (k : Ref) → slot_of k ≢ slot_of made → IsInUse after_state.heap k → IsInUse now.heap k
      was_used k differs used = (used.0, sym (others_stand k differs) ∙ used.1)

      low : (k : Ref) → slot_of k < number → slot_of k ≢ slot_of made
      low k below same = omega (arith, below, same, made_number)

      owns_old : (i m : Ref) (b : Bool) → HasIndirection after_state i → IsInUse after_state.heap m → OwnIs kept.account.owned (slot_of i) (slot_of m) b →
          is_owned (held_now sizes account_then) i m ≡ b
      unfolding was_used
      owns_old i m b link used old =
          let below = kept.nodes.owners.made (slot_of i) (slot_of m) b old in
          let apart = low i below.0 in
          let i_used = was_used i apart link.0 in
          let same = node_standing now.heap i i_used.0 i_used.1 ∙ sym (node_standing after_state.heap i link.0.0 link.0.1) in
          let none : list_any (is_pair i m) (owned_at operation.line made) ≡ false =
          elim (cases_Bool (list_any (is_pair i m) (owned_at operation.line made))) [ inl new ↦ absurd (apart (ap slot_of (owned_first operation.line made i m new))) | inr missing ↦ missing ] in
          owned_is i m ∙ left_only (is_owned held i m) (list_any (is_pair i m) (owned_at operation.line made)) none
          ∙ kept.held.owns i m b (i_used, ap is_indirection same ∙ link.1) (was_used m (low m below.1) used) old

      owns_new : (i m : Ref) (b : Bool) (generation : ℕ) (main : Ref) → node ≡ Indirection generation main → i ≡ made → m ≡ main → own ≡ b → is_owned (held_now sizes account_then) i m ≡ b
      owns_new i m b generation main is same_i same_m same_own =
          let may = subst (λ n. MayOwn operation.line n own) is evidence.may in
          let none : is_owned held made main ≡ false = elim (cases_Bool (is_owned held made main)) [
            | inl old ↦ (let made_low = used_made sizes kept.account kept.bounds made (kept.held.owned made main old) in let all = kept.counted in absurd (omega (arith, made_low, all, made_number)))
            | inr missing ↦ missing
          ] in
          ap (λ r. is_owned (held_now sizes account_then) r m) same_i ∙ ap (is_owned (held_now sizes account_then) made) same_m ∙ owned_is made main
          ∙ right (is_owned held made main) (list_any (is_pair made main) (owned_at operation.line made)) none ∙ owned_exact operation.line made main own may.0 may.1 ∙ same_own

      owns_is : (i m : Ref) (b : Bool) → HasIndirection after_state i → IsInUse after_state.heap m → IsOwn account_then i m b → is_owned (held_now sizes account_then) i m ≡ b
      unfolding its_use
      owns_is i m b link used is = elim (owned_or kept.account.owned number own node (slot_of i) (slot_of m) b is) [
        | inl old ↦ owns_old i m b link used old
        | inr (at_made, which) ↦
            (let same_i = one_ref after_state.heap i made link.0 its_use (at_made ∙ sym made_number) in
            elim which [
              | inl isnt ↦
                  absurd (true≢false (sym link.1 ∙ ap (λ r. is_indirection (node_at after_state.heap r)) same_i
                  ∙ ap is_indirection (node_standing after_state.heap made its_use.0 its_use.1 ∙ makes.node_is) ∙ isnt))
              | inr (generation, main, node_is, slot_is, own_is) ↦
                  (let main_used = evidence.meets generation main node_is in
                  let main_low = used_made sizes kept.account kept.bounds main main_used in
                  let all = kept.counted in
                  let apart : slot_of m ≢ slot_of made = λ same. omega (arith, main_low, all, slot_is, same, made_number) in
                  owns_new i m b generation main node_is same_i (one_ref now.heap m main (was_used m apart used) main_used (sym slot_is)) own_is)
            ])
      ]

    held_then : Takes → ((c : ℕ) → IsCount sizes c → references words_then c ≡ references s.words c) → AreHeld sizes account_then stands_then words_then (set s.views id view_then)
    unfolding its_use
    held_then evidence same =
        let change = claiming.makes now held operation evidence.named (Some made) in
        let holds = subst (λ c. HoldsAll (takes c) v.owed) evidence.changes evidence.holds in
        let owes = evidence.owes ∙ ap (λ c. owes_after c held.claims v.owed) evidence.changes in
        let lines = made_lines sizes s kept id v at operation runs account_then view_then makes.others (operation_after now operation) makes.own made change (λ c. refl) refl holds owes evidence.named
        (λ k c. (left_has (over_at now held (goal_of operation.line)) evidence.named k (subst (λ ks. Contains ks k) (takes_left (over_at now held (goal_of operation.line)) evidence.named made) c)).0)
        evidence.owed_line in
        held_made sizes s kept id v at account_then grown_then name refl made made_number node its_use (node_standing after_state.heap made its_use.0 its_use.1 ∙ makes.node_is) others_stand
        (λ k used. (let low = used_made sizes kept.account kept.bounds k used in let all = kept.counted in omega (arith, low, all))) (private_then evidence) stands_then
        (stands_new number kept.stands (slot_of made) made_number) (λ k differs. stands_else number kept.stands k (λ e. differs (e ∙ sym made_number)))
        (slot_taken sizes s.words kept.taken (class_of node) name (class_small node) its_spare.0)
        (λ k here. its_spare.1.0 (slot_of k) here.0.0 (here.1, slot_at now.heap k here.0.0 here.0.1)) change
        (taken_now sizes kept.account kept.bounds v.actor operation runs evidence.goes account_then refl ∙ ap (λ c. held_after c held) evidence.changes) (λ c. refl) refl holds
        (added_by (claiming.over_at now held (claiming.goal_of operation.line)) made evidence.named) view_then refl refl owes retired_made
        (let_go_by_none sizes s kept (step.Go v.actor) account_then refl (λ c. ap (λ (x : Change). x.fate c) evidence.changes)) lines words_then same (owns_is evidence)
        (λ i m e. owned_first operation.line made i m e)

    -- the rule holds
    pub made_kept : Takes → ((c : ℕ) → IsCount sizes c → references words_then c ≡ references s.words c) →
        ((c n : ℕ) → IsCell c n → slice_index words_then (cell_word sizes c n) ≡ slice_index s.words (cell_word sizes c n)) → NoneLoosened sizes s.words words_then →
        IsKept sizes (record { words = words_then; homes = s.homes; views = set s.views id view_then })
    made_kept evidence same cells_same loose =
        assembled sizes s kept id v at view_then refl refl account_then stands_then words_then made_all closings_then own_then
        (other_kept sizes s kept id v at account_then stands_then words_then stays)
        (λ b other f. inl (was_free b other f).0)
        (numbers_stay sizes s kept id v at view_then refl refl account_then words_then (as_before makes.tries) (λ slot none. none) root_same refl
        (λ slot handle e free. (free.0, pool_still handle e slot free))) (held_then evidence same)
        (cells_spent sizes s kept id v at view_then account_then stands_then words_then cells_same loose (class_of node) name its_own taken spare_then (λ b n f. (was_free b n f).0))
