-- Each reference is counted still where the slot of a node that had none any more is free again: what it held its seat holds from then on.
use Rattle.history.specs.declared.calls.Call.{Call}
use Rattle.std.proofs.Common.{◌≡◌, ◌≢◌, ◌⊎◌, ◌+◌, ◌++◌, ◌==◌, ◌&&◌, ◌<◌, ◌≤◌, inl, inr, ℕ, Bool, true, false, List, [], ◌∷◌, Contains, Some, cond, filter, map, set, not, if◌then◌else◌, refl}
use Rattle.std.proofs.Common.{sym, ap, subst, ◌∙◌, arith, eq-eqb, length, length-append}
use Rattle.std.proofs.lemmas.Bool.{cases_eq, ne_eqb, true≢false}
use Rattle.std.proofs.lemmas.List.{get_or-set_same, get_or-set_other}
use Rattle.std.proofs.lemmas.List.Elements.{Contains-append_cases}
use Rattle.std.proofs.lemmas.List.Sums.{sum_by-append, sum_by-cons}
use mathlib.Core.Option.{some}
use lib.ListN.{get_elem?}
use Rattle.atomic_table.proofs.Lists.{at_set}
use Rattle.atomic_table.specs.Table as Table
use Rattle.machine_model.specs.Beneath.slot_arena.specs.declared.refs.Ref.{Ref}
use Rattle.machine_model.specs.Beneath.slot_arena.specs.Heaps.{node_at, refs_of_node}
use Rattle.machine_model.specs.Beneath.slot_arena.specs.Refs.{slot_of}
use Rattle.machine_model.specs.declared.operations.Operation.{Operation}
use Rattle.machine_model.specs.States.{operation_of}
use Rattle.proof_claims.specs.Claims.{Has}
use Rattle.proof_claims.specs.Held.{Claim, Holder, OfHandle, OfNode, is_by_nodes, is_in}
use Rattle.proof_claims.proofs.Differing.{in_cons, nothing_in}
use Rattle.proof_claims.proofs.Lists.{among, both_true}
use Rattle.proof_claims.specs.Beneath.proof_reuse.specs.Laws.{IsGarbage}
use Rattle.proof_waiting.specs.Beneath.proof_slots.proofs.Unswept.Kept.{one_ref}
use Rattle.lock_free.specs.declared.rules.Retired.{Retired}
use Rattle.lock_free.specs.declared.rules.View.{View}
use Rattle.lock_free.specs.declared.sizes.Sizes.{Sizes}
use Rattle.lock_free.specs.Accounts.{bounds_for, place_at, place_of, state_of}
use Rattle.lock_free.specs.Claims.{claims_there, held_now, is_claim_on, is_there}
use Rattle.lock_free.specs.Counts.{how_often, owed_on, references, references_in}
use Rattle.lock_free.specs.Freeing.{held_by}
use Rattle.lock_free.specs.Holdings.{AreHeld, IsHere, WasGarbageBefore, count_of, retired_on, HasBeenLetGo}
use Rattle.lock_free.specs.Nodes.{class_of}
use Rattle.lock_free.specs.Places.{count_word, IsSlot}
use Rattle.lock_free.specs.Reclaiming.{reclaiming}
use Rattle.lock_free.specs.Rules.{IsKept, IsRetired, Standing}
use Rattle.lock_free.proofs.ClaimsThere.{has_often}
use Rattle.lock_free.proofs.CountsStay.{owed_set}
use Rattle.lock_free.proofs.CountWords.{count_inside, count_once, one_class}
use Rattle.lock_free.proofs.Framing.{class_small}
use Rattle.lock_free.proofs.Drafts.{left}
use Rattle.lock_free.proofs.HeldCount.{one_here}
use Rattle.lock_free.proofs.HeldReclaimed.{fewer_left}
use Rattle.lock_free.proofs.HeldStill.{here_count, here_private, here_slot, retired_before, retired_set}
use Rattle.lock_free.proofs.Idle.{empty_has}
use Rattle.lock_free.proofs.LinesStay.{lines_still, lines_then}
use Rattle.lock_free.proofs.OneStep.Holders.{holders_used}
use Rattle.lock_free.proofs.OneStep.Retired.{retired_used}
use Rattle.lock_free.proofs.Pools.{first_there, more_there}
use Rattle.lock_free.specs.Reached.{HoldsNamed, IsDead, IsOwed, IsReached, at_first, by_node}
use Rattle.lock_free.proofs.HeldFrom.{held_within}
use Rattle.lock_free.proofs.HeldRetiring.{some_claims}

-- ---- what the node holds goes over to the seat

abbrev one_of : Ref → Ref → ℕ
one_of k x = cond (x == k) 1 0

abbrev there_on : (ℕ → Bool) → Ref → Claim → ℕ
there_on stands k c = cond (is_claim_on stands k c) 1 0

module _ (j : Ref) (stands stands_then : ℕ → Bool) (stood : stands (slot_of j) ≡ true) (gone : stands_then (slot_of j) ≡ false)
    (fewer : (by : Holder) → is_there stands_then by ≡ true → is_there stands by ≡ true) (names : List Ref) (k : Ref) where
  abbrev its : Claim → Bool
  its c = is_by_nodes (j ∷ []) c.by && is_in names c.on

  is_node : (x : Ref) → is_by_nodes (j ∷ []) (OfNode x) ≡ true → x ≡ j
  is_node x e = elim (in_cons j [] x (among (j ∷ []) x e)) [ inl same ↦ sym same | inr none ↦ nothing_in x none ]

  most : (on a b : Bool) → (a ≡ true → b ≡ true) → cond {A = ℕ} (on && a) 1 0 ≤ cond (on && b) 1 0
  most false a b h = omega arith
  most true false b h = omega arith
  most true true b h = let same = ap {B = ℕ} (λ c. cond c 1 0) (h refl) in omega (arith, same)

  both : (on a b : Bool) → a ≡ false → b ≡ true → cond {A = ℕ} (on && a) 1 0 + cond {A = ℕ} on 1 0 ≤ cond (on && b) 1 0
  both false a b e h = omega arith
  both true a b e h = let lost = ap {B = ℕ} (λ c. cond c 1 0) e in let had = ap {B = ℕ} (λ c. cond c 1 0) h in omega (arith, lost, had)

  lost_by : (by : Holder) → is_by_nodes (j ∷ []) by ≡ true → (is_there stands_then by ≡ false) × (is_there stands by ≡ true)
  lost_by (OfHandle handle) e = absurd (true≢false (sym e))
  lost_by (OfNode x) e = let same = is_node x e in (ap (λ (r : Ref). stands_then (slot_of r)) same ∙ gone, ap (λ (r : Ref). stands (slot_of r)) same ∙ stood)

  first_moved : (c : Claim) (rest : List Claim) (b : Bool) → its c ≡ b →
      there_on stands_then k c + how_often k (map (λ (z : Claim). z.on) (cond b (c ∷ rest) rest)) ≤ there_on stands k c + how_often k (map (λ (z : Claim). z.on) rest)
  first_moved c rest true e =
      let more = sum_by-cons (one_of k) c.on (map (λ (z : Claim). z.on) rest) in
      let lost = lost_by c.by (both_true (is_by_nodes (j ∷ []) c.by) (is_in names c.on) e).0 in
      let moves = both (c.on == k) (is_there stands_then c.by) (is_there stands c.by) lost.0 lost.1 in
      omega (arith, more, moves)
  first_moved c rest false e = let here = most (c.on == k) (is_there stands_then c.by) (is_there stands c.by) (fewer c.by) in omega (arith, here)

  pub moved : (claims : List Claim) → claims_there stands_then k claims + how_often k (held_by names j claims) ≤ claims_there stands k claims
  moved [] = omega arith
  moved (c ∷ claims) =
      let now = sum_by-cons (there_on stands_then k) c claims in
      let was = sum_by-cons (there_on stands k) c claims in
      let first = first_moved c (filter its claims) (its c) refl in
      let rest = moved claims in
      omega (arith, now, was, first, rest)

-- each of these is one of the node's claims
first_claim : (names : List Ref) (j k : Ref) (z : Claim) (claims : List Claim) →
    (Contains (held_by names j claims) k → Contains claims (record { by = OfNode j; on = k }) × (is_in names k ≡ true)) →
    (b : Bool) → (is_by_nodes (j ∷ []) z.by && is_in names z.on) ≡ b →
    Contains (map (λ (y : Claim). y.on) (cond b (z ∷ filter (λ (y : Claim). is_by_nodes (j ∷ []) y.by && is_in names y.on) claims)
    (filter (λ (y : Claim). is_by_nodes (j ∷ []) y.by && is_in names y.on) claims))) k → Contains (z ∷ claims) (record { by = OfNode j; on = k }) × (is_in names k ≡ true)
first_claim names j k z claims others true e d = elim (Contains-append_cases (z.on ∷ []) (held_by names j claims) k d) [
  | inl first ↦
      (let both = both_true (is_by_nodes (j ∷ []) z.by) (is_in names z.on) e in
      let same : z.on ≡ k = elim (in_cons z.on [] k first) [ inl same ↦ same | inr none ↦ nothing_in k none ] in (its z.by refl both.0 same, sym (ap (is_in names) same) ∙ both.1))
  | inr more ↦ (let x = others more in (more_there z claims (record { by = OfNode j; on = k }) x.0, x.1))
]
  where
    its : (by : Holder) → z.by ≡ by → is_by_nodes (j ∷ []) by ≡ true → z.on ≡ k → Contains (z ∷ claims) (record { by = OfNode j; on = k })
    its (OfHandle handle) is e on = absurd (true≢false (sym e))
    its (OfNode x) is e on =
        let same : x ≡ j = elim (in_cons j [] x (among (j ∷ []) x e)) [ inl same ↦ sym same | inr none ↦ nothing_in x none ] in
        let whole : z ≡ record { by = OfNode j; on = k } = ap {B = Claim} (λ h. record { by = h; on = z.on }) (is ∙ ap OfNode same) ∙ ap {B = Claim} (λ r. record { by = OfNode j; on = r }) on in
        subst (Contains (z ∷ claims)) whole (first_there z claims)
first_claim names j k z claims others false e d = let x = others d in (more_there z claims (record { by = OfNode j; on = k }) x.0, x.1)

pub by_claim : (names : List Ref) (j k : Ref) (claims : List Claim) → Contains (held_by names j claims) k → Contains claims (record { by = OfNode j; on = k }) × (is_in names k ≡ true)
by_claim names j k [] c = absurd (empty_has k c)
by_claim names j k (z ∷ claims) c = first_claim names j k z claims (by_claim names j k claims) (is_by_nodes (j ∷ []) z.by && is_in names z.on) refl c

-- ---- the slot

module _ (sizes : Sizes) (s : Table.State Call View) (kept : IsKept sizes s) (id : ℕ) (v : View) (at : get_elem? s.views id ≡ some v) (x : Retired) (has : Contains v.retired x) (deep : x.deep ≡ true)
    (known : List (ℕ × ℕ)) (new : ℕ) (one : references_in new ≡ 1)
    (named : (k : Ref) → HoldsNamed sizes kept.account ((kept.seats id v at).retired x has).was.node k →
    (kept.stands (slot_of k) ≡ true) × ((a : ℕ) (o : Operation) → operation_of (state_of sizes kept.account) a ≡ Some o → ¬ Contains o.private k))
    -- no other slot of it is retired
    (apart : (other : ℕ) (w : View) → get_elem? s.views other ≡ some w → (y : Retired) → Contains w.retired y → y.number ≡ x.number → (other ≡ id) × (y.name ≡ x.name)) where
  abbrev is : IsRetired sizes kept.account kept.stands x
  is = (kept.seats id v at).retired x has

  abbrev pub node : Ref
  node = is.was.node

  abbrev claims : List Claim
  claims = (held_now sizes kept.account).claims

  abbrev names : List Ref
  names = refs_of_node (node_at (state_of sizes kept.account).heap node)

  abbrev gives : List Ref
  gives = held_by names node claims

  abbrev pub stands_then : Standing
  stands_then k = if k == x.number then false else kept.stands k

  abbrev view_then : View
  view_then = record (reclaiming v x.class x.name) { account = kept.account; owed = gives ++ v.owed; drafts = known ++ v.drafts }

  abbrev views_then : List View
  views_then = set s.views id view_then

  pub here : IsHere sizes kept.account kept.stands node
  here = (retired_used sizes kept.account kept.bounds kept.quiet x is.was is.grown, ap kept.stands is.was.number ∙ is.still)

  abbrev word : ℕ
  word = count_of sizes kept.account node

  abbrev words_then : List ℕ
  words_then = set s.words word new

  is_new : references words_then word ≡ 1
  is_new =
      ap references_in (get_or-set_same s.words word new 0 (subst (λ n. word < n) (sym kept.size) (count_inside sizes word (here_count sizes s kept node here)))) ∙ one

  is_old : (c : ℕ) → c ≢ word → references words_then c ≡ references s.words c
  is_old c differs = ap references_in (get_or-set_other s.words word c new 0 differs)

  stood_by : (k : ℕ) → stands_then k ≡ true → (kept.stands k ≡ true) × (k ≢ x.number)
  stood_by k e = elim (cases_eq k x.number) [
    | inl same ↦ absurd (true≢false (sym e ∙ ap (λ b. if b then false else kept.stands k) (eq-eqb k x.number same)))
    | inr differs ↦ (sym (ap (λ b. if b then false else kept.stands k) (ne_eqb k x.number differs)) ∙ e, differs)
  ]

  stands_still : (k : ℕ) → k ≢ x.number → kept.stands k ≡ true → stands_then k ≡ true
  stands_still k differs h = ap (λ b. if b then false else kept.stands k) (ne_eqb k x.number differs) ∙ h

  was_here : (k : Ref) → IsHere sizes kept.account stands_then k → IsHere sizes kept.account kept.stands k
  was_here k h = (h.0, (stood_by (slot_of k) h.1).0)

  other_node : (k : Ref) → IsHere sizes kept.account stands_then k → k ≢ node
  other_node k h same = (stood_by (slot_of k) h.1).1 (ap (λ (r : Ref). slot_of r) same ∙ is.was.number)

  fewer : (by : Holder) → is_there stands_then by ≡ true → is_there kept.stands by ≡ true
  fewer (OfHandle handle) e = e
  fewer (OfNode j) e = (stood_by (slot_of j) e).0

  -- no reference to it is left
  none_left : references s.words word ≡ 0
  none_left = kept.held.dead id v at x has deep node here is.was.number

  none_owed : (other : ℕ) (w : View) → get_elem? s.views other ≡ some w → (k : Ref) → Contains w.owed k → k ≢ node
  none_owed other w e k c same =
      let all = kept.held.counted node here in
      let some_owed = has_often node w.owed (subst (Contains w.owed) same c) in
      let seats = owed_set node s.views other w e (record w { owed = [] }) in
      omega (arith, all, none_left, some_owed, seats)

  other_slot : (k : Ref) → IsHere sizes kept.account kept.stands k → k ≢ node → slot_of k ≢ x.number
  other_slot k h differs same = differs (one_ref (state_of sizes kept.account).heap k node h.0 here.0 (same ∙ sym is.was.number))

  pub is_claim : (k : Ref) → Contains gives k → HoldsNamed sizes kept.account node k
  is_claim k c = let x = by_claim names node k claims c in (x.0, among names k x.1)

  pub claim_there : (k : Ref) → Has (held_now sizes kept.account) (OfNode node) k → 1 ≤ claims_there kept.stands k claims
  claim_there k has_it = some_claim claims has_it
    where
      counts : (c : Claim) → c ≡ record { by = OfNode node; on = k } → is_claim_on kept.stands k c ≡ true
      counts c e = ap (is_claim_on kept.stands k) e ∙ ap (λ b. b && kept.stands (slot_of node)) (eq-eqb k k refl) ∙ here.1

      some_claim : (cs : List Claim) → Contains cs (record { by = OfNode node; on = k }) → 1 ≤ claims_there kept.stands k cs
      some_claim [] c = absurd (empty_has (record { by = OfNode node; on = k }) c)
      some_claim (z ∷ cs) c =
          let all = sum_by-cons (there_on kept.stands k) z cs in
          elim (in_cons z cs (record { by = OfNode node; on = k }) c) [
            | inl same ↦ (let first = ap {B = ℕ} (λ b. cond b 1 0) (counts z same) in omega (arith, all, first))
            | inr more ↦ (let rest = some_claim cs more in omega (arith, all, rest))
          ]

  -- what it held stands still
  pub named_here : (k : Ref) → Contains gives k → IsHere sizes kept.account stands_then k
  named_here k c =
      let held = is_claim k c in
      let used = kept.held.used (record { by = OfNode node; on = k }) held.0 in
      let stands = (named k held).0 in (
        used,
        stands_still (slot_of k) (other_slot k (used, stands) (λ same.
            (let all = kept.held.counted node here in let some = subst (λ r. 1 ≤ claims_there kept.stands r claims) same (claim_there k held.0) in omega (arith, all, none_left, some)))) stands,
      )

  counted_then : (k : Ref) → IsHere sizes kept.account stands_then k →
      claims_there stands_then k claims + owed_on k views_then + retired_on (slot_of k) views_then ≤ references words_then (count_of sizes kept.account k)
  counted_then k h =
      let was = was_here k h in
      let old = kept.held.counted k was in
      let goes = moved node kept.stands stands_then here.1 (ap (λ b. if b then false else kept.stands (slot_of node)) (eq-eqb (slot_of node) x.number is.was.number)) fewer names k claims in
      let holds = sum_by-append (one_of k) gives v.owed in
      let seats = owed_set k s.views id v at view_then in
      let slots = retired_set (slot_of k) s.views id v at view_then in
      let less = fewer_left (slot_of k) (λ (y : Retired). not (y.name == x.name)) v.retired in
      let count = is_old (count_of sizes kept.account k) (λ same. other_node k h (one_here sizes s kept k node was here same)) in
      omega (arith, old, goes, holds, seats, slots, less, count)

  spare_then : (class name : ℕ) → class < 3 → IsSlot sizes class name → ((k : Ref) → IsHere sizes kept.account stands_then k → place_of kept.account k ≢ name) →
      1 ≤ references words_then (count_word sizes class name)
  spare_then class name small slot none = elim (cases_eq (place_of kept.account node) name) [
    | inl same ↦
        (let class_node = class_of (node_at (state_of sizes kept.account).heap node) in
        let classes =
        one_class sizes class_node class name (class_small (node_at (state_of sizes kept.account).heap node)) small (subst (IsSlot sizes class_node) same (here_slot sizes s kept node here)) slot in
        let same_word : word ≡ count_word sizes class name = ap (count_word sizes class_node) same ∙ ap (λ b. count_word sizes b name) classes in
        let count = ap (references words_then) same_word in
        omega (arith, count, is_new))
    | inr differs ↦
        (let old = kept.held.spare class name small slot (λ k h place.
        none k (h.0, stands_still (slot_of k) (λ same. differs (ap (place_at kept.account) (is.was.number ∙ sym same) ∙ place)) h.1) place) in
        let count = is_old (count_word sizes class name) (λ same. differs (sym (count_once sizes class name (class_of (node_at (state_of sizes kept.account).heap node))
        (place_of kept.account node) small
        (class_small (node_at (state_of sizes kept.account).heap node)) slot (here_slot sizes s kept node here) same).1)) in
        omega (arith, old, count))
  ]

  owed_before : (other : ℕ) (w : View) → get_elem? views_then other ≡ some w → (k : Ref) → Contains w.owed k →
      ((y : View) × (get_elem? s.views other ≡ some y) × Contains y.owed k × (y.actor ≡ w.actor)) ⊎ Contains gives k
  owed_before other w e k c = elim (at_set s.views id other view_then w e) [
    | inl p ↦ elim (Contains-append_cases gives v.owed k (subst (λ (y : View). Contains y.owed k) (sym p.1) c)) [
      | inl new_one ↦ inr new_one
      | inr old_one ↦ inl (v, ap (λ n. get_elem? s.views n) p.0 ∙ at, old_one, ap (λ (y : View). y.actor) p.1)
    ]
    | inr p ↦ inl (w, p.1, c, refl)
  ]

  was_garbage : (j k : Ref) → Has (held_now sizes kept.account) (OfNode j) k → stands_then (slot_of j) ≡ false → WasGarbageBefore sizes kept.account j
  was_garbage j k holds gone = elim (cases_eq (slot_of j) x.number) [
    | inl same ↦
        (let used = holders_used (bounds_for sizes kept.account.steps) kept.bounds kept.account.steps kept.quiet j k holds in
        let same_node : node ≡ j = one_ref (state_of sizes kept.account).heap node j here.0 used (is.was.number ∙ sym same) in
        record { first = x.account; grown = is.grown; garbage = subst (IsGarbage (state_of sizes x.account)) same_node is.was.garbage })
    | inr differs ↦ kept.held.gone j k holds (sym (ap (λ b. if b then false else kept.stands (slot_of j)) (ne_eqb (slot_of j) x.number differs)) ∙ gone)
  ]

  -- ---- what was let go of, and what seats hold

  unlet_then : (k : Ref) → HasBeenLetGo sizes kept.account k → IsHere sizes kept.account stands_then k →
      claims_there stands_then k claims + owed_on k views_then + 1 ≤ references words_then (count_of sizes kept.account k)
  unlet_then k let_go h =
      let was = was_here k h in
      let old = kept.held.unlet k let_go was in
      let goes = moved node kept.stands stands_then here.1 (ap (λ b. if b then false else kept.stands (slot_of node)) (eq-eqb (slot_of node) x.number is.was.number)) fewer names k claims in
      let holds = sum_by-append (one_of k) gives v.owed in
      let seats = owed_set k s.views id v at view_then in
      let count = is_old (count_of sizes kept.account k) (λ same. other_node k h (one_here sizes s kept k node was here same)) in
      omega (arith, old, goes, holds, seats, count)

  its_reached : IsReached sizes kept.account s.views node
  its_reached = at_first node (inr (record { used = here.0; id = id; view = v; at = at; item = x; its = has; deep = deep; number = is.was.number }))

  first_was : (k : Ref) → IsOwed views_then k ⊎ IsDead sizes kept.account views_then k → IsReached sizes kept.account s.views k
  first_was k (inl o) = elim (owed_before o.0 o.1 o.2 k o.3) [
    | inl y ↦ at_first k (inl (o.0, y.0, y.1, y.2))
    | inr new_one ↦ by_node node k its_reached (is_claim k new_one)
  ]
  first_was k (inr d) =
      let z = retired_before s.views id v at view_then (λ r there. (left (λ (q : Retired). q.name) x.name v.retired r there).1) d.id d.view d.at d.item d.its in
      at_first k (inr (record { used = d.used; id = z.0; view = z.1; at = z.2; item = d.item; its = z.3; deep = d.deep; number = d.number }))

  reached_was : (k : Ref) → IsReached sizes kept.account views_then k → IsReached sizes kept.account s.views k
  reached_was =
      held_within sizes kept.account (λ r. IsOwed views_then r ⊎ IsDead sizes kept.account views_then r) (λ r. IsOwed s.views r ⊎ IsDead sizes kept.account s.views r) first_was

  -- no node that stands has a claim on it
  claimed_apart : (j k : Ref) → kept.stands (slot_of j) ≡ true → Has (held_now sizes kept.account) (OfNode j) k → slot_of k ≢ x.number
  claimed_apart j k stands holds same =
      let used = kept.held.used (record { by = OfNode j; on = k }) holds in
      let same_node : k ≡ node = one_ref (state_of sizes kept.account).heap k node used here.0 (same ∙ sym is.was.number) in
      let some = some_claims kept.stands k claims (record { by = OfNode j; on = k }) holds (ap (λ b. b && kept.stands (slot_of j)) (eq-eqb k k refl) ∙ stands) in
      let all = subst (λ r. claims_there kept.stands r claims + owed_on r s.views + retired_on (slot_of r) s.views ≤ references s.words (count_of sizes kept.account r)) (sym same_node)
      (kept.held.counted node here) in
      let none = subst (λ r. references s.words (count_of sizes kept.account r) ≡ 0) (sym same_node) none_left in
      omega (arith, some, all, none)

  dead_apart : (r : Ref) → IsDead sizes kept.account views_then r → slot_of r ≢ x.number
  dead_apart r d same = elim (at_set s.views id d.id view_then d.view d.at) [
    | inl p ↦
        (let still = left (λ (q : Retired). q.name) x.name v.retired d.item (subst (λ (z : View). Contains z.retired d.item) (sym p.1) d.its) in
        still.0 (apart id v at d.item still.1 (sym d.number ∙ same)).1)
    | inr p ↦ p.0 (apart d.id d.view p.1 d.item d.its (sym d.number ∙ same)).0
  ]

  reached_apart : (r : Ref) → IsReached sizes kept.account views_then r → slot_of r ≢ x.number
  reached_apart r (at_first k (inl o)) = elim (owed_before o.0 o.1 o.2 r o.3) [
    | inl y ↦ other_slot r (kept.held.owed o.0 y.0 y.1 r y.2) (none_owed o.0 y.0 y.1 r y.2)
    | inr new_one ↦ (stood_by (slot_of r) (named_here r new_one).1).1
  ]
  reached_apart r (at_first k (inr d)) = dead_apart r d
  reached_apart r (by_node j k from holds) = claimed_apart j r (kept.held.reached j (reached_was j from)) holds.0

  pub held_freed : AreHeld sizes kept.account stands_then words_then views_then
  held_freed = record {
    counted = counted_then;
    spare = spare_then;
    fresh = λ a o runs k c.
        (let there = here_private sizes s kept a o runs k c in
        let old = kept.held.fresh a o runs k c in
        let differs : k ≢ node = λ same. (let count = ap (λ r. references s.words (count_of sizes kept.account r)) same in omega (arith, old, count, none_left)) in
        let count = is_old (count_of sizes kept.account k) (λ same. differs (one_here sizes s kept k node there here same)) in
        omega (arith, old, count));
    owed = λ other w e k c. elim (owed_before other w e k c) [
      | inl y ↦
          (let there = kept.held.owed other y.0 y.1 k y.2 in
          (there.0, stands_still (slot_of k) (other_slot k there (none_owed other y.0 y.1 k y.2)) there.1))
      | inr new_one ↦ named_here k new_one
    ];
    known = λ other w e k c a o runs private. elim (owed_before other w e k c) [
      | inl y ↦ kept.held.known other y.0 y.1 k y.2 a o runs private ∙ y.3
      | inr new_one ↦ absurd ((named k (is_claim k new_one)).1 a o runs private)
    ];
    lines = lines_then sizes s kept id v at kept.account view_then refl
        (lines_still sizes s kept id v at view_then (λ k. (let all = sum_by-append (one_of k) gives v.owed in omega (arith, all))));
    dead = λ other w e y c is_deep k h same.
        (let z = retired_before s.views id v at view_then (λ r there. (left (λ (q : Retired). q.name) x.name v.retired r there).1) other w e y c in
        is_old (count_of sizes kept.account k) (λ words. other_node k h (one_here sizes s kept k node (was_here k h) here words)) ∙ kept.held.dead z.0 z.1 z.2 y z.3 is_deep k (was_here k h) same);
    unlet = unlet_then;
    reached = λ k from. stands_still (slot_of k) (reached_apart k from) (kept.held.reached k (reached_was k from));
    unborn = λ k high. stands_still k (λ same. (let low = is.was.made in let more = ap length is.grown.more_names in let all = length-append x.account.names is.grown.names in omega
        (arith, high, same, low, more, all))) (kept.held.unborn k high);
    gone = was_garbage;
    used = kept.held.used;
    owned = kept.held.owned;
    owns = kept.held.owns;
  }
