-- What a step that makes a node takes its seat holds, where what the node names its operation has made, or the seat held when it looked last, or the node takes it over.
use Rattle.history.specs.declared.calls.Call.{Call}
use Rattle.std.proofs.Common.{◌≡◌, ◌≤◌, ◌++◌, ℕ, Bool, true, false, List, [], ◌∷◌, Contains, Some, flat_map, map, if◌then◌else◌}
use Rattle.std.proofs.Common.{refl, sym, ap, subst, ◌∙◌, arith, zero, suc, inl, inr, ◌==◌}
use Rattle.std.proofs.lemmas.Bool.{true≢false, cases_eq, ne_eqb}
use Rattle.std.proofs.lemmas.Option.{none-some, same_Some}
use Rattle.std.proofs.lemmas.List.{map-append}
use Rattle.std.proofs.lemmas.List.Concat.{flat_map-cons}
use Rattle.std.proofs.lemmas.List.Sums.{sum_by-cons}
use mathlib.Core.Option.{some}
use lib.ListN.{get_elem?}
use Rattle.atomic_table.specs.Table as Table
use Rattle.machine_model.proofs.Along.{limits_along}
use Rattle.machine_model.specs.Beneath.slot_arena.specs.declared.nodes.Node.{Node}
use Rattle.machine_model.specs.Beneath.slot_arena.specs.declared.nodes.Node.TheVariants.{Indirection, Branch, Single, Tomb, List as Listed}
use Rattle.machine_model.specs.Beneath.slot_arena.specs.declared.refs.Ref.{Ref}
use Rattle.machine_model.specs.Beneath.slot_arena.specs.Heaps.{Heap, node_at, refs_of_node, with_main_word}
use Rattle.machine_model.specs.Beneath.slot_arena.specs.Refs.{slot_of}
use Rattle.machine_model.specs.Machine.{AreBounds}
use Rattle.machine_model.specs.States.{State}
use Rattle.machine_model.specs.declared.building.BuildLine.TheVariants as build
use Rattle.machine_model.specs.declared.lines.Line.{Line}
use Rattle.machine_model.specs.declared.lines.Line.TheVariants as line
use Rattle.machine_model.specs.declared.operations.Operation.{Operation}
use Rattle.machine_model.specs.declared.repairs.CleanLine.TheVariants as clean
use Rattle.machine_model.specs.declared.repairs.ClimbLine.TheVariants as climb
use Rattle.machine_model.specs.declared.repairs.RenewLine.TheVariants as renew
use Rattle.machine_model.specs.declared.steps.Bounds.{Bounds}
use Rattle.machine_model.specs.declared.steps.Step.{Step}
use Rattle.proof_claims.specs.Changes.{claim_of_node, goal_of, makes, over_at}
use Rattle.proof_claims.specs.Claims.{held_of, how_often}
use Rattle.proof_claims.specs.Held.{Change, Claim, Held, OfNode, held_after, is_in, takes, Holder, kept_by}
use Rattle.proof_garbage.proofs.Known.{line_known}
use Rattle.proof_memory.proofs.Claims.Uses.{meets_of, safe_of, fact_of}
use Rattle.proof_memory.proofs.Safety.AtEachTime.{safe_along}
use Rattle.proof_memory.specs.Wants.{AllHold, is_branch, is_branch_or_list, line_wants, Holds, Is, AnIndirection}
use Rattle.lock_free.specs.declared.rules.View.{View}
use Rattle.lock_free.specs.Accounts.{bounds_for, running, state_of}
use Rattle.lock_free.specs.Claims.{HoldsAll, held_now}
use Rattle.lock_free.specs.Live.{IsLive}
use Rattle.lock_free.specs.Loading.{now}
use Rattle.lock_free.specs.Making.{over_of}
use Rattle.lock_free.specs.Owing.{HoldsRaised, IsTakenOver, names_made, next_change}
use Rattle.lock_free.specs.Rules.{IsKept}
use Rattle.lock_free.proofs.Asked.{live_in_use, nodes_stay, over_lives}
use Rattle.lock_free.proofs.GivenBack.{node_is}
use Rattle.lock_free.proofs.Moments.{before, seat, still_own}
use Rattle.proof_claims.proofs.Differing.{nothing_in, in_cons, first_in, later_in, from_flat}
use Rattle.proof_claims.specs.Different.{AreDifferent}
use Rattle.proof_memory.proofs.Safety.AtTimes.{line_finds_in}
use Rattle.machine_model.specs.Operations.{action_of}
use Rattle.proof_claims.proofs.ClaimsDiffer.{claims_differ}
use Rattle.proof_claims.proofs.Lists.{found_in}
use Rattle.machine_model.specs.Keys.{KeysFit}
use Rattle.proof_memory.specs.Laws.{IsInUse}
use Rattle.proof_memory.proofs.Lines.Shared.{current_is, above_each, above_long}
use Rattle.machine_model.specs.Paths.{above}
use Rattle.lock_free.proofs.OneStep.Found.{live_used}
use Rattle.std.proofs.lemmas.List.Elements.{Contains-append_cases}
use Rattle.lock_free.proofs.ClaimsThere.{has_often, often_has}
use Rattle.lock_free.specs.OwesAt.{owes_at}
use mathlib.Core.Bool.{cond}
use Rattle.lock_free.specs.declared.accounts.Account.{Account}
use Rattle.lock_free.proofs.Pools.{mapped}
use Rattle.lock_free.proofs.CountsStay.{often_none}

-- ---- what a node that is made takes

abbrev left_over : List Ref → Ref → List Ref
left_over over k = if is_in over k then [] else k ∷ []

-- what it names and doesn't take over
abbrev pub left : List Ref → List Ref → List Ref
left over names = flat_map (left_over over) names

pub takes_left : (over names : List Ref) (x : Ref) → map (λ (c : Claim). c.on) (flat_map (claim_of_node over x) names) ≡ left over names
takes_left over [] x = refl
takes_left over (k ∷ names) x =
    ap (map (λ (c : Claim). c.on)) (flat_map-cons (claim_of_node over x) k names)
    ∙ map-append (λ (c : Claim). c.on) (claim_of_node over x k) (flat_map (claim_of_node over x) names)
    ∙ ap (λ ks. map (λ (c : Claim). c.on) (claim_of_node over x k) ++ ks) (takes_left over names x) ∙ ap (λ ks. ks ++ left over names) (one (is_in over k))
    ∙ sym (flat_map-cons (left_over over) k names)
  where
    one : (b : Bool) → map (λ (c : Claim). c.on) (if b then [] else record { by = OfNode x; on = k } ∷ []) ≡ (if b then [] else k ∷ [])
    one true = refl
    one false = refl

pub left_has : (over names : List Ref) (k : Ref) → Contains (left over names) k → Contains names k × (is_in over k ≡ false)
left_has over [] k c = nothing_in k c
left_has over (x ∷ names) k c = elim (Contains-append_cases (left_over over x) (left over names) k (subst (λ ks. Contains ks k) (flat_map-cons (left_over over) x names) c)) [
  | inl first ↦ of_first (is_in over x) refl first
  | inr rest ↦ (let h = left_has over names k rest in (later_in x names k h.0, h.1))
]
  where
    of_first : (b : Bool) → is_in over x ≡ b → Contains (if b then [] else x ∷ []) k → Contains (x ∷ names) k × (is_in over k ≡ false)
    of_first true e d = nothing_in k d
    of_first false e d = elim (in_cons x [] k d) [
      | inl same ↦ (subst (Contains (x ∷ names)) same (first_in x names), ap (is_in over) (sym same) ∙ e)
      | inr none ↦ nothing_in k none
    ]

-- claims of one holder, of which none stands twice, are on different nodes
once_by : (by : Holder) (claims : List Claim) → ((c : Claim) → Contains claims c → c.by ≡ by) → AreDifferent claims → (k : Ref) → how_often k (map (λ (c : Claim). c.on) claims) ≤ 1
once_by by [] same differ k = omega arith
once_by by (c ∷ claims) same differ k =
    let rest = once_by by claims (λ d has. same d (later_in c claims d has)) differ.1 k in
    let all = sum_by-cons (λ (x : Ref). cond {A = ℕ} (x == k) 1 0) c.on (map (λ (x : Claim). x.on) claims) in
    elim (cases_eq c.on k) [
      | inl is ↦
          (let none = often_none k (map (λ (x : Claim). x.on) claims) (λ has.
          (let d = mapped (λ (x : Claim). x.on) claims k has in
          let one : d.0 ≡ c = same_claim d.0 c (same d.0 (later_in c claims d.0 d.1) ∙ sym (same c (first_in c claims))) (d.2 ∙ sym is) in
          differ.0 (subst (Contains claims) one d.1))) in
          let most = at_most (c.on == k) in
          omega (arith, all, none, most))
      | inr differs ↦ (let none = ap {B = ℕ} (λ b. cond {A = ℕ} b 1 0) (ne_eqb c.on k differs) in omega (arith, all, none, rest))
    ]
  where
    at_most : (b : Bool) → cond {A = ℕ} b 1 0 ≤ 1
    at_most true = omega arith
    at_most false = omega arith

    same_claim : (x y : Claim) → x.by ≡ y.by → x.on ≡ y.on → x ≡ y
    same_claim x y holders nodes = ap (λ h. record { by = h; on = x.on }) holders ∙ ap (λ r. record { by = y.by; on = r }) nodes

last_different : (xs ys : List Claim) → AreDifferent (xs ++ ys) → AreDifferent ys
last_different [] ys differ = differ
last_different (x ∷ xs) ys differ = last_different xs ys differ.1

-- so each node is taken once
taken_once : (limits : Bounds) (steps : List Step) → AreBounds limits → KeysFit steps → (state : State) (held : Held) (o : Operation) (names : List Ref) (x : Ref) →
    held_of limits steps ≡ held_after (makes state held o names (Some x)) held → (k : Ref) → how_often k (takes (makes state held o names (Some x))) ≤ 1
taken_once limits steps ok keys state held o names x is =
    let change = makes state held o names (Some x) in
    let differ = subst (λ (h : Held). AreDifferent h.claims) is (claims_differ limits steps ok keys) in
    once_by (OfNode x) change.added
    (λ c has. (let y = from_flat (claim_of_node (over_at state held (goal_of o.line)) x) names c has in its y.0 c (is_in (over_at state held (goal_of o.line)) y.0) y.2))
    (last_different (flat_map (λ (c : Claim). kept_by (change.fate c) c.on) held.claims) change.added differ)
  where
    its : (y : Ref) (c : Claim) (b : Bool) → Contains (if b then [] else record { by = OfNode x; on = y } ∷ []) c → c.by ≡ OfNode x
    its y c true has = nothing_in c has
    its y c false has = elim (in_cons (record { by = OfNode x; on = y }) [] c has) [ inl same ↦ ap (λ (d : Claim). d.by) (sym same) | inr none ↦ nothing_in c none ]

-- ---- the node over which it is made

pub goal_is : (l : Line) → goal_of l ≡ over_of l
goal_is (line.Build (build.Main path main c former)) = refl
goal_is (line.Renew (renew.Branch path main done)) = refl
goal_is (line.Clean (clean.Contracted path main done)) = refl
goal_is (line.Climb (climb.Contracted c main)) = refl
goal_is l = refl

branch_stays : (m : Ref) (n : Node) → is_branch n ≡ true → with_main_word m n ≡ n
branch_stays m (Indirection generation main) e = absurd (true≢false (sym e))
branch_stays m (Branch bitmap entries) e = refl
branch_stays m (Single key value) e = refl
branch_stays m (Tomb single) e = refl
branch_stays m (Listed singles) e = refl

either_stays : (m : Ref) (n : Node) → is_branch_or_list n ≡ true → with_main_word m n ≡ n
either_stays m (Indirection generation main) e = absurd (true≢false (sym e))
either_stays m (Branch bitmap entries) e = refl
either_stays m (Single key value) e = refl
either_stays m (Tomb single) e = refl
either_stays m (Listed singles) e = refl

over_fixed : (S : Ref → Type 0) (heap : Heap) (state : State) (operation : Operation) (l : Line) (i a : Ref) → over_of l ≡ Some (i, a) →
    AllHold S heap (line_wants state.limits.hash operation.call operation.access l) → (m : Ref) → with_main_word m (node_at heap a) ≡ node_at heap a
over_fixed S heap state operation (line.Build (build.Main path main c former)) i a e h m =
    subst (λ r. with_main_word m (node_at heap r) ≡ node_at heap r) (ap (λ (x : Ref × Ref). x.1) (same_Some _ (i, a) e)) (either_stays m (node_at heap main) (meets_of h.1.1.0))
over_fixed S heap state operation (line.Renew (renew.Branch path main done)) i a e h m =
    subst (λ r. with_main_word m (node_at heap r) ≡ node_at heap r) (ap (λ (x : Ref × Ref). x.1) (same_Some _ (i, a) e)) (branch_stays m (node_at heap main) (meets_of h.1.1.0))
over_fixed S heap state operation (line.Clean (clean.Contracted path main done)) i a e h m =
    subst (λ r. with_main_word m (node_at heap r) ≡ node_at heap r) (ap (λ (x : Ref × Ref). x.1) (same_Some _ (i, a) e)) (branch_stays m (node_at heap main) (meets_of h.1.1.0))
over_fixed S heap state operation (line.Climb (climb.Contracted c main)) i a e h m =
    subst (λ r. with_main_word m (node_at heap r) ≡ node_at heap r) (ap (λ (x : Ref × Ref). x.1) (same_Some _ (i, a) e)) (branch_stays m (node_at heap main) (meets_of h.1.1.1.0))
over_fixed S heap state operation l i a e h m = absurd (none-some (i, a) e)

-- and the indirection in which it is swapped in
over_link : (S : Ref → Type 0) (heap : Heap) (state : State) (operation : Operation) (l : Line) (i a : Ref) → over_of l ≡ Some (i, a) →
    AllHold S heap (line_wants state.limits.hash operation.call operation.access l) → Holds S heap (Is i AnIndirection)
over_link S heap state operation (line.Build (build.Main path main c former)) i a e h =
    subst (λ r. Holds S heap (Is r AnIndirection)) (ap (λ (x : Ref × Ref). x.0) (same_Some _ (i, a) e)) (current_is S heap path h.0 (fact_of h.1.0))
over_link S heap state operation (line.Renew (renew.Branch path main done)) i a e h =
    subst (λ r. Holds S heap (Is r AnIndirection)) (ap (λ (x : Ref × Ref). x.0) (same_Some _ (i, a) e)) (current_is S heap path h.0 (fact_of h.1.0))
over_link S heap state operation (line.Clean (clean.Contracted path main done)) i a e h =
    subst (λ r. Holds S heap (Is r AnIndirection)) (ap (λ (x : Ref × Ref). x.0) (same_Some _ (i, a) e)) (current_is S heap path h.0 (fact_of h.1.0))
over_link S heap state operation (line.Climb (climb.Contracted c main)) i a e h =
    subst (λ r. Holds S heap (Is r AnIndirection)) (ap (λ (x : Ref × Ref). x.0) (same_Some _ (i, a) e))
    (current_is S heap (above c.path) (above_each S heap c.path h.0) (above_long c.path (fact_of h.1.0)))
over_link S heap state operation l i a e h = absurd (none-some (i, a) e)

-- ---- what it takes later

module _ (v : View) (s : Table.State Call View) (kept : IsKept v.sizes s) (id : ℕ) (at : get_elem? s.views id ≡ some v) (o : Operation) (runs : running v.sizes v.account v.actor o) (mark : Bool)
    (runs_there : running v.sizes kept.account v.actor (record o { is_marked = mark })) where
  abbrev state : State
  state = state_of v.sizes kept.account

  abbrev held : Held
  held = held_now v.sizes kept.account

  refs_later : (i m : Ref) → over_of o.line ≡ Some (i, m) → refs_of_node (node_at state.heap m) ≡ refs_of_node (node_at (now v).heap m)
  refs_later i m over =
      let live = over_lives v.sizes v.account (before v s kept id at) v.actor o runs i m over in
      let was = live_in_use v.sizes v.account (before v s kept id at) m live in
      let later = nodes_stay v.sizes v.actor v.account kept.account (seat v s kept id at).waited kept.bounds (slot_of m) was.0 was.1 in
      let fixed = over_fixed (IsLive (now v)) (now v).heap (now v) o o.line i m over
      (line_known (now v) (safe_along (bounds_for v.sizes v.account.steps) (before v s kept id at) v.account.steps) (λ n. Unit {0}) v.actor o runs tt) later.2.0 in
      ap refs_of_node (node_is state m later.0 later.1 ∙ later.2.1 ∙ ap (with_main_word later.2.0) (sym (node_is (now v) m was.0 was.1)) ∙ fixed)

  -- what it was to take over it takes over
  over_later : (k : Ref) → IsTakenOver v o.line k → is_in (over_at state held (goal_of o.line)) k ≡ true
  over_later k (i, m, goal, own, names) =
      let over : over_of o.line ≡ Some (i, m) = sym (goal_is o.line) ∙ goal in
      let wants = line_finds_in state (safe_along (bounds_for v.sizes kept.account.steps) kept.bounds kept.account.steps) (bounds_for v.sizes kept.account.steps)
      (limits_along (bounds_for v.sizes kept.account.steps) kept.account.steps) v.actor (record o { is_marked = mark }) runs_there in
      let limits = ap (λ (l : Bounds). l.hash) (limits_along (bounds_for v.sizes kept.account.steps) kept.account.steps) in
      let link = over_link (IsInUse state.heap) state.heap state o o.line i m over (subst (λ h. AllHold (IsInUse state.heap) state.heap (line_wants h o.call o.access o.line)) (sym limits) wants) in
      let live = over_lives v.sizes kept.account kept.bounds v.actor (record o { is_marked = mark }) runs_there i m over in
      let owned = kept.held.owns i m true (safe_of link, meets_of link) (live_used v.sizes kept.account kept.bounds m live) (still_own v s kept id at (slot_of i) (slot_of m) true own) in
      ap (λ g. is_in (over_at state held g) k) goal ∙ ap (λ b. is_in (if b then refs_of_node (node_at state.heap m) else []) k) owned
      ∙ found_in (refs_of_node (node_at state.heap m)) k (subst (λ ks. Contains ks k) (sym (refs_later i m over)) names)

  -- so the seat holds what it takes
  pub taken_holds : (names : List Ref) → names_made (action_of (now v) o) ≡ names → (x : Ref) → next_change v kept.account ≡ makes state held (record o { is_marked = mark }) names (Some x) →
      (after : Account) → AreBounds (bounds_for v.sizes after.steps) → KeysFit after.steps →
      held_now v.sizes after ≡ held_after (makes state held (record o { is_marked = mark }) names (Some x)) held →
      HoldsRaised v → HoldsAll (takes (next_change v kept.account)) v.owed
  taken_holds names acts x change after bounds keys held_is raised k = by (how_often k (takes (next_change v kept.account))) refl
    where
      most : how_often k (takes (next_change v kept.account)) ≤ 1
      most =
          let one = taken_once (bounds_for v.sizes after.steps) after.steps bounds keys state held (record o { is_marked = mark }) names x held_is k in
          let same = ap (λ (c : Change). how_often k (takes c)) change in omega (arith, one, same)

      by : (n : ℕ) → how_often k (takes (next_change v kept.account)) ≡ n → how_often k (takes (next_change v kept.account)) ≤ how_often k v.owed
      by zero none = omega (arith, none)
      by (suc n) many =
          let has = often_has k (takes (next_change v kept.account)) (omega (arith, many)) in
          let (named, left_out) = left_has (over_at state held (goal_of o.line)) names k
          (subst (λ ks. Contains ks k) (ap (λ (c : Change). takes c) change ∙ takes_left (over_at state held (goal_of o.line)) names x) has) in
          elim (raised o runs k (subst (λ ks. Contains ks k) (sym acts) named)) [
            | inl made ↦ (let some_made = has_often k (owes_at o) made in let all = kept.held.lines id v at (record o { is_marked = mark }) runs_there k in omega (arith, most, some_made, all))
            | inr rest ↦ elim rest [
              | inl owed ↦ (let some_owed = has_often k v.owed owed in omega (arith, most, some_owed))
              | inr over ↦ absurd (true≢false (sym (over_later k over) ∙ left_out))
            ]
          ]
