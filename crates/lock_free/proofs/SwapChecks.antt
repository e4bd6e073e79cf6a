-- A SWAP's last step: what it does to claims, and what it gives to its actor.
use Rattle.std.proofs.Common.{◌≡◌, ◌≢◌, ◌+◌, ◌≤◌, ◌==◌, ◌&&◌, ◌||◌, ◌⊎◌, ◌++◌, not, if◌then◌else◌, inl, inr, ℕ, Bool, true, false, List, [], ◌∷◌, Contains}
use Rattle.std.proofs.Common.{refl, sym, ap, subst, ◌∙◌, arith, eq-eqb, ne_eqb}
use Rattle.std.proofs.lemmas.Bool.{cases_Bool, cases_eq, true≢false}
use Rattle.std.proofs.lemmas.List.Elements.{Contains-append_left}
use Rattle.machine_model.specs.Beneath.slot_arena.specs.declared.nodes.Node.{Node}
use Rattle.machine_model.specs.Beneath.slot_arena.specs.declared.nodes.Node.TheVariants.{Indirection, Branch, Single, Tomb, List as Listed}
use Rattle.machine_model.specs.Beneath.slot_arena.specs.declared.nodes.Prev.{Prev}
use Rattle.machine_model.specs.Beneath.slot_arena.specs.declared.nodes.Prev.TheVariants as prev
use Rattle.machine_model.specs.Beneath.slot_arena.specs.declared.refs.Ref.{Ref}
use Rattle.machine_model.specs.Beneath.slot_arena.specs.Heaps.{node_at, prev_at, refs_of_node}
use Rattle.machine_model.specs.Beneath.slot_arena.specs.Refs.{slot_of}
use Rattle.machine_model.specs.declared.actions.Action.TheVariants as act
use Rattle.machine_model.specs.declared.lines.Line.TheVariants as line
use Rattle.machine_model.specs.declared.lines.Purpose.{Purpose}
use Rattle.machine_model.specs.declared.operations.Operation.{Operation}
use Rattle.machine_model.specs.declared.reading.Swap.{Swap}
use Rattle.machine_model.specs.declared.reading.SwapLine.TheVariants as swap
use Rattle.machine_model.specs.declared.steps.Step.TheVariants as machine
use Rattle.machine_model.specs.Keys.{KeysFit}
use Rattle.machine_model.specs.Machine.{AreBounds}
use Rattle.machine_model.specs.Moves.{GoesOn}
use Rattle.machine_model.specs.Operations.{action_of, line_action}
use Rattle.machine_model.specs.States.{State}
use Rattle.proof_claims.proofs.LeftAtCheck.{given_by_failed, given_by_own, given_by_shared, link_holds}
use Rattle.proof_claims.proofs.Lists.{among, both_true, found_in}
use Rattle.proof_claims.specs.Changes.{change_by, change_going, change_of, checks, checks_at, fate_left, fate_let_go}
use Rattle.proof_claims.specs.Claims.{Has}
use Rattle.proof_claims.specs.Dropped.{HasFailed}
use Rattle.proof_claims.specs.Held.{Change, Claim, Ends, Given, Held, Holder, OfHandle, OfNode, Stays, gives, held_after, is_by_nodes, is_in, is_owned, takes}
use Rattle.proof_claims.specs.Left.{names, once, takes_over}
use Rattle.proof_commits.specs.Runs.{HasIndirection}
use Rattle.proof_memory.specs.Wants.{AllHold, is_indirection, is_main_node, line_wants, purpose_wants, swap_wants}
use Rattle.proof_memory.proofs.Claims.Uses.{first_hold, meets_of, safe_of}
use Rattle.proof_claims.specs.Beneath.proof_reuse.specs.Laws.{HasReplaced}
use Rattle.lock_free.specs.declared.accounts.Account.{Account}
use Rattle.lock_free.specs.declared.sizes.Sizes.{Sizes}
use Rattle.lock_free.specs.Accounts.{bounds_for, running, state_of}
use Rattle.lock_free.specs.Claims.{claims_there, held_now, is_there}
use Rattle.lock_free.specs.Counts.{how_often}
use Rattle.lock_free.specs.Live.{from_operation, line_claims, refs_of_claims, IsKnown, IsLive}
use Rattle.lock_free.proofs.Asked.{line_stands}
use Rattle.lock_free.proofs.ClaimsThere.{has_often, often_has, there_balance}
use Rattle.lock_free.proofs.HeldGone.{IsLetting}
use Rattle.lock_free.proofs.HeldStep.{taken_now}
use Rattle.lock_free.proofs.Led.{named_known}
use Rattle.lock_free.proofs.Lettings.{going_lets}
use Rattle.lock_free.proofs.OneStep.Found.{live_used}

pub both_kinds : (node : Node) → is_indirection node ≡ true → is_main_node node ≡ true → ⊥
both_kinds (Indirection generation main) link main_node = true≢false (sym main_node)
both_kinds (Branch bitmap entries) link main_node = true≢false (sym link)
both_kinds (Single key value) link main_node = true≢false (sym link)
both_kinds (Tomb single) link main_node = true≢false (sym link)
both_kinds (Listed singles) link main_node = true≢false (sym link)

-- ---- fates

-- it is a claim of one of these nodes
abbrev IsOf : Ref → Ref → Ref → Holder → Type 0
IsOf i m f by = (x : Ref) × (is_by_nodes (x ∷ []) by ≡ true) × ((x ≡ i) ⊎ ((x ≡ m) ⊎ (x ≡ f)))

left_given : (i m : Ref) (c : Claim) → fate_left i m c ≡ Given → is_by_nodes (m ∷ []) c.by ≡ true
left_given i m c e = by (is_by_nodes (m ∷ []) c.by) (is_by_nodes (i ∷ []) c.by && (c.on == m)) e
  where
    by : (a b : Bool) → (if a then Given else (if b then Ends else Stays c.by)) ≡ Given → a ≡ true
    by true b h = refl
    by false true h = let wrong : ⊥ = cc h in absurd wrong
    by false false h = let wrong : ⊥ = cc h in absurd wrong

let_go_given : (goes : Bool) (c : Claim) → fate_let_go goes c ≡ Given → goes ≡ true
let_go_given true c e = refl
let_go_given false c e = let wrong : ⊥ = cc e in absurd wrong

abbrev checking : Ref → Ref → Ref → Swap
checking i m f = record { indirection = i; replaced = m; fresh = f; line = swap.Check }

-- what is given was such a claim
checks_given : (own : Bool) (q : Prev) (i m f : Ref) (c : Claim) → (checks own q (checking i m f)).fate c ≡ Given → IsOf i m f c.by
checks_given true prev.None i m f c e = (m, left_given i m c e, inr (inl refl))
checks_given false prev.None i m f c e = (i, (both_true (is_by_nodes (i ∷ []) c.by) (c.on == m) (let_go_given (is_by_nodes (i ∷ []) c.by && (c.on == m)) c e)).0, inl refl)
checks_given own (prev.Pending p) i m f c e = (f, left_given i f c e, inr (inr refl))
checks_given own (prev.Failed p) i m f c e = (f, left_given i f c e, inr (inr refl))

checks_plain : (own : Bool) (q : Prev) (s : Swap) → (takes (checks own q s) ≡ []) × ((checks own q s).made ≡ [])
checks_plain true prev.None s = (refl, refl)
checks_plain false prev.None s = (refl, refl)
checks_plain own (prev.Pending p) s = (refl, refl)
checks_plain own (prev.Failed p) s = (refl, refl)

-- the indirection's claim on the node that is let go of ends
pub left_ends : (i x : Ref) → i ≢ x → fate_left i x (record { by = OfNode i; on = x }) ≡ Ends
left_ends i x differs =
    ap (λ b. if b || false then Given else (if ((i == i) || false) && (x == x) then Ends else Stays (OfNode i))) (ne_eqb x i (λ e. differs (sym e)))
    ∙ ap (λ b. if (b || false) && (x == x) then Ends else Stays (OfNode i)) (eq-eqb i i refl) ∙ ap (λ b. if b then Ends else Stays (OfNode i)) (eq-eqb x x refl)

one_in : (x j : Ref) → is_in (x ∷ []) j ≡ true → x ≡ j
one_in x j e = elim (cases_eq x j) [ inl same ↦ same | inr differs ↦ absurd (true≢false (sym e ∙ ap (λ b. b || false) (ne_eqb x j differs))) ]

node_there : (stands : ℕ → Bool) (x : Ref) → stands (slot_of x) ≡ true → (by : Holder) → is_by_nodes (x ∷ []) by ≡ true → is_there stands by ≡ true
node_there stands x there (OfHandle handle) e = refl
node_there stands x there (OfNode j) e = subst (λ r. stands (slot_of r) ≡ true) (one_in x j e) there

-- ---- the operation at its last line

module _ (sizes : Sizes) (account : Account) (bounds : AreBounds (bounds_for sizes account.steps)) (actor : ℕ) (o : Operation) (runs : running sizes account actor o) (why : Purpose) (i m f : Ref)
    (e : o.line ≡ line.Swap why (record { indirection = i; replaced = m; fresh = f; line = swap.Check })) where
  abbrev state : State
  state = state_of sizes account

  abbrev held : Held
  held = held_now sizes account

  claims : AllHold (IsLive state) state.heap (swap_wants (checking i m f))
  claims =
      first_hold (IsLive state) state.heap (swap_wants (checking i m f)) (purpose_wants why)
      (subst (λ l. AllHold (IsLive state) state.heap (line_wants state.limits.hash o.call o.access l)) e (line_stands sizes account bounds actor o runs))

  pub link_lives : IsLive (state_of sizes account) i
  link_lives = safe_of claims.0

  pub link_is : HasIndirection (state_of sizes account) i
  link_is = (live_used sizes account bounds i link_lives, meets_of claims.0)

  pub replaced_lives : IsLive (state_of sizes account) m
  replaced_lives = safe_of claims.1.0

  pub fresh_lives : IsLive (state_of sizes account) f
  fresh_lives = safe_of claims.1.1.0

  pub replaced_main : is_main_node (node_at (state_of sizes account).heap m) ≡ true
  replaced_main = meets_of claims.1.0

  pub fresh_main : is_main_node (node_at (state_of sizes account).heap f) ≡ true
  fresh_main = meets_of claims.1.1.0

  pub link_apart : (x : Ref) → is_main_node (node_at (state_of sizes account).heap x) ≡ true → i ≢ x
  link_apart x main same = both_kinds (node_at state.heap i) (meets_of claims.0) (ap (λ r. is_main_node (node_at state.heap r)) same ∙ main)

  -- ---- where it leads

  abbrev Known : Ref → Type 0
  Known = IsKnown (state_of sizes account) (λ n. n ≡ o.id)

  hand_has : (r : Ref) → Contains (refs_of_claims (swap_wants (checking i m f) ++ purpose_wants why)) r → Known r
  hand_has r c =
      from_operation actor o r runs refl
      (Contains-append_left (refs_of_claims (line_claims state o)) o.private r (subst (λ l. Contains (refs_of_claims (line_wants state.limits.hash o.call o.access l)) r) (sym e) c))

  replaced_known : Known m
  replaced_known = hand_has m (1, omega arith, refl)

  fresh_known : Known f
  fresh_known = hand_has f (2, omega arith, refl)

  -- ---- what it does to claims

  pub acts : action_of (state_of sizes account) o ≡ act.ReadPrev f
  acts = ap (line_action state o) e

  pub change_is : change_of (state_of sizes account) (held_now sizes account) (machine.Go actor) ≡ checks (is_owned (held_now sizes account) i m) (prev_at (state_of sizes account).heap f)
      (record { indirection = i; replaced = m; fresh = f; line = swap.Check })
  change_is = ap (change_going state held) runs ∙ ap (change_by state held o) acts ∙ ap (checks_at state held) e

  abbrev change : Change
  change = change_of state held (machine.Go actor)

  -- what it gives
  abbrev pub given : List Ref
  given = gives (change_of (state_of sizes account) (held_now sizes account) (machine.Go actor)) (held_now sizes account).claims

  pub takes_none : takes (change_of (state_of sizes account) (held_now sizes account) (machine.Go actor)) ≡ []
  takes_none = ap takes change_is ∙ (checks_plain (is_owned held i m) (prev_at state.heap f) (checking i m f)).0

  pub makes_none : (change_of (state_of sizes account) (held_now sizes account) (machine.Go actor)).made ≡ []
  makes_none = ap (λ (c : Change). c.made) change_is ∙ (checks_plain (is_owned held i m) (prev_at state.heap f) (checking i m f)).1

  -- where these nodes stand there it leaves no more to holders that are there, with what it gives
  module _ (stands : ℕ → Bool) (stand : (r : Ref) → IsLive (state_of sizes account) r → stands (slot_of r) ≡ true) where
    pub given_there : (c : Claim) → (change_of (state_of sizes account) (held_now sizes account) (machine.Go actor)).fate c ≡ Given → is_there stands c.by ≡ true
    given_there c is =
        let (x, its, which) = checks_given (is_owned held i m) (prev_at state.heap f) i m f c (sym (ap (λ (d : Change). d.fate c) change_is) ∙ is) in
        node_there stands x
        (elim which [
          | inl same ↦ subst (λ r. stands (slot_of r) ≡ true) (sym same) (stand i link_lives)
          | inr other ↦ elim other [
            | inl same ↦ subst (λ r. stands (slot_of r) ≡ true) (sym same) (stand m replaced_lives)
            | inr same ↦ subst (λ r. stands (slot_of r) ≡ true) (sym same) (stand f fresh_lives)
          ]
        ]) c.by its

    pub letting : IsLetting stands stands (IsLive (state_of sizes account)) (change_of (state_of sizes account) (held_now sizes account) (machine.Go actor))
    letting =
        subst (λ x. IsLetting stands stands (IsLive state) (change_going state held x)) (sym runs)
        (subst (λ a. IsLetting stands stands (IsLive state) (change_by state held o a)) (sym acts) (going_lets stands stands (λ j is. is) state held o (act.ReadPrev f) tt))

    pub held_then : (after : Account) → after.steps ≡ account.steps ++ machine.Go actor ∷ [] →
        held_now sizes after ≡ held_after (change_of (state_of sizes account) (held_now sizes account) (machine.Go actor))
        (held_now sizes account)
    held_then after steps = taken_now sizes account bounds actor o runs (subst GoesOn (sym acts) tt) after steps

    pub balance : (after : Account) → after.steps ≡ account.steps ++ machine.Go actor ∷ [] → (k : Ref) →
        claims_there stands k (held_now sizes after).claims + how_often k given ≤ claims_there stands k (held_now sizes account).claims
    balance after steps k =
        let all = there_balance k stands stands change letting.stays given_there held.claims in
        let now = ap (λ (h : Held). claims_there stands k h.claims) (held_then after steps) in
        let none = ap (how_often k) takes_none in
        let made = ap (how_often k) makes_none in
        omega (arith, all, now, none, made)

  -- ---- what it gives, by what it finds

  module _ (keys : KeysFit account.steps) where
    abbrev names_in : Ref → List Ref
    names_in x = refs_of_node (node_at state.heap x)

    one_given : (k : Ref) (b : Bool) → how_often k given ≡ once b → b ≡ true → Contains given k
    one_given k b often is = let one = often ∙ ap once is in often_has k given (omega (arith, one))

    found_once : (k : Ref) (b : Bool) → how_often k given ≡ once b → Contains given k → b ≡ true
    found_once k true often c = refl
    found_once k false often c = let some = has_often k given c in absurd (omega (arith, some, often))

    not_in : (ks : List Ref) (k : Ref) → (Contains ks k → ⊥) → is_in ks k ≡ false
    not_in ks k none = elim (cases_Bool (is_in ks k)) [ inl is ↦ absurd (none (among ks k is)) | inr isnt ↦ isnt ]

    both_so : (a b : Bool) → a ≡ true → b ≡ false → (a && not b) ≡ true
    both_so true false p q = refl
    both_so true true p q = absurd (true≢false q)
    both_so false b p q = absurd (true≢false (sym p))

    module _ (none : prev_at (state_of sizes account).heap f ≡ prev.None) where
      replaced : HasReplaced state actor i m f
      replaced = record { operation = o; runs = runs; why = why; checks = e; decided = none }

      -- the claim on it that ends, or is given
      pub replaced_held : Has (held_now sizes account) (OfNode i) m
      replaced_held = (link_holds (bounds_for sizes account.steps) account.steps actor i m f bounds keys).0 replaced

      module _ (own : is_owned (held_now sizes account) i m ≡ true) where
        pub own_ends : (change_of (state_of sizes account) (held_now sizes account) (machine.Go actor)).fate (record { by = OfNode i; on = m }) ≡ Ends
        own_ends =
            ap (λ (c : Change). c.fate (record { by = OfNode i; on = m }))
            (change_is ∙ ap (λ b. checks b (prev_at state.heap f) (checking i m f)) own ∙ ap (λ q. checks true q (checking i m f)) none)
            ∙ left_ends i m (link_apart m replaced_main)

        own_often : (k : Ref) → how_often k given ≡ once (names state m k && not (names state f k))
        own_often k = given_by_own (bounds_for sizes account.steps) account.steps actor i m f k bounds keys replaced own

        pub own_known : (k : Ref) → Contains given k → IsKnown (state_of sizes account) (λ n. n ≡ o.id) k
        own_known k c =
            named_known sizes account bounds (λ n. n ≡ o.id) m k replaced_known (live_used sizes account bounds m replaced_lives)
            (among (names_in m) k (both_true (names state m k) (not (names state f k)) (found_once k (names state m k && not (names state f k)) (own_often k) c)).0)

        pub own_has : (k : Ref) → Contains (refs_of_node (node_at (state_of sizes account).heap m)) k → (Contains (refs_of_node (node_at (state_of sizes account).heap f)) k → ⊥) → Contains given k
        own_has k its apart =
            one_given k (names state m k && not (names state f k)) (own_often k) (both_so (names state m k) (names state f k) (found_in (names_in m) k its) (not_in (names_in f) k apart))

      module _ (shared : is_owned (held_now sizes account) i m ≡ false) where
        shared_often : (k : Ref) → how_often k given ≡ once (m == k)
        shared_often k = given_by_shared (bounds_for sizes account.steps) account.steps actor i m f k bounds keys replaced shared

        pub shared_known : (k : Ref) → Contains given k → IsKnown (state_of sizes account) (λ n. n ≡ o.id) k
        shared_known k c = elim (cases_eq m k) [
          | inl same ↦ subst Known same replaced_known
          | inr differs ↦ absurd (true≢false (sym (found_once k (m == k) (shared_often k) c) ∙ ne_eqb m k differs))
        ]

        pub shared_has : Contains given m
        shared_has = one_given m (m == m) (shared_often m) (eq-eqb m m refl)

    module _ (some : prev_at (state_of sizes account).heap f ≢ prev.None) where
      failed : HasFailed state actor i m f
      failed = record { operation = o; runs = runs; why = why; checks = e; uncommitted = some }

      pub fresh_held : Has (held_now sizes account) (OfNode i) f
      fresh_held = (link_holds (bounds_for sizes account.steps) account.steps actor i m f bounds keys).1 failed

      refused : (b : Bool) (q : Prev) → q ≢ prev.None → checks b q (checking i m f) ≡ checks true (prev.Failed m) (checking i m f)
      refused b prev.None differs = absurd (differs refl)
      refused b (prev.Pending y) differs = refl
      refused b (prev.Failed y) differs = refl

      pub failed_ends : (change_of (state_of sizes account) (held_now sizes account) (machine.Go actor)).fate (record { by = OfNode i; on = f }) ≡ Ends
      failed_ends =
          ap (λ (c : Change). c.fate (record { by = OfNode i; on = f })) (change_is ∙ refused (is_owned held i m) (prev_at state.heap f) some) ∙ left_ends i f (link_apart f fresh_main)

      failed_often : (k : Ref) → how_often k given ≡ once (names state f k && not (takes_over state held i m k))
      failed_often k = given_by_failed (bounds_for sizes account.steps) account.steps actor i m f k bounds keys failed

      pub failed_known : (k : Ref) → Contains given k → IsKnown (state_of sizes account) (λ n. n ≡ o.id) k
      failed_known k c =
          named_known sizes account bounds (λ n. n ≡ o.id) f k fresh_known (live_used sizes account bounds f fresh_lives)
          (among (names_in f) k (both_true (names state f k) (not (takes_over state held i m k)) (found_once k (names state f k && not (takes_over state held i m k)) (failed_often k) c)).0)

      pub failed_has : (k : Ref) → Contains (refs_of_node (node_at (state_of sizes account).heap f)) k → takes_over (state_of sizes account) (held_now sizes account) i m k ≡ false → Contains given k
      failed_has k its apart =
          one_given k (names state f k && not (takes_over state held i m k)) (failed_often k) (both_so (names state f k) (takes_over state held i m k) (found_in (names_in f) k its) apart)
