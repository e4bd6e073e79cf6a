-- Which steps add no claim, and leave each claim to its holder, or let it go.
use Rattle.history.specs.declared.calls.Call.{Call}
use Rattle.history.specs.declared.calls.Call.TheVariants.{Close}
use Rattle.std.proofs.lemmas.Bool.{cases_eq, ne_eqb, true≢false}
use Rattle.std.proofs.Common.{arith, inl, inr, ◌≡◌, ◌⊎◌, ◌==◌, ◌&&◌, ◌||◌, ℕ, Bool, true, false, List, [], ◌∷◌, Contains, Option, Some, None, if◌then◌else◌, refl, sym, ap, subst, ◌∙◌}
use Rattle.machine_model.specs.Beneath.slot_arena.specs.declared.nodes.Prev.{Prev}
use Rattle.machine_model.specs.Beneath.slot_arena.specs.declared.nodes.Prev.TheVariants as prev
use Rattle.machine_model.specs.Beneath.slot_arena.specs.declared.refs.Ref.{Ref}
use Rattle.machine_model.specs.Beneath.slot_arena.specs.Heaps.{node_at, prev_at, refs_of_node, refs_of_option}
use Rattle.machine_model.specs.Beneath.slot_arena.specs.Refs.{slot_of}
use Rattle.machine_model.specs.declared.actions.Action.{Action}
use Rattle.machine_model.specs.declared.actions.Action.TheVariants as act
use Rattle.machine_model.specs.declared.copying.CopyLine.{CopyLine}
use Rattle.machine_model.specs.declared.copying.CopyLine.TheVariants as copy
use Rattle.machine_model.specs.declared.lines.Line.{Line}
use Rattle.machine_model.specs.declared.lines.Line.TheVariants as line
use Rattle.machine_model.specs.declared.operations.Operation.{Operation}
use Rattle.machine_model.specs.declared.reading.Swap.{Swap}
use Rattle.machine_model.specs.declared.reading.SwapLine.{SwapLine}
use Rattle.machine_model.specs.declared.reading.SwapLine.TheVariants as swap
use Rattle.machine_model.specs.declared.roots.Descriptor.{Descriptor}
use Rattle.machine_model.specs.Acting.{private_after}
use Rattle.machine_model.specs.Calls.{handle_of}
use Rattle.machine_model.specs.Reading.{Verdict, Commits, verdict}
use Rattle.machine_model.specs.States.{State, root_of, word_at}
use Rattle.machine_model.specs.Swapping.{is_carried_out}
use Rattle.proof_claims.specs.Changes.{at_check, carried, change_beginning, change_by, checks, checks_at, completes, decides, fate_frozen, fate_given_up, fate_left, fate_let_go, fate_taken_back}
use Rattle.proof_claims.specs.Changes.{finds, freezes, given_up, lets_root_go, no_change, outcome_at}
use Rattle.proof_claims.specs.Claims.{Has}
use Rattle.proof_claims.proofs.NewClaims.{kept_from}
use Rattle.proof_claims.specs.Held.{Change, Claim, Ends, Fate, Given, Held, Holder, OfHandle, OfNode, Stays, held_after, is_by_handle, is_by_nodes, is_by_some_handle, is_in, is_owned}
use Rattle.lock_free.specs.Claims.{is_there}
use Rattle.lock_free.proofs.Definition.{IsReading}
use Rattle.lock_free.specs.Live.{IsLive}
use Rattle.lock_free.proofs.HeldGone.{IsLetting, IsOneOf}
use Rattle.lock_free.proofs.LinesOwe.{NoneMade}

stays_same : (by to : Holder) → Stays by ≡ Stays to → to ≡ by
stays_same by to e = let same : by ≡ to = cc e in sym same

given_moves : (to : Holder) → Given ≡ Stays to → ⊥
given_moves to e = cc e

ends_moves : (to : Holder) → Ends ≡ Stays to → ⊥
ends_moves to e = cc e

-- a claim that stays with a holder stays with its own
abbrev Keeps : (Claim → Fate) → Type 0
Keeps fate = (c : Claim) (by : Holder) → fate c ≡ Stays by → by ≡ c.by

let_go_keeps : (goes : Bool) (c : Claim) (by : Holder) → fate_let_go goes c ≡ Stays by → by ≡ c.by
let_go_keeps true c by e = absurd (given_moves by e)
let_go_keeps false c by e = stays_same c.by by e

-- given, or ended, or kept
choice_keeps : (a b : Bool) (c : Claim) (by : Holder) → (if a then (if b then Ends else Given) else Stays c.by) ≡ Stays by → by ≡ c.by
choice_keeps true true c by e = absurd (ends_moves by e)
choice_keeps true false c by e = absurd (given_moves by e)
choice_keeps false b c by e = stays_same c.by by e

order_keeps : (a b : Bool) (c : Claim) (by : Holder) → (if a then Given else (if b then Ends else Stays c.by)) ≡ Stays by → by ≡ c.by
order_keeps true b c by e = absurd (given_moves by e)
order_keeps false true c by e = absurd (ends_moves by e)
order_keeps false false c by e = stays_same c.by by e

one_in : (p j : Ref) → is_in (p ∷ []) j ≡ true → p ≡ j
one_in p j e = elim (cases_eq p j) [ inl same ↦ same | inr differs ↦ absurd (true≢false (sym e ∙ ap (λ b. b || false) (ne_eqb p j differs))) ]

-- ---- what takes nothing

module _ (stands : ℕ → Bool) where
  -- it takes nothing that its seat held, and gives up nothing that it has made
  abbrev pub TakesNone : State → Operation → Action → Type 0
  TakesNone state operation (act.Make node) = ⊥
  TakesNone state operation (act.MakeRoot main) = ⊥
  TakesNone state operation (act.Publish i m f) = ⊥
  TakesNone state operation (act.Offer offer) = ⊥
  TakesNone state operation (act.Decide i f p told) = (stands (slot_of p) ≡ true) × IsLive state f
  TakesNone state operation action = Unit {0}

  -- nor does it make a node
  pub private_fewer : (state : State) (operation : Operation) (action : Action) → TakesNone state operation action → (k : Ref) → Contains (private_after state operation.private action) k →
      Contains operation.private k
  private_fewer state operation (act.Make node) h k c = absurd h
  private_fewer state operation (act.MakeRoot main) h k c = absurd h
  private_fewer state operation (act.Publish i m f) h k c = absurd h
  private_fewer state operation (act.Offer offer) h k c = absurd h
  private_fewer state operation action h k c = c

  pub none_made : (state : State) (operation : Operation) (action : Action) → TakesNone state operation action → NoneMade state action
  none_made state operation (act.Make node) h = absurd h
  none_made state operation (act.MakeRoot main) h = absurd h
  none_made state operation action h = tt

  pub reading_takes : (state : State) (operation : Operation) (action : Action) → IsReading action → TakesNone state operation action
  reading_takes state operation act.ReadRoot h = tt
  reading_takes state operation (act.ReadMain i) h = tt
  reading_takes state operation (act.ReadPrev m) h = tt
  reading_takes state operation (act.Look r) h = tt
  reading_takes state operation action h = absurd h

module _ (stands stands_then : ℕ → Bool) (fewer : (j : ℕ) → stands_then j ≡ true → stands j ≡ true) (Known : Ref → Type 0) where
  there_before : (by : Holder) → is_there stands_then by ≡ true → is_there stands by ≡ true
  there_before (OfHandle handle) e = e
  there_before (OfNode j) e = fewer (slot_of j) e

  lets_by : (change : Change) → Keeps change.fate → change.added ≡ [] → change.owned ≡ [] → IsLetting stands stands_then Known change
  lets_by change keeps added owned =
      record {
        stays = λ c by is there. there_before c.by (subst (λ h. is_there stands_then h ≡ true) (keeps c by is) there);
        moves = λ c by is. inl (keeps c by is);
        added = added;
        owned = owned;
      }

  pub nothing_lets : IsLetting stands stands_then Known no_change
  nothing_lets = lets_by no_change (λ c by e. stays_same c.by by e) refl refl

  pub giving_up_lets : (private : List Ref) → IsLetting stands stands_then Known (given_up private)
  giving_up_lets private = lets_by (given_up private) (λ c by e. choice_keeps (is_by_nodes private c.by) (is_in private c.on) c by e) refl refl

  root_lets : (handle : ℕ) (root : Ref) → IsLetting stands stands_then Known (lets_root_go handle root)
  root_lets handle root = lets_by (lets_root_go handle root) (λ c by e. let_go_keeps (is_by_handle handle c.by && (c.on == root)) c by e) refl refl

  -- ---- a SWAP's last step

  pub left_lets : (i m : Ref) → IsLetting stands stands_then Known (record no_change { fate = fate_left i m })
  left_lets i m = lets_by (record no_change { fate = fate_left i m }) (λ c by e. order_keeps (is_by_nodes (m ∷ []) c.by) (is_by_nodes (i ∷ []) c.by && (c.on == m)) c by e) refl refl

  checks_lets : (own : Bool) (p : Prev) (s : Swap) → IsLetting stands stands_then Known (checks own p s)
  checks_lets true prev.None s = left_lets s.indirection s.replaced
  checks_lets false prev.None s =
      lets_by (checks false prev.None s) (λ c by e. let_go_keeps (is_by_nodes (s.indirection ∷ []) c.by && (c.on == s.replaced)) c by e) refl refl
  checks_lets own (prev.Pending p) s = left_lets s.indirection s.fresh
  checks_lets own (prev.Failed p) s = left_lets s.indirection s.fresh

  at_check_lets : (l : SwapLine) (change : Change) → IsLetting stands stands_then Known change → IsLetting stands stands_then Known (at_check l change)
  at_check_lets swap.Check change h = h
  at_check_lets l change h = nothing_lets

  checking_lets : (state : State) (held : Held) (l : Line) → IsLetting stands stands_then Known (checks_at state held l)
  checking_lets state held (line.Swap why s) =
      at_check_lets s.line (checks (is_owned held s.indirection s.replaced) (prev_at state.heap s.fresh) s)
      (checks_lets (is_owned held s.indirection s.replaced) (prev_at state.heap s.fresh) s)
  checking_lets state held l = nothing_lets

  -- ---- what becomes of an offer

  carried_lets : (handle : ℕ) (offer : Descriptor) (second : Option Ref) (opens : Option ℕ) → IsLetting stands stands_then Known (carried handle offer second opens)
  carried_lets handle offer (Some second) opens = root_lets handle offer.root
  carried_lets handle offer None None = root_lets handle offer.root
  carried_lets handle offer None (Some opens) = nothing_lets

  back_lets : (made : List Ref) → IsLetting stands stands_then Known (record no_change { fate = fate_taken_back made })
  back_lets made = lets_by (record no_change { fate = fate_taken_back made }) (λ c by e. order_keeps (is_by_nodes made c.by) (is_by_some_handle c.by && is_in made c.on) c by e) refl refl

  finds_lets : (handle : ℕ) (offer : Descriptor) (done : Bool) → IsLetting stands stands_then Known (finds handle offer done)
  finds_lets handle offer true = carried_lets handle offer offer.second offer.opens
  finds_lets handle offer false = back_lets (offer.successor ∷ refs_of_option offer.second)

  copying_lets : (handle : ℕ) (offer : Descriptor) (l : CopyLine) (done : Bool) → IsLetting stands stands_then Known (outcome_at handle offer (line.Copy l) done)
  copying_lets handle offer (copy.Complete c) done = finds_lets handle offer done
  copying_lets handle offer l done = nothing_lets

  outcome_lets : (handle : ℕ) (offer : Descriptor) (l : Line) (done : Bool) → IsLetting stands stands_then Known (outcome_at handle offer l done)
  outcome_lets handle offer (line.Copy l) done = copying_lets handle offer l done
  outcome_lets handle offer l done = nothing_lets

  -- a handle's claim goes over to another handle
  frozen_by : (moves : Bool) (opens : ℕ) (c : Claim) (by : Holder) → (moves ≡ true → is_there stands c.by ≡ true) → (if moves then Stays (OfHandle opens) else Stays c.by) ≡ Stays by →
      is_there stands_then by ≡ true → is_there stands c.by ≡ true
  frozen_by true opens c by handle e there = handle refl
  frozen_by false opens c by handle e there = there_before c.by (subst (λ h. is_there stands_then h ≡ true) (stays_same c.by by e) there)

  frozen_moves : (moves : Bool) (opens : ℕ) (c : Claim) (by : Holder) → (if moves then Stays (OfHandle opens) else Stays c.by) ≡ Stays by → (by ≡ c.by) ⊎ IsOneOf Known by
  frozen_moves true opens c by e = inr (subst (IsOneOf Known) (sym (stays_same (OfHandle opens) by e)) tt)
  frozen_moves false opens c by e = inl (stays_same c.by by e)

  handle_there : (handle : ℕ) (b : Bool) (by : Holder) → (is_by_handle handle by && b) ≡ true → is_there stands by ≡ true
  handle_there handle b (OfHandle h) e = refl
  handle_there handle b (OfNode j) e = let wrong : ⊥ = cc e in absurd wrong

  freezing_lets : (handle opens : ℕ) (root : Ref) → IsLetting stands stands_then Known (record no_change { fate = fate_frozen handle opens root })
  freezing_lets handle opens root = record {
    stays = λ c by e there. frozen_by (is_by_handle handle c.by && (c.on == root)) opens c by (handle_there handle (c.on == root) c.by) e there;
    moves = λ c by e. frozen_moves (is_by_handle handle c.by && (c.on == root)) opens c by e;
    added = refl;
    owned = refl;
  }

  freezes_lets : (handle : ℕ) (offer : Descriptor) (second : Option Ref) (opens : Option ℕ) (otherwise : Change) → IsLetting stands stands_then Known otherwise →
      IsLetting stands stands_then Known (freezes handle offer second opens otherwise)
  freezes_lets handle offer None (Some opens) otherwise h = freezing_lets handle opens offer.root
  freezes_lets handle offer None None otherwise h = h
  freezes_lets handle offer (Some second) opens otherwise h = h

  completing_lets : (done : Bool) (handle : ℕ) (offer : Descriptor) (operation : Operation) → IsLetting stands stands_then Known (completes done handle offer operation)
  completing_lets true handle offer operation =
      freezes_lets handle offer offer.second offer.opens (outcome_at handle offer operation.line true) (outcome_lets handle offer operation.line true)
  completing_lets false handle offer operation = outcome_lets handle offer operation.line operation.is_marked

  -- ---- a commit

  over_by : (a b : Bool) (p f : Ref) (c : Claim) (by : Holder) → (a ≡ true → is_there stands c.by ≡ true) → (if a && b then Stays (OfNode f) else Stays c.by) ≡ Stays by →
      is_there stands_then by ≡ true → is_there stands c.by ≡ true
  over_by true b p f c by its e there = its refl
  over_by false b p f c by its e there = there_before c.by (subst (λ h. is_there stands_then h ≡ true) (stays_same c.by by e) there)

  over_moves : (a b : Bool) (f : Ref) (c : Claim) (by : Holder) → Known f → (if a && b then Stays (OfNode f) else Stays c.by) ≡ Stays by → (by ≡ c.by) ⊎ IsOneOf Known by
  over_moves true true f c by known e = inr (subst (IsOneOf Known) (sym (stays_same (OfNode f) by e)) known)
  over_moves true false f c by there e = inl (stays_same c.by by e)
  over_moves false b f c by there e = inl (stays_same c.by by e)

  node_there : (p : Ref) → stands (slot_of p) ≡ true → (by : Holder) → is_by_nodes (p ∷ []) by ≡ true → is_there stands by ≡ true
  node_there p there (OfHandle handle) e = refl
  node_there p there (OfNode j) e = subst (λ r. stands (slot_of r) ≡ true) (one_in p j e) there

  deciding_lets : (own : Bool) (v : Verdict) (names : List Ref) (f p : Ref) → (stands (slot_of p) ≡ true) × Known f → IsLetting stands stands_then Known (decides own v names f p)
  deciding_lets true Commits names f p there = record {
    stays = λ c by e later. over_by (is_by_nodes (p ∷ []) c.by) (is_in names c.on) p f c by (node_there p there.0 c.by) e later;
    moves = λ c by e. over_moves (is_by_nodes (p ∷ []) c.by) (is_in names c.on) f c by there.1 e;
    added = refl;
    owned = refl;
  }
  deciding_lets true v names f p there = nothing_lets
  deciding_lets false v names f p there = nothing_lets

  pub beginning_lets : (state : State) (call : Call) → IsLetting stands stands_then Known (change_beginning state call)
  beginning_lets state (Close handle) = root_lets handle (root_of (word_at state handle))
  beginning_lets state call = nothing_lets

-- ---- each step of an operation

module _ (stands stands_then : ℕ → Bool) (fewer : (j : ℕ) → stands_then j ≡ true → stands j ≡ true) where
  pub going_lets : (state : State) (held : Held) (operation : Operation) (action : Action) → TakesNone stands state operation action →
      IsLetting stands stands_then (IsLive state) (change_by state held operation action)
  going_lets state held operation (act.Make node) h = absurd h
  going_lets state held operation (act.MakeRoot main) h = absurd h
  going_lets state held operation (act.Publish i m f) h = absurd h
  going_lets state held operation (act.Offer offer) h = absurd h
  going_lets state held operation (act.Decide i f p told) h =
      deciding_lets stands stands_then fewer (IsLive state) (is_owned held i p) (verdict state.heap i f p told) (refs_of_node (node_at state.heap f)) f p h
  going_lets state held operation (act.ReadPrev main) h = checking_lets stands stands_then fewer (IsLive state) state held operation.line
  going_lets state held operation (act.Complete offer main) h =
      completing_lets stands stands_then fewer (IsLive state) (is_carried_out (word_at state (handle_of operation.call)) offer main) (handle_of operation.call) offer operation
  going_lets state held operation action h = nothing_lets stands stands_then fewer (IsLive state)

-- ---- what is given up

-- a claim that a node has then it had, and it is none of these
pub given_up_leaves : (private : List Ref) (held : Held) (j k : Ref) → Has (held_after (given_up private) held) (OfNode j) k → Has held (OfNode j) k × (is_in private j ≡ false)
given_up_leaves private held j k has = elim (kept_from (given_up private) held (OfNode j) k has) [
  | inl from ↦ by from.holder from.had (is_by_nodes private from.holder) refl from.fate
  | inr added ↦ absurd (omega (arith, added.1))
]
  where
    by : (holder : Holder) → Has held holder k → (own : Bool) → is_by_nodes private holder ≡ own → fate_given_up private (record { by = holder; on = k }) ≡ Stays (OfNode j) →
        Has held (OfNode j) k × (is_in private j ≡ false)
    by holder had true its fate =
        absurd (not_kept (is_in private k) (ap (λ b. if b then (if is_in private k then Ends else Given) else Stays holder) (sym its) ∙ fate))
      where
        not_kept : (b : Bool) → (if b then Ends else Given) ≡ Stays (OfNode j) → ⊥
        not_kept true e = ends_moves (OfNode j) e
        not_kept false e = given_moves (OfNode j) e
    by holder had false its fate =
        let same : OfNode j ≡ holder = stays_same holder (OfNode j) (ap (λ b. if b then (if is_in private k then Ends else Given) else Stays holder) (sym its) ∙ fate) in
        (subst (λ h. Has held h k) (sym same) had, ap (is_by_nodes private) same ∙ its)
