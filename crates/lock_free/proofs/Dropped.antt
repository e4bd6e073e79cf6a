-- Who gives up what it has made knows then what stood in the slots of these nodes, and holds what they named of others: the rule is kept.
use Rattle.history.specs.declared.calls.Call.{Call}
use Rattle.std.proofs.Common.{◌≡◌, ◌≢◌, ◌*◌, inl, inr, ℕ, Bool, true, List, [], ◌∷◌, ◌++◌, Contains, set, slice_index, refl, sym, ap, subst, ◌∙◌}
use Rattle.std.proofs.lemmas.Bool.{cases_eq, true≢false}
use Rattle.std.proofs.lemmas.List.{set-set}
use Rattle.std.proofs.lemmas.List.Elements.{Contains-append_cases, Contains-append_left, Contains-append_right}
use Rattle.std.proofs.lemmas.Option.{same_Some}
use mathlib.Core.Option.{some}
use lib.ListN.{get_elem?}
use Rattle.atomic_table.proofs.Lists.{set_here}
use Rattle.atomic_table.specs.Table as Table
use Rattle.trie_words.specs.Codes.{header_of}
use Rattle.trie_words.specs.declared.headers.Header.{Header}
use Rattle.trie_words.specs.declared.headers.Previous.{Previous}
use Rattle.trie_words.specs.declared.headers.Previous.TheVariants as previous
use Rattle.machine_model.specs.Beneath.slot_arena.specs.declared.nodes.Node.{Node}
use Rattle.machine_model.specs.Beneath.slot_arena.specs.declared.nodes.Node.TheVariants.{Branch, Indirection, Single, Tomb, List as Listed}
use Rattle.machine_model.specs.Beneath.slot_arena.specs.declared.nodes.Prev.{Prev}
use Rattle.machine_model.specs.Beneath.slot_arena.specs.declared.nodes.Slot.{Slot}
use Rattle.machine_model.specs.Beneath.slot_arena.specs.declared.refs.Ref.{Ref}
use Rattle.machine_model.specs.Beneath.slot_arena.specs.Heaps.{node_at, node_of, stored}
use Rattle.machine_model.specs.Beneath.slot_arena.specs.Refs.{slot_of}
use Rattle.machine_model.specs.declared.lines.Line.{Line}
use Rattle.machine_model.specs.declared.lines.Line.TheVariants as line
use Rattle.machine_model.specs.declared.lines.Purpose.{Purpose}
use Rattle.machine_model.specs.declared.operations.Operation.{Operation}
use Rattle.machine_model.specs.declared.reading.Swap.{Swap}
use Rattle.machine_model.specs.declared.reading.SwapLine.TheVariants as swap
use Rattle.machine_model.specs.declared.steps.Step.{Step}
use Rattle.machine_model.specs.Keys.{FitsKey}
use Rattle.machine_model.specs.States.{State}
use Rattle.machine_model.proofs.Grown.{node_standing}
use Rattle.proof_claims.specs.Changes.{change_of, given_up}
use Rattle.proof_claims.specs.Held.{held_after}
use Rattle.proof_memory.specs.Laws.{IsInUse}
use Rattle.proof_memory.proofs.Claims.Uses.{meets_of}
use Rattle.proof_memory.specs.Wants.{is_main_node}
use Rattle.lock_free.specs.declared.accounts.Account.{Account}
use Rattle.lock_free.specs.declared.rules.View.{View}
use Rattle.lock_free.specs.Accounts.{place_at, place_of, running, state_of, IsOfOther}
use Rattle.lock_free.specs.Claims.{held_now}
use Rattle.lock_free.specs.GivingUp.{HasDropped, IsOverNone, LeavesMade}
use Rattle.lock_free.specs.LeftNodes.{MayBeNamed}
use Rattle.lock_free.specs.LettingGo.{HasItself}
use Rattle.lock_free.specs.Live.{IsLive, from_operation, line_claims, refs_of_claims}
use Rattle.lock_free.specs.Loading.{now, seen, IsSound}
use Rattle.lock_free.specs.Nodes.{class_of, Has, InTable, IsAhead, SaysHeader, SaysPrevious, StandsAs, ahead, decided, failed, pending}
use Rattle.lock_free.specs.Places.{words_in, words_of}
use Rattle.lock_free.specs.Rules.{AreDrafts, AreOwed, AreRetired, IsKept}
use Rattle.lock_free.specs.Steps.{Leads}
use Rattle.lock_free.proofs.Abandoned.{abandon_kept, abandon_sound, abandoned, owed_abandoned}
use Rattle.lock_free.proofs.Asked.{is_one_of}
use Rattle.lock_free.proofs.Assembling.{within}
use Rattle.lock_free.proofs.Framing.{class_small}
use Rattle.lock_free.proofs.Geometry.{IsWordOf}
use Rattle.lock_free.proofs.GivenBack.{given_free, still_free}
use Rattle.lock_free.proofs.HoldsGifts.{holds_given_up}
use Rattle.lock_free.proofs.Idle.{empty_has}
use Rattle.lock_free.proofs.Keeping.{with_step}
use Rattle.lock_free.proofs.Knowing.{from_has, from_is, knowing, knowing_kept, knowing_sound, words_from}
use Rattle.lock_free.proofs.LeftOn.{words_on}
use Rattle.lock_free.proofs.LeftWords.{header_back_there, left_names, left_words}
use Rattle.lock_free.proofs.NamesStay.{swap_live}
use Rattle.lock_free.proofs.OneStep.Found.{live_used, slot_at}
use Rattle.lock_free.proofs.OwedStay.{owed_same}
use Rattle.lock_free.proofs.Pools.{first_there, more_there, one_there}

-- ---- headers

header_in : (account : Account) (state : State) (has : Has) (name k : ℕ) (slot : Slot) (node : Node) → is_main_node node ≡ true → StandsAs account state has name k slot node →
    (word : ℕ) × has (2 * name) word × SaysHeader account state k slot word
header_in account state has name k slot (Branch bitmap entries) e h = h.0
header_in account state has name k slot (Tomb single) e h = h
header_in account state has name k slot (Listed singles) e h = h.0
header_in account state has name k slot (Indirection generation main) e h = absurd (true≢false (sym e))
header_in account state has name k slot (Single key value) e h = absurd (true≢false (sym e))

-- what is about to be swapped in says over which node
not_ahead : (account : Account) (state : State) (k : ℕ) (p : Prev) (says : Previous) → SaysPrevious account state k p says → says ≡ previous.None → (i a f : Ref) → IsAhead state i a f →
    slot_of f ≡ k → ⊥
not_ahead account state k p says (decided none) e = none
not_ahead account state k p says (ahead j b g own h its owned) e = let wrong : ⊥ = cc e in absurd wrong
not_ahead account state k p says (pending q own over) e = let wrong : ⊥ = cc e in absurd wrong
not_ahead account state k p says (failed q own over) e = let wrong : ⊥ = cc e in absurd wrong

module _ (v : View) (s : Table.State Call View) (kept : IsKept v.sizes s) (id : ℕ) (at : get_elem? s.views id ≡ some v) (p next : Operation)
    (mark : Bool) (runs : running v.sizes kept.account v.actor (record p { is_marked = mark })) (taken : Step) (fits : FitsKey taken)
    (its : (a : ℕ) → a ≢ v.actor → IsOfOther a taken)
    (leads : Leads v.sizes kept.account (with_step kept.account taken) v.actor (is_one_of p.private) next) (same_call : next.call ≡ p.call) (same_opens : next.opens ≡ p.opens)
    (none : next.private ≡ [])
    (gives_up : held_now v.sizes (with_step kept.account taken) ≡ held_after (given_up p.private) (held_now v.sizes kept.account))
    (changes : change_of (state_of v.sizes kept.account) (held_now v.sizes kept.account) taken ≡ given_up p.private)
    (first_line : (why : Purpose) (w : Swap) → p.line ≡ line.Swap why w → w.line ≡ swap.Publish) where
  abbrev there : Account
  there = kept.account

  abbrev state : State
  state = state_of v.sizes there

  abbrev o : Operation
  o = record p { is_marked = mark }

  abbrev bare : View
  bare = abandoned v s kept id at o next runs taken fits its leads same_call same_opens none gives_up changes

  -- ---- the nodes

  lives : (x : Ref) → Contains p.private x → IsLive state x
  lives x c = from_operation v.actor o x runs tt (Contains-append_right (refs_of_claims (line_claims state o)) p.private x c)

  used : (x : Ref) → Contains p.private x → IsInUse state.heap x
  used x c = live_used v.sizes there kept.bounds x (lives x c)

  stood : (x : Ref) → Contains p.private x → kept.stands (slot_of x) ≡ true
  stood x c = kept.nodes.live x (lives x c)

  its_class : (x : Ref) (c : Contains p.private x) → class_of (node_at state.heap x) ≡ class_of (used x c).0.node
  its_class x c = ap class_of (node_standing state.heap x (used x c).0 (used x c).1)

  -- as it stood then
  abbrev then : View
  then = seen v there

  -- ---- their words

  abbrev words_of_node : Ref → List (ℕ × ℕ)
  words_of_node x = words_from s.words (2 * place_of there x) (words_in (class_of (node_at state.heap x)))

  pub known_of : List Ref → List (ℕ × ℕ)
  known_of [] = []
  known_of (x ∷ xs) = words_of_node x ++ known_of xs

  was_known : (xs : List Ref) (d : ℕ × ℕ) → Contains (known_of xs) d → (x : Ref) × Contains xs x × Contains (words_of_node x) d
  unfolding known_of
  was_known [] d c = absurd (empty_has d c)
  was_known (x ∷ xs) d c = elim (Contains-append_cases (words_of_node x) (known_of xs) d c) [
    | inl first ↦ (x, first_there x xs, first)
    | inr more ↦ (let h = was_known xs d more in (h.0, more_there x xs h.0 h.1, h.2))
  ]

  in_known : (xs : List Ref) (x : Ref) (d : ℕ × ℕ) → Contains xs x → Contains (words_of_node x) d → Contains (known_of xs) d
  unfolding known_of
  in_known [] x d c has = absurd (empty_has x c)
  in_known (y ∷ xs) x d c has = elim (Contains-append_cases (y ∷ []) xs x c) [
    | inl first ↦ Contains-append_left (words_of_node y) (known_of xs) d (subst (λ z. Contains (words_of_node z) d) (one_there y x first) has)
    | inr more ↦ Contains-append_right (words_of_node y) (known_of xs) d (in_known xs x d more has)
  ]

  abbrev drafts_then : List (ℕ × ℕ)
  drafts_then = known_of p.private ++ v.drafts

  abbrev pub dropped : View
  dropped = knowing bare drafts_then

  says : (d : ℕ × ℕ) → Contains drafts_then d → AreDrafts s.words bare d
  says d c = elim (Contains-append_cases (known_of p.private) v.drafts d c) [
    | inl new ↦
        (let h = was_known p.private d new in
        let x = h.0 in
        let y = from_is s.words (2 * place_of there x) (words_in (class_of (node_at state.heap x))) d h.2 in
        let class = class_of (node_at state.heap x) in
        (y.0, (class, place_of there x, (class_small (node_at state.heap x), given_free state there p.private v.pool x h.1), y.1, y.2)))
    | inr old ↦
        (let y = (kept.seats id v at).drafts d old in
        (y.0, (y.1.0, y.1.1, (y.1.2.0, still_free state there p.private v.pool y.1.0 y.1.1 y.1.2.0 y.1.2.1), y.1.3, y.1.4)))
  ]

  -- ---- the rule

  abbrev middle : Table.State Call View
  middle = record { words = s.words; homes = s.homes; views = set s.views id bare }

  at_middle : get_elem? (set s.views id bare) id ≡ some bare
  at_middle = set_here s.views id bare (within s.views id v at)

  bare_kept : IsKept v.sizes middle
  bare_kept = abandon_kept v s kept id at o next runs taken fits its leads same_call same_opens none gives_up changes

  pub dropped_kept : IsKept v.sizes (record { words = s.words; homes = s.homes; views = set s.views id dropped })
  dropped_kept =
      subst (λ us. IsKept v.sizes (record { words = s.words; homes = s.homes; views = us })) (set-set s.views id bare dropped)
      (knowing_kept v.sizes middle bare_kept id bare at_middle drafts_then says)

  pub dropped_sound : IsSound (words_of v.sizes) dropped
  dropped_sound = knowing_sound (words_of v.sizes) bare drafts_then (abandon_sound v s kept id at o next runs taken fits its leads same_call same_opens none gives_up changes)

  pub owed_dropped : AreRetired v.sizes s.words s.views → AreOwed s.views → AreOwed (set s.views id dropped)
  owed_dropped retired owed =
      subst AreOwed (set-set s.views id bare dropped)
      (owed_same (set s.views id bare) id bare at_middle dropped refl refl refl
      (owed_abandoned v s kept id at o next runs taken fits its leads same_call same_opens none gives_up changes retired owed))

  -- ---- what is told

  slots_same : (r : Ref) → node_at (now dropped).heap r ≡ node_at state.heap r
  unfolding node_at stored
  slots_same r = ap node_of (leads.nodes (slot_of r))

  has : (x : Ref) (c : Contains p.private x) (i : ℕ) → IsWordOf (class_of (used x c).0.node) (place_of there x) i → Contains drafts_then (i, slice_index s.words i)
  has x c i word =
      Contains-append_left (known_of p.private) v.drafts (i, slice_index s.words i)
      (in_known p.private x (i, slice_index s.words i) c
      (subst (λ n. Contains (words_from s.words (2 * place_of there x) (words_in n)) (i, slice_index s.words i)) (sym (its_class x c))
      (from_has s.words (2 * place_of there x) (words_in (class_of (used x c).0.node)) i word.low word.high)))

  left_made : (x : Ref) → Contains p.private x → LeavesMade then x dropped
  left_made x c =
      let u = used x c in
      record {
        slot = u.0;
        is = sym (node_standing state.heap x u.0 u.1);
        left = record {
          used = leads.nodes (slot_of x) ∙ slot_at state.heap x u.0 u.1;
          place = refl;
          words =
              words_on (record dropped { account = there; sizes = v.sizes }) dropped refl (λ r. refl) slots_same (place_of there x) u.0.node
              (left_words v s kept x u (stood x c) dropped (has x c));
          names = λ k names.
              (let h = left_names v s kept x u (stood x c) k names in record {
                slot = h.0.0;
                used = leads.nodes (slot_of k) ∙ slot_at state.heap k h.0.0 h.0.1;
                kind = subst (MayBeNamed u.0.node) (node_standing state.heap k h.0.0 h.0.1) h.1;
                shared = λ q runs_q mine. empty_has k (subst (λ ks. Contains ks k) (sym (ap (λ (z : Operation). z.private) (same_Some next q (sym leads.own ∙ runs_q))) ∙ none) mine);
              });
        };
      }

  module _ (x : Ref) (c : Contains p.private x) (main : is_main_node (node_at state.heap x) ≡ true) where
    abbrev slot : Slot
    slot = (used x c).0

    is_main : is_main_node slot.node ≡ true
    is_main = ap is_main_node (sym (node_standing state.heap x (used x c).0 (used x c).1)) ∙ main

    header : (word : ℕ) × InTable s.words (2 * place_at there (slot_of x)) word × SaysHeader there state (slot_of x) slot word
    header =
        header_in there state (InTable s.words) (place_at there (slot_of x)) (slot_of x) slot slot.node is_main
        (kept.nodes.written (slot_of x) slot (stood x c, slot_at state.heap x (used x c).0 (used x c).1))

    module _ (found : ℕ) (known : Contains drafts_then (2 * place_of there x, found)) (no_previous : (header_of found).previous ≡ previous.None) where
      same_word : header.0 ≡ found
      same_word = sym header.1 ∙ (says (2 * place_of there x, found) known).0

      says_none : header.2.previous ≡ previous.None
      says_none = sym (ap (λ (h : Header). h.previous) (header_back_there v s kept x (used x c) (stood x c) header.0 header.2)) ∙ ap (λ n. (header_of n).previous) same_word ∙ no_previous

      not_fresh : (why : Purpose) (w : Swap) → p.line ≡ line.Swap why w → w.fresh ≡ x → ⊥
      not_fresh why w on same =
          not_ahead there state (slot_of x) slot.prev header.2.previous header.2.is_previous says_none w.indirection w.replaced w.fresh
          (record {
            actor = v.actor;
            operation = o;
            runs = runs;
            why = why;
            on = on ∙ ap (λ l. line.Swap why (record { indirection = w.indirection; replaced = w.replaced; fresh = w.fresh; line = l })) (first_line why w on);
          })
          (ap slot_of same)

  -- a SWAP's fresh node is a main node
  fresh_main : (why : Purpose) (w : Swap) → p.line ≡ line.Swap why w → is_main_node (node_at state.heap w.fresh) ≡ true
  fresh_main why w on = meets_of (swap_live v.sizes there kept.bounds v.actor o runs why w on).1.1.0

  itself : (x : Ref) → Contains p.private x → IsOverNone then x dropped → (k : Ref) → HasItself then p.line x k
  itself x c over k = by p.line refl
    where
      by : (l : Line) → p.line ≡ l → HasItself then l x k
      by (line.Swap why w) on = elim (cases_eq w.fresh x) [
        | inl same ↦
            (let main = subst (λ y. is_main_node (node_at state.heap y) ≡ true) same (fresh_main why w on) in
            let (found, known, none_before) = over main in
            absurd (not_fresh x c main found known none_before why w on same))
        | inr differs ↦ inl differs
      ]
      by l on = tt

  pub has_dropped : HasDropped (seen v kept.account) p.private p.line dropped
  has_dropped = record { left = left_made; itself = itself; holds = holds_given_up v s kept o runs }
