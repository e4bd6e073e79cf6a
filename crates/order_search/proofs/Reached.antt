-- What a world may have, by the handles and the keys of the operations that lead to it.
use Rattle.std.proofs.Common.{◌≡◌, ℕ, inl, inr, Bool, true, false, cond, List, [], ◌∷◌, Option, Some, None, option_and_then, IfSome, if◌then◌else◌, nat_cmp, refl, sym, ap, ◌∙◌, subst}
use Rattle.std.specs.Cmp.{nat_cmp_total}
use Rattle.std.specs.FinMap as map
use Rattle.std.specs.FinMap.{get-empty, get-remove}
use Rattle.std.proofs.lemmas.Bool.{cases_order}
use Rattle.std.proofs.lemmas.Option.{none-some, same_Some, some_pair_parts}
use Rattle.order_search.specs.Vocabulary.{Access, Writable, ReadOnly, Call, Get, Put, PutIfAbsent, Replace, ReplaceIf, Remove, RemoveIf, Clear, Snapshot, Freeze, Close, Entries, Count, Reply}
use Rattle.order_search.specs.Vocabulary.{Event, KeyMap, HandleState, HandleMap, first_world, effect, map_of, with_access, naming, Answered, RecallsEach, Replays}
use Rattle.history.specs.declared.replies.Reply.TheVariants as reply
use Rattle.history.specs.Effects.{read_only_map_of}
use Rattle.history.specs.Histories.{Operation}
use Rattle.order_search.specs.declared.cells.Cell.{Cell}
use Rattle.order_search.specs.Cells.{cell_of, value_at, DifferIn}
use Rattle.order_search.specs.States.{IsListed, IsOver}
use Rattle.order_search.proofs.Differing.{apart_of, at_same, at_other, call_differs, cell_at, reads}

-- the handles that are there are among these, and the keys of their maps among those
pub record Within (handles keys : List ℕ) (w : HandleMap) : Type 0 where
  pub handle : (h : ℕ) (s : HandleState) → map.get w h ≡ Some s → IsListed handles h
  pub key : (h k x : ℕ) (s : HandleState) → map.get w h ≡ Some s → map.get s.pairs k ≡ Some x → IsListed keys k

pub of_access : (o : Option HandleState) (a : Access) → option_and_then (λ s. Some s.access) o ≡ Some a → (s : HandleState) × (o ≡ Some s)
of_access None a is = absurd (none-some a is)
of_access (Some s) a is = (s, refl)

pub of_value : (o : Option HandleState) (k x : ℕ) → option_and_then (λ s. map.get s.pairs k) o ≡ Some x → (s : HandleState) × (o ≡ Some s) × (map.get s.pairs k ≡ Some x)
of_value None k x is = absurd (none-some x is)
of_value (Some s) k x is = (s, refl, is)

within_naming : (handles keys : List ℕ) (w : HandleMap) (n : ℕ) (access : Access) (m : KeyMap) → Within handles keys w → IsListed handles n
    → ((k x : ℕ) → map.get m k ≡ Some x → IsListed keys k) → Within handles keys (naming w n access m)
within_naming handles keys w n access m within listed of_m =
    let state : HandleState = record { access = access; pairs = m } in
    record {
      handle = λ h s at. elim (cases_order h n) [
        | inl here ↦ subst (λ x. IsListed handles x) (sym here) listed
        | inr apart ↦ within.handle h s (sym (at_other w n state h (apart_of h n apart)) ∙ at)
      ];
      key = λ h k x s at has. elim (cases_order h n) [
        | inl here ↦
            let same : state ≡ s = same_Some state s (sym (at_same w n state) ∙ subst (λ q. map.get (naming w n access m) q ≡ Some s) here at) in
            of_m k x (subst (λ (t : HandleState). map.get t.pairs k ≡ Some x) (sym same) has)
        | inr apart ↦ within.key h k x s (sym (at_other w n state h (apart_of h n apart)) ∙ at) has
      ];
    }

of_cond : {X : Type 0} (b : Bool) (o : Option X) (x : X) → cond b None o ≡ Some x → o ≡ Some x
of_cond true o x at = absurd (none-some x at)
of_cond false o x at = at

still : (w : HandleMap) (n h : ℕ) (s : HandleState) → map.get (map.remove w n) h ≡ Some s → map.get w h ≡ Some s
still w n h s at = of_cond _ (map.get w h) s (sym (get-remove nat_cmp_total w n h) ∙ at)

within_removed : (handles keys : List ℕ) (w : HandleMap) (n : ℕ) → Within handles keys w → Within handles keys (map.remove w n)
within_removed handles keys w n within =
    record { handle = λ h s at. within.handle h s (still w n h s at); key = λ h k x s at has. within.key h k x s (still w n h s at) has }

-- a call on a key
within_cell : (handles keys : List ℕ) (cell : Cell) (v w : HandleMap) → Within handles keys v → IsListed keys cell.key → DifferIn cell v w → Within handles keys w
within_cell handles keys cell v w within listed differ = record {
  handle = λ h s at.
      let there = of_access (map.get v h) s.access (sym (differ.handles h) ∙ ap (λ (o : Option HandleState). option_and_then (λ s. Some s.access) o) at) in
      within.handle h there.0 there.1;
  key = λ h k x s at has. elim (cases_order k cell.key) [
    | inl same ↦ subst (λ q. IsListed keys q) (sym same) listed
    | inr apart ↦
        let value : value_at w h k ≡ Some x = ap (λ (o : Option HandleState). option_and_then (λ s. map.get s.pairs k) o) at ∙ has in
        let there = of_value (map.get v h) k x (sym (differ.values h k (λ both. apart_of k cell.key apart both.1)) ∙ value) in
        within.key h k x there.0 there.1 there.2
  ];
}

none_of_empty : {X : Type 0} (k : ℕ) (x : X) → map.get (map.empty {X = X} {R = nat_cmp}) k ≡ Some x → ⊥
none_of_empty k x at = none-some x (sym (get-empty nat_cmp k) ∙ at)

-- a clear
cleared_state : (handles keys : List ℕ) (v w : HandleMap) (h : ℕ) (answer : Reply) → Within handles keys v → (access : Access) (m : KeyMap) → map.get v h ≡ Some (record { access = access; pairs = m })
    → option_and_then {U = Reply × HandleMap} (λ m. Some (reply.Cleared, naming v h Writable map.empty)) (with_access Writable access m) ≡ Some (answer, w) → Within handles keys w
cleared_state handles keys v w h answer within Writable m is gives =
    let same = some_pair_parts reply.Cleared answer (naming v h Writable map.empty) w gives in
    subst (λ x. Within handles keys x) same.1
    (within_naming handles keys v h Writable map.empty within (within.handle h (record { access = Writable; pairs = m }) is) (λ k x at. absurd (none_of_empty k x at)))
cleared_state handles keys v w h answer within ReadOnly m is gives = let wrong : ⊥ = cc gives in absurd wrong

cleared : (handles keys : List ℕ) (v w : HandleMap) (h : ℕ) (answer : Reply) → Within handles keys v → (o : Option HandleState) → map.get v h ≡ o
    → option_and_then {U = Reply × HandleMap} (λ m. Some (reply.Cleared, naming v h Writable map.empty)) (option_and_then {U = KeyMap} (λ s. with_access Writable s.access s.pairs) o)
    ≡ Some (answer, w) → Within handles keys w
cleared handles keys v w h answer within None is gives = let wrong : ⊥ = cc gives in absurd wrong
cleared handles keys v w h answer within (Some s) is gives = cleared_state handles keys v w h answer within s.access s.pairs is gives

-- a copy
copied_if : (b : Bool) (v w : HandleMap) (n : ℕ) (access : Access) (m : KeyMap) (answer : Reply)
    → if◌then◌else◌ {A = Option (Reply × HandleMap)} b None (Some (reply.Opened n, naming v n access m)) ≡ Some (answer, w) → naming v n access m ≡ w
copied_if true v w n access m answer gives = let wrong : ⊥ = cc gives in absurd wrong
copied_if false v w n access m answer gives = (some_pair_parts (reply.Opened n) answer (naming v n access m) w gives).1

abbrev copy_to : HandleMap → Option ℕ → Access → KeyMap → Option (Reply × HandleMap)
copy_to v opens access m = option_and_then (λ n. if map.contains_key v n then None else Some (reply.Opened n, naming v n access m)) opens

copied_opens : (handles keys : List ℕ) (v w : HandleMap) (h : ℕ) (opens : Option ℕ) (access : Access) (answer : Reply) (s : HandleState) → Within handles keys v
    → IfSome opens (λ n. IsListed handles n) → map.get v h ≡ Some s → copy_to v opens access s.pairs ≡ Some (answer, w) → Within handles keys w
copied_opens handles keys v w h None access answer s within opened is gives = let wrong : ⊥ = cc gives in absurd wrong
copied_opens handles keys v w h (Some n) access answer s within opened is gives =
    subst (λ x. Within handles keys x) (copied_if (map.contains_key v n) v w n access s.pairs answer gives)
    (within_naming handles keys v n access s.pairs within opened (λ k x has. within.key h k x s is has))

copied_state : (handles keys : List ℕ) (v w : HandleMap) (h : ℕ) (opens : Option ℕ) (access : Access) (answer : Reply) → Within handles keys v → IfSome opens (λ n. IsListed handles n)
    → (own : Access) (m : KeyMap) → map.get v h ≡ Some (record { access = own; pairs = m })
    → option_and_then {U = Reply × HandleMap} (λ m. copy_to v opens access m) (with_access Writable own m) ≡ Some (answer, w) → Within handles keys w
copied_state handles keys v w h opens access answer within opened Writable m is gives =
    copied_opens handles keys v w h opens access answer (record { access = Writable; pairs = m }) within opened is gives
copied_state handles keys v w h opens access answer within opened ReadOnly m is gives = let wrong : ⊥ = cc gives in absurd wrong

copied : (handles keys : List ℕ) (v w : HandleMap) (h : ℕ) (opens : Option ℕ) (access : Access) (answer : Reply) → Within handles keys v → IfSome opens (λ n. IsListed handles n)
    → (o : Option HandleState) → map.get v h ≡ o
    → option_and_then {U = Reply × HandleMap} (λ m. copy_to v opens access m) (option_and_then {U = KeyMap} (λ s. with_access Writable s.access s.pairs) o) ≡ Some (answer, w) → Within handles keys w
copied handles keys v w h opens access answer within opened None is gives = let wrong : ⊥ = cc gives in absurd wrong
copied handles keys v w h opens access answer within opened (Some s) is gives = copied_state handles keys v w h opens access answer within opened s.access s.pairs is gives

-- a close
closed : (handles keys : List ℕ) (v w : HandleMap) (h : ℕ) (answer : Reply) → Within handles keys v → (o : Option KeyMap)
    → option_and_then {U = Reply × HandleMap} (λ m. Some (reply.Closed, map.remove v h)) o ≡ Some (answer, w) → Within handles keys w
closed handles keys v w h answer within None gives = let wrong : ⊥ = cc gives in absurd wrong
closed handles keys v w h answer within (Some m) gives =
    subst (λ x. Within handles keys x) (some_pair_parts reply.Closed answer (map.remove v h) w gives).1 (within_removed handles keys v h within)

-- a call that only reads
read : (handles keys : List ℕ) (v w : HandleMap) → Within handles keys v → w ≡ v → Within handles keys w
read handles keys v w within same = subst (λ x. Within handles keys x) (sym same) within

within_effect : (hash : ℕ → ℕ) (handles keys : List ℕ) (call : Call) (opens : Option ℕ) (v w : HandleMap) (answer : Reply) → effect hash v call opens ≡ Some (answer, w)
    → IfSome opens (λ n. IsListed handles n) → IfSome (cell_of call) (λ cell. IsListed keys cell.key) → Within handles keys v → Within handles keys w
within_effect hash handles keys (Get h k) opens v w answer leads opened on within =
    within_cell handles keys (cell_at h k) v w within on (call_differs hash (Get h k) opens (cell_at h k) v w answer refl leads)
within_effect hash handles keys (Put h k x) opens v w answer leads opened on within =
    within_cell handles keys (cell_at h k) v w within on (call_differs hash (Put h k x) opens (cell_at h k) v w answer refl leads)
within_effect hash handles keys (PutIfAbsent h k x) opens v w answer leads opened on within =
    within_cell handles keys (cell_at h k) v w within on (call_differs hash (PutIfAbsent h k x) opens (cell_at h k) v w answer refl leads)
within_effect hash handles keys (Replace h k x) opens v w answer leads opened on within =
    within_cell handles keys (cell_at h k) v w within on (call_differs hash (Replace h k x) opens (cell_at h k) v w answer refl leads)
within_effect hash handles keys (ReplaceIf h k a b) opens v w answer leads opened on within =
    within_cell handles keys (cell_at h k) v w within on (call_differs hash (ReplaceIf h k a b) opens (cell_at h k) v w answer refl leads)
within_effect hash handles keys (Remove h k) opens v w answer leads opened on within =
    within_cell handles keys (cell_at h k) v w within on (call_differs hash (Remove h k) opens (cell_at h k) v w answer refl leads)
within_effect hash handles keys (RemoveIf h k x) opens v w answer leads opened on within =
    within_cell handles keys (cell_at h k) v w within on (call_differs hash (RemoveIf h k x) opens (cell_at h k) v w answer refl leads)
within_effect hash handles keys (Clear h) opens v w answer leads opened on within = cleared handles keys v w h answer within (map.get v h) refl leads
within_effect hash handles keys (Snapshot h) opens v w answer leads opened on within = copied handles keys v w h opens Writable answer within opened (map.get v h) refl leads
within_effect hash handles keys (Freeze h) opens v w answer leads opened on within = copied handles keys v w h opens ReadOnly answer within opened (map.get v h) refl leads
within_effect hash handles keys (Close h) opens v w answer leads opened on within = closed handles keys v w h answer within (map_of v h) leads
within_effect hash handles keys (Entries h) opens v w answer leads opened on within =
    read handles keys v w within (reads v w answer (λ m. reply.Pairs (map.entries m)) (read_only_map_of v h) leads)
within_effect hash handles keys (Count h) opens v w answer leads opened on within =
    read handles keys v w within (reads v w answer (λ m. reply.Count (map.len m)) (read_only_map_of v h) leads)

within_nothing : (handles keys : List ℕ) → Within handles keys map.empty
within_nothing handles keys = record { handle = λ h s at. absurd (none_of_empty h s at); key = λ h k x s at. absurd (none_of_empty h s at) }

-- the first world
pub within_first : (history : List Event) (handles keys : List ℕ) → IsOver history handles keys → Within handles keys first_world
within_first history handles keys over = within_naming handles keys map.empty 0 Writable map.empty (within_nothing handles keys) over.first (λ k x at. absurd (none_of_empty k x at))

-- the world to which operations lead
pub within_replays : (hash : ℕ → ℕ) (history : List Event) (handles keys : List ℕ) (ids : List ℕ) (calls : List Answered) (v w : HandleMap) → IsOver history handles keys
    → RecallsEach history ids calls → Replays hash calls v w → Within handles keys v → Within handles keys w
within_replays hash history handles keys [] [] v w over each leads within = subst (λ x. Within handles keys x) (sym leads) within
within_replays hash history handles keys [] (x ∷ xs) v w over each leads within = absurd each
within_replays hash history handles keys (id ∷ ids) [] v w over each leads within = absurd each
within_replays hash history handles keys (id ∷ ids) (x ∷ xs) v w over each leads within =
    let operation : Operation = each.0.0.1 in
    let opened = subst (λ (o : Option ℕ). IfSome o (λ n. IsListed handles n)) each.0.0.4 (over.opened id each.0.0.0 operation each.0.0.2) in
    let on = subst (λ (c : Call). IfSome (cell_of c) (λ cell. IsListed keys cell.key)) each.0.0.3 (over.on id each.0.0.0 operation each.0.0.2) in
    within_replays hash history handles keys ids xs leads.0 w over each.1 leads.2 (within_effect hash handles keys x.call x.opens v leads.0 x.answer leads.1 opened on within)
