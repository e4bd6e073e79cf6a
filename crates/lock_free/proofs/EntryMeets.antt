-- KEY's look at a single: an entry of a branch, one of a list, or a tomb's.
use Rattle.std.proofs.Common.{◌≡◌, ◌==◌, ◌-◌, ℕ, Bool, true, false, get_or, length, List, Some, refl, sym, ap, subst, ◌∙◌, if◌then◌else◌}
use Rattle.std.proofs.lemmas.Bool.{true≢false}
use Rattle.std.proofs.lemmas.Option.{none-some, same_Some}
use Rattle.machine_model.specs.Beneath.slot_arena.specs.declared.refs.Ref.{Ref}
use Rattle.machine_model.specs.Beneath.slot_arena.specs.declared.nodes.Node.{Node}
use Rattle.machine_model.specs.Beneath.slot_arena.specs.declared.nodes.Node.TheVariants.{Indirection, Branch, Single, Tomb, List as Listed}
use Rattle.machine_model.specs.Beneath.slot_arena.specs.declared.nodes.Slot.{Slot}
use Rattle.machine_model.specs.Beneath.slot_arena.specs.Heaps.{no_ref, node_at, entry_at, entries_of, with_main_word}
use Rattle.machine_model.specs.declared.actions.Action.TheVariants as act
use Rattle.machine_model.specs.declared.building.BuildLine.TheVariants as build
use Rattle.machine_model.specs.declared.building.Change.TheVariants as change
use Rattle.machine_model.specs.declared.finding.KeyLine.{KeyLine}
use Rattle.machine_model.specs.declared.finding.KeyLine.TheVariants as key
use Rattle.machine_model.specs.declared.finding.WhenFound.{WhenFound}
use Rattle.machine_model.specs.declared.finding.WhenFound.TheVariants.{Answers, Sets, Removes}
use Rattle.machine_model.specs.declared.lines.Line.{Line}
use Rattle.machine_model.specs.declared.lines.Line.TheVariants as line
use Rattle.machine_model.specs.declared.operations.Operation.{Operation}
use Rattle.machine_model.specs.Calls.{key_of, when_found}
use Rattle.machine_model.specs.Finding.{found_so, removing, key_action, key_after, key_after_entry, after_listed}
use Rattle.machine_model.specs.States.{State}
use Rattle.lock_free.specs.declared.finding.Met.{Met}
use Rattle.lock_free.specs.declared.finding.Met.TheVariants as met
use Rattle.lock_free.specs.declared.rules.View.{View}
use Rattle.lock_free.specs.Entries.{HasStayed, entry_in}
use Rattle.lock_free.specs.GoingDown.{IsAtKey, HasMoved, IsOnKey, sought_in, IsAtSingle, after_other, line_met, HasMet}
use Rattle.lock_free.specs.Loading.{now, seen, Runs, IsUsed, IsSound, IsAtSlot, HoldsSlot, Went, HasSeenKey, HasLookedAtValue}
use Rattle.lock_free.specs.Nodes.{is_single}
use Rattle.lock_free.specs.Passing.{Later}
use Rattle.lock_free.proofs.Comings.{runs_one, saw_runs}
use Rattle.lock_free.proofs.EntryLooks.{node_stays}
use Rattle.lock_free.proofs.GivenBack.{node_is}
use Rattle.lock_free.proofs.KeyHolds.{LooksIn, looks_in}
use Rattle.lock_free.proofs.KeyMoves.{key_of_line}
use Rattle.lock_free.proofs.OnLines.{line_is, at_look, moved}
use Rattle.lock_free.proofs.Laters.{later_both, went_later, saw_later, waited_later, placed_later}

-- a single stays what it is
pub single_of : (node : Node) → is_single node ≡ true → (k : ℕ) × (v : ℕ) × (node ≡ Single k v)
single_of (Single k v) is = (k, v, refl)
single_of (Indirection generation main) is = absurd (true≢false (sym is))
single_of (Branch bitmap entries) is = absurd (true≢false (sym is))
single_of (Tomb single) is = absurd (true≢false (sym is))
single_of (Listed singles) is = absurd (true≢false (sym is))

-- ---- what comes where a key is found or isn't goes by the main node alone

module _ (s t : State) (path : List Ref) (main : Ref) (position value : ℕ) (same : node_at s.heap main ≡ node_at t.heap main) where
  entry_so : (p : ℕ) → entry_at s.heap main p ≡ entry_at t.heap main p
  entry_so p = ap (λ x. get_or (entries_of x) p no_ref) same

  removing_same : (node : Node) → removing s path main position value node ≡ removing t path main position value node
  removing_same (Branch bitmap entries) = refl
  removing_same (Listed singles) =
      ap (λ e. if length singles.items == 2 then line.Build (build.Main path main (change.Entomb e) (Some value)) else line.Build (build.Main path main (change.Remove position) (Some value)))
      (entry_so (1 - position))
  removing_same (Indirection generation word) = refl
  removing_same (Single k v) = refl
  removing_same (Tomb single) = refl

  pub found_same : (w : WhenFound) → found_so s path main position value w ≡ found_so t path main position value w
  found_same (Answers answer) = refl
  found_same Sets = refl
  found_same Removes = removing_same (node_at s.heap main) ∙ ap (removing t path main position value) same

met_same : (s t : State) (l : KeyLine) (main : Ref) (position : ℕ) → sought_in l ≡ Some (main, position) → node_at s.heap main ≡ node_at t.heap main → (m : Met) (o : Operation) →
    line_met s l m o ≡ line_met t l m o
met_same s t (key.Entry path c p) main position is same (met.Found value) o =
    found_same s t path c p value (subst (λ x. node_at s.heap x ≡ node_at t.heap x) (ap (λ (x : Ref × ℕ). x.0) (sym (same_Some (c, p) (main, position) is))) same) (when_found o.call value)
met_same s t (key.Entry path c p) main position is same met.Other o = refl
met_same s t (key.Listed path c p) main position is same (met.Found value) o =
    found_same s t path c p value (subst (λ x. node_at s.heap x ≡ node_at t.heap x) (ap (λ (x : Ref × ℕ). x.0) (sym (same_Some (c, p) (main, position) is))) same) (when_found o.call value)
met_same s t (key.Listed path c p) main position is same met.Other o =
    ap (λ n. after_other o path c p (length (entries_of n)))
    (subst (λ x. node_at s.heap x ≡ node_at t.heap x) (ap (λ (x : Ref × ℕ). x.0) (sym (same_Some (c, p) (main, position) is))) same)
met_same s t (key.Read path r) main position is same m o = refl
met_same s t (key.Main path c) main position is same m o = refl
met_same s t (key.Sibling path c p former) main position is same m o = refl

-- an operation's mark is the same to it
met_marked : (s : State) (l : KeyLine) (m : Met) (o : Operation) (mark : Bool) → line_met s l m (record o { is_marked = mark }) ≡ line_met s l m o
met_marked s (key.Entry path c p) (met.Found value) o mark = refl
met_marked s (key.Entry path c p) met.Other o mark = refl
met_marked s (key.Listed path c p) (met.Found value) o mark = refl
met_marked s (key.Listed path c p) met.Other o mark = refl
met_marked s (key.Read path r) m o mark = refl
met_marked s (key.Main path c) m o mark = refl
met_marked s (key.Sibling path c p former) m o mark = refl

-- ---- its step

module _ (state : State) (main : Ref) (position : ℕ) where
  looks_there : (l : KeyLine) → sought_in l ≡ Some (main, position) → key_action state l ≡ act.Look (entry_at state.heap main position)
  looks_there (key.Entry path c p) is = ap (λ (x : Ref × ℕ). act.Look (entry_at state.heap x.0 x.1)) (same_Some (c, p) (main, position) is)
  looks_there (key.Listed path c p) is = ap (λ (x : Ref × ℕ). act.Look (entry_at state.heap x.0 x.1)) (same_Some (c, p) (main, position) is)
  looks_there (key.Read path r) is = absurd (none-some (main, position) is)
  looks_there (key.Main path c) is = absurd (none-some (main, position) is)
  looks_there (key.Sibling path c p former) is = absurd (none-some (main, position) is)

  abbrev by_key : KeyLine → ℕ → ℕ → Operation → Line
  by_key l k value o = if k == key_of o.call then line_met state l (met.Found value) o else line_met state l met.Other o

  by_marked : (l : KeyLine) (k value : ℕ) (o : Operation) (mark : Bool) → by_key l k value (record o { is_marked = mark }) ≡ by_key l k value o
  by_marked l k value o mark =
      ap (λ x. if k == key_of o.call then x else line_met state l met.Other (record o { is_marked = mark })) (met_marked state l (met.Found value) o mark)
      ∙ ap (λ x. if k == key_of o.call then line_met state l (met.Found value) o else x) (met_marked state l met.Other o mark)

  after_single : (l : KeyLine) (k value : ℕ) → sought_in l ≡ Some (main, position) → node_at state.heap (entry_at state.heap main position) ≡ Single k value → (o : Operation) →
      key_after state o l ≡ by_key l k value o
  after_single (key.Entry path c p) k value is node o =
      subst (λ (x : Node). key_after_entry state o path c p x ≡ by_key (key.Entry path c p) k value o)
      (sym node ∙ ap (λ (x : Ref × ℕ). node_at state.heap (entry_at state.heap x.0 x.1)) (sym (same_Some (c, p) (main, position) is))) refl
  after_single (key.Listed path c p) k value is node o =
      subst (λ (x : Node). after_listed state o path c p x ≡ by_key (key.Listed path c p) k value o)
      (sym node ∙ ap (λ (x : Ref × ℕ). node_at state.heap (entry_at state.heap x.0 x.1)) (sym (same_Some (c, p) (main, position) is))) refl
  after_single (key.Read path r) k value is node o = absurd (none-some (main, position) is)
  after_single (key.Main path c) k value is node o = absurd (none-some (main, position) is)
  after_single (key.Sibling path c p former) k value is node o = absurd (none-some (main, position) is)

module _ (n : ℕ) (before middle : View) (sound : IsSound n before) (name : ℕ) (is_at : IsAtSingle before name) where
  abbrev l : KeyLine
  l = is_at.0

  abbrev main : Ref
  main = is_at.1

  abbrev position : ℕ
  position = is_at.2

  abbrev at : IsAtKey before l
  at = is_at.3

  abbrev e : Ref
  e = entry_in before main position

  abbrev used : (slot : Slot) × IsUsed before e slot
  used = is_at.5.placed.0

  looks : LooksIn before main position
  looks = looks_in before l main position at is_at.4 n sound

  pub single : (k : ℕ) × (v : ℕ) × (node_at (now before).heap e ≡ Single k v)
  single = single_of (node_at (now before).heap e) is_at.5.kind

  pub holds_slot : HoldsSlot before name
  holds_slot = (e, looks.holds_entry, is_at.5.placed.1)

  -- at each later time
  module _ (w : View) (later : Later before w) where
    single_then : (slot : Slot) × IsUsed w e slot × (slot.node ≡ Single single.0 single.1)
    single_then =
        let y = later.nodes e used.0 used.1 in
        let was : used.0.node ≡ Single single.0 single.1 = sym (node_is (now before) e used.0 used.1) ∙ single.2 in
        (y.0, y.1, y.2.1 ∙ ap (with_main_word y.2.0) was)

    main_then : node_at (now w).heap main ≡ node_at (now before).heap main
    main_then = node_stays before w later main looks.slot looks.used looks.is_main

    entry_then : entry_in w main position ≡ e
    entry_then = ap (λ x. get_or (entries_of x) position no_ref) main_then

  module _ (told : ℕ) (g : HasSeenKey before name told middle) (last : IsSound n middle) where
    stayed : HasStayed before middle
    stayed = record { later = saw_later n before sound middle g.0; comes = saw_runs before middle g.0 }

    told_is : told ≡ single.0
    told_is =
        let x = single_then (seen before g.0.account) (waited_later n before sound g.0.account g.0.waited) in
        g.1 e looks.holds_entry is_at.5.placed.1 x.0 single.0 single.1 x.1 x.2

    pub at_mid : IsAtKey middle l
    at_mid = (at.0, stayed.comes at.0 at.1, at.2)

    looks_mid : key_action (now middle) l ≡ act.Look e
    looks_mid = looks_there (now middle) main position l is_at.4 ∙ ap act.Look (entry_then middle stayed.later)

    pub single_ready : IsAtSlot middle act.Look name
    single_ready = (e, at_look middle (line.Key l) at_mid e (λ o. looks_mid), (placed_later before middle stayed.later e name is_at.5.placed).1)

    module _ (sought : ℕ) (on : IsOnKey before sought) (after : View) (end : IsSound n after) (w : Went middle after) where
      abbrev state : State
      state = now (seen middle w.account)

      later_then : Later before (seen middle w.account)
      later_then = later_both before middle (seen middle w.account) stayed.later (waited_later n middle last w.account w.waited)

      node_then : node_at state.heap (entry_at state.heap main position) ≡ Single single.0 single.1
      node_then =
          let x = single_then (seen middle w.account) later_then in
          ap (node_at state.heap) (entry_then (seen middle w.account) later_then) ∙ node_is state e x.0 x.1 ∙ x.2

      on_mid : (o : Operation) → Runs middle o → key_of o.call ≡ sought
      on_mid o r = ap (λ (z : Operation). key_of z.call) (runs_one middle o at.0 r (stayed.comes at.0 at.1)) ∙ on at.0 at.1

      abbrev later_last : Later before after
      later_last = later_both before middle after stayed.later (went_later n middle last n after end w)

      comes_by : (result : Met) → ((o : Operation) → Runs middle o → by_key state main position l single.0 single.1 o ≡ line_met state l result o) → HasMet before result after
      comes_by result is k other =
          let goes = moved middle (line.Key l) at_mid after (went_later n middle last n after end w) w (entry_at state.heap main position) (line_met (now before) l result)
          (λ o. (looks_there state main position l is_at.4)) (λ o. refl)
          (λ o mark r.
          after_single state main position l single.0 single.1 is_at.4 node_then (record o { is_marked = mark }) ∙ by_marked state main position l single.0 single.1 o mark ∙ is o r
          ∙ met_same state (now before) l main position is_at.4 (main_then (seen middle w.account) later_then) result o) in
          let here : HasMoved (line_met (now before) l result) before after = record { later = later_last; comes = λ o r. goes.comes o (stayed.comes o r) } in
          subst (λ (x : KeyLine). HasMoved (line_met (now before) x result) before after) (key_of_line (sym (line_is before (line.Key l) at other.0 other.1) ∙ other.2)) here

      abbrev choice : Bool → Operation → Line
      choice b o = if b then line_met state l (met.Found single.1) o else line_met state l met.Other o

      hit_is : (o : Operation) → Runs middle o → (single.0 == key_of o.call) ≡ (told == sought)
      hit_is o r = ap (λ a. a == key_of o.call) (sym told_is) ∙ ap (λ b. told == b) (on_mid o r)

      pub finds : (value : ℕ) → value ≡ single.1 → (told == sought) ≡ true → HasMet before (met.Found value) after
      finds value is hits = comes_by (met.Found value) (λ o r. ap (λ b. choice b o) (hit_is o r ∙ hits) ∙ ap (λ x. line_met state l (met.Found x) o) (sym is))

      pub passes_by : (told == sought) ≡ false → HasMet before met.Other after
      passes_by hits = comes_by met.Other (λ o r. ap (λ b. choice b o) (hit_is o r ∙ hits))

    pub value_is : (value : ℕ) (after : View) (g2 : HasLookedAtValue middle value after) → value ≡ single.1
    value_is value after g2 =
        let x = single_then (seen middle g2.0.account) (later_both before middle (seen middle g2.0.account) stayed.later (waited_later n middle last g2.0.account g2.0.waited)) in
        (g2.1 e (at_look middle (line.Key l) at_mid e (λ o. looks_mid))).0 x.0 single.0 single.1 x.1 x.2
