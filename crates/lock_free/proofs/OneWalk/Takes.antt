-- WALK at an entry: the pair of a single is taken, or an indirection is come to.
use Rattle.std.proofs.Common.{◌≡◌, ◌++◌, ℕ, true, false, List, [], ◌∷◌, refl, sym, ap, ap₂, ◌∙◌, arith}
use Rattle.std.proofs.lemmas.List.Elements.{Contains-append_left, Contains-get_or}
use Rattle.machine_model.specs.Beneath.slot_arena.specs.declared.refs.Ref.{Ref}
use Rattle.machine_model.specs.Beneath.slot_arena.specs.declared.nodes.Node.TheVariants.{Indirection, Single}
use Rattle.machine_model.specs.Beneath.slot_arena.specs.declared.nodes.Slot.{Slot}
use Rattle.machine_model.specs.Beneath.slot_arena.specs.Heaps.{node_at, with_main_word}
use Rattle.machine_model.specs.declared.actions.Action.TheVariants as act
use Rattle.machine_model.specs.declared.lines.Line.{Line}
use Rattle.machine_model.specs.declared.lines.Line.TheVariants as line
use Rattle.machine_model.specs.declared.walking.WalkLine.TheVariants as walk
use Rattle.machine_model.specs.Reading.{reading}
use Rattle.machine_model.specs.States.{State}
use Rattle.machine_model.specs.Walking.{walk_after_entry, walk_next}
use Rattle.proof_memory.specs.Wants.{is_entry}
use Rattle.lock_free.specs.declared.rules.View.{View}
use Rattle.lock_free.specs.Entries.{HasStayed}
use Rattle.lock_free.specs.GoingDown.{HasMoved}
use Rattle.lock_free.specs.Holding.{IsOn, HasComeTo}
use Rattle.lock_free.specs.Loading.{now, seen, Holds, HoldsSlot, IsAtSlot, IsSound, IsUsed, HasSeenKey, HasLookedAtValue, Went}
use Rattle.lock_free.specs.Nodes.{is_single}
use Rattle.lock_free.specs.Passing.{Later}
use Rattle.lock_free.specs.Walks.{IsAtWalkedSingle}
use Rattle.lock_free.proofs.Comings.{saw_runs}
use Rattle.lock_free.proofs.GivenBack.{node_is}
use Rattle.lock_free.proofs.Laters.{later_both, placed_later, saw_later, waited_later, went_later}
use Rattle.lock_free.proofs.EntryMeets.{single_of}
use Rattle.lock_free.proofs.LinkMeets.{link_of}
use Rattle.lock_free.proofs.OnLines.{at_look, moved, stayed_moved, stays_on}
use Rattle.lock_free.proofs.OneWalk.Lines.{line_holds, next_same}

-- what is single or indirection stays so
module _ (v w : View) (l : Later v w) (e : Ref) (used : (slot : Slot) × IsUsed v e slot) where
  pub single_later : (k x : ℕ) → node_at (now v).heap e ≡ Single k x → (slot : Slot) × IsUsed w e slot × (slot.node ≡ Single k x)
  single_later k x is =
      let y = l.nodes e used.0 used.1 in
      (y.0, y.1, y.2.1 ∙ ap (with_main_word y.2.0) (sym (node_is (now v) e used.0 used.1) ∙ is))

  pub link_later : (g : ℕ) (m : Ref) → node_at (now v).heap e ≡ Indirection g m → (word : Ref) × (node_at (now w).heap e ≡ Indirection g word)
  link_later g m is =
      let y = l.nodes e used.0 used.1 in
      (y.2.0, node_is (now w) e y.0 y.1 ∙ y.2.1 ∙ ap (with_main_word y.2.0) (sym (node_is (now v) e used.0 used.1) ∙ is))

abbrev pub entry_line : Ref → List Ref → List (ℕ × ℕ) → Line
entry_line e todo pairs = line.Walk (walk.Entry (e ∷ todo) pairs)

module _ (n : ℕ) (v : View) (sound : IsSound n v) (name : ℕ) (at : IsAtWalkedSingle v name) where
  abbrev e : Ref
  e = at.entry

  abbrev l : Line
  l = entry_line e at.todo at.pairs

  holds : Holds v e
  holds = line_holds v l at.on e (Contains-append_left (e ∷ at.todo) [] e (Contains-get_or (e ∷ at.todo) 0 e (omega arith)))

  pub holds_taken : HoldsSlot v name
  holds_taken = (e, holds, at.placed.1)

  its : (k : ℕ) × (x : ℕ) × (node_at (now v).heap e ≡ Single k x)
  its = single_of (node_at (now v).heap e) at.single

  module _ (w : View) (told : ℕ) (g : HasSeenKey v name told w) (sound_w : IsSound n w) where
    stayed : HasStayed v w
    stayed = record { later = saw_later n v sound w g.0; comes = saw_runs v w g.0 }

    told_is : told ≡ its.0
    told_is =
        let x = single_later v (seen v g.0.account) (waited_later n v sound g.0.account g.0.waited) e at.placed.0 its.0 its.1 its.2 in
        g.1 e holds at.placed.1 x.0 its.0 its.1 x.1 x.2

    on_w : IsOn w l
    on_w = stays_on v l at.on w stayed

    pub looks_taken : IsAtSlot w act.Look name
    looks_taken = (e, at_look w l on_w e (λ o. refl), (placed_later v w stayed.later e name at.placed).1)

    module _ (z : View) (sound_z : IsSound n z) (value : ℕ) (h : HasLookedAtValue w value z) where
      abbrev state : State
      state = now (seen w h.0.account)

      there : (slot : Slot) × IsUsed (seen w h.0.account) e slot × (slot.node ≡ Single its.0 its.1)
      there =
          single_later v (seen w h.0.account) (later_both v w (seen w h.0.account) stayed.later (waited_later n w sound_w h.0.account h.0.waited)) e at.placed.0 its.0 its.1 its.2

      value_is : value ≡ its.1
      value_is = (h.1 e (at_look w l on_w e (λ o. refl))).0 there.0 its.0 its.1 there.1 there.2

      node_then : node_at state.heap e ≡ Single its.0 its.1
      node_then = node_is state e there.0 there.1 ∙ there.2

      pub pair_taken : HasMoved (λ o. walk_next o at.todo (at.pairs ++ (told, value) ∷ [])) v z
      pair_taken =
          stayed_moved v w z (λ o. walk_next o at.todo (at.pairs ++ (told, value) ∷ [])) stayed
          (moved w l on_w z (went_later n w sound_w n z sound_z h.0) h.0 e (λ o. walk_next o at.todo (at.pairs ++ (told, value) ∷ [])) (λ o. refl) (λ o. refl)
          (λ o mark r.
          ap (walk_after_entry (record o { is_marked = mark }) e at.todo at.pairs) node_then
          ∙ next_same (record o { is_marked = mark }) o at.todo (at.pairs ++ (its.0, its.1) ∷ []) refl
          ∙ ap₂ (λ (a b : ℕ). walk_next o at.todo (at.pairs ++ (a, b) ∷ [])) (sym told_is) (sym value_is)))

-- ---- an indirection

module _ (n : ℕ) (v : View) (sound : IsSound n v) (e : Ref) (todo : List Ref) (pairs : List (ℕ × ℕ)) (on : IsOn v (entry_line e todo pairs)) (used : (slot : Slot) × IsUsed v e slot)
    (kind : is_entry (node_at (now v).heap e) ≡ true) (link : is_single (node_at (now v).heap e) ≡ false) (w : View) (sound_w : IsSound n w) (went : Went v w) where
  pub link_met : HasComeTo (line.Walk (walk.Read (reading e) todo pairs)) v w
  link_met =
      let its = link_of (node_at (now v).heap e) kind link in
      let then = link_later v (seen v went.account) (waited_later n v sound went.account went.waited) e used its.0 its.1 its.2 in
      moved v (entry_line e todo pairs) on w (went_later n v sound n w sound_w went) went e (λ o. line.Walk (walk.Read (reading e) todo pairs)) (λ o. refl) (λ o. refl)
      (λ o mark r. ap (walk_after_entry (record o { is_marked = mark }) e todo pairs) then.1)
