-- On the way to its key a get may give up after each step.
use Rattle.history.specs.declared.calls.Access.{Access}
use Rattle.history.specs.declared.calls.Access.TheVariants.{Writable, ReadOnly}
use Rattle.history.specs.declared.calls.Call.{Call}
use Rattle.history.specs.declared.calls.Call.TheVariants.{Get}
use Rattle.history.specs.declared.replies.Reply.TheVariants as reply
use Rattle.std.proofs.Common.{◌≡◌, ◌⊎◌, ◌==◌, ◌+◌, ◌-◌, ◌&&◌, ℕ, Bool, true, false, inl, inr, List, [], length, nat_le, nat_lt, Some, None, refl, sym, subst, if◌then◌else◌}
use Rattle.machine_model.specs.Beneath.slot_arena.specs.declared.refs.Ref.{Ref}
use Rattle.machine_model.specs.Beneath.slot_arena.specs.declared.nodes.Node.{Node}
use Rattle.machine_model.specs.Beneath.slot_arena.specs.declared.nodes.Node.TheVariants.{Indirection, Branch, Single, Tomb, List as Listed}
use Rattle.machine_model.specs.Beneath.slot_arena.specs.Heaps.{node_at, entry_at, entries_of}
use Rattle.machine_model.specs.declared.building.BuildLine.TheVariants as build
use Rattle.machine_model.specs.declared.building.Site.{Site}
use Rattle.machine_model.specs.declared.building.Site.TheVariants as site
use Rattle.machine_model.specs.declared.repairs.CleanLine.TheVariants as clean
use Rattle.machine_model.specs.declared.finding.KeyLine.{KeyLine}
use Rattle.machine_model.specs.declared.finding.KeyLine.TheVariants as way
use Rattle.machine_model.specs.declared.lines.Line.{Line}
use Rattle.machine_model.specs.declared.lines.Line.TheVariants as line
use Rattle.machine_model.specs.declared.operations.Operation.{Operation}
use Rattle.machine_model.specs.declared.reading.After.{After}
use Rattle.machine_model.specs.declared.reading.After.TheVariants.{Goes, Gives}
use Rattle.machine_model.specs.declared.reading.Read.{Read}
use Rattle.machine_model.specs.declared.roots.RootLine.{RootLine}
use Rattle.machine_model.specs.Calls.{absent_reply, inserts, key_of, when_found}
use Rattle.machine_model.specs.Finding.{absent_listed, after_listed, after_sibling, after_tomb, found_so, is_passable, key_after, key_after_entry, key_after_main, key_after_read}
use Rattle.machine_model.specs.GivingUp.{given_up}
use Rattle.machine_model.specs.Lines.{impossible}
use Rattle.machine_model.specs.Operations.{after_root, from_root}
use Rattle.machine_model.specs.Paths.{above, current, flag_in, is_below_root}
use Rattle.machine_model.specs.Reading.{read_step, reading}
use Rattle.machine_model.specs.Renewing.{renew_next}
use Rattle.machine_model.specs.States.{State}
use Rattle.nodes.specs.Levels.{has_flag}

module _ (handle key : ℕ) where
  -- it may give up on this line, or never comes to it
  abbrev pub MayOrNever : Line → Type 0
  MayOrNever l = (given_up (Get handle key) l ≡ Some reply.NoSlots) ⊎ (l ≡ impossible)

  either : (b : Bool) (x y : Line) → MayOrNever x → MayOrNever y → MayOrNever (if b then x else y)
  either true x y h k = h
  either false x y h k = k

  after_reading : (path : List Ref) (x : After Read Ref) → MayOrNever (key_after_read path x)
  after_reading path (Goes r) = inl refl
  after_reading path (Gives main) = inl refl

  tomb_may : (access : Access) (path : List Ref) (main : Ref) → MayOrNever (after_tomb access path main)
  tomb_may Writable path main = either (is_below_root path) (line.Clean (clean.Read (above path) (reading (current (above path))))) impossible (inl refl) (inr refl)
  tomb_may ReadOnly path main = inl refl

  module _ (state : State) (o : Operation) (its : o.call ≡ Get handle key) where
    -- where a line goes by the call
    by_call : (f : Call → Line) → MayOrNever (f (Get handle key)) → MayOrNever (f o.call)
    by_call f h = subst (λ c. MayOrNever (f c)) (sym its) h

    absent_may : (path : List Ref) (main : Ref) (at : Site) → MayOrNever (if inserts o.call then line.Build (build.Single path main at None) else line.End (absent_reply o.call))
    absent_may path main at = by_call (λ c. if inserts c then line.Build (build.Single path main at None) else line.End (absent_reply c)) (inl refl)

    listed_may : (path : List Ref) (main : Ref) (singles : ℕ) → MayOrNever (absent_listed o path main singles)
    listed_may path main singles =
        by_call (λ c. if inserts c && nat_le 32 singles then line.End reply.Crowded else (if inserts c then line.Build (build.Single path main site.Absent None) else line.End
        (absent_reply c))) (inl refl)

    found_may : (path : List Ref) (main : Ref) (position value : ℕ) → MayOrNever (found_so state path main position value (when_found o.call value))
    found_may path main position value = by_call (λ c. found_so state path main position value (when_found c value)) (inl refl)

    main_may : (path : List Ref) (main : Ref) (node : Node) → MayOrNever (key_after_main state o path main node)
    main_may path main (Branch bitmap entries) = either (has_flag bitmap (flag_in state o path)) _ _ (inl refl) (absent_may path main _)
    main_may path main (Tomb single) = tomb_may o.access path main
    main_may path main (Listed singles) = inl refl
    main_may path main (Indirection generation word) = inr refl
    main_may path main (Single k v) = inr refl

    renew_may : (path : List Ref) (main : Ref) → MayOrNever (renew_next state path main [])
    renew_may path main = either (nat_lt 0 (length (entries_of (node_at state.heap main)))) _ _ (inl refl) (inl refl)

    entry_may : (path : List Ref) (main : Ref) (position : ℕ) (node : Node) → MayOrNever (key_after_entry state o path main position node)
    entry_may path main position (Indirection generation word) = either (is_passable o generation) _ _ (inl refl) (renew_may path main)
    entry_may path main position (Single k v) = either (k == key_of o.call) _ _ (found_may path main position v) (absent_may path main _)
    entry_may path main position (Branch bitmap entries) = inr refl
    entry_may path main position (Tomb single) = inr refl
    entry_may path main position (Listed singles) = inr refl

    list_may : (path : List Ref) (main : Ref) (position : ℕ) (node : Node) → MayOrNever (after_listed state o path main position node)
    list_may path main position (Single k v) =
        either (k == key_of o.call) _ _ (found_may path main position v)
        (either (nat_lt (position + 1) (length (entries_of (node_at state.heap main)))) _ _ (inl refl) (listed_may path main (length (entries_of (node_at state.heap main)))))
    list_may path main position (Branch bitmap entries) = inr refl
    list_may path main position (Tomb single) = inr refl
    list_may path main position (Listed singles) = inr refl
    list_may path main position (Indirection generation word) = inr refl

    sibling_may : (path : List Ref) (main : Ref) (position former : ℕ) (other : Ref) (node : Node) → MayOrNever (after_sibling path main position former other node)
    sibling_may path main position former other (Single k v) = inl refl
    sibling_may path main position former other (Indirection generation word) = inl refl
    sibling_may path main position former other (Branch bitmap entries) = inr refl
    sibling_may path main position former other (Tomb single) = inr refl
    sibling_may path main position former other (Listed singles) = inr refl

    pub key_may : (l : KeyLine) → MayOrNever (key_after state o l)
    key_may (way.Read path read) = after_reading path (read_step state o read)
    key_may (way.Main path main) = main_may path main (node_at state.heap main)
    key_may (way.Entry path main position) = entry_may path main position (node_at state.heap (entry_at state.heap main position))
    key_may (way.Listed path main position) = list_may path main position (node_at state.heap (entry_at state.heap main position))
    key_may (way.Sibling path main position former) = sibling_may path main position former (entry_at state.heap main (1 - position)) (node_at state.heap (entry_at state.heap main (1 - position)))

    pub root_may : (x : After RootLine Ref) → given_up (Get handle key) (after_root o x) ≡ Some reply.NoSlots
    root_may (Goes l) = refl
    root_may (Gives r) = subst (λ c. given_up (Get handle key) (from_root c r) ≡ Some reply.NoSlots) (sym its) refl
