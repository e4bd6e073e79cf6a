-- What an operation has made and nothing names yet, after a step that makes no node.
use Rattle.std.proofs.Common.{◌≡◌, ◌⊎◌, inl, inr, ℕ, Bool, List, [], Contains, None, refl, sym, ap, subst, ◌∙◌, arith}
use Rattle.std.proofs.lemmas.Option.{none-some}
use Rattle.machine_model.specs.Beneath.slot_arena.specs.declared.refs.Ref.{Ref}
use Rattle.machine_model.specs.Beneath.slot_arena.specs.declared.nodes.Node.{Node}
use Rattle.machine_model.specs.Beneath.slot_arena.specs.Heaps.{next_ref}
use Rattle.machine_model.specs.declared.actions.Action.{Action}
use Rattle.machine_model.specs.declared.actions.Action.TheVariants as act
use Rattle.machine_model.specs.declared.building.BuildLine.{BuildLine}
use Rattle.machine_model.specs.declared.copying.CopyLine.{CopyLine}
use Rattle.machine_model.specs.declared.finding.KeyLine.{KeyLine}
use Rattle.machine_model.specs.declared.finding.KeyLine.TheVariants as key
use Rattle.machine_model.specs.declared.lines.Line.{Line}
use Rattle.machine_model.specs.declared.lines.Line.TheVariants as line
use Rattle.machine_model.specs.declared.lines.Purpose.{Purpose}
use Rattle.machine_model.specs.declared.operations.Operation.{Operation}
use Rattle.machine_model.specs.declared.reading.Swap.{Swap}
use Rattle.machine_model.specs.declared.reading.SwapLine.{SwapLine}
use Rattle.machine_model.specs.declared.repairs.CleanLine.{CleanLine}
use Rattle.machine_model.specs.declared.repairs.Climb.{Climb}
use Rattle.machine_model.specs.declared.repairs.ClimbLine.{ClimbLine}
use Rattle.machine_model.specs.declared.repairs.RenewLine.{RenewLine}
use Rattle.machine_model.specs.declared.repairs.RenewLine.TheVariants as renew
use Rattle.machine_model.specs.declared.roots.RootLine.{RootLine}
use Rattle.machine_model.specs.declared.walking.WalkLine.{WalkLine}
use Rattle.machine_model.specs.Acting.{operation_after, private_after, with_made}
use Rattle.machine_model.specs.Cleaning.{clean_action}
use Rattle.machine_model.specs.Climbing.{climb_action}
use Rattle.machine_model.specs.Copying.{copy_action}
use Rattle.machine_model.specs.Edges.Building.{BuildEdge, SwappedEdge, SwapEdge}
use Rattle.machine_model.specs.Edges.Key.{FoundEdge, KeyEdge}
use Rattle.machine_model.specs.Edges.Lines.{Edge, of_root, of_key, of_build, of_swap, of_renew, of_clean, of_climb, of_copy, of_walk, stays, strays}
use Rattle.machine_model.specs.Edges.Repairs.{CleanEdge, CleanNext, ClimbEdge, ClimbingEdge, RenewEdge, RenewNext}
use Rattle.machine_model.specs.Edges.Roots.{CopyEdge, RootEdge}
use Rattle.machine_model.specs.Edges.Walking.{WalkEdge, WalkNext}
use Rattle.machine_model.specs.Finding.{key_action}
use Rattle.machine_model.specs.Operations.{action_of, line_action, line_after}
use Rattle.machine_model.specs.Reading.{read_action}
use Rattle.machine_model.specs.Renewing.{renew_action}
use Rattle.machine_model.specs.States.{State}
use Rattle.machine_model.proofs.Edges.Lines.{edge}
use Rattle.proof_garbage.proofs.Swaps.{read_leaves}
use Rattle.lock_free.specs.Claims.{HoldsAll}
use Rattle.lock_free.specs.Counts.{how_often}
use Rattle.lock_free.specs.OwesAt.{owes_at, owes_on}
use Rattle.lock_free.proofs.Idle.{empty_has}

-- the action makes no node, or no slot is left
abbrev pub NoneMade : State → Action → Type 0
NoneMade state (act.Make node) = next_ref state.heap ≡ None
NoneMade state (act.MakeRoot main) = next_ref state.heap ≡ None
NoneMade state action = Unit {0}

-- ---- a step that makes no node

module _ (state : State) (o : Operation) where
  abbrev own : List Ref
  own = o.private

  -- what is private once it has been taken on this line
  abbrev own_then : Line → List Ref
  own_then l = private_after state own (line_action state o l)

  -- nothing is owed on a line to which it leads
  none_less : (xs owed : List Ref) → xs ≡ [] → HoldsAll xs owed
  none_less xs owed none k = let zero_is = ap (how_often k) none in omega (arith, zero_is)

  all_less : (xs owed : List Ref) → xs ≡ owed → HoldsAll xs owed
  all_less xs owed same k = let all = ap (how_often k) same in omega (arith, all)

  found_owes : (xs : List Ref) (path : List Ref) (main : Ref) (position v : ℕ) (n : Line) → FoundEdge state o path main position v n → owes_on xs n ≡ []
  found_owes xs path main position v n (FoundEdge.answers answer is) = refl
  found_owes xs path main position v n (FoundEdge.sets is) = refl
  found_owes xs path main position v n (FoundEdge.asks_sibling is b es at two) = refl
  found_owes xs path main position v n (FoundEdge.removes is b es at two) = refl
  found_owes xs path main position v n (FoundEdge.entombs_listed is ss at two) = refl
  found_owes xs path main position v n (FoundEdge.removes_listed is ss at two) = refl
  found_owes xs path main position v n FoundEdge.strays = refl

  -- where KEY leads to RENEW this one owes what is private
  key_owes : (xs : List Ref) (l : KeyLine) (n : Line) → KeyEdge state o l n → (owes_on xs n ≡ []) ⊎ (owes_on xs n ≡ xs)
  key_owes xs l n (KeyEdge.reads_on path r next e) = inl refl
  key_owes xs l n (KeyEdge.gives path r main e) = inl refl
  key_owes xs l n (KeyEdge.enters path main b es e f) = inl refl
  key_owes xs l n (KeyEdge.puts_absent path main b es e f i) = inl refl
  key_owes xs l n (KeyEdge.misses_absent path main b es e f i) = inl refl
  key_owes xs l n (KeyEdge.cleans path main single e w b) = inl refl
  key_owes xs l n (KeyEdge.looks_tombed path main single e r) = inl refl
  key_owes xs l n (KeyEdge.looks_listed path main ss e) = inl refl
  key_owes xs l n (KeyEdge.goes_down path main position a w e p) = inl refl
  key_owes xs l n (KeyEdge.renews path main position a w e p f) = inr refl
  key_owes xs l n (KeyEdge.renews_none path main position a w e p f) = inr refl
  key_owes xs l n (KeyEdge.finds path main position k v next e same on) = inl (found_owes xs path main position v n on)
  key_owes xs l n (KeyEdge.puts_beside path main position k v e other i) = inl refl
  key_owes xs l n (KeyEdge.misses_beside path main position k v e other i) = inl refl
  key_owes xs l n (KeyEdge.finds_listed path main position k v next e same on) = inl (found_owes xs path main position v n on)
  key_owes xs l n (KeyEdge.looks_on path main position k v e other m) = inl refl
  key_owes xs l n (KeyEdge.crowds path main position k v e other m f) = inl refl
  key_owes xs l n (KeyEdge.puts_listed path main position k v e other m f i) = inl refl
  key_owes xs l n (KeyEdge.misses_listed path main position k v e other m i) = inl refl
  key_owes xs l n (KeyEdge.entombs_sibling path main position former k v e) = inl refl
  key_owes xs l n (KeyEdge.keeps_sibling path main position former a w e) = inl refl
  key_owes xs l n (KeyEdge.strays from) = inl refl

  pub key_leaves : (xs : List Ref) (l : KeyLine) → private_after state xs (key_action state l) ≡ xs
  key_leaves xs (key.Read path r) = read_leaves state xs r.indirection r.line
  key_leaves xs (key.Main path main) = refl
  key_leaves xs (key.Entry path main position) = refl
  key_leaves xs (key.Listed path main position) = refl
  key_leaves xs (key.Sibling path main position former) = refl

  root_owes : (xs : List Ref) (l : RootLine) (n : Line) → RootEdge state o l n → owes_on xs n ≡ []
  root_owes xs l n (RootEdge.completes_on from to e) = refl
  root_owes xs l n (RootEdge.begins_key from r e c) = refl
  root_owes xs l n (RootEdge.begins_copy from r e c) = refl

  climbing_owes : (xs : List Ref) (c : Climb) (n : Line) → ClimbingEdge o c n → owes_on xs n ≡ []
  climbing_owes xs c n (ClimbingEdge.climbs e) = refl
  climbing_owes xs c n (ClimbingEdge.tops e) = refl

  swapped_owes : (xs : List Ref) (node : Node) (why : Purpose) (done : Bool) (n : Line) → SwappedEdge o node why done n → owes_on xs n ≡ []
  swapped_owes xs node why done n (SwappedEdge.entombed path former single next e on) = climbing_owes xs _ n on
  swapped_owes xs node why done n (SwappedEdge.changed path former) = refl
  swapped_owes xs node why done n (SwappedEdge.update_lost path former) = refl
  swapped_owes xs node why done n (SwappedEdge.renewed path) = refl
  swapped_owes xs node why done n (SwappedEdge.renewal_lost path) = refl
  swapped_owes xs node why done n (SwappedEdge.is_cleaned d) = refl
  swapped_owes xs node why done n (SwappedEdge.climbs_on c single next e on) = climbing_owes xs _ n on
  swapped_owes xs node why done n (SwappedEdge.contracted c) = refl
  swapped_owes xs node why done n (SwappedEdge.climb_lost c) = refl

  swap_owes : (xs : List Ref) (why : Purpose) (s : Swap) (l : SwapLine) (n : Line) → SwapEdge state o why s l n → owes_on xs n ≡ []
  swap_owes xs why s l n (SwapEdge.publishes e) = refl
  swap_owes xs why s l n (SwapEdge.comes_late next e on) = swapped_owes xs _ why _ n on
  swap_owes xs why s l n (SwapEdge.decides_on from to e) = refl
  swap_owes xs why s l n (SwapEdge.decided from main e) = refl
  swap_owes xs why s l n (SwapEdge.succeeds next e on) = swapped_owes xs _ why _ n on
  swap_owes xs why s l n (SwapEdge.is_undecided previous next e on) = swapped_owes xs _ why _ n on
  swap_owes xs why s l n (SwapEdge.fails previous next e on) = swapped_owes xs _ why _ n on

  -- RENEW owes what it has made
  renewing : (xs : List Ref) (path : List Ref) (main : Ref) (done : List Ref) (n : Line) → RenewNext state path main done n → owes_on xs n ≡ xs
  renewing xs path main done n (RenewNext.more e) = refl
  renewing xs path main done n (RenewNext.all_done e) = refl

  renew_owes : (xs : List Ref) (l : RenewLine) (n : Line) → RenewEdge state o l n → NoneMade state (renew_action state o l) → (owes_on xs n ≡ []) ⊎ (owes_on xs n ≡ xs)
  renew_owes xs l n (RenewEdge.meets_older path main done g w e f) makes = inr refl
  renew_owes xs l n (RenewEdge.keeps_own path main done g w next e f on) makes = inr (renewing xs path main _ n on)
  renew_owes xs l n (RenewEdge.keeps_single path main done k v next e on) makes = inr (renewing xs path main _ n on)
  renew_owes xs l n (RenewEdge.reads_on path main done r next e) makes = inr refl
  renew_owes xs l n (RenewEdge.gives path main done r child e) makes = inr refl
  renew_owes xs l n (RenewEdge.links path main done child made next e on) makes = absurd (none-some made (sym makes ∙ e))
  renew_owes xs l n (RenewEdge.branches path main done made e) makes = absurd (none-some made (sym makes ∙ e))
  renew_owes xs l n (RenewEdge.no_slot from e) makes = inl refl
  renew_owes xs l n (RenewEdge.strays from) makes = inl refl

  -- no more is private then
  renew_leaves : (l : RenewLine) → NoneMade state (renew_action state o l) → HoldsAll (private_after state own (renew_action state o l)) own
  renew_leaves (renew.Entry path main done) makes = all_less own own refl
  renew_leaves (renew.Read path main done r) makes = all_less (private_after state own (read_action r.indirection r.line)) own (read_leaves state own r.indirection r.line)
  renew_leaves (renew.Link path main done child) makes = none_less (with_made own (next_ref state.heap)) own (ap (with_made own) makes)
  renew_leaves (renew.Branch path main done) makes = none_less (with_made own (next_ref state.heap)) own (ap (with_made own) makes)

  cleaning : (xs : List Ref) (path : List Ref) (main : Ref) (done : List Ref) (n : Line) → CleanNext state path main done n → owes_on xs n ≡ []
  cleaning xs path main done n (CleanNext.more e) = refl
  cleaning xs path main done n (CleanNext.unchanged e f) = refl
  cleaning xs path main done n (CleanNext.differs e f) = refl

  clean_owes : (xs : List Ref) (l : CleanLine) (n : Line) → CleanEdge state o l n → NoneMade state (clean_action state l) → owes_on xs n ≡ []
  clean_owes xs l n (CleanEdge.reads_on path r next e) makes = refl
  clean_owes xs l n (CleanEdge.gives path r main e) makes = refl
  clean_owes xs l n (CleanEdge.begins path main b es next e on) makes = cleaning xs path main _ n on
  clean_owes xs l n (CleanEdge.no_branch path main) makes = refl
  clean_owes xs l n (CleanEdge.meets_link path main done g w e) makes = refl
  clean_owes xs l n (CleanEdge.keeps_single path main done k v next e on) makes = cleaning xs path main _ n on
  clean_owes xs l n (CleanEdge.child_on path main done r next e) makes = refl
  clean_owes xs l n (CleanEdge.child_given path main done r child e) makes = refl
  clean_owes xs l n (CleanEdge.untombs path main done child single next e on) makes = cleaning xs path main _ n on
  clean_owes xs l n (CleanEdge.keeps_link path main done child next on) makes = cleaning xs path main _ n on
  clean_owes xs l n (CleanEdge.contracts path main done made e) makes = absurd (none-some made (sym makes ∙ e))
  clean_owes xs l n (CleanEdge.no_slot from e) makes = refl
  clean_owes xs l n (CleanEdge.strays from) makes = refl

  climb_owes : (xs : List Ref) (l : ClimbLine) (n : Line) → ClimbEdge state o l n → NoneMade state (climb_action state o l) → owes_on xs n ≡ []
  climb_owes xs l n (ClimbEdge.reads_on c r next e) makes = refl
  climb_owes xs l n (ClimbEdge.gives c r main e) makes = refl
  climb_owes xs l n (ClimbEdge.goes_up c main single next e on) makes = climbing_owes xs _ n on
  climb_owes xs l n (ClimbEdge.holds c main b es e f) makes = refl
  climb_owes xs l n (ClimbEdge.is_gone c main b es e f) makes = refl
  climb_owes xs l n (ClimbEdge.contracts c main made e) makes = absurd (none-some made (sym makes ∙ e))
  climb_owes xs l n (ClimbEdge.gives_up c main e) makes = refl
  climb_owes xs l n (ClimbEdge.root_on c from to e) makes = refl
  climb_owes xs l n (ClimbEdge.again c from r next e mine on) makes = climbing_owes xs c n on
  climb_owes xs l n (ClimbEdge.other_root c from r e f) makes = refl
  climb_owes xs l n (ClimbEdge.strays from) makes = refl

  copy_owes : (xs : List Ref) (l : CopyLine) (n : Line) → CopyEdge state o l n → NoneMade state (copy_action l) → owes_on xs n ≡ []
  copy_owes xs l n (CopyEdge.reads_on r read next e) makes = refl
  copy_owes xs l n (CopyEdge.gives r read main e c) makes = refl
  copy_owes xs l n (CopyEdge.gives_clear r read main e c) makes = refl
  copy_owes xs l n (CopyEdge.wants_second r main made e c) makes = absurd (none-some made (sym makes ∙ e))
  copy_owes xs l n (CopyEdge.offers_one r main made e c) makes = absurd (none-some made (sym makes ∙ e))
  copy_owes xs l n (CopyEdge.offers_two r main successor made e) makes = absurd (none-some made (sym makes ∙ e))
  copy_owes xs l n (CopyEdge.empty_made r main made e) makes = absurd (none-some made (sym makes ∙ e))
  copy_owes xs l n (CopyEdge.offers_cleared r main branch made e) makes = absurd (none-some made (sym makes ∙ e))
  copy_owes xs l n (CopyEdge.no_slot from e) makes = refl
  copy_owes xs l n (CopyEdge.offers offer e) makes = refl
  copy_owes xs l n (CopyEdge.comes_late offer e) makes = refl
  copy_owes xs l n (CopyEdge.completes_on c next e) makes = refl
  copy_owes xs l n (CopyEdge.carried_out c done e f) makes = refl
  copy_owes xs l n (CopyEdge.taken_back c done e f) makes = refl

  walking : (xs : List Ref) (pairs : List (ℕ × ℕ)) (todo : List Ref) (n : Line) → WalkNext o pairs todo n → owes_on xs n ≡ []
  walking xs pairs todo n WalkNext.walked = refl
  walking xs pairs todo n (WalkNext.walks entry rest) = refl

  walk_owes : (xs : List Ref) (l : WalkLine) (n : Line) → WalkEdge state o l n → owes_on xs n ≡ []
  walk_owes xs l n WalkEdge.begins = refl
  walk_owes xs l n (WalkEdge.reads_on r next todo pairs e) = refl
  walk_owes xs l n (WalkEdge.gives r main todo pairs e) = refl
  walk_owes xs l n (WalkEdge.opens main todo pairs next on) = walking xs pairs _ n on
  walk_owes xs l n (WalkEdge.goes_down todo pairs g w e) = refl
  walk_owes xs l n (WalkEdge.takes todo pairs k v next e on) = walking xs _ _ n on
  walk_owes xs l n (WalkEdge.strays from) = refl

  build_owes : (xs : List Ref) (l : BuildLine) (n : Line) → BuildEdge state o l n → NoneMade state (line_action state o (line.Build l)) → owes_on xs n ≡ []
  build_owes xs l n (BuildEdge.no_slot from e) makes = refl
  build_owes xs l n (BuildEdge.single_absent path main former made e) makes = absurd (none-some made (sym makes ∙ e))
  build_owes xs l n (BuildEdge.single_at path main former position made e) makes = absurd (none-some made (sym makes ∙ e))
  build_owes xs l n (BuildEdge.single_beside path main former position made e) makes = absurd (none-some made (sym makes ∙ e))
  build_owes xs l n (BuildEdge.pair_made path main position single depth made e) makes = absurd (none-some made (sym makes ∙ e))
  build_owes xs l n (BuildEdge.link_top path main position below depth made e f) makes = absurd (none-some made (sym makes ∙ e))
  build_owes xs l n (BuildEdge.link_below path main position below depth made e f) makes = absurd (none-some made (sym makes ∙ e))
  build_owes xs l n (BuildEdge.rung_made path main position below depth made e) makes = absurd (none-some made (sym makes ∙ e))
  build_owes xs l n (BuildEdge.main_made path main c former made e) makes = absurd (none-some made (sym makes ∙ e))

  less_on : (l n : Line) → Edge state o l n → ((r : KeyLine) → l ≡ line.Key r → own ≡ []) → NoneMade state (line_action state o l) → HoldsAll (owes_on (own_then l) n) (owes_on own l)
  less_on l n (of_root r to e) none makes = none_less _ [] (root_owes _ r n e)
  less_on l n (of_key r to e) none makes =
      let leaves = key_leaves own r ∙ none r refl in
      none_less _ [] (elim (key_owes (own_then l) r n e) [ inl nothing ↦ nothing | inr same ↦ same ∙ leaves ])
  less_on l n (of_build b to e) none makes = none_less _ (owes_on own l) (build_owes _ b n e makes)
  less_on l n (of_swap why s to e) none makes = none_less _ (owes_on own l) (swap_owes _ why s s.line n e)
  less_on l n (of_renew r to e) none makes = λ k.
      elim (renew_owes (own_then l) r n e makes) [
        | inl nothing ↦ none_less (owes_on (own_then l) n) own nothing k
        | inr same ↦ (let all = ap (how_often k) same in let less = renew_leaves r makes k in omega (arith, all, less))
      ]
  less_on l n (of_clean r to e) none makes = none_less _ [] (clean_owes _ r n e makes)
  less_on l n (of_climb r to e) none makes = none_less _ [] (climb_owes _ r n e makes)
  less_on l n (of_copy r to e) none makes = none_less _ (owes_on own l) (copy_owes _ r n e makes)
  less_on l n (of_walk r to e) none makes = none_less _ [] (walk_owes _ r n e)
  less_on l n (stays answer) none makes = none_less [] [] refl
  less_on l n strays none makes = none_less [] [] refl

  -- it owes no more than before
  pub owes_less : ((r : KeyLine) → o.line ≡ line.Key r → own ≡ []) → NoneMade state (action_of state o) → HoldsAll (owes_at (operation_after state o)) (owes_at o)
  owes_less none makes = less_on o.line (line_after state o o.line) (edge state o o.line) none makes

  -- and nothing but what is private then
  none_within : (xs : List Ref) (k : Ref) (n : Line) → owes_on xs n ≡ [] → Contains (owes_on xs n) k → Contains xs k
  none_within xs k n none c = absurd (empty_has k (subst (λ ks. Contains ks k) none c))

  either_within : (xs : List Ref) (k : Ref) (n : Line) → (owes_on xs n ≡ []) ⊎ (owes_on xs n ≡ xs) → Contains (owes_on xs n) k → Contains xs k
  either_within xs k n (inl none) c = none_within xs k n none c
  either_within xs k n (inr same) c = subst (λ ks. Contains ks k) same c

  within_on : (xs : List Ref) (l n : Line) → Edge state o l n → NoneMade state (line_action state o l) → (k : Ref) → Contains (owes_on xs n) k → Contains xs k
  within_on xs l n (of_root r to e) makes k = none_within xs k n (root_owes xs r n e)
  within_on xs l n (of_key r to e) makes k = either_within xs k n (key_owes xs r n e)
  within_on xs l n (of_build b to e) makes k = none_within xs k n (build_owes xs b n e makes)
  within_on xs l n (of_swap why s to e) makes k = none_within xs k n (swap_owes xs why s s.line n e)
  within_on xs l n (of_renew r to e) makes k = either_within xs k n (renew_owes xs r n e makes)
  within_on xs l n (of_clean r to e) makes k = none_within xs k n (clean_owes xs r n e makes)
  within_on xs l n (of_climb r to e) makes k = none_within xs k n (climb_owes xs r n e makes)
  within_on xs l n (of_copy r to e) makes k = none_within xs k n (copy_owes xs r n e makes)
  within_on xs l n (of_walk r to e) makes k = none_within xs k n (walk_owes xs r n e)
  within_on xs l n (stays answer) makes k = none_within xs k n refl
  within_on xs l n strays makes k = none_within xs k n refl

  pub owes_within : NoneMade state (action_of state o) → (k : Ref) → Contains (owes_at (operation_after state o)) k → Contains (operation_after state o).private k
  owes_within makes k = within_on (operation_after state o).private o.line (line_after state o o.line) (edge state o o.line) makes k
