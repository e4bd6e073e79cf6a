-- Sites after a step of KEY.
use Rattle.std.proofs.Common.{◌≡◌, ℕ, suc, ◌+◌, ◌*◌, ◌^◌, ◌<◌, true, nat_lt, List, [], length, slice_index_or, sym, ap, subst, ◌∙◌, ltb-true, arith}
use Rattle.std.proofs.lemmas.Bool.{cond_both}
use Rattle.arrayvec.specs.ArrayVec.{ArrayVec}
use Rattle.proof_shape.specs.Vocabulary.{HashKind, position_of, Ref, node_at, entry_at, entries_of, no_ref, has_flag, flag_of, Operation, After, Gives, ReadLine, State, above, depth_of, hash_in}
use Rattle.proof_shape.specs.Vocabulary.{at_indirection, renew_next, key_of, key_after_read, Line, IsFlagged}
use Rattle.proof_shape.specs.Beneath.machine_model.specs.declared.reading.After.TheVariants.{Goes}
use Rattle.proof_shape.specs.Beneath.proof_memory.specs.Wants.{is_indirection}
use Rattle.proof_shape.specs.Beneath.proof_memory.proofs.Lines.Shared.{above_long, pushed_depth}
use Rattle.proof_shape.specs.Sites.Nodes.{path_to, depth_at}
use Rattle.proof_shape.specs.Sites.Lines.{Sites, IsOnWay, PathSite, PlaceSite, DoneSite, LineSite}
use Rattle.proof_shape.proofs.Sites.Seen.{Sees, AfterSite, branch_seen, entries_seen, link_seen, current_site, above_site, pushed_site}
use Rattle.proof_shape.proofs.Shaped.Places.{leads_there}
use Rattle.proof_shape.specs.Beneath.machine_model.specs.declared.finding.KeyLine.TheVariants as key
use Rattle.proof_shape.specs.Beneath.machine_model.specs.Edges.Key.{FoundEdge, KeyEdge, answers, sets, asks_sibling, cleans, misses_absent, goes_down, renews, renews_none, finds, puts_beside}
use Rattle.proof_shape.specs.Beneath.machine_model.specs.Edges.Key.{finds_listed, looks_on, puts_listed}

module _ (s : Sites) (fits : (i : Ref) → s.path i < 2 ^ (5 * depth_at (s.level i))) (state : State) (operation : Operation) (S : Ref → Type 0) (N : Sees s state S) where
  abbrev kind : HashKind
  kind = state.limits.hash

  abbrev hash : ℕ
  hash = hash_in state operation

  pub key_read_site : (path : List Ref) (i : Ref) (a : After ReadLine Ref) → PathSite kind s hash path → IsOnWay kind s hash (depth_of path) i → AfterSite s state S N i a →
      LineSite kind s hash (key_after_read path (at_indirection i a))
  key_read_site path i (Goes l) p e h = (p, e, h)
  key_read_site path i (Gives main) p e h = (p, h ∙ e)

  found_site : (path : List Ref) (main : Ref) (position value : ℕ) (next : Line) → PlaceSite kind s hash path main → FoundEdge state operation path main position value next →
      LineSite kind s hash next
  found_site path main position value next p (answers answer e) = tt
  found_site path main position value next p (sets e) = p
  found_site path main position value next p (asks_sibling e b es is two) = p
  found_site path main position value next p FoundEdge.strays = tt
  found_site path main position value next p edge = (p, tt)

  pub key_main_site : (path : List Ref) (main : Ref) (next : Line) → PlaceSite kind s hash path main → KeyEdge state operation (key.Main path main) next → LineSite kind s hash next
  key_main_site path main next p (cleans route m single e w below) =
      (above_site kind s hash path p.0, current_site kind s hash (above path) (above_site kind s hash path p.0) (above_long path below), tt)
  key_main_site path main next p (misses_absent route m b es e f none) = tt
  key_main_site path main next p (KeyEdge.strays l) = tt
  key_main_site path main next p edge = p

  -- nothing is done at first
  pub none_done : (path : List Ref) (main : Ref) → PlaceSite kind s hash path main → DoneSite kind s hash path main []
  none_done path main p = (p, omega arith, λ n lt. absurd (omega arith))

  pub renew_next_site : (path : List Ref) (main : Ref) (done : List Ref) → DoneSite kind s hash path main done → LineSite kind s hash (renew_next state path main done)
  renew_next_site path main done d = cond_both (nat_lt (length done) (length (entries_of (node_at state.heap main)))) _ _ (LineSite kind s hash) (λ e. d) (λ e. d)

  -- the indirection that is found on the way is the next one on it
  down : (first : Ref → Ref) (path : List Ref) (main : Ref) (position bitmap : ℕ) (entries : ArrayVec Ref) → S main → s.level main ≡ depth_of path + 1 → PlaceSite kind s hash path main →
      IsFlagged (record { kind = kind; node = s.node; first = first }) (depth_of path) (key_of operation.call) main position bitmap entries →
      is_indirection (s.node (entry_at state.heap main position)) ≡ true → IsOnWay kind s hash (depth_of path + 1) (entry_at state.heap main position)
  down first path main position bitmap entries u level p f link =
      ap s.path entry_is ∙ leads_there kind s fits main bitmap entries (branch_seen s state S N main bitmap entries u f.is) (key_of operation.call) flag
      (subst (λ r. is_indirection (s.node r) ≡ true) entry_is link) (p.1 ∙ ap (path_to hash) (sym deep)) ∙ ap (path_to hash) deeper
    where
      deep : depth_at (s.level main) ≡ depth_of path
      deep = omega (arith, level)

      deeper : suc (depth_at (s.level main)) ≡ depth_of path + 1
      deeper = omega (arith, level)

      flag : has_flag bitmap (flag_of hash (depth_at (s.level main))) ≡ true
      flag = subst (λ d. has_flag bitmap (flag_of hash d) ≡ true) (sym deep) f.flagged

      entry_is : entry_at state.heap main position ≡ slice_index_or entries.items (position_of (flag_of hash (depth_at (s.level main))) bitmap) no_ref
      entry_is =
          ap (λ es. slice_index_or es position no_ref) (entries_seen s state S N main u ∙ ap entries_of f.is)
          ∙ ap (λ n. slice_index_or entries.items n no_ref) (f.at ∙ ap (λ d. position_of (flag_of hash d) bitmap) (sym deep))

  pub key_entry_site : (first : Ref → Ref) (path : List Ref) (main : Ref) (position : ℕ) (next : Line) →
      S main → S (entry_at state.heap main position) → nat_lt 0 (length path) ≡ true → s.level main ≡ depth_of path + 1 → PlaceSite kind s hash path main →
      (bitmap : ℕ) × (entries : ArrayVec Ref) × IsFlagged (record { kind = kind; node = s.node; first = first }) (depth_of path) (key_of operation.call) main position bitmap entries →
      KeyEdge state operation (key.Entry path main position) next → LineSite kind s hash next
  key_entry_site first path main position next u v long level p (bitmap, entries, f) (goes_down route m q g w e pass) =
      let link = link_seen s state S N (entry_at state.heap main position) v ∙ ap is_indirection e in
      let on = down first path main position bitmap entries u level p f link in
      let some : 0 < length path = ltb-true 0 (length path) long in
      let size : depth_of path + 1 ≡ length path = omega arith in
      let on_way : IsOnWay kind s hash (length path) (entry_at state.heap main position) = on ∙ ap (path_to hash) size in
      (pushed_site kind s hash path (entry_at state.heap main position) p.0 on_way, on_way ∙ ap (path_to hash) (pushed_depth path (entry_at state.heap main position)), tt)
  key_entry_site first path main position next u v long level p f (renews route m q g w e pass some) = none_done path main p
  key_entry_site first path main position next u v long level p f (renews_none route m q g w e pass none) = none_done path main p
  key_entry_site first path main position next u v long level p f (finds route m q k w n e same found) = found_site path main position w next p found
  key_entry_site first path main position next u v long level p f (puts_beside route m q k w e other i) = p
  key_entry_site first path main position next u v long level p f edge = tt

  pub listed_site : (path : List Ref) (main : Ref) (position : ℕ) (next : Line) → PlaceSite kind s hash path main → KeyEdge state operation (key.Listed path main position) next →
      LineSite kind s hash next
  listed_site path main position next p (finds_listed route m q k v n e same found) = found_site path main position v next p found
  listed_site path main position next p (looks_on route m q k v e other more) = p
  listed_site path main position next p (puts_listed route m q k v e other last room i) = p
  listed_site path main position next p edge = tt

  pub sibling_site : (path : List Ref) (main : Ref) (position former : ℕ) (next : Line) → PlaceSite kind s hash path main → KeyEdge state operation (key.Sibling path main position former) next →
      LineSite kind s hash next
  sibling_site path main position former next p (KeyEdge.strays l) = tt
  sibling_site path main position former next p edge = (p, tt)
