-- An operation that goes over the entries of a branch is at the next one.
use Rattle.std.proofs.Common.{◌≡◌, ◌++◌, ℕ, true, false, List, [], ◌∷◌, Contains, length, sym, ap, subst, ◌∙◌, arith}
use Rattle.std.proofs.lemmas.List.Elements.{Contains-get_or, Contains-append_right}
use Rattle.machine_model.specs.Beneath.slot_arena.specs.declared.refs.Ref.{Ref}
use Rattle.machine_model.specs.Beneath.slot_arena.specs.declared.nodes.Node.{Node}
use Rattle.machine_model.specs.Beneath.slot_arena.specs.declared.nodes.Node.TheVariants.{Indirection, Single}
use Rattle.machine_model.specs.Beneath.slot_arena.specs.declared.nodes.Slot.{Slot}
use Rattle.machine_model.specs.Beneath.slot_arena.specs.Heaps.{node_at, with_main_word}
use Rattle.machine_model.specs.declared.lines.Line.{Line}
use Rattle.history.specs.declared.calls.Access.{Access}
use Rattle.history.specs.declared.calls.Call.{Call}
use Rattle.proof_memory.specs.Vocabulary.{HashKind}
use Rattle.proof_memory.specs.Wants.{AllHold, ABranch, is_entry, line_wants, done_wants}
use Rattle.proof_memory.proofs.Claims.Nodes.{branch_main}
use Rattle.lock_free.specs.declared.rules.View.{View}
use Rattle.lock_free.specs.Entries.{entry_in}
use Rattle.lock_free.specs.Holding.{IsOn}
use Rattle.lock_free.specs.Live.{IsLive, refs_of_claims}
use Rattle.lock_free.specs.Loading.{now, IsUsed, IsSound}
use Rattle.lock_free.specs.Nodes.{is_single}
use Rattle.lock_free.specs.Passing.{Later}
use Rattle.lock_free.proofs.EntryMeets.{single_of}
use Rattle.lock_free.proofs.GivenBack.{node_is}
use Rattle.lock_free.proofs.LinkMeets.{link_of}
use Rattle.lock_free.proofs.KeyHolds.{LooksIn, looks_by, within, entry_then}
use Rattle.lock_free.proofs.OneStep.Entries.{entry_stands}
use Rattle.lock_free.proofs.OnLines.{finds_now}

-- a line that wants no more than that is at the entry after those that are done
module _ (v : View) (l : Line) (at : IsOn v l) (path : List Ref) (main : Ref) (done : List Ref) (wants : (kind : HashKind) (call : Call) (access : Access) → line_wants kind call access
    l ≡ done_wants path main
    done) (n : ℕ) (sound : IsSound n v) where
  claims : AllHold (IsLive (now v)) (now v).heap (done_wants path main done)
  claims = subst (AllHold (IsLive (now v)) (now v).heap) (wants v.sizes.hash at.0.call at.0.access) (finds_now v l at n sound)

  named : Contains (refs_of_claims (done_wants path main done)) main
  named = Contains-append_right path (main ∷ (done ++ main ∷ [])) main (Contains-get_or (main ∷ (done ++ main ∷ [])) 0 main (omega arith))

  pub holds_next : LooksIn v main (length done)
  holds_next =
      looks_by v l at n sound main (length done) ABranch (subst (λ cs. Contains (refs_of_claims cs) main) (sym (wants v.sizes.hash at.0.call at.0.access)) named) branch_main claims.1.1.0
      (within v l at n sound main (length done) claims.1.1.1.1.0)

  -- it is an indirection or a single
  pub next_kind : is_entry (node_at (now v).heap (entry_in v main (length done))) ≡ true
  next_kind = entry_stands v.sizes v.account sound.bounds main (length done) claims.1.1.0 claims.1.1.1.1.0

-- what an entry is it stays
module _ (v : View) (main : Ref) (position : ℕ) (h : LooksIn v main position) (w : View) (l : Later v w) where
  pub node_later : (node : Node) → node_at (now v).heap (entry_in v main position) ≡ node → (slot : Slot) × IsUsed w (entry_in w main position) slot × ((m : Ref) × (slot.node ≡ with_main_word m node))
  node_later node is =
      let e = entry_in v main position in
      let u = h.entry_used in
      let y = l.nodes e u.0 u.1 in
      let was : u.0.node ≡ node = sym (node_is (now v) e u.0 u.1) ∙ is in
      (y.0, subst (λ r. IsUsed w r y.0) (sym (entry_then v main position h w l)) y.1, (y.2.0, y.2.1 ∙ ap (with_main_word y.2.0) was))

  pub single_then : is_single (node_at (now v).heap (entry_in v main position)) ≡ true → (k : ℕ) × (x : ℕ) × (node_at (now w).heap (entry_in w main position) ≡ Single k x)
  single_then is =
      let s = single_of (node_at (now v).heap (entry_in v main position)) is in
      let y = node_later (Single s.0 s.1) s.2 in
      (s.0, s.1, node_is (now w) (entry_in w main position) y.0 y.1 ∙ y.2.1)

  pub link_then : is_entry (node_at (now v).heap (entry_in v main position)) ≡ true → is_single (node_at (now v).heap (entry_in v main position)) ≡ false →
      (slot : Slot) × IsUsed w (entry_in w main position) slot × ((g : ℕ) × (m : Ref) × (slot.node ≡ Indirection g m))
  link_then is no_single =
      let s = link_of (node_at (now v).heap (entry_in v main position)) is no_single in
      let y = node_later (Indirection s.0 s.1) s.2 in
      (y.0, y.1, (s.0, y.2.0, y.2.1))
