-- What lines know so that no branch below the root is left empty, or with one single alone: what KEY takes out of a pair leaves an indirection, and RENEW
-- keeps indirections.
use Rattle.std.proofs.Common.{◌≡◌, ℕ, ◌-◌, ◌<◌, ◌&&◌, true, List, [], ◌∷◌, ◌++◌, length, slice_index_or, Option, Some, None, sym, ap}
use Rattle.std.proofs.Common.{ap₂, subst, ◌∙◌, inl, inr, eq-eqb, arith}
use Rattle.std.proofs.lemmas.Bool.{cases_lt, false≢true}
use Rattle.std.proofs.lemmas.List.{get_or_append_left, get_or_push, length-append}
use Rattle.arrayvec.specs.ArrayVec.{ArrayVec}
use Rattle.proof_shape.specs.Vocabulary.{Call, Ref, Branch, List as Listed, node_at, entry_at, entries_of, next_ref, no_ref, Line, Operation, After, Gives, Read, RenewLine, is_below_root, State}
use Rattle.proof_shape.specs.Vocabulary.{next_entry, renew_after_read, renew_after_link, renew_after_branch, first_line}
use Rattle.proof_shape.specs.Beneath.machine_model.specs.declared.building.BuildLine.TheVariants as build
use Rattle.proof_shape.specs.Beneath.machine_model.specs.declared.building.Change.TheVariants as change
use Rattle.proof_shape.specs.Beneath.machine_model.specs.declared.lines.Line.TheVariants as line
use Rattle.proof_shape.specs.Beneath.machine_model.specs.declared.reading.After.TheVariants.{Goes}
use Rattle.proof_shape.specs.Beneath.machine_model.specs.declared.repairs.RenewLine.TheVariants as renew
use Rattle.proof_shape.specs.Beneath.machine_model.specs.declared.finding.KeyLine.TheVariants as key
use Rattle.proof_shape.specs.Beneath.machine_model.specs.Edges.Key.{FoundEdge, removes, removes_listed, KeyEdge, renews, renews_none, finds, finds_listed, keeps_sibling}
use Rattle.proof_shape.specs.Beneath.machine_model.specs.Edges.Repairs.{RenewNext, RenewEdge, meets_older, keeps_own}
use Rattle.proof_shape.specs.Beneath.machine_model.proofs.Edges.Repairs.{renew_next_edge}
use Rattle.proof_shape.specs.Beneath.proof_memory.specs.Wants.{is_indirection}
use Rattle.proof_shape.specs.Sites.Lines.{Sites, bare}
use Rattle.proof_shape.proofs.Lines.Leads.{keeps_entries, first_leads}
use Rattle.proof_shape.proofs.Shaped.Places.{bare_entries, bare_branch, link_alike}

module _ (s : Sites) where
  -- of two entries of a branch below the root the one that is left is an indirection
  abbrev pub SparesLink : List Ref → Ref → ℕ → Type 0
  SparesLink path main position =
      is_below_root path ≡ true → (b : ℕ) (es : ArrayVec Ref) → s.node main ≡ Branch b es → length es.items ≡ 2 → is_indirection (s.node (slice_index_or es.items (1 - position) no_ref)) ≡ true

  -- each indirection is kept, or renewed
  abbrev pub KeepsLinks : Ref → List Ref → Type 0
  KeepsLinks main done =
      (n : ℕ) → n < length done → is_indirection (s.node (slice_index_or (entries_of (s.node main)) n no_ref)) ≡ true → is_indirection (s.node (slice_index_or done n no_ref)) ≡ true

  abbrev pub FullRenew : RenewLine → Type 0
  FullRenew (renew.Entry path main done) = KeepsLinks main done
  FullRenew (renew.Read path main done r) = KeepsLinks main done
  FullRenew (renew.Link path main done child) = KeepsLinks main done
  FullRenew (renew.Branch path main done) = KeepsLinks main done

  abbrev pub FullLine : Line → Type 0
  FullLine (line.Build (build.Main path main (change.Remove position) former)) = SparesLink path main position
  FullLine (line.Renew l) = FullRenew l
  FullLine l = Unit {0}

  -- a line that needs to know nothing of that
  pub free_full : (l : Line) → keeps_entries l ≡ true → FullLine l
  free_full (line.Build (build.Main path main (change.Remove position) former)) e = absurd (false≢true e)
  free_full (line.Build (build.Main path main (change.Insert x) former)) e = tt
  free_full (line.Build (build.Main path main (change.Update position x) former)) e = tt
  free_full (line.Build (build.Main path main (change.Entomb x) former)) e = tt
  free_full (line.Build (build.Single path main where_ former)) e = tt
  free_full (line.Build (build.Pair path main position single depth)) e = tt
  free_full (line.Build (build.Link path main position below depth)) e = tt
  free_full (line.Build (build.Rung path main position below depth)) e = tt
  free_full (line.Renew l) e = absurd (false≢true e)
  free_full l e = tt

  pub first_full : (call : Call) → FullLine (first_line call)
  first_full call = free_full (first_line call) (first_leads call).1

  -- ---- KEY and RENEW, in a state that shows what stands

  module _ (state : State) (operation : Operation) (S : Ref → Type 0) (same : (r : Ref) → S r → bare (s.node r) ≡ bare (node_at state.heap r)) where
    abbrev L : Line → Type 0
    L l = FullLine l

    branch_same : (main : Ref) → S main → (b : ℕ) (es : ArrayVec Ref) → s.node main ≡ Branch b es → node_at state.heap main ≡ Branch b es
    branch_same main u b es is = bare_branch (node_at state.heap main) b es (sym (same main u) ∙ ap bare is)

    entry_same : (main : Ref) (n : ℕ) → S main → entry_at state.heap main n ≡ slice_index_or (entries_of (s.node main)) n no_ref
    entry_same main n u =
        ap (λ es. slice_index_or es n no_ref) (sym (bare_entries (node_at state.heap main)) ∙ ap entries_of (sym (same main u)) ∙ bare_entries (s.node main))

    found_full : (path : List Ref) (main : Ref) (position v : ℕ) (next : Line) → FoundEdge state operation path main position v next → S main → L next
    found_full path main position v next (removes takes bitmap entries e other) u = λ below b es is two.
        let both : Branch bitmap entries ≡ Branch b es = sym e ∙ branch_same main u b es is in
        let es_is : entries ≡ es = cc in
        absurd (false≢true (sym other ∙ ap₂ (λ x y. x && y) below (eq-eqb (length entries.items) 2 (ap (λ (xs : ArrayVec Ref). length xs.items) es_is ∙ two))))
    found_full path main position v next (removes_listed takes singles e others) u = λ below b es is two.
        absurd (let bad : Listed singles ≡ Branch b es = sym e ∙ branch_same main u b es is in cc)
    found_full path main position v next edge u = tt

    none_done : (main : Ref) → KeepsLinks main []
    none_done main n lt link = absurd (omega (arith, lt))

    renew_next_full : (path : List Ref) (main : Ref) (done : List Ref) (next : Line) → RenewNext state path main done next → KeepsLinks main done → L next
    renew_next_full path main done next (RenewNext.more e) k = k
    renew_next_full path main done next edge k = k

    pub entry_full : (path : List Ref) (main : Ref) (position : ℕ) (next : Line) → KeyEdge state operation (key.Entry path main position) next → S main → L next
    entry_full path main position next (renews route m q g w e older some) u = none_done main
    entry_full path main position next (renews_none route m q g w e older none) u = none_done main
    entry_full path main position next (finds route m q k v n e here found) u = found_full path main position v next found u
    entry_full path main position next edge u = tt

    pub listed_full : (path : List Ref) (main : Ref) (position : ℕ) (next : Line) → KeyEdge state operation (key.Listed path main position) next → S main → L next
    listed_full path main position next (finds_listed route m q k v n e here found) u = found_full path main position v next found u
    listed_full path main position next edge u = tt

    pub sibling_full : (path : List Ref) (main : Ref) (position former : ℕ) (next : Line) → KeyEdge state operation (key.Sibling path main position former) next →
        S main → S (entry_at state.heap main (1 - position)) → L next
    sibling_full path main position former next (keeps_sibling route m q old g w e) u v = λ below b es is two.
        let its : entry_at state.heap main (1 - position) ≡ slice_index_or es.items (1 - position) no_ref =
        entry_same main (1 - position) u ∙ ap (λ n. slice_index_or (entries_of n) (1 - position) no_ref) is in
        let other : Ref = entry_at state.heap main (1 - position) in
        ap (λ r. is_indirection (s.node r)) (sym its) ∙ link_alike (s.node other) (node_at state.heap other) (same other v) ∙ ap is_indirection e
    sibling_full path main position former next edge u v = tt

    -- ---- RENEW

    keeps_more : (main : Ref) (done : List Ref) (e : Ref) → KeepsLinks main done →
        (is_indirection (s.node (slice_index_or (entries_of (s.node main)) (length done) no_ref)) ≡ true → is_indirection (s.node e) ≡ true) →
        KeepsLinks main (done ++ e ∷ [])
    keeps_more main done e k new n within link = elim (cases_lt n (length done)) [
      | inl inside ↦ subst (λ x. is_indirection (s.node x) ≡ true) (sym (get_or_append_left done (e ∷ []) no_ref n inside)) (k n inside link)
      | inr past ↦ at_end (omega (arith, length-append done (e ∷ [])))
    ]
      where
        at_end : n ≡ length done → is_indirection (s.node (slice_index_or (done ++ e ∷ []) n no_ref)) ≡ true
        at_end is =
            subst (λ x. is_indirection (s.node x) ≡ true) (sym (get_or_push done e no_ref n (sym is)))
            (new (subst (λ m. is_indirection (s.node (slice_index_or (entries_of (s.node main)) m no_ref)) ≡ true) is link))

    kept : (main : Ref) (done : List Ref) → S main → KeepsLinks main done → KeepsLinks main (done ++ next_entry state main done ∷ [])
    kept main done u k = keeps_more main done (next_entry state main done) k (λ link. subst (λ r. is_indirection (s.node r) ≡ true) (sym (entry_same main (length done) u)) link)

    pub renew_entry_full : (path : List Ref) (main : Ref) (done : List Ref) (next : Line) → RenewEdge state operation (renew.Entry path main done) next → S main → KeepsLinks main done → L next
    renew_entry_full path main done next (meets_older route m d g w e older) u k = k
    renew_entry_full path main done next (keeps_own route m d g w n e own on) u k = renew_next_full path main _ next on (kept main done u k)
    renew_entry_full path main done next (RenewEdge.keeps_single route m d x y n e on) u k = renew_next_full path main _ next on (kept main done u k)
    renew_entry_full path main done next edge u k = tt

    pub renew_read_full : (path : List Ref) (main : Ref) (done : List Ref) (a : After Read Ref) → KeepsLinks main done → L (renew_after_read path main done a)
    renew_read_full path main done (Goes r) k = k
    renew_read_full path main done (Gives child) k = k

    pub link_full : (path : List Ref) (main : Ref) (done : List Ref) → KeepsLinks main done →
        ((made : Ref) → next_ref state.heap ≡ Some made → is_indirection (s.node made) ≡ true) → (o : Option Ref) → next_ref state.heap ≡ o →
        L (renew_after_link state path main done o)
    link_full path main done k new None e = tt
    link_full path main done k new (Some made) e = renew_next_full path main (done ++ made ∷ []) _ (renew_next_edge state path main _) (keeps_more main done made k (λ link. new made e))

    pub branch_full : (path : List Ref) (main : Ref) (o : Option Ref) → L (renew_after_branch path main o)
    branch_full path main None = tt
    branch_full path main (Some made) = tt
