-- How a call renews the entries of a branch, one after the other.
use Rattle.std.proofs.Common.{◌≡◌, ℕ, suc, ◌+◌, ◌<◌, ◌≤◌, ◌==◌, inl, inr, Bool, true, false, not, cond, nat_lt, List, [], ◌∷◌, ◌++◌, length, get_or, Option, Some, None, refl, sym}
use Rattle.std.proofs.Common.{ap, ◌∙◌, subst, lt-ltb, arith}
use Rattle.std.proofs.Math.Seq.{get_or-append_seam}
use Rattle.std.proofs.lemmas.Bool.{cases_Bool, le-ltb, true≢false, false≢true}
use Rattle.std.proofs.lemmas.List.{append_assoc, length-append, length-set}
use Rattle.arrayvec.specs.ArrayVec.{ArrayVec}
use Rattle.proof_straight.specs.Vocabulary.{Call, Node, Indirection, Branch, Single, Tomb, List as Listed, Slot, Ref, Heap, stored, node_of, node_at, main_at, main_of, prev_at, entry_at, entries_of}
use Rattle.proof_straight.specs.Vocabulary.{generation_at, no_ref, Line, Operation, RenewLine, begun_operation, after_prev, at_indirection, reading, Record, renew_after_entry, renew_after_link}
use Rattle.proof_straight.specs.Vocabulary.{renew_after_read, with_made as private_with, State, given_by, IsLive}
use Rattle.proof_straight.specs.Beneath.slot_arena.specs.declared.nodes.Prev.TheVariants as prev
use Rattle.machine_model.specs.declared.lines.Line.TheVariants as line
use Rattle.machine_model.specs.declared.reading.ReadLine.TheVariants as read
use Rattle.machine_model.specs.declared.repairs.RenewLine.TheVariants as renew
use Rattle.proof_straight.specs.Drafts.{Draft, with_made}
use Rattle.proof_straight.proofs.Change.Changed.{live_stands}
use Rattle.proof_straight.specs.Recorded.{moment_of}
use Rattle.proof_straight.specs.Renewals.{AreRenewable, IsRenewable, Renewal, is_of_other, is_old, renewal_slots, renewal_steps, renewed_entries, renewed_entry}
use Rattle.proof_straight.proofs.Steps.Alone.{Alone, IsCalm, on_line, stand}
use Rattle.proof_straight.proofs.Change.Builds.{IsDraft, has_made, node_stays}
use Rattle.proof_straight.proofs.Way.Descent.{rooted}
use Rattle.proof_straight.proofs.Steps.Going.{Stands, begun_record, looks, makes, reads}
use Rattle.proof_straight.proofs.Steps.Noting.{noted_read, read_again, reading as reading_of, with_read}
use Rattle.proof_straight.proofs.Steps.Settled.{settled_once}
use Rattle.proof_straight.proofs.Change.Slots.{prev_stays, takes}

-- what isn't a branch stands
IsPlainNode : Node → Type 0
IsPlainNode (Branch bitmap entries) = ⊥
IsPlainNode node = Unit {0}

plain_stands : (heap : Heap) (r : Ref) → IsPlainNode (node_at heap r) → (slot : Slot) × (stored heap r ≡ Some slot)
unfolding node_at IsPlainNode
plain_stands heap r plain = by (stored heap r) refl plain
  where
    by : (o : Option Slot) → stored heap r ≡ o → IsPlainNode (node_of o) → (slot : Slot) × (stored heap r ≡ Some slot)
    by None e wrong = absurd wrong
    by (Some slot) e p = (slot, e)

renewable_plain : (state : State) (entry : Ref) (node : Node) → IsRenewable state entry node → IsPlainNode node
unfolding IsPlainNode
renewable_plain state entry (Indirection generation word) h = tt
renewable_plain state entry (Single key value) h = tt
renewable_plain state entry (Branch bitmap entries) h = h
renewable_plain state entry (Tomb single) h = absurd h
renewable_plain state entry (Listed singles) h = absurd h

module _ (state : State) (past : Record) (k : ℕ) (call : Call) (root : Ref) (alone : Alone state k) (path : List Ref) (main : Ref) (bitmap : ℕ) (entries : ArrayVec Ref)
    (branch : node_at state.heap main ≡ Branch bitmap entries) (main_slot : Slot) (main_stands : stored state.heap main ≡ Some main_slot) where
  abbrev pub OnRenew : Record → Draft → Line → ℕ → Type 0
  OnRenew so_far draft l c = Stands state past k call so_far state draft (on_line (rooted state call root) draft l) c

  -- the line before the next entry, or where none is left
  abbrev pub next_line : List Ref → List Ref → Line
  next_line done [] = line.Renew (renew.Branch path main done)
  next_line done (entry ∷ rest) = line.Renew (renew.Entry path main done)

  abbrev pub next_in : Draft → List Ref → Line
  next_in draft done =
      cond (nat_lt (length done) (length (entries_of (node_at draft.heap main)))) (line.Renew (renew.Entry path main done)) (line.Renew (renew.Branch path main done))

  pub branch_in : (draft : Draft) → IsDraft state draft → node_at draft.heap main ≡ Branch bitmap entries
  branch_in draft h = node_stays state draft main main_slot h main_stands ∙ branch

  pub next_is : (draft : Draft) (before rest done : List Ref) → IsDraft state draft → before ++ rest ≡ entries.items → length done ≡ length before → next_in draft done ≡ next_line done rest
  next_is draft before [] done h all size =
      ap (λ node. cond (nat_lt (length done) (length (entries_of node))) (line.Renew (renew.Entry path main done)) (line.Renew (renew.Branch path main done))) (branch_in draft h)
      ∙ ap (λ b. cond b (line.Renew (renew.Entry path main done)) (line.Renew (renew.Branch path main done)))
      (le-ltb (length done) (length entries.items) (omega (arith, size, ap length all, length-append before [])))
  next_is draft before (entry ∷ rest) done h all size =
      ap (λ node. cond (nat_lt (length done) (length (entries_of node))) (line.Renew (renew.Entry path main done)) (line.Renew (renew.Branch path main done))) (branch_in draft h)
      ∙ ap (λ b. cond b (line.Renew (renew.Entry path main done)) (line.Renew (renew.Branch path main done)))
      (lt-ltb (length done) (length entries.items) (omega (arith, size, ap length all, length-append before (entry ∷ rest))))

  entry_is : (draft : Draft) (before rest done : List Ref) (entry : Ref) → IsDraft state draft → before ++ entry ∷ rest ≡ entries.items → length done ≡ length before →
      entry_at draft.heap main (length done) ≡ entry
  entry_is draft before rest done entry h all size =
      ap (λ node. get_or (entries_of node) (length done) no_ref) (branch_in draft h) ∙ ap (λ l. get_or l (length done) no_ref) (sym all)
      ∙ ap (λ n. get_or (before ++ entry ∷ rest) n no_ref) size ∙ get_or-append_seam before entry rest no_ref

  -- how the call stands before the rest of the entries
  pub record Stood (draft : Draft) (rest done : List Ref) (c : ℕ) : Type 0 where
    pub so_far : Record
    pub within : k < length so_far.moments
    pub only_reads : (step : ℕ) (m : Ref) → with_read so_far k step m ≡ with_read (begun_record state past k call) k step m
    pub stands : OnRenew so_far draft (next_line done rest) c

  abbrev op_at : Draft → RenewLine → Operation
  op_at draft l = on_line (rooted state call root) draft (line.Renew l)

  abbrev st_at : Draft → RenewLine → ℕ → State
  st_at draft l c = stand state k draft (op_at draft l) (state.steps + suc c)

  own_generation : (a b : ℕ) → not (a == b) ≡ false → (a == b) ≡ true
  own_generation a b h = by (a == b) h
    where
      by : (t : Bool) → not t ≡ false → t ≡ true
      by true h = refl
      by false h = absurd (true≢false h)

  other_generation : (a b : ℕ) → not (a == b) ≡ true → (a == b) ≡ false
  other_generation a b h = by (a == b) h
    where
      by : (t : Bool) → not t ≡ true → t ≡ false
      by true h = absurd (false≢true h)
      by false h = refl

  -- what comes behind a look at an entry that stays
  kept_by : (draft : Draft) (done : List Ref) (entry : Ref) (c : ℕ) (node : Node) → IsRenewable state entry node → is_of_other (generation_at state.heap root) node ≡ false →
      renew_after_entry (st_at draft (renew.Entry path main done) c) (op_at draft (renew.Entry path main done)) path main done entry node ≡ next_in draft (done ++ entry ∷ [])
  kept_by draft done entry c (Indirection g word) renewable old =
      ap (λ b. cond b (next_in draft (done ++ entry ∷ [])) (line.Renew (renew.Read path main done (reading entry)))) (own_generation (generation_at state.heap root) g old)
  kept_by draft done entry c (Single key value) renewable old = refl
  kept_by draft done entry c (Branch b e) renewable old = absurd renewable
  kept_by draft done entry c (Tomb single) renewable old = absurd renewable
  kept_by draft done entry c (Listed singles) renewable old = absurd renewable

  -- and at one that is to be renewed
  old_by : (draft : Draft) (done : List Ref) (entry : Ref) (c : ℕ) (node : Node) → is_of_other (generation_at state.heap root) node ≡ true →
      renew_after_entry (st_at draft (renew.Entry path main done) c) (op_at draft (renew.Entry path main done)) path main done entry node
      ≡ line.Renew (renew.Read path main done (reading entry))
  old_by draft done entry c (Indirection g word) old =
      ap (λ b. cond b (next_in draft (done ++ entry ∷ [])) (line.Renew (renew.Read path main done (reading entry)))) (other_generation (generation_at state.heap root) g old)
  old_by draft done entry c (Single key value) old = absurd (false≢true old)
  old_by draft done entry c (Branch b e) old = absurd (false≢true old)
  old_by draft done entry c (Tomb single) old = absurd (false≢true old)
  old_by draft done entry c (Listed singles) old = absurd (false≢true old)

  same_node : (draft : Draft) (entry : Ref) → IsDraft state draft → IsRenewable state entry (node_at state.heap entry) → node_at draft.heap entry ≡ node_at state.heap entry
  same_node draft entry h renewable =
      let (slot, at) = plain_stands state.heap entry (renewable_plain state entry (node_at state.heap entry) renewable) in node_stays state draft entry slot h at

  -- a look at the next entry, by what comes of its node
  looks_at : {so_far : Record} (draft : Draft) (before rest done : List Ref) (entry : Ref) (c : ℕ) (m : Line) → IsCalm state draft → IsDraft state draft → before ++ entry ∷ rest ≡ entries.items →
      length done ≡ length before → IsRenewable state entry (node_at state.heap entry) →
      renew_after_entry (st_at draft (renew.Entry path main done) c) (op_at draft (renew.Entry path main done)) path main done entry (node_at state.heap entry) ≡ m →
      OnRenew so_far draft (line.Renew (renew.Entry path main done)) c → OnRenew so_far draft m (suc c)
  looks_at draft before rest done entry c m calm h all size renewable leads before_it =
      let l = renew.Entry path main done in
      looks state past k call state alone draft (rooted state call root) (line.Renew l) m c calm before_it tt refl refl
      (ap (λ e. renew_after_entry (st_at draft l c) (op_at draft l) path main done e (node_at draft.heap e)) (entry_is draft before rest done entry h all size)
      ∙ ap (λ node. renew_after_entry (st_at draft l c) (op_at draft l) path main done entry node) (same_node draft entry h renewable) ∙ leads)

  longer : (before rest : List Ref) (entry : Ref) → before ++ entry ∷ rest ≡ entries.items → (before ++ entry ∷ []) ++ rest ≡ entries.items
  longer before rest entry all = append_assoc before (entry ∷ []) rest ∙ all

  as_long : (done before : List Ref) (r entry : Ref) → length done ≡ length before → length (done ++ r ∷ []) ≡ length (before ++ entry ∷ [])
  as_long done before r entry size = omega (arith, size, length-append done (r ∷ []), length-append before (entry ∷ []))

  keeps : (draft : Draft) (before rest done : List Ref) (entry : Ref) (c : ℕ) → IsCalm state draft → IsDraft state draft → before ++ entry ∷ rest ≡ entries.items → length done ≡ length before →
      IsRenewable state entry (node_at state.heap entry) → is_old state root entry ≡ false → Stood draft (entry ∷ rest) done c → Stood draft rest (done ++ entry ∷ []) (suc c)
  keeps draft before rest done entry c calm h all size renewable old stood = record {
    so_far = stood.so_far;
    within = stood.within;
    only_reads = stood.only_reads;
    stands =
        looks_at draft before rest done entry c (next_line (done ++ entry ∷ []) rest) calm h all size renewable
        (kept_by draft done entry c (node_at state.heap entry) renewable old
        ∙ next_is draft (before ++ entry ∷ []) rest (done ++ entry ∷ []) h (longer before rest entry all) (as_long done before entry entry size)) stood.stands;
  }

  -- what an old entry has
  old_parts : (entry : Ref) (node : Node) → node_at state.heap entry ≡ node → IsRenewable state entry node → is_of_other (generation_at state.heap root) node ≡ true →
      (prev_at state.heap (main_at state.heap entry) ≡ prev.None) × IsLive state.heap (main_at state.heap entry)
  old_parts entry (Indirection g word) is renewable old = renewable
  old_parts entry (Single key value) is renewable old = absurd (false≢true old)
  old_parts entry (Branch b e) is renewable old = absurd renewable
  old_parts entry (Tomb single) is renewable old = absurd renewable
  old_parts entry (Listed singles) is renewable old = absurd renewable

  renews : (draft : Draft) (before rest done : List Ref) (entry : Ref) (c : ℕ) → IsCalm state draft → IsDraft state draft → 1 ≤ length draft.heap.free →
      before ++ entry ∷ rest ≡ entries.items → length done ≡ length before → IsRenewable state entry (node_at state.heap entry) → is_old state root entry ≡ true →
      Stood draft (entry ∷ rest) done c →
      Stood (with_made state draft (Indirection (generation_at state.heap root) (main_at state.heap entry))) rest
      (done ++ (with_made state draft (Indirection (generation_at state.heap root) (main_at state.heap entry))).newest ∷ []) (suc (suc (suc (suc c))))
  renews draft before rest done entry c calm h enough all size renewable old stood =
      let child = main_at state.heap entry in
      let node = Indirection (generation_at state.heap root) child in
      let after = with_made state draft node in
      let parts = old_parts entry (node_at state.heap entry) refl renewable old in
      let (slot, at) = live_stands state.heap child parts.1 in
      let first = renew.Read path main done (reading entry) in
      let second = renew.Read path main done (record { indirection = entry; line = read.Prev child }) in
      let link = renew.Link path main done child in
      let step = state.steps + suc (suc c) in
      let at_first =
      looks_at draft before rest done entry c (line.Renew first) calm h all size renewable (old_by draft done entry c (node_at state.heap entry) old) stood.stands in
      let at_second =
      reads state past k call state alone draft (rooted state call root) (line.Renew first) (line.Renew second) (suc c) (reading_of None true) calm at_first tt refl refl
      (ap (λ m. line.Renew (renew.Read path main done (record { indirection = entry; line = read.Prev m }))) (ap main_of (same_node draft entry h renewable))) in
      let still_decided = prev_stays state.heap draft.heap child slot at (h.stays child slot at) ∙ parts.0 in
      let at_link =
      reads state past k call state alone draft (rooted state call root) (line.Renew second) (line.Renew link) (suc (suc c)) (reading_of (Some child) false) calm at_second tt
      (ap (λ v. reading_of (given_by (at_indirection entry (after_prev (begun_operation state call None).access child v))) false) still_decided) refl
      (ap (λ v. renew_after_read path main done (at_indirection entry (after_prev (begun_operation state call None).access child v))) still_decided) in
      let read_it = subst (λ r. OnRenew r draft (line.Renew link) (suc (suc (suc c)))) (noted_read stood.so_far step (state.steps + suc (suc (suc c))) k child stood.within) at_link in
      let drawn = (takes draft.heap node h.empty enough).drawn in
      record {
        so_far = with_read stood.so_far k step child;
        within = omega (arith, stood.within, length-set stood.so_far.moments k (moment_of stood.so_far step child));
        only_reads = λ later other. read_again stood.so_far k step later child other ∙ stood.only_reads later other;
        stands =
            makes state past k call state alone draft (rooted state call root) (rooted state call root) (line.Renew link) (next_line (done ++ after.newest ∷ []) rest) (suc (suc (suc c))) node
            drawn read_it
            refl refl
            (ap (λ n. record (op_at draft link) { private = private_with draft.private n; line = renew_after_link (st_at draft link (suc (suc (suc c)))) path main done n }) drawn
            ∙ ap (λ l. on_line (rooted state call root) after l)
            (next_is draft (before ++ entry ∷ []) rest (done ++ after.newest ∷ []) h (longer before rest entry all) (as_long done before after.newest entry size)));
      }

  -- once all are renewed
  pub record Renewed (rest : List Ref) (start : Renewal) (c : ℕ) : Type 0 where
    pub is : IsDraft state (renewed_entries state root rest start).draft
    pub calm : IsCalm state (renewed_entries state root rest start).draft
    pub fewer : length start.draft.heap.free ≡ renewal_slots state root rest + length (renewed_entries state root rest start).draft.heap.free
    pub stood : Stood (renewed_entries state root rest start).draft [] (renewed_entries state root rest start).entries (c + renewal_steps state root rest)

  -- the same for an entry and what is behind it, by whether it is old
  abbrev RenewedBy : Bool → Ref → List Ref → Renewal → ℕ → Type 0
  RenewedBy old entry rest start c =
      let done = renewed_entries state root rest (renewed_entry state root entry old start) in
      IsDraft state done.draft × IsCalm state done.draft × (length start.draft.heap.free ≡ (cond old 1 0 + renewal_slots state root rest) + length done.draft.heap.free)
      × Stood done.draft [] done.entries (c + (cond old 4 1 + renewal_steps state root rest))

  joined : (old : Bool) (entry : Ref) (rest : List Ref) (start : Renewal) (c d : ℕ) → length start.draft.heap.free ≡ cond old 1 0 + length (renewed_entry state root entry old start).draft.heap.free →
      d ≡ c + cond old 4 1 → Renewed rest (renewed_entry state root entry old start) d → RenewedBy old entry rest start c
  joined old entry rest start c d fewer count h = (
    h.is,
    h.calm,
    omega (arith, fewer, h.fewer),
    subst (λ n. Stood (renewed_entries state root rest (renewed_entry state root entry old start)).draft [] (renewed_entries state root rest (renewed_entry state root entry old start)).entries n)
        (omega (arith, count)) h.stood,
  )

  in_all : (entry : Ref) (rest : List Ref) (start : Renewal) (c : ℕ) → RenewedBy (is_old state root entry) entry rest start c → Renewed (entry ∷ rest) start c
  unfolding renewed_entries renewal_slots renewal_steps
  in_all entry rest start c h = record { is = h.0; calm = h.1; fewer = h.2; stood = h.3 }

  pub renews_all : (rest before : List Ref) (start : Renewal) (c : ℕ) → IsCalm state start.draft → IsDraft state start.draft → renewal_slots state root rest ≤ length start.draft.heap.free →
      before ++ rest ≡ entries.items → length start.entries ≡ length before → AreRenewable state rest → Stood start.draft rest start.entries c → Renewed rest start c
  unfolding renewed_entries renewal_slots renewal_steps
  renews_all [] before start c calm h enough all size renewable stood =
      record { is = h; calm = calm; fewer = omega arith; stood = subst (λ n. Stood start.draft [] start.entries n) (omega arith) stood }
  renews_all (entry ∷ rest) before start c calm h enough all size renewable stood = elim (cases_Bool (is_old state root entry)) [
    | inl old ↦
        let node = Indirection (generation_at state.heap root) (main_at state.heap entry) in
        let next = renewed_entry state root entry true start in
        let slots : cond (is_old state root entry) 1 0 + renewal_slots state root rest ≡ 1 + renewal_slots state root rest = ap (λ b. cond b 1 0 + renewal_slots state root rest) old in
        let some : 1 ≤ length start.draft.heap.free = omega (arith, enough, slots) in
        let made = has_made state start.draft node h some in
        let fewer = (takes start.draft.heap node h.empty some).fewer in
        in_all entry rest start c (subst (λ b. RenewedBy b entry rest start c) (sym old) (joined true entry rest start c (suc (suc (suc (suc c)))) (omega (arith, fewer)) (omega arith)
        (renews_all rest (before ++ entry ∷ []) next (suc (suc (suc (suc c)))) (settled_once next.draft.heap _ state.epoch _) made.is (omega (arith, enough, slots, fewer))
        (longer before rest entry all)
        (as_long start.entries before next.draft.newest entry size) renewable.1 (renews start.draft before rest start.entries entry c calm h some all size renewable.0 old stood))))
    | inr kept ↦
        let next = renewed_entry state root entry false start in
        let slots : cond (is_old state root entry) 1 0 + renewal_slots state root rest ≡ 0 + renewal_slots state root rest = ap (λ b. cond b 1 0 + renewal_slots state root rest) kept in
        in_all entry rest start c (subst (λ b. RenewedBy b entry rest start c) (sym kept) (joined false entry rest start c (suc c) (omega arith) (omega arith)
        (renews_all rest (before ++ entry ∷ []) next (suc c) calm h (omega (arith, enough, slots)) (longer before rest entry all) (as_long start.entries before entry entry size) renewable.1
        (keeps start.draft before rest start.entries entry c calm h all size renewable.0 kept stood))))
  ]
