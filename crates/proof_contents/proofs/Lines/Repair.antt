-- Each line of RENEW and CLEAN hands on what it knows of the entries that are done.
use Rattle.std.proofs.Common.{◌≡◌, ◌≢◌, ℕ, ◌<◌, ◌≤◌, ◌&&◌, nat_lt, nat_eq, Bool, true, false, cond, List, ◌∷◌, ◌++◌, length, slice_index_or, Some, refl, sym, ap, subst, subst₂}
use Rattle.std.proofs.Common.{◌∙◌, arith, eq-eqb, ltb-true, ltb-false, length-append, []}
use Rattle.std.specs.Option.{option_eq}
use Rattle.std.proofs.lemmas.List.{get_or_append_left}
use Rattle.std.proofs.Math.Seq.{get_or-append_seam}
use lib.Pointwise.{pointwise}
use Rattle.arrayvec.specs.ArrayVec.{ArrayVec}
use Rattle.proof_contents.specs.Vocabulary.{Ref, Node, Indirection, Branch, Single, Tomb, List as Listed, node_at, entries_of, bitmap_of, no_ref, renewed, contracted, Operation, After, Gives, Read}
use Rattle.proof_contents.specs.Vocabulary.{Line, State, word_at, is_start, is_below_root, handle_of, ReadLine, read_step, reading, read_after, at_indirection, renew_next, next_entry, branch_of}
use Rattle.proof_contents.specs.Vocabulary.{renew_after_entry, renew_after_read, clean_next, cleaned, leaves_single, clean_after_main, clean_after_entry, after_child, clean_after_tomb, new_try}
use Rattle.machine_model.specs.declared.reading.After.TheVariants.{Goes}
use Rattle.machine_model.specs.declared.repairs.RenewLine.TheVariants as renew
use Rattle.machine_model.specs.declared.repairs.CleanLine.TheVariants as clean
use Rattle.machine_model.specs.declared.lines.Line.TheVariants as line
use Rattle.proof_contents.specs.Tries.{Trie}
use Rattle.proof_contents.specs.Lines.Repairs.{IsDone, keeps, renews, cleans, AreDone, AllDone, SomeDone, KnowsRenew, KnowsClean, IsRepaired, KnowsRepair}

module _ (state : State) (operation : Operation) (node : Ref → Node) (first : Ref → Ref) (Gave : Ref → Ref → Type 0) (start : ℕ) where
  abbrev Knows : Line → Type 0
  Knows l = KnowsRepair node first Gave start l

  -- one entry more is done
  one_done : (main : Ref) (bitmap : ℕ) (entries : ArrayVec Ref) (done : List Ref) (other : Ref) → AreDone node first Gave start main bitmap entries done →
      IsDone node first Gave start (slice_index_or entries.items (length done) no_ref) other → AreDone node first Gave start main bitmap entries (done ++ other ∷ [])
  one_done main bitmap entries done other are is = record { is = are.is; each = λ n lt. by_place n lt (nat_lt n (length done)) refl }
    where
      by_place : (n : ℕ) → n < length (done ++ other ∷ []) → (b : Bool) → nat_lt n (length done) ≡ b →
          IsDone node first Gave start (slice_index_or entries.items n no_ref) (slice_index_or (done ++ other ∷ []) n no_ref)
      by_place n lt true below =
          subst (λ r. IsDone node first Gave start (slice_index_or entries.items n no_ref) r) (sym (get_or_append_left done (other ∷ []) no_ref n (ltb-true n (length done) below)))
          (are.each n (ltb-true n (length done) below))
      by_place n lt false above =
          let at : n ≡ length done = omega (arith, length-append done (other ∷ []), ltb-false n (length done) above) in
          subst₂ (λ e r. IsDone node first Gave start e r) (ap (λ m. slice_index_or entries.items m no_ref) (sym at))
          (sym (ap (λ m. slice_index_or (done ++ other ∷ []) m no_ref) at ∙ get_or-append_seam done other [] no_ref)) is

  module _ (main : Ref) (main_is : node_at state.heap main ≡ node main) (p : List Ref) where
    -- the next entry, or the end
    module _ (bitmap : ℕ) (entries : ArrayVec Ref) (done : List Ref) (are : AreDone node first Gave start main bitmap entries done) (most : length done ≤ length entries.items) where
      entries_are : entries_of (node_at state.heap main) ≡ entries.items
      entries_are = ap entries_of (main_is ∙ are.is)

      some_left : nat_lt (length done) (length (entries_of (node_at state.heap main))) ≡ true → SomeDone node first Gave start main done (λ next. Unit {0})
      some_left e = (bitmap, entries, are, (let lt = ltb-true (length done) (length (entries_of (node_at state.heap main))) e in omega (arith, lt, ap length entries_are)), tt)

      none_left : nat_lt (length done) (length (entries_of (node_at state.heap main))) ≡ false → AllDone node first Gave start main done
      none_left e = (bitmap, entries, are, (let le = ltb-false (length done) (length (entries_of (node_at state.heap main))) e in omega (arith, le, ap length entries_are)))

      renew_goes : Knows (renew_next state p main done)
      renew_goes = by_test (nat_lt (length done) (length (entries_of (node_at state.heap main)))) refl
        where
          by_test : (b : Bool) → nat_lt (length done) (length (entries_of (node_at state.heap main))) ≡ b →
              Knows (cond b (line.Renew (renew.Entry p main done)) (line.Renew (renew.Branch p main done)))
          by_test true e = some_left e
          by_test false e = none_left e

      clean_goes : Knows (clean_next state p main done)
      clean_goes = by_test (nat_lt (length done) (length (entries_of (node_at state.heap main)))) refl
        where
          by_change : (b : Bool) → AllDone node first Gave start main done → Knows (cond b new_try (line.Clean (clean.Contracted p main done)))
          by_change true all = tt
          by_change false all = all

          by_test : (b : Bool) → nat_lt (length done) (length (entries_of (node_at state.heap main))) ≡ b →
              Knows (cond b (line.Clean (clean.Entry p main done)) (cond (pointwise nat_eq done (entries_of (node_at state.heap main))) new_try (line.Clean (clean.Contracted p main done))))
          by_test true e = some_left e
          by_test false e = by_change (pointwise nat_eq done (entries_of (node_at state.heap main))) (none_left e)

    -- a repair begins with no entry done
    none_done : (bitmap : ℕ) (entries : ArrayVec Ref) → node main ≡ Branch bitmap entries → AreDone node first Gave start main bitmap entries []
    none_done bitmap entries is = record { is = is; each = λ n lt. absurd (omega arith) }

    pub renew_starts : (bitmap : ℕ) (entries : ArrayVec Ref) → node main ≡ Branch bitmap entries → KnowsRepair node first Gave start (renew_next state p main [])
    renew_starts bitmap entries is = renew_goes bitmap entries [] (none_done bitmap entries is) (omega arith)

    pub clean_starts : (n : Node) → node main ≡ n → KnowsRepair node first Gave start (clean_after_main state p main n)
    clean_starts (Branch bitmap entries) is = clean_goes bitmap entries [] (none_done bitmap entries is) (omega arith)
    clean_starts (Indirection g w) is = tt
    clean_starts (Single k v) is = tt
    clean_starts (Tomb s) is = tt
    clean_starts (Listed ss) is = tt

    module _ (done : List Ref) where
      next_is : (bitmap : ℕ) (entries : ArrayVec Ref) → node main ≡ Branch bitmap entries → next_entry state main done ≡ slice_index_or entries.items (length done) no_ref
      next_is bitmap entries is = ap (λ n. slice_index_or (entries_of n) (length done) no_ref) (main_is ∙ is)

      -- the entry is kept
      keeps_next : (bitmap : ℕ) (entries : ArrayVec Ref) → AreDone node first Gave start main bitmap entries done →
          AreDone node first Gave start main bitmap entries (done ++ next_entry state main done ∷ [])
      keeps_next bitmap entries are = one_done main bitmap entries done (next_entry state main done) are (keeps (sym (next_is bitmap entries are.is)))

      more : (entries : ArrayVec Ref) (other : Ref) → length done < length entries.items → length (done ++ other ∷ []) ≤ length entries.items
      more entries other lt = omega (arith, length-append done (other ∷ []))

      -- RENEW's entry
      pub renew_entry_knows : KnowsRenew node first Gave start (renew.Entry p main done) → operation.generation ≡ Some start →
          ((h : ℕ) (word : Ref) → node_at state.heap (next_entry state main done) ≡ Indirection h word → (w : Ref) × (node (next_entry state main done) ≡ Indirection h w)) →
          (n : Node) → node_at state.heap (next_entry state main done) ≡ n →
          KnowsRepair node first Gave start (renew_after_entry state operation p main done (next_entry state main done) n)
      renew_entry_knows (bitmap, entries, are, lt, u) begun link (Indirection h word) e = by_test (is_start operation h) refl
        where
          by_test : (b : Bool) → is_start operation h ≡ b →
              KnowsRepair node first Gave start
              (cond b (renew_next state p main (done ++ next_entry state main done ∷ [])) (line.Renew (renew.Read p main done (reading (next_entry state main done)))))
          by_test true same = renew_goes bitmap entries (done ++ next_entry state main done ∷ []) (keeps_next bitmap entries are) (more entries (next_entry state main done) lt)
          by_test false other =
              let found = link h word e in
              let apart : h ≢ start = λ same. (let bad : true ≡ false = sym (ap (λ o. option_eq nat_eq o (Some h)) begun ∙ eq-eqb start h (sym same)) ∙ other in cc) in
              (bitmap, entries, are, lt, (next_is bitmap entries are.is, (h, found.0, ap node (sym (next_is bitmap entries are.is)) ∙ found.1, apart)))
      renew_entry_knows (bitmap, entries, are, lt, u) begun link (Single k v) e =
          renew_goes bitmap entries (done ++ next_entry state main done ∷ []) (keeps_next bitmap entries are) (more entries (next_entry state main done) lt)
      renew_entry_knows (bitmap, entries, are, lt, u) begun link (Branch b es) e = tt
      renew_entry_knows (bitmap, entries, are, lt, u) begun link (Tomb s) e = tt
      renew_entry_knows (bitmap, entries, are, lt, u) begun link (Listed ss) e = tt

      -- RENEW's READ of the next entry
      pub renew_read_knows : (read : Read) → KnowsRenew node first Gave start (renew.Read p main done read) → (after : After Read Ref) →
          ((r : Read) → after ≡ Goes r → r.indirection ≡ read.indirection) → ((child : Ref) → after ≡ Gives child → Gave read.indirection child) →
          KnowsRepair node first Gave start (renew_after_read p main done after)
      renew_read_knows read (bitmap, entries, are, lt, (at, older)) (Goes r) same gave = (bitmap, entries, are, lt, (same r refl ∙ at, older))
      renew_read_knows read (bitmap, entries, are, lt, (at, older)) (Gives child) same gave = (bitmap, entries, are, lt, (subst (λ r. Gave r child) at (gave child refl), older))

      -- the indirection that RENEW made
      pub renew_link_knows : (child made word : Ref) → KnowsRenew node first Gave start (renew.Link p main done child) → node made ≡ Indirection start word → first made ≡ child →
          KnowsRepair node first Gave start (renew_next state p main (done ++ made ∷ []))
      renew_link_knows child made word (bitmap, entries, are, lt, (gave, (h, word', is, apart))) made_is first_is =
          renew_goes bitmap entries (done ++ made ∷ []) (one_done main bitmap entries done made are (renews h word' word child is apart made_is gave first_is)) (more entries made lt)

      -- CLEAN's entry
      pub clean_entry_knows : KnowsClean node first Gave start (clean.Entry p main done) →
          ((h : ℕ) (word : Ref) → node_at state.heap (next_entry state main done) ≡ Indirection h word → (w : Ref) × (node (next_entry state main done) ≡ Indirection h w)) →
          (n : Node) → node_at state.heap (next_entry state main done) ≡ n →
          KnowsRepair node first Gave start (clean_after_entry state p main done (next_entry state main done) n)
      clean_entry_knows (bitmap, entries, are, lt, u) link (Indirection h word) e =
          let found = link h word e in
          (bitmap, entries, are, lt, (next_is bitmap entries are.is, (h, found.0, ap node (sym (next_is bitmap entries are.is)) ∙ found.1)))
      clean_entry_knows (bitmap, entries, are, lt, u) link (Single k v) e =
          clean_goes bitmap entries (done ++ next_entry state main done ∷ []) (keeps_next bitmap entries are) (more entries (next_entry state main done) lt)
      clean_entry_knows (bitmap, entries, are, lt, u) link (Branch b es) e = tt
      clean_entry_knows (bitmap, entries, are, lt, u) link (Tomb s) e = tt
      clean_entry_knows (bitmap, entries, are, lt, u) link (Listed ss) e = tt

      -- CLEAN's READ of it
      pub clean_child_knows : (read : Read) → KnowsClean node first Gave start (clean.Child p main done read) → (after : After Read Ref) →
          ((r : Read) → after ≡ Goes r → r.indirection ≡ read.indirection) → ((child : Ref) → after ≡ Gives child → Gave read.indirection child) →
          KnowsRepair node first Gave start (after_child p main done after)
      clean_child_knows read (bitmap, entries, are, lt, (at, link)) (Goes r) same gave = (bitmap, entries, are, lt, (same r refl ∙ at, link))
      clean_child_knows read (bitmap, entries, are, lt, (at, link)) (Gives child) same gave = (bitmap, entries, are, lt, (subst (λ r. Gave r child) at (gave child refl), link))

      -- what it gave, if it is a tomb
      pub clean_tomb_knows : (child : Ref) → KnowsClean node first Gave start (clean.Tomb p main done child) → (n : Node) → node child ≡ n →
          KnowsRepair node first Gave start (clean_after_tomb state p main done n)
      clean_tomb_knows child (bitmap, entries, are, lt, (gave, (h, word, is))) (Tomb single) e =
          clean_goes bitmap entries (done ++ single ∷ []) (one_done main bitmap entries done single are (cleans h word child is gave e)) (more entries single lt)
      clean_tomb_knows child (bitmap, entries, are, lt, (gave, link)) (Indirection h w) e =
          clean_goes bitmap entries (done ++ next_entry state main done ∷ []) (keeps_next bitmap entries are) (more entries (next_entry state main done) lt)
      clean_tomb_knows child (bitmap, entries, are, lt, (gave, link)) (Branch b es) e =
          clean_goes bitmap entries (done ++ next_entry state main done ∷ []) (keeps_next bitmap entries are) (more entries (next_entry state main done) lt)
      clean_tomb_knows child (bitmap, entries, are, lt, (gave, link)) (Single k v) e =
          clean_goes bitmap entries (done ++ next_entry state main done ∷ []) (keeps_next bitmap entries are) (more entries (next_entry state main done) lt)
      clean_tomb_knows child (bitmap, entries, are, lt, (gave, link)) (Listed ss) e =
          clean_goes bitmap entries (done ++ next_entry state main done ∷ []) (keeps_next bitmap entries are) (more entries (next_entry state main done) lt)

      -- the new main node
      pub renew_branch_knows : (made : Ref) → KnowsRenew node first Gave start (renew.Branch p main done) → node made ≡ branch_of state main done → IsRepaired node first Gave start main made
      renew_branch_knows made (bitmap, entries, are, all) made_is =
          (done, bitmap, entries, are, all, (false, made_is ∙ ap (λ n. renewed (bitmap_of n) done) (main_is ∙ are.is)))

      pub clean_contracted_knows : (made : Ref) → KnowsClean node first Gave start (clean.Contracted p main done) → node made ≡ cleaned state p main done → IsRepaired node first Gave start main made
      clean_contracted_knows made (bitmap, entries, are, all) made_is = (
        done,
        bitmap,
        entries,
        are,
        all,
        (
          is_below_root p && leaves_single state done,
          made_is ∙ ap (λ n. contracted (is_below_root p && leaves_single state done) (bitmap_of n) done) (main_is ∙ are.is),
        ),
      )

-- a READ goes on with the same indirection
pub read_stays : (state : State) (operation : Operation) (read r : Read) → read_step state operation read ≡ Goes r → r.indirection ≡ read.indirection
read_stays state operation read r e = by_line (read_after state.heap operation.access (word_at state (handle_of operation.call)) read.indirection read.line) e
  where
    by_line : (after : After ReadLine Ref) → at_indirection read.indirection after ≡ Goes r → r.indirection ≡ read.indirection
    by_line (Goes l) e =
        let same : Goes (record { indirection = read.indirection; line = l }) ≡ Goes r = e in let r_is : record { indirection = read.indirection; line = l }
        ≡ r = cc in ap (λ (q : Read). q.indirection) (sym r_is)
    by_line (Gives m) e = absurd (let bad : Gives m ≡ Goes r = e in cc)

-- ---- at the commit

-- What is given stays so: the last main node of an indirection of another generation, and at some time that of any.
pub record StaysGiven (trie : Trie) (Gave : Ref → Ref → Type 0) (g t : ℕ) : Type 0 where
  pub final : (entry child word : Ref) (h : ℕ) → trie.node entry ≡ Indirection h word → h ≢ g → Gave entry child → trie.main trie.last entry ≡ child
  pub once : (entry child : Ref) → Gave entry child → (u : ℕ) × (u ≤ t) × (trie.main u entry ≡ child)

-- the indirections that were made in the place of older ones have their first main nodes
abbrev pub HasFresh : Trie → (Ref → Ref) → ℕ → ℕ → ArrayVec Ref → List Ref → Type 0
HasFresh trie first g t entries done =
    (n h : ℕ) (word word' : Ref) → trie.node (slice_index_or entries.items n no_ref) ≡ Indirection h word → h ≢ g →
    trie.node (slice_index_or done n no_ref) ≡ Indirection g word' → trie.main t (slice_index_or done n no_ref) ≡ first (slice_index_or done n no_ref)
