-- RENEW makes a node for each entry, and the branch, where one actor alone takes steps.
use Rattle.std.proofs.Common.{◌≡◌, ℕ, zero, suc, ◌+◌, ◌<◌, ◌≤◌, ◌⊎◌, inl, inr, cond, List, [], ◌∷◌, ◌++◌, length, Some, sym, subst, arith}
use Rattle.std.proofs.lemmas.Bool.{lt-ltb, le-ltb}
use Rattle.std.proofs.lemmas.List.{length-append}
use Rattle.proof_obstruction_free.specs.Beneath.history.specs.declared.replies.Reply.TheVariants as reply
use Rattle.proof_obstruction_free.specs.Vocabulary.{Ref, entries_of}
use Rattle.proof_obstruction_free.specs.Beneath.machine_model.specs.declared.lines.Line.TheVariants as line
use Rattle.proof_obstruction_free.specs.Beneath.machine_model.specs.declared.reading.ReadLine.TheVariants as read
use Rattle.proof_obstruction_free.specs.Beneath.machine_model.specs.declared.repairs.RenewLine.TheVariants as renew
use Rattle.proof_obstruction_free.specs.Alone.{Lone, Stands, node}
use Rattle.proof_obstruction_free.specs.Keys.{IsRenewing}
use Rattle.proof_obstruction_free.specs.Machines.{IsRead, Machines}
use Rattle.proof_obstruction_free.specs.Stepping.{Stepping}
use Rattle.proof_obstruction_free.proofs.Making.Few.{Few, bind, ended, here, map, one, one_made, weaken}
use Rattle.proof_obstruction_free.proofs.Making.Machines.{reads}
use Rattle.proof_obstruction_free.proofs.Renew.Calm.{Calm}
use Rattle.proof_obstruction_free.proofs.Renew.Lines.{Advanced, GoesOn, Looked, earlier, entry_link, entry_read, entry_reads, links, looks, renew_line}
use Rattle.proof_obstruction_free.proofs.Renew.Nodes.{sees_more}
use Rattle.proof_obstruction_free.proofs.Renew.Comes.{Renews, by_branch, one_more}
use Rattle.proof_obstruction_free.proofs.Weights.Offers.{flat, is_weight}

module _ (a : Lone) (steps : Stepping a) (machines : Machines a (flat a) 7) (g : ℕ) (path : List Ref) (main : Ref) where
  -- ---- an entry

  module _ (done : List Ref) where
    abbrev On : ℕ → ℕ → Type 0
    On = GoesOn a steps g path main done

    later : (n t u : ℕ) → Calm a t u → Few a (On u) n u → Few a (On t) n u
    later n t u calm = map a (On u) (On t) n u (λ v past within. earlier a steps g path main done t u v calm)

    link_made : (child : Ref) (t : ℕ) → Stands a t (Some g) (entry_link path main done child) → Few a (On t) 1 t
    link_made child t s = one_made a (On t) 0 t s.until (λ more. here a (On t) 0 (suc t) (omega (arith, more)) (links a steps g path main done child t s more))

    read_made : (i : Ref) (t : ℕ) → Stands a t (Some g) (entry_read path main done i read.Main) → Few a (On t) 1 t
    read_made i t s =
        bind a (IsRead a (flat a) 7 t (Some g) (entry_link path main done) i) (On t) 0 1 t
        (reads a (entry_read path main done i) (entry_link path main done) i (entry_reads a.own path main done i) t (Some g) s)
        (λ u past within r. later 1 t u (record { keeps = r.keeps; word = r.word }) (link_made r.main u r.stands))

    looked_made : (t : ℕ) → suc t ≤ a.last → Looked a steps g path main done t → Few a (On t) 1 (suc t)
    looked_made t within x = by_so x.so
      where
        by_so : Advanced a steps g path main done t (suc t) ⊎ Stands a (suc t) (Some g) (entry_read path main done x.entry read.Main) → Few a (On t) 1 (suc t)
        by_so (inl y) = here a (On t) 1 (suc t) within (inl y)
        by_so (inr s) = later 1 t (suc t) x.calm (read_made x.entry (suc t) s)

    pub entry_made : (t : ℕ) → Stands a t (Some g) (line.Renew (renew.Entry path main done)) → Few a (On t) 1 t
    entry_made t s =
        one a (On t) 1 t (Some g) (line.Renew (renew.Entry path main done)) s tt (λ more. looked_made t (omega (arith, more)) (looks a steps g path main done t s more))

  -- ---- all of them

  abbrev entries : List Ref
  entries = entries_of (node a main)

  abbrev All : List Ref → ℕ → ℕ → Type 0
  All = Renews a steps (flat a) 7 (is_weight a) machines g path main

  abbrev From : ℕ → Type 0
  From left = (done : List Ref) (t : ℕ) → length done + left ≡ length entries → Stands a t (Some g) (renew_line entries path main done) → Few a (All done t) (left + 1) t

  branch_made : (done : List Ref) (t : ℕ) → Stands a t (Some g) (line.Renew (renew.Branch path main done)) → length done ≡ length entries → Few a (All done t) 1 t
  branch_made done t s all = one_made a (All done t) 0 t s.until (λ more. by more (by_branch a steps (flat a) 7 (is_weight a) machines g path main done t s all more))
    where
      by : t < a.last → All done t (suc t) ⊎ Stands a (suc t) (Some g) (line.End reply.NoSlots) → Few a (All done t) 0 (suc t)
      by more (inl x) = here a (All done t) 0 (suc t) (omega (arith, more)) x
      by more (inr s) = ended a steps (All done t) 0 (suc t) (Some g) reply.NoSlots s

  on_made : (left : ℕ) → From left → (done : List Ref) (t u : ℕ) → length done + suc left ≡ length entries → GoesOn a steps g path main done t u → Few a (All done t) (left + 1) u
  on_made left from done t u size (inl x) =
      map a (All (done ++ x.entry ∷ []) u) (All done t) (left + 1) u (λ v past within. one_more a steps (flat a) 7 (is_weight a) machines g path main done x.entry t u v x.renewed x.calm)
      (from (done ++ x.entry ∷ []) u (omega (arith, size, length-append done (x.entry ∷ []))) x.stands)
  on_made left from done t u size (inr e) = ended a steps (All done t) (left + 1) u (Some g) e.answer e.stands

  entry_on : (left : ℕ) → From left → From (suc left)
  entry_on left from done t size s =
      let low : length done < length entries = omega (arith, size) in
      let stands = subst (λ b. Stands a t (Some g) (cond b (line.Renew (renew.Entry path main done)) (line.Renew (renew.Branch path main done)))) (lt-ltb (length done) (length entries) low) s in
      weaken a (All done t) (1 + (left + 1)) (suc left + 1) t (omega arith)
      (bind a (GoesOn a steps g path main done t) (All done t) 1 (left + 1) t (entry_made done t stands) (λ u past within x. on_made left from done t u size x))

  goes_from : (left : ℕ) → From left
  goes_from zero done t size s =
      let all : length done ≡ length entries = omega (arith, size) in
      let stands = subst (λ b. Stands a t (Some g) (cond b (line.Renew (renew.Entry path main done)) (line.Renew (renew.Branch path main done))))
      (le-ltb (length done) (length entries) (omega (arith, size))) s in
      weaken a (All done t) 1 (zero + 1) t (omega arith) (branch_made done t stands all)
  goes_from (suc left) done t size s = entry_on left (goes_from left) done t size s

  -- from its first entry
  pub renews_made : (t : ℕ) → Stands a t (Some g) (line.Renew (renew.Entry path main [])) → Few a (IsRenewing a (flat a) 7 t g path main 0) (length entries + 1) t
  renews_made t s =
      let seen = sees_more a steps t s.until path main [] (steps.wants t (Some g) (line.Renew (renew.Entry path main [])) s) in
      let stands = subst (λ b. Stands a t (Some g) (cond b (line.Renew (renew.Entry path main [])) (line.Renew (renew.Branch path main [])))) (sym (lt-ltb 0 (length entries) seen.more)) s in
      map a (All [] t) (IsRenewing a (flat a) 7 t g path main 0) (length entries + 1) t (λ u past within r. r.to) (goes_from (length entries) [] t (omega arith) stands)
