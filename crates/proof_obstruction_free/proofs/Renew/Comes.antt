-- RENEW, where one actor alone takes steps: it comes to the SWAP of a branch whose entries are renewed.
use Rattle.std.proofs.Common.{◌≡◌, ℕ, zero, suc, ◌+◌, ◌*◌, ◌<◌, ◌≤◌, ◌⊎◌, inl, inr, cond, List, [], ◌∷◌, ◌++◌, length, slice_index_or, Option, Some, None, refl, sym, ap, subst, ◌∙◌, arith}
use Rattle.std.proofs.lemmas.Bool.{cases_lt, lt-ltb, le-ltb}
use Rattle.std.proofs.lemmas.List.{length-append, get_or_append_left, get_or_push}
use Rattle.proof_obstruction_free.specs.Vocabulary.{hash_of, Ref, entries_of, bitmap_of, next_ref, no_ref, renewed, key_of, branch_of, renew_after_branch, LineSite, sites_of}
use Rattle.proof_obstruction_free.specs.Beneath.history.specs.declared.replies.Reply.TheVariants as reply
use Rattle.proof_obstruction_free.specs.Beneath.machine_model.specs.declared.lines.Line.TheVariants as line
use Rattle.proof_obstruction_free.specs.Beneath.machine_model.specs.declared.repairs.RenewLine.TheVariants as renew
use Rattle.proof_obstruction_free.specs.Beneath.proof_shape.proofs.Sites.At.{lines_have_sites}
use Rattle.proof_obstruction_free.specs.Alone.{Lone, Stands, Within, IsWeight, node}
use Rattle.proof_obstruction_free.specs.Keys.{IsRenewed, IsRenewing, RenewsFrom, RenewsBranch}
use Rattle.proof_obstruction_free.specs.Machines.{Machines}
use Rattle.proof_obstruction_free.specs.Stepping.{Stepping}
use Rattle.proof_obstruction_free.proofs.Renew.Nodes.{SeesAll, sees_more, sees_all}
use Rattle.proof_obstruction_free.proofs.Renew.Calm.{Calm, calm_on, calm_step, step_on}
use Rattle.proof_obstruction_free.proofs.Renew.Lines.{renew_line, GoesOn, entry_within}
use Rattle.proof_obstruction_free.proofs.Step.Within.{here, weaken, map, bind, one, ended}

module _ (a : Lone) (steps : Stepping a) (weight : ℕ → ℕ) (c : ℕ) (heavy : IsWeight a weight) (machines : Machines a weight c) where
  abbrev W : (ℕ → Type 0) → ℕ → ℕ → Type 0
  W = Within a weight

  module _ (g : ℕ) (path : List Ref) (main : Ref) where
    abbrev entries : List Ref
    entries = entries_of (node a main)

    -- RENEW comes to its SWAP, and what was done is as it was
    pub record Renews (done : List Ref) (t u : ℕ) : Type 0 where
      pub to : IsRenewing a weight c t g path main (length done) u
      pub kept : (k : ℕ) → k < length done → slice_index_or to.done k no_ref ≡ slice_index_or done k no_ref

    -- ---- the branch

    module _ (done : List Ref) (t : ℕ) (s : Stands a t (Some g) (line.Renew (renew.Branch path main done))) (all : length done ≡ length entries) (more : t < a.last) where
      found : SeesAll a steps t main done
      found = sees_all a steps t s.until path main done (steps.wants t (Some g) (line.Renew (renew.Branch path main done)) s)

      calm : Calm a t (suc t)
      calm = calm_step a steps t (Some g) (line.Renew (renew.Branch path main done)) s more tt tt tt

      branch_next : Stands a (suc t) (Some g) (renew_after_branch path main (next_ref (a.states t).heap))
      branch_next = step_on a steps t (Some g) (line.Renew (renew.Branch path main done)) s more tt refl

      node_made : (made : Ref) → next_ref (a.states t).heap ≡ Some made → node a made ≡ renewed (bitmap_of (node a main)) done
      node_made made e =
          steps.made t (Some g) (line.Renew (renew.Branch path main done)) s more tt (branch_of (a.states t) main done) made refl refl e ∙ ap (λ n. renewed (bitmap_of n) done) found.branch

      by_made : (o : Option Ref) → next_ref (a.states t).heap ≡ o → Stands a (suc t) (Some g) (renew_after_branch path main o) →
          Renews done t (suc t) ⊎ Stands a (suc t) (Some g) (line.End reply.NoSlots)
      by_made None e stands = inr stands
      by_made (Some made) e stands = inl (record {
        to = record {
          fresh = made;
          stands = stands;
          done = done;
          same_length = all;
          branch = node_made made e;
          each = λ k low high. absurd (omega arith);
          keeps = calm.keeps;
          word = calm.word;
        };
        kept = λ k lt. refl;
      })

      -- its SWAP, or the end where no slot is free
      pub by_branch : Renews done t (suc t) ⊎ Stands a (suc t) (Some g) (line.End reply.NoSlots)
      by_branch = by_made (next_ref (a.states t).heap) refl branch_next

      branch_made : W (Renews done t) 1 (suc t)
      branch_made = by by_branch
        where
          by : Renews done t (suc t) ⊎ Stands a (suc t) (Some g) (line.End reply.NoSlots) → W (Renews done t) 1 (suc t)
          by (inl x) = weaken a weight (Renews done t) 0 1 (suc t) (omega arith) (here a weight (Renews done t) (suc t) x)
          by (inr stands) = ended a weight steps (Renews done t) (suc t) (Some g) reply.NoSlots stands

    pub branch_within : (done : List Ref) (t : ℕ) → Stands a t (Some g) (line.Renew (renew.Branch path main done)) → length done ≡ length entries → W (Renews done t) 2 t
    branch_within done t s all = one a weight heavy (Renews done t) 1 t (Some g) (line.Renew (renew.Branch path main done)) s tt (λ more. branch_made done t s all more)

    -- ---- one entry after another

    -- what comes of more entries comes of those before them
    pub one_more : (done : List Ref) (x : Ref) (t v u : ℕ) → IsRenewed a g x → Calm a t v → Renews (done ++ x ∷ []) v u → Renews done t u
    one_more done x t v u is calm r =
        let size : length (done ++ x ∷ []) ≡ length done + 1 = length-append done (x ∷ []) in
        let on = calm_on a t v u calm (record { keeps = r.to.keeps; word = r.to.word }) in
        let at_x : slice_index_or r.to.done (length done) no_ref ≡ x = r.kept (length done) (omega (arith, size)) ∙ get_or_push done x no_ref (length done) refl in
        record {
          to = record {
            fresh = r.to.fresh;
            stands = r.to.stands;
            done = r.to.done;
            same_length = r.to.same_length;
            branch = r.to.branch;
            each = λ k low high. elim (cases_lt (length done) k) [
              | inl past ↦ r.to.each k (omega (arith, size, past)) high
              | inr up ↦ (let same : length done ≡ k = omega (arith, low, up) in subst (λ n. IsRenewed a g (slice_index_or r.to.done n no_ref)) same (subst (IsRenewed a g) (sym at_x) is))
            ];
            keeps = on.keeps;
            word = on.word;
          };
          kept = λ k lt. r.kept k (omega (arith, size, lt)) ∙ get_or_append_left done (x ∷ []) no_ref k lt;
        }

    abbrev From : ℕ → Type 0
    From left = (done : List Ref) (t : ℕ) → length done + left ≡ length entries → Stands a t (Some g) (renew_line entries path main done) → W (Renews done t) (left * (c + 2) + 2) t

    -- from where an entry is done, or there is no slot for it
    on_within : (left : ℕ) → From left → (done : List Ref) (t u : ℕ) → length done + suc left ≡ length entries → GoesOn a steps g path main done t u → W (Renews done t) (left * (c + 2) + 2) u
    on_within left from done t u size (inl x) =
        map a weight (Renews (done ++ x.entry ∷ []) u) (Renews done t) (left * (c + 2) + 2) u (λ v past within. one_more done x.entry t u v x.renewed x.calm)
        (from (done ++ x.entry ∷ []) u (omega (arith, size, length-append done (x.entry ∷ []))) x.stands)
    on_within left from done t u size (inr e) = weaken a weight (Renews done t) 1 (left * (c + 2) + 2) u (omega arith) (ended a weight steps (Renews done t) u (Some g) e.answer e.stands)

    entry_on : (left : ℕ) → From left → From (suc left)
    entry_on left from done t size s =
        let low : length done < length entries = omega (arith, size) in
        let stands = subst (λ b. Stands a t (Some g) (cond b (line.Renew (renew.Entry path main done)) (line.Renew (renew.Branch path main done)))) (lt-ltb (length done) (length entries) low) s in
        weaken a weight (Renews done t) (c + 2 + (left * (c + 2) + 2)) (suc left * (c + 2) + 2) t (omega arith)
        (bind a weight (GoesOn a steps g path main done t) (Renews done t) (c + 2) (left * (c + 2) + 2) t
        (entry_within a steps g path main done weight c heavy machines t stands) (λ u past within x. on_within left from done t u size x))

    pub goes_from : (left : ℕ) → From left
    goes_from zero done t size s =
        let all : length done ≡ length entries = omega (arith, size) in
        let stands = subst (λ b. Stands a t (Some g) (cond b (line.Renew (renew.Entry path main done)) (line.Renew (renew.Branch path main done))))
        (le-ltb (length done) (length entries) (omega (arith, size))) s in
        weaken a weight (Renews done t) 2 (zero * (c + 2) + 2) t (omega arith) (branch_within done t stands all)
    goes_from (suc left) done t size s = entry_on left (goes_from left) done t size s

  -- ---- from an entry, and from the branch

  pub renews_from : RenewsFrom a weight c
  renews_from path main done t g left s size =
      let seen = sees_more a steps t s.until path main done (steps.wants t (Some g) (line.Renew (renew.Entry path main done)) s) in
      let stands = subst (λ b. Stands a t (Some g) (cond b (line.Renew (renew.Entry path main done)) (line.Renew (renew.Branch path main done))))
      (sym (lt-ltb (length done) (length (entries_of (node a main))) seen.more)) s in
      map a weight (Renews g path main done t) (IsRenewing a weight c t g path main (length done)) (left * (c + 2) + 2) t (λ u past within r. r.to) (goes_from g path main left done t size stands)

  -- no more is done than there is
  not_more : (path : List Ref) (main : Ref) (done : List Ref) (t g : ℕ) → Stands a t (Some g) (line.Renew (renew.Branch path main done)) → length done ≤ length (entries_of (node a main))
  not_more path main done t g s =
      let sites = (lines_have_sites a.steps a.run a.takes a.fit t s.until a.actor s.operation s.runs).1 in
      (subst (LineSite a.limits.hash (sites_of a.states a.steps a.last) (hash_of a.limits.hash (key_of s.operation.call))) s.line sites).1

  pub renews_branch : RenewsBranch a weight c
  renews_branch path main done t g s =
      let seen = sees_all a steps t s.until path main done (steps.wants t (Some g) (line.Renew (renew.Branch path main done)) s) in
      let low = not_more path main done t g s in
      map a weight (Renews g path main done t) (IsRenewing a weight c t g path main (length done)) 2 t (λ u past within r. r.to)
      (branch_within g path main done t s (omega (arith, low, seen.all)))
