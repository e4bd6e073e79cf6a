-- From where a stale pass of a change has found its place: it comes to a new try, or the operation ends.
use Rattle.std.proofs.Common.{◌≡◌, ℕ, suc, ◌+◌, ◌*◌, ◌≤◌, Bool, true, false, List, length, slice_index_or, Option, refl, sym, subst, ap, ◌∙◌, arith}
use Rattle.proof_obstruction_free.specs.Vocabulary.{Ref, Node, Indirection, Branch, Single, Tomb, List as Listed, node_at, entry_at, entries_of, no_ref, BuildLine, SwapLine, line_action, swapped}
use Rattle.proof_obstruction_free.specs.Vocabulary.{after_update, current, swapping, build_path, main_of_build, action_wants, AllHold, is_branch, IsInUse}
use Rattle.proof_obstruction_free.specs.Beneath.machine_model.specs.declared.finding.KeyLine.TheVariants as key
use Rattle.proof_obstruction_free.specs.Beneath.machine_model.specs.declared.lines.Line.TheVariants as line
use Rattle.proof_obstruction_free.specs.Beneath.machine_model.specs.declared.lines.Purpose.TheVariants as purpose
use Rattle.proof_obstruction_free.specs.Beneath.machine_model.specs.declared.reading.SwapLine.TheVariants as swap
use Rattle.proof_obstruction_free.specs.Beneath.proof_memory.specs.Wants.{is_indirection}
use Rattle.proof_obstruction_free.specs.Beneath.proof_memory.proofs.Safety.AtTimes.{action_at}
use Rattle.proof_obstruction_free.specs.Beneath.proof_memory.proofs.Claims.Uses.{safe_of, meets_of}
use Rattle.proof_obstruction_free.specs.Beneath.proof_memory.proofs.Claims.Named.{main_claim}
use Rattle.proof_obstruction_free.specs.Alone.{Lone, Stands, Keeps, WordStays, Within, IsWeight, node}
use Rattle.proof_obstruction_free.specs.Keys.{IsBuilt}
use Rattle.proof_obstruction_free.specs.Machines.{Machines, IsSwapped, WasSwapped}
use Rattle.proof_obstruction_free.specs.Stale.{Tries, UpdatesOn, BuildsAgain, AbsentAgain, ListsAgain, SiblingsAgain, EntriesAgain}
use Rattle.proof_obstruction_free.specs.Stepping.{Stepping}
use Rattle.proof_obstruction_free.proofs.Step.Within.{here, weaken, map, bind}
use Rattle.proof_obstruction_free.proofs.Build.Comes.{builds_on}
use Rattle.proof_obstruction_free.proofs.Pass.Key.Lines.{absent_ends, sibling_ends, list_ends, entry_ends}
use Rattle.proof_obstruction_free.proofs.Climb.Ends.{climbs}
use Rattle.proof_obstruction_free.proofs.Climb.Lines.{ended_soon}
use Rattle.proof_obstruction_free.proofs.Climb.On.{short_way, levels}

-- what stands under references, as a line meets it

branch_no_link : (n : Node) → is_branch n ≡ true → is_indirection n ≡ false
branch_no_link (Branch bitmap entries) e = refl
branch_no_link (Indirection h x) e = absurd (cc e)
branch_no_link (Single k v) e = refl
branch_no_link (Tomb x) e = refl
branch_no_link (Listed xs) e = refl

module _ (a : Lone) (steps : Stepping a) (path : List Ref) (main : Ref) (position t : ℕ) (g : Option ℕ) (now : Stands a t g (line.Key (key.Entry path main position))) where
  -- the branch in which an operation looks at an entry
  branch_found : node_at (a.states t).heap main ≡ node a main
  branch_found =
      let wanted = steps.wants t g (line.Key (key.Entry path main position)) now in
      steps.node_found t main now.until (safe_of (main_claim wanted)) (branch_no_link (node_at (a.states t).heap main) (meets_of (main_claim wanted)))

  -- and that entry
  entry_used : IsInUse (a.states t).heap (entry_at (a.states t).heap main position)
  entry_used =
      let wanted = action_at a.run t now.until a.actor now.operation now.runs in
      let looked = subst (λ l. AllHold (IsInUse (a.states t).heap) (a.states t).heap (action_wants (line_action (a.states t) now.operation l))) now.line wanted in
      safe_of looked.0

  pub entry_link : (h : ℕ) (x : Ref) → node_at (a.states t).heap (entry_at (a.states t).heap main position) ≡ Indirection h x →
      (m : Ref) × (node a (slice_index_or (entries_of (node a main)) position no_ref) ≡ Indirection h m)
  entry_link h x e =
      let (m, is) = steps.link_found t (entry_at (a.states t).heap main position) h x now.until entry_used e in
      (m, ap (λ n. node a (slice_index_or (entries_of n) position no_ref)) (sym branch_found) ∙ is)

module _ (a : Lone) (weight : ℕ → ℕ) (c : ℕ) (heavy : IsWeight a weight) (steps : Stepping a) (machines : Machines a weight c) where
  abbrev W : (ℕ → Type 0) → ℕ → ℕ → Type 0
  W = Within a weight

  abbrev Nothing : ℕ → Type 0
  Nothing u = ⊥

  -- a change that was swapped in ends
  pub update_ends : (path : List Ref) (former : Option ℕ) → length path ≤ 14 → (t : ℕ) (g : Option ℕ) (n : Node) → Stands a t g (after_update a.own path former n) →
      W Nothing (levels c) t
  update_ends path former short t g (Tomb single) now = climbs a weight c heavy steps machines 14 (record { path = path; single = single; former = former }) short t g now
  update_ends path former short t g (Branch bitmap entries) now = ended_soon a weight heavy steps Nothing (levels c) t g former a.own (omega arith) now
  update_ends path former short t g (Indirection h x) now = ended_soon a weight heavy steps Nothing (levels c) t g former a.own (omega arith) now
  update_ends path former short t g (Single k v) now = ended_soon a weight heavy steps Nothing (levels c) t g former a.own (omega arith) now
  update_ends path former short t g (Listed singles) now = ended_soon a weight heavy steps Nothing (levels c) t g former a.own (omega arith) now

  -- one that wasn't is tried anew
  update_done : (path : List Ref) (former : Option ℕ) → length path ≤ 14 → (t : ℕ) (g : Option ℕ) (fresh : Ref) (done : Bool) →
      Stands a t g (swapped a.own (node a fresh) (purpose.Update path former) done) → W (Tries a weight c g) (14 * (c + 12) + 3) t
  update_done path former short t g fresh true now =
      map a weight Nothing (Tries a weight c g) (14 * (c + 12) + 3) t (λ u later within none. absurd none) (update_ends path former short t g (node a fresh) now)
  update_done path former short t g fresh false now = weaken a weight (Tries a weight c g) 0 (14 * (c + 12) + 3) t (omega arith) (here a weight (Tries a weight c g) t now)

  update_first : (path : List Ref) (former : Option ℕ) → length path ≤ 14 → (t : ℕ) (g : Option ℕ) (i main fresh : Ref) →
      Stands a t g (line.Swap (purpose.Update path former) (swapping i main fresh)) → W (Tries a weight c g) (10 + (14 * (c + 12) + 3)) t
  update_first path former short t g i main fresh now =
      bind a weight (IsSwapped a weight c t g (purpose.Update path former) i main fresh) (Tries a weight c g) 10 (14 * (c + 12) + 3) t
      (machines.swaps_first (purpose.Update path former) i main fresh t g now)
      (λ u later within done. update_done path former short u g fresh done.done done.stands)

  pub updates_on : UpdatesOn a weight c
  updates_on path former w t g now = by_line w.line refl
    where
      short : length path ≤ 14
      short = short_way a t g (line.Swap (purpose.Update path former) w) now

      on : (w.line ≡ swap.Publish → ⊥) → W (Tries a weight c g) (14 * (c + 12) + c + 13) t
      on other =
          weaken a weight (Tries a weight c g) (c + 7 + (14 * (c + 12) + 3)) (14 * (c + 12) + c + 13) t (omega arith)
          (bind a weight (WasSwapped a weight c t g (purpose.Update path former) w.fresh) (Tries a weight c g) (c + 7) (14 * (c + 12) + 3) t
          (machines.swaps_on (purpose.Update path former) w t g now other)
          (λ u later within done. update_done path former short u g w.fresh done.done done.stands))

      by_line : (l : SwapLine) → w.line ≡ l → W (Tries a weight c g) (14 * (c + 12) + c + 13) t
      by_line swap.Publish e =
          weaken a weight (Tries a weight c g) (10 + (14 * (c + 12) + 3)) (14 * (c + 12) + c + 13) t (omega arith)
          (update_first path former short t g w.indirection w.replaced w.fresh (subst (λ l. Stands a t g (line.Swap (purpose.Update path former) (record w { line = l }))) e now))
      by_line (swap.Deciding l) e = on (λ is. let bad : swap.Deciding l ≡ swap.Publish = sym e ∙ is in cc)
      by_line swap.Check e = on (λ is. let bad : swap.Check ≡ swap.Publish = sym e ∙ is in cc)

  pub builds_again : BuildsAgain a weight c
  builds_again l t g now =
      weaken a weight (Tries a weight c g) (30 + (10 + (14 * (c + 12) + 3))) (14 * (c + 12) + 43) t (omega arith)
      (bind a weight (IsBuilt a weight c t g (build_path l) (main_of_build l)) (Tries a weight c g) 30 (10 + (14 * (c + 12) + 3)) t (builds_on a weight c heavy steps l t g now)
      (λ u later within built.
      update_first (build_path l) built.former (short_way a t g (line.Build l) now) u g (current (build_path l)) (main_of_build l) built.fresh built.stands))

  -- ---- the lines of KEY

  module _ (path : List Ref) (main : Ref) (g : Option ℕ) where
    abbrev Always : ℕ → Type 0
    Always t = Unit {0}

    always : (t : ℕ) → Keeps a t (suc t) → WordStays a t (suc t) → Always t → Always (suc t)
    always t keeps word h = tt

    again : (l : BuildLine) (u : ℕ) → Always u → Stands a u g (line.Build l) → build_path l ≡ path → main_of_build l ≡ main → W (Tries a weight c g) (14 * (c + 12) + 43) u
    again l u h now way is = builds_again l u g now

  pub absent_again : AbsentAgain a weight c
  absent_again operation path main t g now =
      absent_ends a weight heavy steps path main g (Always path main g) (always path main g) (Tries a weight c g) (14 * (c + 12) + 43) (omega arith) (again path main g) t tt operation now

  pub lists_again : ListsAgain a weight c
  lists_again path main position t g now =
      weaken a weight (Tries a weight c g) (14 * (c + 12) + 43 + 33) (14 * (c + 12) + 76) t (omega arith)
      (list_ends a weight heavy steps path main g (Always path main g) (always path main g) (Tries a weight c g) (14 * (c + 12) + 43) (omega arith) (again path main g) t tt position now)

  pub siblings_again : SiblingsAgain a weight c
  siblings_again path main position former t g now =
      weaken a weight (Tries a weight c g) (14 * (c + 12) + 43 + 1) (14 * (c + 12) + 44) t (omega arith)
      (sibling_ends a weight heavy steps path main g (Always path main g) (always path main g) (Tries a weight c g) (14 * (c + 12) + 43) (omega arith) (again path main g) t tt position former now)

  pub entries_again : EntriesAgain a weight c
  entries_again path main position t g now no_link =
      weaken a weight (Tries a weight c g) (14 * (c + 12) + 43 + 2) (14 * (c + 12) + 45) t (omega arith)
      (entry_ends a weight heavy steps path main g (Always path main g) (always path main g) (Tries a weight c g) (14 * (c + 12) + 43) (omega arith) (again path main g) t tt position now
      (λ h x link. no_link h (entry_link a steps path main position t g now h x link)))
