-- From each line of KEY and RENEW of a call on one key the operation ends, the RENEWs of both passes counted once.
use Rattle.std.proofs.Common.{◌≡◌, ℕ, suc, ◌+◌, ◌*◌, ◌≤◌, Bool, true, false, if◌then◌else◌, List, [], ◌∷◌, ◌++◌, length, get_or, Some, refl, sym, ap, subst, ◌∙◌, ltb, arith}
use Rattle.proof_obstruction_free.specs.Vocabulary.{Writable, Ref, Node, Indirection, Branch, Single, Tomb, List as Listed, entries_of, entry_at, no_ref, node_at, KeyLine, Read, Swap, SwapLine}
use Rattle.proof_obstruction_free.specs.Vocabulary.{RenewLine, going_down, is_passable, key_after_entry, new_try, swapped, current, reading, renew_next, swapping, renew_path}
use Rattle.proof_obstruction_free.specs.Beneath.machine_model.specs.declared.finding.KeyLine.TheVariants as key
use Rattle.proof_obstruction_free.specs.Beneath.machine_model.specs.declared.lines.Line.TheVariants as line
use Rattle.proof_obstruction_free.specs.Beneath.machine_model.specs.declared.lines.Purpose.TheVariants as purpose
use Rattle.proof_obstruction_free.specs.Beneath.machine_model.specs.declared.reading.SwapLine.TheVariants as swap
use Rattle.proof_obstruction_free.specs.Beneath.machine_model.specs.declared.repairs.RenewLine.TheVariants as renew
use Rattle.proof_obstruction_free.specs.Alone.{IsWeight, Lone, Stands, Within, node}
use Rattle.proof_obstruction_free.specs.Bounds.{fresh_most}
use Rattle.proof_obstruction_free.specs.Keys.{IsOf, WasRenewing}
use Rattle.proof_obstruction_free.specs.Machines.{IsSwapped, Machines, WasRead, WasSwapped}
use Rattle.proof_obstruction_free.specs.Stale.{Tries}
use Rattle.proof_obstruction_free.specs.Stepping.{Stepping}
use Rattle.proof_obstruction_free.proofs.Pass.Key.Stale.{entries_again, lists_again, siblings_again}
use Rattle.proof_obstruction_free.proofs.Build.Steps.{quiet_on}
use Rattle.proof_obstruction_free.proofs.Pass.Lines.{down_reads, key_gives, key_holds_read_of, key_read_of}
use Rattle.proof_obstruction_free.proofs.Pass.Sees.{link_seen, sees_entry}
use Rattle.proof_obstruction_free.proofs.Renew.On.{renews_on}
use Rattle.proof_obstruction_free.proofs.Step.Within.{bind, weaken}
use Rattle.proof_obstruction_free.specs.Inherited.{fine_most, first_most}

module _ (a : Lone) (weight : ℕ → ℕ) (c : ℕ) (heavy : IsWeight a weight) (steps : Stepping a) (machines : Machines a weight c) (writes : a.own.access ≡ Writable)
    (fresh : (u h : ℕ) → Stands a u (Some h) new_try → Within a weight (λ v. ⊥) (fresh_most c) u)
    (from_main : (path : List Ref) (main : Ref) (t g : ℕ) → Stands a t (Some g) (line.Key (key.Main path main)) → Within a weight (λ v. ⊥) (14 * (c + 2) + first_most c) t)
    (from_read : (path : List Ref) (t g : ℕ) → Stands a t (Some g) (line.Key (key.Read path (reading (current path)))) → Within a weight (λ v. ⊥) (14 * (c + 2) + first_most c) t) where
  abbrev W : (ℕ → Type 0) → ℕ → ℕ → Type 0
  W = Within a weight

  abbrev Never : ℕ → Type 0
  Never u = ⊥

  -- the rest of the pass
  abbrev rest : ℕ
  rest = 14 * (c + 2) + first_most c

  abbrev renewing : ℕ
  renewing = 32 * (c + 2) + 10 + (10 + rest)

  -- ---- RENEW

  renew_swapped : (path : List Ref) (node_made : Ref) (t g : ℕ) (done : Bool) → Stands a t (Some g) (swapped a.own (node a node_made) (purpose.Renew path) done) → W Never rest t
  renew_swapped path made t g true s = from_read path t g s
  renew_swapped path made t g false s = weaken a weight Never (fresh_most c) rest t (omega arith) (fresh t g s)

  renew_swaps : (path : List Ref) (i replaced made : Ref) (t g : ℕ) → Stands a t (Some g) (line.Swap (purpose.Renew path) (swapping i replaced made)) → W Never (10 + rest) t
  renew_swaps path i replaced made t g s =
      bind a weight (IsSwapped a weight c t (Some g) (purpose.Renew path) i replaced made) Never 10 rest t (machines.swaps_first (purpose.Renew path) i replaced made t (Some g) s)
      (λ u after in_time w. renew_swapped path made u g w.done w.stands)

  -- from any line of its SWAP
  pub renew_swap_ends : (path : List Ref) (w : Swap) (t g : ℕ) → Stands a t (Some g) (line.Swap (purpose.Renew path) w) → W Never (c + 10 + rest) t
  renew_swap_ends path w t g s = by_line w.line refl
    where
      other : (w.line ≡ swap.Publish → ⊥) → W Never (c + 10 + rest) t
      other late =
          weaken a weight Never (c + 7 + rest) (c + 10 + rest) t (omega arith)
          (bind a weight (WasSwapped a weight c t (Some g) (purpose.Renew path) w.fresh) Never (c + 7) rest t (machines.swaps_on (purpose.Renew path) w t (Some g) s late)
          (λ u after in_time x. renew_swapped path w.fresh u g x.done x.stands))

      by_line : (l : SwapLine) → w.line ≡ l → W Never (c + 10 + rest) t
      by_line swap.Publish e =
          weaken a weight Never (10 + rest) (c + 10 + rest) t (omega arith)
          (renew_swaps path w.indirection w.replaced w.fresh t g (subst (λ l. Stands a t (Some g) (line.Swap (purpose.Renew path) (record w { line = l }))) e s))
      by_line (swap.Deciding l) e = other (λ is. let bad : swap.Deciding l ≡ swap.Publish = sym e ∙ is in cc)
      by_line swap.Check e = other (λ is. let bad : swap.Check ≡ swap.Publish = sym e ∙ is in cc)

  pub renew_ends : (l : RenewLine) (t g : ℕ) → Stands a t (Some g) (line.Renew l) → W Never renewing t
  renew_ends l t g s =
      bind a weight (WasRenewing a weight c (renew_path l) (Some g)) Never (32 * (c + 2) + 10) (10 + rest) t (renews_on a steps weight c heavy machines l t g s)
      (λ u after in_time was. renew_swaps (renew_path l) (current (renew_path l)) was.main was.fresh u g was.stands)

  -- ---- KEY

  read_on : (path : List Ref) (r : Read) (t g : ℕ) → Stands a t (Some g) (line.Key (key.Read path r)) → W Never (fine_most c) t
  read_on path r t g s =
      weaken a weight Never (c + 6 + rest) (fine_most c) t (omega arith)
      (bind a weight (WasRead a weight c t (Some g) (key_gives path)) Never (c + 6) rest t
      (machines.reads_on (key_read_of path r.indirection) (key_gives path) r.indirection (key_holds_read_of a.own path r.indirection) t (Some g) r.line s)
      (λ u after in_time read. from_main path read.main u g read.stands))

  -- a new try
  tried : (n t g : ℕ) → n + fresh_most c ≤ fine_most c → W (Tries a weight c (Some g)) n t → W Never (fine_most c) t
  tried n t g few w = weaken a weight Never (n + fresh_most c) (fine_most c) t few (bind a weight (Tries a weight c (Some g)) Never n (fresh_most c) t w (λ u after in_time s. fresh u g s))

  -- at an indirection in a branch
  module _ (path : List Ref) (main : Ref) (position t g : ℕ) (s : Stands a t (Some g) (line.Key (key.Entry path main position))) where
    abbrev entry : Ref
    entry = get_or (entries_of (node a main)) position no_ref

    next_renews : (b : Bool) → Stands a (suc t) (Some g) (if b then line.Renew (renew.Entry path main []) else line.Renew (renew.Branch path main [])) → W Never renewing (suc t)
    next_renews true next = renew_ends (renew.Entry path main []) (suc t) g next
    next_renews false next = renew_ends (renew.Branch path main []) (suc t) g next

    next_goes : (b : Bool) (below : Ref) → Stands a (suc t) (Some g) (if b then going_down path below else renew_next (a.states t) path main []) → W Never renewing (suc t)
    next_goes true below next = weaken a weight Never rest renewing (suc t) (omega arith) (from_read (path ++ below ∷ []) (suc t) g (down_reads a (suc t) (Some g) path below next))
    next_goes false below next = next_renews (ltb 0 (length (entries_of (node_at (a.states t).heap main)))) next

    link_on : (h : ℕ) → IsOf a entry h → W Never (fine_most c) t
    link_on h of =
        let sees = sees_entry a steps t (Some g) path main position s in
        let (w, now) = link_seen a steps t s.until entry h sees.used of in
        let found : node_at (a.states t).heap (entry_at (a.states t).heap main position) ≡ Indirection h w =
        ap (λ n. node_at (a.states t).heap (get_or (entries_of n) position no_ref)) sees.branch ∙ now in
        weaken a weight Never (renewing + 1) (fine_most c) t (omega arith)
        (quiet_on a weight heavy steps Never renewing t (Some g) (line.Key (key.Entry path main position)) s tt tt tt refl
        (λ next keeps word.
        next_goes (is_passable s.operation h) (entry_at (a.states t).heap main position)
        (subst (λ n. Stands a (suc t) (Some g) (key_after_entry (a.states t) s.operation path main position n)) found next)))

    entry_on : W Never (fine_most c) t
    entry_on = by (node a entry) refl
      where
        none : (n : Node) → node a entry ≡ n → ((h : ℕ) (m : Ref) → n ≡ Indirection h m → ⊥) → W Never (fine_most c) t
        none n e other = tried (14 * (c + 12) + 45) t g (omega arith) (entries_again a weight c heavy steps machines path main position t (Some g) s (λ h of. other h of.0 (sym e ∙ of.1)))

        by : (n : Node) → node a entry ≡ n → W Never (fine_most c) t
        by (Indirection h m) e = link_on h (m, e)
        by (Branch b es) e = none (Branch b es) e (λ h m x. let bad : ⊥ = cc x in bad)
        by (Single k v) e = none (Single k v) e (λ h m x. let bad : ⊥ = cc x in bad)
        by (Tomb single) e = none (Tomb single) e (λ h m x. let bad : ⊥ = cc x in bad)
        by (Listed singles) e = none (Listed singles) e (λ h m x. let bad : ⊥ = cc x in bad)

  pub key_line_ends : (l : KeyLine) (t g : ℕ) → Stands a t (Some g) (line.Key l) → W Never (fine_most c) t
  key_line_ends (key.Read path r) t g s = read_on path r t g s
  key_line_ends (key.Main path main) t g s = weaken a weight Never rest (fine_most c) t (omega arith) (from_main path main t g s)
  key_line_ends (key.Entry path main position) t g s = entry_on path main position t g s
  key_line_ends (key.Listed path main position) t g s = tried (14 * (c + 12) + 76) t g (omega arith) (lists_again a weight c heavy steps machines path main position t (Some g) s)
  key_line_ends (key.Sibling path main position former) t g s = tried (14 * (c + 12) + 44) t g (omega arith) (siblings_again a weight c heavy steps machines path main position former t (Some g) s)
