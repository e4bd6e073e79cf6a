-- KEY goes down a level, where one actor alone takes steps: from a main node to its entry, and from there on.
use Rattle.std.proofs.Common.{◌++◌, ◌∷◌, ◌≡◌, ℕ, suc, ◌-◌, cond, ◌<◌, ◌==◌, true, false, List, [], Option, Some, get_or, length, ltb, refl, sym, ap, ap₂, subst, ◌∙◌, arith}
use Rattle.std.proofs.Math.Seq.{get_or-append_seam}
use Rattle.std.proofs.lemmas.Bool.{lt-ltb}
use Rattle.std.proofs.lemmas.List.{length-append}
use Rattle.proof_obstruction_free.specs.Vocabulary.{position_of, Writable, Ref, entries_of, no_ref, node_at, has_flag, Line, Operation, ReadLine, absent, going_down, is_passable, key_after_entry}
use Rattle.proof_obstruction_free.specs.Vocabulary.{key_after_main, key_after_read, line_after, current, depth_of, flag_in, reading, renew_next, IsInUse}
use Rattle.proof_obstruction_free.specs.Beneath.machine_model.specs.declared.finding.KeyLine.TheVariants as key
use Rattle.proof_obstruction_free.specs.Beneath.machine_model.specs.declared.lines.Line.TheVariants as line
use Rattle.proof_obstruction_free.specs.Beneath.machine_model.specs.declared.repairs.RenewLine.TheVariants as renew
use Rattle.proof_obstruction_free.specs.Alone.{Lone, Stands, node}
use Rattle.proof_obstruction_free.specs.Keys.{IsOf, Leads, flag_at}
use Rattle.proof_obstruction_free.specs.Machines.{HoldsRead}
use Rattle.proof_obstruction_free.specs.Stepping.{Stepping}
use Rattle.proof_obstruction_free.proofs.Read.Embedded.{holds_read}
use Rattle.proof_obstruction_free.proofs.Pass.Sees.{SeesEntry, flag_is, link_seen, main_seen, sees_entry}
use Rattle.proof_obstruction_free.proofs.Ends.StandsAt.{stands_as}

-- a READ of KEY
abbrev pub key_read_of : List Ref → Ref → ReadLine → Line
key_read_of path i l = line.Key (key.Read path (record { indirection = i; line = l }))

-- that of the current indirection
abbrev pub key_read : List Ref → ReadLine → Line
key_read path = key_read_of path (current path)

abbrev pub key_gives : List Ref → Ref → Line
key_gives path main = line.Key (key.Main path main)

equal : (g h : ℕ) → g ≡ h → (g == h) ≡ true
equal g h e = grind (arith, e)

module _ (a : Lone) where
  -- going down is a READ of the longer path's last one
  pub down_reads : (t : ℕ) (g : Option ℕ) (path : List Ref) (below : Ref) → Stands a t g (going_down path below) →
      Stands a t g (line.Key (key.Read (path ++ below ∷ []) (reading (current (path ++ below ∷ [])))))
  down_reads t g path below s = subst (λ i. Stands a t g (line.Key (key.Read (path ++ below ∷ []) (reading i)))) (sym last) s
    where
      last : current (path ++ below ∷ []) ≡ below
      last =
          let len = length-append path (below ∷ []) in
          let at : length (path ++ below ∷ []) - 1 ≡ length path = omega (arith, len) in
          ap (λ n. get_or (path ++ below ∷ []) n no_ref) at ∙ get_or-append_seam path below [] no_ref

  module _ (steps : Stepping a) where
    -- ---- from a main node that leads on to its entry

    main_leads : (flag test : ℕ) (path : List Ref) (main : Ref) (operation : Operation) (bitmap : ℕ) → flag ≡ test → has_flag bitmap test ≡ true →
        cond (has_flag bitmap flag) (line.Key (key.Entry path main (position_of flag bitmap))) (absent operation path main) ≡ line.Key (key.Entry path main (position_of test bitmap))
    main_leads flag test path main operation bitmap same flagged =
        ap (λ f. cond (has_flag bitmap f) (line.Key (key.Entry path main (position_of f bitmap))) (absent operation path main)) same
        ∙ ap (λ b. cond b (line.Key (key.Entry path main (position_of test bitmap))) (absent operation path main)) flagged

    pub to_entry : (t : ℕ) (g : Option ℕ) (path : List Ref) (main below : Ref) → Stands a t g (line.Key (key.Main path main)) → t < a.last → (x : Leads a (depth_of path) main below) →
        Stands a (suc t) g (line.Key (key.Entry path main (position_of (flag_at a (depth_of path)) x.bitmap)))
    to_entry t g path main below s more x =
        stands_as a (suc t) s.operation.generation g (line_after (a.states t) s.operation (line.Key (key.Main path main)))
        (line.Key (key.Entry path main (position_of (flag_at a (depth_of path)) x.bitmap))) s.generation
        (ap (key_after_main (a.states t) s.operation path main) (main_seen a steps t g path main s ∙ x.branch)
        ∙ main_leads (flag_in (a.states t) s.operation path) (flag_at a (depth_of path)) path main s.operation x.bitmap (flag_is a t g (line.Key (key.Main path main)) s path) x.flagged)
        (steps.next t g (line.Key (key.Main path main)) s more tt)

    -- ---- from the entry

    passable : (operation : Operation) (g h : ℕ) → operation.access ≡ Writable → operation.generation ≡ Some g → is_passable operation h ≡ (g == h)
    passable operation g h access generation = grind (arith, access, generation)

    -- the entry of a main node that leads on
    entry_is : (t : ℕ) (path : List Ref) (main below : Ref) (x : Leads a (depth_of path) main below) → node_at (a.states t).heap main ≡ node a main →
        get_or (entries_of (node_at (a.states t).heap main)) (position_of (flag_at a (depth_of path)) x.bitmap) no_ref ≡ below
    entry_is t path main below x same = ap (λ n. get_or (entries_of n) (position_of (flag_at a (depth_of path)) x.bitmap) no_ref) (same ∙ x.branch) ∙ x.entry

    module _ (writes : a.own.access ≡ Writable) (t g : ℕ) (path : List Ref) (main below : Ref) (h : ℕ) (x : Leads a (depth_of path) main below)
        (s : Stands a t (Some g) (line.Key (key.Entry path main (position_of (flag_at a (depth_of path)) x.bitmap)))) (more : t < a.last) (of : IsOf a below h) where
      abbrev position : ℕ
      position = position_of (flag_at a (depth_of path)) x.bitmap

      sees : SeesEntry a steps t main position
      sees = sees_entry a steps t (Some g) path main position s

      entry : get_or (entries_of (node_at (a.states t).heap main)) position no_ref ≡ below
      entry = entry_is t path main below x sees.branch

      -- a fact of the lines that come after
      some_entries : (n : ℕ) → position < n → 0 < n
      some_entries n lt = omega (arith, lt)

      after : line_after (a.states t) s.operation (line.Key (key.Entry path main position))
          ≡ cond (g == h) (going_down path below) (line.Renew (renew.Entry path main []))
      after =
          let there : node a (get_or (entries_of (node a main)) position no_ref) ≡ node a below = ap (node a) (ap (λ n. get_or (entries_of n) position no_ref) (sym sees.branch) ∙ entry) in
          let used = sees.used in
          let link = link_seen a steps t s.until below h (subst (λ r. IsInUse (a.states t).heap r) (ap (λ n. get_or (entries_of n) position no_ref) (sym sees.branch) ∙ entry) used) of in
          ap (λ r. key_after_entry (a.states t) s.operation path main position (node_at (a.states t).heap r)) entry
          ∙ ap (key_after_entry (a.states t) s.operation path main position) link.1
          ∙ ap₂ (λ b r. cond b (going_down path r) (renew_next (a.states t) path main [])) (passable s.operation g h (s.access ∙ writes) s.generation) entry
          ∙ ap (λ n. cond (g == h) (going_down path below) (cond (ltb 0 n) (line.Renew (renew.Entry path main [])) (line.Renew (renew.Branch path main []))))
          (ap (λ n. length (entries_of n)) sees.branch)
          ∙ ap (λ b. cond (g == h) (going_down path below) (cond b (line.Renew (renew.Entry path main [])) (line.Renew (renew.Branch path main []))))
          (lt-ltb 0 (length (entries_of (node a main))) (some_entries _ sees.within))

      next : Stands a (suc t) (Some g) (cond (g == h) (going_down path below) (line.Renew (renew.Entry path main [])))
      next =
          stands_as a (suc t) s.operation.generation (Some g) (line_after (a.states t) s.operation (line.Key (key.Entry path main position))) _ s.generation after
          (steps.next t (Some g) (line.Key (key.Entry path main position)) s more tt)

      pub within : position < length (entries_of (node a main))
      within = sees.within

      -- an indirection of the root's generation leads down
      pub goes_down : g ≡ h → Stands a (suc t) (Some g) (going_down path below)
      goes_down same = stands_as a (suc t) (Some g) (Some g) _ (going_down path below) refl (ap (λ b. cond b (going_down path below) (line.Renew (renew.Entry path main []))) (equal g h same)) next

      -- at any other the entries are renewed
      pub renews : (g == h) ≡ false → Stands a (suc t) (Some g) (line.Renew (renew.Entry path main []))
      renews other = stands_as a (suc t) (Some g) (Some g) _ (line.Renew (renew.Entry path main [])) refl (ap (λ b. cond b (going_down path below) (line.Renew (renew.Entry path main []))) other) next

-- ---- the READ of KEY

pub key_holds_read_of : (own : Operation) (path : List Ref) (i : Ref) → HoldsRead own (key_read_of path i) (key_gives path) i
key_holds_read_of own path i =
    holds_read own (λ r. line.Key (key.Read path r)) (key_gives path) (key_after_read path) i (λ r. refl) (λ state operation r. refl) (λ state operation r. refl) (λ r. refl) (λ m. refl)
    (λ state operation r. refl)

pub key_holds_read : (own : Operation) (path : List Ref) → HoldsRead own (key_read path) (key_gives path) (current path)
key_holds_read own path = key_holds_read_of own path (current path)
