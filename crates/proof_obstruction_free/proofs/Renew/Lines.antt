-- The lines of RENEW, where one actor alone takes steps: each comes to the next entry, or to an end for want of a slot.
use Rattle.std.proofs.Common.{◌≡◌, ℕ, suc, ◌+◌, ◌<◌, ◌⊎◌, inl, inr, true, if◌then◌else◌, nat_lt, nat_eq, List, [], ◌∷◌, ◌++◌, length, Option, Some, None, unwrap_or, refl, sym, ap}
use Rattle.std.proofs.Common.{subst, ◌∙◌, eqb-true, arith}
use Rattle.std.specs.Option.{option_eq}
use Rattle.std.proofs.lemmas.Bool.{cond_both}
use Rattle.proof_obstruction_free.specs.Vocabulary.{Reply, Ref, Node, Indirection, Branch, Single, Tomb, List as Listed, node_at, entries_of, next_ref, Line, Operation, ReadLine, is_start}
use Rattle.proof_obstruction_free.specs.Vocabulary.{next_entry, renew_next, renew_after_entry, renew_after_read, renew_after_link, AMain, Is, done_wants, IsInUse}
use Rattle.proof_obstruction_free.specs.Beneath.machine_model.specs.declared.lines.Line.TheVariants as line
use Rattle.proof_obstruction_free.specs.Beneath.machine_model.specs.declared.reading.ReadLine.TheVariants as read
use Rattle.proof_obstruction_free.specs.Beneath.machine_model.specs.declared.repairs.RenewLine.TheVariants as renew
use Rattle.proof_obstruction_free.specs.Beneath.proof_memory.specs.Wants.{is_indirection}
use Rattle.proof_obstruction_free.specs.Beneath.proof_memory.proofs.Claims.Uses.{first_hold}
use Rattle.proof_obstruction_free.specs.Alone.{Lone, Stands, Within, IsWeight, node}
use Rattle.proof_obstruction_free.specs.Keys.{IsOf, IsRenewed}
use Rattle.proof_obstruction_free.specs.Machines.{Machines, HoldsRead, IsRead, WasRead}
use Rattle.proof_obstruction_free.specs.Stepping.{Stepping}
use Rattle.proof_obstruction_free.proofs.Read.Embedded.{holds_read}
use Rattle.proof_obstruction_free.proofs.Renew.Nodes.{SeesMore, sees_more, looks_at}
use Rattle.proof_obstruction_free.proofs.Renew.Calm.{Calm, calm_on, calm_step, step_on}
use Rattle.proof_obstruction_free.proofs.Step.Within.{here, weaken, map, bind, one}
use Rattle.proof_obstruction_free.proofs.Ends.StandsAt.{never}

-- the READ of an entry in RENEW, and the line after it
abbrev pub entry_read : List Ref → Ref → List Ref → Ref → ReadLine → Line
entry_read path main done i l = line.Renew (renew.Read path main done (record { indirection = i; line = l }))

abbrev pub entry_link : List Ref → Ref → List Ref → Ref → Line
entry_link path main done m = line.Renew (renew.Link path main done m)

pub entry_reads : (own : Operation) (path : List Ref) (main : Ref) (done : List Ref) (i : Ref) → HoldsRead own (entry_read path main done i) (entry_link path main done) i
entry_reads own path main done i =
    holds_read own (λ r. line.Renew (renew.Read path main done r)) (entry_link path main done) (renew_after_read path main done) i
    (λ r. refl) (λ state operation r. refl) (λ state operation r. refl) (λ r. refl) (λ m. refl) (λ state operation r. refl)

-- the next entry after those that are done, or, where all are, the branch
abbrev pub renew_line : List Ref → List Ref → Ref → List Ref → Line
renew_line entries path main done = if nat_lt (length done) (length entries) then line.Renew (renew.Entry path main done) else line.Renew (renew.Branch path main done)

module _ (a : Lone) (steps : Stepping a) (g : ℕ) (path : List Ref) (main : Ref) (done : List Ref) where
  -- one entry more is done
  pub record Advanced (t u : ℕ) : Type 0 where
    pub entry : Ref
    pub renewed : IsRenewed a g entry
    pub stands : Stands a u (Some g) (renew_line (entries_of (node a main)) path main (done ++ entry ∷ []))
    pub calm : Calm a t u

  -- the operation is to end
  pub record IsToEnd (u : ℕ) : Type 0 where
    pub answer : Reply
    pub stands : Stands a u (Some g) (line.End answer)

  abbrev pub GoesOn : ℕ → ℕ → Type 0
  GoesOn t u = Advanced t u ⊎ IsToEnd u

  pub earlier : (t u v : ℕ) → Calm a t u → GoesOn u v → GoesOn t v
  earlier t u v calm (inl x) = inl (record { entry = x.entry; renewed = x.renewed; stands = x.stands; calm = calm_on a t u v calm x.calm })
  earlier t u v calm (inr e) = inr e

  -- by the branch that is found
  next_same : (t : ℕ) (more : List Ref) → node_at (a.states t).heap main ≡ node a main → renew_next (a.states t) path main more ≡ renew_line (entries_of (node a main)) path main more
  next_same t more same = ap (λ n. renew_line (entries_of n) path main more) same

  -- ---- an entry is looked at

  -- it goes on with the entry after it, or with its READ
  pub record Looked (t : ℕ) : Type 0 where
    pub entry : Ref
    pub calm : Calm a t (suc t)
    pub so : Advanced t (suc t) ⊎ Stands a (suc t) (Some g) (entry_read path main done entry read.Main)

  module _ (t : ℕ) (s : Stands a t (Some g) (line.Renew (renew.Entry path main done))) (more : t < a.last) where
    abbrev entry : Ref
    entry = next_entry (a.states t) main done

    looks_calm : Calm a t (suc t)
    looks_calm = calm_step a steps t (Some g) (line.Renew (renew.Entry path main done)) s more tt tt tt

    looks_next : Stands a (suc t) (Some g) (renew_after_entry (a.states t) s.operation path main done entry (node_at (a.states t).heap entry))
    looks_next = step_on a steps t (Some g) (line.Renew (renew.Entry path main done)) s more tt refl

    found : SeesMore a steps t main done
    found = sees_more a steps t s.until path main done (steps.wants t (Some g) (line.Renew (renew.Entry path main done)) s)

    used : IsInUse (a.states t).heap entry
    used = looks_at a steps t (Some g) (line.Renew (renew.Entry path main done)) s entry refl

    passes : IsRenewed a g entry → Stands a (suc t) (Some g) (renew_next (a.states t) path main (done ++ entry ∷ [])) → Looked t
    passes renewed stands = record {
      entry = entry;
      calm = looks_calm;
      so = inl (record {
        entry = entry;
        renewed = renewed;
        stands = subst (Stands a (suc t) (Some g)) (next_same t (done ++ entry ∷ []) found.branch) stands;
        calm = looks_calm;
      });
    }

    of_start : (h : ℕ) (word : Ref) → node_at (a.states t).heap entry ≡ Indirection h word → is_start s.operation h ≡ true → IsOf a entry g
    of_start h word e is =
        let same : g ≡ h = eqb-true g h (ap (λ o. option_eq nat_eq o (Some h)) (sym s.generation) ∙ is) in
        let (m, link) = steps.link_found t entry h word s.until used e in
        (m, link ∙ ap (λ x. Indirection x m) (sym same))

    by_node : (n : Node) → node_at (a.states t).heap entry ≡ n → Stands a (suc t) (Some g) (renew_after_entry (a.states t) s.operation path main done entry n) → Looked t
    by_node (Indirection h word) e stands =
        cond_both (is_start s.operation h) _ _ (λ l. Stands a (suc t) (Some g) l → Looked t) (λ is. passes (inl (of_start h word e is)))
        (λ other stands. record { entry = entry; calm = looks_calm; so = inr stands }) stands
    by_node (Single k v) e stands = passes (inr (k, v, sym (steps.node_found t entry s.until used (ap is_indirection e)) ∙ e)) stands
    by_node (Branch b es) e stands = absurd (never a (suc t) (Some g) stands)
    by_node (Tomb x) e stands = absurd (never a (suc t) (Some g) stands)
    by_node (Listed ss) e stands = absurd (never a (suc t) (Some g) stands)

    pub looks : Looked t
    looks = by_node (node_at (a.states t).heap entry) refl looks_next

  -- ---- a new indirection

  module _ (child : Ref) (t : ℕ) (s : Stands a t (Some g) (entry_link path main done child)) (more : t < a.last) where
    links_calm : Calm a t (suc t)
    links_calm = calm_step a steps t (Some g) (entry_link path main done child) s more tt tt tt

    links_next : Stands a (suc t) (Some g) (renew_after_link (a.states t) path main done (next_ref (a.states t).heap))
    links_next = step_on a steps t (Some g) (entry_link path main done child) s more tt refl

    link_found : SeesMore a steps t main done
    link_found = sees_more a steps t s.until path main done
        (first_hold (IsInUse (a.states t).heap) (a.states t).heap (done_wants path main done) (Is child AMain ∷ []) (steps.wants t (Some g) (entry_link path main done child) s))

    made_of : (made : Ref) → next_ref (a.states t).heap ≡ Some made → IsOf a made g
    made_of made e =
        let (m, link) = steps.made_link t (Some g) (entry_link path main done child) s more tt _ child made refl e in
        (m, link ∙ ap (λ o. Indirection (unwrap_or o 0) m) s.generation)

    by_made : (o : Option Ref) → next_ref (a.states t).heap ≡ o → Stands a (suc t) (Some g) (renew_after_link (a.states t) path main done o) → GoesOn t (suc t)
    by_made None e stands = inr (record { answer = _; stands = stands })
    by_made (Some made) e stands = inl (record {
      entry = made;
      renewed = inl (made_of made e);
      stands = subst (Stands a (suc t) (Some g)) (next_same t (done ++ made ∷ []) link_found.branch) stands;
      calm = links_calm;
    })

    pub links : GoesOn t (suc t)
    links = by_made (next_ref (a.states t).heap) refl links_next

  -- ---- within so many steps

  module _ (weight : ℕ → ℕ) (c : ℕ) (heavy : IsWeight a weight) (machines : Machines a weight c) where
    abbrev W : (ℕ → Type 0) → ℕ → ℕ → Type 0
    W = Within a weight

    pub link_within : (child : Ref) (t : ℕ) → Stands a t (Some g) (entry_link path main done child) → W (GoesOn t) 1 t
    link_within child t s = one a weight heavy (GoesOn t) 0 t (Some g) (entry_link path main done child) s tt (λ more. here a weight (GoesOn t) (suc t) (links child t s more))

    later : (n t u : ℕ) → Calm a t u → W (GoesOn u) n u → W (GoesOn t) n u
    later n t u calm = map a weight (GoesOn u) (GoesOn t) n u (λ v past within. earlier t u v calm)

    read_within : (i : Ref) (t : ℕ) → Stands a t (Some g) (entry_read path main done i read.Main) → W (GoesOn t) (c + 1) t
    read_within i t s =
        bind a weight (IsRead a weight c t (Some g) (entry_link path main done) i) (GoesOn t) c 1 t
        (machines.reads_first (entry_read path main done i) (entry_link path main done) i (entry_reads a.own path main done i) t (Some g) s)
        (λ u past within r. later 1 t u (record { keeps = r.keeps; word = r.word }) (link_within r.main u r.stands))

    -- from any line of the READ
    pub read_on_within : (i : Ref) (l : ReadLine) (t : ℕ) → Stands a t (Some g) (entry_read path main done i l) → W (GoesOn t) (c + 7) t
    read_on_within i l t s =
        weaken a weight (GoesOn t) (c + 6 + 1) (c + 7) t (omega arith)
        (bind a weight (WasRead a weight c t (Some g) (entry_link path main done)) (GoesOn t) (c + 6) 1 t
        (machines.reads_on (entry_read path main done i) (entry_link path main done) i (entry_reads a.own path main done i) t (Some g) l s)
        (λ u past within r. later 1 t u (record { keeps = r.keeps; word = r.word }) (link_within r.main u r.stands)))

    looked_within : (t : ℕ) → Looked t → W (GoesOn t) (c + 1) (suc t)
    looked_within t x = by_so x.so
      where
        by_so : Advanced t (suc t) ⊎ Stands a (suc t) (Some g) (entry_read path main done x.entry read.Main) → W (GoesOn t) (c + 1) (suc t)
        by_so (inl y) = weaken a weight (GoesOn t) 0 (c + 1) (suc t) (omega arith) (here a weight (GoesOn t) (suc t) (inl y))
        by_so (inr s) = later (c + 1) t (suc t) x.calm (read_within x.entry (suc t) s)

    pub entry_within : (t : ℕ) → Stands a t (Some g) (line.Renew (renew.Entry path main done)) → W (GoesOn t) (c + 2) t
    entry_within t s =
        weaken a weight (GoesOn t) (c + 1 + 1) (c + 2) t (omega arith)
        (one a weight heavy (GoesOn t) (c + 1) t (Some g) (line.Renew (renew.Entry path main done)) s tt (λ more. looked_within t (looks t s more)))
