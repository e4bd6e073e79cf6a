-- The lines of CLEAN that go from entry to entry, where one actor alone takes steps.
use Rattle.std.proofs.Common.{◌≡◌, ℕ, suc, ◌+◌, ◌<◌, ◌⊎◌, inl, inr, false, if◌then◌else◌, nat_lt, nat_eq, List, [], ◌∷◌, ◌++◌, length, slice_index_or, Option, refl, sym, ap, subst, ◌∙◌, arith}
use Rattle.std.specs.Cmp.Lexicographic.{pointwise}
use Rattle.proof_obstruction_free.specs.Vocabulary.{Ref, Node, Indirection, Branch, Single, Tomb, List as Listed, node_at, entries_of, no_ref, Line, Operation, ReadLine, clean_next}
use Rattle.proof_obstruction_free.specs.Vocabulary.{clean_after_entry, clean_after_tomb, after_child, new_try, next_entry, AMain, Is, done_wants, IsInUse}
use Rattle.proof_obstruction_free.specs.Beneath.machine_model.specs.declared.lines.Line.TheVariants as line
use Rattle.proof_obstruction_free.specs.Beneath.machine_model.specs.declared.reading.ReadLine.TheVariants as read
use Rattle.proof_obstruction_free.specs.Beneath.machine_model.specs.declared.repairs.CleanLine.TheVariants as clean
use Rattle.proof_obstruction_free.specs.Beneath.proof_memory.specs.Wants.{is_indirection}
use Rattle.proof_obstruction_free.specs.Beneath.proof_memory.proofs.Claims.Uses.{first_hold, last_hold}
use Rattle.proof_obstruction_free.specs.Alone.{Lone, Stands, Has, Keeps, Within, IsWeight, node}
use Rattle.proof_obstruction_free.specs.Machines.{Machines, HoldsRead, IsRead, WasRead}
use Rattle.proof_obstruction_free.specs.Stepping.{Stepping}
use Rattle.proof_obstruction_free.proofs.Read.Embedded.{holds_read}
use Rattle.proof_obstruction_free.proofs.Renew.Nodes.{SeesMore, sees_more, main_seen, tomb_single, looks_at}
use Rattle.proof_obstruction_free.proofs.Clean.Settled.{Settles, single_free}
use Rattle.proof_obstruction_free.proofs.Renew.Calm.{Calm, calm_on, calm_step, step_on}
use Rattle.proof_obstruction_free.proofs.Step.Within.{here, weaken, map, bind, one}
use Rattle.proof_obstruction_free.proofs.Pass.Chains.{one_main}
use Rattle.proof_obstruction_free.proofs.Ends.StandsAt.{never}

-- the READ of an entry in CLEAN, and the line after it
abbrev pub child_read : List Ref → Ref → List Ref → Ref → ReadLine → Line
child_read path main done i l = line.Clean (clean.Child path main done (record { indirection = i; line = l }))

abbrev pub child_tomb : List Ref → Ref → List Ref → Ref → Line
child_tomb path main done m = line.Clean (clean.Tomb path main done m)

-- the next entry after those that are done; where all are, a new main node, if an entry changed
abbrev pub clean_line : List Ref → List Ref → Ref → List Ref → Line
clean_line entries path main done =
    if nat_lt (length done) (length entries) then line.Clean (clean.Entry path main done)
    else (if pointwise nat_eq done entries then new_try else line.Clean (clean.Contracted path main done))

pub child_reads : (own : Operation) (path : List Ref) (main : Ref) (done : List Ref) (i : Ref) → HoldsRead own (child_read path main done i) (child_tomb path main done) i
child_reads own path main done i =
    holds_read own (λ r. line.Clean (clean.Child path main done r)) (child_tomb path main done) (after_child path main done) i
    (λ r. refl) (λ state operation r. refl) (λ state operation r. refl) (λ r. refl) (λ m. refl) (λ state operation r. refl)

module _ (a : Lone) (steps : Stepping a) (g : Option ℕ) (path : List Ref) (main : Ref) (done : List Ref) where
  abbrev pub entry : Ref
  entry = slice_index_or (entries_of (node a main)) (length done) no_ref

  -- one entry more is done
  pub record Advanced (t u : ℕ) : Type 0 where
    pub put : Ref
    pub settles : Settles a u entry put
    pub stands : Stands a u g (clean_line (entries_of (node a main)) path main (done ++ put ∷ []))
    pub calm : Calm a t u

  pub earlier : (t u v : ℕ) → Calm a t u → Advanced u v → Advanced t v
  earlier t u v calm x = record { put = x.put; settles = x.settles; stands = x.stands; calm = calm_on a t u v calm x.calm }

  -- by the branch that is found
  next_same : (t : ℕ) (more : List Ref) → node_at (a.states t).heap main ≡ node a main → clean_next (a.states t) path main more ≡ clean_line (entries_of (node a main)) path main more
  next_same t more same = ap (λ n. clean_line (entries_of n) path main more) same

  entry_same : (t : ℕ) → node_at (a.states t).heap main ≡ node a main → next_entry (a.states t) main done ≡ entry
  entry_same t same = ap (λ n. slice_index_or (entries_of n) (length done) no_ref) same

  -- ---- an entry is looked at

  -- it goes on with the entry after it, or with its READ
  abbrev pub Looked : ℕ → Type 0
  Looked t = Advanced t (suc t) ⊎ (Stands a (suc t) g (child_read path main done entry read.Main) × Calm a t (suc t))

  module _ (t : ℕ) (s : Stands a t g (line.Clean (clean.Entry path main done))) (more : t < a.last) where
    abbrev here_entry : Ref
    here_entry = next_entry (a.states t) main done

    looks_calm : Calm a t (suc t)
    looks_calm = calm_step a steps t g (line.Clean (clean.Entry path main done)) s more tt tt tt

    looks_next : Stands a (suc t) g (clean_after_entry (a.states t) path main done here_entry (node_at (a.states t).heap here_entry))
    looks_next = step_on a steps t g (line.Clean (clean.Entry path main done)) s more tt refl

    found : SeesMore a steps t main done
    found = sees_more a steps t s.until path main done (steps.wants t g (line.Clean (clean.Entry path main done)) s)

    its : here_entry ≡ entry
    its = entry_same t found.branch

    used : IsInUse (a.states t).heap here_entry
    used = looks_at a steps t g (line.Clean (clean.Entry path main done)) s here_entry refl

    plain : (k v : ℕ) → node_at (a.states t).heap here_entry ≡ Single k v → is_indirection (node a entry) ≡ false
    plain k v e = subst (λ r. is_indirection (node a r) ≡ false) its (ap is_indirection (sym (steps.node_found t here_entry s.until used (ap is_indirection e)) ∙ e))

    by_node : (n : Node) → node_at (a.states t).heap here_entry ≡ n → Stands a (suc t) g (clean_after_entry (a.states t) path main done here_entry n) → Looked t
    by_node (Indirection h word) e stands = inr (subst (λ r. Stands a (suc t) g (child_read path main done r read.Main)) its stands, looks_calm)
    by_node (Single k v) e stands = inl (record {
      put = here_entry;
      settles = λ u within keeps. ((λ m single h tomb. absurd (single_free a u within entry m single (plain k v e) h tomb)), inl its);
      stands = subst (Stands a (suc t) g) (next_same t (done ++ here_entry ∷ []) found.branch) stands;
      calm = looks_calm;
    })
    by_node (Branch b es) e stands = absurd (never a (suc t) g stands)
    by_node (Tomb x) e stands = absurd (never a (suc t) g stands)
    by_node (Listed ss) e stands = absurd (never a (suc t) g stands)

    pub looks : Looked t
    looks = by_node (node_at (a.states t).heap here_entry) refl looks_next

  -- ---- the main node of an entry is looked at

  -- if it is the entry's, what is put in the entry's place is right
  pub record Passed (t : ℕ) (child : Ref) : Type 0 where
    pub put : Ref
    pub settles : Has a t entry child → Settles a (suc t) entry put
    pub stands : Stands a (suc t) g (clean_line (entries_of (node a main)) path main (done ++ put ∷ []))
    pub calm : Calm a t (suc t)

  module _ (child : Ref) (t : ℕ) (s : Stands a t g (child_tomb path main done child)) (more : t < a.last) where
    passes_calm : Calm a t (suc t)
    passes_calm = calm_step a steps t g (child_tomb path main done child) s more tt tt tt

    passes_next : Stands a (suc t) g (clean_after_tomb (a.states t) path main done (node_at (a.states t).heap child))
    passes_next = step_on a steps t g (child_tomb path main done child) s more tt refl

    passes_found : SeesMore a steps t main done
    passes_found = sees_more a steps t s.until path main done
        (first_hold (IsInUse (a.states t).heap) (a.states t).heap (done_wants path main done) (Is child AMain ∷ []) (steps.wants t g (child_tomb path main done child) s))

    child_is : node_at (a.states t).heap child ≡ node a child
    child_is = main_seen a steps t s.until child
        (last_hold (IsInUse (a.states t).heap) (a.states t).heap (done_wants path main done) (Is child AMain ∷ []) (steps.wants t g (child_tomb path main done child) s)).0

    -- the main node of the entry is still the one that was read
    still : Has a t entry child → (u : ℕ) → Keeps a (suc t) u → (m : Ref) → Has a u entry m → m ≡ child
    still h u keeps m k = one_main a u entry m child k (keeps entry child (passes_calm.keeps entry child h))

    tomb_settles : (single : Ref) → node_at (a.states t).heap child ≡ Tomb single → Has a t entry child → Settles a (suc t) entry single
    tomb_settles single e h u within keeps =
        ((λ m other k tomb. (let both : Tomb single ≡ Tomb other = sym e ∙ child_is ∙ ap (node a) (sym (still h u keeps m k)) ∙ tomb in cc)), inr (tomb_single a child single (sym child_is ∙ e)))

    kept_settles : (n : Node) → node_at (a.states t).heap child ≡ n → ((single : Ref) → n ≡ Tomb single → ⊥) → Has a t entry child → Settles a (suc t) entry (next_entry (a.states t) main done)
    kept_settles n e no_tomb h u within keeps =
        ((λ m other k tomb. absurd (no_tomb other (sym e ∙ child_is ∙ ap (node a) (sym (still h u keeps m k)) ∙ tomb))), inl (entry_same t passes_found.branch))

    keeps_it : (n : Node) → node_at (a.states t).heap child ≡ n → ((single : Ref) → n ≡ Tomb single → ⊥) →
        Stands a (suc t) g (clean_next (a.states t) path main (done ++ next_entry (a.states t) main done ∷ [])) →
        Passed t child
    keeps_it n e no_tomb stands = record {
      put = next_entry (a.states t) main done;
      settles = kept_settles n e no_tomb;
      stands = subst (Stands a (suc t) g) (next_same t (done ++ next_entry (a.states t) main done ∷ []) passes_found.branch) stands;
      calm = passes_calm;
    }

    by_child : (n : Node) → node_at (a.states t).heap child ≡ n → Stands a (suc t) g (clean_after_tomb (a.states t) path main done n) → Passed t child
    by_child (Tomb single) e stands = record {
      put = single;
      settles = tomb_settles single e;
      stands = subst (Stands a (suc t) g) (next_same t (done ++ single ∷ []) passes_found.branch) stands;
      calm = passes_calm;
    }
    by_child (Indirection h word) e stands = keeps_it (Indirection h word) e (λ single bad. let worse : Indirection h word ≡ Tomb single = bad in cc) stands
    by_child (Branch b es) e stands = keeps_it (Branch b es) e (λ single bad. let worse : Branch b es ≡ Tomb single = bad in cc) stands
    by_child (Single k v) e stands = keeps_it (Single k v) e (λ single bad. let worse : Single k v ≡ Tomb single = bad in cc) stands
    by_child (Listed ss) e stands = keeps_it (Listed ss) e (λ single bad. let worse : Listed ss ≡ Tomb single = bad in cc) stands

    pub passes : Passed t child
    passes = by_child (node_at (a.states t).heap child) refl passes_next

  -- ---- within so many steps

  module _ (weight : ℕ → ℕ) (c : ℕ) (heavy : IsWeight a weight) (machines : Machines a weight c) where
    abbrev W : (ℕ → Type 0) → ℕ → ℕ → Type 0
    W = Within a weight

    tomb_within : (child : Ref) (t : ℕ) → Stands a t g (child_tomb path main done child) → Has a t entry child → W (Advanced t) 1 t
    tomb_within child t s h =
        one a weight heavy (Advanced t) 0 t g (child_tomb path main done child) s tt
        (λ more. (let x = passes child t s more in here a weight (Advanced t) (suc t) (record { put = x.put; settles = x.settles h; stands = x.stands; calm = x.calm })))

    later : (n t u : ℕ) → Calm a t u → W (Advanced u) n u → W (Advanced t) n u
    later n t u calm = map a weight (Advanced u) (Advanced t) n u (λ v past within. earlier t u v calm)

    read_within : (t : ℕ) → Stands a t g (child_read path main done entry read.Main) → W (Advanced t) (c + 1) t
    read_within t s =
        bind a weight (IsRead a weight c t g (child_tomb path main done) entry) (Advanced t) c 1 t
        (machines.reads_first (child_read path main done entry) (child_tomb path main done) entry (child_reads a.own path main done entry) t g s)
        (λ u past within r. later 1 t u (record { keeps = r.keeps; word = r.word }) (tomb_within r.main u r.stands r.has))

    looked_within : (t : ℕ) → Looked t → W (Advanced t) (c + 1) (suc t)
    looked_within t (inl x) = weaken a weight (Advanced t) 0 (c + 1) (suc t) (omega arith) (here a weight (Advanced t) (suc t) x)
    looked_within t (inr (s, calm)) = later (c + 1) t (suc t) calm (read_within (suc t) s)

    pub entry_within : (t : ℕ) → Stands a t g (line.Clean (clean.Entry path main done)) → W (Advanced t) (c + 2) t
    entry_within t s =
        weaken a weight (Advanced t) (c + 1 + 1) (c + 2) t (omega arith)
        (one a weight heavy (Advanced t) (c + 1) t g (line.Clean (clean.Entry path main done)) s tt (λ more. looked_within t (looks t s more)))

    -- from any line of the READ, and behind it
    pub record Gone (u : ℕ) : Type 0 where
      pub put : Ref
      pub stands : Stands a u g (clean_line (entries_of (node a main)) path main (done ++ put ∷ []))

    pub tomb_on_within : (child : Ref) (t : ℕ) → Stands a t g (child_tomb path main done child) → W Gone 1 t
    tomb_on_within child t s =
        one a weight heavy Gone 0 t g (child_tomb path main done child) s tt
        (λ more. (let x = passes child t s more in here a weight Gone (suc t) (record { put = x.put; stands = x.stands })))

    pub read_on_within : (i : Ref) (l : ReadLine) (t : ℕ) → Stands a t g (child_read path main done i l) → W Gone (c + 7) t
    read_on_within i l t s =
        weaken a weight Gone (c + 6 + 1) (c + 7) t (omega arith)
        (bind a weight (WasRead a weight c t g (child_tomb path main done)) Gone (c + 6) 1 t
        (machines.reads_on (child_read path main done i) (child_tomb path main done) i (child_reads a.own path main done i) t g l s)
        (λ u past within r. tomb_on_within r.main u r.stands))
