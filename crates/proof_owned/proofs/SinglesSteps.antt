-- A single that came into an indirection and was dropped there: what holds at a time, and after a step.
use Rattle.std.proofs.Common.{◌≡◌, ℕ, zero, suc, ◌<◌, ◌≤◌, ◌⊎◌, Bool, true, false, Contains, length, None, Some, inl, inr, refl, sym, ap, ◌∙◌, subst, get_or, set, List, ltb-true, ltb-false, arith}
use Rattle.std.proofs.lemmas.Bool.{cases_eq, false≢true}
use Rattle.std.specs.Prelude.{nat_lt}
use Rattle.std.proofs.lemmas.List.{get_or_past, get_or_read_under, get_or-set_same, get_or-set_other, length-set}
use Rattle.std.proofs.lemmas.List.Elements.{Contains-get_or}
use Rattle.proof_shape.specs.Vocabulary.{Ref, Indirection, Tomb, Bounds, State, node_under, IsRun, entries_of, no_ref, Root, root_at, root_of, word_of, generation_of}
use Rattle.proof_owned.specs.Beneath.machine_model.specs.declared.reading.SwapLine.TheVariants as swap
use Rattle.proof_owned.specs.Beneath.proof_memory.specs.Wants.{is_branch_or_list, ASingle, meets}
use Rattle.proof_owned.specs.Beneath.proof_commits.specs.Protocol.{Words, Protocol, Given}
use Rattle.proof_owned.specs.Beneath.proof_commits.proofs.Known.Acts.{known_run}
use Rattle.proof_owned.specs.Beneath.proof_commits.proofs.Known.Sounds.{sound_at}
use Rattle.proof_owned.specs.Beneath.proof_commits.proofs.Words.Along.{protocol}
use Rattle.proof_owned.specs.Beneath.proof_commits.proofs.Words.Stood.{Decided, none≢pending}
use Rattle.proof_owned.specs.Beneath.proof_commits.proofs.Course.Finals.{from_time, link_stays, none_final}
use Rattle.proof_owned.specs.Beneath.proof_commits.proofs.Course.Mains.{main_decided, replaced_for_good}
use Rattle.proof_owned.specs.Beneath.proof_commits.proofs.Course.Swaps.{commit_replaces}
use Rattle.proof_owned.specs.Beneath.proof_contents.specs.Runs.{counting_main}
use Rattle.proof_owned.specs.Beneath.proof_generations.proofs.Falling.KnownRoots.{words, protocol_of}
use Rattle.proof_owned.specs.Beneath.proof_generations.proofs.Falling.Final.{repairs_are_given}
use Rattle.proof_shape.proofs.Runs.Entries.{of_take}
use Rattle.proof_shape.specs.Lines.Given.{GaveBelow}
use Rattle.proof_shape.specs.Lines.Knowing.{first_main}
use Rattle.proof_shape.proofs.Commits.Was.{main_linked, was_given, given_link}
use Rattle.proof_shape.proofs.Held.Fresh.{Names}
use Rattle.proof_shape.proofs.Opened.Mains.{IsOpen, rooted, named, read_is_open, given_is_open}
use Rattle.proof_owned.proofs.CountingSteps.{IsPublished, CountingStep, keeps, changes, counting_step}
use Rattle.proof_owned.proofs.Earlier.{IsLink}
use Rattle.proof_owned.proofs.SinglesCalm.{IsOnce, CameAndWent, Calm, calm, no_link_is, first_no_link, not_no_ref, is_first, beside_calm}
use Rattle.proof_owned.proofs.SinglesFrom.{WasBelow, Comes, stood, is_first as comes_first, moved, renewed, from_tomb, ComesSo, swaps_from, found_or_none, not_none_ref}
use Rattle.proof_owned.proofs.SinglesNew.{IsMoved, entry_in}
use Rattle.proof_owned.proofs.Tombs.{tomb_single}
use Rattle.proof_owned.proofs.Unopened.{below_no_swap}

module _ {limits : Bounds} {states : ℕ → State} {last : ℕ} (run : IsRun limits states last) (i s : Ref) (h : CameAndWent run i s) where
  abbrev w : Words
  w = words states run.records last

  abbrev p : Protocol
  p = protocol_of run

  abbrev cm : ℕ → Ref → Ref
  cm v j = counting_main states last v j

  -- the node with which it came counted by then
  pub record HasCome (v : ℕ) : Type 0 where
    pub at : ℕ
    pub past : at ≤ v
    pub link : Words.link (words states run.records last) at i ≡ true
    pub is : counting_main states last at i ≡ h.first

  pub record AllAt (v : ℕ) : Type 0 where
    pub below : (j c : Ref) → IsLink run j → Calm run i s h j → IsLink run c → Names run (counting_main states last v j) c → Calm run i s h c
    pub none : (j : Ref) → IsLink run j → Calm run i s h j → (j ≡ i → ⊥) → Names run (counting_main states last v j) s → ⊥
    pub gone : h.until < v → Names run (counting_main states last v i) s → ⊥
    pub come : Words.link (words states run.records last) v i ≡ true → Names run (counting_main states last v i) s → HasCome v
    pub roots : (handle : ℕ) (root : Root) → root_at (states v) handle ≡ Some root → Calm run i s h (root_of root.word)

  -- ---- what stays at the indirection

  stays_tomb : (u v : ℕ) → u ≤ v → v ≤ last → (m x : Ref) → cm u i ≡ m → node_under states last m ≡ Tomb x → cm v i ≡ m
  stays_tomb u v le within m x is tomb = from_time (λ t. cm t i ≡ m) u last is (λ t low below so_far. next t below so_far (counting_step run t below i h.link)) v le within
    where
      next : (t : ℕ) → t < last → cm t i ≡ m → CountingStep run t i → cm (suc t) i ≡ m
      next t below so_far (keeps e) = e ∙ so_far
      next t below so_far (changes f x commits e) =
          let solid : _ ≡ true = commit_replaces p t below f (cm t i) commits in
          absurd (false≢true (sym (ap is_branch_or_list (ap (node_under states last) so_far ∙ tomb)) ∙ solid))

  -- for ever
  stays_between : (u v : ℕ) → u ≤ v → v ≤ last → w.link u i ≡ true → (m : Ref) → cm u i ≡ m → cm last i ≡ m → cm v i ≡ m
  stays_between u v le within link m is ends = elim (cases_eq (cm v i) m) [
    | inl same ↦ same
    | inr other ↦
        absurd (replaced_for_good p i m u v last le within (omega arith) link (sym (main_linked run u i link) ∙ is)
        (λ e. other (main_linked run v i (link_stays p i u v le within link) ∙ e)) (sym (main_linked run last i (link_stays p i u last (omega (arith, le, within)) (omega arith) link)) ∙ ends))
  ]

  module _ (v : ℕ) (upto : v ≤ last) (all : (u : ℕ) → u ≤ v → AllAt u) where
    now : AllAt v
    now = all v (omega arith)

    -- what it had for ever, or had as a tomb, hasn't the single
    pub not_kept : (u : ℕ) → u ≤ v → (m : Ref) → cm u i ≡ m → (u ≤ suc h.until → cm (suc h.until) i ≡ m) → Names run m s → ⊥
    not_kept u le m is stays names = by (either u h.until)
      where
        either : (a b : ℕ) → (a ≤ suc b) ⊎ (b < a)
        either a b = grind arith

        by : (u ≤ suc h.until) ⊎ (h.until < u) → ⊥
        by (inl sooner) = h.gone (subst (λ q. Names run q s) (sym (stays sooner)) names)
        by (inr later) = (all u le).gone later (subst (λ q. Names run q s) (sym is) names)

    no_tomb_here : (u : ℕ) → u ≤ v → (m : Ref) → cm u i ≡ m → node_under states last m ≡ Tomb s → ⊥
    no_tomb_here u le m is tomb =
        not_kept u le m is (λ sooner. stays_tomb u (suc h.until) sooner h.within m s is tomb) (subst (λ n. Contains (entries_of n) s) (sym tomb) (0, omega arith, refl))

    -- ---- who is about to read or swap is calm

    open_calm : (n t : ℕ) → t < n → t ≤ v → (j : Ref) → IsLink run j → IsOpen run t j → Calm run i s h j
    open_calm zero t below le j link o = absurd (omega (arith, below))
    open_calm (suc n) t below le j link (rooted u handle past is) = by (root_at (states u) handle) refl is
      where
        by : (o : _) → root_at (states u) handle ≡ o → root_of (word_of o) ≡ j → Calm run i s h j
        by None e at = absurd (not_none_ref run (subst (IsLink run) (sym at) link))
        by (Some root) e at = subst (Calm run i s h) at ((all u (omega (arith, past, le))).roots handle root e)
    open_calm (suc n) t below le j link (named k q m g names) =
        let q_link = given_link run t (omega (arith, le, upto)) k q m g in
        let above = open_calm n g.at (omega (arith, g.past, below)) (omega (arith, g.past, le)) q q_link
        (read_is_open run g.at (omega (arith, g.past, le, upto)) k q g.line g.stage) in
        let (u, past, is) = was_given run t (omega (arith, le, upto)) k q m g in
        (all u (omega (arith, past, le))).below q j q_link above link (subst (λ x. Names run x j) (sym is) names)

    pub given_calm : (t : ℕ) → t ≤ v → (k : ℕ) (j m : Ref) → Given (protocol limits states last (known_run run)).words t k j m → Calm run i s h j
    given_calm t le k j m g = open_calm (suc t) t (omega arith) le j (given_link run t (omega (arith, le, upto)) k j m g) (given_is_open run t (omega (arith, le, upto)) k j m g)

    -- ---- a commit

    module _ (j f : Ref) (j_link : IsLink run j) (j_calm : Calm run i s h j) (x : IsPublished run v j (cm v j) f) where
      from : (y : Ref) → Names run f y → ComesSo run v (omega arith) x.actor x.operation x.runs (cm v j) f y
      from y names = swaps_from run v (omega arith) x.actor x.operation x.runs x.why (record { indirection = j; replaced = cm v j; fresh = f; line = swap.Deciding x.read }) x.line y names

      below_calm : (child : Ref) (b : WasBelow run v (cm v j) child) → Calm run i s h b.below
      below_calm child b = now.below j b.below j_link j_calm b.link b.names

      -- the single isn't in what counted below
      none_below : (child : Ref) (b : WasBelow run v (cm v j) child) → Names run child s → (b.below ≡ i → ⊥) → ⊥
      none_below child b names other = (all b.at b.past).none b.below b.link (below_calm child b) other (subst (λ q. Names run q s) (sym b.was) names)

      -- ---- the single

      pub data SingleFrom : Type 0 where
        before : Names run (cm v j) s → SingleFrom
        as_new : f ≡ h.first → SingleFrom

      single_by : (start : ℕ) → Comes run v x.actor x.operation.id start (cm v j) f s → SingleFrom
      single_by start (stood n) = before n
      single_by start (comes_first new) = as_new (is_first run i s h f new)
      single_by start (moved m) = absurd (no_link_is run i s h m.built.link)
      single_by start (renewed g word child b gave is older link first) = absurd (no_link_is run i s h link)
      single_by start (from_tomb tomb b is) =
          absurd (elim (cases_eq b.below i) [
            | inl here ↦ no_tomb_here b.at b.past tomb (ap (cm b.at) (sym here) ∙ b.was) is
            | inr other ↦ none_below tomb b (subst (λ n. Contains (entries_of n) s) (sym is) (0, omega arith, refl)) other
          ])

      pub single_from : Names run f s → SingleFrom
      single_from names = let c = from s names in single_by c.start c.comes

      -- ---- where the single itself goes down beside a new one

      module _ (next_below : v < last) (is_next : cm (suc v) j ≡ f) (c : Ref) (link : IsLink run c) (names : Names run f c) where
        module _ (m : IsMoved run (cm v j) f c) (same : entry_in run (cm v j) m.position ≡ s) (here : j ≡ i) where
          in_range : (b : Bool) → nat_lt m.position (length (entries_of (node_under states last (cm v j)))) ≡ b → m.position < length (entries_of (node_under states last (cm v j)))
          in_range true l = ltb-true m.position (length (entries_of (node_under states last (cm v j)))) l
          in_range false g =
              let past = ltb-false m.position (length (entries_of (node_under states last (cm v j)))) g in
              absurd (not_no_ref run i s h (sym same ∙ get_or_past (entries_of (node_under states last (cm v j))) m.position no_ref past))

          within : m.position < length (entries_of (node_under states last (cm v j)))
          within = in_range (nat_lt m.position (length (entries_of (node_under states last (cm v j))))) refl

          had : Names run (cm v j) s
          had = subst (λ r. Names run (cm v j) r) same (Contains-get_or (entries_of (node_under states last (cm v j))) m.position no_ref within)

          had_here : Names run (cm v i) s
          had_here = subst (λ r. Names run (cm v r) s) here had

          next_here : cm (suc v) i ≡ f
          next_here = ap (cm (suc v)) (sym here) ∙ is_next

          -- it isn't kept
          not_twice : IsOnce run (cm v j) s → Names run f s → ⊥
          not_twice once n = by (of_take 32 (set (entries_of (node_under states last (cm v j))) m.position c) s (subst (λ es. Contains es s) m.rest n))
            where
              es : List Ref
              es = entries_of (node_under states last (cm v j))

              at_other : (k : ℕ) → k < length es → (k ≡ m.position → ⊥) → get_or es k s ≡ s → ⊥
              at_other k lt other e = other (once k m.position lt within (sym (get_or_read_under es k (length es) s no_ref (sym e) lt refl)) same)

              by : Contains (set es m.position c) s → ⊥
              by (k, lt, e) = elim (cases_eq k m.position) [
                | inl at ↦
                    no_link_is run i s h
                    (subst (IsLink run) (sym (get_or-set_same es m.position c s within) ∙ ap (λ q. get_or (set es m.position c) q s) (sym at) ∙ e) link)
                | inr other ↦ at_other k (subst (λ n. k < n) (length-set es m.position c) lt) other (sym (get_or-set_other es m.position k c s other) ∙ e)
              ]

          link_then : w.link v i ≡ true
          link_then = subst (λ r. w.link v r ≡ true) here ((sound_at p v (omega arith)).words.link j f x.stood)

          too_early : v < h.came → ⊥
          too_early early = by (now.come link_then had_here)
            where
              by : HasCome v → ⊥
              by y =
                  let first_then = sym (main_linked run y.at i y.link) ∙ y.is in
                  let d = subst (λ q. Decided w y.at i q) first_then (main_decided w y.at (sound_at p y.at (omega (arith, y.past))).words i y.link) in
                  let other : cm (suc v) i ≡ h.first → ⊥ = λ e.
                  none≢pending (none_final p i h.first y.at v y.past (omega arith) d.stood d.none) (ap (w.prev v) (sym e ∙ next_here) ∙ x.pending) in
                  replaced_for_good p i h.first y.at (suc v) h.came (omega (arith, y.past)) early (omega (arith, h.order, h.within)) y.link first_then
                  (λ e. other (main_linked run (suc v) i (link_stays p i v (suc v) (omega arith) next_below link_then) ∙ e)) (sym (main_linked run h.came i h.linked) ∙ h.is)

          order : (a b c : ℕ) → b ≤ c → (a < b) ⊎ (((b ≤ a) × (a < c)) ⊎ ((a ≡ c) ⊎ (c < a)))
          order a b c le = grind arith

          pub moved_here : Calm run i s h c
          moved_here = by (order v h.came h.until h.order)
            where
              by : (v < h.came) ⊎ (((h.came ≤ v) × (v < h.until)) ⊎ ((v ≡ h.until) ⊎ (h.until < v))) → Calm run i s h c
              by (inl early) = absurd (too_early early)
              by (inr (inl (low, high))) =
                  absurd (not_twice (subst (λ r. IsOnce run (cm v r) s) (sym here) (h.once v low (omega (arith, high)) m.bitmap m.entries
                  (ap (λ r. node_under states last (cm v r)) (sym here) ∙ m.branch)))
                  (subst (λ q. Names run q s) next_here (h.since (suc v) (omega (arith, low)) (omega (arith, high)))))
              by (inr (inr (inl at))) =
                  now.below i c h.link (subst (Calm run i s h) here j_calm) link
                  (subst (λ t. Names run (cm t i) c) (sym at) (h.no_link c link (subst (λ t. Names run (cm (suc t) i) c) at (subst (λ q. Names run q c) (sym next_here) names))))
              by (inr (inr (inr late))) = absurd (now.gone late had_here)

      -- ---- an indirection

      module _ (c : Ref) (link : IsLink run c) (names : Names run f c)
          (goes_down : (m : IsMoved run (cm v j) f c) → entry_in run (cm v j) m.position ≡ s → Names run (cm v j) s → j ≡ i → Calm run i s h c) where
        by_moved : IsMoved run (cm v j) f c → Calm run i s h c
        by_moved m = by (found_or_none run (cm v j) m.position)
          where
            old : Ref
            old = entry_in run (cm v j) m.position

            by : Names run (cm v j) (entry_in run (cm v j) m.position) ⊎ (entry_in run (cm v j) m.position ≡ no_ref) → Calm run i s h c
            by (inr nothing) =
                beside_calm run i s h (entry_in run (cm v j) m.position) (first_main states last c) m.beside (λ e. not_no_ref run i s h (sym e ∙ nothing))
                (λ l. absurd (not_none_ref run (subst (IsLink run) nothing l))) c m.built refl
            by (inl n) = elim (cases_eq (entry_in run (cm v j) m.position) s) [
              | inr other ↦
                  beside_calm run i s h (entry_in run (cm v j) m.position) (first_main states last c) m.beside other
                  (λ l. now.below j (entry_in run (cm v j) m.position) j_link j_calm l n) c m.built refl
              | inl same ↦ elim (cases_eq j i) [
                | inl here ↦ goes_down m same (subst (λ r. Names run (cm v j) r) same n) here
                | inr other ↦ absurd (now.none j j_link j_calm other (subst (λ r. Names run (cm v j) r) same n))
              ]
            ]

        by_renewed : (start g : ℕ) (word child : Ref) (b : WasBelow run v (cm v j) child) → GaveBelow states run.records last v x.actor x.operation.id start b.below child →
            node_under states last b.below ≡ Indirection g word → (g ≡ start → ⊥) → first_main states last c ≡ child → Calm run i s h c
        by_renewed start g word child b gave is older first = calm c none below
          where
            at : ℕ
            at = suc gave.gave.moment

            past : suc gave.gave.moment ≤ v
            past = omega (arith, gave.gave.is_moment.past, gave.gave.past)

            ends : cm last b.below ≡ child
            ends =
                (repairs_are_given run gave.at (omega (arith, gave.past, upto)) x.actor gave.operation start b.below child (record {
                  outcome = gave.outcome;
                  moves = gave.moves;
                  runs = gave.runs;
                  no_swap = below_no_swap gave.operation.line gave.below;
                  read = gave.read;
                  reads = gave.reads;
                  of = gave.of;
                  gives = gave.gives;
                  notes = gave.notes;
                }) gave.its gave.below).1 (λ e. older (sym (ap generation_of is) ∙ e))

            link_at : w.link (suc gave.gave.moment) b.below ≡ true
            link_at = link_stays p b.below (suc gave.gave.from) (suc gave.gave.moment) (omega (arith, gave.gave.is_moment.from)) (omega (arith, past, upto)) gave.gave.is_moment.link

            not_here : b.below ≡ i → Names run child s → ⊥
            not_here here n =
                not_kept (suc gave.gave.moment) past child (ap (cm (suc gave.gave.moment)) (sym here) ∙ gave.gave.is)
                (λ sooner.
                stays_between (suc gave.gave.moment) (suc h.until) sooner h.within (subst (λ r. w.link (suc gave.gave.moment) r ≡ true) here link_at) child
                (ap (cm (suc gave.gave.moment)) (sym here) ∙ gave.gave.is) (ap (cm last) (sym here) ∙ ends)) n

            none : (c ≡ i → ⊥) → Names run (first_main states last c) s → ⊥
            none other n = elim (cases_eq b.below i) [
              | inl here ↦ not_here here (subst (λ q. Names run q s) first n)
              | inr apart ↦ none_below child b (subst (λ q. Names run q s) first n) apart
            ]

            below : (d : Ref) → IsLink run d → Names run (first_main states last c) d → Calm run i s h d
            below d d_link n =
                (all b.at b.past).below b.below d b.link (below_calm child b) d_link (subst (λ q. Names run q d) (first ∙ sym b.was) n)

        link_by : (start : ℕ) → Comes run v x.actor x.operation.id start (cm v j) f c → Calm run i s h c
        link_by start (stood n) = now.below j c j_link j_calm link n
        link_by start (comes_first new) = absurd (first_no_link run i s h f c new link)
        link_by start (moved m) = by_moved m
        link_by start (renewed g word child b gave is older l first) = by_renewed start g word child b gave is older first
        link_by start (from_tomb tomb b is) = let (g, word, at) = link in absurd (false≢true (ap (meets ASingle) (sym at) ∙ tomb_single run tomb c is))

        pub link_from : Calm run i s h c
        link_from = let y = from c names in link_by y.start y.comes
