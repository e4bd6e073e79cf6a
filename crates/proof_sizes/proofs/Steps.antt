-- What each step of a run does to the nodes of handles.
use Rattle.std.proofs.Common.{zero, ◌<◌, ◌≡◌, ℕ, suc, ◌+◌, ◌≤◌, ◌==◌, Bool, true, false, cond, List, [], ◌∷◌, length, sum_by, ◌⊎◌, inl, inr, Option, Some, None, refl, sym, ap, subst, ◌∙◌, arith}
use Rattle.std.proofs.lemmas.List.Sums.{sum_by-cons, sum_by-le-sum_by}
use Rattle.std.proofs.lemmas.Option.{none-some, same_Some}
use native.Mathlib.Decide.{ℕ_discrete}
use Rattle.proof_sizes.specs.Vocabulary.{Call, Close, Freeze, Snapshot, Ref, empty_branch, entries_of, times, Descriptor, Root, Bounds, Outcome, Step, Go, Sweep, opened_root, inserts, most_levels}
use Rattle.proof_sizes.specs.Vocabulary.{node_under, Moves, State, root_at, root_of, IsRun}
use Rattle.proof_sizes.specs.Beneath.slot_arena.proofs.Times.{times-cons}
use Rattle.proof_sizes.specs.Beneath.machine_model.specs.declared.lines.Purpose.TheVariants as purpose
use Rattle.proof_sizes.specs.Beneath.machine_model.specs.declared.steps.Step.TheVariants.{Begin}
use Rattle.proof_sizes.specs.Beneath.proof_memory.specs.Wants.{is_indirection}
use Rattle.proof_sizes.specs.Beneath.proof_contents.specs.Runs.{counting_main}
use Rattle.proof_sizes.specs.Beneath.proof_contents.specs.Steps.{Asks, IsRepair, Updates, to_insert, to_remove, to_set}
use Rattle.proof_sizes.specs.Beneath.proof_contents.specs.Tries.{Trie, generation, node_in}
use Rattle.proof_sizes.specs.Beneath.proof_generations.proofs.Lines.ReaderKnows.{indirection_is}
use Rattle.proof_sizes.specs.Beneath.proof_order.specs.Facts.{CarriesOut, Notes}
use Rattle.proof_sizes.specs.Beneath.proof_order.specs.Openings.{Brings, clears, freezes, snapshots}
use Rattle.proof_sizes.specs.Beneath.proof_order.proofs.Openings.Carried as Carried
use Rattle.proof_sizes.specs.Beneath.proof_order.proofs.Openings.NoLateCommit.{no_late_commit}
use Rattle.proof_sizes.specs.Beneath.proof_shape.specs.Lines.Commits.{MainStep, OwnCommit, assigned_at, changes, stays}
use Rattle.proof_sizes.specs.Beneath.proof_shape.specs.Shaped.{HasShape, trie_of_run}
use Rattle.proof_sizes.specs.Beneath.proof_shape.specs.Sites.At.{StepsFit, TakesSteps}
use Rattle.proof_sizes.specs.Beneath.proof_shape.specs.Sites.Nodes.{depth_of_run, path_of_run}
use Rattle.proof_sizes.specs.Beneath.proof_shape.proofs.Shaped.Trie.{runs_have_shape}
use Rattle.proof_sizes.specs.Beneath.proof_updates.specs.Touching.{CarriesOutCall, CommitsUpdate}
use Rattle.proof_sizes.specs.Beneath.proof_updates.proofs.Handles.Committing.{carries_nothing, commits_own}
use Rattle.proof_sizes.specs.Beneath.proof_updates.proofs.Handles.Kept.{main_step}
use Rattle.proof_sizes.specs.Beneath.proof_updates.proofs.Handles.OfRuns.{OfLastSteps}
use Rattle.proof_sizes.specs.Beneath.proof_updates.proofs.Handles.Roots.{HandleStep, changes_root, handle_step, is_closed, keeps, opened_step, swap_of}
use Rattle.proof_sizes.specs.Beneath.proof_updates.proofs.Handles.Showing.{root_link}
use Rattle.proof_sizes.specs.Beneath.proof_updates.proofs.Handles.Swapping.{brings, carries_call, its_call}
use Rattle.proof_sizes.specs.Beneath.proof_updates.proofs.Tries.Commits.{sites_of_updates}
use Rattle.proof_sizes.specs.Beneath.proof_updates.proofs.Tries.Does.{own_does}
use Rattle.proof_sizes.specs.Beneath.proof_updates.proofs.Tries.OfRuns as whole
use Rattle.proof_sizes.specs.Growth.{most_growth}
use Rattle.proof_sizes.specs.Nodes.{nodes_of}
use Rattle.proof_sizes.proofs.Changing.{added, repair_grows_nothing, update_grows_little}
use Rattle.proof_sizes.proofs.Growing.{heavier, no_more}
use Rattle.proof_sizes.proofs.Shown.{handle_nodes, handle_size, handle_weighs, nodes_once}
use Rattle.proof_sizes.proofs.Weights.{nodes_alike, nodes_from, one, size_from, weight_from, weight_link}

-- ---- what a step does

-- it commits an operation's change of its key, which had no value and is given one, below a node of the handle
pub record AddsKey (before : State) (s : Step) (handle : ℕ) : Type 0 where
  pub indirection : Ref
  pub call : Call
  pub commits : CommitsUpdate before s indirection call None
  pub gives : inserts call ≡ true
  pub reached : 0 < times indirection (nodes_of before handle)

-- the nodes of a handle become no more, but where a key is added, and then so many at most
abbrev pub StepsGrowLittle : Bounds → State → Step → State → Type 0
StepsGrowLittle limits before s after =
    (handle : ℕ) (root now : Root) → root_at before handle ≡ Some root → root_at after handle ≡ Some now →
    (length (nodes_of after handle) ≤ length (nodes_of before handle)) ⊎ (AddsKey before s handle × (length (nodes_of after handle) ≤ length (nodes_of before handle) + most_growth))

-- the call copies this handle
pub data Copies (copied : ℕ) : Call → Type 0 where
  by_snapshot : Copies copied (Snapshot copied)
  by_freeze : Copies copied (Freeze copied)

-- a handle that is opened has no more nodes than the one that is copied
abbrev pub OpenedNoLarger : Bounds → State → Step → State → Type 0
OpenedNoLarger limits before s after =
    (handle : ℕ) (now : Root) → root_at before handle ≡ None → root_at after handle ≡ Some now →
    (copied : ℕ) × (call : Call) × Copies copied call × CarriesOutCall before s call (Some handle) × ((root : Root) × (root_at before copied ≡ Some root))
    × (length (nodes_of after handle) ≤ length (nodes_of before copied))

-- ---- lists in which one number weighs more

heavy_none : (i more : ℕ) (rs : List Ref) → times i rs ≡ 0 → sum_by (heavier i more) rs ≡ length rs
heavy_none i more [] none = refl
heavy_none i more (r ∷ rs) none = by (heavy_none i more rs) (r == i) refl
  where
    by : (times i rs ≡ 0 → sum_by (heavier i more) rs ≡ length rs) → (b : Bool) → (r == i) ≡ b → sum_by (heavier i more) (r ∷ rs) ≡ length (r ∷ rs)
    by rest true e = absurd (omega (arith, none, times-cons i r rs, ap (λ b. cond {A = ℕ} b 1 0) e))
    by rest false e =
        let later = rest (omega (arith, none, times-cons i r rs)) in
        omega (arith, sum_by-cons (heavier i more) r rs, later, ap (λ b. 1 + cond b more 0) e)

heavy_once : (i more : ℕ) (rs : List Ref) → times i rs ≤ 1 → sum_by (heavier i more) rs ≤ length rs + more
heavy_once i more [] few = omega arith
heavy_once i more (r ∷ rs) few = by (heavy_once i more rs) (r == i) refl
  where
    by : (times i rs ≤ 1 → sum_by (heavier i more) rs ≤ length rs + more) → (b : Bool) → (r == i) ≡ b → sum_by (heavier i more) (r ∷ rs) ≤ length (r ∷ rs) + more
    by rest true e =
        let later = heavy_none i more rs (omega (arith, few, times-cons i r rs, ap (λ b. cond {A = ℕ} b 1 0) e)) in
        omega (arith, sum_by-cons (heavier i more) r rs, later, ap (λ b. 1 + cond b more 0) e)
    by rest false e =
        let later = rest (omega (arith, few, times-cons i r rs)) in
        omega (arith, sum_by-cons (heavier i more) r rs, later, ap (λ b. 1 + cond b more 0) e)

module _ (limits : Bounds) (states : ℕ → State) (steps : ℕ → Step) (t : ℕ) (run : IsRun limits states (suc t)) (takes : TakesSteps states steps (suc t)) (keys : StepsFit steps (suc t))
    (s : Step) (o : Outcome) (m : Moves (states t) s o (states (suc t))) (notes : Notes states run.records t s) where
  abbrev trie : Trie
  trie = trie_of_run limits states steps (suc t)

  abbrev Mine : Type 0
  Mine = OwnCommit limits states run.records (suc t) (assigned_at states (suc t)) t s

  shape : HasShape (trie_of_run limits states steps (suc t))
  shape = runs_have_shape limits states steps (suc t) run takes keys

  main_turn : MainStep limits states run.records (suc t) (assigned_at states (suc t)) t s
  main_turn = main_step limits states steps t run takes keys s o m notes

  -- ---- below a root that stood before

  module _ (handle : ℕ) (root : Root) (at : root_at (states t) handle ≡ Some root) where
    abbrev r : Ref
    r = root_of root.word

    -- one node more heavy
    heavy_at : (i : Ref) (more : ℕ) → weight_from (heavier i more) trie.node (trie.main t) most_levels (root_of root.word) ≤ length (nodes_of (states t) handle) + more
    heavy_at i more =
        let weighs = handle_weighs steps run takes keys t (omega arith) handle root at (heavier i more) in
        let few = heavy_once i more (nodes_of (states t) handle) (nodes_once steps run takes keys t (omega arith) handle root at i) in
        omega (arith, weighs, few)

    light_at : (i : Ref) (more : ℕ) → times i (nodes_of (states t) handle) ≡ 0 →
        weight_from (heavier i more) trie.node (trie.main t) most_levels (root_of root.word) ≡ length (nodes_of (states t) handle)
    light_at i more none =
        let weighs = handle_weighs steps run takes keys t (omega arith) handle root at (heavier i more) in
        sym weighs ∙ heavy_none i more (nodes_of (states t) handle) none

    abbrev pub Grows : Ref → Type 0
    Grows q = (size_from trie.node (trie.main (suc t)) most_levels q ≤ length (nodes_of (states t) handle))
        ⊎ (AddsKey (states t) s handle × (size_from trie.node (trie.main (suc t)) most_levels q ≤ length (nodes_of (states t) handle) + most_growth))

    nothing_below : ((i : Ref) → trie.main (suc t) i ≡ trie.main t i) → size_from trie.node (trie.main (suc t)) most_levels (root_of root.word) ≤ length (nodes_of (states t) handle)
    nothing_below same =
        let few = no_more trie t r (λ j apart. same j) 0
        (λ levels rest. let less = sum_by-le-sum_by _ _ (entries_of (node_in trie t r)) rest in
        subst
        (λ q. sum_by (size_from trie.node (trie.main (suc t)) levels) (entries_of (trie.node q))
        ≤ sum_by (weight_from (heavier r 0) trie.node (trie.main t) levels) (entries_of (node_in trie t r)) + 0)
        (sym (same r)) (omega (arith, less))) most_levels r in
        let heavy = heavy_at r 0 in
        omega (arith, few, heavy)

    own_below : (own : Mine) → ((p : List Ref) × (former : Option ℕ) × (own.why ≡ purpose.Update p former))
        ⊎ IsRepair trie (generation trie own.indirection) t (node_in trie t own.indirection) (node_in trie (suc t) own.indirection) → Grows (root_of root.word)
    own_below own (inr repair) =
        let few = repair_grows_nothing trie t refl (λ n j le. shape.shaped n j le) own.indirection own.others repair most_levels r in
        let heavy = heavy_at own.indirection 0 in
        inl (omega (arith, few, heavy))
    own_below own (inl (p, former, e)) = by former refl
      where
        u : Updates trie t own.start own.owner.call former
        u = whole.updates_at steps run takes keys t s (omega arith) own p former e

        few : (levels : ℕ) (q : Ref) → size_from trie.node (trie.main (suc t)) levels q ≤ weight_from (heavier u.indirection (added former)) trie.node (trie.main t) levels q
        few = update_grows_little trie t refl (λ n j le. shape.shaped n j le) u.indirection u.leaves own.start _ former u.now u.updates

        bound : size_from trie.node (trie.main (suc t)) most_levels r ≤ length (nodes_of (states t) handle) + added former
        bound = let low = few most_levels r in let heavy = heavy_at u.indirection (added former) in omega (arith, low, heavy)

        same_link : u.indirection ≡ own.indirection
        same_link = by (ℕ_discrete own.indirection u.indirection)
          where
            by : Dec (own.indirection ≡ u.indirection) → u.indirection ≡ own.indirection
            by (yes same) = sym same
            by (no apart) = absurd (own.differ (sym own.after ∙ u.leaves own.indirection apart ∙ own.before))

        gives : (had is : Option ℕ) → Asks own.owner.call had is → had ≡ None → inserts own.owner.call ≡ true
        gives had is (to_insert it_inserts) none = it_inserts
        gives had is (to_set v sets) none = absurd (none-some v (sym none))
        gives had is (to_remove v removes) none = absurd (none-some v (sym none))

        by : (had : Option ℕ) → former ≡ had → Grows (root_of root.word)
        by (Some v) same = inl (omega (arith, bound, ap added same))
        by None same = by_times (times own.indirection (nodes_of (states t) handle)) refl
          where
            by_times : (n : ℕ) → times own.indirection (nodes_of (states t) handle) ≡ n → Grows (root_of root.word)
            by_times zero none =
                let light = light_at u.indirection (added former) (ap (λ i. times i (nodes_of (states t) handle)) same_link ∙ none) in
                let low = few most_levels r in
                inl (omega (arith, low, light))
            by_times (suc n) some =
                inr (
                  record {
                    indirection = own.indirection;
                    call = own.owner.call;
                    commits = commits_own limits states run.records (suc t) t s own p None (e ∙ ap (purpose.Update p) same);
                    gives = gives former u.now u.asks same;
                    reached = omega (arith, some);
                  },
                  omega (arith, bound, ap added same),
                )

    below : Grows (root_of root.word)
    below = by main_turn
      where
        by : MainStep limits states run.records (suc t) (assigned_at states (suc t)) t s → Grows (root_of root.word)
        by (stays none same) = inl (nothing_below same)
        by (changes own) =
            own_below own
            (own_does limits states (suc t) (depth_of_run states steps (suc t)) (path_of_run states steps (suc t)) run
            (sites_of_updates run steps takes keys) t s (omega arith) own)

  -- ---- a root that is swapped in

  module _ (on : ℕ) (offer : Descriptor) (carries : CarriesOut (states t) s on offer) where
    old : Carried.IsOffered (states t) on offer
    old = Carried.root run t on offer (swap_of run t (omega arith) s o m notes on offer carries)

    -- who carries an offer out commits nothing
    old_below : size_from trie.node (trie.main (suc t)) most_levels (root_of old.root.word) ≤ length (nodes_of (states t) on)
    old_below = by main_turn
      where
        by : MainStep limits states run.records (suc t) (assigned_at states (suc t)) t s → size_from trie.node (trie.main (suc t)) most_levels (root_of old.root.word) ≤ length (nodes_of (states t) on)
        by (stays none same) = nothing_below on old.root old.is_open same
        by (changes own) = absurd (carries_nothing limits states run.records (suc t) t s on offer carries own)

    old_main : trie.main (suc t) (root_of old.root.word) ≡ offer.expected
    old_main = ap (trie.main (suc t)) (ap root_of old.word)
        ∙ no_late_commit run t on offer (swap_of run t (omega arith) s o m notes on offer carries) (suc t) (omega arith) (omega arith)

    old_link : is_indirection (node_under states (suc t) (root_of old.root.word)) ≡ true
    old_link = root_link steps run takes keys t (omega arith) on old.root old.is_open

    -- two indirections over one main node reach as many
    over_one : (a b : Ref) → is_indirection (node_under states (suc t) a) ≡ true → is_indirection (node_under states (suc t) b) ≡ true → trie.main (suc t) a ≡ trie.main (suc t) b →
        size_from trie.node (trie.main (suc t)) most_levels a ≡ size_from trie.node (trie.main (suc t)) most_levels b
    over_one a b link_a link_b same =
        let node_a = indirection_is (node_under states (suc t) a) link_a in
        let node_b = indirection_is (node_under states (suc t) b) link_b in
        weight_link one trie.node (trie.main (suc t)) 14 node_a.0 a node_a.1 node_a.2
        ∙ ap (λ q. 1 + 1 + sum_by (size_from trie.node (trie.main (suc t)) 14) (entries_of (trie.node q))) same
        ∙ sym (weight_link one trie.node (trie.main (suc t)) 14 node_b.0 b node_b.1 node_b.2)

    -- a handle over the expected node has no more nodes than the old root
    over_expected : (handle : ℕ) (now : Root) → root_at (states (suc t)) handle ≡ Some now → trie.main (suc t) (root_of now.word) ≡ offer.expected →
        length (nodes_of (states (suc t)) handle) ≤ length (nodes_of (states t) on)
    over_expected handle now at main =
        let size = handle_size steps run takes keys (suc t) (omega arith) handle now at in
        let link = root_link steps run takes keys (suc t) (omega arith) handle now at in
        let same = over_one (root_of now.word) (root_of old.root.word) link old_link (main ∙ sym old_main) in
        omega (arith, size, same, old_below)

    -- nor does one over an empty branch
    over_empty : (handle : ℕ) (now : Root) → root_at (states (suc t)) handle ≡ Some now → trie.node (trie.main (suc t) (root_of now.word)) ≡ empty_branch →
        length (nodes_of (states (suc t)) handle) ≤ length (nodes_of (states t) on)
    over_empty handle now at empty =
        let size = handle_size steps run takes keys (suc t) (omega arith) handle now at in
        let node_new = indirection_is (node_under states (suc t) (root_of now.word)) (root_link steps run takes keys (suc t) (omega arith) handle now at) in
        let node_old = indirection_is (node_under states (suc t) (root_of old.root.word)) old_link in
        let new_is = weight_link one trie.node (trie.main (suc t)) 14 node_new.0 (root_of now.word) node_new.1 node_new.2
        ∙ ap (λ n. 1 + 1 + sum_by (size_from trie.node (trie.main (suc t)) 14) (entries_of n)) empty in
        let old_is = weight_link one trie.node (trie.main (suc t)) 14 node_old.0 (root_of old.root.word) node_old.1 node_old.2 in
        omega (arith, size, new_is, old_is, old_below)

    new_root_below : (call : Call) → Brings states (suc t) t on offer call → (now : Root) → root_at (states (suc t)) on ≡ Some now → root_of now.word ≡ offer.successor →
        length (nodes_of (states (suc t)) on) ≤ length (nodes_of (states t) on)
    new_root_below call (clears opens new empty) now at over = over_empty on now at (ap (λ q. trie.node (trie.main (suc t) q)) over ∙ empty)
    new_root_below call (snapshots n second opens is first main copy its) now at over = over_expected on now at (ap (trie.main (suc t)) over ∙ main)
    new_root_below call (freezes n opens none first main) now at over = over_expected on now at (ap (trie.main (suc t)) over ∙ main)

    -- ---- what is opened

    opened_below : (call : Call) → Brings states (suc t) t on offer call → (handle : ℕ) → offer.opens ≡ Some handle → root_at (states (suc t)) handle ≡ Some (opened_root offer offer.second) →
        Copies on call × (length (nodes_of (states (suc t)) handle) ≤ length (nodes_of (states t) on))
    opened_below call (clears opens new empty) handle e at = absurd (none-some handle (sym opens ∙ e))
    opened_below call (snapshots n second opens is first main copy its) handle e at =
        let now = at ∙ ap (λ x. Some (opened_root offer x)) is in (by_snapshot, over_expected handle (opened_root offer (Some second)) now its)
    opened_below call (freezes n opens none first main) handle e at =
        let now = at ∙ ap (λ x. Some (opened_root offer x)) none in
        (by_freeze, over_expected handle (opened_root offer None) now (ap (trie.main (suc t)) (sym (ap root_of old.word)) ∙ old_main))

  -- ---- the laws of one step

  grows : StepsGrowLittle limits (states t) s (states (suc t))
  grows handle root now at at_now = by (handle_step run t (omega arith) s o m notes handle root at)
    where
      by_size : (q : Ref) → q ≡ root_of root.word → root_of now.word ≡ q →
          (size_from trie.node (trie.main (suc t)) most_levels (root_of root.word) ≤ length (nodes_of (states t) handle))
          ⊎ (AddsKey (states t) s handle × (size_from trie.node (trie.main (suc t)) most_levels (root_of root.word) ≤ length (nodes_of (states t) handle) + most_growth)) →
          (length (nodes_of (states (suc t)) handle) ≤ length (nodes_of (states t) handle))
          ⊎ (AddsKey (states t) s handle × (length (nodes_of (states (suc t)) handle) ≤ length (nodes_of (states t) handle) + most_growth))
      by_size q is over (inl few) =
          let size = handle_size steps run takes keys (suc t) (omega arith) handle now at_now in
          inl (omega (arith, size, ap (λ x. size_from trie.node (trie.main (suc t)) most_levels x) (over ∙ is), few))
      by_size q is over (inr (adds, few)) =
          let size = handle_size steps run takes keys (suc t) (omega arith) handle now at_now in
          inr (adds, omega (arith, size, ap (λ x. size_from trie.node (trie.main (suc t)) most_levels x) (over ∙ is), few))

      by : HandleStep run t (omega arith) s o m notes handle root →
          (length (nodes_of (states (suc t)) handle) ≤ length (nodes_of (states t) handle))
          ⊎ (AddsKey (states t) s handle × (length (nodes_of (states (suc t)) handle) ≤ length (nodes_of (states t) handle) + most_growth))
      by (keeps stands) =
          by_size (root_of root.word) refl (ap (λ (x : Root). root_of x.word) (same_Some _ _ (sym at_now ∙ stands.is_open)) ∙ stands.over) (below handle root at)
      by (changes_root offer carries was stands) =
          inl (new_root_below handle offer carries (its_call limits states steps t run takes keys s o m notes handle offer carries)
          (brings limits states steps t run takes keys s o m notes handle offer carries) now at_now
          (ap (λ (x : Root). root_of x.word) (same_Some _ _ (sym at_now ∙ stands.is_open)) ∙ stands.over))
      by (is_closed actor number e gone) = absurd (none-some now (sym gone ∙ at_now))

  opens : OpenedNoLarger limits (states t) s (states (suc t))
  opens handle now shut at_now =
      let it = opened_step run t (omega arith) s o m notes handle now shut at_now in
      let call = its_call limits states steps t run takes keys s o m notes it.on it.offer it.carries in
      let stands = old it.on it.offer it.carries in
      let (copies, few) = opened_below it.on it.offer it.carries call (brings limits states steps t run takes keys s o m notes it.on it.offer it.carries) handle it.number it.now in
      (it.on, call, copies, carries_call limits states steps t run takes keys s o m notes it.on it.offer it.carries (Some handle) it.number, (stands.root, stands.is_open), few)

pub steps_grow_little : OfLastSteps StepsGrowLittle
steps_grow_little limits states steps t run takes keys s o m notes = grows limits states steps t run takes keys s o m notes

pub opened_no_larger : OfLastSteps OpenedNoLarger
opened_no_larger limits states steps t run takes keys s o m notes = opens limits states steps t run takes keys s o m notes

-- ---- the sweep

-- a step of the sweep leaves the handles open, and their nodes
abbrev pub SweepKeeps : Bounds → State → Step → State → Type 0
SweepKeeps limits before s after =
    s ≡ Sweep → (handle : ℕ) (root : Root) → root_at before handle ≡ Some root → (now : Root) × (root_at after handle ≡ Some now) × (nodes_of after handle ≡ nodes_of before handle)

pub sweep_keeps : OfLastSteps SweepKeeps
sweep_keeps limits states steps t run takes keys s o m notes sweeps handle root at =
    by (main_step limits states steps t run takes keys s o m notes) (handle_step run t (omega arith) s o m notes handle root at)
  where
    by : MainStep limits states run.records (suc t) (assigned_at states (suc t)) t s → HandleStep run t (omega arith) s o m notes handle root →
        (now : Root) × (root_at (states (suc t)) handle ≡ Some now) × (nodes_of (states (suc t)) handle ≡ nodes_of (states t) handle)
    by (changes own) step_is = absurd (let bad : Sweep ≡ Go own.taker = sym sweeps ∙ own.takes in cc)
    by (stays none same) (is_closed actor number e gone) = absurd (let bad : Sweep ≡ Begin actor (Close handle) number = sym sweeps ∙ e in cc)
    by (stays none same) (changes_root offer carries was stands) =
        absurd (let bad : Sweep ≡ Go carries.0 = sym sweeps ∙ carries.3 in cc)
    by (stays none same) (keeps stands) = (
      stands.root,
      stands.is_open,
      handle_nodes steps run takes keys (suc t) (omega arith) handle stands.root stands.is_open
          ∙ ap (nodes_from (node_under states (suc t)) (counting_main states (suc t) (suc t)) most_levels) stands.over
          ∙ nodes_alike (node_under states (suc t)) (counting_main states (suc t) (suc t)) (counting_main states (suc t) t) same most_levels (root_of root.word)
          ∙ sym (handle_nodes steps run takes keys t (omega arith) handle root at),
    )
