-- One level further down: the branch before stays, or is renewed.
use Rattle.std.proofs.Common.{None, arith, ◌≡◌, ℕ, suc, ◌+◌, ◌-◌, ◌*◌, ◌<◌, ◌≤◌, ◌==◌, Bool, true, false, not, nat_eq, is_some, All, Some, refl, sym, ap, ◌∙◌, subst, eq-eqb, eqb-true}
use Rattle.std.specs.Option.{option_eq}
use Rattle.std.proofs.lemmas.Bool.{false≢true, true≢false}
use Rattle.arrayvec.specs.ArrayVec.{ArrayVec}
use Rattle.machine_core.specs.Vocabulary.{index_at, position_of, Access, ReadOnly, Writable, Call, Node, Ref, IsLive, is_indirection, Heap, bitmap_of, entries_of, entry_at, generation_at, main_at}
use Rattle.machine_core.specs.Vocabulary.{main_of, no_ref, node_at, birth_limit, handle_of, key_of, passes, begun_operation, State, key_hash, root_at, word_at, flag_of, IsInUse, AnEntry, IsRenewed}
use Rattle.machine_core.specs.Vocabulary.{MeetsOld, HasEntry, below, entry_for, to_root, is_of_other, renewal_slots, renewed_state, steps_of_renewal, IsOfRun, CanSwap}
use Rattle.epochs.specs.Memories.{Memory}
use Rattle.machine_core.specs.Beneath.proof_memory.proofs.Claims.Uses.{Meets, meets_of, safe_of}
use Rattle.machine_core.specs.Beneath.proof_memory.proofs.Holding.Lives.{in_use_lives}
use Rattle.machine_core.specs.Beneath.proof_memory.proofs.Safety.Base.{handle_given}
use Rattle.machine_core.specs.Beneath.proof_straight.specs.Places.{Leads}
use Rattle.machine_core.specs.Beneath.proof_straight.proofs.Change.Builds.{writable_at}
use Rattle.machine_core.specs.Beneath.proof_straight.proofs.Renewal.NewEntries.{slots_most, steps_by_slots}
use Rattle.machine_core.specs.Beneath.proof_straight.proofs.Renewal.Passing.{passes_renewal}
use Rattle.machine_core.specs.declared.descending.Place.{Place}
use Rattle.machine_core.specs.Renewing.{AreOverLive, IsBranch, IsDown, IsOver, LeadsOn, Renews}
use Rattle.machine_core.specs.Straight.{CanGo, LeadsTo}
use Rattle.proof_core.specs.Tries.{IsTrie}
use Rattle.proof_core.proofs.Bounded.{bounded}
use Rattle.machine_core.proofs.Carried.{goes_run}
use Rattle.machine_core.proofs.Passed.{all_renewable, goes_past, leads_on_still, over_used}
use Rattle.proof_core.proofs.Tries.{can_swap_there, entries_meet, entry_meets, leads_holds, leads_main, level_entry, level_over, trie_of_run, ways_apart}

deeper : (X : ℕ → Type 0) (n : ℕ) → X (suc n) → X (n + 1)
deeper X n x = subst X (let same : suc n ≡ n + 1 = omega arith in same) x

same_generation : (a b : ℕ) → not (a == b) ≡ false → a ≡ b
same_generation a b h = eqb-true a b (by (a == b) h)
  where
    by : (t : Bool) → not t ≡ false → t ≡ true
    by true h = refl
    by false h = absurd (true≢false h)

pub other_generation : (a b : ℕ) → not (a == b) ≡ true → (a == b) ≡ false
other_generation a b h = by (a == b) h
  where
    by : (t : Bool) → not t ≡ true → t ≡ false
    by true h = absurd (false≢true h)
    by false h = refl

passes_own : (a b : ℕ) → a ≡ b → passes Writable (option_eq nat_eq (Some a) (Some b)) ≡ true
passes_own a b same = eq-eqb a b same

-- on a writable handle all are passed that are passed there, so on any
pub leads_any : (heap : Heap) (hash : ℕ) (root : Ref) (depth : ℕ) (indirection : Ref) (access : Access) → Leads heap Writable hash root depth indirection →
    Leads heap access hash root depth indirection
leads_any heap hash root depth indirection access (to_root is) = to_root is
leads_any heap hash root depth indirection access (below {depth = d} {generation} {above} {word} higher entry is passed) =
    below (leads_any heap hash root d above access higher) entry is (any access passed)
  where
    any : (access : Access) {b : Bool} → b ≡ true → passes access b ≡ true
    any ReadOnly e = refl
    any Writable e = e

-- the call passes more steps from further down
leads_deeper : (start state : State) (actor : ℕ) (call : Call) (depth : ℕ) → LeadsTo start state actor call depth → LeadsTo start state actor call (depth + 1)
leads_deeper start state actor call depth h = record { run = h.run; begun = h.begun; passes = λ n t least goes. h.passes n t (omega (arith, least)) goes }

fewer_levels : (state : State) (actor : ℕ) (call : Call) (root : Ref) (levels : ℕ) → 1 ≤ levels → CanGo state actor call root levels → CanGo state actor call root (levels - 1)
fewer_levels state actor call root levels some can = record {
  ready = can.ready;
  slots = omega (arith, can.slots, some);
  steps = omega (arith, can.steps, some);
  life = can.life;
  begun = can.begun;
  births = can.births;
  trie = can.trie;
}

module _ (start state : State) (actor : ℕ) (call : Call) (root : Ref) (place : Place) (node : Node) (depth : ℕ) (indirection : Ref)
    (on : IsDown start state actor call root place node depth indirection) (less : depth < place.depth) where
  abbrev hash : ℕ
  hash = key_hash state (key_of call)

  abbrev main : Ref
  main = main_at state.heap indirection

  abbrev pub over : (b : Ref) × IsOver state.heap main (flag_of hash depth) b × LeadsOn state.heap hash (key_of call) place node (suc depth) b
  over = goes_past state.heap hash (key_of call) place node depth main on.on less

  some_levels : 1 ≤ on.levels
  some_levels = omega (arith, on.further, less)

  abbrev position : ℕ
  position = position_of (flag_of hash depth) over.1.bitmap

  abbrev pub entry_here : Ref
  entry_here = entry_for state.heap hash depth indirection over.1.bitmap

  has_entry : HasEntry state.heap hash depth indirection over.1.bitmap over.1.entries
  has_entry = record { decided = over.1.decided; branch = over.1.branch; flagged = over.1.flagged }

  pub is_here : (position : ℕ) (entry : Ref) → position ≡ position_of (flag_of hash depth) (bitmap_of (node_at state.heap main)) → entry ≡ entry_at state.heap main position → entry ≡ entry_here
  is_here place entry at is = is ∙ ap (entry_at state.heap main) (at ∙ ap (λ node. position_of (flag_of hash depth) (bitmap_of node)) over.1.branch)

  -- the entry is of the root's generation
  pub down_kept : (generation : ℕ) (entry : Ref) → entry ≡ entry_here → generation ≡ generation_at state.heap root → is_of_other generation (node_at state.heap entry) ≡ false →
      IsDown start state actor call root place node (depth + 1) entry
  down_kept generation entry at own young =
      let own_age : generation ≡ over.1.generation =
      same_generation generation over.1.generation (sym (ap (is_of_other generation) (ap (node_at state.heap) at ∙ over.1.is)) ∙ young) in
      record {
        levels = on.levels - 1;
        further = omega (arith, on.further, some_levels);
        deep = on.deep;
        flag = on.flag;
        lit = on.lit;
        can = fewer_levels state actor call root on.levels some_levels on.can;
        keyed = on.keyed;
        writes = on.writes;
        fits = on.fits;
        leads = leads_deeper start state actor call depth on.leads;
        down = subst (Leads state.heap Writable hash root (depth + 1)) (sym at)
            (deeper (λ d. Leads state.heap Writable hash root d entry_here) depth
            (below on.down has_entry over.1.is (passes_own (generation_at state.heap root) over.1.generation (sym own ∙ own_age))));
        on = subst (LeadsOn state.heap hash (key_of call) place node (depth + 1)) (sym (ap main_of (ap (node_at state.heap) at ∙ over.1.is)))
            (deeper (λ d. LeadsOn state.heap hash (key_of call) place node d over.0) depth over.2);
      }

  -- ---- the branch can be renewed

  used : IsInUse state.heap indirection
  used = safe_of (leads_holds state.heap root on.can.trie Writable hash depth indirection on.down)

  kind : is_indirection (node_at state.heap indirection) ≡ true
  kind = meets_of (leads_holds state.heap root on.can.trie Writable hash depth indirection on.down)

  main_used : IsInUse state.heap main
  main_used = safe_of (leads_main state.heap root on.can.trie Writable hash depth indirection on.down)

  pub can_swap_here : CanSwap state.heap indirection main 33
  can_swap_here =
      can_swap_there state.heap root on.can.trie Writable hash depth indirection main over.1.bitmap over.1.entries 33 on.can.ready.rests.free (omega (arith, on.can.births)) on.down refl
      over.1.branch (omega (arith, on.can.slots, some_levels))

  pub branch_here : IsBranch state.heap main
  branch_here = (over.1.bitmap, over.1.entries, over.1.branch)

  pub over_live_here : AreOverLive state.heap main
  over_live_here k generation word within is =
      let entry = entry_at state.heap main k in
      let met = subst (λ es. All (Meets (IsInUse state.heap) state.heap AnEntry) es) (sym (ap entries_of over.1.branch))
      (entries_meet state.heap root on.can.trie main over.1.bitmap over.1.entries main_used over.1.branch) k no_ref within in
      subst (IsLive state.heap) (ap main_of is)
      (in_use_lives state.heap (main_at state.heap entry) (over_used state.heap root on.can.trie entry met.0 (ap is_indirection is)))

  -- ---- and is renewed

  abbrev bitmap : ℕ
  bitmap = over.1.bitmap

  abbrev entries : ArrayVec Ref
  entries = over.1.entries

  abbrev now : State
  now = renewed_state state root indirection bitmap entries

  access_is : (begun_operation state call None).access ≡ Writable
  access_is = writable_at state actor call on.can.ready.allowed on.writes

  slots_here : renewal_slots state root entries.items ≤ 32
  slots_here = omega (arith, slots_most state root entries.items, over.1.few)

  steps_here : steps_of_renewal state root entries ≤ 138
  steps_here = omega (arith, steps_by_slots state root entries.items, slots_here, over.1.few)

  meets_old : (generation_at state.heap root == over.1.generation) ≡ false → MeetsOld state actor call root depth indirection bitmap entries
  meets_old other = record {
    ready = on.can.ready;
    keyed = on.keyed;
    writes = on.writes;
    down = subst (λ a. Leads state.heap a hash root depth indirection) (sym access_is) on.down;
    entry = has_entry;
    few = over.1.few;
    within = (entry_meets state.heap root on.can.trie main bitmap (index_at hash (5 * depth)) entries main_used over.1.branch over.1.flagged).1;
    generation = over.1.generation;
    word = over.0;
    is = over.1.is;
    other = other;
    renewable = all_renewable state.heap root on.can.trie state refl main bitmap entries main_used over.1.branch over.1.renewable;
    live = in_use_lives state.heap main main_used;
    apart = λ d r way less same.
        ways_apart state.heap root on.can.trie Writable hash d depth r indirection (subst (λ a. Leads state.heap a hash root d r) access_is way) on.down less same;
    free = omega (arith, slots_here, on.can.slots, some_levels);
    lasts = omega (arith, steps_here, on.can.steps, some_levels, on.deep, on.further);
  }

  module _ (other : (generation_at state.heap root == over.1.generation) ≡ false) where
    renewed : IsRenewed state now actor call root depth indirection bitmap entries
    renewed = passes_renewal state actor call root depth indirection bitmap entries (meets_old other)

    visited : IsOfRun renewed.visits.there
    visited =
        let (n, longer, goes) = on.leads.passes renewed.visits.n renewed.visits.there renewed.visits.long renewed.visits.goes in
        goes_run start actor call n renewed.visits.there on.leads.run on.fits goes

    now_trie : IsTrie now.heap root
    now_trie =
        let there = renewed.visits.there in
        let handle = handle_of call in
        subst (λ h. IsTrie h root) renewed.visits.heap
        (trie_of_run there handle root visited
        (ap (λ roots. is_some (root_at (record state { roots = roots }) handle)) renewed.visits.roots ∙ handle_given state actor call None on.can.ready.allowed)
        (ap (λ roots. word_at (record state { roots = roots }) handle) renewed.visits.roots ∙ on.can.ready.word))

    now_births : now.heap.births + 66 < birth_limit
    now_births =
        let bounds = bounded renewed.visits.there visited in
        omega (arith, bounds.births, bounds.steps, bounds.slots, ap (λ (h : Heap). h.births) renewed.visits.heap)

    now_leads : LeadsTo start now actor call (depth + 1)
    now_leads = record {
      run = on.leads.run;
      begun = on.leads.begun;
      passes = λ n t least goes.
          let (m, more, far) = renewed.passes n t (omega (arith, least)) goes in
          let (k, longer, from_start) = on.leads.passes m t (omega (arith, least, more)) far in (k, omega (arith, more, longer), from_start);
    }

    abbrev entry_then : Ref
    entry_then = entry_for now.heap hash depth indirection bitmap

    lower : on.can.trie.level indirection ≤ on.can.trie.level over.0
    lower =
        let t = on.can.trie in
        let (met, within) = entry_meets state.heap root t main bitmap (index_at hash (5 * depth)) entries main_used over.1.branch over.1.flagged in
        omega (
          arith,
          level_over state.heap root t indirection used kind,
          level_entry state.heap root t main bitmap position entries main_used over.1.branch within (ap is_indirection over.1.is),
          level_over state.heap root t entry_here met.0 (ap is_indirection over.1.is),
          ap (λ node. t.level (main_of node)) over.1.is,
        )

    below_used : IsInUse state.heap over.0
    below_used =
        let t = on.can.trie in
        let (met, within) = entry_meets state.heap root t main bitmap (index_at hash (5 * depth)) entries main_used over.1.branch over.1.flagged in
        subst (IsInUse state.heap) (ap main_of over.1.is)
        (over_used state.heap root t entry_here met.0 (ap is_indirection over.1.is))

    down_renewed : IsDown start now actor call root place node (depth + 1) entry_then
    down_renewed = record {
      levels = on.levels - 1;
      further = omega (arith, on.further, some_levels);
      deep = on.deep;
      flag = on.flag;
      lit = on.lit;
      can = record {
        ready = renewed.ready;
        slots = omega (arith, renewed.fewer, slots_here, on.can.slots, some_levels);
        steps = omega (arith, steps_here, on.can.steps, some_levels);
        life = on.can.life;
        begun = on.can.begun;
        births = now_births;
        trie = now_trie;
      };
      keyed = on.keyed;
      writes = on.writes;
      fits = on.fits;
      leads = now_leads;
      down = deeper (λ d. Leads now.heap Writable hash root d entry_then) depth
          (below (subst (λ a. Leads now.heap a hash root depth indirection) access_is renewed.down) renewed.entry renewed.link
          (passes_own (generation_at now.heap root) (generation_at state.heap root) renewed.generation));
      on = subst (LeadsOn now.heap hash (key_of call) place node (depth + 1)) (sym (ap main_of renewed.link ∙ ap main_of over.1.is))
          (deeper (λ d. LeadsOn now.heap hash (key_of call) place node d over.0) depth
          (leads_on_still state.heap root on.can.trie now.heap indirection used kind renewed.stays hash (key_of call) place node (suc depth) over.0 below_used lower over.2));
    }

    -- the state is the one that the parts have then
    pub down_renewed_to : (generation : ℕ) (memory : Memory) (steps : ℕ) (fresh entry : Ref) → memory.epoch ≡ state.epoch → memory.cursor ≡ state.cursor →
        Renews state root indirection bitmap entries steps memory → fresh ≡ main_at memory.heap indirection → entry ≡ entry_at memory.heap fresh position →
        IsDown start (record state { heap = memory.heap; limbo = memory.limbo; epoch = memory.epoch; cursor = memory.cursor; steps = state.steps + steps }) actor call root place node (depth + 1) entry
    down_renewed_to generation memory steps fresh entry epoch cursor renews at is =
        let same : ◌≡◌ {A = State} (record state { heap = memory.heap; limbo = memory.limbo; epoch = memory.epoch; cursor = memory.cursor; steps = state.steps + steps }) now =
        rw (renews.draft_is.heap, renews.draft_is.limbo, epoch, cursor, renews.takes) refl in
        let entry_is : entry ≡ entry_then =
        is ∙ ap (λ r. entry_at memory.heap r position) at ∙ ap (λ h. entry_at h (main_at h indirection) position) renews.draft_is.heap in
        subst (λ s. IsDown start s actor call root place node (depth + 1) entry) (sym same) (subst (IsDown start now actor call root place node (depth + 1)) (sym entry_is) down_renewed)
