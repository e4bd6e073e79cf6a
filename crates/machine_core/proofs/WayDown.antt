-- One level further down on the parts of a core, and both ends of the way.
use Rattle.std.proofs.Common.{arith, ◌≡◌, ℕ, ◌+◌, ◌*◌, ◌<◌, ◌≤◌, ◌==◌, true, false, not, length, None, refl, sym, ap, ◌∙◌, subst}
use Rattle.std.proofs.lemmas.Bool.{false≢true}
use Rattle.machine_core.specs.Vocabulary.{position_of, Writable, Call, Node, Indirection, Ref, is_indirection, Heap, bitmap_of, entries_of, entry_at, generation_at, handle_of}
use Rattle.machine_core.specs.Vocabulary.{main_at, node_at, key_of, needs_writable, FitsKey, begin_denial, is_busy, State, key_hash, flag_of, not_two, to_root, is_of_other, with_renewal, KeepsRecords}
use Rattle.epochs.specs.Memories.{Memory}
use Rattle.machine_model.specs.declared.steps.Step.TheVariants as step
use Rattle.machine_core.specs.Beneath.proof_straight.specs.Places.{Leads, Leaves}
use Rattle.machine_core.specs.Beneath.proof_straight.specs.Running.{IsKeyed}
use Rattle.machine_core.specs.declared.descending.Place.{Place}
use Rattle.machine_core.specs.declared.parts.Parts.{Parts}
use Rattle.machine_core.specs.Descending.{EndsAt}
use Rattle.machine_core.specs.Renewing.{EndsPast, IsOn, Renews}
use Rattle.machine_core.specs.Keeping.{IsCore}
use Rattle.machine_core.specs.Seen.{seen}
use Rattle.machine_core.specs.Straight.{HasArrived, IsClear, IsFit, LeadsTo}
use Rattle.machine_core.proofs.AtRest.{fit_at, leads_first}
use Rattle.machine_core.proofs.Carried.{ComesAsFar, kept_over}
use Rattle.machine_core.proofs.Passed.{ends_here}
use Rattle.machine_core.proofs.Downward.{down_kept, down_renewed_to, is_here, leads_any, other_generation, over}

-- over an old entry the branch is renewed
pub on_renewed : (start : State) (before : Parts) (actor : ℕ) (call : Call) (root : Ref) (place : Place) (node : Node) (depth : ℕ) (indirection : Ref) →
    (on : IsOn start before actor call root place node depth indirection) (less : depth < place.depth) → (generation at : ℕ) (old : Ref) → generation ≡ generation_at before.heap.heap root →
    at ≡ position_of (flag_of (key_hash (seen before) (key_of call)) depth) (bitmap_of (node_at before.heap.heap (main_at before.heap.heap indirection))) →
    old ≡ entry_at before.heap.heap (main_at before.heap.heap indirection) at → is_of_other generation (node_at before.heap.heap old) ≡ true →
    (memory : Memory) (steps : ℕ) (fresh entry : Ref) →
    Renews (seen before) root indirection (over start (seen before) actor call root place node depth indirection on.is less).1.bitmap
    (over start (seen before) actor call root place node depth indirection on.is less).1.entries steps memory →
    KeepsRecords before.heap memory → fresh ≡ main_at memory.heap indirection → entry ≡ entry_at memory.heap fresh at →
    IsOn start (record before { heap = memory; steps = before.steps + steps }) actor call root place node (depth + 1) entry
on_renewed start before actor call root place node depth indirection on less generation at old own position_is old_is older memory steps fresh entry renews records fresh_is entry_is =
    let state = seen before in
    let o = over start state actor call root place node depth indirection on.is less in
    let here = is_here start state actor call root place node depth indirection on.is less at old position_is old_is in
    let other = other_generation (generation_at state.heap root) o.1.generation
    (ap (λ g. not (g == o.1.generation)) (sym own) ∙ sym (ap (is_of_other generation) (ap (node_at state.heap) here ∙ o.1.is)) ∙ older) in
    let to : ComesAsFar before memory (with_renewal state root indirection o.1.bitmap o.1.entries) = record { draft_is = renews.draft_is; private = refl; records = records } in
    record {
      is = down_renewed_to start state actor call root place node depth indirection on.is less other generation memory steps fresh entry renews.draft_is.epoch records.0 renews fresh_is
          (entry_is ∙ ap (entry_at memory.heap fresh) (position_is ∙ ap (λ node. position_of (flag_of (key_hash state (key_of call)) depth) (bitmap_of node)) o.1.branch));
      kept = kept_over before memory (with_renewal state root indirection o.1.bitmap o.1.entries) before.begun (before.steps + steps) on.kept to;
      settled = renews.draft_is.settled;
    }

-- over one of the root's generation it stays
pub on_kept : (start : State) (parts : Parts) (actor : ℕ) (call : Call) (root : Ref) (place : Place) (node : Node) (depth : ℕ) (indirection : Ref) →
    IsOn start parts actor call root place node depth indirection → depth < place.depth → (generation at : ℕ) (entry : Ref) → generation ≡ generation_at parts.heap.heap root →
    at ≡ position_of (flag_of (key_hash (seen parts) (key_of call)) depth) (bitmap_of (node_at parts.heap.heap (main_at parts.heap.heap indirection))) →
    entry ≡ entry_at parts.heap.heap (main_at parts.heap.heap indirection) at → is_of_other generation (node_at parts.heap.heap entry) ≡ false →
    IsOn start parts actor call root place node (depth + 1) entry
on_kept start parts actor call root place node depth indirection on less generation at entry own position_is entry_is young = record {
  is = down_kept start (seen parts) actor call root place node depth indirection on.is less generation entry
      (is_here start (seen parts) actor call root place node depth indirection on.is less at entry position_is entry_is) own young;
  kept = on.kept;
  settled = on.settled;
}

-- ---- at its beginning and its end

pub on_started : (parts : Parts) (actor : ℕ) (call : Call) (root : Ref) (place : Place) (key hash : ℕ) → IsCore parts → is_busy (seen parts) ≡ false →
    begin_denial (seen parts) actor call None ≡ None → IsClear (seen parts) (handle_of call) root → IsKeyed call → needs_writable call ≡ true → FitsKey (step.Begin actor call None) →
    key ≡ key_of call → hash ≡ key_hash (seen parts) key → EndsPast parts.heap.heap root hash key place → 33 * place.depth + 32 ≤ length parts.heap.heap.free →
    IsOn (seen parts) parts actor call root place (node_at parts.heap.heap place.main) 0 root
on_started parts actor call root place key hash core rest allowed clear keyed writes fits own hashed ends free =
    let fit = fit_at parts actor call root place.depth core rest allowed clear ends.deep free in
    let there : EndsPast parts.heap.heap root (key_hash (seen parts) (key_of call)) (key_of call) place =
    subst (λ k. EndsPast parts.heap.heap root (key_hash (seen parts) k) k place) own (subst (λ h. EndsPast parts.heap.heap root h key place) hashed ends) in
    record {
      is = record {
        levels = place.depth;
        further = omega arith;
        deep = there.deep;
        flag = there.flag;
        lit = there.lit;
        can = fit.can;
        keyed = keyed;
        writes = writes;
        fits = fits;
        leads = leads_first (seen parts) actor call 0 core.run;
        down = root_leads parts.heap.heap (key_hash (seen parts) (key_of call)) root (node_at parts.heap.heap root) refl fit.can.trie.indirection;
        on = there.leads;
      };
      kept = fit.kept;
      settled = fit.settled;
    }
  where
    root_leads : (heap : Heap) (hash : ℕ) (root : Ref) (node : Node) → node_at heap root ≡ node → is_indirection node ≡ true → Leads heap Writable hash root 0 root
    root_leads heap hash root (Indirection generation main) is e = to_root is
    root_leads heap hash root node is e = absurd (false≢true e)

-- the call can be carried out at the place
fit_there : (start : State) (parts : Parts) (actor : ℕ) (call : Call) (root : Ref) (place : Place) (node : Node) (depth : ℕ) (indirection : Ref) →
    IsOn start parts actor call root place node depth indirection → IsFit parts actor call root 0
fit_there start parts actor call root place node depth indirection on =
    let can = on.is.can in
    record {
      can = record {
        ready = can.ready;
        slots = omega (arith, can.slots);
        steps = omega (arith, can.steps);
        life = can.life;
        begun = can.begun;
        births = can.births;
        trie = can.trie;
      };
      kept = on.kept;
      settled = on.settled;
    }

ends_there : (start : State) (parts : Parts) (actor : ℕ) (call : Call) (root : Ref) (place now : Place) (node : Node) → IsOn start parts actor call root place node place.depth now.indirection →
    now ≡ record place { indirection = now.indirection } → EndsAt parts.heap.heap root (key_hash (seen parts) (key_of call)) (key_of call) now
ends_there start parts actor call root place now node on same =
    let (main, stands, own) = ends_here parts.heap.heap (key_hash (seen parts) (key_of call)) (key_of call) place node place.depth (main_at parts.heap.heap now.indirection) on.is.on refl in
    subst (EndsAt parts.heap.heap root (key_hash (seen parts) (key_of call)) (key_of call)) (sym same) (record {
      leads = λ access. leads_any parts.heap.heap (key_hash (seen parts) (key_of call)) root place.depth now.indirection access on.is.down;
      deep = on.is.deep;
      main = sym main;
      flag = on.is.flag;
      lit = on.is.lit;
      here = stands;
    })

leads_there : (start : State) (parts : Parts) (actor : ℕ) (call : Call) (root : Ref) (place now : Place) (node : Node) → IsOn start parts actor call root place node place.depth now.indirection →
    now ≡ record place { indirection = now.indirection } → LeadsTo start (seen parts) actor call now.depth
leads_there start parts actor call root place now node on same = subst (LeadsTo start (seen parts) actor call) (sym (ap (λ (p : Place). p.depth) same)) on.is.leads

-- so it has arrived there
pub arrives : (start : State) (parts : Parts) (actor : ℕ) (call : Call) (root : Ref) (place now : Place) (node : Node) → IsOn start parts actor call root place node place.depth now.indirection →
    now ≡ record place { indirection = now.indirection } → HasArrived start parts actor call root now
arrives start parts actor call root place now node on same = record {
  fit = fit_there start parts actor call root place node place.depth now.indirection on;
  keyed = on.is.keyed;
  fits = on.is.fits;
  ends = ends_there start parts actor call root place now node on same;
  leads = leads_there start parts actor call root place now node on same;
}

-- what is left there where a key is taken out of a branch of three or more
pub leaves_there : (start : State) (parts : Parts) (actor : ℕ) (call : Call) (root : Ref) (place now : Place) (node : Node) → IsOn start parts actor call root place node place.depth now.indirection →
    now ≡ record place { indirection = now.indirection } → 3 ≤ length (entries_of node) → Leaves parts.heap.heap now.depth now.indirection now.position 0
leaves_there start parts actor call root place now node on same many =
    let (main, stands, own) = ends_here parts.heap.heap (key_hash (seen parts) (key_of call)) (key_of call) place node place.depth (main_at parts.heap.heap now.indirection) on.is.on refl in
    not_two (ap (node_at parts.heap.heap) main ∙ stands.branch) (λ two. omega (arith, two, many, ap (λ n. length (entries_of n)) (sym own ∙ stands.branch)))

-- how the position on the way is found
pub place_is : (state : State) (call : Call) (depth : ℕ) (indirection main : Ref) (key hash flag bitmap at : ℕ) → main ≡ main_at state.heap indirection → key ≡ key_of call →
    hash ≡ key_hash state key → flag ≡ flag_of hash depth → bitmap ≡ bitmap_of (node_at state.heap main) → at ≡ position_of flag bitmap →
    at ≡ position_of (flag_of (key_hash state (key_of call)) depth) (bitmap_of (node_at state.heap (main_at state.heap indirection)))
place_is state call depth indirection main key hash flag bitmap at m k h f b is =
    is ∙ ap (λ x. position_of x bitmap) (f ∙ ap (λ x. flag_of x depth) (h ∙ ap (key_hash state) k))
    ∙ ap (position_of (flag_of (key_hash state (key_of call)) depth)) (b ∙ ap (λ r. bitmap_of (node_at state.heap r)) m)

-- ---- level by level

-- a call on this key was at the root, and has come to there, as each does that was
pub record ComesOn (before parts : Parts) (root : Ref) (key : ℕ) (place : Place) (node : Node) (depth : ℕ) (indirection : Ref) : Type 0 where
  pub start : State
  pub actor : ℕ
  pub call : Call
  pub own : key ≡ key_of call
  pub is : IsOn start parts actor call root place node depth indirection
  pub each : (start : State) (actor : ℕ) (call : Call) → key ≡ key_of call → IsOn start before actor call root place node 0 root → IsOn start parts actor call root place node depth indirection
