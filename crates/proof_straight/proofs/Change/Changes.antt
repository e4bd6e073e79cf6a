-- Calls that change their key, where no other single stands in its place.
use Rattle.std.proofs.Common.{◌≡◌, ℕ, zero, suc, ◌+◌, ◌-◌, ◌<◌, ◌≤◌, ◌==◌, ◌&&◌, Bool, true, false, cond, nat_lt, List, length, Option, Some, None, refl, sym, ap, ◌∙◌, subst}
use Rattle.std.proofs.Common.{eq-eqb, ne_eqb, lt-ltb, arith}
use Rattle.std.proofs.lemmas.Bool.{le-ltb}
use Rattle.proof_straight.specs.Vocabulary.{Call, Single, Ref, IsLive, node_at, main_at, entry_at, Change, Site, Line, after_single, key_of, needs_writable, value_of, after_sibling, found_so}
use Rattle.proof_straight.specs.Vocabulary.{removing, State, Record}
use Rattle.machine_model.specs.declared.building.BuildLine.TheVariants as build
use Rattle.machine_model.specs.declared.building.Change.TheVariants as change
use Rattle.machine_model.specs.declared.building.Site.TheVariants as site
use Rattle.machine_model.specs.declared.finding.KeyLine.TheVariants as key
use Rattle.machine_model.specs.declared.lines.Line.TheVariants as line
use Rattle.proof_straight.specs.Changes.{ChangesTo, with_change, with_single}
use Rattle.proof_straight.specs.Drafts.{first_draft}
use Rattle.proof_straight.specs.Laws.{SetsStraight, InsertsStraight, RemovesStraight}
use Rattle.proof_straight.specs.Places.{ComesDown, Finds, Leaves, Misses, in_branch, in_list, no_entry, beside_other, not_listed, at_root, not_two, an_indirection, not_two_listed}
use Rattle.proof_straight.specs.Places.{steps_down}
use Rattle.proof_straight.specs.Running.{IsKeyed, IsReady}
use Rattle.proof_straight.proofs.Steps.Alone.{Alone, on_line}
use Rattle.proof_straight.proofs.Change.Builds.{built_at, builds, first_is, has_made, inserts_write, leads_own, removes_write, sets_write, writable_at}
use Rattle.proof_straight.proofs.Change.Changed.{IsMain, IsNoTomb, changed_lasting, changes_main, looked_record, so_many}
use Rattle.proof_straight.proofs.Way.Descent.{IsPath, OnLine, rooted, seeks}
use Rattle.proof_straight.proofs.Steps.Going.{Stands}
use Rattle.proof_straight.proofs.Way.Rooted.{alone_at, calm_at, comes_keyed, keyed_open}
use Rattle.proof_straight.proofs.Way.Seeking.{again, comes_absent, comes_found, finds_down}
use Rattle.proof_straight.proofs.Change.Slots.{takes}
use Rattle.proof_straight.proofs.Way.Unchanged.{fits_at, no_actor}

-- where the call comes to
pub misses_down : {state : State} {call : Call} {root : Ref} {depth : ℕ} {indirection : Ref} {s : Site} {looks : ℕ} → Misses state call root depth indirection s looks →
    ComesDown state call root depth indirection
misses_down (no_entry down decided branch wanting) = down
misses_down (beside_other down entry is differs) = down
misses_down (not_listed down decided listed size others) = down

-- its main node is a branch or a list
finds_main : {state : State} {call : Call} {root : Ref} {depth : ℕ} {indirection : Ref} {position value looks : ℕ} → Finds state call root depth indirection position value looks →
    IsMain (node_at state.heap (main_at state.heap indirection))
finds_main (in_branch down entry is) = subst IsMain (sym entry.branch) tt
finds_main (in_list down decided listed within others is) = subst IsMain (sym listed) tt

pub misses_main : {state : State} {call : Call} {root : Ref} {depth : ℕ} {indirection : Ref} {s : Site} {looks : ℕ} → Misses state call root depth indirection s looks →
    IsMain (node_at state.heap (main_at state.heap indirection))
misses_main (no_entry down decided branch wanting) = subst IsMain (sym branch) tt
misses_main (beside_other down entry is differs) = subst IsMain (sym entry.branch) tt
misses_main (not_listed down decided listed size others) = subst IsMain (sym listed) tt

-- ---- a change that makes its single first

module _ (state : State) (past : Record) (k : ℕ) (call : Call) (root : Ref) (ready : IsReady state (suc k) call root) (fits : k < length past.moments) (keyed : IsKeyed call)
    (writes : needs_writable call ≡ true) where
  abbrev alone : Alone state k
  alone = alone_at state k call root ready

  -- from the line that makes the single, which comes to one that makes the main node
  with_single_changes : (path : List Ref) (depth : ℕ) (indirection : Ref) (s : Site) (c : Change) (former : Option ℕ) (n : ℕ) → ComesDown state call root depth indirection →
      IsPath path depth indirection → IsMain (node_at state.heap (main_at state.heap indirection)) → IsNoTomb c →
      Stands state past k call (looked_record state past k call root alone ready.word (writable_at state (suc k) call ready.allowed writes) fits (keyed_open call keyed) depth indirection)
      state (first_draft state) (on_line (rooted state call root) (first_draft state) (line.Build (build.Single path (main_at state.heap indirection) s former))) n →
      after_single (built_at state past k call root alone (first_draft state) (build.Single path (main_at state.heap indirection) s former) n)
      (on_line (rooted state call root) (first_draft state) (line.Build (build.Single path (main_at state.heap indirection) s former))) path (main_at state.heap indirection) former s
      (with_single state call).newest
      ≡ line.Build (build.Main path (main_at state.heap indirection) c former) →
      IsLive state.heap (main_at state.heap indirection) → 2 ≤ length state.heap.free → state.steps + (n + 7) + 2 ≤ state.limits.steps →
      ChangesTo state past (suc k) call root depth (n + 7) former (with_change state call depth indirection (with_single state call) c)
  with_single_changes path depth indirection s c former n down is kind entombs so_far leads live free lasts =
      let main = main_at state.heap indirection in
      let writable = writable_at state (suc k) call ready.allowed writes in
      let first = first_is state ready.rests.free in
      let single = Single (key_of call) (value_of call) in
      let draft = with_single state call in
      let made = has_made state (first_draft state) single first (omega (arith, free)) in
      so_many state past (suc k) call root depth former (with_change state call depth indirection draft c) (suc n + 6) (n + 7) (omega arith)
      (changes_main state past k call root alone ready.word writable fits (keyed_open call keyed) draft path depth indirection c former (suc n) made.is
      (omega (arith, free, (takes state.heap single first.empty (omega (arith, free))).fewer)) is (leads_own state.heap _ _ root depth indirection writable down) live
      (changed_lasting _ _ c kind entombs)
      (builds state past k call root alone (first_draft state) (build.Single path main s former) single (line.Build (build.Main path main c former)) n first (omega (arith, free)) so_far refl leads)
      (omega (arith, lasts)))

pub sets_straight : SetsStraight
sets_straight state past zero call root depth indirection position value looks ready is keyed finds sets live free lasts = absurd (no_actor ready)
sets_straight state past (suc k) call root depth indirection position value looks ready is keyed finds sets live free lasts =
    let found = comes_found state past k call root (alone_at state k call root ready) (calm_at state (suc k) call root ready) (fits_at state past k call root ready is)
    (comes_keyed state past k call root ready keyed) depth indirection position value looks finds in
    let main = main_at state.heap indirection in
    with_single_changes state past k call root ready (fits_at state past k call root ready is) keyed (sets_write call value sets) found.path depth indirection (site.At position)
    (change.Update position (with_single state call).newest) (Some value)
    (steps_down depth looks) (finds_down finds) found.is (finds_main finds) tt
    (again state past k call root (alone_at state k call root ready) (calm_at state (suc k) call root ready) (fits_at state past k call root ready is) _
    (line.Build (build.Single found.path main (site.At position) (Some value)))
    (steps_down depth looks) (steps_down depth looks) (ap (λ todo. found_so state found.path main position value todo) sets) refl found.stands)
    refl live free lasts

pub inserts_straight : InsertsStraight
inserts_straight state past zero call root depth indirection looks ready is keyed misses puts room live free lasts = absurd (no_actor ready)
inserts_straight state past (suc k) call root depth indirection looks ready is keyed misses puts room live free lasts =
    let missed = comes_absent state past k call root (alone_at state k call root ready) (calm_at state (suc k) call root ready) (fits_at state past k call root ready is)
    (comes_keyed state past k call root ready keyed) depth indirection site.Absent looks misses puts room in
    with_single_changes state past k call root ready (fits_at state past k call root ready is) keyed (inserts_write call puts) missed.path depth indirection site.Absent
    (change.Insert (with_single state call).newest) None
    (steps_down depth looks) (misses_down misses) missed.is (misses_main misses) tt missed.stands refl live free lasts

-- ---- a change that takes the key out

module _ (state : State) (past : Record) (k : ℕ) (call : Call) (root : Ref) (ready : IsReady state (suc k) call root) (fits : k < length past.moments) where
  abbrev On : Record → Line → ℕ → Type 0
  On = OnLine state past k call root (alone_at state k call root ready) (calm_at state (suc k) call root ready)

  at_top : (path : List Ref) (depth : ℕ) (indirection : Ref) → IsPath path depth indirection → depth ≡ 0 → nat_lt 1 (length path) ≡ false
  at_top path depth indirection is top = le-ltb 1 (length path) (omega (arith, is.size, top))

  -- the line that makes the main node, after a look at the other entry where that is needed
  comes_out : {so_far : Record} (path : List Ref) (depth : ℕ) (indirection : Ref) (position value more c : ℕ) → IsPath path depth indirection → Leaves state.heap depth indirection position more →
      On so_far (removing state path (main_at state.heap indirection) position value (node_at state.heap (main_at state.heap indirection))) c →
      On so_far (line.Build (build.Main path (main_at state.heap indirection) (change.Remove position) (Some value))) (more + c)
  comes_out path depth indirection position value more c is (at_root {entries} branch top) so_far =
      let main = main_at state.heap indirection in
      let removes = line.Build (build.Main path main (change.Remove position) (Some value)) in
      again state past k call root (alone_at state k call root ready) (calm_at state (suc k) call root ready) fits _ removes c (0 + c)
      (ap (λ node. removing state path main position value node) branch
      ∙ ap (λ b. cond (b && (length entries.items == 2)) (line.Key (key.Sibling path main position value)) removes) (at_top path depth indirection is top)) (omega arith) so_far
  comes_out path depth indirection position value more c is (not_two {entries} branch other) so_far =
      let main = main_at state.heap indirection in
      let removes = line.Build (build.Main path main (change.Remove position) (Some value)) in
      again state past k call root (alone_at state k call root ready) (calm_at state (suc k) call root ready) fits _ removes c (0 + c)
      (ap (λ node. removing state path main position value node) branch
      ∙ ap (λ b. cond (nat_lt 1 (length path) && b) (line.Key (key.Sibling path main position value)) removes) (ne_eqb (length entries.items) 2 other)
      ∙ both (nat_lt 1 (length path)) (line.Key (key.Sibling path main position value)) removes) (omega arith) so_far
    where
      both : (b : Bool) (l m : Line) → cond (b && false) l m ≡ m
      both true l m = refl
      both false l m = refl
  comes_out path depth indirection position value more c is (not_two_listed {singles} listed other) so_far =
      let main = main_at state.heap indirection in
      let removes = line.Build (build.Main path main (change.Remove position) (Some value)) in
      again state past k call root (alone_at state k call root ready) (calm_at state (suc k) call root ready) fits _ removes c (0 + c)
      (ap (λ node. removing state path main position value node) listed
      ∙ ap (λ b. cond b (line.Build (build.Main path main (change.Entomb (entry_at state.heap main (1 - position))) (Some value))) removes) (ne_eqb (length singles.items) 2 other))
      (omega arith) so_far
  comes_out path depth indirection position value more c is (an_indirection {generation} {word} {entries} branch deep two other) so_far =
      let main = main_at state.heap indirection in
      let removes = line.Build (build.Main path main (change.Remove position) (Some value)) in
      let sibling = line.Key (key.Sibling path main position value) in
      again state past k call root (alone_at state k call root ready) (calm_at state (suc k) call root ready) fits removes removes (suc c) (1 + c) refl (omega arith)
      (seeks state past k call root (alone_at state k call root ready) (calm_at state (suc k) call root ready) (key.Sibling path main position value) removes c
      (again state past k call root (alone_at state k call root ready) (calm_at state (suc k) call root ready) fits _ sibling c c
      (ap (λ node. removing state path main position value node) branch
      ∙ ap (λ b. cond (b && (length entries.items == 2)) sibling removes) (lt-ltb 1 (length path) (omega (arith, is.size, deep)))
      ∙ ap (λ b. cond b sibling removes) (eq-eqb (length entries.items) 2 two)) refl so_far) tt refl
      (ap (λ node. after_sibling path main position value (entry_at state.heap main (1 - position)) node) other))

pub removes_straight : RemovesStraight
removes_straight state past zero call root depth indirection position value looks more ready is keyed finds removes leaves live free lasts = absurd (no_actor ready)
removes_straight state past (suc k) call root depth indirection position value looks more ready is keyed finds removes leaves live free lasts =
    let alone = alone_at state k call root ready in
    let calm = calm_at state (suc k) call root ready in
    let main = main_at state.heap indirection in
    let fits = fits_at state past k call root ready is in
    let writable = writable_at state (suc k) call ready.allowed (removes_write call value removes) in
    let found = comes_found state past k call root alone calm fits (comes_keyed state past k call root ready keyed) depth indirection position value looks finds in
    let taken_out = comes_out state past k call root ready fits found.path depth indirection position value more (steps_down depth looks) found.is leaves
    (again state past k call root alone calm fits _ (removing state found.path main position value (node_at state.heap main)) (steps_down depth looks) (steps_down depth looks)
    (ap (λ todo. found_so state found.path main position value todo) removes) refl found.stands) in
    let all = with_change state call depth indirection (first_draft state) (change.Remove position) in
    so_many state past (suc k) call root depth (Some value) all (more + steps_down depth looks + 6) (steps_down depth (looks + more) + 6) (omega arith)
    (changes_main state past k call root alone ready.word writable fits (keyed_open call keyed) (first_draft state) found.path depth indirection (change.Remove position) (Some value)
    (more + steps_down depth looks)
    (first_is state ready.rests.free) free found.is (leads_own state.heap _ _ root depth indirection writable (finds_down finds)) live
    (changed_lasting _ _ (change.Remove position) (finds_main finds) tt) taken_out (omega (arith, lasts)))
