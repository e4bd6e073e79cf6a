-- Each step leaves the main nodes of a run's trie, repairs one, or updates a key in one.
use Rattle.std.proofs.Common.{◌≡◌, ◌≢◌, ℕ, zero, suc, ◌<◌, ◌≤◌, ◌==◌, Bool, true, false, cond, List, Option, ◌⊎◌, inl, inr, refl, sym, ap, subst, subst₂, ◌∙◌, arith, eqb-true, eq-eqb}
use Rattle.std.proofs.lemmas.Option.{same_Some}
use Rattle.arrayvec.specs.ArrayVec.{ArrayVec}
use Rattle.proof_updates.specs.Vocabulary.{Call, Ref, Indirection, Branch, Tomb, List as Listed, generation_of, Change, Purpose, Climb, Bounds, Outcome, Step, key_of, current, depth_of, State}
use Rattle.proof_updates.specs.Vocabulary.{node_under, Moves, turns, noted_turn, IsRun, Turn, Trie, generation, node_in, assigned, IsRepair, nothing, a_repair, an_update, counting_main, trie_of}
use Rattle.proof_updates.specs.Vocabulary.{Known, Absence, no_flag, not_listed, Presence, in_list, IsOther, of_branch, of_list, KnowsChange, KnowsSwap, IsRepaired, Was, known_with, first_main}
use Rattle.proof_updates.specs.Vocabulary.{IsClimbed, Stays, OwnCommit, MainStep, stays, changes, KnowsFresh, assigned_at, WasGiven}
use Rattle.proof_updates.specs.Beneath.proof_contents.proofs.Nodes.Branches.{differ}
use Rattle.proof_updates.specs.Beneath.machine_model.specs.declared.building.Change.TheVariants as change
use Rattle.proof_updates.specs.Beneath.machine_model.specs.declared.lines.Purpose.TheVariants as purpose
use Rattle.proof_updates.specs.Beneath.proof_contents.specs.Steps.{Does}
use Rattle.proof_updates.specs.Beneath.proof_contents.specs.Lines.Changes.{in_branch}
use Rattle.proof_updates.specs.Beneath.proof_contents.proofs.Lines.Updates.{MakesUpdate, makes_update, known_in}
use Rattle.proof_updates.specs.Beneath.proof_contents.proofs.Lines.Repair.{StaysGiven}
use Rattle.proof_updates.specs.Commits.{IsRepairing, SitesOfUpdates}
use Rattle.proof_updates.specs.Updates.{StepsDo}
use Rattle.proof_updates.proofs.Tries.Repairing.{TombsLast, cleaned_entry, repairs, climbs}
use Rattle.proof_shape.proofs.Held.Commits.{fresh_commits_at}
use Rattle.proof_updates.specs.Beneath.proof_generations.proofs.Falling.OwnSwaps.{swaps_in_own_generation}
use Rattle.proof_updates.proofs.Tries.Commits.{repairs_are_known}

-- ---- what is replaced is no tomb

module _ (known : Known) (call : Call) (depth : ℕ) (main single : Ref) (tomb : known.node main ≡ Tomb single) where
  branch_apart : (b : ℕ) (es : ArrayVec Ref) → known.node main ≡ Branch b es → ⊥
  branch_apart b es is = let bad : Branch b es ≡ Tomb single = sym is ∙ tomb in cc

  list_apart : (ss : ArrayVec Ref) → known.node main ≡ Listed ss → ⊥
  list_apart ss is = let bad : Listed ss ≡ Tomb single = sym is ∙ tomb in cc

  absence_apart : Absence known depth (key_of call) main → ⊥
  absence_apart (no_flag b es is none) = branch_apart b es is
  absence_apart (not_listed ss is room none) = list_apart ss is

  presence_apart : (position value : ℕ) → Presence known depth (key_of call) main position value → ⊥
  presence_apart position value (in_branch b es f is) = branch_apart b es f.is
  presence_apart position value (in_list ss is lt at) = list_apart ss is

  other_apart : (other : Ref) (value : ℕ) → IsOther known depth (key_of call) main other value → ⊥
  other_apart other value (of_branch b position own own_value es f is two at left) = branch_apart b es f.is
  other_apart other value (of_list position ss is lt at two there) = list_apart ss is

  change_apart : (former : Option ℕ) (c : Change) → KnowsChange known call depth main former c → ⊥
  change_apart former (change.Insert s) (ins, absence, new) = absence_apart absence
  change_apart former (change.Update position entry) (inl (value, had, sets, presence, new)) = presence_apart position value presence
  change_apart former (change.Update position entry) (inr (ins, (beside, single, new, both))) = branch_apart beside.bitmap beside.entries beside.branch.is
  change_apart former (change.Remove position) (value, had, removes, presence) = presence_apart position value presence
  change_apart former (change.Entomb other) (value, had, removes, is) = other_apart other value is

module _ (limits : Bounds) (states : ℕ → State) (last : ℕ) (depth path : Ref → ℕ) (run : IsRun limits states last) where
  abbrev trie : Trie
  trie = trie_of limits states last depth path

  abbrev Own : ℕ → Step → Type 0
  Own t s = OwnCommit limits states run.records last (assigned_at states last) t s

  replaced_apart : (t : ℕ) (s : Step) (own : Own t s) (single : Ref) → node_under states last own.replaced ≢ Tomb single
  replaced_apart t s own single tomb = by_purpose own.why own.knows
    where
      repaired_apart : (Gave : Ref → Ref → Type 0) (first : Ref → Ref) → IsRepaired (node_under states last) first Gave own.start own.replaced own.fresh → ⊥
      repaired_apart Gave first (done, b, es, are, all, made) = let bad : Branch b es ≡ Tomb single = sym are.is ∙ tomb in cc

      by_purpose : (why : Purpose) → KnowsFresh limits states run.records last (assigned_at states last) t own.actor own.start own.owner own.replaced own.fresh why → ⊥
      by_purpose (purpose.Update p former) (c, knows, made) = change_apart _ own.owner.call (depth_of p) own.replaced single tomb former c knows
      by_purpose (purpose.Renew p) knows = repaired_apart _ _ knows
      by_purpose purpose.Clean knows = repaired_apart _ _ knows
      by_purpose (purpose.Climb c) knows = let bad : Branch knows.parent.bitmap knows.parent.entries ≡ Tomb single = sym knows.parent.branch.is ∙ tomb in cc

  pub record StepAt (t : ℕ) : Type 0 where
    pub step : Step
    pub outcome : Outcome
    pub moves : Moves (states t) step outcome (states (suc t))
    pub does : MainStep limits states run.records last (assigned_at states last) t step

  pub step_at : (t : ℕ) → t < last → StepAt t
  step_at t lt = by_turn (run.turn t lt) (run.recorded t lt)
    where
      by_turn : (turn : Turn (states t) (states (suc t))) → run.records (suc t) ≡ noted_turn turn (run.records t) → StepAt t
      by_turn (turns s o m) notes = record { step = s; outcome = o; moves = m; does = fresh_commits_at run t lt s o m notes }

  -- ---- tombs last

  tomb_next : (t : ℕ) (i single : Ref) → t < last → node_in trie t i ≡ Tomb single → counting_main states last (suc t) i ≡ counting_main states last t i
  tomb_next t i single lt tomb = by_step (step_at t lt).step (step_at t lt).does
    where
      by_step : (s : Step) → MainStep limits states run.records last (assigned_at states last) t s → counting_main states last (suc t) i ≡ counting_main states last t i
      by_step s (stays none same) = same i
      by_step s (changes own) = by_test (i == own.indirection) refl
        where
          by_test : (b : Bool) → (i == own.indirection) ≡ b → counting_main states last (suc t) i ≡ counting_main states last t i
          by_test true e =
              absurd (replaced_apart t s own single
              (ap (node_under states last) (sym own.before ∙ ap (counting_main states last t) (sym (eqb-true i own.indirection e))) ∙ tomb))
          by_test false e = own.others i (differ i own.indirection e)

  pub tombs_last : TombsLast trie
  tombs_last t zero i single le within tomb = ap (λ n. counting_main states last n i) (omega arith)
  tombs_last t (suc u) i single le within tomb = by_time (tombs_last t u i single) (t == suc u) refl
    where
      by_time : (t ≤ u → u ≤ last → node_in trie t i ≡ Tomb single → counting_main states last u i ≡ counting_main states last t i) → (b : Bool) → (t == suc u) ≡ b →
          counting_main states last (suc u) i ≡ counting_main states last t i
      by_time rest true same = ap (λ n. counting_main states last n i) (sym (eqb-true t (suc u) same))
      by_time rest false apart =
          let before = differ t (suc u) apart in
          let same = rest (omega arith) (omega arith) tomb in
          tomb_next u i single within (ap (node_under states last) same ∙ tomb) ∙ same

  -- ---- each step

  module _ (sites : SitesOfUpdates limits states run.records last depth) where
    module _ (t : ℕ) (s : Step) (lt : t < last) (own : Own t s) where
      pub start_is : own.start ≡ generation trie own.indirection
      start_is = same_Some _ _ (sym own.generation ∙ (swaps_in_own_generation run t (omega arith) own.actor own.owner own.runs own.why _ own.swaps).1)

      was : trie.node own.replaced ≡ node_in trie t own.indirection
      was = ap trie.node (sym own.before)

      is : trie.node own.fresh ≡ node_in trie (suc t) own.indirection
      is = ap trie.node (sym own.after)

      abbrev pub Repaired : Type 0
      Repaired = IsRepair trie (generation trie own.indirection) t (node_in trie t own.indirection) (node_in trie (suc t) own.indirection)

      -- RENEW, CLEAN and CLIMB
      repaired : IsRepair trie own.start t (trie.node own.replaced) (trie.node own.fresh) → Repaired
      repaired r =
          subst (λ g. IsRepair trie g t (node_in trie t own.indirection) (node_in trie (suc t) own.indirection)) start_is
          (subst₂ (λ old new. IsRepair trie own.start t old new) was is r)

      -- an indirection of the owner's generation has the main node that it has
      own_main : (r word : Ref) → trie.node r ≡ Indirection own.start word → counting_main states last t r ≡ assigned_at states last own.start t r
      own_main r word e =
          ap (λ b. cond b (counting_main states last t r) (counting_main states last last r))
          (sym (ap (λ n. generation_of n == own.start) e ∙ eq-eqb own.start own.start refl))

      final : (entry child word : Ref) (h : ℕ) → trie.node entry ≡ Indirection h word → h ≢ own.start → WasGiven states last own.start t entry child → trie.main last entry ≡ child
      final entry child word h e apart gave = gave.1 (λ same. apart (ap generation_of (sym e) ∙ same))

      stands : StaysGiven trie (WasGiven states last own.start t) own.start t
      stands = record { final = final; once = λ entry child gave. gave.0 }

      done : IsRepairing own.why → Repaired
      done why =
          repaired (repairs trie (tombs_last) own.start t (omega arith) (assigned_at states last own.start t) (WasGiven states last own.start t) stands own.replaced own.fresh
          (repairs_are_known run t s lt own why) (λ n h word word' e apart new. own_main _ word' new))

      climbed : (c : Climb) → IsClimbed (known_with limits states last (first_main states last)) (Was states last t) own.owner.call c own.replaced own.fresh → Repaired
      climbed c k =
          let at = k.tombed.was in
          let stay = cleaned_entry trie (tombs_last) own.start t (omega arith) (current c.path) c.single k.tombed.tomb k.tombed.word k.tombed.generation at.0 k.tombed.link at.1 at.2 k.tombed.is in
          repaired (climbs trie (tombs_last) own.start t (omega arith) k.may_entomb k.parent.bitmap k.parent.position k.parent.entries c.single (trie.node own.replaced) (trie.node own.fresh)
          k.parent.branch.is (subst (λ e. Stays trie own.start t e c.single) (sym k.parent.holds) stay) k.made)

      -- a change of a key, whose indirection has this depth
      pub made : (p : List Ref) (former : Option ℕ) → own.why ≡ purpose.Update p former →
          KnowsFresh limits states run.records last (assigned_at states last) t own.actor own.start own.owner own.replaced own.fresh (purpose.Update p former) →
          MakesUpdate trie (generation trie own.indirection) t own.indirection (assigned trie (generation trie own.indirection) (suc t)) own.owner.call former
          (node_in trie t own.indirection) (node_in trie (suc t) own.indirection)
      made p former e knows =
          let site = sites t s lt own p former e in
          let first : Ref → Ref = assigned trie (generation trie own.indirection) (suc t) in
          subst₂ (λ old new. MakesUpdate trie (generation trie own.indirection) t own.indirection first own.owner.call former old new) was is
          (makes_update trie (generation trie own.indirection) t own.indirection first own.owner.call own.replaced own.fresh former site.1
          (subst₂ (λ g d. KnowsSwap (known_in trie (assigned trie g (suc t))) own.owner.call d own.replaced former own.fresh) start_is (sym site.0) knows)
          (λ position link at none old_key key old single levels depth_ chain. chain))

      -- it is a change of a key, or a repair
      pub own_does : ((p : List Ref) × (former : Option ℕ) × (own.why ≡ purpose.Update p former)) ⊎ Repaired
      own_does = by_purpose own.why refl own.knows
        where
          by_purpose : (why : Purpose) → own.why ≡ why → KnowsFresh limits states run.records last (assigned_at states last) t own.actor own.start own.owner own.replaced own.fresh why →
              ((p : List Ref) × (former : Option ℕ) × (own.why ≡ purpose.Update p former)) ⊎ Repaired
          by_purpose (purpose.Update p former) e knows = inl (p, former, e)
          by_purpose (purpose.Renew p) e knows = inr (done (subst IsRepairing (sym e) tt))
          by_purpose purpose.Clean e knows = inr (done (subst IsRepairing (sym e) tt))
          by_purpose (purpose.Climb c) e knows = inr (climbed c knows)

      does_own : Does trie t
      does_own = by_kind own_does
        where
          by_kind : ((p : List Ref) × (former : Option ℕ) × (own.why ≡ purpose.Update p former)) ⊎ Repaired → Does trie t
          by_kind (inl (p, former, e)) =
              let u = made p former e (subst (λ why. KnowsFresh limits states run.records last (assigned_at states last) t own.actor own.start own.owner own.replaced own.fresh why) e own.knows) in
              an_update own.indirection (key_of own.owner.call) former u.now own.others u.updates
          by_kind (inr r) = a_repair own.indirection own.others r

    pub steps_do : StepsDo trie
    steps_do t lt = by_step (step_at t lt).step (step_at t lt).does
      where
        by_step : (s : Step) → MainStep limits states run.records last (assigned_at states last) t s → Does trie t
        by_step s (stays none same) = nothing same
        by_step s (changes own) = does_own t s lt own
