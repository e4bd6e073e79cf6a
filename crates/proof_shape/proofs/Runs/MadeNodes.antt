-- The node that a step makes: who makes it, and what it names.
use Rattle.std.proofs.Common.{◌≡◌, ℕ, zero, suc, ◌<◌, ◌≤◌, ◌⊎◌, ◌==◌, Bool, true, false, Contains, Option, Some, None, is_some, inl, inr, refl, sym, ◌∙◌, ap, subst, arith}
use Rattle.std.proofs.lemmas.Bool.{cases_eq, true≢false}
use Rattle.std.specs.List.{All}
use Rattle.proof_shape.specs.Vocabulary.{Ref, Node, Indirection, Branch, Single, Tomb, List as Listed, Slot, entries_of, main_at, next_ref, Action, Operation, Bounds, State, Verdict, Commits, Fails}
use Rattle.proof_shape.specs.Vocabulary.{Overtaken, verdict, action_of, standing, grown, node_under, IsRun, IsInUse, AnEntry, AllHold, node_wants, prev_wants, action_wants, is_made}
use Rattle.proof_shape.specs.Beneath.machine_model.specs.declared.actions.Action.TheVariants as act
use Rattle.proof_shape.specs.Beneath.machine_model.specs.declared.steps.Step.TheVariants as step
use Rattle.proof_shape.specs.Beneath.proof_memory.proofs.Claims.Uses.{Meets, first_hold}
use Rattle.proof_shape.specs.Beneath.proof_memory.proofs.Claims.Nodes.{all_in}
use Rattle.proof_shape.specs.Beneath.proof_memory.proofs.Safety.AtEachTime.{safe_at}
use Rattle.proof_shape.specs.Beneath.proof_memory.proofs.Safety.AtTimes.{action_at}
use Rattle.proof_shape.specs.Beneath.proof_commits.proofs.Course.Finals.{from_time}
use Rattle.proof_shape.specs.Beneath.proof_commits.proofs.Known.Given.{ActsOn, Either, Taken, GrownTakes, GrownStays, GrownChanges, GrownSwaps, Decided}
use Rattle.proof_shape.specs.Beneath.proof_commits.proofs.Known.StepsAt.{NotedAt, NotesBegin, NotesGo, NotesEnd, NotesSweep, NotesGivingUp}
use Rattle.proof_shape.specs.Beneath.proof_contents.proofs.Values.Runs.{made_next}
use Rattle.proof_shape.specs.Beneath.proof_contents.proofs.Values.Started.{node_stays, indirection_stays}
use Rattle.proof_shape.proofs.Runs.EachAt.{GoesAt}
use Rattle.proof_shape.proofs.Runs.Takers.{taker, taker_of, step_taken}
use Rattle.proof_shape.proofs.Runs.Entries.{no_entry}
use Rattle.proof_shape.specs.Beneath.machine_model.proofs.Grown.{grown_in_use}
use Rattle.proof_shape.specs.Beneath.proof_commits.proofs.Known.Acts.{known_run}
use Rattle.proof_shape.specs.Beneath.machine_model.proofs.Slots.{change_kept}
use Rattle.proof_generations.proofs.Falling.Nodes.{nodes_stay}

abbrev pub is_making : Action → Bool
is_making (act.Make node) = true
is_making (act.MakeRoot main) = true
is_making a = false

-- ---- actions that make nothing

module _ (states : ℕ → State) (t : ℕ) where
  abbrev SameMade : Type 0
  SameMade = (m : Ref) → is_made states (suc t) m ≡ is_made states t m

  stays_made : GrownStays states t → SameMade
  stays_made e m = ap is_some (e m)

  changes_made : (change : Slot → Slot) (r : Ref) → GrownChanges states t change r → SameMade
  changes_made change r c m = by_ref (cases_eq m r)
    where
      by_ref : (m ≡ r) ⊎ (m ≡ r → ⊥) → is_made states (suc t) m ≡ is_made states t m
      by_ref (inl same) = ap (is_made states (suc t)) same ∙ ap is_some c.here ∙ change_kept change (grown states t r) ∙ sym (ap (is_made states t) same)
      by_ref (inr apart) = ap is_some (c.elsewhere m apart)

  swaps_made : (i a f : Ref) → GrownSwaps states t i a f → SameMade
  swaps_made i a f s m = by_ref (cases_eq m i) (cases_eq m f)
    where
      by_ref : (m ≡ i) ⊎ (m ≡ i → ⊥) → (m ≡ f) ⊎ (m ≡ f → ⊥) → is_made states (suc t) m ≡ is_made states t m
      by_ref (inl same) other = ap (is_made states (suc t)) same ∙ ap is_some s.main ∙ change_kept _ (grown states t i) ∙ sym (ap (is_made states t) same)
      by_ref (inr apart) (inl same) = ap (is_made states (suc t)) same ∙ ap is_some s.prev ∙ change_kept _ (grown states t f) ∙ sym (ap (is_made states t) same)
      by_ref (inr apart) (inr other) = ap is_some (s.elsewhere m apart other)

  either_made : (b : Bool) (A B : Type 0) → (A → SameMade) → (B → SameMade) → Either b A B → SameMade
  either_made true A B f g x = f x
  either_made false A B f g x = g x

  decided_made : (m p : Ref) (v : Verdict) → Decided states t m p v → SameMade
  decided_made m p Commits d = changes_made _ m d
  decided_made m p Fails d = changes_made _ m d
  decided_made m p (Overtaken licensed) d = stays_made d

  pub quiet_made : (a : Action) → is_making a ≡ false → ActsOn states t a → (m : Ref) → is_made states (suc t) m ≡ is_made states t m
  quiet_made (act.ReadMain i) q x = stays_made x.1
  quiet_made (act.ReadPrev m) q x = stays_made x.1
  quiet_made (act.Publish i a f) q x = either_made (main_at (states t).heap i == a) (GrownSwaps states t i a f) (GrownStays states t) (swaps_made i a f) stays_made x.2
  quiet_made (act.Restore i m p) q x = either_made (main_at (states t).heap i == m) (GrownChanges states t _ i) (GrownStays states t) (changes_made _ i) stays_made x.1
  quiet_made (act.Decide i m p told) q x = decided_made m p (verdict (states t).heap i m p told) x.3
  quiet_made (act.Make node) q x = absurd (true≢false q)
  quiet_made (act.MakeRoot main) q x = absurd (true≢false q)
  quiet_made act.ReadRoot q x = stays_made x
  quiet_made (act.Abort offer) q x = stays_made x
  quiet_made (act.Offer offer) q x = stays_made x
  quiet_made (act.Complete offer main) q x = stays_made x
  quiet_made (act.Look at) q x = stays_made x
  quiet_made (act.End answer) q x = stays_made x

module _ {limits : Bounds} {states : ℕ → State} {last : ℕ} (run : IsRun limits states last) where
  -- what is new is what was drawn
  drawn : (t : ℕ) (node : Node) (o : Option Ref) → Taken states t node o → (m : Ref) → is_made states t m ≡ false → is_made states (suc t) m ≡ true → (o ≡ Some m) × GrownTakes states t m node
  drawn t node None x m before after = absurd (true≢false (sym after ∙ stays_made states t x m ∙ before))
  drawn t node (Some made) x m before after = by_ref (cases_eq m made)
    where
      by_ref : (m ≡ made) ⊎ (m ≡ made → ⊥) → (Some made ≡ Some m) × GrownTakes states t m node
      by_ref (inl same) = (ap (λ (r : Ref). Some r) (sym same), subst (λ r. GrownTakes states t r node) (sym same) x)
      by_ref (inr apart) = absurd (true≢false (sym after ∙ ap is_some (x.elsewhere m apart) ∙ before))

  -- a node that was made names what it is to name
  taken_names : (t : ℕ) → t < last → (m r : Ref) (n : Node) → GrownTakes states t m n → Contains (entries_of (node_under states last m)) r → Contains (entries_of n) r
  taken_names t h m r (Indirection g x) takes names =
      let link = indirection_stays states last (nodes_stay run) (suc t) m _ g x h takes.here refl in
      absurd (no_entry r (subst (λ n. Contains (entries_of n) r) link.1 names))
  taken_names t h m r (Branch b es) takes names =
      subst (λ n. Contains (entries_of n) r)
      (node_stays states last (nodes_stay run) (suc t) m _ h takes.here (λ g x bad. let wrong : Branch b es ≡ Indirection g x = bad in cc)) names
  taken_names t h m r (Single k v) takes names =
      subst (λ n. Contains (entries_of n) r)
      (node_stays states last (nodes_stay run) (suc t) m _ h takes.here (λ g x bad. let wrong : Single k v ≡ Indirection g x = bad in cc)) names
  taken_names t h m r (Tomb s) takes names =
      subst (λ n. Contains (entries_of n) r) (node_stays states last (nodes_stay run) (suc t) m _ h takes.here (λ g x bad. let wrong : Tomb s ≡ Indirection g x = bad in cc)) names
  taken_names t h m r (Listed ss) takes names =
      subst (λ n. Contains (entries_of n) r)
      (node_stays states last (nodes_stay run) (suc t) m _ h takes.here (λ g x bad. let wrong : Listed ss ≡ Indirection g x = bad in cc)) names

  module _ (t : ℕ) (h : t < last) (actor : ℕ) (operation : Operation) (go : GoesAt states run.records t actor operation) where
    acts : (a : Action) → action_of (states t) operation ≡ a → ActsOn states t a
    acts a e = subst (λ x. ActsOn states t x) e ((known_run run).acts t h actor go.o go.moves operation go.runs)

    pub quiet_step : is_making (action_of (states t) operation) ≡ false → (m : Ref) → is_made states (suc t) m ≡ is_made states t m
    quiet_step q = quiet_made states t (action_of (states t) operation) q (acts _ refl)

    -- what it names, where it is no root
    pub new_is : (n : Node) → action_of (states t) operation ≡ act.Make n → (m : Ref) → is_made states t m ≡ false → is_made states (suc t) m ≡ true → next_ref (states t).heap ≡ Some m
    new_is n e m before after = (drawn t n (next_ref (states t).heap) (acts (act.Make n) e) m before after).0

    pub new_names : (n : Node) → action_of (states t) operation ≡ act.Make n → (m r : Ref) → is_made states t m ≡ false → is_made states (suc t) m ≡ true →
        Contains (entries_of (node_under states last m)) r → Contains (entries_of n) r
    new_names n e m r before after names = taken_names t h m r n (drawn t n (next_ref (states t).heap) (acts (act.Make n) e) m before after).1 names

    pub root_names : (main : Ref) → action_of (states t) operation ≡ act.MakeRoot main → (m r : Ref) → is_made states t m ≡ false → is_made states (suc t) m ≡ true →
        Contains (entries_of (node_under states last m)) r → ⊥
    root_names main e m r before after names =
        no_entry r (taken_names t h m r (Indirection (states t).generations main) (drawn t _ (next_ref (states t).heap) (acts (act.MakeRoot main) e) m before after).1 names)

  -- who makes it
  pub record MakesNew (t : ℕ) : Type 0 where
    pub operation : Operation
    pub go : GoesAt states run.records t (taker run t) operation

  pub maker_of : (t : ℕ) → t < last → (m : Ref) → is_made states t m ≡ false → is_made states (suc t) m ≡ true → MakesNew t
  maker_of t h m before after = let x = step_taken run t h in by_step x.0 x.1
    where
      by_step : (x : NotedAt (states t) (run.records t) (states (suc t)) (run.records (suc t))) → taker run t ≡ taker_of x → MakesNew t
      by_step (NotesGo actor operation o moves d is g e n) takes =
          record { operation = operation; go = subst (λ k. GoesAt states run.records t k operation) (sym takes) (record { o = o; moves = moves; runs = is; goes = g; after = e; noted = n }) }
      by_step (NotesBegin actor call number o moves d e n) takes =
          absurd (true≢false (sym after ∙ stays_made states t ((known_run run).stays t h (step.Begin actor call number) o moves tt) m ∙ before))
      by_step (NotesEnd actor operation answer o moves is a e n) takes =
          absurd (true≢false (sym after ∙ stays_made states t (subst (λ x. ActsOn states t x) a ((known_run run).acts t h actor o moves operation is)) m ∙ before))
      by_step (NotesGivingUp actor operation answer o moves is a e n) takes =
          absurd (true≢false (sym after ∙ stays_made states t ((known_run run).stays t h (step.GiveUp actor) o moves tt) m ∙ before))
      by_step (NotesSweep o moves e n) takes =
          absurd (true≢false (sym after ∙ stays_made states t ((known_run run).stays t h step.Sweep o moves tt) m ∙ before))

  -- ---- what a node names was made before it

  in_use_made : (t : ℕ) → t ≤ last → (n : Node) → AllHold (IsInUse (states t).heap) (states t).heap (node_wants n) → (r : Ref) → Contains (entries_of n) r → is_made states t r ≡ true
  in_use_made t h n wants r c =
      let (i, within, is) = c in
      let all : All (Meets (IsInUse (states t).heap) (states t).heap AnEntry) (entries_of n) = all_in (IsInUse (states t).heap) (states t).heap n wants in
      let used : IsInUse (states t).heap r = subst (IsInUse (states t).heap) is (all i r within).0 in
      ap is_some (grown_in_use states t r used.0 used.1)

  made_first : (m r : Ref) → is_made states zero m ≡ true → Contains (entries_of (node_under states last m)) r → is_made states zero r ≡ true
  unfolding grown
  made_first m r made names = by_slot (standing (states zero).heap m) refl made
    where
      slot_names : (slot : Slot) → standing (states zero).heap m ≡ Some slot → (n : Node) → slot.node ≡ n → Contains (entries_of n) r
      slot_names slot e (Indirection g x) is =
          let link = indirection_stays states last (nodes_stay run) zero m slot g x (omega arith) (grown_in_use states zero m slot e) is in
          absurd (no_entry r (subst (λ n. Contains (entries_of n) r) link.1 names))
      slot_names slot e (Branch b es) is =
          subst (λ n. Contains (entries_of n) r)
          (node_stays states last (nodes_stay run) zero m slot (omega arith) (grown_in_use states zero m slot e)
          (λ g x bad. let wrong : Branch b es ≡ Indirection g x = sym is ∙ bad in cc) ∙ is) names
      slot_names slot e (Single k v) is =
          subst (λ n. Contains (entries_of n) r)
          (node_stays states last (nodes_stay run) zero m slot (omega arith) (grown_in_use states zero m slot e)
          (λ g x bad. let wrong : Single k v ≡ Indirection g x = sym is ∙ bad in cc) ∙ is) names
      slot_names slot e (Tomb s) is =
          subst (λ n. Contains (entries_of n) r)
          (node_stays states last (nodes_stay run) zero m slot (omega arith) (grown_in_use states zero m slot e)
          (λ g x bad. let wrong : Tomb s ≡ Indirection g x = sym is ∙ bad in cc) ∙ is) names
      slot_names slot e (Listed ss) is =
          subst (λ n. Contains (entries_of n) r)
          (node_stays states last (nodes_stay run) zero m slot (omega arith) (grown_in_use states zero m slot e)
          (λ g x bad. let wrong : Listed ss ≡ Indirection g x = sym is ∙ bad in cc) ∙ is) names

      by_slot : (o : Option Slot) → standing (states zero).heap m ≡ o → is_some o ≡ true → is_made states zero r ≡ true
      by_slot None e made = absurd (true≢false (sym made))
      by_slot (Some slot) e made =
          in_use_made zero (omega arith) slot.node
          (first_hold (IsInUse (states zero).heap) (states zero).heap (node_wants slot.node) (prev_wants slot.prev) ((safe_at run zero (omega arith)).nodes m slot e).0)
          r (slot_names slot e slot.node refl)

  new_made : (t : ℕ) (h : t < last) (m r : Ref) → is_made states t m ≡ false → is_made states (suc t) m ≡ true → Contains (entries_of (node_under states last m)) r → is_made states t r ≡ true
  new_made t h m r before after names = let x = maker_of t h m before after in by_action (taker run t) x.operation x.go (action_of (states t) x.operation) refl
    where
      by_action : (k : ℕ) (operation : Operation) → GoesAt states run.records t k operation → (a : Action) → action_of (states t) operation ≡ a → is_made states t r ≡ true
      by_action k operation go (act.Make n) e =
          in_use_made t (omega arith) n (subst (λ a. AllHold (IsInUse (states t).heap) (states t).heap (action_wants a)) e (action_at run t (omega arith) k operation go.runs)).1 r
          (new_names t h k operation go n e m r before after names)
      by_action k operation go (act.MakeRoot main) e = absurd (root_names t h k operation go main e m r before after names)
      by_action k operation go act.ReadRoot e = absurd (true≢false (sym after ∙ quiet_step t h k operation go (ap is_making e) m ∙ before))
      by_action k operation go (act.Abort offer) e = absurd (true≢false (sym after ∙ quiet_step t h k operation go (ap is_making e) m ∙ before))
      by_action k operation go (act.Offer offer) e = absurd (true≢false (sym after ∙ quiet_step t h k operation go (ap is_making e) m ∙ before))
      by_action k operation go (act.Complete offer main) e = absurd (true≢false (sym after ∙ quiet_step t h k operation go (ap is_making e) m ∙ before))
      by_action k operation go (act.ReadMain i) e = absurd (true≢false (sym after ∙ quiet_step t h k operation go (ap is_making e) m ∙ before))
      by_action k operation go (act.Publish i a f) e = absurd (true≢false (sym after ∙ quiet_step t h k operation go (ap is_making e) m ∙ before))
      by_action k operation go (act.Restore i x p) e = absurd (true≢false (sym after ∙ quiet_step t h k operation go (ap is_making e) m ∙ before))
      by_action k operation go (act.ReadPrev x) e = absurd (true≢false (sym after ∙ quiet_step t h k operation go (ap is_making e) m ∙ before))
      by_action k operation go (act.Decide i x p told) e = absurd (true≢false (sym after ∙ quiet_step t h k operation go (ap is_making e) m ∙ before))
      by_action k operation go (act.Look at) e = absurd (true≢false (sym after ∙ quiet_step t h k operation go (ap is_making e) m ∙ before))
      by_action k operation go (act.End answer) e = absurd (true≢false (sym after ∙ quiet_step t h k operation go (ap is_making e) m ∙ before))

  pub entries_made : (t : ℕ) → t ≤ last → (m r : Ref) → is_made states t m ≡ true → Contains (entries_of (node_under states last m)) r → is_made states t r ≡ true
  entries_made t h =
      from_time (λ v. (m r : Ref) → is_made states v m ≡ true → Contains (entries_of (node_under states last m)) r → is_made states v r ≡ true) zero last made_first
      (λ v low within so_far m r made names. by_made v within so_far m r made names (is_made states v m) refl) t (omega arith) h
    where
      by_made : (v : ℕ) → v < last → ((m r : Ref) → is_made states v m ≡ true → Contains (entries_of (node_under states last m)) r → is_made states v r ≡ true) →
          (m r : Ref) → is_made states (suc v) m ≡ true →
          Contains (entries_of (node_under states last m)) r → (b : Bool) → is_made states v m ≡ b → is_made states (suc v) r ≡ true
      by_made v within so_far m r made names true e = made_next states v r (so_far m r e names)
      by_made v within so_far m r made names false e = made_next states v r (new_made v within m r e made names)
