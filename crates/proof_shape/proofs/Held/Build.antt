-- What a step of BUILD makes of the indirections that its line holds.
use Rattle.std.proofs.Common.{◌≡◌, ℕ, suc, ◌<◌, ◌≤◌, ◌⊎◌, Bool, true, false, Contains, Some, is_some, inl, inr, refl, sym, ◌∙◌, ap, subst, arith, unwrap_or}
use Rattle.std.proofs.lemmas.Bool.{cases_eq, true≢false}
use Rattle.std.proofs.lemmas.Option.{same_Some}
use Rattle.proof_shape.specs.Vocabulary.{Ref, Node, Indirection, Heap, node_of, entries_of, main_of, next_ref, Operation, Bounds, State, start_of, action_of, line_after, operation_after, node_under}
use Rattle.proof_shape.specs.Vocabulary.{IsRun, LineLevel, Protocol, is_made}
use Rattle.proof_shape.specs.Beneath.machine_model.specs.declared.actions.Action.TheVariants as act
use Rattle.proof_shape.specs.Beneath.proof_memory.proofs.Safety.Steps.{of_actor}
use Rattle.proof_shape.specs.Beneath.proof_commits.proofs.Words.Stood.{Stood, Private, stood_cases, stands_now}
use Rattle.proof_shape.specs.Beneath.proof_commits.proofs.Known.Given.{GrownTakes}
use Rattle.proof_shape.specs.Beneath.proof_commits.proofs.Words.Along.{protocol}
use Rattle.proof_shape.specs.Beneath.proof_contents.proofs.Values.Runs.{made_next}
use Rattle.proof_shape.proofs.Runs.EachAt.{GoesAt}
use Rattle.proof_shape.proofs.Runs.Nodes.{takes, made_link}
use Rattle.proof_shape.proofs.Runs.Levels.{level, levels_along}
use Rattle.proof_shape.proofs.Runs.Began.{RunsAfter, runs_after}
use Rattle.proof_shape.proofs.Runs.Takers.{taker}
use Rattle.proof_shape.proofs.Runs.Entries.{no_entry, contains_or_not}
use Rattle.proof_shape.proofs.Runs.MadeNodes.{is_making, quiet_step, new_is, new_names, entries_made}
use Rattle.proof_shape.proofs.Held.Fresh.{IsHeld, IsNamed, StandsIn, held_by}
use Rattle.proof_shape.proofs.Held.Lines.{NamedOrHeld}
use Rattle.proof_shape.specs.Beneath.proof_memory.specs.Wants.{is_indirection}
use Rattle.proof_shape.specs.Beneath.proof_commits.proofs.Known.Acts.{known_run}

module _ {limits : Bounds} {states : ℕ → State} {last : ℕ} (run : IsRun limits states last) (t : ℕ) (h : t < last) (actor : ℕ) (operation : Operation)
    (go : GoesAt states run.records t actor operation) where
  abbrev heap : Heap
  heap = (states t).heap

  abbrev p : Protocol
  p = protocol limits states last (known_run run)

  -- ---- held ones stay held, but for those that a new node names

  pub quiet_held : is_making (action_of (states t) operation) ≡ false → (start : ℕ) (j : Ref) → IsHeld run t actor start j → IsHeld run (suc t) actor start j
  quiet_held q start j held =
      held_by run t actor start j held (λ m before after names. true≢false (sym after ∙ quiet_step run t h actor operation go q m ∙ before))

  -- what the step makes is the only new node
  pub only_new : (n : Node) → action_of (states t) operation ≡ act.Make n → (made : Ref) → next_ref (states t).heap ≡ Some made → (m : Ref) →
      is_made states t m ≡ false → is_made states (suc t) m ≡ true → m ≡ made
  only_new n a made next m before after = same_Some _ _ (sym (new_is run t h actor operation go n a m before after) ∙ next)

  pub made_now : (n : Node) → action_of (states t) operation ≡ act.Make n → (made : Ref) → next_ref (states t).heap ≡ Some made → (is_made states t made ≡ false)
      × (is_made states (suc t) made ≡ true)
  made_now n a made next = let x = takes run t h actor operation go n a made next in (ap is_some x.new, ap is_some x.here)

  -- where the new node names none of them
  pub made_held : (n : Node) → action_of (states t) operation ≡ act.Make n → (made : Ref) → next_ref (states t).heap ≡ Some made → (start : ℕ) (j : Ref) →
      (Contains (entries_of (node_under states last made)) j → ⊥) → IsHeld run t actor start j → IsHeld run (suc t) actor start j
  made_held n a made next start j not held =
      held_by run t actor start j held
      (λ m before after names. not (subst (λ x. Contains (entries_of (node_under states last x)) j) (only_new n a made next m before after) names))

  -- where it does, it alone does
  pub made_named : (n : Node) → action_of (states t) operation ≡ act.Make n → (made : Ref) → next_ref (states t).heap ≡ Some made → (start : ℕ) (j : Ref) →
      Contains (entries_of (node_under states last made)) j → IsHeld run t actor start j → IsNamed run (suc t) start j made
  made_named n a made next start j names held = record {
    fresh = record { word = held.fresh.word; link = held.fresh.link; deep = held.fresh.deep; made = made_next states t j held.fresh.made };
    names = names;
    made = (made_now n a made next).1;
    only = λ m made_m names_m. by_made m made_m names_m (is_made states t m) refl;
  }
    where
      by_made : (m : Ref) → is_made states (suc t) m ≡ true → Contains (entries_of (node_under states last m)) j → (b : Bool) → is_made states t m ≡ b → m ≡ made
      by_made m made_m names_m true e = absurd (held.unnamed m e names_m)
      by_made m made_m names_m false e = only_new n a made next m e made_m

  pub named_or_held : (n : Node) → action_of (states t) operation ≡ act.Make n → (made : Ref) → next_ref (states t).heap ≡ Some made → (start : ℕ) (j : Ref) →
      IsHeld run t actor start j →
      NamedOrHeld run (suc t) actor start made j
  named_or_held n a made next start j held = by_cases (contains_or_not (entries_of (node_under states last made)) j)
    where
      by_cases : Contains (entries_of (node_under states last made)) j ⊎ (Contains (entries_of (node_under states last made)) j → ⊥) → NamedOrHeld run (suc t) actor start made j
      by_cases (inl names) = inl (made_named n a made next start j names held)
      by_cases (inr not) = inr (made_held n a made next start j not held)

  -- ---- a new indirection

  module _ (below : Ref) (a : action_of (states t) operation ≡ act.Make (Indirection (start_of operation) below)) (made : Ref) (next : next_ref (states t).heap ≡ Some made)
      (takes_it : taker run t ≡ actor) (start : ℕ) (begun : operation.generation ≡ Some start) where
    link_is : (w : Ref) × (node_under states last made ≡ Indirection start w)
    link_is =
        let l = made_link run t h actor operation go _ a made next (start_of operation) below refl in
        (l.0, l.1 ∙ ap (λ g. Indirection g l.0) (ap (λ o. unwrap_or o 0) begun))

    new_unnamed : (m : Ref) → is_made states (suc t) m ≡ true → Contains (entries_of (node_under states last m)) made → ⊥
    new_unnamed m made_m names = by_made (is_made states t m) refl
      where
        by_made : (b : Bool) → is_made states t m ≡ b → ⊥
        by_made true e = true≢false (sym (entries_made run t (omega arith) m made e names) ∙ (made_now _ a made next).0)
        by_made false e = no_entry made (new_names run t h actor operation go (Indirection (start_of operation) below) a m made e made_m names)

    pub new_held : 2 ≤ level run made → IsHeld run (suc t) actor start made
    new_held deep = record {
      fresh = record { word = link_is.0; link = link_is.1; deep = deep; made = (made_now _ a made next).1 };
      maker = record { at = t; past = omega arith; before = (made_now _ a made next).0; after = (made_now _ a made next).1; takes = takes_it };
      unnamed = new_unnamed;
    }

    -- the main node over which it was made stands in it alone, if it stood nowhere
    pub new_stands : Private p.words t below → StandsIn run (suc t) below made
    new_stands private = record { stood_there = stands_now is_link_now main_is; only = λ i now. by_cases i (stood_cases p.words t i below now) }
      where
        x : GrownTakes states t made (Indirection (start_of operation) below)
        x = takes run t h actor operation go _ a made next

        is_link_now : p.words.link (suc t) made ≡ true
        is_link_now = ap (λ o. is_indirection (node_of o)) x.here

        main_is : p.words.main (suc t) made ≡ below
        main_is = ap (λ o. main_of (node_of o)) x.here

        by_cases : (i : Ref) → Stood p.words t i below ⊎ ((p.words.link (suc t) i ≡ true) × (p.words.main (suc t) i ≡ below)) → i ≡ made
        by_cases i (inl before) = absurd (private.apart i before)
        by_cases i (inr (l, m)) = by_ref (cases_eq i made)
          where
            by_ref : (i ≡ made) ⊎ (i ≡ made → ⊥) → i ≡ made
            by_ref (inl it) = it
            by_ref (inr apart) =
                let same = x.elsewhere i apart in
                absurd (private.apart i (stands_now (ap (λ o. is_indirection (node_of o)) (sym same) ∙ l) (ap (λ o. main_of (node_of o)) (sym same) ∙ m)))

  -- ---- BUILD

  -- the level of what the next line holds
  pub next_level : LineLevel (level run) (line_after (states t) operation operation.line)
  next_level =
      let own : RunsAfter (states (suc t)) actor (operation_after (states t) operation) = runs_after states run.records t actor operation go in
      subst (λ l. LineLevel (level run) l) own.line
      (of_actor (states (suc t)) (λ k operation. LineLevel (level run) operation.line) ((levels_along run (suc t) h).lines) actor own.operation own.runs).1
