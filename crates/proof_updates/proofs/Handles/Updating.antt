-- The commit of an own update, by handle.
use Rattle.std.proofs.Common.{◌≡◌, ℕ, suc, true, List, Option, Some, refl, sym, ap, subst, ◌∙◌, arith}
use native.Mathlib.Decide.{ℕ_discrete}
use Rattle.std.specs.FinMap.{entries}
use Rattle.proof_updates.specs.Vocabulary.{hash_of, Writable, Call, Get, change_in, KeyMap, Ref, Root, Bounds, Outcome, Step, changed_reply, State, root_at, root_of, node_under, Moves, IsRun}
use Rattle.proof_updates.specs.Vocabulary.{IsInUse, AnIndirection, Is, Holds as Claims, AllHold, line_wants, Updates, to_insert, to_set, to_remove, Trie, MainStep, stays, changes, assigned_at}
use Rattle.proof_updates.specs.Vocabulary.{TakesSteps, StepsFit, Notes}
use Rattle.proof_updates.specs.Beneath.proof_memory.specs.Wants.{is_indirection}
use Rattle.proof_updates.specs.Beneath.proof_memory.proofs.Safety.AtTimes.{line_at}
use Rattle.proof_updates.specs.Beneath.proof_memory.proofs.Claims.Uses.{safe_of, meets_of}
use Rattle.proof_updates.specs.Beneath.proof_contents.specs.Effects.{act_in}
use Rattle.proof_updates.specs.Beneath.proof_contents.specs.Steps.{Asks}
use Rattle.proof_updates.specs.Beneath.proof_contents.specs.Tries.{map_of}
use Rattle.proof_updates.specs.Beneath.proof_generations.proofs.Lines.ReaderKnows.{indirection_is}
use Rattle.proof_shape.proofs.Shaped.Trie.{bare_runs_have_shape}
use Rattle.proof_updates.proofs.Tries.OfRuns as whole
use Rattle.proof_updates.specs.Laws.Handles.{HandleHolds, Turns}
use Rattle.proof_updates.specs.Touching.{Reaches, CommitsUpdate}
use Rattle.proof_updates.proofs.Handles.Committing.{no_update, owned, IsOwn, carries_nothing}
use Rattle.proof_updates.proofs.Handles.Kept.{trie, Own, ok, main_step}
use Rattle.proof_updates.proofs.Handles.Reaching.{from_reach}
use Rattle.proof_updates.proofs.Handles.Roots.{StandsOver, HandleStep, keeps, changes_root, is_closed, handle_step}
use Rattle.proof_updates.proofs.Handles.Showing.{root_deep, root_led, link_same, content_shown}
use Rattle.proof_updates.proofs.Handles.Updated.{update_below}
use Rattle.proof_updates.proofs.Handles.Values.{value_below}
use Rattle.proof_updates.proofs.Handles.Ways.{From}

gets_ask_nothing : (h k : ℕ) (former now : Option ℕ) → Asks (Get h k) former now → ⊥
gets_ask_nothing h k former now (to_insert e) = let wrong : ⊥ = cc e in wrong
gets_ask_nothing h k former now (to_set v e) = let wrong : ⊥ = cc e in wrong
gets_ask_nothing h k former now (to_remove v e) = let wrong : ⊥ = cc e in wrong

-- a call that is to change a key acts as a change
acts_changes : (hash : ℕ → ℕ) (call : Call) (former now : Option ℕ) (m : KeyMap) → Asks call former now → act_in hash Writable call m ≡ change_in hash call m
acts_changes hash (Get h k) former now m asks = absurd (gets_ask_nothing h k former now asks)
acts_changes hash call former now m asks = refl

module _ (limits : Bounds) (states : ℕ → State) (steps : ℕ → Step) (t : ℕ) (run : IsRun limits states (suc t)) (takes : TakesSteps states steps (suc t)) (keys : StepsFit steps (suc t))
    (s : Step) (o : Outcome) (m : Moves (states t) s o (states (suc t))) (notes : Notes states run.records t s) where
  abbrev T : Trie
  T = trie limits states steps t run takes keys s o m notes

  abbrev Mine : Type 0
  Mine = Own limits states steps t run takes keys s o m notes

  -- the owner's indirection is one
  link : (own : Mine) → is_indirection (node_under states (suc t) own.indirection) ≡ true
  link own =
      let its : Claims (IsInUse (states t).heap) (states t).heap (Is own.indirection AnIndirection) =
      (subst (λ l. AllHold (IsInUse (states t).heap) (states t).heap (line_wants limits.hash own.owner.call own.owner.access l)) own.swaps
      (line_at run t (omega arith) own.actor own.owner own.runs)).0 in
      sym (link_same steps run takes keys t (omega arith) own.indirection (safe_of its)) ∙ meets_of its

  -- what is updated is its indirection
  one_changes : (own : Mine) (call : Call) (former : Option ℕ) (u : Updates T t own.start call former) → u.indirection ≡ own.indirection
  one_changes own call former u = by (ℕ_discrete own.indirection u.indirection)
    where
      by : Dec (own.indirection ≡ u.indirection) → u.indirection ≡ own.indirection
      by (yes same) = sym same
      by (no apart) = absurd (own.differ (sym own.after ∙ u.leaves own.indirection apart ∙ own.before))

  module _ (handle : ℕ) (root : Root) (at : root_at (states t) handle ≡ Some root) (i : Ref) (call : Call) (former : Option ℕ) (reach : Reaches (states t) handle i) where
    abbrev r : Ref
    r = root_of root.word

    own_acts : (own : Mine) → IsOwn limits states run.records (suc t) t s own i call former →
        change_in (hash_of limits.hash) call (map_of T.keys (value_below T t r)) ≡ Some (changed_reply call former, map_of T.keys (value_below T (suc t) r))
    own_acts own w =
        subst (λ c. change_in (hash_of limits.hash) c before ≡ Some (changed_reply c former, after)) w.call_is
        (sym (acts_changes (hash_of limits.hash) own.owner.call former u.now before u.asks) ∙ acted)
      where
        before : KeyMap
        before = map_of T.keys (value_below T t r)

        after : KeyMap
        after = map_of T.keys (value_below T (suc t) r)

        u : Updates T t own.start own.owner.call former
        u = whole.updates_at steps run takes keys t s (omega arith) own w.path former w.purpose_is

        its : u.indirection ≡ i
        its = one_changes own own.owner.call former u ∙ w.indirection_is

        acted : act_in (hash_of limits.hash) Writable own.owner.call before ≡ Some (changed_reply own.owner.call former, after)
        acted =
            let node = indirection_is (node_under states (suc t) own.indirection) (link own) in
            update_below T t refl r (ok limits states steps t run takes keys s o m notes) (bare_runs_have_shape limits states steps (suc t) run takes keys)
            (root_deep steps run takes keys t (omega arith) handle root at) (root_led steps run takes keys t (omega arith) handle root at)
            own.start own.owner.call former u node.1 node.0 (ap (node_under states (suc t)) (its ∙ sym w.indirection_is) ∙ node.2)
            (subst (λ j. From T t r j) (sym its) (from_reach steps run takes keys t (omega arith) handle root at i reach))

    -- the handle keeps its root, and its pairs are those that the call makes of the earlier ones
    pub update_changes : CommitsUpdate (states t) s i call former →
        (later : List (ℕ × ℕ)) × HandleHolds (states (suc t)) handle root.access later × Turns (hash_of limits.hash) call former (entries (map_of T.keys (value_below T t r))) later
    update_changes u = by_step (main_step limits states steps t run takes keys s o m notes)
      where
        by_root : (own : Mine) → HandleStep run t (omega arith) s o m notes handle root → StandsOver (states (suc t)) handle root.access r
        by_root own (keeps stands) = stands
        by_root own (changes_root offer carries old stands) = absurd (carries_nothing limits states run.records (suc t) t s handle offer carries own)
        by_root own (is_closed actor number e gone) = absurd (let both = sym e ∙ own.takes in let wrong : ⊥ = cc both in wrong)

        by_step : MainStep limits states run.records (suc t) (assigned_at states (suc t)) t s →
            (later : List (ℕ × ℕ)) × HandleHolds (states (suc t)) handle root.access later × Turns (hash_of limits.hash) call former (entries (map_of T.keys (value_below T t r))) later
        by_step (stays none same) = absurd (no_update limits states run.records (suc t) t s none i call former u)
        by_step (changes own) =
            let stands = by_root own (handle_step run t (omega arith) s o m notes handle root at) in (
              entries (map_of T.keys (value_below T (suc t) r)),
              record {
                root = stands.root;
                is_open = stands.is_open;
                kind = stands.kind;
                content = content_shown steps run takes keys (suc t) (omega arith) handle stands.root stands.is_open
                    ∙ ap (λ q. entries (map_of T.keys (value_below T (suc t) q))) stands.over;
              },
              record {
                before = map_of T.keys (value_below T t r);
                after = map_of T.keys (value_below T (suc t) r);
                begins = refl;
                ends = refl;
                changes = own_acts own (owned limits states run.records (suc t) t s own i call former u);
              },
            )
