-- A quiet step of an operation that is alone leaves decided main nodes where they stand; most steps leave the root word.
use Rattle.std.proofs.Common.{◌≡◌, ℕ, suc, ◌<◌, inl, inr, Option, Some, None, is_some, refl, sym, ap, ◌∙◌, subst}
use Rattle.std.proofs.lemmas.Bool.{cases_eq, false≢true}
use Rattle.proof_obstruction_free.specs.Vocabulary.{Node, node_of, main_of, prev_of, next_ref, Action, Line, acted, gone, new_root_taken, handle_of, settled, action_of, line_action, noted}
use Rattle.proof_obstruction_free.specs.Vocabulary.{noted_progress, State, word_at, progress_of, told_in, grown, GoesOn}
use Rattle.proof_obstruction_free.specs.Beneath.machine_model.specs.declared.actions.Action.TheVariants as act
use Rattle.proof_obstruction_free.specs.Beneath.machine_model.proofs.Notes.{noted_going}
use Rattle.proof_obstruction_free.specs.Beneath.proof_commits.proofs.Known.Given.{Known, ActsOn, GrownStays, GrownTakes, Taken}
use Rattle.proof_obstruction_free.specs.Beneath.proof_generations.proofs.Falling.ReadsGive.{gone_is}
use Rattle.proof_obstruction_free.specs.Alone.{Lone, Stands, Keeps, IsQuiet, word}
use Rattle.proof_obstruction_free.specs.Stepping.{IsNoEnd, LeavesWords}
use Rattle.proof_obstruction_free.proofs.Step.Next.{takes, no_end, own_run}
use Rattle.proof_obstruction_free.specs.Beneath.proof_commits.proofs.Known.Acts.{known_run}

-- what isn't the end goes on
pub goes_by : (action : Action) → ((answer : _) → action ≡ act.End answer → ⊥) → GoesOn action
goes_by (act.End answer) not = not answer refl
goes_by action not = tt

-- ---- root words

root_taken_word : (state : State) (main : _) (made : Option _) (handle : ℕ) → word_at (new_root_taken state main made) handle ≡ word_at state handle
root_taken_word state main None handle = refl
root_taken_word state main (Some made) handle = refl

acted_word : (state : State) (at handle : ℕ) (action : Action) → LeavesWords action → word_at (acted state at action) handle ≡ word_at state handle
acted_word state at handle (act.Abort offer) leaves = absurd leaves
acted_word state at handle (act.Offer offer) leaves = absurd leaves
acted_word state at handle (act.Complete offer main) leaves = absurd leaves
acted_word state at handle (act.MakeRoot main) leaves = root_taken_word state main (next_ref state.heap) handle
acted_word state at handle action leaves = refl

module _ (a : Lone) where
  abbrev known : Known a.limits a.states a.last
  known = known_run (own_run a)

  -- ---- the step itself

  -- what its action finds and does in the heap that only grows
  pub acts_so : (t : ℕ) (g : Option ℕ) (l : Line) (s : Stands a t g l) → t < a.last → ActsOn a.states t (line_action (a.states t) s.operation l)
  acts_so t g l s more =
      let moved = takes a t s.since more in
      subst (λ x. ActsOn a.states t (line_action (a.states t) s.operation x)) s.line
      (known.acts t more a.actor moved.outcome moved.moves s.operation s.runs)

  pub after_so : (t : ℕ) (g : Option ℕ) (l : Line) (s : Stands a t g l) → t < a.last → IsNoEnd l → a.states (suc t) ≡ settled (a.states t) (gone (a.states t) a.actor s.operation)
  after_so t g l s more not =
      let moved = takes a t s.since more in
      gone_is (a.states t) a.actor moved.outcome (a.states (suc t)) moved.moves s.operation s.runs
      (goes_by (action_of (a.states t) s.operation) (λ answer e. no_end (a.states t) s.operation l not answer (ap (line_action (a.states t) s.operation) (sym s.line) ∙ e)))

  pub noted_so : (t : ℕ) (g : Option ℕ) (l : Line) (s : Stands a t g l) → t < a.last → IsNoEnd l →
      (own_run a).records (suc t) ≡ noted_progress ((own_run a).records t) (a.states t).steps a.actor (progress_of (a.states t) s.operation)
  noted_so t g l s more not =
      (own_run a).recorded t more
      ∙ ap (λ x. noted ((own_run a).records t) (a.states t).steps (told_in (a.states t) x)) (a.alone t s.since more)
      ∙ noted_going (a.states t) ((own_run a).records t) a.actor s.operation (action_of (a.states t) s.operation) s.runs refl
      (goes_by (action_of (a.states t) s.operation) (λ answer e. no_end (a.states t) s.operation l not answer (ap (line_action (a.states t) s.operation) (sym s.line) ∙ e)))

  -- ---- what it leaves

  stays_keep : (t : ℕ) → GrownStays a.states t → Keeps a t (suc t)
  stays_keep t stays i m has = record {
    made = ap is_some (stays i) ∙ has.made;
    main = ap (λ s. main_of (node_of s)) (stays i) ∙ has.main;
    decided = ap prev_of (stays m) ∙ has.decided;
  }

  takes_keep : (t : ℕ) (n : _) (node : Node) → GrownTakes a.states t n node → Keeps a t (suc t)
  takes_keep t n node takes i m has =
      let apart : i ≡ n → ⊥ = λ same. false≢true (sym (ap is_some takes.new) ∙ ap (λ r. is_some (grown a.states t r)) (sym same) ∙ has.made) in
      let link = takes.elsewhere i apart in
      record {
        made = ap is_some link ∙ has.made;
        main = ap (λ s. main_of (node_of s)) link ∙ has.main;
        decided = elim (cases_eq m n) [
          | inl same ↦ ap (λ r. prev_of (grown a.states (suc t) r)) same ∙ ap prev_of takes.here
          | inr other ↦ ap prev_of (takes.elsewhere m other) ∙ has.decided
        ];
      }

  taken_keep : (t : ℕ) (node : Node) (made : Option _) → Taken a.states t node made → Keeps a t (suc t)
  taken_keep t node None taken = stays_keep t taken
  taken_keep t node (Some n) taken = takes_keep t n node taken

  quiet_keeps : (t : ℕ) (action : Action) → IsQuiet action → ActsOn a.states t action → Keeps a t (suc t)
  quiet_keeps t (act.ReadMain i) quiet acts = stays_keep t acts.1
  quiet_keeps t (act.ReadPrev m) quiet acts = stays_keep t acts.1
  quiet_keeps t (act.Offer offer) quiet acts = absurd quiet
  quiet_keeps t (act.Publish i r f) quiet acts = absurd quiet
  quiet_keeps t (act.Restore i m p) quiet acts = absurd quiet
  quiet_keeps t (act.Decide i m p told) quiet acts = absurd quiet
  quiet_keeps t (act.Make node) quiet acts = taken_keep t node (next_ref (a.states t).heap) acts
  quiet_keeps t (act.MakeRoot main) quiet acts = taken_keep t _ (next_ref (a.states t).heap) acts
  quiet_keeps t action quiet acts = stays_keep t acts

  pub keeps : (t : ℕ) (g : Option ℕ) (l : Line) (s : Stands a t g l) → t < a.last → IsNoEnd l → IsQuiet (line_action (a.states t) s.operation l) → Keeps a t (suc t)
  keeps t g l s more not quiet = quiet_keeps t (line_action (a.states t) s.operation l) quiet (acts_so t g l s more)

  pub words : (t : ℕ) (g : Option ℕ) (l : Line) (s : Stands a t g l) → t < a.last → IsNoEnd l → LeavesWords (line_action (a.states t) s.operation l) → word a (suc t) ≡ word a t
  words t g l s more not leaves =
      ap (λ x. word_at x (handle_of a.own.call)) (after_so t g l s more not)
      ∙ acted_word _ (handle_of s.operation.call) (handle_of a.own.call) (action_of (a.states t) s.operation)
      (subst (λ x. LeavesWords (line_action (a.states t) s.operation x)) (sym s.line) leaves)
