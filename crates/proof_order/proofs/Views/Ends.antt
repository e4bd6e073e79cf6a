-- The first and the last view of a run are those of the first world and of the contents.
use Rattle.std.proofs.Common.{◌≡◌, ℕ, zero, suc, ◌==◌, false, cond, List, Option, Some, None, refl, sym, ap, ◌∙◌, arith}
use Rattle.std.specs.FinMap as fin
use Rattle.std.specs.Ordering.{nat_cmp}
use Rattle.proof_order.specs.Vocabulary.{KeyMap, HandleState, HandleMap, first_world, Access, Writable, ReadOnly, ref_to, generation_at, Root, Bounds, State, first_state, first_heap, root_at}
use Rattle.proof_order.specs.Vocabulary.{root_of, content_at, IsRun}
use Rattle.proof_order.specs.Beneath.proof_contents.proofs.Values.Started.{first_generation}
use Rattle.proof_order.specs.Facts.{standing_of, standing, Facts}
use Rattle.proof_order.specs.Laws.Orders.{Names, ShowsContents}
use Rattle.proof_order.proofs.Views.Replay.{View, Shows, but}
use Rattle.proof_order.proofs.Views.Acts.{named, shows_insert}
use Rattle.proof_order.proofs.Views.Sound.{first_standing}
use Rattle.proof_order.proofs.Views.Timeline.{shown, view}
use Rattle.proof_order.specs.Beneath.machine_model.proofs.Basics.{two_or_more}

-- ---- at first

first_stands : (limits : Bounds) (n : ℕ) → limits.slots ≡ suc (suc n) → standing (first_state limits) 0 ≡ Some (Writable, 0)
unfolding first_state
first_stands limits n e = ap (λ g. Some (Writable, g)) (ap (λ s. generation_at (first_heap s) (ref_to 2 1)) e ∙ first_generation n)

none_stands : (o : Option (Access × ℕ)) → ((access : Access) (generation : ℕ) → o ≡ Some (access, generation) → ⊥) → o ≡ None
none_stands None none = refl
none_stands (Some (access, generation)) none = absurd (none access generation refl)

nowhere : View
nowhere handle = None

shows_nothing : Shows fin.empty nowhere
unfolding nowhere
shows_nothing handle = fin.get-empty nat_cmp handle

first_shown : (V : ℕ → ℕ → KeyMap) (last : ℕ) (state : State) → V 0 0 ≡ fin.empty → standing state 0 ≡ Some (Writable, 0) →
    ((n m : ℕ) → n ≡ suc m → standing state n ≡ None) → Shows first_world (λ handle. shown V last 0 (standing state handle))
unfolding nowhere
first_shown V last state empty here others zero =
    shows_insert fin.empty nowhere 0 (named Writable fin.empty) shows_nothing zero ∙ ap (λ m. Some (named Writable m)) (sym empty) ∙ sym (ap (shown V last 0) here)
first_shown V last state empty here others (suc n) =
    shows_insert fin.empty nowhere 0 (named Writable fin.empty) shows_nothing (suc n) ∙ not_zero n ∙ sym (ap (shown V last 0) (others (suc n) n refl))
  where
    not_zero : (n : ℕ) → but nowhere 0 (Some (named Writable fin.empty)) (suc n) ≡ None
    not_zero n = ap (λ b. cond b (Some (named Writable fin.empty)) None) (differs n)
      where
        differs : (n : ℕ) → (suc n == 0) ≡ false
        differs n = grind arith

module _ {limits : Bounds} {states : ℕ → State} {last : ℕ} (r : IsRun limits states last) (V : ℕ → ℕ → KeyMap) (facts : Facts limits states r.records last V) where
  -- the first world shows what the handles show at first
  pub shows_first : Shows first_world (view limits states last V zero)
  shows_first =
      let (n, slots) = two_or_more limits.slots r.limits_ok.0 in
      first_shown V last (states zero) facts.starts
      (ap (λ state. standing state 0) r.first ∙ first_stands limits n slots)
      (λ handle m is. none_stands (standing (states zero) handle) (λ access generation e.
      let zero_handle = first_standing limits handle access generation (ap (λ state. standing state handle) (sym r.first) ∙ e) in
      omega arith))

  -- ---- at the end

  last_named : (handle : ℕ) (o : Option Root) (pairs : List (ℕ × ℕ)) (found : Option HandleState) → found ≡ shown V last last (standing_of (states last).heap o) →
      ((root : Root) → o ≡ Some root → pairs ≡ fin.entries (V (generation_at (states last).heap (root_of root.word)) last)) → Names o pairs found
  last_named handle None pairs found is content = is
  last_named handle (Some root) pairs found is content =
      (V (generation_at (states last).heap (root_of root.word)) last, is ∙ by root.access, sym (content root refl))
    where
      by : (access : Access) → shown V last last (Some (access, generation_at (states last).heap (root_of root.word)))
          ≡ Some (named access (V (generation_at (states last).heap (root_of root.word)) last))
      by Writable = refl
      by ReadOnly = refl

  -- a world that shows what the handles show at the end shows the contents
  pub shows_last : (world : HandleMap) → Shows world (view limits states last V last) → ShowsContents world (states last)
  shows_last world shows handle =
      last_named handle (root_at (states last) handle) (content_at (states last) handle) (fin.get world handle) (shows handle) (λ root is. facts.contents handle root is)
