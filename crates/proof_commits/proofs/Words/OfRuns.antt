-- The words of a machine's run, and what its steps do to them.
use Rattle.std.proofs.Common.{◌≡◌, ℕ, suc, ◌⊎◌, true, Option, Some, None, option_map, inl, inr, refl, sym, ◌∙◌, ap}
use Rattle.std.specs.Prelude.{is_some}
use Rattle.std.proofs.lemmas.Bool.{cases_eq, true≢false}
use Rattle.proof_commits.specs.Vocabulary.{Ref, Node, Indirection, Branch, Single, Tomb, List as Listed, Prev, Slot, node_of, prev_of, main_of, generation_of, with_main_word, main_changed}
use Rattle.proof_commits.specs.Vocabulary.{prev_changed, State, grown, node_under, main_word, prev_word, Record}
use Rattle.proof_commits.specs.Beneath.slot_arena.specs.declared.nodes.Prev.TheVariants as over
use Rattle.proof_commits.specs.Protocol.{Words, Kept, Written, MakesNothing, Leaves, Makes, SwapsIn, PutsBack, CommitsNode, FailsNode}
use Rattle.proof_commits.proofs.Known.Given.{GrownStays, GrownChanges, GrownSwaps, GrownTakes}
use Rattle.proof_memory.specs.Wants.{is_indirection, is_branch_or_list}
use Rattle.proof_commits.specs.Words.{words_of}
use Rattle.proof_commits.specs.Beneath.machine_model.proofs.Slots.{change_kept}

-- ---- a slot with another main word, or another prev word

pub main_written : (x : Ref) (n : Node) → is_indirection n ≡ true → main_of (with_main_word x n) ≡ x
main_written x (Indirection g y) e = refl
main_written x (Branch b es) e = absurd (true≢false (sym e))
main_written x (Single k v) e = absurd (true≢false (sym e))
main_written x (Tomb s) e = absurd (true≢false (sym e))
main_written x (Listed s) e = absurd (true≢false (sym e))

pub link_kept : (x : Ref) (n : Node) → is_indirection (with_main_word x n) ≡ is_indirection n
link_kept x (Indirection g y) = refl
link_kept x n = refl

generation_kept : (x : Ref) (n : Node) → generation_of (with_main_word x n) ≡ generation_of n
generation_kept x (Indirection g y) = refl
generation_kept x n = refl

solid_kept : (x : Ref) (n : Node) → is_branch_or_list (with_main_word x n) ≡ is_branch_or_list n
solid_kept x (Indirection g y) = refl
solid_kept x n = refl

-- of what stands under a reference
pub link_made : (o : Option Slot) → is_indirection (node_of o) ≡ true → is_some o ≡ true
link_made None e = absurd (true≢false (sym e))
link_made (Some slot) e = refl

pub slot_main : (x : Ref) (o : Option Slot) → is_indirection (node_of o) ≡ true → main_of (node_of (option_map (main_changed x) o)) ≡ x
slot_main x None e = absurd (true≢false (sym e))
slot_main x (Some slot) e = main_written x slot.node e

pub slot_main_link : (x : Ref) (o : Option Slot) → is_indirection (node_of (option_map (main_changed x) o)) ≡ is_indirection (node_of o)
slot_main_link x None = refl
slot_main_link x (Some slot) = link_kept x slot.node

pub slot_main_prev : (x : Ref) (o : Option Slot) → prev_of (option_map (main_changed x) o) ≡ prev_of o
slot_main_prev x None = refl
slot_main_prev x (Some slot) = refl

pub slot_prev : (v : Prev) (o : Option Slot) → is_some o ≡ true → prev_of (option_map (prev_changed v) o) ≡ v
slot_prev v None e = absurd (true≢false (sym e))
slot_prev v (Some slot) e = refl

pub slot_prev_node : (v : Prev) (o : Option Slot) → node_of (option_map (prev_changed v) o) ≡ node_of o
slot_prev_node v None = refl
slot_prev_node v (Some slot) = refl

pub slot_generation : (x : Ref) (o : Option Slot) → generation_of (node_of (option_map (main_changed x) o)) ≡ generation_of (node_of o)
slot_generation x None = refl
slot_generation x (Some slot) = generation_kept x slot.node

pub slot_solid : (x : Ref) (o : Option Slot) → is_branch_or_list (node_of (option_map (main_changed x) o)) ≡ is_branch_or_list (node_of o)
slot_solid x None = refl
slot_solid x (Some slot) = solid_kept x slot.node

-- ---- what the steps do to words

module _ (states : ℕ → State) (records : ℕ → Record) (last : ℕ) (closing : ℕ → Option ℕ) (t : ℕ) where
  abbrev w : Words
  w = words_of states records last closing

  pub leaves_words : GrownStays states t → Kept (w.commit t) (w.commit (suc t)) → Leaves w t
  leaves_words e c = record {
    main = λ r. ap (λ o. main_of (node_of o)) (e r);
    prev = λ r. ap prev_of (e r);
    makes = record { made = λ r. ap is_some (e r); link = λ r. ap (λ o. is_indirection (node_of o)) (e r) };
    commit = c;
  }

  -- by where the change is
  changes_by : (change : Slot → Slot) (r : Ref) → GrownChanges states t change r → {X : Type 0} (f : Option Slot → X) → ((o : Option Slot) → f (option_map change o) ≡ f o) → (q : Ref) →
      (q ≡ r) ⊎ (q ≡ r → ⊥) → f (grown states (suc t) q) ≡ f (grown states t q)
  changes_by change r e f same q (inl is) = ap (λ x. f (grown states (suc t) x)) is ∙ ap f e.here ∙ same (grown states t r) ∙ ap (λ x. f (grown states t x)) (sym is)
  changes_by change r e f same q (inr apart) = ap f (e.elsewhere q apart)

  -- what the change leaves
  changes_kept : (change : Slot → Slot) (r : Ref) → GrownChanges states t change r → {X : Type 0} (f : Option Slot → X) → ((o : Option Slot) → f (option_map change o) ≡ f o) → (q : Ref) →
      f (grown states (suc t) q) ≡ f (grown states t q)
  changes_kept change r e f same q = changes_by change r e f same q (cases_eq q r)

  prev_makes : (v : Prev) (m : Ref) → GrownChanges states t (prev_changed v) m → MakesNothing w t
  prev_makes v m e = record {
    made = changes_kept (prev_changed v) m e is_some (change_kept (prev_changed v));
    link = changes_kept (prev_changed v) m e (λ o. is_indirection (node_of o)) (λ o. ap is_indirection (slot_prev_node v o));
  }

  prev_main : (v : Prev) (m : Ref) → GrownChanges states t (prev_changed v) m → Kept (w.main t) (w.main (suc t))
  prev_main v m e = changes_kept (prev_changed v) m e (λ o. main_of (node_of o)) (λ o. ap main_of (slot_prev_node v o))

  prev_written : (v : Prev) (m : Ref) → is_some (grown states t m) ≡ true → GrownChanges states t (prev_changed v) m → Written (w.prev t) (w.prev (suc t)) m v
  prev_written v m is e = record { here = ap prev_of e.here ∙ slot_prev v (grown states t m) is; elsewhere = λ q apart. ap prev_of (e.elsewhere q apart) }

  pub commits_words : (m p : Ref) → is_some (grown states t m) ≡ true → w.prev t m ≡ over.Pending p → GrownChanges states t (prev_changed over.None) m →
      (w.commit t m ≡ None → w.commit (suc t) m ≡ Some t) → ((q : Ref) → (q ≡ m → ⊥) → w.commit (suc t) q ≡ w.commit t q) → CommitsNode w t m p
  commits_words m p is was e c others = record {
    was = was;
    prev = prev_written over.None m is e;
    main = prev_main over.None m e;
    makes = prev_makes over.None m e;
    commit = c;
    commits_elsewhere = others;
  }

  pub fails_words : (m p : Ref) → is_some (grown states t m) ≡ true → w.prev t m ≡ over.Pending p → GrownChanges states t (prev_changed (over.Failed p)) m →
      Kept (w.commit t) (w.commit (suc t)) → FailsNode w t m p
  fails_words m p is was e c = record {
    was = was;
    prev = prev_written (over.Failed p) m is e;
    main = prev_main (over.Failed p) m e;
    makes = prev_makes (over.Failed p) m e;
    commit = c;
  }

  pub puts_back_words : (i m p : Ref) → is_indirection (node_under states t i) ≡ true → w.main t i ≡ m → GrownChanges states t (main_changed p) i →
      Kept (w.commit t) (w.commit (suc t)) → PutsBack w t i m p
  puts_back_words i m p l is e c = record {
    stood = is;
    main = record { here = ap (λ o. main_of (node_of o)) e.here ∙ slot_main p (grown states t i) l; elsewhere = λ q apart. ap (λ o. main_of (node_of o)) (e.elsewhere q apart) };
    prev = changes_kept (main_changed p) i e prev_of (slot_main_prev p);
    makes = record {
      made = changes_kept (main_changed p) i e is_some (change_kept (main_changed p));
      link = changes_kept (main_changed p) i e (λ o. is_indirection (node_of o)) (slot_main_link p);
    };
    commit = c;
  }

  -- a fresh node is swapped in; it is no indirection
  swaps_by : (i a f : Ref) → GrownSwaps states t i a f → {X : Type 0} (g : Option Slot → X) → ((o : Option Slot) → g (option_map (main_changed f) o) ≡ g o) →
      ((o : Option Slot) → g (option_map (prev_changed (over.Pending a)) o) ≡ g o) → (q : Ref) → (q ≡ i) ⊎ (q ≡ i → ⊥) → (q ≡ f) ⊎ (q ≡ f → ⊥) →
      g (grown states (suc t) q) ≡ g (grown states t q)
  swaps_by i a f e g same_main same_prev q (inl is) other =
      ap (λ x. g (grown states (suc t) x)) is ∙ ap g e.main ∙ same_main (grown states t i) ∙ ap (λ x. g (grown states t x)) (sym is)
  swaps_by i a f e g same_main same_prev q (inr apart) (inl is) =
      ap (λ x. g (grown states (suc t) x)) is ∙ ap g e.prev ∙ same_prev (grown states t f) ∙ ap (λ x. g (grown states t x)) (sym is)
  swaps_by i a f e g same_main same_prev q (inr apart) (inr other) = ap g (e.elsewhere q apart other)

  swaps_kept : (i a f : Ref) → GrownSwaps states t i a f → {X : Type 0} (g : Option Slot → X) → ((o : Option Slot) → g (option_map (main_changed f) o) ≡ g o) →
      ((o : Option Slot) → g (option_map (prev_changed (over.Pending a)) o) ≡ g o) → (q : Ref) → g (grown states (suc t) q) ≡ g (grown states t q)
  swaps_kept i a f e g same_main same_prev q = swaps_by i a f e g same_main same_prev q (cases_eq q i) (cases_eq q f)

  -- elsewhere no main word changes, and no prev word
  swaps_main_by : (i a f : Ref) → GrownSwaps states t i a f → (q : Ref) → (q ≡ i → ⊥) → (q ≡ f) ⊎ (q ≡ f → ⊥) → w.main (suc t) q ≡ w.main t q
  swaps_main_by i a f e q apart (inl is) =
      ap (λ x. main_word states (suc t) x) is ∙ ap (λ o. main_of (node_of o)) e.prev ∙ ap main_of (slot_prev_node (over.Pending a) (grown states t f))
      ∙ ap (λ x. main_word states t x) (sym is)
  swaps_main_by i a f e q apart (inr other) = ap (λ o. main_of (node_of o)) (e.elsewhere q apart other)

  swaps_prev_by : (i a f : Ref) → GrownSwaps states t i a f → (q : Ref) → (q ≡ f → ⊥) → (q ≡ i) ⊎ (q ≡ i → ⊥) → w.prev (suc t) q ≡ w.prev t q
  swaps_prev_by i a f e q other (inl is) =
      ap (λ x. prev_word states (suc t) x) is ∙ ap prev_of e.main ∙ slot_main_prev f (grown states t i) ∙ ap (λ x. prev_word states t x) (sym is)
  swaps_prev_by i a f e q other (inr apart) = ap prev_of (e.elsewhere q apart other)

  pub swaps_words : (i a f : Ref) → is_indirection (node_under states t i) ≡ true → is_some (grown states t f) ≡ true → w.main t i ≡ a → GrownSwaps states t i a f →
      Kept (w.commit t) (w.commit (suc t)) → SwapsIn w t i a f
  swaps_words i a f l is stood e c = record {
    stood = stood;
    main = record { here = ap (λ o. main_of (node_of o)) e.main ∙ slot_main f (grown states t i) l; elsewhere = λ q apart. swaps_main_by i a f e q apart (cases_eq q f) };
    prev = record { here = ap prev_of e.prev ∙ slot_prev (over.Pending a) (grown states t f) is; elsewhere = λ q other. swaps_prev_by i a f e q other (cases_eq q i) };
    makes = record {
      made = swaps_kept i a f e is_some (change_kept (main_changed f)) (change_kept (prev_changed (over.Pending a)));
      link = swaps_kept i a f e (λ o. is_indirection (node_of o)) (slot_main_link f) (λ o. ap is_indirection (slot_prev_node (over.Pending a) o));
    };
    commit = c;
  }

  takes_prev_by : (n : Ref) (node : Node) → GrownTakes states t n node → (q : Ref) → (q ≡ n) ⊎ (q ≡ n → ⊥) → w.prev (suc t) q ≡ w.prev t q
  takes_prev_by n node e q (inl is) = ap (λ x. prev_word states (suc t) x) is ∙ ap prev_of e.here ∙ sym (ap prev_of e.new) ∙ ap (λ x. prev_word states t x) (sym is)
  takes_prev_by n node e q (inr apart) = ap prev_of (e.elsewhere q apart)

  pub makes_words : (n : Ref) (node : Node) → GrownTakes states t n node → Kept (w.commit t) (w.commit (suc t)) → Makes w t n
  makes_words n node e c = record {
    was_unmade = ap is_some e.new;
    was_no_link = ap (λ o. is_indirection (node_of o)) e.new;
    is_made = ap is_some e.here;
    made = λ q apart. ap is_some (e.elsewhere q apart);
    link = λ q apart. ap (λ o. is_indirection (node_of o)) (e.elsewhere q apart);
    main = λ q apart. ap (λ o. main_of (node_of o)) (e.elsewhere q apart);
    prev = λ q. takes_prev_by n node e q (cases_eq q n);
    prev_none = ap prev_of e.new;
    commit = c;
  }

  -- what is made then is this node
  pub takes_node : (n : Ref) (node : Node) → GrownTakes states t n node → node_under states (suc t) n ≡ node
  takes_node n node e = ap node_of e.here
