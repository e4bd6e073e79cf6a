-- What comes after each line of a call on one key on a read-only handle.
use Rattle.std.proofs.Common.{◌≡◌, ℕ, ◌+◌, ◌<◌, ◌==◌, ◌&&◌, true, false, List, length, Some, refl, sym, ap, ◌∙◌, subst, ltb-true}
use Rattle.std.specs.Prelude.{nat_lt, nat_le}
use Rattle.std.proofs.lemmas.Bool.{true≢false, cond_both}
use Rattle.proof_obstruction_free.specs.Vocabulary.{ReadOnly, Call, Get, Close, Entries, Count, Reply, has_flag, position_of, Ref, Node, Indirection, Branch, Single, Tomb, List as Listed, node_at}
use Rattle.proof_obstruction_free.specs.Vocabulary.{entry_at, entries_of, Line, Operation, key_of, needs_writable, inserts, when_found, absent_reply, going_down, absent, absent_beside}
use Rattle.proof_obstruction_free.specs.Vocabulary.{absent_listed, found, found_so, after_tomb, key_after_main, passes, is_passable, key_after_entry, after_listed, flag_in, is_start, State}
use Rattle.proof_obstruction_free.specs.Beneath.history.specs.declared.replies.Reply.TheVariants as reply
use Rattle.proof_obstruction_free.specs.Beneath.machine_model.specs.declared.finding.KeyLine.TheVariants as key
use Rattle.proof_obstruction_free.specs.Beneath.machine_model.specs.declared.lines.Line.TheVariants as line
use Rattle.proof_obstruction_free.specs.Keys.{IsOnKey}
use Rattle.proof_obstruction_free.specs.Beneath.machine_model.proofs.Readers.{reader_inserts}

-- the operation reads a key on a read-only handle
pub record IsReader (operation : Operation) : Type 0 where
  pub read_only : operation.access ≡ ReadOnly
  pub on_key : IsOnKey operation.call
  pub reads : needs_writable operation.call ≡ false

-- ---- what comes next

pub data AfterMain (path : List Ref) (main : Ref) : Line → Type 0 where
  ToEntry : (position : ℕ) → AfterMain path main (line.Key (key.Entry path main position))
  ToListed : AfterMain path main (line.Key (key.Listed path main 0))
  MainEnds : (answer : Reply) → AfterMain path main (line.End answer)
  MainFails : AfterMain path main line.Impossible

pub data AfterEntry (path : List Ref) : Line → Type 0 where
  ToBelow : (below : Ref) → AfterEntry path (going_down path below)
  EntryEnds : (answer : Reply) → AfterEntry path (line.End answer)
  EntryFails : AfterEntry path line.Impossible

-- so many singles are looked at
pub data AfterListed (path : List Ref) (main : Ref) (position singles : ℕ) : Line → Type 0 where
  ToNext : position + 1 < singles → AfterListed path main position singles (line.Key (key.Listed path main (position + 1)))
  ListedEnds : (answer : Reply) → AfterListed path main position singles (line.End answer)
  ListedFails : AfterListed path main position singles line.Impossible

-- its key is found: it answers
finds_answer : (call : Call) → IsOnKey call → needs_writable call ≡ false → (v : ℕ) →
    (answer : Reply) × ((state : State) (path : List Ref) (main : Ref) (position : ℕ) → found_so state path main position v (when_found call v) ≡ line.End answer)
finds_answer (Get h k) on e v = (reply.Found (Some v), λ state path main position. refl)
finds_answer (Close h) on e v = absurd on
finds_answer (Entries h) on e v = absurd on
finds_answer (Count h) on e v = absurd on
finds_answer call on e v = absurd (true≢false e)

module _ (state : State) (operation : Operation) (reader : IsReader operation) (path : List Ref) (main : Ref) where
  -- it is absent: the operation answers
  abbrev Answers : Line → Type 0
  Answers l = (answer : Reply) × (l ≡ line.End answer)

  absent_so : Answers (absent operation path main)
  absent_so = cond_both (inserts operation.call) _ _ Answers (λ e. absurd (true≢false (sym e ∙ reader_inserts operation.call reader.reads))) (λ e. (absent_reply operation.call, refl))

  beside_so : (position : ℕ) → Answers (absent_beside operation path main position)
  beside_so position = cond_both (inserts operation.call) _ _ Answers (λ e. absurd (true≢false (sym e ∙ reader_inserts operation.call reader.reads))) (λ e. (absent_reply operation.call, refl))

  listed_so : (singles : ℕ) → Answers (absent_listed operation path main singles)
  listed_so singles = cond_both (inserts operation.call && nat_le 32 singles) _ _ Answers (λ e. (reply.Crowded, refl)) (λ e. absent_so)

  found_answers : (position v : ℕ) → Answers (found state operation path main position v)
  found_answers position v = let (answer, is) = finds_answer operation.call reader.on_key reader.reads v in (answer, is state path main position)

  ends_as : (P : Line → Type 0) → ((answer : Reply) → P (line.End answer)) → (l : Line) → Answers l → P l
  ends_as P ends l (answer, is) = subst P (sym is) (ends answer)

  pub after_main : (n : Node) → AfterMain path main (key_after_main state operation path main n)
  after_main (Branch bitmap entries) =
      cond_both (has_flag bitmap (flag_in state operation path)) _ _ (AfterMain path main) (λ e. ToEntry (position_of (flag_in state operation path) bitmap))
      (λ e. ends_as (AfterMain path main) MainEnds _ absent_so)
  after_main (Tomb single) = subst (λ x. AfterMain path main (after_tomb x path main)) (sym reader.read_only) ToListed
  after_main (Listed singles) = ToListed
  after_main (Indirection g m) = MainFails
  after_main (Single k v) = MainFails

  passable : (g : ℕ) → is_passable operation g ≡ true
  passable g = ap (λ x. passes x (is_start operation g)) reader.read_only

  pub after_entry : (position : ℕ) (n : Node) → AfterEntry path (key_after_entry state operation path main position n)
  after_entry position (Indirection g m) =
      cond_both (is_passable operation g) _ _ (AfterEntry path) (λ e. ToBelow (entry_at state.heap main position)) (λ e. absurd (true≢false (sym (passable g) ∙ e)))
  after_entry position (Single k v) =
      cond_both (k == key_of operation.call) _ _ (AfterEntry path) (λ e. ends_as (AfterEntry path) EntryEnds _ (found_answers position v))
      (λ e. ends_as (AfterEntry path) EntryEnds _ (beside_so position))
  after_entry position (Branch bitmap entries) = EntryFails
  after_entry position (Tomb single) = EntryFails
  after_entry position (Listed singles) = EntryFails

  pub after_single : (position : ℕ) (n : Node) → AfterListed path main position (length (entries_of (node_at state.heap main))) (after_listed state operation path main position n)
  after_single position (Single k v) =
      let singles = length (entries_of (node_at state.heap main)) in
      let P = AfterListed path main position singles in
      cond_both (k == key_of operation.call) _ _ P (λ e. ends_as P ListedEnds _ (found_answers position v))
      (λ e. cond_both (nat_lt (position + 1) singles) _ _ P (λ more. ToNext (ltb-true _ _ more)) (λ done. ends_as P ListedEnds _ (listed_so singles)))
  after_single position (Indirection g m) = ListedFails
  after_single position (Branch bitmap entries) = ListedFails
  after_single position (Tomb single) = ListedFails
  after_single position (Listed singles) = ListedFails
