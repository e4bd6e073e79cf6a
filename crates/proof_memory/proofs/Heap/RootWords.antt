-- Root words after a step: what an action puts there is what it wants.
use Rattle.std.proofs.Common.{◌≡◌, ℕ, ◌==◌, Bool, true, false, cond, List, [], Option, Some, None, get_or, set, refl, sym, ap, ◌∙◌, subst, inl, inr}
use Rattle.std.proofs.lemmas.Bool.{cases_eq, cond_both}
use Rattle.std.proofs.lemmas.Option.{none-some, same_Some}
use Rattle.std.proofs.lemmas.List.Elements.{All-head}
use Rattle.proof_memory.specs.Vocabulary.{Call, Ref, Heap, refs_of_option, Action, Root, RootWord, Plain, Offer, Descriptor, handle_of, is_close, State, root_at, with_word, with_root, rewritten}
use Rattle.proof_memory.specs.Vocabulary.{acted, opened, opened_root, carried_out, new_root_taken, if_changed, handle_closed}
use Rattle.machine_model.specs.declared.actions.Action.TheVariants as act
use Rattle.machine_model.proofs.Found.{found_elsewhere, found_here}
use Rattle.proof_memory.specs.Wants.{AnIndirection, Each, Holds, AllHold, word_wants, action_wants}
use Rattle.proof_memory.proofs.Claims.Uses.{Meets, from_meets, all_of}
use Rattle.proof_memory.proofs.Claims.Named.{third_claim, past_third}

rewritten_word : (word : RootWord) (o : Option Root) (root : Root) → rewritten word o ≡ Some root → word ≡ root.word
rewritten_word word None root e = absurd (none-some root e)
rewritten_word word (Some old) root e = ap (λ (r : Root). r.word) (same_Some _ _ e)

-- what an action may put into a root word is so
abbrev pub PutsRight : (RootWord → Type 0) → Action → Type 0
PutsRight P (act.Abort offer) = P (Plain offer.root)
PutsRight P (act.Offer offer) = P (Offer offer)
PutsRight P (act.Complete offer main) = P (Plain offer.root) × P (Plain offer.successor) × ((r : Ref) → offer.second ≡ Some r → P (Plain r))
PutsRight P action = Unit {0}

module _ (P : RootWord → Type 0) where
  -- all root words are so
  abbrev pub AllWords : State → Type 0
  AllWords state = (handle : ℕ) (root : Root) → root_at state handle ≡ Some root → P root.word

  written_words : (xs : List (Option Root)) (at : ℕ) (put : Option Root) → ((k : ℕ) (root : Root) → get_or xs k None ≡ Some root → P root.word) →
      ((root : Root) → put ≡ Some root → P root.word) → (k : ℕ) (root : Root) → get_or (set xs at put) k None ≡ Some root → P root.word
  written_words xs at put old new k root e = elim (cases_eq k at) [
    | inl same ↦ new root (found_here xs at put root (subst (λ i. get_or (set xs at put) i None ≡ Some root) same e))
    | inr other ↦ old k root (sym (found_elsewhere xs at k put other) ∙ e)
  ]

  word_words : (state : State) (at : ℕ) (word : RootWord) → AllWords state → P word → AllWords (with_word state at word)
  word_words state at word h w = written_words state.roots at (rewritten word (root_at state at)) h (λ root e. subst P (rewritten_word word (root_at state at) root e) w)

  root_words : (state : State) (at : ℕ) (root : Root) → AllWords state → P root.word → AllWords (with_root state at (Some root))
  root_words state at root h w = written_words state.roots at (Some root) h (λ found e. subst (λ (r : Root). P r.word) (same_Some _ _ e) w)

  test_words : (b : Bool) (changed same : State) → AllWords changed → AllWords same → AllWords (if_changed b changed same)
  test_words true changed same h g = h
  test_words false changed same h g = g

  opened_word : (offer : Descriptor) (second : Option Ref) → P (Plain offer.root) → ((r : Ref) → second ≡ Some r → P (Plain r)) → P (opened_root offer second).word
  opened_word offer None w h = w
  opened_word offer (Some second) w h = h second refl

  opened_words : (state : State) (offer : Descriptor) (opens : Option ℕ) → AllWords state → P (Plain offer.root) →
      ((r : Ref) → offer.second ≡ Some r → P (Plain r)) → AllWords (opened state offer opens)
  opened_words state offer None h w s = h
  opened_words state offer (Some at) h w s = root_words state at (opened_root offer offer.second) h (opened_word offer offer.second w s)

  completed_words : (state : State) (at : ℕ) (offer : Descriptor) (b : Bool) → AllWords state → PutsRight P (act.Complete offer offer.expected) →
      AllWords (cond b (carried_out state at offer) (with_word state at (Plain offer.root)))
  completed_words state at offer true h w = opened_words (with_word state at (Plain offer.successor)) offer offer.opens (word_words state at (Plain offer.successor) h w.1) w.0 w.2
  completed_words state at offer false h w = word_words state at (Plain offer.root) h w.0

  taken_words : (state : State) (main : Ref) (made : Option Ref) → AllWords state → AllWords (new_root_taken state main made)
  taken_words state main None h = h
  taken_words state main (Some made) h = h

  -- after an action
  pub put_words : (state : State) (at : ℕ) (action : Action) → AllWords state → PutsRight P action → AllWords (acted state at action)
  put_words state at (act.Abort offer) h w = test_words _ _ state (word_words state at (Plain offer.root) h w) h
  put_words state at (act.Offer offer) h w = test_words _ _ state (word_words state at (Offer offer) h w) h
  put_words state at (act.Complete offer main) h w = test_words _ _ state (completed_words state at offer (main == offer.expected) h w) h
  put_words state at (act.MakeRoot main) h w = taken_words state main _ h
  put_words state at action h w = h

  -- a begin leaves them, but for that of the handle that it closes
  pub begin_words : (state : State) (call : Call) → AllWords state → AllWords (handle_closed state call)
  begin_words state call h =
      cond_both (is_close call) _ _ AllWords (λ e. written_words state.roots (handle_of call) None h (λ root e. absurd (none-some root e))) (λ e. h)

module _ (S : Ref → Type 0) (heap : Heap) where
  -- all root words are what they are taken for
  abbrev pub WordsHold : State → Type 0
  WordsHold state = AllWords (λ word. AllHold S heap (word_wants word)) state

  seconds_right : (second : Option Ref) → Holds S heap (Each (refs_of_option second) AnIndirection) → (r : Ref) → second ≡ Some r → AllHold S heap (word_wants (Plain r))
  seconds_right None h r e = absurd (none-some r e)
  seconds_right (Some second) h r e = subst (λ x. AllHold S heap (word_wants (Plain x))) (same_Some _ _ e) (from_meets second (All-head (Meets S heap AnIndirection) second [] (all_of h)), tt)

  puts_right : (action : Action) → AllHold S heap (action_wants action) → PutsRight (λ word. AllHold S heap (word_wants word)) action
  puts_right (act.Abort offer) w = (w.0, tt)
  puts_right (act.Offer offer) w = w
  puts_right (act.Complete offer main) w = ((w.1.0, tt), (third_claim w.1, tt), seconds_right offer.second (past_third w.1).0)
  puts_right action w = tt

  pub acted_words : (state : State) (at : ℕ) (action : Action) → WordsHold state → AllHold S heap (action_wants action) → WordsHold (acted state at action)
  acted_words state at action h w = put_words (λ word. AllHold S heap (word_wants word)) state at action h (puts_right action w)

  pub begun_words : (state : State) (call : Call) → WordsHold state → WordsHold (handle_closed state call)
  begun_words state call h = begin_words (λ word. AllHold S heap (word_wants word)) state call h
