-- READ, SWAP, COMPLETE and ROOT go on alike where contents are the same, and the one word that their step names.
use Rattle.std.proofs.Common.{◌≡◌, ℕ, ◌==◌, nat_eq, Option, Some, refl, sym, ap, ◌∙◌}
use Rattle.std.specs.Option.{option_eq}
use Rattle.history.specs.declared.calls.Access.{Access}
use Rattle.machine_model.specs.Beneath.slot_arena.specs.declared.refs.Ref.{Ref}
use Rattle.machine_model.specs.Beneath.slot_arena.specs.declared.nodes.Node.{Node}
use Rattle.machine_model.specs.Beneath.slot_arena.specs.declared.nodes.Node.TheVariants.{Indirection, Branch, Single, Tomb, List as Listed}
use Rattle.machine_model.specs.Beneath.slot_arena.specs.Heaps.{bitmap_of, entries_of, generation_of, node_at, prev_at}
use Rattle.machine_model.specs.declared.reading.After.TheVariants.{Goes, Gives}
use Rattle.machine_model.specs.declared.reading.ReadLine.{ReadLine}
use Rattle.machine_model.specs.declared.reading.ReadLine.TheVariants as read
use Rattle.machine_model.specs.declared.reading.Swap.{Swap}
use Rattle.machine_model.specs.declared.reading.SwapLine.{SwapLine}
use Rattle.machine_model.specs.declared.reading.SwapLine.TheVariants as swap
use Rattle.machine_model.specs.declared.roots.Complete.{Complete}
use Rattle.machine_model.specs.declared.roots.CompleteLine.{CompleteLine}
use Rattle.machine_model.specs.declared.roots.CompleteLine.TheVariants as complete
use Rattle.machine_model.specs.declared.roots.Descriptor.{Descriptor}
use Rattle.machine_model.specs.declared.roots.RootLine.{RootLine}
use Rattle.machine_model.specs.declared.roots.RootLine.TheVariants as root
use Rattle.machine_model.specs.declared.roots.RootWord.{RootWord}
use Rattle.machine_model.specs.declared.roots.RootWord.TheVariants.{Plain, Offer}
use Rattle.machine_model.specs.Building.{key_in}
use Rattle.machine_model.specs.Cleaning.{is_single}
use Rattle.machine_model.specs.States.{State, word_at}
use Rattle.machine_model.specs.Reading.{after_ask, after_decide, after_prev, after_restore, is_licensed, is_pending, read_action, read_after, verdict, verdict_by}
use Rattle.machine_model.specs.Swapping.{action_at, after_check, after_complete, after_completing, after_deciding, after_publish, after_reading, after_root_word, after_swap, complete_action}
use Rattle.machine_model.specs.Swapping.{complete_action_at, complete_after, is_carried_out, of_offer, on_line, root_action, root_after, swap_action, swap_after}
use Rattle.machine_model.specs.Words.{SameContents, SameWord, content_of}

-- what doesn't look at main words is the same of a node without its own
blank_same : {A : Type 0} (f : Node → A) → ((g : ℕ) (m n : Ref) → f (Indirection g m) ≡ f (Indirection g n)) → (node : Node) → f node ≡ f (content_of node)
blank_same f blind (Indirection g m) = blind g m _
blank_same f blind (Branch bitmap entries) = refl
blank_same f blind (Single key value) = refl
blank_same f blind (Tomb single) = refl
blank_same f blind (Listed singles) = refl

module _ (one other : State) (same : SameContents one other) where
  pub by_content : {A : Type 0} (f : Node → A) → ((g : ℕ) (m n : Ref) → f (Indirection g m) ≡ f (Indirection g n)) → (r : Ref) → f (node_at one.heap r) ≡ f (node_at other.heap r)
  by_content f blind r = blank_same f blind (node_at one.heap r) ∙ ap f (same.contents r) ∙ sym (blank_same f blind (node_at other.heap r))

  pub entries : (r : Ref) → entries_of (node_at one.heap r) ≡ entries_of (node_at other.heap r)
  entries = by_content entries_of (λ g m n. refl)

  pub generations : (r : Ref) → generation_of (node_at one.heap r) ≡ generation_of (node_at other.heap r)
  generations = by_content generation_of (λ g m n. refl)

  pub bitmaps : (r : Ref) → bitmap_of (node_at one.heap r) ≡ bitmap_of (node_at other.heap r)
  bitmaps = by_content bitmap_of (λ g m n. refl)

  pub keys : (r : Ref) → key_in (node_at one.heap r) ≡ key_in (node_at other.heap r)
  keys = by_content key_in (λ g m n. refl)

  pub singles : (r : Ref) → is_single (node_at one.heap r) ≡ is_single (node_at other.heap r)
  singles = by_content is_single (λ g m n. refl)

  -- ---- READ

  verdict_same : (i main previous : Ref) (told : Option ℕ) → prev_at one.heap main ≡ prev_at other.heap main →
      verdict one.heap i main previous told ≡ verdict other.heap i main previous told
  verdict_same i main previous told e =
      ap (λ g. verdict_by (option_eq nat_eq told (Some g)) (is_pending (prev_at one.heap main) previous)) (generations i)
      ∙ ap (λ p. verdict_by (is_licensed other.heap i told) (is_pending p previous)) e

  ask_same : (main previous : Ref) (word : RootWord) → after_ask one.heap main previous word ≡ after_ask other.heap main previous word
  ask_same main previous (Plain r) = ap (λ g. Goes (read.Decide main previous (Some g))) (generations r)
  ask_same main previous (Offer offer) = refl

  module _ (handle : ℕ) (access : Access) where
    pub read_same : (i : Ref) (l : ReadLine) → SameWord one other handle (read_action i l) →
        read_after one.heap access (word_at one handle) i l ≡ read_after other.heap access (word_at other handle) i l
    read_same i read.Main e = ap (λ m. Goes (read.Prev m)) e
    read_same i (read.Prev main) e = ap (after_prev access main) e
    read_same i (read.AskRoot main previous) e = ap (after_ask one.heap main previous) e ∙ ask_same main previous (word_at other handle)
    read_same i (read.Abort main previous offer) e = refl
    read_same i (read.Decide main previous told) e = ap (after_decide main) (verdict_same i main previous told e)
    read_same i (read.Restore main previous) e = ap (λ m. after_restore previous (m == main)) e

    -- ---- SWAP, COMPLETE and ROOT

    swap_line_same : (s : Swap) (l : SwapLine) → SameWord one other handle (action_at s.indirection s.replaced s.fresh l) →
        after_swap one.heap access (word_at one handle) s l ≡ after_swap other.heap access (word_at other handle) s l
    swap_line_same s swap.Publish e = ap (λ m. after_publish s.fresh (m == s.replaced)) e
    swap_line_same s (swap.Deciding l) e = ap after_deciding (read_same s.indirection l e)
    swap_line_same s swap.Check e = ap after_check e

    pub swap_same : (s : Swap) → SameWord one other handle (swap_action s) →
        swap_after one.heap access (word_at one handle) s ≡ swap_after other.heap access (word_at other handle) s
    swap_same s e = ap (on_line s) (swap_line_same s s.line e)

    complete_line_same : (offer : Descriptor) (l : CompleteLine) → SameWord one other handle (complete_action_at offer l) →
        after_complete one.heap access (word_at one handle) offer l ≡ after_complete other.heap access (word_at other handle) offer l
    complete_line_same offer (complete.Reading l) e = ap after_reading (read_same offer.root l e)
    complete_line_same offer (complete.Swap main) e = ap (λ w. Gives (is_carried_out w offer main)) e

    pub complete_same : (c : Complete) → SameWord one other handle (complete_action c) →
        complete_after one.heap access (word_at one handle) c ≡ complete_after other.heap access (word_at other handle) c
    complete_same c e = ap (of_offer c.offer) (complete_line_same c.offer c.line e)

    pub root_same : (l : RootLine) → SameWord one other handle (root_action l) →
        root_after one.heap access (word_at one handle) l ≡ root_after other.heap access (word_at other handle) l
    root_same root.Read e = ap after_root_word e
    root_same (root.Completing c) e = ap after_completing (complete_same c e)
