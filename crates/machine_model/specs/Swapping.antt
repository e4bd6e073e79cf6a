-- SWAP: puts a fresh main node in the place of another, if that one still stands there; and COMPLETE and ROOT, which
-- bring the offer that stands in a root word to its end and give the root.
use Rattle.std.specs.Prelude.{◌==◌, ◌&&◌, Bool, true, false}
use Rattle.history.specs.declared.calls.Access.{Access}
use Rattle.machine_model.specs.Beneath.slot_arena.specs.declared.refs.Ref.{Ref}
use Rattle.machine_model.specs.Beneath.slot_arena.specs.declared.nodes.Prev.{Prev}
use Rattle.machine_model.specs.Beneath.slot_arena.specs.declared.nodes.Prev.TheVariants as prev
use Rattle.machine_model.specs.declared.roots.Descriptor.{Descriptor}
use Rattle.machine_model.specs.declared.roots.RootWord.{RootWord}
use Rattle.machine_model.specs.declared.roots.RootWord.TheVariants.{Plain, Offer}
use Rattle.machine_model.specs.declared.roots.Complete.{Complete}
use Rattle.machine_model.specs.declared.roots.CompleteLine.{CompleteLine}
use Rattle.machine_model.specs.declared.roots.CompleteLine.TheVariants as complete
use Rattle.machine_model.specs.declared.roots.RootLine.{RootLine}
use Rattle.machine_model.specs.declared.roots.RootLine.TheVariants as root
use Rattle.machine_model.specs.declared.reading.After.{After}
use Rattle.machine_model.specs.declared.reading.After.TheVariants.{Goes, Gives}
use Rattle.machine_model.specs.declared.reading.ReadLine.{ReadLine}
use Rattle.machine_model.specs.declared.reading.ReadLine.TheVariants as read
use Rattle.machine_model.specs.declared.reading.Swap.{Swap}
use Rattle.machine_model.specs.declared.reading.SwapLine.{SwapLine}
use Rattle.machine_model.specs.declared.reading.SwapLine.TheVariants as swap
use Rattle.machine_model.specs.declared.actions.Action.{Action}
use Rattle.machine_model.specs.declared.actions.Action.TheVariants as act
use Rattle.machine_model.specs.Beneath.slot_arena.specs.Heaps.{Heap, main_at, prev_at}
use Rattle.machine_model.specs.Reading.{read_action, read_after}

-- ---- SWAP

-- a SWAP at its first line
abbrev pub swapping : Ref → Ref → Ref → Swap
swapping indirection replaced fresh = record { indirection = indirection; replaced = replaced; fresh = fresh; line = swap.Publish }

abbrev pub action_at : Ref → Ref → Ref → SwapLine → Action
action_at indirection replaced fresh swap.Publish = act.Publish indirection replaced fresh
action_at indirection replaced fresh (swap.Deciding line) = read_action indirection line
action_at indirection replaced fresh swap.Check = act.ReadPrev fresh

abbrev pub swap_action : Swap → Action
swap_action s = action_at s.indirection s.replaced s.fresh s.line

-- swapped in, the fresh node is decided; else the SWAP gives false
abbrev pub after_publish : Ref → Bool → After SwapLine Bool
after_publish fresh true = Goes (swap.Deciding (read.Prev fresh))
after_publish fresh false = Gives false

-- whatever the READ gives, the fresh node is decided
abbrev pub after_deciding : After ReadLine Ref → After SwapLine Bool
after_deciding (Goes line) = Goes (swap.Deciding line)
after_deciding (Gives main) = Goes swap.Check

abbrev pub after_check : Prev → After SwapLine Bool
after_check prev.None = Gives true
after_check (prev.Pending previous) = Gives false
after_check (prev.Failed previous) = Gives false

abbrev pub after_swap : Heap → Access → RootWord → Swap → SwapLine → After SwapLine Bool
after_swap heap access word s swap.Publish = after_publish s.fresh (main_at heap s.indirection == s.replaced)
after_swap heap access word s (swap.Deciding line) = after_deciding (read_after heap access word s.indirection line)
after_swap heap access word s swap.Check = after_check (prev_at heap s.fresh)

abbrev pub on_line : Swap → After SwapLine Bool → After Swap Bool
on_line s (Goes line) = Goes (record s { line = line })
on_line s (Gives done) = Gives done

-- what comes after a step of a SWAP
abbrev pub swap_after : Heap → Access → RootWord → Swap → After Swap Bool
swap_after heap access word s = on_line s (after_swap heap access word s s.line)

-- ---- COMPLETE

abbrev pub is_try : Descriptor → Descriptor → Bool
is_try a b = (a.operation == b.operation) && (a.attempt == b.attempt)

-- the offer still stands in the root word
abbrev pub stands_in : RootWord → Descriptor → Bool
stands_in (Plain root) offer = false
stands_in (Offer other) offer = is_try other offer

-- this root stands in the root word, with no offer
abbrev pub is_plain : RootWord → Ref → Bool
is_plain (Plain root) other = root == other
is_plain (Offer offer) other = false

-- a step that completes the offer with this main node carries it out
abbrev pub is_carried_out : RootWord → Descriptor → Ref → Bool
is_carried_out word offer main = stands_in word offer && (main == offer.expected)

-- a COMPLETE at its first line
abbrev pub completing : Descriptor → Complete
completing offer = record { offer = offer; line = complete.Reading read.Main }

abbrev pub complete_action_at : Descriptor → CompleteLine → Action
complete_action_at offer (complete.Reading line) = read_action offer.root line
complete_action_at offer (complete.Swap main) = act.Complete offer main

abbrev pub complete_action : Complete → Action
complete_action c = complete_action_at c.offer c.line

abbrev pub after_reading : After ReadLine Ref → After CompleteLine Bool
after_reading (Goes line) = Goes (complete.Reading line)
after_reading (Gives main) = Goes (complete.Swap main)

abbrev pub after_complete : Heap → Access → RootWord → Descriptor → CompleteLine → After CompleteLine Bool
after_complete heap access word offer (complete.Reading line) = after_reading (read_after heap access word offer.root line)
after_complete heap access word offer (complete.Swap main) = Gives (is_carried_out word offer main)

abbrev pub of_offer : Descriptor → After CompleteLine Bool → After Complete Bool
of_offer offer (Goes line) = Goes (record { offer = offer; line = line })
of_offer offer (Gives done) = Gives done

-- what comes after a step of a COMPLETE; it gives whether that step carried the offer out
abbrev pub complete_after : Heap → Access → RootWord → Complete → After Complete Bool
complete_after heap access word c = of_offer c.offer (after_complete heap access word c.offer c.line)

-- ---- ROOT

abbrev pub root_action : RootLine → Action
root_action root.Read = act.ReadRoot
root_action (root.Completing c) = complete_action c

abbrev pub after_root_word : RootWord → After RootLine Ref
after_root_word (Plain r) = Gives r
after_root_word (Offer offer) = Goes (root.Completing (completing offer))

abbrev pub after_completing : After Complete Bool → After RootLine Ref
after_completing (Goes c) = Goes (root.Completing c)
after_completing (Gives done) = Goes root.Read

-- what comes after a step of a ROOT
abbrev pub root_after : Heap → Access → RootWord → RootLine → After RootLine Ref
root_after heap access word root.Read = after_root_word word
root_after heap access word (root.Completing c) = after_completing (complete_after heap access word c)
