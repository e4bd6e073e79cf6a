-- A SWAP comes from line to line.
use Rattle.std.proofs.Common.{◌≡◌, ◌≢◌, ◌==◌, ℕ, Bool, true, false, List, [], refl, sym, ap, subst, ◌∙◌}
use Rattle.trie_words.specs.declared.headers.Previous.{Previous}
use Rattle.trie_words.specs.declared.headers.Previous.TheVariants as previous
use Rattle.machine_model.specs.Beneath.slot_arena.specs.declared.refs.Ref.{Ref}
use Rattle.machine_model.specs.Beneath.slot_arena.specs.declared.nodes.Node.{Node}
use Rattle.machine_model.specs.Beneath.slot_arena.specs.declared.nodes.Node.TheVariants.{Indirection, Branch, Single, Tomb, List as Listed}
use Rattle.machine_model.specs.Beneath.slot_arena.specs.declared.nodes.Prev.{Prev}
use Rattle.machine_model.specs.Beneath.slot_arena.specs.declared.nodes.Prev.TheVariants as prev
use Rattle.machine_model.specs.Beneath.slot_arena.specs.Heaps.{node_at, main_at, prev_at}
use Rattle.machine_model.specs.Beneath.slot_arena.specs.Refs.{slot_of}
use Rattle.machine_model.specs.declared.lines.Purpose.{Purpose}
use Rattle.machine_model.specs.declared.lines.Purpose.TheVariants as purpose
use Rattle.machine_model.specs.declared.lines.Line.{Line}
use Rattle.machine_model.specs.declared.lines.Line.TheVariants as line
use Rattle.machine_model.specs.declared.reading.After.TheVariants.{Gives}
use Rattle.machine_model.specs.declared.reading.ReadLine.TheVariants as read
use Rattle.machine_model.specs.declared.reading.SwapLine.{SwapLine}
use Rattle.machine_model.specs.declared.reading.SwapLine.TheVariants as swap
use Rattle.machine_model.specs.declared.operations.Operation.{Operation}
use Rattle.machine_model.specs.Acting.{operation_after}
use Rattle.machine_model.specs.Operations.{swapped, after_swap}
use Rattle.machine_model.specs.Swapping.{after_publish, after_check, on_line}
use Rattle.machine_model.specs.States.{State}
use Rattle.lock_free.specs.declared.accounts.Account.{Account}
use Rattle.lock_free.specs.Nodes.{IsAhead, SaysPrevious, decided, ahead, pending, failed}
use Rattle.lock_free.specs.Swaps.{swap_on, swap_done}

abbrev pub is_none : Prev → Bool
is_none prev.None = true
is_none p = false

pub not_none : (account : Account) (state : State) (k : ℕ) (p : Prev) (says : Previous) → says ≢ previous.None → ((j b c : Ref) → IsAhead state j b c → slot_of c ≢ k) →
    SaysPrevious account state k p says → is_none p ≡ false
not_none account state k p says isnt met (decided nobody) = absurd (isnt refl)
not_none account state k p says isnt met (ahead i b c own h its owned) = absurd (met i b c h its)
not_none account state k p says isnt met (pending q own over) = refl
not_none account state k p says isnt met (failed q own over) = refl

check_gives : (p : Prev) → after_check p ≡ Gives (is_none p)
check_gives prev.None = refl
check_gives (prev.Pending q) = refl
check_gives (prev.Failed q) = refl

module _ (why : Purpose) (i a f : Ref) where
  abbrev at_line : SwapLine → Line
  at_line x = line.Swap why (record { indirection = i; replaced = a; fresh = f; line = x })

  -- what comes after it goes by the call alone
  pub same_call : (p : Purpose) (node : Node) (done : Bool) (o : Operation) (private : List Ref) (l : Line) (mark : Bool) →
      swapped (record o { private = private; line = l; is_marked = mark }) node p done ≡ swapped o node p done
  same_call (purpose.Update path former) (Tomb single) true o private l mark = refl
  same_call (purpose.Update path former) (Indirection g m) true o private l mark = refl
  same_call (purpose.Update path former) (Branch b es) true o private l mark = refl
  same_call (purpose.Update path former) (Single k v) true o private l mark = refl
  same_call (purpose.Update path former) (Listed ss) true o private l mark = refl
  same_call (purpose.Update path former) node false o private l mark = refl
  same_call (purpose.Renew path) node true o private l mark = refl
  same_call (purpose.Renew path) node false o private l mark = refl
  same_call purpose.Clean node done o private l mark = refl
  same_call (purpose.Climb c) (Tomb single) true o private l mark = refl
  same_call (purpose.Climb c) (Indirection g m) true o private l mark = refl
  same_call (purpose.Climb c) (Branch b es) true o private l mark = refl
  same_call (purpose.Climb c) (Single k v) true o private l mark = refl
  same_call (purpose.Climb c) (Listed ss) true o private l mark = refl
  same_call (purpose.Climb c) node false o private l mark = refl

  -- it swaps the fresh node in, or doesn't
  abbrev published : State → Operation → Bool → Bool → Operation
  published state o mark stood =
      record o {
        private = [];
        is_marked = mark;
        line = after_swap state (record o { is_marked = mark; line = at_line swap.Publish }) why
            (record { indirection = i; replaced = a; fresh = f; line = swap.Publish }) (on_line (record { indirection = i; replaced = a; fresh = f; line = swap.Publish }) (after_publish f stood));
      }

  first_step : (state : State) (o : Operation) (mark stood : Bool) → o.line ≡ at_line swap.Publish → (main_at state.heap i == a) ≡ stood → operation_after state
      (record o { is_marked = mark }) ≡ published state o mark stood
  first_step state o mark stood is hits =
      subst (λ l. operation_after state (record o { is_marked = mark; line = l }) ≡ published state o mark stood) (sym is) (ap (published state o mark) hits)

  pub publishes : (state : State) (o : Operation) (mark : Bool) → o.line ≡ at_line swap.Publish → (main_at state.heap i == a) ≡ true →
      operation_after state (record o { is_marked = mark }) ≡ record (swap_on why i a f (swap.Deciding (read.Prev f)) o) { is_marked = mark }
  publishes state o mark is hits = first_step state o mark true is hits

  pub misses : (state : State) (o : Operation) (mark : Bool) → o.line ≡ at_line swap.Publish → (main_at state.heap i == a) ≡ false →
      operation_after state (record o { is_marked = mark }) ≡ record (swap_done why (node_at state.heap f) false o) { is_marked = mark }
  misses state o mark is hits =
      first_step state o mark false is hits ∙ ap (λ l. record o { private = []; is_marked = mark; line = l }) (same_call why (node_at state.heap f) false o o.private (at_line swap.Publish) mark)

  -- its fresh node is decided
  pub checks : (state : State) (o : Operation) (mark : Bool) (done : Bool) → is_none (prev_at state.heap f) ≡ done →
      operation_after state (record (swap_on why i a f swap.Check o) { is_marked = mark }) ≡ record (swap_done why (node_at state.heap f) done o) { is_marked = mark }
  checks state o mark done is =
      ap (λ z. record o {
        private = [];
        is_marked = mark;
        line = after_swap state (record (swap_on why i a f swap.Check o) { is_marked = mark }) why
            (record { indirection = i; replaced = a; fresh = f; line = swap.Check }) (on_line (record { indirection = i; replaced = a; fresh = f; line = swap.Check }) z);
      })
      (check_gives (prev_at state.heap f) ∙ ap Gives is)
      ∙ ap (λ l. record o { private = []; is_marked = mark; line = l }) (same_call why (node_at state.heap f) done o [] (at_line swap.Check) mark)
