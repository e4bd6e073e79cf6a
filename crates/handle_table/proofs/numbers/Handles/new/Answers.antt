use Rattle.std.proofs.Common.{List, Bool, ℕ, ap₂}
use Rattle.handle_table.proofs.Bits.{none_taken}
use Rattle.handle_table.proofs.numbers.Handles.new.Goals as goal

pub returns : goal.returns
returns c =
    ap₂ (λ (taken : List Bool) (running : List ℕ). record { taken = taken; running = running })
    (none_taken c.in_ok-words.words.items (c.in_ok-words.ensures.items_if_clones_equal (λ y e. e))) (c.in_ok-running.ensures.items_if_clones_equal (λ y e. e))
