-- What a climb comes to by the look at a branch.
use Rattle.std.specs.Prelude.{◌≡◌, Bool, true, false, refl}
use Rattle.contract.specs.Vocabulary.{Ref, Node, Indirection, Branch, Single, Tomb, List as Listed, bitmap_of, entries_of, Operation, Climb, climb_after_main, climbed, holds_it, State}
use Rattle.contract.specs.Beneath.machine_model.specs.declared.lines.Line.TheVariants as line
use Rattle.contract.specs.Beneath.machine_model.specs.declared.repairs.ClimbLine.TheVariants as climb
use Rattle.contract.specs.Climbing.{IsBranch}

-- the tombed indirection stands in it
pub held : (state : State) (operation : Operation) (c : Climb) (main : Ref) (n : Node) (b : Bool) → b ≡ holds_it state operation c main (bitmap_of n) (entries_of n) → b ≡ true → IsBranch n →
    climb_after_main state operation c main n ≡ line.Climb (climb.Contracted c main)
held state operation c main (Branch bitmap entries) b is h branch = rw (← is, h) refl
held state operation c main (Indirection generation word) b is h branch = absurd branch
held state operation c main (Single k v) b is h branch = absurd branch
held state operation c main (Tomb single) b is h branch = absurd branch
held state operation c main (Listed singles) b is h branch = absurd branch

-- it doesn't
pub missed : (state : State) (operation : Operation) (c : Climb) (main : Ref) (n : Node) (b : Bool) → b ≡ holds_it state operation c main (bitmap_of n) (entries_of n) → b ≡ false → IsBranch n →
    climb_after_main state operation c main n ≡ climbed operation c.former
missed state operation c main (Branch bitmap entries) b is h branch = rw (← is, h) refl
missed state operation c main (Indirection generation word) b is h branch = absurd branch
missed state operation c main (Single k v) b is h branch = absurd branch
missed state operation c main (Tomb single) b is h branch = absurd branch
missed state operation c main (Listed singles) b is h branch = absurd branch
