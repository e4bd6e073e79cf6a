-- CLEAN as a whole.
use Rattle.std.proofs.Common.{◌≡◌, ◌≢◌, ℕ, Bool, true, false, List, refl, ap, ◌∙◌}
use Rattle.trie_words.specs.declared.headers.Header.{Header}
use Rattle.trie_words.specs.declared.headers.Shape.{Shape}
use Rattle.trie_words.specs.declared.headers.Shape.TheVariants as shape
use Rattle.machine_model.specs.Beneath.slot_arena.specs.declared.refs.Ref.{Ref}
use Rattle.machine_model.specs.Beneath.slot_arena.specs.declared.nodes.Node.{Node}
use Rattle.machine_model.specs.Beneath.slot_arena.specs.Refs.{slot_of}
use Rattle.machine_model.specs.declared.actions.Action.TheVariants as act
use Rattle.machine_model.specs.declared.lines.Line.{Line}
use Rattle.machine_model.specs.declared.lines.Line.TheVariants as line
use Rattle.machine_model.specs.declared.reading.ReadLine.TheVariants as read
use Rattle.machine_model.specs.declared.repairs.CleanLine.TheVariants as clean
use Rattle.machine_model.specs.Cleaning.{clean_after_main}
use Rattle.machine_model.specs.Lines.{new_try}
use Rattle.machine_model.specs.Paths.{current}
use Rattle.machine_model.specs.Reading.{reading}
use Rattle.machine_model.specs.States.{State}
use Rattle.lock_free.specs.declared.accounts.Account.{Account}
use Rattle.lock_free.specs.declared.reading.Given.{Given}
use Rattle.lock_free.specs.declared.reading.Passed.TheVariants as passed
use Rattle.lock_free.specs.declared.reading.Way.{Way}
use Rattle.lock_free.specs.declared.rules.View.{View}
use Rattle.lock_free.specs.Holding.{IsOn, HasComeTo}
use Rattle.lock_free.specs.Loading.{now, seen, IsSound, IsAtSlot, HasLookedAtMain}
use Rattle.lock_free.specs.Nodes.{SaysShape, of_branch, of_tomb, of_list}
use Rattle.lock_free.specs.Passing.{KnowsMain, IsOnWay, HasPassed, HasGiven, IsReading}
use Rattle.lock_free.specs.Repairing.{IsBranch, IsAtClean, IsAtCleanedBranch, AgainOrNot, HasCleanedBranch, HasCleanedBelow}
use Rattle.lock_free.specs.Stocks.{Stocked, IsStock}
use Rattle.lock_free.proofs.BecomesOn.{stock_moved}
use Rattle.lock_free.proofs.Followings.{follows_both, follows_later, main_node_on}
use Rattle.lock_free.proofs.GivenBack.{node_is}
use Rattle.lock_free.proofs.Laters.{placed_later, waited_later, went_later}
use Rattle.lock_free.proofs.MainLooks.{branch_says, kind_in}
use Rattle.lock_free.proofs.OnLines.{at_look, moves_on, moved, moved_both, reading_on, given_moved, way_on}
use Rattle.lock_free.specs.declared.leaving.Swapping.{Swapping}
use Rattle.lock_free.specs.declared.reading.ReadFrom.{ReadFrom}
use Rattle.lock_free.specs.Leaving.{Halts, IsRepair, LeavesSwap}
use Rattle.lock_free.proofs.Leavings.{halts_gives, halts_stock, line_may, read_halts}
use Rattle.lock_free.proofs.RunningOn.{runs_on_moved}
use Rattle.lock_free.proofs.SwapsBegun.{leaves_swap_on}
use Rattle.history.specs.declared.replies.Reply.TheVariants as reply

-- ---- what a header says a main node is

module _ (account : Account) (k : ℕ) where
  -- only a branch is cleaned
  stops : (n : Node) (s : Shape) → kind_in s ≢ 0 → SaysShape account k n s → (state : State) (path : List Ref) (main : Ref) → clean_after_main state path main n ≡ new_try
  stops n s other (of_branch b entries) state path main = absurd (other refl)
  stops n s other (of_tomb single own is) state path main = refl
  stops n s other (of_list singles) state path main = refl

pub known_branch : (v : View) (main : Ref) (header : Header) (bitmap : ℕ) → KnowsMain v main header → header.shape ≡ shape.Branch bitmap → IsBranch v main bitmap
known_branch v main header bitmap k is = let b = branch_says v.account (slot_of main) k.slot.node header.shape bitmap is k.is_shape in (k.slot, b.0, k.used, b.1)

-- it ends later than from there
pub again_on : (u v w : View) (l : Line) (result : Bool) → HasComeTo l u v → AgainOrNot v result w → AgainOrNot u result w
again_on u v w l true m e = record {
  follows = follows_both u v w (follows_later u v m.later) e.follows;
  comes = λ o runs. (let x = e.comes (record o { line = l }) (m.comes o runs) in (x.0, x.1));
}
again_on u v w l false m e = record {
  follows = follows_both u v w (follows_later u v m.later) e.follows;
  runs = λ o runs. (let x = e.runs (record o { line = l }) (m.comes o runs) in (x.0, x.1, x.2, x.3));
}

module _ (n : ℕ) (v0 v1 : View) (sound0 : IsSound n v0) (sound1 : IsSound n v1) (name : ℕ) (below : Bool) (is_at : IsAtClean v0 name below) (given : Given) (p : HasPassed v0
    (passed.Gives given) v1) where
  abbrev path : List Ref
  path = is_at.0

  abbrev l0 : Line
  l0 = line.Clean (clean.Read path (reading (current path)))

  abbrev at0 : IsOn v0 l0
  at0 = is_at.1

  is_reading : IsReading v0 (current path) read.Main
  is_reading = reading_on v0 l0 at0 (current path) read.Main refl

  g : HasGiven v0 (current path) given v1
  g = p (current path) read.Main is_reading

  abbrev main : Ref
  main = g.main

  abbrev l1 : Line
  l1 = line.Clean (clean.Main path main)

  come1 : HasComeTo l1 v0 v1
  come1 = given_moved v0 l0 at0 v1 main g.come

  at1 : IsOn v1 l1
  at1 = moves_on v0 l0 at0 v1 l1 come1

  pub below_way : (way : Way) → IsOnWay v0 way → IsOnWay v1 way
  below_way way on = way_on v0 v1 l0 (λ o. l1) way at0 come1 on

  pub below_stock : (stock : Stocked) → IsStock stock v0 → IsStock stock v1
  below_stock stock h = stock_moved n v0 v1 sound0 l0 at0 (λ o. l1) come1 stock h

  pub branch_ready : (bitmap : ℕ) → given.header.shape ≡ shape.Branch bitmap → IsAtCleanedBranch v1 name given.link bitmap below
  branch_ready bitmap is = (
    path,
    main,
    at1,
    record { placed = placed_later v0 v1 come1.later (current path) name is_at.2; link_is = g.link; branch = known_branch v1 main given.header bitmap g.header is },
    is_at.3,
  )

  pub branch_cleaned : (bitmap : ℕ) → given.header.shape ≡ shape.Branch bitmap → (v2 : View) (result : Bool) → HasCleanedBranch v1 result v2 → HasCleanedBelow v0 result v2
  branch_cleaned bitmap is v2 result c q other = again_on v0 v1 v2 l1 result come1 (c path main at1)

  pub branch_left : (s : Swapping) (v2 : View) → LeavesSwap IsRepair v1 s v2 → LeavesSwap IsRepair v0 s v2
  branch_left s v2 h = leaves_swap_on IsRepair v0 v1 v2 s (runs_on_moved v0 v1 (λ o. l1) come1) h

  -- it is no branch any more
  pub main_ready : IsAtSlot v1 act.Look given.link.main.slot
  main_ready = (main, at_look v1 l1 at1 main (λ o. refl), g.link.is.names.place)

  module _ (other : kind_in given.header.shape ≢ 0) (v2 : View) (sound2 : IsSound n v2) (header : Header) (look : HasLookedAtMain v1 header v2) where
    come2 : HasComeTo new_try v1 v2
    come2 =
        let w = look.0 in
        let u = seen v1 w.account in
        let same = main_node_on v1 u (follows_later v1 u (waited_later n v1 sound1 w.account w.waited)) main g.header.slot g.header.used g.header.is_main ∙ node_is (now v1) main
        g.header.slot g.header.used in
        moved v1 l1 at1 v2 (went_later n v1 sound1 n v2 sound2 w) w main (λ o. new_try) (λ o. refl) (λ o. refl)
        (λ o mark runs. ap (clean_after_main (now u) path main) same ∙ stops v1.account (slot_of main) g.header.slot.node given.header.shape other g.header.is_shape (now u) path main)

    pub other_stock : (stock : Stocked) → IsStock stock v0 → IsStock stock v2
    other_stock stock h = stock_moved n v1 v2 sound1 l1 at1 (λ o. new_try) come2 stock (below_stock stock h)

    pub other_cleaned : HasCleanedBelow v0 true v2
    other_cleaned q at =
        let m = moved_both v0 v1 v2 (λ o. l1) (λ o. new_try) (λ o. new_try) (λ o l. refl) come1 come2 in
        record { follows = follows_later v0 v2 m.later; comes = λ o runs. (o.private, m.comes o runs) }

-- its READ is out of tries
module _ (n : ℕ) (v0 : View) (sound0 : IsSound n v0) (name : ℕ) (below : Bool) (is_at : IsAtClean v0 name below) (place : ReadFrom) (v1 : View) (h : HasPassed v0 (passed.Again place) v1) where
  abbrev first_line : Line
  first_line = line.Clean (clean.Read is_at.0 (reading (current is_at.0)))

  spent : Halts (λ o. reply.NoSlots) v0 v1
  spent =
      read_halts (λ o. reply.NoSlots) v0 v1 (current is_at.0) read.Main (reading_on v0 first_line is_at.1 (current is_at.0) read.Main refl) place h
      (line_may (λ o. reply.NoSlots) v0 first_line is_at.1 (λ o. refl))

  pub below_spent_stock : (stock : Stocked) → IsStock stock v0 → IsStock stock v1
  below_spent_stock stock is = halts_stock (λ o. reply.NoSlots) n v0 v1 sound0 first_line is_at.1 spent stock is

  pub below_spent : HasCleanedBelow v0 false v1
  below_spent q other = halts_gives (λ o. reply.NoSlots) v0 v1 spent
