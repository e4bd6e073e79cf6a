-- WALK reads the root of its handle.
use Rattle.std.proofs.Common.{◌≡◌, ℕ, [], Some, ap, ◌∙◌}
use Rattle.machine_model.specs.Beneath.slot_arena.specs.declared.refs.Ref.{Ref}
use Rattle.machine_model.specs.declared.lines.Line.{Line}
use Rattle.machine_model.specs.declared.lines.Line.TheVariants as line
use Rattle.machine_model.specs.declared.operations.Operation.{Operation}
use Rattle.machine_model.specs.declared.roots.RootWord.TheVariants.{Plain}
use Rattle.machine_model.specs.declared.walking.WalkLine.TheVariants as walk
use Rattle.machine_model.specs.Acting.{operation_after}
use Rattle.machine_model.specs.Calls.{handle_of}
use Rattle.machine_model.specs.Operations.{line_action}
use Rattle.machine_model.specs.Reading.{reading}
use Rattle.machine_model.specs.States.{State, root_of, word_at, word_of}
use Rattle.lock_free.specs.declared.reading.Way.{Way}
use Rattle.lock_free.specs.declared.rules.View.{View}
use Rattle.lock_free.specs.Entries.{HasStayed}
use Rattle.lock_free.specs.Loading.{now, seen, IsSound, Runs, Saw}
use Rattle.lock_free.specs.Passing.{IsOnWay}
use Rattle.lock_free.specs.RootWords.{AsksAt, HasFoundRoot}
use Rattle.lock_free.specs.Walks.{HasFoundStart, HasLookedForRoot, IsAtStart}
use Rattle.lock_free.proofs.CleanBranches.{stay_moves}
use Rattle.lock_free.proofs.Laters.{later_self, went_later}
use Rattle.lock_free.proofs.OnLines.{line_is, stayed_moved, stays_on, way_on}
use Rattle.lock_free.proofs.Rootings.{stayed_both, stayed_saw}

abbrev pub first_line : Line
first_line = line.Walk walk.Root

-- the line once that was the root
abbrev pub reads_from : Ref → Line
reads_from r = line.Walk (walk.Read (reading r) [] [])

pub asks_start : (v : View) (way : Way) → IsAtStart v → IsOnWay v way → AsksAt v way.handle
asks_start v way (p, (mark, runs), is) on = record {
  acts = record { operation = record p { is_marked = mark }; runs = runs; acts = ap (line_action (now v) (record p { is_marked = mark })) is };
  on = (on p (mark, runs)).1;
}

pub first_start : (n : ℕ) (way : Way) (v : View) → IsSound n v → IsOnWay v way → IsAtStart v → HasLookedForRoot n way v v
first_start n way v sound on at = record { sound = sound; on = on; at = at; stayed = record { later = later_self v; comes = λ o r. r } }

pub start_seen : (n : ℕ) (way : Way) (u v w : View) → HasLookedForRoot n way u v → IsSound n w → Saw v w → HasLookedForRoot n way u w
start_seen n way u v w h sound s =
    let stayed : HasStayed v w = stayed_saw n v w h.sound s in
    record {
      sound = sound;
      on = way_on v w first_line (λ o. first_line) way h.at (stay_moves v w first_line h.at stayed) h.on;
      at = stays_on v first_line h.at w stayed;
      stayed = stayed_both u v w h.stayed stayed;
    }

start_step : (state : State) (o : Operation) (r : Ref) → word_at state (handle_of o.call) ≡ Plain r → operation_after state (record o { line = first_line }) ≡ record o { line = reads_from r }
start_step state o r is = ap (λ w. record o { line = reads_from (root_of w) }) is

module _ (n : ℕ) (v : View) (sound : IsSound n v) (way : Way) (at : IsAtStart v) (on : IsOnWay v way) (slot : ℕ) (w : View) (then : IsSound n w) (found : HasFoundRoot v way.handle slot w) where
  abbrev state : State
  state = now (seen v found.went.account)

  comes_by : (o : Operation) → Runs v o → Runs w (record o { line = reads_from found.root })
  comes_by o (mark, runs) =
      let there = found.went.waited.stays (record o { is_marked = mark }) runs in
      let o_there : Operation = record o { is_marked = there.0 } in
      let word_is : word_at state (handle_of o.call) ≡ Plain found.root = ap (word_at state) (on o (mark, runs)).1 ∙ ap word_of found.is in
      let leads = ap (λ (x : Line). operation_after state (record o_there { line = x })) (line_is v first_line at o (mark, runs)) ∙ start_step state o_there found.root word_is in
      (there.0, found.went.took o_there there.1 ∙ ap Some leads)

  pub found_start : (u : View) → HasStayed u v → HasFoundStart u slot w
  found_start u stayed = (
    found.root,
    stayed_moved u v w (λ o. reads_from found.root) stayed (record { later = went_later n v sound n w then found.went; comes = comes_by }),
    ((found.at.slot, found.at.used), found.at.place),
  )
