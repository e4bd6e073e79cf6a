-- KEY passes a level, and goes from level to level.
use Rattle.std.proofs.Common.{◌≡◌, ◌<◌, ◌-◌, ℕ, zero, suc, get_or, length, List, [], ◌∷◌, ◌++◌, refl, sym, ap, subst, ◌∙◌, arith}
use Rattle.std.proofs.lemmas.List.{length-append, get_or_push}
use Rattle.machine_model.specs.Beneath.ctrie_base.specs.Hashes.{hash_of}
use Rattle.machine_model.specs.Beneath.slot_arena.specs.declared.refs.Ref.{Ref}
use Rattle.machine_model.specs.Beneath.slot_arena.specs.Heaps.{no_ref}
use Rattle.machine_model.specs.declared.finding.KeyLine.TheVariants as key
use Rattle.machine_model.specs.declared.lines.Line.{Line}
use Rattle.machine_model.specs.declared.lines.Line.TheVariants as line
use Rattle.machine_model.specs.Calls.{key_of}
use Rattle.machine_model.specs.Finding.{after_tomb, going_down}
use Rattle.machine_model.specs.Paths.{current}
use Rattle.machine_model.specs.Reading.{reading}
use Rattle.nodes.specs.Levels.{flag_of}
use Rattle.lock_free.specs.declared.finding.Turn.{Turn}
use Rattle.lock_free.specs.declared.finding.Turn.TheVariants as turn
use Rattle.lock_free.specs.declared.reading.Given.{Given}
use Rattle.lock_free.specs.declared.rules.View.{View}
use Rattle.lock_free.specs.declared.tasks.Task.{Task}
use Rattle.lock_free.specs.Descending.{IsTask, AreAt, IsOnPath, IsPlace, IsHere, IsAtEntry, IsAtList, IsAtTomb, HasGoneBelow, IsDescending}
use Rattle.lock_free.specs.GoingDown.{IsAtKey, HasMoved, IsFlag, IsAtLink, IsWithin, Tells, line_at, HasReadTurn, HasReadKey}
use Rattle.lock_free.specs.Holding.{IsOn}
use Rattle.lock_free.specs.Passing.{IsPlaced}
use Rattle.lock_free.proofs.Descents.{are_at_later, as_long, task_moved, moved_self}
use Rattle.lock_free.proofs.KeyMoves.{moved_on}
use Rattle.lock_free.proofs.OnLines.{moved_so, moves_on}
use Rattle.history.specs.declared.replies.Reply.TheVariants as reply
use Rattle.lock_free.specs.Leaving.{IsSpent}
use Rattle.lock_free.proofs.Leavings.{halts_later}

pub at_index : (v : View) (path : List Ref) (slots : List ℕ) → AreAt v path slots → (k : ℕ) → k < length slots → IsPlaced v (get_or path k no_ref) (get_or slots k 0)
at_index v [] [] h k low = absurd (omega (arith, low))
at_index v [] (slot ∷ slots) h k low = absurd h
at_index v (r ∷ rs) [] h k low = absurd h
at_index v (r ∷ rs) (slot ∷ slots) h zero low = h.0
at_index v (r ∷ rs) (slot ∷ slots) h (suc k) low = at_index v rs slots h.1 k (omega (arith, low))

-- the last one
pub placed_last : (v : View) (path : List Ref) (slots : List ℕ) → AreAt v path slots → 0 < length slots → IsPlaced v (current path) (get_or slots (length slots - 1) 0)
placed_last v path slots places some =
    let low : length slots - 1 < length slots = omega (arith, some) in
    subst (λ k. IsPlaced v (get_or path (k - 1) no_ref) (get_or slots (length slots - 1) 0)) (sym (as_long v path slots places)) (at_index v path slots places (length slots - 1) low)

are_at_more : (v : View) (path : List Ref) (slots : List ℕ) (r : Ref) (slot : ℕ) → AreAt v path slots → IsPlaced v r slot → AreAt v (path ++ r ∷ []) (slots ++ slot ∷ [])
are_at_more v [] [] r slot h p = (p, tt)
are_at_more v [] (s ∷ slots) r slot h p = absurd h
are_at_more v (q ∷ rs) [] r slot h p = absurd h
are_at_more v (q ∷ rs) (s ∷ slots) r slot h p = (h.0, are_at_more v rs slots r slot h.1 p)

last_is : (path : List Ref) (r : Ref) → current (path ++ r ∷ []) ≡ r
last_is path r =
    let long = length-append path (r ∷ []) in
    let last : length (path ++ r ∷ []) - 1 ≡ length path = omega (arith, long) in
    ap (λ k. get_or (path ++ r ∷ []) k no_ref) last ∙ get_or_push path r no_ref (length path) refl

-- ---- a level

module _ (v : View) (task : Task) (t : IsTask v task) (slots : List ℕ) (on : IsOnPath v slots) where
  abbrev path : List Ref
  path = on.0

  abbrev at : IsAtKey v (key.Read path (reading (current path)))
  at = on.1

  long : length path ≡ length slots
  long = as_long v path slots on.2

  flag_is : (flag : ℕ) → flag ≡ flag_of task.hash (length slots - 1) → IsFlag v path flag
  flag_is flag is o r =
      is ∙ ap (λ h. flag_of h (length slots - 1)) (t.hash ∙ ap (hash_of v.sizes.hash) (t.key ∙ ap key_of (sym (t.calls o r).0)))
      ∙ ap (λ k. flag_of (hash_of v.sizes.hash (key_of o.call)) (k - 1)) (sym long)

  pub link_ready : (flag : ℕ) → flag ≡ flag_of task.hash (length slots - 1) → IsAtLink v (get_or slots (length slots - 1) 0) flag
  link_ready flag is = (path, current path, at, placed_last v path slots on.2 on.3, flag_is flag is)

  module _ (given : Given) (way : Turn) (middle : View) (g : HasReadKey v (given, way) middle) where
    turned : HasReadTurn v path (current path) given way middle
    turned = g path (current path) at

    abbrev main : Ref
    main = turned.main

    pub task_mid : IsTask middle task
    task_mid = task_moved v middle (line_at path main way) task at.0 at.1 turned.moved t

    place : IsPlace middle slots given path main
    place = record { places = are_at_later v middle turned.moved.later path slots on.2; link = turned.link; header = turned.header }

    moved_by : (is : Turn) → way ≡ is → HasMoved (line_at path main is) v middle
    moved_by is same = subst (λ x. HasMoved (line_at path main x) v middle) same turned.moved

    on_by : (l : Line) → HasMoved (λ o. l) v middle → IsOn middle l
    on_by l m = moves_on v (line.Key (key.Read path (reading (current path)))) at middle l m

    pub entry_ready : (position : ℕ) → way ≡ turn.Entry position → IsWithin way → IsHere middle slots given (IsAtEntry middle position)
    entry_ready position is within = (
      path,
      main,
      place,
      (subst IsWithin is within, on_by (line.Key (key.Entry path main position)) (moved_by (turn.Entry position) is)),
    )

    pub list_ready : way ≡ turn.List → IsHere middle slots given (IsAtList middle)
    list_ready is = (path, main, place, (subst (λ x. Tells middle main x) is turned.tells, on_by (line.Key (key.Listed path main 0)) (moved_by turn.List is)))

    pub tomb_ready : (single : ℕ) → way ≡ turn.Tomb single → IsHere middle slots given (IsAtTomb middle task.access single)
    tomb_ready single is = (
      path,
      main,
      place,
      (
        subst (λ x. Tells middle main x) is turned.tells,
        on_by (after_tomb task.access path main)
            (moved_so v middle (line_at path main (turn.Tomb single)) (λ o. after_tomb task.access path main) (λ o r. ap (λ a. after_tomb a path main) (t.calls o r).1)
            (moved_by (turn.Tomb single) is)),
      ),
    )

-- ---- from level to level

pub begins : (v : View) (task : Task) (slots : List ℕ) → IsTask v task → IsOnPath v slots → IsDescending v task slots v
begins v task slots t on = record {
  path = on.0;
  moved = moved_self v (line.Key (key.Read on.0 (reading (current on.0)))) on.1;
  places = on.2;
  some = on.3;
  its = t;
}

module _ (before : View) (first : List ℕ) (start : IsOnPath before first) (task : Task) (slots : List ℕ) (v : View) (d : IsDescending before task slots v) where
  pub level_ready : IsOnPath v slots
  level_ready = (
    d.path,
    moves_on before (line.Key (key.Read start.0 (reading (current start.0)))) start.1 v (line.Key (key.Read d.path (reading (current d.path)))) d.moved,
    d.places,
    d.some,
  )

  pub next_level : (slot : ℕ) (after : View) → HasGoneBelow v slots slot after → IsDescending before task (slots ++ slot ∷ []) after
  next_level slot after h =
      let path = h.path ++ h.below ∷ [] in
      let below : HasMoved (λ o. line.Key (key.Read path (reading (current path)))) v after =
      moved_so v after (λ o. going_down h.path h.below) (λ o. line.Key (key.Read path (reading (current path)))) (λ o r. ap (λ i. line.Key (key.Read path (reading i))) (sym (last_is h.path h.below)))
      h.moved in
      let more = length-append slots (slot ∷ []) in
      record {
        path = path;
        moved = moved_on before v after (λ o. line.Key (key.Read d.path (reading (current d.path)))) (line.Key (key.Read path (reading (current path)))) d.moved below;
        places = are_at_more after h.path slots h.below slot h.places h.placed;
        some = omega (arith, more);
        its = task_moved v after (λ o. line.Key (key.Read path (reading (current path)))) task level_ready.1.0 level_ready.1.1 below d.its;
      }

  -- it is out of tries
  pub level_spent : (after : View) → IsSpent v after → IsSpent before after
  level_spent after h = halts_later reply.NoSlots before v after (λ o. line.Key (key.Read d.path (reading (current d.path)))) d.moved h

  pub way_spent : IsSpent before v
  way_spent = record { next = λ o. line.Key (key.Read d.path (reading (current d.path))); moved = d.moved; gives_up = λ o r. refl }
