-- Where the way down to a key ends.
use Rattle.std.proofs.Common.{◌≡◌, ℕ, Bool, true, false, List, [], None, ap, subst, if◌then◌else◌}
use Rattle.machine_model.specs.Beneath.slot_arena.specs.declared.refs.Ref.{Ref}
use Rattle.history.specs.declared.calls.Call.{Call}
use Rattle.machine_model.specs.declared.building.BuildLine.TheVariants as build
use Rattle.machine_model.specs.declared.building.Site.{Site}
use Rattle.machine_model.specs.declared.building.Site.TheVariants as site
use Rattle.machine_model.specs.declared.finding.KeyLine.TheVariants as key
use Rattle.machine_model.specs.declared.lines.Line.{Line}
use Rattle.machine_model.specs.declared.lines.Line.TheVariants as line
use Rattle.machine_model.specs.declared.operations.Operation.{Operation}
use Rattle.machine_model.specs.declared.repairs.RenewLine.TheVariants as renew
use Rattle.machine_model.specs.Calls.{absent_reply, inserts}
use Rattle.machine_model.specs.Finding.{after_tomb, going_down}
use Rattle.machine_model.specs.Paths.{current}
use Rattle.machine_model.specs.Reading.{reading}
use Rattle.trie_words.specs.declared.headers.Header.{Header}
use Rattle.trie_words.specs.declared.links.Link.{Link}
use Rattle.lock_free.specs.declared.descending.Found.{Found}
use Rattle.lock_free.specs.declared.descending.Found.TheVariants as found
use Rattle.lock_free.specs.declared.finding.Turn.{Turn}
use Rattle.lock_free.specs.declared.finding.Turn.TheVariants as turn
use Rattle.lock_free.specs.declared.reaching.Level.{Level}
use Rattle.lock_free.specs.declared.reaching.Level.TheVariants as level
use Rattle.lock_free.specs.declared.reaching.Place.TheVariants as place
use Rattle.lock_free.specs.declared.reaching.Reached.{Reached}
use Rattle.lock_free.specs.declared.rules.View.{View}
use Rattle.lock_free.specs.declared.tasks.Task.{Task}
use Rattle.lock_free.specs.Descending.{absent_in, HasFound, IsAtOne, IsDescending, IsHere, IsOnPath, IsPlace, IsTask}
use Rattle.lock_free.specs.Entries.{HasStayed}
use Rattle.lock_free.specs.GoingDown.{HasMoved, HasReadKey, HasReadTurn, line_at}
use Rattle.lock_free.specs.Holding.{IsOn}
use Rattle.lock_free.specs.LinkReads.{given_by}
use Rattle.lock_free.specs.Loading.{IsSound}
use Rattle.lock_free.specs.Reaching.{HasGone, HasReached}
use Rattle.lock_free.specs.RunningOn.{RunsOn}
use Rattle.lock_free.specs.Stocks.{IsStock, Stocked}
use Rattle.lock_free.proofs.Descents.{are_at_later, found_after, moved_self, task_moved}
use Rattle.lock_free.proofs.KeyMoves.{moved_on}
use Rattle.lock_free.proofs.LevelPassed.{list_ready, tomb_ready}
use Rattle.lock_free.proofs.OnLines.{moved_so, moves_on, stayed_moved}
use Rattle.lock_free.proofs.RunningOn.{runs_on_moved}
use Rattle.lock_free.proofs.StockStays.{stock_moved}

module _ (v : View) (task : Task) (slots : List ℕ) (link : Link) (header : Header) (w : View) where
  -- at a single, which was seen in an entry
  pub one_reached : HasStayed v w → (position slot : ℕ) → IsHere w slots (given_by link header) (IsAtOne w position slot) →
      HasReached v task slots (record { link = link; place = place.Single position slot }) w
  one_reached s position slot h =
      let l = line.Key (key.Entry h.0 h.1 position) in record { next = l; moved = stayed_moved v w w (λ o. l) s (moved_self w l h.3.1); at = (header, h) }

  -- at a branch that is to be renewed
  pub renews_reached : (l : Line) → IsOn v l → HasFound v slots (found.Renews (given_by link header)) w → HasReached v task slots (record { link = link; place = place.Renews }) w
  renews_reached l on h =
      let next = line.Renew (renew.Entry h.path h.main []) in record { next = next; moved = h.moved; at = (header, (h.path, h.main, h.knows, moves_on v l on w next h.moved)) }

-- from further back
module _ (u v w : View) (f : Operation → Line) (m : HasMoved f u v) (task : Task) (slots : List ℕ) where
  pub reached_after : (reached : Reached) → HasReached v task slots reached w → HasReached u task slots reached w
  reached_after reached h = record { next = h.next; moved = moved_on u v w f h.next m h.moved; at = h.at }

  pub gone_after : (l : Level) → HasGone v task slots l w → HasGone u task slots l w
  gone_after (level.Below slot) h = record {
    path = h.path;
    below = h.below;
    moved = moved_on u v w f (going_down h.path h.below) m h.moved;
    places = h.places;
    placed = h.placed;
    short = h.short;
  }
  gone_after (level.Here reached) h = reached_after reached h

-- ---- a level

module _ (v : View) (task : Task) (t : IsTask v task) (slots : List ℕ) (on : IsOnPath v slots) (link : Link) (header : Header) (way : Turn) (middle : View) (g : HasReadKey v (
  given_by link
      header,
  way,
) middle) where
  turned : HasReadTurn v on.0 (current on.0) (given_by link header) way middle
  turned = g on.0 (current on.0) on.1

  pub gone_from : (l : Level) (w : View) → HasGone middle task slots l w → HasGone v task slots l w
  gone_from l w h = gone_after v middle w (line_at on.0 turned.main way) turned.moved task slots l h

  moved_by : (is : Turn) → way ≡ is → HasMoved (line_at on.0 turned.main is) v middle
  moved_by is same = subst (λ x. HasMoved (line_at on.0 turned.main x) v middle) same turned.moved

  at_read : IsOn v (line.Key (key.Read on.0 (reading (current on.0))))
  at_read = on.1

  pub absent_reached : way ≡ turn.Absent → HasReached v task slots (record { link = link; place = place.Absent }) middle
  absent_reached is =
      let next = absent_in task.call site.Absent on.0 turned.main in
      let moved : HasMoved (λ o. next) v middle =
      moved_so v middle (line_at on.0 turned.main turn.Absent) (λ o. next) (λ o r. ap (λ c. absent_in c site.Absent on.0 turned.main) (t.calls o r).0) (moved_by turn.Absent is) in
      let places : IsPlace middle slots (given_by link header) on.0 turned.main = record {
        places = are_at_later v middle turned.moved.later on.0 slots on.2;
        link = turned.link;
        header =
            turned.header;
      } in
      record { next = next; moved = moved; at = (header, (on.0, turned.main, places, moves_on v (line.Key (key.Read on.0 (reading (current on.0)))) at_read middle next moved)) }

  pub list_reached : way ≡ turn.List → HasReached v task slots (record { link = link; place = place.List }) middle
  list_reached is = record {
    next = line.Key (key.Listed on.0 turned.main 0);
    moved = moved_by turn.List is;
    at = (header, list_ready v task t slots on (given_by link header) way middle g is);
  }

  pub tomb_reached : (single : ℕ) → way ≡ turn.Tomb single → HasReached v task slots (record { link = link; place = place.Tomb single }) middle
  tomb_reached single is =
      let next = after_tomb task.access on.0 turned.main in
      record {
        next = next;
        moved =
            moved_so v middle (line_at on.0 turned.main (turn.Tomb single)) (λ o. next) (λ o r. ap (λ a. after_tomb a on.0 turned.main) (t.calls o r).1) (moved_by (turn.Tomb single) is);
        at = (header, tomb_ready v task t slots on (given_by link header) way middle g single is);
      }

-- ---- all of them

module _ (before : View) (task : Task) (slots : List ℕ) (v : View) (d : IsDescending before task slots v) where
  pub reached_down : (reached : Reached) (w : View) → HasReached v task slots reached w → HasReached before task slots reached w
  reached_down reached w h = reached_after before v w (λ o. line.Key (key.Read d.path (reading (current d.path)))) d.moved task slots reached h

-- ---- what comes of it

module _ (u v w : View) (task : Task) (slots : List ℕ) (reached : Reached) (h : HasReached u task slots reached v) where
  pub found_reached : (result : Found) → HasFound v slots result w → HasFound u slots result w
  found_reached result f = found_after u v w (λ o. h.next) slots result h.moved f

-- ---- its operation, which has begun at this line

module _ (v : View) (l : Line) (on : IsOn v l) (w : View) (task : Task) (slots : List ℕ) (reached : Reached) (h : HasReached v task slots reached w) where
  pub reached_task : (t : Task) → IsTask v t → IsTask w t
  reached_task t its = task_moved v w (λ o. h.next) t on.0 on.1 h.moved its

  pub reached_runs_on : RunsOn v w
  reached_runs_on = runs_on_moved v w (λ o. h.next) h.moved

  pub reached_stock : (n : ℕ) → IsSound n v → (stock : Stocked) → IsStock stock v → IsStock stock w
  reached_stock n sound stock is = stock_moved n v w sound on.0 on.1 stock is (λ o. h.next) h.moved

-- ---- where the key is absent

module _ (call : Call) (at : Site) (v : View) (path : List Ref) (main : Ref) (on : IsOn v (absent_in call at path main)) where
  absent_by : (b : Bool) → inserts call ≡ b → IsOn v (if b then line.Build (build.Single path main at None) else line.End (absent_reply call))
  absent_by b is = subst (λ x. IsOn v (if x then line.Build (build.Single path main at None) else line.End (absent_reply call))) is on

  pub answers_absent : inserts call ≡ false → IsOn v (line.End (absent_reply call))
  answers_absent is = absent_by false is

  pub builds_absent : inserts call ≡ true → IsOn v (line.Build (build.Single path main at None))
  builds_absent is = absent_by true is
