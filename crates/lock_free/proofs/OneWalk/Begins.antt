-- WALK begins at the root.
use Rattle.std.proofs.Common.{◌≡◌, ℕ, List, [], refl, sym, subst}
use Rattle.trie_words.specs.declared.entries.Entry.{Entry}
use Rattle.machine_model.specs.Walking.{walk_next}
use Rattle.lock_free.specs.declared.reading.Way.{Way}
use Rattle.lock_free.specs.declared.rules.View.{View}
use Rattle.lock_free.specs.Passing.{IsOnWay}
use Rattle.lock_free.specs.Walks.{AreToDo, HasFoundStart, HasWalked, IsAtStart, IsLeft, IsToRead, IsWalking}
use Rattle.lock_free.proofs.CleanBranches.{stay_moves}
use Rattle.lock_free.proofs.OnLines.{moves_on, way_on}
use Rattle.lock_free.proofs.OneWalk.Lines.{left_after, left_by, next_gives_up, walking_then}
use Rattle.lock_free.proofs.OneWalk.Nexts.{met_walked}
use Rattle.lock_free.proofs.OneWalk.Roots.{first_line, reads_from}
use Rattle.lock_free.specs.Entries.{HasStayed}

module _ (v : View) (at : IsAtStart v) (slot : ℕ) (w : View) (found : HasFoundStart v slot w) where
  pub start_way : (way : Way) → IsOnWay v way → IsOnWay w way
  start_way way on = way_on v w first_line (λ o. reads_from found.0) way at found.1 on

  abbrev pub start_reads : (stack : List Entry) → stack ≡ [] → IsToRead w stack slot
  start_reads stack none = record {
    i = found.0;
    todo = [];
    pairs = [];
    on = moves_on v first_line at w (reads_from found.0) found.1;
    placed = found.2;
    knows = subst (λ s. AreToDo w s []) (sym none) refl;
  }

  module _ (first : List Entry) (none : first ≡ []) (z : View) where
    pub begun : (stack : List Entry) → ((at : IsToRead w first slot) → HasWalked w at.pairs z stack) → HasWalked v [] z stack
    begun stack entered = met_walked v w z (reads_from found.0) [] stack found.1 (entered (start_reads first none))

    pub begun_left : ((at : IsToRead w first slot) → IsLeft w z) → IsLeft v z
    begun_left left = left_after v w z (λ o. reads_from found.0) found.1 (left (start_reads first none))

pub start_spent : (v : View) → IsAtStart v → (w : View) → HasStayed v w → IsLeft v w
start_spent v at w h = left_by v w (λ o. first_line) (λ o. refl) (stay_moves v w first_line at h)

-- ---- so far

module _ (before : View) (at : IsAtStart before) (v : View) (pairs : List (ℕ × ℕ)) (stack : List Entry) (h : HasWalked before pairs v stack) where
  pub walking_now : IsWalking v stack pairs
  walking_now = walking_then before v pairs stack h at.0 at.1

  pub way_walked : (way : Way) → IsOnWay before way → IsOnWay v way
  way_walked way on = way_on before v first_line (λ o. walk_next o h.todo pairs) way at h.moved on

  -- with no memory for the pairs
  pub pairs_left : IsLeft before v
  pairs_left = left_by before v (λ o. walk_next o h.todo pairs) (λ o. next_gives_up o h.todo pairs) h.moved
