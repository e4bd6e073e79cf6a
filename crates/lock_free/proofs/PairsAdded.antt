-- The next pairs of a walk are added to a list, one after another.
use Rattle.std.proofs.Common.{◌≡◌, ◌≤◌, ◌+◌, ◌++◌, ◌∷◌, [], ℕ, List, Ok, Err, length, length-append, append-nil, append_assoc, refl, sym, ap, subst, ◌∙◌, arith}
use Rattle.trie_words.specs.declared.entries.Entry.{Entry}
use Rattle.machine_model.specs.Walking.{walk_next}
use Rattle.lock_free.specs.declared.reading.Way.{Way}
use Rattle.lock_free.specs.declared.rules.View.{View}
use Rattle.lock_free.specs.declared.walking.WalkError.{WalkError}
use Rattle.lock_free.specs.declared.walks.Reached.TheVariants as reached
use Rattle.lock_free.specs.Passing.{IsOnWay}
use Rattle.lock_free.specs.Scans.{HasAdded, HasAddedSome}
use Rattle.lock_free.specs.Walks.{HasAllPairs, HasWalked, IsLeft, IsWalking}
use Rattle.lock_free.proofs.OnLines.{way_on}
use Rattle.lock_free.proofs.OneWalk.Lines.{left_by, next_gives_up, walked_self, walking_on, walking_then}
use Rattle.lock_free.proofs.OneWalk.Nexts.{then_all, then_left, then_walked}

pub added_none : (way : Way) (v : View) (stack : List Entry) (list : List (ℕ × ℕ)) → IsOnWay v way → (told : List (ℕ × ℕ)) × IsWalking v stack told → HasAddedSome way v stack list 0 v stack list
added_none way v stack list on (told, at) = record {
  on = on;
  part = [];
  is = sym (append-nil list);
  size = refl;
  taken = told;
  at = at;
  walked = λ taken w. subst (λ ps. HasWalked v ps v stack) (sym (append-nil taken)) (walked_self v stack taken w);
}

module _ (way : Way) (before : View) (stack : List Entry) (list : List (ℕ × ℕ)) (n : ℕ) (v : View) (then : List Entry) (longer : List (ℕ × ℕ))
    (h : HasAddedSome way before stack list n v then longer) where
  -- it has taken what it had taken, and these
  module _ (told : List (ℕ × ℕ)) (w : IsWalking before stack told) where
    abbrev so_far : HasWalked before (told ++ h.part) v then
    so_far = h.walked told w

    abbrev walking : IsWalking v then (told ++ h.part)
    walking = walking_then before v (told ++ h.part) then so_far w.operation w.runs

  -- as many as were asked for
  pub added_most : (most : ℕ) → n ≡ most → HasAdded before stack list most (Ok reached.Most) v then longer
  added_most most enough = record {
    part = h.part;
    is = h.is;
    few = omega (arith, h.size, enough);
    full = λ is. h.size ∙ enough;
    next = λ told w. so_far told w;
  }

  module _ (most : ℕ) (more : n ≤ most) (x : View) (after : List Entry) where
    few_so : length h.part ≤ most
    few_so = omega (arith, h.size, more)

    -- there are no others
    pub added_all : ((told : List (ℕ × ℕ)) → IsWalking v then told → HasAllPairs v told x) → HasAdded before stack list most (Ok reached.All) x after longer
    added_all all = record {
      part = h.part;
      is = h.is;
      few = few_so;
      full = λ is. absurd is;
      next = λ told w. then_all before v x (told ++ h.part) then (so_far told w) (all (told ++ h.part) (walking told w));
    }

    -- it may give up
    pub added_left : (error : WalkError) → ((told : List (ℕ × ℕ)) → IsWalking v then told → IsLeft v x) → HasAdded before stack list most (Err error) x after longer
    added_left error left = record {
      part = h.part;
      is = h.is;
      few = few_so;
      full = λ is. absurd is;
      next = λ told w. then_left before v x (told ++ h.part) then (so_far told w) (left (told ++ h.part) (walking told w));
    }

  -- one more
  module _ (x : View) (after : List Entry) (pair : ℕ × ℕ) (next : (told : List (ℕ × ℕ)) → IsWalking v then told → HasWalked v (told ++ pair ∷ []) x after) where
    one_more : (told : List (ℕ × ℕ)) → IsWalking before stack told → HasWalked before ((told ++ h.part) ++ pair ∷ []) x after
    one_more told w = then_walked before v x (told ++ h.part) then (so_far told w) ((told ++ h.part) ++ pair ∷ []) after (next (told ++ h.part) (walking told w))

    pub added_next : (list_now : List (ℕ × ℕ)) → list_now ≡ longer ++ pair ∷ [] → HasAddedSome way before stack list (n + 1) x after list_now
    added_next list_now is = (let step = next h.taken h.at in record {
      on = way_on v x (walk_next h.at.operation h.at.todo h.taken) (λ o. walk_next o step.todo (h.taken ++ pair ∷ [])) way (walking_on v then h.taken h.at) step.moved h.on;
      part = h.part ++ pair ∷ [];
      is = is ∙ ap (λ l. l ++ pair ∷ []) h.is ∙ append_assoc list h.part (pair ∷ []);
      size = length-append h.part (pair ∷ []) ∙ ap (λ k. k + 1) h.size;
      taken = h.taken ++ pair ∷ [];
      at = walking_then v x (h.taken ++ pair ∷ []) after step h.at.operation h.at.runs;
      walked = λ told w. subst (λ ps. HasWalked before ps x after) (append_assoc told h.part (pair ∷ [])) (one_more told w);
    })

    -- the list has no memory for it
    pub added_lost : (most : ℕ) → n ≤ most → (error : WalkError) (list_now : List (ℕ × ℕ)) → list_now ≡ longer → HasAdded before stack list most (Err error) x after list_now
    added_lost most more error list_now is = record {
      part = h.part;
      is = is ∙ h.is;
      few = omega (arith, h.size, more);
      full = λ is. absurd is;
      next = λ told w. (let y = one_more told w in
          left_by before x (λ o. walk_next o y.todo ((told ++ h.part) ++ pair ∷ [])) (λ o. next_gives_up o y.todo ((told ++ h.part) ++ pair ∷ [])) y.moved);
    }
