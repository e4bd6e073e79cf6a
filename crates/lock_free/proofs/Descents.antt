-- The way down to a key: what is known goes on with it, and what it comes to.
use Rattle.std.proofs.Common.{◌≡◌, ◌<◌, ℕ, List, [], ◌∷◌, length, refl, sym, ap, subst, ◌∙◌, arith}
use Rattle.machine_model.specs.Beneath.slot_arena.specs.declared.refs.Ref.{Ref}
use Rattle.machine_model.specs.Beneath.slot_arena.specs.Heaps.{node_at, entries_of}
use Rattle.machine_model.specs.Beneath.ctrie_base.specs.Hashes.{hash_of}
use Rattle.machine_model.specs.declared.lines.Line.{Line}
use Rattle.machine_model.specs.declared.operations.Operation.{Operation}
use Rattle.machine_model.specs.Paths.{current}
use Rattle.trie_words.specs.declared.headers.Header.{Header}
use Rattle.lock_free.specs.declared.descending.Found.{Found}
use Rattle.lock_free.specs.declared.reading.Given.{Given}
use Rattle.lock_free.specs.declared.rules.View.{View}
use Rattle.lock_free.specs.declared.tasks.Task.{Task}
use Rattle.lock_free.specs.Descending.{IsTask, AreAt, IsPlace, IsInside, line_found, KnowsFound, HasFound}
use Rattle.lock_free.specs.Entries.{HasStayed}
use Rattle.lock_free.specs.GoingDown.{HasMoved}
use Rattle.lock_free.specs.Holding.{IsOn}
use Rattle.lock_free.specs.Loading.{now, Runs}
use Rattle.lock_free.specs.Passing.{Later, KnowsMain}
use Rattle.lock_free.proofs.Comings.{runs_one}
use Rattle.lock_free.proofs.EntryLooks.{node_stays}
use Rattle.lock_free.proofs.KeyMoves.{moved_on}
use Rattle.lock_free.proofs.Laters.{later_self, placed_later, link_later, main_later}
use Rattle.lock_free.proofs.OnLines.{line_is, stayed_moved}

-- ---- what is known

module _ (v w : View) (l : Later v w) where
  pub are_at_later : (path : List Ref) (slots : List ℕ) → AreAt v path slots → AreAt w path slots
  are_at_later [] [] h = tt
  are_at_later [] (slot ∷ slots) h = absurd h
  are_at_later (r ∷ rs) [] h = absurd h
  are_at_later (r ∷ rs) (slot ∷ slots) h = (placed_later v w l r slot h.0, are_at_later rs slots h.1)

  pub place_later : (slots : List ℕ) (given : Given) (path : List Ref) (main : Ref) → IsPlace v slots given path main → IsPlace w slots given path main
  place_later slots given path main p = record {
    places = are_at_later path slots p.places;
    link = link_later v w l (current path) main given.link p.link;
    header = main_later v w l main given.header p.header;
  }

  pub known_stays : (main : Ref) (header : Header) → KnowsMain v main header → node_at (now w).heap main ≡ node_at (now v).heap main
  known_stays main header k = node_stays v w l main k.slot k.used k.is_main

  pub inside_later : (main : Ref) (header : Header) (position : ℕ) → KnowsMain v main header → IsInside v main position → IsInside w main position
  inside_later main header position k h = subst (λ x. position < length (entries_of x)) (sym (known_stays main header k)) h

pub as_long : (v : View) (path : List Ref) (slots : List ℕ) → AreAt v path slots → length path ≡ length slots
as_long v [] [] h = refl
as_long v [] (slot ∷ slots) h = absurd h
as_long v (r ∷ rs) [] h = absurd h
as_long v (r ∷ rs) (slot ∷ slots) h = let rest = as_long v rs slots h.1 in omega (arith, rest)

-- ---- the operation

pub task_moved : (v w : View) (f : Operation → Line) (task : Task) (o : Operation) → Runs v o → HasMoved f v w → IsTask v task → IsTask w task
task_moved v w f task o r m t = record {
  calls = λ q s. (let same = runs_one w q (record o { line = f o }) s (m.comes o r) in
      let its = t.calls o r in
      (ap (λ (z : Operation). z.call) same ∙ its.0, ap (λ (z : Operation). z.access) same ∙ its.1, ap (λ (z : Operation). z.generation) same ∙ its.2));
  key = t.key;
  hash = t.hash ∙ ap (λ (x : View). hash_of x.sizes.hash task.key) (sym m.later.is);
}

pub task_stayed : (v w : View) (task : Task) (o : Operation) → Runs v o → HasStayed v w → IsTask v task → IsTask w task
task_stayed v w task o r s t = record {
  calls = λ q p. (let same = runs_one w q o p (s.comes o r) in
      let its = t.calls o r in
      (ap (λ (z : Operation). z.call) same ∙ its.0, ap (λ (z : Operation). z.access) same ∙ its.1, ap (λ (z : Operation). z.generation) same ∙ its.2));
  key = t.key;
  hash = t.hash ∙ ap (λ (x : View). hash_of x.sizes.hash task.key) (sym s.later.is);
}

-- it is where it was
pub moved_self : (v : View) (l : Line) → IsOn v l → HasMoved (λ o. l) v v
moved_self v l on = record { later = later_self v; comes = λ o r. subst (λ x. Runs v (record o { line = x })) (line_is v l on o r) r }

-- ---- what it comes to

-- it is there already
pub found_here : (v : View) (slots : List ℕ) (result : Found) (path : List Ref) (main other : Ref) (l : Line) → IsOn v l → l ≡ line_found path main other result →
    KnowsFound v slots path main other result → HasFound v slots result v
found_here v slots result path main other l on is knows = record {
  path = path;
  main = main;
  other = other;
  moved = moved_self v (line_found path main other result) (subst (IsOn v) is on);
  knows = knows;
}

pub found_after : (u v w : View) (f : Operation → Line) (slots : List ℕ) (result : Found) → HasMoved f u v → HasFound v slots result w → HasFound u slots result w
found_after u v w f slots result m h = record {
  path = h.path;
  main = h.main;
  other = h.other;
  moved = moved_on u v w f (line_found h.path h.main h.other result) m h.moved;
  knows = h.knows;
}

pub found_stayed : (u v w : View) (slots : List ℕ) (result : Found) → HasStayed u v → HasFound v slots result w → HasFound u slots result w
found_stayed u v w slots result s h = record {
  path = h.path;
  main = h.main;
  other = h.other;
  moved = stayed_moved u v w (λ o. line_found h.path h.main h.other result) s h.moved;
  knows = h.knows;
}
