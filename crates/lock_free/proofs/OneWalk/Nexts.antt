-- WALK goes on to the next pair.
use Rattle.std.proofs.Common.{◌≡◌, ◌++◌, ℕ, true, false, List, [], ◌∷◌, Contains, map, reverse, length, refl, sym, ap, subst, ◌∙◌, arith}
use Rattle.std.proofs.lemmas.List.{reverse-append}
use Rattle.trie_words.specs.declared.entries.Entry.{Entry}
use Rattle.machine_model.specs.Beneath.slot_arena.specs.declared.refs.Ref.{Ref}
use Rattle.machine_model.specs.Beneath.slot_arena.specs.declared.nodes.Slot.{Slot}
use Rattle.machine_model.specs.Beneath.slot_arena.specs.Heaps.{node_at}
use Rattle.machine_model.specs.declared.actions.Action.TheVariants as act
use Rattle.machine_model.specs.declared.lines.Line.{Line}
use Rattle.machine_model.specs.declared.lines.Line.TheVariants as line
use Rattle.machine_model.specs.declared.operations.Operation.{Operation}
use Rattle.machine_model.specs.declared.walking.WalkLine.TheVariants as walk
use Rattle.machine_model.specs.Reading.{reading}
use Rattle.machine_model.specs.Walking.{walk_next, walked_reply}
use Rattle.proof_memory.specs.Wants.{AllHold, line_wants, is_entry}
use Rattle.lock_free.specs.declared.reading.Way.{Way}
use Rattle.lock_free.specs.declared.rules.View.{View}
use Rattle.lock_free.specs.Holding.{IsOn, HasComeTo}
use Rattle.lock_free.specs.Live.{IsLive}
use Rattle.lock_free.specs.Loading.{now, IsAtSlot, IsSound, IsUsed, Went}
use Rattle.lock_free.specs.Nodes.{is_single}
use Rattle.lock_free.specs.Passing.{IsOnWay, IsPlaced}
use Rattle.lock_free.specs.SeenEntries.{entry_to, unowned}
use Rattle.lock_free.specs.Walks.{AreToDo, HasAllPairs, HasTakenPair, HasWalked, IsAtWalkedSingle, IsGoingOn, IsLeft, IsToRead, IsWalking}
use Rattle.lock_free.proofs.Followings.{follows_later}
use Rattle.lock_free.proofs.Laters.{placed_later}
use Rattle.lock_free.proofs.OnLines.{at_look, finds_now, moved_both, moved_so, moves_on, way_on}
use Rattle.lock_free.proofs.Pools.{first_there, more_there}
use Rattle.lock_free.proofs.OneWalk.Lines.{left_after, next_same, to_do_on, todo_is, todo_used, walked_self, walking_on, walking_then}
use Rattle.lock_free.proofs.OneWalk.Takes.{entry_line, link_met}
use Rattle.lock_free.proofs.OneWalk.Lines.{left_by, next_gives_up}

-- ---- the stack

none_left : (v : View) (todo : List Ref) → AreToDo v [] todo → todo ≡ []
none_left v [] h = refl
none_left v (r ∷ todo) h = absurd (omega (arith, ap length h))

-- the next one
pub record IsFirst (v : View) (e : Entry) (rest : List Entry) (todo : List Ref) : Type 0 where
  pub r : Ref
  pub more : List Ref
  pub is : todo ≡ r ∷ more
  pub names : unowned e ≡ entry_to v r
  pub knows : AreToDo v rest more

abbrev head_or : Entry → List Entry → Entry
head_or d [] = d
head_or d (e ∷ es) = e

abbrev tail_of : List Entry → List Entry
tail_of [] = []
tail_of (e ∷ es) = es

split : (v : View) (e : Entry) (rest : List Entry) (todo : List Ref) → map unowned (e ∷ reverse rest) ≡ map (entry_to v) todo → IsFirst v e rest todo
split v e rest [] h = absurd (omega (arith, ap length h))
split v e rest (r ∷ more) h = record { r = r; more = more; is = refl; names = ap (head_or (unowned e)) h; knows = ap tail_of h }

pub first_of : (v : View) (stack : List Entry) (e : Entry) (rest : List Entry) (todo : List Ref) → stack ≡ rest ++ e ∷ [] → AreToDo v stack todo → IsFirst v e rest todo
first_of v stack e rest todo is h = split v e rest todo (ap (map unowned) (sym (ap reverse is ∙ reverse-append rest (e ∷ []))) ∙ h)

-- ---- at the next one

abbrev pub read_line : Ref → List Ref → List (ℕ × ℕ) → Line
read_line r todo pairs = line.Walk (walk.Read (reading r) todo pairs)

module _ (n : ℕ) (v : View) (sound : IsSound n v) (stack : List Entry) (e : Entry) (rest : List Entry) (is : stack ≡ rest ++ e ∷ []) (pairs : List (ℕ × ℕ)) (at : IsWalking v stack pairs) where
  abbrev pub f : IsFirst v e rest at.todo
  f = first_of v stack e rest at.todo is at.knows

  abbrev pub l : Line
  l = entry_line f.r f.more pairs

  abbrev pub on : IsOn v l
  on = (at.operation, at.runs, at.line ∙ ap (λ todo. walk_next at.operation todo pairs) f.is)

  pub claims : AllHold (IsLive (now v)) (now v).heap (line_wants v.sizes.hash on.0.call on.0.access l)
  claims = finds_now v l on n sound

  pub used : (r : Ref) → Contains (f.r ∷ f.more) r → (slot : Slot) × IsUsed v r slot
  used = todo_used n v sound (f.r ∷ f.more) claims.0

  pub kind : is_entry (node_at (now v).heap f.r) ≡ true
  kind = (todo_is v (f.r ∷ f.more) claims.0 f.r (first_there f.r f.more)).1

  pub placed : IsPlaced v f.r e.slot
  placed = (used f.r (first_there f.r f.more), sym (ap (λ (x : Entry). x.slot) f.names))

  pub kind_so : is_single (node_at (now v).heap f.r) ≡ e.is_single
  kind_so = sym (ap (λ (x : Entry). x.is_single) f.names)

  pub more_used : (r : Ref) → Contains f.more r → (slot : Slot) × IsUsed v r slot
  more_used r c = used r (more_there f.r f.more r c)

  abbrev pub single_here : e.is_single ≡ true → IsAtWalkedSingle v e.slot
  single_here single = record { entry = f.r; todo = f.more; pairs = pairs; on = on; placed = placed; single = kind_so ∙ single }

  pub pair_had : e.is_single ≡ true → (w : View) (pair : ℕ × ℕ) → HasTakenPair v e.slot pair w → HasWalked v (pairs ++ pair ∷ []) w rest
  pair_had single w pair taken =
      let moved = taken (single_here single) in
      record { todo = f.more; moved = moved; knows = to_do_on v w (follows_later v w moved.later) rest f.more more_used f.knows }

  pub link_ready : IsAtSlot v act.Look e.slot
  link_ready = (f.r, at_look v l on f.r (λ o. refl), placed.1)

  module _ (link : e.is_single ≡ false) (w : View) (sound_w : IsSound n w) (went : Went v w) where
    pub met : HasComeTo (read_line f.r f.more pairs) v w
    met = link_met n v sound f.r f.more pairs on placed.0 kind (kind_so ∙ link) w sound_w went

    abbrev pub to_read : IsToRead w rest e.slot
    to_read = record {
      i = f.r;
      todo = f.more;
      pairs = pairs;
      on = moves_on v l on w (read_line f.r f.more pairs) met;
      placed = placed_later v w met.later f.r e.slot placed;
      knows = to_do_on v w (follows_later v w met.later) rest f.more more_used f.knows;
    }

    pub way_met : (way : Way) → IsOnWay v way → IsOnWay w way
    way_met way h = way_on v w l (λ o. read_line f.r f.more pairs) way on met h

-- ---- one after another

module _ (u v w : View) (pairs : List (ℕ × ℕ)) (stack : List Entry) (p : HasWalked u pairs v stack) where
  abbrev pub from : Operation → Line
  from o = walk_next o p.todo pairs

  pub then_walked : (more : List (ℕ × ℕ)) (after : List Entry) → HasWalked v more w after → HasWalked u more w after
  then_walked more after q = record {
    todo = q.todo;
    moved = moved_both u v w from (λ o. walk_next o q.todo more) (λ o. walk_next o q.todo more) (λ o l. next_same (record o { line = l }) o q.todo more refl) p.moved q.moved;
    knows = q.knows;
  }

  pub then_all : HasAllPairs v pairs w → HasAllPairs u pairs w
  then_all q = moved_both u v w from (λ o. line.End (walked_reply o.call pairs)) (λ o. line.End (walked_reply o.call pairs)) (λ o l. refl) p.moved q

  pub then_left : IsLeft v w → IsLeft u w
  then_left q = left_after u v w from p.moved q

pub met_walked : (v w z : View) (l : Line) (pairs : List (ℕ × ℕ)) (stack : List Entry) → HasComeTo l v w → HasWalked w pairs z stack → HasWalked v pairs z stack
met_walked v w z l pairs stack p q = record {
  todo = q.todo;
  moved = moved_both v w z (λ o. l) (λ o. walk_next o q.todo pairs) (λ o. walk_next o q.todo pairs) (λ o k. next_same (record o { line = k }) o q.todo pairs refl) p q.moved;
  knows = q.knows;
}

-- ---- the loop

pub goes_first : (n : ℕ) (way : Way) (v : View) (stack : List Entry) → IsSound n v → IsOnWay v way → (pairs : List (ℕ × ℕ)) × IsWalking v stack pairs → IsGoingOn n way v stack v stack
goes_first n way v stack sound on at = record { sound = sound; on = on; pairs = at.0; at = at.1; walked = λ taken w. walked_self v stack taken w }

module _ (n : ℕ) (way : Way) (before : View) (stack0 : List Entry) (v : View) (stack : List Entry) (h : IsGoingOn n way before stack0 v stack) where
  then_at : (taken : List (ℕ × ℕ)) → IsWalking before stack0 taken → IsWalking v stack taken
  then_at taken w = walking_then before v taken stack (h.walked taken w) w.operation w.runs

  -- nothing is left
  pub all_had : stack ≡ [] → (taken : List (ℕ × ℕ)) → IsWalking before stack0 taken → HasAllPairs before taken v
  all_had none taken w =
      let x = h.walked taken w in
      let todo_none : x.todo ≡ [] = none_left v x.todo (subst (λ s. AreToDo v s x.todo) none x.knows) in
      moved_so before v (λ o. walk_next o x.todo taken) (λ o. line.End (walked_reply o.call taken)) (λ o r. ap (λ todo. walk_next o todo taken) todo_none) x.moved

  module _ (e : Entry) (rest : List Entry) (is : stack ≡ rest ++ e ∷ []) where
    pub single_next : e.is_single ≡ true → IsAtWalkedSingle v e.slot
    single_next single = single_here n v h.sound stack e rest is h.pairs h.at single

    pub next_had : e.is_single ≡ true → (w : View) (pair : ℕ × ℕ) → HasTakenPair v e.slot pair w → (taken : List (ℕ × ℕ)) → IsWalking before stack0 taken → HasWalked before (taken ++ pair ∷ []) w rest
    next_had single w pair p taken x =
        then_walked before v w taken stack (h.walked taken x) (taken ++ pair ∷ []) rest (pair_had n v h.sound stack e rest is taken (then_at taken x) single w pair p)

    pub link_next : IsAtSlot v act.Look e.slot
    link_next = link_ready n v h.sound stack e rest is h.pairs h.at

    module _ (link : e.is_single ≡ false) (w : View) (sound_w : IsSound n w) (went : Went v w) where
      pub reads_next : IsToRead w rest e.slot
      reads_next = to_read n v h.sound stack e rest is h.pairs h.at link w sound_w went

      pub way_next : IsOnWay w way
      way_next = way_met n v h.sound stack e rest is h.pairs h.at link w sound_w went way h.on

      module _ (z : View) (after : List Entry) where
        entered_by : ((at : IsToRead w rest e.slot) → HasWalked w at.pairs z after) → (taken : List (ℕ × ℕ)) → IsWalking v stack taken → HasWalked v taken z after
        entered_by entered taken x =
            let m = met n v h.sound stack e rest is taken x link w sound_w went in
            met_walked v w z (read_line (f n v h.sound stack e rest is taken x).r (f n v h.sound stack e rest is taken x).more taken) taken after m
            (entered (to_read n v h.sound stack e rest is taken x link w sound_w went))

        pub goes_next : IsSound n z → ((at : IsToRead w rest e.slot) → HasWalked w at.pairs z after) → IsGoingOn n way before stack0 z after
        goes_next sound_z entered =
            let x = entered_by entered h.pairs h.at in
            record {
              sound = sound_z;
              on = way_on v z (walk_next h.at.operation h.at.todo h.pairs) (λ o. walk_next o x.todo h.pairs) way (walking_on v stack h.pairs h.at) x.moved h.on;
              pairs = h.pairs;
              at = walking_then v z h.pairs after x h.at.operation h.at.runs;
              walked = λ taken y. then_walked before v z taken stack (h.walked taken y) taken after (entered_by entered taken (then_at taken y));
            }

        pub left_next : ((at : IsToRead w rest e.slot) → IsLeft w z) → (taken : List (ℕ × ℕ)) → IsWalking before stack0 taken → IsLeft before z
        left_next left taken y =
            let x = then_at taken y in
            then_left before v z taken stack (h.walked taken y)
            (left_after v w z (λ o. read_line (f n v h.sound stack e rest is taken x).r (f n v h.sound stack e rest is taken x).more taken)
            (met n v h.sound stack e rest is taken x link w sound_w went) (left (to_read n v h.sound stack e rest is taken x link w sound_w went)))

-- it is out of tries
pub walk_spent : (words : ℕ) (way : Way) (before : View) (stack : List Entry) (v : View) (then : List Entry) → IsGoingOn words way before stack v then → (pairs : List (ℕ × ℕ)) →
    IsWalking before stack pairs → IsLeft before v
walk_spent words way before stack v then g pairs at =
    let h = g.walked pairs at in
    left_by before v (λ o. walk_next o h.todo pairs) (λ o. next_gives_up o h.todo pairs) h.moved
