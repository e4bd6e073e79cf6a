-- Lines of WALK: what they hold, what comes next, and how what is to do goes on.
use Rattle.std.proofs.Common.{◌≡◌, ◌++◌, inl, ℕ, true, List, [], ◌∷◌, All, Contains, map, reverse, Some, refl, sym, ap, ap₂, subst, ◌∙◌}
use Rattle.std.proofs.lemmas.List.{map-append, reverse-append, reverse-reverse}
use Rattle.std.proofs.lemmas.List.Elements.{All-contains, Contains-append_left}
use Rattle.history.specs.declared.calls.Call.{Call}
use Rattle.history.specs.declared.calls.Call.TheVariants.{Count}
use Rattle.history.specs.declared.replies.Reply.TheVariants as reply
use Rattle.trie_words.specs.declared.entries.Entry.{Entry}
use Rattle.machine_model.specs.Beneath.slot_arena.specs.declared.refs.Ref.{Ref}
use Rattle.machine_model.specs.Beneath.slot_arena.specs.declared.nodes.Slot.{Slot}
use Rattle.machine_model.specs.Beneath.slot_arena.specs.Heaps.{node_at}
use Rattle.machine_model.specs.declared.lines.Line.{Line}
use Rattle.machine_model.specs.declared.lines.Line.TheVariants as line
use Rattle.machine_model.specs.declared.operations.Operation.{Operation}
use Rattle.machine_model.specs.GivingUp.{given_up}
use Rattle.machine_model.specs.Walking.{walk_next, walked_reply}
use Rattle.proof_memory.specs.Wants.{Each, Holds as Claims, Wanted, AnEntry, line_wants, meets, each}
use Rattle.lock_free.specs.declared.rules.View.{View}
use Rattle.lock_free.specs.Becoming.{Follows}
use Rattle.lock_free.specs.GoingDown.{HasMoved}
use Rattle.lock_free.specs.Holding.{IsOn}
use Rattle.lock_free.specs.Live.{IsLive, line_claims, refs_of_claims}
use Rattle.lock_free.specs.Loading.{now, Holds, IsSound, IsUsed, Runs}
use Rattle.lock_free.specs.SeenEntries.{AreEntriesTo, entry_to, unowned}
use Rattle.lock_free.specs.Walks.{AreToDo, HasWalked, IsLeft, IsWalking}
use Rattle.lock_free.proofs.AllEntries.{entries_same}
use Rattle.lock_free.proofs.Asked.{live_in_use}
use Rattle.lock_free.proofs.Comings.{runs_one}
use Rattle.lock_free.proofs.Descents.{moved_self}
use Rattle.lock_free.proofs.Laters.{later_both}
use Rattle.lock_free.proofs.KeyMoves.{hash_is}
use Rattle.lock_free.proofs.OnLines.{moved_so}

-- ---- what comes next goes by the call alone

pub next_same : (o p : Operation) (todo : List Ref) (pairs : List (ℕ × ℕ)) → o.call ≡ p.call → walk_next o todo pairs ≡ walk_next p todo pairs
next_same o p [] pairs e = ap (λ c. line.End (walked_reply c pairs)) e
next_same o p (r ∷ todo) pairs e = refl

-- ---- it may give up anywhere

told_none : (call : Call) (pairs : List (ℕ × ℕ)) → given_up call (line.End (walked_reply call pairs)) ≡ Some reply.NoSlots
told_none (Count h) pairs = refl
told_none call pairs = refl

pub next_gives_up : (o : Operation) (todo : List Ref) (pairs : List (ℕ × ℕ)) → given_up o.call (walk_next o todo pairs) ≡ Some reply.NoSlots
next_gives_up o [] pairs = told_none o.call pairs
next_gives_up o (r ∷ todo) pairs = refl

pub left_by : (v w : View) (f : Operation → Line) → ((o : Operation) → given_up o.call (f o) ≡ Some reply.NoSlots) → HasMoved f v w → IsLeft v w
left_by v w f may p = (f, may, p)

pub left_after : (u v w : View) (f : Operation → Line) → HasMoved f u v → IsLeft v w → IsLeft u w
left_after u v w f p (g, may, q) = (
  (λ o. g (record o { line = f o })),
  (λ o. may (record o { line = f o })),
  record { later = later_both u v w p.later q.later; comes = λ o r. q.comes (record o { line = f o }) (p.comes o r) },
)

-- ---- what a line names is held

pub line_holds : (v : View) (l : Line) (at : IsOn v l) (r : Ref) → Contains (refs_of_claims (line_wants v.sizes.hash at.0.call at.0.access l)) r → Holds v r
line_holds v l at r c =
    let its : Operation = record at.0 { is_marked = at.1.0 } in (
      its,
      at.1.1,
      inl (Contains-append_left (refs_of_claims (line_claims (now v) its)) at.0.private r
          (subst (λ (x : Line). Contains (refs_of_claims (line_claims (now v) (record its { line = x }))) r) (sym at.2)
          (subst (λ h. Contains (refs_of_claims (line_wants h at.0.call at.0.access l)) r) (sym (hash_is v.sizes v.account)) c))),
    )

-- ---- what is to do

each_of : {S : Ref → Type 0} {heap : _} {rs : List Ref} {wanted : Wanted} → Claims S heap (Each rs wanted) → All (λ r. S r × (meets wanted (node_at heap r) ≡ true)) rs
each_of (each all) = all

pub todo_is : (v : View) (todo : List Ref) → Claims (IsLive (now v)) (now v).heap (Each todo AnEntry) → (r : Ref) → Contains todo r → IsLive (now v) r × (meets AnEntry (node_at (now v).heap r) ≡ true)
todo_is v todo c r there = All-contains (λ q. IsLive (now v) q × (meets AnEntry (node_at (now v).heap q) ≡ true)) todo r (each_of c) there

pub todo_used : (n : ℕ) (v : View) → IsSound n v → (todo : List Ref) → Claims (IsLive (now v)) (now v).heap (Each todo AnEntry) → (r : Ref) → Contains todo r → (slot : Slot) × IsUsed v r slot
todo_used n v sound todo c r there = live_in_use v.sizes v.account sound.bounds r (todo_is v todo c r there).0

pub to_do_on : (v w : View) → Follows v w → (stack : List Entry) (todo : List Ref) → ((r : Ref) → Contains todo r → (slot : Slot) × IsUsed v r slot) → AreToDo v stack todo → AreToDo w stack todo
to_do_on v w f stack todo used h = h ∙ sym (entries_same v w f todo used)

-- entries come to be the next ones
pub to_do_more : (v : View) (stack : List Entry) (todo : List Ref) (entries : List Entry) (refs : List Ref) → AreToDo v stack todo → AreEntriesTo v entries refs →
    AreToDo v (stack ++ reverse entries) (refs ++ todo)
to_do_more v stack todo entries refs h more =
    ap (map unowned) (reverse-append stack (reverse entries) ∙ ap (λ xs. xs ++ reverse stack) (reverse-reverse entries))
    ∙ map-append unowned entries (reverse stack)
    ∙ ap₂ (λ (xs ys : List Entry). xs ++ ys) more h
    ∙ sym (map-append (entry_to v) refs todo)

-- ---- where it is

pub walking_then : (v w : View) (pairs : List (ℕ × ℕ)) (stack : List Entry) → HasWalked v pairs w stack → (o : Operation) → Runs v o → IsWalking w stack pairs
walking_then v w pairs stack h o runs = record {
  todo = h.todo;
  operation = record o { line = walk_next o h.todo pairs };
  runs = h.moved.comes o runs;
  line = next_same o (record o { line = walk_next o h.todo pairs }) h.todo pairs refl;
  knows = h.knows;
}

pub walking_on : (v : View) (stack : List Entry) (pairs : List (ℕ × ℕ)) (h : IsWalking v stack pairs) → IsOn v (walk_next h.operation h.todo pairs)
walking_on v stack pairs h = (h.operation, h.runs, h.line)

-- it has come to where it is
pub walked_self : (v : View) (stack : List Entry) (pairs : List (ℕ × ℕ)) → IsWalking v stack pairs → HasWalked v pairs v stack
walked_self v stack pairs h = record {
  todo = h.todo;
  moved = moved_so v v (λ o. walk_next h.operation h.todo pairs) (λ o. walk_next o h.todo pairs)
      (λ o runs. next_same h.operation o h.todo pairs (sym (ap (λ (z : Operation). z.call) (runs_one v o h.operation runs h.runs))))
      (moved_self v (walk_next h.operation h.todo pairs) (walking_on v stack pairs h));
  knows = h.knows;
}
