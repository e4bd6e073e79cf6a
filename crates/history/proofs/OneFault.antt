-- An order has at most one first fault.
use Rattle.std.proofs.Common.{◌≡◌, ℕ, zero, suc, ◌<◌, ◌≤◌, inl, inr, List, [], ◌∷◌, take, Option, Some, None, slice_get, refl, sym, ap, ◌∙◌, subst, arith}
use Rattle.std.proofs.lemmas.Bool.{cases_order}
use Rattle.std.proofs.lemmas.Option.{same_Some, some_pair_parts}
use Rattle.std.specs.FinMap as map
use Rattle.history.specs.declared.calls.Access.{Access}
use Rattle.history.specs.declared.calls.Access.TheVariants.{Writable, ReadOnly}
use Rattle.history.specs.declared.calls.Call.{Call}
use Rattle.history.specs.declared.calls.Call.TheVariants.{Get, Put, PutIfAbsent, Replace, ReplaceIf, Remove, RemoveIf, Clear, Snapshot, Freeze, Close, Entries, Count}
use Rattle.history.specs.declared.replies.Reply.{Reply}
use Rattle.history.specs.declared.replies.Reply.TheVariants.{NoSlots}
use Rattle.history.specs.declared.events.Event.{Event}
use Rattle.history.specs.declared.events.Event.TheVariants.{Begin, End}
use Rattle.history.specs.declared.faults.Obstacle.{Obstacle}
use Rattle.history.specs.declared.faults.Obstacle.TheVariants.{NotOpen, NeedsWritable, NeedsReadOnly, OpenAlready}
use Rattle.history.specs.declared.faults.OrderFault.{OrderFault}
use Rattle.history.specs.declared.faults.OrderFault.TheVariants.{WrongEvent, NotBegun, StandsTwice, WasRefused, StandsBehind, NoEffect, OtherReply, Missing}
use Rattle.history.specs.Worlds.{HandleMap, HandleState, first_world}
use Rattle.history.specs.Effects.{effect}
use Rattle.history.specs.Histories.{Operation, BeginsAt, EndsAt, HasBegun, HasEnded, OpensRightly, MayFollow, IsWellFormed}
use Rattle.history.specs.Orders.{OrderedAt, IsBefore}
use Rattle.history.specs.Beginnings.{LeadsTo}
use Rattle.history.specs.Faults.{IsOfKind, Hinders, IsAmong, BeganLast, IsInTime, Calls, IsWrongBehind, IsFirstWrong, IsFirstMissing, IsFirstFault, needed_access}
use Rattle.history.specs.Handles.{handle_of}
use Rattle.history.specs.Laws.{HasOneFirstFault}
use Rattle.history.proofs.Places.{in_take, at_take}
use Rattle.history.proofs.Begins.{begins_once}
use Rattle.history.proofs.OneWorld.{one_world}
use Rattle.history.proofs.Leading.{must_stand}
use Rattle.history.proofs.Legal.{not_wrong}

-- no operation ends again later
not_again : (history : List Event) (p q id : ℕ) (a b : Reply) → IsWellFormed history → EndsAt history p id a → EndsAt history q id b → p < q → ⊥
not_again history p q id a b well at_p at_q lt =
    let runs = well q (End id b) at_q in
    runs.1.1 a (p, in_take history q p (End id a) lt at_p)

-- an operation ends once
pub ends_once : (history : List Event) (p q id : ℕ) (a b : Reply) → IsWellFormed history → EndsAt history p id a → EndsAt history q id b → p ≡ q
ends_once history p q id a b well at_p at_q = elim (cases_order p q) [
  | inl same ↦ same
  | inr differ ↦ elim differ [
    | inl lt ↦ absurd (not_again history p q id a b well at_p at_q lt)
    | inr gt ↦ absurd (not_again history q p id b a well at_q at_p gt)
  ]
]

-- with one reply
pub reply_once : (history : List Event) (id : ℕ) (a b : Reply) → IsWellFormed history → HasEnded history id a → HasEnded history id b → a ≡ b
reply_once history id a b well ended_a ended_b =
    let same = ends_once history ended_a.0 ended_b.0 id a b well ended_a.1 ended_b.1 in
    let there : slice_get history ended_a.0 ≡ Some (End id b) = subst (λ p. slice_get history p ≡ Some (End id b)) (sym same) ended_b.1 in
    let events : End id a ≡ End id b = same_Some (End id a) (End id b) (sym ended_a.1 ∙ there) in
    let replies : a ≡ b = cc events in
    replies

-- an operation that ends has begun
ended_begun : (history : List Event) (id : ℕ) (answer : Reply) → IsWellFormed history → HasEnded history id answer → HasBegun history id
ended_begun history id answer well ended =
    let runs = (well ended.0 (End id answer) ended.1).1 in
    (runs.0.0, runs.0.1, (at_take history ended.0 runs.0.0 (Begin id (runs.0.1).actor (runs.0.1).call (runs.0.1).opens) runs.0.2).1)

-- an operation has one call
calls_once : (history : List Event) (id : ℕ) (a b : Call) (u v : Option ℕ) → IsWellFormed history → Calls history id a u → Calls history id b v → (a ≡ b) × (u ≡ v)
calls_once history id a b u v well calls_a calls_b =
    let x : Operation = record { actor = calls_a.1; call = a; opens = u } in
    let y : Operation = record { actor = calls_b.1; call = b; opens = v } in
    let same = begins_once history calls_a.0 calls_b.0 id x y well calls_a.2 calls_b.2 in
    let there : slice_get history calls_a.0 ≡ Some (Begin id calls_b.1 b v) = subst (λ p. slice_get history p ≡ Some (Begin id calls_b.1 b v)) (sym same) calls_b.2 in
    let events : Begin id calls_a.1 a u ≡ Begin id calls_b.1 b v = same_Some (Begin id calls_a.1 a u) (Begin id calls_b.1 b v) (sym calls_a.2 ∙ there) in
    let calls : a ≡ b = cc events in
    let opens : u ≡ v = cc events in
    (calls, opens)

-- a call that goes through all pairs opens nothing
opens_nothing : (call : Call) (opens : Option ℕ) (n : ℕ) → OpensRightly call opens → needed_access call ≡ Some ReadOnly → ¬ (opens ≡ Some n)
opens_nothing (Get h k) opens n rightly needs is = let wrong : ⊥ = cc in wrong
opens_nothing (Put h k v) opens n rightly needs is = let wrong : ⊥ = cc in wrong
opens_nothing (PutIfAbsent h k v) opens n rightly needs is = let wrong : ⊥ = cc in wrong
opens_nothing (Replace h k v) opens n rightly needs is = let wrong : ⊥ = cc in wrong
opens_nothing (ReplaceIf h k a b) opens n rightly needs is = let wrong : ⊥ = cc in wrong
opens_nothing (Remove h k) opens n rightly needs is = let wrong : ⊥ = cc in wrong
opens_nothing (RemoveIf h k v) opens n rightly needs is = let wrong : ⊥ = cc in wrong
opens_nothing (Clear h) opens n rightly needs is = let wrong : ⊥ = cc in wrong
opens_nothing (Snapshot h) opens n rightly needs is = let wrong : ⊥ = cc in wrong
opens_nothing (Freeze h) opens n rightly needs is = let wrong : ⊥ = cc in wrong
opens_nothing (Close h) opens n rightly needs is = let wrong : ⊥ = cc in wrong
opens_nothing (Entries h) opens n rightly needs is = let wrong : ⊥ = cc (rightly, is) in wrong
opens_nothing (Count h) opens n rightly needs is = let wrong : ⊥ = cc (rightly, is) in wrong

-- what a handle names
names_there : (world : HandleMap) (h k : ℕ) (a : Access) → h ≡ k → IsOfKind world h a → ¬ (map.get world k ≡ None)
names_there world h k a same names none = let there : map.get world h ≡ None = ap (map.get world) same ∙ none in let wrong : ⊥ = cc (names.1, there) in wrong

names_once : (world : HandleMap) (h k : ℕ) (a b : Access) → h ≡ k → IsOfKind world h a → IsOfKind world k b → a ≡ b
names_once world h k a b same names_a names_b =
    let states = same_Some (record { access = a; pairs = names_a.0 }) (record { access = b; pairs = names_b.0 }) (sym names_a.1 ∙ ap (map.get world) same ∙ names_b.1) in
    ap (λ (s : HandleState). s.access) states

-- a call has one obstacle
one_obstacle : (world : HandleMap) (call : Call) (opens : Option ℕ) (a b : Obstacle) → OpensRightly call opens → Hinders world call opens a → Hinders world call opens b → a ≡ b
one_obstacle world call opens (NotOpen h) (NotOpen k) rightly p q = ap NotOpen (p.0 ∙ sym q.0)
one_obstacle world call opens (NotOpen h) (NeedsWritable k) rightly p q = absurd (names_there world k h ReadOnly (q.0 ∙ sym p.0) q.2 p.1)
one_obstacle world call opens (NotOpen h) (NeedsReadOnly k) rightly p q = absurd (names_there world k h Writable (q.0 ∙ sym p.0) q.2 p.1)
one_obstacle world call opens (NotOpen h) (OpenAlready n) rightly p q = absurd (names_there world (handle_of call) h Writable (sym p.0) q.1 p.1)
one_obstacle world call opens (NeedsWritable h) (NotOpen k) rightly p q = absurd (names_there world h k ReadOnly (p.0 ∙ sym q.0) p.2 q.1)
one_obstacle world call opens (NeedsWritable h) (NeedsWritable k) rightly p q = ap NeedsWritable (p.0 ∙ sym q.0)
one_obstacle world call opens (NeedsWritable h) (NeedsReadOnly k) rightly p q = let wrong : ⊥ = cc (p.1, q.1) in absurd wrong
one_obstacle world call opens (NeedsWritable h) (OpenAlready n) rightly p q = let same = names_once world h (handle_of call) ReadOnly Writable p.0 p.2 q.1 in let wrong : ⊥ = cc same in absurd wrong
one_obstacle world call opens (NeedsReadOnly h) (NotOpen k) rightly p q = absurd (names_there world h k Writable (p.0 ∙ sym q.0) p.2 q.1)
one_obstacle world call opens (NeedsReadOnly h) (NeedsWritable k) rightly p q = let wrong : ⊥ = cc (p.1, q.1) in absurd wrong
one_obstacle world call opens (NeedsReadOnly h) (NeedsReadOnly k) rightly p q = ap NeedsReadOnly (p.0 ∙ sym q.0)
one_obstacle world call opens (NeedsReadOnly h) (OpenAlready n) rightly p q = absurd (opens_nothing call opens n rightly p.1 q.0)
one_obstacle world call opens (OpenAlready n) (NotOpen k) rightly p q = absurd (names_there world (handle_of call) k Writable (sym q.0) p.1 q.1)
one_obstacle world call opens (OpenAlready n) (NeedsWritable k) rightly p q = let same = names_once world k (handle_of call) ReadOnly Writable q.0 q.2 p.1 in let wrong : ⊥ = cc same in absurd wrong
one_obstacle world call opens (OpenAlready n) (NeedsReadOnly k) rightly p q = absurd (opens_nothing call opens n rightly q.1 p.0)
one_obstacle world call opens (OpenAlready n) (OpenAlready m) rightly p q = ap OpenAlready (same_Some n m (sym p.0 ∙ q.0))

-- where a fault comes in the list of reasons
abbrev rank : OrderFault → ℕ
rank (NotBegun x) = 1
rank (StandsTwice x) = 2
rank (WasRefused x) = 3
rank (StandsBehind x other) = 4
rank (NoEffect x obstacle) = 5
rank (OtherReply x call told given) = 6
rank fault = 0

module _ (hash : ℕ → ℕ) (history : List Event) (ids : List ℕ) (id : ℕ) (world : HandleMap) (well : IsWellFormed history) (leads : LeadsTo hash history ids world) where
  begun_past : (g : OrderFault) → 1 < rank g → IsWrongBehind hash history ids id world g → HasBegun history id
  begun_past (WrongEvent p) lt wrong = absurd wrong
  begun_past (NotBegun x) lt wrong = absurd (omega (arith, lt))
  begun_past (StandsTwice x) lt wrong = leads.has_begun wrong.1.0 id wrong.1.1
  begun_past (WasRefused x) lt wrong = ended_begun history id NoSlots well wrong.2
  begun_past (StandsBehind x other) lt wrong = ended_begun history id wrong.3.2 well (wrong.3.0, wrong.3.4)
  begun_past (NoEffect x o) lt wrong = let calls = wrong.2.2 in (calls.0, record { actor = calls.1; call = wrong.2.0; opens = wrong.2.1 }, calls.2)
  begun_past (OtherReply x call told given) lt wrong = ended_begun history id told well wrong.2
  begun_past (Missing x) lt wrong = absurd wrong

  new_past : (g : OrderFault) → 2 < rank g → IsWrongBehind hash history ids id world g → ¬ IsAmong ids id
  new_past (WrongEvent p) lt wrong = absurd wrong
  new_past (NotBegun x) lt wrong = absurd (omega (arith, lt))
  new_past (StandsTwice x) lt wrong = absurd (omega (arith, lt))
  new_past (WasRefused x) lt wrong = wrong.1
  new_past (StandsBehind x other) lt wrong = wrong.1
  new_past (NoEffect x o) lt wrong = wrong.1.is_new
  new_past (OtherReply x call told given) lt wrong = wrong.1.is_new
  new_past (Missing x) lt wrong = absurd wrong

  answered_past : (g : OrderFault) → 3 < rank g → IsWrongBehind hash history ids id world g → ¬ HasEnded history id NoSlots
  answered_past (WrongEvent p) lt wrong = absurd wrong
  answered_past (NotBegun x) lt wrong = absurd (omega (arith, lt))
  answered_past (StandsTwice x) lt wrong = absurd (omega (arith, lt))
  answered_past (WasRefused x) lt wrong = absurd (omega (arith, lt))
  answered_past (StandsBehind x other) lt wrong = wrong.2
  answered_past (NoEffect x o) lt wrong = wrong.1.not_refused
  answered_past (OtherReply x call told given) lt wrong = wrong.1.not_refused
  answered_past (Missing x) lt wrong = absurd wrong

  timed_past : (g : OrderFault) → 4 < rank g → IsWrongBehind hash history ids id world g → IsInTime history ids id
  timed_past (WrongEvent p) lt wrong = absurd wrong
  timed_past (NotBegun x) lt wrong = absurd (omega (arith, lt))
  timed_past (StandsTwice x) lt wrong = absurd (omega (arith, lt))
  timed_past (WasRefused x) lt wrong = absurd (omega (arith, lt))
  timed_past (StandsBehind x other) lt wrong = absurd (omega (arith, lt))
  timed_past (NoEffect x o) lt wrong = wrong.1
  timed_past (OtherReply x call told given) lt wrong = wrong.1
  timed_past (Missing x) lt wrong = absurd wrong

  -- a call has no effect, or one
  effect_or_none : (x : ℕ) (o : Obstacle) (g : OrderFault) → 5 < rank g → IsWrongBehind hash history ids id world (NoEffect x o) → ¬ IsWrongBehind hash history ids id world g
  effect_or_none x o (WrongEvent p) lt none wrong = wrong
  effect_or_none x o (NotBegun y) lt none wrong = omega (arith, lt)
  effect_or_none x o (StandsTwice y) lt none wrong = omega (arith, lt)
  effect_or_none x o (WasRefused y) lt none wrong = omega (arith, lt)
  effect_or_none x o (StandsBehind y other) lt none wrong = omega (arith, lt)
  effect_or_none x o (NoEffect y p) lt none wrong = omega (arith, lt)
  effect_or_none x o (OtherReply y call told given) lt none wrong =
      let same = calls_once history id none.2.0 call none.2.1 wrong.4.0 well none.2.2 wrong.4.2 in
      let effects : effect hash world none.2.0 none.2.1 ≡ effect hash world call wrong.4.0 = ap (λ c. effect hash world c none.2.1) same.0 ∙ ap (λ u. effect hash world call u) same.1 in
      let bad : ⊥ = cc (effects, none.2.3, wrong.4.3) in bad
  effect_or_none x o (Missing y) lt none wrong = wrong

  -- of two faults neither comes before the other
  not_before : (f g : OrderFault) → rank f < rank g → IsWrongBehind hash history ids id world f → ¬ IsWrongBehind hash history ids id world g
  not_before (WrongEvent p) g lt first wrong = first
  not_before (NotBegun x) g lt first wrong = first.1 (begun_past g lt wrong)
  not_before (StandsTwice x) g lt first wrong = new_past g lt wrong first.1
  not_before (WasRefused x) g lt first wrong = answered_past g lt wrong first.2
  not_before (StandsBehind x other) g lt first wrong =
      let timed = timed_past g lt wrong in
      let among = (first.4).among in
      timed.on_time among.0 other among.1 first.3
  not_before (NoEffect x o) g lt first wrong = effect_or_none x o g lt first wrong
  not_before (OtherReply x call told given) (WrongEvent p) lt first wrong = wrong
  not_before (OtherReply x call told given) (NotBegun y) lt first wrong = omega (arith, lt)
  not_before (OtherReply x call told given) (StandsTwice y) lt first wrong = omega (arith, lt)
  not_before (OtherReply x call told given) (WasRefused y) lt first wrong = omega (arith, lt)
  not_before (OtherReply x call told given) (StandsBehind y other) lt first wrong = omega (arith, lt)
  not_before (OtherReply x call told given) (NoEffect y o) lt first wrong = omega (arith, lt)
  not_before (OtherReply x call told given) (OtherReply y c r g) lt first wrong = omega (arith, lt)
  not_before (OtherReply x call told given) (Missing y) lt first wrong = wrong
  not_before (Missing x) g lt first wrong = first

  -- the operation that began last is one
  one_last : (other more : ℕ) → IsBefore history id other → BeganLast history ids other → IsBefore history id more → BeganLast history ids more → other ≡ more
  one_last other more before last before_more last_more =
      let below = last.last last_more.among.0 more before.1 before_more.1 before.3 before_more.3 last_more.among.1 before.5 before_more.5 in
      let above = last_more.last last.among.0 other before_more.1 before.1 before_more.3 before.3 last.among.1 before_more.5 before.5 in
      let same : before_more.1 ≡ before.1 = omega arith in
      let there : BeginsAt history before.1 more before_more.3 = subst (λ p. BeginsAt history p more before_more.3) same before_more.5 in
      let x : Operation = before.3 in
      let y : Operation = before_more.3 in
      let events : Begin other x.actor x.call x.opens ≡ Begin more y.actor y.call y.opens = same_Some (Begin other x.actor x.call x.opens) (Begin more y.actor y.call y.opens) (sym before.5 ∙ there) in
      let ids_same : other ≡ more = cc events in
      ids_same

  -- faults of one rank are one
  same_rank : (f g : OrderFault) → rank f ≡ rank g → IsWrongBehind hash history ids id world f → IsWrongBehind hash history ids id world g → f ≡ g
  same_rank (NotBegun x) (NotBegun y) e p q = ap NotBegun (p.0 ∙ sym q.0)
  same_rank (StandsTwice x) (StandsTwice y) e p q = ap StandsTwice (p.0 ∙ sym q.0)
  same_rank (WasRefused x) (WasRefused y) e p q = ap WasRefused (p.0 ∙ sym q.0)
  same_rank (StandsBehind x a) (StandsBehind y b) e p q = ap (λ k. StandsBehind k a) (p.0 ∙ sym q.0) ∙ ap (StandsBehind y) (one_last a b p.3 p.4 q.3 q.4)
  same_rank (NoEffect x a) (NoEffect y b) e p q =
      let call : Call = p.2.0 in
      let opens : Option ℕ = p.2.1 in
      let same = calls_once history id q.2.0 call q.2.1 opens well q.2.2 p.2.2 in
      let begins = p.2.2 in
      let rightly : OpensRightly call opens = (well begins.0 (Begin id begins.1 call opens) begins.2).1 in
      let hinders : Hinders world call opens b = subst (λ u. Hinders world call u b) same.1 (subst (λ c. Hinders world c q.2.1 b) same.0 q.2.4) in
      ap (λ k. NoEffect k a) (p.0 ∙ sym q.0) ∙ ap (NoEffect y) (one_obstacle world call opens a b rightly p.2.4 hinders)
  same_rank (OtherReply x c r g) (OtherReply y d s h) e p q =
      let same = calls_once history id c d p.4.0 q.4.0 well p.4.2 q.4.2 in
      let effects : effect hash world c p.4.0 ≡ effect hash world d q.4.0 = ap (λ k. effect hash world k p.4.0) same.0 ∙ ap (λ u. effect hash world d u) same.1 in
      let pairs : Some (g, p.4.1) ≡ Some (h, q.4.1) = sym p.4.3 ∙ effects ∙ q.4.3 in
      let given = some_pair_parts g h p.4.1 q.4.1 pairs in
      ap (λ k. OtherReply k c r g) (p.0 ∙ sym q.0) ∙ ap (λ k. OtherReply y k r g) same.0 ∙ ap (λ k. OtherReply y d k g) (reply_once history id r s well p.2 q.2) ∙ ap (OtherReply y d s) given.0
  same_rank (WrongEvent x) g e p q = absurd p
  same_rank (Missing x) g e p q = absurd p
  same_rank f (WrongEvent x) e p q = absurd q
  same_rank f (Missing x) e p q = absurd q
  same_rank (NotBegun x) g e p q = absurd (omega (arith, e))
  same_rank (StandsTwice x) g e p q = absurd (omega (arith, e))
  same_rank (WasRefused x) g e p q = absurd (omega (arith, e))
  same_rank (StandsBehind x a) g e p q = absurd (omega (arith, e))
  same_rank (NoEffect x a) g e p q = absurd (omega (arith, e))
  same_rank (OtherReply x c r g) h e p q = absurd (omega (arith, e))

  -- an operation is wrong behind these in one way
  pub one_wrong : (f g : OrderFault) → IsWrongBehind hash history ids id world f → IsWrongBehind hash history ids id world g → f ≡ g
  one_wrong f g p q = elim (cases_order (rank f) (rank g)) [
    | inl same ↦ same_rank f g same p q
    | inr differ ↦ elim differ [ inl lt ↦ absurd (not_before f g lt p q) | inr gt ↦ absurd (not_before g f gt q p) ]
  ]

-- an operation of the order is wrong
abbrev IsWrongAt : (ℕ → ℕ) → List Event → List ℕ → OrderFault → Type 0
IsWrongAt hash history order fault =
    (place id : ℕ) × (world : HandleMap) × OrderedAt order place id × LeadsTo hash history (take place order) world × IsWrongBehind hash history (take place order) id world fault

-- the three kinds of faults
data Site (hash : ℕ → ℕ) (history : List Event) (order : List ℕ) : OrderFault → Type 0 where
  in_events : (place : ℕ) → IsFirstWrong history place → Site hash history order (WrongEvent place)
  in_order : (fault : OrderFault) → IsWellFormed history → IsWrongAt hash history order fault → Site hash history order fault
  behind : (id : ℕ) (world : HandleMap) → IsWellFormed history → LeadsTo hash history order world → IsFirstMissing history order id → Site hash history order (Missing id)

site : (hash : ℕ → ℕ) (history : List Event) (order : List ℕ) (fault : OrderFault) → IsFirstFault hash history order fault → Site hash history order fault
site hash history order (WrongEvent place) first = in_events place first
site hash history order (NotBegun x) first = in_order (NotBegun x) first.0 first.1
site hash history order (StandsTwice x) first = in_order (StandsTwice x) first.0 first.1
site hash history order (WasRefused x) first = in_order (WasRefused x) first.0 first.1
site hash history order (StandsBehind x y) first = in_order (StandsBehind x y) first.0 first.1
site hash history order (NoEffect x o) first = in_order (NoEffect x o) first.0 first.1
site hash history order (OtherReply x c r g) first = in_order (OtherReply x c r g) first.0 first.1
site hash history order (Missing id) first = behind id first.1.0 first.0 first.1.1 first.2

-- a beginning of a beginning
take_less : {X : Type 0} (order : List X) (p q : ℕ) → p ≤ q → take p (take q order) ≡ take p order
take_less order zero q le = refl
take_less [] (suc p) zero le = refl
take_less [] (suc p) (suc q) le = refl
take_less (x ∷ order) (suc p) zero le = absurd (omega (arith, le))
take_less (x ∷ order) (suc p) (suc q) le = ap (λ (xs : List _). x ∷ xs) (take_less order p q (omega (arith, le)))

-- no operation is wrong in a beginning that leads to a world
not_within : (hash : ℕ → ℕ) (history : List Event) (order : List ℕ) (fault : OrderFault) (q : ℕ) (world : HandleMap) → IsWellFormed history → (wrong : IsWrongAt hash history order fault) → wrong.0 < q
    → LeadsTo hash history (take q order) world → ⊥
not_within hash history order fault q world well wrong lt leads =
    let p = wrong.0 in
    let id = wrong.1 in
    let same : take p order ≡ take p (take q order) = sym (take_less order p q (omega arith)) in
    let at : OrderedAt (take q order) p id = in_take order q p id lt wrong.3 in
    let so_far : LeadsTo hash history (take p (take q order)) wrong.2 = subst (λ xs. LeadsTo hash history xs wrong.2) same wrong.4 in
    let here : IsWrongBehind hash history (take p (take q order)) id wrong.2 fault = subst (λ xs. IsWrongBehind hash history xs id wrong.2 fault) same wrong.5 in
    let stands = must_stand hash history (take q order) p id wrong.2 world well so_far leads at in
    not_wrong hash history (take p (take q order)) id wrong.2 stands.0 fault well stands.1 here

-- no operation is wrong in an order that leads to a world
not_in_whole : (hash : ℕ → ℕ) (history : List Event) (order : List ℕ) (fault : OrderFault) (world : HandleMap) → IsWellFormed history → IsWrongAt hash history order fault
    → ¬ LeadsTo hash history order world
not_in_whole hash history order fault world well wrong leads =
    let stands = must_stand hash history order wrong.0 wrong.1 wrong.2 world well wrong.4 leads wrong.3 in
    not_wrong hash history (take wrong.0 order) wrong.1 wrong.2 stands.0 fault well stands.1 wrong.5

-- two faults at one place are one
same_place : (hash : ℕ → ℕ) (history : List Event) (order : List ℕ) (f g : OrderFault) → IsWellFormed history → (a : IsWrongAt hash history order f) (b : IsWrongAt hash history order g)
    → a.0 ≡ b.0 → f ≡ g
same_place hash history order f g well a b same =
    let id : b.1 ≡ a.1 = same_Some b.1 a.1 (sym b.3 ∙ ap (slice_get order) (sym same) ∙ a.3) in
    let leads : LeadsTo hash history (take a.0 order) b.2 = subst (λ p. LeadsTo hash history (take p order) b.2) (sym same) b.4 in
    let world : b.2 ≡ a.2 = one_world hash history (take a.0 order) leads.replayed.0 a.4.replayed.0 first_world b.2 a.2 well leads.replayed.1 leads.replayed.2 a.4.replayed.1 a.4.replayed.2 in
    let there : IsWrongBehind hash history (take a.0 order) b.1 b.2 g = subst (λ p. IsWrongBehind hash history (take p order) b.1 b.2 g) (sym same) b.5 in
    let named : IsWrongBehind hash history (take a.0 order) a.1 b.2 g = subst (λ k. IsWrongBehind hash history (take a.0 order) k b.2 g) id there in
    let moved : IsWrongBehind hash history (take a.0 order) a.1 a.2 g = subst (λ w. IsWrongBehind hash history (take a.0 order) a.1 w g) world named in
    one_wrong hash history (take a.0 order) a.1 a.2 well a.4 f g a.5 moved

one_place : (hash : ℕ → ℕ) (history : List Event) (order : List ℕ) (f g : OrderFault) → IsWellFormed history → IsWrongAt hash history order f → IsWrongAt hash history order g → f ≡ g
one_place hash history order f g well a b = elim (cases_order a.0 b.0) [
  | inl same ↦ same_place hash history order f g well a b same
  | inr differ ↦ elim differ [
    | inl lt ↦ absurd (not_within hash history order f b.0 b.2 well a lt b.4)
    | inr gt ↦ absurd (not_within hash history order g a.0 a.2 well b gt a.4)
  ]
]

-- no event is wrong before a wrong one
not_earlier : (history : List Event) (p q : ℕ) → IsFirstWrong history p → IsFirstWrong history q → ¬ (p < q)
not_earlier history p q a b lt =
    let follows = b.0 p a.1.0 (in_take history q p a.1.0 lt a.1.1) in
    a.1.2 (subst (λ (xs : List Event). MayFollow xs a.1.0) (take_less history p q (omega arith)) follows)

one_event : (history : List Event) (p q : ℕ) → IsFirstWrong history p → IsFirstWrong history q → p ≡ q
one_event history p q a b = elim (cases_order p q) [
  | inl same ↦ same
  | inr differ ↦ elim differ [ inl lt ↦ absurd (not_earlier history p q a b lt) | inr gt ↦ absurd (not_earlier history q p b a gt) ]
]

one_missing : (history : List Event) (order : List ℕ) (a b : ℕ) → IsFirstMissing history order a → IsFirstMissing history order b → a ≡ b
one_missing history order a b p q = elim (cases_order a b) [
  | inl same ↦ same
  | inr differ ↦ elim differ [ inl lt ↦ absurd (q.1 a lt p.0) | inr gt ↦ absurd (p.1 b gt q.0) ]
]

ill_formed : (history : List Event) (place : ℕ) → IsFirstWrong history place → ¬ IsWellFormed history
ill_formed history place first well = first.1.2 (well place first.1.0 first.1.1)

one_site : (hash : ℕ → ℕ) (history : List Event) (order : List ℕ) (f g : OrderFault) → Site hash history order f → Site hash history order g → f ≡ g
one_site hash history order f g (in_events p a) (in_events q b) = ap WrongEvent (one_event history p q a b)
one_site hash history order f g (in_events p a) (in_order y well b) = absurd (ill_formed history p a well)
one_site hash history order f g (in_events p a) (behind id world well leads b) = absurd (ill_formed history p a well)
one_site hash history order f g (in_order x well a) (in_events q b) = absurd (ill_formed history q b well)
one_site hash history order f g (in_order x well a) (in_order y other b) = one_place hash history order x y well a b
one_site hash history order f g (in_order x well a) (behind id world other leads b) = absurd (not_in_whole hash history order x world well a leads)
one_site hash history order f g (behind id world well leads a) (in_events q b) = absurd (ill_formed history q b well)
one_site hash history order f g (behind id world well leads a) (in_order y other b) = absurd (not_in_whole hash history order y world well b leads)
one_site hash history order f g (behind id world well leads a) (behind more v other there b) = ap Missing (one_missing history order id more a b)

-- an order has at most one first fault
pub one_first_fault : HasOneFirstFault
one_first_fault hash history order f g first_f first_g = one_site hash history order f g (site hash history order f first_f) (site hash history order g first_g)
