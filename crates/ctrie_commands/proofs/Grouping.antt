-- What the threads of groups of seats have done together.
use Rattle.std.proofs.Common.{◌≡◌, zero, suc, List, [], ◌∷◌, ◌++◌, map, length, refl, sym, ap, subst, ◌∙◌, inl, inr, arith, append_assoc, append-nil, length-append}
use Rattle.std.specs.Prelude.{ℕ, ◌↔◌, Bool, false, IsTrue, Result, Ok, Err, IfOk, Some, slice_get, All}
use Rattle.std.specs.List.{flat_map, AllZip}
use Rattle.std.specs.declared.alloc.AllocError.{AllocError}
use Rattle.std.specs.Global.{Vec}
use Rattle.std.proofs.lemmas.List.{map-append, flat_map_more, length-map}
use Rattle.std.proofs.lemmas.List.Elements.{All-nil, All-cons, All-head, All-tail, All-same, All-push}
use Rattle.lock_runner.specs.Seats.{Seated}
use Rattle.history.proofs.Places.{at_cases}
use Rattle.lock_runner.proofs.Ends.{of_each}
use Rattle.ctrie_commands.specs.Beneath.script_text.specs.Threads.Reading.{Reading}
use Rattle.ctrie_commands.specs.declared.working.Worker.{Worker}
use Rattle.ctrie_commands.specs.Working.{HasWork, IsGroup, HasWorked, HaveWorked, all_seats, GroupsHaveWorked, AreJoined}
use Rattle.ctrie_commands.proofs.Ranks.{to_map}

-- ---- the seats of groups

all_left : {A : Type 0} (P : A → Type 0) (xs ys : List A) → All P (xs ++ ys) → All P xs
all_left P [] ys all = All-nil P
all_left P (x ∷ xs) ys all = All-cons P x xs (All-head P x (xs ++ ys) all) (all_left P xs ys (All-tail P x (xs ++ ys) all))

all_right : {A : Type 0} (P : A → Type 0) (xs ys : List A) → All P (xs ++ ys) → All P ys
all_right P [] ys all = all
all_right P (x ∷ xs) ys all = all_right P xs ys (All-tail P x (xs ++ ys) all)

each_group : (P : Seated → Type 0) (groups : List (Vec Seated)) → All P (all_seats groups) → All (λ group. All P group.items) groups
each_group P [] all = All-nil (λ (group : Vec Seated). All P group.items)
each_group P (group ∷ groups) all =
    All-cons (λ (g : Vec Seated). All P g.items) group groups (all_left P group.items (all_seats groups) all)
    (each_group P groups (all_right P group.items (all_seats groups) all))

pub all_grouped : (P : Seated → Type 0) (seats : List Seated) (groups : List (Vec Seated)) → seats ≡ all_seats groups → All P seats → All (λ group. All P group.items) groups
all_grouped P seats groups are all = each_group P groups (subst (All P) are all)

-- ---- one seat more

-- it goes into the group that is begun
pub joins_group : (groups : List (Vec Seated)) (before after yielded : List Seated) (seat : Seated) → all_seats groups ++ before ≡ yielded → after ≡ before ++ seat ∷ [] →
    all_seats groups ++ after ≡ yielded ++ seat ∷ []
joins_group groups before after yielded seat so_far longer =
    ap (λ xs. all_seats groups ++ xs) longer ∙ sym (append_assoc (all_seats groups) before (seat ∷ [])) ∙ ap (λ ys. ys ++ seat ∷ []) so_far

-- and is its last one
pub ends_group : (groups after : List (Vec Seated)) (group : Vec Seated) (before new yielded : List Seated) (seat : Seated) → all_seats groups ++ before ≡ yielded →
    group.items ≡ before ++ seat ∷ [] → after ≡ groups ++ group ∷ [] → new ≡ [] → all_seats after ++ new ≡ yielded ++ seat ∷ []
ends_group groups after group before new yielded seat so_far longer is none =
    ap (λ xs. all_seats after ++ xs) none ∙ append-nil (all_seats after) ∙ ap all_seats is ∙ sym (flat_map_more (λ (g : Vec Seated). g.items) [] groups group)
    ∙ joins_group groups before group.items yielded seat so_far longer

-- ---- who has something to do

abbrev pub HasNone : Reading → Seated → Type 0
HasNone script seat = ¬ HasWork script seat.actor

abbrev pub AreGroups : Reading → List (Vec Seated) → Type 0
AreGroups script groups = All (λ group. IsGroup script group.items) groups

pub has_none : (script : Reading) (seat : Seated) (actor : ℕ) (found : Bool) → actor ≡ seat.actor → found ≡ false → (IsTrue found ↔ HasWork script actor) → HasNone script seat
has_none script seat actor found is none tells work = grind (arith, tells.1 (subst (λ a. HasWork script a) (sym is) work), none)

pub none_more : (script : Reading) (before after : List Seated) (seat : Seated) → All (HasNone script) before → HasNone script seat → after ≡ before ++ seat ∷ [] →
    All (HasNone script) after
none_more script before after seat all one is = All-same (HasNone script) after _ is (All-push (HasNone script) before seat all one)

pub is_group : (script : Reading) (before seats : List Seated) (last : Seated) → All (HasNone script) before → seats ≡ before ++ last ∷ [] → IsGroup script seats
is_group script before seats last none is k seat at below = elim (at_cases before last k seat (ap (λ xs. slice_get xs k) (sym is) ∙ at)) [
  | inl h ↦ of_each (HasNone script) before k seat none h
  | inr h ↦ absurd (omega (arith, h.0, below, ap (λ xs. length xs) is, length-append before (last ∷ [])))
]

pub is_idle_group : (script : Reading) (seats : List Seated) → All (HasNone script) seats → IsGroup script seats
is_idle_group script seats none k seat at below = of_each (HasNone script) seats k seat none at

pub groups_more : (script : Reading) (groups after : List (Vec Seated)) (group : Vec Seated) → AreGroups script groups → IsGroup script group.items → after ≡ groups ++ group ∷ [] →
    AreGroups script after
groups_more script groups after group all one is =
    All-same (λ (g : Vec Seated). IsGroup script g.items) after _ is (All-push (λ (g : Vec Seated). IsGroup script g.items) groups group all one)

-- ---- their workers

zip_append : {A B : Type 0} (R : A → B → Type 0) (xs more : List A) (ys others : List B) → AllZip R xs ys → AllZip R more others → AllZip R (xs ++ more) (ys ++ others)
zip_append R [] more [] others none rest = rest
zip_append R [] more (y ∷ ys) others none rest = absurd none
zip_append R (x ∷ xs) more [] others none rest = absurd none
zip_append R (x ∷ xs) more (y ∷ ys) others (first, behind) rest = (first, zip_append R xs more ys others behind rest)

pub have_worked_more : (script : Reading) (seats : List Seated) (seat : Seated) (workers after : List Worker) (worker : Worker) → HaveWorked script seats workers → HasWorked script seat worker →
    after ≡ workers ++ worker ∷ [] → HaveWorked script (seats ++ seat ∷ []) after
have_worked_more script seats seat workers after worker so_far worked is =
    subst (λ ws. HaveWorked script (seats ++ seat ∷ []) ws) (sym is) (zip_append (HasWorked script) seats (seat ∷ []) workers (worker ∷ []) so_far (worked, tt))

pub joined_more : (results : List (Result (Vec Worker) AllocError)) (result : Result (Vec Worker) AllocError) (group : Vec Worker) (before after : List Worker) →
    AreJoined results before → result ≡ Ok group → after ≡ before ++ group.items → AreJoined (results ++ result ∷ []) after
joined_more results result group before after so_far is longer = record {
  groups = so_far.groups ++ group ∷ [];
  all = ap (λ rs. rs ++ result ∷ []) so_far.all ∙ ap (λ r. map Ok so_far.groups ++ r ∷ []) is ∙ sym (map-append Ok so_far.groups (group ∷ []));
  workers_are = longer ∙ ap (λ ws. ws ++ group.items) so_far.workers_are ∙ flat_map_more (λ (g : Vec Worker). g.items) [] so_far.groups group;
}

each_worked : (script : Reading) (groups : List (Vec Seated)) (lists : List (Vec Worker)) → length lists ≡ length groups →
    ((k : ℕ) (group : Vec Seated) (workers : Vec Worker) → slice_get groups k ≡ Some group → slice_get lists k ≡ Some workers → HaveWorked script group.items workers.items) →
    HaveWorked script (all_seats groups) (flat_map (λ list. list.items) lists)
each_worked script [] [] number each = tt
each_worked script [] (list ∷ lists) number each = absurd (omega (arith, number))
each_worked script (group ∷ groups) [] number each = absurd (omega (arith, number))
each_worked script (group ∷ groups) (list ∷ lists) number each =
    zip_append (HasWorked script) group.items (all_seats groups) list.items (flat_map (λ (l : Vec Worker). l.items) lists) (each zero group list refl refl)
    (each_worked script groups lists (omega (arith, number)) (λ k g l. each (suc k) g l))

groups_worked : (script : Reading) (seats : List Seated) (groups : List (Vec Seated)) (results : List (Result (Vec Worker) AllocError)) (workers : List Worker) →
    seats ≡ all_seats groups → GroupsHaveWorked script groups results → AreJoined results workers → HaveWorked script seats workers
groups_worked script seats groups results workers are worked joined =
    let number : length joined.groups ≡ length groups = sym (length-map joined.groups Ok) ∙ ap (λ rs. length rs) (sym joined.all) ∙ worked.number in
    let all = each_worked script groups joined.groups number
    (λ k group list e f. worked.each k group list e (ap (λ rs. slice_get rs k) joined.all ∙ to_map Ok joined.groups k list f)) in
    rw (are, joined.workers_are) all

pub when_joined : (script : Reading) (seats : List Seated) (groups : List (Vec Seated)) (results : List (Result (Vec Worker) AllocError))
    (joined : Result (Vec Worker) AllocError) → seats ≡ all_seats groups → GroupsHaveWorked script groups results → IfOk joined (λ workers. AreJoined results workers.items) →
    IfOk joined (λ workers. HaveWorked script seats workers.items)
when_joined script seats groups results (Ok workers) are worked joined = groups_worked script seats groups results workers.items are worked joined
when_joined script seats groups results (Err refused) are worked joined = tt
