-- The slots of nodes that an operation gives up are free for its seat.
use Rattle.history.specs.declared.calls.Call.{Call}
use Rattle.std.proofs.Common.{◌≡◌, ◌≢◌, ◌⊎◌, ◌<◌, ◌==◌, ℕ, zero, suc, length, inl, inr, true, ◌||◌, List, [], ◌∷◌, Contains, map, get_or, Some, None, refl, sym, ap, subst, ◌∙◌, arith, eq-eqb, ◌++◌}
use Rattle.std.proofs.Math.Bool.{or-true}
use Rattle.std.proofs.lemmas.List.Elements.{Contains-get_or, Contains-append_right}
use mathlib.Core.Option.{some}
use lib.ListN.{get_elem?}
use Rattle.atomic_table.specs.Table as Table
use Rattle.machine_model.specs.Beneath.slot_arena.specs.declared.refs.Ref.{Ref}
use Rattle.machine_model.specs.Beneath.slot_arena.specs.declared.nodes.Slot.{Slot}
use Rattle.machine_model.specs.Beneath.slot_arena.specs.Heaps.{stored, node_at, node_of}
use Rattle.machine_model.specs.Beneath.slot_arena.specs.Refs.{slot_of}
use Rattle.machine_model.specs.States.{State}
use Rattle.lock_free.specs.declared.accounts.Account.{Account}
use Rattle.lock_free.specs.declared.rules.Pool.{Pool}
use Rattle.lock_free.specs.declared.rules.View.{View}
use Rattle.lock_free.specs.Accounts.{state_of, place_of}
use Rattle.lock_free.specs.GivingUp.{given_back}
use Rattle.lock_free.specs.Making.{with_slot}
use Rattle.lock_free.specs.Nodes.{class_of}
use Rattle.lock_free.specs.Rules.{Stands, Once, pool_of, IsKept}
use Rattle.lock_free.proofs.Asked.{is_one_of}
use Rattle.lock_free.proofs.Framing.{class_small}
use Rattle.lock_free.proofs.Pools.{free_still, now_free, was_free, once_with, parted_same}

pub node_is : (state : State) (r : Ref) (slot : Slot) → get_or state.heap.slots (slot_of r) None ≡ Some slot → node_at state.heap r ≡ slot.node
unfolding node_at stored
node_is state r slot is = ap node_of is

first_there : {A : Type 0} (x : A) (xs : List A) → Contains (x ∷ xs) x
first_there x xs = Contains-get_or (x ∷ xs) 0 x (omega arith)

-- what is in a list: the first, or one of the rest
pub first_or : {A : Type 0} (x : A) (xs : List A) (r : A) → Contains (x ∷ xs) r → (x ≡ r) ⊎ Contains xs r
first_or x xs r c = by c.0 c.1 c.2
  where
    by : (k : ℕ) → k < length (x ∷ xs) → get_or (x ∷ xs) k r ≡ r → (x ≡ r) ⊎ Contains xs r
    by zero low e = inl e
    by (suc k) low e = inr (k, omega (arith, low), e)

mapped_there : {A B : Type 0} (f : A → B) (xs : List A) (x : A) → Contains xs x → Contains (map f xs) (f x)
mapped_there f [] x c = absurd (omega (arith, c.1))
mapped_there f (y ∷ ys) x c = elim (first_or y ys x c) [
  | inl same ↦ subst (λ z. Contains (map f (y ∷ ys)) (f z)) same (first_there (f y) (map f ys))
  | inr more ↦ Contains-append_right (f y ∷ []) (map f ys) (f x) (mapped_there f ys x more)
]

-- a node of these is one of them
pub one_of : (rs : List Ref) (r : Ref) → Contains rs r → is_one_of rs (slot_of r) ≡ true
one_of [] r c = absurd (omega (arith, c.1))
one_of (x ∷ xs) r c = elim (first_or x xs r c) [
  | inl same ↦ ap (λ b. b || is_one_of xs (slot_of r)) (eq-eqb (slot_of x) (slot_of r) (ap slot_of same))
  | inr more ↦ ap (λ b. (slot_of x == slot_of r) || b) (one_of xs r more) ∙ or-true (slot_of x == slot_of r)
]

-- each that is given back is free then, and what was free is
pub still_free : (state : State) (account : Account) (rs : List Ref) (pool : Pool) (b name : ℕ) → b < 3 → Contains (pool_of pool b) name → Contains (pool_of (given_back state account rs pool) b) name
still_free state account [] pool b name low c = c
still_free state account (r ∷ rs) pool b name low c =
    let class = class_of (node_at state.heap r) in
    still_free state account rs (with_slot pool class (place_of account r)) b name low (free_still pool class (place_of account r) (class_small (node_at state.heap r)) b name low c)

pub given_free : (state : State) (account : Account) (rs : List Ref) (pool : Pool) (r : Ref) → Contains rs r → Contains
    (pool_of (given_back state account rs pool) (class_of (node_at state.heap r))) (place_of account r)
given_free state account [] pool r c = absurd (omega (arith, c.1))
given_free state account (x ∷ rs) pool r c =
    let class = class_of (node_at state.heap x) in
    let next = with_slot pool class (place_of account x) in
    elim (first_or x rs r c) [
      | inl same ↦
          subst (λ q. Contains (pool_of (given_back state account rs next) (class_of (node_at state.heap q))) (place_of account q)) same
          (still_free state account rs next class (place_of account x) (class_small (node_at state.heap x)) (now_free pool class (place_of account x) (class_small (node_at state.heap x))))
      | inr more ↦ given_free state account rs next r more
    ]

pub parted_back : (state : State) (account : Account) (rs : List Ref) (pool : Pool) → (given_back state account rs pool).parted ≡ pool.parted
parted_back state account [] pool = refl
parted_back state account (r ∷ rs) pool =
    let class = class_of (node_at state.heap r) in
    parted_back state account rs (with_slot pool class (place_of account r)) ∙ parted_same pool class (pool_of pool class ++ place_of account r ∷ [])

module _ (v : View) (s : Table.State Call View) (kept : IsKept v.sizes s) (id : ℕ) (at : get_elem? s.views id ≡ some v) where
  abbrev state : State
  state = state_of v.sizes kept.account

  -- a slot that is given back: such a node stood there
  pub record WasOf (P : Ref → Type 0) (b name : ℕ) : Type 0 where
    pub node : Ref
    pub one : P node
    pub slot : Slot
    pub stood : Stands kept.stands state (slot_of node) slot
    pub class : class_of slot.node ≡ b
    pub place : place_of kept.account node ≡ name

  pub record Fits (P : Ref → Type 0) (pool : Pool) : Type 0 where
    pub once : (b : ℕ) → b < 3 → Once (pool_of pool b)
    pub more : (b name : ℕ) → b < 3 → Contains (pool_of v.pool b) name → Contains (pool_of pool b) name
    pub which : (b name : ℕ) → b < 3 → Contains (pool_of pool b) name → Contains (pool_of v.pool b) name ⊎ WasOf P b name

  of_more : (P Q : Ref → Type 0) (b name : ℕ) → ((q : Ref) → P q → Q q) → WasOf P b name → WasOf Q b name
  of_more P Q b name f w = record { node = w.node; one = f w.node w.one; slot = w.slot; stood = w.stood; class = w.class; place = w.place }

  which_more : (P Q : Ref → Type 0) (b name : ℕ) → ((q : Ref) → P q → Q q) → Contains (pool_of v.pool b) name ⊎ WasOf P b name → Contains (pool_of v.pool b) name ⊎ WasOf Q b name
  which_more P Q b name f (inl old) = inl old
  which_more P Q b name f (inr w) = inr (of_more P Q b name f w)

  -- one more
  module _ (P : Ref → Type 0) (pool : Pool) (fits : Fits P pool) (r : Ref) (slot : Slot) (stood : Stands kept.stands state (slot_of r) slot) (new : (q : Ref) → P q → slot_of q ≢ slot_of r) where
    abbrev class : ℕ
    class = class_of (node_at state.heap r)

    abbrev name : ℕ
    name = place_of kept.account r

    class_is : class ≡ class_of slot.node
    class_is = ap class_of (node_is state r slot stood.1)

    small : class < 3
    small = class_small (node_at state.heap r)

    not_there : Contains (pool_of pool class) name → ⊥
    not_there c = elim (fits.which class name small c) [
      | inl old ↦ ((kept.seats id v at).spare class name (small, old)).1.0 (slot_of r) slot stood refl
      | inr w ↦ new w.node w.one (kept.nodes.apart (slot_of w.node) (slot_of r) w.slot slot w.stood stood w.place)
    ]

  put_one : (P : Ref → Type 0) (pool : Pool) (fits : Fits P pool) (r : Ref) (slot : Slot) (stood : Stands kept.stands state (slot_of r) slot) (new : (q : Ref) → P q → slot_of q ≢ slot_of r) →
      Fits (λ q. P q ⊎ (r ≡ q)) (with_slot pool (class_of (node_at state.heap r)) (place_of kept.account r))
  put_one P pool fits r slot stood new =
      let b0 = class P pool fits r slot stood new in
      let n0 = name P pool fits r slot stood new in
      let low0 = small P pool fits r slot stood new in
      record {
        once = once_with pool b0 n0 low0 fits.once (not_there P pool fits r slot stood new);
        more = λ b n low c. free_still pool b0 n0 low0 b n low (fits.more b n low c);
        which = λ b n low c. elim (was_free pool b0 n0 low0 b n low c) [
          | inl old ↦ which_more P (λ q. P q ⊎ (r ≡ q)) b n (λ q x. inl x) (fits.which b n low old)
          | inr is ↦ inr (record { node = r; one = inr refl; slot = slot; stood = stood; class = sym (class_is P pool fits r slot stood new) ∙ sym is.0; place = is.1 })
        ];
      }

  -- all of them
  module _ (all : List Ref) (each : (r : Ref) → Contains all r → (slot : Slot) × Stands kept.stands state (slot_of r) slot) where
    put_all : (P : Ref → Type 0) (rest : List Ref) (pool : Pool) → Fits P pool → ((q : Ref) → P q → Contains all q) → ((q : Ref) → Contains rest q → Contains all q) → Once (map slot_of rest) →
        ((r q : Ref) → Contains rest r → P q → slot_of q ≢ slot_of r) → Fits (λ q. Contains all q) (given_back state kept.account rest pool)
    put_all P [] pool fits known in_all once apart = record { once = fits.once; more = fits.more; which = λ b n low c. which_more P (λ q. Contains all q) b n known (fits.which b n low c) }
    put_all P (r ∷ rest) pool fits known in_all once apart =
        let here = first_there r rest in
        let stands = each r (in_all r here) in
        put_all (λ q. P q ⊎ (r ≡ q)) rest (with_slot pool (class_of (node_at state.heap r)) (place_of kept.account r)) (put_one P pool fits r stands.0 stands.1 (λ q x. apart r q here x))
        (λ q x. elim x [
          | inl old ↦ known q old
          | inr same ↦ subst (λ y. Contains all y) same (in_all r here)
        ])
        (λ q c. in_all q (Contains-append_right (r ∷ []) rest q c)) once.1
        (λ x q c y. elim y [
          | inl old ↦ apart x q (Contains-append_right (r ∷ []) rest x c) old
          | inr same ↦ (λ e. once.0 (subst (λ n. Contains (map slot_of rest) n) (sym e ∙ ap slot_of (sym same)) (mapped_there slot_of rest x c)))
        ])

    pub all_fit : Once (map slot_of all) → Fits (λ q. Contains all q) (given_back state kept.account all v.pool)
    all_fit once =
        put_all (λ q. ⊥) all v.pool (record { once = (kept.seats id v at).once; more = λ b n low c. c; which = λ b n low c. inl c }) (λ q x. absurd x) (λ q c. c) once (λ r q c x. absurd x)
