-- Worlds by their cells: when two are one, and which cell a call changes.
use Rattle.std.proofs.Common.{◌≡◌, ◌≢◌, ℕ, ◌<◌, ◌⊎◌, Bool, true, false, cond, eq-eqb, ne_eqb, inl, inr, Option, Some, None, option_and_then, IfSome, if◌then◌else◌, nat_cmp, nat_eq}
use Rattle.std.proofs.Common.{eqb-true, refl, sym, ap, ◌∙◌, subst, arith}
use Rattle.std.specs.Cmp.{nat_cmp_total, unsigned_tied}
use Rattle.std.specs.FinMap as map
use Rattle.std.specs.Option.{option_eq}
use Rattle.std.specs.FinMap.{get-insert, get-remove, same_map, nat_cmp-IsAntisymmetric}
use Rattle.std.proofs.lemmas.Bool.{cases_order, false≢true}
use Rattle.std.proofs.lemmas.Option.{some_pair_parts}
use Rattle.order_search.specs.Vocabulary.{Access, Writable, ReadOnly, Call, Get, Put, PutIfAbsent, Replace, ReplaceIf, Remove, RemoveIf, Clear, Snapshot, Freeze, Close, Entries, Count, Reply}
use Rattle.order_search.specs.Vocabulary.{KeyMap, HandleState, HandleMap, effect, answer_in, map_of, with_access, changing, naming, put_if_absent_in, replace_in, replace_if_in, remove_in}
use Rattle.order_search.specs.Vocabulary.{remove_if_in, is_crowded, has_value}
use Rattle.history.specs.declared.replies.Reply.TheVariants as reply
use Rattle.history.specs.Effects.{put_in, read_only_map_of}
use Rattle.order_search.specs.declared.cells.Cell.{Cell}
use Rattle.order_search.specs.Cells.{cell_of, access_at, value_at, value_in, DifferIn, reads_only}

pub apart_of : (a b : ℕ) → (a < b) ⊎ (b < a) → a ≢ b
apart_of a b (inl less) same = omega (arith, less, same)
apart_of a b (inr more) same = omega (arith, more, same)

module _ {X : Type 0} where
  pub at_same : (m : map.FinMap nat_cmp X) (k : ℕ) (x : X) → map.get (map.insert m k x) k ≡ Some x
  at_same m k x = get-insert nat_cmp_total m k x k ∙ ap (λ b. cond b (Some x) (map.get m k)) (unsigned_tied k k ∙ eq-eqb k k refl)

  pub at_other : (m : map.FinMap nat_cmp X) (k : ℕ) (x : X) (q : ℕ) → q ≢ k → map.get (map.insert m k x) q ≡ map.get m q
  at_other m k x q apart = get-insert nat_cmp_total m k x q ∙ ap (λ b. cond b (Some x) (map.get m q)) (unsigned_tied q k ∙ ne_eqb q k apart)

  gone_other : (m : map.FinMap nat_cmp X) (k q : ℕ) → q ≢ k → map.get (map.remove m k) q ≡ map.get m q
  gone_other m k q apart = get-remove nat_cmp_total m k q ∙ ap (λ b. cond b None (map.get m q)) (unsigned_tied q k ∙ ne_eqb q k apart)

-- two states of a handle, or none
same_state : (o p : Option HandleState) → option_and_then (λ s. Some s.access) o ≡ option_and_then (λ s. Some s.access) p
    → ((k : ℕ) → option_and_then (λ s. map.get s.pairs k) o ≡ option_and_then (λ s. map.get s.pairs k) p) → o ≡ p
same_state None None accesses values = refl
same_state None (Some t) accesses values = let wrong : ⊥ = cc accesses in absurd wrong
same_state (Some s) None accesses values = let wrong : ⊥ = cc accesses in absurd wrong
same_state (Some s) (Some t) accesses values =
    let access : s.access ≡ t.access = cc accesses in
    let pairs : s.pairs ≡ t.pairs = same_map nat_cmp_total nat_cmp-IsAntisymmetric s.pairs t.pairs values in
    λ i. Some (record { access = access i; pairs = pairs i })

-- values that a test finds the same
pub same_option : (a b : Option ℕ) → option_eq nat_eq a b ≡ true → a ≡ b
same_option None None is = refl
same_option None (Some y) is = absurd (false≢true is)
same_option (Some x) None is = absurd (false≢true is)
same_option (Some x) (Some y) is = ap (λ (n : ℕ). Some n) (eqb-true x y is)

-- worlds that have the same in each cell, and as much of each handle, are one
pub same_world : (v w : HandleMap) → ((h : ℕ) → access_at w h ≡ access_at v h) → ((h k : ℕ) → value_at w h k ≡ value_at v h k) → w ≡ v
same_world v w accesses values = same_map nat_cmp_total nat_cmp-IsAntisymmetric w v (λ h. same_state (map.get w h) (map.get v h) (accesses h) (values h))

-- worlds that differ in a cell alone, and have the same there
pub same_in_cell : (cell : Cell) (v w : HandleMap) → DifferIn cell v w → value_in w cell ≡ value_in v cell → w ≡ v
same_in_cell cell v w differ same = same_world v w differ.handles (λ h k. elim (cases_order h cell.handle) [
  | inl here ↦ elim (cases_order k cell.key) [
    | inl at ↦ subst (λ x. value_at w x k ≡ value_at v x k) (sym here) (subst (λ q. value_at w cell.handle q ≡ value_at v cell.handle q) (sym at) same)
    | inr apart ↦ differ.values h k (λ both. apart_of k cell.key apart both.1)
  ]
  | inr apart ↦ differ.values h k (λ both. apart_of h cell.handle apart both.0)
])

pub differ_on : (cell : Cell) (u v w : HandleMap) → DifferIn cell u v → DifferIn cell v w → DifferIn cell u w
differ_on cell u v w first second = record { handles = λ h. second.handles h ∙ first.handles h; values = λ h k apart. second.values h k apart ∙ first.values h k apart }

differ_never : (cell : Cell) (v w : HandleMap) → w ≡ v → DifferIn cell v w
differ_never cell v w same = subst (λ x. DifferIn cell v x) (sym same) (record { handles = λ h. refl; values = λ h k apart. refl })

-- a map in the place of another that has the same but for one key
named : (cell : Cell) (v : HandleMap) (m n : KeyMap) → map.get v cell.handle ≡ Some (record { access = Writable; pairs = m }) → ((k : ℕ) → k ≢ cell.key → map.get n k ≡ map.get m k)
    → DifferIn cell v (naming v cell.handle Writable n)
named cell v m n is others =
    let state : HandleState = record { access = Writable; pairs = n } in
    record {
      handles = λ h. elim (cases_order h cell.handle) [
        | inl here ↦ subst (λ x. access_at (naming v cell.handle Writable n) x ≡ access_at v x) (sym here)
            (ap (λ (o : Option HandleState). option_and_then (λ s. Some s.access) o) (at_same v cell.handle state) ∙ ap (λ (o : Option HandleState). option_and_then (λ s. Some s.access) o) (sym is))
        | inr apart ↦ ap (λ (o : Option HandleState). option_and_then (λ s. Some s.access) o) (at_other v cell.handle state h (apart_of h cell.handle apart))
      ];
      values = λ h k differs. elim (cases_order h cell.handle) [
        | inl here ↦
            let other : map.get n k ≡ map.get m k = others k (λ same. differs (here, same)) in
            subst (λ x. value_at (naming v cell.handle Writable n) x k ≡ value_at v x k) (sym here)
            (ap (λ (o : Option HandleState). option_and_then (λ s. map.get s.pairs k) o) (at_same v cell.handle state) ∙ other
            ∙ ap (λ (o : Option HandleState). option_and_then (λ s. map.get s.pairs k) o) (sym is))
        | inr apart ↦ ap (λ (o : Option HandleState). option_and_then (λ s. map.get s.pairs k) o) (at_other v cell.handle state h (apart_of h cell.handle apart))
      ];
    }

of_state : (cell : Cell) (v w : HandleMap) (change : KeyMap → Reply × KeyMap) (answer : Reply) → ((m : KeyMap) (k : ℕ) → k ≢ cell.key → map.get (change m).1 k ≡ map.get m k)
    → (access : Access) (m : KeyMap) → map.get v cell.handle ≡ Some (record { access = access; pairs = m })
    → option_and_then {U = Reply × HandleMap} (λ m. Some ((change m).0, naming v cell.handle Writable (change m).1)) (with_access Writable access m) ≡ Some (answer, w) → DifferIn cell v w
of_state cell v w change answer others Writable m is gives =
    let same = some_pair_parts (change m).0 answer (naming v cell.handle Writable (change m).1) w gives in
    subst (λ x. DifferIn cell v x) same.1 (named cell v m (change m).1 is (others m))
of_state cell v w change answer others ReadOnly m is gives = let wrong : ⊥ = cc gives in absurd wrong

of_map : (cell : Cell) (v w : HandleMap) (change : KeyMap → Reply × KeyMap) (answer : Reply) → ((m : KeyMap) (k : ℕ) → k ≢ cell.key → map.get (change m).1 k ≡ map.get m k)
    → (o : Option HandleState) → map.get v cell.handle ≡ o
    → option_and_then {U = Reply × HandleMap} (λ m. Some ((change m).0, naming v cell.handle Writable (change m).1)) (option_and_then {U = KeyMap} (λ s. with_access Writable s.access s.pairs) o)
    ≡ Some (answer, w) → DifferIn cell v w
of_map cell v w change answer others None is gives = let wrong : ⊥ = cc gives in absurd wrong
of_map cell v w change answer others (Some s) is gives = of_state cell v w change answer others s.access s.pairs is gives

-- a change of the map of a writable handle that keeps the values of all other keys
changing_differs : (cell : Cell) (v w : HandleMap) (change : KeyMap → Reply × KeyMap) (answer : Reply) → ((m : KeyMap) (k : ℕ) → k ≢ cell.key → map.get (change m).1 k ≡ map.get m k)
    → changing v cell.handle change ≡ Some (answer, w) → DifferIn cell v w
changing_differs cell v w change answer others leads = of_map cell v w change answer others (map.get v cell.handle) refl leads

put_keeps : (hash : ℕ → ℕ) (m : KeyMap) (key value k : ℕ) → k ≢ key → map.get (put_in hash m key value).1 k ≡ map.get m k
put_keeps hash m key value k apart =
    elim (is_crowded hash m key) as (λ (b : Bool). map.get (if◌then◌else◌ {A = Reply × KeyMap} b (reply.Crowded, m) (reply.Found (map.get m key), map.insert m key value)).1 k ≡ map.get m k) [
      | true ↦ refl
      | false ↦ at_other m key value k apart
    ]

put_if_absent_keeps : (hash : ℕ → ℕ) (m : KeyMap) (key value k : ℕ) → k ≢ key → map.get (put_if_absent_in hash m key value).1 k ≡ map.get m k
put_if_absent_keeps hash m key value k apart =
    elim (map.contains_key m key) as (λ (b : Bool). map.get (if◌then◌else◌ {A = Reply × KeyMap} b (reply.Found (map.get m key), m) (put_in hash m key value)).1 k ≡ map.get m k) [
      | true ↦ refl
      | false ↦ put_keeps hash m key value k apart
    ]

kept_if : (b : Bool) (m n : KeyMap) (k : ℕ) → map.get n k ≡ map.get m k → map.get (if b then n else m) k ≡ map.get m k
kept_if true m n k same = same
kept_if false m n k same = refl

-- a call that only reads leaves the world
pub reads : (v w : HandleMap) (answer : Reply) (told : KeyMap → Reply) (o : Option KeyMap) → option_and_then {U = Reply × HandleMap} (λ m. Some (told m, v)) o ≡ Some (answer, w) → w ≡ v
reads v w answer told None leads = let wrong : ⊥ = cc leads in absurd wrong
reads v w answer told (Some m) leads = let same = some_pair_parts (told m) answer v w leads in sym same.1

abbrev pub cell_at : ℕ → ℕ → Cell
cell_at h k = record { handle = h; key = k }

differs_at : (hash : ℕ → ℕ) (call : Call) (opens : Option ℕ) (v w : HandleMap) (answer : Reply) → effect hash v call opens ≡ Some (answer, w)
    → IfSome (cell_of call) (λ cell. DifferIn cell v w)
differs_at hash (Get h k) opens v w answer leads = differ_never (cell_at h k) v w (reads v w answer (λ m. reply.Found (map.get m k)) (map_of v h) leads)
differs_at hash (Put h k x) opens v w answer leads = changing_differs (cell_at h k) v w (λ m. put_in hash m k x) answer (λ m q apart. put_keeps hash m k x q apart) leads
differs_at hash (PutIfAbsent h k x) opens v w answer leads =
    changing_differs (cell_at h k) v w (λ m. put_if_absent_in hash m k x) answer (λ m q apart. put_if_absent_keeps hash m k x q apart) leads
differs_at hash (Replace h k x) opens v w answer leads =
    changing_differs (cell_at h k) v w (λ m. replace_in m k x) answer (λ m q apart. kept_if (map.contains_key m k) m (map.insert m k x) q (at_other m k x q apart)) leads
differs_at hash (ReplaceIf h k a b) opens v w answer leads =
    changing_differs (cell_at h k) v w (λ m. replace_if_in m k a b) answer (λ m q apart. kept_if (has_value m k a) m (map.insert m k b) q (at_other m k b q apart)) leads
differs_at hash (Remove h k) opens v w answer leads = changing_differs (cell_at h k) v w (λ m. remove_in m k) answer (λ m q apart. gone_other m k q apart) leads
differs_at hash (RemoveIf h k x) opens v w answer leads =
    changing_differs (cell_at h k) v w (λ m. remove_if_in m k x) answer (λ m q apart. kept_if (has_value m k x) m (map.remove m k) q (gone_other m k q apart)) leads
differs_at hash (Clear h) opens v w answer leads = tt
differs_at hash (Snapshot h) opens v w answer leads = tt
differs_at hash (Freeze h) opens v w answer leads = tt
differs_at hash (Close h) opens v w answer leads = tt
differs_at hash (Entries h) opens v w answer leads = tt
differs_at hash (Count h) opens v w answer leads = tt

-- a call on a key changes no cell but its own
pub call_differs : (hash : ℕ → ℕ) (call : Call) (opens : Option ℕ) (cell : Cell) (v w : HandleMap) (answer : Reply) → cell_of call ≡ Some cell
    → effect hash v call opens ≡ Some (answer, w) → DifferIn cell v w
call_differs hash call opens cell v w answer is leads = subst (λ (o : Option Cell). IfSome o (λ c. DifferIn c v w)) is (differs_at hash call opens v w answer leads)

answered_differs : (cell : Cell) (v w : HandleMap) (told : Option Reply) (e : Option (Reply × HandleMap)) → ((answer : Reply) (next : HandleMap) → e ≡ Some (answer, next) → DifferIn cell v next)
    → (told, w) ≡ answer_in v e → DifferIn cell v w
answered_differs cell v w told None differs is = differ_never cell v w (ap (λ (p : Option Reply × HandleMap). p.1) is)
answered_differs cell v w told (Some e) differs is =
    let same : w ≡ e.1 = ap (λ (p : Option Reply × HandleMap). p.1) is in
    subst (λ x. DifferIn cell v x) (sym same) (differs e.0 e.1 refl)

-- a call on a key, whether it has an effect or not
pub answer_differs : (hash : ℕ → ℕ) (call : Call) (opens : Option ℕ) (cell : Cell) (v w : HandleMap) (told : Option Reply) → cell_of call ≡ Some cell
    → (told, w) ≡ answer_in v (effect hash v call opens) → DifferIn cell v w
answer_differs hash call opens cell v w told is answers =
    answered_differs cell v w told (effect hash v call opens) (λ answer next leads. call_differs hash call opens cell v next answer is leads) answers

-- a call that only reads leaves the world
pub reads_same : (hash : ℕ → ℕ) (call : Call) (opens : Option ℕ) (v w : HandleMap) (answer : Reply) → reads_only call ≡ true → effect hash v call opens ≡ Some (answer, w) → w ≡ v
reads_same hash (Get h k) opens v w answer only leads = reads v w answer (λ m. reply.Found (map.get m k)) (map_of v h) leads
reads_same hash (Entries h) opens v w answer only leads = reads v w answer (λ m. reply.Pairs (map.entries m)) (read_only_map_of v h) leads
reads_same hash (Count h) opens v w answer only leads = reads v w answer (λ m. reply.Count (map.len m)) (read_only_map_of v h) leads
reads_same hash (Put h k x) opens v w answer only leads = absurd (false≢true only)
reads_same hash (PutIfAbsent h k x) opens v w answer only leads = absurd (false≢true only)
reads_same hash (Replace h k x) opens v w answer only leads = absurd (false≢true only)
reads_same hash (ReplaceIf h k a b) opens v w answer only leads = absurd (false≢true only)
reads_same hash (Remove h k) opens v w answer only leads = absurd (false≢true only)
reads_same hash (RemoveIf h k x) opens v w answer only leads = absurd (false≢true only)
reads_same hash (Clear h) opens v w answer only leads = absurd (false≢true only)
reads_same hash (Snapshot h) opens v w answer only leads = absurd (false≢true only)
reads_same hash (Freeze h) opens v w answer only leads = absurd (false≢true only)
reads_same hash (Close h) opens v w answer only leads = absurd (false≢true only)

answered_same : (v w : HandleMap) (told : Option Reply) (e : Option (Reply × HandleMap)) → ((answer : Reply) (next : HandleMap) → e ≡ Some (answer, next) → next ≡ v)
    → (told, w) ≡ answer_in v e → w ≡ v
answered_same v w told None same is = ap (λ (p : Option Reply × HandleMap). p.1) is
answered_same v w told (Some e) same is = ap (λ (p : Option Reply × HandleMap). p.1) is ∙ same e.0 e.1 refl

-- the same, whether it has an effect or not
pub answer_same : (hash : ℕ → ℕ) (call : Call) (opens : Option ℕ) (v w : HandleMap) (told : Option Reply) → reads_only call ≡ true → (told, w) ≡ answer_in v (effect hash v call opens) → w ≡ v
answer_same hash call opens v w told only answers = answered_same v w told (effect hash v call opens) (λ answer next leads. reads_same hash call opens v next answer only leads) answers
