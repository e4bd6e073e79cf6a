-- A call on one key on a read-only handle, whose actor alone takes steps, ends: it goes down 14 levels at most, and looks at 32 singles at most.
use Rattle.std.proofs.Common.{◌≡◌, ℕ, zero, suc, ◌+◌, ◌-◌, ◌*◌, ◌<◌, ◌≤◌, true, false, List, ◌∷◌, ◌++◌, length, Option, Some, None, refl, sym, ap, ◌∙◌, subst, ltb-true, arith, []}
use Rattle.std.proofs.lemmas.Bool.{false≢true}
use Rattle.std.proofs.lemmas.List.{length-append}
use Rattle.proof_obstruction_free.specs.Vocabulary.{ReadOnly, Ref, Node, Indirection, Branch, Single, Tomb, List as Listed, Slot, node_at, node_of, entry_at, entries_of, KeyLine, Line, ReadLine}
use Rattle.proof_obstruction_free.specs.Vocabulary.{Complete, handle_of, going_down, root_of, word_of, grown, moment_at, TombOrList, AMain, listed, meets, sites_of, trie_at}
use Rattle.proof_obstruction_free.specs.Beneath.machine_model.specs.declared.finding.KeyLine.TheVariants as key
use Rattle.proof_obstruction_free.specs.Beneath.machine_model.specs.declared.lines.Line.TheVariants as line
use Rattle.proof_obstruction_free.specs.Beneath.machine_model.specs.declared.reading.ReadLine.TheVariants as read
use Rattle.proof_obstruction_free.specs.Beneath.machine_model.specs.declared.roots.RootLine.TheVariants as root
use Rattle.proof_obstruction_free.specs.Beneath.proof_memory.specs.Wants.{is_indirection}
use Rattle.proof_obstruction_free.specs.Beneath.proof_memory.proofs.Safety.AtEachTime.{safe_at}
use Rattle.proof_obstruction_free.specs.Beneath.proof_memory.proofs.Claims.Uses.{safe_of, meets_of, fact_of}
use Rattle.proof_obstruction_free.specs.Beneath.proof_memory.proofs.Claims.Named.{main_claim}
use Rattle.proof_obstruction_free.specs.Beneath.proof_generations.proofs.Roots.Along.{ordered_at, read_only_plain}
use Rattle.proof_obstruction_free.specs.Beneath.proof_generations.proofs.Falling.OwnSwaps.{knows_at}
use Rattle.proof_obstruction_free.specs.Beneath.proof_generations.proofs.Lines.Reader.{KnowsReader}
use Rattle.proof_obstruction_free.specs.Beneath.proof_generations.proofs.Falling.Runs.{Ends, Shut, LateEnd}
use Rattle.proof_obstruction_free.specs.Beneath.proof_contents.proofs.Shapes.Nodes.{list_shape}
use Rattle.proof_obstruction_free.specs.Beneath.proof_shape.proofs.Sites.Grown.{made_shaped}
use Rattle.proof_obstruction_free.specs.Alone.{Lone, Stands, IsPlain, Within, node, word}
use Rattle.proof_obstruction_free.specs.Keys.{IsOnKey}
use Rattle.proof_obstruction_free.specs.Machines.{Machines, IsRead, WasRead, IsRooted}
use Rattle.proof_obstruction_free.specs.Stepping.{Stepping}
use Rattle.proof_obstruction_free.proofs.Reader.Calls.{OfReader, reader_at, reader_lines}
use Rattle.proof_obstruction_free.proofs.Reader.Lines.{AfterMain, ToEntry, ToListed, MainEnds, MainFails, AfterEntry, ToBelow, EntryEnds, EntryFails, AfterListed, ToNext}
use Rattle.proof_obstruction_free.proofs.Reader.Lines.{ListedEnds, ListedFails, after_main, after_entry, after_single}
use Rattle.proof_obstruction_free.proofs.Root.Machines.{flat_machines}
use Rattle.proof_obstruction_free.proofs.Ends.StandsAt.{begins, stands_as, never}
use Rattle.proof_obstruction_free.proofs.Step.Step.{stepping}
use Rattle.proof_obstruction_free.proofs.Swap.Found.{handle_open}
use Rattle.proof_obstruction_free.proofs.Weights.Offers.{flat, is_weight, weighs_at_most}
use Rattle.proof_obstruction_free.proofs.Step.Within.{weaken, bind, one, ended}
use Rattle.proof_obstruction_free.proofs.Pass.Along.{key_begins}
use Rattle.proof_obstruction_free.proofs.Pass.Lines.{key_read_of, key_gives, key_holds_read_of}
use Rattle.proof_obstruction_free.proofs.Climb.On.{short_way}

list_plain : (n : Node) → meets TombOrList n ≡ true → is_indirection n ≡ false
list_plain n e = grind arith

module _ (a : Lone) (read_only : a.own.access ≡ ReadOnly) (on_key : IsOnKey a.own.call) where
  abbrev Never : ℕ → ℕ → Type 0
  Never = Within a (flat a) (λ u. ⊥)

  steps : Stepping a
  steps = stepping a

  machines : Machines a (flat a) 7
  machines = flat_machines a

  ends : (n t : ℕ) (g : Option ℕ) (answer : _) → 1 ≤ n → Stands a t g (line.End answer) → Never n t
  ends n t g answer some s = weaken a (flat a) (λ u. ⊥) 1 n t some (ended a (flat a) steps (λ u. ⊥) t g answer s)

  fails : (n t : ℕ) (g : Option ℕ) → Stands a t g line.Impossible → Never n t
  fails n t g s room = absurd (never a t g s)

  -- ---- singles

  few_by : (m : Ref) (n : Node) → node a m ≡ n → meets TombOrList n ≡ true → length (entries_of n) ≤ 32
  few_by m (Tomb single) is e = omega arith
  few_by m (Listed ss) is e = by_slot (grown a.states a.last m) refl
    where
      by_slot : (o : Option Slot) → grown a.states a.last m ≡ o → length ss.items ≤ 32
      by_slot None e = let none : length ss.items ≡ 0 = ap (λ n. length (entries_of n)) (sym is ∙ ap node_of e) in omega arith
      by_slot (Some slot) e =
          let node_is : slot.node ≡ Listed ss = sym (ap node_of e) ∙ is in
          let shape = made_shaped a.steps a.run a.takes a.fit a.last (omega arith) m (slot, e, ap (meets AMain) node_is) in
          (list_shape (trie_at a.limits.hash (sites_of a.states a.steps a.last)) m (node a m) ss shape is).most
  few_by m (Indirection g w) is e = absurd (false≢true e)
  few_by m (Branch b es) is e = absurd (false≢true e)
  few_by m (Single k v) is e = absurd (false≢true e)

  few_listed : (t : ℕ) (g : Option ℕ) (path : List Ref) (m : Ref) (p : ℕ) → Stands a t g (line.Key (key.Listed path m p)) → length (entries_of (node_at (a.states t).heap m)) ≤ 32
  few_listed t g path m p s =
      let claim = main_claim (steps.wants t g (line.Key (key.Listed path m p)) s) in
      let kind : meets TombOrList (node_at (a.states t).heap m) ≡ true = ap (λ x. meets (listed x) (node_at (a.states t).heap m)) (sym read_only) ∙ meets_of claim in
      few_by m (node_at (a.states t).heap m) (sym (steps.node_found t m s.until (safe_of claim) (list_plain _ kind))) kind

  -- a single is looked at
  listed_step : (n t : ℕ) (g : Option ℕ) (path : List Ref) (m : Ref) (p : ℕ) → 1 ≤ n → Stands a t g (line.Key (key.Listed path m p)) →
      (p + 1 < 32 → Stands a (suc t) g (line.Key (key.Listed path m (p + 1))) → Never n (suc t)) → Never (n + 1) t
  listed_step n t g path m p some s then = one a (flat a) (is_weight a) (λ u. ⊥) n t g l s tt (λ h.
      by (few_listed t g path m p s) (after_single (a.states t) s.operation (reader_at a read_only on_key t g l s) path m p (node_at (a.states t).heap (entry_at (a.states t).heap m p)))
      (stands_as a (suc t) _ g _ _ s.generation refl (steps.next t g l s h tt)))
    where
      l : Line
      l = line.Key (key.Listed path m p)

      by : {next : Line} {k : ℕ} → k ≤ 32 → AfterListed path m p k next → Stands a (suc t) g next → Never n (suc t)
      by few (ToNext more) at = then (omega (arith, few, more)) at
      by few (ListedEnds answer) at = ends n (suc t) g answer some at
      by few ListedFails at = fails n (suc t) g at

  -- the singles from a position on are looked at, and it ends
  listed_on : (left t : ℕ) (g : Option ℕ) (path : List Ref) (m : Ref) (p : ℕ) → Stands a t g (line.Key (key.Listed path m p)) → 32 ≤ p + 1 + left → Never (left + 2) t
  listed_on zero t g path m p s long = listed_step 1 t g path m p (omega arith) s (λ more at. absurd (omega (arith, long, more)))
  listed_on (suc left) t g path m p s long =
      weaken a (flat a) (λ u. ⊥) ((left + 2) + 1) (suc left + 2) t (omega arith)
      (listed_step (left + 2) t g path m p (omega arith) s (λ more at. listed_on left (suc t) g path m (p + 1) at (omega (arith, long))))

  -- ---- one level

  -- from below this path on it ends within so many steps
  abbrev Below : ℕ → List Ref → ℕ → Type 0
  Below n path t = (u : ℕ) (g : Option ℕ) (below : Ref) → t ≤ u → Stands a u g (going_down path below) → Never n u

  entry_on : (n t : ℕ) (g : Option ℕ) (path : List Ref) (m : Ref) (p : ℕ) → 1 ≤ n → Below n path t → Stands a t g (line.Key (key.Entry path m p)) → Never (n + 1) t
  entry_on n t g path m p some below s = one a (flat a) (is_weight a) (λ u. ⊥) n t g l s tt (λ h.
      by (after_entry (a.states t) s.operation (reader_at a read_only on_key t g l s) path m p (node_at (a.states t).heap (entry_at (a.states t).heap m p)))
      (stands_as a (suc t) _ g _ _ s.generation refl (steps.next t g l s h tt)))
    where
      l : Line
      l = line.Key (key.Entry path m p)

      by : {next : Line} → AfterEntry path next → Stands a (suc t) g next → Never n (suc t)
      by (ToBelow r) at = below (suc t) g r (omega arith) at
      by (EntryEnds answer) at = ends n (suc t) g answer some at
      by EntryFails at = fails n (suc t) g at

  main_on : (n t : ℕ) (g : Option ℕ) (path : List Ref) (m : Ref) → 32 ≤ n → Below n path t → Stands a t g (line.Key (key.Main path m)) → Never (n + 2) t
  main_on n t g path m long below s =
      weaken a (flat a) (λ u. ⊥) ((n + 1) + 1) (n + 2) t (omega arith)
      (one a (flat a) (is_weight a) (λ u. ⊥) (n + 1) t g l s tt (λ h.
      by (after_main (a.states t) s.operation (reader_at a read_only on_key t g l s) path m (node_at (a.states t).heap m))
      (stands_as a (suc t) _ g _ _ s.generation refl (steps.next t g l s h tt))))
    where
      l : Line
      l = line.Key (key.Main path m)

      by : {next : Line} → AfterMain path m next → Stands a (suc t) g next → Never (n + 1) (suc t)
      by (ToEntry p) at = entry_on n (suc t) g path m p (omega (arith, long)) (λ u g' r le s'. below u g' r (omega (arith, le)) s') at
      by ToListed at = weaken a (flat a) (λ u. ⊥) (31 + 2) (n + 1) (suc t) (omega (arith, long)) (listed_on 31 (suc t) g path m 0 at (omega arith))
      by (MainEnds answer) at = ends (n + 1) (suc t) g answer (omega arith) at
      by MainFails at = fails (n + 1) (suc t) g at

  read_first : (n t : ℕ) (g : Option ℕ) (path : List Ref) (i : Ref) → 32 ≤ n → Below n path t → Stands a t g (key_read_of path i read.Main) → Never (7 + (n + 2)) t
  read_first n t g path i long below s =
      bind a (flat a) (IsRead a (flat a) 7 t g (key_gives path) i) (λ u. ⊥) 7 (n + 2) t
      (machines.reads_first (key_read_of path i) (key_gives path) i (key_holds_read_of a.own path i) t g s)
      (λ u after inside q. main_on n u g path q.main long (λ v g' r le s'. below v g' r (omega (arith, after, le)) s') q.stands)

  read_on : (n t : ℕ) (g : Option ℕ) (path : List Ref) (i : Ref) (l : ReadLine) → 32 ≤ n → Below n path t → Stands a t g (key_read_of path i l) → Never (13 + (n + 2)) t
  read_on n t g path i l long below s =
      bind a (flat a) (WasRead a (flat a) 7 t g (key_gives path)) (λ u. ⊥) 13 (n + 2) t
      (machines.reads_on (key_read_of path i) (key_gives path) i (key_holds_read_of a.own path i) t g l s)
      (λ u after inside q. main_on n u g path q.main long (λ v g' r le s'. below v g' r (omega (arith, after, le)) s') q.stands)

  -- ---- all levels

  deeper : (path : List Ref) (below : Ref) (left : ℕ) → length path + suc left ≡ 14 → length (path ++ below ∷ []) + left ≡ 14
  deeper path below left e = omega (arith, e, length-append path (below ∷ []))

  below_on : (left t : ℕ) (path : List Ref) → length path + left ≡ 14 → Below (32 + 9 * left) path t
  below_on zero t path e u g below le s = absurd (omega (arith, e, length-append path (below ∷ []), short_way a u g (going_down path below) s))
  below_on (suc left) t path e u g below le s =
      weaken a (flat a) (λ u. ⊥) (7 + (32 + 9 * left + 2)) (32 + 9 * suc left) u (omega arith)
      (read_first (32 + 9 * left) u g (path ++ below ∷ []) below (omega arith) (below_on left u (path ++ below ∷ []) (deeper path below left e)) s)

  -- how many levels are left, of 14
  abbrev left_of : List Ref → ℕ
  left_of path = 14 - length path

  path_on : (t : ℕ) (path : List Ref) → length path ≤ 14 → Below (32 + 9 * left_of path) path t
  path_on t path few = below_on (left_of path) t path (omega (arith, few))

  from_key_line : (t : ℕ) (g : Option ℕ) (l : KeyLine) → OfReader (line.Key l) → Stands a t g (line.Key l) → Never 164 t
  from_key_line t g (key.Read path r) o s =
      let few = short_way a t g (line.Key (key.Read path r)) s in
      let some = ltb-true 0 (length path) (fact_of (steps.wants t g (line.Key (key.Read path r)) s).1.0) in
      weaken a (flat a) (λ u. ⊥) (13 + (32 + 9 * left_of path + 2)) 164 t (omega (arith, few, some))
      (read_on (32 + 9 * left_of path) t g path r.indirection r.line (omega arith) (path_on t path few) s)
  from_key_line t g (key.Main path m) o s =
      let few = short_way a t g (line.Key (key.Main path m)) s in
      weaken a (flat a) (λ u. ⊥) (32 + 9 * left_of path + 2) 164 t (omega (arith, few)) (main_on (32 + 9 * left_of path) t g path m (omega arith) (path_on t path few) s)
  from_key_line t g (key.Entry path m p) o s =
      let few = short_way a t g (line.Key (key.Entry path m p)) s in
      weaken a (flat a) (λ u. ⊥) (32 + 9 * left_of path + 1) 164 t (omega (arith, few)) (entry_on (32 + 9 * left_of path) t g path m p (omega arith) (path_on t path few) s)
  from_key_line t g (key.Listed path m p) o s = weaken a (flat a) (λ u. ⊥) (31 + 2) 164 t (omega arith) (listed_on 31 t g path m p s (omega arith))
  from_key_line t g (key.Sibling path m p former) o s = absurd o

  -- ---- its root, with no offer

  root_plain : (t : ℕ) (g : Option ℕ) → Stands a t g (line.Root root.Read) → (r : Ref) × IsPlain a t r
  root_plain t g s =
      let (found, is, access) = handle_open a t g (line.Root root.Read) s refl in
      let plain = read_only_plain (a.states t) (a.run.records t) (safe_at a.run t s.until) (ordered_at a.run t s.until)
      (handle_of a.own.call) found is (access ∙ read_only) in
      (root_of found.word, ap word_of is ∙ plain)

  never_completes : (t : ℕ) (g : Option ℕ) (c : Complete) → Stands a t g (line.Root (root.Completing c)) → ⊥
  never_completes t g c s =
      subst (KnowsReader (Ends a.states a.run.records a.last t) (Shut a.states a.run.records a.last t) (LateEnd a.states a.run.records a.last t (moment_at (a.run.records t) a.actor))) s.line
      ((knows_at a.run t s.until a.actor s.operation s.runs).1 (s.access ∙ read_only))

  from_line : (t : ℕ) (g : Option ℕ) (l : Line) → OfReader l → Stands a t g l → Never 164 t
  from_line t g (line.Root root.Read) o s =
      let (r, plain) = root_plain t g s in
      weaken a (flat a) (λ u. ⊥) (1 + 158) 164 t (omega arith)
      (bind a (flat a) (λ u. IsRooted a (flat a) 7 t u × IsPlain a u r) (λ u. ⊥) 1 158 t (machines.roots_plain t g r s plain)
      (λ u after inside q. below_on 14 u [] refl u _ q.0.root (omega arith) (stands_as a u _ _ _ _ refl (key_begins a.own.call on_key q.0.root) q.0.stands)))
  from_line t g (line.Root (root.Completing c)) o s = absurd (never_completes t g c s)
  from_line t g (line.Key l) o s = from_key_line t g l o s
  from_line t g (line.End answer) o s = ends 164 t g answer (omega arith) s
  from_line t g line.Impossible o s = fails 164 t g s
  from_line t g l o s = absurd o

  it_ends : a.start + 166 ≤ a.last → ⊥
  it_ends room =
      let s = begins a (omega (arith, room)) in
      let most = weighs_at_most (word a a.start) in
      (from_line a.start a.own.generation a.own.line (reader_lines a read_only on_key a.start a.own.generation a.own.line s) s (omega (arith, room, most))).3

pub no_long_reader : (a : Lone) → IsOnKey a.own.call → a.own.access ≡ ReadOnly → a.start + 166 ≤ a.last → ⊥
no_long_reader a on_key read_only room = it_ends a read_only on_key room
