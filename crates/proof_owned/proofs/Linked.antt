-- Where the roots of handles lead: to indirections whose generation was opened, the main nodes in their words, those below these, and entries.
use Rattle.std.proofs.Common.{◌≡◌, ℕ, zero, suc, ◌≤◌, ◌⊎◌, true, [], ◌∷◌, Contains, Option, Some, None, inl, inr, refl, sym, ap, ◌∙◌, subst, arith}
use Rattle.std.proofs.lemmas.Bool.{true≢false, false≢true}
use Rattle.std.proofs.lemmas.List.Elements.{All-contains, Contains-append_cases}
use Rattle.proof_owned.specs.Beneath.slot_arena.specs.declared.refs.Ref.{Ref}
use Rattle.proof_owned.specs.Beneath.slot_arena.specs.declared.nodes.Node.{Node}
use Rattle.proof_owned.specs.Beneath.slot_arena.specs.declared.nodes.Node.TheVariants.{Indirection, Branch, Single, Tomb, List as Listed}
use Rattle.proof_owned.specs.Beneath.slot_arena.specs.declared.nodes.Prev.{Prev}
use Rattle.proof_owned.specs.Beneath.slot_arena.specs.declared.nodes.Prev.TheVariants as prev
use Rattle.proof_owned.specs.Beneath.slot_arena.specs.declared.nodes.Slot.{Slot}
use Rattle.proof_owned.specs.Beneath.slot_arena.specs.Heaps.{Heap, node_at, node_of, main_of, entries_of, refs_of_node, refs_of_prev, refs_of_slot, stored}
use Rattle.proof_owned.specs.Beneath.machine_model.specs.declared.roots.Root.{Root}
use Rattle.proof_owned.specs.Beneath.machine_model.specs.declared.roots.RootWord.{RootWord}
use Rattle.proof_owned.specs.Beneath.machine_model.specs.declared.roots.RootWord.TheVariants.{Plain, Offer}
use Rattle.proof_owned.specs.Beneath.machine_model.specs.declared.steps.Bounds.{Bounds}
use Rattle.proof_owned.specs.Beneath.machine_model.specs.States.{State, root_at, root_of}
use Rattle.proof_owned.specs.Beneath.machine_model.specs.Grown.{standing, or_before, grown, node_under, main_word, prev_word}
use Rattle.proof_owned.specs.Beneath.machine_model.specs.Times.{IsRun}
use Rattle.proof_owned.specs.Beneath.machine_model.proofs.Grown.{standing_parts, node_standing, prev_standing, prev_grown}
use Rattle.proof_owned.specs.Beneath.proof_memory.specs.Laws.{IsInUse, SameNode}
use Rattle.proof_owned.specs.Beneath.proof_memory.specs.Wants.{AMain, AnEntry, ASingle, meets, AllHold, word_wants, node_wants, prev_wants, is_indirection}
use Rattle.proof_owned.specs.Beneath.proof_memory.proofs.Claims.Uses.{Meets, all_of, safe_of, meets_of, first_hold, last_hold}
use Rattle.proof_owned.specs.Beneath.proof_memory.proofs.Safety.AtEachTime.{safe_at}
use Rattle.proof_owned.specs.Beneath.proof_memory.proofs.Safety.AtTimes.{node_found}
use Rattle.proof_owned.specs.Beneath.proof_commits.specs.Protocol.{Words, Protocol}
use Rattle.proof_owned.specs.Beneath.proof_commits.proofs.Words.Stood.{Stood, IsOver, AreSound, stands_now, over_none}
use Rattle.proof_owned.specs.Beneath.proof_commits.proofs.Known.Sounds.{sound_at}
use Rattle.proof_owned.specs.Beneath.proof_generations.specs.Falling.{WasOpened, MayStandBelow}
use Rattle.proof_owned.specs.Beneath.proof_generations.proofs.Falling.KnownRoots.{words, protocol_of}
use Rattle.proof_owned.specs.Beneath.proof_generations.proofs.Falling.Along.{all_falls}
use Rattle.proof_owned.specs.Beneath.proof_generations.proofs.Falling.Opened.{was_closed_so}
use Rattle.proof_owned.specs.Beneath.proof_generations.proofs.Falling.Nodes.{told_generation, used_generation, used_same, link_used}
use Rattle.proof_owned.specs.Beneath.proof_generations.proofs.Falling.Runs.{gen_of, FitsBelow}
use Rattle.proof_owned.specs.Beneath.proof_generations.proofs.Lines.Knows.{one_of}
use Rattle.proof_owned.specs.Beneath.proof_generations.proofs.Lines.ReaderKnows.{indirection_is}
use Rattle.proof_owned.specs.Owned.{IsLinked, from_root, from_slot}
use Rattle.proof_owned.proofs.Unopened.{root_link}

-- a main node stays one
kept_main : (was now : Node) → SameNode was now → meets AMain was ≡ true → meets AMain now ≡ true
kept_main (Indirection g x) now (m, e) h = absurd (false≢true h)
kept_main (Branch b es) now (m, e) h = ap (meets AMain) e ∙ h
kept_main (Single k v) now (m, e) h = ap (meets AMain) e ∙ h
kept_main (Tomb s) now (m, e) h = ap (meets AMain) e ∙ h
kept_main (Listed s) now (m, e) h = ap (meets AMain) e ∙ h

pub kept_single : (was now : Node) → SameNode was now → meets ASingle was ≡ true → meets ASingle now ≡ true
kept_single (Indirection g x) now (m, e) h = absurd (false≢true h)
kept_single (Branch b es) now (m, e) h = ap (meets ASingle) e ∙ h
kept_single (Single k v) now (m, e) h = ap (meets ASingle) e ∙ h
kept_single (Tomb s) now (m, e) h = ap (meets ASingle) e ∙ h
kept_single (Listed s) now (m, e) h = ap (meets ASingle) e ∙ h

pub main_no_link : (n : Node) → meets AMain n ≡ true → is_indirection n ≡ true → ⊥
main_no_link (Indirection g x) h l = false≢true h
main_no_link (Branch b es) h l = false≢true l
main_no_link (Single k v) h l = false≢true l
main_no_link (Tomb s) h l = false≢true l
main_no_link (Listed s) h l = false≢true l

pub main_no_single : (n : Node) → meets AMain n ≡ true → meets ASingle n ≡ true → ⊥
main_no_single (Indirection g x) h l = false≢true h
main_no_single (Branch b es) h l = false≢true l
main_no_single (Single k v) h l = false≢true h
main_no_single (Tomb s) h l = false≢true l
main_no_single (Listed s) h l = false≢true l

pub one_is : (x r : Ref) → Contains (x ∷ []) r → x ≡ r
one_is x r c = All-contains (λ y. x ≡ y) (x ∷ []) r (one_of (λ y. x ≡ y) x refl) c

pub none_is : (r : Ref) → Contains [] r → ⊥
none_is r (k, lt, e) = omega (arith, lt)

module _ {limits : Bounds} {states : ℕ → State} {last : ℕ} (run : IsRun limits states last) where
  abbrev w : Words
  w = words states run.records last

  abbrev p : Protocol
  p = protocol_of run

  -- ---- what stood in a word is a main node

  -- the node in its main word is a main node
  abbrev OverMain : Slot → Type 0
  OverMain slot = meets AMain (node_under states last (main_of slot.node)) ≡ true

  standing_kind : (t : ℕ) → t ≤ last → (i : Ref) (slot : Slot) → standing (states t).heap i ≡ Some slot → is_indirection slot.node ≡ true → OverMain slot
  standing_kind t within i slot at link =
      let heap = (states t).heap in
      let (h, word, is) = indirection_is slot.node link in
      let claims = first_hold (IsInUse heap) heap (node_wants slot.node) (prev_wants slot.prev) ((safe_at run t within).nodes i slot at).0 in
      let it = (subst (λ n. AllHold (IsInUse heap) heap (node_wants n)) is claims).0 in
      ap (λ n. meets AMain (node_under states last (main_of n))) is
      ∙ kept_main (node_at heap word) (node_under states last word) (used_same run t within word (safe_of it)) (meets_of it)

  kind_next : (t : ℕ) → suc t ≤ last → (i : Ref) (slot : Slot) (now : Option Slot) → standing (states (suc t)).heap i ≡ now → or_before now (grown states t i) ≡ Some slot →
      is_indirection slot.node ≡ true → (grown states t i ≡ Some slot → OverMain slot) → OverMain slot
  kind_next t h i slot None at e link before = before e
  kind_next t h i slot (Some now) at e link before = standing_kind (suc t) h i slot (at ∙ e) link

  kind_by : (t : ℕ) → t ≤ last → (i : Ref) (slot : Slot) → grown states t i ≡ Some slot → is_indirection slot.node ≡ true → OverMain slot
  unfolding grown
  kind_by zero h i slot e link = standing_kind zero h i slot e link
  kind_by (suc t) h i slot e link = kind_next t h i slot (standing (states (suc t)).heap i) refl e link (λ b. kind_by t (omega arith) i slot b link)

  kind_of : (t : ℕ) → t ≤ last → (i : Ref) (o : Option Slot) → grown states t i ≡ o → is_indirection (node_of o) ≡ true → meets AMain (node_under states last (main_of (node_of o))) ≡ true
  kind_of t h i None e link = absurd (true≢false (sym link))
  kind_of t h i (Some slot) e link = kind_by t h i slot e link

  pub stood_is_main : (t : ℕ) → t ≤ last → (i m : Ref) → Stood (words states run.records last) t i m → meets AMain (node_under states last m) ≡ true
  stood_is_main t h i m s =
      ap (λ q. meets AMain (node_under states last q)) (sym s.is) ∙ kind_of s.at (omega (arith, s.past, h)) i (grown states s.at i) refl s.link

  -- ---- where roots lead

  abbrev heap : Heap
  heap = (states last).heap

  abbrev U : Ref → Type 0
  U = IsInUse heap

  -- the main node stands in the word of an indirection, or the one there stands over it
  abbrev pub IsAt : Ref → Ref → Type 0
  IsAt j q = (main_word states last j ≡ q) ⊎ IsOver (prev_word states last (main_word states last j)) q

  -- What is good about the roots of handles, and of indirections that good ones lead to, through the main node in their word or the one that it stands over.
  pub record IsHandedDown (Good : Ref → Type 0) : Type 0 where
    pub roots : (handle : ℕ) (root : Root) → root_at (states last) handle ≡ Some root → Good (root_of root.word)
    pub entries : (j q r : Ref) → Good j → is_indirection (node_under states last j) ≡ true → IsAt j q → Contains (entries_of (node_under states last q)) r →
        is_indirection (node_under states last r) ≡ true → Good r

  sound : AreSound w last
  sound = (sound_at p last (omega arith)).words

  module _ (Good : Ref → Type 0) (down : IsHandedDown Good) where
    -- an entry of a main node of a good indirection
    pub record IsEntry (r : Ref) : Type 0 where
      pub above : Ref
      pub good : Good above
      pub link : is_indirection (node_under states last above) ≡ true
      pub opened : WasOpened states last (gen_of states last above)
      pub main : Ref
      pub stood : Stood (words states run.records last) last above main
      pub at : IsAt above main
      pub names : Contains (entries_of (node_under states last main)) r

    -- whence an indirection is led to
    pub data Above (r : Ref) : Type 0 where
      of_handle : (handle : ℕ) (root : Root) → root_at (states last) handle ≡ Some root → root_of root.word ≡ r → Above r
      of_main : IsEntry r → Above r

    pub data Place (r : Ref) : Type 0 where
      is_link : is_indirection (node_under states last r) ≡ true → WasOpened states last (gen_of states last r) → Good r → Above r → Place r
      is_main : (j : Ref) → IsLinked (states last) j → Good j → is_indirection (node_under states last j) ≡ true → WasOpened states last (gen_of states last j) →
          Stood (words states run.records last) last j r → IsAt j r → Place r
      is_entry : meets ASingle (node_under states last r) ≡ true → IsEntry r → Place r

    root_place : (handle : ℕ) (root : Root) → root_at (states last) handle ≡ Some root → U (root_of root.word) × Place (root_of root.word)
    root_place handle root e = (
      used,
      is_link (ap is_indirection (sym (node_found states last (root_of root.word) used)) ∙ root_link run last (omega arith) handle root e)
          (last, omega arith, (handle, root, e, sym (used_generation run last (omega arith) (root_of root.word) used))) (down.roots handle root e) (of_handle handle root e refl),
    )
      where
        by : (word : RootWord) → AllHold U heap (word_wants word) → U (root_of word)
        by (Plain r) h = safe_of h.0
        by (Offer offer) h = safe_of h.0

        used : U (root_of root.word)
        used = by root.word ((safe_at run last (omega arith)).words handle root e)

    module _ (q r : Ref) (slot : Slot) (at : standing heap q ≡ Some slot) where
      used : U q
      used = (slot, at)

      node_now : node_under states last q ≡ slot.node
      node_now = sym (node_found states last q used) ∙ node_standing heap q slot at

      all_claims : AllHold U heap (node_wants slot.node) × AllHold U heap (prev_wants slot.prev)
      all_claims =
          let both = ((safe_at run last (omega arith)).nodes q slot at).0 in
          (first_hold U heap (node_wants slot.node) (prev_wants slot.prev) both, last_hold U heap (node_wants slot.node) (prev_wants slot.prev) both)

      -- an indirection leads to the main node in its word
      link_node : (n : Node) → slot.node ≡ n → is_indirection n ≡ true → AllHold U heap (node_wants n) → Contains (refs_of_node n) r → IsLinked (states last) q → Good q →
          WasOpened states last (gen_of states last q) → U r × Place r
      link_node (Indirection h word) is link claims c linked good opened =
          let same = one_is word r c in
          let now : main_word states last q ≡ r = ap main_of (node_now ∙ is) ∙ same in
          (subst U same (safe_of claims.0), is_main q linked good (ap is_indirection (node_now ∙ is)) opened (stands_now (ap is_indirection (node_now ∙ is)) now) (inl now))
      link_node (Branch b es) is link claims c linked good opened = absurd (false≢true link)
      link_node (Single k v) is link claims c linked good opened = absurd (false≢true link)
      link_node (Tomb s) is link claims c linked good opened = absurd (false≢true link)
      link_node (Listed s) is link claims c linked good opened = absurd (false≢true link)

      -- a main node to its entries
      single_place : Meets U heap ASingle r → IsEntry r → U r × Place r
      single_place (u, single) entry = (u, is_entry (kept_single (node_at heap r) (node_under states last r) (used_same run last (omega arith) r u) single) entry)

      entry_by : (n : Node) → node_at heap r ≡ n → meets AnEntry n ≡ true → U r → (g : ℕ) → WasOpened states last g → FitsBelow states run.records last last g r → IsEntry r → U r × Place r
      entry_by (Indirection h word) is e u g opened fits entry =
          let link = link_used run last (omega arith) r u h word is in (
            u,
            is_link (ap is_indirection link.1) (subst (λ x. WasOpened states last x) (sym (told_generation states last h r link)) (by (fits h link)))
                (down.entries entry.above entry.main r entry.good entry.link entry.at entry.names (ap is_indirection link.1)) (of_main entry),
          )
        where
          by : MayStandBelow run.records last g h → WasOpened states last h
          by (inl same) = subst (λ x. WasOpened states last x) (sym same) opened
          by (inr (less, closed)) = was_closed_so run last (omega arith) h closed
      entry_by (Single k v) is e u g opened fits entry = single_place (u, ap (meets ASingle) is) entry
      entry_by (Branch b es) is e u g opened fits entry = absurd (false≢true e)
      entry_by (Tomb s) is e u g opened fits entry = absurd (false≢true e)
      entry_by (Listed s) is e u g opened fits entry = absurd (false≢true e)

      as_entry : (j : Ref) → Good j → is_indirection (node_under states last j) ≡ true → WasOpened states last (gen_of states last j) → Stood w last j q → IsAt j q →
          (n : Node) → slot.node ≡ n → Contains (entries_of n) r → IsEntry r
      as_entry j good link opened stood why n is c = record {
        above = j;
        good = good;
        link = link;
        opened = opened;
        main = q;
        stood = stood;
        at = why;
        names = subst (λ n. Contains (entries_of n) r) (sym (node_now ∙ is)) c;
      }

      main_node : (n : Node) → slot.node ≡ n → meets AMain n ≡ true → AllHold U heap (node_wants n) → Contains (refs_of_node n) r → (j : Ref) → Good j →
          is_indirection (node_under states last j) ≡ true → WasOpened states last (gen_of states last j) → Stood w last j q → IsAt j q → U r × Place r
      main_node (Indirection h word) is main claims c j good link opened stood why = absurd (false≢true main)
      main_node (Branch b es) is main claims c j good link opened stood why =
          let it : Meets U heap AnEntry r = All-contains (Meets U heap AnEntry) es.items r (all_of claims.0) c in
          let falls = (all_falls run last (omega arith)).mains.falls j q stood opened in
          let among : Contains (entries_of (node_under states last q)) r = subst (λ n. Contains (entries_of n) r) (sym (node_now ∙ is)) c in
          entry_by (node_at heap r) refl it.1 it.0 (gen_of states last j) opened
          (All-contains (FitsBelow states run.records last last (gen_of states last j)) (entries_of (node_under states last q)) r falls among)
          (as_entry j good link opened stood why (Branch b es) is c)
      main_node (Single k v) is main claims c j good link opened stood why = absurd (false≢true main)
      main_node (Tomb s) is main claims c j good link opened stood why =
          let same = one_is s r c in
          single_place (subst U same (safe_of claims.0), ap (λ y. meets ASingle (node_at heap y)) (sym same) ∙ meets_of claims.0)
          (as_entry j good link opened stood why (Tomb s) is c)
      main_node (Listed ss) is main claims c j good link opened stood why =
          single_place (All-contains (Meets U heap ASingle) ss.items r (all_of claims.0) c) (as_entry j good link opened stood why (Listed ss) is c)

      -- a single leads nowhere
      single_node : (n : Node) → slot.node ≡ n → meets ASingle n ≡ true → Contains (refs_of_node n) r → U r × Place r
      single_node (Single k v) is single c = absurd (none_is r c)
      single_node (Indirection h word) is single c = absurd (false≢true single)
      single_node (Branch b es) is single c = absurd (false≢true single)
      single_node (Tomb s) is single c = absurd (false≢true single)
      single_node (Listed s) is single c = absurd (false≢true single)

      node_place : IsLinked (states last) q → Place q → Contains (refs_of_node slot.node) r → U r × Place r
      node_place linked (is_link link opened good above) c = link_node slot.node refl (ap is_indirection (sym node_now) ∙ link) all_claims.0 c linked good opened
      node_place linked (is_main j above good link opened stood why) c =
          main_node slot.node refl (ap (meets AMain) (sym node_now) ∙ stood_is_main last (omega arith) j q stood) all_claims.0 c j good link opened stood why
      node_place linked (is_entry single entry) c = single_node slot.node refl (ap (meets ASingle) (sym node_now) ∙ single) c

      -- ---- a prev word

      prev_now : prev_word states last q ≡ slot.prev
      prev_now = sym (prev_grown states last q slot at) ∙ prev_standing heap q slot at

      over_by : (v : Prev) → slot.prev ≡ v → AllHold U heap (prev_wants v) → Contains (refs_of_prev v) r → U r × IsOver (prev_word states last q) r
      over_by prev.None is claims c = absurd (none_is r c)
      over_by (prev.Pending x) is claims c =
          let same = one_is x r c in (subst U same (safe_of claims.0), subst (λ v. IsOver v r) (sym (prev_now ∙ is)) same)
      over_by (prev.Failed x) is claims c =
          let same = one_is x r c in (subst U same (safe_of claims.0), subst (λ v. IsOver v r) (sym (prev_now ∙ is)) same)

      prev_by : U r → IsOver (prev_word states last q) r → Place q → U r × Place r
      prev_by u over (is_link link opened good above) =
          let below = sound.over q r over in absurd (main_no_link (node_under states last q) (stood_is_main last (omega arith) below.link q below.stood) link)
      prev_by u over (is_main j above good link opened stood (inl now)) =
          let below = sound.over q r over in
          let same : j ≡ below.link = sound.one_word q j below.link (λ none. over_none (prev_word states last q) r none over) stood below.stood in
          (u, is_main j above good link opened (subst (λ x. Stood w last x r) (sym same) below.before) (inr (subst (λ x. IsOver (prev_word states last x) r) (sym now) over)))
      prev_by u over (is_main j above good link opened stood (inr other)) = absurd (over_none (prev_word states last q) r (sound.over (main_word states last j) q other).none over)
      prev_by u over (is_entry single entry) =
          let below = sound.over q r over in absurd (main_no_single (node_under states last q) (stood_is_main last (omega arith) below.link q below.stood) single)

      prev_place : Place q → Contains (refs_of_prev slot.prev) r → U r × Place r
      prev_place place c = let (u, over) = over_by slot.prev refl all_claims.1 c in prev_by u over place

      refs_place : IsLinked (states last) q → Place q → Contains (refs_of_slot (stored heap q)) r → U r × Place r
      refs_place linked place c =
          elim (Contains-append_cases (refs_of_node slot.node) (refs_of_prev slot.prev) r (subst (λ o. Contains (refs_of_slot o) r) ((standing_parts heap q slot at).0) c)) [
            | inl node ↦ node_place linked place node
            | inr before ↦ prev_place place before
          ]

    pub linked_place : (r : Ref) → IsLinked (states last) r → IsInUse (states last).heap r × Place r
    linked_place r (from_root handle root e) = root_place handle root e
    linked_place r (from_slot q x linked c) = let (used, place) = linked_place q linked in refs_place q x used.0 used.1 linked place c

  -- where nothing is asked of them
  pub nothing_good : IsHandedDown (λ r. Unit {0})
  nothing_good = record { roots = λ handle root e. tt; entries = λ j q r good link at names is. tt }
