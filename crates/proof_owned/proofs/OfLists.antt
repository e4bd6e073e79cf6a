-- The laws for every list of steps.
use Rattle.std.proofs.Common.{◌≡◌, ℕ, ◌≤◌, ◌⊎◌, true, List, Contains, Some, None, inl, inr, refl, sym, ap, ◌∙◌, subst, arith}
use Rattle.std.proofs.lemmas.Bool.{cases_eq, false≢true}
use Rattle.std.proofs.lemmas.Option.{none-some}
use Rattle.std.proofs.lemmas.List.Elements.{All-contains, Contains-append_cases}
use Rattle.proof_owned.specs.Beneath.slot_arena.specs.declared.refs.Ref.{Ref}
use Rattle.proof_owned.specs.Beneath.slot_arena.specs.declared.nodes.Node.{Node}
use Rattle.proof_owned.specs.Beneath.slot_arena.specs.declared.nodes.Node.TheVariants.{Indirection, Branch, Single, Tomb, List as Listed}
use Rattle.proof_owned.specs.Beneath.slot_arena.specs.declared.nodes.Prev.{Prev}
use Rattle.proof_owned.specs.Beneath.slot_arena.specs.declared.nodes.Prev.TheVariants as prev
use Rattle.proof_owned.specs.Beneath.slot_arena.specs.declared.nodes.Slot.{Slot}
use Rattle.proof_owned.specs.Beneath.slot_arena.specs.Heaps.{node_at, main_of, main_at, prev_at, generation_at, refs_of_node, refs_of_prev, refs_of_slot, stored}
use Rattle.proof_owned.specs.Beneath.machine_model.specs.declared.steps.Bounds.{Bounds}
use Rattle.proof_owned.specs.Beneath.machine_model.specs.declared.steps.Step.{Step}
use Rattle.proof_owned.specs.Beneath.machine_model.specs.declared.reading.ReadLine.TheVariants as read
use Rattle.proof_owned.specs.Beneath.machine_model.specs.States.{State}
use Rattle.proof_owned.specs.Beneath.machine_model.specs.Machine.{AreBounds}
use Rattle.proof_owned.specs.Beneath.machine_model.specs.Grown.{standing, node_under, main_word, prev_word, main_before}
use Rattle.proof_owned.specs.Beneath.machine_model.specs.Times.{IsRun, states_of, last_of}
use Rattle.proof_owned.specs.Beneath.machine_model.specs.Records.{closed_at}
use Rattle.proof_owned.specs.Beneath.machine_model.proofs.Times.{run_is}
use Rattle.proof_owned.specs.Beneath.machine_model.proofs.Grown.{standing_parts, node_standing, prev_standing, prev_grown}
use Rattle.proof_owned.specs.Beneath.proof_memory.specs.Laws.{IsInUse}
use Rattle.proof_owned.specs.Beneath.proof_memory.specs.Wants.{AMain, AnEntry, ASingle, AnIndirection, Is, Holds, meets, AllHold, node_wants, prev_wants, is_indirection}
use Rattle.proof_owned.specs.Beneath.proof_memory.proofs.Claims.Uses.{Meets, all_of, safe_of, meets_of, first_hold}
use Rattle.proof_owned.specs.Beneath.proof_memory.proofs.Safety.AtEachTime.{safe_at}
use Rattle.proof_owned.specs.Beneath.proof_memory.proofs.Claims.Reads.{read_claims, read_link}
use Rattle.proof_owned.specs.Beneath.proof_memory.proofs.Safety.AtTimes.{node_found, line_finds}
use Rattle.proof_owned.specs.Beneath.proof_commits.specs.Protocol.{Words, Protocol, logical_at}
use Rattle.proof_owned.specs.Beneath.proof_commits.specs.Runs.{HasIndirection}
use Rattle.proof_owned.specs.Beneath.proof_commits.proofs.Words.Stood.{Stood, IsOver, stands_now, over_none}
use Rattle.proof_owned.specs.Beneath.proof_commits.proofs.Known.Sounds.{sound_at}
use Rattle.proof_owned.specs.Beneath.proof_commits.proofs.Course.Finals.{none_final, failed_final}
use Rattle.proof_owned.specs.Beneath.proof_commits.proofs.Course.Mains.{main_decided, main_when_none, replaced_for_good}
use Rattle.proof_owned.specs.Beneath.proof_contents.specs.Runs.{counting_main}
use Rattle.proof_owned.specs.Beneath.proof_contents.proofs.Values.Runs.{counting_main-last}
use Rattle.proof_owned.specs.Beneath.proof_generations.specs.Falling.{WasOpened, WasClosed}
use Rattle.proof_owned.specs.Beneath.proof_generations.proofs.Falling.KnownRoots.{words, protocol_of}
use Rattle.proof_owned.specs.Beneath.proof_generations.proofs.Falling.Nodes.{used_generation}
use Rattle.proof_owned.specs.Beneath.proof_generations.proofs.Falling.Runs.{gen_of}
use Rattle.proof_owned.specs.Owned.{IsOwn, IsLinked}
use Rattle.proof_owned.specs.Laws.{IsReplaced, IsFailed, Refers, itself, unopened, pending, failed, OneReferrer, ReplacedOwnIsUnlinked, FailedOwnIsUnlinked, IsToRead, ReplacedOwnIsReadNoMore}
use Rattle.proof_owned.proofs.Theirs.{IsTheirs, theirs}
use Rattle.proof_owned.specs.Beneath.proof_generations.proofs.Handles.Running.{place_of_actor}
use Rattle.proof_owned.proofs.Reading.{reads_opened}
use Rattle.proof_owned.proofs.OverNew.{over_counts}
use Rattle.proof_owned.proofs.OneMain.{own_unopened}
use Rattle.proof_owned.proofs.MainsInUse.{link_at, logical_is, main_used}
use Rattle.proof_owned.proofs.Linked.{Place, is_link, is_main, is_entry, nothing_good, stood_is_main, linked_place, main_no_link, main_no_single, one_is, none_is}

no_entry_main : (n : Node) → meets AMain n ≡ true → meets AnEntry n ≡ true → ⊥
no_entry_main (Indirection h x) m e = false≢true m
no_entry_main (Branch b es) m e = false≢true e
no_entry_main (Single k v) m e = false≢true m
no_entry_main (Tomb s) m e = false≢true e
no_entry_main (Listed s) m e = false≢true e

module _ {limits : Bounds} {states : ℕ → State} {last : ℕ} (run : IsRun limits states last) where
  abbrev w : Words
  w = words states run.records last

  abbrev p : Protocol
  p = protocol_of run

  module _ (i m : Ref) (own : IsTheirs run i m) where
    stood : Stood w last i m
    stood = own.stood

    link : w.link last i ≡ true
    link = (sound_at p last (omega arith)).words.link i m stood

    kind : meets AMain (node_under states last m) ≡ true
    kind = stood_is_main run last (omega arith) i m stood

    -- where it is neither in the word nor counts
    unlinked : (main_before states last i ≡ m → ⊥) → (main_word states last i ≡ m → ⊥) → IsLinked (states last) m → ⊥
    unlinked never word linked = by (linked_place run (λ r. Unit {0}) (nothing_good run) m linked).1
      where
        at_own : (j : Ref) → j ≡ i → (main_word states last j ≡ m) ⊎ IsOver (prev_word states last (main_word states last j)) m → ⊥
        at_own j same (inl now) = word (ap (main_word states last) (sym same) ∙ now)
        at_own j same (inr over) =
            never (ap (main_before states last) (sym same) ∙ over_counts (main_word states last j) m (prev_word states last (main_word states last j)) over)

        by : Place run (λ r. Unit {0}) (nothing_good run) m → ⊥
        by (is_link l opened good above) = main_no_link (node_under states last m) kind l
        by (is_entry single entry) = main_no_single (node_under states last m) kind single
        by (is_main j above good j_link opened there why) = elim (cases_eq j i) [
          | inl same ↦ at_own j same why
          | inr other ↦ own_unopened run i m own (λ e closed. never (sym (counting_main-last states last i) ∙ e)) last (omega arith) j other there opened
        ]

    -- it was replaced
    module _ (n k : ℕ) (order : n ≤ k) (within : k ≤ last) (linked : w.link n i ≡ true) (was : logical_at w n i ≡ m) (gone : logical_at w k i ≡ m → ⊥) where
      never : main_before states last i ≡ m → ⊥
      never = replaced_for_good p i m n k last order within (omega arith) linked was gone

      none : w.prev last m ≡ prev.None
      none =
          let d = subst (λ x. (Stood w n i x) × (w.prev n x ≡ prev.None)) was
          (let d = main_decided w n (sound_at p n (omega (arith, order, within))).words i linked in (d.stood, d.none)) in
          none_final p i m n last (omega (arith, order, within)) (omega arith) d.0 d.1

      pub out_of_word : main_word states last i ≡ m → ⊥
      out_of_word e = never (main_when_none w last i m e none)

    -- it failed
    failed_never : (n : ℕ) → n ≤ last → (a : Ref) → w.prev n m ≡ prev.Failed a → main_before states last i ≡ m → ⊥
    failed_never n within a fails e =
        let d = main_decided w last (sound_at p last (omega arith)).words i link in
        let none : w.prev last m ≡ prev.None = ap (w.prev last) (sym e) ∙ d.none in
        let both : prev.None ≡ prev.Failed a = sym none ∙ failed_final p m a n last within (omega arith) fails in
        let wrong : ⊥ = cc both in wrong

module _ (limits : Bounds) (steps : List Step) (ok : AreBounds limits) where
  abbrev states : ℕ → State
  states = states_of limits steps

  abbrev last : ℕ
  last = last_of limits steps

  abbrev is_run : IsRun limits states last
  is_run = run_is limits steps ok

  module _ (i m : Ref) (own : IsOwn states last i m) where
    abbrev pub brought : IsTheirs is_run i m
    brought = theirs is_run i m own

    module _ (r : IsReplaced limits steps i m) where
      pub was : logical_at (words states is_run.records last) r.before i ≡ m
      was = sym (logical_is is_run r.before (omega (arith, r.order, r.within)) i r.had) ∙ r.was

      pub gone : logical_at (words states is_run.records last) r.after i ≡ m → ⊥
      gone e = r.is (logical_is is_run r.after (omega (arith, r.within)) i r.has ∙ e)

      never_again : main_before states last i ≡ m → ⊥
      never_again = never is_run i m brought r.before r.after r.order r.within (link_at is_run r.before i r.had) was gone

      replaced_unlinked : IsLinked (states last) m → ⊥
      replaced_unlinked =
          unlinked is_run i m brought never_again
          (out_of_word is_run i m brought r.before r.after r.order r.within (link_at is_run r.before i r.had) was gone)

    failed_unlinked : IsFailed limits steps i m → IsLinked (states last) m → ⊥
    failed_unlinked f =
        unlinked is_run i m brought
        (failed_never is_run i m brought f.at f.within f.over (sym (prev_grown states f.at m f.used.0 f.used.1) ∙ f.failed))
        (λ e. f.is (ap main_of (node_found states last i f.has.0) ∙ e))

    -- ---- who names it

    -- not while its generation is open, nor once it is replaced
    final : (HasIndirection (states last) i × (closed_at (is_run.records last) (generation_at (states last).heap i) ≡ None)) ⊎ IsReplaced limits steps i m →
        counting_main states last last i ≡ m → WasClosed is_run.records last (gen_of states last i) → ⊥
    final (inl (has, unclosed)) e (c, before, closed) =
        none-some c (sym unclosed ∙ ap (closed_at (is_run.records last)) (sym (used_generation is_run last (omega arith) i has.0)) ∙ closed)
    final (inr replaced) e closed = never_again replaced (sym (counting_main-last states last i) ∙ e)

    module _ (settled : (HasIndirection (states last) i × (closed_at (is_run.records last) (generation_at (states last).heap i) ≡ None)) ⊎ IsReplaced limits steps i m)
        (q : Ref) (slot : Slot) (at : standing (states last).heap q ≡ Some slot) where
      used : IsInUse (states last).heap q
      used = (slot, at)

      its_kind : IsInUse (states last).heap m → meets AMain (node_at (states last).heap m) ≡ true
      its_kind there = ap (meets AMain) (node_found states last m there) ∙ kind is_run i m brought

      claims : AllHold (IsInUse (states last).heap) (states last).heap (node_wants slot.node)
      claims =
          first_hold (IsInUse (states last).heap) (states last).heap (node_wants slot.node) (prev_wants slot.prev) ((safe_at is_run last (omega arith)).nodes q slot at).0

      by_node : (n : Node) → slot.node ≡ n → AllHold (IsInUse (states last).heap) (states last).heap (node_wants n) → Contains (refs_of_node n) m → Refers limits steps i m q
      by_node (Indirection h word) is c among = by_place (cases_eq q i)
        where
          has : HasIndirection (states last) q
          has = (used, ap is_indirection (node_standing (states last).heap q slot at ∙ is))

          there : Stood (words states is_run.records last) last q m
          there =
              stands_now (link_at is_run last q has)
              (ap main_of (sym (node_found states last q used) ∙ node_standing (states last).heap q slot at ∙ is) ∙ one_is word m among)

          by_place : (q ≡ i) ⊎ (q ≡ i → ⊥) → Refers limits steps i m q
          by_place (inl same) = itself same
          by_place (inr other) =
              unopened has
              (λ opened. own_unopened is_run i m brought (final settled) last (omega arith) q other there
              (subst (λ g. WasOpened states last g) (sym (used_generation is_run last (omega arith) q used)) opened))
      by_node (Branch b es) is c among =
          let it : Meets (IsInUse (states last).heap) (states last).heap AnEntry m = All-contains (Meets (IsInUse (states last).heap) (states last).heap AnEntry) es.items m (all_of c.0) among in
          absurd (no_entry_main (node_at (states last).heap m) (its_kind it.0) it.1)
      by_node (Single k v) is c among = absurd (none_is m among)
      by_node (Tomb s) is c among =
          let same = one_is s m among in
          absurd (main_no_single (node_at (states last).heap m) (its_kind (subst (IsInUse (states last).heap) same (safe_of c.0)))
          (ap (λ y. meets ASingle (node_at (states last).heap y)) (sym same) ∙ meets_of c.0))
      by_node (Listed ss) is c among =
          let it : Meets (IsInUse (states last).heap) (states last).heap ASingle m = All-contains (Meets (IsInUse (states last).heap) (states last).heap ASingle) ss.items m (all_of c.0) among in
          absurd (main_no_single (node_at (states last).heap m) (its_kind it.0) it.1)

      by_prev : (v : Prev) → slot.prev ≡ v → Contains (refs_of_prev v) m → Refers limits steps i m q
      by_prev prev.None is among = absurd (none_is m among)
      by_prev (prev.Pending x) is among = pending (prev_standing (states last).heap q slot at ∙ is ∙ ap (λ y. prev.Pending y) (one_is x m among))
      by_prev (prev.Failed x) is among = failed (prev_standing (states last).heap q slot at ∙ is ∙ ap (λ y. prev.Failed y) (one_is x m among))

      refers : Contains (refs_of_slot (stored (states last).heap q)) m → Refers limits steps i m q
      refers c =
          elim (Contains-append_cases (refs_of_node slot.node) (refs_of_prev slot.prev) m (subst (λ o. Contains (refs_of_slot o) m) ((standing_parts (states last).heap q slot at).0) c)) [
            | inl node ↦ by_node slot.node refl claims node
            | inr before ↦ by_prev slot.prev refl before
          ]

-- ---- who reads

module _ {limits : Bounds} {states : ℕ → State} {last : ℕ} (run : IsRun limits states last) (i m : Ref) (own : IsTheirs run i m)
    (never_more : main_before states last i ≡ m → ⊥) (out : main_word states last i ≡ m → ⊥) (j : Ref) (reads : IsToRead (states last) j) where
  abbrev at_end : State
  at_end = states last

  found : Holds (IsInUse at_end.heap) at_end.heap (Is j AnIndirection)
  found =
      let (k, place, at_k) = place_of_actor at_end reads.actor reads.operation reads.runs in
      let wants = line_finds at_end (safe_at run last (omega arith)) reads.actor reads.operation reads.runs in
      read_link (IsInUse at_end.heap) at_end.heap j read.Main
      (read_claims (IsInUse at_end.heap) at_end.heap (record { indirection = j; line = read.Main }) at_end.limits.hash reads.operation.call reads.operation.access reads.operation.line reads.reads
      wants)

  its_use : IsInUse at_end.heap j
  its_use = safe_of found

  its_link : is_indirection (node_under states last j) ≡ true
  its_link = ap is_indirection (sym (node_found states last j its_use)) ∙ meets_of found

  opened_so : WasOpened states last (gen_of states last j)
  opened_so = reads_opened run last (omega arith) reads.actor reads.operation (record { indirection = j; line = read.Main }) reads.runs reads.reads its_link

  unclosed_or_gone : counting_main states last last i ≡ m → WasClosed run.records last (gen_of states last i) → ⊥
  unclosed_or_gone e closed = never_more (sym (counting_main-last states last i) ∙ e)

  not_word : main_word states last j ≡ m → ⊥
  not_word e = elim (cases_eq j i) [
    | inl same ↦ out (ap (main_word states last) (sym same) ∙ e)
    | inr other ↦ own_unopened run i m own unclosed_or_gone last (omega arith) j other (stands_now its_link e) opened_so
  ]

  not_over : IsOver (prev_word states last (main_word states last j)) m → ⊥
  not_over over =
      let sound = (sound_at (protocol_of run) last (omega arith)).words in
      let x = main_word states last j in
      let below = sound.over x m over in
      let same : j ≡ below.link = sound.one_word x j below.link (λ none. over_none (prev_word states last x) m none over) (stands_now its_link refl) below.stood in
      elim (cases_eq j i) [
        | inl own_one ↦ never_more (ap (main_before states last) (sym own_one) ∙ over_counts x m (prev_word states last x) over)
        | inr other ↦
            own_unopened run i m own unclosed_or_gone last (omega arith) j other (subst (λ y. Stood (words states run.records last) last y m) (sym same) below.before) opened_so
      ]

  main_there : main_at at_end.heap j ≡ main_word states last j
  main_there = ap main_of (node_found states last j its_use)

  main_use : IsInUse at_end.heap (main_at at_end.heap j)
  main_use = main_used run last (omega arith) j (its_use, meets_of found)

  prev_there : prev_at at_end.heap (main_at at_end.heap j) ≡ prev_word states last (main_word states last j)
  prev_there = prev_grown states last (main_at at_end.heap j) main_use.0 main_use.1 ∙ ap (prev_word states last) main_there

  pub read_no_more : (main_at at_end.heap j ≡ m → ⊥) × (prev_at at_end.heap (main_at at_end.heap j) ≡ prev.Pending m → ⊥) × (prev_at at_end.heap (main_at at_end.heap j) ≡ prev.Failed m → ⊥)
  read_no_more = (
    λ e. not_word (sym main_there ∙ e),
    λ e. not_over (subst (λ v. IsOver v m) (sym (sym prev_there ∙ e)) refl),
    λ e. not_over (subst (λ v. IsOver v m) (sym (sym prev_there ∙ e)) refl),
  )

pub replaced_own_is_read_no_more : ReplacedOwnIsReadNoMore
replaced_own_is_read_no_more limits steps ok i m own r j reads =
    let run = run_is limits steps ok in
    read_no_more run i m (brought limits steps ok i m own) (never_again limits steps ok i m own r)
    (out_of_word run i m (brought limits steps ok i m own) r.before r.after r.order r.within (link_at run r.before i r.had) (was limits steps ok i m own r) (gone limits steps ok i m own r)) j
    reads

pub replaced_own_is_unlinked : ReplacedOwnIsUnlinked
replaced_own_is_unlinked limits steps ok i m own r = replaced_unlinked limits steps ok i m own r

pub failed_own_is_unlinked : FailedOwnIsUnlinked
failed_own_is_unlinked limits steps ok i m own f = failed_unlinked limits steps ok i m own f

pub one_referrer : OneReferrer
one_referrer limits steps ok i m q own settled used among = refers limits steps ok i m own settled q used.0 used.1 among
