-- Each line of each program is a turn of the protocol.
use Rattle.std.proofs.Common.{◌≡◌, ℕ, suc, ◌-◌, ◌<◌, ◌≤◌, Bool, true, false, ◌==◌, List, [], ◌++◌, Option, Some, None, inl, inr, refl, sym, ◌∙◌, ap, subst, eqb-true, arith}
use Rattle.std.proofs.lemmas.Bool.{true≢false}
use Rattle.proof_commits.specs.Vocabulary.{Writable, Ref, Node, Prev, Heap, node_at, entry_at, entries_of, Operation, After, Gives, ReadLine, BuildLine, KeyLine, RenewLine, CleanLine, Climb}
use Rattle.proof_commits.specs.Vocabulary.{ClimbLine, CopyLine, WalkLine, RootLine, RootWord, Plain, Descriptor, Purpose, Line, State, renew_after_link, renew_after_branch, next_entry, found}
use Rattle.proof_commits.specs.Vocabulary.{after_single, after_link, build_if_made, clean_after_contracted, climb_after_contracted, climb_after_root, copy_if_made, first_of, rest_of, after_root}
use Rattle.proof_commits.specs.Vocabulary.{main_at, prev_at, generation_at, node_of, main_of, next_ref, Swap, SwapLine, CompleteLine, Bounds, handle_of, word_at, root_of, read_action, read_after}
use Rattle.proof_commits.specs.Vocabulary.{at_indirection, committed_by, reading, committed_in, after_deciding as swap_deciding, on_line, after_check, after_publish, after_reading, of_offer}
use Rattle.proof_commits.specs.Vocabulary.{after_completing, is_carried_out, is_plain, renew_after_read, key_after_read, clean_after_read, after_child, climb_after_read, copy_after_read}
use Rattle.proof_commits.specs.Vocabulary.{copy_after_complete, walk_after_read, line_action, line_after, read_of, commits_after, node_under, GoesOn, Site}
use Rattle.proof_commits.specs.Beneath.slot_arena.specs.declared.nodes.Prev.TheVariants as over
use Rattle.proof_commits.specs.Beneath.machine_model.specs.declared.reading.After.TheVariants.{Goes}
use Rattle.proof_commits.specs.Beneath.machine_model.specs.declared.reading.ReadLine.TheVariants as read
use Rattle.proof_commits.specs.Beneath.machine_model.specs.declared.building.BuildLine.TheVariants as build
use Rattle.proof_commits.specs.Beneath.machine_model.specs.declared.finding.KeyLine.TheVariants as key
use Rattle.proof_commits.specs.Beneath.machine_model.specs.declared.repairs.RenewLine.TheVariants as renew
use Rattle.proof_commits.specs.Beneath.machine_model.specs.declared.repairs.CleanLine.TheVariants as clean
use Rattle.proof_commits.specs.Beneath.machine_model.specs.declared.repairs.ClimbLine.TheVariants as climb
use Rattle.proof_commits.specs.Beneath.machine_model.specs.declared.copying.CopyLine.TheVariants as copy
use Rattle.proof_commits.specs.Beneath.machine_model.specs.declared.walking.WalkLine.TheVariants as walk
use Rattle.proof_commits.specs.Beneath.machine_model.specs.declared.roots.RootLine.TheVariants as root
use Rattle.proof_commits.specs.Beneath.machine_model.specs.declared.lines.Line.TheVariants as line
use Rattle.proof_commits.specs.Beneath.machine_model.specs.declared.reading.SwapLine.TheVariants as swap
use Rattle.proof_commits.specs.Beneath.machine_model.specs.declared.roots.CompleteLine.TheVariants as complete
use Rattle.proof_commits.specs.Beneath.machine_model.specs.Operations.{after_swap}
use Rattle.proof_commits.specs.Protocol.{Words, HasMade, Stage, Rests, Reads, Builds, Publishes, Decides, Checks, IsFree, MayName, Given, ReadTurn, Moves, Idles, MakesNode}
use Rattle.proof_commits.specs.Protocol.{SwapsNode, ReadsOn, DecidesOn, after_read}
use Rattle.proof_commits.proofs.Lines.Stages.{ReadRemembers, Remembers, key_stage, renew_stage, clean_stage, child_stage, climb_stage, walk_stage, copy_stage}
use Rattle.proof_commits.proofs.Lines.Stages.{copy_completing_stage, root_completing_stage}
use Rattle.proof_commits.specs.Stages.{stage_of}
use Rattle.proof_commits.proofs.Known.Given.{BuildsFrom, HasSolid, GrownStays, GrownSwaps, FindsMain, FindsPrev, Either, Taken, ActsOn, Known}
use Rattle.proof_commits.proofs.Words.OfRuns.{leaves_words, swaps_words, makes_words, takes_node}
use Rattle.proof_commits.specs.Words.{words_of}
use Rattle.proof_commits.proofs.Lines.Read.{no_commit, solid_stays, read_turn}
use Rattle.std.specs.Prelude.{is_some}
use Rattle.proof_commits.specs.Beneath.machine_model.specs.declared.building.Site.TheVariants as site
use Rattle.proof_commits.proofs.Lines.Reads.{ReadsSo, on_stage}
use Rattle.proof_commits.proofs.Lines.Resting
use Rattle.proof_commits.proofs.Lines.Resting.{AtRest}
use Rattle.proof_memory.specs.Wants.{is_indirection, is_branch_or_list}
use Rattle.proof_memory.proofs.Lines.Next.{pair_main, contracted_main, changed_main}
use Rattle.proof_memory.proofs.Claims.Nodes.{main_plain}
use Rattle.proof_commits.specs.Beneath.machine_model.proofs.Grown.{grown_in_use, node_grown}

module _ (limits : Bounds) (states : ℕ → State) (last : ℕ) (known : Known limits states last) (t : ℕ) (h : t < last) (k : ℕ) (operation : Operation) where
  abbrev w : Words
  w = words_of states known.run.records last known.closing

  abbrev heap : Heap
  heap = (states t).heap

  abbrev word : RootWord
  word = word_at (states t) (handle_of operation.call)

  -- what a READ of this actor's gave before this step
  abbrev G : Ref → Ref → Type 0
  G i m = Given w t k i m

  abbrev W : Type 0
  W = operation.access ≡ Writable

  -- the root's generation that is told wasn't closed before
  abbrev ToldOpen : Type 0
  ToldOpen = (r : Ref) → word ≡ Plain r → (c : ℕ) → known.closing (generation_at heap r) ≡ Some c → t ≤ c

  -- what is known of a step from this line
  pub record LineFacts (l : Line) : Type 0 where
    pub acts : ActsOn states t (line_action (states t) operation l)
    pub commits : (known.run.records (suc t)).commits ≡ commits_after (known.run.records t) t (committed_in (states t) (read_of l))
    pub asks : (i m p : Ref) → read_of l ≡ Some (record { indirection = i; line = read.AskRoot m p }) → W → ToldOpen
    pub stage : w.stage t k ≡ stage_of l
    pub built : (main : Ref) → BuildsFrom l main → HasSolid (states t) main

  -- and of what it remembers
  pub record LineStep (l : Line) : Type 0 where
    pub facts : LineFacts l
    pub open facts use *
    pub remembers : Remembers G W l

  -- what a READ gave, and may be replaced
  abbrev GS : Ref → Ref → Type 0
  GS i m = G i m × (w.solid m ≡ true)

  -- what stands there as a branch or a list may be replaced
  solid_of : (m : Ref) → HasSolid (states t) m → w.solid m ≡ true
  solid_of m x =
      let found = grown_in_use states t m x.slot x.stands in
      solid_stays limits states last known t m (omega arith) (ap is_some found) ∙ ap (λ o. is_branch_or_list (node_of o)) found ∙ x.solid

  solid_at : (m : Ref) → HasSolid (states t) m → is_branch_or_list (node_at heap m) ≡ true
  solid_at m x = ap is_branch_or_list (node_grown states t m x.slot x.stands ∙ ap node_of (grown_in_use states t m x.slot x.stands)) ∙ x.solid

  -- a turn that leads to this line
  abbrev pub NextLine : Stage → Line → Type 0
  NextLine before l = Moves w t k before (stage_of l)

  -- ---- kinds of turns

  rest_turn : (s : Stage) (l : Line) → IsFree s → GrownStays states t → (known.run.records (suc t)).commits ≡ (known.run.records t).commits → AtRest G W l → NextLine s l
  rest_turn s l free e c r = Idles (leaves_words states known.run.records last known.closing t e (no_commit limits states last known t h c)) free r.0

  make_turn : (s : Stage) → IsFree s → (node : Node) (after : Option Ref → Line) → (known.run.records (suc t)).commits ≡ (known.run.records t).commits → AtRest G W (after None) →
      ((n : Ref) → HasMade GS n (stage_of (after (Some n)))) → (is_indirection node ≡ true → MayName w t k s (main_of node)) → (made : Option Ref) → Taken states t node made →
      NextLine s (after made)
  make_turn s free node after c none some name None e = rest_turn s (after None) free e c none
  make_turn s free node after c none some name (Some n) e =
      let is : node_under states (suc t) n ≡ node = takes_node states known.run.records last known.closing t n node e in
      MakesNode n (makes_words states known.run.records last known.closing t n node e (no_commit limits states last known t h c)) free
      (λ l. subst (λ x. MayName w t k s (main_of x)) (sym is) (name (subst (λ x. is_indirection x ≡ true) is l))) (some n)

  names_none : (s : Stage) (node : Node) → is_indirection node ≡ false → is_indirection node ≡ true → MayName w t k s (main_of node)
  names_none s node none is = absurd (true≢false (sym is ∙ none))

  -- a step of a READ
  own_read : (i : Ref) (l : ReadLine) → ActsOn states t (read_action i l) → (known.run.records (suc t)).commits ≡ commits_after (known.run.records t) t (committed_by heap i l) →
      ReadRemembers W l → ((m p : Ref) → l ≡ read.AskRoot m p → W → ToldOpen) → ReadTurn w t i l (read_after heap operation.access word i l)
  own_read i l a c r asks =
      read_turn limits states last known t h i l operation.access word a c (λ m p e. asks m p e (subst (λ x. ReadRemembers W x) e r))

  reads_on : (i : Ref) (l : ReadLine) (after : After ReadLine Ref → Line) → ActsOn states t (read_action i l) →
      (known.run.records (suc t)).commits ≡ commits_after (known.run.records t) t (committed_by heap i l) → ReadRemembers W l → ((m p : Ref) → l ≡ read.AskRoot m p → W → ToldOpen) →
      ((o : After ReadLine Ref) → stage_of (after o) ≡ after_read i o) → NextLine (Reads i l) (after (read_after heap operation.access word i l))
  reads_on i l after a c r asks same = subst (λ s. Moves w t k (Reads i l) s) (sym (same _)) (ReadsOn (own_read i l a c r asks))

  -- a line that asks is the operation's READ
  asks_of : (l : Line) (i : Ref) (x : ReadLine) → read_of l ≡ Some (record { indirection = i; line = x }) →
      ((i m p : Ref) → read_of l ≡ Some (record { indirection = i; line = read.AskRoot m p }) → W → ToldOpen) → (m p : Ref) → x ≡ read.AskRoot m p → W → ToldOpen
  asks_of l i x is asks m p e = asks i m p (is ∙ ap (λ y. Some (record { indirection = i; line = y })) e)

  -- ---- KEY

  key_turn : (l : KeyLine) → LineStep (line.Key l) → NextLine (stage_of (line.Key l)) (line_after (states t) operation (line.Key l))
  key_turn (key.Read path r) s =
      reads_on r.indirection r.line (λ o. key_after_read path (at_indirection r.indirection o)) s.acts s.commits s.remembers.0
      (asks_of (line.Key (key.Read path r)) r.indirection r.line refl s.asks) (key_stage path r.indirection)
  key_turn (key.Main path main) s = rest_turn Rests _ tt s.acts s.commits (Resting.key_main_rest G W (states t) operation path main (node_at heap main) s.remembers)
  key_turn (key.Entry path main position) s =
      rest_turn Rests _ tt s.acts s.commits (Resting.key_entry_rest G W (states t) operation path main position (node_at heap (entry_at heap main position)) s.remembers)
  key_turn (key.Listed path main position) s =
      rest_turn Rests _ tt s.acts s.commits (Resting.key_listed_rest G W (states t) operation path main position (node_at heap (entry_at heap main position)) s.remembers)
  key_turn (key.Sibling path main position former) s =
      rest_turn Rests _ tt s.acts s.commits
      (Resting.key_sibling_rest G W path main position former (entry_at heap main (1 - position)) (node_at heap (entry_at heap main (1 - position))) s.remembers)

  -- ---- BUILD

  single_has : (path : List Ref) (main : Ref) (former : Option ℕ) (x : Site) (n : Ref) → HasMade GS n (stage_of (after_single (states t) operation path main former x n))
  single_has path main former site.Absent n = tt
  single_has path main former (site.At position) n = tt
  single_has path main former (site.Beside position) n = tt

  link_has : (path : List Ref) (main : Ref) (position depth : ℕ) (n : Ref) → HasMade GS n (stage_of (after_link path main position depth n))
  link_has path main position depth n = grind arith

  build_turn : (l : BuildLine) → LineStep (line.Build l) → NextLine (stage_of (line.Build l)) (line_after (states t) operation (line.Build l))
  build_turn (build.Single path main x former) s =
      make_turn Rests tt _ (build_if_made (states t) operation (build.Single path main x former)) s.commits (tt, tt) (single_has path main former x)
      (λ l. absurd (true≢false (sym l))) (next_ref heap) s.acts
  build_turn (build.Pair path main position single depth) s =
      make_turn Rests tt _ (build_if_made (states t) operation (build.Pair path main position single depth)) s.commits (tt, tt) (λ n. refl)
      (names_none Rests _ (main_plain _ (pair_main _ depth _ _ _ single))) (next_ref heap) s.acts
  build_turn (build.Link path main position below depth) s =
      make_turn (Builds below) tt _ (build_if_made (states t) operation (build.Link path main position below depth)) s.commits (tt, tt) (link_has path main position depth)
      (λ l. inr refl) (next_ref heap) s.acts
  build_turn (build.Rung path main position below depth) s =
      make_turn Rests tt _ (build_if_made (states t) operation (build.Rung path main position below depth)) s.commits (tt, tt) (λ n. refl)
      (λ l. absurd (true≢false (sym l))) (next_ref heap) s.acts
  build_turn (build.Main path main c former) s =
      make_turn Rests tt _ (build_if_made (states t) operation (build.Main path main c former)) s.commits (tt, tt)
      (λ n. (refl, (s.remembers, solid_of main (s.built main refl))))
      (names_none Rests _ (main_plain _ (changed_main _ (node_at heap main) c (solid_at main (s.built main refl))))) (next_ref heap) s.acts

  -- ---- SWAP

  swap_publish : (why : Purpose) (x : Swap) → FindsMain states t x.indirection → FindsPrev states t x.fresh → (known.run.records (suc t)).commits ≡ (known.run.records t).commits →
      G x.indirection x.replaced → (b : Bool) → (main_at heap x.indirection == x.replaced) ≡ b →
      Either b (GrownSwaps states t x.indirection x.replaced x.fresh) (GrownStays states t) →
      NextLine (Publishes x.indirection x.replaced x.fresh) (after_swap (states t) operation why x (on_line x (after_publish x.fresh b)))
  swap_publish why x finds found c g true is e =
      SwapsNode finds.link (swaps_words states known.run.records last known.closing t x.indirection x.replaced x.fresh finds.link found.made (sym finds.main ∙ eqb-true _ x.replaced is) e
      (no_commit limits states last known t h c))
  swap_publish why x finds found c g false is e =
      rest_turn (Publishes x.indirection x.replaced x.fresh) _ tt e c (Resting.swapped_rest G W operation (node_at heap x.fresh) why false)

  swap_decides : (why : Purpose) (x : Swap) (l : ReadLine) (out : After ReadLine Ref) → ReadTurn w t x.indirection l out →
      NextLine (Decides x.indirection x.replaced x.fresh l) (after_swap (states t) operation why x (on_line x (swap_deciding out)))
  swap_decides why x l (Goes next) turn = DecidesOn turn
  swap_decides why x l (Gives m) turn = DecidesOn turn

  swap_checks : (why : Purpose) (x : Swap) → GrownStays states t → (known.run.records (suc t)).commits ≡ (known.run.records t).commits → (v : Prev) →
      NextLine (Checks x.indirection x.replaced x.fresh) (after_swap (states t) operation why x (on_line x (after_check v)))
  swap_checks why x e c over.None = rest_turn _ _ tt e c (Resting.swapped_rest G W operation (node_at heap x.fresh) why true)
  swap_checks why x e c (over.Pending p) = rest_turn _ _ tt e c (Resting.swapped_rest G W operation (node_at heap x.fresh) why false)
  swap_checks why x e c (over.Failed p) = rest_turn _ _ tt e c (Resting.swapped_rest G W operation (node_at heap x.fresh) why false)

  swap_turn : (why : Purpose) (i a f : Ref) (l : SwapLine) → let x : Swap = record { indirection = i; replaced = a; fresh = f; line = l } in LineStep (line.Swap why x) →
      NextLine (stage_of (line.Swap why x)) (line_after (states t) operation (line.Swap why x))
  swap_turn why i a f swap.Publish s =
      swap_publish why (record { indirection = i; replaced = a; fresh = f; line = swap.Publish }) s.acts.0 s.acts.1 s.commits s.remembers.1 (main_at heap i == a) refl s.acts.2
  swap_turn why i a f (swap.Deciding l) s =
      let x : Swap = record { indirection = i; replaced = a; fresh = f; line = swap.Deciding l } in
      swap_decides why x l (read_after heap operation.access word i l)
      (own_read i l s.acts s.commits s.remembers.0 (asks_of (line.Swap why x) i l refl s.asks))
  swap_turn why i a f swap.Check s = swap_checks why (record { indirection = i; replaced = a; fresh = f; line = swap.Check }) s.acts.1 s.commits (prev_at heap f)

  -- ---- RENEW

  renew_link_has : (path : List Ref) (main : Ref) (done : List Ref) (n : Ref) → HasMade GS n (stage_of (renew_after_link (states t) path main done (Some n)))
  renew_link_has path main done n = grind arith

  renew_turn : (l : RenewLine) → LineStep (line.Renew l) → NextLine (stage_of (line.Renew l)) (line_after (states t) operation (line.Renew l))
  renew_turn (renew.Entry path main done) s =
      rest_turn Rests _ tt s.acts s.commits
      (Resting.renew_entry_rest G W (states t) operation path main done (next_entry (states t) main done) (node_at heap (next_entry (states t) main done)) s.remembers)
  renew_turn (renew.Read path main done r) s =
      reads_on r.indirection r.line (λ o. renew_after_read path main done (at_indirection r.indirection o)) s.acts s.commits s.remembers.0
      (asks_of (line.Renew (renew.Read path main done r)) r.indirection r.line refl s.asks) (renew_stage path main done r.indirection)
  renew_turn (renew.Link path main done child) s =
      make_turn Rests tt _ (renew_after_link (states t) path main done) s.commits (tt, tt) (renew_link_has path main done)
      (λ l. inl s.remembers.1) (next_ref heap) s.acts
  renew_turn (renew.Branch path main done) s =
      make_turn Rests tt _ (renew_after_branch path main) s.commits (tt, tt) (λ n. (refl, (s.remembers, solid_of main (s.built main refl)))) (λ l. absurd (true≢false (sym l))) (next_ref heap) s.acts

  -- ---- CLEAN

  clean_turn : (l : CleanLine) → LineStep (line.Clean l) → NextLine (stage_of (line.Clean l)) (line_after (states t) operation (line.Clean l))
  clean_turn (clean.Read path r) s =
      reads_on r.indirection r.line (λ o. clean_after_read path (at_indirection r.indirection o)) s.acts s.commits s.remembers.0
      (asks_of (line.Clean (clean.Read path r)) r.indirection r.line refl s.asks) (clean_stage path r.indirection)
  clean_turn (clean.Main path main) s = rest_turn Rests _ tt s.acts s.commits (Resting.clean_main_rest G W (states t) path main (node_at heap main) s.remembers)
  clean_turn (clean.Entry path main done) s =
      rest_turn Rests _ tt s.acts s.commits
      (Resting.clean_entry_rest G W (states t) path main done (next_entry (states t) main done) (node_at heap (next_entry (states t) main done)) s.remembers)
  clean_turn (clean.Child path main done r) s =
      reads_on r.indirection r.line (λ o. after_child path main done (at_indirection r.indirection o)) s.acts s.commits s.remembers.0
      (asks_of (line.Clean (clean.Child path main done r)) r.indirection r.line refl s.asks) (child_stage path main done r.indirection)
  clean_turn (clean.Tomb path main done child) s =
      rest_turn Rests _ tt s.acts s.commits (Resting.clean_tomb_rest G W (states t) path main done (node_at heap child) s.remembers.0)
  clean_turn (clean.Contracted path main done) s =
      make_turn Rests tt _ (clean_after_contracted path main) s.commits (tt, tt) (λ n. (refl, (s.remembers, solid_of main (s.built main refl))))
      (names_none Rests _ (main_plain _ (contracted_main _ _ done))) (next_ref heap) s.acts

  -- ---- ROOT

  root_completing : (offer : Descriptor) (x : CompleteLine) → let l = line.Root (root.Completing (record { offer = offer; line = x })) in LineStep l →
      NextLine (stage_of l) (line_after (states t) operation l)
  root_completing offer (complete.Reading x) s =
      reads_on offer.root x (λ o. after_root operation (after_completing (of_offer offer (after_reading o)))) s.acts s.commits s.remembers
      (asks_of (line.Root (root.Completing (record { offer = offer; line = complete.Reading x }))) offer.root x refl s.asks) (root_completing_stage operation offer)
  root_completing offer (complete.Swap main) s = rest_turn Rests (line.Root root.Read) tt s.acts s.commits (tt, tt)

  root_turn : (l : RootLine) → LineStep (line.Root l) → NextLine (stage_of (line.Root l)) (line_after (states t) operation (line.Root l))
  root_turn root.Read s = rest_turn Rests _ tt s.acts s.commits (Resting.root_word_rest G W operation word)
  root_turn (root.Completing c) s = root_completing c.offer c.line s

  -- ---- CLIMB

  climb_completing_stage : (c : Climb) (offer : Descriptor) (o : After ReadLine Ref) →
      stage_of (climb_after_root (states t) operation c (after_completing (of_offer offer (after_reading o)))) ≡ after_read offer.root o
  climb_completing_stage c offer (Goes l) = refl
  climb_completing_stage c offer (Gives m) = refl

  climb_completing : (c : Climb) (offer : Descriptor) (x : CompleteLine) → let l = line.Climb (climb.Root c (root.Completing (record { offer = offer; line = x }))) in LineStep l →
      NextLine (stage_of l) (line_after (states t) operation l)
  climb_completing c offer (complete.Reading x) s =
      reads_on offer.root x (λ o. climb_after_root (states t) operation c (after_completing (of_offer offer (after_reading o)))) s.acts s.commits s.remembers
      (asks_of (line.Climb (climb.Root c (root.Completing (record { offer = offer; line = complete.Reading x })))) offer.root x refl s.asks) (climb_completing_stage c offer)
  climb_completing c offer (complete.Swap main) s = rest_turn Rests (line.Climb (climb.Root c root.Read)) tt s.acts s.commits (tt, tt)

  climb_turn : (l : ClimbLine) → LineStep (line.Climb l) → NextLine (stage_of (line.Climb l)) (line_after (states t) operation (line.Climb l))
  climb_turn (climb.Read c r) s =
      reads_on r.indirection r.line (λ o. climb_after_read c (at_indirection r.indirection o)) s.acts s.commits s.remembers.0
      (asks_of (line.Climb (climb.Read c r)) r.indirection r.line refl s.asks) (climb_stage c r.indirection)
  climb_turn (climb.Main c main) s = rest_turn Rests _ tt s.acts s.commits (Resting.climb_main_rest G W (states t) operation c main (node_at heap main) s.remembers)
  climb_turn (climb.Contracted c main) s =
      make_turn Rests tt _ (climb_after_contracted operation c main) s.commits (tt, tt) (λ n. (refl, (s.remembers, solid_of main (s.built main refl))))
      (names_none Rests _ (main_plain _ (contracted_main _ _ _))) (next_ref heap) s.acts
  climb_turn (climb.Root c root.Read) s = rest_turn Rests _ tt s.acts s.commits (Resting.climb_word_rest G W (states t) operation c word)
  climb_turn (climb.Root c (root.Completing x)) s = climb_completing c x.offer x.line s

  -- ---- COPY

  copy_completing : (offer : Descriptor) (x : CompleteLine) → let l = line.Copy (copy.Complete (record { offer = offer; line = x })) in LineStep l →
      NextLine (stage_of l) (line_after (states t) operation l)
  copy_completing offer (complete.Reading x) s =
      reads_on offer.root x (λ o. copy_after_complete operation (of_offer offer (after_reading o))) s.acts s.commits s.remembers
      (asks_of (line.Copy (copy.Complete (record { offer = offer; line = complete.Reading x }))) offer.root x refl s.asks) (copy_completing_stage operation offer)
  copy_completing offer (complete.Swap main) s = rest_turn Rests _ tt s.acts s.commits (Resting.copy_done_rest G W operation (is_carried_out word offer main))

  successor_has : (at main n : Ref) → HasMade GS n (stage_of (copy_if_made operation (copy.Successor at main) (Some n)))
  successor_has at main n = grind arith

  copy_turn : (l : CopyLine) → LineStep (line.Copy l) → NextLine (stage_of (line.Copy l)) (line_after (states t) operation (line.Copy l))
  copy_turn (copy.Read at r) s =
      reads_on r.indirection r.line (λ o. copy_after_read operation at (at_indirection r.indirection o)) s.acts s.commits s.remembers.0
      (asks_of (line.Copy (copy.Read at r)) r.indirection r.line refl s.asks) (copy_stage operation at r.indirection)
  copy_turn (copy.Successor at main) s =
      make_turn Rests tt _ (copy_if_made operation (copy.Successor at main)) s.commits (tt, tt) (successor_has at main)
      (λ l. inl (at, s.remembers)) (next_ref heap) s.acts
  copy_turn (copy.Second at main successor) s =
      make_turn Rests tt _ (copy_if_made operation (copy.Second at main successor)) s.commits (tt, tt) (λ n. tt) (λ l. inl (at, s.remembers)) (next_ref heap) s.acts
  copy_turn (copy.Empty at main) s =
      make_turn Rests tt _ (copy_if_made operation (copy.Empty at main)) s.commits (tt, tt) (λ n. refl) (λ l. absurd (true≢false (sym l))) (next_ref heap) s.acts
  copy_turn (copy.Cleared at main branch) s =
      make_turn (Builds branch) tt _ (copy_if_made operation (copy.Cleared at main branch)) s.commits (tt, tt) (λ n. tt) (λ l. inr refl) (next_ref heap) s.acts
  copy_turn (copy.Offer offer) s = rest_turn Rests _ tt s.acts s.commits (Resting.offer_rest G W offer (is_plain word offer.root))
  copy_turn (copy.Complete c) s = copy_completing c.offer c.line s

  -- ---- WALK

  walk_turn : (l : WalkLine) → LineStep (line.Walk l) → NextLine (stage_of (line.Walk l)) (line_after (states t) operation (line.Walk l))
  walk_turn walk.Root s = rest_turn Rests (line.Walk (walk.Read (reading (root_of word)) [] [])) tt s.acts s.commits (tt, tt)
  walk_turn (walk.Read r todo pairs) s =
      reads_on r.indirection r.line (λ o. walk_after_read todo pairs (at_indirection r.indirection o)) s.acts s.commits s.remembers
      (asks_of (line.Walk (walk.Read r todo pairs)) r.indirection r.line refl s.asks) (walk_stage todo pairs r.indirection)
  walk_turn (walk.Main main todo pairs) s =
      rest_turn Rests _ tt s.acts s.commits (Resting.walk_next_rest G W operation (entries_of (node_at heap main) ++ todo) pairs)
  walk_turn (walk.Entry todo pairs) s =
      rest_turn Rests _ tt s.acts s.commits (Resting.walk_entry_rest G W operation (first_of todo) (rest_of todo) pairs (node_at heap (first_of todo)))

  -- ---- the READ of a line

  pub own_turn : (l : Line) → LineFacts l → (i : Ref) (x : ReadLine) → stage_of l ≡ Reads i x → (H : Ref → Ref → Type 0) → Remembers H W l →
      ReadTurn w t i x (read_after heap operation.access word i x)
  own_turn l s i x on H r =
      let so : ReadsSo (states t) operation H W l (Reads i x) = on_stage (states t) operation H W l i x on in
      own_read i x (subst (λ a. ActsOn states t a) so.0 s.acts) (s.commits ∙ ap (λ c. commits_after (known.run.records t) t (committed_in (states t) c)) so.1) (so.2 r)
      (asks_of l i x so.1 s.asks)

  -- ---- all lines

  pub line_turn : (l : Line) → GoesOn (line_action (states t) operation l) → LineStep l → NextLine (stage_of l) (line_after (states t) operation l)
  line_turn (line.Root l) g s = root_turn l s
  line_turn (line.Key l) g s = key_turn l s
  line_turn (line.Build l) g s = build_turn l s
  line_turn (line.Swap why x) g s = swap_turn why x.indirection x.replaced x.fresh x.line s
  line_turn (line.Renew l) g s = renew_turn l s
  line_turn (line.Clean l) g s = clean_turn l s
  line_turn (line.Climb l) g s = climb_turn l s
  line_turn (line.Copy l) g s = copy_turn l s
  line_turn (line.Walk l) g s = walk_turn l s
  line_turn (line.End answer) g s = absurd g
  line_turn line.Impossible g s = rest_turn Rests line.Impossible tt s.acts s.commits (tt, tt)
