-- Where a line has the offers from that it is to settle: its READ or its ROOT found them in the root word, COPY has just offered, or the line before had them.
use Rattle.std.proofs.Common.{◌≡◌, ℕ, List, Bool, true, false, Some, None, refl, sym, ap, ◌∙◌, arith}
use Rattle.std.proofs.lemmas.Option.{none-some, same_Some}
use Rattle.proof_generations.specs.Vocabulary.{Access, Ref, Node, Heap, Operation, RootWord, Plain, Offer, Descriptor, Complete, RootLine, After, Gives, Read, ReadLine, Swap, SwapLine, Purpose}
use Rattle.proof_generations.specs.Vocabulary.{KeyLine, BuildLine, RenewLine, CleanLine, Climb, ClimbLine, CopyLine, WalkLine, Line, handle_of, State, word_at, read_after, read_step, line_after}
use Rattle.proof_generations.specs.Vocabulary.{read_of, completing, after_root_word, after_completing, completing_read, rooting_read}
use Rattle.proof_generations.specs.Beneath.machine_model.specs.declared.reading.After.TheVariants.{Goes}
use Rattle.proof_generations.specs.Beneath.machine_model.specs.declared.reading.ReadLine.TheVariants as read
use Rattle.proof_generations.specs.Beneath.machine_model.specs.declared.copying.CopyLine.TheVariants as copy
use Rattle.proof_generations.specs.Beneath.machine_model.specs.declared.lines.Line.TheVariants as line
use Rattle.proof_generations.specs.Beneath.machine_model.specs.declared.roots.CompleteLine.TheVariants as complete
use Rattle.proof_generations.specs.Beneath.machine_model.specs.declared.roots.RootLine.TheVariants as root
use Rattle.proof_generations.specs.Beneath.machine_model.specs.Edges.Key.{FoundEdge, KeyEdge, answers, finds, finds_listed}
use Rattle.proof_generations.specs.Beneath.machine_model.specs.Edges.Roots.{root_step, complete_step, RootEdge, CopyEdge, offers}
use Rattle.proof_generations.specs.Beneath.machine_model.specs.Edges.Repairs.{RenewNext, RenewEdge, keeps_own, links, CleanNext, CleanEdge, child_on, untombs, keeps_link, ClimbingEdge, climbs}
use Rattle.proof_generations.specs.Beneath.machine_model.specs.Edges.Repairs.{ClimbEdge, goes_up, root_on, again}
use Rattle.proof_generations.specs.Beneath.machine_model.specs.Edges.Building.{BuildEdge, SwappedEdge, entombed, climbs_on, SwapEdge, comes_late, decides_on, succeeds, is_undecided, fails}
use Rattle.proof_generations.specs.Beneath.machine_model.specs.Edges.Walking.{WalkNext, walked, WalkEdge, opens, takes}
use Rattle.proof_generations.specs.Beneath.machine_model.specs.Edges.Lines.{Edge, of_root, of_key, of_build, of_swap, of_renew, of_clean, of_climb, of_copy, of_walk}
use Rattle.proof_generations.specs.Beneath.machine_model.proofs.Edges.Lines.{edge}
use Rattle.proof_generations.proofs.Lines.Offers.{abort_in, abort_of, completing_root, completing_of}

-- where the COMPLETE of the line after this one is from
pub data CompletesFrom (state : State) (operation : Operation) (l : Line) (c : Complete) : Type 0 where
  -- this line is in it
  goes_on : (before : Complete) → completing_of l ≡ Some before → complete_step state operation before ≡ Goes c → CompletesFrom state operation l c
  -- it begins, with the offer that stands in the root word
  finds_offer : word_at state (handle_of operation.call) ≡ Offer c.offer → c.line ≡ complete.Reading read.Main → CompletesFrom state operation l c
  -- it begins, with the offer that COPY puts there
  has_offered : l ≡ line.Copy (copy.Offer c.offer) → c.line ≡ complete.Reading read.Main → CompletesFrom state operation l c

-- what the line after this one is to take back or to complete is from there
record IsSourced (state : State) (operation : Operation) (l next : Line) : Type 0 where
  pub aborts : (offer : Descriptor) → abort_of (read_of next) ≡ Some offer → word_at state (handle_of operation.call) ≡ Offer offer
  pub completes : (c : Complete) → completing_of next ≡ Some c → CompletesFrom state operation l c

-- the line has no offer to settle
abbrev IsQuiet : Line → Type 0
IsQuiet l = (abort_of (read_of l) ≡ None) × (completing_of l ≡ None)

-- ---- READ, COMPLETE and ROOT

read_abort : (heap : Heap) (access : Access) (word : RootWord) (indirection : Ref) (l next : ReadLine) (offer : Descriptor) →
    read_after heap access word indirection l ≡ Goes next → abort_in next ≡ Some offer → word ≡ Offer offer
read_abort heap access word indirection l next offer e a = grind arith

module _ (state : State) (operation : Operation) where
  abbrev Found : Descriptor → Type 0
  Found offer = word_at state (handle_of operation.call) ≡ Offer offer

  given_abort : (r next : Read) (offer : Descriptor) → read_step state operation r ≡ Goes next → abort_in next.line ≡ Some offer → Found offer
  given_abort r next offer e a = grind (arith, read_abort)

  complete_abort : (c next : Complete) (offer : Descriptor) → complete_step state operation c ≡ Goes next → abort_of (completing_read next.offer next.line) ≡ Some offer → Found offer
  complete_abort c next offer e a = grind (arith, read_abort)

  root_abort : (l next : RootLine) (offer : Descriptor) → root_step state operation l ≡ Goes next → abort_of (rooting_read next) ≡ Some offer → Found offer
  root_abort l next offer e a = grind (arith, read_abort)

  root_completes : (l : Line) (m n : RootLine) (c : Complete) → completing_of l ≡ completing_root m → root_step state operation m ≡ Goes n → completing_root n ≡ Some c →
      CompletesFrom state operation l c
  root_completes l root.Read n c was e is = by (word_at state (handle_of operation.call)) refl e
    where
      by : (w : RootWord) → word_at state (handle_of operation.call) ≡ w → after_root_word w ≡ Goes n → CompletesFrom state operation l c
      by (Offer offer) at e =
          let same : n ≡ root.Completing (completing offer) = cc e in
          let one : completing offer ≡ c = same_Some (completing offer) c (ap completing_root (sym same) ∙ is) in
          finds_offer (at ∙ ap (λ (x : Complete). Offer x.offer) one) (ap (λ (x : Complete). x.line) (sym one))
      by (Plain r) at e = let wrong : ⊥ = cc e in absurd wrong
  root_completes l (root.Completing d) n c was e is = by (complete_step state operation d) refl e
    where
      by : (a : After Complete Bool) → complete_step state operation d ≡ a → after_completing a ≡ Goes n → CompletesFrom state operation l c
      by (Goes f) step e =
          let same : n ≡ root.Completing f = cc e in
          goes_on d was (step ∙ ap (λ (x : Complete). Goes x) (same_Some f c (ap completing_root (sym same) ∙ is)))
      by (Gives done) step e = let same : n ≡ root.Read = cc e in absurd (none-some c (ap completing_root (sym same) ∙ is))

  -- ---- ways that settle nothing

  quiet : (l next : Line) → IsQuiet next → IsSourced state operation l next
  quiet l next (none, apart) = record { aborts = λ offer e. absurd (none-some offer (sym none ∙ e)); completes = λ c e. absurd (none-some c (sym apart ∙ e)) }

  reads : (l next : Line) (r n : Read) → read_step state operation r ≡ Goes n → read_of next ≡ Some n → completing_of next ≡ None → IsSourced state operation l next
  reads l next r n e is apart = record { aborts = λ offer a. given_abort r n offer e (ap abort_of (sym is) ∙ a); completes = λ c a. absurd (none-some c (sym apart ∙ a)) }

  roots : (l next : Line) (m n : RootLine) → root_step state operation m ≡ Goes n → completing_of l ≡ completing_root m → read_of next ≡ rooting_read n → completing_of next ≡ completing_root n →
      IsSourced state operation l next
  roots l next m n e was is completes =
      record { aborts = λ offer a. root_abort m n offer e (ap abort_of (sym is) ∙ a); completes = λ c a. root_completes l m n c was e (sym completes ∙ a) }

  climbing_quiet : (c : Climb) (next : Line) → ClimbingEdge operation c next → IsQuiet next
  climbing_quiet c next (climbs below) = (refl, refl)
  climbing_quiet c next edge = (refl, refl)

  found_quiet : (path : List Ref) (main : Ref) (position v : ℕ) (next : Line) → FoundEdge state operation path main position v next → IsQuiet next
  found_quiet path main position v next (answers answer e) = (refl, refl)
  found_quiet path main position v next edge = (refl, refl)

  swapped_quiet : (node : Node) (why : Purpose) (done : Bool) (next : Line) → SwappedEdge operation node why done next → IsQuiet next
  swapped_quiet node why done next (entombed path former single n e up) = climbing_quiet _ next up
  swapped_quiet node why done next (climbs_on c single n e up) = climbing_quiet _ next up
  swapped_quiet node why done next edge = (refl, refl)

  renew_quiet : (path : List Ref) (main : Ref) (done : List Ref) (next : Line) → RenewNext state path main done next → IsQuiet next
  renew_quiet path main done next (RenewNext.more e) = (refl, refl)
  renew_quiet path main done next edge = (refl, refl)

  clean_quiet : (path : List Ref) (main : Ref) (done : List Ref) (next : Line) → CleanNext state path main done next → IsQuiet next
  clean_quiet path main done next (CleanNext.more e) = (refl, refl)
  clean_quiet path main done next edge = (refl, refl)

  walk_quiet : (pairs : List (ℕ × ℕ)) (todo : List Ref) (next : Line) → WalkNext operation pairs todo next → IsQuiet next
  walk_quiet pairs todo next walked = (refl, refl)
  walk_quiet pairs todo next edge = (refl, refl)

  -- ---- program by program

  root_sourced : (l : RootLine) (next : Line) → RootEdge state operation l next → IsSourced state operation (line.Root l) next
  root_sourced l next (RootEdge.completes_on m n e) = roots _ _ m n e refl refl refl
  root_sourced l next edge = quiet _ _ (refl, refl)

  key_sourced : (l : KeyLine) (next : Line) → KeyEdge state operation l next → IsSourced state operation (line.Key l) next
  key_sourced l next (KeyEdge.reads_on path r n e) = reads _ _ r n e refl refl
  key_sourced l next (finds path main position k v n e same found) = quiet _ _ (found_quiet path main position v next found)
  key_sourced l next (finds_listed path main position k v n e same found) = quiet _ _ (found_quiet path main position v next found)
  key_sourced l next edge = quiet _ _ (refl, refl)

  build_sourced : (l : BuildLine) (next : Line) → BuildEdge state operation l next → IsSourced state operation (line.Build l) next
  build_sourced l next (BuildEdge.no_slot m e) = quiet _ _ (refl, refl)
  build_sourced l next edge = quiet _ _ (refl, refl)

  swap_sourced : (why : Purpose) (s : Swap) (l : SwapLine) (next : Line) → SwapEdge state operation why s l next → IsSourced state operation (line.Swap why s) next
  swap_sourced why s l next (comes_late n e edge) = quiet _ _ (swapped_quiet _ why false next edge)
  swap_sourced why s l next (decides_on m n e) =
      record {
        aborts = λ offer a. read_abort state.heap operation.access (word_at state (handle_of operation.call)) s.indirection m n offer e a;
        completes = λ c a. absurd (none-some c a);
      }
  swap_sourced why s l next (succeeds n e edge) = quiet _ _ (swapped_quiet _ why true next edge)
  swap_sourced why s l next (is_undecided previous n e edge) = quiet _ _ (swapped_quiet _ why false next edge)
  swap_sourced why s l next (fails previous n e edge) = quiet _ _ (swapped_quiet _ why false next edge)
  swap_sourced why s l next edge = quiet _ _ (refl, refl)

  renew_sourced : (l : RenewLine) (next : Line) → RenewEdge state operation l next → IsSourced state operation (line.Renew l) next
  renew_sourced l next (keeps_own path main done g w n e own on) = quiet _ _ (renew_quiet path main _ next on)
  renew_sourced l next (RenewEdge.keeps_single path main done k v n e on) = quiet _ _ (renew_quiet path main _ next on)
  renew_sourced l next (RenewEdge.reads_on path main done r n e) = reads _ _ r n e refl refl
  renew_sourced l next (links path main done child made n e on) = quiet _ _ (renew_quiet path main _ next on)
  renew_sourced l next edge = quiet _ _ (refl, refl)

  clean_sourced : (l : CleanLine) (next : Line) → CleanEdge state operation l next → IsSourced state operation (line.Clean l) next
  clean_sourced l next (CleanEdge.reads_on path r n e) = reads _ _ r n e refl refl
  clean_sourced l next (CleanEdge.begins path main b es n e on) = quiet _ _ (clean_quiet path main _ next on)
  clean_sourced l next (CleanEdge.keeps_single path main done k v n e on) = quiet _ _ (clean_quiet path main _ next on)
  clean_sourced l next (child_on path main done r n e) = reads _ _ r n e refl refl
  clean_sourced l next (untombs path main done child single n e on) = quiet _ _ (clean_quiet path main _ next on)
  clean_sourced l next (keeps_link path main done child n on) = quiet _ _ (clean_quiet path main _ next on)
  clean_sourced l next edge = quiet _ _ (refl, refl)

  climb_sourced : (l : ClimbLine) (next : Line) → ClimbEdge state operation l next → IsSourced state operation (line.Climb l) next
  climb_sourced l next (ClimbEdge.reads_on b r n e) = reads _ _ r n e refl refl
  climb_sourced l next (goes_up b main single n e up) = quiet _ _ (climbing_quiet _ next up)
  climb_sourced l next (root_on b m n e) = roots _ _ m n e refl refl refl
  climb_sourced l next (again b m r n e own up) = quiet _ _ (climbing_quiet _ next up)
  climb_sourced l next edge = quiet _ _ (refl, refl)

  offered : (offer : Descriptor) (c : Complete) → completing offer ≡ c → CompletesFrom state operation (line.Copy (copy.Offer offer)) c
  offered offer c same = has_offered (ap (λ (x : Complete). line.Copy (copy.Offer x.offer)) same) (ap (λ (x : Complete). x.line) (sym same))

  copy_sourced : (l : CopyLine) (next : Line) → CopyEdge state operation l next → IsSourced state operation (line.Copy l) next
  copy_sourced l next (CopyEdge.reads_on i r n e) = reads _ _ r n e refl refl
  copy_sourced l next (offers offer e) =
      record { aborts = λ o a. absurd (none-some o a); completes = λ c a. offered offer c (same_Some (completing offer) c a) }
  copy_sourced l next (CopyEdge.completes_on d n e) =
      record {
        aborts = λ offer a. complete_abort d n offer e a;
        completes = λ c a. goes_on d refl (e ∙ ap (λ (x : Complete). Goes x) (same_Some n c a));
      }
  copy_sourced l next edge = quiet _ _ (refl, refl)

  walk_sourced : (l : WalkLine) (next : Line) → WalkEdge state operation l next → IsSourced state operation (line.Walk l) next
  walk_sourced l next (WalkEdge.reads_on r n todo pairs e) = reads _ _ r n e refl refl
  walk_sourced l next (opens main todo pairs n on) = quiet _ _ (walk_quiet pairs _ next on)
  walk_sourced l next (takes todo pairs k v n e on) = quiet _ _ (walk_quiet _ _ next on)
  walk_sourced l next edge = quiet _ _ (refl, refl)

  sourced : (l next : Line) → Edge state operation l next → IsSourced state operation l next
  sourced l next (of_root m n edge) = root_sourced m next edge
  sourced l next (of_key m n edge) = key_sourced m next edge
  sourced l next (of_build m n edge) = build_sourced m next edge
  sourced l next (of_swap why s n edge) = swap_sourced why s s.line next edge
  sourced l next (of_renew m n edge) = renew_sourced m next edge
  sourced l next (of_clean m n edge) = clean_sourced m next edge
  sourced l next (of_climb m n edge) = climb_sourced m next edge
  sourced l next (of_copy m n edge) = copy_sourced m next edge
  sourced l next (of_walk m n edge) = walk_sourced m next edge
  sourced l next edge = quiet _ _ (refl, refl)

  -- the offer that a READ is to take back behind a step stood in the root word
  pub abort_after : (l : Line) (offer : Descriptor) → abort_of (read_of (line_after state operation l)) ≡ Some offer → word_at state (handle_of operation.call) ≡ Offer offer
  abort_after l = (sourced l _ (edge state operation l)).aborts

  -- each COMPLETE has its offer from there
  pub completes_after : (l : Line) (c : Complete) → completing_of (line_after state operation l) ≡ Some c → CompletesFrom state operation l c
  completes_after l = (sourced l _ (edge state operation l)).completes
