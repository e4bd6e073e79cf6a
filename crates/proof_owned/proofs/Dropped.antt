-- No root leads to a single that came into an indirection and was dropped there.
use Rattle.std.proofs.Common.{◌≡◌, ℕ, ◌≤◌, true, false, inl, inr, refl, sym, ap, ◌∙◌, subst, arith}
use Rattle.std.proofs.lemmas.Bool.{cases_eq, false≢true}
use Rattle.proof_shape.specs.Vocabulary.{Ref, Node, Prev, Bounds, State, node_under, IsRun, Indirection}
use Rattle.proof_owned.specs.Beneath.slot_arena.specs.declared.nodes.Prev.TheVariants as prev
use Rattle.proof_owned.specs.Beneath.proof_memory.specs.Wants.{ASingle, meets, is_indirection}
use Rattle.proof_owned.specs.Beneath.proof_commits.specs.Protocol.{Words, Protocol, logical_at}
use Rattle.proof_owned.specs.Beneath.proof_commits.proofs.Known.Sounds.{sound_at}
use Rattle.proof_owned.specs.Beneath.proof_commits.proofs.Words.Stood.{stands_now, stood_still, none≢pending}
use Rattle.proof_owned.specs.Beneath.proof_commits.proofs.Course.Mains.{main_when_none, main_when_pending, main_when_failed}
use Rattle.proof_owned.specs.Beneath.proof_contents.specs.Runs.{counting_main}
use Rattle.proof_owned.specs.Beneath.proof_generations.proofs.Falling.KnownRoots.{words, protocol_of}
use Rattle.proof_owned.specs.Beneath.proof_generations.proofs.Lines.ReaderKnows.{indirection_is}
use Rattle.proof_shape.proofs.Commits.Was.{main_linked}
use Rattle.proof_shape.proofs.Held.Fresh.{Names}
use Rattle.proof_owned.specs.Owned.{IsLinked}
use Rattle.proof_owned.proofs.CountingSteps.{IsPublished, published}
use Rattle.proof_owned.proofs.Linked.{IsAt, IsHandedDown, Place, is_link, is_main, is_entry, stood_is_main, linked_place, main_no_single}
use Rattle.proof_owned.proofs.Earlier.{IsLink}
use Rattle.proof_owned.proofs.OverNew.{over_counts, none≢failed, was_pending}
use Rattle.proof_owned.proofs.SinglesAt.{all_at, decided_since}
use Rattle.proof_owned.proofs.SinglesCalm.{CameAndWent, Calm}
use Rattle.proof_owned.proofs.SinglesSteps.{AllAt, SingleFrom, before, as_new, single_from, link_from}

module _ {limits : Bounds} {states : ℕ → State} {last : ℕ} (run : IsRun limits states last) (i s : Ref) (h : CameAndWent run i s) where
  abbrev w : Words
  w = words states run.records last

  abbrev p : Protocol
  p = protocol_of run

  abbrev cm : ℕ → Ref → Ref
  cm v j = counting_main states last v j

  all : (u : ℕ) → u ≤ last → AllAt run i s h u
  all u le = all_at run i s h u le

  in_end : AllAt run i s h last
  in_end = all last (omega arith)

  -- ---- what stands at an indirection in the end: what counts, or what was swapped in over that

  record WasPublished (j m : Ref) : Type 0 where
    at : ℕ
    past : at ≤ last
    is : IsPublished run at j (cm at j) m
    same : cm at j ≡ cm last j
    undecided : w.prev last m ≡ prev.None → ⊥

  data StandsSo (j m : Ref) : Type 0 where
    counts : cm last j ≡ m → StandsSo j m
    over : WasPublished j m → StandsSo j m

  module _ (j : Ref) (link : w.link last j ≡ true) where
    counting : cm last j ≡ logical_at w last j
    counting = main_linked run last j link

    -- it was pending there
    was_published : (u : ℕ) → u ≤ last → (m a : Ref) → w.prev u m ≡ prev.Pending a → w.main last j ≡ m → (w.prev last m ≡ prev.None → ⊥) → cm last j ≡ a → WasPublished j m
    was_published u le m a pending stands undecided same =
        let owner = (sound_at p u le).owned m a pending in
        let here : owner.link ≡ j = (sound_at p last (omega arith)).words.one_word m owner.link j undecided (stood_still le (stands_now owner.is_link owner.stands)) (stands_now link stands) in
        let then_link : w.link u j ≡ true = subst (λ r. w.link u r ≡ true) here owner.is_link in
        let then_main : w.main u j ≡ m = subst (λ r. w.main u r ≡ m) here owner.stands in
        let then_counts : cm u j ≡ a = main_linked run u j then_link ∙ main_when_pending w u j m a then_main pending in
        record {
          at = u;
          past = le;
          is = subst (λ x. IsPublished run u j x m) (sym then_counts) (published run u le j a m then_link then_main pending);
          same = then_counts ∙ sym same;
          undecided = undecided;
        }

    by_word : (m : Ref) (v : Prev) → w.main last j ≡ m → w.prev last m ≡ v → StandsSo j m
    by_word m prev.None stands is = counts (counting ∙ main_when_none w last j m stands is)
    by_word m (prev.Pending a) stands is =
        over (was_published last (omega arith) m a is stands (λ none. none≢pending none is) (counting ∙ main_when_pending w last j m a stands is))
    by_word m (prev.Failed a) stands is =
        let (u, le, pending) = was_pending run last (omega arith) m a is in
        over (was_published u le m a pending stands (λ none. none≢failed none is) (counting ∙ main_when_failed w last j m a stands is))

    stands_so : (m : Ref) → IsAt run j m → StandsSo j m
    stands_so m (inl is) = by_word m (w.prev last m) is refl
    stands_so m (inr x) = counts (counting ∙ over_counts (w.main last j) m (w.prev last (w.main last j)) x)

  -- ---- indirections that roots lead to are calm

  link_of : (r : Ref) → is_indirection (node_under states last r) ≡ true → IsLink run r
  link_of r is = indirection_is (node_under states last r) is

  entry_calm : (j q r : Ref) → Calm run i s h j → IsLink run j → IsLink run r → Names run q r → StandsSo j q → Calm run i s h r
  entry_calm j q r kind link r_link names (counts is) = in_end.below j r link kind r_link (subst (λ m. Names run m r) (sym is) names)
  entry_calm j q r kind link r_link names (over x) =
      link_from run i s h x.at x.past (λ u le. all u (omega (arith, le, x.past))) j q link kind x.is r r_link names
      (λ m same n here. absurd (in_end.gone (omega (arith, h.within)) (subst (λ y. Names run y s) (x.same ∙ ap (cm last) here) n)))

  handed_down : IsHandedDown run (λ r. Calm run i s h r)
  handed_down = record {
    roots = λ handle root e. in_end.roots handle root e;
    entries = λ j q r kind link at names is. entry_calm j q r kind (link_of j link) (link_of r is) names (stands_so j link q at);
  }

  -- ---- so none has the single

  none_counting : (j : Ref) → IsLink run j → Calm run i s h j → Names run (cm last j) s → ⊥
  none_counting j link kind names = elim (cases_eq j i) [
    | inl here ↦ in_end.gone (omega (arith, h.within)) (subst (λ r. Names run (cm last r) s) here names)
    | inr other ↦ in_end.none j link kind other names
  ]

  none_there : (j q : Ref) → IsLink run j → Calm run i s h j → Names run q s → StandsSo j q → ⊥
  none_there j q link kind names (counts is) = none_counting j link kind (subst (λ m. Names run m s) (sym is) names)
  none_there j q link kind names (over x) = by (single_from run i s h x.at x.past (λ u le. all u (omega (arith, le, x.past))) j q link kind x.is names)
    where
      by : SingleFrom run i s h x.at x.past (λ u le. all u (omega (arith, le, x.past))) j q link kind x.is → ⊥
      by (before n) = none_counting j link kind (subst (λ m. Names run m s) x.same n)
      by (as_new same) = x.undecided (ap (w.prev last) same ∙ decided_since run i s h last (omega (arith, h.order, h.within)) (omega arith))

  is_single : meets ASingle (node_under states last s) ≡ true
  is_single = let (k, v, is) = h.single in ap (meets ASingle) is

  placed : Place run (λ r. Calm run i s h r) handed_down s → ⊥
  placed (is_link link opened good above) = false≢true (by (node_under states last s) link is_single)
    where
      by : (n : Node) → is_indirection n ≡ true → meets ASingle n ≡ true → false ≡ true
      by (Indirection g x) l single = single
      by n l single = l
  placed (is_main j linked good link opened stood at) = main_no_single (node_under states last s) (stood_is_main run last (omega arith) j s stood) is_single
  placed (is_entry single x) = none_there x.above x.main (link_of x.above x.link) x.good x.names (stands_so x.above x.link x.main x.at)

  pub dropped_unlinked : IsLinked (states last) s → ⊥
  dropped_unlinked linked = placed (linked_place run (λ r. Calm run i s h r) handed_down s linked).1
