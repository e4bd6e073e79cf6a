-- A SWAP, put together.
use Rattle.std.proofs.Common.{◌≡◌, ◌^◌, ◌<◌, ◌==◌, ℕ, Bool, true, false, [], ◌∷◌, ◌++◌, Contains, Some, refl, sym, ap, subst, ◌∙◌, arith, append_assoc}
use Rattle.std.proofs.lemmas.List.Elements.{Contains-get_or}
use Rattle.std.proofs.lemmas.Option.{same_Some}
use Rattle.trie_words.specs.declared.links.Link.{Link}
use Rattle.machine_model.specs.Beneath.slot_arena.specs.declared.refs.Ref.{Ref}
use Rattle.machine_model.specs.Beneath.slot_arena.specs.declared.nodes.Slot.{Slot}
use Rattle.machine_model.specs.Beneath.slot_arena.specs.Heaps.{no_ref, node_at, main_at}
use Rattle.machine_model.specs.Beneath.slot_arena.specs.Refs.{slot_of}
use Rattle.machine_model.specs.declared.actions.Action.TheVariants as act
use Rattle.machine_model.specs.declared.steps.Step.TheVariants as taken
use Rattle.machine_model.specs.declared.lines.Purpose.{Purpose}
use Rattle.machine_model.specs.declared.lines.Purpose.TheVariants as purpose
use Rattle.machine_model.specs.declared.lines.Line.{Line}
use Rattle.machine_model.specs.declared.lines.Line.TheVariants as line
use Rattle.machine_model.specs.declared.reading.ReadLine.TheVariants as read
use Rattle.machine_model.specs.declared.reading.SwapLine.TheVariants as swap
use Rattle.machine_model.specs.declared.operations.Operation.{Operation}
use Rattle.machine_model.specs.Calls.{handle_of}
use Rattle.machine_model.specs.Machine.{AreBounds}
use Rattle.machine_model.specs.Operations.{action_of}
use Rattle.machine_model.specs.States.{State}
use Rattle.proof_memory.specs.Wants.{is_main_node}
use Rattle.lock_free.specs.declared.accounts.Account.{Account}
use Rattle.lock_free.specs.declared.reading.Way.{Way}
use Rattle.lock_free.specs.declared.reading.ReadFrom.TheVariants as resume
use Rattle.lock_free.specs.declared.rules.View.{View}
use Rattle.lock_free.specs.declared.swapping.Swapped.TheVariants.{Misses}
use Rattle.lock_free.specs.Accounts.{bounds_for, first, later, place_of, IsOwn}
use Rattle.lock_free.specs.Becoming.{Follows}
use Rattle.lock_free.specs.SwappingIn.{HasPublished}
use Rattle.lock_free.specs.GivingUp.{given_up, HasDropped}
use Rattle.lock_free.specs.Loading.{now, seen, Runs, IsAt, IsSound}
use Rattle.lock_free.specs.Nodes.{class_of}
use Rattle.lock_free.specs.Owing.{owes_then, owing}
use Rattle.lock_free.specs.Passing.{Later, IsFrom, IsReading, IsOnWay, IsPlaced}
use Rattle.lock_free.specs.Publishing.{owned_now, swapped_in}
use Rattle.lock_free.specs.Swaps.{swap_on, swap_done, IsSwapping, IsAtSwap, HasSwapDone, HoldsSwapped}
use Rattle.lock_free.proofs.Asked.{mains_of, main_stands, nodes_go}
use Rattle.lock_free.proofs.Comings.{runs_one}
use Rattle.lock_free.proofs.Framing.{class_small, node_end}
use Rattle.lock_free.proofs.GivenBack.{node_is}
use Rattle.lock_free.proofs.Followings.{follows_later, generation_on, placed_on, used_on}
use Rattle.lock_free.proofs.Laters.{main_kind, waited_later, same_both}
use Rattle.lock_free.proofs.SwapRuns.{publishes, misses}
use Rattle.lock_free.proofs.Verdicts.{main_same}
use Rattle.lock_free.proofs.Within.{two_words}

-- what a SWAP's line is for, and its fresh node
abbrev parts_in : Line → Purpose × Ref
parts_in (line.Swap why s) = (why, s.fresh)
parts_in l = (purpose.Clean, no_ref)

module _ (v : View) (name : ℕ) (link : Link) (class fresh : ℕ) (is_at : IsAtSwap v name link class fresh) where
  abbrev why : Purpose
  why = is_at.0

  abbrev i : Ref
  i = is_at.1

  abbrev a : Ref
  a = is_at.2

  abbrev f : Ref
  f = is_at.3

  abbrev swaps : IsSwapping v why i a f
  swaps = is_at.4

  -- each operation that runs is there
  line_of : (o : Operation) → Runs v o → o.line ≡ line.Swap why (record { indirection = i; replaced = a; fresh = f; line = swap.Publish })
  line_of o r = ap (λ (z : Operation). z.line) (runs_one v o swaps.0 r swaps.1) ∙ swaps.2

  abbrev o0 : Operation
  o0 = record swaps.0 { is_marked = swaps.1.0 }

  abbrev at_publish : IsAt v (act.Publish i a f)
  at_publish = record { operation = o0; runs = swaps.1.1; acts = subst (λ l. action_of (now v) (record o0 { line = l }) ≡ act.Publish i a f) (sym swaps.2) refl }

  -- it is at no other SWAP
  lifted : (w : View) (b : Bool) → ((o : Operation) → Runs v o → Runs w (swap_done why (node_at (now v).heap f) b o)) →
      (y : Purpose) (j c h : Ref) → IsSwapping v y j c h → (o : Operation) → Runs v o → Runs w (swap_done y (node_at (now v).heap h) b o)
  lifted w b d y j c h s o r =
      let same = ap parts_in (sym (line_of o r) ∙ (ap (λ (z : Operation). z.line) (runs_one v o s.0 r s.1) ∙ s.2)) in
      subst (λ (x : Purpose × Ref). Runs w (swap_done x.0 (node_at (now v).heap x.1) b o)) same (d o r)

  module _ (n : ℕ) (sound : IsSound n v) (w : View) (then : IsSound n w) (stood : Bool) (g : HasPublished v stood w) where
    abbrev account : Account
    account = g.0

    abbrev state : State
    state = now (seen v account)

    abbrev what : ((main_at state.heap i == a) ≡ stood) × (stood ≡ true → w ≡ owing (seen v (swapped_in v.actor i f account)) (owes_then v account))
        × (stood ≡ false → (w ≡ given_up v account o0.private w.drafts) × HasDropped (seen v account) o0.private o0.line w)
    what = g.3 i a f at_publish

    seen_later : Later v (seen v account)
    seen_later = waited_later n v sound account g.1

    fresh_main : is_main_node is_at.7.0.0.node ≡ true
    fresh_main =
        let stands = main_stands v.sizes v.account sound.bounds v.actor o0 swaps.1.1 f (subst (λ x. Contains (mains_of x) f) (sym at_publish.acts) (Contains-get_or (a ∷ f ∷ []) 1 f (omega arith))) in
        subst (λ (z : Slot). is_main_node z.node ≡ true) (same_Some stands.1.0 is_at.7.0.0 (sym stands.1.1 ∙ is_at.7.0.1)) stands.1.2

    -- the fresh node stays what it is
    pub fresh_same : (x : View) → Follows v x → node_at (now x).heap f ≡ node_at (now v).heap f
    fresh_same x l =
        let y = l.nodes f is_at.7.0.0 is_at.7.0.1 in
        let main = main_kind is_at.7.0.0.node y.0.node y.2 fresh_main in
        node_is (now x) f y.0 y.1 ∙ main_same is_at.7.0.0.node y.0.node y.2 main ∙ sym (node_is (now v) f is_at.7.0.0 is_at.7.0.1)

    -- it isn't swapped in
    pub missed : stood ≡ false → HasSwapDone v Misses w
    missed e = (
      (account, g.1, λ o r. (what.2 e).0 ∙ ap (λ (z : Operation). given_up v account z.private w.drafts) (runs_one v swaps.0 o swaps.1 r)),
      lifted w false goes,
    )
      where
        goes : (o : Operation) → Runs v o → Runs w (swap_done why (node_at (now v).heap f) false o)
        goes o (mark, runs) =
            let there = g.1.stays (record o { is_marked = mark }) runs in
            let step = misses why i a f state o there.0 (line_of o (mark, runs)) (what.0 ∙ e) in (
              there.0,
              g.2 (record o { is_marked = there.0 }) there.1
                  ∙ ap Some (step ∙ ap (λ node. record (swap_done why node false o) { is_marked = there.0 }) (fresh_same (seen v account) (follows_later v (seen v account) seen_later))),
            )

    pub missed_holds : stood ≡ false → HoldsSwapped v Misses w
    missed_holds e = (account, g.1, λ o r. subst (λ (z : Operation). HasDropped (seen v account) z.private z.line w) (runs_one v swaps.0 o swaps.1 r) (what.2 e).1)

    -- it is swapped in
    module _ (e : stood ≡ true) where
      abbrev there : View
      there = seen v (swapped_in v.actor i f account)

      pub hit_is : w ≡ owing (seen v (swapped_in v.actor i f g.0)) (owes_then v g.0)
      hit_is = what.1 e

      bounds_then : AreBounds (bounds_for v.sizes (swapped_in v.actor i f account).steps)
      bounds_then = subst (λ (x : View). AreBounds (bounds_for x.sizes x.account.steps)) hit_is then.bounds

      -- but for what it holds itself
      pub later_there : Later v (seen v (swapped_in v.actor i f g.0))
      later_there = record {
        is = refl;
        places = seen_later.places;
        owns = λ x y b h. later (owned_now i f) account.owned (slot_of x) (slot_of y) b (seen_later.owns x y b h);
        nodes = λ r slot u.
            (let x = seen_later.nodes r slot u in
            let y = nodes_go v.sizes v.actor account bounds_then (slot_of r) x.0 x.1 in
            (y.0, y.1, same_both slot.node x.0.node y.0.node x.2 y.2));
        goes_on = (
          seen_later.goes_on.0 ++ taken.Go v.actor ∷ [],
          ap (λ xs. xs ++ taken.Go v.actor ∷ []) seen_later.goes_on.1 ∙ append_assoc v.account.steps seen_later.goes_on.0 (taken.Go v.actor ∷ []),
        );
        offers = seen_later.offers;
      }

      pub follows_w : Follows v w
      follows_w =
          subst (Follows v) (sym hit_is)
          (record { is = refl; places = later_there.places; owns = later_there.owns; nodes = later_there.nodes; goes_on = later_there.goes_on })

      pub goes_w : (o : Operation) → Runs v o → Runs w (swap_on why i a f (swap.Deciding (read.Prev f)) o)
      goes_w o (mark, runs) =
          let there = g.1.stays (record o { is_marked = mark }) runs in
          (there.0, g.2 (record o { is_marked = there.0 }) there.1 ∙ ap Some (publishes why i a f state o there.0 (line_of o (mark, runs)) (what.0 ∙ e)))

      reading_w : IsReading w i (read.Prev f)
      reading_w = (swap_on why i a f (swap.Deciding (read.Prev f)) swaps.0, goes_w swaps.0 swaps.1, refl)

      fresh_small : fresh < 2 ^ 27
      fresh_small =
          let inside = node_end v.sizes is_at.7.0.0.node (place_of v.account f) (sound.inside (slot_of f) is_at.7.0.0 is_at.7.0.1) in
          let two = two_words (class_of is_at.7.0.0.node) (class_small is_at.7.0.0.node) in
          let range = sound.range in
          let place = is_at.7.1 in
          omega (arith, inside, two, range, place)

      owned_w : IsOwn w.account i f true
      owned_w = subst (λ (x : View). IsOwn x.account i f true) (sym hit_is) (first (owned_now i f) account.owned)

      pub placed_f : IsPlaced w f fresh
      placed_f = placed_on v w follows_w f fresh is_at.7

      pub from_ready : IsFrom w i (resume.Header (record { generation = link.generation; main = record { slot = fresh; own = true } }))
      from_ready = (
        f,
        reading_w,
        record {
          is = record { generation = is_at.6.is.generation ∙ sym (generation_on v w follows_w i is_at.6.link_used); names = record { place = placed_f.1; is_own = owned_w } };
          fits = (is_at.6.fits.0, fresh_small);
          link_used = used_on v w follows_w i is_at.6.link_used;
          main_used = placed_f.0;
        },
      )

      pub way_w : (way : Way) → IsOnWay v way → IsOnWay w way
      way_w way on q r =
          let same = runs_one w q (swap_on why i a f (swap.Deciding (read.Prev f)) swaps.0) r (goes_w swaps.0 swaps.1) in
          let it = on swaps.0 swaps.1 in
          (ap (λ (z : Operation). z.access) same ∙ it.0, ap (λ (z : Operation). handle_of z.call) same ∙ it.1)
