-- The exchange of an indirection's word that swaps a fresh main node in is the operation's step, whether it finds the replaced one or not.
use Rattle.history.specs.declared.calls.Call.{Call}
use Rattle.std.proofs.Common.{◌≤◌, ◌≡◌, ◌≢◌, ◌*◌, ◌==◌, ℕ, inl, inr, Bool, true, false, [], ◌∷◌, Contains, set, slice_index, Some, refl, sym, ap, subst, ◌∙◌, arith, eq-eqb, ne_eqb}
use Rattle.std.proofs.lemmas.Bool.{true≢false}
use Rattle.std.proofs.lemmas.List.Elements.{Contains-get_or}
use Rattle.std.proofs.lemmas.Option.{same_Some}
use mathlib.Core.Option.{some, none}
use lib.ListN.{get_elem?}
use prog.Atomic.{either}
use Rattle.atomic_table.specs.Table.{Me, Allows, step}
use Rattle.atomic_table.specs.Table as Table
use Rattle.trie_words.specs.Codes.{IsLink, link_code}
use Rattle.trie_words.specs.declared.links.Link.{Link}
use Rattle.machine_model.specs.Beneath.slot_arena.specs.declared.refs.Ref.{Ref}
use Rattle.machine_model.specs.Beneath.slot_arena.specs.declared.nodes.Node.TheVariants.{Indirection}
use Rattle.machine_model.specs.Beneath.slot_arena.specs.declared.nodes.Slot.{Slot}
use Rattle.machine_model.specs.Beneath.slot_arena.specs.Heaps.{no_ref, main_at, generation_of}
use Rattle.machine_model.specs.Beneath.slot_arena.specs.Refs.{slot_of}
use Rattle.machine_model.specs.declared.actions.Action.{Action}
use Rattle.machine_model.specs.declared.actions.Action.TheVariants as act
use Rattle.machine_model.specs.declared.lines.Line.TheVariants as line
use Rattle.machine_model.specs.declared.lines.Purpose.{Purpose}
use Rattle.machine_model.specs.declared.operations.Operation.{Operation}
use Rattle.machine_model.specs.declared.reading.Swap.{Swap}
use Rattle.machine_model.specs.declared.reading.SwapLine.TheVariants as swap
use Rattle.machine_model.specs.declared.steps.Step.TheVariants as machine
use Rattle.machine_model.specs.Acting.{operation_after}
use Rattle.machine_model.specs.States.{State}
use Rattle.lock_free.proofs.CountWords.{Apart}
use Rattle.lock_free.specs.declared.accounts.Account.{Account}
use Rattle.lock_free.specs.declared.rules.View.{View}
use Rattle.lock_free.specs.declared.sizes.Sizes.{Sizes}
use Rattle.lock_free.specs.Accounts.{state_of, place_of, running, gone_on}
use Rattle.lock_free.specs.Exchanging.{IsLinkTo}
use Rattle.lock_free.specs.SwappingIn.{IsAtPublish, HasSwapped, HasPublished, has_published}
use Rattle.lock_free.specs.GivingUp.{given_up, HasDropped}
use Rattle.lock_free.specs.Loading.{Moment, now, seen, IsAt, Took}
use Rattle.lock_free.specs.Publishing.{swapped_in, Publishes}
use Rattle.lock_free.specs.Shadows.{IsShadowed}
use Rattle.lock_free.specs.Rules.{AreOwed, AreRetired, IsKept}
use Rattle.lock_free.specs.Steps.{Leads}
use Rattle.lock_free.proofs.Asked.{links_of, mains_of, is_one_of, publishes_or_not}
use Rattle.lock_free.proofs.Assembling.{all_stand}
use Rattle.lock_free.proofs.Exchanged.{LeavesAt, words_hit, words_miss, sound_by}
use Rattle.lock_free.proofs.FirstLines.{first_line, IsFirst}
use Rattle.lock_free.proofs.Dropped.{dropped, dropped_kept, dropped_sound, has_dropped, owed_dropped}
use Rattle.lock_free.proofs.LinkWords.{i_there, generation_now, hit, miss}
use Rattle.lock_free.proofs.Looking.{main_there, o_there, acts_there, same_action}
use Rattle.lock_free.proofs.Moments.{IsThere, allowed_giving, took_by, waited_so, its_place, node_apart}
use Rattle.lock_free.proofs.PublishedAll.{all_then}
use Rattle.lock_free.proofs.PublishedKept.{publish_kept}
use Rattle.machine_model.specs.Acting.{private_after}
use Rattle.proof_claims.specs.Changes as changing
use Rattle.proof_claims.specs.Changes.{change_by, change_going, publishes, change_of}
use Rattle.lock_free.specs.Claims.{held_now}
use Rattle.lock_free.proofs.HeldStep.{taken_now}
use Rattle.proof_claims.specs.Held.{held_after, takes}
use Rattle.lock_free.specs.Claims.{HoldsAll}
use Rattle.lock_free.specs.Owing.{next_change, owes_then, owing}
use Rattle.lock_free.proofs.ClaimsThere.{often_has}
use Rattle.lock_free.proofs.OwedStay.{owed_then}
use Rattle.lock_free.proofs.EpochStays.{rest_beside}
use Rattle.lock_free.proofs.PublishedKept.{published_had}
use Rattle.lock_free.specs.Counts.{how_often}
use Rattle.lock_free.proofs.ClaimsThere.{has_often}
use Rattle.lock_free.proofs.CountsStay.{often_first, often_other}
use Rattle.lock_free.proofs.PublishedKept.{changes}
use Rattle.std.proofs.lemmas.Bool.{cases_eq}
use Rattle.lock_free.proofs.SeatOwing.{owing_sound}
use Rattle.lock_free.specs.Places.{words_of}
use Rattle.machine_model.specs.Moves.{GoesOn}
use Rattle.machine_model.specs.Operations.{action_of}
use Rattle.lock_free.specs.OwesAt.{owes_on}

module _ (v : View) (i replaced made : Ref) (p : IsAt v (act.Publish i replaced made)) (name : ℕ) (place : place_of v.account i ≡ name) (link : Link) (fits : IsLink link)
    (is : IsLinkTo v i replaced link)
    (fresh : ℕ) (fresh_place : place_of v.account made ≡ fresh) where
  abbrev does : Action
  does = act.Publish i replaced made

  abbrev word : ℕ
  word = 2 * name

  abbrev old : ℕ
  old = link_code link

  abbrev new : ℕ
  new = link_code (record { generation = link.generation; main = record { slot = fresh; own = true } })

  link_in : Contains (links_of does) i
  link_in = Contains-get_or (i ∷ []) 0 i (omega arith)

  replaced_in : Contains (mains_of does) replaced
  replaced_in = Contains-get_or (replaced ∷ made ∷ []) 0 i (omega arith)

  made_in : Contains (mains_of does) made
  made_in = Contains-get_or (replaced ∷ made ∷ []) 1 i (omega arith)

  module _ (s : Table.State Call View) (kept : IsKept v.sizes s) (id : ℕ) (at : get_elem? s.views id ≡ some v) where
    abbrev found : ℕ
    found = slice_index s.words word

    abbrev m : Moment v word found
    m = record { table = s; kept = kept; id = id; at = at; finds = refl }

    abbrev there : Account
    there = kept.account

    abbrev state : State
    state = state_of v.sizes there

    its_word : word ≡ 2 * place_of v.account i
    its_word = ap (λ n. 2 * n) (sym place)

    abbrev o : Operation
    o = record p.operation { is_marked = (o_there v word found m does p).0 }

    runs : running v.sizes there v.actor o
    runs = (o_there v word found m does p).1

    abbrev link_is : (h : IsThere v s kept id at i) × (generation : ℕ) × (current : Ref) × (h.slot.node ≡ Indirection generation current)
    link_is = i_there v word found m does p i replaced link_in replaced_in its_word link fits is

    pub is_elsewhere : Apart v.sizes word
    is_elsewhere = node_apart v s kept id at i link_is.0 word its_word

    found_old : main_at state.heap i ≡ replaced → found ≡ old
    found_old = hit v word found m does p i replaced link_in replaced_in its_word link fits is

    found_other : main_at state.heap i ≢ replaced → found ≢ old
    found_other = miss v word found m does p i replaced link_in replaced_in its_word link fits is

    here : kept.stands (slot_of i) ≡ true
    here = kept.nodes.live i link_is.0.lives

    abbrev Left : View → Type 0
    Left after = LeavesAt v s kept id at word old new after

    -- ---- it is swapped in

    abbrev swapped : View
    swapped = owing (seen v (swapped_in v.actor i made there)) (owes_then v there)

    module _ (r : Publishes v.sizes there (swapped_in v.actor i made there) v.actor o i replaced made) where
      -- the seat holds what is to be swapped in
      owed : Contains v.owed made
      owed =
          let all = kept.held.lines id v at o runs made in
          let its = ap (λ l. how_often made (owes_on o.private l)) r.on.1 in
          let one = often_first made [] in
          often_has made v.owed (omega (arith, all, its, one))

      holds : HoldsAll (takes (next_change v there)) v.owed
      holds =
          subst (λ c. HoldsAll (takes c) v.owed) (sym (changes v.sizes s kept id v at o runs i replaced made r here)) (λ k. elim (cases_eq made k) [
            | inl same ↦
                (let some = has_often made v.owed owed in
                let one = often_first made [] in
                subst (λ r. how_often r (made ∷ []) ≤ how_often r v.owed) same (omega (arith, some, one)))
            | inr differs ↦ (let none = often_other k made [] differs in omega (arith, none))
          ])

      same_generation : r.generation ≡ link.generation
      same_generation =
          sym (ap generation_of (ap (λ (x : Slot). x.node) (same_Some link_is.0.slot r.link (sym link_is.0.used ∙ r.link_is)) ∙ r.link_node))
          ∙ ap generation_of link_is.3 ∙ generation_now v word found m does p i replaced link_in replaced_in its_word link fits is

      same_name : place_of there made ≡ fresh
      same_name = its_place v s kept id at made (main_there v word found m does made made_in p).0 ∙ fresh_place

      new_is : link_code (record { generation = r.generation; main = record { slot = place_of there made; own = true } }) ≡ new
      new_is =
          ap (λ g. link_code (record { generation = g; main = record { slot = place_of there made; own = true } })) same_generation
          ∙ ap (λ n. link_code (record { generation = link.generation; main = record { slot = n; own = true } })) same_name

      at_place : 2 * place_of there i ≡ word
      at_place = ap (λ n. 2 * n) (its_place v s kept id at i link_is.0 ∙ place)

      swaps : found ≡ old → Left swapped
      swaps e = (
        subst (λ ws. IsKept v.sizes (record { words = ws; homes = s.homes; views = set s.views id swapped }))
            (ap (set s.words (2 * place_of there i)) new_is ∙ words_hit v s kept id at word old new e (2 * place_of there i) at_place)
            (publish_kept v.sizes s kept id v at o runs i replaced made r here holds),
        (
          owing_sound (words_of v.sizes) (seen v (swapped_in v.actor i made there)) (owes_then v there)
              (sound_by v s kept id at (swapped_in v.actor i made there) kept.stands _ (all_then v.sizes there v.actor o i replaced made r kept.stands s.words (all_stand v.sizes s kept) here)),
          took_by v s kept id at o runs (swapped_in v.actor i made there) r.own,
        ),
      )

    -- ---- all that was made for it is given up

    acts : action_of state o ≡ act.Publish i replaced made
    acts = acts_there v word found m does p

    misses_so : found ≢ old → change_of state (held_now v.sizes there) (machine.Go v.actor) ≡ changing.given_up o.private
    misses_so differs =
        let held = held_now v.sizes there in
        ap (change_going state held) runs ∙ ap (change_by state held o) acts ∙ ap (λ b. publishes b o.private i made) (ne_eqb (main_at state.heap i) replaced (λ e. differs (found_old e)))

    gives_up : found ≢ old → held_now v.sizes (gone_on v.actor there) ≡ held_after (changing.given_up o.private) (held_now v.sizes there)
    gives_up differs =
        let held = held_now v.sizes there in
        taken_now v.sizes there kept.bounds v.actor o runs (subst GoesOn (sym acts) tt) (gone_on v.actor there) refl
        ∙ ap (λ c. held_after c held) (misses_so differs)

    none_left : (operation_after state o).private ≡ []
    none_left = ap (private_after state o.private) acts

    -- it is at its SWAP's first step
    at_first : (why : Purpose) (w : Swap) → p.operation.line ≡ line.Swap why w → w.line ≡ swap.Publish
    at_first = first_line (now v) p.operation (subst IsFirst (sym p.acts) tt)

    module _ (leads : Leads v.sizes there (gone_on v.actor there) v.actor (is_one_of o.private) (operation_after state o)) (differs : found ≢ old) where
      abbrev mark : Bool
      mark = (o_there v word found m does p).0

      abbrev next : Operation
      next = operation_after state o

      abbrev left : View
      left = dropped v s kept id at p.operation next mark runs (machine.Go v.actor) tt (λ a d e. d (sym e)) leads refl refl none_left (gives_up differs) (misses_so differs) at_first

      drops : Left left
      drops = (
        subst (λ ws. IsKept v.sizes (record { words = ws; homes = s.homes; views = set s.views id left })) (words_miss v s kept id at word old new differs)
            (dropped_kept v s kept id at p.operation next mark runs (machine.Go v.actor) tt (λ a d e. d (sym e)) leads refl refl none_left (gives_up differs) (misses_so differs) at_first),
        (
          dropped_sound v s kept id at p.operation next mark runs (machine.Go v.actor) tt (λ a d e. d (sym e)) leads refl refl none_left (gives_up differs) (misses_so differs) at_first,
          λ q runs_q. leads.own ∙ ap (λ x. Some (operation_after state x)) (same_Some o q (sym runs ∙ runs_q)),
        ),
      )

      owed_left : AreRetired v.sizes s.words s.views → AreOwed s.views → AreOwed (set s.views id left)
      owed_left = owed_dropped v s kept id at p.operation next mark runs (machine.Go v.actor) tt (λ a d e. d (sym e)) leads refl refl none_left (gives_up differs) (misses_so differs) at_first

      all_dropped : HasDropped (seen v there) p.operation.private p.operation.line left
      all_dropped = has_dropped v s kept id at p.operation next mark runs (machine.Go v.actor) tt (λ a d e. d (sym e)) leads refl refl none_left (gives_up differs) (misses_so differs) at_first

    -- ---- either

    abbrev Either : Type 0
    Either = (after : View) × Left after × ((main_at state.heap i == replaced) ≡ (found == old)) × ((found == old) ≡ true → after ≡ swapped)
        × ((found == old) ≡ false → (after ≡ given_up v there p.operation.private after.drafts) × HasDropped (seen v there) p.operation.private p.operation.line after)
        × (rest_beside after ≡ rest_beside v) × (AreRetired v.sizes s.words s.views → AreOwed s.views → AreOwed (set s.views id after))

    pub leaves : Either
    leaves = elim (publishes_or_not v.sizes there kept.bounds v.actor o runs kept.quiet i replaced made (acts_there v word found m does p)) [
      | inl x ↦
          (let e = found_old x.1 in (
            swapped,
            swaps x.0 e,
            eq-eqb (main_at state.heap i) replaced x.1 ∙ sym (eq-eqb found old e),
            λ h. refl,
            λ h. absurd (true≢false (sym (eq-eqb found old e) ∙ h)),
            refl,
            λ retired h.
                owed_then s.views id v at swapped (λ k c. (published_had v.sizes s kept id v at o runs i replaced made x.0 here (holds x.0) k c, refl)) (λ y c. c) h,
          ))
      | inr x ↦
          (let d = found_other x.1 in (
            left x.0 d,
            drops x.0 d,
            ne_eqb (main_at state.heap i) replaced x.1 ∙ sym (ne_eqb found old d),
            λ h. absurd (true≢false (sym h ∙ ne_eqb found old d)),
            λ h. (refl, all_dropped x.0 d),
            refl,
            owed_left x.0 d,
          ))
    ]

-- the three nodes that it names
abbrev published_in : Action → Ref × (Ref × Ref)
published_in (act.Publish i replaced made) = (i, (replaced, made))
published_in action = (no_ref, (no_ref, no_ref))

swapped_so : (before : View) (account : Account) (stood : Bool) (after : View) (i replaced made : Ref) (p : IsAt before (act.Publish i replaced made)) →
    (main_at (now (seen before account)).heap i == replaced) ≡ stood → (stood ≡ true → after ≡ owing (seen before (swapped_in before.actor i made account)) (owes_then before account)) →
    (stood ≡ false → (after ≡ given_up before account p.operation.private after.drafts) × HasDropped (seen before account) p.operation.private p.operation.line after) →
    HasSwapped before account stood after
swapped_so before account stood after i replaced made p first hit_is miss_is j other g q =
    let same = ap published_in (same_action before (act.Publish i replaced made) (act.Publish j other g) p q) in (
      subst (λ (x : Ref × (Ref × Ref)). (main_at (now (seen before account)).heap x.0 == x.1.0) ≡ stood) same first,
      λ h. subst (λ (x : Ref × (Ref × Ref)). after ≡ owing (seen before (swapped_in before.actor x.0 x.1.1 account)) (owes_then before account)) same (hit_is h),
      λ h.
          (let one = same_Some p.operation q.operation (sym p.runs ∙ q.runs) in (
            (miss_is h).0 ∙ ap (λ (x : Operation). given_up before account x.private after.drafts) one,
            subst (λ (x : Operation). HasDropped (seen before account) x.private x.line after) one (miss_is h).1,
          )),
    )

abbrev pub AllowsPublish : Sizes → ℕ → ℕ → Me Call View → ℕ → ℕ → ℕ → Type 0
AllowsPublish sizes size id me word old new = Allows (IsShadowed sizes) size id me word (λ n. either (n == old) new n) (has_published (step size word old new none) me)

pub publish_by : (sizes : Sizes) (size id : ℕ) (me : Me Call View) (word old new x y : ℕ) → x ≡ old → y ≡ new → AllowsPublish sizes size id me word old new → AllowsPublish sizes size id me word x y
publish_by sizes size id me at before after x y e f h = subst (λ n. AllowsPublish sizes size id me at n y) (sym e) (subst (λ n. AllowsPublish sizes size id me at before n) (sym f) h)

pub publish_allowed : (sizes : Sizes) (size id : ℕ) (me : Me Call View) (some_seats : 1 ≤ me.0.sizes.seats) (name : ℕ) (link : Link) (fits : IsLink link) (fresh : ℕ) →
    IsAtPublish me.0 name link fresh →
    AllowsPublish sizes size id me (2 * name) (link_code link) (link_code (record { generation = link.generation; main = record { slot = fresh; own = true } }))
publish_allowed sizes size id me some_seats name link fits fresh (i, replaced, made, p, place, is, fresh_place) =
    let old = link_code link in
    let new = link_code (record { generation = link.generation; main = record { slot = fresh; own = true } }) in
    allowed_giving sizes size id me (2 * name) (λ n. either (n == old) new n) (has_published (step size (2 * name) old new none) me)
    some_seats (λ s kept at. inl (is_elsewhere me.0 i replaced made p name place link fits is fresh fresh_place s kept id at))
    (λ s kept at. (let x = leaves me.0 i replaced made p name place link fits is fresh fresh_place s kept id at in (
      x.0,
      x.1.0,
      (
        (
          record { table = s; kept = kept; id = id; at = at; finds = refl },
          x.1.1.1,
          swapped_so me.0 kept.account (slice_index s.words (2 * name) == old) x.0 i replaced made p x.2 x.3 x.4,
        ),
        x.1.1.0,
        refl,
      ),
    )))
    (λ s kept at. (leaves me.0 i replaced made p name place link fits is fresh fresh_place s kept id at).5)
    (λ s kept at. (leaves me.0 i replaced made p name place link fits is fresh fresh_place s kept id at).6)

-- what the seat is told
pub publish_told : (before : View) (word found : ℕ) (old : ℕ) (after : View) → (m : Moment before word found) × Took before m.kept.account after × HasSwapped before m.kept.account
    (found == old) after → HasPublished before (found == old) after
publish_told before at says expected after (m, took, swapped_or_not) = (m.kept.account, waited_so before m.table m.kept m.id m.at, took, swapped_or_not)
