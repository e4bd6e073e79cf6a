-- The exchange of the count of generations makes the root that is written in a free slot: the operation's step, where it finds the generation that was written.
use Rattle.history.specs.declared.calls.Call.{Call}
use Rattle.std.proofs.Common.{◌≤◌, ◌≡◌, ◌≢◌, ◌+◌, ◌*◌, ◌==◌, ℕ, inl, inr, Bool, List, [], ◌∷◌, Contains, set, slice_index, Some, refl, sym, ap, subst, ◌∙◌}
use Rattle.std.proofs.Common.{arith, eq-eqb, ne_eqb, length}
use Rattle.std.proofs.lemmas.Bool.{cases_eq, true≢false}
use Rattle.std.proofs.lemmas.List.Elements.{Contains-append_left}
use Rattle.std.proofs.lemmas.Option.{same_Some}
use mathlib.Core.Option.{some, none}
use lib.ListN.{get_elem?}
use prog.Atomic.{either}
use Rattle.atomic_table.specs.Table.{Me, Allows, step}
use Rattle.atomic_table.specs.Table as Table
use Rattle.atomic_table.proofs.Lists.{set_again}
use Rattle.trie_words.specs.Codes.{link_code}
use Rattle.machine_model.specs.Beneath.slot_arena.specs.declared.refs.Ref.{Ref}
use Rattle.machine_model.specs.Beneath.slot_arena.specs.declared.nodes.Node.{Node}
use Rattle.machine_model.specs.Beneath.slot_arena.specs.declared.nodes.Node.TheVariants.{Indirection}
use Rattle.machine_model.specs.Beneath.slot_arena.specs.Refs.{slot_of}
use Rattle.machine_model.specs.declared.actions.Action.TheVariants as act
use Rattle.machine_model.specs.declared.operations.Operation.{Operation}
use Rattle.machine_model.specs.Acting.{operation_after}
use Rattle.machine_model.specs.Operations.{action_of}
use Rattle.machine_model.specs.States.{State}
use Rattle.lock_free.proofs.CountWords.{before_apart}
use Rattle.lock_free.proofs.EpochStays.{rest_beside}
use Rattle.lock_free.specs.declared.accounts.Account.{Account}
use Rattle.lock_free.specs.declared.rules.View.{View}
use Rattle.lock_free.specs.declared.sizes.Sizes.{Sizes}
use Rattle.lock_free.specs.Accounts.{state_of, place_of, running, bounds_for}
use Rattle.lock_free.specs.Loading.{now, IsAt, IsSound, Took}
use Rattle.lock_free.specs.Making.{over_of, AreDrafted, DraftsNode, made_at, made_by, Makes}
use Rattle.lock_free.specs.Nodes.{class_of}
use Rattle.lock_free.specs.Places.{generation_word, words_of}
use Rattle.lock_free.specs.Shadows.{IsShadowed}
use Rattle.lock_free.specs.Rules.{pool_of, AreOwed, IsFree, IsKept}
use Rattle.lock_free.specs.Storing.{WritesRoot, IsAtMakeRoot, IsAdded, has_made_root}
use Rattle.lock_free.proofs.Added.{added}
use Rattle.lock_free.proofs.Exchanged.{words_hit, words_miss}
use Rattle.lock_free.proofs.MadeKept.{root_made, make_root_kept}
use Rattle.lock_free.proofs.Moments.{after_it, allowed_owing, waited_so, same_place, free_inside}
use Rattle.lock_free.proofs.OneStep.Makes as making
use Rattle.lock_free.proofs.Pools.{pool_else}
use Rattle.machine_model.specs.Acting.{private_after, with_made}
use Rattle.machine_model.specs.Beneath.slot_arena.specs.Heaps.{next_ref}
use Rattle.machine_model.specs.Beneath.slot_arena.specs.Refs.{ref_to}
use Rattle.machine_model.specs.Moves.{GoesOn}
use Rattle.machine_model.specs.declared.steps.Step.TheVariants as machine
use Rattle.proof_claims.specs.Changes.{change_by, change_going}
use Rattle.proof_claims.specs.Changes as claiming
use Rattle.proof_claims.specs.Held.{takes, held_after}
use Rattle.proof_memory.specs.Laws.{IsInUse}
use Rattle.lock_free.specs.Claims.{HoldsAll, held_now, owes_after}
use Rattle.lock_free.specs.Owing.{HoldsRaised, next_change, names_made}
use Rattle.lock_free.proofs.MadeSeats.{Takes}
use Rattle.lock_free.proofs.OwedStay.{owed_same}
use Rattle.lock_free.proofs.OwesMade.{made_owed}
use Rattle.lock_free.proofs.OneStep.Found.{live_used}
use Rattle.lock_free.proofs.TakenLater.{taken_holds}
use Rattle.lock_free.proofs.OneStep.Taking.{made_next}
use Rattle.lock_free.proofs.Keeping.{keys_gone}
use Rattle.lock_free.proofs.HeldStep.{taken_now}
use Rattle.lock_free.proofs.MadeOwe.{owes_one_more, OwesOneMore}
use Rattle.lock_free.specs.OwesAt.{owes_at}
use Rattle.lock_free.proofs.OwesPrivate.{line_apart}
use Rattle.proof_memory.specs.Making.{made_node}
use Rattle.lock_free.proofs.PartingStay.{standing_stood}

module _ (v : View) (generation : ℕ) (main : Ref) (rest : List ℕ) (name : ℕ) (own : Bool) (p : IsAt v (act.MakeRoot main)) (w : WritesRoot v p.operation.line generation main rest name own)
    (holding : HoldsRaised v) (s : Table.State Call View) (kept : IsKept v.sizes s) (id : ℕ) (at : get_elem? s.views id ≡ some v) where
  abbrev there : Account
  there = kept.account

  abbrev state : State
  state = state_of v.sizes there

  abbrev root : Node
  root = Indirection generation main

  stays : (mark : Bool) × running v.sizes there v.actor (record p.operation { is_marked = mark }) × (action_of state (record p.operation { is_marked = mark }) ≡ action_of (now v) p.operation)
  stays = (waited_so v s kept id at).stays p.operation p.runs

  abbrev o : Operation
  o = record p.operation { is_marked = stays.0 }

  acts : action_of state o ≡ act.MakeRoot main
  acts = stays.2 ∙ p.acts

  abbrev after : View
  after = made_by v 0 name rest own root there

  module _ (found : slice_index s.words generation_word ≡ generation) where
    pub next_is : (state_of v.sizes kept.account).generations ≡ generation
    next_is = sym kept.generations ∙ found

    makes : Makes v.sizes there (made_at v.actor name own root there) v.actor o root 1
    makes =
        subst (λ g. Makes v.sizes there (made_at v.actor name own (Indirection g main) there) v.actor o (Indirection g main) 1) next_is
        (making.root_makes v.sizes there kept.bounds v.actor o stays.1 kept.quiet kept.counted (standing_stood v.sizes there s.words kept.roots) name own main acts)

    place : place_of v.account main ≡ place_of there main
    place = sym (same_place v s kept id at (slot_of main) w.used.0 w.used.1)

    drafted : DraftsNode there state.heap (over_of o.line) (AreDrafted v.drafts) name own root
    drafted = (w.small, subst (λ n. Contains v.drafts (2 * name, link_code (record { generation = generation; main = record { slot = n; own = own } }))) place w.drafts)

    unopened : (handle : ℕ) → v.opens ≡ Some handle → class_of root ≢ 1
    unopened handle is e = absurd (omega (arith, e))

    made_is : next_ref state.heap ≡ Some (ref_to (length there.names + 1) (length there.names))
    made_is = made_next v.sizes there.steps kept.bounds kept.quiet (machine.Go v.actor) ∙ ap (λ n. Some (ref_to (n + 1) n)) (sym kept.counted)

    -- what it names the seat held when it was at hand, and holds still
    change_there : next_change v there ≡ claiming.makes state (held_now v.sizes there) o (main ∷ []) (Some (ref_to (length there.names + 1) (length there.names)))
    change_there =
        ap (change_going state (held_now v.sizes there)) stays.1 ∙ ap (change_by state (held_now v.sizes there) o) acts ∙ ap (claiming.makes state (held_now v.sizes there) o (main ∷ [])) made_is

    held_then : held_now v.sizes (made_at v.actor name own root there) ≡ held_after (claiming.makes state (held_now v.sizes there) o (main ∷ [])
        (Some (ref_to (length there.names + 1) (length there.names)))) (held_now v.sizes there)
    held_then =
        taken_now v.sizes there kept.bounds v.actor o stays.1 (subst GoesOn (sym acts) tt) (made_at v.actor name own root there) refl
        ∙ ap (λ c. held_after c (held_now v.sizes there)) change_there

    holds : HoldsAll (takes (next_change v there)) v.owed
    holds =
        taken_holds v s kept id at p.operation p.runs stays.0 stays.1 (main ∷ []) (ap names_made p.acts) (ref_to (length there.names + 1) (length there.names)) change_there
        (made_at v.actor name own root there) makes.bounds (keys_gone there.steps v.actor kept.keys) held_then holding

    -- its main node is in use still
    meets : (g : ℕ) (r : Ref) → root ≡ Indirection g r → IsInUse state.heap r
    meets g r is = subst (IsInUse state.heap) (cc is) (live_used v.sizes there kept.bounds main (making.root_named_live v.sizes there kept.bounds v.actor o stays.1 main acts))

    evidence : Takes v.sizes s kept id v at o stays.1 name own root 1 makes rest w.last
    evidence = record {
      named = main ∷ [];
      goes = subst GoesOn (sym acts) tt;
      changes = change_there;
      private = ap (private_after state o.private) acts ∙ ap (with_made o.private) made_is;
      holds = holds;
      owed_line =
          subst (λ ns. OwesOneMore ns (ref_to (length there.names + 1) (length there.names)) (owes_at o) (owes_at (operation_after state o))) (ap names_made acts)
          (owes_one_more state o (ref_to (length there.names + 1) (length there.names)) made_is (Indirection state.generations main)
          (line_apart (bounds_for v.sizes there.steps) kept.bounds there.steps v.actor o stays.1) (ap (made_node state) acts));
      owes = refl;
      may = w.owns;
      meets = meets;
    }

    pub kept_after : IsKept v.sizes (record { words = set s.words generation_word (slice_index s.words generation_word + 1); homes = s.homes; views = set s.views id after })
    kept_after = make_root_kept v.sizes s kept id v at o stays.1 name own root rest w.last (omega arith) unopened makes drafted w.owns evidence

    pub owed_after : AreOwed s.views → AreOwed (set s.views id after)
    unfolding evidence
    owed_after =
        let change = claiming.makes state (held_now v.sizes there) o (main ∷ []) (Some (ref_to (length there.names + 1) (length there.names))) in
        made_owed v s kept id at o stays.1 after change (λ x. refl) refl (subst (λ x. HoldsAll (takes x) v.owed) evidence.changes holds)
        (ap (λ x. owes_after x (held_now v.sizes there).claims v.owed) evidence.changes) refl refl

    was_free : (b n : ℕ) → IsFree after b n → IsFree v b n
    was_free b n free = elim (cases_eq b 0) [
      | inl same ↦
          (let there_is = subst (λ c. Contains (pool_of after.pool c) n) same free.1 in
          (free.0, subst (λ c. Contains (pool_of v.pool c) n) (sym same) (subst (λ xs. Contains xs n) (sym w.last) (Contains-append_left rest (name ∷ []) n there_is))))
      | inr other ↦ (free.0, subst (λ xs. Contains xs n) (pool_else v.pool 0 b rest (omega arith) free.0 other) free.1)
    ]

    pub sound_after : IsSound (words_of v.sizes) after
    sound_after =
        let all = root_made v.sizes s kept id v at o stays.1 name own root rest w.last (omega arith) unopened makes drafted w.owns in
        record {
          size = refl;
          range = kept.range.within;
          bounds = all.bounds;
          keys = all.keys;
          counted = all.counted;
          inside = all.nodes.inside;
          free = λ b n f. (let g = was_free b n f in free_inside v s kept id at b n g);
        }

    pub took_after : Took v there after
    took_after q runs = makes.own ∙ ap (λ x. Some (operation_after state x)) (same_Some o q (sym stays.1 ∙ runs))

    pub added_after : IsAdded v there root after
    added_after = added v 0 name rest own root there kept.bounds kept.quiet kept.counted o 1 makes

abbrev AllowsRoot : Sizes → ℕ → ℕ → Me Call View → ℕ → Type 0
AllowsRoot sizes size id me generation =
    Allows (IsShadowed sizes) size id me generation_word (λ n. either (n == generation) (generation + 1) n) (has_made_root (step size generation_word generation (generation + 1) none) me)

-- by what was found
module _ (sizes : Sizes) (size id : ℕ) (me : Me Call View) (generation : ℕ) (main : Ref) (rest : List ℕ) (name : ℕ) (own : Bool) (p : IsAt me.0 (act.MakeRoot main))
    (w : WritesRoot me.0 p.operation.line generation main rest name own) (holding : HoldsRaised me.0) where
  abbrev then : ℕ → Me Call View → Type 0
  then = has_made_root (step size generation_word generation (generation + 1) none) me

  made_or_not : (s : Table.State Call View) (kept : IsKept me.0.sizes s) (at : get_elem? s.views id ≡ some me.0) → (x : View) × (rest_beside x ≡ rest_beside me.0)
      × (AreOwed s.views → AreOwed (set s.views id x))
      × IsKept me.0.sizes (after_it sizes size id me generation_word (λ n. either (n == generation) (generation + 1) n) then s x) × then (slice_index s.words generation_word) (x, me.1)
  made_or_not s kept at = elim (cases_eq (slice_index s.words generation_word) generation) [
    | inl e ↦ (
      made_by me.0 0 name rest own (Indirection generation main) kept.account,
      refl,
      owed_after me.0 generation main rest name own p w holding s kept id at e,
      subst (λ ws. IsKept me.0.sizes (record { words = ws; homes = s.homes; views = set s.views id (made_by me.0 0 name rest own (Indirection generation main) kept.account) }))
          (ap (λ n. set s.words generation_word (n + 1)) e ∙ words_hit me.0 s kept id at generation_word generation (generation + 1) e generation_word refl)
          (kept_after me.0 generation main rest name own p w holding s kept id at e),
      (
        (
          λ h. (
            kept.account,
            waited_so me.0 s kept id at,
            took_after me.0 generation main rest name own p w holding s kept id at e,
            (
              main,
              rest,
              name,
              own,
              p,
              w,
              refl,
              added_after me.0 generation main rest name own p w holding s kept id at e,
              next_is me.0 generation main rest name own p w holding s kept id at e,
            ),
          ),
          λ h. absurd (true≢false (sym (eq-eqb (slice_index s.words generation_word) generation e) ∙ h)),
        ),
        λ h. sound_after me.0 generation main rest name own p w holding s kept id at e,
        refl,
      ),
    )
    | inr differs ↦ (
      me.0,
      refl,
      owed_same s.views id me.0 at me.0 refl refl refl,
      subst (λ ws. IsKept me.0.sizes (record { words = ws; homes = s.homes; views = set s.views id me.0 })) (words_miss me.0 s kept id at generation_word generation (generation + 1) differs)
          (subst (λ vs. IsKept me.0.sizes (record { words = s.words; homes = s.homes; views = vs })) (sym (set_again s.views id me.0 at)) kept),
      (
        (λ h. absurd (true≢false (sym h ∙ ne_eqb (slice_index s.words generation_word) generation differs)), λ h. refl),
        λ h. h,
        refl,
      ),
    )
  ]

pub root_allowed : (sizes : Sizes) (size id : ℕ) (me : Me Call View) (some_seats : 1 ≤ me.0.sizes.seats) (generation : ℕ) → IsAtMakeRoot me.0 generation → HoldsRaised me.0 →
    AllowsRoot sizes size id me generation
root_allowed sizes size id me some_seats generation (main, rest, name, own, p, w) holding =
    allowed_owing sizes size id me generation_word (λ n. either (n == generation) (generation + 1) n) (has_made_root (step size generation_word generation (generation + 1) none) me) some_seats
    (λ s kept at. inl (before_apart me.0.sizes generation_word (omega arith) (omega arith)))
    (λ s kept at. (let x = made_or_not sizes size id me generation main rest name own p w holding s kept at in (x.0, x.3, x.4)))
    (λ s kept at. (made_or_not sizes size id me generation main rest name own p w holding s kept at).1)
    (λ s kept at. (made_or_not sizes size id me generation main rest name own p w holding s kept at).2)
