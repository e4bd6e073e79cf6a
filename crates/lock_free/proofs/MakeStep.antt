-- The last store in a free slot makes the node that is written there: the operation's step.
use Rattle.history.specs.declared.calls.Call.{Call}
use Rattle.std.proofs.Common.{◌≤◌, ◌≡◌, ◌≢◌, ◌*◌, ℕ, inl, inr, Bool, true, List, [], ◌∷◌, Contains, set, Option, Some, None, refl, sym, ap, subst, ◌∙◌, arith, length, ◌+◌}
use Rattle.std.proofs.lemmas.List.Elements.{Contains-get_or, Contains-append_left, Contains-push}
use Rattle.std.proofs.lemmas.Bool.{cases_eq}
use Rattle.std.proofs.lemmas.Option.{same_Some}
use mathlib.Core.Option.{some, none}
use lib.ListN.{get_elem?}
use Rattle.atomic_table.specs.Table.{Me, Allows, step}
use Rattle.atomic_table.specs.Table as Table
use Rattle.trie_words.specs.Codes.{link_code, entry_code}
use Rattle.trie_words.specs.declared.headers.Previous.{Previous}
use Rattle.trie_words.specs.declared.headers.Previous.TheVariants as previous
use Rattle.trie_words.specs.declared.headers.Shape.TheVariants as shape
use Rattle.machine_model.specs.Acting.{operation_after}
use Rattle.machine_model.specs.Operations.{action_of}
use Rattle.machine_model.specs.Beneath.slot_arena.specs.Refs.{slot_of}
use Rattle.proof_memory.specs.Laws.{SameNode}
use Rattle.lock_free.proofs.Asked.{makes_of, made_names_live, over_lives, live_in_use, nodes_stay}
use Rattle.lock_free.proofs.Framing.{class_small}
use Rattle.lock_free.proofs.Geometry.{IsWordOf}
use Rattle.lock_free.proofs.GivenBack.{node_is}
use Rattle.lock_free.proofs.Made.{got_in}
use Rattle.lock_free.proofs.MadeKept.{all_made, make_kept}
use Rattle.lock_free.proofs.Moments.{allowed_owing, waited_so, before, seat, live_place, still_own, free_inside, own_apart}
use Rattle.lock_free.proofs.Pools.{pool_same, pool_else}
use Rattle.lock_free.proofs.OneStep.Openers.{openers_make_roots}
use Rattle.machine_model.specs.Beneath.slot_arena.specs.declared.refs.Ref.{Ref}
use Rattle.machine_model.specs.Beneath.slot_arena.specs.declared.nodes.Node.{Node}
use Rattle.machine_model.specs.Beneath.slot_arena.specs.declared.nodes.Node.TheVariants.{Indirection, Branch, Single, Tomb, List as Listed}
use Rattle.machine_model.specs.Beneath.slot_arena.specs.Heaps.{Heap, node_at, refs_of_node}
use Rattle.machine_model.specs.declared.actions.Action.TheVariants as act
use Rattle.machine_model.specs.declared.operations.Operation.{Operation}
use Rattle.machine_model.specs.States.{State}
use Rattle.lock_free.specs.declared.accounts.Account.{Account}
use Rattle.lock_free.specs.declared.rules.View.{View}
use Rattle.lock_free.specs.declared.sizes.Sizes.{Sizes}
use Rattle.lock_free.specs.Accounts.{state_of, place_of, running, IsOwn, bounds_for}
use Rattle.lock_free.specs.Loading.{now, IsAt, IsSound, Took}
use Rattle.lock_free.specs.Making.{over_of, Drafted, IsOverBy, shape_with, DraftsHeader, DraftsNode, made_at, made_by, Makes}
use Rattle.lock_free.specs.Nodes.{Has, is_single, AreEntries, class_of}
use Rattle.lock_free.specs.Places.{words_of}
use Rattle.lock_free.specs.Shadows.{IsShadowed}
use Rattle.lock_free.specs.Rules.{pool_of, IsFree, IsKept}
use Rattle.lock_free.specs.Storing.{IsOwnWord, Writes, IsAtMake, IsAdded, has_made}
use Rattle.lock_free.proofs.Added.{added}
use Rattle.machine_model.specs.Acting.{private_after, with_made}
use Rattle.machine_model.specs.Beneath.slot_arena.specs.Heaps.{next_ref}
use Rattle.machine_model.specs.Beneath.slot_arena.specs.Refs.{ref_to}
use Rattle.machine_model.specs.Moves.{GoesOn}
use Rattle.machine_model.specs.declared.steps.Step.TheVariants as machine
use Rattle.proof_claims.specs.Changes.{change_by, change_going}
use Rattle.proof_claims.specs.Changes as claiming
use Rattle.proof_claims.specs.Held.{takes, held_after}
use Rattle.proof_memory.specs.Laws.{IsInUse}
use Rattle.lock_free.specs.Claims.{HoldsAll, held_now}
use Rattle.lock_free.specs.Owing.{HoldsRaised, next_change, names_made}
use Rattle.lock_free.proofs.MadeSeats.{Takes}
use Rattle.lock_free.proofs.OneStep.Taking.{made_next}
use Rattle.lock_free.specs.Claims.{owes_after}
use Rattle.lock_free.specs.Rules.{AreOwed}
use Rattle.lock_free.proofs.OwesMade.{made_owed}
use Rattle.lock_free.proofs.OneStep.Found.{live_used}
use Rattle.lock_free.proofs.TakenLater.{taken_holds}
use Rattle.lock_free.proofs.MadeOwe.{OwesOneMore, owes_one_more}
use Rattle.lock_free.proofs.Keeping.{keys_gone}
use Rattle.lock_free.proofs.HeldStep.{taken_now}
use Rattle.lock_free.specs.OwesAt.{owes_at}
use Rattle.lock_free.proofs.OwesPrivate.{line_apart}
use Rattle.proof_memory.specs.Making.{made_node}
use Rattle.lock_free.proofs.PartingStay.{standing_stood}

-- what is written is written so later too, where places stay, whose own nodes are, and which entries are singles
module _ (before after : Account) (first later : Heap) (has : Has) (name : ℕ) (own : Bool) (over : Option (Ref × Ref))
    (owns : (a b : Ref) (c : Bool) → IsOwn before a b c → IsOwn after a b c) where
  over_stays : (o : Option (Ref × Ref)) (p : Previous) → ((x : Ref × Ref) → o ≡ Some x → place_of after x.1 ≡ place_of before x.1) → IsOverBy before o p → IsOverBy after o p
  over_stays None p places h = h
  over_stays (Some x) p places h = (h.0, owns x.0 x.1 h.0 h.1, h.2 ∙ ap (λ n. previous.Pending (record { slot = n; own = h.0 })) (sym (places x refl)))

  module _ (over_places : (x : Ref × Ref) → over ≡ Some x → place_of after x.1 ≡ place_of before x.1) where
    shape_stays : (n : Node) → ((r : Ref) → Contains (refs_of_node n) r → place_of after r ≡ place_of before r) → shape_with after own n ≡ shape_with before own n
    shape_stays (Indirection generation main) places = refl
    shape_stays (Branch bitmap entries) places = refl
    shape_stays (Single key value) places = refl
    shape_stays (Tomb single) places = ap (λ p. Some (shape.Tomb (record { slot = p; own = own; is_single = true }))) (places single (Contains-get_or (single ∷ []) 0 single (omega arith)))
    shape_stays (Listed singles) places = refl

    header_stays : (n : Node) (word : ℕ) → ((r : Ref) → Contains (refs_of_node n) r → place_of after r ≡ place_of before r) → DraftsHeader before over own n word → DraftsHeader after over own n word
    header_stays n word places h = record {
      previous = h.previous;
      is_previous = over_stays over h.previous over_places h.is_previous;
      shape = h.shape;
      is_shape = shape_stays n places ∙ h.is_shape;
      code = h.code;
    }

    entries_stay : (entries : List Ref) → ((r : Ref) → Contains entries r → (place_of after r ≡ place_of before r) × (is_single (node_at later r) ≡ is_single (node_at first r))) →
        AreEntries before first has name entries → AreEntries after later has name entries
    entries_stay entries same h position e at =
        let x = h position e at in
        let s = same e (got_in entries position e at) in (
          x.0,
          x.1,
          record {
            own = x.2.own;
            code = x.2.code ∙ ap (λ p. entry_code (record { slot = p; own = x.2.own; is_single = is_single (node_at first e) })) (sym s.0)
                ∙ ap (λ b. entry_code (record { slot = place_of after e; own = x.2.own; is_single = b })) (sym s.1);
          },
        )

    pub drafts_stay : (n : Node) → ((r : Ref) → Contains (refs_of_node n) r → (place_of after r ≡ place_of before r) × (is_single (node_at later r) ≡ is_single (node_at first r))) →
        DraftsNode before first over has name own n →
        DraftsNode after later over has name own n
    drafts_stay (Indirection generation main) same h = (
      h.0,
      subst (λ p. has (2 * name) (link_code (record { generation = generation; main = record { slot = p; own = own } })))
          (sym (same main (Contains-get_or (main ∷ []) 0 main (omega arith))).0) h.1,
    )
    drafts_stay (Single key value) same h = h
    drafts_stay (Branch bitmap entries) same h = ((h.0.0, h.0.1, header_stays (Branch bitmap entries) h.0.0 (λ r c. (same r c).0) h.0.2), entries_stay entries.items same h.1)
    drafts_stay (Tomb single) same h = (h.0, h.1, header_stays (Tomb single) h.0 (λ r c. (same r c).0) h.2)
    drafts_stay (Listed singles) same h = ((h.0.0, h.0.1, header_stays (Listed singles) h.0.0 (λ r c. (same r c).0) h.0.2), entries_stay singles.items same h.1)

pub single_stays : (before after : Node) → SameNode before after → is_single after ≡ is_single before
single_stays (Indirection generation main) after same = ap is_single same.1
single_stays (Branch bitmap entries) after same = ap is_single same.1
single_stays (Single key value) after same = ap is_single same.1
single_stays (Tomb single) after same = ap is_single same.1
single_stays (Listed singles) after same = ap is_single same.1

module _ (v : View) (word value : ℕ) (node : Node) (rest : List ℕ) (name : ℕ) (own : Bool) (p : IsAt v (act.Make node)) (w : Writes v p.operation.line word value node rest name own)
    (holding : HoldsRaised v) (s : Table.State Call View) (kept : IsKept v.sizes s) (id : ℕ) (at : get_elem? s.views id ≡ some v) where
  abbrev there : Account
  there = kept.account

  abbrev state : State
  state = state_of v.sizes there

  stays : (mark : Bool) × running v.sizes there v.actor (record p.operation { is_marked = mark }) × (action_of state (record p.operation { is_marked = mark }) ≡ action_of (now v) p.operation)
  stays = (waited_so v s kept id at).stays p.operation p.runs

  abbrev o : Operation
  o = record p.operation { is_marked = stays.0 }

  acts : action_of state o ≡ act.Make node
  acts = stays.2 ∙ p.acts

  abbrev after : View
  after = made_by v (class_of node) name rest own node there

  makes : Makes v.sizes there (made_at v.actor name own node there) v.actor o node 0
  makes = makes_of v.sizes there kept.bounds v.actor o stays.1 kept.quiet (standing_stood v.sizes there s.words kept.roots) node acts kept.counted name own

  -- what the node names is as it was when it was written
  same_names : (r : Ref) → Contains (refs_of_node node) r → (place_of there r ≡ place_of v.account r) × (is_single (node_at state.heap r) ≡ is_single (node_at (now v).heap r))
  same_names r c =
      let live = made_names_live v.sizes v.account (before v s kept id at) v.actor p.operation p.runs node p.acts r c in
      let was = live_in_use v.sizes v.account (before v s kept id at) r live in
      let later = nodes_stay v.sizes v.actor v.account there (seat v s kept id at).waited kept.bounds (slot_of r) was.0 was.1 in (
        live_place v s kept id at r live,
        ap is_single (node_is state r later.0 later.1) ∙ single_stays was.0.node later.0.node later.2 ∙ sym (ap is_single (node_is (now v) r was.0 was.1)),
      )

  drafts_there : DraftsNode there state.heap (over_of p.operation.line) (Drafted v.drafts word value) name own node
  drafts_there =
      drafts_stay v.account there (now v).heap state.heap (Drafted v.drafts word value) name own (over_of p.operation.line) (λ a b c x. still_own v s kept id at (slot_of a) (slot_of b) c x)
      (λ x is. live_place v s kept id at x.1 (over_lives v.sizes v.account (before v s kept id at) v.actor p.operation p.runs x.0 x.1 is)) node same_names w.drafts

  inside_it : IsWordOf (class_of node) name word
  inside_it = record { low = w.low; high = w.high }

  -- who is to open a handle makes roots alone
  unopened : (handle : ℕ) → v.opens ≡ Some handle → class_of node ≢ 1
  unopened handle opens is = openers_make_roots v.sizes there v.actor o stays.1 handle (sym ((kept.seats id v at).reserves o stays.1) ∙ opens) node acts

  next_is : next_ref state.heap ≡ Some (ref_to (length there.names + 1) (length there.names))
  next_is = made_next v.sizes there.steps kept.bounds kept.quiet (machine.Go v.actor) ∙ ap (λ n. Some (ref_to (n + 1) n)) (sym kept.counted)

  -- what it names the seat held when it was at hand, and holds still; what was an indirection's own is
  change_there : next_change v there ≡ claiming.makes state (held_now v.sizes there) o (refs_of_node node) (Some (ref_to (length there.names + 1) (length there.names)))
  change_there =
      ap (change_going state (held_now v.sizes there)) stays.1 ∙ ap (change_by state (held_now v.sizes there) o) acts ∙ ap (claiming.makes state (held_now v.sizes there) o (refs_of_node node)) next_is

  held_then : held_now v.sizes (made_at v.actor name own node there) ≡ held_after (claiming.makes state (held_now v.sizes there) o (refs_of_node node)
      (Some (ref_to (length there.names + 1) (length there.names)))) (held_now v.sizes there)
  held_then =
      taken_now v.sizes there kept.bounds v.actor o stays.1 (subst GoesOn (sym acts) tt) (made_at v.actor name own node there) refl
      ∙ ap (λ c. held_after c (held_now v.sizes there)) change_there

  holds : HoldsAll (takes (next_change v there)) v.owed
  holds =
      taken_holds v s kept id at p.operation p.runs stays.0 stays.1 (refs_of_node node) (ap names_made p.acts) (ref_to (length there.names + 1) (length there.names)) change_there
      (made_at v.actor name own node there) makes.bounds (keys_gone there.steps v.actor kept.keys) held_then holding

  -- the main node of an indirection that is made
  meets : (generation : ℕ) (main : Ref) → node ≡ Indirection generation main → IsInUse state.heap main
  meets generation main is =
      live_used v.sizes there kept.bounds main (made_names_live v.sizes there kept.bounds v.actor o stays.1 node acts main
      (subst (λ n. Contains (refs_of_node n) main) (sym is) (Contains-get_or (main ∷ []) 0 main (omega arith))))

  evidence : Takes v.sizes s kept id v at o stays.1 name own node 0 makes rest w.last
  evidence = record {
    named = refs_of_node node;
    goes = subst GoesOn (sym acts) tt;
    changes = change_there;
    private = ap (private_after state o.private) acts ∙ ap (with_made o.private) next_is;
    holds = holds;
    owed_line =
        subst (λ ns. OwesOneMore ns (ref_to (length there.names + 1) (length there.names)) (owes_at o) (owes_at (operation_after state o))) (ap names_made acts)
        (owes_one_more state o (ref_to (length there.names + 1) (length there.names)) next_is node (line_apart (bounds_for v.sizes there.steps) kept.bounds there.steps v.actor o stays.1)
        (ap (made_node state) acts));
    owes = refl;
    may = w.owns;
    meets = meets;
  }

  pub kept_after : IsKept v.sizes (record { words = set s.words word value; homes = s.homes; views = set s.views id after })
  kept_after = make_kept v.sizes s kept id v at o stays.1 name own node rest w.last w.small unopened makes word value inside_it drafts_there w.owns evidence

  pub owed_after : AreOwed s.views → AreOwed (set s.views id after)
  unfolding evidence
  owed_after =
      let change = claiming.makes state (held_now v.sizes there) o (refs_of_node node) (Some (ref_to (length there.names + 1) (length there.names))) in
      made_owed v s kept id at o stays.1 after change (λ x. refl) refl (subst (λ x. HoldsAll (takes x) v.owed) evidence.changes holds)
      (ap (λ x. owes_after x (held_now v.sizes there).claims v.owed) evidence.changes) refl refl

  was_free : (b n : ℕ) → IsFree after b n → IsFree v b n
  was_free b n free = elim (cases_eq b (class_of node)) [
    | inl same ↦
        (let there_is = subst (λ xs. Contains xs n) (ap (pool_of after.pool) same ∙ pool_same v.pool (class_of node) rest (class_small node)) free.1 in
        (free.0, subst (λ c. Contains (pool_of v.pool c) n) (sym same) (subst (λ xs. Contains xs n) (sym w.last) (Contains-append_left rest (name ∷ []) n there_is))))
    | inr other ↦ (free.0, subst (λ xs. Contains xs n) (pool_else v.pool (class_of node) b rest (class_small node) free.0 other) free.1)
  ]

  pub sound_after : IsSound (words_of v.sizes) after
  sound_after =
      let all = all_made v.sizes s kept id v at o stays.1 name own node rest w.last w.small unopened makes word value inside_it drafts_there w.owns in
      record {
        size = refl;
        range = kept.range.within;
        bounds = all.bounds;
        keys = all.keys;
        counted = all.counted;
        inside = all.nodes.inside;
        free = λ b n f.
            (let g = was_free b n f in free_inside v s kept id at b n g);
      }

  pub took_after : Took v there after
  took_after q runs = makes.own ∙ ap (λ x. Some (operation_after state x)) (same_Some o q (sym stays.1 ∙ runs))

  pub added_after : IsAdded v there node after
  added_after = added v (class_of node) name rest own node there kept.bounds kept.quiet kept.counted o 0 makes

pub make_allowed : (sizes : Sizes) (size id : ℕ) (me : Me Call View) (some_seats : 1 ≤ me.0.sizes.seats) (word value : ℕ) → IsAtMake me.0 word value → HoldsRaised me.0 →
    Allows (IsShadowed sizes) size id me word (λ n. value)
    (λ n. has_made (step size word value 0 none) me value)
make_allowed sizes size id me some_seats word value (node, rest, name, own, p, w) holding =
    allowed_owing sizes size id me word (λ n. value) (λ n. has_made (step size word value 0 none) me value)
    some_seats (λ s kept at. inl (own_apart me.0 s kept id at (class_of node) name (class_small node, subst (λ xs. Contains xs name) (sym w.last) (Contains-push rest name)) word w.low w.high))
    (λ s kept at. (
      made_by me.0 (class_of node) name rest own node kept.account,
      kept_after me.0 word value node rest name own p w holding s kept id at,
      (
        (
          kept.account,
          waited_so me.0 s kept id at,
          took_after me.0 word value node rest name own p w holding s kept id at,
          (node, rest, name, own, p, w, refl, added_after me.0 word value node rest name own p w holding s kept id at),
        ),
        sound_after me.0 word value node rest name own p w holding s kept id at,
        refl,
      ),
    ))
    (λ s kept at. refl) (λ s kept at. owed_after me.0 word value node rest name own p w holding s kept id at)

-- its last word is free for the seat till then
pub is_own_word : (v : View) (word value : ℕ) → IsAtMake v word value → IsOwnWord v word
is_own_word v word value (node, rest, name, own, p, w) =
    (class_of node, name, (class_small node, subst (λ xs. Contains xs name) (sym w.last) (Contains-push rest name)), w.low, w.high)
