-- The exchange of an indirection's word that puts a main node back is the operation's step, whether it finds the failed one or not.
use Rattle.history.specs.declared.calls.Call.{Call}
use Rattle.std.proofs.Common.{◌≤◌, ◌≡◌, ◌≢◌, ◌*◌, ◌==◌, ℕ, inl, inr, true, [], ◌∷◌, Contains, set, slice_index, refl, sym, ap, subst, ◌∙◌, arith, eq-eqb, ne_eqb}
use Rattle.std.proofs.lemmas.List.Elements.{Contains-get_or}
use Rattle.std.proofs.lemmas.Option.{same_Some}
use mathlib.Core.Option.{some, none}
use lib.ListN.{get_elem?}
use prog.Atomic.{either}
use Rattle.atomic_table.specs.Table.{Me, step}
use Rattle.atomic_table.specs.Table as Table
use Rattle.trie_words.specs.Codes.{IsLink, link_code}
use Rattle.trie_words.specs.declared.links.Link.{Link}
use Rattle.trie_words.specs.declared.names.Name.{Name}
use Rattle.machine_model.specs.Beneath.slot_arena.specs.declared.refs.Ref.{Ref}
use Rattle.machine_model.specs.Beneath.slot_arena.specs.declared.nodes.Node.TheVariants.{Indirection}
use Rattle.machine_model.specs.Beneath.slot_arena.specs.declared.nodes.Slot.{Slot}
use Rattle.machine_model.specs.Beneath.slot_arena.specs.Heaps.{no_ref, main_at, generation_of}
use Rattle.machine_model.specs.Beneath.slot_arena.specs.Refs.{slot_of}
use Rattle.machine_model.specs.declared.actions.Action.{Action}
use Rattle.machine_model.specs.declared.actions.Action.TheVariants as act
use Rattle.machine_model.specs.declared.operations.Operation.{Operation}
use Rattle.machine_model.specs.States.{State}
use Rattle.lock_free.specs.declared.accounts.Account.{Account}
use Rattle.lock_free.specs.declared.rules.View.{View}
use Rattle.lock_free.specs.declared.sizes.Sizes.{Sizes}
use Rattle.lock_free.specs.Accounts.{state_of, place_of, OwnIs, running, gone_on}
use Rattle.lock_free.specs.Exchanging.{IsNamed, IsNamedOrGone, IsLinkTo, IsAtRestore, HasRestored}
use Rattle.lock_free.specs.Loading.{Moment, seen, IsAt, HasGone, has_gone}
use Rattle.lock_free.specs.Restoring.{Restores}
use Rattle.lock_free.specs.Rules.{IsKept}
use Rattle.lock_free.proofs.CountWords.{Apart}
use Rattle.lock_free.proofs.Asked.{links_of, mains_of, restores_or_not, gone_stays}
use Rattle.lock_free.proofs.Assembling.{all_stand}
use Rattle.lock_free.proofs.Exchanged.{AllowsExchange, Leaves, words_hit, missed, sound_by}
use Rattle.lock_free.proofs.LinkWords.{i_there, generation_now, hit, miss}
use Rattle.lock_free.proofs.Looking.{went, main_there, o_there, acts_there, same_action}
use Rattle.lock_free.proofs.Moments.{IsThere, seat, allowed, took_by, its_place, still_own, node_apart}
use Rattle.lock_free.proofs.Restored.{all_then, restore_kept}
use Rattle.lock_free.proofs.Lettings.{TakesNone}

module _ (v : View) (i main former : Ref) (p : IsAt v (act.Restore i main former)) (name : ℕ) (place : place_of v.account i ≡ name) (link : Link) (fits : IsLink link) (is : IsLinkTo v i main link)
    (former_name : Name) where
  abbrev does : Action
  does = act.Restore i main former

  abbrev word : ℕ
  word = 2 * name

  abbrev old : ℕ
  old = link_code link

  abbrev new : ℕ
  new = link_code (record { generation = link.generation; main = former_name })

  link_in : Contains (links_of does) i
  link_in = Contains-get_or (i ∷ []) 0 i (omega arith)

  main_in : Contains (mains_of does) main
  main_in = Contains-get_or (main ∷ former ∷ []) 0 i (omega arith)

  former_in : Contains (mains_of does) former
  former_in = Contains-get_or (main ∷ former ∷ []) 1 i (omega arith)

  module _ (s : Table.State Call View) (kept : IsKept v.sizes s) (id : ℕ) (at : get_elem? s.views id ≡ some v) where
    abbrev found : ℕ
    found = slice_index s.words word

    abbrev m : Moment v word found
    m = record { table = s; kept = kept; id = id; at = at; finds = refl }

    abbrev there : Account
    there = kept.account

    abbrev state : State
    state = state_of v.sizes there

    its_word : word ≡ 2 * place_of v.account i
    its_word = ap (λ n. 2 * n) (sym place)

    abbrev o : Operation
    o = record p.operation { is_marked = (o_there v word found m does p).0 }

    runs : running v.sizes there v.actor o
    runs = (o_there v word found m does p).1

    abbrev link_is : (h : IsThere v s kept id at i) × (generation : ℕ) × (current : Ref) × (h.slot.node ≡ Indirection generation current)
    link_is = i_there v word found m does p i main link_in main_in its_word link fits is

    pub is_elsewhere : Apart v.sizes word
    is_elsewhere = node_apart v s kept id at i link_is.0 word its_word

    found_old : main_at state.heap i ≡ main → found ≡ old
    found_old = hit v word found m does p i main link_in main_in its_word link fits is

    found_other : main_at state.heap i ≢ main → found ≢ old
    found_other = miss v word found m does p i main link_in main_in its_word link fits is

    abbrev after : View
    after = seen v (gone_on v.actor there)

    module _ (names : IsNamed v i former former_name) (r : Restores v.sizes there v.actor o i main former) where
      here : kept.stands (slot_of i) ≡ true
      here = kept.nodes.live i link_is.0.lives

      owned : OwnIs there.owned (slot_of i) (slot_of former) former_name.own
      owned = still_own v s kept id at (slot_of i) (slot_of former) former_name.own names.is_own

      same_generation : r.generation ≡ link.generation
      same_generation =
          sym (ap generation_of (ap (λ (x : Slot). x.node) (same_Some link_is.0.slot r.link (sym link_is.0.used ∙ r.link_is)) ∙ r.link_node))
          ∙ ap generation_of link_is.3 ∙ generation_now v word found m does p i main link_in main_in its_word link fits is

      same_name : place_of there former ≡ former_name.slot
      same_name = its_place v s kept id at former (main_there v word found m does former former_in p).0 ∙ names.place

      new_is : link_code (record { generation = r.generation; main = record { slot = place_of there former; own = former_name.own } }) ≡ new
      new_is =
          ap (λ g. link_code (record { generation = g; main = record { slot = place_of there former; own = former_name.own } })) same_generation
          ∙ ap (λ n. link_code (record { generation = link.generation; main = record { slot = n; own = former_name.own } })) same_name

      at_place : 2 * place_of there i ≡ word
      at_place = ap (λ n. 2 * n) (its_place v s kept id at i link_is.0 ∙ place)

      put_back : found ≡ old → Leaves v s kept id at word old new
      put_back e = (
        subst (λ ws. IsKept v.sizes (record { words = ws; homes = s.homes; views = set s.views id after }))
            (ap (set s.words (2 * place_of there i)) new_is ∙ words_hit v s kept id at word old new e (2 * place_of there i) at_place)
            (restore_kept v.sizes s kept id v at o runs i main former r here former_name.own owned (subst (TakesNone kept.stands state o) (sym (acts_there v word found m does p)) tt)
            (main_there v word found m does former former_in p).0.lives),
        (
          sound_by v s kept id at (gone_on v.actor there) kept.stands _ (all_then v.sizes there v.actor o i main former r kept.stands s.words (all_stand v.sizes s kept) here former_name.own owned),
          took_by v s kept id at o runs (gone_on v.actor there) r.own,
        ),
      )

    pub leaves : IsNamedOrGone v i main former former_name → Leaves v s kept id at word old new
    leaves named = elim (restores_or_not v.sizes there kept.bounds v.actor o runs i main former (acts_there v word found m does p)) [
      | inl x ↦ elim named [
        | inl names ↦ put_back names x.0 (found_old x.1)
        | inr gone ↦ absurd (gone_stays v.sizes v.actor v.account there (seat v s kept id at).waited kept.bounds p.operation p.runs i main former p.acts gone x.1)
      ]
      | inr x ↦ missed v s kept id at word old new o runs x.0 (subst (TakesNone kept.stands state o) (sym (acts_there v word found m does p)) tt) (found_other x.1)
    ]

    -- it was found if the failed one stood there still
    pub stood_by : (main_at state.heap i == main) ≡ (found == old)
    stood_by = elim (restores_or_not v.sizes there kept.bounds v.actor o runs i main former (acts_there v word found m does p)) [
      | inl x ↦ eq-eqb (main_at state.heap i) main x.1 ∙ sym (eq-eqb found old (found_old x.1))
      | inr x ↦ ne_eqb (main_at state.heap i) main x.1 ∙ sym (ne_eqb found old (found_other x.1))
    ]

pub restore_allowed : (sizes : Sizes) (size id : ℕ) (me : Me Call View) (some_seats : 1 ≤ me.0.sizes.seats) (name : ℕ) (link : Link) (fits : IsLink link) (former : Name) →
    IsAtRestore me.0 name link former →
    AllowsExchange sizes size id me (2 * name) (link_code link) (link_code (record { generation = link.generation; main = former }))
restore_allowed sizes size id me some_seats name link fits former (i, main, replaced, p, place, is, names) =
    let old = link_code link in
    let new = link_code (record { generation = link.generation; main = former }) in
    allowed sizes size id me (2 * name) (λ n. either (n == old) new n) (has_gone (step size (2 * name) old new none) me)
    some_seats (λ s kept at. inl (is_elsewhere me.0 i main replaced p name place link fits is former s kept id at))
    (λ s kept at. (let x = leaves me.0 i main replaced p name place link fits is former s kept id at names in
    (seen me.0 (gone_on me.0.actor kept.account), x.0, ((record { table = s; kept = kept; id = id; at = at; finds = refl }, refl, x.1.1), x.1.0, refl))))
    (λ s kept at. refl)

-- the indirection and the main node that failed
abbrev restored_in : Action → Ref × Ref
restored_in (act.Restore i main former) = (i, main)
restored_in action = (no_ref, no_ref)

-- what the seat is told
pub restore_told : (before : View) (name : ℕ) (link : Link) (fits : IsLink link) (former : Name) → IsAtRestore before name link former → (found : ℕ) (after : View) → HasGone before
    (2 * name) found after →
    HasRestored before (found == link_code link) after
restore_told before name link fits former (i, main, replaced, p, place, is, names) found after g = (
  went before name (2 * name) found after g,
  λ j other q a.
      subst (λ (x : Ref × Ref). (main_at (state_of before.sizes g.0.kept.account).heap x.0 == x.1) ≡ (found == link_code link))
      (ap restored_in (same_action before (act.Restore i main replaced) (act.Restore j other q) p a))
      (stood_by before i main replaced p name place link fits is former g.0.table g.0.kept g.0.id g.0.at ∙ ap (λ n. n == link_code link) g.0.finds),
)
