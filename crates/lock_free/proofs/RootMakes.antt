-- COPY makes a root: it is written in the last free slot, and made with the generation that is next.
use Rattle.std.proofs.Common.{◌≡◌, ◌<◌, ◌*◌, ◌++◌, ◌∷◌, ◌^◌, ℕ, Bool, true, false, List, [], Some, refl, sym, ap, subst, ◌∙◌, Contains, arith}
use Rattle.std.proofs.lemmas.List.{same_from_push}
use Rattle.std.proofs.lemmas.List.Elements.{Contains-push}
use Rattle.std.proofs.lemmas.Option.{none-some, same_Some}
use Rattle.trie_words.specs.Codes.{link_code, IsLink}
use Rattle.trie_words.specs.declared.names.Name.{Name}
use Rattle.machine_model.specs.Beneath.slot_arena.specs.declared.refs.Ref.{Ref}
use Rattle.machine_model.specs.Beneath.slot_arena.specs.declared.nodes.Node.TheVariants.{Indirection}
use Rattle.machine_model.specs.declared.actions.Action.TheVariants as act
use Rattle.machine_model.specs.declared.copying.CopyLine.{CopyLine}
use Rattle.machine_model.specs.declared.copying.CopyLine.TheVariants as copy
use Rattle.machine_model.specs.Copying.{copy_action}
use Rattle.machine_model.specs.Operations.{action_of}
use Rattle.proof_memory.specs.Making.{made_node}
use Rattle.machine_model.specs.declared.lines.Line.TheVariants as line
use Rattle.lock_free.specs.declared.accounts.Account.{Account}
use Rattle.lock_free.specs.declared.rules.View.{View}
use Rattle.lock_free.specs.Becoming.{HasNew, line_made}
use Rattle.lock_free.specs.CopySteps.{IsAtCopy, IsAtNewRoot, HasTriedRoot, HasRoot, main_for, new_root_on}
use Rattle.lock_free.specs.Loading.{now, seen, IsAt, IsSound, Runs, Waited, Took}
use Rattle.lock_free.specs.Making.{made_by}
use Rattle.lock_free.specs.Rules.{pool_of}
use Rattle.lock_free.specs.declared.reclaiming.Kind.TheVariants as kinds
use Rattle.lock_free.specs.Stocks.{Stocked, IsStock, NotesLast, HasSlot}
use Rattle.lock_free.specs.Owning.{IsBuilding}
use Rattle.lock_free.specs.Storing.{IsAdded, IsAtMakeRoot, IsOwnWord, drafted}
use Rattle.lock_free.proofs.LimboStays.{limbo_so, stock_elsewhere}
use Rattle.lock_free.proofs.CopyReads.{copy_line}
use Rattle.lock_free.proofs.EntryLooks.{slot_small}
use Rattle.lock_free.proofs.NewNodes.{has_new, stock_made}
use Rattle.lock_free.proofs.Pools.{first_there}

-- ---- the next step makes a root

main_acts : (l : CopyLine) (main : Ref) → main_for l ≡ Some main → copy_action l ≡ act.MakeRoot main
main_acts (copy.Successor root m) main e = ap act.MakeRoot (same_Some m main e)
main_acts (copy.Second root m successor) main e = ap act.MakeRoot (same_Some m main e)
main_acts (copy.Cleared root m branch) main e = ap act.MakeRoot (same_Some branch main e)
main_acts l main e = absurd (none-some main e)

at_root : (v : View) (l : CopyLine) (main : Ref) → IsAtCopy v l → main_for l ≡ Some main → IsAt v (act.MakeRoot main)
at_root v l main (o, (mark, runs), on) e = record {
  operation = record o { is_marked = mark };
  runs = runs;
  acts = subst (λ x. action_of (now v) (record o { is_marked = mark; line = x }) ≡ act.MakeRoot main) (sym on) (main_acts l main e);
}

-- its main node is the operation's own
root_building : (v : View) (l : CopyLine) (main : Ref) (h : IsAtCopy v l) (e : main_for l ≡ Some main) → IsBuilding (line.Copy l) main → IsBuilding (at_root v l main h e).operation.line main
unfolding at_root
root_building v l main (o, (mark, runs), on) e own = subst (λ x. IsBuilding x main) (sym on) own

root_built : (v : View) (l : CopyLine) (main : Ref) (h : IsAtCopy v l) (e : main_for l ≡ Some main) → IsBuilding (at_root v l main h e).operation.line main → IsBuilding (line.Copy l) main
unfolding at_root
root_built v l main (o, (mark, runs), on) e b = subst (λ x. IsBuilding x main) on b

-- ---- it is written

module _ (n : ℕ) (before : View) (sound : IsSound n before) (slot : ℕ) (last : (rest : List ℕ) × (pool_of before.pool 0 ≡ rest ++ slot ∷ [])) (main : Name) (at : IsAtNewRoot before main) where
  abbrev r : Ref
  r = at.1

  pub root_fits : (generation : ℕ) → generation < 2 ^ 36 → IsLink (record { generation = generation; main = main })
  root_fits generation small = (small, subst (λ k. k < 2 ^ 27) at.4.1 (slot_small n before sound r at.4.0.0 at.4.0.1))

  module _ (d : View) (is : d ≡ record before { drafts = d.drafts }) where
    pub own_root_word : IsOwnWord d (2 * slot)
    own_root_word =
        (0, slot, (omega arith, subst (λ (x : View). Contains (pool_of x.pool 0) slot) (sym is) (subst (λ xs. Contains xs slot) (sym last.1) (Contains-push last.0 slot))), omega arith, omega arith)

    pub still_drafted : (word value : ℕ) (w : View) → w ≡ drafted d word value → w ≡ record before { drafts = w.drafts }
    still_drafted word value w w_is = w_is ∙ ap (λ (x : View). record x { drafts = (drafted d word value).drafts }) is ∙ ap (λ (x : View). record before { drafts = x.drafts }) (sym w_is)

    pub root_ready : (generation : ℕ) → generation < 2 ^ 36 → (value : ℕ) → value ≡ link_code (record { generation = generation; main = main }) → (w : View) → w ≡ drafted d (2 * slot) value →
        IsAtMakeRoot w generation
    root_ready generation small value value_is w w_is =
        subst (λ x. IsAtMakeRoot x generation) (sym (w_is ∙ ap (λ x. drafted x (2 * slot) value) is)) (
          r,
          last.0,
          slot,
          main.own,
          (let p = at_root before at.0 r at.2 at.3 in record { operation = p.operation; runs = p.runs; acts = p.acts }),
          record {
            last = last.1;
            small = small;
            drafts =
                subst (λ x. Contains (drafted (record before { drafts = d.drafts }) (2 * slot) value).drafts (2 * slot, x))
                (value_is ∙ ap (λ k. link_code (record { generation = generation; main = record { slot = k; own = main.own } })) (sym at.4.1)) (first_there (2 * slot, value) _);
            used = at.4.0;
            owns = (λ own. root_building before at.0 r at.2 at.3 (at.5.0 own), λ b. at.5.1 (root_built before at.0 r at.2 at.3 b));
          },
        )

-- ---- it is made

module _ (n : ℕ) (before : View) (name : ℕ) (mid : View) (slot : HasSlot before 0 name mid) (sound : IsSound n mid) (after : View) (tried : HasTriedRoot mid true after) where
  abbrev d : View
  d = tried.0

  moved : d ≡ record before { pool = mid.pool; drafts = d.drafts }
  moved = tried.1 ∙ ap (λ (x : View). record x { drafts = d.drafts }) slot.is

  sound_d : IsSound n d
  sound_d = subst (IsSound n) (sym tried.1) (record {
    size = sound.size;
    range = sound.range;
    bounds = sound.bounds;
    keys = sound.keys;
    counted = sound.counted;
    inside = sound.inside;
    free =
        sound.free;
  })

  abbrev generation : ℕ
  generation = tried.2.0

  -- as it was written
  record IsIt : Type 0 where
    account : Account
    waited : Waited d account
    main : Ref
    own : Bool
    making : IsAt d (act.MakeRoot main)
    is : after ≡ made_by d 0 name slot.last.0 own (Indirection generation main) account
    took : Took d account (made_by d 0 name slot.last.0 own (Indirection generation main) account)
    added : IsAdded d account (Indirection generation main) (made_by d 0 name slot.last.0 own (Indirection generation main) account)
    next : made_node (now (seen d account)) (act.MakeRoot main) ≡ Some (Indirection generation main)

  it : IsIt
  it =
      let (account, waited, took, (main, rest, other, own, p, w, is, added, gens)) = tried.2.1.0 refl in
      let pools = same_from_push rest slot.last.0 other name (sym w.last ∙ ap (λ (x : View). pool_of x.pool 0) tried.1 ∙ slot.last.1) in
      let is_it = is ∙ ap (λ xs. made_by d 0 other xs own (Indirection generation main) account) pools.0
      ∙ ap (λ x. made_by d 0 x slot.last.0 own (Indirection generation main) account) pools.1 in
      record {
        account = account;
        waited = waited;
        main = main;
        own = own;
        making = p;
        is = is_it;
        took = subst (Took d account) is_it took;
        added = subst (IsAdded d account (Indirection generation main)) is_it added;
        next = ap (λ g. Some (Indirection g main)) gens;
      }

  new_at : HasNew d (Indirection generation it.main) name after
  new_at =
      subst (HasNew d (Indirection generation it.main) name) (sym it.is)
      (has_new n d sound_d it.account it.waited 0 name slot.last.0 it.own (Indirection generation it.main) it.added (act.MakeRoot it.main) it.making it.next it.took)

  pub root_made : HasRoot before (Some name) after
  root_made l main at e =
      let h = subst (λ x. HasNew x (Indirection generation it.main) name after) moved new_at in
      record {
        made = h.made;
        placed = h.placed;
        become = record {
          follows = record {
            is = h.become.follows.is;
            places = h.become.follows.places;
            owns = h.become.follows.owns;
            nodes = h.become.follows.nodes;
            goes_on = h.become.follows.goes_on;
          };
          comes = λ o r.
              subst (λ x. Runs after (record o { private = o.private ++ h.made ∷ []; line = line_made (now before) (record o { line = x }) x h.made }) → Runs after (new_root_on l h.made o))
              (sym (copy_line before l at o r)) (λ x. x) (h.become.comes o r);
        };
      }

  -- and noted
  pub root_noted : (stock next : Stocked) → IsStock stock mid → next.sizes ≡ stock.sizes → NotesLast stock kinds.Indirection 0 next → next.limbo ≡ stock.limbo → IsStock next after
  root_noted stock next is sizes noted limbo =
      let (pool, made_is) = noted slot.last.0 name (ap (λ x. pool_of x 0) is.pool ∙ slot.last.1) in
      subst (IsStock next) (sym it.is)
      (stock_made n d sound_d it.account it.waited 0 name slot.last.0 it.own (Indirection generation it.main) it.added (act.MakeRoot it.main) it.making it.next it.took stock next
      (subst (IsStock stock) (sym tried.1) (record { sizes = is.sizes; pool = is.pool; made = is.made; limbo = limbo_so stock stock mid _ is refl refl })) sizes pool made_is refl limbo)

-- it was not made
pub root_unmade : (stock : Stocked) (mid after : View) → HasTriedRoot mid false after → IsStock stock mid → IsStock stock after
root_unmade stock mid after tried owns =
    let e = tried.2.1.1 refl ∙ tried.1 in stock_elsewhere stock mid after (e ∙ ap (λ (x : View). record mid { drafts = x.drafts; opens = x.opens; opening = x.opening }) (sym e)) owns
