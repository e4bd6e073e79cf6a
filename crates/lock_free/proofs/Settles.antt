-- What the exchanges of a READ come to.
use Rattle.std.proofs.Common.{◌≡◌, ◌≢◌, ◌^◌, ◌<◌, ◌==◌, ℕ, inl, inr, Bool, true, false, [], ◌∷◌, Contains, Option, Some, refl, sym, ap, subst, ◌∙◌, arith, nat_eq}
use Rattle.std.proofs.lemmas.Bool.{eqb-true}
use Rattle.std.proofs.lemmas.List.Elements.{Contains-get_or, Contains-append_left}
use Rattle.std.proofs.lemmas.Option.{same_Some}
use Rattle.std.specs.Option.{option_eq}
use Rattle.trie_words.specs.declared.headers.Header.{Header}
use Rattle.trie_words.specs.declared.headers.Previous.TheVariants as previous
use Rattle.trie_words.specs.declared.links.Link.{Link}
use Rattle.trie_words.specs.declared.names.Name.{Name}
use Rattle.machine_model.specs.Beneath.slot_arena.specs.declared.refs.Ref.{Ref}
use Rattle.machine_model.specs.Beneath.slot_arena.specs.declared.nodes.Slot.{Slot}
use Rattle.machine_model.specs.Beneath.slot_arena.specs.Heaps.{main_at, prev_at, refs_of_node, refs_of_prev}
use Rattle.machine_model.specs.Beneath.slot_arena.specs.Refs.{slot_of}
use Rattle.machine_model.specs.declared.actions.Action.TheVariants as act
use Rattle.machine_model.specs.declared.reading.After.TheVariants.{Goes}
use Rattle.machine_model.specs.declared.reading.ReadLine.{ReadLine}
use Rattle.machine_model.specs.declared.reading.ReadLine.TheVariants as read
use Rattle.machine_model.specs.Reading.{is_licensed, is_pending, verdict_by, after_decide, after_restore}
use Rattle.proof_memory.specs.Wants.{is_main_node}
use Rattle.lock_free.specs.Accounts.{place_of}
use Rattle.lock_free.specs.declared.reading.Passed.{Passed}
use Rattle.lock_free.specs.declared.reading.Passed.TheVariants as passed
use Rattle.lock_free.specs.declared.reading.ReadFrom.TheVariants as resume
use Rattle.lock_free.specs.declared.reading.Way.{Way}
use Rattle.lock_free.specs.declared.rules.View.{View}
use Rattle.lock_free.specs.Exchanging.{IsNamed, IsNamedOrGone, IsAtDecide, HasDecided, IsAtRestore, HasRestored}
use Rattle.lock_free.specs.Loading.{now, seen, IsAt, IsUsed, IsSound, Holds, HoldsSlot, HasSeenMain}
use Rattle.lock_free.specs.Nodes.{class_of}
use Rattle.lock_free.specs.Passing.{Later, HasCome, IsReading, IsOnWay, KnowsLink, KnowsMain, HasGiven, GoesToAsk}
use Rattle.lock_free.specs.Passing.{PassedBy, HasPassed, pending_line, IsDeciding, IsPending, HasLicense, StillAsks, IsFailed}
use Rattle.lock_free.proofs.Asked.{mains_of, main_stands, gone_stays}
use Rattle.lock_free.proofs.Comings.{at_read, all_read, came, come_on, reading_one, reading_then, saw_come, way_then}
use Rattle.lock_free.proofs.Framing.{class_small, node_end}
use Rattle.lock_free.proofs.Laters.{main_kind, went_later, saw_later, used_later, placed_later, named_later, link_later, main_later, pending_later, pending_over}
use Rattle.lock_free.proofs.OnePass.{passes_on}
use Rattle.lock_free.proofs.ReadHolds.{reading_holds}
use Rattle.lock_free.proofs.Within.{two_words}

-- ---- the licence

-- what was told is the indirection's generation, or isn't
pub license_is : (v : View) (i main : Ref) (link : Link) (told : Option ℕ) → KnowsLink v i main link → is_licensed (now v).heap i told ≡ option_eq nat_eq told (Some link.generation)
license_is v i main link told k = ap (λ g. option_eq nat_eq told (Some g)) (sym k.is.generation)

-- ---- deciding

-- the root was asked
module _ (before middle : View) (way : Way) (link : Link) (header : Header) (pending : IsPending before way link header) where
  abbrev i1 : Ref
  i1 = pending.0

  abbrev main1 : Ref
  main1 = pending.1

  abbrev replaced1 : Ref
  replaced1 = pending.2

  abbrev asks : ReadLine
  asks = pending_line way.access main1 replaced1

  module _ (licensed : Bool) (license : HasLicense before way link licensed middle) where
    told : (told : Option ℕ) × HasCome (Goes (read.Decide main1 replaced1 told)) before middle × (is_licensed (now middle).heap i1 told ≡ licensed)
    told = license i1 main1 replaced1 pending.3 pending.4

    pub is_deciding : IsDeciding middle link header licensed
    is_deciding = record {
      i = i1;
      main = main1;
      replaced = replaced1;
      told = told.0;
      reading = reading_then before middle i1 asks (read.Decide main1 replaced1 told.0) pending.3 told.1;
      licensed_is = told.2;
      link_is = link_later before middle told.1.later i1 main1 link pending.4;
      header_is = pending_later before middle told.1.later i1 main1 replaced1 header pending.5;
    }

    pub decided_passes : (result : Passed) (after : View) → HasPassed middle result after → HasPassed before result after
    unfolding is_deciding told
    decided_passes result after h j y is =
        subst (λ z. PassedBy before z result after) (reading_one before i1 j asks y pending.3 is).0
        (passes_on before middle after i1 (read.Decide main1 replaced1 told.0) result told.1 (h i1 (read.Decide main1 replaced1 told.0) is_deciding.reading))

  -- or is still to be asked
  pub still_to_ask : IsOnWay before way → StillAsks before way middle → HasPassed before (passed.Again (resume.Asking link header)) middle
  still_to_ask on (writable, again) j y is =
      let reading = subst (λ a. IsReading before i1 (pending_line a main1 replaced1)) writable pending.3 in
      let come = again i1 main1 replaced1 reading in
      subst (λ z. GoesToAsk before z link header middle) (reading_one before i1 j asks y pending.3 is).0
      (record {
        main = main1;
        replaced = replaced1;
        come = come;
        writable = λ o r. (way_then before middle i1 (read.AskRoot main1 replaced1) (Goes (read.AskRoot main1 replaced1)) way reading come on o r).0 ∙ writable;
        link_is = link_later before middle come.later i1 main1 link pending.4;
        header_is = pending_later before middle come.later i1 main1 replaced1 header pending.5;
      })

module _ (middle : View) (link : Link) (header : Header) (licensed : Bool) (d : IsDeciding middle link header licensed) where
  abbrev i : Ref
  i = d.i

  abbrev main : Ref
  main = d.main

  abbrev replaced : Ref
  replaced = d.replaced

  abbrev deciding : IsReading middle i (read.Decide main replaced d.told)
  deciding = d.reading

  pub decide_ready : IsAtDecide middle link.main.slot header licensed
  decide_ready =
      (i, main, replaced, d.told, at_read middle i (read.Decide main replaced d.told) deciding, d.link_is.is.names.place, pending_over middle i main replaced header d.header_is, d.licensed_is)

  module _ (n m : ℕ) (after : View) (sound : IsSound n middle) (then : IsSound m after) (stood : Bool) (g : HasDecided middle stood after) where
    its_later : Later middle after
    its_later = went_later n middle sound m after then g.0

    comes : HasCome (after_decide main (verdict_by licensed stood)) middle after
    comes =
        let x = g.1 i main replaced d.told (at_read middle i (read.Decide main replaced d.told) deciding) in
        came middle after i (read.Decide main replaced d.told) deciding its_later g.0 (after_decide main (verdict_by licensed stood))
        (λ o r. ap (λ a. after_decide main (verdict_by a (is_pending (prev_at (now (seen middle g.0.account)).heap main) replaced))) (x.1 ∙ d.licensed_is) ∙ ap
        (λ b. after_decide main (verdict_by licensed b)) x.0)

    link_then : KnowsLink after i main link
    link_then = link_later middle after its_later i main link d.link_is

    main_then : KnowsMain after main header
    main_then = main_later middle after its_later main header d.header_is.main_is

    same_link : (j : Ref) (y : ReadLine) → IsReading middle j y → i ≡ j
    same_link j y reading = (reading_one middle i j (read.Decide main replaced d.told) y deciding reading).0

    -- it is committed, and given
    pub commits : licensed ≡ true → stood ≡ true → (j : Ref) (y : ReadLine) → IsReading middle j y → HasGiven middle j
        (record { link = link; header = record { previous = previous.None; shape = header.shape } }) after
    commits a b j y reading =
        subst (λ k. HasGiven middle k (record { link = link; header = record { previous = previous.None; shape = header.shape } }) after) (same_link j y reading)
        (record {
          main = main;
          come = subst (λ z. HasCome (after_decide main z) middle after) (ap (λ z. verdict_by z stood) a ∙ ap (verdict_by true) b) comes;
          link = link_then;
          header = record { slot = main_then.slot; used = main_then.used; is_main = main_then.is_main; is_shape = main_then.is_shape; fits = (tt, main_then.fits.1); names = main_then.names };
        })

    -- another one decided it, so its header is read again
    pub overtaken : licensed ≡ true → stood ≡ false → (j : Ref) (y : ReadLine) → IsReading middle j y → (k : Ref) × HasCome (Goes (read.Prev k)) middle after × KnowsLink after j k link
    overtaken a b j y reading =
        subst (λ z. (k : Ref) × HasCome (Goes (read.Prev k)) middle after × KnowsLink after z k link) (same_link j y reading)
        (main, subst (λ z. HasCome (after_decide main z) middle after) (ap (λ z. verdict_by z stood) a ∙ ap (verdict_by true) b) comes, link_then)

    from_main : (b : Bool) → after_decide main (verdict_by false b) ≡ Goes read.Main
    from_main true = refl
    from_main false = refl

    -- it has failed, or another one decided it: the READ begins anew
    pub fails : licensed ≡ false → HasCome (Goes read.Main) middle after
    fails a = subst (λ z. HasCome z middle after) (ap (λ z. after_decide main (verdict_by z stood)) a ∙ from_main stood) comes

-- ---- putting back

module _ (before : View) (indirection : ℕ) (link : Link) (former : Name) (f : IsFailed before indirection link former) where
  abbrev i0 : Ref
  i0 = f.0

  abbrev main0 : Ref
  main0 = f.1

  abbrev old : Ref
  old = f.2

  abbrev reading0 : IsReading before i0 (read.Restore main0 old)
  reading0 = f.3

  at_it : IsAt before (act.Restore i0 main0 old)
  at_it = at_read before i0 (read.Restore main0 old) reading0

  -- the main node before is at hand
  holds : Holds before old
  holds =
      let o = at_it.operation in
      let is = all_read before i0 (read.Restore main0 old) reading0 o (o.is_marked, at_it.runs) in
      (o, at_it.runs, inl (reading_holds (now before) o (record { indirection = i0; line = read.Restore main0 old }) is old (Contains-get_or (i0 ∷ main0 ∷ old ∷ []) 2 old (omega arith))))

  pub held : HoldsSlot before former.slot
  held = (old, holds, f.7.1)

  pub former_small : (n : ℕ) → IsSound n before → former.slot < 2 ^ 27
  former_small n sound =
      let used = f.7.0 in
      let inside = node_end before.sizes used.0.node (place_of before.account old) (sound.inside (slot_of old) used.0 used.1) in
      let two = two_words (class_of used.0.node) (class_small used.0.node) in
      let range = sound.range in
      let place = f.7.1 in
      omega (arith, inside, two, range, place)

  module _ (n m : ℕ) (middle : View) (sound : IsSound n before) (then : IsSound m middle) (header : Header) (g : HasSeenMain before former.slot header middle) where
    later0 : Later before middle
    later0 = saw_later n before sound middle g.0

    come0 : HasCome (Goes (read.Restore main0 old)) before middle
    come0 = saw_come before middle i0 (read.Restore main0 old) reading0 later0 g.0

    restoring : IsReading middle i0 (read.Restore main0 old)
    restoring = reading_then before middle i0 (read.Restore main0 old) (read.Restore main0 old) reading0 come0

    gone_then : main_at (now before).heap i0 ≢ main0 → main_at (now middle).heap i0 ≢ main0
    gone_then gone =
        subst (λ (x : View). main_at (now x).heap i0 ≢ main0) (sym g.0.after_is)
        (gone_stays before.sizes before.actor before.account g.0.account g.0.waited.waited g.0.waited.sound.bounds at_it.operation at_it.runs i0 main0 old at_it.acts gone)

    named_now : IsNamedOrGone before i0 main0 old former → IsNamedOrGone middle i0 main0 old former
    named_now (inl names) = inl (named_later before middle later0 i0 old former f.7.0 names)
    named_now (inr gone) = inr (gone_then gone)

    link_mid : KnowsLink middle i0 main0 link
    link_mid = link_later before middle later0 i0 main0 link f.5

    pub restore_ready : IsAtRestore middle indirection link former
    restore_ready = (i0, main0, old, at_read middle i0 (read.Restore main0 old) restoring, (placed_later before middle later0 i0 indirection f.4).1, link_mid.is, named_now f.6)

    -- the header that was seen is that of the main node before
    header_mid : KnowsMain middle old header
    header_mid =
        let used = f.7.0 in
        let o = at_it.operation in
        let stands = main_stands before.sizes before.account sound.bounds before.actor o at_it.runs old
        (subst (λ a. Contains (mains_of a) old) (sym at_it.acts) (Contains-get_or (main0 ∷ old ∷ []) 1 old (omega arith))) in
        let is = same_Some stands.1.0 used.0 (sym stands.1.1 ∙ used.1) in
        let v = seen before g.0.account in
        let x = later0.nodes old used.0 used.1 in
        let there = subst (λ (z : View). IsUsed z old x.0) g.0.after_is x.1 in
        let kind = main_kind used.0.node x.0.node x.2 (subst (λ (z : Slot). is_main_node z.node ≡ true) is stands.1.2) in
        let h = g.1 old holds f.7.1 x.0 there kind in
        let known : KnowsMain v old header = record {
          slot = h.slot;
          used = h.stores;
          is_main = h.is_main;
          is_shape = h.is_shape;
          fits = h.fits;
          names = λ r c. h.used r (Contains-append_left (refs_of_node h.slot.node) (refs_of_prev h.slot.prev) r c);
        } in
        subst (λ z. KnowsMain z old header) (sym g.0.after_is) known

    module _ (k : ℕ) (after : View) (last : IsSound k after) (stood : Bool) (r : HasRestored middle stood after) where
      later1 : Later middle after
      later1 = went_later m middle then k after last r.0

      abbrev at_mid : IsAt middle (act.Restore i0 main0 old)
      at_mid = at_read middle i0 (read.Restore main0 old) restoring

      stood_is : (main_at (now (seen middle r.0.account)).heap i0 == main0) ≡ stood
      stood_is = r.1 i0 main0 old at_mid

      comes_back : HasCome (after_restore old stood) before after
      comes_back =
          come_on before middle after (read.Restore main0 old) (after_restore old stood) come0
          (came middle after i0 (read.Restore main0 old) restoring later1 r.0 (after_restore old stood) (λ o x. ap (after_restore old) stood_is))

      -- where it was put back, its name is known
      name_then : stood ≡ true → IsNamedOrGone middle i0 main0 old former → IsNamed after i0 old former
      name_then e (inl names) = named_later middle after later1 i0 old former (used_later before middle later0 old f.7.0) names
      name_then e (inr gone) =
          absurd (gone_stays middle.sizes middle.actor middle.account r.0.account r.0.waited.waited r.0.waited.sound.bounds at_mid.operation at_mid.runs i0 main0 old at_mid.acts gone
          (eqb-true (main_at (now (seen middle r.0.account)).heap i0) main0 (stood_is ∙ e)))

      pub puts_back : stood ≡ true → (j : Ref) (y : ReadLine) → IsReading before j y → HasGiven before j
          (record { link = record { generation = link.generation; main = former }; header = header }) after
      puts_back e j y reading =
          let link_end = link_later middle after later1 i0 main0 link link_mid in
          subst (λ z. HasGiven before z (record { link = record { generation = link.generation; main = former }; header = header }) after)
          (reading_one before i0 j (read.Restore main0 old) y reading0 reading).0
          (record {
            main = old;
            come = subst (λ z. HasCome (after_restore old z) before after) e comes_back;
            link = record {
              is = record { generation = link_end.is.generation; names = name_then e (named_now f.6) };
              fits = (link_end.fits.0, former_small n sound);
              link_used = link_end.link_used;
              main_used = used_later middle after later1 old (used_later before middle later0 old f.7.0);
            };
            header = main_later middle after later1 old header header_mid;
          })

      pub missed_it : stood ≡ false → HasCome (Goes read.Main) before after
      missed_it e = subst (λ z. HasCome (after_restore old z) before after) e comes_back
