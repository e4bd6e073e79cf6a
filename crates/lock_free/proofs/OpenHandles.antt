-- Exchanges of the word of a handle: an offer that is settled is taken out of it, and a mark that a seat would close the handle is made or taken away.
use Rattle.history.specs.declared.calls.Call.{Call}
use Rattle.std.proofs.Common.{◌≡◌, ◌≢◌, ◌^◌, ◌==◌, ◌⊎◌, ℕ, ◌<◌, ◌≤◌, inl, inr, Bool, true, false, List, ◌∷◌, [], Contains, set, slice_index, Option, Some, None, refl, sym, ap, subst, ◌∙◌, arith}
use Rattle.std.proofs.Common.{if◌then◌else◌}
use Rattle.std.proofs.lemmas.Bool.{cases_eq, ne_eqb, false≢true}
use Rattle.std.proofs.lemmas.List.Elements.{Contains-get_or}
use mathlib.Core.Option.{some}
use lib.ListN.{get_elem?}
use Rattle.atomic_table.specs.Table as Table
use Rattle.atomic_table.proofs.Lists.{at_set}
use Rattle.trie_words.specs.Codes.{root_code, IsRootWord}
use Rattle.trie_words.specs.declared.roots.RootWord.{RootWord as HandleWord}
use Rattle.trie_words.specs.declared.roots.RootWord.TheVariants as word
use Rattle.history.specs.declared.calls.Access.{Access}
use Rattle.history.specs.declared.calls.Access.TheVariants.{Writable, ReadOnly}
use Rattle.machine_model.specs.Beneath.slot_arena.specs.declared.refs.Ref.{Ref}
use Rattle.machine_model.specs.Beneath.slot_arena.specs.Refs.{slot_of}
use Rattle.machine_model.specs.Acting.{opened_root}
use Rattle.machine_model.specs.Counting.{refs_of_root}
use Rattle.machine_model.specs.declared.roots.Descriptor.{Descriptor}
use Rattle.machine_model.specs.declared.roots.RootWord.TheVariants.{Plain, Offer}
use Rattle.machine_model.specs.States.{State, root_at, handle_limit}
use Rattle.lock_free.specs.declared.accounts.Known.{Known}
use Rattle.lock_free.specs.declared.rules.Closing.{Closing}
use Rattle.lock_free.specs.declared.rules.View.{View}
use Rattle.lock_free.specs.declared.sizes.Sizes.{Sizes}
use Rattle.lock_free.specs.Accounts.{state_of, place_of}
use Rattle.lock_free.specs.Live.{from_root}
use Rattle.lock_free.specs.Nodes.{class_of}
use Rattle.lock_free.specs.Places.{root_word}
use Rattle.lock_free.specs.Roots.{fate, undecided, carried_out, meant, opened_by, open_with}
use Rattle.lock_free.specs.RootWords.{settled_root}
use Rattle.lock_free.specs.Rules.{IsClosing, SaysClosing, IsSeat, IsKept}
use Rattle.lock_free.proofs.Asked.{live_in_use}
use Rattle.lock_free.proofs.Assembling.{all_stand, here, closing_at}
use Rattle.lock_free.proofs.Closers.{newest, older}
use Rattle.lock_free.proofs.Framing.{has_words, class_small, node_end}
use Rattle.lock_free.proofs.RootCodes.{kind, same_kind}
use Rattle.lock_free.proofs.RootFound.{slot_fits, offered_is, opening_is}
use Rattle.lock_free.proofs.RootSteps as root
use Rattle.lock_free.proofs.Rewritten.{SaysSame, rewrite_kept}

-- ---- which root a settled offer leaves

plain_if : (b : Bool) (x y : Ref) → (if b then Plain x else Plain y) ≡ Plain (if b then x else y)
plain_if true x y = refl
plain_if false x y = refl

meant_plain : (n : ℕ) (offer : Descriptor) → n ≢ undecided → meant n offer ≡ Plain (settled_root n offer)
meant_plain n offer decided =
    ap (λ b. if b then Offer offer else (if n == 1 then Plain offer.successor else Plain offer.root)) (ne_eqb n 0 decided) ∙ plain_if (n == 1) offer.successor offer.root

-- and under the handle that it opens
abbrev pub opened_access : Option Ref → Access
opened_access (Some second) = Writable
opened_access None = ReadOnly

abbrev pub opened_ref : Descriptor → Option Ref → Ref
opened_ref offer (Some second) = second
opened_ref offer None = offer.root

opened_plain : (offer : Descriptor) (second : Option Ref) → Some (opened_root offer second) ≡ open_with (opened_access second) (Plain (opened_ref offer second))
opened_plain offer (Some second) = refl
opened_plain offer None = refl

module _ (sizes : Sizes) (s : Table.State Call View) (kept : IsKept sizes s) (handle : ℕ) (low : handle < handle_limit) where
  abbrev now : State
  now = state_of sizes kept.account

  k_fits : (k : Known) → Contains kept.account.offers k → k.slot < 2 ^ 27
  k_fits k c = slot_fits sizes s.words kept.range kept.taken k.slot (kept.roots.blocks k c)

  -- the handle's word names an offer that is settled
  pub settled_is : (k : Known) → Contains kept.account.offers k → fate s.words k ≢ undecided → slice_index s.words (root_word handle) ≡ root_code (word.Offered k.slot) →
      root_at now handle ≡ open_with Writable (Plain (settled_root (fate s.words k) k.offer))
  settled_is k c decided is = offered_is sizes kept.account s.words kept.roots handle low k c (k_fits k c) is ∙ ap (open_with Writable) (meant_plain (fate s.words k) k.offer decided)

  -- or one that has opened it
  pub opened_is : (k : Known) → Contains kept.account.offers k → fate s.words k ≡ carried_out → slice_index s.words (root_word handle) ≡ root_code (word.Opening k.slot) →
      root_at now handle ≡ open_with (opened_access k.offer.second) (Plain (opened_ref k.offer k.offer.second))
  opened_is k c carried is =
      (opening_is sizes kept.account s.words kept.roots handle low k c (k_fits k c) is).1 ∙ ap (λ n. opened_by n k.offer) carried ∙ opened_plain k.offer k.offer.second

  -- the place of an open handle's root is in range
  pub root_fits : (access : Access) (q : Ref) → root_at now handle ≡ open_with access (Plain q) → place_of kept.account q < 2 ^ 27
  root_fits access q plain =
      let used = live_in_use sizes kept.account kept.bounds q (from_root handle q (subst (λ r. Contains (refs_of_root r) q) (sym plain) (Contains-get_or (q ∷ []) 0 q (omega arith)))) in
      let inside = node_end sizes used.0.node (place_of kept.account q) (kept.nodes.inside (slot_of q) used.0 used.1) in
      let some = has_words (class_of used.0.node) (class_small used.0.node) in
      let range = kept.range.within in
      omega (arith, inside, some, range)

-- ---- exchanges

pub not_closing : (w : HandleWord) (who : ℕ) → IsRootWord w → kind w < 6 → SaysClosing (root_code w) who → ⊥
not_closing w who fits unmarked (inl h) = let same = same_kind w (word.ClosingWritable h.0 who) fits h.1 h.2 in omega (arith, same, unmarked)
not_closing w who fits unmarked (inr h) = let same = same_kind w (word.ClosingReadOnly h.0 who) fits h.1 h.2 in omega (arith, same, unmarked)

module _ (sizes : Sizes) (s : Table.State Call View) (kept : IsKept sizes s) (id : ℕ) (v : View) (at : get_elem? s.views id ≡ some v) (handle : ℕ) (low : handle < handle_limit) (w : HandleWord)
    (fits : IsRootWord w) (is : SaysSame sizes s kept handle w) where
  abbrev pub words_then : List ℕ
  words_then = set s.words (root_word handle) (root_code w)

  seat : IsSeat sizes kept.account kept.stands s.words v
  seat = kept.seats id v at

  root_beside : (g : ℕ) → g ≢ handle → slice_index words_then (root_word g) ≡ slice_index s.words (root_word g)
  root_beside = root.else_root sizes kept.account kept.stands s.words (all_stand sizes s kept) handle low (root_code w)

  root_here : slice_index words_then (root_word handle) ≡ root_code w
  root_here = root.at_it sizes kept.account kept.stands s.words (all_stand sizes s kept) handle low (root_code w)

  says_else : (g who : ℕ) → g ≢ handle → SaysClosing (slice_index words_then (root_word g)) who → SaysClosing (slice_index s.words (root_word g)) who
  says_else g who differs says = subst (λ n. SaysClosing n who) (root_beside g differs) says

  -- a word without a mark
  module _ (unmarked : kind w < 6) where
    says_none : (g who : ℕ) → g ≡ handle → SaysClosing (slice_index words_then (root_word g)) who → ⊥
    says_none g who same says = not_closing w who fits unmarked (subst (λ n. SaysClosing n who) (ap (λ n. slice_index words_then (root_word n)) same ∙ root_here) says)

    -- by a seat that would close it, or not: an offer or another's mark is taken out
    pub clean_kept : IsKept sizes (record { words = words_then; homes = s.homes; views = set s.views id v })
    clean_kept =
        rewrite_kept sizes s kept id v at handle low w fits is v.entered v.closing seat.entered seat.calls
        (λ g who below says. elim (cases_eq g handle) [
          | inl same ↦ absurd (says_none g who same says)
          | inr differs ↦ closing_at sizes s kept id v at v refl refl g who (λ e. (e, refl)) (λ c this on its. this) (λ c. c) (kept.closings g who below (says_else g who differs says))
        ])

  -- the seat marks the handle: it would close it, and has looked at nobody's pin yet
  module _ (marks : (who : ℕ) → SaysClosing (root_code w) who → who ≡ v.actor) (unsure : v.passed.cleared ≡ false) where
    abbrev pub begins : Closing
    begins = record { handle = handle; looked = 0 }

    abbrev pub marking : View
    marking = record v { closing = begins ∷ v.closing }

    positive : (other : ℕ) (x : View) → get_elem? (set s.views id marking) other ≡ some x → 0 < x.actor
    positive other x e = elim (at_set s.views id other marking x e) [
      | inl h ↦ subst (λ (y : View). 0 < y.actor) h.1 seat.low
      | inr h ↦ (kept.seats other x h.1).low
    ]

    none_yet : (v.passed.cleared ≡ true) ⊎ (1 ≤ 0) → ⊥
    none_yet (inl cleared) = false≢true (sym unsure ∙ cleared)
    none_yet (inr less) = omega (arith, less)

    closes_here : (who : ℕ) → who ≡ v.actor → IsClosing (set s.views id marking) handle who
    closes_here who own = record {
      id = id;
      view = marking;
      at = here sizes s kept id v at marking refl refl;
      its = sym own;
      closing = begins;
      is = newest begins v.closing;
      this = refl;
      none = λ other x e inside apart shown. positive other x e;
      clear = λ some other x e inside apart. absurd (none_yet some);
    }

    pub mark_kept : IsKept sizes (record { words = words_then; homes = s.homes; views = set s.views id marking })
    mark_kept =
        rewrite_kept sizes s kept id v at handle low w fits is v.entered (begins ∷ v.closing) seat.entered seat.calls
        (λ g who below says. elim (cases_eq g handle) [
          | inl same ↦
              subst (λ n. IsClosing (set s.views id marking) n who) (sym same)
              (closes_here who (marks who (subst (λ n. SaysClosing n who) (ap (λ n. slice_index words_then (root_word n)) same ∙ root_here) says)))
          | inr differs ↦
              closing_at sizes s kept id v at marking refl refl g who (λ e. (e, refl)) (λ c is_it on own. older begins v.closing g (λ e. differs (sym e)) ∙ is_it) (λ c. c)
              (kept.closings g who below (says_else g who differs says))
        ])
