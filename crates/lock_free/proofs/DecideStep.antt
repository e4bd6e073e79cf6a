-- The exchange of a header is the operation's step, whether it finds the main node pending or not.
use Rattle.history.specs.declared.calls.Call.{Call}
use Rattle.std.proofs.Common.{◌≤◌, ◌≡◌, ◌*◌, ◌==◌, ℕ, Bool, true, false, [], ◌∷◌, set, slice_index, Option, Some, None, refl, sym, ap, subst, ◌∙◌, arith, if◌then◌else◌, eq-eqb, ne_eqb}
use Rattle.std.proofs.lemmas.List.Elements.{Contains-get_or}
use mathlib.Core.Option.{some, none}
use lib.ListN.{get_elem?}
use prog.Atomic.{either}
use Rattle.atomic_table.specs.Table.{Me, step}
use Rattle.atomic_table.specs.Table as Table
use Rattle.trie_words.specs.Codes.{IsHeader, header_code}
use Rattle.trie_words.specs.declared.headers.Header.{Header}
use Rattle.trie_words.specs.declared.headers.Previous.{Previous}
use Rattle.trie_words.specs.declared.headers.Previous.TheVariants as previous
use Rattle.trie_words.specs.declared.names.Name.{Name}
use Rattle.machine_model.specs.Beneath.slot_arena.specs.declared.refs.Ref.{Ref}
use Rattle.machine_model.specs.Beneath.slot_arena.specs.declared.nodes.Prev.{Prev}
use Rattle.machine_model.specs.Beneath.slot_arena.specs.declared.nodes.Prev.TheVariants as prev
use Rattle.machine_model.specs.Beneath.slot_arena.specs.declared.nodes.Slot.{Slot}
use Rattle.machine_model.specs.Beneath.slot_arena.specs.Heaps.{no_ref, prev_at, main_at}
use Rattle.machine_model.specs.Beneath.slot_arena.specs.Refs.{slot_of}
use Rattle.machine_model.specs.declared.actions.Action.{Action}
use Rattle.machine_model.specs.declared.actions.Action.TheVariants as act
use Rattle.std.specs.Option.{option_eq}
use Rattle.std.proofs.Common.{nat_eq, inl}
use Rattle.trie_words.specs.declared.headers.Shape.{Shape}
use Rattle.machine_model.specs.Reading.{is_licensed, is_pending}
use Rattle.proof_memory.specs.Wants.{is_main_node}
use Rattle.lock_free.specs.declared.accounts.Account.{Account}
use Rattle.lock_free.specs.declared.rules.View.{View}
use Rattle.lock_free.specs.declared.sizes.Sizes.{Sizes}
use Rattle.lock_free.specs.Accounts.{state_of, place_of, gone_on}
use Rattle.lock_free.specs.Deciding.{says_then, Decides}
use Rattle.lock_free.specs.Exchanging.{IsPendingOver, decided_previous, decided_header, IsAtDecide, HasDecided}
use Rattle.lock_free.specs.Loading.{Moment, now, seen, IsAt, HasGone, has_gone}
use Rattle.lock_free.specs.Nodes.{SaysPrevious, SaysShape, SaysHeader}
use Rattle.lock_free.specs.Rules.{IsKept}
use Rattle.lock_free.proofs.CountWords.{Apart}
use Rattle.lock_free.proofs.Assembling.{all_stand}
use Rattle.lock_free.proofs.Decided.{all_then}
use Rattle.lock_free.proofs.DecidedKept.{decide_kept}
use Rattle.lock_free.proofs.Exchanged.{AllowsExchange, Leaves, words_hit, missed, sound_by}
use Rattle.lock_free.proofs.LinkWords.{same_generation}
use Rattle.lock_free.proofs.Looking.{went, link_there, same_action}
use Rattle.lock_free.proofs.Moments.{allowed, took_by, its_place, node_apart}
use Rattle.lock_free.proofs.Verdicts.{o, runs, main_is, shape_now, previous_now, case_is, Case, was_pending, was_decided}
use Rattle.lock_free.proofs.Lettings.{TakesNone}
use Rattle.lock_free.proofs.Looking.{acts_there, main_there}
use Rattle.machine_model.specs.Operations.{action_of}

-- what an exchange writes over a header that is pending
verdict_says : (licensed : Bool) (verdict : Prev) (says : Previous) (name : Name) (replaced : Ref) → says ≡ previous.Pending name → verdict ≡ (if licensed then prev.None else prev.Failed replaced) →
    decided_previous licensed says ≡ says_then verdict says
verdict_says true verdict says name replaced is v = ap (λ x. says_then x says) (sym v)
verdict_says false verdict says name replaced is v = ap (decided_previous false) is ∙ ap (says_then (prev.Failed replaced)) (sym is) ∙ ap (λ x. says_then x says) (sym v)

module _ (v : View) (i main replaced : Ref) (told : Option ℕ) (p : IsAt v (act.Decide i main replaced told)) (name : ℕ) (place : place_of v.account main ≡ name) (header : Header)
    (fits : IsHeader header)
    (over : IsPendingOver v i main replaced header) (licensed : Bool) (license : is_licensed (now v).heap i told ≡ licensed) where
  abbrev word : ℕ
  word = 2 * name

  abbrev old : ℕ
  old = header_code header

  abbrev new : ℕ
  new = header_code (decided_header licensed header)

  module _ (s : Table.State Call View) (kept : IsKept v.sizes s) (id : ℕ) (at : get_elem? s.views id ≡ some v) where
    abbrev found : ℕ
    found = slice_index s.words word

    abbrev m : Moment v word found
    m = record { table = s; kept = kept; id = id; at = at; finds = refl }

    its_word : word ≡ 2 * place_of v.account main
    its_word = ap (λ n. 2 * n) (sym place)

    abbrev there : Account
    there = kept.account

    abbrev after : View
    after = seen v (gone_on v.actor there)

    -- a licence stays
    pub same_license : is_licensed (state_of v.sizes there).heap i told ≡ is_licensed (now v).heap i told
    same_license =
        let link = (link_there v word found m (act.Decide i main replaced told) i (Contains-get_or (i ∷ []) 0 i (omega arith)) p).0 in
        let same = same_generation v s kept id at i link in
        ap (λ g. option_eq nat_eq told (Some g)) same

    case : Case v word found m i main replaced told p its_word header fits over
    case = case_is v word found m i main replaced told p its_word header fits over

    pub is_elsewhere : Apart v.sizes word
    is_elsewhere = node_apart v s kept id at main (main_is v word found m i main replaced told p its_word header fits over).0 word its_word

    abbrev Left : Type 0
    Left = Leaves v s kept id at word old new

    -- the main node stands, and the one over which it was pending
    takes : TakesNone kept.stands (state_of v.sizes there) (o v word found m i main replaced told p its_word header fits over)
        (action_of (state_of v.sizes there) (o v word found m i main replaced told p its_word header fits over))
    takes =
        let does = act.Decide i main replaced told in
        subst (TakesNone kept.stands (state_of v.sizes there) (o v word found m i main replaced told p its_word header fits over)) (sym (acts_there v word found m does p)) (
          kept.nodes.live replaced (main_there v word found m does replaced (Contains-get_or (main ∷ replaced ∷ []) 1 replaced (omega arith)) p).0.lives,
          (main_is v word found m i main replaced told p its_word header fits over).0.lives,
        )

    module _ (d : Decides v.sizes there v.actor (o v word found m i main replaced told p its_word header fits over) main replaced)
        (verdict : d.verdict ≡ (if is_licensed (state_of v.sizes there).heap i told then prev.None else prev.Failed replaced))
        (same : d.slot ≡ (main_is v word found m i main replaced told p its_word header fits over).0.slot)
        (stands : main_at (state_of v.sizes there).heap i ≡ main) where
      here : kept.stands (slot_of main) ≡ true
      here = kept.nodes.live main (main_is v word found m i main replaced told p its_word header fits over).0.lives

      is_main : is_main_node d.slot.node ≡ true
      is_main = ap (λ (x : Slot). is_main_node x.node) same ∙ (main_is v word found m i main replaced told p its_word header fits over).1

      previous_is : (says : Previous) → SaysPrevious there (state_of v.sizes there) (slot_of main) d.slot.prev says → says ≡ header.previous
      previous_is says h =
          previous_now v word found m i main replaced told p its_word header fits over says (ap (λ (x : Slot). x.prev) (sym same) ∙ d.pending) stands
          (subst (λ (x : Slot). SaysPrevious there (state_of v.sizes there) (slot_of main) x.prev says) same h)

      shape_is : (says : Shape) → SaysShape there (slot_of main) d.slot.node says → says ≡ header.shape
      shape_is says h = shape_now v word found m i main replaced told p its_word header fits over says (subst (λ (x : Slot). SaysShape there (slot_of main) x.node says) same h)

      says : (h : SaysHeader there (state_of v.sizes there) (slot_of main) d.slot (slice_index s.words (2 * place_of there main))) → new ≡ header_code
          (record { previous = says_then d.verdict h.previous; shape = h.shape })
      says h =
          ap (λ x. header_code (record { previous = x; shape = header.shape }))
          (verdict_says licensed d.verdict header.previous over.name replaced over.says (verdict ∙ ap (λ b. if b then prev.None else prev.Failed replaced) (same_license ∙ license))
          ∙ ap (says_then d.verdict) (sym (previous_is h.previous h.is_previous)))
          ∙ ap (λ x. header_code (record { previous = says_then d.verdict h.previous; shape = x })) (sym (shape_is h.shape h.is_shape))

      at_place : 2 * place_of there main ≡ word
      at_place = ap (λ n. 2 * n) (its_place v s kept id at main (main_is v word found m i main replaced told p its_word header fits over).0) ∙ sym its_word

      decided_so : found ≡ old → Left
      decided_so e = (
        subst (λ ws. IsKept v.sizes (record { words = ws; homes = s.homes; views = set s.views id after })) (words_hit v s kept id at word old new e (2 * place_of there main) at_place)
            (decide_kept v.sizes s kept id v at (o v word found m i main replaced told p its_word header fits over)
            (runs v word found m i main replaced told p its_word header fits over) main replaced d here is_main new says takes),
        (
          sound_by v s kept id at (gone_on v.actor there) kept.stands _
              (all_then v.sizes there v.actor (o v word found m i main replaced told p its_word header fits over) main replaced d kept.stands s.words (all_stand v.sizes s kept) here is_main new says),
          took_by v s kept id at (o v word found m i main replaced told p its_word header fits over) (runs v word found m i main replaced told p its_word header fits over)
              (gone_on v.actor there) d.own,
        ),
      )

    by_case : Case v word found m i main replaced told p its_word header fits over → Left
    by_case (was_pending d verdict same stands e pending) = decided_so d verdict same stands e
    by_case (was_decided reads differs pending) =
        missed v s kept id at word old new (o v word found m i main replaced told p its_word header fits over) (runs v word found m i main replaced told p its_word header fits over) reads
        takes differs

    pub leaves : Left
    leaves = by_case case

    -- it was found if the main node was pending still
    pub stood_by : is_pending (prev_at (state_of v.sizes there).heap main) replaced ≡ (found == old)
    stood_by = by case
      where
        by : Case v word found m i main replaced told p its_word header fits over → is_pending (prev_at (state_of v.sizes there).heap main) replaced ≡ (found == old)
        by (was_pending d verdict same stands e pending) = pending ∙ sym (eq-eqb found old e)
        by (was_decided reads differs pending) = pending ∙ sym (ne_eqb found old differs)

module _ (v : View) (name : ℕ) (header : Header) (fits : IsHeader header) (licensed : Bool) (is_at : IsAtDecide v name header licensed) where
  abbrev it_leaves : (s : Table.State Call View) (kept : IsKept v.sizes s) (id : ℕ) (at : get_elem? s.views id ≡ some v) → Leaves v s kept id at (2 * name) (header_code header)
      (header_code (decided_header licensed header))
  it_leaves s kept id at = leaves v is_at.0 is_at.1 is_at.2 is_at.3 is_at.4 name is_at.5 header fits is_at.6 licensed is_at.7 s kept id at

pub decide_allowed : (sizes : Sizes) (size id : ℕ) (me : Me Call View) (some_seats : 1 ≤ me.0.sizes.seats) (name : ℕ) (header : Header) (fits : IsHeader header) (licensed : Bool)
    (is_at : IsAtDecide me.0 name header licensed) →
    AllowsExchange sizes size id me (2 * name) (header_code header) (header_code (decided_header licensed header))
decide_allowed sizes size id me some_seats name header fits licensed is_at =
    allowed sizes size id me (2 * name) (λ n. either (n == header_code header) (header_code (decided_header licensed header)) n)
    (has_gone (step size (2 * name) (header_code header) (header_code (decided_header licensed header)) none) me)
    some_seats (λ s kept at. inl (is_elsewhere me.0 is_at.0 is_at.1 is_at.2 is_at.3 is_at.4 name is_at.5 header fits is_at.6 licensed is_at.7 s kept id at))
    (λ s kept at. (let x = it_leaves me.0 name header fits licensed is_at s kept id at in
    (seen me.0 (gone_on me.0.actor kept.account), x.0, ((record { table = s; kept = kept; id = id; at = at; finds = refl }, refl, x.1.1), x.1.0, refl))))
    (λ s kept at. refl)

-- the main node, the one before it and what the root was told to be
abbrev decided_of : Action → Ref × (Ref × (Ref × Option ℕ))
decided_of (act.Decide i main replaced told) = (i, (main, (replaced, told)))
decided_of action = (no_ref, (no_ref, (no_ref, None)))

-- what the seat is told
pub decide_told : (before : View) (name : ℕ) (header : Header) (fits : IsHeader header) (licensed : Bool) (is_at : IsAtDecide before name header licensed) (found : ℕ) (after : View) → HasGone before
    (2 * name) found after →
    HasDecided before (found == header_code header) after
decide_told before name header fits licensed is_at found after g = (
  went before name (2 * name) found after g,
  λ i main replaced told p.
      (let same = ap decided_of (same_action before (act.Decide is_at.0 is_at.1 is_at.2 is_at.3) (act.Decide i main replaced told) is_at.4 p) in
      let result : (is_pending (prev_at (state_of before.sizes g.0.kept.account).heap is_at.1) is_at.2 ≡ (found == header_code header)) ×
      (is_licensed (state_of before.sizes g.0.kept.account).heap is_at.0 is_at.3 ≡ is_licensed (now before).heap is_at.0 is_at.3) = (
        stood_by before is_at.0 is_at.1 is_at.2 is_at.3 is_at.4 name is_at.5 header fits is_at.6 licensed is_at.7 g.0.table g.0.kept g.0.id g.0.at ∙ ap (λ n. n == header_code header) g.0.finds,
        same_license before is_at.0 is_at.1 is_at.2 is_at.3 is_at.4 name is_at.5 header fits is_at.6 licensed is_at.7 g.0.table g.0.kept g.0.id g.0.at,
      ) in
      subst (λ (x : Ref × (Ref × (Ref × Option ℕ))). (is_pending (prev_at (state_of before.sizes g.0.kept.account).heap x.1.0) x.1.1.0 ≡ (found == header_code header))
      × (is_licensed (state_of before.sizes g.0.kept.account).heap x.0 x.1.1.1 ≡ is_licensed (now before).heap x.0 x.1.1.1)) same result),
)
