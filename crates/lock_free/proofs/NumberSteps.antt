-- Accesses of the word of a number that a call is to open.
use Rattle.history.specs.declared.calls.Call.{Call}
use Rattle.std.proofs.Common.{◌≤◌, ◌≡◌, ◌≢◌, ◌==◌, arith, ◌<◌, ◌^◌, inl, inr, ℕ, Bool, true, false, Contains, set, slice_index, Option, Some, None, refl, sym, ap, subst, ◌∙◌, eq-eqb}
use Rattle.std.proofs.lemmas.Bool.{cases_eq, ne_eqb, true≢false}
use Rattle.std.proofs.lemmas.Option.{none-some, same_Some}
use mathlib.Core.Option.{some, none}
use lib.ListN.{get_elem?}
use prog.Atomic.{either}
use Rattle.atomic_table.specs.Table.{Me, Allows, step}
use Rattle.atomic_table.specs.Table as Table
use Rattle.trie_words.specs.Codes.{root_code, IsRootWord}
use Rattle.trie_words.specs.declared.roots.RootWord.TheVariants as word
use Rattle.machine_model.specs.declared.copying.CopyLine.TheVariants as copy
use Rattle.machine_model.specs.declared.lines.Line.TheVariants as line
use Rattle.machine_model.specs.declared.operations.Operation.{Operation}
use Rattle.machine_model.specs.declared.roots.Complete.{Complete}
use Rattle.lock_free.proofs.EpochStays.{rest_of}
use Rattle.lock_free.specs.declared.accounts.Known.{Known}
use Rattle.lock_free.specs.declared.rules.View.{View}
use Rattle.lock_free.specs.declared.sizes.Sizes.{Sizes}
use Rattle.lock_free.specs.Accounts.{running, state_of}
use Rattle.lock_free.specs.Loading.{IsSound}
use Rattle.lock_free.specs.Numbers.{naming, reserving, without_number, has_given_back, has_named, has_reserved, HasTried, IsNaming}
use Rattle.lock_free.specs.Places.{root_word}
use Rattle.lock_free.specs.Roots.{fate, undecided}
use Rattle.lock_free.specs.Shadows.{IsShadowed}
use Rattle.lock_free.specs.Rules.{IsFree, IsKept, Reserves}
use Rattle.lock_free.specs.SeatWords.{IsIdle}
use Rattle.lock_free.proofs.Assembling.{closing_at}
use Rattle.lock_free.proofs.Closers.{seat_kept}
use Rattle.lock_free.proofs.Exchanged.{words_then, words_hit, words_miss}
use Rattle.lock_free.proofs.CountWords.{handle_apart}
use Rattle.lock_free.proofs.Geometry.{root_apart}
use Rattle.lock_free.proofs.Moments.{allowed, waited_so}
use Rattle.lock_free.proofs.OneStep.Idle.{idle_stays}
use Rattle.lock_free.proofs.OneStep.Standing.{offering_unmarked, owner_of}
use Rattle.lock_free.proofs.Reserved.{give_back_kept, name_kept, own_pending}
use Rattle.lock_free.proofs.Reserving.{reserve_kept}
use Rattle.lock_free.proofs.RootCodes.{root_back}

-- ---- a number is reserved

abbrev reserved_code : ℕ
reserved_code = root_code word.Reserved

module _ (v : View) (number : ℕ) (low : number < 256) (idle : IsIdle v) (opens : v.opens ≡ None)
    (s : Table.State Call View) (kept : IsKept v.sizes s) (id : ℕ) (at : get_elem? s.views id ≡ some v) where
  abbrev found : ℕ
  found = slice_index s.words (root_word number)

  abbrev Tried : View → Type 0
  Tried x = IsKept v.sizes (record { words = words_then v s kept id at (root_word number) 0 reserved_code; homes = s.homes; views = set s.views id x }) × HasTried v number (found == 0) x

  hits : found ≡ 0 → Tried (reserving v number)
  hits e = (
    subst (λ ws. IsKept v.sizes (record { words = ws; homes = s.homes; views = set s.views id (reserving v number) }))
        (words_hit v s kept id at (root_word number) 0 reserved_code e (root_word number) refl)
        (reserve_kept v.sizes s kept id v at (idle_stays v.sizes v.actor v.account kept.account (kept.seats id v at).waited kept.bounds idle) opens number low e),
    (λ x. refl, λ x. absurd (true≢false (sym (eq-eqb found 0 e) ∙ x))),
  )

  misses : found ≢ 0 → Tried v
  misses differs = (
    subst (λ ws. IsKept v.sizes (record { words = ws; homes = s.homes; views = set s.views id v })) (words_miss v s kept id at (root_word number) 0 reserved_code differs)
        (seat_kept v.sizes s kept id v at v.entered v.closing (kept.seats id v at).entered (kept.seats id v at).calls
        (λ g who below h. closing_at v.sizes s kept id v at v refl refl g who (λ x. (x, refl)) (λ c x y z. x) (λ c. c) (kept.closings g who below h))),
    (λ x. absurd (true≢false (sym x ∙ ne_eqb found 0 differs)), λ x. refl),
  )

  tries : (x : View) × (rest_of x ≡ rest_of v) × Tried x
  tries = elim (cases_eq found 0) [ inl e ↦ (reserving v number, refl, hits e) | inr differs ↦ (v, refl, misses differs) ]

pub reserve_allowed : (sizes : Sizes) (size id : ℕ) (me : Me Call View) (some_seats : 1 ≤ me.0.sizes.seats) (number : ℕ) → number < 256 → IsIdle me.0 → me.0.opens ≡ None →
    Allows (IsShadowed sizes) size id me (root_word number) (λ n. either (n == 0) (root_code word.Reserved) n) (has_reserved (step size (root_word number) 0 (root_code word.Reserved) none) me)
reserve_allowed sizes size id me some_seats number low idle opens =
    allowed sizes size id me (root_word number) (λ n. either (n == 0) (root_code word.Reserved) n) (has_reserved (step size (root_word number) 0 (root_code word.Reserved) none) me)
    some_seats (λ s kept at. inl (handle_apart me.0.sizes number low))
    (λ s kept at. (let x = tries me.0 number low idle opens s kept id at in
    (x.0, x.2.0, (λ g is. subst (λ n. HasTried me.0 n (slice_index s.words (root_word number) == 0) x.0) (root_apart number g is) x.2.1, refl))))
    (λ s kept at. (tries me.0 number low idle opens s kept id at).1)

-- ---- its word is stored

-- no offer that stands opens the seat's number, unless its operation completes one
module _ (v : View) (s : Table.State Call View) (kept : IsKept v.sizes s) (id : ℕ) (at : get_elem? s.views id ≡ some v)
    (number : ℕ) (reserves : Reserves (state_of v.sizes kept.account) v number) where
  pub none_stands : ((o : Operation) → running v.sizes kept.account v.actor o → (c : Complete) → o.line ≡ line.Copy (copy.Complete c) → ⊥) → (k : Known) → Contains kept.account.offers k →
      fate s.words k ≡ undecided → k.offer.opens ≡ Some number → ⊥
  none_stands other k c stands opens =
      let own = own_pending v.sizes s kept (owner_of v.sizes kept.account kept.bounds) id v at number reserves k c stands opens in other own.0 own.1 own.2.0 own.2.1

pub name_allowed : (sizes : Sizes) (size id : ℕ) (me : Me Call View) (some_seats : 1 ≤ me.0.sizes.seats) (number slot : ℕ) → number < 256 → IsNaming me.0 number slot → IsRootWord (word.Opening slot) →
    Allows (IsShadowed sizes) size id me (root_word number) (λ n. root_code (word.Opening slot))
    (λ n. has_named (step size (root_word number) (root_code (word.Opening slot)) 0 none) me (root_code (word.Opening slot)))
name_allowed sizes size id me some_seats number slot low n fits =
    allowed sizes size id me (root_word number) (λ x. root_code (word.Opening slot))
    (λ x. has_named (step size (root_word number) (root_code (word.Opening slot)) 0 none) me (root_code (word.Opening slot)))
    some_seats (λ s kept at. inl (handle_apart me.0.sizes number low))
    (λ s kept at. (
      naming me.0 slot,
      (let is = (waited_so me.0 s kept id at).stays (record n.operation { is_marked = n.runs.0 }) n.runs.1 in
          let o = record n.operation { is_marked = is.0 } in
          let same : (p : Operation) → running me.0.sizes kept.account me.0.actor p → p ≡ o = λ p runs. same_Some p o (sym runs ∙ is.1) in
          let reserves : Reserves (state_of me.0.sizes kept.account) me.0 number = (
            n.reserved,
            λ p runs. ap (λ (x : Operation). x.is_marked) (same p runs) ∙
                offering_unmarked me.0.sizes kept.account kept.bounds me.0.actor o is.1 n.offer n.on,
          ) in
          name_kept me.0.sizes s kept id me.0 at number reserves
          (none_stands me.0 s kept id at number reserves
          (λ p runs c at_line. (let both = sym at_line ∙ ap (λ (x : Operation). x.line) (same p runs) ∙ n.on in let wrong : ⊥ = cc both in wrong))) slot n.free
          (λ nothing. none-some o (sym (nothing me.0.actor) ∙ is.1))),
      λ other is. ap (λ x. (naming me.0 x, me.1)) (slot_same slot other (sym (root_back (word.Opening slot) fits) ∙ is)),
    ))
    (λ s kept at. refl)
  where
    slot_same : (a b : ℕ) → word.Opening a ≡ word.Opening b → a ≡ b
    slot_same a b e = cc e

pub give_back_allowed : (sizes : Sizes) (size id : ℕ) (me : Me Call View) (some_seats : 1 ≤ me.0.sizes.seats) (number : ℕ) → IsIdle me.0 → me.0.opens ≡ Some number →
    Allows (IsShadowed sizes) size id me (root_word number) (λ n. 0) (λ n. has_given_back (step size (root_word number) 0 0 none) me 0)
give_back_allowed sizes size id me some_seats number idle opens =
    allowed sizes size id me (root_word number) (λ n. 0) (λ n. has_given_back (step size (root_word number) 0 0 none) me 0)
    some_seats
    (λ s kept at. (let rests = idle_stays me.0.sizes me.0.actor me.0.account kept.account (kept.seats id me.0 at).waited kept.bounds idle in
    inl (handle_apart me.0.sizes number ((kept.seats id me.0 at).opens number (opens, λ p runs. absurd (none-some p (sym rests ∙ runs)))).low)))
    (λ s kept at. (
      without_number me.0,
      (let rests = idle_stays me.0.sizes me.0.actor me.0.account kept.account (kept.seats id me.0 at).waited kept.bounds idle in
          let reserves : Reserves (state_of me.0.sizes kept.account) me.0 number = (opens, λ p runs. absurd (none-some p (sym rests ∙ runs))) in
          give_back_kept me.0.sizes s kept id me.0 at number reserves (none_stands me.0 s kept id at number reserves (λ p runs c at_line. none-some p (sym rests ∙ runs))) rests),
      refl,
    ))
    (λ s kept at. refl)

-- ---- what is sound stays so

pub opens_sound : (words : ℕ) (v : View) (opens opening : Option ℕ) → IsSound words v → IsSound words (record v { opens = opens; opening = opening })
opens_sound words v opens opening h = record { size = h.size; range = h.range; bounds = h.bounds; keys = h.keys; counted = h.counted; inside = h.inside; free = h.free }

pub tried_sound : (words : ℕ) (before : View) (number : ℕ) (made : Bool) (after : View) → HasTried before number made after → IsSound words before → IsSound words after
tried_sound words before number true after h sound = subst (IsSound words) (sym (h.0 refl)) (opens_sound words before (Some number) None sound)
tried_sound words before number false after h sound = subst (IsSound words) (sym (h.1 refl)) sound

-- a slot of the table fits a handle's word
pub slot_in_range : (words : ℕ) (v : View) → IsSound words v → (slot : ℕ) → IsFree v 1 slot → slot < 2 ^ 27
slot_in_range words v sound slot free = let inside = sound.free 1 slot free in let range = sound.range in omega (arith, inside, range)
