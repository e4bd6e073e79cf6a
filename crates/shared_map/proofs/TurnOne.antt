-- A shard in which nothing stands in the way of a change of all is turned.
use Rattle.std.proofs.Common.{◌≡◌, ◌≢◌, ℕ, Bool, true, false, nat_eq, nat_le, if◌then◌else◌, Option}
use Rattle.std.proofs.Common.{Some, None, Ok, Err, refl, sym, ap, subst, ◌∙◌, option_and_then}
use Rattle.std.specs.FinMap as map
use Rattle.std.proofs.lemmas.Bool.{true≢false}
use Rattle.std.proofs.lemmas.Option.{same_Some}
use Rattle.shared_map.specs.Vocabulary.{hash_of, Access, Writable, ReadOnly, Reply, map_of, naming, HandleMap, HandleState, KeyMap, handle_of, opens_handle, handle_limit}
use Rattle.history.specs.declared.replies.Reply.TheVariants as reply
use Rattle.ctrie_map.specs.Changes.{LacksSlots, changes_map, denial_in}
use Rattle.ctrie_map.specs.Sharding.{may_lack_slots}
use Rattle.ctrie_map.specs.Costs.{WorksUpTo, work_of_a_copy, work_of_call}
use Rattle.ctrie_map.specs.Denials.{denial_by}
use Rattle.ctrie_map.specs.declared.errors.MapError.{MapError}
use Rattle.ctrie_map.specs.declared.errors.MapError.TheVariants.{HandlesFull, WornOut}
use Rattle.ctrie_map.specs.Maps.{MapState, handles_of}
use Rattle.ctrie_map.specs.Performing.{AnswersBy, PerformsBy, copy_call, copying_any, effect_among}
use Rattle.ctrie_map.specs.Sharding.{PerformsUnder}
use Rattle.ctrie_map.proofs.Opened.{IsOpened, is_opened}
use Rattle.shared_map.specs.Asks.{Replied}
use Rattle.shared_map.specs.Turning.{HasTurned, IsDue, map_shown}
use Rattle.shared_map.specs.declared.turning.Turn.TheVariants as turn

pub not_both : {X : Type 0} (o : Option X) (x : X) → o ≡ None → o ≡ Some x → ⊥
not_both o x none some = let bad : None ≡ Some x = sym none ∙ some in cc

-- a shard that may have slots has them
copies : (s : MapState) (h : ℕ) (access : Access) → LacksSlots s (copy_call access h) → may_lack_slots (copy_call access h) s ≡ false → ⊥
copies s h Writable none e = true≢false (sym (ap (λ n. nat_eq n 0) none) ∙ e)
copies s h ReadOnly none e = true≢false (sym (ap (λ n. nat_eq n 0) none) ∙ e)

module _ (s t : MapState) where
  module _ (h number : ℕ) (access : Access) (due : IsDue (turn.Copy h number access) s) (works : WorksUpTo work_of_a_copy s t) where
    -- whatever its kind
    changes_none : (a : Access) → denial_by (changes_map (copy_call a h)) false (map.get (handles_of s) (handle_of (copy_call a h))) 0 ≡ denial_by false false (map.get (handles_of s) h) 0
    changes_none Writable = refl
    changes_none ReadOnly = refl

    opening : (a : Access) → denial_in s (copy_call a h) ≡ denial_by false true (map.get (handles_of s) h) (map.len (handles_of s))
    opening Writable = refl
    opening ReadOnly = refl

    works_alike : (a : Access) → work_of_call (copy_call a h) ≡ work_of_a_copy
    works_alike Writable = refl
    works_alike ReadOnly = refl

    copying_so : (a : Access) (opens : Option ℕ) →
        effect_among (hash_of s.core.limits.hash) (handles_of s) (copy_call a h) opens ≡ copying_any (handles_of s) h opens a
    copying_so Writable opens = refl
    copying_so ReadOnly opens = refl

    its_map : (m : KeyMap) (o : Option HandleState) → option_and_then (λ s. Some s.pairs) o ≡ Some m → m ≡ map_shown o
    its_map m None e = cc
    its_map m (Some shown) e = sym (same_Some shown.pairs m e)

    opened_so : (answer : Reply) (opens : Option ℕ) (next : HandleMap) →
        effect_among (hash_of s.core.limits.hash) (handles_of s) (copy_call access h) opens ≡ Some (answer, next) →
        IsOpened (handles_of s) opens access (map_of (handles_of s) h) answer next
    opened_so answer opens next effect = is_opened (handles_of s) opens access answer next (map_of (handles_of s) h) (sym (copying_so access opens) ∙ effect)

    copy_reply : (answer : Reply) → AnswersBy (λ copy. copy ≡ number) s (copy_call access h) answer t → HasTurned (turn.Copy h number access) s t
    copy_reply reply.NoSlots p = absurd (copies s h access p.0 due.room)
    copy_reply (reply.Opened copy) (is, (next, effect, has)) =
        let o = opened_so (reply.Opened copy) (Some copy) next effect in
        let same : copy ≡ o.copy = cc o.told in
        let number_is : o.copy ≡ number = sym same ∙ is in
        record {
          limits = has.0;
          last = has.1 ∙ is;
          handles = has.2 ∙ o.there ∙ ap (λ n. naming (handles_of s) n access o.m) number_is
              ∙ ap (naming (handles_of s) number access) (its_map o.m (map.get (handles_of s) h) o.at);
          work = subst (λ w. WorksUpTo w s t) (sym (works_alike access)) works;
        }
    copy_reply answer p = cc (opened_so answer p.0 p.1 p.2).told

    abbrev refused : MapError → Replied
    refused why = Err why

    -- only the number of handles denies it
    never : (error : MapError) (o : Option HandleState) → denial_by false false o 0 ≡ None → denial_by false true o (map.len (handles_of s)) ≡ Some error →
        refused error ≢ Err HandlesFull → ⊥
    never error None allowed e under = cc
    never HandlesFull (Some shown) allowed e under = under refl
    never error (Some shown) allowed e under = full_only (nat_le handle_limit (map.len (handles_of s))) e
      where
        full_only : (b : Bool) → (if b then Some HandlesFull else None) ≡ Some error → ⊥
        full_only true e = cc
        full_only false e = cc

    copy_error : (error : MapError) → PerformsBy (λ copy. copy ≡ number) (Err error) s (copy_call access h) t → refused error ≢ Err HandlesFull → HasTurned (turn.Copy h number access) s t
    copy_error WornOut p under = absurd (true≢false (sym p.1 ∙ due.life))
    copy_error error p under =
        absurd (never error (map.get (handles_of s) h) (sym (changes_none access) ∙ due.allowed) (sym (opening access) ∙ p.0) under)

    pub copy_turns : (told : Replied) → PerformsUnder number told s access h t → HasTurned (turn.Copy h number access) s t
    copy_turns (Ok answer) p = copy_reply answer p.0.1
    copy_turns (Err error) p = copy_error error p.0 p.1

-- it changes no map, and opens a handle
pub copies_change_none : (h : ℕ) (access : Access) → false ≡ changes_map (copy_call access h)
copies_change_none h Writable = refl
copies_change_none h ReadOnly = refl

pub copies_open : (h : ℕ) (access : Access) → true ≡ opens_handle (copy_call access h)
copies_open h Writable = refl
copies_open h ReadOnly = refl
