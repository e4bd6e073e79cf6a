-- What actions do to root words, case by case.
use Rattle.std.specs.Prelude.{◌≡◌, ◌==◌, ℕ, Bool, true, false, Option, Some, None, slice_set, slice_index_or, if◌then◌else◌}
use Rattle.std.proofs.Common.{arith, refl, sym, ap, ◌∙◌}
use Rattle.rdcss_root.specs.Vocabulary.{Ref, Descriptor, RootWord, Plain, Offer, State, word_at, word_of, rewritten, with_word, stands_in, is_plain, if_changed, carried_out, opened, opened_root}
use Rattle.rdcss_root.specs.Vocabulary.{new_root_taken, next_ref}
use Rattle.rdcss_root.specs.Beneath.machine_model.specs.declared.actions.Action.TheVariants as act
use Rattle.rdcss_root.specs.Tables.{Table, ActsOnTable, word_in, with_word_in, opened_in, carried_out_in}

either : (b c : Bool) (s t : State) (u v : Table) → b ≡ c → s.roots ≡ u.roots → t.roots ≡ v.roots → (if_changed b s t).roots ≡ (if_changed c u v).roots
either true true s t u v same first second = first
either false false s t u v same first second = second
either true false s t u v same first second = grind (arith, same)
either false true s t u v same first second = grind (arith, same)

chosen : (b : Bool) (s t : State) (u v : Table) → s.roots ≡ u.roots → t.roots ≡ v.roots → (if b then s else t).roots ≡ (if b then u else v).roots
chosen true s t u v first second = first
chosen false s t u v first second = second

words : (state : State) (table : Table) (handle : ℕ) → table.roots ≡ state.roots → word_at state handle ≡ word_in table handle
words state table handle same = ap (λ roots. word_of (slice_index_or roots handle None)) (sym same)

rewrites : (state : State) (table : Table) (handle : ℕ) (word : RootWord) → table.roots ≡ state.roots →
    (with_word state handle word).roots ≡ (with_word_in table handle word).roots
rewrites state table handle word same = ap (λ roots. slice_set roots handle (rewritten word (slice_index_or roots handle None))) (sym same)

opens : (state : State) (table : Table) (offer : Descriptor) (handle : Option ℕ) → state.roots ≡ table.roots → (opened state offer handle).roots ≡ (opened_in table offer handle).roots
opens state table offer None same = same
opens state table offer (Some handle) same = ap (λ roots. slice_set roots handle (Some (opened_root offer offer.second))) same

carries : (state : State) (table : Table) (handle : ℕ) (offer : Descriptor) → table.roots ≡ state.roots →
    (carried_out state handle offer).roots ≡ (carried_out_in table handle offer).roots
carries state table handle offer same =
    opens (with_word state handle (Plain offer.successor)) (with_word_in table handle (Plain offer.successor)) offer offer.opens (rewrites state table handle (Plain offer.successor) same)

makes : (state : State) (main : Ref) (made : Option Ref) → (new_root_taken state main made).roots ≡ state.roots
makes state main None = refl
makes state main (Some r) = refl

pub acts_on_table : ActsOnTable
acts_on_table state table handle actor act.ReadRoot same = sym same
acts_on_table state table handle actor (act.Abort offer) same =
    either (stands_in (word_at state handle) offer) (stands_in (word_in table handle) offer) _ state _ table
    (ap (λ word. stands_in word offer) (words state table handle same)) (rewrites state table handle (Plain offer.root) same) (sym same)
acts_on_table state table handle actor (act.Offer offer) same =
    either (is_plain (word_at state handle) offer.root) (is_plain (word_in table handle) offer.root) _ state _ (record table { marks = slice_set table.marks actor false })
    (ap (λ word. is_plain word offer.root) (words state table handle same)) (rewrites state table handle (Offer offer) same) (sym same)
acts_on_table state table handle actor (act.Complete offer main) same =
    either (stands_in (word_at state handle) offer) (stands_in (word_in table handle) offer) _ state _ table
    (ap (λ word. stands_in word offer) (words state table handle same))
    (
    chosen (main == offer.expected) (carried_out state handle offer) (with_word state handle (Plain offer.root))
    (carried_out_in table handle offer) (with_word_in table handle (Plain offer.root))
    (carries state table handle offer same) (rewrites state table handle (Plain offer.root) same)
    )
    (sym same)
acts_on_table state table handle actor (act.ReadMain indirection) same = sym same
acts_on_table state table handle actor (act.Publish indirection replaced fresh) same = sym same
acts_on_table state table handle actor (act.Restore indirection main previous) same = sym same
acts_on_table state table handle actor (act.ReadPrev main) same = sym same
acts_on_table state table handle actor (act.Decide indirection main previous told) same = sym same
acts_on_table state table handle actor (act.Look at) same = sym same
acts_on_table state table handle actor (act.Make node) same = sym same
acts_on_table state table handle actor (act.MakeRoot main) same = makes state main (next_ref state.heap) ∙ sym same
acts_on_table state table handle actor (act.End answer) same = sym same
