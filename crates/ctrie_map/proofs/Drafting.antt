-- What becomes of the core where a copy is made that has no name.
use Rattle.std.specs.Prelude.{◌≡◌, ◌≢◌, ◌<◌, ℕ, false, option_and_then, Result, Ok, Err, IfOk}
use Rattle.std.specs.FinMap as map
use Rattle.std.proofs.Common.{refl, sym, ap, subst, ◌∙◌}
use Rattle.std.proofs.lemmas.Bool.{true≢false}
use Rattle.std.proofs.lemmas.Option.{same_Some}
use Rattle.ctrie_map.specs.Vocabulary.{Writable, Reply, NoSlots, naming, with_access, writable_map_of, HandleMap, State, handle_limit}
use Rattle.history.specs.declared.calls.Call.TheVariants as call
use Rattle.ctrie_map.specs.Beneath.map_worlds.specs.Worlds.{world_of}
use Rattle.ctrie_map.specs.declared.errors.MapError.{MapError}
use Rattle.ctrie_map.specs.Cores.{Carries, Leads, Replies, is_worn_out}
use Rattle.ctrie_map.specs.Drafts.{IsDraftOf, IsWritable, RefusesDraft}
use Rattle.ctrie_map.specs.Telling.{opened_in}
use Rattle.ctrie_map.proofs.Changing.{ComesTo}
use Rattle.ctrie_map.proofs.Opened.{is_opened}

module _ (before : State) (handle : ℕ) where
  abbrev world : HandleMap
  world = world_of before

  module _ (writable : IsWritable world handle) (room : map.len world < handle_limit) (life : is_worn_out before ≡ false) (after : State) where
    abbrev Comes : Result ℕ MapError → Type 0
    Comes = ComesTo (λ draft. IsDraftOf handle before draft after) (RefusesDraft handle before after)

    by_answer : (answer : Reply) → Replies before (call.Snapshot handle) answer after → (answer ≢ NoSlots → Leads before (call.Snapshot handle) after) → Comes (opened_in (Ok answer))
    by_answer NoSlots p leads = (refl, p.0, p.1)
    by_answer answer p leads =
        let o = is_opened world p.0 Writable answer p.1 (writable_map_of world handle) p.2 in
        let is : o.m ≡ writable.0 =
        same_Some o.m writable.0 (sym o.at ∙ ap (λ s. option_and_then (λ s. with_access Writable s.access s.pairs) s) writable.1) in
        subst (λ a. Comes (opened_in (Ok a))) (sym o.told) (record {
          m = writable.0;
          has = writable.1;
          new = o.new;
          turns = (p.3.0, p.3.1 ∙ o.there ∙ ap (naming world o.copy Writable) is);
          leads = leads (λ e. cc e);
        })

    comes : (result : Result Reply MapError) → Carries result before (call.Snapshot handle) after → IfOk result (λ answer. answer ≢ NoSlots → Leads before (call.Snapshot handle) after) →
        Comes (opened_in result)
    comes (Ok answer) p leads = by_answer answer p.1 leads
    comes (Err why) p none = absurd (true≢false (sym p.1 ∙ life))

    pub drafted : (result : Result Reply MapError) → Carries result before (call.Snapshot handle) after → IfOk result (λ answer. answer ≢ NoSlots → Leads before (call.Snapshot handle) after) →
        (draft : ℕ) → opened_in result ≡ Ok draft → IsDraftOf handle before draft after
    drafted result p leads draft is = subst Comes is (comes result p leads)
