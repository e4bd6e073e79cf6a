-- A step that lets go of all that a node holds is one of four kinds.
use Rattle.std.proofs.Common.{◌≡◌, ◌==◌, ◌&&◌, ◌||◌, inl, inr, ℕ, suc, Bool, true, false, List, [], ◌∷◌, Contains, Option, Some, None, cond, refl, sym, ap, subst, ◌∙◌, ne_eqb}
use Rattle.std.proofs.lemmas.Bool.{true≢false}
use Rattle.proof_claims.specs.Beneath.slot_arena.specs.declared.nodes.Prev.{Prev}
use Rattle.proof_claims.specs.Beneath.slot_arena.specs.declared.nodes.Prev.TheVariants as prev
use Rattle.proof_claims.specs.Beneath.slot_arena.specs.declared.refs.Ref.{Ref}
use Rattle.proof_claims.specs.Beneath.slot_arena.specs.Heaps.{node_at, prev_at, refs_of_node, refs_of_option}
use Rattle.proof_claims.specs.Beneath.machine_model.specs.declared.actions.Action.TheVariants as act
use Rattle.proof_claims.specs.Beneath.machine_model.specs.declared.copying.CopyLine.TheVariants as copy
use Rattle.proof_claims.specs.Beneath.machine_model.specs.declared.lines.Line.TheVariants as line
use Rattle.proof_claims.specs.Beneath.machine_model.specs.declared.lines.Purpose.{Purpose}
use Rattle.proof_claims.specs.Beneath.machine_model.specs.declared.reading.Swap.{Swap}
use Rattle.proof_claims.specs.Beneath.machine_model.specs.declared.reading.SwapLine.TheVariants as swap
use Rattle.proof_claims.specs.Beneath.machine_model.specs.declared.roots.Complete.{Complete}
use Rattle.proof_claims.specs.Beneath.machine_model.specs.declared.roots.Descriptor.{Descriptor}
use Rattle.proof_claims.specs.Beneath.machine_model.specs.declared.steps.Bounds.{Bounds}
use Rattle.proof_claims.specs.Beneath.machine_model.specs.declared.steps.Step.{Step}
use Rattle.proof_claims.specs.Beneath.machine_model.specs.declared.steps.Step.TheVariants as step
use Rattle.proof_claims.specs.Beneath.machine_model.specs.Calls.{handle_of}
use Rattle.proof_claims.specs.Beneath.machine_model.specs.Machine.{AreBounds, run}
use Rattle.proof_claims.specs.Beneath.machine_model.specs.States.{State, operation_of, word_at}
use Rattle.proof_claims.specs.Beneath.machine_model.specs.Swapping.{is_carried_out}
use Rattle.proof_claims.specs.Beneath.machine_model.proofs.Basics.{none≢failed}
use Rattle.proof_claims.specs.Beneath.machine_model.proofs.Fates.{place_of_actor}
use Rattle.proof_claims.specs.Beneath.proof_commits.proofs.Words.Stood.{none≢pending}
use Rattle.proof_claims.specs.Beneath.proof_memory.specs.Wants.{is_indirection}
use Rattle.proof_claims.specs.Beneath.proof_reuse.specs.Laws.{HasReplaced}
use Rattle.proof_claims.specs.Held.{Change, Claim, Ends, Given, Held, OfNode, Stays, is_in, is_kept, is_owned}
use Rattle.proof_claims.specs.Changes.{carried, change_of, checks, fate_left, fate_let_go, finds, given_up, no_change}
use Rattle.proof_claims.specs.Claims.{held_of}
use Rattle.proof_claims.specs.Dropped.{HasFailed, LetsGo}
use Rattle.proof_claims.specs.LetGo.{LetsGoOf, of_failed, of_offered, of_private, of_replaced}
use Rattle.proof_claims.proofs.ChangeKinds.{Acting, GivesUp, Kind, changes_none, closes, commits, freezes_it, gives, kind, looks, makes_one, offers_it, sees, swaps_in}
use Rattle.proof_claims.proofs.ChangeKinds.{missed, no_slot, told, unoffered}
use Rattle.proof_claims.proofs.InSwap as in_swap
use Rattle.proof_claims.proofs.Letting.{the_one}
use Rattle.proof_claims.proofs.Lists.{among}
use Rattle.proof_claims.proofs.NodeClaims.{neither}

-- the same, with how the step comes to give up what was made
pub data LetsGoSo (state : State) (held : Held) (s : Step) (j : Ref) : Type 0 where
  so_replaced : (actor : ℕ) (i f : Ref) → s ≡ step.Go actor → HasReplaced state actor i j f → is_owned held i j ≡ true → LetsGoSo state held s j
  so_failed : (actor : ℕ) (i m : Ref) → s ≡ step.Go actor → HasFailed state actor i m j → LetsGoSo state held s j
  so_given_up : (private : List Ref) → GivesUp state s private → Contains private j → change_of state held s ≡ given_up private → LetsGoSo state held s j
  so_offered : (offer : Descriptor) (main : Ref) (c : Complete) → (a : Acting state s (act.Complete offer main)) → a.operation.line ≡ line.Copy (copy.Complete c) →
      is_carried_out (word_at state (handle_of a.operation.call)) offer main ≡ false → a.operation.is_marked ≡ false → Contains (offer.successor ∷ refs_of_option offer.second) j →
      LetsGoSo state held s j

module _ (limits : Bounds) (ok : AreBounds limits) (xs : List Step) (s : Step) (j : Ref) where
  abbrev state : State
  state = run limits xs

  abbrev held : Held
  held = held_of limits xs

  abbrev Of : Type 0
  Of = LetsGoSo state held s j

  abbrev claim : Ref → Claim
  claim k = record { by = OfNode j; on = k }

  -- it doesn't, where one claim stays
  kept : (change : Change) (k : Ref) → is_kept (change.fate (claim k)) ≡ true → LetsGo change j → Of
  kept change k e lets = absurd (true≢false (sym e ∙ lets k))

  -- ---- who gives up

  made_by : (private : List Ref) → GivesUp state s private → Contains private j → change_of state held s ≡ given_up private → LetsGoOf state held s j
  made_by private (no_slot node action a makes none same) c is =
      of_private a.actor a.operation (inl a.is_step) a.runs (subst (λ rs. Contains rs j) (sym same) c) (is ∙ ap given_up (sym same))
  made_by private (missed i m f a hit same) c is = of_private a.actor a.operation (inl a.is_step) a.runs (subst (λ rs. Contains rs j) (sym same) c) (is ∙ ap given_up (sym same))
  made_by private (unoffered offer a plain same) c is = of_private a.actor a.operation (inl a.is_step) a.runs (subst (λ rs. Contains rs j) (sym same) c) (is ∙ ap given_up (sym same))
  made_by private (told actor operation gives_up runs same) c is =
      of_private actor operation (inr gives_up) runs (subst (λ rs. Contains rs j) (sym same) c) (is ∙ ap given_up (sym same))

  gives_all : (private : List Ref) → GivesUp state s private → change_of state held s ≡ given_up private → LetsGo (given_up private) j → (b : Bool) → is_in private j ≡ b → Of
  gives_all private up is lets true e = so_given_up private up (among private j e) is
  gives_all private up is lets false e = kept (given_up private) j (ap (λ b. is_kept (cond b (cond (is_in private j) Ends Given) (Stays (OfNode j)))) e) lets

  -- ---- who looks how its fresh node was decided

  module _ (why : Purpose) (w : Swap) (main : Ref) (a : Acting state s (act.ReadPrev main)) (on : a.operation.line ≡ line.Swap why w) (is : w.line ≡ swap.Check) where
    place : (k : ℕ) × (a.actor ≡ suc k) × (operation_of state (suc k) ≡ Some a.operation)
    place = place_of_actor state a.actor a.operation a.runs

    link : is_indirection (node_at state.heap w.indirection) ≡ true
    link = in_swap.link_i limits ok xs place.0 a.operation place.2 why w on

    m_apart : w.indirection ≡ w.replaced → ⊥
    m_apart same = true≢false (sym link ∙ ap (λ r. is_indirection (node_at state.heap r)) same ∙ in_swap.plain_m limits ok xs place.0 a.operation place.2 why w on)

    f_apart : w.indirection ≡ w.fresh → ⊥
    f_apart same = true≢false (sym link ∙ ap (λ r. is_indirection (node_at state.heap r)) same ∙ in_swap.plain_f limits ok xs place.0 a.operation place.2 why w on)

    at_check : a.operation.line ≡ line.Swap why (record { indirection = w.indirection; replaced = w.replaced; fresh = w.fresh; line = swap.Check })
    at_check = on ∙ ap (λ l. line.Swap why (record w { line = l })) is

    has_failed : (prev_at state.heap w.fresh ≡ prev.None → ⊥) → HasFailed state a.actor w.indirection w.replaced w.fresh
    has_failed uncommitted = record { operation = a.operation; runs = a.runs; why = why; checks = at_check; uncommitted = uncommitted }

    apart_kept : (x : Ref) → (w.indirection ≡ x → ⊥) → (b : Bool) → is_kept (cond (b && (w.indirection == x)) Ends (Stays (OfNode j))) ≡ true
    apart_kept x apart true = ap (λ b. is_kept (cond b Ends (Stays (OfNode j)))) (ne_eqb w.indirection x apart)
    apart_kept x apart false = refl

    shared_kept : (b : Bool) → is_kept (fate_let_go (b && (w.indirection == w.replaced)) (claim w.indirection)) ≡ true
    shared_kept true = ap (λ b. is_kept (fate_let_go b (claim w.indirection))) (ne_eqb w.indirection w.replaced m_apart)
    shared_kept false = refl

    -- all of this node alone
    left : (x : Ref) → (w.indirection ≡ x → ⊥) → (change : Change) → ((c : Claim) → change.fate c ≡ fate_left w.indirection x c) → LetsGo change j → (x ≡ j → Of) →
        (b : Bool) → is_in (x ∷ []) j ≡ b → Of
    left x apart change fate lets found true e = found (the_one x j e)
    left x apart change fate lets found false e =
        kept change w.indirection (ap is_kept (fate (claim w.indirection))
        ∙ ap (λ b. is_kept (cond b Given (cond (is_in (w.indirection ∷ []) j && (w.indirection == x)) Ends (Stays (OfNode j))))) e ∙ apart_kept x apart (is_in (w.indirection ∷ []) j)) lets

    undecided : (own : Bool) (change : Change) → ((c : Claim) → change.fate c ≡ fate_left w.indirection w.fresh c) → (prev_at state.heap w.fresh ≡ prev.None → ⊥) → LetsGo change j → Of
    undecided own change fate uncommitted lets =
        left w.fresh f_apart change fate lets (λ same. (so_failed a.actor w.indirection w.replaced a.is_step (subst (HasFailed state a.actor w.indirection w.replaced) same (has_failed uncommitted))))
        (is_in (w.fresh ∷ []) j) refl

    found : (own : Bool) (v : Prev) → is_owned held w.indirection w.replaced ≡ own → prev_at state.heap w.fresh ≡ v → LetsGo (checks own v w) j → Of
    found true prev.None owns none lets =
        left w.replaced m_apart (checks true prev.None w) (λ c. refl) lets
        (λ same. (so_replaced a.actor w.indirection w.fresh a.is_step
        (subst (λ r. HasReplaced state a.actor w.indirection r w.fresh) same (record { operation = a.operation; runs = a.runs; why = why; checks = at_check; decided = none }))
        (ap (is_owned held w.indirection) (sym same) ∙ owns))) (is_in (w.replaced ∷ []) j) refl
    found false prev.None owns none lets = kept (checks false prev.None w) w.indirection (shared_kept (is_in (w.indirection ∷ []) j)) lets
    found true (prev.Pending q) owns e lets = undecided true (checks true (prev.Pending q) w) (λ c. refl) (λ none. none≢pending none e) lets
    found false (prev.Pending q) owns e lets = undecided false (checks false (prev.Pending q) w) (λ c. refl) (λ none. none≢pending none e) lets
    found true (prev.Failed q) owns e lets = undecided true (checks true (prev.Failed q) w) (λ c. refl) (λ none. none≢failed none e) lets
    found false (prev.Failed q) owns e lets = undecided false (checks false (prev.Failed q) w) (λ c. refl) (λ none. none≢failed none e) lets

  -- ---- who offered

  carried_kept : (handle : ℕ) (offer : Descriptor) (second : Option Ref) (opens : Option ℕ) → is_kept ((carried handle offer second opens).fate (claim j)) ≡ true
  carried_kept handle offer (Some q) opens = refl
  carried_kept handle offer None None = refl
  carried_kept handle offer None (Some n) = refl

  module _ (offer : Descriptor) (main : Ref) (c : Complete) (a : Acting state s (act.Complete offer main)) (on : a.operation.line ≡ line.Copy (copy.Complete c)) where
    back : false ≡ (is_carried_out (word_at state (handle_of a.operation.call)) offer main || a.operation.is_marked) → LetsGo (finds (handle_of a.operation.call) offer false) j → (b : Bool) →
        is_in (offer.successor ∷ refs_of_option offer.second) j ≡ b → Of
    back is lets true e =
        let (not_out, unmarked) = neither (is_carried_out (word_at state (handle_of a.operation.call)) offer main) a.operation.is_marked is in
        so_offered offer main c a on not_out unmarked (among (offer.successor ∷ refs_of_option offer.second) j e)
    back is lets false e = kept (finds (handle_of a.operation.call) offer false) j (ap (λ b. is_kept (cond b Given (Stays (OfNode j)))) e) lets

    seen : (done : Bool) → done ≡ (is_carried_out (word_at state (handle_of a.operation.call)) offer main || a.operation.is_marked) →
        LetsGo (finds (handle_of a.operation.call) offer done) j → Of
    seen true is lets = kept (finds (handle_of a.operation.call) offer true) j (carried_kept (handle_of a.operation.call) offer offer.second offer.opens) lets
    seen false is lets = back is lets (is_in (offer.successor ∷ refs_of_option offer.second) j) refl

  -- ---- each step

  taken_kept : (f : Ref) (b : Bool) → is_kept (cond b (Stays (OfNode f)) (Stays (OfNode j))) ≡ true
  taken_kept f true = refl
  taken_kept f false = refl

  by_kind : (change : Change) → Kind state held s change → change_of state held s ≡ change → LetsGo change j → Of
  by_kind change changes_none is lets = kept no_change j refl lets
  by_kind change (gives private up) is lets = gives_all private up is lets (is_in private j) refl
  by_kind change (makes_one node action x a makes_it drawn) is lets = kept change j refl lets
  by_kind change (swaps_in i m f a hit) is lets = kept change j refl lets
  by_kind change (commits i f p root a v own) is lets = kept change j (taken_kept f (is_in (p ∷ []) j && is_in (refs_of_node (node_at state.heap f)) j)) lets
  by_kind change (looks why w main a on at) is lets = found why w main a on at (is_owned held w.indirection w.replaced) (prev_at state.heap w.fresh) refl refl lets
  by_kind change (closes actor number handle at) is lets = kept change j refl lets
  by_kind change (offers_it offer a stands) is lets = kept change j refl lets
  by_kind change (freezes_it offer main n a out none opens) is lets = kept change j refl lets
  by_kind change (sees offer main c done a on at) is lets = seen offer main c a on done at lets

  pub lets_go_so : LetsGo (change_of (run limits xs) (held_of limits xs) s) j → LetsGoSo (run limits xs) (held_of limits xs) s j
  lets_go_so lets = by_kind (change_of state held s) (kind state held s) refl lets

  pub who_lets_go : LetsGo (change_of (run limits xs) (held_of limits xs) s) j → LetsGoOf (run limits xs) (held_of limits xs) s j
  who_lets_go lets = by (lets_go_so lets)
    where
      by : LetsGoSo state held s j → LetsGoOf state held s j
      by (so_replaced actor i f is_step r own) = of_replaced actor i f is_step r own
      by (so_failed actor i m is_step r) = of_failed actor i m is_step r
      by (so_given_up private up c is) = made_by private up c is
      by (so_offered offer main c a on not_out unmarked d) = of_offered a.actor a.operation offer main c a.is_step a.runs a.acts on not_out unmarked d
