-- What a restore in one shard comes to.
use Rattle.std.proofs.Common.{◌≡◌, ℕ, false, nat_eq, None, Result, Ok, Err, sym, ap, ◌∙◌}
use Rattle.std.proofs.lemmas.Bool.{true≢false}
use Rattle.shared_map.specs.Vocabulary.{Writable, Snapshot, naming}
use Rattle.ctrie_map.specs.Costs.{WorksUpTo}
use Rattle.ctrie_map.specs.declared.errors.MapError.{MapError}
use Rattle.ctrie_map.specs.declared.errors.MapError.TheVariants.{Full, WornOut}
use Rattle.ctrie_map.specs.Maps.{MapState, handles_of}
use Rattle.ctrie_map.specs.Restoring.{RefusesRestore, is_worn_out_to_restore, restore_denial}
use Rattle.ctrie_map.specs.Sharding.{may_lack_slots}
use Rattle.shared_map.specs.Restores.{work_of_a_restore}
use Rattle.shared_map.specs.Restoring.{ComesTo}
use Rattle.shared_map.specs.Turning.{HasBecome, map_shown, turned}
use Rattle.shared_map.specs.declared.turning.Turn.TheVariants as turn
use Rattle.shared_map.proofs.TurnOne.{not_both}

-- where nothing stands in its way the handle becomes a copy
module _ (s t : MapState) (h copy : ℕ) (none : restore_denial s h copy ≡ None) (life : is_worn_out_to_restore s ≡ false) (room : may_lack_slots (Snapshot copy) s ≡ false) where
  never : (error : MapError) → RefusesRestore s h copy t error → ⊥
  never Full p = true≢false (sym (ap (λ n. nat_eq n 0) p.1) ∙ room)
  never WornOut p = true≢false (sym p.2 ∙ life)
  never error p = not_both (restore_denial s h copy) error none p.0

  pub becomes_copy : (told : Result (Unit {0}) MapError) → ComesTo s h copy told t → WorksUpTo work_of_a_restore s t →
      HasBecome (turned (turn.Copy copy h Writable)) (λ last. last) work_of_a_restore s t
  becomes_copy (Ok done) p works =
      let (shown, writable, at, becomes) = p.0 in
      record { limits = becomes.0; last = becomes.1; handles = becomes.2 ∙ ap (naming (handles_of s) h Writable) (sym (ap map_shown at)); work = works }
  becomes_copy (Err error) p works = absurd (never error p.2)
