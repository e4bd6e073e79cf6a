-- What is read of a handle is what is read of the core's handle for which its name stands.
use Rattle.std.specs.Prelude.{◌≡◌, ◌≢◌, ℕ, not, true, false, is_some, Option, Some, None, option_map, Ok, Err}
use Rattle.std.specs.FinMap as map
use Rattle.std.proofs.Common.{refl, sym, ap, ◌∙◌}
use Rattle.ctrie_map.specs.Vocabulary.{HandleState, KeyMap, Access, Writable, ReadOnly}
use Rattle.ctrie_map.specs.Beneath.map_worlds.specs.Worlds.{world_of}
use Rattle.ctrie_map.specs.declared.errors.MapError.{MapError}
use Rattle.ctrie_map.specs.declared.errors.MapError.TheVariants.{NoHandle}
use Rattle.ctrie_map.specs.declared.names.Name.{Name}
use Rattle.ctrie_map.specs.Denials.{is_frozen}
use Rattle.ctrie_map.specs.Maps.{IsWhole, MapState, handles_of}
use Rattle.ctrie_map.specs.Names.{name_at, shown_by}
use Rattle.ctrie_map.specs.Reading.{core_reading, read_of, reading, writability, writability_by}
use Rattle.ctrie_map.proofs.Named.{shows, stands_so, state_of}

-- nothing where there is no name
pub read_none : {A : Type 0} (now : MapState) (h : ℕ) (read : KeyMap → A) (why : MapError) → (name_at now.names h ≡ None) × (why ≡ NoHandle) → reading now h read ≡ Err why
read_none now h read why (none, is) =
    ap (read_of read) (shows (world_of now.core) now.names h ∙ ap (shown_by (world_of now.core)) none) ∙ ap Err (sym is)

same_read : {A : Type 0} (name : Name) (read : KeyMap → A) (o : Option HandleState) → read_of read (option_map (λ shown. state_of name.access shown.pairs) o) ≡ read_of read o
same_read name read None = refl
same_read name read (Some shown) = refl

pub read_so : {A : Type 0} (now : MapState) (h : ℕ) (read : KeyMap → A) (name : Name) → name_at now.names h ≡ Some name → reading now h read ≡ core_reading now.core name.core read
read_so now h read name at =
    ap (read_of read) (shows (world_of now.core) now.names h ∙ ap (shown_by (world_of now.core)) at) ∙ same_read name read (map.get (world_of now.core) name.core)

-- ---- which are open

module _ (now : MapState) (whole : IsWhole now) (h : ℕ) where
  pub open_so : is_some (name_at now.names h) ≡ map.contains_key (handles_of now) h
  open_so = by_name (name_at now.names h) refl ∙ ap is_some (sym (shows (world_of now.core) now.names h))
    where
      by_name : (o : Option Name) → name_at now.names h ≡ o → is_some o ≡ is_some (shown_by (world_of now.core) (name_at now.names h))
      by_name None at = sym (ap (λ o. is_some (shown_by (world_of now.core) o)) at)
      by_name (Some name) at = sym (ap (λ o. is_some (shown_by (world_of now.core) o)) at ∙ stands_so (world_of now.core) now.names whole.named h (Some name) at refl)

  pub none_writable : name_at now.names h ≡ None → Err NoHandle ≡ writability now h
  none_writable at = sym (ap writability_by (shows (world_of now.core) now.names h ∙ ap (shown_by (world_of now.core)) at))

  pub kind_so : (name : Name) → name_at now.names h ≡ Some name → Ok (not (is_frozen name.access)) ≡ writability now h
  kind_so name at =
      let stand = whole.named.stands h name at in
      sym (ap writability_by (shows (world_of now.core) now.names h ∙ ap (shown_by (world_of now.core)) at ∙ ap (option_map (λ shown. state_of name.access shown.pairs)) stand.1))

  pub writes : (name : Name) → name_at now.names h ≡ Some name → name.access ≡ Writable → Ok true ≡ writability now h
  writes name at is = sym (ap (λ a. Ok (not (is_frozen a))) is) ∙ kind_so name at

  pub freezes : (name : Name) → name_at now.names h ≡ Some name → name.access ≢ Writable → Ok false ≡ writability now h
  freezes name at other = by_access name.access refl
    where
      by_access : (a : Access) → name.access ≡ a → Ok false ≡ writability now h
      by_access Writable is = absurd (other is)
      by_access ReadOnly is = sym (ap (λ a. Ok (not (is_frozen a))) is) ∙ kind_so name at
