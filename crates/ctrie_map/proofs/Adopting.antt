-- A draft takes the place of what a name stood for.
use Rattle.std.specs.Prelude.{◌≡◌, ◌≢◌, ℕ, IsSome, is_some, Some}
use Rattle.std.specs.FinMap as map
use Rattle.std.proofs.Common.{sym, ap, subst, ◌∙◌}
use Rattle.std.proofs.lemmas.Bool.{true≢false}
use Rattle.ctrie_map.specs.Vocabulary.{Writable, naming, HandleMap, KeyMap, State}
use Rattle.ctrie_map.specs.Beneath.map_worlds.specs.Worlds.{world_of}
use Rattle.ctrie_map.specs.declared.names.Name.{Name}
use Rattle.ctrie_map.specs.Cores.{Turns}
use Rattle.ctrie_map.specs.Drafts.{IsBeside, IsDraftOf}
use Rattle.ctrie_map.specs.Names.{AreNamesOf, NameTable, handles_under, name_at, with_name}
use Rattle.ctrie_map.proofs.Named.{at_other, state_of}
use Rattle.ctrie_map.proofs.Renaming.{replace_named, replace_shows, replaced}

module _ (world : HandleMap) (names : NameTable) (handle : ℕ) (name : Name) (at : name_at names handle ≡ Some name) (draft : ℕ) (m : KeyMap) (core : State)
    (beside : IsBeside world names draft m core) where
  abbrev new : Name
  new = record { core = draft; access = Writable }

  -- what it stood for is open
  pub old_there : IsSome (map.get (world_of core) name.core)
  old_there =
      let stand = beside.named.stands handle name at in
      let apart : name.core ≢ draft = λ same. true≢false (sym (ap is_some stand.1) ∙ ap is_some (ap (map.get world) same ∙ beside.new)) in
      subst (λ w. IsSome (map.get w name.core)) (sym beside.is) (ap is_some (at_other world draft (state_of Writable m) name.core apart ∙ stand.1))

  module _ (after : State) (turns : Turns core (map.remove (world_of core) name.core) after) where
    to : world_of after ≡ replaced world names beside.named handle name at new beside.new m
    to = turns.1 ∙ ap (λ w. map.remove w name.core) beside.is

    pub adopt_named : AreNamesOf (world_of after) (with_name names handle (Some new))
    adopt_named = subst (λ w. AreNamesOf w (with_name names handle (Some new))) (sym to) (replace_named world names beside.named handle name at new beside.new m)

    pub adopt_shows : handles_under (with_name names handle (Some new)) (world_of after) ≡ naming (handles_under names world) handle Writable m
    adopt_shows = ap (handles_under (with_name names handle (Some new))) to ∙ replace_shows world names beside.named handle name at new beside.new m

-- a draft of a map stands beside the names
pub beside_so : (before : State) (names : NameTable) (source draft : ℕ) (after : State) → AreNamesOf (world_of before) names → (d : IsDraftOf source before draft after) →
    IsBeside (world_of before) names draft d.m after
beside_so before names source draft after named d = record { named = named; new = d.new; is = d.turns.1 }
