use Rattle.std.proofs.Common.{◌∙◌, ◌==◌, sym, ap, subst, rules}
use Rattle.std.proofs.lemmas.Bool.{not-false}
use denote.Enum.Bare.{same_true}
use Rattle.ctrie_base.specs.declared.hashes.HashKind.{HashKind}
use Rattle.ctrie_base.specs.contracts.hashes.HashKind.{the_type}
use Rattle.ctrie_base.specs.Hashes.{hash_of}
use Rattle.history.specs.declared.content.Content.TheInside.{Inside}
use Rattle.history.specs.Worlds.{KeyMap}
use Rattle.history.specs.Crowds.{IsCounted}
use Rattle.history.specs.Effects.{is_crowded}
use Rattle.history.proofs.EntryMaps.{none_from}
use Rattle.history.proofs.CrowdCounts.{is_crowded-present, is_crowded-absent}
use Rattle.history.proofs.content.Content.is_crowded.Goals as goal
use Rattle.history.proofs.content.Content.is_crowded.Goals.{then-ne+in_ok-self-inside, else-ne}

pub returns-then-contains_key-clause-crowded : goal.returns-then-contains_key-clause-crowded
returns-then-contains_key-clause-crowded c =
    sym (is_crowded-present (hash_of c.args.kind) c.self.inside.pairs.entries c.args.key (sym c.contains_key.ensures ∙ c.if-contains_key.true))
    ∙ ap (λ (m : KeyMap). is_crowded (hash_of c.args.kind) m c.args.key) c.self.view_is

pub returns-clause-crowded : goal.returns-clause-crowded
returns-clause-crowded c =
    let hash = hash_of c.args.kind in
    let pairs = c.self.inside.pairs.entries in
    let kept : Inside → Type 0 = λ s. IsCounted hash pairs s.crowds.entries in
    let counted : kept c.if-ne.self-inside = elim c.if-ne.branch [
      | then-ne+in_ok-self-inside w ↦ subst kept (sym w.self-inside-is) w.in_ok-self-inside.ensures.counts
      | else-ne w ↦
          let same = same_true the_type (search rules) c.self.inside.kind c.args.kind (not-false _ (sym w.if-ne.ensures)) in
          subst kept (sym w.self-inside-is) (subst (λ (k : HashKind). IsCounted (hash_of k) pairs c.self.inside.crowds.entries) same c.self.invariant)
    ] in
    let absent = none_from _ _ c.contains_key.ensures c.if-contains_key.false in
    ap (λ n. n == 32) c.count_at.ensures ∙ sym (is_crowded-absent hash pairs c.if-ne.self-inside.crowds.entries c.args.key c.hash.result counted absent c.hash.ensures)
    ∙ ap (λ (m : KeyMap). is_crowded hash m c.args.key) c.self.view_is
