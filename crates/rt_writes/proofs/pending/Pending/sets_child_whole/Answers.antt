use Rattle.std.proofs.Common.{◌≡◌, ◌||◌, ℕ, false, [], ◌∷◌, ◌++◌, sym, ap, subst, ◌∙◌, is_some}
use Rattle.std.specs.Option.{option_copied, option_map_or}
use Rattle.rt_writes.specs.Writes.{sets_whole}
use Rattle.rt_writes.specs.inside.ByNumber.{writes_of}
use Rattle.rt_writes.specs.inside.Spots.{has_here, spot_at, IsAbove, IsLast}
use Rattle.rt_writes.proofs.NumberLaws.{here_at, is_child_whole, is_whole, whole_child, merged_pending}
use Rattle.rt_writes.proofs.pending.Pending.sets_child_whole.Goals as goal

pub returns-then-is_some : goal.returns-then-is_some
returns-then-is_some c =
    let merged = merged_pending (writes_of c.self.inside.writes) c.args.self.now c.self.inside.merged c.self.invariant c.self.view_is in
    let whole : is_some c.look-last.result.0 ≡ sets_whole c.args.self.now c.args.path.now =
    is_whole c.args.self.now c.self.inside.merged c.args.path.now c.look-last.result.0 merged
    (subst (λ p. IsLast (IsAbove c.self.inside.merged p) c.look-last.result.0) c.keys.ensures.keys c.look-last.ensures.last) in
    c.if-is_some.true ∙ whole_child c.args.self.now c.args.path.now c.args.key.now (sym whole ∙ sym c.is_some.ensures ∙ c.if-is_some.true)

pub returns-else-is_some : goal.returns-else-is_some
returns-else-is_some c =
    let merged = merged_pending (writes_of c.self.inside.writes) c.args.self.now c.self.inside.merged c.self.invariant c.self.view_is in
    let whole : is_some c.look-last.result.0 ≡ sets_whole c.args.self.now c.args.path.now =
    is_whole c.args.self.now c.self.inside.merged c.args.path.now c.look-last.result.0 merged
    (subst (λ p. IsLast (IsAbove c.self.inside.merged p) c.look-last.result.0) c.keys.ensures.keys c.look-last.ensures.last) in
    let same : (j : ℕ) → option_map_or (λ s. has_here s (c.args.key.now ∷ []) j) (option_copied c.look-last.result.1) false ≡ has_here c.self.inside.merged (c.args.path.now ++ c.args.key.now ∷ []) j =
    λ j. ap (λ o. option_map_or (λ s. has_here s (c.args.key.now ∷ []) j) o false) (c.look-last.ensures.spot ∙ ap (spot_at c.self.inside.merged) c.keys.ensures.keys)
    ∙ sym (here_at c.args.path.now (c.args.key.now ∷ []) c.self.inside.merged j) in
    ap (λ b. b || c.sets_child.result) (sym (sym whole ∙ sym c.is_some.ensures ∙ c.if-is_some.false))
    ∙ is_child_whole c.args.self.now c.self.inside.merged c.args.path.now c.args.key.now c.sets_child.result merged (
      λ t. let h = c.sets_child.ensures.0 t in (h.0, sym (same h.0) ∙ h.1),
      λ h. c.sets_child.ensures.1 (h.0, same h.0 ∙ h.1),
    )
