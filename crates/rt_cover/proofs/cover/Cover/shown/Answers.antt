use Rattle.std.proofs.Common.{◌≡◌, sym, subst, ◌∙◌}
use Rattle.std.specs.List.{All}
use Rattle.rt_query.specs.Supply.{form}
use Rattle.rt_cover.specs.Cover.{Tagged}
use Rattle.rt_cover.specs.inside.Sound.{IsSound}
use Rattle.rt_cover.proofs.HeldLaws.{all_own}
use Rattle.rt_cover.proofs.cover.Cover.shown.Goals as goal

pub shown-requires : goal.shown-requires
shown-requires c =
    let sound : IsSound c.args.self.now = subst IsSound c.self.view_is c.self.invariant in
    subst (All (λ (k : Tagged). form k.form ≡ k.form)) (sym (c.as_slice.ensures ∙ (λ i. (c.self.view_is i).kept))) (all_own c.args.self.now sound)
