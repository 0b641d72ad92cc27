use Rattle.std.proofs.Common.{◌≡◌, ◌<◌, sym, subst, ◌∙◌}
use Rattle.std.specs.List.{AllPairs}
use Rattle.rt_cover.specs.Cover.{Tagged}
use Rattle.rt_cover.specs.State.{Cover}
use Rattle.rt_cover.specs.inside.Sound.{IsSound}
use Rattle.rt_cover.proofs.cover.Cover.form_at.Goals as goal

pub listen_at-requires : goal.listen_at-requires
listen_at-requires c =
    let old : Cover = c.args.self.now in
    let sound : IsSound old = subst IsSound c.self.view_is c.self.invariant in
    let ks : c.as_slice.result.now ≡ old.kept = c.as_slice.ensures ∙ (λ i. (c.self.view_is i).kept) in
    subst (AllPairs (λ (j k : Tagged). j.tag < k.tag)) (sym ks) sound.tags
