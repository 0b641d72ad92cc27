use Rattle.std.proofs.Common.{◌==◌, List, ℕ, ap, subst, ◌∙◌}
use Rattle.std.specs.List.{list_any}
use Rattle.rt_cover.specs.Cover.{Registered}
use Rattle.rt_cover.specs.State.{Cover}
use Rattle.rt_cover.specs.inside.Endings.{is_lost_by}
use Rattle.rt_cover.specs.inside.Sound.{IsSound}
use Rattle.rt_cover.proofs.ChangeLaws.{lost_by_numbers}
use Rattle.rt_cover.proofs.ChangeLaws as laws
use Rattle.rt_cover.proofs.cover.Cover.lost_tags.Goals as goal

pub returns : goal.returns
returns c =
    let old : Cover = c.args.self.now in
    let sound : IsSound old = subst IsSound c.self.view_is c.self.invariant in
    let ns : List ℕ = c.args.numbers.now in
    laws.lost_tags old sound (λ (l : Registered). list_any (λ n. n == l.0) ns) c.sort_once.new.numbers.items c.sort_once.ensures.rise
    (λ p. c.sort_once.ensures.same p ∙ c.in_ok-tags.ensures p
    ∙ ap (list_any (λ n. list_any (is_lost_by (λ (l : Registered). list_any (λ m. m == l.0) ns) old.listeners p n) old.kept)) c.as_slice.ensures ∙ lost_by_numbers old sound ns p)
