use Rattle.std.proofs.Common.{◌≡◌, None, ap, ◌∙◌}
use Rattle.std.specs.List.{filter}
use Rattle.rt_tree.specs.PathTree.{path_eq}
use Rattle.rt_query.specs.Queries.{Query}
use Rattle.rt_query.specs.Supply.{does_supply}
use Rattle.rt_cover.specs.Cover.{Tagged}
use Rattle.rt_cover.specs.inside.Least.{least_from}
use Rattle.rt_cover.proofs.listens.least_at.Goals as goal

pub returns : goal.returns
returns c =
    let q : Query = c.args.query.now in
    let same : c.keys.result.now ≡ q.path = c.keys.ensures.keys ∙ c.path.ensures in
    c.least_among.ensures
    ∙ ap (least_from (λ (k : Tagged). does_supply k.form q) None) (c.at_path.ensures ∙ (λ i. filter (λ (k : Tagged). path_eq (k.form).path (same i)) c.args.by_path.now))
