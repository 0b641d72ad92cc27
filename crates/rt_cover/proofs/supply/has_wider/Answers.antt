use Rattle.std.proofs.Common.{◌&&◌, ◌∙◌, not, sym}
use Rattle.rt_query.specs.Queries.{Query}
use Rattle.rt_query.specs.QueryEq.{query_eq}
use Rattle.rt_query.specs.Ranges.{takes_in}
use Rattle.rt_cover.proofs.HeldLaws.{wider_left}
use Rattle.rt_cover.proofs.WidestLaws.{in_front_alone}
use Rattle.rt_cover.proofs.supply.has_wider.Goals as goal

pub returns : goal.returns
returns g c =
    let q : Query = c.args.query.now in
    let ended = g.E.EndedListeners.ended c.args.ending.now in
    c.has_taker_among.ensures
    ∙ sym (in_front_alone ended q c.filtered_at-entries.result.now c.count_in_front-count.result c.count_in_front-count.ensures.within c.count_in_front-count.ensures.point)
    ∙ c.filtered_at-entries.ensures.forms (λ f. not (query_eq f q) && takes_in f q) (λ m. not (ended m))
    ∙ wider_left c.keys.result.now q ended c.args.listeners.now (c.keys.ensures.keys ∙ c.path.ensures)
