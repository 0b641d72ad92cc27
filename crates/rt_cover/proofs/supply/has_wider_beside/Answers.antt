use Rattle.std.proofs.Common.{rules, ◌≡◌, ◌&&◌, not, true, IfSome, subst, ◌∙◌}
use Rattle.rt_tree.specs.PathTree.{path_eq, path_eq-is}
use Rattle.rt_query.specs.Queries.{Query}
use Rattle.rt_query.specs.QueryEq.{query_eq}
use Rattle.rt_query.specs.Ranges.{takes_in}
use Rattle.rt_cover.specs.inside.Widest.{IsOfPath}
use Rattle.rt_cover.proofs.HeldLaws.{wider_left}
use Rattle.rt_cover.proofs.supply.has_wider_beside.Goals as goal

pub returns-then-eq : goal.returns-then-eq
returns-then-eq g c =
    let q : Query = c.args.query.now in
    let ended = g.E.EndedListeners.ended c.args.ending.now in
    let w = c.in-Some.widest.now in
    let known : IsOfPath ended c.args.listeners.now w.path.now w.entries.now w.places.now = subst (λ o. IfSome o (λ w. IsOfPath ended c.args.listeners.now w.now.path.now w.now.entries.now w.now.places.now)) c.in-Some.is c.requires in
    let is : path_eq w.path.now c.path.result.now ≡ true = search rules in
    c.has_wider_in_front.ensures ended known.widest
    ∙ known.forms (λ f. not (query_eq f q) && takes_in f q) (λ m. not (ended m))
    ∙ wider_left w.path.now q ended c.args.listeners.now (path_eq-is w.path.now c.path.result.now is ∙ c.path.ensures)
