use Rattle.std.proofs.Common.{◌≤◌, List, length, get_or, rules, ap, ◌∙◌}
use Rattle.std.specs.Prelude.{◌==◌}
use Rattle.std.specs.List.{list_any}
use Rattle.rt_tree.specs.PathTree.{path_eq}
use Rattle.rt_query.specs.Queries.{Query}
use Rattle.rt_parts.specs.declared.places.ListenerPlace.{ListenerPlace}
use Rattle.rt_parts.proofs.PushLaws.{taken_all}
use Rattle.rt_parts.proofs.RenewalLaws.{none_at}
use Rattle.rt_parts.proofs.renewal.numbers_at.Goals as goal

pub loop-at-init : goal.loop-at-init
loop-at-init c = none_at c.args.places.now c.new-numbers.result.items c.args.queries.now

pub returns-clause-all : goal.returns-clause-all
returns-clause-all c =
    let done : length c.args.queries.now ≤ c.loop-at.at = search rules in
    λ k d lt e.
    let x : ListenerPlace = get_or c.args.places.now k d in
    c.sort_once.ensures.same (λ n. x.number == n)
    ∙ c.loop-at.invariant k d lt (ap (λ (qs : List Query). list_any (λ (q : Query). path_eq q.path x.path) qs) (taken_all c.loop-at.at c.args.queries.now done) ∙ e)
