use Rattle.std.proofs.Common.{◌≡◌, ◌≤◌, ◌+◌, ◌-◌, ℕ, Bool, true, get_or, take, drop, rules, arith}
use Rattle.std.specs.List.{list_any}
use Rattle.rt_tree.specs.PathTree.{path_eq}
use Rattle.rt_query.specs.Queries.{Query}
use Rattle.rt_parts.proofs.OrderLaws.{found_behind}
use Rattle.rt_parts.proofs.PushLaws.{on_both}
use Rattle.rt_parts.proofs.RenewalLaws.{paths_more, paths_same}
use Rattle.rt_parts.proofs.renewal.push_next.Goals as goal

pub returns-then-is_at : goal.returns-then-is_at
returns-then-is_at c =
    let q : Query = c.index-queries-at.result in
    let at : q ≡ get_or c.args.queries.now c.args.at q = search rules in
    let test : Query → Bool = λ r. path_eq r.path q.path in
    let front : ℕ = c.saturating_sub-front.result in
    let less : front ≡ c.args.at - 1 = c.saturating_sub-front.ensures in
    let close : list_any test (take (c.args.at - front) (drop front c.args.queries.now)) ≡ true = search rules in
    let within : front + (c.args.at - front) ≤ c.args.at = omega (arith, less) in
    let had : list_any test (take c.args.at c.args.queries.now) ≡ true = found_behind test c.args.queries.now front (c.args.at - front) c.args.at within close in
    paths_same c.args.places.now c.args.numbers.now.items c.args.queries.now c.args.at q c.requires.within at had

pub returns : goal.returns
returns c =
    let q : Query = c.index-queries-at.result in
    let at : q ≡ get_or c.args.queries.now c.args.at q = search rules in
    let path : c.keys.result.now ≡ q.path = search rules in
    on_both c.push_at.result c.push_at.ensures.kept c.push_at.ensures.all (λ kept all.
    paths_more c.args.places.now c.args.numbers.now.items c.push_at.new.numbers.items c.args.queries.now c.args.at q c.keys.result.now c.requires.within at path kept all)
