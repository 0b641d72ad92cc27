use Rattle.std.proofs.Common.{◌<◌, ◌≤◌, ◌&&◌, ℕ, List, length, rules, ap, ◌∙◌}
use Rattle.std.specs.List.{list_any}
use Rattle.rt_tree.specs.PathTree.{path_eq}
use Rattle.rt_query.specs.Queries.{is_filtered}
use Rattle.rt_cache.specs.Recover.{is_among}
use Rattle.rt_parts.proofs.PushLaws.{taken_all}
use Rattle.rt_parts.proofs.RenewalLaws.{has_of, more_of, none_of}
use Rattle.rt_parts.proofs.renewal.queries_of.Goals as goal

pub loop-number-init : goal.loop-number-init
loop-number-init c = λ q. ap (λ qs. is_among qs q) c.new-queries.ensures.items ∙ none_of c.args.listeners.now q c.args.numbers.now (is_filtered q) (path_eq q.path c.args.path.now)

pub loop-number-preserved : goal.loop-number-preserved
loop-number-preserved c = λ q.
    let i : ℕ = c.loop-number.number-index in
    let within : i < length c.args.numbers.now = search rules in
    more_of c.args.listeners.now q c.args.numbers.now i _ (is_filtered q) (path_eq q.path c.args.path.now)
    (is_among c.loop-number.queries.items q) (is_among c.push_query.new.queries.items q) within (search rules) (c.loop-number.invariant q) (c.in_ok-push_query.ensures q)

pub returns : goal.returns
returns c = λ q.
    let past : length c.args.numbers.now ≤ c.loop-number.number-index = search rules in
    c.sort_queries_once.ensures q
    ∙ c.loop-number.invariant q
    ∙ ap (λ (ns : List ℕ). is_filtered q && path_eq q.path c.args.path.now && list_any (has_of c.args.listeners.now q) ns) (taken_all c.loop-number.number-index c.args.numbers.now past)
