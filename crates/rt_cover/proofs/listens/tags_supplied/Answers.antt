use Rattle.std.proofs.Common.{◌≡◌, rules, map, subst}
use Rattle.std.specs.List.{filter}
use Rattle.std.proofs.lemmas.List.Sorted.{IsNonDecreasingBy-from_sort_by_key}
use Rattle.rt_query.specs.Supply.{does_supply}
use Rattle.rt_cover.specs.Cover.{Tagged}
use Rattle.rt_cover.specs.inside.Index.{SameCounts}
use Rattle.rt_cover.proofs.CountLaws.{same_permuted}
use Rattle.rt_cover.proofs.ListenLaws.{tags_rise}
use Rattle.rt_cover.proofs.listens.tags_supplied.Goals as goal

pub returns-clause-same : goal.returns-clause-same
returns-clause-same c =
    let those : c.in_ok-tags.tags.items ≡ map (λ (k : Tagged). k.tag) (filter (λ (k : Tagged). does_supply c.args.form.now k.form) c.args.by_path.now) = search rules in
    subst (SameCounts c.sort_unstable_by_key.new.self.items) those
    (same_permuted c.in_ok-tags.tags.items c.sort_unstable_by_key.new.self.items c.sort_unstable_by_key.ensures.permutation)

pub returns-clause-rise : goal.returns-clause-rise
returns-clause-rise c = tags_rise c.sort_unstable_by_key.new.self.items
    (IsNonDecreasingBy-from_sort_by_key (λ t. t) c.sort_unstable_by_key.new.self.items c.sort_unstable_by_key.ensures.sorted (λ a r f k. search rules))
