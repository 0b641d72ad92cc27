use Rattle.std.proofs.Common.{rules, ◌≡◌, ◌∙◌, ◌≢◌, length, get_or, sym, ap}
use Rattle.std.specs.List.{filter}
use Rattle.std.proofs.lemmas.Fn.{filter_same}
use Rattle.rt_query.specs.Supply.{does_supply}
use Rattle.rt_cache.specs.declared.by_path.Lent.{Lent}
use Rattle.rt_cache.specs.inside.Handing.{lent_queries}
use Rattle.rt_cache.proofs.Lending.{all_stay, one_tells, passing_mapped}
use Rattle.rt_cache.proofs.handover.retain_supplied.Goals as goal

pub returns-then-ended-ne1 : goal.returns-then-ended-ne1
returns-then-ended-ne1 c =
    let many : length c.args.ended.now ≢ 1 = search rules in
    sym (all_stay c.args.ended.now c.args.lent.now.items many)

pub returns : goal.returns
returns c =
    let one : length c.args.ended.now ≡ 1 = search rules in
    let first : Lent = c.index-ended-0.result in
    let at : first ≡ get_or c.args.ended.now 0 first = search rules in
    ap lent_queries (filter_same _ (λ (l : Lent). does_supply first.query.now l.query.now) _ (λ x b f' k. search rules) _ _ c.retain.ensures.filtered)
    ∙ passing_mapped (λ (l : Lent). l.query.now) (does_supply first.query.now) c.args.lent.now.items
    ∙ ap (λ t. filter t (lent_queries c.args.lent.now.items)) (sym (one_tells c.args.ended.now first one at))
