use Rattle.std.proofs.Common.{rules, ◌≡◌, ◌∙◌, ◌+◌, ◌<◌, ◌++◌, ◌∷◌, List, length, get_or, drop, map, ap, sym, append-nil}
use Rattle.rt_query.specs.Queries.{Query}
use Rattle.rt_cache.specs.declared.by_path.Lent.{Lent}
use Rattle.rt_cache.specs.inside.Handing.{lent_queries}
use Rattle.rt_cache.proofs.Lending.{lent_more, mapped_dropped}
use Rattle.rt_cache.proofs.Parts.{all_dropped}
use Rattle.rt_cache.proofs.by_path.lend.Goals as goal

pub loop-item-preserved : goal.loop-item-preserved
loop-item-preserved g c =
    let q = g.T.HasQuery.query_of in
    let xs = c.args.items.now in
    let item = c.item-item.result in
    let within : c.loop-item.item-index < length xs = search rules in
    let at : item ≡ get_or xs c.loop-item.item-index item = search rules in
    let rest : List Query = map q (drop (c.loop-item.item-index + 1) xs) in
    ap (λ (ls : List Lent). lent_queries ls ++ rest) c.in_ok-push.ensures.items ∙ lent_more c.loop-item.lent.items _ rest
    ∙ ap (λ (x : Query). lent_queries c.loop-item.lent.items ++ x ∷ rest) c.query.ensures
    ∙ ap (λ qs. lent_queries c.loop-item.lent.items ++ qs) (sym (mapped_dropped q xs c.loop-item.item-index item within at))
    ∙ c.loop-item.invariant

pub returns : goal.returns
returns g c =
    sym (append-nil (lent_queries c.loop-item.lent.items))
    ∙ ap (λ xs. lent_queries c.loop-item.lent.items ++ map g.T.HasQuery.query_of xs) (sym (all_dropped c.loop-item.item-index c.args.items.now c.loop-item-test.false))
    ∙ c.loop-item.invariant
