use Rattle.std.proofs.Common.{rules, ◌≡◌, ◌∙◌, ◌||◌, ap, sym, true, false}
use Rattle.std.specs.List.{list_any}
use Rattle.rt_query.specs.QueryEq.{query_eq}
use Rattle.rt_cache.specs.inside.ByPath.{is_other_supplier}
use Rattle.rt_cache.proofs.Suppliers.{supplier_is}
use Rattle.rt_cache.proofs.by_path.has_supplier.Goals as goal

pub returns-then-is_some : goal.returns-then-is_some
returns-then-is_some g c =
    let q = g.T.HasQuery.query_of in
    let xs = c.args.items.now in
    let own : list_any (λ x. query_eq (q x) c.args.query.now) xs ≡ true = search rules in
    c.if-is_some.true
    ∙ ap (λ b. b || list_any (λ x. is_other_supplier (q x) c.args.query.now) xs) (sym own)
    ∙ supplier_is q c.args.query.now xs c.requires.filtered

pub returns-else-is_some : goal.returns-else-is_some
returns-else-is_some g c =
    let q = g.T.HasQuery.query_of in
    let xs = c.args.items.now in
    let own : list_any (λ x. query_eq (q x) c.args.query.now) xs ≡ false = search rules in
    let other : c.has_other_supplier.result ≡ list_any (λ x. is_other_supplier (q x) c.args.query.now) xs = search rules in
    other
    ∙ ap (λ b. b || list_any (λ x. is_other_supplier (q x) c.args.query.now) xs) (sym own)
    ∙ supplier_is q c.args.query.now xs c.requires.filtered
