use Rattle.std.proofs.Common.{rules, ◌≡◌, ◌∙◌, is_some}
use Rattle.rt_cache.proofs.Apart.{supplier_found}
use Rattle.rt_cache.proofs.by_path.has_other_supplier.Goals as goal

pub returns : goal.returns
returns g c =
    let told : c.is_some.result ≡ is_some c.last_supplier.result = search rules in
    told ∙ supplier_found g.T.HasQuery.query_of c.args.query.now c.args.items.now c.last_supplier.result c.last_supplier.ensures.within c.last_supplier.ensures.own c.last_supplier.ensures.none
