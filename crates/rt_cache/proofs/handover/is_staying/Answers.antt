use Rattle.std.proofs.Common.{rules, ◌≡◌, ◌∙◌, ap}
use Rattle.std.specs.List.{list_any}
use Rattle.rt_query.specs.QueryEq.{query_eq}
use Rattle.rt_cache.specs.declared.by_path.Lent.{Lent}
use Rattle.rt_cache.specs.inside.Handing.{is_alike}
use Rattle.rt_cache.proofs.Lending.{among_lent}
use Rattle.rt_cache.proofs.handover.is_staying.Goals as goal

pub returns : goal.returns
returns c =
    let told : c.is_alike.result ≡ is_alike (list_any (λ (l : Lent). query_eq l.query.now c.args.query.now) c.args.those.now) c.args.among = search rules in
    told ∙ ap (λ b. is_alike b c.args.among) (among_lent c.args.those.now c.args.query.now)
