use Rattle.std.proofs.Common.{rules, tests, ◌∙◌, ◌&&◌, not, ap}
use Rattle.std.specs.List.{list_any}
use Rattle.std.proofs.lemmas.Iterator.{YieldsList-from_slice}
use Rattle.std.proofs.lemmas.Iterator.Search.{any_from_yields_List}
use Rattle.rt_query.specs.QueryEq.{query_eq}
use Rattle.rt_query.specs.Supply.{does_supply}
use Rattle.rt_cache.specs.declared.forms.Form.{Form}
use Rattle.rt_cache.specs.inside.Listed.{form_query}
use Rattle.rt_cache.proofs.ByPaths.{any_map}
use Rattle.rt_cache.proofs.forms.Forms.supplies.Goals as goal

pub returns : goal.returns
returns c =
    any_from_yields_List (λ (f : Form). not (query_eq f.query c.args.query.now) && does_supply f.query c.args.query.now) _ _ c.any.result c.any.ensures.ran (YieldsList-from_slice c.as_slice.result.now (cc)) (λ x b q k. search (rules, tests))
    ∙ any_map form_query (λ f. not (query_eq f c.args.query.now) && does_supply f c.args.query.now) c.as_slice.result.now
    ∙ ap (list_any (λ f. not (query_eq f c.args.query.now) && does_supply f c.args.query.now)) c.as_slice.ensures
