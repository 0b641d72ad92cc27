use Rattle.std.proofs.Common.{◌≡◌, ◌∙◌, List, ap, sym, subst, not}
use Rattle.std.specs.List.{filter, remove_range}
use Rattle.rt_tree.specs.Assignments.{is_at_or_above}
use Rattle.rt_cache.specs.Recover.{in_query_order}
use Rattle.rt_cache.specs.declared.by_path.Span.{Span}
use Rattle.rt_cache.specs.declared.windows.Window.{Window}
use Rattle.rt_cache.specs.inside.ByPath.{AreByPath, AreByQuery, query_of}
use Rattle.rt_cache.specs.inside.Held.{entries_of}
use Rattle.rt_cache.proofs.ByQueries.{by_paths, by_query-filter}
use Rattle.rt_cache.proofs.InSpans.{one_out}
use Rattle.rt_cache.proofs.Listing.{listed-filter}
use Rattle.rt_cache.proofs.windows.remove_under.Goals as goal

pub returns-clause-order : goal.returns-clause-order
returns-clause-order c =
    let span : Span = c.span_under-span.result in
    let test = λ (w : Window). is_at_or_above c.args.path.now (w.query).path in
    let out : remove_range c.deref.result.now span.start span.end ≡ filter (λ (w : Window). not (test w)) c.deref.result.now =
    one_out test c.deref.result.now span c.span_under-span.ensures.ordered c.span_under-span.ensures.within c.span_under-span.ensures.exact in
    subst (λ (ws : List Window). AreByQuery query_of ws)
    (sym (c.remove_span.ensures ∙ subst (λ (ws : List Window). remove_range ws span.start span.end ≡ filter (λ (w : Window). not (test w)) ws) c.deref.ensures.value out))
    (by_query-filter query_of (λ (w : Window). not (test w)) c.args.windows.now.items c.requires)

pub returns-clause-left : goal.returns-clause-left
returns-clause-left c =
    let span : Span = c.span_under-span.result in
    let test = λ (w : Window). is_at_or_above c.args.path.now (w.query).path in
    let out : remove_range c.deref.result.now span.start span.end ≡ filter (λ (w : Window). not (test w)) c.deref.result.now =
    one_out test c.deref.result.now span c.span_under-span.ensures.ordered c.span_under-span.ensures.within c.span_under-span.ensures.exact in
    ap (λ (ws : List Window). in_query_order (entries_of ws))
    (c.remove_span.ensures ∙ subst (λ (ws : List Window). remove_range ws span.start span.end ≡ filter (λ (w : Window). not (test w)) ws) c.deref.ensures.value out)
    ∙ listed-filter (λ q. not (is_at_or_above c.args.path.now q.path)) c.args.windows.now.items

pub span_under-span-requires : goal.span_under-span-requires
span_under-span-requires c = subst (λ (ws : List Window). AreByPath query_of ws) (sym c.deref.ensures.value) (by_paths query_of c.args.windows.now.items c.requires)
