use Rattle.std.proofs.Common.{◌≡◌, ◌∙◌, subst, not, List}
use Rattle.std.specs.List.{filter, remove_range}
use Rattle.rt_tree.specs.Assignments.{is_at_or_above}
use Rattle.rt_cache.specs.declared.regions.Region.{Region}
use Rattle.rt_cache.specs.declared.by_path.Span.{Span}
use Rattle.rt_cache.proofs.InSpans.{one_out}
use Rattle.rt_cache.proofs.regions.remove_under.Goals as goal

pub returns-clause-left : goal.returns-clause-left
returns-clause-left c =
    let span : Span = c.span_under-span.result in
    let out : remove_range c.deref.result.now span.start span.end ≡ filter (λ (r : Region). not (is_at_or_above c.args.path.now r.path)) c.deref.result.now =
    one_out (λ (r : Region). is_at_or_above c.args.path.now r.path) c.deref.result.now span c.span_under-span.ensures.ordered c.span_under-span.ensures.within c.span_under-span.ensures.exact in
    c.remove_span.ensures.left
    ∙ subst (λ (rs : List Region). remove_range rs span.start span.end ≡ filter (λ (r : Region). not (is_at_or_above c.args.path.now r.path)) rs) c.deref.ensures.value out
