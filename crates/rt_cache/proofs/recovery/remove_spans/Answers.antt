use Rattle.std.proofs.Common.{◌≡◌, ◌∙◌, ◌≤◌, ◌++◌, ◌∷◌, [], ap, sym, subst, arith, length, List}
use Rattle.std.specs.List.{remove_range}
use Rattle.rt_cache.specs.declared.regions.Region.{Region}
use Rattle.rt_cache.specs.declared.by_path.Span.{Span}
use Rattle.rt_cache.specs.inside.Spans.{AreInOrder, without}
use Rattle.rt_cache.proofs.InSpans.{order-push, order_more, without-push, out_within}
use Rattle.rt_cache.proofs.recovery.remove_spans.Goals as goal

pub remove_span-requires-clause-ordered : goal.remove_span-requires-clause-ordered
remove_span-requires-clause-ordered c =
    let items : c.loop-span.spans.items ≡ c.pop.new.self.items ++ c.in-Some.span ∷ [] = c.in-Some.ensures.items in
    (order-push 0 c.pop.new.self.items c.in-Some.span (length c.loop-span.regions.items)
    (subst (λ (spans : List Span). AreInOrder 0 spans (length c.loop-span.regions.items)) items c.loop-span.invariant.1)).1

pub remove_span-requires-clause-within : goal.remove_span-requires-clause-within
remove_span-requires-clause-within c =
    let items : c.loop-span.spans.items ≡ c.pop.new.self.items ++ c.in-Some.span ∷ [] = c.in-Some.ensures.items in
    (order-push 0 c.pop.new.self.items c.in-Some.span (length c.loop-span.regions.items)
    (subst (λ (spans : List Span). AreInOrder 0 spans (length c.loop-span.regions.items)) items c.loop-span.invariant.1)).2

pub loop-span-preserved : goal.loop-span-preserved
loop-span-preserved c =
    let span : Span = c.in-Some.span in
    let old : List Region = c.loop-span.regions.items in
    let items : c.loop-span.spans.items ≡ c.pop.new.self.items ++ c.in-Some.span ∷ [] = c.in-Some.ensures.items in
    let order : AreInOrder 0 (c.pop.new.self.items ++ c.in-Some.span ∷ []) (length c.loop-span.regions.items) =
    subst (λ (spans : List Span). AreInOrder 0 spans (length c.loop-span.regions.items)) items c.loop-span.invariant.1 in
    let parts = order-push 0 c.pop.new.self.items c.in-Some.span (length c.loop-span.regions.items) order in
    let left : c.remove_span.new.regions.items ≡ remove_range c.loop-span.regions.items c.in-Some.span.start c.in-Some.span.end = c.remove_span.ensures.left in
    let room : c.in-Some.span.start ≤ length c.remove_span.new.regions.items =
    subst (λ (rs : List Region). c.in-Some.span.start ≤ length rs) (sym left) (out_within c.loop-span.regions.items c.in-Some.span.start c.in-Some.span.end parts.1 parts.2) in (
      ap (without c.pop.new.self.items) left ∙ sym (without-push c.pop.new.self.items c.in-Some.span c.loop-span.regions.items)
          ∙ ap (λ (spans : List Span). without spans c.loop-span.regions.items) (sym items) ∙ c.loop-span.invariant.0,
      order_more 0 c.pop.new.self.items c.in-Some.span.start (length c.remove_span.new.regions.items) parts.0 room,
      omega (arith, c.remove_span.ensures.len, c.loop-span.invariant.2),
      c.remove_span.ensures.room ∙ c.loop-span.invariant.3,
    )
