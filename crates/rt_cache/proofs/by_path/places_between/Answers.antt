use Rattle.std.proofs.Common.{rules, ◌≡◌, ◌<◌, ℕ, max, arith, length, get_or}
use Rattle.std.proofs.lemmas.List.{get_or_default}
use Rattle.rt_cache.specs.declared.by_path.Span.{Span}
use Rattle.rt_cache.proofs.InSpans.{order_more, front_more, back_more}
use Rattle.rt_cache.proofs.by_path.places_between.Goals as goal

pub loop-span-preserved : goal.loop-span-preserved
loop-span-preserved c =
    let n : ℕ = c.loop-span.span-index in
    let none : Span = record { start = 0; end = 0 } in
    let span : Span = get_or c.args.spans.now c.loop-span.span-index (record { start = 0; end = 0 }) in
    let within : c.loop-span.span-index < length c.args.spans.now = search rules in
    let at : span ≡ get_or c.args.spans.now c.loop-span.span-index span = get_or_default c.args.spans.now c.loop-span.span-index none span within in
    let bounds = c.requires.within c.loop-span.span-index none within in
    let most : c.max-place.result ≡ max c.loop-span.place span.end = search rules in
    let inv = c.loop-span.invariant in (
      omega (arith, most, inv.0, bounds.1),
      order_more 0 c.push_places.new.spans.items (max c.loop-span.place span.start) c.max-place.result (c.in_ok-push_places.ensures.order inv.1) (omega (arith, most, bounds.0)),
      λ k lt. front_more c.loop-span.gaps.items c.args.spans.now n c.loop-span.place span c.requires.rising within at inv.1 inv.2 inv.3
          c.push_places.new.spans.items c.in_ok-push_places.ensures.places k (λ le. omega (arith, most, lt, le)),
      λ k le. back_more c.loop-span.gaps.items c.args.spans.now n c.loop-span.place span c.requires.rising within at inv.1 inv.2 inv.3
          k (omega (arith, most, le)) (omega (arith, most, le)),
      c.in_ok-push_places.ensures.filled inv.4,
    )
