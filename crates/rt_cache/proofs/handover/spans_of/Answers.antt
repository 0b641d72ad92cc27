use Rattle.std.proofs.Common.{rules, ◌≡◌, ◌∙◌, ◌+◌, ◌<◌, ◌≤◌, ◌||◌, ◌++◌, ◌∷◌, [], List, length, get_or, drop, ap, sym, subst}
use Rattle.std.specs.List.{All}
use Rattle.std.proofs.lemmas.List.Elements.{All-push}
use Rattle.rt_cache.specs.Recover.{is_among}
use Rattle.rt_cache.specs.declared.by_path.Lent.{Lent}
use Rattle.rt_cache.specs.declared.by_path.Span.{Span}
use Rattle.rt_cache.specs.inside.Handing.{lent_queries}
use Rattle.rt_cache.specs.inside.Spans.{have_place}
use Rattle.rt_cache.proofs.Lending.{span_more, span_less}
use Rattle.rt_cache.proofs.handover.spans_of.Goals as goal
use Rattle.rt_cache.proofs.handover.spans_of.Goals.{then-span+in_ok-push, else-span}

pub loop-one-preserved : goal.loop-one-preserved
loop-one-preserved c =
    let one : Lent = c.one-item.result in
    let within : c.loop-one.one-index < length c.args.those.now = search rules in
    let at : one ≡ get_or c.args.those.now c.loop-one.one-index one = search rules in
    let s : Span = c.span_of-span.result in
    elim c.if-span.branch [
      | then-span+in_ok-push w ↦
          let pushed : c.if-span.spans.items ≡ c.loop-one.spans.items ++ s ∷ [] = search rules in (
            subst (All (λ (x : Span). (x.start ≤ x.end) × (x.end ≤ length c.args.windows.now))) (sym pushed)
                (All-push (λ (x : Span). (x.start ≤ x.end) × (x.end ≤ length c.args.windows.now)) c.loop-one.spans.items s c.loop-one.invariant.0 (c.span_of-span.ensures.ordered, c.span_of-span.ensures.within)),
            λ k d lt. ap (λ (xs : List Span). have_place xs k || is_among (lent_queries (drop (c.loop-one.one-index + 1) c.args.those.now)) (get_or c.args.windows.now k d).query) pushed
                ∙ span_more c.args.those.now c.loop-one.one-index one c.loop-one.spans.items s k (get_or c.args.windows.now k d).query within at (c.span_of-span.ensures.exact k d lt)
                ∙ c.loop-one.invariant.1 k d lt,
          )
      | else-span w ↦
          let same : c.if-span.spans.items ≡ c.loop-one.spans.items = search rules in
          let empty : s.end ≤ s.start = search rules in (
            search rules,
            λ k d lt. ap (λ (xs : List Span). have_place xs k || is_among (lent_queries (drop (c.loop-one.one-index + 1) c.args.those.now)) (get_or c.args.windows.now k d).query) same
                ∙ span_less c.args.those.now c.loop-one.one-index one c.loop-one.spans.items s k (get_or c.args.windows.now k d).query within at empty (c.span_of-span.ensures.exact k d lt)
                ∙ c.loop-one.invariant.1 k d lt,
          )
    ]
