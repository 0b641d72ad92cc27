use Rattle.std.proofs.Common.{rules, ◌≡◌, ◌∙◌, ℕ, ◌+◌, ◌<◌, ◌≤◌, ◌||◌, ◌++◌, ◌∷◌, [], List, arith, length, get_or, drop, true, false, ap, sym, subst}
use Rattle.std.specs.List.{All}
use Rattle.std.proofs.lemmas.List.Elements.{All-push}
use Rattle.rt_tree.specs.PathTree.{Path}
use Rattle.rt_tree.specs.Assignments.{is_at_or_above}
use Rattle.rt_cache.specs.Recover.{reaches}
use Rattle.rt_cache.specs.declared.by_path.Span.{Span}
use Rattle.rt_cache.specs.inside.Spans.{have_place}
use Rattle.rt_cache.proofs.Levels.{span_more, reaches_less}
use Rattle.rt_tree.specs.declared.limits.TheConstants.{MAX_KEYS}
use Rattle.rt_query.specs.Queries.{Query, is_filtered}
use Rattle.rt_cache.proofs.Levels.{short_more, short_path}
use Rattle.rt_cache.proofs.recovery.spans_kept.Goals as goal
use Rattle.rt_cache.proofs.recovery.spans_kept.Goals.{then-not-is_filtered+in_ok-push, else-not-is_filtered}

pub loop-query-preserved : goal.loop-query-preserved
loop-query-preserved c =
    let q : Query = c.query-item.result in
    let within : c.loop-query.query-index < length c.args.kept.now = search rules in
    let at : q ≡ get_or c.args.kept.now c.loop-query.query-index q = search rules in
    let short : (k : ℕ) (d : Query) → k < c.loop-query.query-index + 1 → length (get_or c.args.kept.now k d).path ≤ MAX_KEYS =
    short_more c.args.kept.now c.loop-query.query-index q within at (short_path q c.path-path.result.now c.path-path.ensures c.keys.ensures.valid) c.loop-query.invariant.2 in
    elim c.if-not-is_filtered.branch [
      | then-not-is_filtered+in_ok-push w ↦
          let s : Span = w.span_under.result in
          let pushed : c.if-not-is_filtered.spans.items ≡ c.loop-query.spans.items ++ s ∷ [] = search rules in
          let plain : is_filtered q ≡ false = search rules in (
            subst (All (λ (x : Span). (x.start ≤ x.end) × (x.end ≤ length c.args.regions.now))) (sym pushed)
                (All-push (λ (x : Span). (x.start ≤ x.end) × (x.end ≤ length c.args.regions.now)) c.loop-query.spans.items s c.loop-query.invariant.0 (w.span_under.ensures.ordered, w.span_under.ensures.within)),
            (λ k d lt. ap (λ (xs : List Span). have_place xs k || reaches (drop (c.loop-query.query-index + 1) c.args.kept.now) (get_or c.args.regions.now k d).path) pushed
                ∙ span_more c.args.kept.now c.loop-query.query-index q c.loop-query.spans.items s k (get_or c.args.regions.now k d).path within at plain
                (ap (λ (x : Path). is_at_or_above x (get_or c.args.regions.now k d).path) (sym c.path-path.ensures) ∙ w.span_under.ensures.exact k d lt)
                ∙ c.loop-query.invariant.1 k d lt),
            short,
          )
      | else-not-is_filtered w ↦
          let same : c.if-not-is_filtered.spans.items ≡ c.loop-query.spans.items = search rules in
          let filtered : is_filtered q ≡ true = search rules in (
            search rules,
            (λ k d lt. ap (λ (xs : List Span). have_place xs k || reaches (drop (c.loop-query.query-index + 1) c.args.kept.now) (get_or c.args.regions.now k d).path) same
                ∙ ap (λ b. have_place c.loop-query.spans.items k || b) (reaches_less c.args.kept.now c.loop-query.query-index q (get_or c.args.regions.now k d).path within at filtered)
                ∙ c.loop-query.invariant.1 k d lt),
            short,
          )
    ]

pub returns-clause-short : goal.returns-clause-short
returns-clause-short c =
    let done : length c.args.kept.now ≤ c.loop-query.query-index = search rules in
    λ k d lt. c.loop-query.invariant.2 k d (omega (arith, done, lt))
