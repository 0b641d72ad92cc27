use Rattle.std.proofs.Common.{rules, ◌∙◌, ◌+◌, ◌<◌, ◌≤◌, ◌&&◌, ℕ, List, ap, length, get_or, drop}
use Rattle.std.specs.List.{list_any, slice_range}
use Rattle.std.proofs.lemmas.List.{drop_more}
use Rattle.rt_query.specs.Queries.{Query}
use Rattle.rt_cache.specs.declared.regions.Region.{Region}
use Rattle.rt_cache.specs.declared.by_path.Span.{Span}
use Rattle.rt_cache.specs.inside.Handing.{lent_queries, is_under_one, is_under_lost_one}
use Rattle.rt_cache.specs.inside.Listed.{queries_of}
use Rattle.rt_cache.proofs.Gathering.{any_or, any_no, joined, all_lent}
use Rattle.rt_cache.proofs.Parts.{all_dropped}
use Rattle.rt_cache.proofs.handover.lend_lost.Goals as goal

pub loop-span-preserved : goal.loop-span-preserved
loop-span-preserved c = λ p.
    let rs : List Region = c.args.regions.now in
    let ss : List Span = c.args.lost.now in
    let qs : List Query = queries_of c.args.forms.now in
    let n : ℕ = c.loop-span.span-index in
    let s : Span = get_or ss n (record { start = 0; end = 0 }) in
    let within : n < length ss = search rules in
    let rest : List Span = drop (n + 1) ss in
    joined _ (list_any p (lent_queries c.loop-span.lent.items)) (list_any (λ f. is_under_one (slice_range rs s.start s.end) f && p f) qs) (list_any (λ f. is_under_lost_one rs rest f && p f) qs)
    (list_any (λ f. is_under_lost_one rs (drop n ss) f && p f) qs) (c.in_ok-lend_under.ensures p)
    (ap (λ (xs : List Span). list_any (λ f. is_under_lost_one rs xs f && p f) qs) (drop_more ss n (record { start = 0; end = 0 }) within)
    ∙ any_or (is_under_one (slice_range rs s.start s.end)) (is_under_lost_one rs rest) p qs)
    ∙ c.loop-span.invariant p

pub returns : goal.returns
returns c = λ p.
    let qs : List Query = queries_of c.args.forms.now in
    let done : length c.args.lost.now ≤ c.loop-span.span-index = search rules in
    all_lent (list_any p (lent_queries c.loop-span.lent.items)) _ _
    (ap (λ (xs : List Span). list_any (λ f. is_under_lost_one c.args.regions.now xs f && p f) qs) (all_dropped c.loop-span.span-index c.args.lost.now done) ∙ any_no p qs)
    (c.loop-span.invariant p)
