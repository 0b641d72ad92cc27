use Rattle.std.proofs.Common.{rules, ◌≡◌, ◌∙◌, ◌+◌, ◌<◌, ◌≤◌, ◌&&◌, ℕ, List, ap, sym, arith, length, get_or}
use Rattle.std.specs.List.{list_any, slice_range}
use Rattle.rt_tree.specs.PathTree.{Path}
use Rattle.rt_tree.specs.Assignments.{is_at_or_above}
use Rattle.rt_query.specs.Queries.{Query}
use Rattle.rt_cache.specs.declared.regions.Region.{Region}
use Rattle.rt_cache.specs.declared.forms.Form.{Form}
use Rattle.rt_cache.specs.inside.Handing.{lent_queries, is_under_one, AreLentOf}
use Rattle.rt_cache.specs.inside.Listed.{queries_of}
use Rattle.rt_cache.specs.inside.Spans.{has_place}
use Rattle.rt_cache.proofs.Gathering.{slice_more, slice_none, any_or, any_no, joined, all_lent}
use Rattle.rt_cache.proofs.handover.lend_under.Goals as goal

pub loop-place-preserved : goal.loop-place-preserved
loop-place-preserved c =
    let rs : List Region = c.args.regions.now in
    let qs : List Query = queries_of c.args.forms.now in
    let n : ℕ = c.loop-place.place in
    let m : ℕ = c.args.span.now.end in
    let r : Region = c.index-regions-place.result in
    let lt : n < m = c.loop-place-test.true in
    let within : n < length rs = omega (arith, lt, c.requires.within) in
    let at : r ≡ get_or rs n r = search rules in
    let path : c.path.result.now ≡ r.path = search rules in
    let exact : (k : ℕ) (d : Form) → k < length c.args.forms.now → is_at_or_above r.path ((get_or c.args.forms.now k d).query).path ≡ has_place k c.span_under.result =
    λ k d l. ap (λ (z : Path). is_at_or_above z ((get_or c.args.forms.now k d).query).path) (sym path) ∙ c.span_under.ensures.exact k d l in
    let more : AreLentOf (λ f. is_at_or_above r.path f.path) c.args.forms.now c.loop-place.lent.items c.lend_span.new.lent.items =
    c.in_ok-lend_span.ensures (λ f. is_at_or_above r.path f.path) exact in (
      omega (arith, c.loop-place.invariant.0),
      omega (arith, lt),
      λ p. joined _ (list_any p (lent_queries c.loop-place.lent.items)) (list_any (λ f. is_at_or_above r.path f.path && p f) qs) (list_any (λ f. is_under_one (slice_range rs (n + 1) m) f && p f) qs)
          (list_any (λ f. is_under_one (slice_range rs n m) f && p f) qs) (more p)
          (ap (λ (xs : List Region). list_any (λ f. is_under_one xs f && p f) qs) (slice_more rs n m r lt within at) ∙ any_or (λ f. is_at_or_above r.path f.path) (is_under_one (slice_range rs (n + 1) m)) p qs)
          ∙ c.loop-place.invariant.2 p,
    )

pub returns : goal.returns
returns c = λ p.
    let rs : List Region = c.args.regions.now in
    let qs : List Query = queries_of c.args.forms.now in
    let done : c.args.span.now.end ≤ c.loop-place.place = search rules in
    all_lent (list_any p (lent_queries c.loop-place.lent.items)) _ _
    (ap (λ (xs : List Region). list_any (λ f. is_under_one xs f && p f) qs) (slice_none rs c.loop-place.place c.args.span.now.end done) ∙ any_no p qs)
    (c.loop-place.invariant.2 p)
