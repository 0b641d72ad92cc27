use Rattle.std.proofs.Common.{◌≡◌, ◌∙◌, ◌&&◌, ◌||◌, Bool, false, List, ap, sym, length}
use Rattle.std.specs.List.{filter, list_any}
use Rattle.rt_query.specs.Queries.{Query}
use Rattle.rt_query.specs.QueryEq.{query_eq}
use Rattle.rt_cache.specs.Recover.{is_among}
use Rattle.rt_cache.specs.declared.by_path.Lent.{Lent}
use Rattle.rt_cache.specs.declared.regions.Region.{Region}
use Rattle.rt_cache.specs.declared.forms.Form.{Form}
use Rattle.rt_cache.specs.declared.by_path.Span.{Span}
use Rattle.rt_cache.specs.declared.windows.Window.{Window}
use Rattle.rt_cache.specs.inside.Handing.{lent_queries, window_queries, is_under_lost_one, is_beside_one, is_supplied_by_one, is_near_one}
use Rattle.rt_cache.specs.inside.Listed.{queries_of}
use Rattle.rt_cache.proofs.Among.{any_passing}
use Rattle.rt_cache.proofs.ByPaths.{any_map}
use Rattle.rt_cache.proofs.Gathering.{are_gathered, any_narrowed}
use Rattle.rt_cache.proofs.InSpans.{each_in_order}
use Rattle.rt_cache.proofs.Lending.{among_lent, those_alike}
use Rattle.rt_cache.proofs.handover.windows_of_ended.Goals as goal

pub lend_lost-requires-clause-within : goal.lend_lost-requires-clause-within
lend_lost-requires-clause-within c = each_in_order 0 c.args.lost.now (length c.args.regions.now) (c.requires.cut.1).lost.0

pub returns : goal.returns
returns c = λ registered kept cut t.
    let rs : List Region = c.args.regions.now in
    let ss : List Span = c.args.lost.now in
    let ws : List Window = c.args.windows.now in
    let fs : List Form = c.filtered-filtered.result.now in
    let ended : List Query = lent_queries c.deref-5.result.now in
    let those : (x : Query) → is_among ended x ≡ is_among c.args.ended.now x = λ x.
    sym (among_lent c.deref-5.result.now x) ∙ ap (list_any (λ (l : Lent). query_eq l.query.now x)) c.deref-5.ensures.value ∙ c.in_ok-those.ensures.same (λ q. query_eq q x) in
    let kept_near : (p : Query → Bool) → list_any p (lent_queries c.retain_supplied.new.lent.items) ≡ list_any (λ f. is_near_one ws ended f && p f) (queries_of fs) = λ p.
    ap (list_any p) (c.retain_supplied.ensures ∙ ap (λ (ls : List Lent). filter (is_supplied_by_one (lent_queries ls)) (lent_queries c.in_ok-lent.lent.items)) (c.deref-2.ensures.value ∙ sym c.deref-5.ensures.value))
    ∙ any_passing p (is_supplied_by_one ended) (lent_queries c.in_ok-lent.lent.items)
    ∙ c.in_ok-lent.ensures (λ f. p f && is_supplied_by_one ended f)
    ∙ ap (λ (ls : List Lent). list_any (λ f. is_beside_one ws (lent_queries ls) f && (p f && is_supplied_by_one ended f)) (queries_of fs)) (c.deref.ensures.value ∙ sym c.deref-5.ensures.value)
    ∙ any_narrowed (is_beside_one ws ended) (is_supplied_by_one ended) p (queries_of fs) in
    let any : (p : Query → Bool) → list_any p (lent_queries c.deref-4.result.now)
    ≡ (list_any (λ f. is_near_one ws ended f && p f) (queries_of fs) || list_any (λ f. is_under_lost_one rs ss f && p f) (queries_of fs)) = λ p.
    sym (any_map (λ (l : Lent). l.query.now) p c.deref-4.result.now)
    ∙ ap (list_any (λ (l : Lent). p l.query.now)) c.deref-4.ensures.value
    ∙ c.in_ok-forms.ensures.same p
    ∙ ap (list_any (λ (l : Lent). p l.query.now)) c.deref-3.ensures.value
    ∙ any_map (λ (l : Lent). l.query.now) p c.lend_lost.new.lent.items
    ∙ c.in_ok-lend_lost.ensures p
    ∙ ap (λ b. b || list_any (λ f. is_under_lost_one rs ss f && p f) (queries_of fs)) (kept_near p) in
    c.windows_handed.ensures registered kept c.args.were.now cut
    (those_alike registered c.args.were.now c.args.ended.now ended (window_queries ws) false those t)
    (are_gathered c.args.were.now ended (queries_of fs) (lent_queries c.deref-4.result.now) kept rs ss c.args.parts.now ws c.requires.belongs c.requires.apart cut
    (each_in_order 0 ss (length rs) cut.lost.0) c.filtered-filtered.ensures.same any)
