use Rattle.std.proofs.Common.{◌≡◌, ◌∙◌, ◌&&◌, ◌||◌, Bool, List, ap, sym, subst, true}
use Rattle.std.specs.List.{filter, list_any, All}
use Rattle.std.specs.FinMap as map_of
use Rattle.std.proofs.lemmas.List.Sorted.{list_any-IsPermutation}
use Rattle.rt_query.specs.Queries.{Query, is_filtered}
use Rattle.rt_query.specs.QueryEq.{query_eq}
use Rattle.rt_query.specs.Needed.{needed}
use Rattle.rt_query.specs.QueryOrder.{query_cmp}
use Rattle.rt_cache.specs.Brought.{Brought}
use Rattle.rt_cache.specs.Recover.{is_among, cut, heirs}
use Rattle.rt_cache.specs.declared.by_path.Lent.{Lent}
use Rattle.rt_cache.specs.declared.regions.Region.{Region}
use Rattle.rt_cache.specs.declared.windows.Window.{Window}
use Rattle.rt_cache.specs.inside.ByPath.{AreByQuery}
use Rattle.rt_cache.specs.inside.Handing.{lent_queries, window_queries, is_staying, staying_of, is_region_lost, is_window_lost, is_loser, AreStaying}
use Rattle.rt_cache.specs.inside.Held.{pairs_of, held}
use Rattle.rt_cache.proofs.Among.{any_passing}
use Rattle.rt_cache.proofs.Apart.{windows_apart}
use Rattle.rt_cache.proofs.Gathering.{losers_gathered}
use Rattle.rt_cache.proofs.HandLaws.{heirs_are, handed_alike}
use Rattle.rt_cache.proofs.Lending.{among_lent, of_ok, losing_order, losing_filtered}
use Rattle.rt_cache.proofs.Parts.{if_ok}
use Rattle.rt_cache.proofs.Sources.{all_kept}
use Rattle.rt_cache.proofs.handover.windows_handed.Goals as goal

pub losers-requires-clause-filtered : goal.losers-requires-clause-filtered
losers-requires-clause-filtered c = all_kept (λ q. is_filtered q ≡ true) c.args.windows.now c.requires.belongs.filtered

pub losers-requires-clause-windows_apart : goal.losers-requires-clause-windows_apart
losers-requires-clause-windows_apart c = windows_apart c.args.were.now c.args.windows.now c.requires.belongs

pub losers-requires-clause-staying : goal.losers-requires-clause-staying
losers-requires-clause-staying c = subst (AreStaying (lent_queries c.args.those.now) c.args.among c.args.windows.now) (sym c.deref.ensures.value) c.in_ok-staying.ensures

pub unsupplied-requires-clause-order : goal.unsupplied-requires-clause-order
unsupplied-requires-clause-order c =
    let kept : List Query = c.requires.cut.0 in
    let those : List Query = lent_queries c.args.those.now in
    let windows : List Query = window_queries c.args.windows.now in
    let test : Query → Bool = λ q. is_staying those c.args.among q && is_loser kept (pairs_of c.args.regions.now) windows (staying_of those c.args.among windows) q in
    subst (AreByQuery (λ (l : Lent). l.query.now)) (sym c.deref-2.ensures.value)
    (losing_order test c.args.forms.now c.in_ok-losing.losing.items (of_ok c.losers.result c.in_ok-losing.losing _ c.in_ok-losing.was (c.losers.ensures kept c.requires.cut.1)) c.requires.forms)

pub unsupplied-requires-clause-filtered : goal.unsupplied-requires-clause-filtered
unsupplied-requires-clause-filtered c =
    let kept : List Query = c.requires.cut.0 in
    let those : List Query = lent_queries c.args.those.now in
    let windows : List Query = window_queries c.args.windows.now in
    subst (All (λ (l : Lent). is_filtered l.query.now ≡ true)) (sym c.deref-2.ensures.value)
    (losing_filtered (is_staying those c.args.among)
    (λ q. is_region_lost kept (pairs_of c.args.regions.now) q || is_window_lost windows (staying_of those c.args.among windows) q)
    c.args.forms.now c.in_ok-losing.losing.items (of_ok c.losers.result c.in_ok-losing.losing _ c.in_ok-losing.was (c.losers.ensures kept c.requires.cut.1)))

pub returns : goal.returns
returns c = λ registered kept all is t gathered.
    let rs : List Region = c.args.regions.now in
    let ws : List Window = c.args.windows.now in
    let those : List Query = lent_queries c.args.those.now in
    let b : Brought = held c.args.were.now rs ws in
    let test : Query → Bool = λ q. is_staying those c.args.among q && is_loser kept (pairs_of rs) (window_queries ws) (staying_of those c.args.among (window_queries ws)) q in
    let losing : lent_queries c.in_ok-losing.losing.items ≡ filter test (lent_queries c.args.forms.now) =
    of_ok c.losers.result c.in_ok-losing.losing _ c.in_ok-losing.was (c.losers.ensures kept is) in
    let any : (p : Query → Bool) → list_any p (lent_queries c.in_ok-losing.losing.items) ≡ list_any (λ q. p q && test q) all = λ p.
    ap (list_any p) losing ∙ any_passing p test (lent_queries c.args.forms.now)
    ∙ losers_gathered kept (pairs_of rs) all those c.args.among (window_queries ws) (lent_queries c.args.forms.now) gathered p in
    let turned : (x : Query) → is_among (lent_queries c.deref-3.result.now) x ≡ is_among (needed (lent_queries c.in_ok-losing.losing.items)) x = λ x.
    sym (among_lent c.deref-3.result.now x) ∙ ap (list_any (λ (l : Lent). query_eq l.query.now x)) c.deref-3.ensures.value
    ∙ sym (list_any-IsPermutation (λ (l : Lent). query_eq l.query.now x) c.in_ok-heirs.heirs.items c.reverse.new.self.items c.reverse.ensures.permutation)
    ∙ among_lent c.in_ok-heirs.heirs.items x
    ∙ ap (λ hs. is_among hs x) (c.in_ok-heirs.ensures ∙ ap (λ (ls : List Lent). needed (lent_queries ls)) c.deref-2.ensures.value) in
    let same : (x : Query) → is_among (lent_queries c.deref-3.result.now) x ≡ is_among (heirs registered b (cut registered kept b)) x = λ x.
    turned x ∙ heirs_are c.args.were.now registered kept all those c.args.among rs ws c.requires.belongs c.requires.beside t (lent_queries c.in_ok-losing.losing.items) any x in
    if_ok c.hand_on.result _ _ c.hand_on.ensures
    (λ handed e x. ap (map_of.find query_cmp x) e ∙ handed_alike b (lent_queries c.deref-3.result.now) (heirs registered b (cut registered kept b)) same x)
