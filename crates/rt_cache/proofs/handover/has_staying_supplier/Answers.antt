use Rattle.std.proofs.Common.{rules, ◌≡◌, ◌∙◌, ◌<◌, ◌&&◌, List, sym, ap, length, get_or, true, false}
use Rattle.std.specs.List.{list_any}
use Rattle.rt_query.specs.Queries.{Query}
use Rattle.rt_query.specs.QueryEq.{query_eq}
use Rattle.rt_query.specs.Supply.{does_supply}
use Rattle.rt_query.specs.laws.QueryEq.{query_eq_tells}
use Rattle.rt_cache.specs.declared.windows.Window.{Window}
use Rattle.rt_cache.specs.inside.ByPath.{query_of}
use Rattle.rt_cache.specs.inside.Handing.{is_staying}
use Rattle.rt_cache.specs.inside.Spans.{have_place}
use Rattle.rt_cache.proofs.Apart.{own_decides, others_alone}
use Rattle.rt_cache.proofs.Gathering.{staying_any}
use Rattle.rt_cache.proofs.handover.has_staying_supplier.Goals as goal

pub returns-in-Some : goal.returns-in-Some
returns-in-Some c = λ those among h.
    let ws : List Window = c.args.windows.now in
    let q : Query = c.args.query.now in
    let item : Window = c.index-windows-place.result in
    let within : c.in-Some.place < length ws = search rules in
    let own : query_eq (get_or ws c.in-Some.place item).query q ≡ true = search rules in
    let is : item ≡ get_or ws c.in-Some.place item = search rules in
    let asked : c.query.result.now ≡ item.query = search rules in
    c.is_staying_supplier.ensures (length ws) h.order
    ∙ ap (λ r. does_supply r q && have_place c.args.staying.now c.in-Some.place) asked
    ∙ (λ i. does_supply (is i).query q && h.places c.in-Some.place item within i)
    ∙ sym (own_decides query_of q ws c.requires.order c.requires.filtered c.requires.apart (is_staying those among) c.in-Some.place item within
    ((query_eq_tells (get_or ws c.in-Some.place item).query q).0 own))
    ∙ staying_any those among q ws

pub returns-in-None : goal.returns-in-None
returns-in-None c = λ those among h.
    let ws : List Window = c.args.windows.now in
    let q : Query = c.args.query.now in
    let none : list_any (λ (w : Window). query_eq w.query q) ws ≡ false = search rules in
    c.has_other_staying.ensures those among h ∙ others_alone query_of q (is_staying those among) ws none
    ∙ staying_any those among q ws
