use Rattle.std.proofs.Common.{◌≡◌, ◌<◌, List, length, get_or, rules, sym, ap, ◌∙◌}
use Rattle.std.proofs.Common.{◌&&◌}
use Rattle.rt_query.specs.QueryEq.{query_eq}
use Rattle.rt_sync.specs.declared.steps.losses.Had.{Had}
use Rattle.rt_sync.proofs.HadLaws.{at_end, at_first}
use Rattle.rt_sync.proofs.steps.losses.has_come.Goals as goal

pub returns-then-place-had : goal.returns-then-place-had
returns-then-place-had c =
    let hs : List Had = c.args.had.now in
    let all : c.first_from-place.result ≡ length hs = search rules in
    sym (at_end c.args.query.now c.args.source.now hs c.requires c.first_from-place.result c.first_from-place.ensures.point all)

pub returns : goal.returns
returns c =
    let hs : List Had = c.args.had.now in
    let h : Had = c.index-had-place.result in
    let within : c.first_from-place.result < length hs = search rules in
    let at : h ≡ get_or hs c.first_from-place.result h = search rules in
    c.is_of.ensures ∙ ap (λ (x : Had). query_eq x.query c.args.query.now && query_eq x.source c.args.source.now) at
    ∙ sym (at_first c.args.query.now c.args.source.now hs c.requires c.first_from-place.result c.first_from-place.ensures.point h within)
