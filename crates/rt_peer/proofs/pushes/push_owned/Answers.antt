use Rattle.std.proofs.Common.{◌++◌, ap, sym, ◌∙◌, append-nil}
use Rattle.std.proofs.lemmas.Result.{on_ok_weaker}
use Rattle.rt_peer.specs.Pushes.{pushes}
use Rattle.rt_peer.proofs.MetLaws.{handed_one}
use Rattle.rt_peer.proofs.ViewsLaws.{visited_none, visited_one}
use Rattle.rt_peer.proofs.pushes.push_owned.Goals as goal

pub returns-in-Some-clause-visited : goal.returns-in-Some-clause-visited
returns-in-Some-clause-visited c =
    on_ok_weaker c.push_own.result (λ goes. visited_one c.args.owner.now c.in-Some.heard.now c.args.listens.now
    c.args.round.now.looked.entries c.push_own.new.round.looked.entries c.args.round.now.views c.push_own.new.round.views c.in-Some.ensures.some goes)
    c.push_own.ensures.goes

pub returns-in-Some-clause-sent : goal.returns-in-Some-clause-sent
returns-in-Some-clause-sent c =
    on_ok_weaker c.push_own.result (λ h. h
    ∙ ap (λ ls. c.args.round.now.sent.items ++ pushes c.args.write.now.before c.args.write.now.after c.args.entries.now ls)
    (sym c.in-Some.ensures.some)) c.push_own.ensures.sent

pub returns-in-None-clause-visited : goal.returns-in-None-clause-visited
returns-in-None-clause-visited c =
    visited_none c.args.owner.now c.args.listens.now c.args.round.now.looked.entries c.args.round.now.views c.in-None.ensures.none

pub returns-in-None-clause-sent : goal.returns-in-None-clause-sent
returns-in-None-clause-sent c =
    sym (append-nil c.args.round.now.sent.items)
    ∙ ap (λ ls. c.args.round.now.sent.items ++ pushes c.args.write.now.before c.args.write.now.after c.args.entries.now ls)
    (sym c.in-None.ensures.none)

pub push_own-requires-clause-own : goal.push_own-requires-clause-own
push_own-requires-clause-own c =
    handed_one c.args.entries.now c.args.owner.now c.in-Some.heard.now c.args.numbers.now c.args.listens.now
    c.in-Some.ensures.some c.requires.own
