use Rattle.std.proofs.Common.{◌≡◌, ◌∙◌, ◌++◌, ◌∷◌, [], ap, rules, subst, sym}
use Rattle.std.proofs.lemmas.Result.{on_ok_weaker}
use Rattle.rt_peer.specs.Pushes.{pushes}
use Rattle.rt_peer.specs.inside.Met.{picked, IsMadeAt}
use Rattle.rt_peer.specs.inside.Spots.{listen_of}
use Rattle.rt_peer.proofs.MetLaws.{made_by_own, pushes_own}
use Rattle.rt_peer.proofs.pushes.push_own.Goals as goal

pub push_one-requires-2-clause-made : goal.push_one-requires-2-clause-made
push_one-requires-2-clause-made c =
    let es = c.args.entries.now in
    let w = c.args.write.now in
    let own : c.deref.result.now ≡ picked es c.args.numbers.now = search rules in
    subst (λ xs. IsMadeAt c.args.heard.now.path xs w) (sym own)
    (made_by_own c.args.heard.now.path (picked es c.args.numbers.now) es w c.requires.own c.requires.made)

pub returns-clause-sent : goal.returns-clause-sent
returns-clause-sent c =
    let t = c.args.write.now.before in
    let u = c.args.write.now.after in
    let es = c.args.entries.now in
    let l = listen_of (c.args.owner.now, c.args.heard.now) in
    let sent = c.args.round.now.sent.items in
    let own : c.deref.result.now ≡ picked es c.args.numbers.now = search rules in
    on_ok_weaker c.push_one-2.result (λ h. h ∙ ap (λ xs. sent ++ pushes t u xs (l ∷ [])) own
    ∙ ap (λ xs. sent ++ xs) (pushes_own t u (picked es c.args.numbers.now) es l c.requires.own)) c.push_one-2.ensures.sent
