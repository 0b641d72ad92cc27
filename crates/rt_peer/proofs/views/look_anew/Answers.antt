use Rattle.rt_peer.proofs.LookedLaws.{looked_more}
use Rattle.rt_peer.proofs.ViewsLaws.{goes_more, still_before, turned_more}
use Rattle.rt_peer.proofs.views.look_anew.Goals as goal

pub turn-requires-clause-of : goal.turn-requires-clause-of
turn-requires-clause-of c =
    still_before c.args.write.now.before c.args.write.now.after c.args.looked.now.entries c.args.views.now c.args.heard.now
    c.requires.anew c.requires.turned

pub returns-clause-looked : goal.returns-clause-looked
returns-clause-looked c =
    looked_more c.args.write.now.before c.args.write.now.after c.args.heard.now c.in_ok-told.told c.args.looked.now.entries
    c.note.new.looked.entries c.in_ok-note.ensures c.in_ok-told.ensures.told c.requires.looked

pub returns-clause-turned : goal.returns-clause-turned
returns-clause-turned c =
    turned_more c.args.write.now.before c.args.write.now.after c.args.heard.now c.in_ok-told.told c.args.looked.now.entries
    c.note.new.looked.entries c.args.views.now c.turn.new.self c.in_ok-note.ensures c.in_ok-told.ensures.of
    c.in_ok-told.ensures.others c.requires.turned

pub returns-clause-goes : goal.returns-clause-goes
returns-clause-goes c =
    goes_more c.args.heard.now c.in_ok-told.told c.args.looked.now.entries c.note.new.looked.entries c.args.views.now
    c.turn.new.self c.in_ok-note.ensures c.in_ok-told.ensures.others
