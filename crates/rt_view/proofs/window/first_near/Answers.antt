use Rattle.std.proofs.Common.{◌≡◌, rules}
use Rattle.rt_chain.specs.declared.chain.Half.TheVariants.{Behind, Front}
use Rattle.rt_view.proofs.KnownLaws.{behind_leads, front_leads}
use Rattle.rt_view.proofs.window.first_near.Goals as goal

pub returns-in-Front : goal.returns-in-Front
returns-in-Front c =
    let is : c.args.half ≡ Front = search rules in
    front_leads c.args.half is c.args.number c.args.chain.now c.slot_back.result c.slot_back.ensures

pub returns-in-Behind : goal.returns-in-Behind
returns-in-Behind c =
    let is : c.args.half ≡ Behind = search rules in
    behind_leads c.args.half is c.args.number c.args.chain.now c.first_behind.result c.first_behind.ensures
