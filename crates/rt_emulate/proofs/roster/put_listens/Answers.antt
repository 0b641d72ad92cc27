use Rattle.std.proofs.Common.{◌∙◌, length, Some, ap, subst, arith}
use Rattle.rt_hub.specs.Hubs.{listen_texts}
use Rattle.rt_emulate.specs.inside.Rosters.{PutsListen}
use Rattle.rt_emulate.proofs.RosterLaws.{listed_end, listed_on}
use Rattle.rt_emulate.proofs.roster.put_listens.Goals as goal

pub listens-preserved : goal.listens-preserved
listens-preserved c =
    let put =
    subst (λ t. PutsListen c.args.hub.now c.args.connection c.listens.above c.listens.is_first t c.listens.draft c.put_listen.new.draft)
    c.in-Some.is c.in_ok-tag.ensures in
    listed_on c.listens.is_first put.0 (listen_texts c.args.hub.now c.args.connection (Some c.in-Some.tag))
    (listen_texts c.args.hub.now c.args.connection c.listens.above) c.listens.draft c.put_listen.new.draft put.1 put.2
    ∙ c.listens.invariant

pub listens-smaller : goal.listens-smaller
listens-smaller c =
    let put =
    subst (λ t. PutsListen c.args.hub.now c.args.connection c.listens.above c.listens.is_first t c.listens.draft c.put_listen.new.draft)
    c.in-Some.is c.in_ok-tag.ensures in
    let less = ap length put.1 in omega (arith, less)

pub returns-in_default : goal.returns-in_default
returns-in_default c =
    let put =
    subst (λ t. PutsListen c.args.hub.now c.args.connection c.listens.above c.listens.is_first t c.listens.draft c.put_listen.new.draft)
    c.in_default.is c.in_ok-tag.ensures in
    put.0
    ∙ listed_end c.listens.is_first (listen_texts c.args.hub.now c.args.connection c.listens.above) c.listens.draft put.1
    ∙ c.listens.invariant
