use Rattle.std.proofs.Common.{◌∷◌, [], IfOk, sym, subst}
use Rattle.std.proofs.lemmas.Result.{IfOk-weaker}
use Rattle.rt_world.specs.declared.step.Step.{Step}
use Rattle.rt_sync.specs.declared.state.State.{State}
use Rattle.rt_sync.specs.inside.States.{IsReady, Makes}
use Rattle.rt_sync.proofs.state.State.take_merge.Goals as goal

pub take_on-requires : goal.take_on-requires
take_on-requires c =
    subst (λ es. IsReady c.args.self.now (Step.Push ((c.args.tag, es) ∷ []))) (sym c.as_slice.ensures)
    (record {
      tied = c.requires.tied;
      viewed = c.requires.viewed;
      due = record { good = c.requires.due.good; not_refused = c.requires.due.not_refused; not_stale = c.requires.due.not_stale };
    })

pub returns : goal.returns
returns c =
    let old : State = c.args.self.now in
    let new : State = c.take_on.new.self in
    IfOk-weaker c.take_on.result (λ told. Makes old (Step.Push ((c.args.tag, c.args.entries) ∷ [])) new told) (λ told. Makes old (Step.DataMerge c.args.tag c.args.entries) new told)
    (λ told m. record { tied = m.tied; next = record { world = m.next.world; given = m.next.given; notes = m.next.notes }; views = m.views })
    (subst (λ es. IfOk c.take_on.result (λ told. Makes old (Step.Push ((c.args.tag, es) ∷ [])) new told)) c.as_slice.ensures c.take_on.ensures)
