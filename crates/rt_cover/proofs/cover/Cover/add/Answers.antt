use Rattle.std.proofs.Common.{◌≡◌, ◌⊎◌, Some, inl, inr, sym}
use Rattle.std.proofs.lemmas.Result.{on_ok_weaker, IfErr-weaker}
use Rattle.rt_query.specs.Supply.{form}
use Rattle.rt_cover.specs.declared.error.CoverError.TheVariants.{NoMemory}
use Rattle.rt_cover.specs.State.{Cover, with_listener, add_fault}
use Rattle.rt_cover.proofs.RefusalLaws.{fault_none, fault_other, fault_lacking}
use Rattle.rt_cover.proofs.cover.Cover.add.Goals as goal

pub register-requires-clause-room : goal.register-requires-clause-room
register-requires-clause-room c = sym (c.if-lacks_tag_to_add.ensures c.args.listener c.requires)

pub returns-then-lacks_tag_to_add-clause-fault : goal.returns-then-lacks_tag_to_add-clause-fault
returns-then-lacks_tag_to_add-clause-fault c =
    let old : Cover = c.args.self.now in
    inl (fault_lacking old (with_listener old.listeners c.args.listener (form c.args.query)) (sym (c.if-lacks_tag_to_add.ensures c.args.listener c.requires)))

pub returns-clause-taken : goal.returns-clause-taken
returns-clause-taken c =
    let old : Cover = c.args.self.now in
    on_ok_weaker c.register.result (λ _. fault_none old (with_listener old.listeners c.args.listener (form c.args.query))
    (sym (c.if-lacks_tag_to_add.ensures c.args.listener c.requires))) c.register.ensures.cover

pub returns-clause-fault : goal.returns-clause-fault
returns-clause-fault c = IfErr-weaker c.register.result (λ e. e ≡ NoMemory) (λ e. (add_fault c.args.self.now c.args.listener c.args.query ≡ Some e) ⊎ (e ≡ NoMemory)) (λ e is. inr is) c.register.ensures.fault

pub returns-clause-no_tag : goal.returns-clause-no_tag
returns-clause-no_tag c = λ is.
    let old : Cover = c.args.self.now in
    absurd (fault_other (add_fault old c.args.listener c.args.query) (fault_none old (with_listener old.listeners c.args.listener (form c.args.query))
    (sym (c.if-lacks_tag_to_add.ensures c.args.listener c.requires))) is)
