use Rattle.std.proofs.Common.{◌≡◌, ◌==◌, ℕ, not, inl, sym, ap, subst, ◌∙◌}
use Rattle.std.specs.List.{filter}
use Rattle.rt_cover.specs.declared.change.Delta.{Delta}
use Rattle.rt_cover.specs.State.{Cover, with_listeners, lacks_tag, difference, revoked, without_tag}
use Rattle.rt_cover.specs.Shown.{IsTold}
use Rattle.rt_cover.specs.laws.SoundLaws.{is_told_without}
use Rattle.rt_cover.specs.inside.Sound.{IsSound}
use Rattle.rt_cover.proofs.HeldLaws.{tag_left, tag_lost}
use Rattle.rt_cover.proofs.RefusalLaws.{revoke_lacking, revoke_room, revoke_other, revoke_none, revoke_kept}
use Rattle.rt_cover.proofs.cover.Cover.revoke.Goals as goal

pub end-requires : goal.end-requires
end-requires c =
    let old : Cover = c.args.self.now in
    let sound : IsSound old = subst IsSound c.self.view_is c.self.invariant in
    record {
      tags = tag_lost old sound c.args.tag c.in_ok-ended.ended c.in_ok-ended.ensures.ended c.in_ok-ended.ensures.known;
      room = ap (lacks_tag old) (tag_left old sound c.args.tag c.in_ok-ended.ended c.in_ok-ended.ensures.ended c.in_ok-ended.ensures.known)
          ∙ revoke_room old c.args.tag (sym c.if-lacks_tag_to_revoke.ensures) c.in_ok-ended.ensures.known;
    }

pub returns-clause-cover : goal.returns-clause-cover
returns-clause-cover c =
    let old : Cover = c.args.self.now in
    let sound : IsSound old = subst IsSound c.self.view_is c.self.invariant in
    c.in_ok-started.ensures.cover ∙ ap (with_listeners old) (tag_left old sound c.args.tag c.in_ok-ended.ended c.in_ok-ended.ensures.ended c.in_ok-ended.ensures.known)

pub returns-clause-delta : goal.returns-clause-delta
returns-clause-delta c =
    let old : Cover = c.args.self.now in
    let sound : IsSound old = subst IsSound c.self.view_is c.self.invariant in
    let whole : c.in_ok-started.field-0 ≡ difference old (revoked old c.args.tag) =
    c.in_ok-started.ensures.delta ∙ (λ i. difference old (with_listeners old (tag_left old sound c.args.tag c.in_ok-ended.ended c.in_ok-ended.ensures.ended c.in_ok-ended.ensures.known i))) in
    let stopped : c.take_out.new.self ≡ filter (λ (t : ℕ). not (t == c.args.tag)) (c.in_ok-started.field-0).stopped = c.take_out.ensures in
    λ i. record { started = (whole i).started; stopped = (stopped ∙ (λ j. filter (λ (t : ℕ). not (t == c.args.tag)) (whole j).stopped)) i }

pub returns-clause-told : goal.returns-clause-told
returns-clause-told c =
    let old : Cover = c.args.self.now in
    let stopped : c.take_out.new.self ≡ filter (λ (t : ℕ). not (t == c.args.tag)) (c.in_ok-started.field-0).stopped = c.take_out.ensures in
    let d : Delta = record { started = (c.in_ok-started.field-0).started; stopped = c.take_out.new.self } in
    let same : d ≡ without_tag c.args.tag c.in_ok-started.field-0 = (λ i. record { started = (c.in_ok-started.field-0).started; stopped = stopped i }) in
    subst (IsTold old.next_tag) (sym same) (is_told_without old.next_tag c.args.tag c.in_ok-started.field-0 c.in_ok-started.ensures.told)

pub returns-then-lacks_tag_to_revoke-clause-fault : goal.returns-then-lacks_tag_to_revoke-clause-fault
returns-then-lacks_tag_to_revoke-clause-fault c = inl (revoke_lacking c.args.self.now c.args.tag (sym c.if-lacks_tag_to_revoke.ensures))

pub returns-then-lacks_tag_to_revoke-clause-unknown : goal.returns-then-lacks_tag_to_revoke-clause-unknown
returns-then-lacks_tag_to_revoke-clause-unknown c = λ is. absurd (revoke_kept c.args.self.now c.args.tag (sym c.if-lacks_tag_to_revoke.ensures) is)

pub returns-in_err-ended-clause-no_tag : goal.returns-in_err-ended-clause-no_tag
returns-in_err-ended-clause-no_tag c = λ is. absurd (revoke_other c.args.self.now c.args.tag (sym c.if-lacks_tag_to_revoke.ensures) is)

pub returns-in_err-started-clause-no_tag : goal.returns-in_err-started-clause-no_tag
returns-in_err-started-clause-no_tag c = λ is. absurd (revoke_other c.args.self.now c.args.tag (sym c.if-lacks_tag_to_revoke.ensures) is)

pub returns-clause-taken : goal.returns-clause-taken
returns-clause-taken c = revoke_none c.args.self.now c.args.tag (sym c.if-lacks_tag_to_revoke.ensures) c.in_ok-ended.ensures.known

pub returns-clause-no_tag : goal.returns-clause-no_tag
returns-clause-no_tag c = λ is. absurd (revoke_other c.args.self.now c.args.tag (sym c.if-lacks_tag_to_revoke.ensures) is)
