use Rattle.std.proofs.Common.{◌≡◌, ◌==◌, ◌⊎◌, Some, not, inl, inr, IfOk, OnOk, List, ℕ, Bool, sym, ap, subst, ◌∙◌}
use Rattle.std.specs.List.{filter, list_any}
use Rattle.std.proofs.lemmas.Result.{on_ok_weaker, IfErr-weaker}
use Rattle.rt_cover.specs.declared.error.CoverError.TheVariants.{NoMemory}
use Rattle.rt_cover.specs.Cover.{Registered}
use Rattle.rt_cover.specs.State.{Cover, without_listeners, with_listeners, lacks_tag, difference, remove_fault}
use Rattle.rt_cover.specs.inside.Endings.{left}
use Rattle.rt_cover.proofs.RefusalLaws.{fault_none, fault_other, fault_lacking, remove_known, remove_unknown}
use Rattle.rt_cover.proofs.cover.Cover.remove.Goals as goal

-- the same end, whether their numbers are sorted or not
same_left : (ms ns : List ℕ) (ls : List Registered) → ((p : ℕ → Bool) → list_any p ms ≡ list_any p ns) → left (λ l. list_any (λ n. n == l.0) ms) ls ≡ without_listeners ls ns
same_left ms ns ls same = λ i. filter (λ (l : Registered). not (same (λ n. n == l.0) i)) ls

pub end-requires-clause-room : goal.end-requires-clause-room
end-requires-clause-room c =
    let old : Cover = c.args.self.now in
    ap (lacks_tag old) (same_left c.in_ok-numbers.numbers c.args.listeners.now old.listeners c.in_ok-numbers.ensures) ∙ sym c.if-lacks_tag_to_remove.ensures

pub returns-clause-cover : goal.returns-clause-cover
returns-clause-cover c =
    let old : Cover = c.args.self.now in
    subst (λ ls. OnOk c.end.result (c.end.new.self ≡ with_listeners old ls)) (same_left c.in_ok-numbers.numbers c.args.listeners.now old.listeners c.in_ok-numbers.ensures) c.end.ensures.cover

pub returns-clause-delta : goal.returns-clause-delta
returns-clause-delta c =
    let old : Cover = c.args.self.now in
    subst (λ ls. IfOk c.end.result (λ delta. delta ≡ difference old (with_listeners old ls))) (same_left c.in_ok-numbers.numbers c.args.listeners.now old.listeners c.in_ok-numbers.ensures) c.end.ensures.delta

pub returns-then-lacks_tag_to_remove-clause-fault : goal.returns-then-lacks_tag_to_remove-clause-fault
returns-then-lacks_tag_to_remove-clause-fault c =
    let old : Cover = c.args.self.now in
    inl (remove_known old c.args.listeners.now (sym c.if-has_unknown.ensures)
    ∙ fault_lacking old (without_listeners old.listeners c.args.listeners.now) (sym c.if-lacks_tag_to_remove.ensures))

pub returns-then-has_unknown-clause-no_tag : goal.returns-then-has_unknown-clause-no_tag
returns-then-has_unknown-clause-no_tag c = λ is. absurd (remove_unknown c.args.self.now c.args.listeners.now (sym c.if-has_unknown.ensures) is)

pub returns-clause-taken : goal.returns-clause-taken
returns-clause-taken c =
    let old : Cover = c.args.self.now in
    on_ok_weaker c.end.result (λ _. remove_known old c.args.listeners.now (sym c.if-has_unknown.ensures)
    ∙ fault_none old (without_listeners old.listeners c.args.listeners.now) (sym c.if-lacks_tag_to_remove.ensures)) c.end.ensures.cover

pub returns-clause-fault : goal.returns-clause-fault
returns-clause-fault c = IfErr-weaker c.end.result (λ e. e ≡ NoMemory) (λ e. (remove_fault c.args.self.now c.args.listeners.now ≡ Some e) ⊎ (e ≡ NoMemory)) (λ e is. inr is) c.end.ensures.fault

pub returns-clause-no_tag : goal.returns-clause-no_tag
returns-clause-no_tag c = λ is.
    let old : Cover = c.args.self.now in
    absurd (fault_other (remove_fault old c.args.listeners.now) (remove_known old c.args.listeners.now (sym c.if-has_unknown.ensures)
    ∙ fault_none old (without_listeners old.listeners c.args.listeners.now) (sym c.if-lacks_tag_to_remove.ensures)) is)
