use Rattle.std.proofs.Common.{◌≡◌, ◌++◌, true, false, OnOk, sym, ap, subst, ◌∙◌, rules}
use Rattle.std.specs.Option.{option_map_or, option_to_list}
use Rattle.rt_view.specs.Views.{View, stays_object}
use Rattle.rt_parts.specs.declared.listeners.HeldListener.{HeldListener}
use Rattle.rt_parts.specs.Listeners.{count_with}
use Rattle.rt_parts.proofs.PushLaws.{on_ok}
use Rattle.rt_parts.proofs.ViewLaws.{anew_after, touched_after, touched_renewed, touched_told}
use Rattle.rt_parts.proofs.views.touch_or_renew.Goals as goal

pub returns-then-not-stays_object-clause-taken : goal.returns-then-not-stays_object-clause-taken
returns-then-not-stays_object-clause-taken c =
    let same : c.deref.result.now ≡ c.in_ok-named.named.items = search rules in
    let goes : option_map_or (λ (v : View). stays_object v.tree c.in_ok-named.named.items) c.args.listener.now.view false ≡ false =
    ap (λ n. option_map_or (λ (v : View). stays_object v.tree n) c.args.listener.now.view false) (sym same) ∙ sym c.stays_object.ensures ∙ search rules in
    on_ok c.renew.result c.renew.ensures.taken (λ e.
    e ∙ anew_after c.args.brought.now c.args.pending.now c.args.entries.now c.args.listener.now c.in_ok-named.named.items c.in_ok-named.ensures.children c.requires.low c.args.listener.now.view goes)

pub returns-clause-view : goal.returns-clause-view
returns-clause-view c =
    let same : c.deref.result.now ≡ c.in_ok-named.named.items = search rules in
    let stays : option_map_or (λ (v : View). stays_object v.tree c.in_ok-named.named.items) c.args.listener.now.view false ≡ true =
    ap (λ n. option_map_or (λ (v : View). stays_object v.tree n) c.args.listener.now.view false) (sym same) ∙ sym c.stays_object.ensures ∙ search rules in
    on_ok c.tell.result c.tell.ensures (λ e.
    touched_renewed c.args.brought.now c.args.pending.now c.args.entries.now c.args.listener.now c.in_ok-named.named.items c.in_ok-named.ensures.children c.requires.low stays c.requires.held c.requires.follow
    c.touch.new.listener c.in_ok-changes.ensures.listener)

pub returns-clause-taken : goal.returns-clause-taken
returns-clause-taken c =
    let same : c.deref.result.now ≡ c.in_ok-named.named.items = search rules in
    let stays : option_map_or (λ (v : View). stays_object v.tree c.in_ok-named.named.items) c.args.listener.now.view false ≡ true =
    ap (λ n. option_map_or (λ (v : View). stays_object v.tree n) c.args.listener.now.view false) (sym same) ∙ sym c.stays_object.ensures ∙ search rules in
    on_ok c.tell.result c.tell.ensures (λ e.
    ap (λ (h : HeldListener). h.view) c.in_ok-changes.ensures.listener
    ∙ touched_after c.args.brought.now c.args.pending.now c.args.entries.now c.args.listener.now c.in_ok-named.named.items c.in_ok-named.ensures.children c.requires.low c.args.listener.now.view stays)

pub returns-clause-notes : goal.returns-clause-notes
returns-clause-notes c =
    let same : c.deref.result.now ≡ c.in_ok-named.named.items = search rules in
    let stays : option_map_or (λ (v : View). stays_object v.tree c.in_ok-named.named.items) c.args.listener.now.view false ≡ true =
    ap (λ n. option_map_or (λ (v : View). stays_object v.tree n) c.args.listener.now.view false) (sym same) ∙ sym c.stays_object.ensures ∙ search rules in
    let note = touched_told c.args.brought.now c.args.pending.now c.args.entries.now c.args.listener.now c.in_ok-named.named.items c.in_ok-named.ensures.children c.requires.low stays c.requires.held c.requires.follow
    c.touch.new.listener c.in_ok-changes.ensures.listener c.in_ok-changes.changes c.in_ok-changes.ensures.changes in
    subst (λ o. OnOk c.tell.result (c.tell.new.notes.items ≡ c.args.notes.now.items ++ option_to_list o)) note c.tell.ensures

pub named_children-requires : goal.named_children-requires
named_children-requires c = c.requires.own

pub returns-clause-count : goal.returns-clause-count
returns-clause-count c =
    let is = c.in_ok-changes.ensures.listener in
    on_ok c.tell.result c.tell.ensures (λ e. ap (λ (h : HeldListener). h.count) is ∙ ap (λ (h : HeldListener). count_with c.args.listener.now.count h.view) (sym is))
