use Rattle.std.proofs.Common.{◌≡◌, ◌<◌, suc, List, length, take, rules, ap, sym, ◌∙◌, add-one, ◌++◌}
use Rattle.std.specs.List.{filter_map}
use Rattle.std.specs.Option.{option_to_list}
use Rattle.rt_parts.specs.declared.listeners.HeldListener.{HeldListener}
use Rattle.rt_parts.specs.inside.HeldView.{own_number}
use Rattle.rt_parts.proofs.Loops.{gather_more}
use Rattle.rt_parts.proofs.views.numbers_of.Goals as goal

pub loop-listener-preserved : goal.loop-listener-preserved
loop-listener-preserved c =
    let xs : List HeldListener = c.args.held.now in
    let i = c.loop-listener.listener-index in
    let within : i < length xs = search rules in
    let numbers : c.push_own.new.numbers.items ≡ filter_map (own_number c.args.seat) (take (suc i) xs) =
    c.in_ok-push_own.ensures ∙ ap (λ z. z ++ option_to_list (own_number c.args.seat c.listener-item.result)) c.loop-listener.invariant
    ∙ ap (λ h. filter_map (own_number c.args.seat) (take i xs) ++ option_to_list (own_number c.args.seat h)) c.listener-item.is
    ∙ sym (gather_more (own_number c.args.seat) xs i c.listener-item.result within) in
    rw add-one numbers
