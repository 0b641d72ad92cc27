use Rattle.std.proofs.Common.{◌<◌, ◌≤◌, ◌==◌, ℕ, List, length, not, rules, ap, ◌∙◌}
use Rattle.std.specs.List.{filter, list_any}
use Rattle.rt_parts.specs.declared.listeners.HeldListener.{HeldListener}
use Rattle.rt_parts.proofs.EndingLaws.{left_more, left_none}
use Rattle.rt_parts.proofs.PushLaws.{taken_all}
use Rattle.rt_parts.proofs.renewal.end_each.Goals as goal

pub loop-number-init : goal.loop-number-init
loop-number-init c = record {
  left = left_none c.args.numbers.now c.args.held.now.items;
  held = c.requires.held;
  index = c.requires.index;
}

pub loop-number-preserved : goal.loop-number-preserved
loop-number-preserved c =
    let i : ℕ = c.loop-number.number-index in
    let within : i < length c.args.numbers.now = search rules in
    record {
      left = left_more c.args.numbers.now i _ c.args.held.now.items c.loop-number.held.items c.end_number.new.held.items within (search rules) c.loop-number.invariant.left c.end_number.ensures.left;
      held = c.end_number.ensures.held;
      index = c.end_number.ensures.index;
    }

pub returns-clause-left : goal.returns-clause-left
returns-clause-left c =
    let past : length c.args.numbers.now ≤ c.loop-number.number-index = search rules in
    c.loop-number.invariant.left
    ∙ ap (λ (ns : List ℕ). filter (λ (h : HeldListener). not (list_any (λ n. h.number == n) ns)) c.args.held.now.items) (taken_all c.loop-number.number-index c.args.numbers.now past)
