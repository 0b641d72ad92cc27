use Rattle.std.proofs.Common.{◌≡◌, ◌<◌, ◌≤◌, ◌++◌, [], ℕ, List, length, drop, rules, refl, ap, sym, ◌∙◌, append-nil}
use Rattle.std.specs.List.{filter_map}
use Rattle.rt_world.specs.declared.report.Note.{Note}
use Rattle.rt_parts.specs.inside.HeldView.{ended_among, listeners_of}
use Rattle.rt_parts.proofs.EndingLaws.{none_told, told_more}
use Rattle.rt_parts.proofs.RefreshLaws.{drop_past}
use Rattle.rt_parts.proofs.renewal.tell_ends.Goals as goal

pub loop-number-init : goal.loop-number-init
loop-number-init c = refl

pub loop-number-preserved : goal.loop-number-preserved
loop-number-preserved c =
    let i : ℕ = c.loop-number.number-index in
    let within : i < length c.args.numbers.now = search rules in
    told_more c.args.why.now c.args.numbers.now i _ c.args.listeners.now c.loop-number.notes.items c.tell_number.new.notes.items (c.args.notes.now.items ++ filter_map (ended_among c.args.numbers.now c.args.why.now) (listeners_of c.args.listeners.now)) within (search rules) c.requires.rise c.requires.rising
    c.in_ok-tell_number.ensures c.loop-number.invariant

pub returns : goal.returns
returns c =
    let past : length c.args.numbers.now ≤ c.loop-number.number-index = search rules in
    let none : filter_map (ended_among (drop c.loop-number.number-index c.args.numbers.now) c.args.why.now) (listeners_of c.args.listeners.now) ≡ [] =
    ap (λ (ns : List ℕ). filter_map (ended_among ns c.args.why.now) (listeners_of c.args.listeners.now)) (drop_past c.loop-number.number-index c.args.numbers.now past)
    ∙ none_told c.args.why.now (listeners_of c.args.listeners.now) in
    sym (ap (λ (z : List Note). c.loop-number.notes.items ++ z) none ∙ append-nil c.loop-number.notes.items) ∙ c.loop-number.invariant
