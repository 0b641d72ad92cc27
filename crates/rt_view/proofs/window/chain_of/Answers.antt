use Rattle.std.proofs.Common.{take, drop, List, ap, sym, subst, ◌∙◌}
use Rattle.std.specs.List.Sorted.{IsStrictlySortedBy}
use Rattle.std.specs.Map.{keys_of}
use Rattle.rt_chain.specs.Chains.{all_in}
use Rattle.rt_order.specs.Entries.{Entry, entry_cmp}
use Rattle.rt_order.specs.laws.EntryOrder.{entry_cmp-IsAntisymmetric}
use Rattle.rt_view.specs.declared.window.Child.{Child}
use Rattle.rt_view.proofs.MadeLaws.{keys_rise, made_halves, made_marks}
use Rattle.rt_view.proofs.window.chain_of.Goals as goal

pub from_sorted-requires-clause-rises : goal.from_sorted-requires-clause-rises
from_sorted-requires-clause-rises c = subst (λ (xs : List (Entry × Child)). IsStrictlySortedBy entry_cmp (keys_of xs)) (sym c.in_ok-children.ensures) (keys_rise c.args.from.now c.args.children.items c.requires)

pub from_sorted-requires-clause-same : goal.from_sorted-requires-clause-same
from_sorted-requires-clause-same c = entry_cmp-IsAntisymmetric

pub returns-clause-halves : goal.returns-clause-halves
returns-clause-halves c =
    made_halves c.args.from.now c.args.front c.in_ok-chain.chain c.args.children.items (c.in_ok-chain.ensures.front ∙ ap (take c.args.front) c.in_ok-children.ensures) (c.in_ok-chain.ensures.behind ∙ ap (drop c.args.front) c.in_ok-children.ensures)

pub returns-clause-marks : goal.returns-clause-marks
returns-clause-marks c = made_marks c.args.from.now (all_in c.in_ok-chain.chain) c.args.children.items (c.in_ok-chain.ensures.whole ∙ c.in_ok-children.ensures)
