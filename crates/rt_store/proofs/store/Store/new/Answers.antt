use Rattle.std.proofs.Common.{None, ap, sym, subst, ◌∙◌, refl, arith, is_some}
use Rattle.rt_tree.specs.PathTree.{object}
use Rattle.rt_tree.specs.Allowed.{IsAllowed, allowed-null}
use Rattle.rt_nodes.specs.Forest.{Links, Sound, one_if, first, size, times}
use Rattle.rt_nodes.proofs.Reached.{row_at-none}
use Rattle.rt_store.specs.inside.Entries.{entries, Filled}
use Rattle.rt_store.proofs.store.Store.new.Goals as goal

pub invariant_of-result : goal.invariant_of-result
invariant_of-result c =
    let none = row_at-none c.new.result in record {
      row = record { links = subst (Links c.new.result None None) (sym none) tt; sound = subst Sound (sym none) tt; starts = ap first none; fits = omega (arith, ap size none) };
      filled = subst Filled (sym none) tt;
      count = ap size none ∙ sym c.new.ensures.len;
      once = λ n. ap (times n) none ∙ sym (ap (λ o. one_if (is_some o)) (c.new.ensures.empty n));
      top = λ e. refl;
      allowed = subst IsAllowed (sym (ap (λ f. object (entries f)) none)) allowed-null;
    }

pub returns : goal.returns
returns c = ap (λ f. object (entries f)) (row_at-none c.new.result)
