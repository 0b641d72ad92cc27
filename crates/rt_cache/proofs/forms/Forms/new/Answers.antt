use Rattle.std.proofs.Common.{rules, ◌≡◌, List, [], sym, subst}
use Rattle.rt_cache.specs.declared.forms.Form.{Form}
use Rattle.rt_cache.specs.inside.Listed.{AreFilteredOf}
use Rattle.rt_cache.proofs.Stamps.{no_forms}
use Rattle.rt_cache.proofs.forms.Forms.new.Goals as goal

pub invariant_of-result : goal.invariant_of-result
invariant_of-result c =
    let items : c.new.result.items ≡ [] = search rules in
    let filtered : c.new-2.result.items ≡ [] = search rules in
    subst (λ (fs : List Form). AreFilteredOf fs c.new-2.result.items) (sym items) (subst (λ (gs : List Form). AreFilteredOf [] gs) (sym filtered) no_forms)
