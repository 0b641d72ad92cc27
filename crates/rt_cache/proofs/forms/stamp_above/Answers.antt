use Rattle.std.proofs.Common.{rules, ◌≡◌, ◌+◌, ◌-◌, ◌<◌, arith, List, length, get_or, sym, subst}
use Rattle.std.specs.List.{All}
use Rattle.std.proofs.lemmas.Bool.{ltb-true}
use Rattle.rt_cache.specs.declared.forms.Form.{Form}
use Rattle.rt_cache.proofs.Stamps.{last_highest}
use Rattle.rt_cache.proofs.forms.stamp_above.Goals as goal

pub returns : goal.returns
returns c =
    let fs : List Form = c.args.forms.now in
    let last : Form = c.in-Some.last.now in
    let some : 0 < length fs = ltb-true 0 (length fs) (sym c.in-Some.ensures.item.0) in
    let at : last ≡ get_or fs (length fs - 1) last = search rules in
    let next : last.stamp + 1 ≡ c.in-Some-checked_add.stamp = search rules in
    subst (λ n. All (λ (f : Form). f.stamp < n) fs) next (last_highest fs c.requires.rising (length fs - 1) last (omega (arith, some)) at)
