use Rattle.std.proofs.Common.{◌≡◌, ◌∙◌, ap, sym, subst, arith, ◌<◌, ◌-◌, length, get_or}
use Rattle.rt_map.proofs.Parts.{AllFilled-get_or, joined_last, parts_some}
use Rattle.rt_map.proofs.table.last_of.Goals as goal

pub last-requires : goal.last-requires
last-requires g c =
    let same : c.deref.result.now ≡ (get_or c.args.parts.now (length c.args.parts.now - 1) c.index-parts-parts.result).value = c.deref.ensures ∙ ap (λ a. a.value) c.index-parts-parts.is in
    let some : 0 < length c.args.parts.now = parts_some c.args.parts.now c.requires.some in
    subst (λ es. 0 < length es) (sym same) (AllFilled-get_or c.args.parts.now (length c.args.parts.now - 1) c.index-parts-parts.result (omega (arith, some)) c.requires.filled)

pub returns : goal.returns
returns g c =
    let same : c.deref.result.now ≡ (get_or c.args.parts.now (length c.args.parts.now - 1) c.index-parts-parts.result).value = c.deref.ensures ∙ ap (λ a. a.value) c.index-parts-parts.is in
    c.last.ensures ∙ ap (λ es. get_or es (length es - 1) c.last.result.now) same
    ∙ sym (joined_last c.args.parts.now c.index-parts-parts.result c.last.result.now c.requires.filled (parts_some c.args.parts.now c.requires.some))
