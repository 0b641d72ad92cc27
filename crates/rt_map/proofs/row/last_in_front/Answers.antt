use Rattle.std.proofs.Common.{◌≡◌, ◌-◌, ◌<◌, length, ap, sym, subst, get_or, arith, ◌∙◌}
use Rattle.rt_map.proofs.Before.{front_none, front_some}
use Rattle.rt_map.proofs.Parts.{AllFilled-get_or}
use Rattle.rt_map.proofs.row.last_in_front.Goals as goal

pub returns-then-at-eq0 : goal.returns-then-at-eq0
returns-then-at-eq0 g c = front_none c.args.parts.now c.args.at c.if-at-eq0.true

pub last-requires : goal.last-requires
last-requires g c =
    let same : c.deref.result.now ≡ (get_or c.args.parts.now (c.args.at - 1) c.index-parts-at.result).value = c.deref.ensures ∙ ap (λ a. a.value) c.index-parts-at.is in
    subst (λ es. 0 < length es) (sym same) (AllFilled-get_or c.args.parts.now (c.args.at - 1) c.index-parts-at.result (omega (arith, c.requires.within)) c.requires.filled)

pub returns : goal.returns
returns g c =
    let same : c.deref.result.now ≡ (get_or c.args.parts.now (c.args.at - 1) c.index-parts-at.result).value = c.deref.ensures ∙ ap (λ a. a.value) c.index-parts-at.is in
    front_some c.args.parts.now c.args.at c.index-parts-at.result c.last.result.now c.requires.filled c.requires.within c.if-at-eq0.false
    (c.last.ensures ∙ ap (λ es. get_or es (length es - 1) c.last.result.now) same)
