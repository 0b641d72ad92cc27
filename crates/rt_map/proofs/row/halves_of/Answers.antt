use Rattle.std.proofs.Common.{◌≡◌, ◌∙◌, ap, sym, subst, ◌<◌, ◌++◌, length, take, drop, take-append-drop}
use Rattle.rt_map.specs.inside.Joined.{joined, AllFilled}
use Rattle.rt_map.proofs.Parts.{AllFilled-take, AllFilled-drop, joined-append, joined_some, ends, long_take, long_drop}
use Rattle.rt_map.proofs.row.halves_of.Goals as goal

pub copy_parts-requires : goal.copy_parts-requires
copy_parts-requires g c = AllFilled-take c.args.cut c.args.parts.now c.requires.filled

pub copy_parts-requires-2 : goal.copy_parts-requires-2
copy_parts-requires-2 g c = subst AllFilled (sym (ends c.args.parts.now c.args.cut)) (AllFilled-drop c.args.cut c.args.parts.now c.requires.filled)

pub returns-clause-all : goal.returns-clause-all
returns-clause-all g c =
    let l : joined c.in_ok-left.left.items ≡ joined (take c.args.cut c.args.parts.now) = c.in_ok-left.ensures.entries in
    let r : joined c.in_ok-right.right.items ≡ joined (drop c.args.cut c.args.parts.now) = c.in_ok-right.ensures.entries ∙ ap joined (ends c.args.parts.now c.args.cut) in
    (λ i. l i ++ r i) ∙ sym (joined-append (take c.args.cut c.args.parts.now) (drop c.args.cut c.args.parts.now)) ∙ ap joined (take-append-drop c.args.cut c.args.parts.now)

pub returns-clause-left : goal.returns-clause-left
returns-clause-left g c =
    let l : joined c.in_ok-left.left.items ≡ joined (take c.args.cut c.args.parts.now) = c.in_ok-left.ensures.entries in
    subst (λ es. 0 < length es) (sym l) (joined_some (take c.args.cut c.args.parts.now) (AllFilled-take c.args.cut c.args.parts.now c.requires.filled) (long_take c.args.parts.now c.args.cut c.requires.left c.requires.right))

pub returns-clause-right : goal.returns-clause-right
returns-clause-right g c =
    let r : joined c.in_ok-right.right.items ≡ joined (drop c.args.cut c.args.parts.now) = c.in_ok-right.ensures.entries ∙ ap joined (ends c.args.parts.now c.args.cut) in
    subst (λ es. 0 < length es) (sym r) (joined_some (drop c.args.cut c.args.parts.now) (AllFilled-drop c.args.cut c.args.parts.now c.requires.filled) (long_drop c.args.parts.now c.args.cut c.requires.right))
