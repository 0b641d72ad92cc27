use Rattle.std.proofs.Common.{◌≡◌, ◌≤◌, ◌++◌, ◌∷◌, [], Option, None, ap, append-nil, length, ltb-false, sym, ◌∙◌}
use Rattle.std.specs.List.{slice_get}
use Rattle.std.specs.Option.{option_map_or}
use Rattle.std.proofs.lemmas.Option.{slice_get_past}
use Rattle.rt_tree.specs.Assignments.{Assignment}
use Rattle.rt_peer.proofs.write.push_entry.Goals as goal

pub returns-in-None : goal.returns-in-None
returns-in-None c =
    let es = c.args.entries.now in
    let past : length es ≤ c.args.number = ltb-false c.args.number (length es) (sym c.in-None.ensures.lookup.0) in
    let none : slice_get es c.args.number ≡ None = slice_get_past es c.args.number past in
    sym (append-nil c.args.own.now.items)
    ∙ ap (λ (o : Option Assignment). c.args.own.now.items ++ option_map_or (λ (a : Assignment). a ∷ []) o []) (sym none)
