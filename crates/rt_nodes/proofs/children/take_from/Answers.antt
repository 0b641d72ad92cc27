use Rattle.std.proofs.Common.{◌≡◌, rules, Some}
use Rattle.std.specs.Prelude.{slice_get}
use Rattle.rt_nodes.specs.declared.children.PiecePlace.{PiecePlace}
use Rattle.rt_nodes.proofs.Pieces.{taken}
use Rattle.rt_nodes.proofs.children.take_from.Goals as goal

pub returns-in-Some-clause-taken : goal.returns-in-Some-clause-taken
returns-in-Some-clause-taken g c is m =
    let there : (x : PiecePlace) × (slice_get c.args.piece.now.items c.in-Some.place ≡ Some x) × (x.child ≡ c.args.child) = search rules in
    rw (c.remove.ensures.items) (taken m c.args.piece.now.items c.in-Some.place c.args.child there.0 there.1 there.2)
