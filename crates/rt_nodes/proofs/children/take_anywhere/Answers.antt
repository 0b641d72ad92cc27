use Rattle.std.proofs.Common.{rules, ◌≡◌, ◌+◌, ◌<◌, Some, length, nat_eq, sym, ap, ◌∙◌}
use Rattle.std.specs.Prelude.{slice_get}
use Rattle.rt_nodes.specs.Forest.{one_if}
use Rattle.rt_nodes.specs.inside.Often.{in_piece, in_pieces}
use Rattle.rt_nodes.specs.declared.children.PiecePlace.{PiecePlace}
use Rattle.rt_nodes.proofs.Pieces.{taken, fewer, one_piece}
use Rattle.rt_nodes.proofs.children.take_anywhere.Goals as goal

pub returns-in-Some : goal.returns-in-Some
returns-in-Some g c m =
    let ps = c.loop-at.pieces.items in
    let p = c.index_mut.result.now in
    let within : c.loop-at.at < length ps = search rules in
    let there : (x : PiecePlace) × (slice_get c.as_slice.result.now c.in-Some.place ≡ Some x) × (x.child ≡ c.args.child) = search rules in
    let items : c.as_slice.result.now ≡ p.items = c.as_slice.ensures.value ∙ ap (λ v. v.items) (one_piece c.loop-at.at ps c.index.result.now p within c.index.ensures c.index_mut.ensures.value) in
    let less : in_piece m c.remove.new.self.items + one_if (nat_eq m c.args.child) ≡ in_piece m p.items =
    ap (λ xs. in_piece m xs + one_if (nat_eq m c.args.child)) c.remove.ensures.items
    ∙ taken m p.items c.in-Some.place c.args.child there.0 (ap (λ xs. slice_get xs c.in-Some.place) (sym items) ∙ there.1) there.2 in
    fewer m c.loop-at.at (one_if (nat_eq m c.args.child)) ps p c.remove.new.self within c.index_mut.ensures.value less
    ∙ ap (λ v. in_pieces m v.items) c.loop-at.invariant.0
