use Rattle.std.proofs.Common.{◌+◌, length, refl, subst}
use Rattle.std.specs.Prelude.{slice_range}
use Rattle.rt_http.specs.Chunks.{IsPieceAt}
use Rattle.rt_http.proofs.ChunkSteps.{rest_is, step_in}
use Rattle.rt_http.proofs.request.read_chunks.Goals as goal

pub loop-at-preserved : goal.loop-at-preserved
loop-at-preserved c =
    let bytes = c.args.bytes.now in
    let at = c.loop-at.at in
    let rest = slice_range bytes at (length bytes) in
    step_in bytes rest c.args.body.now.items c.loop-at.body.items c.extend_from_slice.new.self.items at
    c.in-Data.start c.in-Data.end (at + c.in-Data.end + 2) (rest_is bytes at) c.loop-at.invariant
    (subst (λ p. IsPieceAt rest p) c.in-Data.is c.in_ok-piece_at.ensures)
    c.in_ok-extend_from_slice-in-Data.ensures.items refl
