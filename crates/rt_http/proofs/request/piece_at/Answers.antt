use Rattle.std.proofs.Common.{rules, arith, ◌≡◌, ◌<◌, ℕ, Ok}
use Rattle.httparse.specs.Grammar.{ChunkLine, chunk_size}
use Rattle.httparse.specs.Spans.{IsChunkLineAt}
use Rattle.httparse.specs.declared.Status.TheVariants.{Complete}
use Rattle.rt_http.proofs.ChunkSteps.{data_piece, last_piece}
use Rattle.rt_http.proofs.Outcomes.{complete}
use Rattle.rt_http.proofs.request.piece_at.Goals as goal

pub returns-then-size-eq0 : goal.returns-then-size-eq0
returns-then-size-eq0 c =
    let bytes = c.args.bytes.now in
    let start = c.in-Ok-Complete.start in
    let size = c.in-Ok-Complete.size in
    let is : c.parse_chunk_size.result ≡ Ok (Complete (start, size)) = search rules in
    let line = complete (λ (r : ℕ × ℕ). (l : ChunkLine) × IsChunkLineAt bytes r.0 r.1 l) c.parse_chunk_size.result
    (start, size) is c.parse_chunk_size.ensures.complete in
    let none : chunk_size line.0 ≡ 0 = grind (arith, line.1.size_is) in
    last_piece bytes line.0 start c.last.result line.1.reads none c.last.ensures

pub returns-else-size-eq0 : goal.returns-else-size-eq0
returns-else-size-eq0 c =
    let bytes = c.args.bytes.now in
    let start = c.in-Ok-Complete.start in
    let size = c.in-Ok-Complete.size in
    let is : c.parse_chunk_size.result ≡ Ok (Complete (start, size)) = search rules in
    let line = complete (λ (r : ℕ × ℕ). (l : ChunkLine) × IsChunkLineAt bytes r.0 r.1 l) c.parse_chunk_size.result
    (start, size) is c.parse_chunk_size.ensures.complete in
    let some : 0 < size = grind arith in
    data_piece bytes line.0 start size c.data.result line.1.reads line.1.len_is line.1.size_is some c.data.ensures
