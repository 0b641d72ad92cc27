use Rattle.std.proofs.Common.{rules, ◌≡◌, ◌+◌, ◌-◌, ◌∷◌, ◌++◌, List, ℕ, [], take, drop, sym, ap, arith, ◌∙◌}
use Rattle.std.proofs.Common.{Some, None}
use Rattle.std.specs.Prelude.{◌==◌, position}
use Rattle.std.proofs.lemmas.Grind.{common_steps}
use Rattle.rt_input.specs.Lines.{lines_of, resumed, resumed_by}
use Rattle.rt_input.proofs.Pieces.{behind, feed_within, line_ends, line_goes_on}
use Rattle.rt_input.proofs.lines.LineReader.take_piece.Goals as goal

pub returns-in_ok-extend_from_slice-in-Some-clause-whole : goal.returns-in_ok-extend_from_slice-in-Some-clause-whole
returns-in_ok-extend_from_slice-in-Some-clause-whole c = λ _ left.
    let inside = c.self.inside in
    let rest : List ℕ = take (inside.end - inside.start) (drop inside.start inside.chunk.items) in
    let len : ℕ = c.in-Some.len in
    let next : ℕ = inside.start + (len + 1) in
    let place : position (λ b. b == 10) rest ≡ Some len = search rules in
    let grown : c.extend_from_slice.new.self.items ≡ inside.line.items ++ take len rest = search rules in
    let behind : drop (len + 1) rest ≡ take (inside.end - next) (drop next inside.chunk.items) =
    behind inside.start inside.end len inside.chunk.items (feed_within rest len place) in
    ap (λ s. resumed_by s left) (sym c.self.view_is)
    ∙ line_ends inside.line.items rest left len place
    ∙ ap (λ l. l ∷ resumed [] (lines_of (drop (len + 1) rest ++ left))) (sym grown)
    ∙ ap (λ r. c.extend_from_slice.new.self.items ∷ resumed [] (lines_of (r ++ left))) behind

pub returns-in_ok-extend_from_slice-in-None-clause-part : goal.returns-in_ok-extend_from_slice-in-None-clause-part
returns-in_ok-extend_from_slice-in-None-clause-part c = λ _ left.
    let inside = c.self.inside in
    let rest : List ℕ = take (inside.end - inside.start) (drop inside.start inside.chunk.items) in
    let none : position (λ b. b == 10) rest ≡ None = search rules in
    let grown : c.extend_from_slice-in-None.new.self.items ≡ inside.line.items ++ rest = search rules in
    let nothing : take (inside.end - inside.end) (drop inside.end inside.chunk.items) ≡ [] =
    grind (arith, common_steps) in
    ap (λ s. resumed_by s left) (sym c.self.view_is)
    ∙ line_goes_on inside.line.items rest left none
    ∙ ap (λ l. resumed l (lines_of left)) (sym grown)
    ∙ ap (λ r. resumed c.extend_from_slice-in-None.new.self.items (lines_of (r ++ left))) (sym nothing)
