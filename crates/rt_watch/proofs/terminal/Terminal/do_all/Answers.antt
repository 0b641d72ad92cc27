use Rattle.std.proofs.Common.{rules, ◌≡◌, ◌++◌, ◌∙◌, ap, subst, sym, length, map, drop, Some, string_bytes, append_assoc}
use Rattle.std.specs.List.{slice_get}
use Rattle.std.proofs.lemmas.List.{nil_from_length}
use Rattle.rt_connect.specs.Run.{one_more}
use Rattle.rt_watch.specs.Queued.{items_of}
use Rattle.rt_watch.specs.Watching.{PrintsLine, bad_with, counted, is_good_line, numbered}
use Rattle.rt_watch.proofs.Counting.{bad_first, number_first}
use Rattle.rt_watch.proofs.Printed.{ArePrinting, line_printed, lines_printed}
use Rattle.rt_watch.proofs.terminal.Terminal.do_all.Goals as goal

pub lines-preserved : goal.lines-preserved
lines-preserved g c =
    let items = c.lines.lines.items in
    let line = c.in-Some.line in
    let now = c.lines.self in
    let next = c.do_line.new.self in
    let is : slice_get items 0 ≡ Some line = search rules in
    let rest : c.pop_front.new.self.items ≡ drop 1 items = search rules in
    let same : c.as_slice.result.now ≡ line.items = search rules in
    let h = c.lines.invariant in
    let told = c.in_ok-do_line.ensures.printed in
    let count : next.bad_lines ≡ counted (is_good_line line.items) now.bad_lines =
    subst (λ b. next.bad_lines ≡ counted (is_good_line b) now.bad_lines) same c.in_ok-do_line.ensures.counted in
    let line_told : PrintsLine line.items (one_more now.number) now.seats.items told.0 next.seats.items =
    subst (λ b. PrintsLine b (one_more now.number) now.seats.items told.0 next.seats.items) same told.2 in
    let all : ArePrinting (map items_of c.args.lines.items) c.args.self.now.number c.args.self.now.seats.items
    (h.1.0 ++ told.0) (map items_of (drop 1 items)) next.number next.seats.items =
    line_printed (map items_of c.args.lines.items) c.args.self.now.number c.args.self.now.seats.items h.1.0 told.0
    items line now.number next.number now.seats.items next.seats.items is h.1.2
    c.in_ok-do_line.ensures.numbered line_told in (
      h.0 ∙ bad_first items line now.bad_lines next.bad_lines is count
          ∙ ap (λ ls. bad_with (map items_of ls) next.bad_lines) (sym rest),
      (
        h.1.0 ++ told.0,
        told.1 ∙ ap (λ x. x ++ told.0) h.1.1
            ∙ append_assoc (string_bytes c.args.self.now.printed) h.1.0 told.0,
        subst (λ ls. ArePrinting (map items_of c.args.lines.items) c.args.self.now.number
            c.args.self.now.seats.items (h.1.0 ++ told.0) (map items_of ls) next.number next.seats.items)
            (sym rest) all,
      ),
      h.2 ∙ number_first items line now.number next.number is c.in_ok-do_line.ensures.numbered
          ∙ ap (λ ls. numbered (map items_of ls) next.number) (sym rest),
      c.in_ok-do_line.ensures.ended ∙ h.3,
    )

pub returns-clause-printed : goal.returns-clause-printed
returns-clause-printed g c =
    let h = c.lines.invariant in
    let none : length c.lines.lines.items ≡ 0 = search rules in (
      h.1.0,
      h.1.1,
      lines_printed (map items_of c.args.lines.items) c.args.self.now.number c.args.self.now.seats.items h.1.0
          c.lines.lines.items c.lines.self.number c.lines.self.seats.items
          (nil_from_length c.lines.lines.items none) h.1.2,
    )
