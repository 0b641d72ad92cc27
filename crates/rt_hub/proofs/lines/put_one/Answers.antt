use Rattle.std.proofs.Common.{set, Some, None, refl, subst, ap, ◌∙◌}
use Rattle.rt_hub.proofs.Done.{on_ok, put_here}
use Rattle.rt_hub.proofs.Places.{IsChanged, line_at, set_line}
use Rattle.rt_hub.proofs.lines.put_one.Goals as goal

pub returns-in-Some-index_mut : goal.returns-in-Some-index_mut
returns-in-Some-index_mut c =
    let items = c.args.lines.now.items in
    let one = c.args.one.now in
    let place = c.in-Some.place in
    let new = set items place (Some c.put.new.self) in
    on_ok c.put.result
    (λ e.
    put_here items new one one.to (Some c.in-Some-index_mut.line) refl
    (line_at items one.to place c.index_mut.result.now c.in-Some.ensures.here.0 c.in-Some.ensures.here.1
    c.index_mut.ensures.value ∙ c.in-Some-index_mut.is)
    (subst (λ l. IsChanged one.to l items new) (ap Some e)
    (set_line items one.to place (Some c.put.new.self) c.in-Some.ensures.here.0 c.in-Some.ensures.here.1)))
    c.put.ensures

pub returns-in-None : goal.returns-in-None
returns-in-None c =
    let items = c.args.lines.now.items in
    let one = c.args.one.now in
    let place = c.in-Some.place in
    let new = set items place c.index_mut.result.now in
    put_here items new one one.to None refl
    (line_at items one.to place c.index_mut.result.now c.in-Some.ensures.here.0 c.in-Some.ensures.here.1
    c.index_mut.ensures.value ∙ c.in-None.is)
    (subst (λ l. IsChanged one.to l items new) c.in-None.is
    (set_line items one.to place c.index_mut.result.now c.in-Some.ensures.here.0 c.in-Some.ensures.here.1))
