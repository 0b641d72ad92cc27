use Rattle.std.proofs.Common.{rules, ◌≡◌, ◌<◌, ◌&&◌, ℕ, true, false, not, List, length, get_or, sym, ap, ◌∙◌}
use Rattle.std.specs.List.{list_any}
use Rattle.std.proofs.lemmas.List.{get_or_default}
use Rattle.rt_cover.specs.inside.Widest.{Entry, has_left, is_wider_at}
use Rattle.rt_cover.proofs.successors.leads.Goals as goal

pub returns-then-not-is_wider_at : goal.returns-then-not-is_wider_at
returns-then-not-is_wider_at g c = λ d.
    let ended = g.E.EndedListeners.ended c.args.ending.now in
    let es : List Entry = c.args.entries.now in
    let n : ℕ = c.args.place in
    let within : n < length es = search rules in
    let e : Entry = c.index-entries-place.result in
    let f : Entry = c.index-entries-place-then-not-is_wider_at.result in
    let at : e ≡ get_or es n e = search rules in
    let there : f ≡ get_or es n f = search rules in
    let narrow : is_wider_at es d (get_or es n d).0 c.args.last ≡ false =
    ap (λ (x : Entry). is_wider_at es d x.0 c.args.last) (sym (at ∙ get_or_default es n e d within)) ∙ ap (λ q. is_wider_at es d q c.args.last) (sym c.form.ensures)
    ∙ sym (c.is_wider_at.ensures d) ∙ c.if-not-is_wider_at.true in
    c.has_left.ensures ∙ ap (list_any (λ m. not (ended m))) c.numbers.ensures ∙ ap (has_left ended) (there ∙ get_or_default es n f d within)
    ∙ sym (ap (λ b. not b && has_left ended (get_or es n d)) narrow)

pub returns-else-not-is_wider_at : goal.returns-else-not-is_wider_at
returns-else-not-is_wider_at g c = λ d.
    let ended = g.E.EndedListeners.ended c.args.ending.now in
    let es : List Entry = c.args.entries.now in
    let n : ℕ = c.args.place in
    let within : n < length es = search rules in
    let e : Entry = c.index-entries-place.result in
    let at : e ≡ get_or es n e = search rules in
    let wide : is_wider_at es d (get_or es n d).0 c.args.last ≡ true =
    ap (λ (x : Entry). is_wider_at es d x.0 c.args.last) (sym (at ∙ get_or_default es n e d within)) ∙ ap (λ q. is_wider_at es d q c.args.last) (sym c.form.ensures)
    ∙ sym (c.is_wider_at.ensures d) ∙ c.if-not-is_wider_at.false in
    ap not c.if-not-is_wider_at.false ∙ sym (ap (λ b. not b && has_left ended (get_or es n d)) wide)
