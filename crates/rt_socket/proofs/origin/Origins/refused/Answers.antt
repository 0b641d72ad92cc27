use Rattle.std.proofs.Common.{◌≡◌, List, Some, false, sym, ap, subst, ◌∙◌}
use Rattle.std.specs.List.{slice_get}
use Rattle.std.specs.Prelude.{codes}
use Rattle.http.specs.FieldValue.{FieldValue}
use Rattle.http.specs.HeaderMap.{get_all}
use Rattle.http.specs.Request.{head_of}
use Rattle.rt_socket.specs.Handshakes.{IsAnswer, IsAnswered, origins_of, page_refusal}
use Rattle.rt_socket.specs.Origins.{allows_all}
use Rattle.rt_socket.proofs.Named.{first_text, judged, refuses, texts_in}
use Rattle.rt_socket.proofs.origin.Origins.refused.Goals as goal

pub returns-else-allows_one : goal.returns-else-allows_one
returns-else-allows_one c =
    let allowed = c.args.self.now in
    let request = c.args.request.now in
    let all : List FieldValue = c.into_iter-origins.result in
    let named : all ≡ get_all (head_of request).headers (codes "origin") =
    c.into_iter-origins.ensures.into_iter_gives ∙ c.get_all.ensures.value
    ∙ ap (λ m. get_all m (codes "origin")) c.headers.ensures in
    let none : allows_all allowed (texts_in all) ≡ false =
    judged allowed all c.next-first.new.self c.next.new.self c.next-first.result c.next.result
    c.next-first.ensures.steps c.next.ensures.steps
    ∙ sym c.allows_one.ensures ∙ c.if-allows_one.false in
    subst (λ o. IsAnswered o (Some c.refusal.result))
    (sym (refuses (origins_of request) allowed
    (ap (λ l. allows_all allowed (texts_in l)) (sym named) ∙ none)))
    (subst (λ o. IsAnswer (page_refusal o) c.refusal.result)
    (sym (ap (λ l. slice_get (texts_in l) 0) (sym named)
    ∙ first_text all c.next-first.new.self c.next-first.result c.next-first.ensures.steps))
    c.refusal.ensures)
