use Rattle.std.proofs.Common.{◌≡◌, Some, false, sym, ap, ap₂, subst, ◌∙◌, if◌then◌else◌}
use Rattle.http.specs.Request.{head_of}
use Rattle.http.specs.Uri.{uri_path, uri_query}
use Rattle.rt_socket.specs.Handshakes.{IsAnswered, origins_of, refusal_of as page_refusal_of}
use Rattle.rt_emulate.specs.Handshakes.{sdk_refusal}
use Rattle.rt_emulate.specs.Protocols.{is_of_sdk}
use Rattle.rt_emulate.proofs.origins.Judge.refused.Goals as goal

pub returns-else-is_of_sdk : goal.returns-else-is_of_sdk
returns-else-is_of_sdk c =
    let request = c.args.request.now in
    let uri = (head_of request).uri in
    let other : is_of_sdk (uri_path uri) (uri_query uri) ≡ false =
    sym (c.is_of_sdk.ensures
    ∙ ap₂ is_of_sdk (c.path.ensures.value ∙ ap uri_path c.uri.ensures)
    (c.query.ensures.value ∙ ap uri_query c.uri-2.ensures))
    ∙ c.if-is_of_sdk.false in
    subst (λ b. IsAnswered
    (if b then Some sdk_refusal else page_refusal_of (origins_of request) c.args.self.now) c.refused.result)
    (sym other)
    (subst (λ allowed. IsAnswered (page_refusal_of (origins_of request) allowed) c.refused.result) c.self.view_is c.refused.ensures)
