use Rattle.std.proofs.Common.{rules, ◌≡◌, Some, None, false, sym, ap, ap₂, ◌∙◌}
use Rattle.std.specs.Option.{option_map_or}
use Rattle.rt_socket.specs.Origins.{is_page_of, is_port}
use Rattle.rt_socket.proofs.Behind.{not_stripped, stripped}
use Rattle.rt_socket.proofs.origin.is_page_of.Goals as goal

pub returns-in-Some : goal.returns-in-Some
returns-in-Some c =
    let is : c.strip_prefix.result ≡ Some c.in-Some.port = search rules in
    let rest = stripped c.as_bytes-2.result.now c.as_bytes.result.now c.strip_prefix.result c.in-Some.port is
    c.strip_prefix.ensures.cases in
    c.is_port.ensures ∙ ap (λ o. option_map_or is_port o false) (sym rest)
    ∙ ap₂ is_page_of c.as_bytes-2.ensures.value c.as_bytes.ensures.value

pub returns-in-None : goal.returns-in-None
returns-in-None c =
    let is : c.strip_prefix.result ≡ None = search rules in
    let rest = not_stripped c.as_bytes-2.result.now c.as_bytes.result.now c.strip_prefix.result is
    c.strip_prefix.ensures.cases in
    ap (λ o. option_map_or is_port o false) (sym rest)
    ∙ ap₂ is_page_of c.as_bytes-2.ensures.value c.as_bytes.ensures.value
