use Rattle.std.proofs.Common.{rules, ◌≡◌, true, List, ℕ, Some, codes, refl, ◌∙◌}
use Rattle.rt_socket.specs.Origins.{behind}
use Rattle.rt_socket.proofs.Behind.{stripped}
use Rattle.rt_emulate.specs.Origins.{begins_small, behind_scheme, place_fault, scheme_fault}
use Rattle.rt_emulate.proofs.origins.scheme_fault.Goals as goal

is_of_place : (origin place : List ℕ) → begins_small origin ≡ true
    → behind (codes "://") (behind_scheme origin) ≡ Some place → place_fault place ≡ scheme_fault origin
is_of_place origin place b e = rw b (rw e refl)

pub returns-in-Some : goal.returns-in-Some
returns-in-Some c =
    let is : c.strip_prefix.result ≡ Some c.in-Some.place = search rules in
    let small : begins_small c.args.origin.now ≡ true = search rules in
    let text : c.behind_scheme.result.now ≡ behind_scheme c.args.origin.now = c.behind_scheme.ensures in
    let rest = stripped (codes "://") c.behind_scheme.result.now c.strip_prefix.result c.in-Some.place is
    c.strip_prefix.ensures.cases in
    c.place_fault.ensures ∙ is_of_place c.args.origin.now c.in-Some.place.now small (rw (← text) rest)
