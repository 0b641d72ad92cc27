use Rattle.std.proofs.Common.{rules, ◌≡◌, Ok}
use Rattle.rt_tree.specs.Path.{path_fault, path_keys}
use Rattle.rt_http.proofs.Paths.{path_is}
use Rattle.rt_http.proofs.resource.path.Goals as goal

pub returns-in-Ok-clause-ok : goal.returns-in-Ok-clause-ok
returns-in-Ok-clause-ok c =
    let text = c.args.text.now in
    let is : c.parse.result ≡ Ok c.in-Ok.path = search rules in
    let same : c.in-Ok.path ≡ path_keys text = search rules in
    path_is (path_fault text) (path_keys text) c.in-Ok.path c.parse.result is same c.parse.ensures.refused
