use Rattle.std.proofs.Common.{◌≡◌, true, length, Some, refl, sym, subst, rules, tests}
use Rattle.std.specs.Cmp.Lexicographic.{texts_ties}
use Rattle.std.specs.List.{slice_get}
use Rattle.std.proofs.lemmas.Bool.{ltb-true}
use Rattle.std.proofs.lemmas.Option.{slice_get_read}
use Rattle.rt_tree.specs.PathTree.{Key, key_eq}
use Rattle.rt_tree.specs.TreeEq.{key_eq_tells}
use Rattle.rt_query.specs.Rows.{row_at}
use Rattle.rt_view.proofs.TurnLaws.{row_there}
use Rattle.rt_view.proofs.difference.value_there.Goals as goal

pub returns-then-eq : goal.returns-then-eq
returns-then-eq c =
    let rows = c.args.rows.now in
    let row = c.in_ok-row.row.now in
    let there : slice_get rows c.args.place ≡ Some row =
    slice_get_read rows (length rows) c.args.place row refl (ltb-true c.args.place (length rows) (sym c.in_ok-row.ensures.lookup.0)) c.in_ok-row.ensures.lookup.1 in
    let equal : key_eq row.key c.args.key.now ≡ true = search (rules, tests, texts_ties) in
    let same : row.key ≡ c.args.key.now = (key_eq_tells row.key c.args.key.now).0 equal in
    subst (λ (k : Key). row_at rows k ≡ Some row.value) same (row_there rows c.args.place row c.requires there)
