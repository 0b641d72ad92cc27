use Rattle.std.proofs.Common.{◌≡◌, ◌∙◌, sym, arith, length, eq-eqb}
use Rattle.std.specs.Prelude.{vec_len}
use borrow.Author.Tests.{eqb-true}
use Rattle.rt_map.proofs.Parts.{joined_none, joined_nothing}
use Rattle.rt_map.proofs.row.MapRow.is_empty.Goals as goal

pub returns : goal.returns
returns g c = (
  λ t. let none : vec_len c.self.inside.chunks ≡ 0 = eqb-true (vec_len c.self.inside.chunks) 0 (sym c.is_empty.ensures ∙ t) in
      let z : length c.self.inside.chunks.items ≡ 0 = omega (arith, none, c.self.inside.chunks.ok) in sym c.self.view_is ∙ joined_nothing c.self.inside.chunks.items z,
  λ e. let z : length c.self.inside.chunks.items ≡ 0 = joined_none c.self.inside.chunks.items c.self.invariant (c.self.view_is ∙ e) in
      let none : vec_len c.self.inside.chunks ≡ 0 = omega (arith, z, c.self.inside.chunks.ok) in
      c.is_empty.ensures ∙ eq-eqb (vec_len c.self.inside.chunks) 0 none,
)
