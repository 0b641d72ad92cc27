use Rattle.std.proofs.Common.{List, ℕ}
use Rattle.rt_sync.specs.Core.{world_in}
use Rattle.rt_lines.specs.inside.Appending.{Appends}
use Rattle.rt_script.proofs.Doings.{refused_by}
use Rattle.rt_script.proofs.line.make_step.Goals as goal

pub returns-in-Err-clause-printed : goal.returns-in-Err-clause-printed
returns-in-Err-clause-printed c =
    let P : List ℕ → Type 0 = λ t. Appends c.args.out.now c.refuse.new.out t in
    refused_by c.refuse.result c.args.step (world_in c.args.core.now) (world_in c.apply.new.self) c.in-Err.error P c.in-Err.ensures.made c.refuse.ensures.memory c.refuse.ensures.printed
