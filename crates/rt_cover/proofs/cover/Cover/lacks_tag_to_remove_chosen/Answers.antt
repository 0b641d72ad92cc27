use Rattle.rt_cover.proofs.RefusalLaws.{remove_chosen}
use Rattle.rt_cover.proofs.cover.Cover.lacks_tag_to_remove_chosen.Goals as goal

pub returns-clause-removal : goal.returns-clause-removal
returns-clause-removal g c = λ numbers these.
    remove_chosen c.args.self.now (g.C.Choice.chosen c.args.choice.now) numbers _ these c.lacks_tag_to_end.ensures
