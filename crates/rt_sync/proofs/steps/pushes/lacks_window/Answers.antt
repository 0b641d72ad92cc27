use Rattle.rt_sync.proofs.steps.pushes.lacks_window.Goals as goal

pub returns : goal.returns
returns c = c.lacks_window.ensures (c.args.entry.now).1
