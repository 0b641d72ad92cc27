use Rattle.std.proofs.Common.{sym, arith}
use Rattle.rt_tree.specs.PathTree.{length-strip, sub, put}
use Rattle.rt_writes.specs.Writes.{IsShallow}
use Rattle.rt_writes.specs.laws.ShallowLaws.{shallow-part, shallow-below}
use Rattle.rt_writes.proofs.Shallow.{if_ok}
use Rattle.rt_writes.proofs.entries.overlaid.Goals as goal

pub returns-in-Some-clause-shallow : goal.returns-in-Some-clause-shallow
returns-in-Some-clause-shallow c =
    if_ok (λ after. IsShallow (c.args.path.now, after)) (sub c.args.entry.now c.in-Some.rest.now)
    c.copy_part.result c.copy_part.ensures
    (shallow-part c.args.at.now c.args.path.now c.in-Some.rest.now c.args.entry.now
    (sym c.in-Some.ensures) (omega (arith, c.requires.tree)) c.requires.entry)

pub put_copy-requires-clause-short : goal.put_copy-requires-clause-short
put_copy-requires-clause-short c =
    let rest = c.in-Some-strip_prefix.rest.now in
    let split = length-strip c.args.path.now c.args.at.now rest (sym c.in-Some-strip_prefix.ensures) in
    omega (arith, split, c.keys-is_path.ensures.valid.short)

pub put_copy-requires-clause-shallow : goal.put_copy-requires-clause-shallow
put_copy-requires-clause-shallow c =
    let rest = c.in-Some-strip_prefix.rest.now in
    let split = length-strip c.args.path.now c.args.at.now rest (sym c.in-Some-strip_prefix.ensures) in
    omega (arith, split, c.requires.entry)

pub returns-clause-shallow : goal.returns-clause-shallow
returns-clause-shallow c =
    let rest = c.in-Some-strip_prefix.rest.now in
    if_ok (λ after. IsShallow (c.args.path.now, after)) (put c.args.tree rest c.args.entry.now)
    c.put_copy.result c.put_copy.ensures
    (shallow-below c.args.path.now c.args.at.now rest c.args.tree c.args.entry.now
    (sym c.in-Some-strip_prefix.ensures) c.requires.tree c.requires.entry)
