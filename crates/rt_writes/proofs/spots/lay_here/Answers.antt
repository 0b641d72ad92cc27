use Rattle.std.proofs.Common.{◌≡◌, true, sym, subst, rules}
use Rattle.std.proofs.lemmas.Result.{IfOk-weaker}
use Rattle.std.specs.List.{fold}
use Rattle.rt_tree.specs.PathTree.{Path}
use Rattle.rt_writes.specs.Writes.{overlaid}
use Rattle.rt_writes.specs.inside.ByNumber.{writes_of}
use Rattle.rt_writes.specs.inside.Spots.{AreApart, IsMergedAt, SetsAt, Laid, is_later, marked}
use Rattle.rt_writes.proofs.NumberLaws.{rising_of}
use Rattle.rt_writes.proofs.LayLaws.{sets_one, no_entry, full_leaf, shallow_entry, touched_by}
use Rattle.rt_writes.proofs.spots.lay_here.Goals as goal

pub lay_entry-requires-clause-entry : goal.lay_entry-requires-clause-entry
lay_entry-requires-clause-entry c =
    shallow_entry (writes_of c.args.writes.now) c.in-Some.number c.in-Some-get.place.now c.in-Some-entry_of.entry.now c.requires.kept.shallow (sym c.in-Some-entry_of.ensures)

pub returns-in-Some-entry_of-clause-laid : goal.returns-in-Some-entry_of-clause-laid
returns-in-Some-entry_of-clause-laid c =
    let later : is_later c.args.last c.in-Some.number ≡ true = search rules in
    IfOk-weaker c.lay_entry.result
    (λ done. done ≡ fold (overlaid c.args.path.now) c.args.tree (marked c.has_full_after.result c.in-Some-entry_of.entry.now))
    (λ done. (x : Path) → AreApart (writes_of c.args.writes.now) → IsMergedAt (writes_of c.args.writes.now) x c.args.spot.now → Laid (SetsAt (writes_of c.args.writes.now) x c.args.last c.args.here) c.args.path.now c.args.tree done)
    (λ done e x apart m. (
      marked c.has_full_after.result c.in-Some-entry_of.entry.now,
      e,
      subst (λ h. SetsAt (writes_of c.args.writes.now) x c.args.last h (marked c.has_full_after.result c.in-Some-entry_of.entry.now)) (sym c.in-Some.is)
          (sets_one (writes_of c.args.writes.now) x c.args.spot.now c.args.last c.in-Some.number c.in-Some-get.place.now c.in-Some-entry_of.entry.now c.has_full_after.result full_leaf
          (rising_of (writes_of c.args.writes.now) c.requires.kept.rises) apart m later (sym c.in-Some-get.ensures.value) (sym c.in-Some-entry_of.ensures) c.has_full_after.ensures),
    ))
    c.lay_entry.ensures.laid

pub returns-in-None-clause-laid : goal.returns-in-None-clause-laid
returns-in-None-clause-laid c = λ x apart m.
    absurd (no_entry (writes_of c.args.writes.now) x c.args.spot.now c.in-Some.number c.in-Some-get.place.now (rising_of (writes_of c.args.writes.now) c.requires.kept.rises) m
    (sym c.in-Some-get.ensures.value) (sym c.in-None.ensures))

pub returns-in-Some-entry_of-clause-touched : goal.returns-in-Some-entry_of-clause-touched
returns-in-Some-entry_of-clause-touched c =
    touched_by c.lay_entry.result (writes_of c.args.writes.now) c.args.path.now c.in-Some.number c.in-Some-get.place.now c.in-Some-entry_of.entry.now (sym c.in-Some-entry_of.ensures) c.lay_entry.ensures.touched
