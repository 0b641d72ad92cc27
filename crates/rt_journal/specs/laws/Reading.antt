-- What was written to a journal is read back.
use Rattle.std.specs.Prelude.{◌≡◌, ℕ, List, ◌++◌}
use Rattle.std.specs.List.{All}
use Rattle.rt_tree.specs.Trees.{PathTree}
use Rattle.rt_journal.specs.Entries.{Entry, HasNoFeed, IsEntry, journal_of}
use Rattle.rt_journal.specs.Replays.{after_entries, new_replay, replay_of}

-- the replay of what was written of entries, and of a part of a line, is those entries, one after another
abbrev pub ReadsBack : Type 0
ReadsBack = (tree : PathTree) (entries : List Entry) (torn : List ℕ) → All IsEntry entries → HasNoFeed torn
    → replay_of tree (journal_of entries ++ torn) ≡ after_entries (new_replay tree) entries
