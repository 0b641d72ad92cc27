-- The names of a place.
use Rattle.std.specs.Prelude.{string_bytes}
use Rattle.rt_journal.specs.Journals.{Names}
use Rattle.rt_journal.specs.declared.file.TreeFiles.{TreeFiles}

-- as texts
abbrev pub names_in : TreeFiles → Names
names_in p = record {
  file = string_bytes p.file;
  log = string_bytes p.log;
  new = string_bytes p.new;
}
