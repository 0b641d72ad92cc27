-- What a journal is to a contract, and what is said of its tree's file.
use Rattle.std.specs.Prelude.{◌≡◌, ℕ, List, [], ◌∷◌, ◌++◌, Bool, true, codes}
use Rattle.rt_journal.specs.Books.{Book}
use Rattle.rt_journal.specs.Due.{Standing}
use Rattle.rt_journal.specs.declared.fault.Notice.{Notice}
use Rattle.rt_journal.specs.declared.fault.Notice.TheVariants.{TornLine, Foreign, NotMade}

-- the names of a tree's file, of its journal, and of where the tree goes if another program changed the file
pub record Names : Type 0 where
  pub file : List ℕ
  pub log : List ℕ
  pub new : List ℕ

-- those of that file
abbrev pub names_of : List ℕ → Names
names_of file = record { file = file; log = file ++ codes ".log"; new = file ++ codes ".new" }

-- what is noted, the names of the files, and what stands of the tree's file
pub record Journal : Type 0 where
  pub book : Book
  pub names : Names
  pub standing : Standing

-- lines that are written say of the tree what its file doesn't
abbrev pub changed_by : List ℕ → Bool → Bool
changed_by [] was = was
changed_by (b ∷ bs) was = true

-- what is noted is written
abbrev pub appended : Journal → Journal
appended j = record j {
  book = record j.book { lines = [] };
  standing = record j.standing { is_changed = changed_by j.book.lines j.standing.is_changed };
}

-- what is noted stays, and so do the names
abbrev pub KeepsNotes : Journal → Journal → Type 0
KeepsNotes old new = (new.book ≡ old.book) × (new.names ≡ old.names)

-- what is said of a tree's file, in one line
abbrev pub notice_text : Notice → Names → List ℕ
notice_text TornLine n = codes "the last line of " ++ n.log ++ codes " was torn, and is passed over"
notice_text Foreign n =
    codes "the tree's file " ++ n.file
    ++ codes " was changed by another program: the tree stands in " ++ n.new
notice_text NotMade n =
    codes "the tree's file " ++ n.file ++ codes " can't be written for now: what is written stands in "
    ++ n.log
