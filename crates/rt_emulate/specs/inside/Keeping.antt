-- What is noted of requests that were accepted, and of connections that end; why nothing can be.
use Rattle.std.specs.Prelude.{ℕ, List, [], ◌∷◌, string_bytes, Option, Some, None}
use Rattle.rt_hub.specs.declared.refusal.When.{When}
use Rattle.rt_hub.specs.declared.refusal.When.TheVariants.{Now, AtEnd}
use Rattle.rt_journal.specs.Books.{with_end, with_request, with_turn}
use Rattle.rt_journal.specs.Journals.{Journal}
use Rattle.rt_journal.specs.declared.book.Noted.{Noted}
use Rattle.rt_journal.specs.declared.book.Noted.TheVariants as note
use Rattle.rt_hub.specs.declared.hub.Accepted.{Accepted}
use Rattle.rt_journal.specs.declared.fault.JournalFault.{JournalFault}
use Rattle.rt_emulate.specs.Faults.{of_journal}
use Rattle.rt_emulate.specs.declared.fault.EmulateFault.{EmulateFault}
use Rattle.rt_emulate.specs.declared.fault.EmulateFault.TheVariants as emulate
use Rattle.rt_emulate.specs.declared.settings.Halt.{Halt}
use Rattle.rt_emulate.specs.declared.settings.Halt.TheVariants as halt

abbrev pub noted_of : When → Noted
noted_of Now = note.Write
noted_of AtEnd = note.AtEnd

abbrev pub note_one : ℕ → Accepted → Journal → Journal
note_one n a j = record j { book = with_request j.book n (noted_of a.when) (string_bytes a.text) }

-- each of them is noted as one of that connection, in order
abbrev pub note_all : ℕ → List Accepted → Journal → Journal
note_all n [] j = j
note_all n (a ∷ all) j = note_all n all (note_one n a j)

-- a request of that connection is noted
abbrev pub note_text : ℕ → When → List ℕ → Journal → Journal
note_text n when text j = record j { book = with_request j.book n (noted_of when) text }

abbrev pub note_turn : ℕ → ℕ → Journal → Journal
note_turn n count j = record j { book = with_turn j.book n count }

abbrev pub note_end : ℕ → Journal → Journal
note_end n j = record j { book = with_end j.book n }

-- why turns ended early, as it is said, where a fault was kept
abbrev pub fault_by : Halt → Option JournalFault → EmulateFault
fault_by halt.NoMemory fault = emulate.NoMemory
fault_by halt.Unkept None = emulate.NoMemory
fault_by halt.Unkept (Some fault) = of_journal fault
