-- A mirror is what it knows; none once it has lacked memory.
use Rattle.std.specs.Prelude.{◌≡◌, ℕ, Bool, not, List, [], map, Option, Some, None, is_some, IsTrue}
use Rattle.std.specs.Prelude.{Ok, Err, Result}
use Rattle.std.specs.Option.{option_map_or, option_and_then}
use Rattle.rt_mail.specs.declared.error.MailError.{MailError}
use Rattle.rt_mail.specs.declared.error.MailError.TheVariants.{Failed, NoMemory}
use Rattle.rt_mail.specs.declared.item.Item.{Item}
use Rattle.rt_mail.specs.Mailbox.{Children, Known, taken, children_of}

-- whether it has lacked memory
abbrev pub has_failed : Option Known → Bool
has_failed m = not (is_some m)

-- the item is taken; or memory lacks, and the mirror has failed; one that has failed says so
abbrev pub Takes : Option Known → Item → Result Unit MailError → Option Known → Type 0
Takes old item (Ok done) new = (m : Known) × (old ≡ Some m) × (new ≡ Some (taken m item))
Takes old item (Err Failed) new = (old ≡ None) × (new ≡ None)
Takes old item (Err NoMemory) new = IsTrue (is_some old) × (new ≡ None)

-- the children of a listener
abbrev pub children_in : Option Known → ℕ → Option Children
children_in m n = option_and_then (λ k. children_of k n) m

-- the numbers of the listeners
abbrev pub listeners_in : Option Known → List ℕ
listeners_in m = option_map_or (λ k. map (λ l. l.0) k.listeners) m []

-- the numbers of the requests
abbrev pub requests_in : Option Known → List ℕ
requests_in m = option_map_or (λ k. k.requests) m []
