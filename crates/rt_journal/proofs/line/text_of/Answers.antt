use Rattle.std.proofs.Common.{◌≡◌, Some, string_bytes, ap, subst}
use Rattle.std.proofs.lemmas.Str.{IsUtf8-string_bytes}
use Rattle.rt_journal.specs.Entries.{as_text}
use Rattle.rt_journal.proofs.Texts.{text_there}
use Rattle.rt_journal.proofs.line.text_of.Goals as goal

pub returns-in-Ok-clause-ok : goal.returns-in-Ok-clause-ok
returns-in-Ok-clause-ok c =
    let text = c.in-Ok.text in
    subst (λ b. as_text b ≡ Some (string_bytes text)) (ap (λ v. v.items) c.in-Ok.ensures.ok)
    (text_there (string_bytes text) (IsUtf8-string_bytes text))
