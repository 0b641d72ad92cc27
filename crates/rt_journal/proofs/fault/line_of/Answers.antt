use Rattle.std.proofs.Common.{◌≡◌, ◌∙◌, ap, subst, sym}
use Rattle.std.specs.Prelude.{codes, IfOk, string_bytes}
use Rattle.rt_journal.specs.Journals.{notice_text}
use Rattle.rt_journal.specs.inside.Places.{names_in}
use Rattle.rt_journal.proofs.Noticed.{with_names}
use Rattle.rt_journal.proofs.fault.line_of.Goals as goal

pub returns-in-Foreign : goal.returns-in-Foreign
returns-in-Foreign c =
    subst (λ t. IfOk c.format-in-Foreign.result (λ line. string_bytes line ≡ t))
    (with_names (codes "the tree's file ") c.as_str-file.result.now (string_bytes c.args.place.now.file)
    (codes " was changed by another program: the tree stands in ") c.as_str-new.result.now
    (string_bytes c.args.place.now.new) c.as_str-file.ensures.value c.as_str-new.ensures.value
    ∙ ap (λ n. notice_text n (names_in c.args.place.now)) (sym c.in-Foreign.is))
    c.format-in-Foreign.ensures.ok

pub returns-in-NotMade : goal.returns-in-NotMade
returns-in-NotMade c =
    subst (λ t. IfOk c.format-in-NotMade.result (λ line. string_bytes line ≡ t))
    (with_names (codes "the tree's file ") c.as_str-file.result.now (string_bytes c.args.place.now.file)
    (codes " can't be written for now: what is written stands in ") c.as_str-log.result.now
    (string_bytes c.args.place.now.log) c.as_str-file.ensures.value c.as_str-log.ensures.value
    ∙ ap (λ n. notice_text n (names_in c.args.place.now)) (sym c.in-NotMade.is))
    c.format-in-NotMade.ensures.ok
