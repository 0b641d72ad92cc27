-- A lane by what waits in it, and by the history of what was handed over.
use Rattle.std.specs.Prelude.{List, Option, Some}
use Rattle.rt_mail.specs.declared.item.Item.{Item}
use Rattle.rt_mail.specs.Mailbox.{Known, nothing_known, known_of}
use Rattle.rt_mail.specs.Lanes.{Line}

-- the mirror of all that was handed over, in order
abbrev pub mirror_of : List Item → Option Known
mirror_of handed = Some (known_of nothing_known handed)

abbrev pub line_of : List Item → List Item → Line
line_of waiting handed = record { waiting = waiting; mirror = mirror_of handed }
