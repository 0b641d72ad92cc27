-- What is printed of a client, in the words of rt_lines.
use Rattle.std.specs.Prelude.{ℕ, List, [], codes}
use Rattle.std.specs.List.{flat_map}
use Rattle.rt_mail.specs.declared.item.Item.{Item}
use Rattle.rt_mail.specs.declared.item.Item.TheVariants as item
use Rattle.rt_world.specs.declared.report.Body.TheVariants as body
use Rattle.rt_lines.specs.Printing.{batch_text, body_text, refused_line}
use Rattle.rt_lines.specs.Printing as lines
use Rattle.rt_lines.specs.declared.error.Refusal.TheVariants.{Core}
use Rattle.rt_client.specs.Codes.{code_of, name_of}
use Rattle.rt_client.specs.declared.error.ClientError.{ClientError}
use Rattle.rt_client.specs.declared.error.ClientError.TheVariants as error

-- what a seat is told; a receipt prints nothing
abbrev pub item_text : Item → List ℕ
item_text (item.Receipt receipt) = []
item_text (item.Batch batch) = batch_text batch
item_text (item.Settled id why) = body_text (body.Settled id why)
item_text (item.Cancelled listener why) = body_text (body.Cancelled listener why)

-- all that a seat is told, in order
abbrev pub items_text : List Item → List ℕ
items_text items = flat_map item_text items

-- the client itself refuses a call
abbrev pub own_refusal : ClientError → List ℕ
own_refusal why = refused_line (codes "client") (code_of why) (name_of why)

-- why a call is refused: by the core, or by the client; want of memory is not printed
abbrev pub refusal_text : ClientError → List ℕ
refusal_text (error.Core refused) = lines.refusal_text (Core refused)
refusal_text error.Failed = own_refusal error.Failed
refusal_text error.WrongSeat = own_refusal error.WrongSeat
refusal_text error.MailboxFull = own_refusal error.MailboxFull
refusal_text error.TooManySeats = own_refusal error.TooManySeats
refusal_text error.NoMemory = []
