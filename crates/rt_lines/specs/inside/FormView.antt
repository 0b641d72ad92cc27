-- Forms and calls of the code, whose words are lent, as forms and calls.
use Rattle.std.specs.Prelude.{ℕ, List, map, option_map}
use Rattle.serde_json.specs.Data.{Data, Members}
use Rattle.serde_json.specs.View.{view, members_view}
use Rattle.serde_json.specs.declared.value.Value.{Value}
use Rattle.rt_lines.specs.declared.call.QueryCall.{QueryCall as CodeCall}
use Rattle.rt_lines.specs.declared.call.QueryCall.TheVariants as call_code
use Rattle.rt_lines.specs.declared.form.LineForm.{LineForm as CodeForm}
use Rattle.rt_lines.specs.declared.form.LineForm.TheVariants as form_code
use Rattle.rt_lines.specs.declared.form.PartWords.{PartWords}
use Rattle.rt_lines.specs.declared.form.Written.{Written as CodeWritten}
use Rattle.rt_lines.specs.declared.form.Written.TheVariants as written_code
use Rattle.rt_lines.specs.Calls.{QueryCall}
use Rattle.rt_lines.specs.Calls as call
use Rattle.rt_lines.specs.Forms.{LineForm, Written}
use Rattle.rt_lines.specs.Forms as form

abbrev pub as_call : CodeCall → QueryCall
as_call call_code.OrderByKey = call.OrderByKey
as_call call_code.OrderByValue = call.OrderByValue
as_call (call_code.OrderByChild path) = call.OrderByChild path.now
as_call (call_code.LimitToFirst n) = call.LimitToFirst n
as_call (call_code.LimitToLast n) = call.LimitToLast n
as_call (call_code.Bound bound value key) =
    call.Bound bound (view value.now) (option_map (λ k. k.now) key)

abbrev pub as_calls : List CodeCall → List QueryCall
as_calls calls = map as_call calls

abbrev pub as_written : CodeWritten → Written
as_written (written_code.Set path value) = form.Set path.now (view value.now)
as_written (written_code.Update entries) = form.Update (members_view entries.now.entries)
as_written (written_code.Remove path) = form.Remove path.now

abbrev pub as_part : PartWords → ℕ × Members
as_part part = (part.tag, members_view part.entries.now.entries)

abbrev pub as_parts : List PartWords → List (ℕ × Members)
as_parts parts = map as_part parts

abbrev pub as_form : CodeForm → LineForm
as_form (form_code.Listen seat path calls) = form.Listen seat path.now (as_calls calls.items)
as_form (form_code.Unlisten seat listener) = form.Unlisten seat listener
as_form (form_code.Write seat written) = form.Write seat (as_written written)
as_form (form_code.OnDisconnect seat written) = form.OnDisconnect seat (as_written written)
as_form (form_code.CancelDisconnect seat path) = form.CancelDisconnect seat path.now
as_form (form_code.Close seat) = form.Close seat
as_form (form_code.Data tag path value) = form.Data tag path.now (view value.now)
as_form (form_code.Merge tag entries) = form.Merge tag (members_view entries.now.entries)
as_form (form_code.Parts parts) = form.Parts (as_parts parts.items)
as_form (form_code.Accepted id) = form.Accepted id
as_form (form_code.Refused id why) = form.Refused id why.now
as_form (form_code.Revoked tag why) = form.Revoked tag why.now
as_form (form_code.Server text) = form.Server text.now
as_form form_code.Connected = form.Connected
as_form form_code.Disconnected = form.Disconnected
as_form form_code.Out = form.Out
as_form form_code.Cover = form.Cover
as_form (form_code.View listener) = form.View listener
as_form (form_code.Push now random) = form.Push now random

-- the data of each value
abbrev pub views : List Value → List Data
views values = map view values
