-- How a call ends, as a number: include/kaltewi.h names them. Assumes nothing.
use Rattle.std.specs.Prelude.{ℕ}

-- the call is done
abbrev pub done : ℕ
done = 0

-- nothing is there to be taken
abbrev pub none : ℕ
none = 1

-- the step came too late, and has changed nothing
abbrev pub stale : ℕ
stale = 2

-- a text is longer than its room: nothing is written, and it is still to be had
abbrev pub too_small : ℕ
too_small = 3

-- the handle is closed, or another kind's
abbrev pub closed : ℕ
closed = 4

-- a growth was refused
abbrev pub no_memory : ℕ
no_memory = 5

-- the client has lacked memory before
abbrev pub failed : ℕ
failed = 6

-- no UTF-8, no JSON, or of another form than the call has
abbrev pub bad_text : ℕ
bad_text = 7

-- the client has no such seat
abbrev pub wrong_seat : ℕ
wrong_seat = 8

-- the seat's ring has no room
abbrev pub mailbox_full : ℕ
mailbox_full = 9

-- more seats than a client has
abbrev pub too_many_seats : ℕ
too_many_seats = 10

-- a layer refuses
abbrev pub refused : ℕ
refused = 11
