use Rattle.rt_emulate.proofs.calls.ask_hub.Goals as goal

pub returns : goal.returns
returns c = record {
  n = c.in_ok-connection.connection;
  taken = c.in_ok-taken.taken;
  begun = c.connect.new.self;
  done = c.take.new.self;
  handed = c.next-sent.new.self;
  connects = c.in_ok-connection.ensures.connected;
  takes = c.in_ok-taken.ensures.taken;
  is = c.in_ok-taken.ensures.answer;
  hands = c.next-sent.ensures.rest;
  first = c.next-sent.ensures.first;
  ends = c.in_ok-_was_last.ensures.made;
  mid = c.note.new.told.items;
  noted = c.in_ok-note.ensures;
  tells = c.in_ok-_was_last.ensures.told;
}
