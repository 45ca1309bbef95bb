-- What contracts see of what is kept.
use Rattle.debug_session.specs.Sessions.{Desk}
use Rattle.debug_session.specs.declared.desk.Desk.TheInside.{Inside}

abbrev pub desk_of : Inside → Desk
desk_of d = record {
  looks = d.looks;
  moves = d.moves;
  breaks = d.breaks.items;
  watches = d.watches.items;
  told = d.told;
  acks = d.acks;
  last = d.last.items;
  goes_on = d.goes_on;
}
