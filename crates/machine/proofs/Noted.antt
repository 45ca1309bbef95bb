-- A machine whose notes were changed stands for the state with these.
use Rattle.std.proofs.Common.{List, ap}
use Rattle.sv_types.specs.declared.event.Note.{Note}
use Rattle.spec_reference.specs.Soundness.{IsSound}
use Rattle.spec_reference.specs.States.{State}
use Rattle.spec_hardware.specs.Machine.{Machine}
use Rattle.spec_hardware.specs.StandsFor.{StandsFor, Unseen, IsRightFor, machine_of}
use Rattle.machine.specs.Noting.{noting, hw_noting}

noted_sound : (notes : List Note) (r : State) → IsSound r → IsSound (noting notes r)
noted_sound notes r s = record {
  within = s.within;
  words = s.words;
  number = s.number;
  harts = s.harts;
  size = s.size;
  text = s.text;
  ascends = s.ascends;
  modules = s.modules;
  load = s.load;
  pages = s.pages;
  disk = s.disk;
}

noted_right : (notes : List Note) (o : Unseen) (r : State) → IsRightFor o r → IsRightFor o (noting notes r)
noted_right notes o r i = record { views = i.views; region = i.region; exits = i.exits; cleared = i.cleared }

pub noted_stands : (notes : List Note) (m : Machine) (r : State) → StandsFor m r → StandsFor (hw_noting notes m) (noting notes r)
unfolding machine_of
noted_stands notes m r s = record {
  unseen = s.unseen;
  same = ap (hw_noting notes) s.same;
  unseen_is_right = noted_right notes s.unseen r s.unseen_is_right;
  sound = noted_sound notes r s.sound;
}
