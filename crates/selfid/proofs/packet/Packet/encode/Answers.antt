use Rattle.std.proofs.Common.{ap, ◌∙◌, rules}
use Rattle.selfid.specs.Reading.{packet_in}
use Rattle.selfid.proofs.Trips.{zero_trip, extension_trip}
use Rattle.selfid.proofs.packet.Packet.encode.Goals as goal

pub returns-in-Zero : goal.returns-in-Zero
returns-in-Zero c =
    record {
      is_the_word = search rules;
      decodes_to_itself_unless_reserved = rw c.in-Zero.is (ap packet_in c.encode_zero.ensures.is_the_word ∙ zero_trip c.in-Zero.packet (search rules));
    }

pub returns-in-Extension : goal.returns-in-Extension
returns-in-Extension c =
    record {
      is_the_word = search rules;
      decodes_to_itself_unless_reserved = rw c.in-Extension.is (ap packet_in c.encode_extension.ensures.is_the_word ∙ extension_trip c.in-Extension.packet (search rules));
    }
