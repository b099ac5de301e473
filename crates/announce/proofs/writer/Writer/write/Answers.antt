use Rattle.std.proofs.Common.{◌+◌, set, refl, ap, ◌∙◌}
use Rattle.selfid.specs.Packets.{inverse_of}
use Rattle.announce.proofs.Putting.{put_two}
use Rattle.announce.proofs.writer.Writer.write.Goals as goal

pub returns : goal.returns
returns c =
    let row = c.args.self.now.words.now in
    let at = c.args.self.now.at in
    record {
      writes_both =
          record {
            same_row = refl;
            behind = refl;
            written = ap (λ q. set (set row at c.args.packet) (at + 1) q) c.inverse.ensures.is_the_bitwise_inverse ∙ put_two row at c.args.packet (inverse_of c.args.packet) c.requires.there_is_room;
          };
    }
