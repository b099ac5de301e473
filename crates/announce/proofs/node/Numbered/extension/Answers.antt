use Rattle.std.proofs.Common.{◌+◌, ◌*◌, drop, sym, ap, ◌∙◌}
use Rattle.std.proofs.lemmas.List.{drop-drop}
use Rattle.selfid.specs.Marks.{present}
use Rattle.selfid.specs.Packets.{extension_word}
use Rattle.announce.proofs.Putting.{eight_taken}
use Rattle.announce.proofs.node.Numbered.extension.Goals as goal

pub returns : goal.returns
returns c =
    let n = c.args.self.now.number in
    let ms = c.args.self.now.node.marks in
    let first = 8 * c.args.turn + 3 in
    record {
      is_the_extension =
          c.encode.ensures.is_the_word
          ∙ eight_taken n c.args.turn first ms _ _ c.marks_from.ensures.are_the_marks
          ∙ ap (extension_word n c.args.turn (drop first ms)) (c.present_from.ensures.tells_if_one_is ∙ ap present (sym (drop-drop 8 first ms)));
    }
