use Rattle.std.proofs.Common.{◌≡◌, ◌-◌, ◌<◌, ℕ, List, length, take, drop, sym, ap, ◌∙◌, arith}
use Rattle.std.proofs.lemmas.List.{take_rest, drop_all, drop-drop, length-drop, nil_from_length}
use Rattle.trace.specs.Lines.{is_word}
use Rattle.trace.proofs.Firsts.{first_word, cut_so}
use Rattle.trace.proofs.lines.cut_word.Goals as goal

pub split_at-requires : goal.split_at-requires
split_at-requires c = (first_word c.args.line.now c.requires.is_a_words_line).there

pub read_word-word-requires : goal.read_word-word-requires
read_word-word-requires c = record { are_eight_digits = ap is_word c.split_at.ensures.front ∙ (first_word c.args.line.now c.requires.is_a_words_line).word }

nothing_behind : (line behind : List ℕ) → behind ≡ drop 8 line → length behind < 1 → behind ≡ drop 9 line
nothing_behind line behind e h = nil_from_length behind (omega arith) ∙ sym (drop_all 9 line (omega (arith, ap length e, length-drop 8 line)))

pub returns-in-empty-clause-gives_the_first_word : goal.returns-in-empty-clause-gives_the_first_word
returns-in-empty-clause-gives_the_first_word c =
    (cut_so c.args.line.now c.split_at.result.0.now c.split_at.result.1.now c.read_word-word.result c.requires.is_a_words_line c.split_at.ensures.front c.read_word-word.ensures.is_their_value (nothing_behind c.args.line.now c.split_at.result.1.now c.split_at.ensures.back c.in-empty.len_below)).0

behind_the_space : (line behind : List ℕ) → behind ≡ drop 8 line → take (length behind - 1) (drop 1 behind) ≡ drop 9 line
behind_the_space line behind e = take_rest behind 1 ∙ ap (λ l. drop 1 l) e ∙ drop-drop 1 8 line

pub returns-in-len1-up : goal.returns-in-len1-up
returns-in-len1-up c =
    let cut = cut_so c.args.line.now c.split_at.result.0.now _ c.read_word-word.result c.requires.is_a_words_line c.split_at.ensures.front c.read_word-word.ensures.is_their_value (behind_the_space c.args.line.now c.split_at.result.1.now c.split_at.ensures.back) in
    record { gives_the_first_word = cut.0; leaves_the_others = cut.1 }
