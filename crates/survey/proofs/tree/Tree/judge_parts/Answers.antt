use Rattle.std.proofs.Common.{◌≡◌, ℕ, ◌+◌, ◌<◌, true, false, length, take, sym, ap, ◌∙◌, ap₂, arith, rules}
use Rattle.std.proofs.lemmas.List.{take_all}
use Rattle.selfid.specs.Marks.{ups, downs, present}
use Rattle.survey.specs.Judging.{finished, judged_marks}
use Rattle.survey.proofs.Marking.{all_absent, one_there, ups_counted, downs_counted}
use Rattle.survey.proofs.Judges.{parts_empty, parts_told}
use Rattle.survey.proofs.tree.Tree.judge_parts.Goals as goal
use Rattle.survey.proofs.tree.Tree.judge_parts.Goals.{else-turn-gt0-via-then-turn-gt0+then-not-more+else-count-marks, else-turn-gt0-via-then-turn-gt0+else-not-more, else-turn-gt0-via-else-turn-gt0}

pub returns-then-count-marks : goal.returns-then-count-marks
returns-then-count-marks c =
    let n : c.args.number ≡ finished c.args.self.now = omega (arith, c.from.ensures) in
    let a = c.count.ensures.is_how_often_it_comes in
    record { is_the_first_flaw = parts_empty c.args.self.now c.args.number c.args.turn c.args.marks.now c.args.more n c.if-turn-self.false c.if-more.either c.if-turn-gt0.true c.if-not-more.true (all_absent c.args.marks.now (sym a ∙ c.if-count-marks.true)) }

pub returns : goal.returns
returns c =
    let t = c.args.self.now in
    let n : c.args.number ≡ finished t = omega (arith, c.from.ensures) in
    let whole : take (length t.marks.items) t.marks.items ≡ t.marks.items = take_all (length t.marks.items) t.marks.items (omega arith) in
    let before : c.count-2.result ≡ ups t.marks.items = search (rules, whole, ups_counted t.marks.items) in
    let u : c.count-2.result + c.count-3.result ≡ ups t.marks.items + ups c.args.marks.now =
    ap₂ (λ (a b : ℕ). a + b) before (c.count-3.ensures.is_how_often_it_comes ∙ ups_counted _) in
    let d : c.count-4.result + c.count-5.result ≡ downs t.marks.items + downs c.args.marks.now =
    ap₂ (λ (a b : ℕ). a + b) (c.count-4.ensures.is_how_often_it_comes ∙ downs_counted _ ∙ ap downs c.deref-2.ensures.0) (c.count-5.ensures.is_how_often_it_comes ∙ downs_counted _) in
    let some : 0 < c.args.turn → c.args.more ≡ false → present c.args.marks.now ≡ true =
    λ z m. elim c.else-turn-gt0.branch [
      | else-turn-gt0-via-then-turn-gt0+then-not-more+else-count-marks w ↦ one_there c.args.marks.now (λ e. w.if-count-marks.false (w.count.ensures.is_how_often_it_comes ∙ e))
      | else-turn-gt0-via-then-turn-gt0+else-not-more w ↦ cc
      | else-turn-gt0-via-else-turn-gt0 w ↦ absurd (omega (arith, z, w.if-turn-gt0.false))
    ] in
    record {
      is_the_first_flaw =
          c.judge_marks.ensures.is_the_first_flaw
          ∙ ap₂ (λ (a b : ℕ). judged_marks t a b c.args.turn c.args.more) u d
          ∙ sym (parts_told t c.args.number c.args.turn c.args.marks.now c.args.more n c.if-turn-self.false c.if-more.either some);
    }
